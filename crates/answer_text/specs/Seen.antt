-- Blocks of the code, seen as plain data.
use Rattle.std.specs.Prelude.{map, option_map}
use Rattle.lf_terms.specs.Terms.{term_of}
use Rattle.proof_replay.specs.Seen.{seen_step}
use Rattle.answer_definitions.specs.Blocks.{LfVerdict, proved, stuck, spent, LfBlock}
use Rattle.answer_text.specs.declared.block.Verdict.{Verdict}
use Rattle.answer_text.specs.declared.block.Verdict.TheVariants.{Proved, Stuck, Spent}
use Rattle.answer_text.specs.declared.block.Block.{Block}

abbrev pub seen_verdict : Verdict → LfVerdict
seen_verdict (Proved t script) = proved (term_of t) (map seen_step script.items)
seen_verdict Stuck = stuck
seen_verdict Spent = spent

abbrev pub seen_block : Block → LfBlock
seen_block block = record { name = block.name; verdict = seen_verdict block.verdict; events = option_map (λ journal. journal.events) block.events }
