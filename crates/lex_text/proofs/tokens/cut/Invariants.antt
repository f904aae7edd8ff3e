use Rattle.std.proofs.Common.{◌-◌, length}
use Rattle.lex_text.proofs.Cutting.{Cutting}
use Rattle.lex_text.proofs.tokens.cut.Given as goal

abbrev pub invariant-loop-place : goal.invariant-loop-place
invariant-loop-place l = Cutting l.text l.items l.place

abbrev pub decreases-loop-place : goal.decreases-loop-place
decreases-loop-place l = length l.bytes - l.place
