use Rattle.std.proofs.Common.{take}
use Rattle.file_syntax.proofs.Outcomes.{ReadSoFar}
use Rattle.file_syntax.proofs.parsing.parse_tokens.Given as goal

abbrev pub invariant-loop-token : goal.invariant-loop-token
invariant-loop-token l = ReadSoFar l.bytes (take l.token-index l.tokens) l.state l.nesting
