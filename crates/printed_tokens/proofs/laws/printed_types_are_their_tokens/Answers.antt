use Rattle.std.proofs.Common.{sym}
use Rattle.printed_tokens.proofs.PieceTexts.{type_text-pieces}
use Rattle.printed_tokens.proofs.Spelling.{tokens_printed}
use Rattle.printed_tokens.proofs.laws.printed_types_are_their_tokens.Goals as goal

pub returns : goal.returns
returns c sig a named printable = (sym (type_text-pieces sig 0 a), tokens_printed sig a named printable)
