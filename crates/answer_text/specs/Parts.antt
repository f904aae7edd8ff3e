-- The texts of parts of blocks.
use Rattle.std.specs.Prelude.{ℕ, List, ◌++◌, codes, decimal}
use Rattle.lf_definitions.specs.Syntax.{LfTerm}
use Rattle.lf_definitions.specs.Signatures.{LfSignature}
use Rattle.file_print.specs.Texts.{term_text}
use Rattle.answer_text.specs.Texts.{line}

-- a number that comes after others
abbrev pub other_text : ℕ → List ℕ
other_text n = codes "," ++ decimal n

-- the line of a closed term
abbrev pub term_line : LfSignature → LfTerm → List ℕ
term_line sig t = line (codes "term " ++ term_text sig 0 t)
