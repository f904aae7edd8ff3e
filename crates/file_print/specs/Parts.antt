-- The texts of the parts of terms and types.
use Rattle.std.specs.Prelude.{ℕ, List, ◌++◌, codes, Bool, if◌then◌else◌}
use Rattle.lf_definitions.specs.Syntax.{LfTerm, LfType}
use Rattle.lf_definitions.specs.Signatures.{LfSignature}
use Rattle.file_print.specs.Texts.{variable_text, in_parentheses, is_name, term_text, has_binders, type_text}

-- the variable of an abstraction, before its body
abbrev pub abstracted_text : ℕ → List ℕ
abstracted_text depth = codes "[" ++ variable_text depth ++ codes "] "

-- an argument, after its head
abbrev pub argument_text : LfSignature → ℕ → LfTerm → List ℕ
argument_text sig depth t = codes " " ++ (if is_name t then term_text sig depth t else in_parentheses (term_text sig depth t))

-- the left side of an arrow
abbrev pub left_text : LfSignature → ℕ → LfType → List ℕ
left_text sig depth a = if has_binders a then in_parentheses (type_text sig depth a) else type_text sig depth a

-- a binder, before the rest of its type, by whether the rest mentions it
abbrev pub binder_text : LfSignature → ℕ → Bool → LfType → List ℕ
binder_text sig depth mentioned a =
    if mentioned then codes "{" ++ variable_text depth ++ codes ":" ++ type_text sig depth a ++ codes "} " else left_text sig depth a ++ codes " -> "
