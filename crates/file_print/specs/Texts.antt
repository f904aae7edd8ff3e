-- The texts of terms and types, by the names of a signature.
use Rattle.std.specs.Prelude.{ℕ, suc, ◌-◌, List, [], ◌++◌, codes, decimal, Bool, true, false, if◌then◌else◌}
use Rattle.lf_definitions.specs.Syntax.{LfHead, bound, constant, metavariable, LfTerm, lam, at, Spine, no_args, arg, LfType, pi, family}
use Rattle.lf_definitions.specs.Signatures.{LfSignature, constant_names, family_names, name_at}
use Rattle.binder_marks.specs.Mentions.{mentions}

-- a variable that is bound under so many binders
abbrev pub variable_text : ℕ → List ℕ
variable_text count = codes "_" ++ decimal count

-- the head of a spine that stands under `depth` binders
abbrev pub head_text : LfSignature → ℕ → LfHead → List ℕ
head_text sig depth (bound n) = variable_text (depth - suc n)
head_text sig depth (constant c) = name_at (constant_names sig) c
head_text sig depth (metavariable g) = []

abbrev pub in_parentheses : List ℕ → List ℕ
in_parentheses text = codes "(" ++ text ++ codes ")"

-- a head without arguments
abbrev pub is_name : LfTerm → Bool
is_name (lam b) = false
is_name (at h no_args) = true
is_name (at h (arg t ts)) = false

-- An abstraction is its variable in brackets, a space and its body. A spine is its head followed, for each argument, by a space and the
-- argument, which stands in parentheses unless it is a head without arguments.
abbrev mutual
  pub term_text : LfSignature → ℕ → LfTerm → List ℕ
  term_text sig depth (lam b) = codes "[" ++ variable_text depth ++ codes "] " ++ term_text sig (suc depth) b
  term_text sig depth (at h args) = head_text sig depth h ++ args_text sig depth args

  pub args_text : LfSignature → ℕ → Spine → List ℕ
  args_text sig depth no_args = []
  args_text sig depth (arg t ts) =
      codes " " ++ (if is_name t then term_text sig depth t else in_parentheses (term_text sig depth t)) ++ args_text sig depth ts

abbrev pub has_binders : LfType → Bool
has_binders (pi a b) = true
has_binders (family f args) = false

-- A binder that the rest mentions stands in braces with its variable. Any other is the left side of an arrow, in parentheses where it has
-- binders. Both count as binders around the rest.
abbrev pub type_text : LfSignature → ℕ → LfType → List ℕ
type_text sig depth (pi a b) =
    (if mentions 0 b then codes "{" ++ variable_text depth ++ codes ":" ++ type_text sig depth a ++ codes "} "
    else (if has_binders a then in_parentheses (type_text sig depth a) else type_text sig depth a) ++ codes " -> ")
    ++ type_text sig (suc depth) b
type_text sig depth (family f args) = name_at (family_names sig) f ++ args_text sig depth args
