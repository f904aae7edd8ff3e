-- What a check answers.
use Rattle.std.specs.Prelude.{ℕ, List, Option, Some, None, reverse}
use Rattle.lf_definitions.specs.Syntax.{LfTerm, LfType, LfKind}
use Rattle.lf_definitions.specs.Typing.{Typing, Typed, Kinds, Formed, FormedKind}
use Rattle.lf_definitions.specs.Failures.{FailsTerm, FailsType, FailsKind}
use Rattle.lf_kernel.specs.declared.answer.Check.{Check}
use Rattle.lf_kernel.specs.declared.answer.Check.TheVariants.{Well, Ill}

-- of a term at a type
abbrev pub Checks : Typing → LfTerm → LfType → Check → Type 0
Checks Γ t a Well = Typed Γ t a
Checks Γ t a (Ill path) = FailsTerm Γ t a path

-- of a type
abbrev pub ChecksType : Kinds → Typing → LfType → Check → Type 0
ChecksType kinds Γ a Well = Formed kinds Γ a
ChecksType kinds Γ a (Ill path) = FailsType kinds Γ a path

-- of a kind
abbrev pub ChecksKind : Kinds → Typing → LfKind → Check → Type 0
ChecksKind kinds Γ kind Well = FormedKind kinds Γ kind
ChecksKind kinds Γ kind (Ill path) = FailsKind kinds Γ kind path

-- A walk finds that something holds, or the path at which it fails, from its last step to its first.
abbrev pub Walks : Type 0 → (List ℕ → Type 0) → Option (List ℕ) → Type 0
Walks holds fails None = holds
Walks holds fails (Some path) = fails (reverse path)

abbrev pub answer : Option (List ℕ) → Check
answer None = Well
answer (Some path) = Ill (reverse path)
