-- What is put for goals, by entries that know the shapes of their goals' contexts.
use Rattle.std.specs.Prelude.{ℕ, List, [], ◌∷◌, map, length, Option, Some, None, if◌then◌else◌, nat_eq}
use Rattle.std.specs.Coded.{Coded, code_by, coded×, coded_ℕ, coded_list}
use mathlib.Core.Path.{refl}
use Rattle.lf_definitions.specs.Syntax.{LfTerm, SimpleType}
use Rattle.lf_definitions.specs.Codes.{shapes_code, term_code}
use Rattle.lf_definitions.specs.Instantiation.{Assignment, LfAssigned, assignment_of}

-- The number of a goal, the shapes of the entries of its context, and a body in that context.
pub record LfBinding : Type 0 where
  pub number : ℕ
  pub shapes : List SimpleType
  pub bound_body : LfTerm

-- as an entry that knows no more than how many entries the context has
abbrev pub assigned_of : LfBinding → LfAssigned
assigned_of b = record { assigned_goal = b.number; binders_count = length b.shapes; body = b.bound_body }

-- the assignment that bindings make up
abbrev pub assigning : List LfBinding → Assignment
assigning bindings = assignment_of (map assigned_of bindings)

-- the first binding of a number
abbrev pub binding_for : List LfBinding → ℕ → Option LfBinding
binding_for [] g = None
binding_for (b ∷ rest) g = if nat_eq b.number g then Some b else binding_for rest g

-- Bindings with one more, in the place of the one that the number has, if it has one, and else at the end.
abbrev pub bound_again : List LfBinding → LfBinding → List LfBinding
bound_again [] b = b ∷ []
bound_again (c ∷ rest) b = if nat_eq c.number b.number then b ∷ rest else c ∷ bound_again rest b

-- A proof tells lists of bindings apart by their parts.
abbrev BindingParts : Type 0
BindingParts = ℕ × (List SimpleType × LfTerm)

abbrev pub bindings_code : Coded (List LfBinding)
bindings_code =
    coded_list (code_by BindingParts (coded× coded_ℕ (coded× shapes_code term_code)) (λ b. (b.number, (b.shapes, b.bound_body)))
    (λ p. record { number = p.0; shapes = p.1.0; bound_body = p.1.1 }) (λ _. refl))
