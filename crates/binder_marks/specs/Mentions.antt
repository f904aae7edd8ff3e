-- Whether a variable occurs, as a truth value, and which binders of a type occur in the rest of it.
use Rattle.std.specs.Prelude.{◌↔◌, ℕ, List, [], ◌∷◌, Bool, IsTrue}
use Rattle.lf_definitions.specs.Syntax.{LfHead, bound, LfTerm, Spine, LfType, pi, family}
use Rattle.lf_definitions.specs.Occurrence.{OccursType}
use Rattle.head_laws.specs.Mentions.{same_head, occurs_in, occurs_in_spine, occurs_in_type}

abbrev pub is_variable : ℕ → LfHead → Bool
is_variable n = same_head (bound n)

abbrev pub mentions_in_term : ℕ → LfTerm → Bool
mentions_in_term n = occurs_in (bound n)

abbrev pub mentions_in_spine : ℕ → Spine → Bool
mentions_in_spine n = occurs_in_spine (bound n)

abbrev pub mentions : ℕ → LfType → Bool
mentions n = occurs_in_type (bound n)

-- For each binder of a type, in order, whether it occurs in a later binder or in the conclusion.
pub data AreMentions : LfType → List Bool → Type 0 where
  mentions_nothing : (f : ℕ) (args : Spine) → AreMentions (family f args) []
  mentions_binder : (a b : LfType) (mark : Bool) (marks : List Bool) → (IsTrue mark ↔ OccursType 0 b) → AreMentions b marks → AreMentions (pi a b) (mark ∷ marks)
