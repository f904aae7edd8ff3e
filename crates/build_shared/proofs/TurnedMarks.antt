-- The premises of a type are the binders that are not mentioned.
use Rattle.std.proofs.Common.{◌≡◌, ◌↔◌, Bool, true, false, not, IsTrue, List, ◌∷◌, map, refl, sym, ap₂}
use Rattle.std.proofs.lemmas.Bool.{false_from_ne_true}
use Rattle.lf_definitions.specs.Syntax.{bound, LfType}
use Rattle.lf_definitions.specs.Occurrence.{OccursType}
use Rattle.head_laws.specs.Mentions.{occurs_in_type}
use Rattle.head_laws.proofs.Occurrence.{OccursInType-true, occurs_in_type-from}
use Rattle.binder_marks.specs.Mentions.{AreMentions, mentions_nothing, mentions_binder}
use Rattle.applications.specs.Candidates.{premise_marks}

mark_is : (b : LfType) (mark : Bool) → IsTrue mark ↔ OccursType 0 b → mark ≡ occurs_in_type (bound 0) b
mark_is b true says = sym (occurs_in_type-from (says.0 refl))
mark_is b false says = sym (false_from_ne_true _ (λ here. unmarked (says.1 (OccursInType-true (bound 0) b here))))
  where
    unmarked : false ≡ true → ⊥
    unmarked e = absurd cc

pub turned : (a : LfType) (marks : List Bool) → AreMentions a marks → map not marks ≡ premise_marks a
turned _ _ (mentions_nothing f args) = refl
turned _ _ (mentions_binder a b mark marks says more) = ap₂ (λ m ms. not m ∷ ms) (mark_is b mark says) (turned b marks more)
