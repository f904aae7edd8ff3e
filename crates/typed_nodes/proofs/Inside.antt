-- Goals that mention none outside are well formed by themselves.
use Rattle.std.proofs.Common.{◌≡◌, ℕ, Bool, true, false, Some, List, [], ◌∷◌, refl, sym, ap, ◌∙◌}
use Rattle.std.specs.Prelude.{nat_eq, slice_index_or, if◌then◌else◌}
use Rattle.std.proofs.lemmas.Bool.{eqb-true}
use Rattle.lf_definitions.specs.Syntax.{metavariable}
use Rattle.lf_definitions.specs.Occurrence.{OccursInGoal}
use Rattle.lf_definitions.specs.Typing.{LfGoal, goal_type, type_of_metavariable}
use Rattle.lf_definitions.specs.Signatures.{LfSignature}
use Rattle.lf_definitions.specs.GoalLists.{FormedGoal, FormedGoals}
use Rattle.head_laws.proofs.LookupLaws.{goals_may_change}
use Rattle.typing_laws.proofs.ClosedTypes.{ShapedGoals-FormedGoals}
use Rattle.typing_laws.proofs.GoalLists.{goals_are_their_types}
use Rattle.application_laws.specs.Conditions.{inside, MentionInside}
use Rattle.application_laws.proofs.Inside.{All-inside, goals_inside_are_shaped}

-- A metavariable inside has its type among the goals inside as among all.
type_inside : (within : ℕ → Bool) (goals : List LfGoal) (m : ℕ) → within m ≡ true → type_of_metavariable goals m ≡ type_of_metavariable (inside within goals) m
type_inside within [] m is = refl
type_inside within (h ∷ rest) m is = step (within h.id) refl (type_inside within rest m is)
  where
    step : (b : Bool) → within h.id ≡ b → type_of_metavariable rest m ≡ type_of_metavariable (inside within rest) m →
        type_of_metavariable (h ∷ rest) m ≡ type_of_metavariable (if b then h ∷ inside within rest else inside within rest) m
    step true kept later = ap (λ o. if nat_eq h.id m then Some (goal_type h) else o) later
    step false kept later = passed (nat_eq h.id m) refl ∙ later
      where
        passed : (b : Bool) → nat_eq h.id m ≡ b → (if b then Some (goal_type h) else type_of_metavariable rest m) ≡ type_of_metavariable rest m
        passed true same = absurd (clash (sym kept ∙ ap within (eqb-true h.id m same) ∙ is))
          where
            clash : false ≡ true → ⊥
            clash f = absurd cc
        passed false same = refl

pub goals_inside_are_formed : (sig : LfSignature) (goals : List LfGoal) (within : ℕ → Bool) → FormedGoals sig goals → MentionInside within goals → FormedGoals sig (inside within goals)
goals_inside_are_formed sig goals within formed stay = (
  (goals_inside_are_shaped sig goals within (ShapedGoals-FormedGoals sig goals formed) stay).0,
  All-inside within (FormedGoal sig (inside within goals)) goals (λ k d less is. formed_again (slice_index_or goals k d) (formed.1 k d less) (stay k d less is)),
)
  where
    formed_again : (h : LfGoal) → FormedGoal sig goals h → ((m : ℕ) → OccursInGoal (metavariable m) h → within m ≡ true) → FormedGoal sig (inside within goals) h
    formed_again h is mentions =
        (goals_are_their_types sig (inside within goals) h).1
        (((goals_may_change sig goals (inside within goals) []).1 (goal_type h) (λ m o. type_inside within goals m (mentions m o))).0.0
        ((goals_are_their_types sig goals h).0 is))
