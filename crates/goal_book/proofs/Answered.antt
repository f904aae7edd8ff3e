-- What was asked of the rules that fit is answered for all active rules.
use Rattle.std.proofs.Common.{◌≡◌, ℕ, List, Option, sym, ap, ◌∙◌, subst}
use Rattle.std.specs.Prelude.{find}
use Rattle.lf_definitions.specs.GoalLists.{LfGoals, first_goal}
use Rattle.applications.specs.Applications.{LfApplication}
use Rattle.index_laws.specs.Laws.{RulesWithApplicationsAreCompatible}
use Rattle.alternatives.specs.Rules.{found_by}
use Rattle.goal_book.specs.declared.wanted.Wanted.{Wanted}
use Rattle.goal_book.specs.Rules.{rules_of}
use Rattle.goal_book.specs.GoalBooks.{LfBook, IsGoalBook, rules_in, fitting_in}
use Rattle.goal_book.specs.Choices.{LfChoice, choices}
use Rattle.goal_book.specs.Queries.{AreRules, is_tried, serves, first_wanted}
use Rattle.goal_book.proofs.FittingRules.{order_of_rules, fitting_rules, first_among_fitting, choices_among_fitting}

module _ (made b : LfBook) (is : made ≡ b) (formed : IsGoalBook made) (list : LfGoals) (slice fitting : List ℕ) (slice_is : slice ≡ fitting) (fitting_is : fitting ≡ fitting_in b list) where
  of_made : slice ≡ fitting_in made list
  of_made = slice_is ∙ fitting_is ∙ ap (λ (x : LfBook). fitting_in x list) (sym is)

  numbers_are : AreRules made.book made.numbers
  numbers_are = order_of_rules made.book formed.sets made.numbers formed.is_order

  pub are_rules : AreRules made.book slice
  are_rules = let P : List ℕ → Type 0 = AreRules made.book in subst P (sym of_made) (fitting_rules made.sig made.book (first_goal list) made.numbers numbers_are)

  pub wanted_found : RulesWithApplicationsAreCompatible → (n : ℕ) (wanted : Wanted) (found : Option LfApplication) →
      found ≡ first_wanted (found_by made.sig n list) wanted (rules_of made.book slice) → found ≡ first_wanted (found_by b.sig n list) wanted (rules_in b)
  wanted_found law n wanted found e =
      e
      ∙ ap (λ ms. first_wanted (found_by made.sig n list) wanted (rules_of made.book ms)) of_made
      ∙ ap (find (serves wanted)) (first_among_fitting made.sig made.book formed.over law n list (is_tried wanted) made.numbers)
      ∙ ap (λ (x : LfBook). first_wanted (found_by x.sig n list) wanted (rules_in x)) is

  pub choices_found : RulesWithApplicationsAreCompatible → (n : ℕ) (found : List LfChoice) → found ≡ choices made.sig (rules_of made.book slice) n list → found ≡ choices b.sig (rules_in b) n list
  choices_found law n found e =
      e
      ∙ ap (λ ms. choices made.sig (rules_of made.book ms) n list) of_made
      ∙ choices_among_fitting made.sig made.book formed.over law n list made.numbers numbers_are.differ
      ∙ ap (λ (x : LfBook). choices x.sig (rules_in x) n list) is
