-- What is known of the lists that functions are given, and of what they made of these.
use Rattle.std.proofs.Common.{◌≡◌, ℕ, Option, Some, None, List, [], ◌∷◌, All, refl}
use Rattle.std.specs.Prelude.{option_map, slice_get}
use Rattle.std.specs.List.{cons_option}
use Rattle.std.proofs.lemmas.List.Elements.{All-nil, All-cons}
use Rattle.lf_definitions.specs.ShapedGoals.{ShapedGoals}
use Rattle.lf_definitions.specs.Signatures.{LfSignature, FormedSignature}
use Rattle.lf_definitions.specs.GoalLists.{LfGoals, all_goals, next_id}
use Rattle.lf_definitions.proofs.ShapedGoals.{ShapedSignature-FormedSignature}
use Rattle.application_laws.specs.Conditions.{TakesAtoms}
use Rattle.rule_sets.specs.declared.rule.Rule.{Rule}
use Rattle.rule_sets.specs.Books.{Book}
use Rattle.rule_sets.specs.Refusals.{IsOver}
use Rattle.rule_methods.proofs.AtomsTaken.{rules_take_atoms}
use Rattle.alternatives.specs.Rules.{LfRule}
use Rattle.step_laws.proofs.Numbers.{all_below_above}
use Rattle.goal_book.specs.Rules.{numbered, rules_of}
use Rattle.goal_book.specs.GoalBooks.{LfBook, IsGoalBook}
use Rattle.goal_expand.specs.declared.given.Given.{Given}
use Rattle.goal_expand.specs.Progress.{MayExpand, sig_given, list_given, IsGiven}

-- The rules of a book over a signature take atoms.
rules_of_take_atoms : (sig : LfSignature) (book : Book) → IsOver sig book → (numbers : List ℕ) → All (λ rule. TakesAtoms sig rule.method) (rules_of book numbers)
rules_of_take_atoms sig book over [] = All-nil (λ (rule : LfRule). TakesAtoms sig rule.method)
rules_of_take_atoms sig book over (number ∷ rest) = each (slice_get book.rules number) refl (rules_of_take_atoms sig book over rest)
  where
    each : (o : Option Rule) → slice_get book.rules number ≡ o → All (λ rule. TakesAtoms sig rule.method) (rules_of book rest) →
        All (λ rule. TakesAtoms sig rule.method) (cons_option (option_map (numbered book.lists number) o) (rules_of book rest))
    each None e all = all
    each (Some rule) e all = All-cons (λ (r : LfRule). TakesAtoms sig r.method) (numbered book.lists number rule) (rules_of book rest) (rules_take_atoms sig book over number rule e) all

-- The rules of a formed book may be asked about shaped goals.
may_expand : (book : LfBook) (list : LfGoals) → IsGoalBook book → FormedSignature book.sig → ShapedGoals book.sig (all_goals list) → MayExpand book list
may_expand book list formed sig shaped = record {
  signature = ShapedSignature-FormedSignature book.sig sig;
  goals = shaped;
  below = all_below_above (all_goals list);
  rules_take_atoms = rules_of_take_atoms book.sig book.book formed.over book.numbers;
}

pub is_given : (g : Given) → IsGoalBook g.book.now → FormedSignature (sig_given g) → ShapedGoals (sig_given g) (all_goals (list_given g)) → g.first ≡ next_id (list_given g) → IsGiven g
is_given g formed sig shaped first = record { may_expand = may_expand g.book.now (list_given g) formed sig shaped; first_is = first }
