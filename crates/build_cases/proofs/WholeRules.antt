-- What is known of a rule of a book that splits hypotheses.
use Rattle.std.proofs.Common.{◌≡◌, ℕ, zero, suc, ◌-◌, List, Some, refl, sym, ap, ◌∙◌, subst, arith}
use Rattle.std.specs.Prelude.{slice_get}
use Rattle.std.proofs.lemmas.Option.{same_Some}
use Rattle.lf_definitions.specs.Signatures.{LfSignature, constant_types}
use Rattle.lf_definitions.specs.Typing.{LfGoal, type_at}
use Rattle.lf_definitions.specs.Syntax.{LfType}
use Rattle.lf_definitions.specs.GoalLists.{LfGoals, all_goals, next_id, first_goal}
use Rattle.applications.specs.Methods.{splits}
use Rattle.applications.specs.Candidates.{hypotheses_of, are_atomic, where_some, each, split, candidates}
use Rattle.applications.specs.Applications.{LfApplication, of_candidates, applications}
use Rattle.application_laws.specs.Conditions.{TakesAtoms}
use Rattle.rule_sets.specs.declared.rule.Builder.{Builder}
use Rattle.rule_sets.specs.declared.rule.Builder.TheVariants.{Cases}
use Rattle.rule_sets.specs.declared.rule.Rule.{Rule}
use Rattle.rule_sets.specs.Books.{Book}
use Rattle.rule_sets.specs.Refusals.{IsOver}
use Rattle.rule_methods.specs.RuleMethods.{place_of_major, method_by, applications_of, HasRule}
use Rattle.rule_methods.proofs.AtomsTaken.{rules_take_atoms}
use Rattle.build_shared.proofs.WholeUses.{whole_use}
use Rattle.build_cases.specs.Splits.{IsCases}

module _ (sig : LfSignature) (book : Book) (over : IsOver sig book) where
  pub takes_atoms : (number : ℕ) (rule : Rule) → slice_get book.rules number ≡ Some rule → rule.builder ≡ Cases → TakesAtoms sig (splits rule.subject (place_of_major rule.major))
  takes_atoms number rule here is =
      let P : Builder → Type 0 = λ b. TakesAtoms sig (method_by book.lists b rule.subject rule.major) in subst P is (rules_take_atoms sig book over number rule here)

  -- What comes of all candidates are the applications of the rule.
  pub all_applications : (number : ℕ) (goals : LfGoals) (n : ℕ) (g : LfGoal) (found : List LfApplication) (read rule : Rule) → n ≡ next_id goals → Some g ≡ first_goal goals → read.builder ≡ Cases →
      slice_get book.rules number ≡ Some read → slice_get book.rules number ≡ Some rule →
      found ≡ of_candidates sig n (all_goals goals) g (candidates sig number (splits read.subject (place_of_major read.major)) g n) → found ≡ applications_of sig book.lists number rule goals
  all_applications number goals n g found read rule n_is g_is is here there found_is =
      let same : read ≡ rule = same_Some read rule (sym here ∙ there) in
      found_is ∙ whole_use sig number (splits read.subject (place_of_major read.major)) n goals g g_is ∙ ap (λ m. applications sig number (splits read.subject (place_of_major read.major)) m goals) n_is
      ∙ ap (λ b. applications sig number (method_by book.lists b read.subject read.major) (next_id goals) goals) (sym is) ∙ ap (λ r. applications_of sig book.lists number r goals) same

-- The rule that is read is the one of which the builder is known.
pub builder_is : (book : Book) (number : ℕ) (read : Rule) → slice_get book.rules number ≡ Some read → HasRule book number IsCases → read.builder ≡ Cases
builder_is book number read here has = let same : has.rule ≡ read = same_Some has.rule read (sym has.rule_is ∙ here) in let P : Rule → Type 0 = λ r. r.builder ≡ Cases in subst P same has.builds

pub place_is : (major : ℕ) → place_of_major major ≡ major - 1
place_is zero = refl
place_is (suc place) = let e : place ≡ suc place - 1 = omega arith in e

-- What a rule split_offers where its constant has a type.
pub offered_by_rule : (sig : LfSignature) (rule c major place : ℕ) (g : LfGoal) (n : ℕ) (type : LfType) → type_at (constant_types sig) c ≡ Some type → major ≡ place →
    each (are_atomic (hypotheses_of g.context)) (split rule c type major g n) ≡ candidates sig rule (splits c place) g n
offered_by_rule sig rule c major place g n type is same =
    ap (λ m. each (are_atomic (hypotheses_of g.context)) (split rule c type m g n)) same ∙ sym (ap (λ o. where_some o (λ a. each (are_atomic (hypotheses_of g.context)) (split rule c a place g n))) is)
