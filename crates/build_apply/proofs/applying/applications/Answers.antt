use Rattle.std.proofs.Common.{◌≡◌, ℕ, Some, ◌++◌, map, sym, ap, ◌∙◌}
use Rattle.std.specs.Prelude.{option_map, slice_get}
use Rattle.std.proofs.lemmas.Option.{same_Some}
use Rattle.lf_definitions.specs.Typing.{LfGoal}
use Rattle.lf_definitions.specs.Signatures.{LfSignature}
use Rattle.lf_definitions.specs.GoalLists.{LfGoals, all_goals, next_id, first_goal}
use Rattle.lf_terms.specs.Targets.{goal_of}
use Rattle.applications.specs.Candidates.{candidates}
use Rattle.applications.specs.Applications.{of_candidates, applications}
use Rattle.rule_sets.specs.declared.rule.Rule.{Rule}
use Rattle.rule_sets.specs.Books.{Book}
use Rattle.rule_methods.specs.RuleMethods.{method_of, applications_of}
use Rattle.meta_goals.specs.GoalsOf.{goals_of}
use Rattle.build_shared.specs.Seen.{seen_application}
use Rattle.build_shared.proofs.AddedCandidates.{none_know_shapes}
use Rattle.build_shared.proofs.WholeUses.{begins_use, whole_use}
use Rattle.build_apply.proofs.applying.applications.Goals as goal

pub add_rule-requires-clause-usage : goal.add_rule-requires-clause-usage
add_rule-requires-clause-usage c =
    let is = sym (ap (option_map (λ g. goal_of g.now)) c.in-Some.is) ∙ c.first_goal.ensures in
    begins_use _ c.is_formed.ensures c.requires.goals c.in_ok-first.ensures is

-- What comes of all candidates is all applications of the rule.
all_applications : (sig : LfSignature) (book : Book) (number n : ℕ) (goals : LfGoals) (g : LfGoal) (read rule : Rule) → n ≡ next_id goals → Some g ≡ first_goal goals →
    slice_get book.rules number ≡ Some read → slice_get book.rules number ≡ Some rule →
    of_candidates sig n (all_goals goals) g (candidates sig number (method_of book.lists read) g n) ≡ applications_of sig book.lists number rule goals
all_applications sig book number n goals g read rule next is here there =
    whole_use sig number (method_of book.lists read) n goals g is ∙ ap (λ m. applications sig number (method_of book.lists read) m goals) next
    ∙ ap (λ r. applications_of sig book.lists number r goals) (same_Some read rule (sym here ∙ there))

pub returns-clause-found : goal.returns-clause-found
returns-clause-found c =
    let sig = c.args.sig.now in
    let book = c.args.rules.now in
    let goals = goals_of c.args.goals.now in
    let n = c.in_ok-first.first in
    let g = goal_of c.in-Some.goal.now in
    let read = c.rule.result.now in
    let is = sym (ap (option_map (λ x. goal_of x.now)) c.in-Some.is) ∙ c.first_goal.ensures in
    let offered = candidates sig c.args.rule (method_of book.lists read) g n in
    λ rule there.
    c.in_ok-add_rule.ensures.found ∙ ap (λ l. map seen_application l ++ of_candidates sig n (all_goals goals) g offered) c.new-found.ensures.items
    ∙ all_applications sig book c.args.rule n goals g read rule c.in_ok-first.ensures is c.rule.ensures there

pub returns-clause-shapes : goal.returns-clause-shapes
returns-clause-shapes c = c.in_ok-add_rule.ensures.shapes (none_know_shapes (all_goals (goals_of c.args.goals.now)) _ c.new-found.ensures.items)
