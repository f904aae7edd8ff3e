use Rattle.std.proofs.Common.{◌≡◌, map, take}
use Rattle.std.specs.Prelude.{flat_map}
use Rattle.lf_definitions.specs.GoalLists.{all_goals}
use Rattle.meta_goals.specs.GoalsOf.{goals_of}
use Rattle.build_shared.specs.RuleUses.{KnowShapes}
use Rattle.goal_book.specs.Rules.{rules_of}
use Rattle.goal_book.specs.Choices.{seen_choice}
use Rattle.goal_book.specs.Queries.{choices_for}
use Rattle.goal_book.proofs.choices.choices.Given as goal

abbrev pub invariant-loop-number : goal.invariant-loop-number
invariant-loop-number l = record {
  seen : map seen_choice l.found.items ≡ flat_map (choices_for l.query) (rules_of l.query.rules.now (take l.number-index l.number-items));
  shapes : KnowShapes (all_goals (goals_of l.query.goals.now)) (map (λ choice. choice.app) l.found.items);
}
