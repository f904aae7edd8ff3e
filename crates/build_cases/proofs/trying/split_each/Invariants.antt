use Rattle.std.proofs.Common.{[], take, map}
use Rattle.lf_definitions.specs.GoalLists.{all_goals}
use Rattle.meta_goals.specs.GoalsOf.{goals_of}
use Rattle.build_shared.specs.RuleUses.{AddsWhatCounts, KnowShapes}
use Rattle.build_shared.specs.Seen.{seen_hypothesis}
use Rattle.build_cases.specs.Splits.{split_offers_each}
use Rattle.build_cases.proofs.trying.split_each.Given as goal

abbrev pub invariant-loop-i : goal.invariant-loop-i
invariant-loop-i l =
    record {
      found : AddsWhatCounts l.split.usage.now (split_offers_each l.split (map seen_hypothesis (take l.i l.hyps))) [] l.found.items;
      shapes : KnowShapes (all_goals (goals_of l.split.usage.now.goals.now)) l.found.items;
    }
