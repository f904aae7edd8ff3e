use Rattle.std.proofs.Common.{◌≡◌, List, length, map}
use Rattle.std.specs.Vec.Iter.{into_iter_items, into_iter_len}
use Rattle.lf_definitions.specs.Typing.{LfGoal}
use Rattle.build_shared.specs.RuleUses.{KnowShapes}
use Rattle.derivations.specs.Replays.{same_last}
use Rattle.goal_book.specs.Choices.{seen_choice}
use Rattle.goal_expand.specs.Seen.{seen_last}
use Rattle.proof_replay.proofs.Places.{first_app}
use Rattle.proof_replay.proofs.naming.first_named.Given as goal

abbrev pub invariant-loop-choice : goal.invariant-loop-choice
invariant-loop-choice l = record {
  found : first_app (λ c. same_last (seen_last l.last) c.last) (map seen_choice (into_iter_items l.choice-iterator)) ≡ first_app (λ c. same_last (seen_last l.last) c.last) (map seen_choice l.fn.choices.items);
  shapes : (goals : List LfGoal) → KnowShapes goals (map (λ choice. choice.app) l.fn.choices.items) → KnowShapes goals (map (λ choice. choice.app) (into_iter_items l.choice-iterator));
  count : into_iter_len l.choice-iterator ≡ length (into_iter_items l.choice-iterator);
}
