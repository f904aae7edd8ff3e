use Rattle.std.proofs.Common.{◌≡◌, sym, ◌∙◌, Bool, false, IsTrue}
use Rattle.lf_terms.specs.Targets.{goal_of}
use Rattle.lf_terms.proofs.GoalLists.{same_goal_at}
use Rattle.lf_terms.proofs.goal.same_goals.Goals as goal

falsely : {A : Type 0} → IsTrue false → A
falsely h = absurd cc

not_both : {b : Bool} → b ≡ false → IsTrue b → ⊥
not_both e h = cc

pub returns-then-not-same_goal : goal.returns-then-not-same_goal
returns-then-not-same_goal c =
    let differ : goal_of c.index-goals-i.result ≡ goal_of c.index-others-i.result → ⊥ = λ e. not_both c.if-not-same_goal.true (c.same_goal.ensures.1 e) in (
      falsely,
      λ e. absurd (differ (same_goal_at c.as_slice-goals.result.now c.as_slice-others.result.now c.loop-i.i c.index-goals-i.result c.index-others-i.result
          c.loop-i-test.true c.if-goals-others.false c.index-goals-i.is c.index-others-i.is (c.as_slice-goals.ensures ∙ e ∙ sym c.as_slice-others.ensures))),
    )
