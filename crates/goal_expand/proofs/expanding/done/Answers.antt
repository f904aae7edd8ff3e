use Rattle.std.proofs.Common.{◌≡◌, [], ◌∷◌, sym, subst}
use Rattle.lf_definitions.specs.GoalLists.{all_goals}
use Rattle.meta_goals.specs.GoalsOf.{goals_of}
use Rattle.meta_goals.specs.Laws.{HaveShapesOf}
use Rattle.goal_expand.specs.declared.alternative.Alternative.{Alternative}
use Rattle.goal_expand.specs.declared.alternative.Last.TheVariants.{Done}
use Rattle.goal_expand.specs.Seen.{done_with}
use Rattle.goal_expand.proofs.Ended.{done_is}
use Rattle.goal_expand.proofs.Found.{one_only, one_seen, one_shaped}
use Rattle.goal_expand.proofs.expanding.done.Goals as goal

pub returns : goal.returns
returns c =
    let list = goals_of c.args.goals.now in
    let n = c.in_ok-normed.normed in
    let a : Alternative = record { norm = n.labels; last = Done; percent = 100; goals = n.goals; build = n.build } in
    let is : c.push.new.self.items ≡ a ∷ [] = one_only c.new-found.result.items c.push.new.self.items a c.in_ok-push.ensures.items c.new-found.ensures.items in
    record {
      alternatives = one_seen c.push.new.self.items a (done_with list c.args.made) is (done_is list c.args.made n c.in_ok-normed.ensures);
      shapes = λ s. one_shaped list c.push.new.self.items a is (subst (HaveShapesOf (all_goals list)) (sym c.in_ok-normed.ensures.build_is) s);
    }
