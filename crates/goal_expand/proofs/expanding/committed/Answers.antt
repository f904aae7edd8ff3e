use Rattle.std.proofs.Common.{◌≡◌, [], ◌∷◌}
use Rattle.goal_expand.specs.Progress.{list_given, committed_by}
use Rattle.goal_expand.proofs.Found.{one_only, one_seen, one_shaped}
use Rattle.goal_expand.proofs.expanding.committed.Goals as goal

pub returns : goal.returns
returns c =
    let g = c.args.given.now in
    let a = c.in_ok-next.next in
    let is : c.push.new.self.items ≡ a ∷ [] = one_only c.new-found.result.items c.push.new.self.items a c.in_ok-push.ensures.items c.new-found.ensures.items in
    record {
      alternatives = one_seen c.push.new.self.items a (committed_by g c.args.made c.args.app) is c.in_ok-next.ensures.alternative;
      shapes = one_shaped (list_given g) c.push.new.self.items a is c.in_ok-next.ensures.shapes;
    }
