use Rattle.lf_terms.specs.Targets.{goal_of}
use Rattle.lf_terms.specs.Types.{type_of}
use Rattle.build_cases.proofs.DroppedPlaces.{all_kept, one_dropped}
use Rattle.build_cases.proofs.dropping.kept_places.Goals as goal

pub returns-then-not-is_dropped : goal.returns-then-not-is_dropped
returns-then-not-is_dropped c =
    let s = c.args.split.now in
    all_kept (type_of s.ty.now) s.major (goal_of s.usage.now.goal.now) c.args.place c.in_ok-is_dropped.is_dropped c.in_ok-all.all c.in_ok-is_dropped.ensures c.if-not-is_dropped.true c.in_ok-all.ensures

pub returns : goal.returns
returns c =
    let s = c.args.split.now in
    one_dropped (type_of s.ty.now) s.major (goal_of s.usage.now.goal.now) c.args.place c.in_ok-is_dropped.is_dropped c.new-dropped.result c.push.new.self c.in_ok-kept.kept c.in_ok-is_dropped.ensures c.if-not-is_dropped.false
    c.new-dropped.ensures c.in_ok-push.ensures.ok c.in_ok-kept.ensures
