use Rattle.lf_terms.specs.Targets.{goal_of}
use Rattle.lf_terms.specs.Types.{type_of}
use Rattle.meta_openings.specs.Results.{opened_type_of}
use Rattle.applications.specs.Candidates.{argument_type}
use Rattle.build_cases.proofs.Offered.{equations_are}
use Rattle.build_cases.proofs.split.equations_of.Goals as goal

pub returns : goal.returns
returns c =
    let s = c.args.split.now in
    let o = opened_type_of c.args.opened.now in
    equations_are c.in_ok-argument.argument c.in_ok-end.end c.in_ok-target.target c.args.hyp.now.ty c.in_ok-args.args (argument_type (type_of s.ty.now) o s.major) o.end (goal_of s.usage.now.goal.now).target
    c.new-equations.result c.push.new.self c.push-2.new.self c.new-equations.ensures c.in_ok-push.ensures.ok c.in_ok-push-2.ensures.ok c.in_ok-argument.ensures c.in_ok-args.ensures c.in_ok-end.ensures c.in_ok-target.ensures
