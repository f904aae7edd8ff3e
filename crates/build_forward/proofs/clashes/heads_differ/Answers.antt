use Rattle.std.proofs.Common.{ap}
use Rattle.lf_terms.specs.Terms.{head_of}
use Rattle.build_forward.proofs.Clashing.{bound_differ, constants_differ, bound_not_constant, constant_not_bound}
use Rattle.build_forward.proofs.clashes.heads_differ.Goals as goal

pub returns-in-Bound-Bound : goal.returns-in-Bound-Bound
returns-in-Bound-Bound c differ =
    bound_differ (head_of c.args.h) (head_of c.args.k) c.in-Bound-Bound.n c.in-Bound-Bound.m (ap head_of c.in-Bound-Bound.is-0) (ap head_of c.in-Bound-Bound.is-1) differ

pub returns-in-Const-Const : goal.returns-in-Const-Const
returns-in-Const-Const c differ =
    constants_differ (head_of c.args.h) (head_of c.args.k) c.in-Const-Const.c c.in-Const-Const.d (ap head_of c.in-Const-Const.is-0) (ap head_of c.in-Const-Const.is-1) differ

pub returns-in-Bound-Const : goal.returns-in-Bound-Const
returns-in-Bound-Const c true_is =
    bound_not_constant (head_of c.args.h) (head_of c.args.k) _ _ (ap head_of c.in-Bound-Const.is-0) (ap head_of c.in-Bound-Const.is-1)

pub returns-in-Const-Bound : goal.returns-in-Const-Bound
returns-in-Const-Bound c true_is =
    constant_not_bound (head_of c.args.h) (head_of c.args.k) _ _ (ap head_of c.in-Const-Bound.is-0) (ap head_of c.in-Const-Bound.is-1)
