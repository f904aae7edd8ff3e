use Rattle.std.proofs.Common.{ap}
use Rattle.lf_terms.specs.Terms.{head_of}
use Rattle.build_forward.proofs.Clashing.{bound_agree, constants_agree}
use Rattle.build_forward.proofs.clashes.heads_agree.Goals as goal

pub returns-in-Bound-Bound : goal.returns-in-Bound-Bound
returns-in-Bound-Bound c same =
    bound_agree (head_of c.args.h) (head_of c.args.k) c.in-Bound-Bound.n c.in-Bound-Bound.m (ap head_of c.in-Bound-Bound.is-0) (ap head_of c.in-Bound-Bound.is-1) same

pub returns-in-Const-Const : goal.returns-in-Const-Const
returns-in-Const-Const c same =
    constants_agree (head_of c.args.h) (head_of c.args.k) c.in-Const-Const.c c.in-Const-Const.d (ap head_of c.in-Const-Const.is-0) (ap head_of c.in-Const-Const.is-1) same
