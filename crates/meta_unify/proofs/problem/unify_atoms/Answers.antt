use Rattle.std.proofs.lemmas.Result.{IfOk-weaker}
use Rattle.unification.specs.Patterns.{has_number}
use Rattle.meta_unify.specs.Equations.{atoms_of}
use Rattle.meta_unify.proofs.Problems.{args_workable, atoms_walked, atoms_stop}
use Rattle.meta_unify.proofs.problem.unify_atoms.Goals as goal

pub returns-then-equation : goal.returns-then-equation
returns-then-equation c =
    atoms_stop (has_number c.args.frozen.now) c.args.late.now c.args.late.now (atoms_of c.args.equation.now) c.stop_here.result c.if-equation.true c.stop_here.ensures.cause c.stop_here.ensures.steps

pub unify_args-requires : goal.unify_args-requires
unify_args-requires c = args_workable c.args.late.now (atoms_of c.args.equation.now) c.if-equation.false c.requires

pub returns : goal.returns
returns c =
    IfOk-weaker c.unify_args.result _ _ (atoms_walked (has_number c.args.frozen.now) c.args.late.now c.unify_args.new.late (atoms_of c.args.equation.now) c.if-equation.false) c.unify_args.ensures
