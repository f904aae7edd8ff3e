use Rattle.unification.specs.Patterns.{has_number}
use Rattle.meta_unify.proofs.Problems.{atoms_workable, atoms_pass_more, atoms_stay, atoms_pass_all}
use Rattle.meta_unify.proofs.problem.unify_all.Goals as goal

pub unify_atoms-requires : goal.unify_atoms-requires
unify_atoms-requires c =
    atoms_workable (has_number c.args.frozen.now) c.args.late.now c.loop-i.late c.args.equations.now c.as_slice-items.result.now c.loop-i.i c.index-items-i.result c.requires.fresh c.as_slice-items.ensures
    c.loop-i-test.true c.index-items-i.is c.requires.shaped c.loop-i.invariant

pub loop-i-preserved : goal.loop-i-preserved
loop-i-preserved c =
    atoms_pass_more (has_number c.args.frozen.now) c.args.late.now c.loop-i.late c.unify_atoms.new.late c.as_slice-items.result.now c.loop-i.i c.index-items-i.result c.in_ok-unify_atoms.field-0 c.loop-i-test.true
    c.index-items-i.is c.loop-i.invariant c.in-None.is c.in_ok-unify_atoms.ensures

pub returns-in-Some : goal.returns-in-Some
returns-in-Some c =
    atoms_stay (has_number c.args.frozen.now) c.args.late.now c.loop-i.late c.unify_atoms.new.late c.args.equations.now c.as_slice-items.result.now c.loop-i.i c.index-items-i.result c.in_ok-unify_atoms.field-0
    c.in-Some.stop c.in_ok-stop_in-in-Some.field-0 c.as_slice-items.ensures c.loop-i-test.true c.index-items-i.is c.loop-i.invariant c.in-Some.is c.in_ok-stop_in-in-Some.ensures.cause c.in_ok-stop_in-in-Some.ensures.steps
    c.in_ok-unify_atoms.ensures

pub returns : goal.returns
returns c =
    atoms_pass_all (has_number c.args.frozen.now) c.args.late.now c.loop-i.late c.args.equations.now c.as_slice-items.result.now c.loop-i.i c.as_slice-items.ensures c.loop-i-test.false c.loop-i.invariant
