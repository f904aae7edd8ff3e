use Rattle.std.proofs.Common.{arith, inl, inr}
use Rattle.binder_marks.proofs.PlacedMarks.{variable_marked, variable_outside}
use Rattle.binder_marks.proofs.marking.mark_variable.Goals.{else-number-local-via-then-number-local+else-number-local-2, else-number-local-via-else-number-local}
use Rattle.binder_marks.proofs.marking.mark_variable.Goals as goal

pub returns-then-number-local-2 : goal.returns-then-number-local-2
returns-then-number-local-2 c = variable_marked c.args.places.now c.args.local c.args.number _ c.args.marks.now c.if-number-local.true (omega arith)

pub returns-else-number-local : goal.returns-else-number-local
returns-else-number-local c =
    variable_outside c.args.places.now c.args.local c.args.number c.args.marks.now (elim c.else-number-local.branch [
      | else-number-local-via-then-number-local+else-number-local-2 w ↦ inr w.if-number-local-2.false
      | else-number-local-via-else-number-local w ↦ inl w.if-number-local.false
    ])
