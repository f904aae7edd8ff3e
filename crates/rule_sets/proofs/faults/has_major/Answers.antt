use Rattle.std.proofs.Common.{arith, inl, inr, ◌-◌, IsTrue, false}
use Rattle.rule_sets.proofs.Types.{major_read, no_major}
use Rattle.rule_sets.proofs.faults.has_major.Goals as goal
use Rattle.rule_sets.proofs.faults.has_major.Goals.{then-major-eq0-via-then-major-eq0, then-major-eq0-via-else-major-eq0+then-major-binders}

falsely : {A : Type 0} → IsTrue false → A
falsely h = absurd cc

pub returns-then-major-eq0 : goal.returns-then-major-eq0
returns-then-major-eq0 c =
    let ty = c.args.ty.now in (
      falsely,
      λ has. absurd (no_major c.as_slice-binders.result.now ty.binders ty.family ty.args c.args.major c.as_slice-binders.ensures
          (elim c.then-major-eq0.branch [
            | then-major-eq0-via-then-major-eq0 w ↦ inl (omega arith)
            | then-major-eq0-via-else-major-eq0+then-major-binders w ↦ inr (omega arith)
          ]) has),
    )

pub returns : goal.returns
returns c =
    let ty = c.args.ty.now in
    let read = major_read c.as_slice-binders.result.now ty.binders ty.family ty.args c.args.major (c.args.major - 1) c.index-binders-major.result c.as_slice-binders.ensures
    (omega arith) (omega arith) c.index-binders-major.is in
    (λ h. read.1 (c.is_atomic.ensures.0 h), λ has. c.is_atomic.ensures.1 (read.0 has))
