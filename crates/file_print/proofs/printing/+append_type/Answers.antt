use Rattle.std.proofs.Common.{◌++◌, codes, arith, rules, ap, ◌∙◌}
use Rattle.std.specs.Io.{StartsWith}
use Rattle.lf_definitions.specs.Syntax.{family, types_size}
use Rattle.lf_terms.specs.TypeSizes.{binders_size}
use Rattle.lf_terms.proofs.TypeLists.{item_size}
use Rattle.file_print.specs.Texts.{variable_text}
use Rattle.file_print.proofs.KeptTexts.{kept_appended, kept_later}
use Rattle.file_print.proofs.TextSteps.{binder_asked, binder_printed, type_printed}
use Rattle.file_print.proofs.printing.+append_type.Goals as goal

pub append_type-append_binder-requires : goal.append_type-append_binder-requires
append_type-append_binder-requires t c =
    let ty = c.args.ty.now in
    let asked =
    binder_asked c.args.sig.now c.as_slice-binders.result.now (family ty.family ty.args) c.args.marks.now c.loop-binder.binder-index _ _ _ _ _ _ c.binder-item.result
    c.loop-binder-test.true c.binder-item.is c.loop-binder.invariant in (
      omega (
        arith,
        c.decreases,
        binders_size ty.binders ty.family ty.args,
        ap types_size c.as_slice-binders.ensures,
        item_size c.as_slice-binders.result.now c.loop-binder.binder-index c.binder-item.result c.loop-binder-test.true c.binder-item.is,
      ),
      (asked.printable, (asked.within, asked.marked)),
    )

pub append_type-loop-binder-preserved : goal.append_type-loop-binder-preserved
append_type-loop-binder-preserved t c =
    binder_printed _ _ _ _ c.loop-binder.binder-index _ _ _ _ _ _ c.binder-item.result _ _ _ c.loop-binder-test.true c.binder-item.is c.loop-binder.invariant c.in_ok-inside.ensures
    c.in_ok-next.ensures.place c.in_ok-next.ensures.ok

pub append_type-returns-clause-ok : goal.append_type-returns-clause-ok
append_type-returns-clause-ok t c =
    let ty = c.args.ty.now in
    type_printed c.args.sig.now c.as_slice-binders.result.now ty.binders ty.family ty.args c.args.marks.now c.loop-binder.binder-index _ _ _ _ _ _ _ _ c.family_name.result.now c.loop-binder-test.false
    c.as_slice-binders.ensures c.loop-binder.invariant c.family_name.ensures
    (c.in_ok-append.ensures.ok ∙ ap (λ l. c.loop-binder.out ++ l) c.as_bytes.ensures) c.in_ok-append_args.ensures.ok

pub append_binder-returns-in_err-after-clause-err : goal.append_binder-returns-in_err-after-clause-err
append_binder-returns-in_err-after-clause-err t c =
    let out = c.args.out.now in
    let opened = c.push.new.self in
    let named = c.append_variable.new.out in
    let asked = c.push-then-marks-place.new.self in
    let brace : StartsWith opened out = kept_appended out (codes "{") opened c.in_ok-push.ensures.ok in
    let variable : StartsWith named opened = kept_appended opened (variable_text c.args.depth) named c.in_ok-append_variable.ensures.ok in
    let colon : StartsWith asked named = kept_appended named (codes ":") asked c.in_ok-push-2.ensures.ok in
    let before = kept_later out named asked (kept_later out opened named brace variable) colon in
    let all : StartsWith c.append_type.new.out out = kept_later out asked c.append_type.new.out before c.in_err-after.ensures.err in
    search (rules, all)

pub append_left-returns-in_err-after-clause-err : goal.append_left-returns-in_err-after-clause-err
append_left-returns-in_err-after-clause-err t c =
    let out = c.args.out.now in
    let opened = c.push.new.self in
    let before : StartsWith opened out = kept_appended out (codes "(") opened c.in_ok-push.ensures.ok in
    let all : StartsWith c.append_type-2.new.out out = kept_later out opened c.append_type-2.new.out before c.in_err-after.ensures.err in
    search (rules, all)
