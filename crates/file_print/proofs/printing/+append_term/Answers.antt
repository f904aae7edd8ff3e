use Rattle.std.proofs.Common.{arith, ap}
use Rattle.lf_definitions.specs.Syntax.{spine_size}
use Rattle.lf_terms.proofs.Spines.{item_size}
use Rattle.file_print.proofs.TextSteps.{arg_printable}
use Rattle.file_print.proofs.printing.+append_term.Goals as goal

pub append_args-append_argument-requires : goal.append_args-append_argument-requires
append_args-append_argument-requires t c = (
  omega (arith, c.decreases, ap spine_size c.as_slice-items.ensures, item_size c.as_slice-items.result.now c.loop-item.item-index c.item-item.result c.loop-item-test.true c.item-item.is),
  arg_printable c.args.sig.now c.args.depth c.as_slice-items.result.now c.loop-item.item-index c.item-item.result _ _ c.loop-item-test.true c.item-item.is c.loop-item.invariant,
)
