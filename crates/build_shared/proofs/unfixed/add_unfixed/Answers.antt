use Rattle.std.proofs.Common.{sym, ◌∙◌}
use Rattle.opening_laws.specs.Openings.{fixed_to}
use Rattle.build_shared.proofs.UnfixedMarks.{none_added, one_added}
use Rattle.build_shared.proofs.unfixed.add_unfixed.Goals as goal

pub returns-then-is_fixed : goal.returns-then-is_fixed
returns-then-is_fixed c = none_added (fixed_to c.args.fixed.now c.args.i) c.args.mark c.args.left.now.items (sym c.is_fixed.ensures ∙ c.if-is_fixed.true)

pub returns : goal.returns
returns c =
    one_added (fixed_to c.args.fixed.now c.args.i) c.args.mark c.args.left.now.items _ (sym c.is_fixed.ensures ∙ c.if-is_fixed.false) c.in_ok-push.ensures.items
