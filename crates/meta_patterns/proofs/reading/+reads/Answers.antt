use Rattle.std.proofs.Common.{◌≡◌, ◌-◌, ◌∙◌, sym, ap, ap₂, arith}
use Rattle.lf_definitions.specs.Syntax.{spine_size, args_count}
use Rattle.unification.specs.Patterns.{is_number, are_own}
use Rattle.lf_terms.proofs.Spines.{item_size, args_count-spine_of}
use Rattle.meta_patterns.proofs.Readings.{are_own-count, own_stops, own_goes_on, own_ends}
use Rattle.meta_patterns.proofs.reading.+reads.Goals as goal

pub are_own-returns-then-items-count : goal.are_own-returns-then-items-count
are_own-returns-then-items-count t c =
    sym (are_own-count c.args.count c.args.args.now (λ e. c.if-items-count.true (sym (args_count-spine_of c.as_slice-items.result.now) ∙ ap args_count c.as_slice-items.ensures ∙ e)))

pub are_own-loop-i-init : goal.are_own-loop-i-init
are_own-loop-i-init t c = let all : c.args.count ≡ c.args.count - 0 = omega arith in ap₂ are_own all (sym c.as_slice-items.ensures)

pub are_own-reads_under-requires : goal.are_own-reads_under-requires
are_own-reads_under-requires t c =
    (omega (arith, c.decreases, ap spine_size c.as_slice-items.ensures, item_size c.as_slice-items.result.now c.loop-i.i c.index-items-i.result c.loop-i-test.true c.index-items-i.is), tt)

pub are_own-returns-then-not-is_number : goal.are_own-returns-then-not-is_number
are_own-returns-then-not-is_number t c =
    own_stops c.args.count c.loop-i.i c.as_slice-items.result.now c.index-items-i.result c.loop-i-test.true c.if-items-count.false c.index-items-i.is c.loop-i.invariant
    (ap (is_number (c.args.count - 1 - c.loop-i.i)) (sym c.in_ok-found.ensures) ∙ sym c.is_number.ensures ∙ c.if-not-is_number.true)

pub are_own-loop-i-preserved : goal.are_own-loop-i-preserved
are_own-loop-i-preserved t c =
    own_goes_on c.args.count c.loop-i.i c.as_slice-items.result.now c.index-items-i.result c.loop-i-test.true c.if-items-count.false c.index-items-i.is c.loop-i.invariant
    (ap (is_number (c.args.count - 1 - c.loop-i.i)) (sym c.in_ok-found.ensures) ∙ sym c.is_number.ensures ∙ c.if-not-is_number.false)

pub are_own-returns : goal.are_own-returns
are_own-returns t c = own_ends c.args.count c.loop-i.i c.as_slice-items.result.now c.loop-i-test.false c.if-items-count.false c.loop-i.invariant
