use Rattle.std.proofs.Common.{◌-◌, refl, sym, ap, arith}
use Rattle.meta_goals.specs.Entries.{binding_of}
use Rattle.meta_unify.proofs.Answering.{contexts_begin, answer_begins, is_there, answer_instantiates, answer_is_new, contexts_go_on, answer_goes_on, answer_ends}
use Rattle.meta_unify.proofs.late.resolved.Goals as goal

pub unreachable-requires : goal.unreachable-requires
unreachable-requires c = is_there c.args.late.now (c.len-count.result - 1 - c.loop-i.i) (omega (arith, c.loop-i-test.true, c.len-count.ensures)) (sym c.in_default.ensures)

pub instantiate-requires : goal.instantiate-requires
instantiate-requires c =
    answer_instantiates c.args.late.now c.loop-i.answer c.loop-i.i (c.len-count.result - 1 - c.loop-i.i) (binding_of (c.in-Some.id, c.in-Some.entry.now)) (omega (arith, c.loop-i-test.true, c.len-count.ensures))
    (ap (λ n. n - 1 - c.loop-i.i) c.len-count.ensures) (sym c.in-Some.ensures) c.loop-i.invariant.0 c.requires c.loop-i.invariant.1

pub push-requires : goal.push-requires
push-requires c =
    answer_is_new c.args.late.now c.loop-i.answer c.loop-i.i (c.len-count.result - 1 - c.loop-i.i) (binding_of (c.in-Some.id, c.in-Some.entry.now)) (omega (arith, c.loop-i-test.true, c.len-count.ensures))
    (ap (λ n. n - 1 - c.loop-i.i) c.len-count.ensures) (sym c.in-Some.ensures) c.loop-i.invariant.0 c.requires

pub loop-i-init : goal.loop-i-init
loop-i-init c = (answer_begins c.args.late.now c.new-answer.result c.new-answer.ensures, contexts_begin c.args.late.now c.new-answer.result c.new-answer.ensures)

pub loop-i-preserved : goal.loop-i-preserved
loop-i-preserved c =
    let i = c.loop-i.i in
    let k = c.len-count.result - 1 - i in
    let old = binding_of (c.in-Some.id, c.in-Some.entry.now) in
    let new = binding_of (c.in-Some.id, record { shapes = c.in_ok-shapes.shapes; body = c.in_ok-body.body }) in (
      answer_goes_on c.args.late.now c.loop-i.answer i k old (omega (arith, c.loop-i-test.true, c.len-count.ensures)) (ap (λ n. n - 1 - c.loop-i.i) c.len-count.ensures) (sym c.in-Some.ensures) c.loop-i.invariant.0
          c.push.new.self new refl c.in_ok-shapes.ensures c.in_ok-push.ensures.ok c.in_ok-body.ensures.result,
      contexts_go_on c.args.late.now c.loop-i.answer i k old (omega (arith, c.loop-i-test.true, c.len-count.ensures)) (ap (λ n. n - 1 - c.loop-i.i) c.len-count.ensures) (sym c.in-Some.ensures) c.loop-i.invariant.0
          c.push.new.self new refl c.in_ok-shapes.ensures c.in_ok-push.ensures.ok c.loop-i.invariant.1,
    )

pub returns-clause-entries : goal.returns-clause-entries
returns-clause-entries c = answer_ends c.args.late.now c.loop-i.answer c.loop-i.i (omega (arith, c.loop-i-test.false, c.len-count.ensures)) c.loop-i.invariant.0

pub returns-clause-contexts : goal.returns-clause-contexts
returns-clause-contexts c = c.loop-i.invariant.1
