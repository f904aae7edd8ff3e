use Rattle.std.proofs.Common.{refl, sym, ◌∙◌, arith}
use Rattle.lf_terms.specs.Terms.{term_of}
use Rattle.meta_unify.proofs.Mentioned.{full_term}
use Rattle.meta_unify.proofs.Triangular.{one_pass, all_passed}
use Rattle.meta_unify.proofs.Filling.{filling_begins, filling_goes_on, filling_instantiates, fills}
use Rattle.meta_unify.proofs.late.full.Goals as goal

pub loop-init : goal.loop-init
loop-init c = (filling_begins c.args.late.now (term_of c.args.term.now) (term_of c.in_ok-result.result) c.in_ok-result.ensures, λ g o. refl)

pub loop-preserved : goal.loop-preserved
loop-preserved c = (
  filling_goes_on c.args.late.now (term_of c.args.term.now) (term_of c.loop.result) (term_of c.in_ok-result-2.result) c.loop.invariant.0 c.in_ok-result-2.ensures.result,
  one_pass c.args.late.now c.loop.counter (term_of c.loop.result) (term_of c.in_ok-result-2.result) c.requires.stands.triangular c.loop.invariant.1 c.in_ok-result-2.ensures.result,
)

pub instantiate-requires : goal.instantiate-requires
instantiate-requires c = filling_instantiates c.args.late.now (term_of c.args.term.now) (term_of c.loop.result) c.requires c.loop.invariant.0

pub returns-then-not-mentions-clause-full : goal.returns-then-not-mentions-clause-full
returns-then-not-mentions-clause-full c = full_term c.args.late.now (term_of c.loop.result) (sym c.mentions.ensures ∙ c.if-not-mentions.true)

pub returns-then-not-mentions-clause-instance : goal.returns-then-not-mentions-clause-instance
returns-then-not-mentions-clause-instance c =
    fills c.args.late.now (term_of c.args.term.now) (term_of c.loop.result) c.loop.invariant.0 (full_term c.args.late.now (term_of c.loop.result) (sym c.mentions.ensures ∙ c.if-not-mentions.true))

pub returns-clause-full : goal.returns-clause-full
returns-clause-full c = all_passed c.args.late.now c.loop.counter (term_of c.loop.result) (omega (arith, c.loop-test.false, c.len-end.ensures)) c.loop.invariant.1

pub returns-clause-instance : goal.returns-clause-instance
returns-clause-instance c =
    fills c.args.late.now (term_of c.args.term.now) (term_of c.loop.result) c.loop.invariant.0 (all_passed c.args.late.now c.loop.counter (term_of c.loop.result) (omega (arith, c.loop-test.false, c.len-end.ensures)) c.loop.invariant.1)
