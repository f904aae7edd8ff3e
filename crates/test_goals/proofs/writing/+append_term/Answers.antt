use Rattle.std.proofs.Common.{ap, arith}
use Rattle.lf_definitions.specs.Syntax.{term_size, spine_size}
use Rattle.lf_terms.specs.Terms.{term_of}
use Rattle.lf_terms.proofs.Spines.{item_size}
use Rattle.test_goals.proofs.writing.+append_term.Goals as goal

pub append_term-append_term-requires : goal.append_term-append_term-requires
append_term-append_term-requires t c = (omega (arith, c.decreases, ap (λ x. term_size (term_of x)) c.in-Lam.is, ap term_size c.term.ensures), tt)

pub append_term-append_args-requires : goal.append_term-append_args-requires
append_term-append_args-requires t c = (omega (arith, c.decreases, ap (λ x. term_size (term_of x)) c.in-At.is), tt)

pub append_args-append_term-requires : goal.append_args-append_term-requires
append_args-append_term-requires t c =
    (omega (arith, c.decreases, ap spine_size c.as_slice-items.ensures, item_size c.as_slice-items.result.now c.loop-i.i c.index-items-i.result c.loop-i-test.true c.index-items-i.is), tt)
