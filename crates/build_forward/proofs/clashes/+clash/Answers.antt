use Rattle.std.proofs.Common.{ap, arith, sym, subst₂, ◌∙◌}
use Rattle.lf_definitions.specs.Syntax.{lam, spine_size}
use Rattle.lf_terms.specs.Terms.{head_of, term_of}
use Rattle.lf_terms.proofs.Spines.{item_size}
use Rattle.build_forward.specs.Clashes.{TermsClash, ArgsClash}
use Rattle.build_forward.proofs.Clashing.{bodies_clash, heads_clash, args_of_heads_clash, clash_at}
use Rattle.build_forward.proofs.clashes.+clash.Goals as goal

pub args_clash-terms_clash-requires : goal.args_clash-terms_clash-requires
args_clash-terms_clash-requires t c =
    (omega (arith, c.decreases, ap spine_size c.as_slice-ts.ensures, item_size c.as_slice-ts.result.now c.loop-i.i c.index-ts-i.result c.loop-i-test.true c.index-ts-i.is), tt)

pub args_clash-returns-then-terms_clash : goal.args_clash-returns-then-terms_clash
args_clash-returns-then-terms_clash t c is =
    subst₂ ArgsClash c.as_slice-ts.ensures c.as_slice-us.ensures
    (clash_at c.as_slice-ts.result.now c.as_slice-us.result.now c.loop-i.i c.index-ts-i.result c.index-us-i.result c.loop-i-test.true c.if-ts-us.false c.index-ts-i.is c.index-us-i.is
    (c.terms_clash.ensures c.if-terms_clash.true))

pub terms_clash-returns-in-Lam-Lam : goal.terms_clash-returns-in-Lam-Lam
terms_clash-returns-in-Lam-Lam t c is =
    subst₂ TermsClash (sym (ap term_of c.in-Lam-Lam.is-0 ∙ ap lam (sym c.term.ensures))) (sym (ap term_of c.in-Lam-Lam.is-1 ∙ ap lam (sym c.term-in-Lam-Lam.ensures)))
    (bodies_clash (term_of c.term.result.now) (term_of c.term-in-Lam-Lam.result.now) (c.terms_clash.ensures is))

pub terms_clash-returns-then-heads_differ : goal.terms_clash-returns-then-heads_differ
terms_clash-returns-then-heads_differ t c is =
    subst₂ TermsClash (sym (ap term_of c.in-At-At.is-0)) (sym (ap term_of c.in-At-At.is-1))
    (heads_clash (head_of c.in-At-At.h) (head_of c.in-At-At.k) c.in-At-At.ts c.in-At-At.us (c.heads_differ.ensures c.if-heads_differ.true))

pub terms_clash-returns-then-heads_agree : goal.terms_clash-returns-then-heads_agree
terms_clash-returns-then-heads_agree t c is =
    subst₂ TermsClash (sym (ap term_of c.in-At-At.is-0)) (sym (ap term_of c.in-At-At.is-1))
    (args_of_heads_clash (head_of c.in-At-At.h) (head_of c.in-At-At.k) c.in-At-At.ts c.in-At-At.us (c.heads_agree.ensures c.if-heads_agree.true) (c.args_clash.ensures is))
