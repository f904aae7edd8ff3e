use Rattle.std.proofs.Common.{refl, sym, ap, ◌∙◌, subst, arith}
use Rattle.lf_definitions.specs.Syntax.{metavariable, lam, term_size, spine_size}
use Rattle.lf_definitions.specs.Occurrence.{OccursInSpine}
use Rattle.lf_terms.specs.Terms.{head_of, term_of}
use Rattle.lf_terms.proofs.Spines.{item_size}
use Rattle.meta_goals.proofs.Mentioning.{none_in_spine, in_body, at_its_head, in_its_args, none_before_spine, not_yet_in_spine, found_in_spine, not_in_spine, refused}
use Rattle.meta_goals.proofs.mentions.+term_mentions.Goals as goal

pub term_mentions-term_mentions-requires : goal.term_mentions-term_mentions-requires
term_mentions-term_mentions-requires t c = (omega (arith, c.decreases, ap (λ x. term_size (term_of x)) c.in-Lam.is, ap term_size c.term.ensures), tt)

pub term_mentions-terms_mention-requires : goal.term_mentions-terms_mention-requires
term_mentions-terms_mention-requires t c = (omega (arith, c.decreases, ap (λ x. term_size (term_of x)) c.in-At.is), tt)

pub term_mentions-returns-in-Lam : goal.term_mentions-returns-in-Lam
term_mentions-returns-in-Lam t c =
    in_body c.args.id (term_of c.args.term.now) (term_of c.term.result.now) c.term_mentions.result (ap term_of c.in-Lam.is ∙ ap lam (sym c.term.ensures)) c.term_mentions.ensures

pub term_mentions-returns-then-is_metavariable : goal.term_mentions-returns-then-is_metavariable
term_mentions-returns-then-is_metavariable t c =
    at_its_head c.args.id (term_of c.args.term.now) (head_of c.in-At.head) c.in-At.args c.is_metavariable.result (ap term_of c.in-At.is) (c.is_metavariable.ensures.0 c.if-is_metavariable.true) c.if-is_metavariable.true

pub term_mentions-returns-else-is_metavariable : goal.term_mentions-returns-else-is_metavariable
term_mentions-returns-else-is_metavariable t c =
    in_its_args c.args.id (term_of c.args.term.now) (head_of c.in-At.head) c.in-At.args c.terms_mention.result (ap term_of c.in-At.is)
    (refused c.args.id _ c.if-is_metavariable.false c.is_metavariable.ensures) c.terms_mention.ensures

pub terms_mention-returns-then-not-has_metas : goal.terms_mention-returns-then-not-has_metas
terms_mention-returns-then-not-has_metas t c = none_in_spine c.args.id c.args.terms.now (c.has_metas.ensures c.if-not-has_metas.true)

pub terms_mention-loop-i-init : goal.terms_mention-loop-i-init
terms_mention-loop-i-init t c = none_before_spine c.args.id

pub terms_mention-term_mentions-requires : goal.terms_mention-term_mentions-requires
terms_mention-term_mentions-requires t c =
    (omega (arith, c.decreases, ap spine_size c.as_slice-items.ensures, item_size c.as_slice-items.result.now c.loop-i.i c.index-items-i.result c.loop-i-test.true c.index-items-i.is), tt)

pub terms_mention-returns-then-term_mentions : goal.terms_mention-returns-then-term_mentions
terms_mention-returns-then-term_mentions t c = (
  λ _. subst (OccursInSpine (metavariable c.args.id)) c.as_slice-items.ensures
      (found_in_spine c.args.id c.as_slice-items.result.now c.loop-i.i c.index-items-i.result c.loop-i-test.true c.index-items-i.is (c.term_mentions.ensures.0 c.if-term_mentions.true)),
  λ _. refl,
)

pub terms_mention-loop-i-preserved : goal.terms_mention-loop-i-preserved
terms_mention-loop-i-preserved t c =
    not_yet_in_spine c.args.id c.as_slice-items.result.now c.loop-i.i c.index-items-i.result c.loop-i-test.true c.index-items-i.is c.loop-i.invariant (refused c.args.id _ c.if-term_mentions.false c.term_mentions.ensures)

pub terms_mention-returns : goal.terms_mention-returns
terms_mention-returns t c = not_in_spine c.args.id c.as_slice-items.result.now c.loop-i.i c.args.terms.now c.loop-i-test.false c.as_slice-items.ensures c.loop-i.invariant
