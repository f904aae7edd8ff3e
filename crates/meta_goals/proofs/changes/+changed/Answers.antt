use Rattle.std.proofs.Common.{◌≡◌, refl, sym, ap, ◌∙◌, subst, subst₂, arith, unwrap_or, option_map}
use Rattle.std.proofs.lemmas.Result.{IfOk-weaker}
use Rattle.lf_definitions.specs.Syntax.{bound, constant, metavariable, lam, at, term_size, spine_size}
use Rattle.lf_definitions.specs.Substitution.{substituted_stays, substituted_none}
use Rattle.lf_definitions.specs.Instantiation.{instantiating, Instantiated, InstantiatedSpine}
use Rattle.lf_terms.specs.Terms.{head_of, term_of}
use Rattle.lf_terms.proofs.Spines.{item_size}
use Rattle.meta_goals.specs.Bindings.{assigning}
use Rattle.meta_goals.specs.Instantiates.{Instantiates, TermIsShaped, ArgsAreShaped}
use Rattle.meta_goals.proofs.ChangedTerms.{instantiates_body, body_instantiated, instantiates_args, instantiates_item, spine_without, head_kept, one_more_term, one_more_stays, first_change}
use Rattle.meta_goals.proofs.changes.+changed.Goals as goal

pub changed-changed-requires : goal.changed-changed-requires
changed-changed-requires t c =
    let a = c.args in
    let b = term_of c.term.result.now in
    let is : term_of a.term.now ≡ lam b = ap term_of c.in-Lam.is ∙ ap lam (sym c.term.ensures) in
    (omega (arith, c.decreases, ap term_size is), instantiates_body a.assign.now (term_of a.term.now) b is c.requires)

pub changed-changed_all-requires : goal.changed-changed_all-requires
changed-changed_all-requires t c =
    let a = c.args in
    let is : term_of a.term.now ≡ at (head_of c.in-At.head) c.in-At.args = ap term_of c.in-At.is in
    (omega (arith, c.decreases, ap term_size is), instantiates_args a.assign.now (term_of a.term.now) (head_of c.in-At.head) c.in-At.args is c.requires)

pub changed-returns-in-None : goal.changed-returns-in-None
changed-returns-in-None t c =
    let a = c.args in
    let b = term_of c.term.result.now in
    let is : term_of a.term.now ≡ lam b = ap term_of c.in-Lam.is ∙ ap lam (sym c.term.ensures) in
    body_instantiated a.assign.now (TermIsShaped (term_of a.term.now)) c.requires (term_of a.term.now) b (term_of a.term.now) b is is
    (subst (λ o. Instantiated (assigning a.assign.now) b (unwrap_or (option_map term_of o) b)) c.in-None.is c.in_ok-changed-in-Lam.ensures)

pub changed-returns-in_ok-new-in-Some : goal.changed-returns-in_ok-new-in-Some
changed-returns-in_ok-new-in-Some t c =
    let a = c.args in
    let b = term_of c.term.result.now in
    let is : term_of a.term.now ≡ lam b = ap term_of c.in-Lam.is ∙ ap lam (sym c.term.ensures) in
    body_instantiated a.assign.now (TermIsShaped (term_of a.term.now)) c.requires (term_of a.term.now) b (lam c.in_ok-new-in-Some.field-0) (term_of c.in-Some.inside) is
    (ap lam c.in_ok-new-in-Some.ensures)
    (subst (λ o. Instantiated (assigning a.assign.now) b (unwrap_or (option_map term_of o) b)) c.in-Some.is c.in_ok-changed-in-Lam.ensures)

pub changed-returns-in-Meta : goal.changed-returns-in-Meta
changed-returns-in-Meta t c =
    let a = c.args in
    let is : term_of a.term.now ≡ at (metavariable c.in-Meta.id) c.in-At.args = ap term_of c.in-At.is ∙ ap (λ k. at (head_of k) c.in-At.args) c.in-Meta.is in
    IfOk-weaker c.changed_at.result _ _ (λ r p. subst (λ x. Instantiated (assigning a.assign.now) x (unwrap_or (option_map term_of r) x)) (sym is) p) c.changed_at.ensures

pub changed-returns-in-Bound : goal.changed-returns-in-Bound
changed-returns-in-Bound t c =
    let a = c.args in
    let σ = assigning a.assign.now in
    let h = bound c.in-Bound.number in
    let ts = c.in-At.args in
    let is : term_of a.term.now ≡ at h ts = ap term_of c.in-At.is ∙ ap (λ k. at (head_of k) ts) c.in-Bound.is in
    subst (λ x. Instantiated σ x (unwrap_or (option_map term_of c.with_head.result) x)) (sym is)
    (subst (Instantiated σ (at h ts)) (head_kept h ts c.in_ok-results-in-At.results _ c.with_head.ensures) (substituted_stays refl c.in_ok-results-in-At.ensures))

pub changed-returns-in-Const : goal.changed-returns-in-Const
changed-returns-in-Const t c =
    let a = c.args in
    let σ = assigning a.assign.now in
    let h = constant c.in-Const.number in
    let ts = c.in-At.args in
    let is : term_of a.term.now ≡ at h ts = ap term_of c.in-At.is ∙ ap (λ k. at (head_of k) ts) c.in-Const.is in
    subst (λ x. Instantiated σ x (unwrap_or (option_map term_of c.with_head-in-Const.result) x)) (sym is)
    (subst (Instantiated σ (at h ts)) (head_kept h ts c.in_ok-results-in-At.results _ c.with_head-in-Const.ensures) (substituted_stays refl c.in_ok-results-in-At.ensures))

pub changed_all-returns-then-not-has_metas : goal.changed_all-returns-then-not-has_metas
changed_all-returns-then-not-has_metas t c = spine_without c.args.assign.now c.args.terms.now (c.has_metas.ensures c.if-not-has_metas.true)

pub changed_all-loop-i-init : goal.changed_all-loop-i-init
changed_all-loop-i-init t c = substituted_none

pub changed_all-changed-requires : goal.changed_all-changed-requires
changed_all-changed-requires t c =
    let a = c.args in
    let items = c.as_slice-items.result.now in
    let x = c.index-items-i.result in (
      omega (arith, c.decreases, ap spine_size c.as_slice-items.ensures, item_size items c.loop-i.i x c.loop-i-test.true c.index-items-i.is),
      instantiates_item a.assign.now items c.loop-i.i x c.loop-i-test.true c.index-items-i.is (subst (λ ts. Instantiates a.assign.now (ArgsAreShaped ts)) (sym c.as_slice-items.ensures) c.requires),
    )

pub changed_all-changed_from-requires : goal.changed_all-changed_from-requires
changed_all-changed_from-requires t c =
    let a = c.args in
    let σ = assigning a.assign.now in
    let items = c.as_slice-items.result.now in
    let x = c.index-items-i.result in (
      omega (arith, c.decreases, ap spine_size c.as_slice-items.ensures),
      (
        subst (λ ts. Instantiates a.assign.now (ArgsAreShaped ts)) (sym c.as_slice-items.ensures) c.requires,
        first_change (instantiating σ) items c.loop-i.i x c.loop-i-test.true c.index-items-i.is c.in_ok-results.results.items c.push.new.self.items c.in-Some.other c.in_ok-push.ensures.items
            c.in_ok-results.ensures c.loop-i.invariant
            (subst (λ o. Instantiated σ (term_of x) (unwrap_or (option_map term_of o) (term_of x))) c.in-Some.is c.in_ok-other.ensures),
      ),
    )

pub changed_all-loop-i-preserved : goal.changed_all-loop-i-preserved
changed_all-loop-i-preserved t c =
    let σ = assigning c.args.assign.now in
    let x = c.index-items-i.result in
    one_more_stays (instantiating σ) c.as_slice-items.result.now c.loop-i.i x c.loop-i-test.true c.index-items-i.is c.loop-i.invariant
    (subst (λ o. Instantiated σ (term_of x) (unwrap_or (option_map term_of o) (term_of x))) c.in_default.is c.in_ok-other.ensures)

pub changed_all-returns-in-Some : goal.changed_all-returns-in-Some
changed_all-returns-in-Some t c = subst₂ (InstantiatedSpine (assigning c.args.assign.now)) c.as_slice-items.ensures (sym c.in_ok-from_vec.ensures) c.in_ok-results-2.ensures

pub changed_from-changed-requires : goal.changed_from-changed-requires
changed_from-changed-requires t c =
    let a = c.args in
    let x = c.index-items-i.result in (
      omega (arith, c.decreases, item_size a.items.now c.loop-i.i x c.loop-i-test.true c.index-items-i.is),
      instantiates_item a.assign.now a.items.now c.loop-i.i x c.loop-i-test.true c.index-items-i.is c.requires.shaped,
    )

pub changed_from-loop-i-preserved : goal.changed_from-loop-i-preserved
changed_from-loop-i-preserved t c =
    let a = c.args in
    let σ = assigning a.assign.now in
    let x = c.index-items-i.result in
    one_more_term (instantiating σ) a.items.now c.loop-i.i x c.loop-i-test.true c.index-items-i.is c.loop-i.results.items c.push.new.self.items c.in_ok-term_or.field-0 c.in_ok-push.ensures.items
    c.loop-i.invariant (subst (Instantiated σ (term_of x)) (sym c.in_ok-term_or.ensures) c.in_ok-change.ensures)
