use Rattle.std.proofs.Common.{◌<◌, ℕ, Bool, true, false, List, length, All, refl, sym, ap, ap₂, ◌∙◌, subst, subst₂}
use Rattle.std.specs.Prelude.{not}
use Rattle.std.specs.List.{list_all}
use Rattle.std.proofs.lemmas.Result.{IfOk-weaker}
use Rattle.lf_definitions.specs.Syntax.{LfType}
use Rattle.head_laws.specs.Mentions.{occurs_in_type}
use Rattle.lf_terms.specs.Targets.{goal_of}
use Rattle.lf_terms.specs.Types.{type_of}
use Rattle.opening_laws.specs.Openings.{context_variable}
use Rattle.applications.specs.Candidates.{without, hypotheses_of}
use Rattle.applications.specs.Applications.{kept_types_are}
use Rattle.build_shared.specs.Added.{fits_beside}
use Rattle.build_shared.specs.Seen.{seen_atom}
use Rattle.build_shared.proofs.AddingTests.{three_parts}
use Rattle.build_shared.proofs.KeptPlaces.{present_places}
use Rattle.build_shared.proofs.adding_tests.may_be_added.Goals as goal

abbrev Unmentioned : ℕ → List ℕ → LfType → Bool
Unmentioned n dropped a = list_all (λ place. not (occurs_in_type (context_variable n place) a)) dropped

pub kept_hypotheses_fit-requires-clause-dropped : goal.kept_hypotheses_fit-requires-clause-dropped
kept_hypotheses_fit-requires-clause-dropped c =
    let ctx = c.args.goal.now.ctx in
    subst (All (λ place. place < length ctx)) (sym (c.in_ok-dropped.ensures ∙ ap (without c.args.kept.now) c.in_ok-all.ensures)) (present_places ctx c.args.kept.now)

pub mentions_none_of-requires : goal.mentions_none_of-requires
mentions_none_of-requires c =
    let ctx = c.args.goal.now.ctx in
    subst₂ (λ n dropped. All (λ place. place < n) dropped) (sym c.len.ensures) (sym (c.in_ok-dropped.ensures ∙ ap (without c.args.kept.now) c.in_ok-all.ensures)) (present_places ctx c.args.kept.now)

pub mentions_none_of-requires-2 : goal.mentions_none_of-requires-2
mentions_none_of-requires-2 c =
    let ctx = c.args.goal.now.ctx in
    subst₂ (λ n dropped. All (λ place. place < n) dropped) (sym c.len-2.ensures) (sym (c.in_ok-dropped.ensures ∙ ap (without c.args.kept.now) c.in_ok-all.ensures)) (present_places ctx c.args.kept.now)

pub returns-then-not-branch : goal.returns-then-not-branch
returns-then-not-branch c =
    let g = goal_of c.args.goal.now in
    let dropped = c.in_ok-dropped.ensures ∙ ap (without c.args.kept.now) c.in_ok-all.ensures in
    three_parts g c.args.kept.now (seen_atom c.args.fact.now) false _ _
    (sym c.if-not-branch.true ∙ c.in_ok-kept_hypotheses_fit.ensures ∙ ap₂ (λ d f. kept_types_are (fits_beside g.context d f) c.args.kept.now (hypotheses_of g.context)) dropped c.in_ok-fact.ensures) refl refl

pub returns-then-not-branch-2 : goal.returns-then-not-branch-2
returns-then-not-branch-2 c =
    let g = goal_of c.args.goal.now in
    let dropped = c.in_ok-dropped.ensures ∙ ap (without c.args.kept.now) c.in_ok-all.ensures in
    three_parts g c.args.kept.now (seen_atom c.args.fact.now) true false _
    (sym c.if-not-branch.false ∙ c.in_ok-kept_hypotheses_fit.ensures ∙ ap₂ (λ d f. kept_types_are (fits_beside g.context d f) c.args.kept.now (hypotheses_of g.context)) dropped c.in_ok-fact.ensures)
    (sym c.if-not-branch-2.true ∙ c.in_ok-mentions_none_of.ensures ∙ ap (λ n. Unmentioned n c.in_ok-dropped.dropped (type_of c.in_ok-fact.fact)) c.len.ensures ∙ ap₂ (Unmentioned (length g.context)) dropped c.in_ok-fact.ensures) refl

pub returns : goal.returns
returns c =
    let g = goal_of c.args.goal.now in
    let dropped = c.in_ok-dropped.ensures ∙ ap (without c.args.kept.now) c.in_ok-all.ensures in
    IfOk-weaker c.mentions_none_of-2.result _ _
    (λ t e. three_parts g c.args.kept.now (seen_atom c.args.fact.now) true true t
    (sym c.if-not-branch.false ∙ c.in_ok-kept_hypotheses_fit.ensures ∙ ap₂ (λ d f. kept_types_are (fits_beside g.context d f) c.args.kept.now (hypotheses_of g.context)) dropped c.in_ok-fact.ensures)
    (sym c.if-not-branch-2.false ∙ c.in_ok-mentions_none_of.ensures ∙ ap (λ n. Unmentioned n c.in_ok-dropped.dropped (type_of c.in_ok-fact.fact)) c.len.ensures ∙ ap₂ (Unmentioned (length g.context)) dropped c.in_ok-fact.ensures)
    (e ∙ ap (λ n. Unmentioned n c.in_ok-dropped.dropped (type_of c.in_ok-target.target)) c.len-2.ensures ∙ ap₂ (Unmentioned (length g.context)) dropped c.in_ok-target.ensures)) c.mentions_none_of-2.ensures
