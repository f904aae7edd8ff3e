use Rattle.std.proofs.Common.{◌<◌, length, All, sym, ap, ◌∙◌, subst}
use Rattle.std.proofs.lemmas.Result.{IfOk-weaker}
use Rattle.applications.specs.Candidates.{without, places_of}
use Rattle.application_laws.proofs.Hypotheses.{keeps_places}
use Rattle.opening_laws.specs.Openings.{is_kept}
use Rattle.meta_goals.specs.Bindings.{assigning}
use Rattle.build_shared.specs.Attempts.{goal_at, candidate_at, among_at}
use Rattle.build_shared.proofs.KeptPlaces.{kept_of_places, completion-same, present_places}
use Rattle.build_shared.proofs.adding.with_hypothesis.Goals as goal

pub with_places-requires-clause-places : goal.with_places-requires-clause-places
with_places-requires-clause-places c =
    let ctx = (goal_at c.args.attempt.now).context in
    subst (All (λ place. place < length ctx)) (sym (c.in_ok-present.ensures ∙ ap (without c.in_ok-dropped.dropped) c.in_ok-all.ensures)) (present_places ctx c.in_ok-dropped.dropped)

pub returns : goal.returns
returns c =
    let a = c.args.attempt.now in
    let ctx = (goal_at a).context in
    let kept = c.args.kept.now in
    let all = places_of ctx in
    let present_is = c.in_ok-present.ensures ∙ ap (λ d. without d c.in_ok-all.all) (c.in_ok-dropped.ensures ∙ ap (without kept) c.in_ok-all.ensures) ∙ ap (without (without kept all)) c.in_ok-all.ensures in
    IfOk-weaker c.with_places.result _ _
    (λ r e. e ∙ completion-same c.in_ok-present.present kept a.first (among_at a) (goal_at a) (candidate_at a) (assigning c.args.entries.now)
    (λ q less. ap (λ l. is_kept l q) present_is ∙ kept_of_places kept all q (keeps_places ctx q less))) c.with_places.ensures
