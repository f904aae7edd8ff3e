use Rattle.std.proofs.Common.{[], ◌∷◌, ◌++◌, sym, ap, ◌∙◌}
use Rattle.std.specs.Prelude.{not}
use Rattle.std.proofs.lemmas.Result.{on_ok_weaker}
use Rattle.lf_terms.specs.Targets.{goal_of}
use Rattle.meta_goals.specs.Bindings.{assigning}
use Rattle.meta_goals.specs.Entries.{binding_of}
use Rattle.meta_goals.proofs.ChangedTerms.{put_by}
use Rattle.meta_goals.proofs.LeftGoals.{is_assigned, is_unassigned}
use Rattle.build_shared.specs.Attempts.{among_at}
use Rattle.build_shared.proofs.FreshParts.{adds_nothing, left_one, kept_one, passed_one}
use Rattle.build_shared.proofs.remaining.add_fresh.Goals as goal

pub returns-in-Some : goal.returns-in-Some
returns-in-Some c =
    let b = binding_of (c.args.goal.now.id, c.in-Some.field-0.now) in
    adds_nothing (among_at c.args.attempt.now) (assigning c.args.whole.now) (goal_of c.args.goal.now) c.args.mark (put_by b) c.args.fresh.now (is_assigned c.args.whole.now c.args.goal.now.id b (sym c.in-Some.ensures))

pub returns-then-mark : goal.returns-then-mark
returns-then-mark c =
    let a = c.args.attempt.now in
    let g = goal_of c.args.goal.now in
    let h = goal_of c.in_ok-left-in-None.left in
    let old = c.args.fresh.now in
    let σ = assigning c.args.whole.now in
    let none = is_unassigned c.args.whole.now g.id (sym c.in-None.ensures) in
    let is = c.requires.only h c.in_ok-left-in-None.ensures.result in
    on_ok_weaker c.push-then-mark.result
    (λ e. record {
      adds_to_all = c.in_ok-push-in-None.ensures.ok ∙ ap (λ k. old.all ++ k ∷ []) c.in_ok-copy-in-None.ensures ∙ ap (λ l. old.all ++ l) (left_one (among_at a) σ g h none is);
      adds_to_proofs = e ∙ ap (λ l. old.proofs ++ l) (kept_one (among_at a) σ g h none is (λ b. b) c.args.mark c.if-mark.true);
      adds_to_witnesses = passed_one (among_at a) σ g h none is not c.args.mark old.witnesses (ap not c.if-mark.true);
    })
    c.push-then-mark.ensures.ok

pub returns-else-mark : goal.returns-else-mark
returns-else-mark c =
    let a = c.args.attempt.now in
    let g = goal_of c.args.goal.now in
    let h = goal_of c.in_ok-left-in-None.left in
    let old = c.args.fresh.now in
    let σ = assigning c.args.whole.now in
    let none = is_unassigned c.args.whole.now g.id (sym c.in-None.ensures) in
    let is = c.requires.only h c.in_ok-left-in-None.ensures.result in
    on_ok_weaker c.push-else-mark.result
    (λ e. record {
      adds_to_all = c.in_ok-push-in-None.ensures.ok ∙ ap (λ k. old.all ++ k ∷ []) c.in_ok-copy-in-None.ensures ∙ ap (λ l. old.all ++ l) (left_one (among_at a) σ g h none is);
      adds_to_proofs = passed_one (among_at a) σ g h none is (λ b. b) c.args.mark old.proofs c.if-mark.false;
      adds_to_witnesses = e ∙ ap (λ l. old.witnesses ++ l) (kept_one (among_at a) σ g h none is not c.args.mark (ap not c.if-mark.false));
    })
    c.push-else-mark.ensures.ok
