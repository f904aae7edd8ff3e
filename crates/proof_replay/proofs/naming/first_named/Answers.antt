use Rattle.std.proofs.Common.{[], Bool, sym, ap, ◌∙◌, arith, length, map, subst}
use Rattle.std.specs.Vec.Iter.{into_iter_items}
use Rattle.std.proofs.lemmas.List.Elements.{All-nil, All-cons, All-head, All-tail}
use Rattle.meta_goals.specs.Laws.{HaveShapesOf}
use Rattle.build_shared.specs.declared.app.App.{App}
use Rattle.build_shared.specs.RuleUses.{KnowShapes}
use Rattle.derivations.specs.Replays.{same_last}
use Rattle.goal_book.specs.declared.choices.Choice.{Choice}
use Rattle.goal_book.specs.Choices.{LfChoice, seen_choice}
use Rattle.goal_expand.specs.Seen.{seen_last}
use Rattle.proof_replay.proofs.Places.{first_app, first_passes, first_fails, none_left}
use Rattle.proof_replay.proofs.naming.first_named.Goals as goal

pub returns-then-is_choice-clause-found : goal.returns-then-is_choice-clause-found
returns-then-is_choice-clause-found c =
    let test : LfChoice → Bool = λ x. same_last (seen_last c.args.last.now) x.last in
    let left = into_iter_items c.next.new.self in
    first_passes test c.in-Some.choice left (sym c.is_choice.ensures ∙ c.if-is_choice.true) ∙ ap (λ xs. first_app test (map seen_choice xs)) (sym c.in-Some.ensures.steps.0) ∙ c.loop-choice.invariant.found

pub returns-then-is_choice-clause-shapes : goal.returns-then-is_choice-clause-shapes
returns-then-is_choice-clause-shapes c = λ goals shapes.
    let P = λ (x : App). HaveShapesOf goals x.assign in
    let left = into_iter_items c.next.new.self in
    All-cons P c.in-Some.choice.app []
    (All-head P c.in-Some.choice.app (map (λ (x : Choice). x.app) left) (subst (λ xs. KnowShapes goals (map (λ (x : Choice). x.app) xs)) c.in-Some.ensures.steps.0 (c.loop-choice.invariant.shapes goals shapes))) (All-nil P)

pub loop-choice-preserved : goal.loop-choice-preserved
loop-choice-preserved c =
    let before = c.loop-choice.invariant in
    let test : LfChoice → Bool = λ x. same_last (seen_last c.args.last.now) x.last in
    let left = into_iter_items c.next.new.self in
    let steps = c.in-Some.ensures.steps.0 in
    record {
      found = first_fails test c.in-Some.choice left (sym c.is_choice.ensures ∙ c.if-is_choice.false) ∙ ap (λ xs. first_app test (map seen_choice xs)) (sym steps) ∙ before.found;
      shapes = λ goals shapes.
          All-tail (λ (x : App). HaveShapesOf goals x.assign) c.in-Some.choice.app (map (λ (x : Choice). x.app) left) (subst (λ xs. KnowShapes goals (map (λ (x : Choice). x.app) xs)) steps (before.shapes goals shapes));
      count = omega (arith, before.count, ap length steps, c.in-Some.ensures.steps.1);
    }

pub returns-clause-found : goal.returns-clause-found
returns-clause-found c =
    let before = c.loop-choice.invariant in
    let test : LfChoice → Bool = λ x. same_last (seen_last c.args.last.now) x.last in
    let none = none_left (into_iter_items c.loop-choice.choice-iterator) (sym before.count ∙ c.in-None.ensures.steps.0) in
    ap (λ xs. first_app test (map seen_choice xs)) (sym none) ∙ before.found

pub returns-clause-shapes : goal.returns-clause-shapes
returns-clause-shapes c = λ goals shapes. All-nil (λ (x : App). HaveShapesOf goals x.assign)
