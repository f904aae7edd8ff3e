use Rattle.std.proofs.Common.{◌≡◌, ◌∙◌, [], ◌∷◌, ◌++◌, List, map, All, refl, sym, ap, subst, arith, rules, length, append_assoc, append-nil}
use Rattle.std.specs.Vec.Iter.{into_iter_items}
use Rattle.std.proofs.lemmas.List.Elements.{All-nil, All-head, All-tail}
use Rattle.goal_book.specs.declared.choices.Choice.{Choice}
use Rattle.goal_book.specs.Choices.{seen_choice}
use Rattle.goal_expand.specs.Seen.{seen_alternative, HaveShapes}
use Rattle.goal_expand.specs.Progress.{list_given, MayBeNext, as_taken}
use Rattle.goal_expand.proofs.Found.{HasShapesIn}
use Rattle.goal_expand.proofs.expanding.each_chosen.Goals as goal

none_left : {A : Type 0} (xs : List A) → length xs ≡ 0 → xs ≡ []
none_left [] e = refl
none_left (x ∷ xs) e = absurd (omega (arith, e))

pub loop-choice-init : goal.loop-choice-init
loop-choice-init c =
    let g = c.args.given.now in
    let p = c.args.made.now in
    let it = c.into_iter-choice-iterator.result in
    let gives = c.into_iter-choice-iterator.ensures.into_iter_gives in
    let P : Choice → Type 0 = λ choice. MayBeNext g p.reached choice.app in
    record {
      found = ap (λ xs. map seen_alternative xs ++ map (as_taken g p) (map seen_choice (into_iter_items it))) c.new-found.ensures.items ∙ ap (λ cs. map (as_taken g p) (map seen_choice cs)) gives.0;
      shapes = subst (HaveShapes (list_given g)) (sym c.new-found.ensures.items) (All-nil (HasShapesIn (list_given g)));
      next = subst (All P) (sym gives.0) c.requires.choices;
      count = search rules;
    }

pub add_choice-requires-clause-next : goal.add_choice-requires-clause-next
add_choice-requires-clause-next c =
    let P : Choice → Type 0 = λ choice. MayBeNext c.args.given.now c.args.made.now.reached choice.app in
    All-head P c.in-Some.choice (into_iter_items c.next.new.self) (subst (All P) c.in-Some.ensures.steps.0 c.loop-choice.invariant.next)

pub loop-choice-preserved : goal.loop-choice-preserved
loop-choice-preserved c =
    let g = c.args.given.now in
    let p = c.args.made.now in
    let P : Choice → Type 0 = λ choice. MayBeNext g p.reached choice.app in
    let before = c.loop-choice.invariant in
    let left = into_iter_items c.next.new.self in
    let steps = c.in-Some.ensures.steps.0 in
    record {
      found = ap (λ xs. xs ++ map (as_taken g p) (map seen_choice left)) c.in_ok-add_choice.ensures.alternatives
          ∙ (append_assoc (map seen_alternative c.loop-choice.found.items) (as_taken g p (seen_choice c.in-Some.choice) ∷ []) (map (as_taken g p) (map seen_choice left))
          ∙ (ap (λ cs. map seen_alternative c.loop-choice.found.items ++ map (as_taken g p) (map seen_choice cs)) (sym steps) ∙ before.found));
      shapes = c.in_ok-add_choice.ensures.shapes before.shapes;
      next = All-tail P c.in-Some.choice left (subst (All P) steps before.next);
      count = omega (arith, before.count, ap length steps, c.in-Some.ensures.steps.1);
    }

pub returns : goal.returns
returns c =
    let g = c.args.given.now in
    let p = c.args.made.now in
    let before = c.loop-choice.invariant in
    let none = none_left (into_iter_items c.loop-choice.choice-iterator) (sym before.count ∙ c.in-None.ensures.steps.0) in
    record {
      alternatives = sym (append-nil (map seen_alternative c.loop-choice.found.items))
          ∙ (ap (λ cs. map seen_alternative c.loop-choice.found.items ++ map (as_taken g p) (map seen_choice cs)) (sym none) ∙ before.found);
      shapes = before.shapes;
    }
