use Rattle.std.proofs.Common.{◌≡◌, ◌≢◌, AllPairs, [], ◌∷◌, ◌++◌, length, sym, ap, ap₂, ◌∙◌, subst, take_all, map, false}
use Rattle.std.specs.Prelude.{nat_eq}
use Rattle.std.specs.List.{list_any}
use Rattle.lf_definitions.specs.GoalLists.{ids}
use Rattle.lf_terms.specs.declared.goal.Goal.{Goal}
use Rattle.lf_terms.specs.Targets.{goal_of}
use Rattle.goal_lists.specs.Numbering.{numbered_pairs}
use Rattle.meta_goals.proofs.Renumbered.{none_before, places_more, pairs_more}
use Rattle.meta_goals.proofs.rename.number.Goals as goal

pub loop-i-preserved : goal.loop-i-preserved
loop-i-preserved c =
    let items = c.as_slice-items.result.now in
    let x = c.index-items-i.result in
    record {
      of_places =
          places_more items c.loop-i.i x c.loop-i-test.true c.index-items-i.is c.args.places.now c.loop-i.places c.add.new.self c.loop-i.invariant.of_places
          (c.in_ok-add.ensures ∙ ap (λ (z : Goal). c.loop-i.places ++ z.id ∷ []) (sym c.index-items-i.is));
      of_pairs =
          pairs_more items c.loop-i.i x c.loop-i-test.true c.index-items-i.is c.args.places.now c.loop-i.places c.args.pairs.now c.loop-i.pairs c.push.new.self c.loop-i.invariant.of_places
          c.loop-i.invariant.of_pairs (c.in_ok-push.ensures.ok ∙ ap₂ (λ (z : Goal) n. c.loop-i.pairs ++ (z.id, n) ∷ []) (sym c.index-items-i.is) c.len.ensures);
    }

pub add-requires : goal.add-requires
add-requires c =
    let items = c.as_slice-items.result.now in
    let x = c.index-items-i.result in
    subst (λ (z : Goal). list_any (nat_eq z.id) c.loop-i.places ≡ false) c.index-items-i.is
    (ap (list_any (nat_eq x.id)) c.loop-i.invariant.of_places
    ∙ none_before c.args.places.now items c.loop-i.i x c.loop-i-test.true c.index-items-i.is (subst (λ gs. AllPairs (λ m n. m ≢ n) (c.args.places.now ++ ids gs)) (sym c.as_slice-items.ensures) c.requires))

pub returns : goal.returns
returns c =
    let all = take_all c.loop-i.i c.as_slice-items.result.now c.loop-i-test.false in
    record {
      places = c.loop-i.invariant.of_places ∙ ap (λ l. c.args.places.now ++ ids (map goal_of l)) all ∙ ap (λ gs. c.args.places.now ++ ids gs) c.as_slice-items.ensures;
      pairs =
          c.loop-i.invariant.of_pairs ∙ ap (λ l. c.args.pairs.now ++ numbered_pairs (length c.args.places.now) (ids (map goal_of l))) all
          ∙ ap (λ gs. c.args.pairs.now ++ numbered_pairs (length c.args.places.now) (ids gs)) c.as_slice-items.ensures;
    }
