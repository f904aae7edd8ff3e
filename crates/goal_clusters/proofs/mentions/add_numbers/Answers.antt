use Rattle.std.proofs.Common.{◌≡◌, ◌≢◌, AllPairs, [], ◌∷◌, ◌++◌, sym, ap, ◌∙◌, subst}
use Rattle.std.specs.Prelude.{nat_eq, if◌then◌else◌}
use Rattle.std.specs.List.{list_any}
use Rattle.lf_definitions.specs.GoalLists.{ids}
use Rattle.lf_terms.specs.declared.goal.Goal.{Goal}
use Rattle.meta_goals.proofs.Renumbered.{none_before, places_more}
use Rattle.goal_clusters.proofs.mentions.add_numbers.Goals as goal

pub loop-i-preserved : goal.loop-i-preserved
loop-i-preserved c =
    let items = c.as_slice-items.result.now in
    let i = c.loop-i.i in
    let x = c.index-items-i.result in
    let first = c.args.numbers.now.keys in
    let keys = c.loop-i.numbers.keys in
    places_more items i x c.loop-i-test.true c.index-items-i.is first keys c.insert_full.new.self.keys c.loop-i.invariant
    (subst (λ (z : Goal). c.insert_full.new.self.keys ≡ (if list_any (nat_eq z.id) keys then keys else keys ++ z.id ∷ [])) (sym c.index-items-i.is) c.in_ok-insert_full.ensures.keys
    ∙ ap (λ b. if b then keys else keys ++ x.id ∷ [])
    (ap (list_any (nat_eq x.id)) c.loop-i.invariant
    ∙ none_before first items i x c.loop-i-test.true c.index-items-i.is (subst (λ gs. AllPairs (λ m n. m ≢ n) (first ++ ids gs)) (sym c.as_slice-items.ensures) c.requires)))
