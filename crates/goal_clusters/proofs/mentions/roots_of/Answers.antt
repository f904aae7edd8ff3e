use Rattle.std.proofs.Common.{◌≡◌, ℕ, ◌∙◌, subst, [], length, map, arith}
use Rattle.applications.specs.Candidates.{counting_from}
use Rattle.meta_goals.specs.GoalsOf.{goals_of}
use Rattle.goal_clusters.specs.Linking.{LeadsTo, Relinks, joined_all}
use Rattle.goal_clusters.proofs.Whole.{start_back, start_long, both_fit, joined_whole}
use Rattle.goal_clusters.proofs.mentions.roots_of.Goals as goal

pub join_all-requires-clause-leads_back : goal.join_all-requires-clause-leads_back
join_all-requires-clause-leads_back c =
    start_back (goals_of c.args.goals.now) c.in_ok-numbers.numbers.keys c.in_ok-links.links.items [] [] c.len.result c.in_ok-numbers.ensures c.len.ensures.len c.in_ok-links.ensures

pub join_all-requires-clause-as_long : goal.join_all-requires-clause-as_long
join_all-requires-clause-as_long c =
    start_long (goals_of c.args.goals.now) c.in_ok-numbers.numbers.keys c.in_ok-links.links.items [] [] c.len.result c.in_ok-numbers.ensures c.len.ensures.len c.in_ok-links.ensures

pub join_all-requires-clause-within : goal.join_all-requires-clause-within
join_all-requires-clause-within c =
    let fit = both_fit (goals_of c.args.goals.now) c.in_ok-numbers.numbers.keys c.in_ok-links.links.items [] [] c.len.result c.in_ok-numbers.ensures c.len.ensures.len c.in_ok-links.ensures in omega (arith, fit)

pub join_all-requires-2-clause-as_long : goal.join_all-requires-2-clause-as_long
join_all-requires-2-clause-as_long c =
    c.in_ok-join_all.ensures.as_long
    ∙ start_long (goals_of c.args.goals.now) c.in_ok-numbers.numbers.keys c.in_ok-links.links.items [] [] c.len.result c.in_ok-numbers.ensures c.len.ensures.len c.in_ok-links.ensures

pub join_all-requires-2-clause-within : goal.join_all-requires-2-clause-within
join_all-requires-2-clause-within c =
    let fit = both_fit (goals_of c.args.goals.now) c.in_ok-numbers.numbers.keys c.in_ok-links.links.items [] [] c.len.result c.in_ok-numbers.ensures c.len.ensures.len c.in_ok-links.ensures in
    omega (arith, fit, c.in_ok-join_all.ensures.as_long, c.len-2.ensures)

pub returns : goal.returns
returns c =
    let keys = c.in_ok-numbers.numbers.keys in
    let witnesses = c.args.goals.now.witnesses in
    joined_whole (goals_of c.args.goals.now) keys c.in_ok-links.links.items c.join_all.new.links.items c.join_all-2.new.links.items c.len.result c.in_ok-numbers.ensures c.len.ensures.len c.in_ok-links.ensures
    c.in_ok-join_all.ensures (subst (λ n. Relinks c.join_all.new.links.items c.join_all-2.new.links.items (joined_all keys n witnesses)) c.len-2.ensures c.in_ok-join_all-2.ensures) c.in_ok-found.found.items
    (subst (λ l. (root : ℕ → ℕ) → LeadsTo l root → c.in_ok-found.found.items ≡ map root (counting_from 0 (length l))) c.as_slice.ensures.value c.in_ok-found.ensures)
