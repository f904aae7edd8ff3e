use Rattle.std.proofs.Common.{◌∙◌, arith}
use Rattle.goal_lists.specs.Numbering.{renumbered, numbered_pairs}
use Rattle.clusters.specs.Clusters.{clusters}
use Rattle.meta_goals.specs.GoalsOf.{goals_of}
use Rattle.goal_clusters.specs.Dealing.{numbers_of}
use Rattle.goal_clusters.proofs.Whole.{found_within, parts_fit, as_many_proofs, as_many_witnesses, all_distinct, split_made, roots_read}
use Rattle.goal_clusters.proofs.split.clusters.Goals as goal

pub deal-requires-clause-within : goal.deal-requires-clause-within
deal-requires-clause-within c =
    found_within (goals_of c.args.goals.now) c.requires c.as_slice-roots.result.now (roots_read (goals_of c.args.goals.now) _ _ c.as_slice-roots.ensures.value c.in_ok-found_roots.ensures)

pub deal-requires-clause-as_long : goal.deal-requires-clause-as_long
deal-requires-clause-as_long c =
    let fit = parts_fit (goals_of c.args.goals.now) c.requires c.as_slice-roots.result.now (roots_read (goals_of c.args.goals.now) _ _ c.as_slice-roots.ensures.value c.in_ok-found_roots.ensures) in omega (arith, fit)

pub deal-requires-2-clause-within : goal.deal-requires-2-clause-within
deal-requires-2-clause-within c =
    found_within (goals_of c.args.goals.now) c.requires c.as_slice-roots.result.now (roots_read (goals_of c.args.goals.now) _ _ c.as_slice-roots.ensures.value c.in_ok-found_roots.ensures)

pub deal-requires-2-clause-as_long : goal.deal-requires-2-clause-as_long
deal-requires-2-clause-as_long c =
    let fit = parts_fit (goals_of c.args.goals.now) c.requires c.as_slice-roots.result.now (roots_read (goals_of c.args.goals.now) _ _ c.as_slice-roots.ensures.value c.in_ok-found_roots.ensures) in
    omega (arith, fit, c.len.ensures)

pub numbered_parts-requires-clause-as_many_proofs : goal.numbered_parts-requires-clause-as_many_proofs
numbered_parts-requires-clause-as_many_proofs c =
    as_many_proofs (goals_of c.args.goals.now) c.requires c.as_slice-roots.result.now (roots_read (goals_of c.args.goals.now) _ _ c.as_slice-roots.ensures.value c.in_ok-found_roots.ensures) c.as_slice.result.now
    c.as_slice-2.result.now c.len.result c.len.ensures (c.as_slice.ensures.value ∙ c.in_ok-proofs.ensures) (c.as_slice-2.ensures.value ∙ c.in_ok-witnesses.ensures)

pub numbered_parts-requires-clause-as_many_witnesses : goal.numbered_parts-requires-clause-as_many_witnesses
numbered_parts-requires-clause-as_many_witnesses c =
    as_many_witnesses (goals_of c.args.goals.now) c.requires c.as_slice-roots.result.now (roots_read (goals_of c.args.goals.now) _ _ c.as_slice-roots.ensures.value c.in_ok-found_roots.ensures) c.as_slice.result.now
    c.as_slice-2.result.now c.len.result c.len.ensures (c.as_slice.ensures.value ∙ c.in_ok-proofs.ensures) (c.as_slice-2.ensures.value ∙ c.in_ok-witnesses.ensures)

pub numbered_parts-requires-clause-distinct : goal.numbered_parts-requires-clause-distinct
numbered_parts-requires-clause-distinct c =
    all_distinct (goals_of c.args.goals.now) c.requires c.as_slice-roots.result.now (roots_read (goals_of c.args.goals.now) _ _ c.as_slice-roots.ensures.value c.in_ok-found_roots.ensures) c.as_slice.result.now
    c.as_slice-2.result.now c.len.result c.len.ensures (c.as_slice.ensures.value ∙ c.in_ok-proofs.ensures) (c.as_slice-2.ensures.value ∙ c.in_ok-witnesses.ensures)

pub returns-clause-goals : goal.returns-clause-goals
unfolding clusters
returns-clause-goals c =
    c.in_ok-found.ensures.goals
    ∙ split_made (goals_of c.args.goals.now) c.requires c.as_slice-roots.result.now (roots_read (goals_of c.args.goals.now) _ _ c.as_slice-roots.ensures.value c.in_ok-found_roots.ensures) c.as_slice.result.now
    c.as_slice-2.result.now c.len.result c.len.ensures (c.as_slice.ensures.value ∙ c.in_ok-proofs.ensures) (c.as_slice-2.ensures.value ∙ c.in_ok-witnesses.ensures) renumbered

pub returns-clause-renaming : goal.returns-clause-renaming
returns-clause-renaming c =
    c.in_ok-found.ensures.renaming
    ∙ split_made (goals_of c.args.goals.now) c.requires c.as_slice-roots.result.now (roots_read (goals_of c.args.goals.now) _ _ c.as_slice-roots.ensures.value c.in_ok-found_roots.ensures) c.as_slice.result.now
    c.as_slice-2.result.now c.len.result c.len.ensures (c.as_slice.ensures.value ∙ c.in_ok-proofs.ensures) (c.as_slice-2.ensures.value ∙ c.in_ok-witnesses.ensures) (λ part. numbered_pairs 0 (numbers_of part))
