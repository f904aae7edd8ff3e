use Rattle.std.proofs.Common.{◌<◌, sym, ap, ◌∙◌, subst}
use Rattle.lf_definitions.specs.GoalLists.{all_goals, AreDistinct}
use Rattle.goal_lists.specs.Numbering.{renumbered, numbered_pairs}
use Rattle.meta_goals.specs.GoalsOf.{goals_of}
use Rattle.goal_clusters.specs.Dealing.{part_at, numbers_of}
use Rattle.goal_clusters.proofs.Whole.{part_taken, part_passed, read_part}
use Rattle.goal_clusters.proofs.split.numbered_parts.Goals as goal
use Rattle.goal_clusters.proofs.split.numbered_parts.Goals.{then-roots-place+in_ok-numbered_part+in_ok-push, else-roots-place}

pub numbered_part-requires : goal.numbered_part-requires
numbered_part-requires c =
    let place = c.loop-place.place in
    let less = subst (λ n. place < n) (sym c.requires.as_many_proofs) c.loop-place-test.true in
    subst (λ part. AreDistinct (all_goals part))
    (sym (read_part c.args.proofs.now c.args.witnesses.now place c.index-proofs-place.result c.index-witnesses-place.result less (subst (λ n. place < n) (sym c.requires.as_many_witnesses) c.loop-place-test.true)
    c.index-proofs-place.is c.index-witnesses-place.is)) (c.requires.distinct place less)

pub loop-place-preserved : goal.loop-place-preserved
loop-place-preserved c =
    let place = c.loop-place.place in
    let rs = c.args.roots.now in
    let proofs = c.args.proofs.now in
    let witnesses = c.args.witnesses.now in
    let less = subst (λ n. place < n) (sym c.requires.as_many_proofs) c.loop-place-test.true in
    let within = subst (λ n. place < n) (sym c.requires.as_many_witnesses) c.loop-place-test.true in
    elim c.if-roots-place.branch [
      | then-roots-place+in_ok-numbered_part+in_ok-push w ↦
          let read = read_part proofs witnesses place w.index-proofs-place.result w.index-witnesses-place.result less within w.index-proofs-place.is w.index-witnesses-place.is in
          record {
            goals =
                part_taken (λ c. goals_of c.goals) (λ r. renumbered (part_at proofs witnesses r)) rs place c.loop-place.found.items c.if-roots-place.found.items w.in_ok-numbered_part.field-0 c.loop-place.invariant.goals
                w.if-roots-place.true (w.in_ok-numbered_part.ensures.goals ∙ ap renumbered read) (ap (λ v. v.items) w.found-is ∙ w.in_ok-push.ensures.items);
            renaming =
                part_taken (λ c. c.renaming) (λ r. numbered_pairs 0 (numbers_of (part_at proofs witnesses r))) rs place c.loop-place.found.items c.if-roots-place.found.items w.in_ok-numbered_part.field-0
                c.loop-place.invariant.renaming w.if-roots-place.true (w.in_ok-numbered_part.ensures.renaming ∙ ap (λ part. numbered_pairs 0 (numbers_of part)) read)
                (ap (λ v. v.items) w.found-is ∙ w.in_ok-push.ensures.items);
          }
      | else-roots-place w ↦
          record {
            goals =
                part_passed (λ c. goals_of c.goals) (λ r. renumbered (part_at proofs witnesses r)) rs place c.loop-place.found.items c.if-roots-place.found.items c.loop-place.invariant.goals w.if-roots-place.false
                (ap (λ v. v.items) w.found-is);
            renaming =
                part_passed (λ c. c.renaming) (λ r. numbered_pairs 0 (numbers_of (part_at proofs witnesses r))) rs place c.loop-place.found.items c.if-roots-place.found.items c.loop-place.invariant.renaming
                w.if-roots-place.false (ap (λ v. v.items) w.found-is);
          }
    ]
