use Rattle.std.proofs.Common.{ap, ◌∙◌, map}
use Rattle.std.specs.Prelude.{nat_eq}
use Rattle.std.specs.Map.{lookup}
use Rattle.goal_clusters.specs.declared.split.Cluster.{Cluster}
use Rattle.indexmap.specs.IndexMap.{get}
use Rattle.meta_goals.specs.GoalsOf.{goals_of}
use Rattle.proof_extract.specs.Tables.{given, moves}
use Rattle.proof_extract.proofs.Insides.{distinct_moved}
use Rattle.proof_extract.proofs.Moving.{entry_after}
use Rattle.proof_extract.proofs.carried.table_after.Goals as goal

pub clusters-requires : goal.clusters-requires
clusters-requires c = distinct_moved (λ m. moves c.args.node (get nat_eq c.args.carried.now m)) (goals_of c.args.goals.now) (goals_of c.in_ok-moved.moved) c.in_ok-moved.ensures c.requires

pub returns : goal.returns
returns c = λ before nodes is_table m.
    entry_after before (goals_of c.args.goals.now) nodes c.args.node c.args.first (get nat_eq c.args.carried.now) is_table (goals_of c.in_ok-moved.moved) c.in_ok-moved.ensures c.requires m
    _ _ _ _ (ap (lookup (nat_eq m)) c.new-made.ensures.empty) (c.in_ok-keep.ensures m) (c.in_ok-keep-2.ensures m)
    (c.in_ok-give_classes.ensures m
    ∙ ap (λ pairs. given c.args.first pairs m (get nat_eq c.keep-2.new.made m)) (ap (map (λ (x : Cluster). x.renaming)) c.as_slice.ensures.value ∙ c.in_ok-classes.ensures.renaming))
