-- Normal forms and alternatives of the code, seen as plain data.
use Rattle.std.specs.Prelude.{◌≡◌, List, map, All}
use Rattle.lf_definitions.specs.GoalLists.{LfGoals, all_goals, next_id}
use Rattle.applications.specs.Methods.{LfLabel}
use Rattle.meta_goals.specs.Bindings.{assigned_of}
use Rattle.meta_goals.specs.GoalsOf.{goals_of}
use Rattle.meta_goals.specs.Laws.{HaveShapesOf}
use Rattle.alternatives.specs.NormalForms.{normal_form}
use Rattle.alternatives.specs.Alternatives.{LfLast, done, safely, unsafely, late, LfAlternative}
use Rattle.build_shared.specs.Seen.{seen_label}
use Rattle.goal_book.specs.GoalBooks.{LfBook, rules_in}
use Rattle.goal_expand.specs.declared.alternative.Alternative.{Alternative}
use Rattle.goal_expand.specs.declared.alternative.Last.{Last}
use Rattle.goal_expand.specs.declared.alternative.Last.TheVariants.{Done, Safe, Unsafe, Late}
use Rattle.goal_expand.specs.declared.one_more.Taken.{Taken}
use Rattle.goal_expand.specs.declared.one_more.Taken.TheVariants.{Committed, Chosen, Postponed}
use Rattle.goal_expand.specs.declared.normal.Normed.{Normed}
use Rattle.goal_expand.specs.declared.progress.Progress.{Progress}
use Rattle.goal_expand.specs.Reaching.{IsNormal}
use Rattle.goal_expand.specs.Progress.{goals_reached, bindings_reached, labels_made}

abbrev pub seen_last : Last → LfLast
seen_last Done = done
seen_last (Safe label) = safely (seen_label label)
seen_last (Unsafe label) = unsafely (seen_label label)
seen_last (Late label) = late (seen_label label)

abbrev pub seen_alternative : Alternative → LfAlternative
seen_alternative a = record {
  norm = map seen_label a.norm.items;
  last = seen_last a.last;
  percent = a.percent;
  goals = goals_of a.goals;
  build = map assigned_of a.build;
}

-- what an application of this label is
abbrev pub last_as : Taken → LfLabel → LfLast
last_as Committed label = safely label
last_as Chosen label = unsafely label
last_as Postponed label = late label

-- What each alternative assigns has the shapes of the contexts of the goals of a list.
abbrev pub HaveShapes : LfGoals → List Alternative → Type 0
HaveShapes list found = All (λ alternative. HaveShapesOf (all_goals list) alternative.build) found

-- the normal form of a list, by the rules of a book
abbrev pub IsNormedOf : LfBook → LfGoals → Normed → Type 0
IsNormedOf book list n = IsNormal (normal_form book.sig (rules_in book) (next_id list) list) (map seen_label n.labels.items) n.closed (goals_of n.goals) n.build

-- what was made of a list
pub record IsAsMade (list : LfGoals) (p : Progress) (n : Normed) : Type 0 where
  pub labels_are : n.labels.items ≡ p.labels.items
  pub closed_is : n.closed ≡ p.closed
  pub goals_are : goals_of n.goals ≡ goals_reached list p.reached
  pub build_is : n.build ≡ bindings_reached p.reached

-- the alternative where normalisation closed the goal
abbrev pub done_with : LfGoals → Progress → LfAlternative
done_with list p = record { norm = labels_made p; last = done; percent = 100; goals = goals_reached list p.reached; build = map assigned_of (bindings_reached p.reached) }
