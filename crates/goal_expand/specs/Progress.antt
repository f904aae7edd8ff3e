-- What normalisation has made of a list, and what may come next.
use Rattle.std.specs.Prelude.{◌≡◌, ℕ, Bool, true, false, List, [], ◌∷◌, ◌++◌, map, Option, Some, None}
use Rattle.lf_definitions.specs.Signatures.{LfSignature}
use Rattle.lf_definitions.specs.GoalLists.{LfGoals, all_goals, next_id}
use Rattle.applications.specs.Methods.{LfLabel}
use Rattle.meta_goals.specs.Bindings.{LfBinding, assigned_of}
use Rattle.meta_goals.specs.GoalsOf.{goals_of}
use Rattle.meta_goals.specs.Laws.{HaveShapesOf}
use Rattle.alternatives.specs.Rules.{LfRule}
use Rattle.alternatives.specs.ListsAfter.{list_after}
use Rattle.alternatives.specs.NormalForms.{has_none, LfNormal, normal_form}
use Rattle.alternatives.specs.Alternatives.{LfLast, safely, LfAlternative, taken, first_safe, committed_or_chosen}
use Rattle.alternatives.specs.Steps.{IsStep}
use Rattle.alternatives.specs.Reaching.{MayBeExpanded}
use Rattle.build_shared.specs.declared.app.App.{App}
use Rattle.build_shared.specs.Seen.{seen_label, seen_application}
use Rattle.goal_book.specs.GoalBooks.{LfBook, rules_in}
use Rattle.goal_book.specs.Choices.{LfChoice}
use Rattle.goal_expand.specs.declared.given.Given.{Given}
use Rattle.goal_expand.specs.declared.progress.Reached.{Reached}
use Rattle.goal_expand.specs.declared.progress.Progress.{Progress}
use Rattle.goal_expand.specs.Reaching.{IsReachedBy, built, IsOnTheWay, IsNormal}

-- A list that the rules of a book may be asked about.
abbrev pub MayExpand : LfBook → LfGoals → Type 0
MayExpand book list = MayBeExpanded book.sig (rules_in book) (next_id list) list

abbrev pub sig_given : Given → LfSignature
sig_given g = g.book.now.sig

abbrev pub rules_given : Given → List LfRule
rules_given g = rules_in g.book.now

abbrev pub list_given : Given → LfGoals
list_given g = goals_of g.goals.now

-- The list may be expanded, and the number is its first fresh one.
pub record IsGiven (g : Given) : Type 0 where
  pub may_expand : MayExpand g.book.now (list_given g)
  pub first_is : g.first ≡ next_id (list_given g)

-- the list after the steps, which is the one that was given where none was made
abbrev pub goals_reached : LfGoals → Option Reached → LfGoals
goals_reached list None = list
goals_reached list (Some r) = goals_of r.goals

-- what they assign
abbrev pub bindings_reached : Option Reached → List LfBinding
bindings_reached None = []
bindings_reached (Some r) = r.build

abbrev pub goals_made : Given → Progress → LfGoals
goals_made g p = goals_reached (list_given g) p.reached

abbrev pub labels_made : Progress → List LfLabel
labels_made p = map seen_label p.labels.items

abbrev pub IsReachedFrom : Given → Option Reached → Type 0
IsReachedFrom g reached = IsReachedBy (sig_given g) (list_given g) (goals_reached (list_given g) reached) (bindings_reached reached)

-- An application is a step from a list, and each of its entries has the shapes of its goal's context.
pub record IsNext (sig : LfSignature) (goals : LfGoals) (app : App) : Type 0 where
  pub step : IsStep sig (next_id goals) goals (seen_application app)
  pub shapes : HaveShapesOf (all_goals goals) app.assign

-- from the list that was reached
abbrev pub MayBeNext : Given → Option Reached → App → Type 0
MayBeNext g reached app = IsNext (sig_given g) (goals_reached (list_given g) reached) app

-- What one more application makes of what was made of a list.
pub record IsOneStep (list : LfGoals) (app : App) (old new : Progress) : Type 0 where
  pub labels_are : labels_made new ≡ labels_made old ++ seen_label app.label ∷ []
  pub closed_is : new.closed ≡ has_none app.proofs
  pub goals_are : goals_reached list new.reached ≡ list_after (goals_reached list old.reached) (seen_application app)
  pub build_is : map assigned_of (bindings_reached new.reached) ≡ built list (goals_reached list old.reached) (bindings_reached old.reached) app.assign
  pub shapes : HaveShapesOf (all_goals list) (bindings_reached new.reached)

-- The goal is not closed, and at most `left` steps are left.
abbrev pub IsUnderWay : Given → ℕ → Progress → Type 0
IsUnderWay g left p = (p.closed ≡ false) × IsOnTheWay (sig_given g) (rules_given g) (list_given g) left (labels_made p) (goals_made g p) (bindings_reached p.reached)

-- The normal form was made.
abbrev pub HasEnded : Given → Progress → Type 0
HasEnded g p =
    IsNormal (normal_form (sig_given g) (rules_given g) (next_id (list_given g)) (list_given g)) (labels_made p) p.closed (goals_made g p) (bindings_reached p.reached)
    × HaveShapesOf (all_goals (list_given g)) (bindings_reached p.reached)

-- Either, by whether normalisation has ended.
abbrev pub IsAfterTurn : Given → ℕ → Bool → Progress → Type 0
IsAfterTurn g left true p = HasEnded g p
IsAfterTurn g left false p = IsUnderWay g left p

-- what was made, as a normal form
abbrev pub normal_made : Given → Progress → LfNormal
normal_made g p = record { labels = labels_made p; closed = p.closed; goals = goals_made g p; build = map assigned_of (bindings_reached p.reached); fresh = next_id (goals_made g p) }

-- the alternative of an application after steps that have these labels
abbrev pub after_application : Given → Option Reached → List LfLabel → LfLast → ℕ → App → LfAlternative
after_application g reached labels last percent app = record {
  norm = labels;
  last = last;
  percent = percent;
  goals = list_after (goals_reached (list_given g) reached) (seen_application app);
  build = built (list_given g) (goals_reached (list_given g) reached) (bindings_reached reached) app.assign;
}

-- an application that is committed
abbrev pub committed_by : Given → Progress → App → LfAlternative
committed_by g p app = taken (list_given g) (normal_made g p) (safely (seen_label app.label)) 100 (seen_application app)

-- a choice
abbrev pub as_taken : Given → Progress → LfChoice → LfAlternative
as_taken g p c = taken (list_given g) (normal_made g p) c.last c.percent c.application

-- the alternatives of what was made, where it is not closed
abbrev pub alternatives_made : Given → Progress → List LfAlternative
alternatives_made g p =
    committed_or_chosen (sig_given g) (rules_given g) (list_given g) (normal_made g p) (first_safe (sig_given g) (rules_given g) (next_id (goals_made g p)) (goals_made g p))

-- where no safe application may be committed
abbrev pub choices_made : Given → Progress → List LfAlternative
choices_made g p = committed_or_chosen (sig_given g) (rules_given g) (list_given g) (normal_made g p) None
