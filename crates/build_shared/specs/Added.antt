-- New goals with one more hypothesis, of the code's atoms.
use Rattle.std.specs.Prelude.{ℕ, ◌<◌, List, [], ◌∷◌, length, All, Bool, true, not, ◌&&◌, if◌then◌else◌}
use Rattle.lf_definitions.specs.Syntax.{metavariable, LfTerm, at, no_args, arg, joined, LfAtom, atomic, LfType, Context}
use Rattle.lf_definitions.specs.Typing.{LfGoal}
use Rattle.opening_laws.specs.Openings.{AreKept, is_kept, kept_variables}
use Rattle.opening_laws.specs.Conditions.{MentionsNone, is_dropped}
use Rattle.applications.specs.OpenedTypes.{kept_entries}
use Rattle.lf_functions.specs.Checking.{equal_types}
use Rattle.applications.specs.Candidates.{LfHypothesis}
use Rattle.applications.specs.Applications.{Completion, goal_with, returned, mentions_none}
use Rattle.build_shared.specs.Conditions.{HasShapes}

-- what the goal becomes by a new goal of this number, and the new goal
abbrev pub with_one_more : ℕ → LfGoal → List ℕ → LfAtom → LfTerm → Completion
with_one_more number g kept fact proof = record {
  becomes_term = at (metavariable number) (joined (kept_variables kept (length g.context) (kept_entries kept 0 g.context)) (arg proof no_args));
  more = goal_with number g kept fact ∷ [];
}

-- Kept places are places of the context, where nothing mentions a dropped one.
pub record CanAdd (g : LfGoal) (kept : List ℕ) (fact : LfAtom) : Type 0 where
  pub are_places : All (λ place. place < length g.context) kept
  pub entries_kept : AreKept kept 0 g.context (kept_entries kept 0 g.context)
  pub fact_is_clean : MentionsNone (is_dropped kept (length g.context)) (atomic fact)
  pub target_is_clean : MentionsNone (is_dropped kept (length g.context)) (atomic g.target)
  pub target_has_shapes : HasShapes (atomic (returned kept g.context g.target))

-- A type is another one than the fact, and mentions no dropped place of the context; of a hypothesis this is asked if it is kept.
abbrev pub fits_beside : Context → List ℕ → LfType → LfType → Bool
fits_beside ctx dropped fact a = not (equal_types a fact) && mentions_none ctx dropped a

abbrev pub one_test : (LfType → Bool) → List ℕ → LfHypothesis → Bool
one_test test kept h = if is_kept kept h.place then test h.type else true
