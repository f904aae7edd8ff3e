-- What each turn of following a script does.
use Rattle.std.specs.Prelude.{◌≡◌, ℕ, suc, List, [], ◌∷◌, ◌++◌, All, Option, Some, None}
use Rattle.lf_definitions.specs.Syntax.{LfTerm, LfType}
use Rattle.lf_definitions.specs.ShapedGoals.{ShapedSignature}
use Rattle.lf_definitions.specs.Signatures.{LfSignature}
use Rattle.lf_definitions.specs.GoalLists.{all_goals}
use Rattle.lf_functions.specs.Instances.{instance_of}
use Rattle.application_laws.specs.Conditions.{TakesAtoms}
use Rattle.alternatives.specs.Rules.{LfRule}
use Rattle.derivations.specs.Replays.{LfStep, replayed_from}
use Rattle.meta_goals.specs.Bindings.{LfBinding, assigning}
use Rattle.meta_goals.specs.GoalsOf.{goals_of}
use Rattle.goal_book.specs.GoalBooks.{LfBook, rules_in}
use Rattle.proof_replay.specs.declared.following.Run.{Run}
use Rattle.proof_replay.specs.declared.following.Run.TheVariants.{Led, Refused}
use Rattle.proof_replay.specs.declared.following.Trail.{Trail}
use Rattle.proof_replay.specs.declared.replayed.Replayed.{Replayed}
use Rattle.proof_replay.specs.Seen.{seen_replayed}
use Rattle.proof_replay.specs.Leading.{BuildTakes}
use Rattle.proof_replay.specs.Runs.{LfRun, led, refused}

-- The signature is shaped, and no rule takes a hypothesis for an argument that has binders.
pub record MayBeFollowed (b : LfBook) : Type 0 where
  pub signature : ShapedSignature b.sig
  pub rules_take_atoms : All (λ (rule : LfRule). TakesAtoms b.sig rule.method) (rules_in b)

abbrev pub seen_run : Run → LfRun
seen_run (Led builds) = led builds.items
seen_run (Refused answer) = refused (seen_replayed answer)

-- One build more leads on, and whatever comes after the step comes after the new list.
pub record GoesOn (sig : LfSignature) (rules : List LfRule) (step : LfStep) (k : ℕ) (old new : Trail) : Type 0 where
  pub build : List LfBinding
  pub builds_are : new.builds.items ≡ old.builds.items ++ build ∷ []
  pub takes : BuildTakes sig (goals_of old.list) (goals_of new.list) build
  pub continues : (a : LfType) (rest : List LfStep) (t : LfTerm) →
      replayed_from sig rules a (goals_of old.list) t k (step ∷ rest)
      ≡ replayed_from sig rules a (goals_of new.list) (instance_of (all_goals (goals_of old.list)) (assigning build) t) (suc k) rest

-- The script ends at the step with an answer, or goes on.
abbrev pub IsTurn : LfSignature → List LfRule → LfStep → ℕ → Trail → Trail → Option Replayed → Type 0
IsTurn sig rules step k old new None = GoesOn sig rules step k old new
IsTurn sig rules step k old new (Some answer) = (a : LfType) (rest : List LfStep) (t : LfTerm) → replayed_from sig rules a (goals_of old.list) t k (step ∷ rest) ≡ seen_replayed answer

-- After all steps, the builds so far lead to no goals, or some are left.
abbrev pub EndsTrail : Trail → ℕ → Run → Type 0
EndsTrail trail count (Led builds) = (builds.items ≡ trail.builds.items) × (all_goals (goals_of trail.list) ≡ [])
EndsTrail trail count (Refused answer) =
    (sig : LfSignature) (rules : List LfRule) (a : LfType) (t : LfTerm) → replayed_from sig rules a (goals_of trail.list) t count [] ≡ seen_replayed answer
