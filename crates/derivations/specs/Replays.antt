-- Scripts, and what comes of following them.
use Rattle.std.specs.Prelude.{ℕ, suc, Bool, true, false, ◌&&◌, List, [], ◌∷◌, length, Option, Some, None, if◌then◌else◌, nat_eq, find}
use Rattle.lf_definitions.specs.Syntax.{metavariable, LfTerm, at, lams, LfType, binders_of, shape_of}
use Rattle.lf_definitions.specs.Expansion.{own_variables}
use Rattle.lf_definitions.specs.Signatures.{LfSignature}
use Rattle.lf_definitions.specs.GoalLists.{LfGoals, all_goals, opening}
use Rattle.lf_definitions.specs.Instantiation.{assignment_of}
use Rattle.lf_functions.specs.Instances.{instance_of}
use Rattle.applications.specs.Methods.{LfLabel}
use Rattle.alternatives.specs.Rules.{LfRule}
use Rattle.alternatives.specs.NormalForms.{has_none}
use Rattle.alternatives.specs.Alternatives.{LfLast, done, safely, unsafely, late, LfAlternative}
use Rattle.derivations.specs.Derivations.{alternatives_of}

-- what a script says of an alternative: the labels of its normalisation and its last step
pub record LfStep : Type 0 where
  pub norm : List LfLabel
  pub last : LfLast

abbrev pub same_numbers : List ℕ → List ℕ → Bool
same_numbers [] [] = true
same_numbers [] (k ∷ ks) = false
same_numbers (n ∷ ns) [] = false
same_numbers (n ∷ ns) (k ∷ ks) = nat_eq n k && same_numbers ns ks

abbrev pub same_label : LfLabel → LfLabel → Bool
same_label l k = nat_eq l.of_rule k.of_rule && (nat_eq l.choice k.choice && same_numbers l.hypotheses k.hypotheses)

abbrev pub same_labels : List LfLabel → List LfLabel → Bool
same_labels [] [] = true
same_labels [] (k ∷ ks) = false
same_labels (l ∷ ls) [] = false
same_labels (l ∷ ls) (k ∷ ks) = same_label l k && same_labels ls ks

abbrev pub same_last : LfLast → LfLast → Bool
same_last done done = true
same_last done (safely k) = false
same_last done (unsafely k) = false
same_last done (late k) = false
same_last (safely l) done = false
same_last (safely l) (safely k) = same_label l k
same_last (safely l) (unsafely k) = false
same_last (safely l) (late k) = false
same_last (unsafely l) done = false
same_last (unsafely l) (safely k) = false
same_last (unsafely l) (unsafely k) = same_label l k
same_last (unsafely l) (late k) = false
same_last (late l) done = false
same_last (late l) (safely k) = false
same_last (late l) (unsafely k) = false
same_last (late l) (late k) = same_label l k

-- A step is the one of an alternative.
abbrev pub is_step_of : LfStep → LfAlternative → Bool
is_step_of step alternative = same_labels step.norm alternative.norm && same_last step.last alternative.last

-- What comes of a script: a closed term; or a step that no alternative has, by its number from 0; or a step with no goal left before it; or goals left after all steps, of which
-- there were so many.
pub data LfReplayed : Type 0 where
  closed : LfTerm → LfReplayed
  no_such_step : ℕ → LfReplayed
  steps_left : ℕ → LfReplayed
  goals_left_after : ℕ → LfReplayed

-- metavariable 0 applied to the eta-long forms of the variables of a type's binders, the oldest first
abbrev pub own_term : LfType → LfTerm
own_term a = at (metavariable 0) (own_variables (shape_of a))

abbrev pub followed : ℕ → (LfAlternative → LfReplayed) → Option LfAlternative → LfReplayed
followed k onward None = no_such_step k
followed k onward (Some alternative) = onward alternative

-- A script followed from its k-th step on, for a theorem of a type, where these goals are left and the term has become this one.
abbrev pub replayed_from : LfSignature → List LfRule → LfType → LfGoals → LfTerm → ℕ → List LfStep → LfReplayed
replayed_from sig rules a list t k [] = if has_none (all_goals list) then closed (lams (length (binders_of a)) t) else goals_left_after k
replayed_from sig rules a list t k (step ∷ rest) =
    if has_none (all_goals list) then steps_left k
    else followed k (λ alternative. replayed_from sig rules a alternative.goals (instance_of (all_goals list) (assignment_of alternative.build) t) (suc k) rest)
    (find (is_step_of step) (alternatives_of sig rules list))

-- The script of a theorem, followed from the opening list of its type.
unfoldable pub replay : LfSignature → List LfRule → LfType → List LfStep → LfReplayed
replay sig rules a script = replayed_from sig rules a (opening a) (own_term a) 0 script
