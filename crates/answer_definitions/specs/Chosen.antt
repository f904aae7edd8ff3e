-- The script that a set of proved addresses chooses.
use Rattle.std.specs.Prelude.{ℕ, zero, suc, Bool, true, false, not, ◌&&◌, ◌||◌, List, [], ◌∷◌, ◌++◌, length, Option, Some, None, slice_get, if◌then◌else◌, nat_eq}
use Rattle.lf_definitions.specs.Syntax.{LfType}
use Rattle.lf_definitions.specs.Typing.{LfGoal}
use Rattle.lf_definitions.specs.Signatures.{LfSignature}
use Rattle.lf_definitions.specs.GoalLists.{LfGoals, all_goals, first_goal, opening}
use Rattle.application_laws.specs.Conditions.{inside}
use Rattle.alternatives.specs.Rules.{LfRule}
use Rattle.alternatives.specs.Alternatives.{LfAlternative}
use Rattle.clusters.specs.Clusters.{classes, is_one_of}
use Rattle.derivations.specs.Derivations.{alternatives_of}
use Rattle.derivations.specs.Replays.{LfStep}
use Rattle.derivations.specs.Unfolding.{branches_of, goals_at}
use Rattle.tree_runs.specs.Addresses.{Address}

-- Children of one alternative are proved: so many of them, from a place on.
abbrev pub are_proved : (Address → Bool) → Address → ℕ → ℕ → ℕ → Bool
are_proved proved address alternative place zero = true
are_proved proved address alternative place (suc left) = proved (address ++ (alternative, place) ∷ []) && are_proved proved address alternative (suc place) left

-- The least alternative, from one on, all of whose children are proved.
abbrev pub least_proved : (Address → Bool) → Address → ℕ → List (ℕ × List LfGoals) → Option ℕ
least_proved proved address alternative [] = None
least_proved proved address alternative (branch ∷ rest) =
    if are_proved proved address alternative 0 (length branch.1) then Some alternative else least_proved proved address (suc alternative) rest

abbrev pub least_at : LfSignature → List LfRule → (Address → Bool) → Address → Option LfGoals → Option ℕ
least_at sig rules proved address None = None
least_at sig rules proved address (Some list) = least_proved proved address 0 (branches_of sig rules list)

-- the alternative that is chosen at an address of the unfolding of a type
abbrev pub chosen_at : LfSignature → List LfRule → LfType → (Address → Bool) → Address → Option ℕ
chosen_at sig rules a proved address = least_at sig rules proved address (goals_at sig rules a address)

abbrev pub same_address : Address → Address → Bool
same_address [] [] = true
same_address [] (q ∷ qs) = false
same_address (p ∷ ps) [] = false
same_address (p ∷ ps) (q ∷ qs) = nat_eq p.0 q.0 && (nat_eq p.1 q.1 && same_address ps qs)

-- After a step a goal is moved where it is new, or carried the address of the step.
abbrev pub is_moved : LfGoals → (ℕ → Address) → Address → ℕ → Bool
is_moved before carried address m = not (is_one_of (all_goals before) m) || same_address (carried m) address

-- the place of the first class that has a goal of this number
abbrev pub class_place : List (List LfGoal) → ℕ → ℕ
class_place [] m = 0
class_place (class ∷ rest) m = if is_one_of class m then 0 else suc (class_place rest m)

-- Goals that are moved carry the addresses of their clusters among them, and all others keep theirs.
abbrev pub carried_after : LfGoals → (ℕ → Address) → Address → ℕ → LfGoals → ℕ → Address
carried_after before carried address alternative after m =
    if is_moved before carried address m
    then address ++ (alternative, class_place (classes (inside (is_moved before carried address) (all_goals after))) m) ∷ []
    else carried m

abbrev pub step_of : LfAlternative → LfStep
step_of alternative = record { norm = alternative.norm; last = alternative.last }

-- One step: the alternative of this number, and then what follows from its list.
abbrev pub step_then : Option LfAlternative → (LfAlternative → List LfStep) → List LfStep
step_then None onward = []
step_then (Some alternative) onward = step_of alternative ∷ onward alternative

abbrev pub choose_then : Option ℕ → (ℕ → List LfStep) → List LfStep
choose_then None onward = []
choose_then (Some alternative) onward = onward alternative

abbrev pub first_then : Option LfGoal → (LfGoal → List LfStep) → List LfStep
first_then None onward = []
first_then (Some g) onward = onward g

-- The steps from a list on, whose goals carry addresses: each is the alternative that is chosen at the first goal's address. There are `most` of them at most.
abbrev pub chosen_from : LfSignature → List LfRule → LfType → (Address → Bool) → ℕ → LfGoals → (ℕ → Address) → List LfStep
chosen_from sig rules a proved zero list carried = []
chosen_from sig rules a proved (suc most) list carried =
    first_then (first_goal list) (λ g.
    choose_then (chosen_at sig rules a proved (carried g.id)) (λ i.
    step_then (slice_get (alternatives_of sig rules list) i) (λ alternative.
    chosen_from sig rules a proved most alternative.goals (carried_after list carried (carried g.id) i alternative.goals))))

-- The chosen script of a theorem, by which addresses are proved; it has no more steps than addresses were committed. The goal of the opening list carries the empty address.
unfoldable pub chosen_script : LfSignature → List LfRule → LfType → (Address → Bool) → ℕ → List LfStep
chosen_script sig rules a proved most = chosen_from sig rules a proved most (opening a) (λ m. [])
