-- What stands at each address of the unfolding is well formed, by recursion on the address.
use Rattle.std.proofs.Common.{◌≡◌, ℕ, Option, Some, None, List, [], ◌∷◌, All, refl, sym, subst, arith}
use Rattle.std.specs.Prelude.{slice_get}
use Rattle.std.proofs.lemmas.List.Elements.{All-nil, All-cons, All-weaker, All-map, All-get_or}
use Rattle.std.proofs.lemmas.Option.{slice_get_within, get_or_from_slice_get}
use Rattle.lf_definitions.specs.Syntax.{LfType, binders_of, conclusion_atom}
use Rattle.lf_definitions.specs.Typing.{Formed, LfGoal, goal_type}
use Rattle.lf_definitions.specs.Signatures.{LfSignature, FormedSignature, kinds_in, typing_in}
use Rattle.lf_definitions.specs.GoalLists.{LfGoals, all_goals, next_id, opening, AreDistinct, FormedGoal, FormedGoals}
use Rattle.typing_laws.proofs.GoalLists.{goals_are_their_types, goals_grow}
use Rattle.opening_laws.proofs.Shapes.{whole_type}
use Rattle.application_laws.specs.Conditions.{TakesAtoms}
use Rattle.alternatives.specs.Rules.{LfRule}
use Rattle.alternatives.specs.Alternatives.{LfAlternative}
use Rattle.clusters.specs.Clusters.{clusters}
use Rattle.derivations.specs.Derivations.{alternatives_of}
use Rattle.derivations.specs.Unfolding.{branches_of}
use Rattle.tree_runs.specs.Addresses.{Address, child_of, child_at, at_from}
use Rattle.step_laws.proofs.Numbers.{all_below_above}
use Rattle.typed_steps.specs.Laws.{KeepsTypes}
use Rattle.typed_steps.proofs.Alternatives.{alternatives_keep_types}
use Rattle.typed_nodes.specs.Laws.{NodesAreFormed}
use Rattle.typed_nodes.proofs.Clusters.{clusters_are_formed}

-- what is true of all entries, of the one at a place
entry : {X : Type 0} (P : X → Type 0) (xs : List X) → All P xs → (i : ℕ) (x : X) → slice_get xs i ≡ Some x → P x
entry P xs all i x e = subst P (get_or_from_slice_get xs i x x e) (All-get_or P xs i x (slice_get_within xs i x e) all)

-- The opening list of a well-formed type is well formed.
opening_formed : (sig : LfSignature) (a : LfType) → Formed (kinds_in sig) (typing_in sig [] []) a → FormedGoals sig (all_goals (opening a))
opening_formed sig a formed = (alone, All-cons (FormedGoal sig (first ∷ [])) first [] first_formed (All-nil (FormedGoal sig (first ∷ []))))
  where
    first : LfGoal
    first = record { id = 0; context = binders_of a; target = conclusion_atom a }

    alone : AreDistinct (first ∷ [])
    alone i j d less within = absurd (omega (arith, less, within))

    first_formed : FormedGoal sig (first ∷ []) first
    first_formed =
        (goals_are_their_types sig (first ∷ []) first).1
        (((goals_grow sig [] (first ∷ []) (All-nil _) alone).0 []).1 (goal_type first) (subst (Formed (kinds_in sig) (typing_in sig [] [])) (sym (whole_type a)) formed))

module _ (sig : LfSignature) (of_sig : FormedSignature sig) (rules : List LfRule) (atoms : All (λ rule. TakesAtoms sig rule.method) rules) where
  abbrev IsFormed : LfGoals → Type 0
  IsFormed list = FormedGoals sig (all_goals list)

  abbrev HasFormed : ℕ × List LfGoals → Type 0
  HasFormed branch = All IsFormed branch.1

  children_formed : (list : LfGoals) → IsFormed list → All HasFormed (branches_of sig rules list)
  unfolding branches_of
  children_formed list formed =
      let branch : LfAlternative → ℕ × List LfGoals = λ alternative. (alternative.percent, clusters alternative.goals) in
      All-map HasFormed branch (alternatives_of sig rules list)
      (All-weaker (λ (alternative : LfAlternative). KeepsTypes sig list alternative.goals alternative.build) (λ alternative. HasFormed (branch alternative))
      (λ alternative keeps. clusters_are_formed sig of_sig alternative.goals keeps.formed) (alternatives_of sig rules list)
      (alternatives_keep_types sig rules (next_id list) list (record { signature = of_sig; goals = formed; below = all_below_above (all_goals list); rules_take_atoms = atoms })))

  child_formed : (o : Option (ℕ × List LfGoals)) → ((branch : ℕ × List LfGoals) → o ≡ Some branch → HasFormed branch) → (place : ℕ) (c : LfGoals) → child_of (branches_of sig rules) o place ≡ Some c → IsFormed c
  child_formed None all place c e = absurd cc
  child_formed (Some branch) all place c e = entry IsFormed branch.1 (all branch refl) place c e

  formed_from : (o : Option LfGoals) → ((list : LfGoals) → o ≡ Some list → IsFormed list) → (address : Address) (list : LfGoals) → at_from (branches_of sig rules) o address ≡ Some list → IsFormed list
  formed_from None formed address list e = absurd cc
  formed_from (Some first) formed [] list e = formed list e
  formed_from (Some first) formed (step ∷ address) list e =
      formed_from (child_at (branches_of sig rules) first step.0 step.1)
      (λ c f. child_formed (slice_get (branches_of sig rules first) step.0)
      (λ branch b. entry HasFormed (branches_of sig rules first) (children_formed first (formed first refl)) step.0 branch b) step.1 c f)
      address list e

pub nodes_are_formed : NodesAreFormed
nodes_are_formed sig of_sig rules atoms = (
  children_formed sig of_sig rules atoms,
  λ a formed address list e.
      formed_from sig of_sig rules atoms (Some (opening a)) (λ first same. (let is : opening a ≡ first = cc in subst (IsFormed sig of_sig rules atoms) is (opening_formed sig a formed))) address list e,
)
