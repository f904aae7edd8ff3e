-- What is chosen, and what is known of it, depends only on what the goals of the list carry.
use mathlib.Core.Path.{fun_ext}
use Rattle.std.proofs.Common.{◌≡◌, ℕ, zero, suc, Bool, true, false, not, ◌||◌, Option, Some, None, List, [], ◌∷◌, ◌++◌, refl, sym, ap, ap₂, ◌∙◌, subst}
use Rattle.std.specs.Prelude.{if◌then◌else◌, slice_get}
use Rattle.std.specs.List.{Contains}
use Rattle.std.proofs.lemmas.List.Elements.{All-contains, Contains-append_left, Contains-append_right}
use Rattle.lf_definitions.specs.Syntax.{metavariable, LfType}
use Rattle.lf_definitions.specs.Occurrence.{OccursInGoal}
use Rattle.lf_definitions.specs.Typing.{LfGoal}
use Rattle.lf_definitions.specs.Signatures.{LfSignature}
use Rattle.lf_definitions.specs.GoalLists.{LfGoals, all_goals, ids, first_goal}
use Rattle.goal_lists.specs.Numbering.{renumbered}
use Rattle.goal_lists.proofs.RenamedLists.{AreClosed-ShapedGoals}
use Rattle.application_laws.specs.Conditions.{inside, goals_inside}
use Rattle.alternatives.specs.Rules.{LfRule}
use Rattle.clusters.specs.Clusters.{classes, is_one_of}
use Rattle.clusters.proofs.Elements.{all_elements, mapped_has}
use Rattle.framed_alternatives.proofs.Insides.{goals_of, inside-same}
use Rattle.carried_alternatives.specs.Laws.{inside_by_place}
use Rattle.derivations.specs.Derivations.{alternatives_of}
use Rattle.derivations.specs.Replays.{LfStep}
use Rattle.derivations.specs.Unfolding.{goals_at}
use Rattle.tree_runs.specs.Addresses.{Address}
use Rattle.answer_definitions.specs.Chosen.{chosen_at, same_address, is_moved, class_place, carried_after, step_then, choose_then, first_then, chosen_from}
use Rattle.chosen_scripts.proofs.Spent.{IsSpent}
use Rattle.chosen_scripts.proofs.Places.{number_contained, first_contained}
use Rattle.chosen_scripts.proofs.Carried.{carries, Stands, IsCarried}

-- the opposite of a test, or another: where both fail, the first passes
not_or_false : (b c : Bool) → (not b || c) ≡ false → b ≡ true
not_or_false true c e = refl
not_or_false false c e = absurd cc

pub id_contained : (goals : List LfGoal) (h : LfGoal) → Contains goals h → Contains (ids goals) h.id
id_contained goals h has = mapped_has (λ (x : LfGoal). x.id) goals h has

-- Where a goal of the list isn't moved, it was there before.
pub not_moved_is_old : (list : LfGoals) (m : ℕ) (test : Bool) → (not (is_one_of (all_goals list) m) || test) ≡ false → Contains (ids (all_goals list)) m
not_moved_is_old list m test e = number_contained (all_goals list) m (not_or_false (is_one_of (all_goals list) m) test e)

module _ (list : LfGoals) (carried other : ℕ → Address) (agree : (m : ℕ) → Contains (ids (all_goals list)) m → carried m ≡ other m) where
  agree_on : (h : LfGoal) → Contains (all_goals list) h → carried h.id ≡ other h.id
  agree_on h has = agree h.id (id_contained (all_goals list) h has)

  moved_alike : (address : Address) (m : ℕ) → is_moved list carried address m ≡ is_moved list other address m
  moved_alike address m = step (is_one_of (all_goals list) m) refl
    where
      step : (b : Bool) → is_one_of (all_goals list) m ≡ b → (not b || same_address (carried m) address) ≡ (not b || same_address (other m) address)
      step true e = ap (λ d. same_address d address) (agree m (number_contained (all_goals list) m e))
      step false e = refl

  carried_at : (address : Address) (i : ℕ) (after : LfGoals) (m : ℕ) → carried_after list carried address i after m ≡ carried_after list other address i after m
  carried_at address i after m =
      ap (λ (test : ℕ → Bool). if test m then address ++ (i, class_place (classes (inside test (all_goals after))) m) ∷ [] else carried m) (fun_ext (moved_alike address))
      ∙ step (is_moved list other address m) refl
    where
      child : Address
      child = address ++ (i, class_place (classes (inside (is_moved list other address) (all_goals after))) m) ∷ []

      step : (b : Bool) → is_moved list other address m ≡ b → (if b then child else carried m) ≡ (if b then child else other m)
      step true e = refl
      step false e = agree m (not_moved_is_old list m (same_address (other m) address) e)

  carried_alike : carried_after list carried ≡ carried_after list other
  carried_alike = fun_ext (λ address. fun_ext (λ i. fun_ext (λ after. fun_ext (λ m. carried_at address i after m))))

  module _ (sig : LfSignature) (rules : List LfRule) (a : LfType) (proved : Address → Bool) where
    abbrev script_at : ℕ → Address → (Address → ℕ → LfGoals → ℕ → Address) → List LfStep
    script_at most address onward =
        choose_then (chosen_at sig rules a proved address) (λ i. step_then (slice_get (alternatives_of sig rules list) i) (λ alternative. chosen_from sig rules a proved most alternative.goals (onward address i alternative.goals)))

    -- The script from the list on is the same.
    pub script_alike : (most : ℕ) → chosen_from sig rules a proved most list carried ≡ chosen_from sig rules a proved most list other
    script_alike zero = refl
    script_alike (suc most) = step (first_goal list) refl
      where
        step : (o : Option LfGoal) → first_goal list ≡ o →
            first_then o (λ g. script_at most (carried g.id) (carried_after list carried)) ≡ first_then o (λ g. script_at most (other g.id) (carried_after list other))
        step None none = refl
        step (Some g) first = ap₂ (script_at most) (agree_on g (first_contained (all_goals list) g first)) carried_alike

    carriers_alike : (d : Address) → goals_inside (carries carried d) list ≡ goals_inside (carries other d) list
    carriers_alike d =
        ap₂ goals_of
        (inside-same (carries carried d) (carries other d) list.proofs
        (all_elements (λ h. carries carried d h.id ≡ carries other d h.id) list.proofs (λ h has. ap (λ e. same_address e d) (agree_on h (Contains-append_left list.proofs list.witnesses h has)))))
        (inside-same (carries carried d) (carries other d) list.witnesses
        (all_elements (λ h. carries carried d h.id ≡ carries other d h.id) list.witnesses (λ h has. ap (λ e. same_address e d) (agree_on h (Contains-append_right list.proofs list.witnesses h has)))))

    stands_alike : (h : LfGoal) → Contains (all_goals list) h → Stands sig rules a proved list carried h → Stands sig rules a proved list other h
    stands_alike h has stood = record {
      there = subst (λ d. goals_at sig rules a d ≡ Some (inside_by_place (carries other d) list)) (agree_on h has) (stood.there ∙ ap (λ l. Some (renumbered l)) (carriers_alike (carried h.id)));
      is_proved = subst (λ d. proved d ≡ true) (agree_on h has) stood.is_proved;
    }

    -- And so is what is known of it.
    pub known_alike : IsCarried sig rules a proved list carried → IsCarried sig rules a proved list other
    known_alike known = record {
      may = known.may;
      mention = λ h has m o.
          sym (agree m (All-contains (λ x. (n : ℕ) → OccursInGoal (metavariable n) x → Contains (ids (all_goals list)) n) (all_goals list) h (AreClosed-ShapedGoals sig (all_goals list) known.may.goals) has m o))
          ∙ (known.mention h has m o ∙ agree_on h has);
      stand = λ h has. stands_alike h has (known.stand h has);
    }

  pub spent_alike : (committed used : List Address) (most : ℕ) → IsSpent committed used most carried (all_goals list) → IsSpent committed used most other (all_goals list)
  spent_alike committed used most spent = record {
    differ = spent.differ;
    among = spent.among;
    count = spent.count;
    parents = spent.parents;
    unspent = λ h has there. spent.unspent h has (subst (Contains used) (sym (agree_on h has)) there);
    below = λ h has above step e. spent.below h has above step (agree_on h has ∙ e);
  }
