-- The chosen script from a list on closes it, and so the whole script closes the theorem.
use Rattle.std.proofs.Common.{◌≡◌, ◌≢◌, inl, inr, ℕ, zero, suc, Bool, true, Option, Some, None, List, [], ◌∷◌, ◌++◌, length, AllPairs, refl, sym, ap, ◌∙◌, subst, arith}
use Rattle.std.specs.Prelude.{slice_get}
use Rattle.std.specs.List.{Contains}
use Rattle.std.proofs.Math.ListN.{length-append}
use Rattle.std.proofs.lemmas.List.Elements.{All-head}
use Rattle.lf_definitions.specs.Syntax.{metavariable, LfTerm, lams, LfType, binders_of, conclusion_atom}
use Rattle.lf_definitions.specs.Occurrence.{OccursInGoal}
use Rattle.lf_definitions.specs.Typing.{LfGoal}
use Rattle.lf_definitions.specs.Signatures.{LfSignature}
use Rattle.lf_definitions.specs.GoalLists.{LfGoals, all_goals, first_of, first_goal, opening}
use Rattle.head_laws.specs.Renumbering.{place_of_number}
use Rattle.head_laws.proofs.GoalNumbers.{rename_goal-stays}
use Rattle.goal_lists.specs.Numbering.{renumbered}
use Rattle.goal_lists.proofs.RenamedLists.{AreClosed-ShapedGoals}
use Rattle.application_laws.proofs.Lists.{no_pairs}
use Rattle.alternatives.specs.Rules.{LfRule}
use Rattle.alternatives.specs.Alternatives.{LfAlternative}
use Rattle.carried_alternatives.specs.Laws.{inside_by_place}
use Rattle.derivations.specs.Derivations.{alternatives_of}
use Rattle.derivations.specs.Replays.{LfStep, closed, own_term, replayed_from}
use Rattle.derivations.proofs.LastSteps.{HasAnotherNumber}
use Rattle.derivations.proofs.Scripts as replays
use Rattle.tree_runs.specs.Addresses.{Address}
use Rattle.mark_laws.proofs.Entries.{contains_cases, nothing_contained}
use Rattle.tree_derivations.specs.Laws.{IsTheorem}
use Rattle.tree_derivations.proofs.Laws.{opening_is_node}
use Rattle.answer_definitions.specs.Chosen.{chosen_at, carried_after, step_of, step_then, choose_then, first_then, chosen_from, chosen_script}
use Rattle.chosen_scripts.specs.Laws.{SaysWhatIsProved, ChosenScriptsReplay}
use Rattle.chosen_scripts.proofs.Choices.{alternative_is_chosen, chosen_is_least, proved_is_committed, are_proved_from}
use Rattle.chosen_scripts.proofs.Spent.{IsSpent, some_are_left, no_goal_is_child, spent_after}
use Rattle.chosen_scripts.proofs.Places.{first_contained}
use Rattle.chosen_scripts.proofs.Carried.{carries, IsCarried, entry_of}
use Rattle.chosen_scripts.proofs.After.{goes_on, carried_on}

no_first : (goals : List LfGoal) → first_of goals ≡ None → goals ≡ []
no_first [] e = refl
no_first (g ∷ rest) e = absurd cc

module _ (sig : LfSignature) (rules : List LfRule) (a : LfType) (proved : Address → Bool) where
  -- The chosen script from here on closes the list.
  abbrev Closes : ℕ → LfGoals → (ℕ → Address) → LfTerm → ℕ → Type 0
  Closes most list carried t k = (u : LfTerm) × (replayed_from sig rules a list t k (chosen_from sig rules a proved most list carried) ≡ closed u)

  module _ (most : ℕ) (list : LfGoals) (carried : ℕ → Address) where
    abbrev after_alternative : LfGoal → ℕ → LfAlternative → List LfStep
    after_alternative g i alternative = chosen_from sig rules a proved most alternative.goals (carried_after list carried (carried g.id) i alternative.goals)

    abbrev after_choice : LfGoal → ℕ → List LfStep
    after_choice g i = step_then (slice_get (alternatives_of sig rules list) i) (after_alternative g i)

    abbrev after_first : LfGoal → List LfStep
    after_first g = choose_then (chosen_at sig rules a proved (carried g.id)) (after_choice g)

    pub one_step : (g : LfGoal) (i : ℕ) (alternative : LfAlternative) → first_goal list ≡ Some g → chosen_at sig rules a proved (carried g.id) ≡ Some i →
        slice_get (alternatives_of sig rules list) i ≡ Some alternative → chosen_from sig rules a proved (suc most) list carried ≡ step_of alternative ∷ after_alternative g i alternative
    one_step g i alternative first chosen there =
        ap (λ o. first_then o after_first) first ∙ (ap (λ o. choose_then o (after_choice g)) chosen ∙ ap (λ o. step_then o (after_alternative g i)) there)

    no_step : first_goal list ≡ None → chosen_from sig rules a proved (suc most) list carried ≡ []
    no_step none = ap (λ o. first_then o after_first) none

  pub none_chosen : (most : ℕ) (list : LfGoals) (carried : ℕ → Address) → first_goal list ≡ None → chosen_from sig rules a proved most list carried ≡ []
  none_chosen zero list carried none = refl
  none_chosen (suc most) list carried none = no_step most list carried none

  closes_empty : (most : ℕ) (list : LfGoals) (carried : ℕ → Address) (t : LfTerm) (k : ℕ) → first_goal list ≡ None → Closes most list carried t k
  closes_empty most list carried t k none = (
    lams (length (binders_of a)) t,
    ap (replayed_from sig rules a list t k) (none_chosen most list carried none) ∙ replays.closed_without_goals sig rules a list t k (no_first (all_goals list) none),
  )

  module _ (committed : List Address) (says : SaysWhatIsProved sig rules a committed proved) where
    committed_where_proved : (address : Address) → proved address ≡ true → Contains committed address
    committed_where_proved address is = proved_is_committed proved address sig rules a committed ((says address).0 is)

    -- What is known of a list and what its goals carry, with so many steps left.
    record IsUnderWay (most : ℕ) (list : LfGoals) (carried : ℕ → Address) : Type 0 where
      known : IsCarried sig rules a proved list carried
      used : List Address
      spent : IsSpent committed used most carried (all_goals list)

    step_is_left : (most : ℕ) (list : LfGoals) (carried : ℕ → Address) → IsUnderWay most list carried → (g : LfGoal) → first_goal list ≡ Some g → most ≡ 0 → ⊥
    step_is_left most list carried way g first =
        let has = first_contained (all_goals list) g first in
        some_are_left committed way.used most carried (all_goals list) way.spent g has (committed_where_proved (carried g.id) (way.known.stand g has).is_proved)

    -- The alternative that is chosen, and what is known after it.
    record IsChosenStep (most : ℕ) (list : LfGoals) (carried : ℕ → Address) (g : LfGoal) : Type 0 where
      place : ℕ
      alternative : LfAlternative
      chosen : chosen_at sig rules a proved (carried g.id) ≡ Some place
      there : slice_get (alternatives_of sig rules list) place ≡ Some alternative
      way : IsUnderWay most alternative.goals (carried_after list carried (carried g.id) place alternative.goals)

    chosen_step : (most : ℕ) (list : LfGoals) (carried : ℕ → Address) → IsUnderWay (suc most) list carried → (g : LfGoal) → first_goal list ≡ Some g → IsChosenStep most list carried g
    chosen_step most list carried way g first =
        let has = first_contained (all_goals list) g first in
        let c = carried g.id in
        let stood = way.known.stand g has in
        let is_committed = committed_where_proved c stood.is_proved in
        let part = inside_by_place (carries carried c) list in
        let least = alternative_is_chosen proved c sig rules a committed says part stood.there stood.is_proved in
        let entry = entry_of sig rules a proved list carried way.known g first least.place least.branch least.there in
        let no_child = no_goal_is_child committed way.used (suc most) carried (all_goals list) way.spent g has is_committed in
        record {
          place = least.place;
          alternative = entry.alternative;
          chosen = chosen_is_least proved c sig rules a committed says part stood.there least;
          there = entry.there;
          way = record {
            known = carried_on sig rules a proved list carried way.known g first least.place least.branch entry no_child least.there (are_proved_from proved c least.place least.branch.1 least.children) has;
            used = c ∷ way.used;
            spent = spent_after committed way.used (suc most) carried (all_goals list) way.spent g has is_committed most refl (carried_after list carried c least.place entry.alternative.goals)
                (all_goals entry.alternative.goals) (goes_on sig rules a proved list carried way.known g first least.place least.branch entry);
          };
        }

    module _ (differ : AllPairs HasAnotherNumber rules) where
      step_closes : (most : ℕ) (list : LfGoals) (carried : ℕ → Address) → IsUnderWay (suc most) list carried → (t : LfTerm) (k : ℕ) (g : LfGoal) → first_goal list ≡ Some g →
          ((after : LfGoals) (onward : ℕ → Address) → IsUnderWay most after onward → (u : LfTerm) (j : ℕ) → Closes most after onward u j) → Closes (suc most) list carried t k
      step_closes most list carried way t k g first later =
          let step = chosen_step most list carried way g first in
          let alternative = step.alternative in
          let onward = carried_after list carried (carried g.id) step.place alternative.goals in
          let rest = later alternative.goals onward step.way (replays.carried_on sig rules a list t alternative) (suc k) in (
            rest.0,
            ap (replayed_from sig rules a list t k) (one_step most list carried g step.place alternative first step.chosen step.there)
                ∙ (replays.one_step_on sig rules a list t k (step_of alternative) (chosen_from sig rules a proved most alternative.goals onward) alternative
                (replays.alternatives_need_goals sig rules list step.place alternative step.there) (replays.own_step_is_found sig rules differ list step.place alternative step.there) ∙ rest.1),
          )

      closes : (most : ℕ) (list : LfGoals) (carried : ℕ → Address) → IsUnderWay most list carried → (t : LfTerm) (k : ℕ) → Closes most list carried t k
      closes zero list carried way t k = each (first_goal list) refl
        where
          each : (o : Option LfGoal) → first_goal list ≡ o → Closes 0 list carried t k
          each None none = closes_empty 0 list carried t k none
          each (Some g) first = absurd (step_is_left 0 list carried way g first refl)
      closes (suc most) list carried way t k = each (first_goal list) refl (λ after onward next u j. closes most after onward next u j)
        where
          each : (o : Option LfGoal) → first_goal list ≡ o → ((after : LfGoals) (onward : ℕ → Address) → IsUnderWay most after onward → (u : LfTerm) (j : ℕ) → Closes most after onward u j) →
              Closes (suc most) list carried t k
          each None none later = closes_empty (suc most) list carried t k none
          each (Some g) first later = step_closes most list carried way t k g first later

-- The opening list is numbered by its places.
abbrev opening_of : LfGoal → LfGoals
opening_of g = record { proofs = g ∷ []; witnesses = [] }

opening_numbered : (sig : LfSignature) (rules : List LfRule) (a : LfType) → IsTheorem sig rules a → renumbered (opening a) ≡ opening a
opening_numbered sig rules a theorem = ap opening_of (rename_goal-stays (place_of_number (0 ∷ [])) g refl stays)
  where
    g : LfGoal
    g = record { id = 0; context = binders_of a; target = conclusion_atom a }

    stays : (n : ℕ) → OccursInGoal (metavariable n) g → place_of_number (0 ∷ []) n ≡ n
    stays n o =
        let shaped = (opening_is_node sig rules a theorem).0.goals in
        let has : Contains (0 ∷ []) n = All-head (λ (h : LfGoal). (m : ℕ) → OccursInGoal (metavariable m) h → Contains (0 ∷ []) m) g [] (AreClosed-ShapedGoals sig (all_goals (opening a)) shaped) n o in
        elim (contains_cases 0 [] n has) [ inl same ↦ subst (λ m. place_of_number (0 ∷ []) m ≡ m) same refl | inr none ↦ absurd (nothing_contained n none) ]

nothing_above : (above : Address) (step : ℕ × ℕ) → [] ≡ above ++ step ∷ [] → ⊥
nothing_above above step e =
    let size : 0 ≡ length (above ++ step ∷ []) = ap length e in
    let more = length-append above (step ∷ []) in
    absurd (omega (arith, size, more))

pub opening_spent : (committed : List Address) (goals : List LfGoal) → IsSpent committed [] (length committed) (λ m. []) goals
opening_spent committed goals = record {
  differ = no_pairs (λ (p : Address) q. p ≢ q);
  among = λ u there. absurd (nothing_contained u there);
  count = omega arith;
  parents = λ u there. absurd (nothing_contained u there);
  unspent = λ h there. nothing_contained [];
  below = λ h there above step e. absurd (nothing_above above step e);
}

pub opening_carried : (sig : LfSignature) (rules : List LfRule) (a : LfType) (proved : Address → Bool) → IsTheorem sig rules a → proved [] ≡ true → IsCarried sig rules a proved (opening a) (λ m. [])
opening_carried sig rules a proved theorem root = record {
  may = (opening_is_node sig rules a theorem).0;
  mention = λ h has m o. refl;
  stand = λ h has. record { there = ap Some (sym (opening_numbered sig rules a theorem)); is_proved = root };
}

pub chosen_scripts_replay : ChosenScriptsReplay
unfolding chosen_script
chosen_scripts_replay sig rules a theorem differ committed committed_differ proved says root =
    let way : IsUnderWay sig rules a proved committed says (length committed) (opening a) (λ m. []) = record { known = opening_carried sig rules a proved theorem root; used = []; spent = opening_spent committed (all_goals (opening a)) } in
    let done = closes sig rules a proved committed says differ (length committed) (opening a) (λ m. []) way (own_term a) 0 in
    (done.0, replays.replay_begins sig rules a (chosen_script sig rules a proved (length committed)) ∙ done.1)
