-- Derivations step by step: what is known of the lists on the way, and that numbers of goals make no difference.
use Rattle.std.proofs.Common.{◌≡◌, ℕ, zero, suc, ◌<◌, Bool, Some, None, List, [], ◌∷◌, map, All, refl, sym, ap, ◌∙◌, subst, arith}
use Rattle.std.specs.Prelude.{slice_get}
use Rattle.std.proofs.lemmas.List.Elements.{All-weaker}
use Rattle.lf_definitions.specs.Typing.{LfGoal}
use Rattle.lf_definitions.specs.Signatures.{LfSignature}
use Rattle.lf_definitions.specs.ShapedGoals.{ShapedGoals}
use Rattle.lf_definitions.specs.GoalLists.{LfGoals, all_goals, ids, next_id}
use Rattle.head_laws.specs.Renumbering.{canon, up_to}
use Rattle.head_laws.proofs.Numbers.{All-below_above}
use Rattle.goal_lists.specs.Numbering.{renumbered}
use Rattle.goal_lists.proofs.Laws.{renumbering_is_renaming}
use Rattle.application_laws.specs.Conditions.{MentionInside, goals_inside}
use Rattle.application_laws.proofs.Inside.{goals_inside_are_shaped}
use Rattle.alternatives.specs.Rules.{LfRule}
use Rattle.alternatives.specs.Alternatives.{LfAlternative, alternatives}
use Rattle.alternatives.specs.Taking.{Takes}
use Rattle.alternatives.specs.Steps.{AreOldOrNew}
use Rattle.alternatives.specs.Reaching.{MayBeExpanded}
use Rattle.taken_alternatives.proofs.Laws.{alternatives_are_reached}
use Rattle.framed_alternatives.proofs.Insides.{all-inside}
use Rattle.carried_alternatives.specs.Laws.{LfPlaced, placed}
use Rattle.carried_alternatives.proofs.NumberedBack.{goes_back}
use Rattle.carried_alternatives.proofs.ForgottenNumbers.{renumbered-rename_goals, alternatives_forget_numbers}
use Rattle.derivations.proofs.Lists.{All-of_map}
use Rattle.derivations.proofs.NoGoals.{no_alternative}
use Rattle.shuffled_derivations.specs.Lengths.{Derives}
use Rattle.shuffled_derivations.specs.Laws.{MayBeDerived}
use Rattle.shuffled_derivations.proofs.Lists.{mapped_at, at_mapped, All-at}

-- A list has no goal where the list numbered by its places has none.
none_renumbered : (list other : LfGoals) → renumbered list ≡ renumbered other → all_goals list ≡ [] → all_goals other ≡ []
none_renumbered list other same none =
    no_goal (all_goals other) (sym (renumbering_is_renaming other).0 ∙ ap all_goals (sym same) ∙ (renumbering_is_renaming list).0 ∙ ap canon none)
  where
    no_goal : (goals : List LfGoal) → canon goals ≡ [] → goals ≡ []
    no_goal [] e = refl
    no_goal (g ∷ rest) e = absurd cc

module _ (sig : LfSignature) (rules : List LfRule) where
  pub may_be_expanded : (list : LfGoals) → MayBeDerived sig rules list → MayBeExpanded sig rules (next_id list) list
  may_be_expanded list may = record {
    signature = may.signature;
    goals = may.goals;
    below = All-of_map (λ m. m < next_id list) (λ (g : LfGoal). g.id) (all_goals list) (All-below_above (ids (all_goals list)) (next_id list) (omega arith));
    rules_take_atoms = may.rules_take_atoms;
  }

  -- The list after an alternative may be derived, and so may the goals inside, where they mention none outside.
  pub all_after_may_be_derived : (n : ℕ) (list : LfGoals) → MayBeExpanded sig rules n list → All (λ (alternative : LfAlternative). MayBeDerived sig rules alternative.goals) (alternatives sig rules n list)
  all_after_may_be_derived n list may =
      All-weaker (λ (x : LfAlternative). Takes sig list x.goals x.build × AreOldOrNew list n x.goals) (λ (x : LfAlternative). MayBeDerived sig rules x.goals)
      (λ x known. record { signature = may.signature; rules_take_atoms = may.rules_take_atoms; goals = known.0.shaped }) (alternatives sig rules n list) (alternatives_are_reached sig rules n list may)

  pub after_may_be_derived : (n : ℕ) (list : LfGoals) → MayBeExpanded sig rules n list → (i : ℕ) (alternative : LfAlternative) →
      slice_get (alternatives sig rules n list) i ≡ Some alternative → MayBeDerived sig rules alternative.goals
  after_may_be_derived n list may = All-at (λ (x : LfAlternative). MayBeDerived sig rules x.goals) (alternatives sig rules n list) (all_after_may_be_derived n list may)

  pub part_may_be_derived : (list : LfGoals) → MayBeDerived sig rules list → (within : ℕ → Bool) → MentionInside within (all_goals list) → MayBeDerived sig rules (goals_inside within list)
  part_may_be_derived list may within mention = record {
    signature = may.signature;
    rules_take_atoms = may.rules_take_atoms;
    goals = subst (ShapedGoals sig) (sym (all-inside within list)) (goals_inside_are_shaped sig (all_goals list) within may.goals mention);
  }

  -- Without a goal there is no step.
  pub no_step : (list : LfGoals) → all_goals list ≡ [] → (n : ℕ) → Derives sig rules n list → n ≡ 0
  no_step list none zero d = refl
  no_step list none (suc n) d =
      let e : None ≡ Some d.1 = sym (ap (λ xs. slice_get xs d.0) (no_alternative sig rules (next_id list) list none)) ∙ d.2 in absurd cc

  -- Lists that are the same once they are numbered by their places have the same alternatives, but for numbers, whichever numbers are fresh.
  same_placed : (n m : ℕ) (list other : LfGoals) → MayBeExpanded sig rules n list → MayBeExpanded sig rules m other → renumbered list ≡ renumbered other →
      map placed (alternatives sig rules n list) ≡ map placed (alternatives sig rules m other)
  same_placed n m list other may as_well same =
      alternatives_forget_numbers sig rules n list may.signature may.goals may.below
      ∙ ap (λ goals. map placed (alternatives sig rules (next_id goals) goals)) same
      ∙ sym (alternatives_forget_numbers sig rules m other as_well.signature as_well.goals as_well.below)

  counterpart : (n m : ℕ) (list other : LfGoals) → MayBeExpanded sig rules n list → MayBeExpanded sig rules m other → renumbered list ≡ renumbered other →
      (i : ℕ) (alternative : LfAlternative) → slice_get (alternatives sig rules n list) i ≡ Some alternative →
      (another : LfAlternative) × (slice_get (alternatives sig rules m other) i ≡ Some another) × (renumbered alternative.goals ≡ renumbered another.goals)
  counterpart n m list other may as_well same i alternative there =
      let moved = at_mapped placed (alternatives sig rules m other) i (placed alternative)
      (subst (λ xs. slice_get xs i ≡ Some (placed alternative)) (same_placed n m list other may as_well same) (mapped_at placed (alternatives sig rules n list) i alternative there)) in
      (moved.0, moved.1, sym (ap (λ (p : LfPlaced). p.goals) moved.2))

  pub derives_alike : (n : ℕ) (list other : LfGoals) → MayBeDerived sig rules list → MayBeDerived sig rules other → renumbered list ≡ renumbered other →
      Derives sig rules n list → Derives sig rules n other
  derives_alike zero list other may as_well same none = none_renumbered list other same none
  derives_alike (suc n) list other may as_well same d =
      let here = may_be_expanded list may in
      let there = may_be_expanded other as_well in
      let found = counterpart (next_id list) (next_id other) list other here there same d.0 d.1 d.2 in (
        d.0,
        found.0,
        found.1,
        derives_alike n d.1.goals found.0.goals (after_may_be_derived (next_id list) list here d.0 d.1 d.2) (after_may_be_derived (next_id other) other there d.0 found.0 found.1) found.2 d.3,
      )

  -- A derivation of one more step, the first of which takes its fresh numbers from `n` on.
  abbrev pub DerivesFrom : ℕ → ℕ → LfGoals → Type 0
  DerivesFrom n p list = (i : ℕ) × (alternative : LfAlternative) × (slice_get (alternatives sig rules n list) i ≡ Some alternative) × Derives sig rules p alternative.goals

  pub from_other_numbers : (n m : ℕ) (list : LfGoals) → MayBeExpanded sig rules n list → MayBeExpanded sig rules m list → (p : ℕ) → DerivesFrom n p list → DerivesFrom m p list
  from_other_numbers n m list here there p d =
      let found = counterpart n m list list here there refl d.0 d.1 d.2 in (
        d.0,
        found.0,
        found.1,
        derives_alike p d.1.goals found.0.goals (after_may_be_derived n list here d.0 d.1 d.2) (after_may_be_derived m list there d.0 found.0 found.1) found.2 d.3,
      )

  -- A list that is numbered by its places stays as it is when it is numbered so again.
  pub renumbered_twice : (list : LfGoals) → MayBeDerived sig rules list → renumbered (renumbered list) ≡ renumbered list
  renumbered_twice list may =
      let n = next_id list in
      let back = goes_back sig n list may.goals (may_be_expanded list may).below in
      sym (renumbered-rename_goals (up_to (ids (all_goals list)) n) back.injective (renumbered list)) ∙ ap renumbered back.is_list

  pub renumbered_may_be_derived : (list : LfGoals) → MayBeDerived sig rules list → MayBeDerived sig rules (renumbered list)
  renumbered_may_be_derived list may = record { signature = may.signature; rules_take_atoms = may.rules_take_atoms; goals = (renumbering_is_renaming list).2 sig may.goals }
