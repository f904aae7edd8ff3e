-- A derivation of a list that splits is one of the goals inside and one of the goals outside, step by step: each step is one of the part that has the first goal.
use Rattle.std.proofs.Common.{◌≡◌, ℕ, zero, suc, ◌+◌, Bool, true, false, not, Option, Some, None, List, [], ◌∷◌, map, refl, sym, ap, subst, arith}
use Rattle.std.specs.Prelude.{slice_get}
use Rattle.lf_definitions.specs.Typing.{LfGoal}
use Rattle.lf_definitions.specs.Signatures.{LfSignature}
use Rattle.lf_definitions.specs.GoalLists.{LfGoals, all_goals, first_of, first_goal, next_id}
use Rattle.application_laws.specs.Conditions.{goals_inside}
use Rattle.alternatives.specs.Rules.{LfRule}
use Rattle.alternatives.specs.Alternatives.{LfAlternative, alternatives}
use Rattle.alternatives.specs.Reaching.{MayBeExpanded}
use Rattle.clusters.specs.Links.{outside_of, Splits}
use Rattle.framed_alternatives.specs.Laws.{with_fresh, BeginsApart, StaysApart, inside_alternative}
use Rattle.framed_alternatives.proofs.Apart.{may_be_expanded_inside}
use Rattle.framed_alternatives.proofs.Laws.{alternatives_are_framed}
use Rattle.shuffled_derivations.specs.Lengths.{Derives}
use Rattle.shuffled_derivations.specs.Laws.{MayBeDerived, DerivationsShuffle}
use Rattle.shuffled_derivations.proofs.Lists.{mapped_at, at_mapped, All-at}
use Rattle.shuffled_derivations.proofs.Insides.{outside_twice, splits_outside, none_inside, none_in_both, first_inside}
use Rattle.shuffled_derivations.proofs.Alike.{may_be_expanded, after_may_be_derived, part_may_be_derived, no_step, DerivesFrom, from_other_numbers}

no_first : (goals : List LfGoal) → first_of goals ≡ None → goals ≡ []
no_first [] e = refl
no_first (g ∷ rest) e = absurd cc

module _ (sig : LfSignature) (rules : List LfRule) where
  -- A derivation of what is inside and one of what is outside, whose lengths add up.
  abbrev pub Shuffles : ℕ → LfGoals → (ℕ → Bool) → Type 0
  Shuffles n list within =
      (p q : ℕ) × (p + q ≡ n) × Derives sig rules p (goals_inside within list) × Derives sig rules q (goals_inside (outside_of within) list)

  -- Inside and outside may be exchanged.
  exchanged : (n : ℕ) (list : LfGoals) (within : ℕ → Bool) → Shuffles n list within → Shuffles n list (outside_of within)
  exchanged n list within s = (s.1, s.0, omega (arith, s.2), s.4, subst (λ test. Derives sig rules s.0 (goals_inside test list)) (sym (outside_twice within)) s.3)

  exchanged_back : (n : ℕ) (list : LfGoals) (within : ℕ → Bool) → Shuffles n list (outside_of within) → Shuffles n list within
  exchanged_back n list within s = subst (Shuffles n list) (outside_twice within) (exchanged n list (outside_of within) s)

  -- The first goal is inside.
  module _ (list : LfGoals) (may : MayBeDerived sig rules list) (within : ℕ → Bool) (splits : Splits within (all_goals list)) (g : LfGoal) (first : first_goal list ≡ Some g)
      (is : within g.id ≡ true)
    where
      begins : BeginsApart sig rules (next_id list) within list
      begins = record { may_be_expanded = may_be_expanded sig rules list may; splits = splits; first_is_inside = (g, first, is) }

      abbrev wider : ℕ → Bool
      wider = with_fresh within (next_id list)

      abbrev found : List LfAlternative
      found = alternatives sig rules (next_id list) list

      abbrev part : LfGoals
      part = goals_inside within list

      framed : alternatives sig rules (next_id list) part ≡ map (inside_alternative wider) found
      framed = (alternatives_are_framed sig rules (next_id list) within list begins).0

      stays : (i : ℕ) (alternative : LfAlternative) → slice_get found i ≡ Some alternative → StaysApart (next_id list) within list alternative.goals
      stays = All-at (λ (x : LfAlternative). StaysApart (next_id list) within list x.goals) found (alternatives_are_framed sig rules (next_id list) within list begins).1

      with_numbers_of_list : MayBeExpanded sig rules (next_id list) part
      with_numbers_of_list = may_be_expanded_inside sig rules (next_id list) within list begins

      with_own_numbers : MayBeExpanded sig rules (next_id part) part
      with_own_numbers = may_be_expanded sig rules part (part_may_be_derived sig rules list may within splits.0)

      after_may_be : (i : ℕ) (alternative : LfAlternative) → slice_get found i ≡ Some alternative → MayBeDerived sig rules alternative.goals
      after_may_be = after_may_be_derived sig rules (next_id list) list begins.may_be_expanded

      step_splits : (n : ℕ) → ((after : LfGoals) → MayBeDerived sig rules after → (test : ℕ → Bool) → Splits test (all_goals after) → Derives sig rules n after → Shuffles n after test) →
          Derives sig rules (suc n) list → Shuffles (suc n) list within
      step_splits n later d =
          let stay = stays d.0 d.1 d.2 in
          let rest = later d.1.goals (after_may_be d.0 d.1 d.2) wider stay.splits d.3 in
          let there : slice_get (alternatives sig rules (next_id list) part) d.0 ≡ Some (inside_alternative wider d.1) =
          subst (λ xs. slice_get xs d.0 ≡ Some (inside_alternative wider d.1)) (sym framed) (mapped_at (inside_alternative wider) found d.0 d.1 d.2) in
          let inner : DerivesFrom sig rules (next_id list) rest.0 part = (d.0, inside_alternative wider d.1, there, rest.3) in (
            suc rest.0,
            rest.1,
            omega (arith, rest.2),
            from_other_numbers sig rules (next_id list) (next_id part) part with_numbers_of_list with_own_numbers rest.0 inner,
            subst (Derives sig rules rest.1) stay.outside rest.4,
          )

      step_joins : (n : ℕ) → ((after : LfGoals) → MayBeDerived sig rules after → (test : ℕ → Bool) → Splits test (all_goals after) → Shuffles n after test → Derives sig rules n after) →
          Shuffles (suc n) list within → Derives sig rules (suc n) list
      step_joins n later s = each s.0 s.1 s.2 s.3 s.4
        where
          each : (p q : ℕ) → p + q ≡ suc n → Derives sig rules p part → Derives sig rules q (goals_inside (outside_of within) list) → Derives sig rules (suc n) list
          each zero q e inner outer = absurd (first_inside within list g first is inner)
          each (suc p) q e inner outer =
              let d = from_other_numbers sig rules (next_id part) (next_id list) part with_own_numbers with_numbers_of_list p inner in
              let whole = at_mapped (inside_alternative wider) found d.0 d.1 (subst (λ xs. slice_get xs d.0 ≡ Some d.1) framed d.2) in
              let stay = stays d.0 whole.0 whole.1 in
              let rest : Shuffles n whole.0.goals wider = (
                p,
                q,
                omega (arith, e),
                subst (λ (x : LfAlternative). Derives sig rules p x.goals) (sym whole.2) d.3,
                subst (Derives sig rules q) (sym stay.outside) outer,
              ) in
              (d.0, whole.0, whole.1, later whole.0.goals (after_may_be d.0 whole.0 whole.1) wider stay.splits rest)

  pub derivation_splits : (n : ℕ) (list : LfGoals) → MayBeDerived sig rules list → (within : ℕ → Bool) → Splits within (all_goals list) → Derives sig rules n list → Shuffles n list within
  derivation_splits zero list may within splits none = (0, 0, refl, none_inside within list none, none_inside (outside_of within) list none)
  derivation_splits (suc n) list may within splits d = each (first_goal list) refl (derivation_splits n)
    where
      each : (o : Option LfGoal) → first_goal list ≡ o →
          ((after : LfGoals) → MayBeDerived sig rules after → (test : ℕ → Bool) → Splits test (all_goals after) → Derives sig rules n after → Shuffles n after test) → Shuffles (suc n) list within
      each None first later = let e : suc n ≡ 0 = no_step sig rules list (no_first (all_goals list) first) (suc n) d in absurd (omega (arith, e))
      each (Some g) first later = decide (within g.id) refl
        where
          decide : (b : Bool) → within g.id ≡ b → Shuffles (suc n) list within
          decide true is = step_splits list may within splits g first is n later d
          decide false is = exchanged_back (suc n) list within (step_splits list may (outside_of within) (splits_outside within (all_goals list) splits) g first (ap not is) n later d)

  pub derivations_join : (n : ℕ) (list : LfGoals) → MayBeDerived sig rules list → (within : ℕ → Bool) → Splits within (all_goals list) → Shuffles n list within → Derives sig rules n list
  derivations_join zero list may within splits s =
      let e : s.0 ≡ 0 = omega (arith, s.2) in
      let f : s.1 ≡ 0 = omega (arith, s.2) in
      none_in_both within list (subst (λ k. Derives sig rules k (goals_inside within list)) e s.3) (subst (λ k. Derives sig rules k (goals_inside (outside_of within) list)) f s.4)
  derivations_join (suc n) list may within splits s = each (first_goal list) refl (derivations_join n)
    where
      each : (o : Option LfGoal) → first_goal list ≡ o →
          ((after : LfGoals) → MayBeDerived sig rules after → (test : ℕ → Bool) → Splits test (all_goals after) → Shuffles n after test → Derives sig rules n after) → Derives sig rules (suc n) list
      each None first later =
          let none = no_first (all_goals list) first in
          let e : s.0 ≡ 0 = no_step sig rules (goals_inside within list) (none_inside within list none) s.0 s.3 in
          let f : s.1 ≡ 0 = no_step sig rules (goals_inside (outside_of within) list) (none_inside (outside_of within) list none) s.1 s.4 in
          absurd (omega (arith, e, f, s.2))
      each (Some g) first later = decide (within g.id) refl
        where
          decide : (b : Bool) → within g.id ≡ b → Derives sig rules (suc n) list
          decide true is = step_joins list may within splits g first is n later s
          decide false is = step_joins list may (outside_of within) (splits_outside within (all_goals list) splits) g first (ap not is) n later (exchanged (suc n) list within s)

pub derivations_shuffle : DerivationsShuffle
derivations_shuffle sig rules list may within splits n = (derivation_splits sig rules n list may within splits, derivations_join sig rules n list may within splits)
