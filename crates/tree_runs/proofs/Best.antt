-- The best node, by the test and by the relation.
use Rattle.std.proofs.Common.{◌≡◌, ◌⊎◌, inl, inr, ℕ, zero, suc, ◌+◌, Bool, true, false, not, ◌||◌, List, [], ◌∷◌, Option, Some, None, refl, sym, ap, subst, ◌∙◌, arith, eq-eqb}
use Rattle.std.specs.Prelude.{slice_get, ◌==◌}
use Rattle.std.specs.declared.cmp.Ordering.{Ordering}
use Rattle.std.specs.declared.cmp.Ordering.TheVariants.{Less, Equal, Greater}
use Rattle.std.specs.Ordering.{is_lt}
use Rattle.std.proofs.lemmas.Bool.{and_parts, and_from, eqb-true}
use Rattle.tree_runs.specs.States.{TreeNode, TreeState}
use Rattle.tree_runs.specs.Best.{is_better, IsBetter, is_eligible, Best, beats_all, is_best_with, is_best}

pub or_cases : (a b : Bool) → (a || b) ≡ true → (a ≡ true) ⊎ (b ≡ true)
or_cases true b h = inl refl
or_cases false b h = inr h

pub or_right : (a b : Bool) → b ≡ true → (a || b) ≡ true
or_right true b h = refl
or_right false b h = h

pub or_left : (a b : Bool) → a ≡ true → (a || b) ≡ true
or_left true b h = refl
or_left false b h = absurd cc

less_is_lt : (o : Ordering) → o ≡ Less → is_lt o ≡ true
less_is_lt o e = ap is_lt e

lt_is_less : (o : Ordering) → is_lt o ≡ true → o ≡ Less
lt_is_less Less e = refl
lt_is_less Equal e = absurd cc
lt_is_less Greater e = absurd cc

module _ {S : Type 0} (state : TreeState S) (node : ℕ) (content : TreeNode S) where
  -- what the test asks of one rival
  abbrev Beats : ℕ → TreeNode S → Bool
  Beats number rival = number == node || not (is_eligible state number) || is_better content rival

  beats_from : (number : ℕ) (rivals : List (TreeNode S)) → ((i : ℕ) (rival : TreeNode S) → slice_get rivals i ≡ Some rival → Beats (number + i) rival ≡ true) → beats_all state node content number rivals ≡ true
  beats_from number [] h = refl
  beats_from number (rival ∷ rivals) h =
      and_from _ _ (subst (λ (n : ℕ). Beats n rival ≡ true) (let e : number + 0 ≡ number = omega arith in e) (h 0 rival refl))
      (beats_from (suc number) rivals (λ i other e. subst (λ (n : ℕ). Beats n other ≡ true) (let z : number + suc i ≡ suc number + i = omega arith in z) (h (suc i) other e)))

  beats_each : (number : ℕ) (rivals : List (TreeNode S)) → beats_all state node content number rivals ≡ true → (i : ℕ) (rival : TreeNode S) → slice_get rivals i ≡ Some rival → Beats (number + i) rival ≡ true
  beats_each number [] h i rival e = absurd cc
  beats_each number (first ∷ rivals) h zero rival e =
      let same : first ≡ rival = cc in
      subst (λ (n : ℕ). Beats n rival ≡ true) (let z : number ≡ number + 0 = omega arith in z) (subst (λ other. Beats number other ≡ true) same (and_parts _ _ h).0)
  beats_each number (first ∷ rivals) h (suc i) rival e =
      subst (λ (n : ℕ). Beats n rival ≡ true) (let z : suc number + i ≡ number + suc i = omega arith in z) (beats_each (suc number) rivals (and_parts _ _ h).1 i rival e)

  beaten : (other : ℕ) (rival : TreeNode S) → Beats other rival ≡ true → is_eligible state other ≡ true → (other ≡ node) ⊎ IsBetter content rival
  beaten other rival h eligible = elim (or_cases (other == node || not (is_eligible state other)) (is_better content rival) h) [
    | inr better ↦ inr (lt_is_less _ better)
    | inl rest ↦ elim (or_cases (other == node) (not (is_eligible state other)) rest) [
      | inl same ↦ inl (eqb-true other node same)
      | inr not_eligible ↦ absurd (let clash : not true ≡ true = ap not (sym eligible) ∙ not_eligible in cc)
    ]
  ]

  eligible_or_not : (b : Bool) → (b ≡ true) ⊎ (not b ≡ true)
  eligible_or_not true = inl refl
  eligible_or_not false = inr refl

  beats_rival : (other : ℕ) (rival : TreeNode S) → (is_eligible state other ≡ true → (other ≡ node) ⊎ IsBetter content rival) → Beats other rival ≡ true
  beats_rival other rival h = elim (eligible_or_not (is_eligible state other)) [
    | inl eligible ↦ elim (h eligible) [
      | inl same ↦ or_left (other == node || not (is_eligible state other)) (is_better content rival) (or_left (other == node) (not (is_eligible state other)) (eq-eqb other node same))
      | inr better ↦ or_right (other == node || not (is_eligible state other)) (is_better content rival) (less_is_lt _ better)
    ]
    | inr not_eligible ↦ or_left (other == node || not (is_eligible state other)) (is_better content rival) (or_right (other == node) (not (is_eligible state other)) not_eligible)
  ]

-- the test finds the best node
pub is_best-from_Best : {S : Type 0} (state : TreeState S) (node : ℕ) → Best state node → is_best state node ≡ true
unfolding is_best
is_best-from_Best state node h =
    ap (is_best_with state node) h.there ∙ and_from _ _ h.eligible
    (beats_from state node h.content 0 state.nodes (λ i rival e. beats_rival state node h.content (0 + i) rival
    (λ eligible. h.better (0 + i) rival (ap (slice_get state.nodes) (let z : 0 + i ≡ i = omega arith in z) ∙ e) eligible)))

pub Best-from_is_best : {S : Type 0} (state : TreeState S) (node : ℕ) → is_best state node ≡ true → Best state node
unfolding is_best
Best-from_is_best state node h = known (slice_get state.nodes node) refl h
  where
    known : (o : Option (TreeNode _)) → slice_get state.nodes node ≡ o → is_best_with state node o ≡ true → Best state node
    known None e f = absurd cc
    known (Some content) e f =
        let parts = and_parts _ _ f in
        record {
          content = content;
          there = e;
          eligible = parts.0;
          better = λ other rival g eligible. beaten state node content other rival
              (subst (λ (n : ℕ). Beats state node content n rival ≡ true) (let z : 0 + other ≡ other = omega arith in z) (beats_each state node content 0 state.nodes parts.1 other rival g)) eligible;
        }
