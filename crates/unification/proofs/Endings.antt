-- Transitions end.
use Rattle.std.proofs.Common.{◌≡◌, ◌≢◌, ℕ, zero, suc, ◌+◌, ◌<◌, ◌≤◌, ◌⊎◌, inl, inr, true, List, [], ◌∷◌, ◌++◌, length, All, Option, Some, None, sym, subst, subst₂, arith}
use Rattle.std.proofs.lemmas.Bool.{cases_eq}
use Rattle.std.proofs.lemmas.List.Elements.{All-nil, All-cons, All-head, All-tail}
use Rattle.lf_definitions.specs.Syntax.{LfHead, metavariable, LfTerm, lam, at, Spine, LfAtom, SimpleType, spine_size}
use Rattle.lf_definitions.specs.Shaping.{Scope}
use Rattle.lf_definitions.specs.Occurrence.{OccursIn}
use Rattle.lf_definitions.specs.Instantiation.{LfAssigned}
use Rattle.unification.specs.Patterns.{has_number}
use Rattle.unification.specs.Equations.{LfEquation, of_atoms, of_terms, argument_equations, Reason, Ending, solved, refused, InstantiatedEquations}
use Rattle.unification.specs.Transitions.{Frozen, solving, leaving, Step, step_atoms, step_lams, step_same, step_heads, step_left, step_right, Stops, stops_families, stops_heads, stops_lam, stops_at, stops_left, stops_right, Ends, ends_solved, ends_refused, ends_later}
use Rattle.unification.specs.Solutions.{ShapedEquation, ShapedEquations, ShapedEntry, OccursInEquation, OccursInEquations, in_first, in_rest}
use Rattle.unification.proofs.Assigning.{one_assigned, equations_left, entries_left}
use Rattle.unification.proofs.ShapedSteps.{left_entry_is_shaped, right_entry_is_shaped, step_keeps_shapes}
use Rattle.unification.proofs.Situations.{IsSituated, are_identical, are_alike, are_apart, is_left, is_right, is_unsolved_at_left, is_unsolved_at_right, is_situated}
use Rattle.unification.proofs.Solvings.{IsSolved, solving-Some}
use Rattle.unification.proofs.Remaining.{equations_mention, solved_mentions, remains, step_mentions}
use Rattle.unification.proofs.Measures.{without, length-without, has_number-without, equations_size, equations_size-append, equations_size-argument_equations, numbers_of_equations, in_numbers_equations}

module _ (kinds : ℕ → Option SimpleType) (Γ : Scope) (frozen : Frozen) where
  abbrev HasEnd : List LfEquation → List LfAssigned → Type 0
  HasEnd equations entries = (ending : Ending) × Ends frozen (leaving equations entries) ending

  -- The metavariables that are mentioned are among these numbers.
  abbrev AreWithin : List ℕ → List LfEquation → Type 0
  AreWithin xs equations = (g : ℕ) → OccursInEquations (metavariable g) equations → has_number xs g ≡ true

  abbrev HaveEnds : List ℕ → ℕ → Type 0
  HaveEnds xs n =
      (equations : List LfEquation) (entries : List LfAssigned) → ShapedEquations kinds Γ equations → All (ShapedEntry Γ) entries → AreWithin xs equations → equations_size equations < n →
      HasEnd equations entries

  go_on : {equations results : List LfEquation} {entries others : List LfAssigned} → Step frozen (leaving equations entries) (leaving results others) → HasEnd results others → HasEnd equations entries
  go_on step end = (end.0, ends_later step end.1)

  stop : {equations : List LfEquation} {entries : List LfAssigned} {reason : Reason} → Stops frozen (leaving equations entries) reason → HasEnd equations entries
  stop {reason = reason} stops = (refused reason, ends_refused stops)

  -- a transition that assigns nothing, to equations of a smaller size
  go_smaller : (xs : List ℕ) (n : ℕ) → HaveEnds xs n → {equations results : List LfEquation} {entries : List LfAssigned} → ShapedEquations kinds Γ equations → All (ShapedEntry Γ) entries → AreWithin xs equations →
      Step frozen (leaving equations entries) (leaving results entries) → equations_size results < n → HasEnd equations entries
  go_smaller xs n smaller {results = results} {entries = entries} shaped entries_shaped within step less =
      go_on step (smaller results entries (step_keeps_shapes kinds Γ step shaped) entries_shaped (λ g o. within g (step_mentions step g o)) less)

  module _ (xs : List ℕ) (fewer : (ys : List ℕ) → length ys < length xs → (n : ℕ) → HaveEnds ys n) where
    -- a transition that assigns a metavariable
    go_fewer : {t u : LfTerm} {equations results : List LfEquation} {entries others : List LfAssigned} (e : LfAssigned) → IsSolved frozen t u e → ShapedEntry Γ e →
        ShapedEquations kinds Γ equations → All (ShapedEntry Γ) others → AreWithin xs equations → OccursInEquations (metavariable e.assigned_goal) equations →
        Step frozen (leaving equations entries) (leaving results (e ∷ others)) → ((g : ℕ) → OccursInEquations (metavariable g) results → has_number (without e.assigned_goal xs) g ≡ true) → HasEnd equations entries
    go_fewer {results = results} {others = others} e is_solved entry shaped others_shaped within there step less =
        go_on step
        (fewer (without e.assigned_goal xs) (length-without e.assigned_goal xs (within e.assigned_goal there)) (suc (equations_size results)) results (e ∷ others)
        (step_keeps_shapes kinds Γ step shaped) (All-cons (ShapedEntry Γ) e others entry others_shaped) less (omega arith))

    module _ (path : List ℕ) (h k : LfHead) (ts us : Spine) (rest : List LfEquation) (entries : List LfAssigned) (shaped : ShapedEquations kinds Γ (of_terms path (at h ts) (at k us) ∷ rest))
        (entries_shaped : All (ShapedEntry Γ) entries) (within : AreWithin xs (of_terms path (at h ts) (at k us) ∷ rest)) where
      abbrev pair : LfEquation
      pair = of_terms path (at h ts) (at k us)

      pair_shaped : ShapedEquation kinds Γ pair
      pair_shaped = All-head (ShapedEquation kinds Γ) pair rest shaped

      rest_shaped : ShapedEquations kinds Γ rest
      rest_shaped = All-tail (ShapedEquation kinds Γ) pair rest shaped

      -- what is mentioned in what is left is among the numbers but for the one that was assigned
      fewer_within : {t u : LfTerm} (e : LfAssigned) → IsSolved frozen t u e → (OccursIn (metavariable e.assigned_goal) t → OccursInEquation (metavariable e.assigned_goal) pair) →
          ((g : ℕ) → OccursIn (metavariable g) u → OccursInEquation (metavariable g) pair) → (results : List LfEquation) → InstantiatedEquations (one_assigned e) rest results →
          (g : ℕ) → OccursInEquations (metavariable g) results → has_number (without e.assigned_goal xs) g ≡ true
      fewer_within {u = u} e is_solved left right results result g o =
          let both = remains is_solved g (equations_mention result g o) in
          has_number-without e.assigned_goal g xs both.1 (within g (before both.0))
        where
          before : OccursInEquations (metavariable g) rest ⊎ OccursIn (metavariable g) u → OccursInEquations (metavariable g) (pair ∷ rest)
          before (inl p) = in_rest p
          before (inr p) = in_first (right g p)

      go_left : (e : LfAssigned) → solving frozen (at h ts) (at k us) ≡ Some e → HasEnd (pair ∷ rest) entries
      go_left e f =
          let is_solved = solving-Some frozen (at h ts) (at k us) e f in
          let entry = left_entry_is_shaped kinds Γ frozen path e pair_shaped f in
          let results = equations_left kinds Γ e entry rest rest_shaped in
          let others = entries_left Γ e entry entries entries_shaped in
          go_fewer e is_solved entry shaped others.2 within (in_first (inl (solved_mentions is_solved))) (step_left e f results.1 others.1) (fewer_within e is_solved inl (λ g o. inr o) results.0 results.1)

      go_right : (e : LfAssigned) → solving frozen (at h ts) (at k us) ≡ None → solving frozen (at k us) (at h ts) ≡ Some e → HasEnd (pair ∷ rest) entries
      go_right e none f =
          let is_solved = solving-Some frozen (at k us) (at h ts) e f in
          let entry = right_entry_is_shaped kinds Γ frozen path e pair_shaped f in
          let results = equations_left kinds Γ e entry rest rest_shaped in
          let others = entries_left Γ e entry entries entries_shaped in
          go_fewer e is_solved entry shaped others.2 within (in_first (inr (solved_mentions is_solved))) (step_right e none f results.1 others.1)
          (fewer_within e is_solved inr (λ g o. inl o) results.0 results.1)

      go_spines : (n : ℕ) → HaveEnds xs n → equations_size (pair ∷ rest) < suc n → IsSituated frozen h ts k us → HasEnd (pair ∷ rest) entries
      go_spines n smaller size (are_identical same_heads same_spines) =
          go_smaller xs n smaller shaped entries_shaped within
          (subst₂ (λ j vs. Step frozen (leaving (of_terms path (at h ts) (at j vs) ∷ rest) entries) (leaving rest entries)) same_heads same_spines step_same) (omega arith)
      go_spines n smaller size (are_alike rigid same differ) =
          let arguments = argument_equations path 0 ts us in
          let total : equations_size (arguments ++ rest) ≡ equations_size arguments + equations_size rest = equations_size-append arguments rest in
          let le : equations_size arguments ≤ spine_size ts + spine_size us = equations_size-argument_equations path 0 ts us in
          go_smaller xs n smaller shaped entries_shaped within
          (subst (λ j. Step frozen (leaving (of_terms path (at h ts) (at j us) ∷ rest) entries) (leaving (arguments ++ rest) entries)) same (step_heads rigid differ)) (omega arith)
      go_spines n smaller size (are_apart rigid rigid_k differ) = stop (stops_heads rigid rigid_k differ)
      go_spines n smaller size (is_left e f) = go_left e f
      go_spines n smaller size (is_right e none f) = go_right e none f
      go_spines n smaller size (is_unsolved_at_left g same differ none other) =
          stop_at_left h g same ts differ none other
        where
          stop_at_left : (j : LfHead) (m : ℕ) → j ≡ metavariable m → (vs : Spine) → at j vs ≢ at k us → solving frozen (at j vs) (at k us) ≡ None → solving frozen (at k us) (at j vs) ≡ None →
              HasEnd (of_terms path (at j vs) (at k us) ∷ rest) entries
          stop_at_left j m e vs apart nothing nothing_right =
              subst (λ i. at i vs ≢ at k us → solving frozen (at i vs) (at k us) ≡ None → solving frozen (at k us) (at i vs) ≡ None → HasEnd (of_terms path (at i vs) (at k us) ∷ rest) entries)
              (sym e) (λ p q r. stop (stops_left p q r)) apart nothing nothing_right
      go_spines n smaller size (is_unsolved_at_right g rigid same none) =
          subst (λ i. solving frozen (at i us) (at h ts) ≡ None → HasEnd (of_terms path (at h ts) (at i us) ∷ rest) entries) (sym same) (λ q. stop (stops_right rigid q)) none

    go_atoms : (n : ℕ) → HaveEnds xs n → (path : List ℕ) (a b : LfAtom) (rest : List LfEquation) (entries : List LfAssigned) → ShapedEquations kinds Γ (of_atoms path a b ∷ rest) → All (ShapedEntry Γ) entries →
        AreWithin xs (of_atoms path a b ∷ rest) → equations_size (of_atoms path a b ∷ rest) < suc n → (a.atom_family ≡ b.atom_family) ⊎ (a.atom_family ≡ b.atom_family → ⊥) → HasEnd (of_atoms path a b ∷ rest) entries
    go_atoms n smaller path a b rest entries shaped entries_shaped within size (inl same) =
        let arguments = argument_equations path 0 a.atom_args b.atom_args in
        let total : equations_size (arguments ++ rest) ≡ equations_size arguments + equations_size rest = equations_size-append arguments rest in
        let le : equations_size arguments ≤ spine_size a.atom_args + spine_size b.atom_args = equations_size-argument_equations path 0 a.atom_args b.atom_args in
        go_smaller xs n smaller shaped entries_shaped within
        (subst (λ f. Step frozen (leaving (of_atoms path a (record { atom_family = f; atom_args = b.atom_args }) ∷ rest) entries) (leaving (arguments ++ rest) entries)) same step_atoms) (omega arith)
    go_atoms n smaller path a b rest entries shaped entries_shaped within size (inr differ) = stop (stops_families differ)

    go_first : (n : ℕ) → HaveEnds xs n → HaveEnds xs (suc n)
    go_first n smaller [] entries shaped entries_shaped within size = (solved entries, ends_solved)
    go_first n smaller (of_atoms path a b ∷ rest) entries shaped entries_shaped within size =
        go_atoms n smaller path a b rest entries shaped entries_shaped within size (cases_eq a.atom_family b.atom_family)
    go_first n smaller (of_terms path (lam b) (lam c) ∷ rest) entries shaped entries_shaped within size = go_smaller xs n smaller shaped entries_shaped within step_lams (omega arith)
    go_first n smaller (of_terms path (lam b) (at k us) ∷ rest) entries shaped entries_shaped within size = stop stops_lam
    go_first n smaller (of_terms path (at h ts) (lam c) ∷ rest) entries shaped entries_shaped within size = stop stops_at
    go_first n smaller (of_terms path (at h ts) (at k us) ∷ rest) entries shaped entries_shaped within size =
        go_spines path h k ts us rest entries shaped entries_shaped within n smaller size (is_situated frozen h ts k us)

    by_size : (n : ℕ) → HaveEnds xs n
    by_size zero = λ equations entries shaped entries_shaped within size. absurd (omega arith)
    by_size (suc n) = go_first n (by_size n)

  by_count : (m : ℕ) (xs : List ℕ) → length xs < m → (n : ℕ) → HaveEnds xs n
  by_count zero xs less n = absurd (omega arith)
  by_count (suc m) xs less n = by_size xs (λ ys fewer. by_count m ys (omega arith)) n

  pub has_end : (equations : List LfEquation) → ShapedEquations kinds Γ equations → HasEnd equations []
  has_end equations shaped =
      let xs = numbers_of_equations equations in
      by_count (suc (length xs)) xs (omega arith) (suc (equations_size equations)) equations [] shaped (All-nil (ShapedEntry Γ)) (in_numbers_equations equations) (omega arith)
