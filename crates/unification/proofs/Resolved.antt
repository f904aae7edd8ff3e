-- An answer is resolved: what transitions keep of the equations that are left and of the entries.
use Rattle.std.proofs.Common.{◌≡◌, ◌≢◌, ℕ, ◌⊎◌, inl, inr, true, false, not, List, [], ◌∷◌, All, AllPairs, Option, Some, None, refl, sym, ap, ◌∙◌, subst, arith}
use Rattle.std.specs.Prelude.{IsTrue, if◌then◌else◌, nat_eq}
use Rattle.std.proofs.lemmas.Bool.{eqb-true, both_ways, or_cases, or_parts, or_from, and_from, not_from_false}
use Rattle.std.proofs.lemmas.List.Elements.{All-nil, All-cons}
use Rattle.std.proofs.lemmas.List.Kept.{AllPairs-cons}
use Rattle.lf_definitions.specs.Syntax.{metavariable, LfTerm, at, SimpleType, lams}
use Rattle.lf_definitions.specs.Shaping.{Scope}
use Rattle.lf_definitions.specs.Occurrence.{OccursIn}
use Rattle.lf_definitions.specs.Instantiation.{Assignment, LfAssigned, assignment_of}
use Rattle.unification.specs.Patterns.{has_number, are_different}
use Rattle.unification.specs.Equations.{LfEquation, of_terms, Ending, solved, Unifying, InstantiatedEquations, InstantiatedEntries, no_entry, one_entry}
use Rattle.unification.specs.Transitions.{Frozen, leaving, Step, step_atoms, step_lams, step_same, step_heads, step_left, step_right, Ends, ends_solved, ends_refused, ends_later}
use Rattle.unification.specs.Solutions.{ShapedEquations, ShapedEntry, OccursInEquation, OccursInEquations, in_first, in_rest, MentionedBy, IsResolvedAnswer}
use Rattle.unification.proofs.Tests.{has_number-here, has_number-later}
use Rattle.unification.proofs.PatternSpines.{are_different-parts}
use Rattle.unification.proofs.Solvings.{IsSolved, solving-Some}
use Rattle.unification.proofs.Assigning.{one_assigned, entries_left_are_shaped}
use Rattle.unification.proofs.ShapedSteps.{left_entry_is_shaped, right_entry_is_shaped, first_and_rest, step_keeps_shapes}
use Rattle.unification.proofs.Remaining.{OccursInBodies, equations_mention, entries_mention, body_mentions, solved_mentions, remains, step_mentions}

-- the metavariables that have an entry
abbrev pub keys : List LfAssigned → List ℕ
keys [] = []
keys (e ∷ rest) = e.assigned_goal ∷ keys rest

pub keys-left : {σ : Assignment} {fs gs : List LfAssigned} → InstantiatedEntries σ fs gs → keys gs ≡ keys fs
keys-left no_entry = refl
keys-left (one_entry {e = e} {f = f} {rest = rest} {results = results} p ps) = ap (λ k. k ∷ keys results) p.same_goal ∙ ap (λ ks. e.assigned_goal ∷ ks) (keys-left ps)

pub assignment_of-keys : (entries : List LfAssigned) (g : ℕ) → has_number (keys entries) g ≡ false → assignment_of entries g ≡ None
assignment_of-keys [] g e = refl
assignment_of-keys (f ∷ rest) g e =
    let parts = or_parts (nat_eq f.assigned_goal g) (has_number (keys rest) g) e in
    ap (λ b. if b then Some (lams f.binders_count f.body) else assignment_of rest g) parts.0 ∙ assignment_of-keys rest g parts.1

-- What is true of each key, and of each metavariable that a body mentions, entry by entry.
All-keys : (P : ℕ → Type 0) (entries : List LfAssigned) → ((k : ℕ) → has_number (keys entries) k ≡ true → P k) → All (λ e. P e.assigned_goal) entries
All-keys P [] each = All-nil (λ e. P e.assigned_goal)
All-keys P (e ∷ rest) each =
    All-cons (λ f. P f.assigned_goal) e rest (each e.assigned_goal (has_number-here e.assigned_goal (keys rest))) (All-keys P rest (λ k has. each k (has_number-later e.assigned_goal (keys rest) k has)))

All-bodies : (P : ℕ → Type 0) (entries : List LfAssigned) → ((g : ℕ) → OccursInBodies (metavariable g) entries → P g) → All (λ e. (g : ℕ) → OccursIn (metavariable g) e.body → P g) entries
All-bodies P [] each = All-nil (λ e. (g : ℕ) → OccursIn (metavariable g) e.body → P g)
All-bodies P (e ∷ rest) each = All-cons (λ f. (g : ℕ) → OccursIn (metavariable g) f.body → P g) e rest (λ g o. each g (inl o)) (All-bodies P rest (λ g o. each g (inr o)))

AllPairs-keys : (entries : List LfAssigned) → are_different (keys entries) ≡ true → AllPairs (λ e f. e.assigned_goal ≢ f.assigned_goal) entries
AllPairs-keys [] differ = λ i j d less within. absurd (omega arith)
AllPairs-keys (e ∷ rest) differ =
    let parts = are_different-parts e.assigned_goal (keys rest) differ in
    AllPairs-cons (λ f g. f.assigned_goal ≢ g.assigned_goal) e rest
    (All-keys (λ k. e.assigned_goal ≢ k) rest (λ k has same. both_ways (has_number (keys rest) k) (ap (has_number (keys rest)) (sym same) ∙ parts.0) has))
    (AllPairs-keys rest parts.1)

-- A metavariable of the problem that has no entry.
abbrev IsLeft : List LfEquation → List LfAssigned → ℕ → Type 0
IsLeft problem entries g = MentionedBy problem g × (has_number (keys entries) g ≡ false)

module _ (kinds : ℕ → Option SimpleType) (Γ : Scope) (frozen : Frozen) (problem : List LfEquation) where
  -- what is known of each state on the way
  pub record IsKept (equations : List LfEquation) (entries : List LfAssigned) : Type 0 where
    pub differ : are_different (keys entries) ≡ true
    pub of_keys : (k : ℕ) → has_number (keys entries) k ≡ true → (frozen k ≡ false) × MentionedBy problem k
    pub entries_shaped : All (ShapedEntry Γ) entries
    pub equations_shaped : ShapedEquations kinds Γ equations
    pub of_equations : (g : ℕ) → OccursInEquations (metavariable g) equations → IsLeft problem entries g
    pub of_bodies : (g : ℕ) → OccursInBodies (metavariable g) entries → IsLeft problem entries g

  -- a transition that assigns nothing
  kept_same_entries : {equations results : List LfEquation} {entries : List LfAssigned} → Step frozen (leaving equations entries) (leaving results entries) → IsKept equations entries → IsKept results entries
  kept_same_entries step kept = record {
    differ = kept.differ;
    of_keys = kept.of_keys;
    entries_shaped = kept.entries_shaped;
    equations_shaped = step_keeps_shapes kinds Γ step kept.equations_shaped;
    of_equations = λ g o. kept.of_equations g (step_mentions step g o);
    of_bodies = kept.of_bodies;
  }

  -- a transition that assigns a metavariable
  module _ (path : List ℕ) (a b t u : LfTerm) (rest results : List LfEquation) (entries others : List LfAssigned) (e : LfAssigned) (is_solved : IsSolved frozen t u e) (entry : ShapedEntry Γ e)
      (in_left : (g : ℕ) → OccursIn (metavariable g) t → OccursInEquation (metavariable g) (of_terms path a b)) (in_right : (g : ℕ) → OccursIn (metavariable g) u → OccursInEquation (metavariable g) (of_terms path a b))
      (left : InstantiatedEquations (one_assigned e) rest results) (more : InstantiatedEntries (one_assigned e) entries others) (kept : IsKept (of_terms path a b ∷ rest) entries) where
    key_is_left : IsLeft problem entries e.assigned_goal
    key_is_left = kept.of_equations e.assigned_goal (in_first (in_left e.assigned_goal (solved_mentions is_solved)))

    key_of_others : (g : ℕ) → has_number (keys others) g ≡ has_number (keys entries) g
    key_of_others g = ap (λ ks. has_number ks g) (keys-left more)

    still_left : (g : ℕ) → IsLeft problem entries g → nat_eq e.assigned_goal g ≡ false → IsLeft problem (e ∷ others) g
    still_left g is_left differ = (is_left.0, or_from (nat_eq e.assigned_goal g) (has_number (keys others) g) differ (key_of_others g ∙ is_left.1))

    right_is_left : (g : ℕ) → OccursIn (metavariable g) u → IsLeft problem entries g
    right_is_left g o = kept.of_equations g (in_first (in_right g o))

    equations_leave : (g : ℕ) → OccursInEquations (metavariable g) results → IsLeft problem (e ∷ others) g
    equations_leave g o = let both = remains is_solved g (equations_mention left g o) in still_left g (before both.0) both.1
      where
        before : OccursInEquations (metavariable g) rest ⊎ OccursIn (metavariable g) u → IsLeft problem entries g
        before (inl p) = kept.of_equations g (in_rest p)
        before (inr p) = right_is_left g p

    bodies_leave : (g : ℕ) → OccursInBodies (metavariable g) (e ∷ others) → IsLeft problem (e ∷ others) g
    bodies_leave g (inl o) = let both = body_mentions is_solved g o in still_left g (right_is_left g both.0) both.1
    bodies_leave g (inr o) = let both = remains is_solved g (entries_mention more g o) in still_left g (before both.0) both.1
      where
        before : OccursInBodies (metavariable g) entries ⊎ OccursIn (metavariable g) u → IsLeft problem entries g
        before (inl p) = kept.of_bodies g p
        before (inr p) = right_is_left g p

    keys_leave : (k : ℕ) → has_number (keys (e ∷ others)) k ≡ true → (frozen k ≡ false) × MentionedBy problem k
    keys_leave k has = either (or_cases (nat_eq e.assigned_goal k) (has_number (keys others) k) has)
      where
        either : (nat_eq e.assigned_goal k ≡ true) ⊎ (has_number (keys others) k ≡ true) → (frozen k ≡ false) × MentionedBy problem k
        either (inl same) =
            let number = eqb-true e.assigned_goal k same in
            (subst (λ g. frozen g ≡ false) number is_solved.unfrozen, subst (MentionedBy problem) number key_is_left.0)
        either (inr there) = kept.of_keys k (sym (key_of_others k) ∙ there)

    kept_assigning : ShapedEquations kinds Γ results → IsKept results (e ∷ others)
    kept_assigning shaped = record {
      differ = and_from (not (has_number (keys others) e.assigned_goal)) (are_different (keys others))
          (not_from_false (has_number (keys others) e.assigned_goal) (key_of_others e.assigned_goal ∙ key_is_left.1)) (ap are_different (keys-left more) ∙ kept.differ);
      of_keys = keys_leave;
      entries_shaped = All-cons (ShapedEntry Γ) e others entry (entries_left_are_shaped Γ e entry entries others kept.entries_shaped more);
      equations_shaped = shaped;
      of_equations = equations_leave;
      of_bodies = bodies_leave;
    }

  kept_step : {state other : Unifying} → Step frozen state other → IsKept state.equations state.assigned → IsKept other.equations other.assigned
  kept_step step_atoms kept = kept_same_entries step_atoms kept
  kept_step step_lams kept = kept_same_entries step_lams kept
  kept_step step_same kept = kept_same_entries step_same kept
  kept_step (step_heads rigid differ) kept = kept_same_entries (step_heads rigid differ) kept
  kept_step (step_left {path = path} {h = h} {k = k} {ts = ts} {us = us} {rest = rest} {results = results} {entries = entries} {others = others} e f left more) kept =
      let shaped = (first_and_rest kinds Γ (of_terms path (at h ts) (at k us)) rest kept.equations_shaped).0 in
      kept_assigning path (at h ts) (at k us) (at h ts) (at k us) rest results entries others e (solving-Some frozen (at h ts) (at k us) e f) (left_entry_is_shaped kinds Γ frozen path e shaped f)
      (λ g o. inl o) (λ g o. inr o) left more kept
      (step_keeps_shapes kinds Γ {frozen = frozen} (step_left {path = path} e f left more) kept.equations_shaped)
  kept_step (step_right {path = path} {h = h} {k = k} {ts = ts} {us = us} {rest = rest} {results = results} {entries = entries} {others = others} e none f left more) kept =
      let shaped = (first_and_rest kinds Γ (of_terms path (at h ts) (at k us)) rest kept.equations_shaped).0 in
      kept_assigning path (at h ts) (at k us) (at k us) (at h ts) rest results entries others e (solving-Some frozen (at k us) (at h ts) e f) (right_entry_is_shaped kinds Γ frozen path e shaped f)
      (λ g o. inr o) (λ g o. inl o) left more kept
      (step_keeps_shapes kinds Γ {frozen = frozen} (step_right {path = path} e none f left more) kept.equations_shaped)

  kept_answer : (equations : List LfEquation) (entries : List LfAssigned) → IsKept equations entries → IsResolvedAnswer Γ frozen problem entries
  kept_answer equations entries kept = record {
    each_once = AllPairs-keys entries kept.differ;
    of_unfrozen = All-keys (λ k. IsTrue (frozen k) → ⊥) entries (λ k has. both_ways (frozen k) (kept.of_keys k has).0);
    of_mentioned = All-keys (MentionedBy problem) entries (λ k has. (kept.of_keys k has).1);
    shaped = kept.entries_shaped;
    mentions = All-bodies (MentionedBy problem) entries (λ g o. (kept.of_bodies g o).0);
    resolved = All-bodies (λ g. assignment_of entries g ≡ None) entries (λ g o. assignment_of-keys entries g (kept.of_bodies g o).1);
  }

  solved_inj : (es fs : List LfAssigned) → solved es ≡ solved fs → es ≡ fs
  solved_inj es fs e = cc

  kept_end : {state : Unifying} {ending : Ending} → Ends frozen state ending → (entries : List LfAssigned) → ending ≡ solved entries → IsKept state.equations state.assigned → IsResolvedAnswer Γ frozen problem entries
  kept_end (ends_solved {entries = es}) entries e kept = subst (IsResolvedAnswer Γ frozen problem) (solved_inj es entries e) (kept_answer [] es kept)
  kept_end (ends_refused stop) entries e kept = absurd cc
  kept_end (ends_later step later) entries e kept = kept_end later entries e (kept_step step kept)

  pub is_answer : (entries : List LfAssigned) → ShapedEquations kinds Γ problem → Ends frozen (leaving problem []) (solved entries) → IsResolvedAnswer Γ frozen problem entries
  is_answer entries shaped ends =
      kept_end ends entries refl
      (record {
        differ = refl;
        of_keys = λ k has. absurd cc;
        entries_shaped = All-nil (ShapedEntry Γ);
        equations_shaped = shaped;
        of_equations = λ g o. (o, refl);
        of_bodies = λ g o. absurd o;
      })
