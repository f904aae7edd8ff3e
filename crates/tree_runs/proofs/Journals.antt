-- One more event at the end of a journal, and induction on runs.
use Rattle.std.proofs.Common.{◌≡◌, ℕ, Bool, true, ◌&&◌, List, [], ◌∷◌, ◌++◌, refl, sym, ap, subst, ◌∙◌, arith, append_assoc, append-nil}
use Rattle.std.proofs.lemmas.Bool.{and_parts, and_from}
use Rattle.tree_runs.specs.States.{TreeEvent, TreeState, start, after, state_from, state_of}
use Rattle.tree_runs.specs.Runs.{is_legal, is_run_from, is_run}

and_groups : (a b c : Bool) → ((a && b) && c) ≡ (a && (b && c))
and_groups a b c = grind arith

module _ {S : Type 0} (branches : S → List (ℕ × List S)) where
  pub state_from-append : (state : TreeState S) (journal : List TreeEvent) (event : TreeEvent) →
      state_from branches state (journal ++ event ∷ []) ≡ after branches (state_from branches state journal) event
  state_from-append state [] event = refl
  state_from-append state (first ∷ journal) event = state_from-append (after branches state first) journal event

  pub is_run_from-append : (budget : ℕ) (state : TreeState S) (journal : List TreeEvent) (event : TreeEvent) →
      is_run_from branches budget state (journal ++ event ∷ []) ≡ (is_run_from branches budget state journal && is_legal branches budget (state_from branches state journal) event)
  is_run_from-append budget state [] event = grind arith
  is_run_from-append budget state (first ∷ journal) event =
      ap (λ b. is_legal branches budget state first && b) (is_run_from-append budget (after branches state first) journal event) ∙
      sym (and_groups (is_legal branches budget state first) (is_run_from branches budget (after branches state first) journal) _)

  module _ (budget : ℕ) (root : S) (Q : List TreeEvent → Type 0)
      (more : (journal : List TreeEvent) (event : TreeEvent) → is_run branches budget root journal ≡ true → Q journal →
      is_legal branches budget (state_of branches root journal) event ≡ true → Q (journal ++ event ∷ [])) where
    from_front : (front rest : List TreeEvent) → is_run branches budget root front ≡ true → Q front →
        is_run_from branches budget (state_of branches root front) rest ≡ true → Q (front ++ rest)
    from_front front [] run q h = rw append-nil q
    from_front front (event ∷ rest) run q h =
        let parts = and_parts _ _ h in
        let longer : is_run branches budget root (front ++ event ∷ []) ≡ true = is_run_from-append budget (start root) front event ∙ and_from _ _ run parts.0 in
        subst Q (append_assoc front (event ∷ []) rest)
        (from_front (front ++ event ∷ []) rest longer (more front event run q parts.0)
        (subst (λ state. is_run_from branches budget state rest ≡ true) (sym (state_from-append (start root) front event)) parts.1))

    -- what holds of no events, and goes on by legal events, holds of all runs
    pub on_runs : Q [] → (journal : List TreeEvent) → is_run branches budget root journal ≡ true → Q journal
    on_runs none journal run = from_front [] journal refl none run
