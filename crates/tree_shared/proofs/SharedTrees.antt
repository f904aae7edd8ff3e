-- What calls of a tree keep of a tree that has a name.
use Rattle.std.proofs.Common.{◌≡◌, ℕ, ◌<◌, Bool, true, false, ◌==◌, ◌||◌, List, [], ◌∷◌, ◌++◌, Result, Ok, Err, IfOk, OnErr, refl, sym, ap, subst, ◌∙◌}
use Rattle.std.specs.List.{list_any}
use Rattle.std.proofs.lemmas.List.Elements.{All-push}
use Rattle.tree_runs.specs.States.{TreeEvent, claim, release, TreeState, start, after, state_of, without_seat}
use Rattle.tree_runs.specs.Runs.{is_busy}
use Rattle.tree_runs.proofs.Journals.{state_from-append}
use Rattle.tree_steps.specs.declared.tree.Tree.{Tree}
use Rattle.tree_steps.specs.declared.answers.Claim.{Claim}
use Rattle.tree_steps.specs.declared.answers.Claim.TheVariants.{Take, Decided, Spent, Idle}
use Rattle.tree_steps.specs.Trees.{IsTree, IsAnswer, state_of_tree}
use Rattle.tree_shared.specs.Seats.{seat_of, AreSeatsBelow}
use Rattle.tree_shared.specs.Names.{IsTreeOf}

abbrev is_at : ℕ → List (ℕ × ℕ) → Bool
is_at seat held = list_any (λ pair. pair.0 == seat) held

-- a seat that gave back holds nothing
not_at : (seat : ℕ) (held : List (ℕ × ℕ)) → is_at seat (without_seat seat held) ≡ false
not_at seat [] = refl
not_at seat (pair ∷ held) = go (pair.0 == seat) refl (not_at seat held)
  where
    go : (v : Bool) → (pair.0 == seat) ≡ v → is_at seat (without_seat seat held) ≡ false → is_at seat (without_seat seat (pair ∷ held)) ≡ false
    go true e h = rw e h
    go false e h = rw e (rw e h)

-- others hold nothing more
still_not_at : (seat other : ℕ) (held : List (ℕ × ℕ)) → is_at other held ≡ false → is_at other (without_seat seat held) ≡ false
still_not_at seat other [] h = refl
still_not_at seat other (pair ∷ held) h = go (still_not_at seat other held) (pair.0 == seat) refl (pair.0 == other) refl
  where
    rest : (v : Bool) → (pair.0 == other) ≡ v → is_at other held ≡ false
    rest true e = absurd (let bad : true ≡ false = subst (λ b. (b || is_at other held) ≡ false) e h in cc)
    rest false e = subst (λ b. (b || is_at other held) ≡ false) e h

    go : (is_at other held ≡ false → is_at other (without_seat seat held) ≡ false) → (v : Bool) → (pair.0 == seat) ≡ v → (w : Bool) → (pair.0 == other) ≡ w →
        is_at other (without_seat seat (pair ∷ held)) ≡ false
    go below true e w f = rw e (below (rest w f))
    go below false e true f = absurd (let bad : true ≡ false = subst (λ b. (b || is_at other held) ≡ false) f h in cc)
    go below false e false f = rw e (rw f (below (rest false f)))

module _ {S : Type 0} (branches : S → List (ℕ × List S)) where
  given_back : (state : TreeState S) (seat node : ℕ) → is_busy (after branches state (release seat node)) seat ≡ false
  unfolding after
  given_back state seat node = not_at seat state.held

  others_given_back : (state : TreeState S) (seat node other : ℕ) → is_busy state other ≡ false → is_busy (after branches state (release seat node)) other ≡ false
  unfolding after
  others_given_back state seat node other h = still_not_at seat other state.held h

module _ {P S N : Type 0} (branches : P → S → List (ℕ × List S)) (seen : P → N → S) (own : P → N → Type 0) (problem : P) (old new : Tree P N S)
    (is_tree : IsTree (branches problem) (seen problem) (own problem) new) (root_same : new.root ≡ old.root) (budget_same : new.budget ≡ old.budget) where
  -- with the same events it has the same name
  pub stays : new.journal.events ≡ old.journal.events → (root : N) (budget workers : ℕ) → IsTreeOf branches seen own problem root budget workers old → IsTreeOf branches seen own problem root budget workers new
  stays same root budget workers of =
      record { is_tree = is_tree; root_is = root_same ∙ of.root_is; budget_is = budget_same ∙ of.budget_is; seats = subst (AreSeatsBelow workers) (sym same) of.seats }

  -- and so it has with one event more of a seat below the number
  pub goes : (event : TreeEvent) → new.journal.events ≡ old.journal.events ++ event ∷ [] → (root : N) (budget workers : ℕ) → seat_of event < workers →
      IsTreeOf branches seen own problem root budget workers old → IsTreeOf branches seen own problem root budget workers new
  goes event more root budget workers below of =
      record {
        is_tree = is_tree;
        root_is = root_same ∙ of.root_is;
        budget_is = budget_same ∙ of.budget_is;
        seats = subst (AreSeatsBelow workers) (sym more) (All-push (λ e. seat_of e < workers) old.journal.events event of.seats below);
      }

  module _ (seat node : ℕ) (more : new.journal.events ≡ old.journal.events ++ release seat node ∷ []) where
    released : state_of_tree (branches problem) (seen problem) (own problem) new ≡ after (branches problem) (state_of_tree (branches problem) (seen problem) (own problem) old) (release seat node)
    released =
        ap (λ r. state_of (branches problem) (seen problem r) new.journal.events) root_same ∙
        (ap (state_of (branches problem) (seen problem old.root)) more ∙ state_from-append (branches problem) (start (seen problem old.root)) old.journal.events (release seat node))

    pub seat_is_idle : is_busy (state_of_tree (branches problem) (seen problem) (own problem) new) seat ≡ false
    seat_is_idle = subst (λ state. is_busy state seat ≡ false) (sym released) (given_back (branches problem) (state_of_tree (branches problem) (seen problem) (own problem) old) seat node)

    pub others_stay_idle : (other : ℕ) → is_busy (state_of_tree (branches problem) (seen problem) (own problem) old) other ≡ false → is_busy (state_of_tree (branches problem) (seen problem) (own problem) new) other ≡ false
    others_stay_idle other h =
        subst (λ state. is_busy state other ≡ false) (sym released) (others_given_back (branches problem) (state_of_tree (branches problem) (seen problem) (own problem) old) seat node other h)

  -- what a claim answers keeps the name
  pub claimed : {E : Type 0} (seat : ℕ) (result : Result (Claim N) E) → IfOk result (IsAnswer (branches problem) (seen problem) (own problem) old new seat) →
      OnErr result (new.journal.events ≡ old.journal.events) → (root : N) (budget workers : ℕ) → seat < workers → IsTreeOf branches seen own problem root budget workers old →
      IsTreeOf branches seen own problem root budget workers new
  claimed seat (Ok (Take node content)) answer err root budget workers below of = goes (claim seat node) answer.0 root budget workers below of
  claimed seat (Ok Decided) answer err root budget workers below of = stays answer.1 root budget workers of
  claimed seat (Ok (Spent held)) answer err root budget workers below of = stays answer.3 root budget workers of
  claimed seat (Ok (Idle held)) answer err root budget workers below of = stays answer.5 root budget workers of
  claimed seat (Err e) answer err root budget workers below of = stays err root budget workers of
