-- What the calls need of a sound state.
use Rattle.std.proofs.Common.{◌≡◌, ℕ, ◌<◌, Bool, true, false, ◌==◌, ◌&&◌, List, length, Option, Some, None, refl, sym, ◌∙◌, arith, nat_lt}
use Rattle.std.specs.List.{Contains}
use Rattle.std.proofs.lemmas.Bool.{and_from, ltb-true, ltb-false}
use Rattle.std.proofs.lemmas.List.Folds.{list_any_at}
use Rattle.tree_runs.specs.Shapes.{alternatives_at}
use Rattle.tree_runs.specs.States.{TreeState, state_of}
use Rattle.tree_runs.specs.Runs.{is_holding, is_run}
use Rattle.tree_runs.specs.Soundness.{IsSound, is_committed}
use Rattle.tree_runs.proofs.Marks.{alternatives-past}
use Rattle.tree_runs.proofs.Soundness.{runs_are_sound}
use Rattle.tree_steps.specs.Trees.{IsRegular}
use Rattle.tree_steps.proofs.BestEntries.{same_number}

module _ {S : Type 0} (branches : S → List (ℕ × List S)) (root : S) (budget : ℕ) where
  pub holding_of : (state : TreeState S) (seat node : ℕ) → Contains state.held (seat, node) → is_holding state seat node ≡ true
  holding_of state seat node h = list_any_at (λ pair. pair.0 == seat && pair.1 == node) state.held h.0 (seat, node) h.1 (rw h.2 (and_from (seat == seat) (node == node) (same_number seat) (same_number node)))

  pub regular_of_sound : (state : TreeState S) → IsSound branches root budget state → IsRegular state budget
  regular_of_sound state sound = record {
    is_shape = sound.is_shape;
    sizes = sound.nodes;
    addresses = sound.addresses;
    one_node = λ seat first second h g. sound.one_node seat first second (holding_of state seat first h) (holding_of state seat second g);
    one_seat = λ first second node h g. sound.one_seat first second node (holding_of state first node h) (holding_of state second node g);
    held_stands = λ seat node h. let l = sound.held_stand seat node (holding_of state seat node h) in omega (arith, l, sound.nodes);
    committed_stands = λ node h. stands node h (nat_lt node (length state.nodes)) refl;
    ungrown = λ node l h. no_alternatives node h (alternatives_at state.shape node) refl;
    held_uncommitted = λ seat node h. uncommitted node (sound.held_ungrown seat node (holding_of state seat node h)) (is_committed state node) refl;
    count = sound.within;
  }
    where
      stands : (node : ℕ) → is_committed state node ≡ true → (v : Bool) → nat_lt node (length state.nodes) ≡ v → node < length state.nodes
      stands node h true e = ltb-true _ _ e
      stands node h false e = let past = ltb-false node (length state.nodes) e in absurd (sound.committed_grown node h (alternatives-past state.shape sound.is_shape node (omega (arith, past, sound.nodes))))

      no_alternatives : (node : ℕ) → is_committed state node ≡ false → (o : Option (List (ℕ × ℕ))) → alternatives_at state.shape node ≡ o → o ≡ None
      no_alternatives node h None e = refl
      no_alternatives node h (Some all) e = absurd (let c = sound.grown_committed node all e in let both : true ≡ false = sym c ∙ h in cc)

      uncommitted : (node : ℕ) → alternatives_at state.shape node ≡ None → (v : Bool) → is_committed state node ≡ v → v ≡ false
      uncommitted node g true e = absurd (sound.committed_grown node e g)
      uncommitted node g false e = refl

  pub regular_run : (journal : List _) → is_run branches budget root journal ≡ true → IsRegular (state_of branches root journal) budget
  regular_run journal run = regular_of_sound (state_of branches root journal) (runs_are_sound branches root budget journal run)
