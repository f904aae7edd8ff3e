-- Where no node is eligible and the root is undecided, some node is held.
use Rattle.std.proofs.Common.{◌≡◌, ℕ, ◌<◌, Bool, true, false, ◌==◌, List, [], ◌∷◌, length, refl, sym, ◌∙◌, arith, nat_lt}
use Rattle.std.specs.List.{list_any}
use Rattle.std.proofs.lemmas.Bool.{and_from, lt-ltb}
use Rattle.tree_runs.specs.Marks.{is_decided, is_relevant}
use Rattle.tree_runs.specs.States.{TreeState}
use Rattle.tree_runs.specs.Best.{is_open, is_eligible}
use Rattle.tree_runs.specs.Soundness.{IsSound, is_committed}
use Rattle.tree_runs.proofs.Progress.{HasOpenNode, progress}

some_held : (node : ℕ) (held : List (ℕ × ℕ)) → list_any (λ pair. pair.1 == node) held ≡ true → 0 < length held
some_held node [] h = cc
some_held node (pair ∷ held) h = omega arith

module _ {S : Type 0} (branches : S → List (ℕ × List S)) (root : S) (budget : ℕ) (state : TreeState S) (sound : IsSound branches root budget state) where
  pub idle_holds : is_decided state.shape 0 ≡ false → ((node : ℕ) → is_eligible state node ≡ false) → 0 < length state.held
  idle_holds undecided idle = by_held (list_any (λ pair. pair.1 == found.node) state.held) refl
    where
      found : HasOpenNode state.shape
      found = progress state.shape sound.is_shape undecided

      uncommitted : (v : Bool) → is_committed state found.node ≡ v → v ≡ false
      uncommitted true e = absurd (sound.committed_grown found.node e found.ungrown)
      uncommitted false e = refl

      by_held : (v : Bool) → list_any (λ pair. pair.1 == found.node) state.held ≡ v → 0 < length state.held
      by_held true e = some_held found.node state.held e
      by_held false e =
          let stood : nat_lt found.node (length state.nodes) ≡ true = lt-ltb found.node (length state.nodes) (let l = found.stands in omega (arith, l, sound.nodes)) in
          let fresh : is_committed state found.node ≡ false = uncommitted (is_committed state found.node) refl in
          let opened : is_open state found.node ≡ true = rw (stood, fresh, e) refl in
          let eligible = and_from (is_open state found.node) (is_relevant state.shape found.node) opened found.relevant in
          absurd (let both : true ≡ false = sym eligible ∙ idle found.node in cc)
