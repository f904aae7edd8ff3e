-- What marks mean, over any branches with a law of children: what is proved has a derivation, and what is stuck has none.
use Rattle.std.specs.Prelude.{◌≡◌, ◌⊎◌, ℕ, zero, suc, ◌≤◌, List, [], ◌∷◌, ◌++◌, length, sum, Some, slice_get, ◌↔◌, All, AllPairs, ◌≢◌}
use Rattle.std.specs.List.{Contains}
use Rattle.tree_runs.specs.Addresses.{Address, at, Proved, Stuck}

module _ {S : Type 0} (Own : S → Type 0) (branches : S → List (ℕ × List S)) (Derives : ℕ → S → Type 0) where
  -- Nodes have derivations of these lengths, one by one.
  abbrev pub EachDerives : List ℕ → List S → Type 0
  EachDerives [] [] = Unit {0}
  EachDerives [] (s ∷ nodes) = ⊥
  EachDerives (n ∷ ns) [] = ⊥
  EachDerives (n ∷ ns) (s ∷ nodes) = Derives n s × EachDerives ns nodes

  -- An own node has no derivation without a step; it has one of a step more where all children of some branch have derivations whose lengths add up; and its children are own nodes.
  pub record HasChildrenLaw : Type 0 where
    pub none_without_step : (s : S) → Own s → Derives zero s → ⊥
    pub of_children : (s : S) → Own s → (n : ℕ) → Derives (suc n) s ↔
        (i percent : ℕ) × (children : List S) × (ns : List ℕ) × (slice_get (branches s) i ≡ Some (percent, children)) × (sum ns ≡ n) × EachDerives ns children
    pub own_children : (s : S) → Own s → All (λ (branch : ℕ × List S). All Own branch.1) (branches s)

-- With each address the one above it is there, too.
abbrev pub HasParents : List Address → Type 0
HasParents committed = (above : Address) (step : ℕ × ℕ) → Contains committed (above ++ step ∷ []) → Contains committed above

-- What is proved has a derivation.
abbrev pub ProvedHasDerivation : {S : Type 0} → (S → Type 0) → (S → List (ℕ × List S)) → (ℕ → S → Type 0) → Type 0
ProvedHasDerivation {S} Own branches Derives =
    HasChildrenLaw Own branches Derives →
    (root : S) → Own root → (committed : List Address) (address : Address) (s : S) → at branches root address ≡ Some s → Proved branches root committed address → (n : ℕ) × Derives n s

-- What is stuck has none.
abbrev pub StuckHasNoDerivation : {S : Type 0} → (S → Type 0) → (S → List (ℕ × List S)) → (ℕ → S → Type 0) → Type 0
StuckHasNoDerivation {S} Own branches Derives =
    HasChildrenLaw Own branches Derives →
    (root : S) → Own root → (committed : List Address) (address : Address) (s : S) → at branches root address ≡ Some s → Stuck branches root committed address → (n : ℕ) → Derives n s → ⊥

-- Where the root has a derivation, some finite set of addresses, which has all parents, makes it proved.
abbrev pub DerivationsAreFound : {S : Type 0} → (S → Type 0) → (S → List (ℕ × List S)) → (ℕ → S → Type 0) → Type 0
DerivationsAreFound {S} Own branches Derives =
    HasChildrenLaw Own branches Derives →
    (root : S) → Own root → (n : ℕ) → Derives n root → (committed : List Address) × HasParents committed × Proved branches root committed []

-- Every address of the unfolding is among these.
abbrev pub AreAllAddresses : {S : Type 0} → (S → List (ℕ × List S)) → S → List Address → Type 0
AreAllAddresses {S} branches root addresses = (address : Address) (s : S) → at branches root address ≡ Some s → Contains addresses address

-- Where the unfolding has at most so many addresses, as many that differ and are of it decide the root.
abbrev pub SmallUnfoldingsAreDecided : Type 0 → Type 0
SmallUnfoldingsAreDecided S =
    (branches : S → List (ℕ × List S)) (root : S) (addresses : List Address) → AreAllAddresses branches root addresses →
    (committed : List Address) → AllPairs (λ a b. a ≢ b) committed → All (λ a. (s : S) × (at branches root a ≡ Some s)) committed → length addresses ≤ length committed →
    Proved branches root committed [] ⊎ Stuck branches root committed []
