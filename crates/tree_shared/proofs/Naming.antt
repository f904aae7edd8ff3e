-- What is done to a tree that has a name, and what the name is.
use Rattle.std.proofs.Common.{◌≡◌, ℕ, List, Option, Some, None, sym, subst}
use Rattle.tree_queue.proofs.AddressLemmas.{Some_inj}
use Rattle.tree_steps.specs.declared.tree.Tree.{Tree}
use Rattle.tree_shared.specs.Names.{IsTreeOf, IsNamed}

module _ {P S N : Type 0} (branches : P → S → List (ℕ × List S)) (seen : P → N → S) (own : P → N → Type 0) where
  -- what keeps the tree one of its problem, root, budget and seats keeps the name
  pub keeps_name : (problem : Option P) (root : Option N) (budget workers : ℕ) (this : P) (old new : Tree P N S) → problem ≡ Some this → IsNamed branches seen own problem root budget workers old →
      ((r : N) → IsTreeOf branches seen own this r budget workers old → IsTreeOf branches seen own this r budget workers new) → IsNamed branches seen own problem root budget workers new
  keeps_name None root budget workers this old new is named keep = absurd named
  keeps_name (Some p) None budget workers this old new is named keep = absurd named
  keeps_name (Some p) (Some r) budget workers this old new is named keep =
      let same = Some_inj p this is in
      subst (λ q. IsTreeOf branches seen own q r budget workers new) (sym same) (keep r (subst (λ q. IsTreeOf branches seen own q r budget workers old) same named))

  -- a tree of what the name says has it, and a tree that has the name is of that
  pub has_name : (problem : Option P) (root : Option N) (budget workers : ℕ) (this : P) (from : N) (tree : Tree P N S) → problem ≡ Some this → root ≡ Some from →
      IsTreeOf branches seen own this from budget workers tree → IsNamed branches seen own problem root budget workers tree
  has_name problem root budget workers this from tree is starts of =
      subst (λ p. IsNamed branches seen own p root budget workers tree) (sym is) (subst (λ r. IsNamed branches seen own (Some this) r budget workers tree) (sym starts) of)

  pub is_of : (problem : Option P) (root : Option N) (budget workers : ℕ) (this : P) (from : N) (tree : Tree P N S) → problem ≡ Some this → root ≡ Some from →
      IsNamed branches seen own problem root budget workers tree → IsTreeOf branches seen own this from budget workers tree
  is_of problem root budget workers this from tree is starts named =
      subst (λ r. IsNamed branches seen own (Some this) r budget workers tree) starts (subst (λ p. IsNamed branches seen own p root budget workers tree) is named)
