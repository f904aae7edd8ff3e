-- The children of a commit stand in the order of the shape's new nodes.
use Rattle.std.proofs.Common.{◌≡◌, inl, inr, ℕ, zero, suc, ◌+◌, ◌*◌, ◌/◌, List, [], ◌∷◌, ◌++◌, length, Option, Some, None, refl, sym, ap, ◌∙◌, arith, length-append}
use Rattle.std.specs.Prelude.{sum, slice_get}
use Rattle.tree_runs.specs.Shapes.{children_above, grown_above}
use Rattle.tree_runs.specs.States.{TreeNode, children_nodes, branch_nodes, counts_of}
use Rattle.tree_runs.proofs.Lists.{below_or_past, slice_get-append, slice_get-append_past}
use Rattle.tree_runs.proofs.Shapes.{length-children_above, child_entry, sum-cons}

length-children_nodes : {S : Type 0} (content : TreeNode S) (alternative percent place : ℕ) (children : List S) → length (children_nodes content alternative percent place children) ≡ length children
length-children_nodes content alternative percent place [] = refl
length-children_nodes content alternative percent place (child ∷ children) = omega (arith, length-children_nodes content alternative percent (suc place) children)

pub length-branch_nodes : {S : Type 0} (content : TreeNode S) (base : ℕ) (branches : List (ℕ × List S)) → length (branch_nodes content base branches) ≡ sum (counts_of branches)
length-branch_nodes content base [] = refl
length-branch_nodes content base (branch ∷ branches) =
    length-append (children_nodes content base branch.0 0 branch.1) (branch_nodes content (suc base) branches)
    ∙ omega (arith, sum-cons (length branch.1) (counts_of branches), length-children_nodes content base branch.0 0 branch.1, length-branch_nodes content (suc base) branches)

-- one child of an alternative
record IsNth {S : Type 0} (content : TreeNode S) (alternative place k : ℕ) (children : List S) (born : TreeNode S) : Type 0 where
  address : born.address ≡ content.address ++ (alternative, place + k) ∷ []
  seen : slice_get children k ≡ Some born.seen

nth_child : {S : Type 0} (content : TreeNode S) (alternative percent place k : ℕ) (children : List S) (born : TreeNode S) → slice_get (children_nodes content alternative percent place children) k ≡ Some born →
    IsNth content alternative place k children born
nth_child content alternative percent place k [] born e = absurd cc
nth_child {S} content alternative percent place zero (child ∷ children) born e =
    let first : TreeNode S = record { address = content.address ++ (alternative, place) ∷ []; seen = child; priority = content.priority * percent / 100 } in
    let same : first ≡ born = cc in
    record { address = ap (λ b. b.address) (sym same) ∙ ap (λ (p : ℕ). content.address ++ (alternative, p) ∷ []) (let z : place ≡ place + 0 = omega arith in z); seen = ap (λ b. Some b.seen) same }
nth_child content alternative percent place (suc k) (child ∷ children) born e =
    let rest = nth_child content alternative percent (suc place) k children born e in
    record { address = rest.address ∙ ap (λ (p : ℕ). content.address ++ (alternative, p) ∷ []) (let z : suc place + k ≡ place + suc k = omega arith in z); seen = rest.seen }

-- what stands at this alternative and place
abbrev pub child_in : {S : Type 0} → Option (ℕ × List S) → ℕ → Option S
child_in None place = None
child_in (Some branch) place = slice_get branch.1 place

-- a node that a commit gives, and where the shape has it
pub record IsBorn {S : Type 0} (content : TreeNode S) (node base k : ℕ) (branches : List (ℕ × List S)) (born : TreeNode S) : Type 0 where
  pub alternative : ℕ
  pub place : ℕ
  pub above : slice_get (grown_above node base (counts_of branches)) k ≡ Some (Some (node, base + alternative, place))
  pub address : born.address ≡ content.address ++ (base + alternative, place) ∷ []
  pub child : child_in (slice_get branches alternative) place ≡ Some born.seen

pub is_born : {S : Type 0} (content : TreeNode S) (node base k : ℕ) (branches : List (ℕ × List S)) (born : TreeNode S) → slice_get (branch_nodes content base branches) k ≡ Some born → IsBorn content node base k branches born
is_born content node base k [] born e = absurd cc
is_born content node base k (branch ∷ branches) born e = elim (below_or_past (length branch.1) k) [
  | inl small ↦
      let size = length-children_nodes content base branch.0 0 branch.1 in
      let nth = nth_child content base branch.0 0 k branch.1 born (sym (slice_get-append (children_nodes content base branch.0 0 branch.1) (branch_nodes content (suc base) branches) k (omega (arith, size))) ∙ e) in
      let wide = length-children_above node base 0 (length branch.1) in
      let z : base ≡ base + 0 = omega arith in
      let y : 0 + k ≡ k = omega arith in
      record {
        alternative = 0;
        place = k;
        above = slice_get-append (children_above node base 0 (length branch.1)) (grown_above node (suc base) (counts_of branches)) k (omega (arith, wide)) ∙ child_entry node base 0 (length branch.1) k small
            ∙ ap (λ (p : ℕ). Some (Some (node, base, p))) y ∙ ap (λ (b : ℕ). Some (Some (node, b, k))) z;
        address = nth.address ∙ ap (λ (p : ℕ). content.address ++ (base, p) ∷ []) y ∙ ap (λ (b : ℕ). content.address ++ (b, k) ∷ []) z;
        child = nth.seen;
      }
  | inr p ↦
      let size = length-children_nodes content base branch.0 0 branch.1 in
      let wide = length-children_above node base 0 (length branch.1) in
      let rest = is_born content node (suc base) p.0 branches born (sym (slice_get-append_past (children_nodes content base branch.0 0 branch.1) (branch_nodes content (suc base) branches) p.0 k (omega (arith, size, p.1))) ∙ e) in
      let z : suc base + rest.alternative ≡ base + suc rest.alternative = omega arith in
      record {
        alternative = suc rest.alternative;
        place = rest.place;
        above = slice_get-append_past (children_above node base 0 (length branch.1)) (grown_above node (suc base) (counts_of branches)) p.0 k (omega (arith, wide, p.1)) ∙ rest.above
            ∙ ap (λ (b : ℕ). Some (Some (node, b, rest.place))) z;
        address = rest.address ∙ ap (λ (b : ℕ). content.address ++ (b, rest.place) ∷ []) z;
        child = rest.child;
      }
]
