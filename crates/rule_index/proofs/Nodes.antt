-- Nodes that grow, one at a time.
use Rattle.std.proofs.Common.{◌≡◌, ◌≢◌, ℕ, zero, suc, ◌+◌, ◌<◌, ◌≤◌, List, [], ◌∷◌, ◌++◌, length, get_or, set, drop, length-append, length-set, Option, Some, None, refl, sym, ap, ◌∙◌, subst, arith, ◌⊎◌, inl, inr}
use Rattle.std.specs.Prelude.{slice_get, slice_set, Contains, nat_eq}
use Rattle.std.specs.Map.{lookup}
use Rattle.std.proofs.lemmas.List.{drop_more, drop_all}
use Rattle.std.proofs.lemmas.Option.{slice_get_within}
use Rattle.lf_definitions.proofs.Options.{Some_inj, None-Some}
use Rattle.lf_definitions.proofs.Lists.{slice_get-prefix}
use Rattle.indexmap.specs.IndexMap.{get}
use Rattle.rule_index.specs.declared.node.Node.{Node}
use Rattle.rule_index.specs.Trees.{branch_of, NodeGrows, HoldsPlace, Leads, Reaches, NodesGrow, BringsWithin, BranchesAreNodes}

set_here : (nodes : List Node) (i : ℕ) (new : Node) → i < length nodes → slice_get (set nodes i new) i ≡ Some new
set_here [] i new within = absurd (omega arith)
set_here (node ∷ nodes) zero new within = refl
set_here (node ∷ nodes) (suc i) new within = set_here nodes i new (omega arith)

set_there : (nodes : List Node) (i j : ℕ) (new : Node) → i ≢ j → slice_get (set nodes i new) j ≡ slice_get nodes j
set_there [] i j new differ = refl
set_there (first ∷ nodes) zero zero new differ = absurd (differ refl)
set_there (first ∷ nodes) zero (suc j) new differ = refl
set_there (first ∷ nodes) (suc i) zero new differ = refl
set_there (first ∷ nodes) (suc i) (suc j) new differ = set_there nodes i j new (λ e. differ (ap suc e))

same_or_not : (i j : ℕ) → (i ≡ j) ⊎ (i ≢ j)
same_or_not zero zero = inl refl
same_or_not zero (suc j) = inr (λ e. omega (arith, e))
same_or_not (suc i) zero = inr (λ e. omega (arith, e))
same_or_not (suc i) (suc j) = elim (same_or_not i j) [ inl e ↦ inl (ap suc e) | inr differ ↦ inr (λ e. differ (omega (arith, e))) ]

pub nodes_stay : (nodes : List Node) → NodesGrow nodes nodes
nodes_stay nodes = record { places = λ number place h. h; leads = λ number part child h. h; longer = omega arith }

pub nodes_then : (a b c : List Node) → NodesGrow a b → NodesGrow b c → NodesGrow a c
nodes_then a b c f g = record {
  places = λ number place h. g.places number place (f.places number place h);
  leads = λ number part child h. g.leads number part child (f.leads number part child h);
  longer = omega (arith, f.longer, g.longer);
}

pub nodes_append : (nodes more new : List Node) → new ≡ nodes ++ more → NodesGrow nodes new
nodes_append nodes more new is =
    let P : List Node → Type 0 = NodesGrow nodes in
    subst P (sym is) (record {
      places = λ number place h. record { node = h.node; node_is = slice_get-prefix nodes more number h.node h.node_is; has = h.has };
      leads = λ number part child h. record { node = h.node; node_is = slice_get-prefix nodes more number h.node h.node_is; branch_is = h.branch_is };
      longer = omega (arith, length-append nodes more);
    })

-- A node of the list grows.
module _ (nodes : List Node) (i : ℕ) (node new : Node) (node_is : slice_get nodes i ≡ Some node) where
  within : i < length nodes
  within = slice_get_within nodes i node node_is

  pub new_is : slice_get (set nodes i new) i ≡ Some new
  new_is = set_here nodes i new within

  pub nodes_set : NodeGrows node new → NodesGrow nodes (slice_set nodes i new)
  nodes_set grows = record {
    places = λ number place h. elim (same_or_not i number) [
      | inl same ↦ (
          let old_is : node ≡ h.node = Some_inj node_is (ap (slice_get nodes) same ∙ h.node_is) in
          let P : Node → Type 0 = λ n. Contains n.places.items place in
          record { node = new; node_is = ap (slice_get (set nodes i new)) (sym same) ∙ new_is; has = grows.places place (subst P (sym old_is) h.has) })
      | inr differ ↦ record { node = h.node; node_is = set_there nodes i number new differ ∙ h.node_is; has = h.has }
    ];
    leads = λ number part child h. elim (same_or_not i number) [
      | inl same ↦ (
          let old_is : node ≡ h.node = Some_inj node_is (ap (slice_get nodes) same ∙ h.node_is) in
          record {
            node = new;
            node_is = ap (slice_get (set nodes i new)) (sym same) ∙ new_is;
            branch_is = grows.branches part child (ap (λ n. branch_of n part) old_is ∙ h.branch_is);
          })
      | inr differ ↦ record { node = h.node; node_is = set_there nodes i number new differ ∙ h.node_is; branch_is = h.branch_is }
    ];
    longer = omega (arith, length-set nodes i new);
  }

  pub closed_set : (bound : ℕ) → bound ≤ length nodes → BringsWithin node new bound → BranchesAreNodes nodes → BranchesAreNodes (slice_set nodes i new)
  closed_set bound few brings closed number part child h =
      let long = length-set nodes i new in
      elim (same_or_not i number) [
        | inl same ↦ (
            let now_is : h.node ≡ new = Some_inj h.node_is (ap (slice_get (set nodes i new)) (sym same) ∙ new_is) in
            elim (brings part child (ap (λ n. branch_of n part) (sym now_is) ∙ h.branch_is)) [
              | inl before ↦ omega (arith, long, closed i part child (record { node = node; node_is = node_is; branch_is = before }))
              | inr less ↦ omega (arith, long, few, less)
            ])
        | inr differ ↦ omega (arith, long, closed number part child (record { node = h.node; node_is = sym (set_there nodes i number new differ) ∙ h.node_is; branch_is = h.branch_is }))
      ]

-- A node has no branch.
branch_of_bare : (node : Node) → node.open_branch ≡ None → node.constants.entries ≡ [] → (part : Option ℕ) → branch_of node part ≡ None
branch_of_bare node none empty None = none
branch_of_bare node none empty (Some c) = ap (lookup (nat_eq c)) empty

pub same_branches : (old new : Node) → new.open_branch ≡ old.open_branch → new.constants ≡ old.constants → BringsWithin old new 0
same_branches old new open_is constants_are None child e = inl (sym open_is ∙ e)
same_branches old new open_is constants_are (Some c) child e = inl (ap (λ m. get nat_eq m c) (sym constants_are) ∙ e)

within_more : (nodes : List Node) (new node : Node) (i : ℕ) → slice_get (nodes ++ new ∷ []) i ≡ Some node → (slice_get nodes i ≡ Some node) ⊎ (new ≡ node)
within_more [] new node zero e = inr (Some_inj refl e)
within_more [] new node (suc i) e = absurd cc
within_more (first ∷ nodes) new node zero e = inl e
within_more (first ∷ nodes) new node (suc i) e = within_more nodes new node i e

-- A node with no branch is added.
pub closed_more : (nodes more : List Node) (new : Node) → more ≡ nodes ++ new ∷ [] → new.open_branch ≡ None → new.constants.entries ≡ [] → BranchesAreNodes nodes → BranchesAreNodes more
closed_more nodes more new more_is none empty closed number part child h =
    let long : length more ≡ length nodes + 1 = ap length more_is ∙ length-append nodes (new ∷ []) in
    elim (within_more nodes new h.node number (ap (λ ns. slice_get ns number) (sym more_is) ∙ h.node_is)) [
      | inl there ↦ omega (arith, long, closed number part child (record { node = h.node; node_is = there; branch_is = h.branch_is }))
      | inr same ↦ absurd (None-Some (branch_of_bare new none empty part) (ap (λ n. branch_of n part) same ∙ h.branch_is))
    ]

-- What is reached stays so.
pub reaches_later : (old new : List Node) → NodesGrow old new → (place number : ℕ) (parts : List (Option ℕ)) → Reaches old place number parts → Reaches new place number parts
reaches_later old new grows place number [] h = grows.places number place h
reaches_later old new grows place number (part ∷ parts) (child, leads, rest) = (child, grows.leads number part child leads, reaches_later old new grows place child parts rest)

-- Whatever is reached later from the node of this number, by the parts from an index on, is reached from the root.
pub record IsOnTheWay (nodes : List Node) (root : ℕ) (parts : List (Option ℕ)) (place index number : ℕ) : Type 0 where
  pub reaches : (later : List Node) → NodesGrow nodes later → Reaches later place number (drop index parts) → Reaches later place root parts

pub way_begins : (nodes : List Node) (root : ℕ) (parts : List (Option ℕ)) (place : ℕ) → IsOnTheWay nodes root parts place 0 root
way_begins nodes root parts place = record { reaches = λ later grows h. h }

pub way_goes_on : (nodes new : List Node) (root : ℕ) (parts : List (Option ℕ)) (place index number : ℕ) (child : ℕ) → IsOnTheWay nodes root parts place index number → index < length parts →
    NodesGrow nodes new → Leads new number (get_or parts index None) child → IsOnTheWay new root parts place (index + 1) child
way_goes_on nodes new root parts place index number child way within grows leads = record {
  reaches = λ later more h.
      let P : List (Option ℕ) → Type 0 = Reaches later place number in
      way.reaches later (nodes_then nodes new later grows more)
      (subst P (sym (drop_more parts index None within)) (child, more.leads number (get_or parts index None) child leads, h));
}

pub way_ends : (nodes new : List Node) (root : ℕ) (parts : List (Option ℕ)) (place index number : ℕ) → IsOnTheWay nodes root parts place index number → length parts ≤ index → NodesGrow nodes new →
    HoldsPlace new number place → Reaches new place root parts
way_ends nodes new root parts place index number way past grows has =
    let P : List (Option ℕ) → Type 0 = Reaches new place number in
    way.reaches new grows (subst P (sym (drop_all index parts past)) has)
