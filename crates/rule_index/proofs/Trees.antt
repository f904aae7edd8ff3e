-- A tree holds what it was given, and more.
use Rattle.std.proofs.Common.{◌≡◌, ℕ, zero, suc, ◌+◌, ◌<◌, ◌≤◌, Bool, true, false, cond, ◌&&◌, List, [], ◌∷◌, ◌++◌, length, Option, Some, None, length-append, ◌⊎◌, inl, inr, option_to_list, refl, sym, ap, ◌∙◌, subst, arith, eqb-true}
use Rattle.std.specs.Prelude.{slice_get, Contains, nat_eq}
use Rattle.std.specs.Map.{lookup, values_of}
use Rattle.std.proofs.lemmas.List.Elements.{Contains-append_left, Contains-append_right}
use Rattle.indexmap.specs.IndexMap.{get, values}
use Rattle.lf_definitions.specs.Syntax.{LfAtom}
use Rattle.lf_definitions.proofs.Options.{Some_inj}
use Rattle.rule_index.specs.declared.key.Demand.{Demand}
use Rattle.rule_index.specs.declared.key.Demand.TheVariants.{Constant}
use Rattle.rule_index.specs.declared.node.Node.{Node}
use Rattle.rule_index.specs.declared.tree.KeyTree.{KeyTree}
use Rattle.rule_index.specs.Keys.{RuleKey, fits_all, of_family, KeyedRule, all_allow}
use Rattle.rule_index.specs.Stored.{meets}
use Rattle.rule_index.specs.Trees.{branch_of, Reaches, AddsBranches, BranchesAreNodes, IsClosed, TreeGrows, Holds, HoldsRules, FindsPlaces, WalksBranches}
use Rattle.rule_index.proofs.Nodes.{reaches_later, closed_more}

-- The branches that a demand leaves.

value_found : (test : ℕ → Bool) (es : List (ℕ × ℕ)) (v : ℕ) → lookup test es ≡ Some v → Contains (values_of es) v
value_found test [] v e = absurd cc
value_found test (first ∷ es) v e = by (test first.0) refl (value_found test es v)
  where
    by : (b : Bool) → test first.0 ≡ b → (lookup test es ≡ Some v → Contains (values_of es) v) → Contains (values_of (first ∷ es)) v
    by true is later = (0, omega arith, Some_inj refl (ap (λ b. cond b (Some first.1) (lookup test es)) (sym is) ∙ e))
    by false is later = let there = later (ap (λ b. cond b (Some first.1) (lookup test es)) (sym is) ∙ e) in (suc there.0, omega (arith, there.1), there.2)

listed : (o : Option ℕ) (v : ℕ) → o ≡ Some v → Contains (option_to_list o) v
listed None v e = absurd cc
listed (Some w) v e = (0, omega arith, Some_inj refl e)

module _ (node : Node) (old between new : List ℕ) (first : between ≡ old ++ option_to_list node.open_branch) where
  in_first : (child : ℕ) → Contains old child → Contains between child
  in_first child h = let P : List ℕ → Type 0 = λ xs. Contains xs child in subst P (sym first) (Contains-append_left old (option_to_list node.open_branch) child h)

  open_added : (child : ℕ) → node.open_branch ≡ Some child → Contains between child
  open_added child e = let P : List ℕ → Type 0 = λ xs. Contains xs child in subst P (sym first) (Contains-append_right old (option_to_list node.open_branch) child (listed node.open_branch child e))

  then_more : (more : List ℕ) → new ≡ between ++ more → (child : ℕ) → Contains between child → Contains new child
  then_more more is child h = let P : List ℕ → Type 0 = λ xs. Contains xs child in subst P (sym is) (Contains-append_left between more child h)

  then_there : (more : List ℕ) → new ≡ between ++ more → (child : ℕ) → Contains more child → Contains new child
  then_there more is child h = let P : List ℕ → Type 0 = λ xs. Contains xs child in subst P (sym is) (Contains-append_right between more child h)

  pub adds_all : (demand : Demand) → new ≡ between ++ values node.constants → AddsBranches node demand old new
  adds_all demand is = record {
    keeps = λ child h. then_more (values node.constants) is child (in_first child h);
    adds = by;
  }
    where
      by : (part : Option ℕ) (child : ℕ) → branch_of node part ≡ Some child → meets part demand ≡ true → Contains new child
      by None child e met = then_more (values node.constants) is child (open_added child e)
      by (Some c) child e met = then_there (values node.constants) is child (value_found (nat_eq c) node.constants.entries child e)

  pub adds_constant : (demand : Demand) (c : ℕ) → demand ≡ Constant c → new ≡ between ++ option_to_list (branch_of node (Some c)) → AddsBranches node demand old new
  adds_constant demand c demand_is is = record {
    keeps = λ child h. then_more (option_to_list (branch_of node (Some c))) is child (in_first child h);
    adds = by;
  }
    where
      by : (part : Option ℕ) (child : ℕ) → branch_of node part ≡ Some child → meets part demand ≡ true → Contains new child
      by None child e met = then_more (option_to_list (branch_of node (Some c))) is child (open_added child e)
      by (Some d) child e met =
          let same : d ≡ c = eqb-true d c (ap (meets (Some d)) (sym demand_is) ∙ met) in
          then_there (option_to_list (branch_of node (Some c))) is child (listed (branch_of node (Some c)) child (ap (λ k. branch_of node (Some k)) (sym same) ∙ e))

-- Trees that grow.

pub holds_later : (old new : KeyTree) → TreeGrows old new → (key : RuleKey) (place : ℕ) → Holds old key place → Holds new key place
holds_later old new grows fits_all place h = grows.general place h
holds_later old new grows (of_family f parts) place (root, root_is, reaches, few) =
    (root, grows.families f root root_is, reaches_later old.nodes.items new.nodes.items grows.nodes place root parts reaches, omega (arith, few, grows.levels))

pub rules_later : (old new : KeyTree) (rules : List KeyedRule) → TreeGrows old new → IsClosed new → HoldsRules old rules → HoldsRules new rules
rules_later old new rules grows closed before = record { closed = closed; holds = λ place rule is. holds_later old new grows rule.key place (before.holds place rule is) }

last_or_before : (rules : List KeyedRule) (last rule : KeyedRule) (place : ℕ) (P : KeyedRule → ℕ → Type 0) → ((i : ℕ) (r : KeyedRule) → slice_get rules i ≡ Some r → P r i) → P last (length rules) →
    slice_get (rules ++ last ∷ []) place ≡ Some rule → P rule place
last_or_before [] last rule zero P before here is = let Q : KeyedRule → Type 0 = λ r. P r 0 in subst Q (Some_inj refl is) here
last_or_before [] last rule (suc place) P before here is = absurd cc
last_or_before (first ∷ rules) last rule zero P before here is = before zero rule is
last_or_before (first ∷ rules) last rule (suc place) P before here is = last_or_before rules last rule place (λ r i. P r (suc i)) (λ i r e. before (suc i) r e) here is

pub rules_more : (tree : KeyTree) (rules new : List KeyedRule) (rule : KeyedRule) (n : ℕ) → n ≡ length rules → new ≡ rules ++ rule ∷ [] → HoldsRules tree rules → Holds tree rule.key n → HoldsRules tree new
rules_more tree rules new rule n n_is is before here =
    let P : List KeyedRule → Type 0 = HoldsRules tree in
    let Q : ℕ → Type 0 = Holds tree rule.key in
    subst P (sym is) (record { closed = before.closed; holds = λ place other e. last_or_before rules rule other place (λ r i. Holds tree r.key i) before.holds (subst Q n_is here) e })

-- Trees whose branches and roots are nodes.

pub closed_still : (tree new : KeyTree) → new.nodes.items ≡ tree.nodes.items → new.families ≡ tree.families → IsClosed tree → IsClosed new
closed_still tree new nodes_are families_are closed = record {
  branches = (let P : List Node → Type 0 = BranchesAreNodes in subst P (sym nodes_are) closed.branches);
  roots = λ f root e. (let P : List Node → Type 0 = λ nodes. root < length nodes in subst P (sym nodes_are) (closed.roots f root (ap (λ m. get nat_eq m f) (sym families_are) ∙ e)));
}

pub closed_longer : (tree new : KeyTree) → BranchesAreNodes new.nodes.items → length tree.nodes.items ≤ length new.nodes.items → new.families ≡ tree.families → IsClosed tree → IsClosed new
closed_longer tree new branches longer families_are closed = record { branches = branches; roots = λ f root e. omega (arith, longer, closed.roots f root (ap (λ m. get nat_eq m f) (sym families_are) ∙ e)) }

-- A family with its root is added, or the root alone.
module _ (tree new : KeyTree) (added : Node) (n : ℕ) (nodes_are : new.nodes.items ≡ tree.nodes.items ++ added ∷ []) (n_is : n ≡ length tree.nodes.items) (none : added.open_branch ≡ None) (empty : added.constants.entries ≡ []) (closed : IsClosed tree) where
  long : length new.nodes.items ≡ length tree.nodes.items + 1
  long = ap length nodes_are ∙ length-append tree.nodes.items (added ∷ [])

  pub root_alone : new.families.entries ≡ tree.families.entries → IsClosed new
  root_alone families_are = record {
    branches = closed_more tree.nodes.items new.nodes.items added nodes_are none empty closed.branches;
    roots = λ f root e. omega (arith, long, closed.roots f root (ap (lookup (nat_eq f)) (sym families_are) ∙ e));
  }

  old_or_new : (b : Bool) (o : Option ℕ) (root : ℕ) → cond b (Some n) o ≡ Some root → (o ≡ Some root) ⊎ (n ≡ root)
  old_or_new true o root e = inr (Some_inj refl e)
  old_or_new false o root e = inl e

  pub root_of_family : (f : ℕ) → ((other : ℕ) → get nat_eq new.families other ≡ cond (nat_eq f other) (Some n) (get nat_eq tree.families other)) → IsClosed new
  root_of_family f families_are = record {
    branches = closed_more tree.nodes.items new.nodes.items added nodes_are none empty closed.branches;
    roots = λ other root e. elim (old_or_new (nat_eq f other) (get nat_eq tree.families other) root (sym (families_are other) ∙ e)) [
      | inl before ↦ omega (arith, long, closed.roots other root before)
      | inr same ↦ omega (arith, long, n_is, same)
    ];
  }

-- What a look-up finds.

module _ (tree : KeyTree) (target : LfAtom) where
  both : (a b : Bool) → a && b ≡ true → (a ≡ true) × (b ≡ true)
  both true b h = (refl, h)
  both false b h = absurd cc

  pub finds_with_root : (root : ℕ) (general places : List ℕ) → get nat_eq tree.families target.atom_family ≡ Some root → general ≡ tree.general.items →
      WalksBranches tree.nodes.items root target.atom_args tree.levels general places → FindsPlaces tree target places
  finds_with_root root general places root_is general_is walks fits_all place h compatible =
      let P : List ℕ → Type 0 = λ xs. Contains xs place in walks.keeps place (subst P (sym general_is) h)
  finds_with_root root general places root_is general_is walks (of_family f parts) place (first, first_is, reaches, few) compatible =
      let parts_of = both (nat_eq f target.atom_family) (all_allow parts target.atom_args) compatible in
      let same : first ≡ root = Some_inj first_is (ap (get nat_eq tree.families) (eqb-true f target.atom_family parts_of.0) ∙ root_is) in
      let P : ℕ → Type 0 = λ r. Reaches tree.nodes.items place r parts in
      walks.finds place parts (subst P same reaches) parts_of.1 few

  pub finds_without : (places : List ℕ) → get nat_eq tree.families target.atom_family ≡ None → places ≡ tree.general.items → FindsPlaces tree target places
  finds_without places none places_are fits_all place h compatible = let P : List ℕ → Type 0 = λ xs. Contains xs place in subst P (sym places_are) h
  finds_without places none places_are (of_family f parts) place (first, first_is, reaches, few) compatible =
      let parts_of = both (nat_eq f target.atom_family) (all_allow parts target.atom_args) compatible in
      let clash : ◌≡◌ {A = Option ℕ} (Some first) None = sym first_is ∙ ap (get nat_eq tree.families) (eqb-true f target.atom_family parts_of.0) ∙ none in
      absurd cc
