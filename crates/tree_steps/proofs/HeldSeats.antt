-- What a tree tells of its seats is what its state has.
use Rattle.std.proofs.Common.{◌≡◌, ℕ, ◌+◌, ◌<◌, Bool, true, false, cond, ◌==◌, ◌&&◌, ◌||◌, List, [], ◌∷◌, map, length, Option, Some, None, refl, sym, ap, subst, ◌∙◌, arith, slice_get}
use Rattle.std.specs.Prelude.{IsTrue, ◌↔◌}
use Rattle.std.specs.List.{list_any, find}
use Rattle.std.specs.Option.{option_map}
use Rattle.std.proofs.lemmas.Bool.{and_from}
use Rattle.std.proofs.lemmas.List.{length-map}
use Rattle.std.proofs.lemmas.Option.{slice_get-map, get_or_from_slice_get}
use Rattle.tree_runs.specs.Runs.{is_holding}
use Rattle.tree_runs.proofs.Soundness.{runs_are_sound}
use Rattle.tree_steps.specs.declared.tree.Tree.{Tree}
use Rattle.tree_steps.specs.declared.tree.Holding.{Holding}
use Rattle.tree_steps.specs.Trees.{IsTree, IsHeld, HoldsSeen, held_by, state_of_tree, contents_of}
use Rattle.tree_steps.proofs.BestEntries.{same_number}
use Rattle.tree_steps.proofs.Holdings.{pair_of}

-- the same test, of holdings and of pairs
any_pairs : (seat node : ℕ) (holdings : List Holding) →
    list_any (λ holding. holding.seat == seat && holding.entry.node == node) holdings ≡ list_any (λ pair. pair.0 == seat && pair.1 == node) (map pair_of holdings)
any_pairs seat node [] = refl
any_pairs seat node (holding ∷ holdings) = ap (λ (b : Bool). (holding.seat == seat && holding.entry.node == node) || b) (any_pairs seat node holdings)

-- what the first holding of a seat tells, where `v` tells whether this one is the seat's
abbrev first_of : Bool → Holding → Option ℕ → Option ℕ
first_of v holding later = cond v (Some holding.entry.node) later

held_by-first : (seat : ℕ) (holding : Holding) (holdings : List Holding) → held_by (holding ∷ holdings) seat ≡ first_of (holding.seat == seat) holding (held_by holdings seat)
held_by-first seat holding holdings = go (holding.seat == seat)
  where
    go : (v : Bool) → option_map (λ h. h.entry.node) (cond v (Some holding) (find (λ h. h.seat == seat) holdings)) ≡ first_of v holding (held_by holdings seat)
    go true = refl
    go false = refl

none_busy : (seat : ℕ) (holdings : List Holding) → held_by holdings seat ≡ None → list_any (λ pair. pair.0 == seat) (map pair_of holdings) ≡ false
none_busy seat [] e = refl
none_busy seat (holding ∷ holdings) e = go (holding.seat == seat) refl (none_busy seat holdings) (sym (held_by-first seat holding holdings) ∙ e)
  where
    go : (v : Bool) → (holding.seat == seat) ≡ v → (held_by holdings seat ≡ None → list_any (λ pair. pair.0 == seat) (map pair_of holdings) ≡ false) →
        first_of (holding.seat == seat) holding (held_by holdings seat) ≡ None → list_any (λ pair. pair.0 == seat) (map pair_of (holding ∷ holdings)) ≡ false
    go true is rest f = absurd (let clash : ◌≡◌ {A = Option ℕ} (Some holding.entry.node) None = sym (ap (λ v. first_of v holding (held_by holdings seat)) is) ∙ f in cc)
    go false is rest f = ap (λ (b : Bool). b || list_any (λ pair. pair.0 == seat) (map pair_of holdings)) is ∙ rest (sym (ap (λ v. first_of v holding (held_by holdings seat)) is) ∙ f)

some_holding : (seat node : ℕ) (holdings : List Holding) → held_by holdings seat ≡ Some node → list_any (λ pair. pair.0 == seat && pair.1 == node) (map pair_of holdings) ≡ true
some_holding seat node [] e = absurd cc
some_holding seat node (holding ∷ holdings) e = go (holding.seat == seat) refl (some_holding seat node holdings) (sym (held_by-first seat holding holdings) ∙ e)
  where
    go : (v : Bool) → (holding.seat == seat) ≡ v → (held_by holdings seat ≡ Some node → list_any (λ pair. pair.0 == seat && pair.1 == node) (map pair_of holdings) ≡ true) →
        first_of (holding.seat == seat) holding (held_by holdings seat) ≡ Some node → list_any (λ pair. pair.0 == seat && pair.1 == node) (map pair_of (holding ∷ holdings)) ≡ true
    go true is rest f =
        let whole : ◌≡◌ {A = Option ℕ} (Some holding.entry.node) (Some node) = sym (ap (λ v. first_of v holding (held_by holdings seat)) is) ∙ f in
        let same : holding.entry.node ≡ node = cc in
        ap (λ (b : Bool). b || list_any (λ pair. pair.0 == seat && pair.1 == node) (map pair_of holdings))
        (and_from (holding.seat == seat) (holding.entry.node == node) is (ap (λ (n : ℕ). n == node) same ∙ same_number node))
    go false is rest f = ap (λ (b : Bool). (b && holding.entry.node == node) || list_any (λ pair. pair.0 == seat && pair.1 == node) (map pair_of holdings)) is
        ∙ rest (sym (ap (λ v. first_of v holding (held_by holdings seat)) is) ∙ f)

module _ {P S N : Type 0} (branches : S → List (ℕ × List S)) (seen : N → S) (own : N → Type 0) (tree : Tree P N S) (is_tree : IsTree branches seen own tree) where
  -- what a seat is told to hold it holds
  pub told_is_held : (seat : ℕ) (holdings : List Holding) (o : Option ℕ) → holdings ≡ tree.held.items → o ≡ held_by holdings seat → IsHeld (state_of_tree branches seen own tree) seat o
  told_is_held seat holdings None same e =
      ap (list_any (λ pair. pair.0 == seat)) (sym (ap (map pair_of) same ∙ is_tree.shows.held)) ∙ none_busy seat holdings (sym e)
  told_is_held seat holdings (Some node) same e =
      ap (list_any (λ pair. pair.0 == seat && pair.1 == node)) (sym (ap (map pair_of) same ∙ is_tree.shows.held)) ∙ some_holding seat node holdings (sym e)

  pub test_is_holding : (seat node : ℕ) (holdings : List Holding) → holdings ≡ tree.held.items →
      list_any (λ holding. holding.seat == seat && holding.entry.node == node) holdings ≡ is_holding (state_of_tree branches seen own tree) seat node
  test_is_holding seat node holdings same = any_pairs seat node holdings ∙ ap (list_any (λ pair. pair.0 == seat && pair.1 == node)) (ap (map pair_of) same ∙ is_tree.shows.held)

  -- a held node has a content, which is an own node and seen as the state tells
  module _ (seat node : ℕ) (holds : is_holding (state_of_tree branches seen own tree) seat node ≡ true) where
    pub held_within : node < length tree.others.items + 1
    held_within =
        let sound = runs_are_sound branches (seen tree.root) tree.budget tree.journal.events is_tree.run in
        let l = sound.held_stand seat node holds in
        let same = ap length is_tree.shows.contents in
        omega (arith, l, sound.nodes, same, length-map (contents_of branches seen own tree) seen, length-map (state_of_tree branches seen own tree).nodes (λ n. n.seen))

    pub held_own : (content : N) → Some content ≡ slice_get (contents_of branches seen own tree) node → own content
    held_own content there =
        subst own (get_or_from_slice_get (contents_of branches seen own tree) node content content (sym there)) (is_tree.shows.own_nodes node content (let l = held_within in omega (arith, l)))

    pub held_seen : (content : N) → Some content ≡ slice_get (contents_of branches seen own tree) node → Some (seen content) ≡ option_map (λ n. n.seen) (slice_get (state_of_tree branches seen own tree).nodes node)
    held_seen content there =
        ap (option_map seen) there ∙ (sym (slice_get-map seen (contents_of branches seen own tree) node) ∙
        (ap (λ ss. slice_get ss node) is_tree.shows.contents ∙ slice_get-map (λ n. n.seen) (state_of_tree branches seen own tree).nodes node))

    -- the answer, by what the comparison of the two contents says
    pub answers : (content other : N) (b : Bool) → Some content ≡ slice_get (contents_of branches seen own tree) node → (IsTrue b ↔ (seen content ≡ seen other)) →
        IsTrue b ↔ HoldsSeen (state_of_tree branches seen own tree) seat node (seen other)
    answers content other b there same = (
      λ h. record { holds = holds; there = ap Some (sym (same.0 h)) ∙ held_seen content there },
      λ h. same.1 (let e : ◌≡◌ {A = Option S} (Some (seen content)) (Some (seen other)) = held_seen content there ∙ sym h.there in cc),
    )

  pub not_holding : (seat node : ℕ) (s : S) (b : Bool) → is_holding (state_of_tree branches seen own tree) seat node ≡ false → b ≡ false → IsTrue b ↔ HoldsSeen (state_of_tree branches seen own tree) seat node s
  not_holding seat node s b free e = (λ h. absurd (let t : b ≡ true = h in cc), λ h. absurd (let held = h.holds in cc))
