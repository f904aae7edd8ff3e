-- Where there is a derivation, a finite set of addresses below, with all parents, makes the node proved.
use Rattle.std.proofs.Common.{◌≡◌, inl, inr, ℕ, zero, suc, ◌+◌, ◌≤◌, List, [], ◌∷◌, ◌++◌, map, Some, refl, sym, ap, subst, ◌∙◌, append_assoc, arith}
use Rattle.std.specs.Prelude.{slice_get, sum, All}
use Rattle.std.specs.List.{Contains}
use Rattle.std.proofs.lemmas.List.Elements.{All-head, All-tail, Contains-append_left, Contains-append_right, Contains-append_cases}
use Rattle.tree_runs.specs.Addresses.{Address, at, Proved, by_alternative}
use Rattle.tree_runs.proofs.Shapes.{sum-cons}
use Rattle.mark_laws.specs.Laws.{EachDerives, HasChildrenLaw, HasParents}
use Rattle.mark_laws.proofs.Entries.{contains_first, contains_later, contains_cases, nothing_contained, contains_image, is_image, entry_there}
use Rattle.mark_laws.proofs.Meaning.{child_stands, own_children_of}

module _ {S : Type 0} (Own : S → Type 0) (branches : S → List (ℕ × List S)) (Derives : ℕ → S → Type 0) (law : HasChildrenLaw Own branches Derives) (root : S) where
  -- These addresses are seen from the node. Wherever it stands, a set with all of them makes it proved.
  pub record Found (s : S) : Type 0 where
    pub addresses : List Address
    pub parents : HasParents addresses
    pub makes_proved : (committed : List Address) (address : Address) → at branches root address ≡ Some s → ((below : Address) → Contains addresses below → Contains committed (address ++ below)) →
        Proved branches root committed address

  -- The same for the children of one alternative from a place on; the first step of each address is to a child.
  record FoundEach (i first : ℕ) (children : List S) : Type 0 where
    addresses : List Address
    parents : (start : ℕ × ℕ) (above : Address) (step : ℕ × ℕ) → Contains addresses (start ∷ (above ++ step ∷ [])) → Contains addresses (start ∷ above)
    make_proved : (place : ℕ) (c : S) → slice_get children place ≡ Some c → (committed : List Address) (address : Address) → at branches root address ≡ Some c →
        ((below : Address) → Contains addresses ((i, first + place) ∷ below) → Contains committed (address ++ below)) → Proved branches root committed address

  below_step : (step : ℕ × ℕ) (addresses : List Address) (start : ℕ × ℕ) (rest : Address) → Contains (map (λ (a : Address). step ∷ a) addresses) (start ∷ rest) → (step ≡ start) × Contains addresses rest
  below_step step addresses start rest c =
      let found = is_image (λ (a : Address). step ∷ a) addresses (start ∷ rest) c in
      let image : ◌≡◌ {A = Address} (step ∷ found.item) (start ∷ rest) = found.image in
      let same : step ≡ start = cc in
      let others : found.item ≡ rest = cc in
      (same, subst (Contains addresses) others found.contained)

  found_more : (i first : ℕ) (c : S) (children : List S) → Found c → FoundEach i (suc first) children → FoundEach i first (c ∷ children)
  found_more i first c children here rest =
      let under = map (λ (a : Address). (i, first) ∷ a) here.addresses in
      record {
        addresses = under ++ rest.addresses;
        parents = λ start above step there. elim (Contains-append_cases under rest.addresses (start ∷ (above ++ step ∷ [])) there) [
          | inl d ↦
              let parts = below_step (i, first) here.addresses start (above ++ step ∷ []) d in
              Contains-append_left under rest.addresses (start ∷ above)
              (subst (λ (s : ℕ × ℕ). Contains under (s ∷ above)) parts.0 (contains_image (λ (a : Address). (i, first) ∷ a) here.addresses above (here.parents above step parts.1)))
          | inr d ↦ Contains-append_right under rest.addresses (start ∷ above) (rest.parents start above step d)
        ];
        make_proved = by_place;
      }
    where
      by_place : (place : ℕ) (d : S) → slice_get (c ∷ children) place ≡ Some d → (committed : List Address) (address : Address) → at branches root address ≡ Some d →
          ((below : Address) → Contains (map (λ (a : Address). (i, first) ∷ a) here.addresses ++ rest.addresses) ((i, first + place) ∷ below) → Contains committed (address ++ below)) → Proved branches root committed address
      by_place zero d e committed address stands all =
          let same : c ≡ d = cc in
          here.makes_proved committed address (stands ∙ ap (λ (x : S). Some x) (sym same)) (λ below there.
          all below (Contains-append_left (map (λ (a : Address). (i, first) ∷ a) here.addresses) rest.addresses ((i, first + 0) ∷ below)
          (subst (λ (n : ℕ). Contains (map (λ (a : Address). (i, first) ∷ a) here.addresses) ((i, n) ∷ below)) (let z : first ≡ first + 0 = omega arith in z)
          (contains_image (λ (a : Address). (i, first) ∷ a) here.addresses below there))))
      by_place (suc place) d e committed address stands all =
          rest.make_proved place d e committed address stands (λ below there.
          all below (Contains-append_right (map (λ (a : Address). (i, first) ∷ a) here.addresses) rest.addresses ((i, first + suc place) ∷ below)
          (subst (λ (n : ℕ). Contains rest.addresses ((i, n) ∷ below)) (let z : suc first + place ≡ first + suc place = omega arith in z) there)))

  found_each : (bound : ℕ) → ((n : ℕ) (s : S) → n ≤ bound → Own s → Derives n s → Found s) → (i first : ℕ) (ns : List ℕ) (children : List S) → sum ns ≤ bound → All Own children →
      EachDerives Own branches Derives ns children → FoundEach i first children
  found_each bound more i first [] [] low own each = record { addresses = []; parents = λ start above step c. absurd (nothing_contained _ c); make_proved = λ place c e committed address stands all. absurd cc }
  found_each bound more i first [] (c ∷ children) low own each = absurd each
  found_each bound more i first (n ∷ ns) [] low own each = absurd each
  found_each bound more i first (n ∷ ns) (c ∷ children) low own each =
      let whole : n + sum ns ≤ bound = (let whole_sum = sum-cons n ns in omega (arith, whole_sum, low)) in
      found_more i first c children (more n c (omega (arith, whole)) (All-head Own c children own) each.0)
      (found_each bound more i (suc first) ns children (omega (arith, whole)) (All-tail Own c children own) each.1)

  -- the node and what is found for the children of one branch
  found_node : (s : S) (i percent : ℕ) (children : List S) → slice_get (branches s) i ≡ Some (percent, children) → FoundEach i 0 children → Found s
  found_node s i percent children branch each = record {
    addresses = [] ∷ each.addresses;
    parents = parents_there;
    makes_proved = λ committed address has all. by_alternative address s i percent children (subst (Contains committed) (append_nil address) (all [] (contains_first each.addresses []))) has branch
        (λ place child within is.
        let c = entry_there children place within in
        subst (Proved branches root committed) (sym is)
        (each.make_proved place c.0 c.1 committed (address ++ (i, place) ∷ []) (child_stands branches root address s i percent place children c.0 has branch c.1)
        (λ below there. subst (Contains committed) (sym (append_assoc address ((i, place) ∷ []) below))
        (all ((i, place) ∷ below) (contains_later [] each.addresses ((i, place) ∷ below) (subst (λ (n : ℕ). Contains each.addresses ((i, n) ∷ below)) (let z : 0 + place ≡ place = omega arith in z) there))))));
  }
    where
      append_nil : (a : Address) → a ++ [] ≡ a
      append_nil [] = refl
      append_nil (x ∷ a) = ap (λ b. x ∷ b) (append_nil a)

      parents_there : (above : Address) (step : ℕ × ℕ) → Contains ([] ∷ each.addresses) (above ++ step ∷ []) → Contains ([] ∷ each.addresses) above
      parents_there [] step c = contains_first each.addresses []
      parents_there (start ∷ above) step c = elim (contains_cases [] each.addresses (start ∷ (above ++ step ∷ [])) c) [
        | inl clash ↦ absurd (let different : ◌≡◌ {A = Address} [] (start ∷ (above ++ step ∷ [])) = clash in cc)
        | inr there ↦ contains_later [] each.addresses (start ∷ above) (each.parents start above step there)
      ]

  pub found_within : (bound n : ℕ) (s : S) → n ≤ bound → Own s → Derives n s → Found s
  found_within bound zero s low own d = absurd (law.none_without_step s own d)
  found_within zero (suc n) s low own d = absurd (omega arith)
  found_within (suc bound) (suc n) s low own d =
      let parts = (law.of_children s own n).0 d in
      let small : sum parts.3 ≤ bound = (let e = parts.5 in omega (arith, low, e)) in
      found_node s parts.0 parts.1 parts.2 parts.4
      (found_each bound (found_within bound) parts.0 0 parts.3 parts.2 small (own_children_of Own branches Derives law s own parts.0 parts.1 parts.2 parts.4) parts.6)
