-- Places of goals in a list, by their numbers, and lists of rising numbers.
use Rattle.std.proofs.Common.{◌≡◌, ◌⊎◌, inl, inr, ℕ, zero, suc, ◌<◌, Option, Some, None, List, [], ◌∷◌, length, get_or, AllPairs, refl, sym, ap, ap₂, ◌∙◌, subst, arith}
use Rattle.std.specs.Prelude.{Contains, nat_eq, slice_get}
use Rattle.std.specs.List.{position}
use Rattle.std.proofs.lemmas.Bool.{eqb-true}
use Rattle.std.proofs.lemmas.List.{length-map, get_or-map, get_or_default}
use Rattle.std.proofs.lemmas.List.Quantifiers.{position-Some}
use Rattle.std.proofs.lemmas.List.Elements.{All-contains}
use Rattle.head_laws.specs.Renumbering.{place_of_number}
use Rattle.head_laws.proofs.Numbers.{place_of_number-at, Contains-here, Contains-later, AllPairs-head, AllPairs-tail}
use Rattle.head_laws.proofs.GoalNumbers.{distinct_ids}
use Rattle.lf_definitions.specs.Typing.{LfGoal}
use Rattle.lf_definitions.specs.GoalLists.{ids, AreDistinct}
use Rattle.meta_goals.proofs.NumberPlaces.{place_when_found, place_when_absent}
use Rattle.clusters.proofs.Elements.{contains_cases, contains_none}

slice_get-ids : (goals : List LfGoal) (d : LfGoal) (p : ℕ) → p < length goals → slice_get (ids goals) p ≡ Some (get_or goals p d).id
slice_get-ids [] d p less = absurd (omega (arith, less))
slice_get-ids (g ∷ goals) d zero less = refl
slice_get-ids (g ∷ goals) d (suc p) less = slice_get-ids goals d p (omega (arith, less))

-- Where numbers differ, a number is found at its goal's place.
pub place_is : (goals : List LfGoal) → AreDistinct goals → (d : LfGoal) (p : ℕ) → p < length goals → place_of_number (ids goals) (get_or goals p d).id ≡ p
place_is goals distinct d p less =
    place_of_number-at (ids goals) p (get_or goals p d).id (distinct_ids goals distinct) (subst (λ n. p < n) (sym (length-map goals (λ g. g.id))) less) (slice_get-ids goals d p less)

pub position_is : (goals : List LfGoal) → AreDistinct goals → (d : LfGoal) (p : ℕ) → p < length goals → position (nat_eq (get_or goals p d).id) (ids goals) ≡ Some p
position_is goals distinct d p less = each (position (nat_eq m) (ids goals)) refl
  where
    m : ℕ
    m = (get_or goals p d).id

    here : place_of_number (ids goals) (get_or goals p d).id ≡ p
    here = place_is goals distinct d p less

    each : (o : Option ℕ) → position (nat_eq (get_or goals p d).id) (ids goals) ≡ o → o ≡ Some p
    each None e =
        let long : length (ids goals) ≡ length goals = length-map goals (λ g. g.id) in
        let absent : length (ids goals) ≡ p = place_when_absent (ids goals) (get_or goals p d).id (sym e) ∙ here in
        absurd (omega (arith, long, absent, less))
    each (Some j) e = ap Some (place_when_found (ids goals) (get_or goals p d).id j (sym e) ∙ here)

-- What is found at a place has the number.
pub found_at : (goals : List LfGoal) (d : LfGoal) (m j : ℕ) → position (nat_eq m) (ids goals) ≡ Some j → (j < length goals) × (m ≡ (get_or goals j d).id)
found_at goals d m j e =
    let r = position-Some (nat_eq m) (ids goals) j 0 e in
    let long : length (ids goals) ≡ length goals = length-map goals (λ g. g.id) in
    let less : j < length goals = subst (λ n. j < n) long r.0 in (
      less,
      eqb-true m (get_or (ids goals) j 0) r.1 ∙ get_or-map (λ g. g.id) goals j d 0 less,
    )

-- A goal of a list stands at the place of its number.
pub at_its_place : (goals : List LfGoal) → AreDistinct goals → (d g : LfGoal) → Contains goals g → (place_of_number (ids goals) g.id < length goals) × (get_or goals (place_of_number (ids goals) g.id) d ≡ g)
at_its_place goals distinct d g (k, less, e) =
    let same : place_of_number (ids goals) g.id ≡ k = ap (λ x. place_of_number (ids goals) x.id) (sym e) ∙ place_is goals distinct g k less in (
      subst (λ p. p < length goals) (sym same) less,
      ap (λ p. get_or goals p d) same ∙ get_or_default goals k d g less ∙ e,
    )

-- Lists of rising numbers with the same numbers are the same.
abbrev pub Rises : List ℕ → Type 0
Rises ns = AllPairs (λ m n. m < n) ns

rises_past : (n : ℕ) (ns : List ℕ) (m : ℕ) → Rises (n ∷ ns) → Contains ns m → n < m
rises_past n ns m rises has = All-contains (λ k. n < k) ns m (AllPairs-head (λ a b. a < b) n ns rises) has

pub same_rising : (ms ns : List ℕ) → Rises ms → Rises ns → ((k : ℕ) → Contains ms k → Contains ns k) → ((k : ℕ) → Contains ns k → Contains ms k) → ms ≡ ns
same_rising [] [] first second to from = refl
same_rising [] (n ∷ ns) first second to from = absurd (contains_none n (from n (Contains-here n ns)))
same_rising (m ∷ ms) [] first second to from = absurd (contains_none m (to m (Contains-here m ms)))
same_rising (m ∷ ms) (n ∷ ns) first second to from =
    ap₂ (λ k ks. k ∷ ks) heads
    (same_rising ms ns (AllPairs-tail (λ a b. a < b) m ms first) (AllPairs-tail (λ a b. a < b) n ns second)
    (λ k has. rest_to k has (contains_cases n ns k (to k (Contains-later m ms k has)))) (λ k has. rest_from k has (contains_cases m ms k (from k (Contains-later n ns k has)))))
  where
    heads : m ≡ n
    heads = each (contains_cases n ns m (to m (Contains-here m ms))) (contains_cases m ms n (from n (Contains-here n ns)))
      where
        each : (n ≡ m) ⊎ Contains ns m → (m ≡ n) ⊎ Contains ms n → m ≡ n
        each (inl e) q = sym e
        each (inr p) (inl e) = e
        each (inr p) (inr q) = let less = rises_past n ns m second p in let more = rises_past m ms n first q in absurd (omega (arith, less, more))

    rest_to : (k : ℕ) → Contains ms k → (n ≡ k) ⊎ Contains ns k → Contains ns k
    rest_to k has (inl e) = let less = rises_past m ms k first has in let same = heads in absurd (omega (arith, less, same, e))
    rest_to k has (inr p) = p

    rest_from : (k : ℕ) → Contains ns k → (m ≡ k) ⊎ Contains ms k → Contains ms k
    rest_from k has (inl e) = let less = rises_past n ns k second has in let same = heads in absurd (omega (arith, less, same, e))
    rest_from k has (inr p) = p
