-- Links of places that are joined, and the roots that links lead to.
use Rattle.std.proofs.Common.{◌≡◌, ◌≢◌, ◌⊎◌, inl, inr, ℕ, zero, suc, ◌+◌, ◌<◌, ◌≤◌, max, min, Bool, true, false, List, [], ◌∷◌, ◌++◌, map, length, get_or, set, refl, sym, ap, ap₂, ◌∙◌, subst, arith}
use Rattle.std.specs.Prelude.{nat_eq, if◌then◌else◌}
use Rattle.std.proofs.lemmas.Bool.{eqb-true, eq-eqb, ne_eqb}
use Rattle.std.proofs.lemmas.List.{get_or-set_same, get_or-set_other, length-set, get_or-map}
use Rattle.applications.specs.Candidates.{counting_from}
use Rattle.goal_clusters.specs.Linking.{joined_at, own_root, LeadsBack, LeadsTo, Relinks}

pub same_or_other : (m n : ℕ) → (m ≡ n) ⊎ (m ≢ n)
same_or_other m n = step (nat_eq m n) refl
  where
    step : (b : Bool) → nat_eq m n ≡ b → (m ≡ n) ⊎ (m ≢ n)
    step true e = inl (eqb-true m n e)
    step false e = inr (λ same. let equal : nat_eq m n ≡ true = eq-eqb m n same in absurd cc)

-- numbers that are counted
pub counting_from-last : (n count : ℕ) → counting_from n (suc count) ≡ counting_from n count ++ (n + count) ∷ []
counting_from-last n zero = ap (λ k. k ∷ []) (omega arith)
counting_from-last n (suc count) = let same : suc n + count ≡ n + suc count = omega arith in ap (λ l. n ∷ l) (counting_from-last (suc n) count ∙ ap (λ k. counting_from (suc n) count ++ k ∷ []) same)

pub counted_on : (place : ℕ) → counting_from 0 (place + 1) ≡ counting_from 0 place ++ place ∷ []
counted_on place =
    let one : place + 1 ≡ suc place = omega arith in
    let none : 0 + place ≡ place = omega arith in
    ap (counting_from 0) one ∙ counting_from-last 0 place ∙ ap (λ k. counting_from 0 place ++ k ∷ []) none

pub length-counting_from : (n count : ℕ) → length (counting_from n count) ≡ count
length-counting_from n zero = refl
length-counting_from n (suc count) = ap suc (length-counting_from (suc n) count)

pub get_or-counting_from : (n count p d : ℕ) → p < count → get_or (counting_from n count) p d ≡ n + p
get_or-counting_from n zero p d less = absurd (omega arith)
get_or-counting_from n (suc count) zero d less = omega arith
get_or-counting_from n (suc count) (suc p) d less = let same : suc n + p ≡ n + suc p = omega arith in get_or-counting_from (suc n) count p d (omega arith) ∙ same

-- Two roots, of which the later is linked to the earlier.
module _ (links others : List ℕ) (big small : ℕ) (back : LeadsBack links) (within : big < length links) (before : small ≤ big) (is : others ≡ set links big small) where
  here : get_or others big 0 ≡ small
  here = ap (λ l. get_or l big 0) is ∙ get_or-set_same links big small 0 within

  elsewhere : (p : ℕ) → p ≢ big → get_or others p 0 ≡ get_or links p 0
  elsewhere p other = ap (λ l. get_or l p 0) is ∙ get_or-set_other links big p small 0 other

  pub linked_length : length others ≡ length links
  linked_length = ap length is ∙ length-set links big small

  pub linked_back : LeadsBack others
  linked_back p less = step (same_or_other p big)
    where
      step : (p ≡ big) ⊎ (p ≢ big) → get_or others p 0 ≤ p
      step (inl same) = let e : get_or others p 0 ≡ small = ap (λ k. get_or others k 0) same ∙ here in omega (arith, before, e, same)
      step (inr other) = subst (λ k. k ≤ p) (sym (elsewhere p other)) (back p (subst (λ n. p < n) linked_length less))

  module _ (root : ℕ → ℕ) (t : LeadsTo links root) (big_end : get_or links big 0 ≡ big) (small_end : get_or links small 0 ≡ small) where
    abbrev new : ℕ → ℕ
    new p = if nat_eq (root p) big then small else root p

    at_big : (p : ℕ) → root p ≡ big → new p ≡ small
    at_big p e = ap (λ b. if b then small else root p) (eq-eqb (root p) big e)

    at_other : (p : ℕ) → root p ≢ big → new p ≡ root p
    at_other p e = ap (λ b. if b then small else root p) (ne_eqb (root p) big e)

    root_big : root big ≡ big
    root_big = t.own_link big within big_end

    root_small : root small ≡ small
    root_small = t.own_link small (omega (arith, before, within)) small_end

    new_small : new small ≡ small
    new_small = step (same_or_other (root small) big)
      where
        step : (root small ≡ big) ⊎ (root small ≢ big) → new small ≡ small
        step (inl e) = at_big small e
        step (inr e) = at_other small e ∙ root_small

    pub linked : LeadsTo others new
    linked = record {
      root_stays = λ p less. stays p (subst (λ n. p < n) linked_length less) (same_or_other p big);
      own_link = λ p less e. own p (subst (λ n. p < n) linked_length less) e (same_or_other p big);
      root_is_end = λ p less. ends p (subst (λ n. p < n) linked_length less) (same_or_other (root p) big);
      root_is_before = λ p less. first p (subst (λ n. p < n) linked_length less) (same_or_other (root p) big);
    }
      where
        stays : (p : ℕ) → p < length links → (p ≡ big) ⊎ (p ≢ big) → new (get_or others p 0) ≡ new p
        stays p less (inl same) = ap new (ap (λ k. get_or others k 0) same ∙ here) ∙ new_small ∙ sym (at_big p (ap root same ∙ root_big))
        stays p less (inr other) = ap new (elsewhere p other) ∙ ap (λ r. if nat_eq r big then small else r) (t.root_stays p less)

        own : (p : ℕ) → p < length links → get_or others p 0 ≡ p → (p ≡ big) ⊎ (p ≢ big) → new p ≡ p
        own p less e (inl same) = at_big p (ap root same ∙ root_big) ∙ sym (ap (λ k. get_or others k 0) same ∙ here) ∙ e
        own p less e (inr other) =
            let f : root p ≡ p = t.own_link p less (sym (elsewhere p other) ∙ e) in
            at_other p (λ q. other (sym f ∙ q)) ∙ f

        ends : (p : ℕ) → p < length links → (root p ≡ big) ⊎ (root p ≢ big) → get_or others (new p) 0 ≡ new p
        ends p less (inl e) = ap (λ k. get_or others k 0) (at_big p e) ∙ small_ends (same_or_other small big) ∙ sym (at_big p e)
          where
            small_ends : (small ≡ big) ⊎ (small ≢ big) → get_or others small 0 ≡ small
            small_ends (inl f) = ap (λ k. get_or others k 0) f ∙ here
            small_ends (inr f) = elsewhere small f ∙ small_end
        ends p less (inr e) = ap (λ k. get_or others k 0) (at_other p e) ∙ elsewhere (root p) e ∙ t.root_is_end p less ∙ sym (at_other p e)

        first : (p : ℕ) → p < length links → (root p ≡ big) ⊎ (root p ≢ big) → new p ≤ p
        first p less (inl e) = let le = t.root_is_before p less in let f = at_big p e in omega (arith, le, f, e, before)
        first p less (inr e) = let le = t.root_is_before p less in let f = at_other p e in omega (arith, le, f)

-- Links that are joined once the roots of two places are known.
pub relinked : (links found others : List ℕ) (i j a b big small : ℕ) → i < length links → j < length links → length found ≡ length links → LeadsBack found → ((root : ℕ → ℕ) → LeadsTo links root → LeadsTo found root) →
    ((root : ℕ → ℕ) → LeadsTo links root → a ≡ root i) → ((root : ℕ → ℕ) → LeadsTo links root → b ≡ root j) → max a b ≡ big → min a b ≡ small → big < length found → others ≡ set found big small →
    Relinks links others (joined_at i j)
relinked links found others i j a b big small i_within j_within as_long back leads a_is b_is big_is small_is within is = record {
  as_long = linked_length found others big small back within ordered is ∙ as_long;
  leads_back = linked_back found others big small back within ordered is;
  leads_to = λ root t. joined root t;
}
  where
    ordered : small ≤ big
    ordered = omega (arith, big_is, small_is)

    joined : (root : ℕ → ℕ) → LeadsTo links root → LeadsTo others (joined_at i j root)
    joined root t =
        let there = leads root t in
        let a_end : get_or found a 0 ≡ a = ap (λ k. get_or found k 0) (a_is root t) ∙ there.root_is_end i (omega (arith, i_within, as_long)) ∙ sym (a_is root t) in
        let b_end : get_or found b 0 ≡ b = ap (λ k. get_or found k 0) (b_is root t) ∙ there.root_is_end j (omega (arith, j_within, as_long)) ∙ sym (b_is root t) in
        subst (λ f. LeadsTo others f) (same root t)
        (linked found others big small back within ordered is root there (either_end a b big (or_max a b big big_is) a_end b_end) (either_end a b small (or_min a b small small_is) a_end b_end))
      where
        either_end : (a b c : ℕ) → (c ≡ a) ⊎ (c ≡ b) → get_or found a 0 ≡ a → get_or found b 0 ≡ b → get_or found c 0 ≡ c
        either_end a b c (inl e) p q = ap (λ k. get_or found k 0) e ∙ p ∙ sym e
        either_end a b c (inr e) p q = ap (λ k. get_or found k 0) e ∙ q ∙ sym e

        or_max : (a b c : ℕ) → max a b ≡ c → (c ≡ a) ⊎ (c ≡ b)
        or_max a b c e = step (same_or_other c a)
          where
            step : (c ≡ a) ⊎ (c ≢ a) → (c ≡ a) ⊎ (c ≡ b)
            step (inl f) = inl f
            step (inr f) = inr (omega (arith, e, f))

        or_min : (a b c : ℕ) → min a b ≡ c → (c ≡ a) ⊎ (c ≡ b)
        or_min a b c e = step (same_or_other c a)
          where
            step : (c ≡ a) ⊎ (c ≢ a) → (c ≡ a) ⊎ (c ≡ b)
            step (inl f) = inl f
            step (inr f) = inr (omega (arith, e, f))

        same : (root : ℕ → ℕ) → LeadsTo links root → (λ p. if nat_eq (root p) big then small else root p) ≡ joined_at i j root
        same root t = ap₂ (λ x y p. if nat_eq (root p) x then y else root p) (sym big_is ∙ ap₂ max (a_is root t) (b_is root t)) (sym small_is ∙ ap₂ min (a_is root t) (b_is root t))

-- Places that are counted, one by one.
pub one_more_place : (place : ℕ) (links new : List ℕ) → links ≡ counting_from 0 place → new ≡ links ++ place ∷ [] → new ≡ counting_from 0 (place + 1)
one_more_place place links new before pushed = pushed ∙ ap (λ l. l ++ place ∷ []) before ∙ sym (counted_on place)

-- The roots, place by place.
pub one_more_root : (links found : List ℕ) (place above r : ℕ) (new : List ℕ) (root : ℕ → ℕ) → LeadsTo links root → place < length links → above ≡ get_or links place 0 → found ≡ map root (counting_from 0 place) →
    ((above < place) × (r ≡ get_or found above 0)) ⊎ ((above ≡ place) × (r ≡ place)) → new ≡ found ++ r ∷ [] → new ≡ map root (counting_from 0 (place + 1))
one_more_root links found place above r new root t within above_is before which pushed =
    pushed ∙ ap₂ (λ l k. l ++ k ∷ []) before (r_is which) ∙ sym (map-last (counting_from 0 place) place) ∙ sym (ap (map root) (counted_on place))
  where
    map-last : (xs : List ℕ) (x : ℕ) → map root (xs ++ x ∷ []) ≡ map root xs ++ root x ∷ []
    map-last [] x = refl
    map-last (y ∷ xs) x = ap (λ l. root y ∷ l) (map-last xs x)

    r_is : ((above < place) × (r ≡ get_or found above 0)) ⊎ ((above ≡ place) × (r ≡ place)) → r ≡ root place
    r_is (inl (less, e)) =
        let none : 0 + above ≡ above = omega arith in
        e ∙ ap (λ l. get_or l above 0) before
        ∙ get_or-map root (counting_from 0 place) above 0 0 (subst (λ n. above < n) (sym (length-counting_from 0 place)) less)
        ∙ ap root (get_or-counting_from 0 place above 0 less ∙ none) ∙ ap root above_is ∙ t.root_stays place within
    r_is (inr (same, e)) = e ∙ sym (t.own_link place within (sym above_is ∙ same))

-- Own links lead to own roots.
pub own_links_lead : (count : ℕ) → LeadsTo (counting_from 0 count) own_root
own_links_lead count = record {
  root_stays = λ p less. at p less;
  own_link = λ p less e. refl;
  root_is_end = λ p less. at p less;
  root_is_before = λ p less. omega arith;
}
  where
    at : (p : ℕ) → p < length (counting_from 0 count) → get_or (counting_from 0 count) p 0 ≡ p
    at p less = let none : 0 + p ≡ p = omega arith in get_or-counting_from 0 count p 0 (subst (λ n. p < n) (length-counting_from 0 count) less) ∙ none

pub own_links_back : (count : ℕ) → LeadsBack (counting_from 0 count)
own_links_back count p less = let none : 0 + p ≡ p = omega arith in let e = get_or-counting_from 0 count p 0 (subst (λ n. p < n) (length-counting_from 0 count) less) in omega (arith, e, none)
