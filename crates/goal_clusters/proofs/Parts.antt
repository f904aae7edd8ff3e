-- The parts of the places that are their own roots are the clusters, in order.
use Rattle.std.proofs.Common.{◌≡◌, ℕ, zero, suc, ◌+◌, ◌<◌, ◌≤◌, Bool, List, [], ◌∷◌, map, length, get_or, drop, length-append, All, AllPairs, refl, sym, ap, ap₂, ◌∙◌, subst, arith}
use Rattle.std.specs.Prelude.{Contains, nat_eq, if◌then◌else◌}
use Rattle.std.proofs.lemmas.Bool.{eq-eqb, eqb-true}
use Rattle.std.proofs.lemmas.List.{length-map, get_or-map, get_or_default, get_or-drop, get_or_append_left, get_or-append-add}
use Rattle.std.proofs.lemmas.List.Elements.{All-map, Contains-get_or}
use Rattle.std.proofs.lemmas.List.Kept.{AllPairs-cons, AllPairs-filter}
use Rattle.head_laws.proofs.Numbers.{Contains-here, Contains-later, AllPairs-head, AllPairs-tail}
use Rattle.lf_definitions.specs.Typing.{LfGoal}
use Rattle.lf_definitions.specs.GoalLists.{LfGoals, all_goals, AreDistinct}
use Rattle.applications.specs.Candidates.{counting_from}
use Rattle.application_laws.specs.Conditions.{inside, goals_inside}
use Rattle.application_laws.proofs.Lists.{no_pairs, numbers_rise}
use Rattle.clusters.specs.Clusters.{classes, is_one_of}
use Rattle.clusters.proofs.Elements.{filtered_has, has_filtered, mapped_has, has_mapped}
use Rattle.clusters.proofs.Classes.{is_in_classes, is_in_goals, member_has_number, number_is_member}
use Rattle.clusters.proofs.Renamed.{same_truth, map_after}
use Rattle.clusters.proofs.Connected.{connected_in_class, connected_stays}
use Rattle.goal_clusters.specs.Linking.{LeadsTo}
use Rattle.goal_clusters.specs.Dealing.{with_root, dealt, own_roots, part_at}
use Rattle.goal_clusters.proofs.LinkLaws.{length-counting_from, get_or-counting_from}
use Rattle.goal_clusters.proofs.Deals.{get_or-dealt}
use Rattle.goal_clusters.proofs.Places.{place_is, at_its_place, Rises, same_rising}
use Rattle.goal_clusters.proofs.Roots.{final, connected_meet, one_root_connects}
use Rattle.goal_clusters.proofs.Heads.{place_in, first_place, BeginsFirst, classes_begin, classes_in_order}

-- Goals that are dealt out by roots are those inside where the tests agree.
dealt_inside : (r : ℕ) (within : ℕ → Bool) (ks : List ℕ) (gs : List LfGoal) (d : LfGoal) → length gs ≤ length ks → ((i : ℕ) → i < length gs → nat_eq (get_or ks i 0) r ≡ within (get_or gs i d).id) →
    with_root r ks gs ≡ inside within gs
dealt_inside r within [] [] d long agree = refl
dealt_inside r within [] (g ∷ gs) d long agree = absurd (omega (arith, long))
dealt_inside r within (k ∷ ks) [] d long agree = refl
dealt_inside r within (k ∷ ks) (g ∷ gs) d long agree =
    ap (λ b. if b then g ∷ with_root r ks gs else with_root r ks gs) (agree 0 (omega arith))
    ∙ ap (λ l. if within g.id then g ∷ l else l) (dealt_inside r within ks gs d (omega (arith, long)) (λ i less. agree (suc i) (omega (arith, less))))

-- maps that agree on each element
pub map_among : {X Y : Type 0} (f g : X → Y) (xs : List X) → ((x : X) → Contains xs x → f x ≡ g x) → map f xs ≡ map g xs
map_among f g [] same = refl
map_among f g (x ∷ xs) same = ap₂ (λ y more. y ∷ more) (same x (Contains-here x xs)) (map_among f g xs (λ y has. same y (Contains-later x xs y has)))

-- numbers that are counted
counted_has : (n k : ℕ) → k < n → Contains (counting_from 0 n) k
counted_has n k less =
    let none : 0 + k ≡ k = omega arith in
    subst (Contains (counting_from 0 n)) (get_or-counting_from 0 n k 0 less ∙ none) (Contains-get_or (counting_from 0 n) k 0 (subst (λ m. k < m) (sym (length-counting_from 0 n)) less))

has_counted : (n k : ℕ) → Contains (counting_from 0 n) k → k < n
has_counted n k (i, less, e) =
    let long = length-counting_from 0 n in
    let none : 0 + i ≡ i = omega arith in
    let within : i < n = omega (arith, less, long) in
    let same : i ≡ k = sym none ∙ sym (get_or-counting_from 0 n i k within) ∙ e in omega (arith, within, same)

module _ (list : LfGoals) (distinct : AreDistinct (all_goals list)) (d : LfGoal) (links : List ℕ) (long : length links ≡ length (all_goals list)) (leads : LeadsTo links (final (all_goals list) distinct d)) where
  abbrev goals : List LfGoal
  goals = all_goals list

  abbrev root : ℕ → ℕ
  root = final (all_goals list) distinct d

  abbrev pub roots : List ℕ
  roots = map root (counting_from 0 (length (all_goals list)))

  linked : (p : ℕ) → p < length goals → p < length links
  linked p less = subst (λ n. p < n) (sym long) less

  before : (p : ℕ) → p < length goals → root p ≤ p
  before p less = leads.root_is_before p (linked p less)

  -- A root is its own root.
  own : (p : ℕ) → p < length goals → root (root p) ≡ root p
  own p less = let le = before p less in leads.own_link (root p) (linked (root p) (omega (arith, le, less))) (leads.root_is_end p (linked p less))

  root_at : (p : ℕ) → p < length goals → get_or roots p 0 ≡ root p
  root_at p less =
      let none : 0 + p ≡ p = omega arith in
      get_or-map root (counting_from 0 (length goals)) p 0 0 (subst (λ n. p < n) (sym (length-counting_from 0 (length goals))) less) ∙ ap root (get_or-counting_from 0 (length goals) p 0 less ∙ none)

  -- The first place of a class is its own root, and that of each of its goals.
  module _ (class : List LfGoal) (has : Contains (classes goals) class) where
    begins : BeginsFirst goals class
    begins = classes_begin goals distinct class has

    first_in : Contains goals begins.first
    first_in = is_in_goals goals class begins.first has begins.is_member

    first_at : (place_in goals begins.first < length goals) × (get_or goals (place_in goals begins.first) d ≡ begins.first)
    first_at = at_its_place goals distinct d begins.first first_in

    pub first_within : first_place goals class < length goals
    first_within = subst (λ p. p < length goals) (sym begins.stands_first) first_at.0

    first_is : get_or goals (first_place goals class) d ≡ begins.first
    first_is = ap (λ p. get_or goals p d) begins.stands_first ∙ first_at.1

    first_member : Contains class (get_or goals (first_place goals class) d)
    first_member = subst (Contains class) (sym first_is) begins.is_member

    -- What has its root is in the class, and what is in the class has its root.
    member_by_root : (p : ℕ) → p < length goals → root p ≡ root (first_place goals class) → Contains class (get_or goals p d)
    member_by_root p less e = connected_stays goals class has (one_root_connects goals distinct d (first_place goals class) p first_within less (sym e)) first_member

    pub first_is_own : root (first_place goals class) ≡ first_place goals class
    first_is_own =
        let p = first_place goals class in
        let low = before p first_within in
        let within : root p < length goals = omega (arith, low, first_within) in
        let least = begins.is_least (get_or goals (root p) d) (member_by_root (root p) within (own p first_within)) in
        let there = place_is goals distinct d (root p) within in
        omega (arith, low, least, there)

    root_by_member : (p : ℕ) → p < length goals → Contains class (get_or goals p d) → root p ≡ first_place goals class
    root_by_member p less is =
        connected_meet goals distinct d (connected_in_class goals class has (get_or goals p d) (get_or goals (first_place goals class) d) is first_member) p (first_place goals class) less first_within refl refl
        ∙ first_is_own

    agrees : (p : ℕ) → p < length goals → nat_eq (get_or roots p 0) (first_place goals class) ≡ is_one_of class (get_or goals p d).id
    agrees p less =
        same_truth (nat_eq (get_or roots p 0) (first_place goals class)) (is_one_of class (get_or goals p d).id)
        (λ e. member_has_number class (get_or goals p d) (member_by_root p less (sym (root_at p less) ∙ eqb-true (get_or roots p 0) (first_place goals class) e ∙ sym first_is_own)))
        (λ e. eq-eqb (get_or roots p 0) (first_place goals class) (root_at p less ∙ root_by_member p less (number_is_member goals distinct class has (get_or goals p d) (Contains-get_or goals p d less) e)))

    roots_long : length roots ≡ length goals
    roots_long = length-map (counting_from 0 (length goals)) root ∙ length-counting_from 0 (length goals)

    parts_long : length goals ≡ length list.proofs + length list.witnesses
    parts_long = length-append list.proofs list.witnesses

    first_proofs : with_root (first_place goals class) (drop 0 roots) list.proofs ≡ inside (is_one_of class) list.proofs
    first_proofs =
        dealt_inside (first_place goals class) (is_one_of class) roots list.proofs d (omega (arith, roots_long, parts_long))
        (λ i less. agrees i (omega (arith, less, parts_long)) ∙ ap (λ (g : LfGoal). is_one_of class g.id) (get_or_append_left list.proofs list.witnesses d i less))

    last_witnesses : with_root (first_place goals class) (drop (length list.proofs) roots) list.witnesses ≡ inside (is_one_of class) list.witnesses
    last_witnesses =
        dealt_inside (first_place goals class) (is_one_of class) (drop (length list.proofs) roots) list.witnesses d (rest_long (length list.proofs) roots (omega (arith, roots_long, parts_long)))
        (λ i less. ap (λ r. nat_eq r (first_place goals class)) (get_or-drop (length list.proofs) roots i 0) ∙ agrees (length list.proofs + i) (omega (arith, less, parts_long))
        ∙ ap (λ (g : LfGoal). is_one_of class g.id) (get_or-append-add list.proofs list.witnesses i d))
      where
        rest_long : (k : ℕ) (xs : List ℕ) → k + length list.witnesses ≤ length xs → length list.witnesses ≤ length (drop k xs)
        rest_long zero xs le = omega (arith, le)
        rest_long (suc k) [] le = absurd (omega (arith, le))
        rest_long (suc k) (x ∷ xs) le = rest_long k xs (omega (arith, le))

    pub part_of_class : (n : ℕ) → n ≡ length goals → part_at (dealt n (drop 0 roots) list.proofs) (dealt n (drop (length list.proofs) roots) list.witnesses) (first_place goals class) ≡ goals_inside (is_one_of class) list
    part_of_class n same =
        let within : first_place goals class < n = subst (λ m. first_place goals class < m) (sym same) first_within in
        ap₂ (λ proofs witnesses. record { proofs = proofs; witnesses = witnesses }) (get_or-dealt n (drop 0 roots) list.proofs (first_place goals class) [] within ∙ first_proofs)
        (get_or-dealt n (drop (length list.proofs) roots) list.witnesses (first_place goals class) [] within ∙ last_witnesses)

  -- The places that are their own roots are the first places of the classes.
  pub own_roots_are : own_roots roots (counting_from 0 (length goals)) ≡ map (first_place goals) (classes goals)
  own_roots_are =
      same_rising (own_roots roots (counting_from 0 (length goals))) (map (first_place goals) (classes goals))
      (AllPairs-filter (λ m n. m < n) (λ r. nat_eq (get_or roots r 0) r) (counting_from 0 (length goals)) (numbers_rise 0 (length goals)))
      (pairs_mapped (first_place goals) (classes goals) (classes_in_order goals distinct)) to from
    where
      pairs_mapped : (f : List LfGoal → ℕ) (xs : List (List LfGoal)) → AllPairs (λ x y. f x < f y) xs → Rises (map f xs)
      pairs_mapped f [] pairs = no_pairs (λ m n. m < n)
      pairs_mapped f (x ∷ xs) pairs =
          AllPairs-cons (λ m n. m < n) (f x) (map f xs) (All-map (λ n. f x < n) f xs (AllPairs-head (λ y z. f y < f z) x xs pairs)) (pairs_mapped f xs (AllPairs-tail (λ y z. f y < f z) x xs pairs))

      to : (k : ℕ) → Contains (own_roots roots (counting_from 0 (length goals))) k → Contains (map (first_place goals) (classes goals)) k
      to k has =
          let kept = has_filtered (λ r. nat_eq (get_or roots r 0) r) (counting_from 0 (length goals)) k has in
          let less = has_counted (length goals) k kept.0 in
          let r = is_in_classes goals (get_or goals k d) (Contains-get_or goals k d less) in
          let own_k : root k ≡ k = sym (root_at k less) ∙ eqb-true (get_or roots k 0) k kept.1 in
          subst (Contains (map (first_place goals) (classes goals))) (sym (root_by_member r.0 r.1 k less r.2) ∙ own_k) (mapped_has (first_place goals) (classes goals) r.0 r.1)

      from : (k : ℕ) → Contains (map (first_place goals) (classes goals)) k → Contains (own_roots roots (counting_from 0 (length goals))) k
      from k has =
          let r = has_mapped (first_place goals) (classes goals) k has in
          let less = first_within r.0 r.1 in
          subst (Contains (own_roots roots (counting_from 0 (length goals)))) r.2
          (filtered_has (λ p. nat_eq (get_or roots p 0) p) (counting_from 0 (length goals)) (first_place goals r.0) (counted_has (length goals) (first_place goals r.0) less)
          (eq-eqb (get_or roots (first_place goals r.0) 0) (first_place goals r.0) (root_at (first_place goals r.0) less ∙ first_is_own r.0 r.1)))

  -- So whatever is made of each part is made of the goals of each class.
  pub of_each_class : {Y : Type 0} (f : LfGoals → Y) (n : ℕ) → n ≡ length goals →
      map (λ r. f (part_at (dealt n (drop 0 roots) list.proofs) (dealt n (drop (length list.proofs) roots) list.witnesses) r)) (own_roots roots (counting_from 0 n)) ≡ map (λ class. f (goals_inside (is_one_of class) list)) (classes goals)
  of_each_class f n same =
      let made = λ (r : ℕ). f (part_at (dealt n (drop 0 roots) list.proofs) (dealt n (drop (length list.proofs) roots) list.witnesses) r) in
      ap (map made) (ap (λ k. own_roots roots (counting_from 0 k)) same ∙ own_roots_are) ∙ map_after made (first_place goals) (classes goals)
      ∙ map_among (λ class. made (first_place goals class)) (λ class. f (goals_inside (is_one_of class) list)) (classes goals) (λ class has. ap f (part_of_class class has n same))

  -- Each root is a place.
  pub roots_are_places : All (λ r. r < length roots) roots
  roots_are_places k e less =
      let long : length roots ≡ length goals = length-map (counting_from 0 (length goals)) root ∙ length-counting_from 0 (length goals) in
      let within : k < length goals = omega (arith, less, long) in
      let same : get_or roots k e ≡ root k = get_or_default roots k e 0 less ∙ root_at k within in
      let low = before k within in
      omega (arith, same, low, less)
