-- What the steps of a split give together.
use Rattle.std.proofs.Common.{◌≡◌, ◌≢◌, ℕ, ◌+◌, ◌<◌, Bool, true, false, List, [], ◌∷◌, ◌++◌, map, length, get_or, drop, length-append, All, AllPairs, sym, ap, ap₂, ◌∙◌, subst, arith}
use Rattle.std.specs.Prelude.{nat_eq, if◌then◌else◌}
use Rattle.std.proofs.lemmas.Bool.{eq-eqb, ne_eqb}
use Rattle.std.proofs.lemmas.List.{append-nil, get_or_default, length-map, map_push}
use Rattle.std.proofs.lemmas.List.Elements.{All-nil, All-cons, All-head, All-tail, All-weaker, filter-append}
use Rattle.std.proofs.lemmas.List.Kept.{AllPairs-cons}
use Rattle.head_laws.proofs.Numbers.{AllPairs-head, AllPairs-tail}
use Rattle.lf_definitions.specs.Syntax.{no_args}
use Rattle.lf_definitions.specs.Typing.{LfGoal}
use Rattle.lf_definitions.specs.GoalLists.{LfGoals, all_goals, ids, AreDistinct}
use Rattle.goal_lists.proofs.Leaving.{All-parts, AllPairs-append}
use Rattle.applications.specs.Candidates.{counting_from}
use Rattle.application_laws.proofs.Lists.{no_pairs}
use Rattle.goal_clusters.specs.Linking.{joined_all, own_root, LeadsBack, LeadsTo, Relinks, AreRootsOf}
use Rattle.goal_clusters.specs.Dealing.{with_root, dealt, own_roots, part_at, PartsAreDistinct}
use Rattle.goal_clusters.proofs.LinkLaws.{counted_on, length-counting_from, own_links_lead, own_links_back}
use Rattle.goal_clusters.proofs.Deals.{length-dealt, get_or-dealt}
use Rattle.goal_clusters.proofs.Joining.{relinks_on}
use Rattle.clusters.specs.Clusters.{classes, is_one_of}
use Rattle.application_laws.specs.Conditions.{goals_inside}
use Rattle.goal_clusters.proofs.Roots.{joined_all-append}
use Rattle.goal_clusters.proofs.Parts.{of_each_class, roots_are_places}

abbrev parts_of : List LfGoal → List LfGoal → LfGoals
parts_of xs ys = record { proofs = xs; witnesses = ys }

-- a goal for places past the last
abbrev pub no_goal : LfGoal
no_goal = record { id = 0; context = []; target = record { atom_family = 0; atom_args = no_args } }

-- Once both parts of a list are joined, the roots are those of all.
module _ (list : LfGoals) (keys start first last : List ℕ) (count : ℕ) (keys_are : keys ≡ ids (all_goals list)) (count_is : count ≡ length keys) (start_is : start ≡ counting_from 0 count) where
  counted : count ≡ length (all_goals list)
  counted = count_is ∙ ap length keys_are ∙ length-map (all_goals list) (λ g. g.id)

  pub start_back : LeadsBack start
  start_back = subst LeadsBack (sym start_is) (own_links_back count)

  pub start_long : length start ≡ length keys
  start_long = ap length start_is ∙ length-counting_from 0 count ∙ count_is

  pub both_fit : length list.proofs + length list.witnesses ≡ length start
  both_fit = sym (length-append list.proofs list.witnesses) ∙ sym counted ∙ sym (ap length start_is ∙ length-counting_from 0 count)

  pub joined_whole : Relinks start first (joined_all keys 0 list.proofs) → Relinks first last (joined_all keys (length list.proofs) list.witnesses) → (found : List ℕ) →
      ((root : ℕ → ℕ) → LeadsTo last root → found ≡ map root (counting_from 0 (length last))) → AreRootsOf (all_goals list) found
  joined_whole one two found roots_are = record {
    links = last;
    as_long = long;
    leads_to = leads;
    are_roots = roots_are whole leads ∙ ap (λ n. map whole (counting_from 0 n)) long;
  }
    where
      whole : ℕ → ℕ
      whole = joined_all (ids (all_goals list)) 0 (all_goals list) own_root

      long : length last ≡ length (all_goals list)
      long = two.as_long ∙ one.as_long ∙ ap length start_is ∙ length-counting_from 0 count ∙ counted

      both : Relinks start last (joined_all keys 0 (all_goals list))
      both =
          relinks_on start first last (joined_all keys 0 list.proofs) (joined_all keys (length list.proofs) list.witnesses) (joined_all keys 0 (all_goals list)) one two
          (λ root. let zeroth : length list.proofs ≡ 0 + length list.proofs = omega arith in
          ap (λ i. joined_all keys i list.witnesses (joined_all keys 0 list.proofs root)) zeroth ∙ joined_all-append keys 0 list.proofs list.witnesses root)

      leads : LeadsTo last (joined_all (ids (all_goals list)) 0 (all_goals list) own_root)
      leads =
          subst (λ ns. LeadsTo last (joined_all ns 0 (all_goals list) own_root)) keys_are
          (both.leads_to own_root (subst (λ l. LeadsTo l own_root) (sym start_is) (own_links_lead count)))

-- What is dealt out by these roots.
module _ (list : LfGoals) (distinct : AreDistinct (all_goals list)) (found : List ℕ) (are : AreRootsOf (all_goals list) found) where
  pub found_long : length found ≡ length (all_goals list)
  found_long = ap length are.are_roots ∙ length-map (counting_from 0 (length (all_goals list))) (joined_all (ids (all_goals list)) 0 (all_goals list) own_root) ∙ length-counting_from 0 (length (all_goals list))

  pub parts_fit : length list.proofs + length list.witnesses ≡ length found
  parts_fit = sym (length-append list.proofs list.witnesses) ∙ sym found_long

  pub found_within : All (λ r. r < length found) found
  found_within = subst (λ l. All (λ r. r < length l) l) (sym are.are_roots) (roots_are_places list distinct no_goal are.links are.as_long are.leads_to)

  pub made_of_each : {Y : Type 0} (f : LfGoals → Y) →
      map (λ r. f (part_at (dealt (length found) (drop 0 found) list.proofs) (dealt (length found) (drop (length list.proofs) found) list.witnesses) r)) (own_roots found (counting_from 0 (length found)))
      ≡ map (λ class. f (goals_inside (is_one_of class) list)) (classes (all_goals list))
  made_of_each f =
      subst (λ l. map (λ r. f (part_at (dealt (length found) (drop 0 l) list.proofs) (dealt (length found) (drop (length list.proofs) l) list.witnesses) r)) (own_roots l (counting_from 0 (length found)))
      ≡ map (λ class. f (goals_inside (is_one_of class) list)) (classes (all_goals list))) (sym are.are_roots)
      (of_each_class list distinct no_goal are.links are.as_long are.leads_to f (length found) found_long)

-- Sublists of lists with different numbers have different numbers.
All-with_root : (P : LfGoal → Type 0) (r : ℕ) (ks : List ℕ) (gs : List LfGoal) → All P gs → All P (with_root r ks gs)
All-with_root P r [] gs all = All-nil P
All-with_root P r (k ∷ ks) [] all = All-nil P
All-with_root P r (k ∷ ks) (g ∷ gs) all = step (nat_eq k r) (All-with_root P r ks gs (All-tail P g gs all))
  where
    step : (b : Bool) → All P (with_root r ks gs) → All P (if b then g ∷ with_root r ks gs else with_root r ks gs)
    step true later = All-cons P g (with_root r ks gs) (All-head P g gs all) later
    step false later = later

AllPairs-with_root : (R : LfGoal → LfGoal → Type 0) (r : ℕ) (ks : List ℕ) (gs : List LfGoal) → AllPairs R gs → AllPairs R (with_root r ks gs)
AllPairs-with_root R r [] gs pairs = no_pairs R
AllPairs-with_root R r (k ∷ ks) [] pairs = no_pairs R
AllPairs-with_root R r (k ∷ ks) (g ∷ gs) pairs = step (nat_eq k r) (AllPairs-with_root R r ks gs (AllPairs-tail R g gs pairs))
  where
    step : (b : Bool) → AllPairs R (with_root r ks gs) → AllPairs R (if b then g ∷ with_root r ks gs else with_root r ks gs)
    step true later = AllPairs-cons R g (with_root r ks gs) (All-with_root (R g) r ks gs (AllPairs-head R g gs pairs)) later
    step false later = later

AllPairs-parts : (R : LfGoal → LfGoal → Type 0) (xs ys : List LfGoal) → AllPairs R (xs ++ ys) → AllPairs R xs × AllPairs R ys × All (λ x. All (R x) ys) xs
AllPairs-parts R [] ys pairs = (no_pairs R, pairs, All-nil (λ x. All (R x) ys))
AllPairs-parts R (x ∷ xs) ys pairs =
    let later = AllPairs-parts R xs ys (AllPairs-tail R x (xs ++ ys) pairs) in
    let here = All-parts (R x) xs ys (AllPairs-head R x (xs ++ ys) pairs) in
    (AllPairs-cons R x xs here.0 later.0, later.1, All-cons (λ y. All (R y) ys) x xs here.1 later.2)

distinct_part : (list : LfGoals) → AreDistinct (all_goals list) → (r : ℕ) (ks js : List ℕ) → AreDistinct (with_root r ks list.proofs ++ with_root r js list.witnesses)
distinct_part list distinct r ks js =
    let R = λ (g h : LfGoal). g.id ≢ h.id in
    let parts = AllPairs-parts R list.proofs list.witnesses distinct in
    AllPairs-append R (with_root r ks list.proofs) (with_root r js list.witnesses) (AllPairs-with_root R r ks list.proofs parts.0) (AllPairs-with_root R r js list.witnesses parts.1)
    (All-weaker (λ x. All (R x) list.witnesses) (λ x. All (R x) (with_root r js list.witnesses)) (λ x all. All-with_root (R x) r js list.witnesses all) (with_root r ks list.proofs)
    (All-with_root (λ x. All (R x) list.witnesses) r ks list.proofs parts.2))

pub parts_distinct : (list : LfGoals) → AreDistinct (all_goals list) → (n : ℕ) (ks js : List ℕ) → PartsAreDistinct (dealt n ks list.proofs) (dealt n js list.witnesses)
parts_distinct list distinct n ks js r less =
    let within : r < n = subst (λ m. r < m) (length-dealt n ks list.proofs) less in
    subst AreDistinct (sym (ap₂ (λ xs ys. xs ++ ys) (get_or-dealt n ks list.proofs r [] within) (get_or-dealt n js list.witnesses r [] within))) (distinct_part list distinct r ks js)

-- One place more: a part of its own where it is its own root.
pub part_taken : {X Y : Type 0} (f : X → Y) (make : ℕ → Y) (rs : List ℕ) (place : ℕ) (found new : List X) (x : X) → map f found ≡ map make (own_roots rs (counting_from 0 place)) → get_or rs place 0 ≡ place → f x ≡ make place →
    new ≡ found ++ x ∷ [] → map f new ≡ map make (own_roots rs (counting_from 0 (place + 1)))
part_taken f make rs place found new x before own made pushed =
    ap (map f) pushed ∙ map_push f found x ∙ ap₂ (λ l y. l ++ y ∷ []) before made ∙ sym (map_push make (own_roots rs (counting_from 0 place)) place)
    ∙ ap (map make) (sym (ap (own_roots rs) (counted_on place) ∙ filter-append test (counting_from 0 place) (place ∷ []) ∙ ap (λ b. own_roots rs (counting_from 0 place) ++ (if b then place ∷ [] else [])) (eq-eqb (get_or rs place 0) place own)))
  where
    test : ℕ → Bool
    test r = nat_eq (get_or rs r 0) r

pub part_passed : {X Y : Type 0} (f : X → Y) (make : ℕ → Y) (rs : List ℕ) (place : ℕ) (found new : List X) → map f found ≡ map make (own_roots rs (counting_from 0 place)) → get_or rs place 0 ≢ place →
    new ≡ found → map f new ≡ map make (own_roots rs (counting_from 0 (place + 1)))
part_passed f make rs place found new before other same =
    ap (map f) same ∙ before
    ∙ ap (map make) (sym (ap (own_roots rs) (counted_on place) ∙ filter-append test (counting_from 0 place) (place ∷ []) ∙ ap (λ b. own_roots rs (counting_from 0 place) ++ (if b then place ∷ [] else [])) (ne_eqb (get_or rs place 0) place other)
    ∙ append-nil (own_roots rs (counting_from 0 place))))
  where
    test : ℕ → Bool
    test r = nat_eq (get_or rs r 0) r

-- what is read at a place
pub read_part : (proofs witnesses : List (List LfGoal)) (place : ℕ) (xs ys : List LfGoal) → place < length proofs → place < length witnesses → xs ≡ get_or proofs place xs → ys ≡ get_or witnesses place ys →
    parts_of xs ys ≡ part_at proofs witnesses place
read_part proofs witnesses place xs ys less within xs_is ys_is =
    ap₂ parts_of (xs_is ∙ get_or_default proofs place xs [] less) (ys_is ∙ get_or_default witnesses place ys [] within)

-- What is dealt out, as it stands in the code.
module _ (list : LfGoals) (distinct : AreDistinct (all_goals list)) (found : List ℕ) (are : AreRootsOf (all_goals list) found) (proofs witnesses : List (List LfGoal)) (k : ℕ) (k_is : k ≡ length list.proofs)
    (proofs_are : proofs ≡ dealt (length found) found list.proofs) (witnesses_are : witnesses ≡ dealt (length found) (drop k found) list.witnesses) where
  witnesses_there : witnesses ≡ dealt (length found) (drop (length list.proofs) found) list.witnesses
  witnesses_there = witnesses_are ∙ ap (λ n. dealt (length found) (drop n found) list.witnesses) k_is

  pub as_many_proofs : length proofs ≡ length found
  as_many_proofs = ap length proofs_are ∙ length-dealt (length found) found list.proofs

  pub as_many_witnesses : length witnesses ≡ length found
  as_many_witnesses = ap length witnesses_are ∙ length-dealt (length found) (drop k found) list.witnesses

  pub all_distinct : PartsAreDistinct proofs witnesses
  all_distinct =
      subst (λ xs. PartsAreDistinct xs witnesses) (sym proofs_are)
      (subst (PartsAreDistinct (dealt (length found) found list.proofs)) (sym witnesses_are) (parts_distinct list distinct (length found) found (drop k found)))

  pub split_made : {Y : Type 0} (f : LfGoals → Y) →
      map (λ r. f (part_at proofs witnesses r)) (own_roots found (counting_from 0 (length found))) ≡ map (λ class. f (goals_inside (is_one_of class) list)) (classes (all_goals list))
  split_made f =
      ap₂ (λ ps ws. map (λ r. f (part_at ps ws r)) (own_roots found (counting_from 0 (length found)))) proofs_are witnesses_there ∙ made_of_each list distinct found are f

-- Roots that are read as a slice.
pub roots_read : (list : LfGoals) (found items : List ℕ) → found ≡ items → AreRootsOf (all_goals list) items → AreRootsOf (all_goals list) found
roots_read list found items same are = subst (AreRootsOf (all_goals list)) (sym same) are
