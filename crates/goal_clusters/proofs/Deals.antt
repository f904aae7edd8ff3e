-- Goals that are dealt out one after another.
use Rattle.std.proofs.Common.{◌≡◌, ◌≢◌, ◌⊎◌, inl, inr, ℕ, zero, suc, ◌+◌, ◌-◌, ◌<◌, ◌≤◌, Bool, true, false, List, [], ◌∷◌, ◌++◌, map, length, get_or, set, take, drop, take_all, refl, sym, ap, ap₂, ◌∙◌, subst, arith}
use Rattle.std.specs.Prelude.{nat_eq, if◌then◌else◌}
use Rattle.std.proofs.lemmas.Bool.{eq-eqb, ne_eqb}
use Rattle.std.proofs.lemmas.List.{append-nil, length-map, length-set, length-drop, length-take-le, get_or-set_same, get_or-set_other, get_or-map, get_or-drop, get_or_default, take_more, same_lists, map_push}
use Rattle.lf_definitions.proofs.Lists.{take_next}
use Rattle.lf_definitions.specs.Typing.{LfGoal}
use Rattle.lf_terms.specs.declared.goal.Goal.{Goal}
use Rattle.lf_terms.specs.Targets.{goal_of}
use Rattle.applications.specs.Candidates.{counting_from}
use Rattle.clusters.proofs.Renamed.{map_same}
use Rattle.goal_clusters.specs.Dealing.{with_root, dealt}
use Rattle.goal_clusters.proofs.LinkLaws.{same_or_other, counting_from-last, length-counting_from, get_or-counting_from}

-- empty lists
pub empty_more : (count : ℕ) (lists new : List (List LfGoal)) → lists ≡ dealt count [] [] → new ≡ lists ++ [] ∷ [] → new ≡ dealt (count + 1) [] []
empty_more count lists new before pushed =
    let one : count + 1 ≡ suc count = omega arith in
    pushed ∙ ap (λ l. l ++ [] ∷ []) before ∙ sym (map_push (λ r. with_root r [] []) (counting_from 0 count) (0 + count)) ∙ ap (map (λ r. with_root r [] [])) (sym (counting_from-last 0 count)) ∙ ap (λ n. dealt n [] []) (sym one)

-- one goal more
with_root-last : (r : ℕ) (ks : List ℕ) (gs : List LfGoal) (k : ℕ) (g : LfGoal) → length ks ≡ length gs → with_root r (ks ++ k ∷ []) (gs ++ g ∷ []) ≡ with_root r ks gs ++ (if nat_eq k r then g ∷ [] else [])
with_root-last r [] [] k g same = refl
with_root-last r [] (h ∷ gs) k g same = absurd (omega (arith, same))
with_root-last r (j ∷ ks) [] k g same = absurd (omega (arith, same))
with_root-last r (j ∷ ks) (h ∷ gs) k g same = step (nat_eq j r) (with_root-last r ks gs k g (omega (arith, same)))
  where
    step : (b : Bool) → with_root r (ks ++ k ∷ []) (gs ++ g ∷ []) ≡ with_root r ks gs ++ (if nat_eq k r then g ∷ [] else []) →
        (if b then h ∷ with_root r (ks ++ k ∷ []) (gs ++ g ∷ []) else with_root r (ks ++ k ∷ []) (gs ++ g ∷ [])) ≡ (if b then h ∷ with_root r ks gs else with_root r ks gs) ++ (if nat_eq k r then g ∷ [] else [])
    step true e = ap (λ l. h ∷ l) e
    step false e = e

pub length-dealt : (n : ℕ) (ks : List ℕ) (gs : List LfGoal) → length (dealt n ks gs) ≡ n
length-dealt n ks gs = length-map (counting_from 0 n) (λ r. with_root r ks gs) ∙ length-counting_from 0 n

pub get_or-dealt : (n : ℕ) (ks : List ℕ) (gs : List LfGoal) (r : ℕ) (d : List LfGoal) → r < n → get_or (dealt n ks gs) r d ≡ with_root r ks gs
get_or-dealt n ks gs r d less =
    let none : 0 + r ≡ r = omega arith in
    get_or-map (λ r. with_root r ks gs) (counting_from 0 n) r 0 d (subst (λ m. r < m) (sym (length-counting_from 0 n)) less)
    ∙ ap (λ p. with_root p ks gs) (get_or-counting_from 0 n r 0 less ∙ none)

pub one_more_dealt : (n : ℕ) (ks : List ℕ) (gs : List LfGoal) (k : ℕ) (g : LfGoal) (parts : List (List LfGoal)) (y : List LfGoal) → length ks ≡ length gs → k < n → parts ≡ dealt n ks gs →
    y ≡ get_or parts k [] ++ g ∷ [] → set parts k y ≡ dealt n (ks ++ k ∷ []) (gs ++ g ∷ [])
one_more_dealt n ks gs k g parts y same within before made =
    same_lists (set parts k y) (dealt n (ks ++ k ∷ []) (gs ++ g ∷ [])) (long ∙ sym (length-dealt n (ks ++ k ∷ []) (gs ++ g ∷ [])))
    (λ r d less. let inside = subst (λ m. r < m) long less in each r d inside (same_or_other r k) ∙ sym (get_or-dealt n (ks ++ k ∷ []) (gs ++ g ∷ []) r d inside ∙ with_root-last r ks gs k g same))
  where
    parts_long : length parts ≡ n
    parts_long = ap length before ∙ length-dealt n ks gs

    long : length (set parts k y) ≡ n
    long = length-set parts k y ∙ parts_long

    each : (r : ℕ) (d : List LfGoal) → r < n → (r ≡ k) ⊎ (r ≢ k) → get_or (set parts k y) r d ≡ with_root r ks gs ++ (if nat_eq k r then g ∷ [] else [])
    each r d less (inl e) =
        ap (λ p. get_or (set parts k y) p d) e ∙ get_or-set_same parts k y d (subst (λ m. k < m) (sym parts_long) within) ∙ made
        ∙ ap (λ l. get_or l k [] ++ g ∷ []) before ∙ ap (λ l. l ++ g ∷ []) (get_or-dealt n ks gs k [] within)
        ∙ ap (λ p. with_root p ks gs ++ g ∷ []) (sym e) ∙ ap (λ b. with_root r ks gs ++ (if b then g ∷ [] else [])) (sym (eq-eqb k r (sym e)))
    each r d less (inr e) =
        get_or-set_other parts k r y d e ∙ ap (λ l. get_or l r d) before ∙ get_or-dealt n ks gs r d less
        ∙ sym (ap (λ b. with_root r ks gs ++ (if b then g ∷ [] else [])) (ne_eqb k r (λ f. e (sym f))) ∙ append-nil (with_root r ks gs))

-- the next goal of a list, with the root of its place
pub next_dealt : (roots : List ℕ) (first : ℕ) (items : List Goal) (i : ℕ) (x copy : Goal) (parts : List (List LfGoal)) (y part : List LfGoal) → first + length items ≤ length roots → i < length items → x ≡ get_or items i x →
    get_or roots (first + i) 0 < length roots → parts ≡ dealt (length roots) (take i (drop first roots)) (map goal_of (take i items)) →
    part ≡ get_or parts (get_or roots (first + i) 0) part → goal_of copy ≡ goal_of x → y ≡ part ++ goal_of copy ∷ [] →
    set parts (get_or roots (first + i) 0) y ≡ dealt (length roots) (take (i + 1) (drop first roots)) (map goal_of (take (i + 1) items))
next_dealt roots first items i x copy parts y part fits within is root_within before part_is copied made =
    one_more_dealt (length roots) (take i (drop first roots)) (map goal_of (take i items)) k (goal_of x) parts y counted root_within before made_of
    ∙ ap₂ (dealt (length roots)) (sym more_roots) (sym (map_push goal_of (take i items) x) ∙ ap (map goal_of) (take_next items i x within is))
  where
    k : ℕ
    k = get_or roots (first + i) 0

    rest_long : length (drop first roots) ≡ length roots - first
    rest_long = length-drop first roots

    counted : length (take i (drop first roots)) ≡ length (map goal_of (take i items))
    counted =
        length-take-le i (drop first roots) (omega (arith, rest_long, within, fits))
        ∙ sym (length-map (take i items) goal_of ∙ length-take-le i items (omega (arith, within)))

    more_roots : take (i + 1) (drop first roots) ≡ take i (drop first roots) ++ get_or roots (first + i) 0 ∷ []
    more_roots = take_more (drop first roots) i 0 (omega (arith, rest_long, within, fits)) ∙ ap (λ r. take i (drop first roots) ++ r ∷ []) (get_or-drop first roots i 0)

    parts_long : length parts ≡ length roots
    parts_long = ap length before ∙ length-dealt (length roots) (take i (drop first roots)) (map goal_of (take i items))

    made_of : y ≡ get_or parts (get_or roots (first + i) 0) [] ++ goal_of x ∷ []
    made_of =
        made ∙ ap₂ (λ l g. l ++ g ∷ [])
        (part_is ∙ get_or_default parts (get_or roots (first + i) 0) part [] (subst (λ n. get_or roots (first + i) 0 < n) (sym parts_long) root_within)) copied

-- Roots that stand past the last goal say nothing.
with_root-past : (r : ℕ) (ks : List ℕ) (gs : List LfGoal) (i : ℕ) → length gs ≤ i → with_root r (take i ks) gs ≡ with_root r ks gs
with_root-past r [] gs zero le = refl
with_root-past r [] gs (suc i) le = refl
with_root-past r (k ∷ ks) [] zero le = refl
with_root-past r (k ∷ ks) [] (suc i) le = refl
with_root-past r (k ∷ ks) (g ∷ gs) zero le = absurd (omega (arith, le))
with_root-past r (k ∷ ks) (g ∷ gs) (suc i) le = ap (λ l. if nat_eq k r then g ∷ l else l) (with_root-past r ks gs i (omega (arith, le)))

pub all_dealt : (n : ℕ) (rest : List ℕ) (items : List Goal) (i : ℕ) (goals : List LfGoal) (parts : List (List LfGoal)) → length items ≤ i → map goal_of items ≡ goals →
    parts ≡ dealt n (take i rest) (map goal_of (take i items)) → parts ≡ dealt n rest goals
all_dealt n rest items i goals parts end are before =
    before ∙ ap (λ l. dealt n (take i rest) l) whole ∙ map_same (λ r. with_root r (take i rest) goals) (λ r. with_root r rest goals) (λ r. with_root-past r rest goals i past) (counting_from 0 n)
  where
    whole : map goal_of (take i items) ≡ goals
    whole = ap (map goal_of) (take_all i items end) ∙ are

    past : length goals ≤ i
    past = let same : length items ≡ length goals = sym (length-map items goal_of) ∙ ap length are in omega (arith, same, end)

-- The goals of a slice are as many as those of its list.
pub fits_all : (first : ℕ) (items : List Goal) (goals : List LfGoal) (n : ℕ) → map goal_of items ≡ goals → first + length goals ≤ n → first + length items ≤ n
fits_all first items goals n are fits = let same : length items ≡ length goals = sym (length-map items goal_of) ∙ ap length are in omega (arith, same, fits)
