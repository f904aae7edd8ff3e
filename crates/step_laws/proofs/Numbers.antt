-- Numbers of goals: those above all, and old and new ones in one list.
use Rattle.std.proofs.Common.{◌≡◌, ◌≢◌, ◌⊎◌, inl, inr, ℕ, suc, ◌<◌, ◌≤◌, max, List, [], ◌∷◌, ◌++◌, All, AllPairs, get_or, refl, sym, subst, arith}
use Rattle.std.proofs.Math.Nat.{le-max_left, le-max_right, le_antisymm}
use Rattle.std.proofs.lemmas.List.Elements.{All-nil, All-cons, All-head, All-tail, All-append, All-weaker}
use Rattle.std.proofs.lemmas.List.Kept.{AllPairs-cons}
use Rattle.head_laws.proofs.Numbers.{AllPairs-head, AllPairs-tail}
use Rattle.lf_definitions.specs.Typing.{LfGoal}
use Rattle.lf_definitions.specs.GoalLists.{ids, above, AreDistinct}
use Rattle.applications.proofs.Pairs.{AllPairs-append}
use Rattle.goal_lists.proofs.Leaving.{All-parts}
use Rattle.application_laws.proofs.Members.{IsIn, in_cases, in_below}

max_at_most : (a b k : ℕ) → a ≤ k → b ≤ k → max a b ≤ k
max_at_most a b k low high = grind (arith, low, high)

-- the number above all of a list
pub above_at_most : (k : ℕ) (goals : List LfGoal) → All (λ h. h.id < k) goals → above (ids goals) ≤ k
above_at_most k [] all = omega arith
above_at_most k (h ∷ rest) all =
    let first = All-head (λ x. x.id < k) h rest all in
    max_at_most (suc h.id) (above (ids rest)) k (omega (arith, first)) (above_at_most k rest (All-tail (λ x. x.id < k) h rest all))

pub all_below_above : (goals : List LfGoal) → All (λ h. h.id < above (ids goals)) goals
all_below_above [] = All-nil (λ h. h.id < above (ids []))
all_below_above (g ∷ rest) =
    let left = le-max_left (suc g.id) (above (ids rest)) in
    let right = le-max_right (suc g.id) (above (ids rest)) in
    All-cons (λ h. h.id < max (suc g.id) (above (ids rest))) g rest (omega (arith, left))
    (All-weaker (λ h. h.id < above (ids rest)) (λ h. h.id < max (suc g.id) (above (ids rest))) (λ h less. omega (arith, less, right)) rest (all_below_above rest))

-- What is true of each goal's number is true of each number.
pub number_in : (P : ℕ → Type 0) (goals : List LfGoal) → All (λ h. P h.id) goals → (m : ℕ) → IsIn m (ids goals) → P m
number_in P [] all m is = absurd cc
number_in P (h ∷ rest) all m is = step (in_cases m h.id (ids rest) is) (number_in P rest (All-tail (λ x. P x.id) h rest all) m)
  where
    step : (m ≡ h.id) ⊎ IsIn m (ids rest) → (IsIn m (ids rest) → P m) → P m
    step (inl same) later = subst P (sym same) (All-head (λ x. P x.id) h rest all)
    step (inr there) later = later there

-- Where a list has new goals, and no number past theirs, the number above it is that above the new goals.
pub next_number : (n : ℕ) (new after : List LfGoal) → new ≢ [] → All (λ h. n ≤ h.id) new → All (λ h. IsIn h.id (ids after)) new → All (λ h. h.id < max n (above (ids new))) after →
    above (ids after) ≡ max n (above (ids new))
next_number n [] after some high among below = absurd (some refl)
next_number n (g ∷ rest) after some high among below =
    let all_new : above (ids (g ∷ rest)) ≤ above (ids after) =
    above_at_most (above (ids after)) (g ∷ rest)
    (All-weaker (λ h. IsIn h.id (ids after)) (λ h. h.id < above (ids after)) (λ h is. in_below h.id (above (ids after)) after (all_below_above after) is) (g ∷ rest) among) in
    let first = All-head (λ h. n ≤ h.id) g rest high in
    let greater = le-max_left (suc g.id) (above (ids rest)) in
    le_antisymm (above_at_most (max n (above (ids (g ∷ rest)))) after below)
    (max_at_most n (above (ids (g ∷ rest))) (above (ids after)) (omega (arith, first, greater, all_new)) all_new)

-- Two lists, the parts of one between those of the other.
module _ {X : Type 0} (P : X → Type 0) (front ps qs back : List X) where
  pub All-grouped : All P (front ++ back) → All P (ps ++ qs) → All P ((front ++ ps) ++ (qs ++ back))
  All-grouped outer inner =
      let out = All-parts P front back outer in
      let within = All-parts P ps qs inner in
      All-append P (front ++ ps) (qs ++ back) (All-append P front ps out.0 within.0) (All-append P qs back within.1 out.1)

  pub All-regrouped : All P ((front ++ ps) ++ (qs ++ back)) → All P (front ++ back) × All P (ps ++ qs)
  All-regrouped all =
      let halves = All-parts P (front ++ ps) (qs ++ back) all in
      let first = All-parts P front ps halves.0 in
      let last = All-parts P qs back halves.1 in
      (All-append P front back first.0 last.1, All-append P ps qs first.1 last.0)

AllPairs-parts : {X : Type 0} (R : X → X → Type 0) (xs ys : List X) → AllPairs R (xs ++ ys) → AllPairs R xs × AllPairs R ys × All (λ x. All (R x) ys) xs
AllPairs-parts R [] ys pairs = ((λ i j d less within. absurd (omega (arith, within))), pairs, All-nil (λ x. All (R x) ys))
AllPairs-parts R (x ∷ xs) ys pairs =
    let later = AllPairs-parts R xs ys (AllPairs-tail R x (xs ++ ys) pairs) in
    let first = All-parts (R x) xs ys (AllPairs-head R x (xs ++ ys) pairs) in
    (AllPairs-cons R x xs first.0 later.0, later.1, All-cons (λ z. All (R z) ys) x xs first.1 later.2)

-- Old and new numbers differ.
abbrev AreApart : LfGoal → LfGoal → Type 0
AreApart x y = x.id ≢ y.id

module _ (n : ℕ) where
  old_from_new : (old new : List LfGoal) → All (λ h. h.id < n) old → All (λ h. n ≤ h.id) new → All (λ x. All (AreApart x) new) old
  old_from_new old new low high =
      All-weaker (λ h. h.id < n) (λ x. All (AreApart x) new) (λ x less. All-weaker (λ h. n ≤ h.id) (AreApart x) (λ y most. apart x y less most) new high) old low
    where
      apart : (x y : LfGoal) → x.id < n → n ≤ y.id → AreApart x y
      apart x y less most same = absurd (omega (arith, less, most, same))

  new_from_old : (new old : List LfGoal) → All (λ h. n ≤ h.id) new → All (λ h. h.id < n) old → All (λ x. All (AreApart x) old) new
  new_from_old new old high low =
      All-weaker (λ h. n ≤ h.id) (λ x. All (AreApart x) old) (λ x most. All-weaker (λ h. h.id < n) (AreApart x) (λ y less. apart x y most less) old low) new high
    where
      apart : (x y : LfGoal) → n ≤ x.id → y.id < n → AreApart x y
      apart x y most less same = absurd (omega (arith, less, most, same))

  -- New goals stand around the old ones.
  pub around : (front ps qs back : List LfGoal) → AreDistinct (front ++ back) → AreDistinct (ps ++ qs) → All (λ h. n ≤ h.id) (front ++ back) → All (λ h. h.id < n) (ps ++ qs) → AreDistinct ((front ++ ps) ++ (qs ++ back))
  around front ps qs back outer inner high low =
      let out = AllPairs-parts AreApart front back outer in
      let within = AllPairs-parts AreApart ps qs inner in
      let highs = All-parts (λ h. n ≤ h.id) front back high in
      let lows = All-parts (λ h. h.id < n) ps qs low in
      AllPairs-append AreApart (front ++ ps) (qs ++ back)
      (AllPairs-append AreApart front ps out.0 within.0 (new_from_old front ps highs.0 lows.0))
      (AllPairs-append AreApart qs back within.1 out.1 (old_from_new qs back lows.1 highs.1))
      (All-append (λ x. All (AreApart x) (qs ++ back)) front ps
      (both front qs back (new_from_old front qs highs.0 lows.1) out.2)
      (both ps qs back within.2 (old_from_new ps back lows.0 highs.1)))
    where
      both : (xs ys zs : List LfGoal) → All (λ x. All (AreApart x) ys) xs → All (λ x. All (AreApart x) zs) xs → All (λ x. All (AreApart x) (ys ++ zs)) xs
      both xs ys zs first last k d less = All-append (AreApart (get_or xs k d)) ys zs (first k d less) (last k d less)
