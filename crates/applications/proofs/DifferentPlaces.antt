-- The hypotheses of a context have different places, and tuples of them differ in these.
use Rattle.std.proofs.Common.{◌≢◌, ℕ, zero, suc, ◌≤◌, Bool, true, false, List, [], ◌∷◌, map, All, AllPairs, ap, arith}
use Rattle.std.specs.Prelude.{if◌then◌else◌}
use Rattle.std.proofs.lemmas.List.Elements.{All-nil, All-cons, All-head, All-tail, All-weaker}
use Rattle.std.proofs.lemmas.List.Kept.{AllPairs-cons}
use Rattle.lf_definitions.specs.Syntax.{Context}
use Rattle.head_laws.proofs.Numbers.{AllPairs-head, AllPairs-tail}
use Rattle.applications.specs.Candidates.{is_atomic, LfHypothesis, hypotheses_from, are_atomic, have_binders, tuples}
use Rattle.applications.proofs.Pairs.{one_pair, no_pair, AllPairs-map, AllPairs-blocks}

abbrev pub HasAnotherPlace : LfHypothesis → LfHypothesis → Type 0
HasAnotherPlace h k = h.place ≢ k.place

places_from : (ctx : Context) (place : ℕ) → All (λ h. place ≤ h.place) (hypotheses_from place ctx)
places_from [] place = All-nil (λ h. place ≤ h.place)
places_from (a ∷ rest) place =
    All-cons (λ h. place ≤ h.place) _ (hypotheses_from (suc place) rest) (omega arith)
    (All-weaker (λ h. suc place ≤ h.place) (λ h. place ≤ h.place) (λ h le. omega (arith, le)) (hypotheses_from (suc place) rest) (places_from rest (suc place)))

pub places_differ : (ctx : Context) (place : ℕ) → AllPairs HasAnotherPlace (hypotheses_from place ctx)
places_differ [] place = no_pair HasAnotherPlace
places_differ (a ∷ rest) place =
    AllPairs-cons HasAnotherPlace _ (hypotheses_from (suc place) rest)
    (All-weaker (λ h. suc place ≤ h.place) (λ h. place ≢ h.place) (λ h le e. omega (arith, le, e)) (hypotheses_from (suc place) rest) (places_from rest (suc place)))
    (places_differ rest (suc place))

All-are_atomic : (P : LfHypothesis → Type 0) (hs : List LfHypothesis) → All P hs → All P (are_atomic hs)
All-are_atomic P [] all = all
All-are_atomic P (h ∷ rest) all = step (is_atomic h.type) (All-are_atomic P rest (All-tail P h rest all))
  where
    step : (b : Bool) → All P (are_atomic rest) → All P (if b then h ∷ are_atomic rest else are_atomic rest)
    step true later = All-cons P h (are_atomic rest) (All-head P h rest all) later
    step false later = later

All-have_binders : (P : LfHypothesis → Type 0) (hs : List LfHypothesis) → All P hs → All P (have_binders hs)
All-have_binders P [] all = all
All-have_binders P (h ∷ rest) all = step (is_atomic h.type) (All-have_binders P rest (All-tail P h rest all))
  where
    step : (b : Bool) → All P (have_binders rest) → All P (if b then have_binders rest else h ∷ have_binders rest)
    step true later = later
    step false later = All-cons P h (have_binders rest) (All-head P h rest all) later

pub AllPairs-are_atomic : (R : LfHypothesis → LfHypothesis → Type 0) (hs : List LfHypothesis) → AllPairs R hs → AllPairs R (are_atomic hs)
AllPairs-are_atomic R [] pairs = pairs
AllPairs-are_atomic R (h ∷ rest) pairs = step (is_atomic h.type) (AllPairs-are_atomic R rest (AllPairs-tail R h rest pairs))
  where
    step : (b : Bool) → AllPairs R (are_atomic rest) → AllPairs R (if b then h ∷ are_atomic rest else are_atomic rest)
    step true later = AllPairs-cons R h (are_atomic rest) (All-are_atomic (R h) rest (AllPairs-head R h rest pairs)) later
    step false later = later

pub AllPairs-have_binders : (R : LfHypothesis → LfHypothesis → Type 0) (hs : List LfHypothesis) → AllPairs R hs → AllPairs R (have_binders hs)
AllPairs-have_binders R [] pairs = pairs
AllPairs-have_binders R (h ∷ rest) pairs = step (is_atomic h.type) (AllPairs-have_binders R rest (AllPairs-tail R h rest pairs))
  where
    step : (b : Bool) → AllPairs R (have_binders rest) → AllPairs R (if b then have_binders rest else h ∷ have_binders rest)
    step true later = later
    step false later = AllPairs-cons R h (have_binders rest) (All-have_binders (R h) rest (AllPairs-head R h rest pairs)) later

-- So tuples differ in the places of their hypotheses.
abbrev pub tuple_places : List LfHypothesis → List ℕ
tuple_places hs = map (λ h. h.place) hs

abbrev pub HasOtherPlaces : List LfHypothesis → List LfHypothesis → Type 0
HasOtherPlaces hs ks = tuple_places hs ≢ tuple_places ks

abbrev pub first_number : List ℕ → ℕ
first_number [] = zero
first_number (n ∷ rest) = n

later_numbers : List ℕ → List ℕ
later_numbers [] = []
later_numbers (n ∷ rest) = rest

pub tuples_differ : (count : ℕ) (hs : List LfHypothesis) → AllPairs HasAnotherPlace hs → AllPairs HasOtherPlaces (tuples count hs)
unfolding later_numbers
tuples_differ zero hs pairs = one_pair HasOtherPlaces []
tuples_differ (suc count) hs pairs =
    AllPairs-blocks HasAnotherPlace HasOtherPlaces (λ h rest. h ∷ rest) (tuples count hs) (λ h k differ us vs e. differ (ap first_number e))
    (λ h. AllPairs-map HasOtherPlaces HasOtherPlaces (λ rest. h ∷ rest) (λ us vs differ e. differ (ap later_numbers e)) (tuples count hs) (tuples_differ count hs pairs)) hs pairs
