-- What is left to be offered, at each place of a list.
use Rattle.std.proofs.Common.{◌≡◌, ℕ, zero, suc, ◌+◌, ◌<◌, ◌≤◌, All, Bool, true, false, List, [], ◌∷◌, ◌++◌, length, get_or, drop, map, refl, sym, ap, ◌∙◌, subst, arith, append-nil}
use mathlib.Core.Bool.{beq}
use Rattle.std.specs.Prelude.{not, if◌then◌else◌}
use Rattle.std.proofs.lemmas.List.{at_drop_more, at_drop_all}
use Rattle.std.proofs.lemmas.List.Elements.{All-head, All-tail}
use Rattle.lf_terms.specs.Targets.{goal_of}
use Rattle.applications.specs.Methods.{LfCandidate}
use Rattle.applications.specs.Candidates.{LfHypothesis, is_atomic, are_atomic, have_binders, each, constructed}
use Rattle.build_shared.specs.declared.hypotheses.Hypothesis.{Hypothesis}
use Rattle.build_shared.specs.declared.rule_use.RuleUse.{RuleUse}
use Rattle.build_shared.specs.Seen.{seen_hypothesis}
use Rattle.build_apply.specs.Offers.{of_one_kind}

-- the constants of a list from a place on
abbrev pub constructed_from : RuleUse → ℕ → List ℕ → List LfCandidate
constructed_from u place constants = constructed u.rule u.sig.now place constants (goal_of u.goal.now) u.first

-- A hypothesis offers what it does if it is of the kind, and nothing else.
module _ (f : LfHypothesis → List LfCandidate) where
  abbrev pub offered : Bool → List LfHypothesis → List LfCandidate
  offered kind hs = each (of_one_kind kind hs) f

  pub of_this_kind : (kind : Bool) (h : LfHypothesis) → not (beq (is_atomic h.type) kind) ≡ false → offered kind (h ∷ []) ≡ f h
  of_this_kind true h same = step (is_atomic h.type) same
    where
      step : (v : Bool) → not (beq v true) ≡ false → each (if v then h ∷ [] else []) f ≡ f h
      step true is = append-nil (f h)
      step false is = absurd cc
  of_this_kind false h same = step (is_atomic h.type) same
    where
      step : (v : Bool) → not (beq v false) ≡ false → each (if v then [] else h ∷ []) f ≡ f h
      step true is = absurd cc
      step false is = append-nil (f h)

  pub of_other_kind : (kind : Bool) (h : LfHypothesis) → not (beq (is_atomic h.type) kind) ≡ true → offered kind (h ∷ []) ≡ []
  of_other_kind true h differ = step (is_atomic h.type) differ
    where
      step : (v : Bool) → not (beq v true) ≡ true → each (if v then h ∷ [] else []) f ≡ []
      step true is = absurd cc
      step false is = refl
  of_other_kind false h differ = step (is_atomic h.type) differ
    where
      step : (v : Bool) → not (beq v false) ≡ true → each (if v then [] else h ∷ []) f ≡ []
      step true is = refl
      step false is = absurd cc

  first_apart : (kind : Bool) (h : LfHypothesis) (hs : List LfHypothesis) → offered kind (h ∷ hs) ≡ offered kind (h ∷ []) ++ offered kind hs
  first_apart true h hs = step (is_atomic h.type)
    where
      step : (v : Bool) → each (if v then h ∷ are_atomic hs else are_atomic hs) f ≡ each (if v then h ∷ [] else []) f ++ each (are_atomic hs) f
      step true = ap (λ cs. cs ++ each (are_atomic hs) f) (sym (append-nil (f h)))
      step false = refl
  first_apart false h hs = step (is_atomic h.type)
    where
      step : (v : Bool) → each (if v then have_binders hs else h ∷ have_binders hs) f ≡ each (if v then [] else h ∷ []) f ++ each (have_binders hs) f
      step true = refl
      step false = ap (λ cs. cs ++ each (have_binders hs) f) (sym (append-nil (f h)))

  -- what the hypotheses from a place on offer
  abbrev pub offered_from : Bool → ℕ → List Hypothesis → List LfCandidate
  offered_from kind i items = offered kind (map seen_hypothesis (drop i items))

  pub offered_more : (kind : Bool) (i : ℕ) (items : List Hypothesis) (h : Hypothesis) → i < length items → h ≡ get_or items i h →
      offered_from kind i items ≡ offered kind (seen_hypothesis h ∷ []) ++ offered_from kind (i + 1) items
  offered_more kind i items h less is =
      at_drop_more (λ hs. offered kind (map seen_hypothesis hs)) items i h less
      ∙ ap (λ (x : Hypothesis). offered kind (seen_hypothesis x ∷ map seen_hypothesis (drop (i + 1) items))) (sym is)
      ∙ first_apart kind (seen_hypothesis h) (map seen_hypothesis (drop (i + 1) items))

  pub offered_last : (kind : Bool) (i : ℕ) (items : List Hypothesis) → length items ≤ i → offered_from kind i items ≡ []
  offered_last kind i items past = at_drop_all (λ hs. offered kind (map seen_hypothesis hs)) items i past ∙ none kind
    where
      none : (k : Bool) → offered k [] ≡ []
      none true = refl
      none false = refl

-- What holds of all hypotheses holds of one that is read.
pub holds_of_read : (P : LfHypothesis → Type 0) (items : List Hypothesis) (i : ℕ) (h : Hypothesis) → i < length items → h ≡ get_or items i h → All P (map seen_hypothesis items) → P (seen_hypothesis h)
holds_of_read P [] i h less is all = absurd (omega (arith, less))
holds_of_read P (x ∷ items) zero h less is all = subst (λ y. P (seen_hypothesis y)) (sym is) (All-head P (seen_hypothesis x) (map seen_hypothesis items) all)
holds_of_read P (x ∷ items) (suc i) h less is all = holds_of_read P items i h (omega (arith, less)) is (All-tail P (seen_hypothesis x) (map seen_hypothesis items) all)
