-- What comes of the hypotheses, one after another.
use Rattle.std.proofs.Common.{◌≡◌, ℕ, zero, suc, ◌+◌, ◌<◌, ◌≤◌, Bool, true, false, List, [], ◌∷◌, ◌++◌, All, length, get_or, take, map, refl, sym, ap, ◌∙◌, subst, arith, append_assoc, append-nil}
use Rattle.std.specs.Prelude.{if◌then◌else◌}
use Rattle.std.proofs.lemmas.List.{map-append, take_all}
use Rattle.std.proofs.lemmas.List.Elements.{All-head, All-tail}
use Rattle.lf_terms.proofs.ShapeLists.{take_read}
use Rattle.applications.specs.Methods.{LfCandidate}
use Rattle.applications.specs.Candidates.{LfHypothesis, hypotheses_of, is_atomic, are_atomic, each}
use Rattle.build_shared.specs.declared.app.App.{App}
use Rattle.build_shared.specs.declared.hypotheses.Hypothesis.{Hypothesis}
use Rattle.build_shared.specs.RuleUses.{AddsWhatCounts}
use Rattle.build_shared.specs.Seen.{seen_hypothesis}
use Rattle.build_shared.proofs.AddedCandidates.{adds_nothing, adds_both}
use Rattle.build_cases.specs.declared.split.Split.{Split}
use Rattle.build_cases.specs.Splits.{IsSplitUse, split_offers, split_offers_each, MaySplit}
use Rattle.build_cases.proofs.Offered.{all_may_split}

each-append : {A B : Type 0} (xs ys : List A) (f : A → List B) → each (xs ++ ys) f ≡ each xs f ++ each ys f
each-append [] ys f = refl
each-append (x ∷ xs) ys f = ap (λ l. f x ++ l) (each-append xs ys f) ∙ sym (append_assoc (f x) (each xs f) (each ys f))

are_atomic-append : (xs ys : List LfHypothesis) → are_atomic (xs ++ ys) ≡ are_atomic xs ++ are_atomic ys
are_atomic-append [] ys = refl
are_atomic-append (x ∷ xs) ys = step (is_atomic x.type) (are_atomic-append xs ys)
  where
    step : (b : Bool) → are_atomic (xs ++ ys) ≡ are_atomic xs ++ are_atomic ys → (if b then x ∷ are_atomic (xs ++ ys) else are_atomic (xs ++ ys)) ≡ (if b then x ∷ are_atomic xs else are_atomic xs) ++ are_atomic ys
    step true e = ap (λ l. x ∷ l) e
    step false e = e

-- what is true of all hypotheses is true of the one that is read
read_holds : (P : LfHypothesis → Type 0) (xs : List Hypothesis) (k : ℕ) (x : Hypothesis) → All P (map seen_hypothesis xs) → k < length xs → x ≡ get_or xs k x → P (seen_hypothesis x)
read_holds P [] k x all within is = absurd (omega (arith, within))
read_holds P (y ∷ xs) zero x all within is = subst (λ z. P (seen_hypothesis z)) (sym is) (All-head P (seen_hypothesis y) (map seen_hypothesis xs) all)
read_holds P (y ∷ xs) (suc k) x all within is = read_holds P xs k x (All-tail P (seen_hypothesis y) (map seen_hypothesis xs) all) (omega (arith, within)) is

module _ (s : Split) where
  pub passed_over : (h : LfHypothesis) (found : List App) → is_atomic h.type ≡ false → AddsWhatCounts s.usage.now (split_offers_each s (h ∷ [])) found found
  passed_over h found none = subst (λ cs. AddsWhatCounts s.usage.now cs found found) (sym (ap (λ b. each (if b then h ∷ [] else []) (split_offers s)) none)) (adds_nothing s.usage.now found)

  pub tried : (h : LfHypothesis) (c : LfCandidate) (found more : List App) → is_atomic h.type ≡ true → split_offers s h ≡ c ∷ [] → AddsWhatCounts s.usage.now (c ∷ []) found more → AddsWhatCounts s.usage.now (split_offers_each s (h ∷ [])) found more
  tried h c found more atomic is adds =
      subst (λ cs. AddsWhatCounts s.usage.now cs found more) (sym (ap (λ b. each (if b then h ∷ [] else []) (split_offers s)) atomic ∙ append-nil (split_offers s h) ∙ is)) adds

  module _ (hyps : List Hypothesis) (i : ℕ) where
    pub read_may_split : (x : Hypothesis) → IsSplitUse s → map seen_hypothesis hyps ≡ hypotheses_of s.usage.now.goal.now.ctx → i < length hyps → x ≡ get_or hyps i x → is_atomic (seen_hypothesis x).type ≡ true → MaySplit s (seen_hypothesis x)
    read_may_split x is are within x_is =
        let May : LfHypothesis → Type 0 = λ h. is_atomic h.type ≡ true → MaySplit s h in
        read_holds May hyps i x (subst (All May) (sym are) (all_may_split s is)) within x_is

    pub one_more : (x : Hypothesis) (found more : List App) → i < length hyps → x ≡ get_or hyps i x → AddsWhatCounts s.usage.now (split_offers_each s (map seen_hypothesis (take i hyps))) [] found →
        AddsWhatCounts s.usage.now (split_offers_each s (seen_hypothesis x ∷ [])) found more → AddsWhatCounts s.usage.now (split_offers_each s (map seen_hypothesis (take (i + 1) hyps))) [] more
    one_more x found more within x_is before added =
        let those = map seen_hypothesis (take i hyps) in
        let this = seen_hypothesis x ∷ [] in
        let read : map seen_hypothesis (take (i + 1) hyps) ≡ those ++ this = ap (map seen_hypothesis) (take_read hyps i x within x_is) ∙ map-append seen_hypothesis (take i hyps) (x ∷ []) in
        let parts : split_offers_each s (map seen_hypothesis (take (i + 1) hyps)) ≡ split_offers_each s those ++ split_offers_each s this =
        ap (split_offers_each s) read ∙ ap (λ hs. each hs (split_offers s)) (are_atomic-append those this) ∙ each-append (are_atomic those) (are_atomic this) (split_offers s) in
        subst (λ cs. AddsWhatCounts s.usage.now cs [] more) (sym parts) (adds_both s.usage.now (split_offers_each s those) (split_offers_each s this) [] found more before added)

    pub all_tried : (found : List App) → length hyps ≤ i → map seen_hypothesis hyps ≡ hypotheses_of s.usage.now.goal.now.ctx → AddsWhatCounts s.usage.now (split_offers_each s (map seen_hypothesis (take i hyps))) [] found →
        AddsWhatCounts s.usage.now (split_offers_each s (hypotheses_of s.usage.now.goal.now.ctx)) [] found
    all_tried found past are before = subst (λ hs. AddsWhatCounts s.usage.now (split_offers_each s hs) [] found) (ap (map seen_hypothesis) (take_all i hyps past) ∙ are) before
