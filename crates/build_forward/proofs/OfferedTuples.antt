-- What is offered for the tuples, one after another.
use Rattle.std.proofs.Common.{◌≡◌, ℕ, ◌+◌, ◌-◌, ◌<◌, List, [], ◌∷◌, ◌++◌, All, length, get_or, drop, map, refl, sym, ap, ap₂, ◌∙◌, subst, length-append, arith}
use Rattle.std.proofs.lemmas.List.{append_assoc, map-append, at_drop_more, length-map}
use Rattle.std.proofs.lemmas.List.Elements.{All-push}
use Rattle.applications.specs.Methods.{LfCandidate}
use Rattle.applications.specs.Candidates.{LfHypothesis, each, tuples}
use Rattle.build_shared.specs.declared.app.App.{App}
use Rattle.build_shared.specs.declared.hypotheses.Hypothesis.{Hypothesis}
use Rattle.build_shared.specs.Seen.{seen_hypothesis}
use Rattle.build_shared.specs.RuleUses.{AddsWhatCounts}
use Rattle.build_shared.proofs.AddedCandidates.{IsLeft, less_is_left}
use Rattle.build_forward.specs.declared.onward.Onward.{Onward}
use Rattle.build_forward.specs.Onwards.{IsOnward, IsAtomIn, tuple_offer, tuple_offers}
use Rattle.build_forward.proofs.PremisePlaces.{read_holds}

module _ (o : Onward) where
  -- for the tuples that go on with one of some hypotheses and have so many more
  abbrev pub offered_from : ℕ → List LfHypothesis → List LfHypothesis → List LfCandidate
  offered_from count chosen hs = map (λ rest. tuple_offer o (chosen ++ rest)) (each hs (λ h. map (λ rest. h ∷ rest) (tuples count (map seen_hypothesis o.hyps.now))))

  same_offers : (chosen : List LfHypothesis) (h : LfHypothesis) (found : List (List LfHypothesis)) →
      map (λ rest. tuple_offer o (chosen ++ rest)) (map (λ rest. h ∷ rest) found) ≡ map (λ rest. tuple_offer o (chosen ++ h ∷ [] ++ rest)) found
  same_offers chosen h [] = refl
  same_offers chosen h (rest ∷ found) = ap₂ (λ hs cs. tuple_offer o hs ∷ cs) (sym (append_assoc chosen (h ∷ []) rest)) (same_offers chosen h found)

  offered_more : (count : ℕ) (chosen : List LfHypothesis) (h : LfHypothesis) (hs : List LfHypothesis) →
      offered_from count chosen (h ∷ hs) ≡ tuple_offers o count (chosen ++ h ∷ []) ++ offered_from count chosen hs
  offered_more count chosen h hs =
      let found = tuples count (map seen_hypothesis o.hyps.now) in
      map-append (λ rest. tuple_offer o (chosen ++ rest)) (map (λ rest. h ∷ rest) found) (each hs (λ k. map (λ rest. k ∷ rest) found))
      ∙ ap (λ cs. cs ++ offered_from count chosen hs) (same_offers chosen h found)

  module _ (left : ℕ) (chosen : List LfHypothesis) (found : List App) where
    -- what is left of the loop over the hypotheses
    abbrev pub IsLeftFrom : ℕ → List App → Type 0
    IsLeftFrom i now = IsLeft o.usage.now (offered_from (left - 1) chosen (map seen_hypothesis (drop i o.hyps.now))) (tuple_offers o left chosen) found now

    pub less_left : (i : ℕ) (h : Hypothesis) (now next : List App) → i < length o.hyps.now → h ≡ get_or o.hyps.now i h → IsLeftFrom i now →
        AddsWhatCounts o.usage.now (tuple_offers o (left - 1) (chosen ++ seen_hypothesis h ∷ [])) now next → IsLeftFrom (i + 1) next
    less_left i h now next within is before added =
        less_is_left o.usage.now (tuple_offers o (left - 1) (chosen ++ seen_hypothesis h ∷ [])) (offered_from (left - 1) chosen (map seen_hypothesis (drop (i + 1) o.hyps.now)))
        (offered_from (left - 1) chosen (map seen_hypothesis (drop i o.hyps.now))) (tuple_offers o left chosen) found now next
        (at_drop_more (λ hs. offered_from (left - 1) chosen (map seen_hypothesis hs)) o.hyps.now i h within
        ∙ ap (λ x. offered_from (left - 1) chosen (seen_hypothesis x ∷ map seen_hypothesis (drop (i + 1) o.hyps.now))) (sym is)
        ∙ offered_more (left - 1) chosen (seen_hypothesis h) (map seen_hypothesis (drop (i + 1) o.hyps.now)))
        before added

-- Hypotheses without binders, and one more.
pub atoms_more : (o : Onward) → IsOnward o → (chosen longer : List LfHypothesis) (i : ℕ) (h : Hypothesis) → All (IsAtomIn o.usage.now) chosen → i < length o.hyps.now → h ≡ get_or o.hyps.now i h →
    longer ≡ chosen ++ seen_hypothesis h ∷ [] → All (IsAtomIn o.usage.now) longer
atoms_more o is chosen longer i h all within h_is longer_is =
    subst (All (IsAtomIn o.usage.now)) (sym longer_is)
    (All-push (IsAtomIn o.usage.now) chosen (seen_hypothesis h) all (read_holds (IsAtomIn o.usage.now) o.hyps.now i h is.atoms within h_is))

pub one_longer : (chosen longer : List Hypothesis) (h : Hypothesis) → map seen_hypothesis longer ≡ map seen_hypothesis chosen ++ seen_hypothesis h ∷ [] → length longer ≡ length chosen + 1
one_longer chosen longer h are =
    let same = ap length are in
    let sum = length-append (map seen_hypothesis chosen) (seen_hypothesis h ∷ []) in
    omega (arith, same, sum, length-map longer seen_hypothesis, length-map chosen seen_hypothesis)
