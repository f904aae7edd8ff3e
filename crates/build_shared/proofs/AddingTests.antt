-- Whether a new hypothesis may be added, one kept hypothesis after another.
use Rattle.std.proofs.Common.{◌≡◌, ℕ, zero, suc, ◌+◌, ◌<◌, Bool, true, false, List, [], ◌∷◌, ◌++◌, length, get_or, take, map, refl, sym, ap, ap₂, ◌∙◌, subst, arith}
use Rattle.std.specs.Prelude.{not, ◌&&◌, if◌then◌else◌}
use Rattle.std.proofs.lemmas.List.{map-append}
use Rattle.lf_definitions.specs.Syntax.{LfType, LfAtom, atomic, Context}
use Rattle.lf_definitions.specs.Typing.{LfGoal}
use Rattle.lf_functions.specs.Checking.{equal_types}
use Rattle.lf_functions.proofs.CheckingLaws.{equality_is_decided}
use Rattle.lf_terms.proofs.ShapeLists.{take_read}
use Rattle.opening_laws.specs.Openings.{is_kept}
use Rattle.applications.specs.Candidates.{LfHypothesis, hypotheses_of, places_of, without}
use Rattle.applications.specs.Applications.{mentions_none, kept_types_are, may_be_added}
use Rattle.build_shared.specs.declared.hypotheses.Hypothesis.{Hypothesis}
use Rattle.build_shared.specs.Added.{fits_beside, one_test}
use Rattle.build_shared.specs.Seen.{seen_hypothesis}

module _ (test : LfType → Bool) (kept : List ℕ) where
  types-append : (xs ys : List LfHypothesis) → kept_types_are test kept (xs ++ ys) ≡ kept_types_are test kept xs && kept_types_are test kept ys
  types-append [] ys = refl
  types-append (h ∷ rest) ys = step (one_test test kept h) (types-append rest ys)
    where
      step : (b : Bool) → kept_types_are test kept (rest ++ ys) ≡ kept_types_are test kept rest && kept_types_are test kept ys →
          b && kept_types_are test kept (rest ++ ys) ≡ (b && kept_types_are test kept rest) && kept_types_are test kept ys
      step true later = later
      step false later = refl

  pub types_more : (xs : List Hypothesis) (i : ℕ) (x : Hypothesis) → i < length xs → x ≡ get_or xs i x → kept_types_are test kept (map seen_hypothesis (take i xs)) ≡ true → one_test test kept (seen_hypothesis x) ≡ true →
      kept_types_are test kept (map seen_hypothesis (take (i + 1) xs)) ≡ true
  types_more xs i x within is so_far here =
      ap (λ l. kept_types_are test kept (map seen_hypothesis l)) (take_read xs i x within is) ∙ ap (kept_types_are test kept) (map-append seen_hypothesis (take i xs) (x ∷ []))
      ∙ types-append (map seen_hypothesis (take i xs)) (seen_hypothesis x ∷ []) ∙ ap₂ (λ a b. a && (b && true)) so_far here

  pub types_fail : (xs : List Hypothesis) (i : ℕ) (x : Hypothesis) → i < length xs → x ≡ get_or xs i x → one_test test kept (seen_hypothesis x) ≡ false → false ≡ kept_types_are test kept (map seen_hypothesis xs)
  types_fail [] i x within is fails = absurd (omega (arith, within))
  types_fail (y ∷ xs) zero x within is fails = sym (ap (λ b. b && kept_types_are test kept (map seen_hypothesis xs)) (subst (λ (z : Hypothesis). one_test test kept (seen_hypothesis z) ≡ false) is fails))
  types_fail (y ∷ xs) (suc i) x within is fails = step (one_test test kept (seen_hypothesis y)) (types_fail xs i x (omega (arith, within)) is fails)
    where
      step : (b : Bool) → false ≡ kept_types_are test kept (map seen_hypothesis xs) → false ≡ b && kept_types_are test kept (map seen_hypothesis xs)
      step true later = later
      step false later = refl

-- A hypothesis that is not kept fits; any other one where it is another type and mentions nothing that is dropped.
module _ (ctx : Context) (kept dropped : List ℕ) (fact : LfType) (h : LfHypothesis) where
  pub passed : is_kept kept h.place ≡ false → true ≡ one_test (fits_beside ctx dropped fact) kept h
  passed gone = sym (ap (λ b. if b then fits_beside ctx dropped fact h.type else true) gone)

  pub same_fails : is_kept kept h.place ≡ true → h.type ≡ fact → false ≡ one_test (fits_beside ctx dropped fact) kept h
  same_fails there same =
      sym (ap (λ b. if b then fits_beside ctx dropped fact h.type else true) there ∙ ap (λ b. not b && mentions_none ctx dropped h.type) ((equality_is_decided.2 h.type fact).1 same))

  pub other_fits : is_kept kept h.place ≡ true → (h.type ≡ fact → ⊥) → mentions_none ctx dropped h.type ≡ one_test (fits_beside ctx dropped fact) kept h
  other_fits there differ =
      ap (λ b. not b && mentions_none ctx dropped h.type) (sym (refuted (equal_types h.type fact) (λ e. differ ((equality_is_decided.2 h.type fact).0 e))))
      ∙ sym (ap (λ b. if b then fits_beside ctx dropped fact h.type else true) there)
    where
      refuted : (b : Bool) → (b ≡ true → ⊥) → b ≡ false
      refuted true none = absurd (none refl)
      refuted false none = refl

-- The three tests, one after another.
pub three_parts : (g : LfGoal) (kept : List ℕ) (fact : LfAtom) (a b c : Bool) → a ≡ kept_types_are (fits_beside g.context (without kept (places_of g.context)) (atomic fact)) kept (hypotheses_of g.context) →
    b ≡ mentions_none g.context (without kept (places_of g.context)) (atomic fact) → c ≡ mentions_none g.context (without kept (places_of g.context)) (atomic g.target) → a && (b && c) ≡ may_be_added g kept fact
three_parts g kept fact a b c first second third = ap₂ (λ x y. x && y) first (ap₂ (λ x y. x && y) second third)
