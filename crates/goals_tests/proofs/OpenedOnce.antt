-- The example may be opened.
use Rattle.std.proofs.Common.{◌≡◌, ◌≢◌, ℕ, zero, suc, ◌+◌, ◌<◌, true, List, [], ◌∷◌, length, Option, Some, None, All, AllPairs, slice_index, refl, sym, subst, arith}
use Rattle.std.proofs.lemmas.List.Elements.{All-nil, All-cons}
use Rattle.std.proofs.lemmas.List.Kept.{AllPairs-from_increasing}
use Rattle.lf_definitions.proofs.Options.{Some-Some}
use Rattle.lf_definitions.specs.Syntax.{LfHead, bound, SimpleType, base, arrow, LfType, pi, family, Context, binders_of}
use Rattle.lf_definitions.specs.Shaping.{shaped_at, ShapedSpine, shaped_none, shaped_arg, ShapedType, shaped_pi, shaped_family}
use Rattle.lf_definitions.specs.ShapedGoals.{ShapedTypeIn, ShapedContextIn, shaped_empty, shaped_entry}
use Rattle.lf_definitions.specs.Typing.{type_at}
use Rattle.lf_definitions.specs.Signatures.{LfSignature, family_entry}
use Rattle.opening_laws.specs.Openings.{is_kept, fixed_to}
use Rattle.opening_laws.specs.Conditions.{is_dropped, is_barred, MentionsNone, MayBeOpened, FixesArgument}
use Rattle.meta_openings.specs.Results.{IsOpenable}
use Rattle.goals_tests.specs.OpenedExample.{first_family, of_newest, variable_args, example_context, example_type}
use Rattle.goals_tests.proofs.Barred.{mentions_none}

-- families of no, one, two and two arguments
abbrev pub example_signature : LfSignature
example_signature =
    family_entry [] [] ∷ family_entry [] (first_family ∷ []) ∷ family_entry [] (first_family ∷ of_newest ∷ []) ∷ family_entry [] (first_family ∷ first_family ∷ []) ∷ []

two_shaped : {Γ : LfHead → Option SimpleType} (m n : ℕ) → Γ (bound m) ≡ Some base → Γ (bound n) ≡ Some base → ShapedSpine Γ (variable_args m n) (arrow base (arrow base base))
two_shaped m n e f = shaped_arg (shaped_at base e shaped_none) (shaped_arg (shaped_at base f shaped_none) shaped_none)

newest_shaped : {kinds : ℕ → Option SimpleType} {Γ : LfHead → Option SimpleType} → kinds 1 ≡ Some (arrow base base) → Γ (bound 0) ≡ Some base → ShapedType kinds Γ of_newest
newest_shaped known e = shaped_family (arrow base base) known (shaped_arg (shaped_at base e shaped_none) shaped_none)

context_shaped : ShapedContextIn example_signature [] [] example_context
context_shaped =
    shaped_entry (shaped_family base refl shaped_none) (shaped_entry (newest_shaped refl refl) (shaped_entry (shaped_family base refl shaped_none)
    (shaped_entry (shaped_pi (shaped_family base refl shaped_none) (shaped_family (arrow base (arrow base base)) refl (two_shaped 3 2 refl refl))) shaped_empty)))

type_shaped : ShapedTypeIn example_signature [] example_context example_type
type_shaped =
    shaped_pi (shaped_family base refl shaped_none) (shaped_pi (shaped_family base refl shaped_none) (shaped_pi (newest_shaped refl refl)
    (shaped_pi (shaped_pi (shaped_family base refl shaped_none) (shaped_family (arrow base (arrow base base)) refl (two_shaped 0 2 refl refl)))
    (shaped_family (arrow base (arrow base base)) refl (two_shaped 3 2 refl refl)))))

abbrev pub example_kept : List ℕ
example_kept = 0 ∷ 1 ∷ 3 ∷ []

abbrev pub example_fixed : List (ℕ × ℕ)
example_fixed = (0, 2) ∷ []

kept_mention : (place : ℕ) (a : LfType) → is_kept example_kept place ≡ true → type_at example_context place ≡ Some a → MentionsNone (is_dropped example_kept place) a
kept_mention zero a kept e = subst (MentionsNone (is_dropped example_kept 0)) (Some-Some e) (mentions_none (is_dropped example_kept 0) first_family refl)
kept_mention (suc zero) a kept e = subst (MentionsNone (is_dropped example_kept 1)) (Some-Some e) (mentions_none (is_dropped example_kept 1) of_newest refl)
kept_mention (suc (suc zero)) a kept e = subst (MentionsNone (is_dropped example_kept 2)) (Some-Some e) (mentions_none (is_dropped example_kept 2) first_family refl)
kept_mention (suc (suc (suc zero))) a kept e = subst (MentionsNone (is_dropped example_kept 3)) (Some-Some e) (mentions_none (is_dropped example_kept 3) (pi first_family (family 2 (variable_args 3 2))) refl)
kept_mention (suc (suc (suc (suc place)))) a kept e = absurd cc

others_mention : (i : ℕ) (a : LfType) → type_at (binders_of example_type) i ≡ Some a → fixed_to example_fixed i ≡ None → MentionsNone (is_barred example_kept 4 example_fixed i) a
others_mention zero a e unfixed = absurd cc
others_mention (suc zero) a e unfixed = subst (MentionsNone (is_barred example_kept 4 example_fixed 1)) (Some-Some e) (mentions_none (is_barred example_kept 4 example_fixed 1) first_family refl)
others_mention (suc (suc zero)) a e unfixed = subst (MentionsNone (is_barred example_kept 4 example_fixed 2)) (Some-Some e) (mentions_none (is_barred example_kept 4 example_fixed 2) of_newest refl)
others_mention (suc (suc (suc zero))) a e unfixed =
    subst (MentionsNone (is_barred example_kept 4 example_fixed 3)) (Some-Some e) (mentions_none (is_barred example_kept 4 example_fixed 3) (pi first_family (family 3 (variable_args 0 2))) refl)
others_mention (suc (suc (suc (suc i)))) a e unfixed = absurd cc

rises : (k : ℕ) → k + 1 < 3 → slice_index example_kept k < slice_index example_kept (k + 1)
rises zero within = omega arith
rises (suc zero) within = omega arith
rises (suc (suc k)) within = absurd (omega (arith, within))

one_pair : {X : Type 0} (R : X → X → Type 0) (x : X) → AllPairs R (x ∷ [])
one_pair R x i j d less within = absurd (omega (arith, less, within))

example_opens : MayBeOpened example_signature [] example_context example_kept example_fixed 7 example_type
example_opens = record {
  goals_differ = λ i j d less within. absurd (omega (arith, within));
  goals_are_below = All-nil (λ g. g.id < 7);
  context_is_shaped = context_shaped;
  type_is_shaped = type_shaped;
  kept_rise = AllPairs-from_increasing example_kept rises;
  kept_are_places = All-cons (λ place. place < 4) 0 (1 ∷ 3 ∷ []) (omega arith) (All-cons (λ place. place < 4) 1 (3 ∷ []) (omega arith) (All-cons (λ place. place < 4) 3 [] (omega arith) (All-nil (λ place. place < 4))));
  kept_mention_kept = kept_mention;
  fixed_once = one_pair (λ x y. x.0 ≢ y.0) (0, 2);
  fixed_fit = All-cons (FixesArgument example_context example_type) (0, 2) [] (first_family, first_family, refl, refl, refl) (All-nil (FixesArgument example_context example_type));
  others_mention_kept = others_mention;
}

pub example_is_openable : (ctx : Context) (kept : List ℕ) (fixed : List (ℕ × ℕ)) (type : LfType) → ctx ≡ example_context → kept ≡ example_kept → fixed ≡ example_fixed → type ≡ example_type →
    IsOpenable ctx kept fixed 7 type
example_is_openable ctx kept fixed type ctx_is kept_is fixed_is type_is =
    subst (λ c. IsOpenable c kept fixed 7 type) (sym ctx_is) (subst (λ k. IsOpenable example_context k fixed 7 type) (sym kept_is)
    (subst (λ f. IsOpenable example_context example_kept f 7 type) (sym fixed_is) (subst (λ t. IsOpenable example_context example_kept example_fixed 7 t) (sym type_is)
    (example_signature, [], example_opens))))
