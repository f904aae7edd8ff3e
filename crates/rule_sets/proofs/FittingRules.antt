-- The rules of a book fit the signature that it is over.
use Rattle.std.proofs.Common.{◌≡◌, ◌≢◌, ℕ, zero, suc, ◌≤◌, Bool, true, false, List, [], ◌∷◌, length, get_or, Option, Some, None, refl, subst, arith, if◌then◌else◌}
use Rattle.std.specs.Prelude.{nat_eq, All}
use Rattle.std.proofs.lemmas.Bool.{eqb-true}
use Rattle.std.proofs.lemmas.List.Elements.{All-head, All-tail}
use Rattle.std.proofs.lemmas.Option.{slice_get-get_or}
use Rattle.lf_definitions.specs.Syntax.{family, no_args}
use Rattle.lf_definitions.specs.Signatures.{LfSignature, constant_types, family_kinds}
use Rattle.rule_sets.specs.declared.rule.Phase.{Phase}
use Rattle.rule_sets.specs.declared.rule.Phase.TheVariants.{Norm, Safe, Unsafe}
use Rattle.rule_sets.specs.declared.rule.Builder.{Builder}
use Rattle.rule_sets.specs.declared.rule.Builder.TheVariants.{Apply, Constructors, Cases, Forward, Destruct, Assumption, Hyps}
use Rattle.rule_sets.specs.Books.{Book, Listed, list_of, IsUserBuilder}
use Rattle.rule_sets.specs.Refusals.{IsNoPercent, HasNoSubject, IsBadMajor, HasBadPremises, IsListOver, IsOver}
use Rattle.rule_sets.specs.FittingRules.{IsPercent, IsConstant, IsListed, FitsBuilder, RulesOfABookFit}
use Rattle.rule_sets.proofs.Decisions.{major_there, premises_there}

percent_there : (phase : Phase) → (IsNoPercent phase → ⊥) → IsPercent phase
percent_there (Norm penalty) good = tt
percent_there (Safe penalty) good = tt
percent_there (Unsafe percent) good = omega (arith, good)

constant_there : (sig : LfSignature) (subject : ℕ) → (length (constant_types sig) ≤ subject → ⊥) → IsConstant sig subject
constant_there sig subject some = record {
  type = get_or (constant_types sig) subject (family 0 no_args);
  type_is = slice_get-get_or (constant_types sig) subject (family 0 no_args) (omega (arith, some));
}

no_major : (major : ℕ) → (major ≢ 0 → ⊥) → major ≡ 0
no_major zero none = refl
no_major (suc n) none = absurd (none (λ e. omega (arith, e)))

-- the list of a family is one of the lists
list_over : (sig : LfSignature) (lists : List Listed) (f : ℕ) (constants : List ℕ) → All (IsListOver sig) lists → list_of lists f ≡ Some constants →
    IsListOver sig (record { of_family = f; constants = constants })
list_over sig [] f constants all e = absurd cc
list_over sig (l ∷ lists) f constants all e = by (nat_eq l.of_family f) refl e (list_over sig lists f constants (All-tail (IsListOver sig) l lists all))
  where
    some_list : Some l.constants ≡ Some constants → l.constants ≡ constants
    some_list same = cc

    by : (b : Bool) → nat_eq l.of_family f ≡ b → (if b then Some l.constants else list_of lists f) ≡ Some constants →
        (list_of lists f ≡ Some constants → IsListOver sig (record { of_family = f; constants = constants })) → IsListOver sig (record { of_family = f; constants = constants })
    by true here same later =
        let P : ℕ → Type 0 = λ g. IsListOver sig (record { of_family = g; constants = l.constants }) in
        let Q : List ℕ → Type 0 = λ cs. IsListOver sig (record { of_family = f; constants = cs }) in
        subst Q (some_list same) (subst P (eqb-true _ _ here) (All-head (IsListOver sig) l lists all))
    by false other same later = later same

-- A family past those of the signature has no list.
pub unlisted_past : (sig : LfSignature) (book : Book) (f : ℕ) → IsOver sig book → length (family_kinds sig) ≤ f → list_of book.lists f ≡ None
unlisted_past sig book f over past = by (list_of book.lists f) refl
  where
    by : (o : Option (List ℕ)) → list_of book.lists f ≡ o → list_of book.lists f ≡ None
    by None none = none
    by (Some constants) here = let within = (list_over sig book.lists f constants over.lists here).family_is in absurd (omega (arith, within, past))

list_there : (sig : LfSignature) (book : Book) (f : ℕ) → IsOver sig book → (list_of book.lists f ≡ None → ⊥) → IsListed sig book f
list_there sig book f over some = by (list_of book.lists f) refl
  where
    by : (o : Option (List ℕ)) → list_of book.lists f ≡ o → IsListed sig book f
    by None none = absurd (some none)
    by (Some constants) here =
        let good = list_over sig book.lists f constants over.lists here in
        record { constants = constants; list_is = here; family_is = good.family_is; constructors = good.constructors }

builder_fits : (sig : LfSignature) (book : Book) (builder : Builder) (subject major : ℕ) → IsOver sig book → IsUserBuilder builder → (HasNoSubject sig book builder subject → ⊥) →
    (IsBadMajor sig builder subject major → ⊥) → (HasBadPremises sig builder subject → ⊥) → FitsBuilder sig book builder subject major
builder_fits sig book Apply subject major over user some good fits = (constant_there sig subject some, no_major major good)
builder_fits sig book Constructors subject major over user some good fits = (list_there sig book subject over some, no_major major good)
builder_fits sig book Cases subject major over user some good fits = major_there sig subject major good
builder_fits sig book Forward subject major over user some good fits = (premises_there sig subject fits, no_major major good)
builder_fits sig book Destruct subject major over user some good fits = (premises_there sig subject fits, no_major major good)
builder_fits sig book Assumption subject major over user some good fits = absurd user
builder_fits sig book Hyps subject major over user some good fits = absurd user

pub rules_of_a_book_fit : RulesOfABookFit
rules_of_a_book_fit sig book over place rule here =
    let fits = over.rules place rule here in
    record { percent = percent_there rule.phase fits.percent; builder = builder_fits sig book rule.builder rule.subject rule.major over fits.builder fits.subject fits.major fits.premises }
