-- Major arguments: whether a constant has one of a number, and which numbers they have.
use Rattle.std.proofs.Common.{◌≡◌, ℕ, zero, suc, ◌<◌, ◌≤◌, List, [], ◌∷◌, length, Some, refl, sym, ap, ◌∙◌, subst, arith}
use Rattle.std.specs.Prelude.{◌≢◌, slice_get, IsFalse, nat_lt, ℤ, pos}
use Rattle.std.proofs.lemmas.Bool.{ltb-false}
use Rattle.std.proofs.lemmas.Option.{slice_get_within}
use Rattle.lf_definitions.specs.Syntax.{LfType, family, pis, Spine}
use Rattle.lf_definitions.specs.Signatures.{LfSignature, constant_types}
use Rattle.lf_definitions.specs.Typing.{type_at}
use Rattle.lf_definitions.proofs.Options.{Some-Some}
use Rattle.rule_sets.specs.declared.rule.Builder.{Builder}
use Rattle.rule_sets.specs.declared.rule.Builder.TheVariants.{Apply, Constructors, Cases, Forward, Destruct, Assumption, Hyps}
use Rattle.rule_sets.specs.Refusals.{argument_at, IsMajor, IsBadMajor}
use Rattle.rule_sets.proofs.Types.{argument_at-pis}
use Rattle.rule_sets.proofs.Decisions.{major_there}
use Rattle.file_elab.specs.Rules.{IsMajorNumber, HasMajorPlace}
use Rattle.file_elab.specs.ReadRules.{FitsMajor}

pos_inj : {a b : ℕ} → pos a ≡ pos b → a ≡ b
pos_inj e = cc

zero_else : (major : ℕ) → (major ≢ 0 → ⊥) → major ≡ 0
zero_else zero h = refl
zero_else (suc n) h = absurd (h (λ e. omega (arith, e)))

zero_value : (value : ℤ) (major : ℕ) → value ≡ pos major → (major ≢ 0 → ⊥) → (value ≡ pos 0) × (major ≡ 0)
zero_value value major is none = (is ∙ ap (λ n. pos n) (zero_else major none), zero_else major none)

-- A number that is not bad is that of the major argument,
pub major_number : (sig : LfSignature) (b : Builder) (subject major : ℕ) (value : ℤ) → value ≡ pos major → (IsBadMajor sig b subject major → ⊥) → IsMajorNumber sig b subject value major
major_number sig Cases subject major value is good = (is, major_there sig subject major good)
major_number sig Apply subject major value is good = zero_value value major is good
major_number sig Constructors subject major value is good = zero_value value major is good
major_number sig Forward subject major value is good = zero_value value major is good
major_number sig Destruct subject major value is good = zero_value value major is good
major_number sig Assumption subject major value is good = zero_value value major is good
major_number sig Hyps subject major value is good = zero_value value major is good

other_value : (value : ℤ) (major : ℕ) → value ≡ pos major → value ≡ pos 0 → major ≡ 0
other_value value major is zero_is = pos_inj (sym is ∙ zero_is)

-- and a bad one is that of none.
pub no_major_number : (sig : LfSignature) (b : Builder) (subject major : ℕ) (value : ℤ) → value ≡ pos major → IsBadMajor sig b subject major → HasMajorPlace sig b subject value → ⊥
no_major_number sig Cases subject major value is bad (other, (other_is, there)) =
    let P : ℕ → Type 0 = IsMajor sig subject in bad (subst P (pos_inj (sym other_is ∙ is)) there)
no_major_number sig Apply subject major value is bad (other, (none, there)) = bad (other_value value major is none)
no_major_number sig Constructors subject major value is bad (other, (none, there)) = bad (other_value value major is none)
no_major_number sig Forward subject major value is bad (other, (none, there)) = bad (other_value value major is none)
no_major_number sig Destruct subject major value is bad (other, (none, there)) = bad (other_value value major is none)
no_major_number sig Assumption subject major value is bad (other, (none, there)) = bad (other_value value major is none)
no_major_number sig Hyps subject major value is bad (other, (none, there)) = bad (other_value value major is none)

type_at-slice_get : (types : List LfType) (k : ℕ) → type_at types k ≡ slice_get types k
type_at-slice_get [] k = refl
type_at-slice_get (t ∷ types) zero = refl
type_at-slice_get (t ∷ types) (suc k) = type_at-slice_get types k

within : (sig : LfSignature) (subject : ℕ) (bs : List LfType) (f : ℕ) (args : Spine) (major : ℕ) → type_at (constant_types sig) subject ≡ Some (pis bs (family f args)) →
    (m : IsMajor sig subject major) → m.place < length bs
within sig subject bs f args major is m =
    let same : pis bs (family f args) ≡ m.type = Some-Some (sym is ∙ type_at-slice_get (constant_types sig) subject ∙ m.type_is) in
    slice_get_within bs m.place m.argument (sym (argument_at-pis bs f args m.place) ∙ ap (λ t. argument_at t m.place) same ∙ m.argument_is)

-- The arguments of a constant have numbers of 32 bits, if its type has fewer binders.
pub few_binders : (sig : LfSignature) (b : Builder) (subject : ℕ) (bs : List LfType) (f : ℕ) (args : Spine) (n : ℕ) → b ≡ Cases →
    type_at (constant_types sig) subject ≡ Some (pis bs (family f args)) → n ≡ length bs → IsFalse (nat_lt 4294967295 n) → FitsMajor sig b subject
few_binders sig b subject bs f args n cases is count few =
    let P : Builder → Type 0 = λ c. FitsMajor sig c subject in
    let all : n < 4294967296 = omega (arith, ltb-false 4294967295 n few) in
    subst P (sym cases) (λ value has.
    let here = within sig subject bs f args has.0 is has.1.1 in
    let small : has.0 < 4294967296 = omega (arith, here, count, has.1.1.place_is, all) in
    (has.0, small, has.1.0))

-- What is no constant has no argument.
pub no_constant_fits : (sig : LfSignature) (b : Builder) (subject : ℕ) → b ≡ Cases → length (constant_types sig) ≤ subject → FitsMajor sig b subject
no_constant_fits sig b subject cases past =
    let P : Builder → Type 0 = λ c. FitsMajor sig c subject in
    subst P (sym cases) (λ value has. let there : subject < length (constant_types sig) = slice_get_within (constant_types sig) subject has.1.1.type has.1.1.type_is in absurd (omega (arith, there, past)))

-- Cases has no major argument 0, and the other builders have no other.
pub no_case : (sig : LfSignature) (b : Builder) (subject : ℕ) → b ≡ Cases → IsBadMajor sig b subject 0
no_case sig b subject cases =
    let P : Builder → Type 0 = λ c. IsBadMajor sig c subject 0 in
    subst P (sym cases) (λ (m : IsMajor sig subject 0). let e = m.place_is in omega (arith, e))
