-- In a well-formed signature a name is that of one family, or of one constant, or of neither.
use Rattle.std.proofs.Common.{◌≡◌, ◌≢◌, ◌⊎◌, ℕ, suc, ◌<◌, true, false, Option, Some, None, List, [], ◌∷◌, length, get_or, All, AllPairs, refl, sym, ◌∙◌, inl, inr, ⊎_elim, arith}
use Rattle.std.specs.Prelude.{slice_get}
use Rattle.std.specs.Str.{bytes_eq}
use Rattle.std.proofs.lemmas.Bool.{cases_Bool, cases_lt, false≢true}
use Rattle.std.proofs.lemmas.List.Elements.{All-nil, All-cons, All-head, All-tail, All-weaker}
use Rattle.std.proofs.lemmas.List.Kept.{AllPairs-cons}
use Rattle.std.proofs.lemmas.Option.{slice_get_within, get_or_from_slice_get}
use Rattle.std.proofs.lemmas.Slice.Eq.{bytes_eq-Decides}
use Rattle.lf_definitions.specs.Signatures.{family_entry, constant_entry, LfSignature, names_of, family_names, constant_names, FormedSignature, IsNewName}
use Rattle.lf_definitions.proofs.Growth.{names_differ}
use Rattle.basics.specs.Places.{place_of}
use Rattle.lf_terms.specs.Finding.{Finds}
use Rattle.lf_terms.specs.declared.found.Found.TheVariants.{Family, Const}
use Rattle.basics.proofs.NamePlaces.{place_found, place_absent, place_new}

abbrev Name : Type 0
Name = List ℕ

abbrev Differ : Name → Name → Type 0
Differ name other = name ≢ other

-- What holds of all names holds of those of constants, and of families.
of_constants : (P : Name → Type 0) (sig : LfSignature) → All P (names_of sig) → All P (constant_names sig)
of_constants P [] all = All-nil P
of_constants P (family_entry name kind ∷ sig) all = of_constants P sig (All-tail P name (names_of sig) all)
of_constants P (constant_entry name type ∷ sig) all =
    All-cons P name (constant_names sig) (All-head P name (names_of sig) all) (of_constants P sig (All-tail P name (names_of sig) all))

of_families : (P : Name → Type 0) (sig : LfSignature) → All P (names_of sig) → All P (family_names sig)
of_families P [] all = All-nil P
of_families P (family_entry name kind ∷ sig) all =
    All-cons P name (family_names sig) (All-head P name (names_of sig) all) (of_families P sig (All-tail P name (names_of sig) all))
of_families P (constant_entry name type ∷ sig) all = of_families P sig (All-tail P name (names_of sig) all)

later : (name : Name) (names : List Name) → AllPairs Differ (name ∷ names) → All (Differ name) names
later name names apart k d less = apart 0 (suc k) d (omega arith) (omega arith)

rest : (name : Name) (names : List Name) → AllPairs Differ (name ∷ names) → AllPairs Differ names
rest name names apart i j d below less = apart (suc i) (suc j) d (omega arith) (omega arith)

no_pairs : AllPairs Differ []
no_pairs i j d below less = absurd (none j less)
  where
    none : (j : ℕ) → j < 0 → ⊥
    none j less = omega arith

constants_apart : (sig : LfSignature) → AllPairs Differ (names_of sig) → AllPairs Differ (constant_names sig)
constants_apart [] apart = no_pairs
constants_apart (family_entry name kind ∷ sig) apart = constants_apart sig (rest name (names_of sig) apart)
constants_apart (constant_entry name type ∷ sig) apart =
    AllPairs-cons Differ name (constant_names sig) (of_constants (Differ name) sig (later name (names_of sig) apart)) (constants_apart sig (rest name (names_of sig) apart))

families_apart : (sig : LfSignature) → AllPairs Differ (names_of sig) → AllPairs Differ (family_names sig)
families_apart [] apart = no_pairs
families_apart (family_entry name kind ∷ sig) apart =
    AllPairs-cons Differ name (family_names sig) (of_families (Differ name) sig (later name (names_of sig) apart)) (families_apart sig (rest name (names_of sig) apart))
families_apart (constant_entry name type ∷ sig) apart = families_apart sig (rest name (names_of sig) apart)

-- a name that is not the one
abbrev IsNo : Name → Name → Type 0
IsNo name other = other ≢ name

-- A name is none of a family, or none of a constant.
one_sort : (name : Name) (sig : LfSignature) → AllPairs Differ (names_of sig) → All (IsNo name) (family_names sig) ⊎ All (IsNo name) (constant_names sig)
one_sort name [] apart = inl (All-nil (IsNo name))
one_sort name (family_entry n kind ∷ sig) apart = ⊎_elim here (others (one_sort name sig (rest n (names_of sig) apart))) (cases_Bool (bytes_eq name n))
  where
    here : bytes_eq name n ≡ true → All (IsNo name) (n ∷ family_names sig) ⊎ All (IsNo name) (constant_names sig)
    here e =
        let same : name ≡ n = (bytes_eq-Decides name n).0 e in
        inr (of_constants (IsNo name) sig (All-weaker (Differ n) (IsNo name) (λ o differ is. differ (sym same ∙ sym is)) (names_of sig) (later n (names_of sig) apart)))

    others : All (IsNo name) (family_names sig) ⊎ All (IsNo name) (constant_names sig) → bytes_eq name n ≡ false → All (IsNo name) (n ∷ family_names sig) ⊎ All (IsNo name) (constant_names sig)
    others before e =
        ⊎_elim (λ all. inl (All-cons (IsNo name) n (family_names sig) (λ is. false≢true (sym e ∙ (bytes_eq-Decides name n).1 (sym is))) all)) (λ all. inr all) before
one_sort name (constant_entry n type ∷ sig) apart = ⊎_elim here (others (one_sort name sig (rest n (names_of sig) apart))) (cases_Bool (bytes_eq name n))
  where
    here : bytes_eq name n ≡ true → All (IsNo name) (family_names sig) ⊎ All (IsNo name) (n ∷ constant_names sig)
    here e =
        let same : name ≡ n = (bytes_eq-Decides name n).0 e in
        inl (of_families (IsNo name) sig (All-weaker (Differ n) (IsNo name) (λ o differ is. differ (sym same ∙ sym is)) (names_of sig) (later n (names_of sig) apart)))

    others : All (IsNo name) (family_names sig) ⊎ All (IsNo name) (constant_names sig) → bytes_eq name n ≡ false → All (IsNo name) (family_names sig) ⊎ All (IsNo name) (n ∷ constant_names sig)
    others before e =
        ⊎_elim (λ all. inl all) (λ all. inr (All-cons (IsNo name) n (constant_names sig) (λ is. false≢true (sym e ∙ (bytes_eq-Decides name n).1 (sym is))) all)) before

-- Where the names of a list differ, each has its own place.
placed : (names : List Name) (name : Name) (k : ℕ) → AllPairs Differ names → slice_get names k ≡ Some name → place_of names name ≡ Some k
placed names name k apart here = by (place_of names name) refl
  where
    within : k < length names
    within = slice_get_within names k name here

    at_k : get_or names k name ≡ name
    at_k = get_or_from_slice_get names k name name here

    by : (r : Option ℕ) → place_of names name ≡ r → place_of names name ≡ Some k
    by None e = absurd (place_absent name names e k name within at_k)
    by (Some p) e =
        let there = place_found name names p e in
        let p_within = slice_get_within names p name there in
        let at_p = get_or_from_slice_get names p name name there in
        ⊎_elim (λ less. absurd (apart p k name less within (at_p ∙ sym at_k)))
        (λ no_less. ⊎_elim (λ less. absurd (apart k p name less p_within (at_k ∙ sym at_p))) (λ no_more. let same : p ≡ k = omega arith in e ∙ ap_Some same) (cases_lt k p))
        (cases_lt p k)
      where
        ap_Some : {m n : ℕ} → m ≡ n → ◌≡◌ {A = Option ℕ} (Some m) (Some n)
        ap_Some e = cc

has_one : (names : List Name) (name : Name) (k : ℕ) → slice_get names k ≡ Some name → All (IsNo name) names → ⊥
has_one names name k here none = none k name (slice_get_within names k name here) (get_or_from_slice_get names k name name here)

-- What a look-up found, as the place in either list.
pub find_constant : (sig : LfSignature) (name : Name) (k : ℕ) → FormedSignature sig → Finds sig name (Const k) → ◌≡◌ {A = Option ℕ} (Some k) (place_of (constant_names sig) name)
find_constant sig name k formed here = sym (placed (constant_names sig) name k (constants_apart sig (names_differ formed)) here)

pub find_family : (sig : LfSignature) (name : Name) (k : ℕ) → FormedSignature sig → Finds sig name (Family k) → ◌≡◌ {A = Option ℕ} (Some k) (place_of (family_names sig) name)
find_family sig name k formed here = sym (placed (family_names sig) name k (families_apart sig (names_differ formed)) here)

pub find_no_constant : (sig : LfSignature) (name : Name) (k : ℕ) → FormedSignature sig → Finds sig name (Family k) → ◌≡◌ {A = Option ℕ} None (place_of (constant_names sig) name)
find_no_constant sig name k formed here =
    ⊎_elim (λ none. absurd (has_one (family_names sig) name k here none)) (λ none. sym (place_new name (constant_names sig) none)) (one_sort name sig (names_differ formed))

pub find_no_family : (sig : LfSignature) (name : Name) (k : ℕ) → FormedSignature sig → Finds sig name (Const k) → ◌≡◌ {A = Option ℕ} None (place_of (family_names sig) name)
find_no_family sig name k formed here =
    ⊎_elim (λ none. sym (place_new name (family_names sig) none)) (λ none. absurd (has_one (constant_names sig) name k here none)) (one_sort name sig (names_differ formed))

pub absent_constant : (sig : LfSignature) (name : Name) → IsNewName sig name → ◌≡◌ {A = Option ℕ} None (place_of (constant_names sig) name)
absent_constant sig name new = sym (place_new name (constant_names sig) (of_constants (IsNo name) sig new))

pub absent_family : (sig : LfSignature) (name : Name) → IsNewName sig name → ◌≡◌ {A = Option ℕ} None (place_of (family_names sig) name)
absent_family sig name new = sym (place_new name (family_names sig) (of_families (IsNo name) sig new))
