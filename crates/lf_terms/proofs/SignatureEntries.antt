-- What is kept for a signature, and the signature.
use Rattle.std.proofs.Common.{◌≡◌, ℕ, zero, suc, ◌+◌, ◌<◌, ◌≤◌, ◌^◌, List, [], ◌∷◌, ◌++◌, length, get_or, Option, Some, None, refl, sym, ap, ap₂, ◌∙◌, subst, arith, map, zero-add, length-append, lit<}
use Rattle.std.specs.Prelude.{◌≢◌, slice_get}
use Rattle.std.specs.Option.{option_map}
use Rattle.std.specs.List.{All}
use Rattle.std.proofs.lemmas.List.{length-map, map-append}
use Rattle.std.proofs.lemmas.Option.{slice_get-map, slice_get_read, slice_get_within}
use Rattle.lf_definitions.specs.Syntax.{SimpleType, LfType, shape_of, shapes_of_types}
use Rattle.lf_definitions.specs.Typing.{kinds_of, type_at}
use Rattle.lf_definitions.specs.Signatures.{LfEntry, family_entry, constant_entry, LfSignature, name_of_entry, names_of, family_names, family_kinds, constant_names, constant_types, IsNewName, FormedEntry, FormedSignature, formed_nothing, formed_more}
use Rattle.lf_terms.specs.Types.{type_of}
use Rattle.basics.specs.Places.{place_of}
use Rattle.lf_terms.specs.Finding.{Finds}
use Rattle.lf_terms.specs.Entries.{entry_of_family, entry_of_constant, signature_entries, numbers_from, families_in, constants_in, Keeps}
use Rattle.basics.proofs.NamePlaces.{place_found, place_absent, place_new}
use Rattle.lf_terms.specs.declared.found.Found.{Found}
use Rattle.lf_terms.specs.declared.found.Found.TheVariants.{Family, Const, Absent}
use Rattle.lf_terms.specs.declared.signature.FamilyEntry.{FamilyEntry}
use Rattle.lf_terms.specs.declared.signature.ConstEntry.{ConstEntry}

-- the names, kinds and types of the entries are those that are kept
pub record Parts (order : List Found) (fs : List FamilyEntry) (cs : List ConstEntry) : Type 0 where
  pub family_names_are : family_names (signature_entries order fs cs) ≡ map (λ f. f.name) fs
  pub family_kinds_are : family_kinds (signature_entries order fs cs) ≡ map (λ f. f.kind.binders) fs
  pub constant_names_are : constant_names (signature_entries order fs cs) ≡ map (λ c. c.name) cs
  pub constant_types_are : constant_types (signature_entries order fs cs) ≡ map (λ c. type_of c.ty) cs

pub parts : (order : List Found) (fs : List FamilyEntry) (cs : List ConstEntry) → families_in order ≡ length fs → constants_in order ≡ length cs → Parts order fs cs
parts [] [] [] p q = record { family_names_are = refl; family_kinds_are = refl; constant_names_are = refl; constant_types_are = refl }
parts [] [] (c ∷ cs) p q = absurd (omega arith)
parts [] (f ∷ fs) cs p q = absurd (omega arith)
parts (Family k ∷ order) [] cs p q = absurd (omega arith)
parts (Family k ∷ order) (f ∷ fs) cs p q =
    let rest = parts order fs cs (omega arith) q in
    record {
      family_names_are = ap (λ l. f.name ∷ l) rest.family_names_are;
      family_kinds_are = ap (λ l. f.kind.binders ∷ l) rest.family_kinds_are;
      constant_names_are = rest.constant_names_are;
      constant_types_are = rest.constant_types_are;
    }
parts (Const k ∷ order) fs [] p q = absurd (omega arith)
parts (Const k ∷ order) fs (c ∷ cs) p q =
    let rest = parts order fs cs p (omega arith) in
    record {
      family_names_are = rest.family_names_are;
      family_kinds_are = rest.family_kinds_are;
      constant_names_are = ap (λ l. c.name ∷ l) rest.constant_names_are;
      constant_types_are = ap (λ l. type_of c.ty ∷ l) rest.constant_types_are;
    }
parts (Absent ∷ order) fs cs p q =
    let rest = parts order fs cs p q in
    record {
      family_names_are = rest.family_names_are;
      family_kinds_are = rest.family_kinds_are;
      constant_names_are = rest.constant_names_are;
      constant_types_are = rest.constant_types_are;
    }

-- One more family.
more_families : (order : List Found) (fs : List FamilyEntry) (cs : List ConstEntry) (k : ℕ) (f : FamilyEntry) → families_in order ≡ length fs → constants_in order ≡ length cs →
    signature_entries (order ++ Family k ∷ []) (fs ++ f ∷ []) cs ≡ signature_entries order fs cs ++ entry_of_family f ∷ []
more_families [] [] cs k f p q = refl
more_families [] (g ∷ fs) cs k f p q = absurd (omega arith)
more_families (Family n ∷ order) [] cs k f p q = absurd (omega arith)
more_families (Family n ∷ order) (g ∷ fs) cs k f p q = ap (λ l. entry_of_family g ∷ l) (more_families order fs cs k f (omega arith) q)
more_families (Const n ∷ order) fs [] k f p q = absurd (omega arith)
more_families (Const n ∷ order) fs (c ∷ cs) k f p q = ap (λ l. entry_of_constant c ∷ l) (more_families order fs cs k f p (omega arith))
more_families (Absent ∷ order) fs cs k f p q = more_families order fs cs k f p q

-- One more constant.
more_constants : (order : List Found) (fs : List FamilyEntry) (cs : List ConstEntry) (k : ℕ) (c : ConstEntry) → families_in order ≡ length fs → constants_in order ≡ length cs →
    signature_entries (order ++ Const k ∷ []) fs (cs ++ c ∷ []) ≡ signature_entries order fs cs ++ entry_of_constant c ∷ []
more_constants [] fs [] k c p q = refl
more_constants [] fs (d ∷ cs) k c p q = absurd (omega arith)
more_constants (Family n ∷ order) [] cs k c p q = absurd (omega arith)
more_constants (Family n ∷ order) (f ∷ fs) cs k c p q = ap (λ l. entry_of_family f ∷ l) (more_constants order fs cs k c (omega arith) q)
more_constants (Const n ∷ order) fs [] k c p q = absurd (omega arith)
more_constants (Const n ∷ order) fs (d ∷ cs) k c p q = ap (λ l. entry_of_constant d ∷ l) (more_constants order fs cs k c p (omega arith))
more_constants (Absent ∷ order) fs cs k c p q = more_constants order fs cs k c p q

families_in-append : (order more : List Found) → families_in (order ++ more) ≡ families_in order + families_in more
families_in-append [] more = sym (zero-add (families_in more))
families_in-append (Family k ∷ order) more = omega (arith, families_in-append order more)
families_in-append (Const k ∷ order) more = families_in-append order more
families_in-append (Absent ∷ order) more = families_in-append order more

constants_in-append : (order more : List Found) → constants_in (order ++ more) ≡ constants_in order + constants_in more
constants_in-append [] more = sym (zero-add (constants_in more))
constants_in-append (Family k ∷ order) more = constants_in-append order more
constants_in-append (Const k ∷ order) more = omega (arith, constants_in-append order more)
constants_in-append (Absent ∷ order) more = constants_in-append order more

-- The numbers.
pub length-numbers_from : (i j : ℕ) (sig : LfSignature) → length (numbers_from i j sig) ≡ length sig
length-numbers_from i j [] = refl
length-numbers_from i j (family_entry name kind ∷ sig) = ap suc (length-numbers_from (suc i) j sig)
length-numbers_from i j (constant_entry name type ∷ sig) = ap suc (length-numbers_from i (suc j) sig)

numbers_from-append : (i j : ℕ) (sig : LfSignature) (e : LfEntry) →
    numbers_from i j (sig ++ e ∷ []) ≡ numbers_from i j sig ++ numbers_from (i + length (family_names sig)) (j + length (constant_names sig)) (e ∷ [])
numbers_from-append i j [] e = ap₂ (λ m n. numbers_from m n (e ∷ [])) (omega arith) (omega arith)
numbers_from-append i j (family_entry name kind ∷ sig) e =
    ap (λ l. Family i ∷ l) (numbers_from-append (suc i) j sig e
    ∙ ap (λ n. numbers_from (suc i) j sig ++ numbers_from n (j + length (constant_names sig)) (e ∷ [])) (omega arith))
numbers_from-append i j (constant_entry name type ∷ sig) e =
    ap (λ l. Const j ∷ l) (numbers_from-append i (suc j) sig e
    ∙ ap (λ n. numbers_from i (suc j) sig ++ numbers_from (i + length (family_names sig)) n (e ∷ [])) (omega arith))

-- what is found at a place, where the families and the constants are counted from these numbers
abbrev FindsFrom : ℕ → ℕ → LfSignature → List ℕ → Found → Type 0
FindsFrom i j sig name (Family k) = (n : ℕ) × (k ≡ i + n) × (slice_get (family_names sig) n ≡ Some name)
FindsFrom i j sig name (Const k) = (n : ℕ) × (k ≡ j + n) × (slice_get (constant_names sig) n ≡ Some name)
FindsFrom i j sig name Absent = ⊥

past_family : (i j : ℕ) (sig : LfSignature) (name other : List ℕ) (kind : List LfType) (found : Found) → FindsFrom (suc i) j sig name found →
    FindsFrom i j (family_entry other kind ∷ sig) name found
past_family i j sig name other kind (Family k) h = (suc h.0, omega (arith, h.1), h.2)
past_family i j sig name other kind (Const k) h = h
past_family i j sig name other kind Absent h = h

past_constant : (i j : ℕ) (sig : LfSignature) (name other : List ℕ) (type : LfType) (found : Found) → FindsFrom i (suc j) sig name found →
    FindsFrom i j (constant_entry other type ∷ sig) name found
past_constant i j sig name other type (Family k) h = h
past_constant i j sig name other type (Const k) h = (suc h.0, omega (arith, h.1), h.2)
past_constant i j sig name other type Absent h = h

found_from : (i j : ℕ) (sig : LfSignature) (p : ℕ) (name : List ℕ) (found : Found) → slice_get (names_of sig) p ≡ Some name → slice_get (numbers_from i j sig) p ≡ Some found →
    FindsFrom i j sig name found
found_from i j [] p name found e h = absurd cc
found_from i j (family_entry other kind ∷ sig) zero name found e h =
    let is : Family i ≡ found = cc in
    subst (FindsFrom i j (family_entry other kind ∷ sig) name) is (0, omega arith, e)
found_from i j (family_entry other kind ∷ sig) (suc p) name found e h = past_family i j sig name other kind found (found_from (suc i) j sig p name found e h)
found_from i j (constant_entry other type ∷ sig) zero name found e h =
    let is : Const j ≡ found = cc in
    subst (FindsFrom i j (constant_entry other type ∷ sig) name) is (0, omega arith, e)
found_from i j (constant_entry other type ∷ sig) (suc p) name found e h = past_constant i j sig name other type found (found_from i (suc j) sig p name found e h)

finds_from_zero : (sig : LfSignature) (name : List ℕ) (found : Found) → FindsFrom 0 0 sig name found → Finds sig name found
finds_from_zero sig name (Family k) h = let same : h.0 ≡ k = omega (arith, h.1) in subst (λ n. slice_get (family_names sig) n ≡ Some name) same h.2
finds_from_zero sig name (Const k) h = let same : h.0 ≡ k = omega (arith, h.1) in subst (λ n. slice_get (constant_names sig) n ≡ Some name) same h.2
finds_from_zero sig name Absent h = absurd h

families_in_order : (order : List Found) → families_in order ≤ length order
families_in_order [] = omega arith
families_in_order (Family k ∷ order) = omega (arith, families_in_order order)
families_in_order (Const k ∷ order) = omega (arith, families_in_order order)
families_in_order (Absent ∷ order) = omega (arith, families_in_order order)

constants_in_order : (order : List Found) → constants_in order ≤ length order
constants_in_order [] = omega arith
constants_in_order (Family k ∷ order) = omega (arith, constants_in_order order)
constants_in_order (Const k ∷ order) = omega (arith, constants_in_order order)
constants_in_order (Absent ∷ order) = omega (arith, constants_in_order order)

constant_types-family : (sig : LfSignature) (name : List ℕ) (kind : List LfType) → constant_types (sig ++ family_entry name kind ∷ []) ≡ constant_types sig
constant_types-family [] name kind = refl
constant_types-family (family_entry n k ∷ sig) name kind = constant_types-family sig name kind
constant_types-family (constant_entry n t ∷ sig) name kind = ap (λ l. t ∷ l) (constant_types-family sig name kind)

constant_types-constant : (sig : LfSignature) (name : List ℕ) (type : LfType) → constant_types (sig ++ constant_entry name type ∷ []) ≡ constant_types sig ++ type ∷ []
constant_types-constant [] name type = refl
constant_types-constant (family_entry n k ∷ sig) name type = constant_types-constant sig name type
constant_types-constant (constant_entry n t ∷ sig) name type = ap (λ l. t ∷ l) (constant_types-constant sig name type)

shapes_of_types-last : (types : List LfType) (a : LfType) → shapes_of_types (types ++ a ∷ []) ≡ shapes_of_types types ++ shape_of a ∷ []
shapes_of_types-last [] a = refl
shapes_of_types-last (t ∷ types) a = ap (λ l. shape_of t ∷ l) (shapes_of_types-last types a)

-- The entry read at a place.
kinds_of-read : (fs : List FamilyEntry) (k : ℕ) (f : FamilyEntry) → k < length fs → f ≡ get_or fs k f → kinds_of (map (λ f. f.kind.binders) fs) k ≡ Some f.kind.binders
kinds_of-read [] k f within is = absurd (omega arith)
kinds_of-read (g ∷ fs) zero f within is = ap (λ x. Some x.kind.binders) (sym is)
kinds_of-read (g ∷ fs) (suc k) f within is = kinds_of-read fs k f (omega arith) is

type_at-read : (cs : List ConstEntry) (k : ℕ) (c : ConstEntry) → k < length cs → c ≡ get_or cs k c → type_at (map (λ c. type_of c.ty) cs) k ≡ Some (type_of c.ty)
type_at-read [] k c within is = absurd (omega arith)
type_at-read (d ∷ cs) zero c within is = ap (λ x. Some (type_of x.ty)) (sym is)
type_at-read (d ∷ cs) (suc k) c within is = type_at-read cs k c (omega arith) is

name_read : {X : Type 0} → (name : X → List ℕ) (xs : List X) (k : ℕ) (x : X) → k < length xs → x ≡ get_or xs k x → slice_get (map name xs) k ≡ Some (name x)
name_read name xs k x within is = slice_get-map name xs k ∙ ap (option_map name) (slice_get_read xs (length xs) k x refl within is)

-- Nothing is kept for no entry.
keeps_nothing : Keeps [] [] [] [] [] []
keeps_nothing = record { names_are = refl; order_is = refl; families_are = refl; constants_are = refl; shapes_are = refl; few = lit< tt; formed = formed_nothing }

pub keeps_made : (names : List (List ℕ)) (order : List Found) (fs : List FamilyEntry) (cs : List ConstEntry) (shapes : List SimpleType) →
    names ≡ [] → order ≡ [] → fs ≡ [] → cs ≡ [] → shapes ≡ [] → Keeps (signature_entries order fs cs) names order fs cs shapes
keeps_made names order fs cs shapes a b c d e = rw (a, b, c, d, e) keeps_nothing

module _ (sig : LfSignature) (names : List (List ℕ)) (order : List Found) (fs : List FamilyEntry) (cs : List ConstEntry) (shapes : List SimpleType)
    (view : signature_entries order fs cs ≡ sig) (keeps : Keeps (signature_entries order fs cs) names order fs cs shapes) where
  have : Parts order fs cs
  have = parts order fs cs keeps.families_are keeps.constants_are

  pub size_is : length order ≡ length sig
  size_is = ap length keeps.order_is ∙ length-numbers_from 0 0 (signature_entries order fs cs) ∙ ap length view

  pub few_entries : length order < 2 ^ 16
  few_entries = let same : length (signature_entries order fs cs) ≡ length sig = ap length view in omega (arith, keeps.few, size_is, same)

  pub few_families : length fs < 2 ^ 16
  few_families = omega (arith, few_entries, families_in_order order, keeps.families_are)

  pub few_constants : length cs < 2 ^ 16
  few_constants = omega (arith, few_entries, constants_in_order order, keeps.constants_are)

  names_kept : names ≡ names_of sig
  names_kept = keeps.names_are ∙ ap names_of view

  family_names_kept : family_names sig ≡ map (λ f. f.name) fs
  family_names_kept = ap family_names (sym view) ∙ have.family_names_are

  family_kinds_kept : family_kinds sig ≡ map (λ f. f.kind.binders) fs
  family_kinds_kept = ap family_kinds (sym view) ∙ have.family_kinds_are

  constant_names_kept : constant_names sig ≡ map (λ c. c.name) cs
  constant_names_kept = ap constant_names (sym view) ∙ have.constant_names_are

  constant_types_kept : constant_types sig ≡ map (λ c. type_of c.ty) cs
  constant_types_kept = ap constant_types (sym view) ∙ have.constant_types_are

  pub count_family_names : length fs ≡ length (family_names sig)
  count_family_names = sym (ap length family_names_kept ∙ length-map fs (λ f. f.name))

  pub count_family_kinds : length fs ≡ length (family_kinds sig)
  count_family_kinds = sym (ap length family_kinds_kept ∙ length-map fs (λ f. f.kind.binders))

  pub count_constant_names : length cs ≡ length (constant_names sig)
  count_constant_names = sym (ap length constant_names_kept ∙ length-map cs (λ c. c.name))

  pub count_constant_types : length cs ≡ length (constant_types sig)
  count_constant_types = sym (ap length constant_types_kept ∙ length-map cs (λ c. type_of c.ty))

  pub kind_at : (k : ℕ) (f : FamilyEntry) → k < length fs → f ≡ get_or fs k f → kinds_of (family_kinds sig) k ≡ Some f.kind.binders
  kind_at k f within is = ap (λ l. kinds_of l k) family_kinds_kept ∙ kinds_of-read fs k f within is

  pub type_found : (k : ℕ) (c : ConstEntry) → k < length cs → c ≡ get_or cs k c → type_at (constant_types sig) k ≡ Some (type_of c.ty)
  type_found k c within is = ap (λ l. type_at l k) constant_types_kept ∙ type_at-read cs k c within is

  pub family_name_at : (k : ℕ) (f : FamilyEntry) → k < length fs → f ≡ get_or fs k f → slice_get (family_names sig) k ≡ Some f.name
  family_name_at k f within is = ap (λ l. slice_get l k) family_names_kept ∙ name_read (λ f. f.name) fs k f within is

  pub constant_name_at : (k : ℕ) (c : ConstEntry) → k < length cs → c ≡ get_or cs k c → slice_get (constant_names sig) k ≡ Some c.name
  constant_name_at k c within is = ap (λ l. slice_get l k) constant_names_kept ∙ name_read (λ c. c.name) cs k c within is

  -- A name is found at its place.
  pub place_within : (name : List ℕ) (p : ℕ) → Some p ≡ place_of names name → p < length order
  place_within name p e =
      let at_place = place_found name names p (sym e) in
      let within : p < length names = slice_get_within names p name at_place in
      let counts : length names ≡ length sig = ap length names_kept ∙ length-map sig name_of_entry in
      omega (arith, within, counts, size_is)

  pub finds : (name : List ℕ) (p : ℕ) (found : Found) → Some p ≡ place_of names name → found ≡ get_or order p found → Finds sig name found
  finds name p found e is =
      let named : slice_get (names_of sig) p ≡ Some name = ap (λ l. slice_get l p) (sym names_kept) ∙ place_found name names p (sym e) in
      let numbered : slice_get (numbers_from 0 0 sig) p ≡ Some found =
      ap (λ l. slice_get l p) (ap (numbers_from 0 0) (sym view) ∙ sym keeps.order_is) ∙ slice_get_read order (length order) p found refl (place_within name p e) is in
      finds_from_zero sig name found (found_from 0 0 sig p name found named numbered)

  pub finds_nothing : (name : List ℕ) → None ≡ place_of names name → IsNewName sig name
  finds_nothing name e = subst (All (λ other. other ≢ name)) names_kept (place_absent name names (sym e))

  pub is_new_place : (name : List ℕ) → IsNewName sig name → place_of names name ≡ None
  is_new_place name new = place_new name names (subst (All (λ other. other ≢ name)) (sym names_kept) new)

  pub order_is_place : (name : List ℕ) (found : Option ℕ) → found ≡ place_of names name → found ≡ place_of (names_of sig) name
  order_is_place name found e = e ∙ ap (λ l. place_of l name) names_kept

  -- One more family.
  module _ (f : FamilyEntry) (k : ℕ) (names2 : List (List ℕ)) (order2 : List Found) (fs2 : List FamilyEntry) (number : k ≡ length fs)
      (names_more : names2 ≡ names ++ f.name ∷ []) (order_more : order2 ≡ order ++ Family k ∷ []) (fs_more : fs2 ≡ fs ++ f ∷ []) where
    pub family_added : signature_entries order2 fs2 cs ≡ sig ++ entry_of_family f ∷ []
    family_added =
        ap₂ (λ o l. signature_entries o l cs) order_more fs_more ∙ more_families order fs cs k f keeps.families_are keeps.constants_are ∙ ap (λ s. s ++ entry_of_family f ∷ []) view

    pub keeps_family : IsNewName sig f.name → FormedEntry sig (entry_of_family f) → length sig < 65535 → Keeps (signature_entries order2 fs2 cs) names2 order2 fs2 cs shapes
    keeps_family new formed room =
        let e = entry_of_family f in
        let counted : k ≡ 0 + length (family_names sig) = omega (arith, number, count_family_names) in
        let orders : families_in order2 ≡ families_in order + 1 = ap families_in order_more ∙ families_in-append order (Family k ∷ []) in
        let lengths : length fs2 ≡ length fs + 1 = ap length fs_more ∙ length-append fs (f ∷ []) in
        let others : constants_in order2 ≡ constants_in order + 0 = ap constants_in order_more ∙ constants_in-append order (Family k ∷ []) in
        let sizes : length (signature_entries order2 fs2 cs) ≡ length sig + 1 = ap length family_added ∙ length-append sig (e ∷ []) in
        record {
          names_are = names_more ∙ ap (λ l. l ++ f.name ∷ []) names_kept ∙ sym (map-append name_of_entry sig (e ∷ [])) ∙ ap names_of (sym family_added);
          order_is =
              order_more ∙ ap (λ l. l ++ Family k ∷ []) (keeps.order_is ∙ ap (numbers_from 0 0) view) ∙ ap (λ n. numbers_from 0 0 sig ++ Family n ∷ []) counted
              ∙ sym (numbers_from-append 0 0 sig e) ∙ ap (numbers_from 0 0) (sym family_added);
          families_are = omega (arith, orders, lengths, keeps.families_are);
          constants_are = omega (arith, others, keeps.constants_are);
          shapes_are =
              keeps.shapes_are ∙ ap (λ s. shapes_of_types (constant_types s)) view ∙ ap shapes_of_types (sym (constant_types-family sig f.name f.kind.binders))
              ∙ ap (λ s. shapes_of_types (constant_types s)) (sym family_added);
          few = omega (arith, sizes, room);
          formed = formed_more sig (signature_entries order2 fs2 cs) e (subst FormedSignature view keeps.formed) new formed family_added;
        }

  -- One more constant.
  module _ (c : ConstEntry) (k : ℕ) (names2 : List (List ℕ)) (order2 : List Found) (cs2 : List ConstEntry) (shapes2 : List SimpleType) (number : k ≡ length cs)
      (names_more : names2 ≡ names ++ c.name ∷ []) (order_more : order2 ≡ order ++ Const k ∷ []) (cs_more : cs2 ≡ cs ++ c ∷ []) where
    pub constant_added : signature_entries order2 fs cs2 ≡ sig ++ entry_of_constant c ∷ []
    constant_added =
        ap₂ (λ o l. signature_entries o fs l) order_more cs_more ∙ more_constants order fs cs k c keeps.families_are keeps.constants_are ∙ ap (λ s. s ++ entry_of_constant c ∷ []) view

    pub keeps_constant : shapes2 ≡ shapes ++ shape_of (type_of c.ty) ∷ [] → IsNewName sig c.name → FormedEntry sig (entry_of_constant c) → length sig < 65535 →
        Keeps (signature_entries order2 fs cs2) names2 order2 fs cs2 shapes2
    keeps_constant shapes_more new formed room =
        let e = entry_of_constant c in
        let counted : k ≡ 0 + length (constant_names sig) = omega (arith, number, count_constant_names) in
        let orders : constants_in order2 ≡ constants_in order + 1 = ap constants_in order_more ∙ constants_in-append order (Const k ∷ []) in
        let lengths : length cs2 ≡ length cs + 1 = ap length cs_more ∙ length-append cs (c ∷ []) in
        let others : families_in order2 ≡ families_in order + 0 = ap families_in order_more ∙ families_in-append order (Const k ∷ []) in
        let sizes : length (signature_entries order2 fs cs2) ≡ length sig + 1 = ap length constant_added ∙ length-append sig (e ∷ []) in
        record {
          names_are = names_more ∙ ap (λ l. l ++ c.name ∷ []) names_kept ∙ sym (map-append name_of_entry sig (e ∷ [])) ∙ ap names_of (sym constant_added);
          order_is =
              order_more ∙ ap (λ l. l ++ Const k ∷ []) (keeps.order_is ∙ ap (numbers_from 0 0) view) ∙ ap (λ n. numbers_from 0 0 sig ++ Const n ∷ []) counted
              ∙ sym (numbers_from-append 0 0 sig e) ∙ ap (numbers_from 0 0) (sym constant_added);
          families_are = omega (arith, others, keeps.families_are);
          constants_are = omega (arith, orders, lengths, keeps.constants_are);
          shapes_are =
              shapes_more ∙ ap (λ l. l ++ shape_of (type_of c.ty) ∷ []) (keeps.shapes_are ∙ ap (λ s. shapes_of_types (constant_types s)) view)
              ∙ sym (shapes_of_types-last (constant_types sig) (type_of c.ty)) ∙ ap shapes_of_types (sym (constant_types-constant sig c.name (type_of c.ty)))
              ∙ ap (λ s. shapes_of_types (constant_types s)) (sym constant_added);
          few = omega (arith, sizes, room);
          formed = formed_more sig (signature_entries order2 fs cs2) e (subst FormedSignature view keeps.formed) new formed constant_added;
        }
