-- Lists of constructors of a file: the numbers that are read for their names, and what a book says of them.
use Rattle.std.proofs.Common.{◌≡◌, ℕ, zero, suc, ◌+◌, ◌<◌, List, [], ◌∷◌, ◌++◌, length, map, get_or, take, drop, Option, Some, None, refl, sym, ap, ◌∙◌, subst, arith, append_assoc, Err, Ok}
use Rattle.std.specs.Prelude.{Contains, slice_get}
use Rattle.std.proofs.lemmas.List.{take-append-drop, take_more, take-map, length-map}
use Rattle.std.proofs.lemmas.Option.{slice_get_within}
use Rattle.basics.specs.Places.{place_of}
use Rattle.basics.proofs.NamePlaces.{place_found}
use Rattle.lf_definitions.specs.Signatures.{LfSignature, family_names, family_kinds, constant_names, constant_types}
use Rattle.lf_definitions.proofs.Counts.{length-family_names, length-constant_names}
use Rattle.file_trees.specs.declared.span.Span.{Span}
use Rattle.file_trees.specs.declared.decl_tree.DeclTree.TheVariants.{Ctors}
use Rattle.rule_sets.specs.declared.rule.CtorFault.{CtorFault}
use Rattle.rule_sets.specs.declared.rule.CtorFault.TheVariants.{Taken, Repeated, Other, NoMemory}
use Rattle.rule_sets.specs.Books.{Book, list_of}
use Rattle.rule_sets.specs.Refusals.{AddsList, AreConstructors, HasFamily, IsFirstFaultOfList, list_taken, list_repeated, list_other}
use Rattle.rule_sets.proofs.Candidates.{at_from_Contains}
use Rattle.elab_terms.specs.KnownTypes.{IsRefusal}
use Rattle.elab_terms.specs.Names.{Text, text_at}
use Rattle.file_elab.specs.ProgramParts.{program_with, DeclaresInBook, RefusesInBook}
use Rattle.file_elab.specs.Programs.{AreNumbers, no_number, one_number, Declares, declares_constructors, refuses_listed, refuses_listed_name, refuses_listed_again, refuses_listed_other}
use Rattle.file_elab.specs.ReadRules.{number_or}
use Rattle.file_elab.specs.Constructors.{number_in, HasPlaceIn, unknown_or_bad, list_refused_as}

pub family_within : (sig : LfSignature) (name : List ℕ) (f : ℕ) → place_of (family_names sig) name ≡ Some f → f < length (family_kinds sig)
family_within sig name f e = omega (arith, slice_get_within (family_names sig) f name (place_found name (family_names sig) f e), length-family_names sig)

-- a number below the constants is that of its name
known : (past : ℕ) (o : Option ℕ) → number_or past o < past → o ≡ Some (number_or past o)
known past None less = absurd (omega arith)
known past (Some number) less = refl

constant_of : (sig : LfSignature) (f constant : ℕ) → HasFamily sig f constant → constant < length (constant_names sig)
constant_of sig f constant has = omega (arith, slice_get_within (constant_types sig) constant has.type has.type_is, length-constant_names sig)

-- A book that refuses a list is as it was.
pub book_kept : (sig : LfSignature) (old new : Book) (f : ℕ) (constants : List ℕ) (fault : CtorFault) → AddsList sig old f constants (Err fault) new → new ≡ old
book_kept sig old new f constants Taken adds = adds.1
book_kept sig old new f constants (Repeated place) adds = adds.1
book_kept sig old new f constants (Other place) adds = adds.1
book_kept sig old new f constants (NoMemory kept) adds = adds.1

-- The numbers of the names before a place.
module _ (text : Text) (sig : LfSignature) where
  abbrev number : Span → ℕ
  number = number_in text sig

  abbrev past : ℕ
  past = length (constant_names sig)

  number_known : (span : Span) → number span < past → place_of (constant_names sig) (text_at text span) ≡ Some (number span)
  number_known span less = known past (place_of (constant_names sig) (text_at text span)) less

  are_numbers : (spans : List Span) → ((place constant : ℕ) → slice_get (map number spans) place ≡ Some constant → constant < past) → AreNumbers text sig spans (map number spans)
  are_numbers [] below = no_number
  are_numbers (span ∷ spans) below =
      one_number span spans (number span) (map number spans) (number_known span (below 0 (number span) refl)) (are_numbers spans (λ place constant here. below (suc place) constant here))

  pub constructors_are_numbers : (f : ℕ) (spans : List Span) → AreConstructors sig f (map number spans) → AreNumbers text sig spans (map number spans)
  constructors_are_numbers f spans good = are_numbers spans (λ place constant here. constant_of sig f constant (good place constant here).1)

  slice_get-map : (spans : List Span) (place constant : ℕ) (d : Span) → slice_get (map number spans) place ≡ Some constant → number (get_or spans place d) ≡ constant
  slice_get-map [] place constant d here = absurd cc
  slice_get-map (span ∷ spans) zero constant d here = some_number here
    where
      some_number : {a b : ℕ} → ◌≡◌ {A = Option ℕ} (Some a) (Some b) → a ≡ b
      some_number e = cc
  slice_get-map (span ∷ spans) (suc place) constant d here = slice_get-map spans place constant d here

  -- What the book says of the list that was read.
  module _ (old : Book) (name : Span) (spans : List Span) (f : ℕ) (family_is : place_of (family_names sig) (text_at text name) ≡ Some f) where
    abbrev Refused : CtorFault → Type 0
    Refused fault = IsRefusal (RefusesInBook text sig old (Ctors name spans)) (list_refused_as text sig name spans fault)

    pub place_in : (fault : CtorFault) → IsFirstFaultOfList sig old f (map number spans) fault → HasPlaceIn spans fault
    place_in _ (list_taken some) = tt
    place_in _ (list_repeated place constant none good here again) =
        let within : place < length (map number spans) = slice_get_within (map number spans) place constant here in omega (arith, within, length-map spans number)
    place_in _ (list_other place constant none good here new other) =
        let within : place < length (map number spans) = slice_get_within (map number spans) place constant here in omega (arith, within, length-map spans number)

    pub adds_place_in : (new : Book) (fault : CtorFault) → AddsList sig old f (map number spans) (Err fault) new → HasPlaceIn spans fault
    adds_place_in new Taken adds = tt
    adds_place_in new (Repeated place) adds = place_in (Repeated place) adds.0
    adds_place_in new (Other place) adds = place_in (Other place) adds.0
    adds_place_in new (NoMemory kept) adds = tt

    -- The names before the place, the one there and those after it.
    module _ (place constant : ℕ) (none : list_of old.lists f ≡ None) (good : AreConstructors sig f (take place (map number spans))) (here : slice_get (map number spans) place ≡ Some constant) where
      abbrev span : Span
      span = get_or spans place name

      within : place < length spans
      within = omega (arith, slice_get_within (map number spans) place constant here, length-map spans number)

      number_is : number span ≡ constant
      number_is = slice_get-map spans place constant name here

      good_before : AreConstructors sig f (map number (take place spans))
      good_before = let P : List ℕ → Type 0 = AreConstructors sig f in subst P (take-map number place spans) good

      numbers_before : AreNumbers text sig (take place spans) (map number (take place spans))
      numbers_before = constructors_are_numbers f (take place spans) good_before

      split : take place spans ++ span ∷ drop (place + 1) spans ≡ spans
      split =
          sym (append_assoc (take place spans) (span ∷ []) (drop (place + 1) spans)) ∙ ap (λ l. l ++ drop (place + 1) spans) (sym (take_more spans place name within))
          ∙ take-append-drop (place + 1) spans

      earlier : Contains (take place (map number spans)) constant → Contains (map number (take place spans)) constant
      earlier has = let P : List ℕ → Type 0 = λ l. Contains l constant in subst P (take-map number place spans) has

      later : (Contains (take place (map number spans)) constant → ⊥) → Contains (map number (take place spans)) constant → ⊥
      later new has = let P : List ℕ → Type 0 = λ l. Contains l constant in new (subst P (sym (take-map number place spans)) has)

      known_earlier : Contains (take place (map number spans)) constant → constant < past
      known_earlier has =
          let found = at_from_Contains (take place (map number spans)) constant has in constant_of sig f constant (good found.0 constant found.1).1

      constant_is : constant < past → place_of (constant_names sig) (text_at text span) ≡ Some constant
      constant_is less = number_known span (omega (arith, less, number_is)) ∙ ap (λ n. Some n) number_is

      repeated : Contains (take place (map number spans)) constant → Refused (Repeated place)
      repeated again theorems =
          let P : List Span → Type 0 = λ l. RefusesInBook text sig old (Ctors name l) (list_refused_as text sig name spans (Repeated place)) in
          subst P split
          (λ ts. refuses_listed_again name span (take place spans) (drop (place + 1) spans) f constant (map number (take place spans)) family_is none numbers_before good_before
          (constant_is (known_earlier again)) (earlier again)) theorems

      other_by : (o : Option ℕ) → place_of (constant_names sig) (text_at text span) ≡ o → (Contains (take place (map number spans)) constant → ⊥) → (HasFamily sig f constant → ⊥) →
          IsRefusal (RefusesInBook text sig old (Ctors name spans)) (unknown_or_bad span o)
      other_by None absent new other = λ theorems.
          let P : List Span → Type 0 = λ l. RefusesInBook text sig old (Ctors name l) (unknown_or_bad span None) in
          subst P split (λ ts. refuses_listed_name name span (take place spans) (drop (place + 1) spans) f (map number (take place spans)) family_is none numbers_before good_before absent) theorems
      other_by (Some found) is new other = λ theorems.
          let same : found ≡ constant = ap (number_or past) (sym is) ∙ number_is in
          let P : List Span → Type 0 = λ l. RefusesInBook text sig old (Ctors name l) (unknown_or_bad span (Some found)) in
          subst P split
          (λ ts. refuses_listed_other name span (take place spans) (drop (place + 1) spans) f constant (map number (take place spans)) family_is none numbers_before good_before
          (is ∙ ap (λ n. Some n) same) (later new) other) theorems

      other_refused : (Contains (take place (map number spans)) constant → ⊥) → (HasFamily sig f constant → ⊥) → Refused (Other place)
      other_refused new other = other_by (place_of (constant_names sig) (text_at text span)) refl new other

    first_refused : (fault : CtorFault) → IsFirstFaultOfList sig old f (map number spans) fault → Refused fault
    first_refused _ (list_taken some) = λ theorems. refuses_listed name spans f family_is some
    first_refused _ (list_repeated place constant none good here again) = repeated place constant none good here again
    first_refused _ (list_other place constant none good here new other) = other_refused place constant none good here new other

    pub list_refused : (new : Book) (fault : CtorFault) → AddsList sig old f (map number spans) (Err fault) new → Refused fault
    list_refused new Taken adds = first_refused Taken adds.0
    list_refused new (Repeated place) adds = first_refused (Repeated place) adds.0
    list_refused new (Other place) adds = first_refused (Other place) adds.0
    list_refused new (NoMemory kept) adds = tt

    pub list_declared : (new : Book) → AddsList sig old f (map number spans) (Ok tt) new → DeclaresInBook text sig old (Ctors name spans) new
    list_declared new adds theorems =
        let P : Book → Type 0 = λ b. Declares text (program_with sig old theorems) (Ctors name spans) (program_with sig b theorems) in
        subst P (sym adds.2) (declares_constructors name spans f (map number spans) family_is adds.0 (constructors_are_numbers f spans adds.1) adds.1)
