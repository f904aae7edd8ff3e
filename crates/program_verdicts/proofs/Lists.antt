-- A list of constructors is taken, or it is refused at its family or at the first name that is wrong.
use Rattle.std.proofs.Common.{◌≡◌, ℕ, ◌<◌, ◌≤◌, ◌⊎◌, inl, inr, Option, Some, None, List, [], ◌∷◌, ◌++◌, length, take, append_assoc, refl, sym, subst, arith}
use Rattle.std.specs.Prelude.{slice_get, Contains}
use Rattle.std.proofs.lemmas.List.{append-nil, take-append-le, take_at}
use Rattle.basics.specs.Places.{place_of}
use Rattle.lf_definitions.specs.Signatures.{LfSignature, family_names, constant_names}
use Rattle.lf_definitions.proofs.Options.{None-Some}
use Rattle.file_trees.specs.declared.span.Span.{Span}
use Rattle.file_trees.specs.declared.decl_tree.DeclTree.TheVariants.{Ctors}
use Rattle.rule_sets.specs.Books.{list_of}
use Rattle.rule_sets.specs.Refusals.{HasFamily, AreConstructors}
use Rattle.rule_sets.proofs.Constructors.{slice_get-last}
use Rattle.elab_terms.specs.Names.{Text, text_at}
use Rattle.elab_terms.specs.declared.elab_fault.ElabFault.{ElabFault}
use Rattle.elab_terms.specs.declared.elab_fault.ElabFault.TheVariants.{Taken, Unknown, BadRule}
use Rattle.file_elab.specs.Programs.{LfProgram, AreNumbers, no_number, one_number, Declares, declares_constructors, Refuses, refuses_listed_family, refuses_listed, refuses_listed_name, refuses_listed_again, refuses_listed_other}
use Rattle.program_verdicts.proofs.Decisions.{HoldsOrNot, contains_or_not, family_or_not}

-- one name more, and one constructor more
numbers_last : {text : Text} {sig : LfSignature} {prefix : List Span} {constants : List ℕ} → AreNumbers text sig prefix constants → (span : Span) (c : ℕ) →
    place_of (constant_names sig) (text_at text span) ≡ Some c → AreNumbers text sig (prefix ++ span ∷ []) (constants ++ c ∷ [])
numbers_last no_number span c is = one_number span [] c [] is no_number
numbers_last (one_number first spans d constants here are) span c is =
    one_number first (spans ++ span ∷ []) d (constants ++ c ∷ []) here (numbers_last are span c is)

module _ (sig : LfSignature) (f : ℕ) (xs : List ℕ) (c : ℕ) (good : AreConstructors sig f xs) (new : Contains xs c → ⊥) (has : HasFamily sig f c) where
  abbrev Fits : ℕ → ℕ → Type 0
  Fits place d = (Contains (take place (xs ++ c ∷ [])) d → ⊥) × HasFamily sig f d

  fits : (place d : ℕ) → ((place < length xs) × (slice_get xs place ≡ Some d)) ⊎ ((place ≡ length xs) × (c ≡ d)) → Fits place d
  fits place d (inl (within, here)) =
      let before : place ≤ length xs = omega (arith, within) in
      let P : List ℕ → Type 0 = λ l. Contains l d → ⊥ in
      (subst P (sym (take-append-le place xs (c ∷ []) before)) (good place d here).0, (good place d here).1)
  fits place d (inr (last, same)) =
      let all : take place (xs ++ c ∷ []) ≡ xs = take_at xs (c ∷ []) place (sym last) in
      let P : List ℕ → Type 0 = λ l. Contains l d → ⊥ in
      let Q : ℕ → Type 0 = λ x. Contains xs x → ⊥ in
      let R : ℕ → Type 0 = HasFamily sig f in
      (subst P (sym all) (subst Q same new), subst R same has)

  constructors_last : AreConstructors sig f (xs ++ c ∷ [])
  constructors_last place d e = fits place d (slice_get-last xs c d place e)

no_constructors : (sig : LfSignature) (f : ℕ) → AreConstructors sig f []
no_constructors sig f place c e = absurd cc

module _ (text : Text) (old : LfProgram) (name : Span) where
  abbrev pub ListJudged : List Span → Type 0
  ListJudged spans = ((new : LfProgram) × Declares text old (Ctors name spans) new) ⊎ ((fault : ElabFault) × Refuses text old (Ctors name spans) fault)

  module _ (f : ℕ) (family_is : place_of (family_names old.signature) (text_at text name) ≡ Some f) (none : list_of old.book.lists f ≡ None) where
    -- The names of a prefix are constants of the list.
    abbrev Passed : List Span → List ℕ → Type 0
    Passed prefix constants = AreNumbers text old.signature prefix constants × AreConstructors old.signature f constants

    all_passed : (prefix : List Span) (constants : List ℕ) → Passed prefix constants → ListJudged prefix
    all_passed prefix constants passed = inl (_, declares_constructors name prefix f constants family_is none passed.0 passed.1)

    module _ (prefix rest : List Span) (constants : List ℕ) (passed : Passed prefix constants) (span : Span) where
      abbrev Further : Type 0
      Further = (c : ℕ) → Passed (prefix ++ span ∷ []) (constants ++ c ∷ []) → ListJudged (prefix ++ span ∷ rest)

      module _ (c : ℕ) (is : place_of (constant_names old.signature) (text_at text span) ≡ Some c) (further : Further) where
        by_family : (Contains constants c → ⊥) → HoldsOrNot (HasFamily old.signature f c) → ListJudged (prefix ++ span ∷ rest)
        by_family new (inl has) = further c (numbers_last passed.0 span c is, constructors_last old.signature f constants c passed.1 new has)
        by_family new (inr other) =
            inr (BadRule span.start, refuses_listed_other name span prefix rest f c constants family_is none passed.0 passed.1 is new other)

        by_earlier : HoldsOrNot (Contains constants c) → ListJudged (prefix ++ span ∷ rest)
        by_earlier (inl again) = inr (Taken span.start, refuses_listed_again name span prefix rest f c constants family_is none passed.0 passed.1 is again)
        by_earlier (inr new) = by_family new (family_or_not old.signature c f)

      by_name : Further → (o : Option ℕ) → place_of (constant_names old.signature) (text_at text span) ≡ o → ListJudged (prefix ++ span ∷ rest)
      by_name further None absent =
          inr (Unknown span.start, refuses_listed_name name span prefix rest f constants family_is none passed.0 passed.1 absent)
      by_name further (Some c) is = by_earlier c is further (contains_or_not constants c)

    names_judged : (rest prefix : List Span) (constants : List ℕ) → Passed prefix constants → ListJudged (prefix ++ rest)
    names_judged [] prefix constants passed = subst ListJudged (sym (append-nil prefix)) (all_passed prefix constants passed)
    names_judged (span ∷ rest) prefix constants passed =
        by_name prefix rest constants passed span
        (λ c more. subst ListJudged (append_assoc prefix (span ∷ []) rest) (names_judged rest (prefix ++ span ∷ []) (constants ++ c ∷ []) more))
        (place_of (constant_names old.signature) (text_at text span)) refl

    by_list : (spans : List Span) → ListJudged spans
    by_list spans = names_judged spans [] [] (no_number, no_constructors old.signature f)

  with_family : (spans : List Span) (f : ℕ) → place_of (family_names old.signature) (text_at text name) ≡ Some f → (o : Option (List ℕ)) → list_of old.book.lists f ≡ o → ListJudged spans
  with_family spans f is None none = by_list f is none spans
  with_family spans f is (Some constants) listed = inr (Taken name.start, refuses_listed name spans f is (λ none. None-Some none listed))

  named : (spans : List Span) (o : Option ℕ) → place_of (family_names old.signature) (text_at text name) ≡ o → ListJudged spans
  named spans None none = inr (Unknown name.start, refuses_listed_family name spans none)
  named spans (Some f) is = with_family spans f is (list_of old.book.lists f) refl

  pub list_judged : (spans : List Span) → ListJudged spans
  list_judged spans = named spans (place_of (family_names old.signature) (text_at text name)) refl
