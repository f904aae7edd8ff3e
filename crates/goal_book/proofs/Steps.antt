-- What is found by rules, one more rule at a time.
use Rattle.std.proofs.Common.{◌≡◌, ℕ, ◌+◌, ◌<◌, List, [], ◌∷◌, ◌++◌, length, get_or, take, drop, map, filter, Option, Some, None, sym, ap, ◌∙◌, add-one, drop-cons}
use Rattle.std.specs.Prelude.{find, flat_map}
use Rattle.std.specs.Option.{option_or}
use Rattle.std.proofs.Math.Seq.{take-suc}
use Rattle.std.proofs.lemmas.Grind.{flat_map-append}
use Rattle.std.proofs.lemmas.List.{map-append}
use Rattle.std.proofs.lemmas.List.Elements.{filter-append, filter_map-append}
use Rattle.std.proofs.lemmas.List.Folds.{find-append}
use Rattle.applications.specs.Applications.{LfApplication}
use Rattle.rule_sets.specs.Books.{Book}
use Rattle.alternatives.specs.Rules.{LfRule}
use Rattle.goal_book.specs.declared.wanted.Wanted.{Wanted}
use Rattle.goal_book.specs.Rules.{rule_at, rules_of}
use Rattle.goal_book.specs.Choices.{LfChoice, may_be_chosen}
use Rattle.goal_book.specs.Queries.{is_tried, serves, first_wanted}
use Rattle.goal_book.specs.Rankings.{ranking_of}

-- the first that serves

module _ (book : Book) (finds : LfRule → List LfApplication) (wanted : Wanted) where
  abbrev pub wanted_of : List ℕ → Option LfApplication
  wanted_of numbers = first_wanted finds wanted (rules_of book numbers)

  wanted-cons : (m : ℕ) (rest : List ℕ) → wanted_of (m ∷ rest) ≡ option_or (wanted_of (m ∷ [])) (wanted_of rest)
  wanted-cons m rest =
      ap (first_wanted finds wanted) (filter_map-append (rule_at book) (m ∷ []) rest)
      ∙ ap (λ rs. find (serves wanted) (flat_map finds rs)) (filter-append (is_tried wanted) (rules_of book (m ∷ [])) (rules_of book rest))
      ∙ ap (find (serves wanted)) (flat_map-append finds (filter (is_tried wanted) (rules_of book (m ∷ []))) (filter (is_tried wanted) (rules_of book rest)))
      ∙ find-append (serves wanted) (flat_map finds (filter (is_tried wanted) (rules_of book (m ∷ [])))) (flat_map finds (filter (is_tried wanted) (rules_of book rest)))

  drop_more : (numbers : List ℕ) (i : ℕ) → i < length numbers → drop i numbers ≡ get_or numbers i 0 ∷ drop (i + 1) numbers
  drop_more numbers i less = rw (add-one, drop-cons numbers i 0)

  wanted_left : (numbers : List ℕ) (i : ℕ) → i < length numbers → wanted_of (drop i numbers) ≡ option_or (wanted_of (get_or numbers i 0 ∷ [])) (wanted_of (drop (i + 1) numbers))
  wanted_left numbers i less = ap wanted_of (drop_more numbers i less) ∙ wanted-cons (get_or numbers i 0) (drop (i + 1) numbers)

  pub wanted_here : (numbers : List ℕ) (i : ℕ) (a : LfApplication) → i < length numbers → wanted_of numbers ≡ wanted_of (drop i numbers) → Some a ≡ wanted_of (get_or numbers i 0 ∷ []) →
      Some a ≡ wanted_of numbers
  wanted_here numbers i a less so_far here = ap (λ o. option_or o (wanted_of (drop (i + 1) numbers))) here ∙ sym (wanted_left numbers i less) ∙ sym so_far

  pub wanted_later : (numbers : List ℕ) (i : ℕ) → i < length numbers → wanted_of numbers ≡ wanted_of (drop i numbers) → None ≡ wanted_of (get_or numbers i 0 ∷ []) →
      wanted_of numbers ≡ wanted_of (drop (i + 1) numbers)
  wanted_later numbers i less so_far here = so_far ∙ wanted_left numbers i less ∙ ap (λ o. option_or o (wanted_of (drop (i + 1) numbers))) (sym here)

-- lists that are added to

one_more : (numbers : List ℕ) (i : ℕ) → i < length numbers → take (i + 1) numbers ≡ take i numbers ++ get_or numbers i 0 ∷ []
one_more numbers i less = rw add-one (take-suc numbers i 0 less)

pub rankings_more : (book : Book) (numbers : List ℕ) (i : ℕ) → i < length numbers →
    map ranking_of (filter may_be_chosen (rules_of book (take (i + 1) numbers)))
    ≡ map ranking_of (filter may_be_chosen (rules_of book (take i numbers))) ++ map ranking_of (filter may_be_chosen (rules_of book (get_or numbers i 0 ∷ [])))
rankings_more book numbers i less =
    let before = rules_of book (take i numbers) in
    let here = rules_of book (get_or numbers i 0 ∷ []) in
    ap (λ ns. map ranking_of (filter may_be_chosen (rules_of book ns))) (one_more numbers i less)
    ∙ ap (λ rs. map ranking_of (filter may_be_chosen rs)) (filter_map-append (rule_at book) (take i numbers) (get_or numbers i 0 ∷ []))
    ∙ ap (map ranking_of) (filter-append may_be_chosen before here)
    ∙ map-append ranking_of (filter may_be_chosen before) (filter may_be_chosen here)

pub choices_more : (book : Book) (finds : LfRule → List LfChoice) (numbers : List ℕ) (i : ℕ) → i < length numbers →
    flat_map finds (rules_of book (take (i + 1) numbers)) ≡ flat_map finds (rules_of book (take i numbers)) ++ flat_map finds (rules_of book (get_or numbers i 0 ∷ []))
choices_more book finds numbers i less =
    ap (λ ns. flat_map finds (rules_of book ns)) (one_more numbers i less)
    ∙ ap (flat_map finds) (filter_map-append (rule_at book) (take i numbers) (get_or numbers i 0 ∷ []))
    ∙ flat_map-append finds (rules_of book (take i numbers)) (rules_of book (get_or numbers i 0 ∷ []))
