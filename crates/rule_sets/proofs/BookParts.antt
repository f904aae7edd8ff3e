-- The parts of a book, with one more rule or list.
use Rattle.std.proofs.Common.{◌≡◌, ◌≢◌, ℕ, zero, suc, ◌<◌, true, false, List, [], ◌∷◌, ◌++◌, length, map, get_or, None, take, sym, ap, ◌∙◌, subst, arith, length-append, eq-eqb}
use Rattle.std.specs.Prelude.{Contains, nat_eq}
use Rattle.std.proofs.lemmas.List.{map-append}
use Rattle.std.proofs.lemmas.List.Quantifiers.{all_pairs_push}
use Rattle.rule_sets.specs.declared.rule.Rule.{Rule}
use Rattle.rule_sets.specs.Books.{Listed, first_book, list_of, listed}
use Rattle.rule_sets.specs.BookParts.{AreBookParts}
use Rattle.rule_sets.specs.Acceptance.{IsFree}
use Rattle.rule_sets.proofs.Tables.{none_step}

abbrev HaveNames : Rule → Rule → Type 0
HaveNames rule other = rule.name ≢ other.name

abbrev HaveFamilies : Listed → Listed → Type 0
HaveFamilies listed other = listed.of_family ≢ other.of_family

pub built_in_more : (rules : List Rule) (rule : Rule) → take 2 rules ≡ first_book.rules → take 2 (rules ++ rule ∷ []) ≡ first_book.rules
built_in_more [] rule e = let none : ◌≡◌ {A = ℕ} 0 2 = ap length e in absurd (omega (arith, none))
built_in_more (a ∷ []) rule e = let one : ◌≡◌ {A = ℕ} 1 2 = ap length e in absurd (omega (arith, one))
built_in_more (a ∷ b ∷ rules) rule e = e

name_contained : (rules : List Rule) (k : ℕ) (d : Rule) (name : List ℕ) → k < length rules → (get_or rules k d).name ≡ name → Contains (map (λ (rule : Rule). rule.name) rules) name
name_contained [] k d name within e = absurd (omega arith)
name_contained (r ∷ rules) zero d name within e = (0, omega arith, e)
name_contained (r ∷ rules) (suc k) d name within e = let later = name_contained rules k d name (omega arith) e in (suc later.0, omega (arith, later.1), later.2)

unlisted : (lists : List Listed) (f : ℕ) → list_of lists f ≡ None → (k : ℕ) (d : Listed) → k < length lists → (get_or lists k d).of_family ≢ f
unlisted [] f none k d within e = absurd (omega arith)
unlisted (l ∷ lists) f none zero d within e =
    let here : nat_eq l.of_family f ≡ true = eq-eqb _ _ e in
    let other : nat_eq l.of_family f ≡ false = (none_step (nat_eq l.of_family f) l.constants (list_of lists f) none).0 in cc
unlisted (l ∷ lists) f none (suc k) d within e = unlisted lists f (none_step (nat_eq l.of_family f) l.constants (list_of lists f) none).1 k d (omega arith) e

-- What is added to the parts of a book.
module _ (rules : List Rule) (names : List (List ℕ)) (lists : List Listed) (parts : AreBookParts rules names lists) where
  pub rule_joins : (rule : Rule) (more : List Rule) (new : List (List ℕ)) → IsFree (record { rules = rules; lists = lists }) rule → more ≡ rules ++ rule ∷ [] →
      new ≡ names ++ rule.name ∷ [] → AreBookParts more new lists
  rule_joins rule more new free more_is new_is =
      let P : List Rule → Type 0 = λ rs. AreBookParts rs new lists in
      subst P (sym more_is) (record {
        is_book = record {
          built_in = built_in_more rules rule parts.is_book.built_in;
          few = omega (arith, length-append rules (rule ∷ []), free.not_full);
          names_differ = all_pairs_push HaveNames rules rule parts.is_book.names_differ (λ k d within e. free.not_taken (name_contained rules k d rule.name within e));
          families_differ = parts.is_book.families_differ;
        };
        names_are = new_is ∙ ap (λ ns. ns ++ rule.name ∷ []) parts.names_are ∙ sym (map-append (λ (r : Rule). r.name) rules (rule ∷ []));
      })

  pub list_joins : (f : ℕ) (constants : List ℕ) (more : List Listed) → list_of lists f ≡ None → more ≡ lists ++ listed (f, constants) ∷ [] → AreBookParts rules names more
  list_joins f constants more none is =
      let P : List Listed → Type 0 = AreBookParts rules names in
      subst P (sym is) (record {
        is_book = record {
          built_in = parts.is_book.built_in;
          few = parts.is_book.few;
          names_differ = parts.is_book.names_differ;
          families_differ = all_pairs_push HaveFamilies lists (listed (f, constants)) parts.is_book.families_differ (unlisted lists f none);
        };
        names_are = parts.names_are;
      })
