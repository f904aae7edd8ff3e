-- The order of the rules of some sets depends on which sets these are, and on no order among them.
use Rattle.std.proofs.Common.{◌≡◌, ◌↔◌, ◌⊎◌, ℕ, ◌<◌, ◌≤◌, ◌+◌, List, [], ◌∷◌, ◌++◌, length, inl, inr, sym, subst, ap, ◌∙◌, take, take_all, get_or}
use Rattle.std.specs.Prelude.{Contains, map, Some, slice_get}
use Rattle.std.proofs.lemmas.List.{map-append, take_more}
use Rattle.std.proofs.lemmas.List.Elements.{Contains-append_left, Contains-push, Contains-push_cases}
use Rattle.std.proofs.lemmas.Option.{get_or_from_slice_get}
use Rattle.rule_sets.specs.declared.rule.Rule.{Rule}
use Rattle.rule_sets.specs.Books.{Book}
use Rattle.rule_sets.specs.Orders.{IsActive, IsOrder}

-- The same names are in both lists.
abbrev pub HaveSameNames : (names others : List (List ℕ)) → Type 0
HaveSameNames names others = (name : List ℕ) → Contains names name ↔ Contains others name

IsActive-same : (book : Book) (sets others : List (List ℕ)) (number : ℕ) → ((name : List ℕ) → Contains sets name → Contains others name) → IsActive book sets number → IsActive book others number
IsActive-same book sets others number grows a = record {
  rule = a.rule;
  rule_is = a.rule_is;
  active = elim a.active [ inl of ↦ inl (grows a.rule.set of) | inr built_in ↦ inr built_in ];
}

pub IsOrder-same : (book : Book) (sets others : List (List ℕ)) (numbers : List ℕ) → HaveSameNames sets others → IsOrder book sets numbers → IsOrder book others numbers
IsOrder-same book sets others numbers same order = record {
  active = λ number. (
    λ of. IsActive-same book sets others number (λ name. (same name).0) ((order.active number).0 of),
    λ a. (order.active number).1 (IsActive-same book others sets number (λ name. (same name).1) a),
  );
  ordered = order.ordered;
}

-- the names of a list with one more
names-push : (names : List (List ℕ)) (added name : List ℕ) → Contains (names ++ added ∷ []) name ↔ (Contains names name ⊎ (name ≡ added))
names-push names added name = (
  λ of. elim (Contains-push_cases names added name of) [ inl before ↦ inl before | inr last ↦ inr (sym last) ],
  λ cases. elim cases [
    | inl before ↦ Contains-append_left names (added ∷ []) name before
    | inr last ↦ subst (Contains (names ++ added ∷ [])) (sym last) (Contains-push names added)
  ],
)

abbrev set_names : List Rule → List (List ℕ)
set_names rules = map (λ (rule : Rule). rule.set) rules

pub no_sets : (rules : List Rule) → HaveSameNames [] (set_names (take 0 rules))
no_sets rules = λ name. (λ of. of, λ of. of)

-- the sets of the first rules and of one more
pub set_added : (rules : List Rule) (place : ℕ) (rule : Rule) (sets new : List (List ℕ)) → place < length rules → slice_get rules place ≡ Some rule → HaveSameNames sets (set_names (take place rules)) →
    ((name : List ℕ) → Contains new name ↔ (Contains sets name ⊎ (name ≡ rule.set))) → HaveSameNames new (set_names (take (place + 1) rules))
set_added rules place rule sets new within at same adds =
    let here : get_or rules place rule ≡ rule = get_or_from_slice_get rules place rule rule at in
    let more : take (place + 1) rules ≡ take place rules ++ rule ∷ [] = take_more rules place rule within ∙ ap (λ r. take place rules ++ r ∷ []) here in
    let names : set_names (take (place + 1) rules) ≡ set_names (take place rules) ++ rule.set ∷ [] = ap set_names more ∙ map-append (λ (r : Rule). r.set) (take place rules) (rule ∷ []) in
    let P : List (List ℕ) → Type 0 = λ others. HaveSameNames new others in
    subst P (sym names) (λ name. (
      λ of. (names-push (set_names (take place rules)) rule.set name).1
          (elim ((adds name).0 of) [ inl before ↦ inl ((same name).0 before) | inr last ↦ inr last ]),
      λ of. (adds name).1
          (elim ((names-push (set_names (take place rules)) rule.set name).0 of) [ inl before ↦ inl ((same name).1 before) | inr last ↦ inr last ]),
    ))

-- the sets of all rules
pub all_sets : (rules : List Rule) (place : ℕ) (sets : List (List ℕ)) → length rules ≤ place → HaveSameNames sets (set_names (take place rules)) → HaveSameNames sets (set_names rules)
all_sets rules place sets over same = subst (λ (passed : List Rule). HaveSameNames sets (set_names passed)) (take_all place rules over) same
