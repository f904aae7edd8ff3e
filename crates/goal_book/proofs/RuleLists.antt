-- The rules of some numbers: each is a rule of the book, their numbers differ where these do, and they may be left out before or after they are looked up.
use Rattle.std.proofs.Common.{◌≡◌, ◌≢◌, ℕ, ◌<◌, Bool, true, false, cond, List, [], ◌∷◌, map, filter, length, Option, Some, None, refl, sym, ap, ◌∙◌, subst}
use Rattle.std.specs.Prelude.{All, AllPairs, slice_get, option_map}
use Rattle.std.specs.List.{cons_option}
use Rattle.std.proofs.lemmas.List.Elements.{All-nil, All-cons, All-head, All-tail}
use Rattle.std.proofs.lemmas.List.Kept.{AllPairs-cons}
use Rattle.std.proofs.lemmas.Option.{slice_get_within}
use Rattle.lf_definitions.proofs.Options.{Some-Some}
use Rattle.rule_sets.specs.declared.rule.Rule.{Rule}
use Rattle.rule_sets.specs.Books.{Listed, Book}
use Rattle.alternatives.specs.Rules.{LfRule}
use Rattle.goal_book.specs.Rules.{numbered, rule_at, rules_of}
use Rattle.goal_book.proofs.OneOrder.{AllPairs-nil, AllPairs-head, AllPairs-tail}
use Rattle.goal_book.proofs.Ranks.{Differ}

-- The rule is that of its number.
pub record IsRuleIn (book : Book) (r : LfRule) : Type 0 where
  pub rule : Rule
  pub rule_is : slice_get book.rules r.number ≡ Some rule
  pub same : r ≡ numbered book.lists r.number rule

-- A rule that was looked up has the number under which it was.
pub number_of : (lists : List Listed) (m : ℕ) (o : Option Rule) (r : LfRule) → option_map (numbered lists m) o ≡ Some r → m ≡ r.number
number_of lists m None r e = absurd cc
number_of lists m (Some rule) r e = ap (λ (x : LfRule). x.number) (Some-Some e)

pub rule_in : (book : Book) (m : ℕ) (o : Option Rule) → slice_get book.rules m ≡ o → (r : LfRule) → option_map (numbered book.lists m) o ≡ Some r → IsRuleIn book r
rule_in book m None is r e = absurd cc
rule_in book m (Some rule) is r e =
    let P : LfRule → Type 0 = IsRuleIn book in
    subst P (Some-Some e) (record { rule = rule; rule_is = is; same = refl })

All-cons_option : (P : LfRule → Type 0) (o : Option LfRule) (xs : List LfRule) → ((r : LfRule) → o ≡ Some r → P r) → All P xs → All P (cons_option o xs)
All-cons_option P None xs first rest = rest
All-cons_option P (Some r) xs first rest = All-cons P r xs (first r refl) rest

pub rules_are_in : (book : Book) (numbers : List ℕ) → All (IsRuleIn book) (rules_of book numbers)
rules_are_in book [] = All-nil (IsRuleIn book)
rules_are_in book (m ∷ rest) =
    All-cons_option (IsRuleIn book) (rule_at book m) (rules_of book rest) (λ r e. rule_in book m (slice_get book.rules m) refl r e) (rules_are_in book rest)

-- Numbers that differ.

differ_from : (book : Book) (m : ℕ) (numbers : List ℕ) → All (λ n. m ≢ n) numbers → All (λ r. m ≢ r.number) (rules_of book numbers)
differ_from book m [] all = All-nil (λ (r : LfRule). m ≢ r.number)
differ_from book m (n ∷ rest) all =
    All-cons_option (λ (r : LfRule). m ≢ r.number) (rule_at book n) (rules_of book rest)
    (λ r e same. All-head (λ k. m ≢ k) n rest all (same ∙ sym (number_of book.lists n (slice_get book.rules n) r e)))
    (differ_from book m rest (All-tail (λ k. m ≢ k) n rest all))

pairs_cons_option : (o : Option LfRule) (xs : List LfRule) → ((r : LfRule) → o ≡ Some r → All (Differ r) xs) → AllPairs Differ xs → AllPairs Differ (cons_option o xs)
pairs_cons_option None xs first rest = rest
pairs_cons_option (Some r) xs first rest = AllPairs-cons Differ r xs (first r refl) rest

pub rules_differ : (book : Book) (numbers : List ℕ) → AllPairs (λ m n. m ≢ n) numbers → AllPairs Differ (rules_of book numbers)
rules_differ book [] differ = AllPairs-nil Differ
rules_differ book (m ∷ rest) differ =
    let R : ℕ → ℕ → Type 0 = λ k n. k ≢ n in
    pairs_cons_option (rule_at book m) (rules_of book rest)
    (λ r e.
    let P : ℕ → Type 0 = λ k. All (λ (x : LfRule). k ≢ x.number) (rules_of book rest) in
    subst P (number_of book.lists m (slice_get book.rules m) r e) (differ_from book m rest (AllPairs-head R m rest differ)))
    (rules_differ book rest (AllPairs-tail R m rest differ))

-- Numbers that are left out.

filter-cons_option : (p : LfRule → Bool) (o : Option LfRule) (xs : List LfRule) (b : Bool) → ((r : LfRule) → o ≡ Some r → p r ≡ b) →
    filter p (cons_option o xs) ≡ cond b (cons_option o (filter p xs)) (filter p xs)
filter-cons_option p None xs true first = refl
filter-cons_option p None xs false first = refl
filter-cons_option p (Some r) xs b first = ap (λ c. cond c (r ∷ filter p xs) (filter p xs)) (first r refl)

pub rules_of-filter : (book : Book) (q : ℕ → Bool) (numbers : List ℕ) → rules_of book (filter q numbers) ≡ filter (λ r. q r.number) (rules_of book numbers)
rules_of-filter book q [] = refl
rules_of-filter book q (m ∷ rest) =
    looked_up (q m) (filter q rest)
    ∙ ap (λ rs. cond (q m) (cons_option (rule_at book m) rs) rs) (rules_of-filter book q rest)
    ∙ sym (filter-cons_option (λ (r : LfRule). q r.number) (rule_at book m) (rules_of book rest) (q m) (λ r e. ap q (sym (number_of book.lists m (slice_get book.rules m) r e))))
  where
    looked_up : (b : Bool) (kept : List ℕ) → rules_of book (cond b (m ∷ kept) kept) ≡ cond b (cons_option (rule_at book m) (rules_of book kept)) (rules_of book kept)
    looked_up true kept = refl
    looked_up false kept = refl

-- Rules of a book are those of their numbers.
pub rules_of_numbers : (book : Book) (rs : List LfRule) → All (IsRuleIn book) rs → rules_of book (map (λ r. r.number) rs) ≡ rs
rules_of_numbers book [] all = refl
rules_of_numbers book (r ∷ rest) all =
    let here = All-head (IsRuleIn book) r rest all in
    ap (λ o. cons_option (option_map (numbered book.lists r.number) o) (rules_of book (map (λ (x : LfRule). x.number) rest))) here.rule_is
    ∙ ap (λ x. x ∷ rules_of book (map (λ (y : LfRule). y.number) rest)) (sym here.same)
    ∙ ap (λ xs. r ∷ xs) (rules_of_numbers book rest (All-tail (IsRuleIn book) r rest all))

pub numbers_within : (book : Book) (rs : List LfRule) → All (IsRuleIn book) rs → All (λ number. number < length book.rules) (map (λ r. r.number) rs)
numbers_within book [] all = All-nil (λ number. number < length book.rules)
numbers_within book (r ∷ rest) all =
    let here = All-head (IsRuleIn book) r rest all in
    All-cons (λ number. number < length book.rules) r.number (map (λ (x : LfRule). x.number) rest) (slice_get_within book.rules r.number here.rule here.rule_is)
    (numbers_within book rest (All-tail (IsRuleIn book) r rest all))
