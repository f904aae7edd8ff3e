-- Lists of terms, read one after another.
use Rattle.std.proofs.Common.{◌≡◌, ◌≢◌, ℕ, zero, suc, ◌+◌, ◌-◌, ◌<◌, ◌≤◌, List, [], ◌∷◌, ◌++◌, length, get_or, drop, Option, Some, None, Bool, true, false, ◌&&◌, refl, sym, ap, ap₂, ◌∙◌, arith, add-one}
use Rattle.lf_definitions.specs.Syntax.{LfTerm, Spine, no_args, arg, args_count}
use Rattle.lf_terms.specs.declared.term.Term.{Term}
use Rattle.lf_terms.specs.Terms.{term_of, spine_of}
use Rattle.unification.specs.Patterns.{from_outside, is_number, reads_under, are_own, variables_of, joined_reading}

pub from_outside-some : (count n : ℕ) → count ≤ n → from_outside count n ≡ Some (n - count)
from_outside-some zero n within = ap Some (omega arith)
from_outside-some (suc count) zero within = absurd (omega arith)
from_outside-some (suc count) (suc n) within = let e : n - count ≡ suc n - suc count = omega arith in from_outside-some count n (omega (arith, within)) ∙ ap Some e

pub from_outside-none : (count n : ℕ) → n < count → from_outside count n ≡ None
from_outside-none zero n inside = absurd (omega arith)
from_outside-none (suc count) zero inside = refl
from_outside-none (suc count) (suc n) inside = from_outside-none count n (omega (arith, inside))

drop-suc : (xs : List Term) (i : ℕ) (x : Term) → i < length xs → x ≡ get_or xs i x → spine_of (drop i xs) ≡ arg (term_of x) (spine_of (drop (suc i) xs))
drop-suc [] i x within is = absurd (omega arith)
drop-suc (y ∷ ys) zero x within is = ap (λ t. arg (term_of t) (spine_of ys)) (sym is)
drop-suc (y ∷ ys) (suc i) x within is = drop-suc ys i x (omega arith) is

-- the rest of a list from a place on
pub drop-item : (xs : List Term) (i : ℕ) (x : Term) → i < length xs → x ≡ get_or xs i x → spine_of (drop i xs) ≡ arg (term_of x) (spine_of (drop (i + 1) xs))
drop-item xs i x within is = drop-suc xs i x within is ∙ ap (λ n. arg (term_of x) (spine_of (drop n xs))) (sym (add-one i))

pub drop-all : (xs : List Term) (i : ℕ) → length xs ≤ i → spine_of (drop i xs) ≡ no_args
drop-all [] zero past = refl
drop-all [] (suc i) past = refl
drop-all (y ∷ ys) zero past = absurd (omega arith)
drop-all (y ∷ ys) (suc i) past = drop-all ys i (omega arith)

and_false : (b : Bool) → (b && false) ≡ false
and_false true = refl
and_false false = refl

pub are_own-count : (count : ℕ) (ts : Spine) → args_count ts ≢ count → are_own count ts ≡ false
are_own-count zero no_args differ = absurd (differ refl)
are_own-count zero (arg t ts) differ = refl
are_own-count (suc count) no_args differ = refl
are_own-count (suc count) (arg t ts) differ = ap₂ (λ a b. a && b) refl (are_own-count count ts (λ e. differ (ap suc e))) ∙ and_false (is_number count (reads_under zero t))

-- one argument more
pub are_own-item : (count i : ℕ) (ts : Spine) (t : LfTerm) → i < count → are_own (count - i) (arg t ts) ≡ (is_number (count - 1 - i) (reads_under zero t) && are_own (count - (i + 1)) ts)
are_own-item count i ts t within =
    let e : count - i ≡ suc (count - 1 - i) = omega (arith, within) in
    let f : count - 1 - i ≡ count - (i + 1) = omega arith in
    ap (λ n. are_own n (arg t ts)) e ∙ ap (λ n. is_number (count - 1 - i) (reads_under zero t) && are_own n ts) f

own_next : (count i : ℕ) (xs : List Term) (x : Term) {whole b : Bool} → i < length xs → length xs ≡ count → x ≡ get_or xs i x → whole ≡ are_own (count - i) (spine_of (drop i xs)) →
    is_number (count - 1 - i) (reads_under zero (term_of x)) ≡ b → whole ≡ (b && are_own (count - (i + 1)) (spine_of (drop (i + 1) xs)))
own_next count i xs x within as_many is so_far test =
    let inside : i < count = omega (arith, within, as_many) in
    so_far ∙ ap (are_own (count - i)) (drop-item xs i x within is) ∙ are_own-item count i (spine_of (drop (i + 1) xs)) (term_of x) inside
    ∙ ap (λ c. c && are_own (count - (i + 1)) (spine_of (drop (i + 1) xs))) test

pub own_stops : (count i : ℕ) (xs : List Term) (x : Term) {whole : Bool} → i < length xs → length xs ≡ count → x ≡ get_or xs i x → whole ≡ are_own (count - i) (spine_of (drop i xs)) →
    is_number (count - 1 - i) (reads_under zero (term_of x)) ≡ false → false ≡ whole
own_stops count i xs x within as_many is so_far test = sym (own_next count i xs x within as_many is so_far test)

pub own_goes_on : (count i : ℕ) (xs : List Term) (x : Term) {whole : Bool} → i < length xs → length xs ≡ count → x ≡ get_or xs i x → whole ≡ are_own (count - i) (spine_of (drop i xs)) →
    is_number (count - 1 - i) (reads_under zero (term_of x)) ≡ true → whole ≡ are_own (count - (i + 1)) (spine_of (drop (i + 1) xs))
own_goes_on count i xs x within as_many is so_far test = own_next count i xs x within as_many is so_far test

pub own_ends : (count i : ℕ) (xs : List Term) {whole : Bool} → length xs ≤ i → length xs ≡ count → whole ≡ are_own (count - i) (spine_of (drop i xs)) → true ≡ whole
own_ends count i xs past as_many so_far =
    let none : count - i ≡ zero = omega (arith, past, as_many) in
    sym (so_far ∙ ap₂ are_own none (drop-all xs i past))

-- what is read so far, before the rest
abbrev pub before : List ℕ → Option (List ℕ) → Option (List ℕ)
before ns None = None
before ns (Some rest) = Some (ns ++ rest)

append-item : (ns : List ℕ) (n : ℕ) (rest : List ℕ) → ns ++ n ∷ rest ≡ (ns ++ n ∷ []) ++ rest
append-item [] n rest = refl
append-item (m ∷ ns) n rest = ap (λ l. m ∷ l) (append-item ns n rest)

pub before-nothing : (ns : List ℕ) (rest : Option (List ℕ)) → ns ≡ [] → before ns rest ≡ rest
before-nothing ns None e = refl
before-nothing ns (Some rest) e = ap (λ l. Some (l ++ rest)) e

before-item : (ns : List ℕ) (n : ℕ) (rest : Option (List ℕ)) → before ns (joined_reading (Some n) rest) ≡ before (ns ++ n ∷ []) rest
before-item ns n None = refl
before-item ns n (Some rest) = ap Some (append-item ns n rest)

append-nothing : (ns : List ℕ) → ns ++ [] ≡ ns
append-nothing [] = refl
append-nothing (n ∷ ns) = ap (λ l. n ∷ l) (append-nothing ns)

variables_next : (xs : List Term) (i : ℕ) (x : Term) (o : Option ℕ) (ns : List ℕ) {whole : Option (List ℕ)} → i < length xs → x ≡ get_or xs i x →
    whole ≡ before ns (variables_of (spine_of (drop i xs))) → reads_under zero (term_of x) ≡ o → whole ≡ before ns (joined_reading o (variables_of (spine_of (drop (i + 1) xs))))
variables_next xs i x o ns within is so_far reading =
    so_far ∙ ap (λ ts. before ns (variables_of ts)) (drop-item xs i x within is) ∙ ap (λ p. before ns (joined_reading p (variables_of (spine_of (drop (i + 1) xs))))) reading

pub variables_none : (xs : List Term) (i : ℕ) (x : Term) (ns : List ℕ) {whole : Option (List ℕ)} → i < length xs → x ≡ get_or xs i x →
    whole ≡ before ns (variables_of (spine_of (drop i xs))) → reads_under zero (term_of x) ≡ None → None ≡ whole
variables_none xs i x ns within is so_far reading = sym (variables_next xs i x None ns within is so_far reading)

pub variables_some : (xs : List Term) (i : ℕ) (x : Term) (n : ℕ) (ns more : List ℕ) {whole : Option (List ℕ)} → i < length xs → x ≡ get_or xs i x →
    whole ≡ before ns (variables_of (spine_of (drop i xs))) → reads_under zero (term_of x) ≡ Some n → more ≡ ns ++ n ∷ [] → whole ≡ before more (variables_of (spine_of (drop (i + 1) xs)))
variables_some xs i x n ns more within is so_far reading pushed =
    let rest = variables_of (spine_of (drop (i + 1) xs)) in
    variables_next xs i x (Some n) ns within is so_far reading ∙ before-item ns n rest ∙ ap (λ l. before l rest) (sym pushed)

pub variables_end : (xs : List Term) (i : ℕ) (ns : List ℕ) {whole : Option (List ℕ)} → length xs ≤ i → whole ≡ before ns (variables_of (spine_of (drop i xs))) → Some ns ≡ whole
variables_end xs i ns past so_far = sym (so_far ∙ ap (λ ts. before ns (variables_of ts)) (drop-all xs i past) ∙ ap Some (append-nothing ns))
