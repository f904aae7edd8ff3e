-- The counts of what is open. The code has the innermost last, and contracts have it first.
use Rattle.std.proofs.Common.{◌≡◌, ℕ, suc, ◌+◌, List, [], ◌∷◌, ◌++◌, length, get_or, take, drop, set, reverse, sum, sym, ap, ◌∙◌, arith}
use Rattle.std.proofs.lemmas.List.{drop_all, reverse-append, set-get_or, set_split}
use Rattle.std.proofs.lemmas.List.Sums.{sum_by-cons}
use Rattle.file_syntax.specs.Nesting.{one_deeper}

sum-cons : (count : ℕ) (opened : List ℕ) → sum (count ∷ opened) ≡ count + sum opened
sum-cons count opened = sum_by-cons (λ n. n) count opened

reverse-set_last : (counts : List ℕ) (last count : ℕ) → length counts ≡ suc last → reverse (set counts last count) ≡ count ∷ reverse (take last counts)
reverse-set_last counts last count size =
    let after : drop (suc last) counts ≡ [] = drop_all (suc last) counts (omega (arith, size)) in
    ap reverse (set_split counts last count (omega (arith, size)) ∙ ap (λ rest. take last counts ++ count ∷ rest) after)
    ∙ reverse-append (take last counts) (count ∷ [])

reverse_last : (counts : List ℕ) (last count : ℕ) → length counts ≡ suc last → count ≡ get_or counts last count → reverse counts ≡ count ∷ reverse (take last counts)
reverse_last counts last count size is =
    ap reverse (sym (ap (set counts last) is ∙ set-get_or counts last count)) ∙ reverse-set_last counts last count size

-- One more abstraction goes on in the innermost.
pub reverse-deeper : (counts : List ℕ) (last count : ℕ) → length counts ≡ suc last → count ≡ get_or counts last count →
    reverse (set counts last (count + 1)) ≡ one_deeper (reverse counts)
reverse-deeper counts last count size is =
    let more : count + 1 ≡ suc count = omega arith in
    reverse-set_last counts last (count + 1) size
    ∙ (ap (λ n. n ∷ reverse (take last counts)) more ∙ sym (ap one_deeper (reverse_last counts last count size is)))

pub sum-deeper : (counts : List ℕ) (last count : ℕ) → length counts ≡ suc last → count ≡ get_or counts last count →
    sum (reverse (set counts last (count + 1))) ≡ sum (reverse counts) + 1
sum-deeper counts last count size is =
    let new : sum (reverse (set counts last (count + 1))) ≡ (count + 1) + sum (reverse (take last counts)) =
    ap sum (reverse-set_last counts last (count + 1) size) ∙ sum-cons (count + 1) (reverse (take last counts)) in
    let old : sum (reverse counts) ≡ count + sum (reverse (take last counts)) =
    ap sum (reverse_last counts last count size is) ∙ sum-cons count (reverse (take last counts)) in
    omega (arith, new, old)
