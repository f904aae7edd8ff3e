-- Variables renamed to their places, under binders.
use Rattle.std.proofs.Common.{◌≡◌, ◌⊎◌, inl, inr, ℕ, zero, suc, ◌+◌, ◌-◌, ◌<◌, ◌≤◌, Bool, true, false, List, [], ◌∷◌, ◌++◌, length, get_or, take, Some, None, refl, sym, ap, ap₂, ◌∙◌, arith, add-one}
use Rattle.std.specs.Prelude.{nat_eq, if◌then◌else◌}
use Rattle.std.proofs.lemmas.Bool.{cases_lt}
use Rattle.lf_definitions.specs.Syntax.{LfHead, bound, constant, metavariable, LfTerm, Spine, no_args, arg, joined}
use Rattle.lf_definitions.specs.Renaming.{Renaming, next, lifted, lifted_by, next_by, rename, rename_spine}
use Rattle.lf_definitions.specs.Occurrence.{OccursIn}
use Rattle.lf_definitions.proofs.Options.{Some-Some}
use Rattle.lf_definitions.proofs.Renaming.{rename-same_head, rename_spine-same_head}
use Rattle.lf_definitions.proofs.Telescopes.{next_by-bound}
use Rattle.lf_terms.specs.declared.term.Term.{Term}
use Rattle.lf_terms.specs.declared.head.Head.{Head}
use Rattle.lf_terms.specs.declared.head.Head.TheVariants.{Const, Meta}
use Rattle.lf_terms.specs.Terms.{head_of, term_of, spine_of}
use Rattle.lf_terms.specs.Extents.{StaysWithin, InTerm, InSpine}
use Rattle.lf_terms.proofs.Spines.{take_more_spine, spine_of-append}
use Rattle.head_laws.specs.Renumbering.{place_of_number}
use Rattle.head_laws.proofs.Occurrence.{rename-agree, rename_spine-agree}
use Rattle.unification.specs.Patterns.{has_number, is_over, placed}
use Rattle.unification.proofs.Tests.{over_term}
use Rattle.meta_patterns.specs.Variables.{own_numbers, placed_number}
use Rattle.meta_patterns.proofs.Mentioned.{either_true}
use Rattle.meta_patterns.proofs.OwnVariables.{own_inside, own_not}

-- what a variable becomes, by where it stands
pub placed_some : (ns : List ℕ) (n k : ℕ) → placed_number ns n ≡ Some k → placed ns (bound n) ≡ bound k
placed_some ns n k e = each (has_number ns n) refl
  where
    each : (b : Bool) → has_number ns n ≡ b → placed ns (bound n) ≡ bound k
    each true f = ap bound (Some-Some (sym (ap (λ b. if b then Some (length ns - suc (place_of_number ns n)) else None) f) ∙ e))
    each false f = let none : placed_number ns n ≡ None = ap (λ b. if b then Some (length ns - suc (place_of_number ns n)) else None) f in absurd cc

past_all : (ns : List ℕ) (n : ℕ) → has_number ns n ≡ false → place_of_number ns n ≡ length ns
past_all [] n e = refl
past_all (m ∷ rest) n e =
    let both = either_true (nat_eq m n) (has_number rest n) e in
    ap (λ b. if b then zero else suc (place_of_number rest n)) both.0 ∙ ap suc (past_all rest n both.1)

pub placed_none : (ns : List ℕ) (n : ℕ) → placed_number ns n ≡ None → placed ns (bound n) ≡ bound zero
placed_none ns n e = each (has_number ns n) refl
  where
    each : (b : Bool) → has_number ns n ≡ b → placed ns (bound n) ≡ bound zero
    each true f = let some : placed_number ns n ≡ Some (length ns - suc (place_of_number ns n)) = ap (λ b. if b then Some (length ns - suc (place_of_number ns n)) else None) f in absurd cc
    each false f = let place = past_all ns n f in ap bound (omega (arith, place))

-- Under binders.
lifted_outside : (depth n : ℕ) (ξ : Renaming) → lifted_by depth ξ (bound (depth + n)) ≡ next_by depth (ξ (bound n))
lifted_outside zero n ξ = let same : zero + n ≡ n = omega arith in ap (λ k. ξ (bound k)) same
lifted_outside (suc depth) n ξ =
    let sum : suc depth + n ≡ depth + suc n = omega arith in
    ap (λ k. lifted_by depth (lifted ξ) (bound k)) sum ∙ lifted_outside depth (suc n) (lifted ξ)

pub lifted_inside : (depth n : ℕ) (ξ : Renaming) → n < depth → lifted_by depth ξ (bound n) ≡ bound n
lifted_inside zero n ξ less = absurd (omega arith)
lifted_inside (suc depth) n ξ less = either (cases_lt n depth) (λ inside. lifted_inside depth n (lifted ξ) inside)
  where
    either : (n < depth) ⊎ (depth ≤ n) → (n < depth → lifted_by depth (lifted ξ) (bound n) ≡ bound n) → lifted_by depth (lifted ξ) (bound n) ≡ bound n
    either (inl inside) later = later inside
    either (inr far) later =
        let same : n ≡ depth + zero = omega (arith, less, far) in
        ap (λ k. lifted_by depth (lifted ξ) (bound k)) same ∙ lifted_outside depth zero (lifted ξ) ∙ next_by-bound depth zero ∙ ap bound (sym same)

pub lifted_entry : (depth n k : ℕ) (ξ : Renaming) → depth ≤ n → ξ (bound (n - depth)) ≡ bound k → bound (depth + k) ≡ lifted_by depth ξ (bound n)
lifted_entry depth n k ξ far e =
    let same : n ≡ depth + (n - depth) = omega (arith, far) in
    sym (ap (λ m. lifted_by depth ξ (bound m)) same ∙ lifted_outside depth (n - depth) ξ ∙ ap (next_by depth) e ∙ next_by-bound depth k)

lifted_constant : (depth c : ℕ) (ξ : Renaming) → ξ (constant c) ≡ constant c → lifted_by depth ξ (constant c) ≡ constant c
lifted_constant zero c ξ e = e
lifted_constant (suc depth) c ξ e = lifted_constant depth c (lifted ξ) (ap next e)

lifted_metavariable : (depth g : ℕ) (ξ : Renaming) → ξ (metavariable g) ≡ metavariable g → lifted_by depth ξ (metavariable g) ≡ metavariable g
lifted_metavariable zero g ξ e = e
lifted_metavariable (suc depth) g ξ e = lifted_metavariable depth g (lifted ξ) (ap next e)

pub others_stay : (depth : ℕ) (ns : List ℕ) (h : Head) → ((c : ℕ) × h ≡ Const c) ⊎ ((g : ℕ) × h ≡ Meta g) → head_of h ≡ lifted_by depth (placed ns) (head_of h)
others_stay depth ns h (inl (c, is)) = ap head_of is ∙ sym (ap (λ k. lifted_by depth (placed ns) (head_of k)) is ∙ lifted_constant depth c (placed ns) refl)
others_stay depth ns h (inr (g, is)) = ap head_of is ∙ sym (ap (λ k. lifted_by depth (placed ns) (head_of k)) is ∙ lifted_metavariable depth g (placed ns) refl)

lifted_last : (depth : ℕ) (ξ : Renaming) → lifted (lifted_by depth ξ) ≡ lifted_by (suc depth) ξ
lifted_last zero ξ = refl
lifted_last (suc depth) ξ = lifted_last depth (lifted ξ)

pub lifted_one_more : (depth : ℕ) (ξ : Renaming) → lifted_by (depth + 1) ξ ≡ lifted (lifted_by depth ξ)
lifted_one_more depth ξ = ap (λ k. lifted_by k ξ) (add-one depth) ∙ sym (lifted_last depth ξ)

-- What mentions local variables alone stays.
stays_within : (depth : ℕ) (ns : List ℕ) (Occurring : LfHead → Type 0) → StaysWithin depth Occurring → (h : LfHead) → Occurring h → lifted_by depth (placed ns) h ≡ h
stays_within depth ns Occurring within (bound n) o = either (cases_lt n depth)
  where
    either : (n < depth) ⊎ (depth ≤ n) → lifted_by depth (placed ns) (bound n) ≡ bound n
    either (inl inside) = lifted_inside depth n (placed ns) inside
    either (inr far) = absurd (within n far o)
stays_within depth ns Occurring within (constant c) o = lifted_constant depth c (placed ns) refl
stays_within depth ns Occurring within (metavariable g) o = lifted_metavariable depth g (placed ns) refl

pub term_within : (depth : ℕ) (ns : List ℕ) (t : LfTerm) → StaysWithin depth (InTerm t) → rename (lifted_by depth (placed ns)) t ≡ t
term_within depth ns t within = rename-agree t (lifted_by depth (placed ns)) (λ h. h) (stays_within depth ns (InTerm t) within) ∙ rename-same_head t

pub spine_within : (depth : ℕ) (ns : List ℕ) (ts : Spine) → StaysWithin depth (InSpine ts) → rename_spine (lifted_by depth (placed ns)) ts ≡ ts
spine_within depth ns ts within = rename_spine-agree ts (lifted_by depth (placed ns)) (λ h. h) (stays_within depth ns (InSpine ts) within) ∙ rename_spine-same_head ts

-- The variables of a context in order stay.
own_stays : (count : ℕ) (t : LfTerm) → is_over (own_numbers count) t ≡ true → (h : LfHead) → OccursIn h t → placed (own_numbers count) h ≡ h
own_stays count t over (bound n) o = either (cases_lt n count)
  where
    either : (n < count) ⊎ (count ≤ n) → placed (own_numbers count) (bound n) ≡ bound n
    either (inl inside) = placed_some (own_numbers count) n n (own_inside count n inside)
    either (inr far) =
        let among : has_number (own_numbers count) n ≡ true = over_term t (own_numbers count) over (bound n) o in
        let none : has_number (own_numbers count) n ≡ false = own_not count n far in
        absurd cc
own_stays count t over (constant c) o = refl
own_stays count t over (metavariable g) o = refl

pub own_placed : (ns : List ℕ) (t : LfTerm) → ns ≡ own_numbers (length ns) → is_over ns t ≡ true → rename (placed ns) t ≡ t
own_placed ns t own over =
    let count = length ns in
    ap (λ l. rename (placed l) t) own
    ∙ rename-agree t (placed (own_numbers count)) (λ h. h) (own_stays count t (sym (ap (λ l. is_over l t) own) ∙ over))
    ∙ rename-same_head t

-- one term more
joined-rename : (ξ : Renaming) (ts us : Spine) → rename_spine ξ (joined ts us) ≡ joined (rename_spine ξ ts) (rename_spine ξ us)
joined-rename ξ no_args us = refl
joined-rename ξ (arg t ts) us = ap (arg (rename ξ t)) (joined-rename ξ ts us)

pub renamed_more : (ξ : Renaming) (xs : List Term) (i : ℕ) (x : Term) (before after : List Term) (y : Term) → i < length xs → x ≡ get_or xs i x → after ≡ before ++ y ∷ [] →
    term_of y ≡ rename ξ (term_of x) → spine_of before ≡ rename_spine ξ (spine_of (take i xs)) → spine_of after ≡ rename_spine ξ (spine_of (take (i + 1) xs))
renamed_more ξ xs i x before after y within is pushed here so_far =
    ap spine_of pushed ∙ spine_of-append before y ∙ ap₂ (λ s t. joined s (arg t no_args)) so_far here
    ∙ sym (ap (rename_spine ξ) (take_more_spine xs i x within is) ∙ joined-rename ξ (spine_of (take i xs)) (arg (term_of x) no_args))
