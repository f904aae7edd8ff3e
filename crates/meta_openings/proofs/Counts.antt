-- Numbers among the kept entries, by how many are kept before each place.
use Rattle.std.proofs.Common.{◌≡◌, ℕ, zero, suc, ◌+◌, ◌-◌, ◌<◌, ◌≤◌, ◌⊎◌, inl, inr, Bool, true, false, if◌then◌else◌, List, refl, sym, ap, ap₂, ◌∙◌, subst, arith}
use Rattle.std.specs.Prelude.{slice_index}
use mathlib.Core.Path.{fun_ext}
use Rattle.lf_definitions.specs.Syntax.{LfHead, bound, constant, metavariable, LfType}
use Rattle.lf_definitions.specs.Renaming.{next, extended, lifted, rename_type}
use Rattle.lf_definitions.proofs.Renaming.{rename_type-same_head}
use Rattle.opening_laws.specs.Openings.{is_kept, keeping, returning}
use Rattle.opening_laws.specs.Laws.{KeepsAll}
use Rattle.opening_laws.proofs.Kept.{returning-constant, returning-metavariable, returning_type}
use Rattle.meta_openings.specs.Counts.{kept_before, by_counts}

at_or_below : (m n : ℕ) → m ≤ suc n → (m ≡ suc n) ⊎ (m ≤ n)
at_or_below m n small = grind arith

kept_before-small : (kept : List ℕ) (n : ℕ) → kept_before kept n ≤ n
kept_before-small kept zero = omega arith
kept_before-small kept (suc n) = step (is_kept kept n) (kept_before-small kept n)
  where
    step : (b : Bool) → kept_before kept n ≤ n → (if b then suc (kept_before kept n) else kept_before kept n) ≤ suc n
    step true small = omega (arith, small)
    step false small = omega (arith, small)

abbrev Grows : List ℕ → ℕ → ℕ → Type 0
Grows kept m n = (kept_before kept m ≤ kept_before kept n) × (kept_before kept n + m ≤ kept_before kept m + n)

kept_before-grows : (kept : List ℕ) (m n : ℕ) → m ≤ n → Grows kept m n
kept_before-grows kept m zero small = let same : zero ≡ m = omega (arith, small) in subst (λ k. Grows kept k zero) same (omega arith, omega arith)
kept_before-grows kept m (suc n) small = either (at_or_below m n small) (kept_before-grows kept m n)
  where
    step : (b : Bool) → Grows kept m n → (kept_before kept m ≤ (if b then suc (kept_before kept n) else kept_before kept n)) × ((if b then suc (kept_before kept n) else kept_before kept n) + m ≤ kept_before kept m + suc n)
    step true before = (omega (arith, before.0), omega (arith, before.1))
    step false before = (omega (arith, before.0), omega (arith, before.1))

    either : (m ≡ suc n) ⊎ (m ≤ n) → (m ≤ n → Grows kept m n) → Grows kept m (suc n)
    either (inl same) later = subst (λ k. Grows kept k (suc n)) (sym same) (omega arith, omega arith)
    either (inr below) later = step (is_kept kept n) (later below)

returning_number : (kept : List ℕ) (m n : ℕ) → returning kept m (bound n) ≡ bound ((n - m) + (kept_before kept m - kept_before kept (m - n)))
returning_number kept zero n = ap bound (omega arith)
returning_number kept (suc m) zero =
    let here : suc m - zero ≡ suc m = omega arith in
    let none : zero ≡ (zero - suc m) + (kept_before kept (suc m) - kept_before kept (suc m)) = omega arith in
    newest (is_kept kept m) ∙ ap bound (none ∙ ap (λ k. (zero - suc m) + (kept_before kept (suc m) - kept_before kept k)) (sym here))
  where
    newest : (b : Bool) → (if b then lifted (returning kept m) else extended (bound zero) (returning kept m)) (bound zero) ≡ bound zero
    newest true = refl
    newest false = refl
returning_number kept (suc m) (suc n) =
    let there : suc m - suc n ≡ m - n = omega arith in
    older (is_kept kept m) (returning_number kept m n) ∙ ap bound (ap (λ k. (suc n - suc m) + (kept_before kept (suc m) - kept_before kept k)) (sym there))
  where
    older : (b : Bool) → returning kept m (bound n) ≡ bound ((n - m) + (kept_before kept m - kept_before kept (m - n))) →
        (if b then lifted (returning kept m) else extended (bound zero) (returning kept m)) (bound (suc n))
        ≡ bound ((suc n - suc m) + ((if b then suc (kept_before kept m) else kept_before kept m) - kept_before kept (m - n)))
    older true e =
        let grows = kept_before-grows kept (m - n) m (omega arith) in
        ap next e ∙ ap bound (omega (arith, grows.0))
    older false e = e ∙ ap bound (omega arith)

-- the counts give the way back
abbrev pub Counted : List ℕ → ℕ → List ℕ → Type 0
Counted kept count before = (place : ℕ) → place < suc count → slice_index before place ≡ kept_before kept place

pub by_counts-returning : (kept before : List ℕ) (m : ℕ) → Counted kept m before → (h : LfHead) → by_counts before m h ≡ returning kept m h
by_counts-returning kept before m counted (bound n) =
    ap₂ (λ x y. bound ((n - m) + (x - y))) (counted m (omega arith)) (counted (m - n) (omega arith)) ∙ sym (returning_number kept m n)
by_counts-returning kept before m counted (constant c) = sym (returning-constant kept m c)
by_counts-returning kept before m counted (metavariable g) = sym (returning-metavariable kept m g)

pub by_counts-type : (kept before : List ℕ) (m : ℕ) → Counted kept m before → (a : LfType) → rename_type (by_counts before m) a ≡ rename_type (returning kept m) a
by_counts-type kept before m counted a = ap (λ θ. rename_type θ a) (fun_ext (by_counts-returning kept before m counted))

-- what is seen as a type, from among the kept entries
pub seen_inside : (kept before : List ℕ) (m : ℕ) → Counted kept m before → (a inside r : LfType) → r ≡ rename_type (by_counts before m) a → rename_type (keeping kept m) inside ≡ a → r ≡ inside
seen_inside kept before m counted a inside r is e =
    is ∙ by_counts-type kept before m counted a ∙ ap (rename_type (returning kept m)) (sym e) ∙ returning_type kept m inside

-- where as many are kept as there are
returning-all : (kept : List ℕ) (m : ℕ) → kept_before kept m ≡ m → (h : LfHead) → returning kept m h ≡ h
returning-all kept m all (bound n) =
    let grows = kept_before-grows kept (m - n) m (omega arith) in
    let small = kept_before-small kept (m - n) in
    returning_number kept m n ∙ ap bound (omega (arith, all, grows.1, small))
returning-all kept m all (constant c) = returning-constant kept m c
returning-all kept m all (metavariable g) = returning-metavariable kept m g

pub seen_as_it_is : (kept : List ℕ) (m : ℕ) → kept_before kept m ≡ m → (a inside : LfType) → rename_type (keeping kept m) inside ≡ a → a ≡ inside
seen_as_it_is kept m all a inside e =
    sym (ap (λ θ. rename_type θ a) (fun_ext (returning-all kept m all)) ∙ rename_type-same_head a) ∙ ap (rename_type (returning kept m)) (sym e) ∙ returning_type kept m inside

pub keeps_all : (kept : List ℕ) (m : ℕ) → kept_before kept m ≡ m → KeepsAll kept m
keeps_all kept m all place less =
    step (is_kept kept place) refl (kept_before-grows kept (suc place) m (omega (arith, less))) (kept_before-small kept place)
  where
    step : (b : Bool) → is_kept kept place ≡ b → (kept_before kept (suc place) ≤ kept_before kept m) × (kept_before kept m + suc place ≤ kept_before kept (suc place) + m) → kept_before kept place ≤ place →
        is_kept kept place ≡ true
    step true is grows small = is
    step false is grows small =
        let same : kept_before kept (suc place) ≡ kept_before kept place = ap (λ c. if c then suc (kept_before kept place) else kept_before kept place) is in
        absurd (omega (arith, all, grows.1, small, same))
