-- Variables seen from under binders, and terms that mention none but these.
use Rattle.std.proofs.Common.{◌≡◌, ◌⊎◌, inl, inr, ℕ, zero, suc, ◌+◌, ◌-◌, ◌<◌, ◌≤◌, true, false, not, ◌&&◌, ◌||◌, List, refl, ap, ◌∙◌, arith, add-one}
use Rattle.std.proofs.lemmas.Bool.{cases_lt, and_parts}
use Rattle.std.proofs.Math.Bool.{and-false}
use Rattle.lf_definitions.specs.Syntax.{LfHead, bound, constant, LfTerm, lam, at, Spine, no_args, arg}
use Rattle.lf_definitions.specs.Occurrence.{OccursIn, occurs_args, OccursInSpine}
use Rattle.lf_terms.specs.Extents.{StaysWithin, InTerm, InSpine}
use Rattle.head_laws.specs.Mentions.{is_rigid}
use Rattle.unification.specs.Patterns.{has_number, under_binder, is_among, is_over, is_over_spine, escapes_from, spine_escapes_from}
use Rattle.unification.proofs.Tests.{is_among-next, is_over-from}
use Rattle.meta_patterns.specs.Variables.{HasBelow, under_binders}

pub has_local : (depth n : ℕ) (ns : List ℕ) → n < depth → has_number (under_binders depth ns) n ≡ true
has_local zero n ns less = absurd (omega arith)
has_local (suc depth) zero ns less = refl
has_local (suc depth) (suc n) ns less = is_among-next (under_binders depth ns) (bound n) ∙ has_local depth n ns (omega (arith, less))

pub has_outside : (depth n : ℕ) (ns : List ℕ) → depth ≤ n → has_number (under_binders depth ns) n ≡ has_number ns (n - depth)
has_outside zero n ns far = let same : n ≡ n - 0 = omega arith in ap (has_number ns) same
has_outside (suc depth) zero ns far = absurd (omega arith)
has_outside (suc depth) (suc n) ns far =
    let same : n - depth ≡ suc n - suc depth = omega arith in
    is_among-next (under_binders depth ns) (bound n) ∙ has_outside depth n ns (omega (arith, far)) ∙ ap (has_number ns) same

pub under_one_more : (depth : ℕ) (ns : List ℕ) → under_binders (depth + 1) ns ≡ under_binder (under_binders depth ns)
under_one_more depth ns = ap (λ k. under_binders k ns) (add-one depth)

pub below_under : (depth limit total : ℕ) (ns : List ℕ) → HasBelow ns limit → total ≤ depth + limit → HasBelow (under_binders depth ns) total
below_under depth limit total ns below small n less = either (cases_lt n depth)
  where
    either : (n < depth) ⊎ (depth ≤ n) → has_number (under_binders depth ns) n ≡ true
    either (inl inside) = has_local depth n ns inside
    either (inr far) = has_outside depth n ns far ∙ below (n - depth) (omega (arith, far, small, less))

-- All variables that occur are below such a number.
below_occurs : (limit : ℕ) (ns : List ℕ) (Occurring : LfHead → Type 0) → HasBelow ns limit → StaysWithin limit Occurring → (n : ℕ) → Occurring (bound n) → has_number ns n ≡ true
below_occurs limit ns Occurring below within n here = either (cases_lt n limit)
  where
    either : (n < limit) ⊎ (limit ≤ n) → has_number ns n ≡ true
    either (inl inside) = below n inside
    either (inr far) = absurd (within n far here)

pub within_over : (limit : ℕ) (ns : List ℕ) (t : LfTerm) → HasBelow ns limit → StaysWithin limit (InTerm t) → is_over ns t ≡ true
within_over limit ns t below within = is_over-from t ns (below_occurs limit ns (InTerm t) below within)

pub within_over_spine : (limit : ℕ) (ns : List ℕ) (ts : Spine) → HasBelow ns limit → StaysWithin limit (InSpine ts) → is_over_spine ns ts ≡ true
within_over_spine limit ns ts below within = is_over-from (at (constant 0) ts) ns (λ n o. each n (in_args n o))
  where
    in_args : (n : ℕ) → OccursIn (bound n) (at (constant 0) ts) → OccursInSpine (bound n) ts
    in_args n (occurs_args _ _ _ o) = o

    each : (n : ℕ) → OccursInSpine (bound n) ts → has_number ns n ≡ true
    each n o = below_occurs limit ns (InSpine ts) below within n o

mutual
  over_no_escape : (t : LfTerm) (ns : List ℕ) → is_over ns t ≡ true → escapes_from ns t ≡ false
  over_no_escape (lam b) ns e = over_no_escape b (under_binder ns) e
  over_no_escape (at h ts) ns e =
      let both = and_parts (is_among ns h) (is_over_spine ns ts) e in
      ap (λ b. not b || (is_rigid h && spine_escapes_from ns ts)) both.0 ∙ ap (λ b. is_rigid h && b) (over_no_escape_spine ts ns both.1) ∙ and-false (is_rigid h)

  over_no_escape_spine : (ts : Spine) (ns : List ℕ) → is_over_spine ns ts ≡ true → spine_escapes_from ns ts ≡ false
  over_no_escape_spine no_args ns e = refl
  over_no_escape_spine (arg t ts) ns e =
      let both = and_parts (is_over ns t) (is_over_spine ns ts) e in
      ap (λ b. b || spine_escapes_from ns ts) (over_no_escape t ns both.0) ∙ over_no_escape_spine ts ns both.1

pub within_no_escape : (limit : ℕ) (ns : List ℕ) (t : LfTerm) → HasBelow ns limit → StaysWithin limit (InTerm t) → escapes_from ns t ≡ false
within_no_escape limit ns t below within = over_no_escape t ns (within_over limit ns t below within)

pub within_no_escape_spine : (limit : ℕ) (ns : List ℕ) (ts : Spine) → HasBelow ns limit → StaysWithin limit (InSpine ts) → spine_escapes_from ns ts ≡ false
within_no_escape_spine limit ns ts below within = over_no_escape_spine ts ns (within_over_spine limit ns ts below within)
