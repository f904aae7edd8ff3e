-- The test of a type looks up the heads that occur alone, and each metavariable among them has a type.
use Rattle.std.proofs.Common.{◌≡◌, ℕ, zero, suc, Option, Some, None, option_map, refl, ap, ap₂, ◌∙◌}
use Rattle.std.specs.Prelude.{Bool, true, ◌&&◌}
use Rattle.std.proofs.lemmas.Bool.{and_parts}
use Rattle.lf_definitions.specs.Syntax.{LfHead, bound, constant, metavariable, LfTerm, lam, at, Spine, no_args, arg, LfType, pi, family, shape_of, shape_size}
use Rattle.lf_definitions.specs.Renaming.{next, raise_type}
use Rattle.lf_definitions.specs.Occurrence.{OccursIn, occurs_head, occurs_args, occurs_lam, OccursInSpine, occurs_first, occurs_later}
use Rattle.lf_definitions.specs.Substitution.{Replacement, stays, push}
use Rattle.lf_definitions.specs.Typing.{Typing, with_variable}
use Rattle.lf_functions.specs.Replacing.{replaced_in_type}
use Rattle.lf_functions.specs.Checking.{passes, is_typed, takes_to}

-- Typings agree on some heads.
abbrev SameTypes : (LfHead → Type 0) → Typing → Typing → Type 0
SameTypes P Γ Δ = (h : LfHead) → P h → Δ h ≡ Γ h

SameTypes-with_variable : (P : LfHead → Type 0) (Γ Δ : Typing) (a : LfType) → SameTypes (λ h. P (next h)) Γ Δ → SameTypes P (with_variable a Γ) (with_variable a Δ)
SameTypes-with_variable P Γ Δ a same (bound zero) o = refl
SameTypes-with_variable P Γ Δ a same (bound (suc n)) o = ap (option_map raise_type) (same (bound n) o)
SameTypes-with_variable P Γ Δ a same (constant c) o = same (constant c) o
SameTypes-with_variable P Γ Δ a same (metavariable g) o = same (metavariable g) o

passes-same : (o : Option LfType) (test other : LfType → Bool) → ((a : LfType) → other a ≡ test a) → passes o other ≡ passes o test
passes-same None test other each = refl
passes-same (Some a) test other each = each a

mutual
  pub is_typed-same : (t : LfTerm) (a : LfType) (Γ Δ : Typing) → SameTypes (λ h. OccursIn h t) Γ Δ → is_typed Δ t a ≡ is_typed Γ t a
  is_typed-same (lam b) (pi a c) Γ Δ same = is_typed-same b c (with_variable a Γ) (with_variable a Δ) (SameTypes-with_variable (λ h. OccursIn h b) Γ Δ a (λ h o. same h (occurs_lam h b o)))
  is_typed-same (lam b) (family f results) Γ Δ same = refl
  is_typed-same (at h ts) (pi a c) Γ Δ same = refl
  is_typed-same (at h ts) (family f results) Γ Δ same =
      let test : LfType → Bool = λ a. takes_to (shape_size (shape_of a)) Γ stays ts a (family f results) in
      let other : LfType → Bool = λ a. takes_to (shape_size (shape_of a)) Δ stays ts a (family f results) in
      ap (λ o. passes o other) (same h (occurs_head h ts))
      ∙ passes-same (Γ h) test other (λ a. takes_to-same ts (shape_size (shape_of a)) Γ Δ (λ k o. same k (occurs_args k h ts o)) stays a (family f results))

  takes_to-same : (ts : Spine) (depth : ℕ) (Γ Δ : Typing) → SameTypes (λ h. OccursInSpine h ts) Γ Δ → (σ : Replacement) (a result : LfType) → takes_to depth Δ σ ts a result ≡ takes_to depth Γ σ ts a result
  takes_to-same no_args depth Γ Δ same σ a result = refl
  takes_to-same (arg t ts) depth Γ Δ same σ (pi a b) result =
      ap₂ (λ x y. x && y) (is_typed-same t (replaced_in_type depth σ a) Γ Δ (λ h o. same h (occurs_first h t ts o)))
      (takes_to-same ts depth Γ Δ (λ h o. same h (occurs_later h t ts o)) (push t σ) b result)
  takes_to-same (arg t ts) depth Γ Δ same σ (family f args) result = refl

-- A metavariable that occurs in what is typed has a type.
abbrev Knows : Typing → LfHead → Type 0
Knows Γ h = (b : LfType) × (Γ h ≡ Some b)

passed : (Γ : Typing) (h : LfHead) (o : Option LfType) (test : LfType → Bool) → Γ h ≡ o → passes o test ≡ true → (a : LfType) × (Γ h ≡ Some a) × (test a ≡ true)
passed Γ h None test is e = absurd cc
passed Γ h (Some a) test is e = (a, is, e)

mutual
  pub knows_term : (t : LfTerm) (a : LfType) (Γ : Typing) → is_typed Γ t a ≡ true → (g : ℕ) → OccursIn (metavariable g) t → Knows Γ (metavariable g)
  knows_term (lam b) (pi a c) Γ e g (occurs_lam _ _ o) = knows_term b c (with_variable a Γ) e g o
  knows_term (lam b) (family f results) Γ e g o = absurd cc
  knows_term (at h ts) (pi a c) Γ e g o = absurd cc
  knows_term (at h ts) (family f results) Γ e g (occurs_head _ _) = let r = passed Γ h (Γ h) (λ a. takes_to (shape_size (shape_of a)) Γ stays ts a (family f results)) refl e in (r.0, r.1)
  knows_term (at h ts) (family f results) Γ e g (occurs_args _ _ _ o) =
      let r = passed Γ h (Γ h) (λ a. takes_to (shape_size (shape_of a)) Γ stays ts a (family f results)) refl e in
      knows_spine ts (shape_size (shape_of r.0)) Γ stays r.0 (family f results) r.2 g o

  knows_spine : (ts : Spine) (depth : ℕ) (Γ : Typing) (σ : Replacement) (a result : LfType) → takes_to depth Γ σ ts a result ≡ true → (g : ℕ) → OccursInSpine (metavariable g) ts → Knows Γ (metavariable g)
  knows_spine no_args depth Γ σ a result e g o = elim o [ ]
  knows_spine (arg t ts) depth Γ σ (pi a b) result e g (occurs_first _ _ _ o) =
      knows_term t (replaced_in_type depth σ a) Γ (and_parts (is_typed Γ t (replaced_in_type depth σ a)) (takes_to depth Γ (push t σ) ts b result) e).0 g o
  knows_spine (arg t ts) depth Γ σ (pi a b) result e g (occurs_later _ _ _ o) =
      knows_spine ts depth Γ (push t σ) b result (and_parts (is_typed Γ t (replaced_in_type depth σ a)) (takes_to depth Γ (push t σ) ts b result) e).1 g o
  knows_spine (arg t ts) depth Γ σ (family f args) result e g o = absurd cc
