-- Hereditary substitution, as a relation.
use Rattle.std.specs.Prelude.{◌≡◌, ℕ, zero, suc, [], ◌∷◌}
use Rattle.lf_definitions.specs.Syntax.{LfHead, bound, LfTerm, lam, at, Spine, no_args, arg, LfType, pi, family, Context}
use Rattle.lf_definitions.specs.Renaming.{next, extended, Renaming, rename}

-- A head stays, under a number that may be another, or a term is put in its place.
pub data Image : Type 0 where
  stays : LfHead → Image
  becomes : LfTerm → Image

abbrev pub rename_image : Renaming → Image → Image
rename_image ξ (stays h) = stays (ξ h)
rename_image ξ (becomes u) = becomes (rename ξ u)

-- what happens to each head
abbrev pub Replacement : Type 0
Replacement = LfHead → Image

-- Under a binder its own variable stays.
abbrev pub up : Replacement → Replacement
up σ = extended (stays (bound zero)) (λ h. rename_image next (σ h))

-- under so many binders
abbrev pub up_by : ℕ → Replacement → Replacement
up_by zero σ = σ
up_by (suc n) σ = up_by n (up σ)

-- The innermost variable becomes `u`, and the numbers of the others fall by one.
abbrev pub push : LfTerm → Replacement → Replacement
push u σ = extended (becomes u) σ

-- The innermost variables become the terms of a list, in which the oldest is first, and the numbers of the others fall by its length.
abbrev pub push_all : Spine → Replacement → Replacement
push_all no_args σ = σ
push_all (arg u us) σ = push_all us (push u σ)

mutual
  pub data Substituted : Replacement → LfTerm → LfTerm → Type 0 where
    -- An abstraction gives the abstraction of its body's result, under one more variable that stays.
    substituted_lam : {σ : Replacement} {b r : LfTerm} → Substituted (up σ) b r → Substituted σ (lam b) (lam r)
    -- A spine whose head stays keeps its head, over the results of its arguments.
    substituted_stays : {σ : Replacement} {h k : LfHead} {ts vs : Spine} → σ h ≡ stays k → SubstitutedSpine σ ts vs → Substituted σ (at h ts) (at k vs)
    -- A spine whose head is replaced by `u`: let `vs` be the results of its arguments. Then the result is that of `u` applied to `vs`.
    substituted_becomes : {σ : Replacement} {h : LfHead} {ts : Spine} {r : LfTerm} (u : LfTerm) (vs : Spine) → σ h ≡ becomes u → SubstitutedSpine σ ts vs → Applied stays u vs r → Substituted σ (at h ts) r

  -- the results of arguments, one by one
  pub data SubstitutedSpine : Replacement → Spine → Spine → Type 0 where
    substituted_none : {σ : Replacement} → SubstitutedSpine σ no_args no_args
    substituted_arg : {σ : Replacement} {t v : LfTerm} {ts vs : Spine} → Substituted σ t v → SubstitutedSpine σ ts vs → SubstitutedSpine σ (arg t ts) (arg v vs)

  -- Strip `u` of as many abstractions as there are arguments. The result is that of the stripped body with the arguments put for the variables of
  -- those abstractions, by the same relation.
  pub data Applied : Replacement → LfTerm → Spine → LfTerm → Type 0 where
    applied_none : {σ : Replacement} {b r : LfTerm} → Substituted σ b r → Applied σ b no_args r
    applied_arg : {σ : Replacement} {b v r : LfTerm} {vs : Spine} → Applied (push v σ) b vs r → Applied σ (lam b) (arg v vs) r

-- The result of a term with a list `sub` for the innermost variables outside so many local binders: of the variables outside those, with the list's length `m`,
-- number `m - 1 - k` becomes `sub[k]`, and greater numbers fall by `m`.
abbrev pub Substitutes : Spine → ℕ → LfTerm → LfTerm → Type 0
Substitutes sub local = Substituted (up_by local (push_all sub stays))

abbrev pub SubstitutesSpine : Spine → ℕ → Spine → Spine → Type 0
SubstitutesSpine sub local = SubstitutedSpine (up_by local (push_all sub stays))

-- in a type, in each of its terms
pub data SubstitutedType : Replacement → LfType → LfType → Type 0 where
  substituted_pi : {σ : Replacement} {a b c d : LfType} → SubstitutedType σ a c → SubstitutedType (up σ) b d → SubstitutedType σ (pi a b) (pi c d)
  substituted_family : {σ : Replacement} {f : ℕ} {ts vs : Spine} → SubstitutedSpine σ ts vs → SubstitutedType σ (family f ts) (family f vs)

-- in a context, or a kind, each of whose entries is in the scope of those before it
pub data SubstitutedContext : Replacement → Context → Context → Type 0 where
  substituted_empty : {σ : Replacement} → SubstitutedContext σ [] []
  substituted_entry : {σ : Replacement} {a c : LfType} {rest results : Context} → SubstitutedType σ a c → SubstitutedContext (up σ) rest results →
      SubstitutedContext σ (a ∷ rest) (c ∷ results)
