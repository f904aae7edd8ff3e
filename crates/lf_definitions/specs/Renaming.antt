-- Renaming: each head of a term becomes another head.
use Rattle.std.specs.Prelude.{ℕ, zero, suc, [], ◌∷◌}
use Rattle.lf_definitions.specs.Syntax.{LfHead, bound, constant, metavariable, LfTerm, lam, at, Spine, no_args, arg, LfType, pi, family, Context}

-- a head as it is seen from under one more binder
abbrev pub next : LfHead → LfHead
next (bound n) = bound (suc n)
next (constant c) = constant c
next (metavariable g) = metavariable g

-- What is known of each head, under one more binder: `newest` of its variable, and of every other head what `older` says of it outside.
abbrev pub extended {ℓ} : {A : Type ℓ} → A → (LfHead → A) → LfHead → A
extended newest older (bound zero) = newest
extended newest older (bound (suc n)) = older (bound n)
extended newest older (constant c) = older (constant c)
extended newest older (metavariable g) = older (metavariable g)

-- what each head becomes
abbrev pub Renaming : Type 0
Renaming = LfHead → LfHead

-- A binder's own variable keeps its name.
abbrev pub lifted : Renaming → Renaming
lifted ξ = extended (bound zero) (λ h. next (ξ h))

abbrev mutual
  pub rename : Renaming → LfTerm → LfTerm
  rename ξ (lam b) = lam (rename (lifted ξ) b)
  rename ξ (at h ts) = at (ξ h) (rename_spine ξ ts)

  pub rename_spine : Renaming → Spine → Spine
  rename_spine ξ no_args = no_args
  rename_spine ξ (arg t ts) = arg (rename ξ t) (rename_spine ξ ts)

abbrev pub rename_type : Renaming → LfType → LfType
rename_type ξ (pi a b) = pi (rename_type ξ a) (rename_type (lifted ξ) b)
rename_type ξ (family f args) = family f (rename_spine ξ args)

-- A context, or a kind: each entry is in the scope of those before it.
abbrev pub rename_context : Renaming → Context → Context
rename_context ξ [] = []
rename_context ξ (a ∷ rest) = rename_type ξ a ∷ rename_context (lifted ξ) rest

-- a term as it is seen from under one more binder
abbrev pub raise : LfTerm → LfTerm
raise = rename next

abbrev pub raise_spine : Spine → Spine
raise_spine = rename_spine next

abbrev pub raise_type : LfType → LfType
raise_type = rename_type next

-- the same under so many binders
abbrev pub next_by : ℕ → LfHead → LfHead
next_by zero h = h
next_by (suc n) h = next_by n (next h)

abbrev pub lifted_by : ℕ → Renaming → Renaming
lifted_by zero ξ = ξ
lifted_by (suc n) ξ = lifted_by n (lifted ξ)
