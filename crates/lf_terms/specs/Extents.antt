-- What is kept of the heads that occur in something: a bound of the variables, and whether metavariables may be among them.
use Rattle.std.specs.Prelude.{◌≡◌, ℕ, ◌+◌, ◌<◌, ◌≤◌, false}
use Rattle.lf_definitions.specs.Syntax.{LfHead, bound, metavariable, LfTerm, Spine, LfType, Context}
use Rattle.lf_definitions.specs.Occurrence.{OccursIn, OccursInSpine, OccursInType, OccursInContext}
use Rattle.lf_terms.specs.declared.extent.Extent.{Extent}

-- the greatest bound, which says nothing
abbrev pub no_bound : ℕ
no_bound = 4294967295

-- None but these heads occur.
pub record Covers (e : Extent) (Occurring : LfHead → Type 0) : Type 0 where
  pub variables : e.reach < no_bound → (n : ℕ) → e.reach ≤ n → Occurring (bound n) → ⊥
  pub metavariables : e.metas ≡ false → (g : ℕ) → Occurring (metavariable g) → ⊥

-- The second covers what the first does.
pub record IsWider (a b : Extent) : Type 0 where
  pub reach_grows : a.reach ≤ b.reach
  pub metas_grow : b.metas ≡ false → a.metas ≡ false

-- what is kept, as it is seen from outside so many binders
pub record IsOutside (inside : Extent) (count : ℕ) (e : Extent) : Type 0 where
  pub reach_falls : e.reach < no_bound → (inside.reach < no_bound) × (inside.reach ≤ e.reach + count)
  pub metas_stay : e.metas ≡ inside.metas

-- No variable that is outside so many binders occurs.
abbrev pub StaysWithin : ℕ → (LfHead → Type 0) → Type 0
StaysWithin depth Occurring = (n : ℕ) → depth ≤ n → Occurring (bound n) → ⊥

-- No metavariable occurs.
abbrev pub ExcludesMetavariables : (LfHead → Type 0) → Type 0
ExcludesMetavariables Occurring = (g : ℕ) → Occurring (metavariable g) → ⊥

-- the heads that occur in a term, a list of terms, a type or a context
abbrev pub InTerm : LfTerm → LfHead → Type 0
InTerm t h = OccursIn h t

abbrev pub InSpine : Spine → LfHead → Type 0
InSpine ts h = OccursInSpine h ts

abbrev pub InType : LfType → LfHead → Type 0
InType a h = OccursInType h a

abbrev pub InContext : Context → LfHead → Type 0
InContext ctx h = OccursInContext h ctx

-- the one head
abbrev pub IsHead : LfHead → LfHead → Type 0
IsHead k h = h ≡ k
