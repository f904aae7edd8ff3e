-- Replacements that go from one scope to another, and one after another.
use Rattle.std.specs.Prelude.{◌≡◌, ℕ, ◌<◌, Some}
use Rattle.lf_definitions.specs.Syntax.{LfHead, LfTerm, SimpleType, shape_size}
use Rattle.lf_definitions.specs.Shaping.{Scope, Shaped}
use Rattle.lf_definitions.specs.Substitution.{Image, stays, becomes, Replacement, Substituted}

-- An image has the shape of its head. Where it is a term, the shape is smaller than a bound.
pub data Fits : Scope → ℕ → Image → SimpleType → Type 0 where
  fits_stays : {Δ : Scope} {p : ℕ} {k : LfHead} {s : SimpleType} → Δ k ≡ Some s → Fits Δ p (stays k) s
  fits_becomes : {Δ : Scope} {p : ℕ} {u : LfTerm} {s : SimpleType} → Shaped Δ u s → shape_size s < p → Fits Δ p (becomes u) s

-- A replacement goes from one scope to another where the image of each head fits its shape.
abbrev pub Goes : ℕ → Scope → Scope → Replacement → Type 0
Goes p Γ Δ σ = (h : LfHead) (s : SimpleType) → Γ h ≡ Some s → Fits Δ p (σ h) s

-- what `τ` makes of an image
pub data Then (τ : Replacement) : Image → Image → Type 0 where
  then_stays : {k : LfHead} {i : Image} → τ k ≡ i → Then τ (stays k) i
  then_becomes : {u r : LfTerm} → Substituted τ u r → Then τ (becomes u) (becomes r)

-- `ρ` does to each head what `σ` and then `τ` do.
abbrev pub IsThen : Replacement → Replacement → Replacement → Type 0
IsThen σ τ ρ = (h : LfHead) → Then τ (σ h) (ρ h)
