-- Replacements that go from one typing to another.
use Rattle.std.specs.Prelude.{◌≡◌, ℕ, ◌<◌, Some}
use Rattle.lf_definitions.specs.Syntax.{LfHead, LfTerm, LfType, LfKind, shape_of, shape_size}
use Rattle.lf_definitions.specs.Substitution.{Image, stays, becomes, Replacement, SubstitutedType, SubstitutedContext}
use Rattle.lf_definitions.specs.Shaping.{ShapedType}
use Rattle.lf_definitions.specs.Typing.{Typing, Typed, Kinds, shapes_of, shapes_of_kinds}

-- An image has a type. Where it is a term, the shape of the type is smaller than a bound.
pub data HasTypeOf : Typing → ℕ → Image → LfType → Type 0 where
  typed_stays : {Δ : Typing} {p : ℕ} {k : LfHead} {c : LfType} → Δ k ≡ Some c → HasTypeOf Δ p (stays k) c
  typed_becomes : {Δ : Typing} {p : ℕ} {u : LfTerm} {c : LfType} → Typed Δ u c → shape_size (shape_of c) < p → HasTypeOf Δ p (becomes u) c

-- the image of a head of type `a` has the type that the replacement makes of `a`
abbrev pub GivesType : Typing → ℕ → Replacement → Image → LfType → Type 0
GivesType Δ p σ i a = (c : LfType) × SubstitutedType σ a c × HasTypeOf Δ p i c

-- A replacement goes from one typing to another where the image of each head has the type that the replacement makes of the head's type.
abbrev pub GoesTyped : ℕ → Typing → Typing → Replacement → Type 0
GoesTyped p Γ Δ σ = (h : LfHead) (a : LfType) → Γ h ≡ Some a → GivesType Δ p σ (σ h) a

-- A replacement leaves all kinds as they are.
abbrev pub KeepsKinds : Kinds → Replacement → Type 0
KeepsKinds kinds σ = (f : ℕ) (kind : LfKind) → kinds f ≡ Some kind → SubstitutedContext σ kind kind

-- A type is shaped by the shapes of kinds and of the types of heads.
abbrev pub IsShapedIn : Kinds → Typing → LfType → Type 0
IsShapedIn kinds Γ = ShapedType (shapes_of_kinds kinds) (shapes_of Γ)
