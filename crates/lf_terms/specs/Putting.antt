-- Putting a list for variables under local binders, while the variables outside rise by a number: what each step of a substitution asks and gives.
use Rattle.std.specs.Prelude.{◌≡◌, ℕ, List, length, Option, Some}
use Rattle.lf_definitions.specs.Syntax.{LfHead, LfTerm, at, lams, Spine, SimpleType, LfType}
use Rattle.lf_definitions.specs.Renaming.{next_by}
use Rattle.lf_definitions.specs.Shaping.{Scope, under_all, Shaped, ShapedSpine, ShapedList, ShapedType}
use Rattle.lf_definitions.specs.Substitution.{stays, becomes, Replacement, up_by, push_all, Applied}

abbrev pub putting : Spine → ℕ → ℕ → Replacement
putting sub by local = up_by local (push_all sub (λ h. stays (next_by by h)))

-- What comes of a head with the results of its arguments: the head that it becomes, or the term put for it, applied to them.
pub data PutAt (σ : Replacement) : LfHead → Spine → LfTerm → Type 0 where
  put_stays : {h k : LfHead} {vs : Spine} → σ h ≡ stays k → PutAt σ h vs (at k vs)
  put_becomes : {h : LfHead} {vs : Spine} {r : LfTerm} (u : LfTerm) → σ h ≡ becomes u → Applied stays u vs r → PutAt σ h vs r

-- The list goes from a scope to a target, and something has a shape between the two, under the local binders.
pub record Puts (sub : Spine) (shapes : List SimpleType) (by depth : ℕ) (HasShape : Scope → Scope → SimpleType → Type 0) : Type 0 where
  pub outer : Scope
  pub target : Scope
  pub local : List SimpleType
  pub shape : SimpleType
  pub depth_is : length local ≡ depth
  pub keeps : (h : LfHead) (s : SimpleType) → outer h ≡ Some s → target (next_by by h) ≡ Some s
  pub shaped_sub : ShapedList target sub shapes
  pub shaped : HasShape (under_all local (under_all shapes outer)) (under_all local target) shape

abbrev pub TermShaped : LfTerm → Scope → Scope → SimpleType → Type 0
TermShaped t Γ Δ s = Shaped Γ t s

abbrev pub ArgsShaped : Spine → Scope → Scope → SimpleType → Type 0
ArgsShaped ts Γ Δ s = ShapedSpine Γ ts s

-- by some shapes of kinds
abbrev pub TypeShaped : LfType → Scope → Scope → SimpleType → Type 0
TypeShaped a Γ Δ s = (kinds : ℕ → Option SimpleType) × ShapedType kinds Γ a

-- Whatever scopes the list goes between, what is shaped in the first has a result that is shaped alike in the second.
abbrev pub TermStaysShaped : Spine → List SimpleType → ℕ → ℕ → LfTerm → LfTerm → Type 0
TermStaysShaped sub shapes by depth t r = (p : Puts sub shapes by depth (TermShaped t)) → Shaped (under_all p.local p.target) r p.shape

abbrev pub ArgsStayShaped : Spine → List SimpleType → ℕ → ℕ → Spine → Spine → Type 0
ArgsStayShaped sub shapes by depth ts rs = (p : Puts sub shapes by depth (ArgsShaped ts)) → ShapedSpine (under_all p.local p.target) rs p.shape

abbrev pub TypeStaysShaped : Spine → List SimpleType → ℕ → ℕ → LfType → LfType → Type 0
TypeStaysShaped sub shapes by depth a b = (p : Puts sub shapes by depth (TypeShaped a)) → ShapedType p.shaped.0 (under_all p.local p.target) b

-- a head before, with the results of its arguments after
abbrev pub HeadShaped : LfHead → Spine → Scope → Scope → SimpleType → Type 0
HeadShaped h vs Γ Δ s = (Γ h ≡ Some s) × ShapedSpine Δ vs s

-- a term that begins with so many abstractions
abbrev pub HasLams : ℕ → LfTerm → Type 0
HasLams n u = (b : LfTerm) × (u ≡ lams n b)
