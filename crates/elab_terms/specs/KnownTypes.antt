-- What is known at a place in a term or a type.
use Rattle.std.specs.Prelude.{◌≡◌, ℕ, ◌<◌, [], length, Some}
use Rattle.lf_definitions.specs.Syntax.{bound, constant, metavariable, LfType}
use Rattle.lf_definitions.specs.Shaping.{ShapedType}
use Rattle.lf_definitions.specs.Typing.{Typing, Kinds, shapes_of}
use Rattle.lf_definitions.specs.Signatures.{LfSignature, kinds_in}
use Rattle.lf_definitions.specs.ShapedGoals.{ShapedTyping, kind_shapes_in}
use Rattle.lf_definitions.specs.Laws.{Closed}
use Rattle.lf_kernel.specs.declared.local_context.LocalContext.{LocalContext}
use Rattle.lf_kernel.specs.Heads.{typing_at}
use Rattle.elab_terms.specs.Names.{Bound}
use Rattle.elab_terms.specs.declared.elab_fault.ElabFault.{ElabFault}
use Rattle.elab_terms.specs.declared.elab_fault.ElabFault.TheVariants.{NoMemory}

-- All types are shaped, and those of constants and metavariables speak of no variable.
pub record Founded (kinds : Kinds) (Γ : Typing) : Type 0 where
  pub shaped : ShapedTyping kinds Γ
  pub constants : (c : ℕ) (a : LfType) → Γ (constant c) ≡ Some a → Closed a
  pub metavariables : (g : ℕ) (a : LfType) → Γ (metavariable g) ≡ Some a → Closed a

-- Each binder's variable has a type.
abbrev pub HaveTypes : Bound → Typing → Type 0
HaveTypes binders Γ = (n : ℕ) → n < length binders → (a : LfType) × (Γ (bound n) ≡ Some a)

-- the types of heads, with no metavariables
abbrev pub known_typing : LfSignature → LocalContext → Typing
known_typing sig scope = typing_at sig [] scope

pub record KnownAt (sig : LfSignature) (Γ : Typing) (binders : Bound) : Type 0 where
  pub founded : Founded (kinds_in sig) Γ
  pub have_types : HaveTypes binders Γ

-- a type that a term is read at
abbrev pub IsWanted : LfSignature → Typing → LfType → Type 0
IsWanted sig Γ a = ShapedType (kind_shapes_in sig) (shapes_of Γ) a

-- Out of memory says nothing of what is read; any other fault is its refusal.
abbrev pub IsRefusal : (ElabFault → Type 0) → ElabFault → Type 0
IsRefusal refuses NoMemory = Unit {0}
IsRefusal refuses fault = refuses fault
