-- Whether a term has a type, as a truth value that is total on all data.
use Rattle.std.specs.Prelude.{ℕ, List, Bool, true, false, ◌&&◌, Option, Some, None, nat_eq}
use Rattle.lf_definitions.specs.Syntax.{LfTerm, lam, at, Spine, no_args, arg, LfType, pi, family, Context, shape_of, shape_size}
use Rattle.lf_definitions.specs.Substitution.{Replacement, stays, push}
use Rattle.lf_definitions.specs.Typing.{Typing, with_variable, LfGoal}
use Rattle.lf_definitions.specs.Signatures.{LfSignature, typing_in}
use Rattle.head_laws.specs.Mentions.{same_head}
use Rattle.lf_functions.specs.Replacing.{replaced_in_type}

-- equality of syntax
abbrev mutual
  pub equal_terms : LfTerm → LfTerm → Bool
  equal_terms (lam b) (lam c) = equal_terms b c
  equal_terms (lam b) (at k us) = false
  equal_terms (at h ts) (lam c) = false
  equal_terms (at h ts) (at k us) = same_head h k && equal_spines ts us

  pub equal_spines : Spine → Spine → Bool
  equal_spines no_args no_args = true
  equal_spines no_args (arg u us) = false
  equal_spines (arg t ts) no_args = false
  equal_spines (arg t ts) (arg u us) = equal_terms t u && equal_spines ts us

abbrev pub equal_types : LfType → LfType → Bool
equal_types (pi a b) (pi c d) = equal_types a c && equal_types b d
equal_types (pi a b) (family g us) = false
equal_types (family f ts) (pi c d) = false
equal_types (family f ts) (family g us) = nat_eq f g && equal_spines ts us

-- a test of a type, where there is one
abbrev pub passes : Option LfType → (LfType → Bool) → Bool
passes None test = false
passes (Some a) test = test a

abbrev mutual
  -- An abstraction has a function type where its body has the result type, and a spine has an atomic type where its head's type takes its arguments to it.
  pub is_typed : Typing → LfTerm → LfType → Bool
  is_typed Γ (lam b) (pi a c) = is_typed (with_variable a Γ) b c
  is_typed Γ (lam b) (family f results) = false
  is_typed Γ (at h ts) (pi a c) = false
  is_typed Γ (at h ts) (family f results) = passes (Γ h) (λ a. takes_to (shape_size (shape_of a)) Γ stays ts a (family f results))

  -- A type takes arguments to a result where each has its binder's type, and the type under the binders is the result, all with the earlier arguments substituted.
  pub takes_to : ℕ → Typing → Replacement → Spine → LfType → LfType → Bool
  takes_to depth Γ σ no_args a result = equal_types (replaced_in_type depth σ a) result
  takes_to depth Γ σ (arg t ts) (pi a b) result = is_typed Γ t (replaced_in_type depth σ a) && takes_to depth Γ (push t σ) ts b result
  takes_to depth Γ σ (arg t ts) (family f args) result = false

-- Whether a term has a type, over a signature, among goals and in a context.
unfoldable pub has_type : LfSignature → List LfGoal → Context → LfTerm → LfType → Bool
has_type sig goals ctx t a = is_typed (typing_in sig goals ctx) t a
