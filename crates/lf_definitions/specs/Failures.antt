-- The first test of a term, a type, a context or a kind that fails, by the path to the part at which it fails.
-- The children of a type are its binders and then its arguments; those of a spine are its arguments; the body of an abstraction is child 0.
use Rattle.std.specs.Prelude.{◌≡◌, ◌≢◌, ℕ, suc, List, [], ◌∷◌, length, Some, None}
use Rattle.lf_definitions.specs.Syntax.{LfHead, LfTerm, lam, at, Spine, arg, LfType, pi, family, Context, LfKind, pis, args_count}
use Rattle.lf_definitions.specs.Substitution.{Replacement, stays, push, push_all, SubstitutedSpine, SubstitutedType}
use Rattle.lf_definitions.specs.Typing.{Typing, with_variable, Typed, TypedSpine, Kinds, Formed}

mutual
  -- A term fails to have a type.
  pub data FailsTerm : Typing → LfTerm → LfType → List ℕ → Type 0 where
    -- an abstraction at an atomic type
    fails_lam : (Γ : Typing) (b : LfTerm) (f : ℕ) (args : Spine) → FailsTerm Γ (lam b) (family f args) []
    -- a spine at a function type
    fails_at : (Γ : Typing) (h : LfHead) (ts : Spine) (a c : LfType) → FailsTerm Γ (at h ts) (pi a c) []
    -- the body of an abstraction
    fails_in_body : (Γ : Typing) (b : LfTerm) (a c : LfType) (path : List ℕ) → FailsTerm (with_variable a Γ) b c path → FailsTerm Γ (lam b) (pi a c) (0 ∷ path)
    -- a head that may not occur
    fails_head : (Γ : Typing) (h : LfHead) (ts : Spine) (f : ℕ) (results : Spine) → Γ h ≡ None → FailsTerm Γ (at h ts) (family f results) []
    -- the number of arguments
    fails_count : (Γ : Typing) (h : LfHead) (ts results : Spine) (f g : ℕ) (binders : List LfType) (args : Spine) → Γ h ≡ Some (pis binders (family g args)) →
        args_count ts ≢ length binders → FailsTerm Γ (at h ts) (family f results) []
    -- the first argument that fails
    fails_in_argument : (Γ : Typing) (h : LfHead) (ts results : Spine) (f g : ℕ) (binders : List LfType) (args : Spine) (path : List ℕ) →
        Γ h ≡ Some (pis binders (family g args)) → args_count ts ≡ length binders → FailsSpine Γ stays ts binders 0 path →
        FailsTerm Γ (at h ts) (family f results) path
    -- the result type
    fails_result : (Γ : Typing) (h : LfHead) (ts results found : Spine) (f g : ℕ) (binders : List LfType) (args : Spine) →
        Γ h ≡ Some (pis binders (family g args)) → TypedSpine Γ stays ts binders → SubstitutedSpine (push_all ts stays) args found →
        family g found ≢ family f results → FailsTerm Γ (at h ts) (family f results) []

  -- The first of the arguments that fails, where the first of them is this child.
  pub data FailsSpine : Typing → Replacement → Spine → List LfType → ℕ → List ℕ → Type 0 where
    fails_here : (Γ : Typing) (σ : Replacement) (t : LfTerm) (ts : Spine) (a c : LfType) (rest : List LfType) (child : ℕ) (path : List ℕ) →
        SubstitutedType σ a c → FailsTerm Γ t c path → FailsSpine Γ σ (arg t ts) (a ∷ rest) child (child ∷ path)
    fails_later : (Γ : Typing) (σ : Replacement) (t : LfTerm) (ts : Spine) (a c : LfType) (rest : List LfType) (child : ℕ) (path : List ℕ) →
        SubstitutedType σ a c → Typed Γ t c → FailsSpine Γ (push t σ) ts rest (suc child) path → FailsSpine Γ σ (arg t ts) (a ∷ rest) child path

-- A type fails to be well formed, where its first binder, or else its first argument, is this child.
pub data FailsTypeFrom : Kinds → Typing → LfType → ℕ → List ℕ → Type 0 where
  fails_binder : (kinds : Kinds) (Γ : Typing) (a b : LfType) (child : ℕ) (path : List ℕ) → FailsTypeFrom kinds Γ a 0 path →
      FailsTypeFrom kinds Γ (pi a b) child (child ∷ path)
  fails_rest : (kinds : Kinds) (Γ : Typing) (a b : LfType) (child : ℕ) (path : List ℕ) → Formed kinds Γ a →
      FailsTypeFrom kinds (with_variable a Γ) b (suc child) path → FailsTypeFrom kinds Γ (pi a b) child path
  -- no such family
  fails_family : (kinds : Kinds) (Γ : Typing) (f : ℕ) (args : Spine) (child : ℕ) → kinds f ≡ None → FailsTypeFrom kinds Γ (family f args) child []
  -- the number of its arguments
  fails_family_count : (kinds : Kinds) (Γ : Typing) (f : ℕ) (args : Spine) (child : ℕ) (binders : LfKind) → kinds f ≡ Some binders →
      args_count args ≢ length binders → FailsTypeFrom kinds Γ (family f args) child []
  fails_family_argument : (kinds : Kinds) (Γ : Typing) (f : ℕ) (args : Spine) (child : ℕ) (binders : LfKind) (path : List ℕ) → kinds f ≡ Some binders →
      args_count args ≡ length binders → FailsSpine Γ stays args binders child path → FailsTypeFrom kinds Γ (family f args) child path

abbrev pub FailsType : Kinds → Typing → LfType → List ℕ → Type 0
FailsType kinds Γ a path = FailsTypeFrom kinds Γ a 0 path

-- The first entry of a context, or binder of a kind, that fails, where the first of them is this child.
pub data FailsContextFrom : Kinds → Typing → Context → ℕ → List ℕ → Type 0 where
  fails_entry : (kinds : Kinds) (Γ : Typing) (a : LfType) (rest : Context) (child : ℕ) (path : List ℕ) → FailsType kinds Γ a path →
      FailsContextFrom kinds Γ (a ∷ rest) child (child ∷ path)
  fails_entries : (kinds : Kinds) (Γ : Typing) (a : LfType) (rest : Context) (child : ℕ) (path : List ℕ) → Formed kinds Γ a →
      FailsContextFrom kinds (with_variable a Γ) rest (suc child) path → FailsContextFrom kinds Γ (a ∷ rest) child path

abbrev pub FailsKind : Kinds → Typing → LfKind → List ℕ → Type 0
FailsKind kinds Γ binders path = FailsContextFrom kinds Γ binders 0 path
