-- Further laws of what replacements make of terms, on all data.
use Rattle.std.specs.Prelude.{◌≡◌, ℕ, [], ◌∷◌, length}
use Rattle.lf_definitions.specs.Syntax.{LfHead, LfTerm, lam, at, Spine, no_args, arg, LfType, pi, family, LfAtom, atomic, Context, shape_of, shapes_of_types}
use Rattle.lf_definitions.specs.Renaming.{rename, rename_spine, rename_type, rename_context}
use Rattle.lf_definitions.specs.Substitution.{stays, rename_image, Replacement, up}
use Rattle.lf_definitions.specs.Occurrence.{OccursIn, OccursInSpine, OccursInType, OccursInContext}
use Rattle.lf_definitions.specs.Instantiation.{metavariables}
use Rattle.renamed_unification.specs.Laws.{rename_atom}
use Rattle.lf_functions.specs.Replacing.{replaced, replaced_in_spine, replaced_in_type, replaced_in_atom, replaced_in_context}

-- A replacement goes part by part, and under binders its image is raised.
abbrev pub ReplacedGoesPartByPart : Type 0
ReplacedGoesPartByPart =
    (depth : ℕ) (σ : Replacement) →
    ((b : LfTerm) → replaced depth σ (lam b) ≡ lam (replaced depth (up σ) b))
    × ((h k : LfHead) (ts : Spine) → σ h ≡ stays k → replaced depth σ (at h ts) ≡ at k (replaced_in_spine depth σ ts))
    × (replaced_in_spine depth σ no_args ≡ no_args)
    × ((t : LfTerm) (ts : Spine) → replaced_in_spine depth σ (arg t ts) ≡ arg (replaced depth σ t) (replaced_in_spine depth σ ts))
    × ((a b : LfType) → replaced_in_type depth σ (pi a b) ≡ pi (replaced_in_type depth σ a) (replaced_in_type depth (up σ) b))
    × ((f : ℕ) (args : Spine) → replaced_in_type depth σ (family f args) ≡ family f (replaced_in_spine depth σ args))
    × ((a : LfAtom) → atomic (replaced_in_atom depth σ a) ≡ replaced_in_type depth σ (atomic a))
    × (replaced_in_context depth σ [] ≡ [])
    × ((a : LfType) (rest : Context) → replaced_in_context depth σ (a ∷ rest) ≡ replaced_in_type depth σ a ∷ replaced_in_context depth (up σ) rest)

-- Types and contexts keep their shapes.
abbrev pub ReplacedKeepsShapes : Type 0
ReplacedKeepsShapes =
    (depth : ℕ) (σ : Replacement) →
    ((a : LfType) → shape_of (replaced_in_type depth σ a) ≡ shape_of a)
    × ((ctx : Context) → shapes_of_types (replaced_in_context depth σ ctx) ≡ shapes_of_types ctx)
    × ((ctx : Context) → length (replaced_in_context depth σ ctx) ≡ length ctx)

-- Where `τ` does to renamed heads what `σ` does to heads, renamed, what it makes of something renamed is what `σ` makes of it, renamed.
abbrev pub ReplacedIsRenamed : Type 0
ReplacedIsRenamed =
    (depth : ℕ) (ρ : ℕ → ℕ) (σ τ : Replacement) → ((h : LfHead) → τ (metavariables ρ h) ≡ rename_image (metavariables ρ) (σ h)) →
    ((t : LfTerm) → replaced depth τ (rename (metavariables ρ) t) ≡ rename (metavariables ρ) (replaced depth σ t))
    × ((ts : Spine) → replaced_in_spine depth τ (rename_spine (metavariables ρ) ts) ≡ rename_spine (metavariables ρ) (replaced_in_spine depth σ ts))
    × ((a : LfType) → replaced_in_type depth τ (rename_type (metavariables ρ) a) ≡ rename_type (metavariables ρ) (replaced_in_type depth σ a))
    × ((a : LfAtom) → replaced_in_atom depth τ (rename_atom ρ a) ≡ rename_atom ρ (replaced_in_atom depth σ a))
    × ((ctx : Context) → replaced_in_context depth τ (rename_context (metavariables ρ) ctx) ≡ rename_context (metavariables ρ) (replaced_in_context depth σ ctx))

-- Replacements that agree on the heads that occur make the same of a term.
abbrev pub ReplacedLooksAtWhatOccurs : Type 0
ReplacedLooksAtWhatOccurs =
    (depth : ℕ) (σ τ : Replacement) →
    ((t : LfTerm) → ((h : LfHead) → OccursIn h t → σ h ≡ τ h) → replaced depth σ t ≡ replaced depth τ t)
    × ((ts : Spine) → ((h : LfHead) → OccursInSpine h ts → σ h ≡ τ h) → replaced_in_spine depth σ ts ≡ replaced_in_spine depth τ ts)
    × ((a : LfType) → ((h : LfHead) → OccursInType h a → σ h ≡ τ h) → replaced_in_type depth σ a ≡ replaced_in_type depth τ a)
    × ((a : LfAtom) → ((h : LfHead) → OccursInSpine h a.atom_args → σ h ≡ τ h) → replaced_in_atom depth σ a ≡ replaced_in_atom depth τ a)
    × ((ctx : Context) → ((h : LfHead) → OccursInContext h ctx → σ h ≡ τ h) → replaced_in_context depth σ ctx ≡ replaced_in_context depth τ ctx)

-- Where each head that occurs stays, nothing changes.
abbrev pub UnreplacedIsTheSame : Type 0
UnreplacedIsTheSame =
    (depth : ℕ) (σ : Replacement) →
    ((t : LfTerm) → ((h : LfHead) → OccursIn h t → σ h ≡ stays h) → replaced depth σ t ≡ t)
    × ((ts : Spine) → ((h : LfHead) → OccursInSpine h ts → σ h ≡ stays h) → replaced_in_spine depth σ ts ≡ ts)
    × ((a : LfType) → ((h : LfHead) → OccursInType h a → σ h ≡ stays h) → replaced_in_type depth σ a ≡ a)
    × ((a : LfAtom) → ((h : LfHead) → OccursInSpine h a.atom_args → σ h ≡ stays h) → replaced_in_atom depth σ a ≡ a)
    × ((ctx : Context) → ((h : LfHead) → OccursInContext h ctx → σ h ≡ stays h) → replaced_in_context depth σ ctx ≡ ctx)
