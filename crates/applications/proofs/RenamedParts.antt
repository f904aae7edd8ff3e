-- What a renaming of metavariables does to the parts of types and contexts, and that it makes no difference whether variables are renamed before.
use Rattle.std.proofs.Common.{◌≡◌, ℕ, zero, suc, option_map, List, [], ◌∷◌, ◌++◌, length, refl, sym, ap, ap₂, ◌∙◌}
use mathlib.Core.Path.{fun_ext}
use Rattle.std.specs.Prelude.{take}
use Rattle.lf_definitions.specs.Syntax.{LfHead, bound, constant, metavariable, Spine, LfType, pi, family, LfAtom, Context, shapes_of_types, binders_of, conclusion_atom}
use Rattle.lf_definitions.specs.Renaming.{next, Renaming, lifted, next_by, rename_spine, rename_type, rename_context}
use Rattle.lf_definitions.specs.Typing.{LfGoal, type_at}
use Rattle.lf_definitions.specs.Instantiation.{metavariables, rename_goal}
use Rattle.lf_definitions.proofs.Renaming.{rename_spine-rename_spine, rename_type-rename_type}
use Rattle.lf_definitions.proofs.Types.{shape_of-rename_type}
use Rattle.lf_definitions.proofs.TypedSpines.{rename_context-append}
use Rattle.head_laws.proofs.Metavariables.{lifted-metavariables, lifted_by-metavariables}
use Rattle.renamed_unification.specs.Laws.{rename_atom}
use Rattle.opening_laws.specs.Openings.{keeping, returning, fresh_goal}
use Rattle.opening_laws.proofs.Kept.{keeping-bound, keeping-constant, keeping-metavariable, returning-bound, returning-constant, returning-metavariable}

-- A renaming of variables goes along with those of metavariables.
abbrev pub GoesAlongMetavariables : (ℕ → ℕ) → Renaming → Type 0
GoesAlongMetavariables ρ ξ = (h : LfHead) → metavariables ρ (ξ h) ≡ ξ (metavariables ρ h)

pub keeping-along : (ρ : ℕ → ℕ) (kept : List ℕ) (count : ℕ) → GoesAlongMetavariables ρ (keeping kept count)
keeping-along ρ kept count (bound n) = let seen = keeping-bound kept count n in ap (metavariables ρ) seen.1 ∙ sym seen.1
keeping-along ρ kept count (constant c) = ap (metavariables ρ) (keeping-constant kept count c) ∙ sym (keeping-constant kept count c)
keeping-along ρ kept count (metavariable g) = ap (metavariables ρ) (keeping-metavariable kept count g) ∙ sym (keeping-metavariable kept count (ρ g))

pub returning-along : (ρ : ℕ → ℕ) (kept : List ℕ) (count : ℕ) → GoesAlongMetavariables ρ (returning kept count)
returning-along ρ kept count (bound n) = let seen = returning-bound kept count n in ap (metavariables ρ) seen.1 ∙ sym seen.1
returning-along ρ kept count (constant c) = ap (metavariables ρ) (returning-constant kept count c) ∙ sym (returning-constant kept count c)
returning-along ρ kept count (metavariable g) = ap (metavariables ρ) (returning-metavariable kept count g) ∙ sym (returning-metavariable kept count (ρ g))

pub next-along : (ρ : ℕ → ℕ) → GoesAlongMetavariables ρ next
next-along ρ (bound n) = refl
next-along ρ (constant c) = refl
next-along ρ (metavariable g) = refl

pub next_by-along : (n : ℕ) (ρ : ℕ → ℕ) → GoesAlongMetavariables ρ (next_by n)
next_by-along zero ρ h = refl
next_by-along (suc n) ρ h = next_by-along n ρ (next h) ∙ ap (next_by n) (next-along ρ h)

pub rename_type-along : (ρ : ℕ → ℕ) (ξ : Renaming) → GoesAlongMetavariables ρ ξ → (a : LfType) → rename_type ξ (rename_type (metavariables ρ) a) ≡ rename_type (metavariables ρ) (rename_type ξ a)
rename_type-along ρ ξ along a =
    rename_type-rename_type a ξ (metavariables ρ) ∙ ap (λ θ. rename_type θ a) (sym (fun_ext along)) ∙ sym (rename_type-rename_type a (metavariables ρ) ξ)

pub rename_spine-along : (ρ : ℕ → ℕ) (ξ : Renaming) → GoesAlongMetavariables ρ ξ → (ts : Spine) → rename_spine ξ (rename_spine (metavariables ρ) ts) ≡ rename_spine (metavariables ρ) (rename_spine ξ ts)
rename_spine-along ρ ξ along ts =
    rename_spine-rename_spine ts ξ (metavariables ρ) ∙ ap (λ θ. rename_spine θ ts) (sym (fun_ext along)) ∙ sym (rename_spine-rename_spine ts (metavariables ρ) ξ)

-- parts of types
pub binders_of-rename_type : (a : LfType) (ξ : Renaming) → binders_of (rename_type ξ a) ≡ rename_context ξ (binders_of a)
binders_of-rename_type (pi a b) ξ = ap (λ bs. rename_type ξ a ∷ bs) (binders_of-rename_type b (lifted ξ))
binders_of-rename_type (family f args) ξ = refl

pub conclusion_atom-renamed : (ρ : ℕ → ℕ) (a : LfType) → conclusion_atom (rename_type (metavariables ρ) a) ≡ rename_atom ρ (conclusion_atom a)
conclusion_atom-renamed ρ (pi a b) = ap (λ ξ. conclusion_atom (rename_type ξ b)) (lifted-metavariables ρ) ∙ conclusion_atom-renamed ρ b
conclusion_atom-renamed ρ (family f args) = refl

-- parts of contexts
pub shapes_of_types-rename_context : (ctx : Context) (ξ : Renaming) → shapes_of_types (rename_context ξ ctx) ≡ shapes_of_types ctx
shapes_of_types-rename_context [] ξ = refl
shapes_of_types-rename_context (a ∷ rest) ξ = ap₂ (λ s shapes. s ∷ shapes) (shape_of-rename_type a ξ) (shapes_of_types-rename_context rest (lifted ξ))

pub first_shapes-rename_context : (k : ℕ) (ctx : Context) (ξ : Renaming) → shapes_of_types (take k (rename_context ξ ctx)) ≡ shapes_of_types (take k ctx)
first_shapes-rename_context zero ctx ξ = refl
first_shapes-rename_context (suc k) [] ξ = refl
first_shapes-rename_context (suc k) (a ∷ rest) ξ = ap₂ (λ s shapes. s ∷ shapes) (shape_of-rename_type a ξ) (first_shapes-rename_context k rest (lifted ξ))

pub type_at-renamed : (ρ : ℕ → ℕ) (ctx : Context) (k : ℕ) → type_at (rename_context (metavariables ρ) ctx) k ≡ option_map (rename_type (metavariables ρ)) (type_at ctx k)
type_at-renamed ρ [] k = refl
type_at-renamed ρ (a ∷ rest) zero = refl
type_at-renamed ρ (a ∷ rest) (suc k) = ap (λ ξ. type_at (rename_context ξ rest) k) (lifted-metavariables ρ) ∙ type_at-renamed ρ rest k

-- atoms and goals by their parts
abbrev pub atom_by_parts : ℕ → Spine → LfAtom
atom_by_parts f args = record { atom_family = f; atom_args = args }

abbrev pub goal_by_parts : ℕ → Context → LfAtom → LfGoal
goal_by_parts g context target = record { id = g; context = context; target = target }

pub fresh_goal-renamed : (ρ : ℕ → ℕ) (g : ℕ) (entries : Context) (inside : LfType) → fresh_goal (ρ g) (rename_context (metavariables ρ) entries) (rename_type (metavariables ρ) inside) ≡ rename_goal ρ (fresh_goal g entries inside)
fresh_goal-renamed ρ g entries inside =
    let ζ = metavariables ρ in
    ap₂ (goal_by_parts (ρ g))
    (ap (λ bs. rename_context ζ entries ++ bs) (binders_of-rename_type inside ζ ∙ ap (λ ξ. rename_context ξ (binders_of inside)) (sym (lifted_by-metavariables (length entries) ρ)))
    ∙ sym (rename_context-append entries (binders_of inside) ζ))
    (conclusion_atom-renamed ρ inside)
