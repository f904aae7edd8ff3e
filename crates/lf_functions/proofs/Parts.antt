-- What a replacement makes of parts, and of goals as of their types.
use Rattle.std.proofs.Common.{◌≡◌, ℕ, suc, List, [], ◌∷◌, length, refl, sym, ap, ap₂, ◌∙◌}
use Rattle.lf_definitions.specs.Syntax.{LfHead, LfTerm, lam, at, Spine, no_args, arg, arrow, LfType, pi, family, LfAtom, atomic, Context, pis, binders_of, conclusion_atom, shape_of, shapes_of_types}
use Rattle.lf_definitions.specs.Substitution.{stays, Replacement, up, up_by}
use Rattle.lf_definitions.specs.Typing.{LfGoal, goal_type}
use Rattle.lf_definitions.specs.Instantiation.{Assignment, instantiating}
use Rattle.lf_functions.specs.Replacing.{applied_image, replaced_spine, nested, replaced, replaced_in_spine, replaced_in_type, replaced_in_atom, replaced_in_context}
use Rattle.lf_functions.specs.Instances.{goals_depth, instance_of_type, instance_of_goal}

pub replaced-lam : (depth : ℕ) (σ : Replacement) (b : LfTerm) → replaced depth σ (lam b) ≡ lam (replaced depth (up σ) b)
unfolding replaced
replaced-lam depth σ b = refl

pub replaced-at : (depth : ℕ) (σ : Replacement) (h k : LfHead) (ts : Spine) → σ h ≡ stays k → replaced depth σ (at h ts) ≡ at k (replaced_in_spine depth σ ts)
unfolding replaced replaced_in_spine
replaced-at depth σ h k ts e = ap (λ i. applied_image (nested depth) i (replaced_spine (nested depth) σ ts)) e

pub replaced_in_spine-no_args : (depth : ℕ) (σ : Replacement) → replaced_in_spine depth σ no_args ≡ no_args
unfolding replaced_in_spine
replaced_in_spine-no_args depth σ = refl

pub replaced_in_spine-arg : (depth : ℕ) (σ : Replacement) (t : LfTerm) (ts : Spine) → replaced_in_spine depth σ (arg t ts) ≡ arg (replaced depth σ t) (replaced_in_spine depth σ ts)
unfolding replaced replaced_in_spine
replaced_in_spine-arg depth σ t ts = refl

pub replaced_in_type-pi : (depth : ℕ) (σ : Replacement) (a b : LfType) → replaced_in_type depth σ (pi a b) ≡ pi (replaced_in_type depth σ a) (replaced_in_type depth (up σ) b)
unfolding replaced_in_type
replaced_in_type-pi depth σ a b = refl

pub replaced_in_type-family : (depth : ℕ) (σ : Replacement) (f : ℕ) (args : Spine) → replaced_in_type depth σ (family f args) ≡ family f (replaced_in_spine depth σ args)
unfolding replaced_in_type
replaced_in_type-family depth σ f args = refl

pub replaced_in_type-atomic : (depth : ℕ) (σ : Replacement) (a : LfAtom) → atomic (replaced_in_atom depth σ a) ≡ replaced_in_type depth σ (atomic a)
unfolding replaced_in_type replaced_in_atom
replaced_in_type-atomic depth σ a = refl

pub replaced_in_context-empty : (depth : ℕ) (σ : Replacement) → replaced_in_context depth σ [] ≡ []
unfolding replaced_in_context
replaced_in_context-empty depth σ = refl

pub replaced_in_context-entry : (depth : ℕ) (σ : Replacement) (a : LfType) (rest : Context) → replaced_in_context depth σ (a ∷ rest) ≡ replaced_in_type depth σ a ∷ replaced_in_context depth (up σ) rest
unfolding replaced_in_context
replaced_in_context-entry depth σ a rest = refl

-- shapes stay
pub shape_of-replaced_in_type : (depth : ℕ) (σ : Replacement) (a : LfType) → shape_of (replaced_in_type depth σ a) ≡ shape_of a
unfolding replaced_in_type
shape_of-replaced_in_type depth σ (pi a b) = ap₂ arrow (shape_of-replaced_in_type depth σ a) (shape_of-replaced_in_type depth (up σ) b)
shape_of-replaced_in_type depth σ (family f args) = refl

pub shapes_of_types-replaced_in_context : (depth : ℕ) (σ : Replacement) (ctx : Context) → shapes_of_types (replaced_in_context depth σ ctx) ≡ shapes_of_types ctx
unfolding replaced_in_context
shapes_of_types-replaced_in_context depth σ [] = refl
shapes_of_types-replaced_in_context depth σ (a ∷ rest) = ap₂ (λ s shapes. s ∷ shapes) (shape_of-replaced_in_type depth σ a) (shapes_of_types-replaced_in_context depth (up σ) rest)

pub length-replaced_in_context : (depth : ℕ) (σ : Replacement) (ctx : Context) → length (replaced_in_context depth σ ctx) ≡ length ctx
unfolding replaced_in_context
length-replaced_in_context depth σ [] = refl
length-replaced_in_context depth σ (a ∷ rest) = ap suc (length-replaced_in_context depth (up σ) rest)

-- binders over an atom
replaced_in_type-pis : (depth : ℕ) (σ : Replacement) (ctx : Context) (a : LfAtom) →
    pis (replaced_in_context depth σ ctx) (atomic (replaced_in_atom depth (up_by (length ctx) σ) a)) ≡ replaced_in_type depth σ (pis ctx (atomic a))
unfolding replaced_in_type replaced_in_context
replaced_in_type-pis depth σ [] a = replaced_in_type-atomic depth σ a
replaced_in_type-pis depth σ (b ∷ ctx) a = ap (pi (replaced_in_type depth σ b)) (replaced_in_type-pis depth (up σ) ctx a)

pub goal_type-instance_of_goal : (goals : List LfGoal) (σ : Assignment) (g : LfGoal) → goal_type (instance_of_goal goals σ g) ≡ instance_of_type goals σ (goal_type g)
unfolding instance_of_goal instance_of_type
goal_type-instance_of_goal goals σ g = replaced_in_type-pis (goals_depth goals) (instantiating σ) g.context g.target

-- A goal is known from its number and its type.
binders_of-pis_atomic : (ctx : Context) (a : LfAtom) → binders_of (pis ctx (atomic a)) ≡ ctx
binders_of-pis_atomic [] a = refl
binders_of-pis_atomic (b ∷ ctx) a = ap (λ rest. b ∷ rest) (binders_of-pis_atomic ctx a)

conclusion_atom-pis_atomic : (ctx : Context) (a : LfAtom) → conclusion_atom (pis ctx (atomic a)) ≡ a
conclusion_atom-pis_atomic [] a = refl
conclusion_atom-pis_atomic (b ∷ ctx) a = conclusion_atom-pis_atomic ctx a

goal_from : ℕ → LfType → LfGoal
goal_from id type = record { id = id; context = binders_of type; target = conclusion_atom type }

goal_from_parts : ℕ → Context → LfAtom → LfGoal
goal_from_parts id context target = record { id = id; context = context; target = target }

goal_from-goal_type : (g : LfGoal) → goal_from g.id (goal_type g) ≡ g
unfolding goal_from goal_from_parts
goal_from-goal_type g = ap₂ (goal_from_parts g.id) (binders_of-pis_atomic g.context g.target) (conclusion_atom-pis_atomic g.context g.target)

pub goal_is_known : (g h : LfGoal) → g.id ≡ h.id → goal_type g ≡ goal_type h → g ≡ h
goal_is_known g h same_id same_type = sym (goal_from-goal_type g) ∙ ap₂ goal_from same_id same_type ∙ goal_from-goal_type h
