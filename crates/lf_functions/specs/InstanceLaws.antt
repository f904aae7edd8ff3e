-- Further laws of instances, on all data: they go part by part, keep shapes, and look at the metavariables that occur alone.
use Rattle.std.specs.Prelude.{◌≡◌, ℕ, List, length, None}
use Rattle.lf_definitions.specs.Syntax.{metavariable, LfTerm, Spine, no_args, arg, LfType, family, LfAtom, atomic, Context, SimpleType, shape_of, shapes_of_types}
use Rattle.lf_definitions.specs.Occurrence.{OccursIn, OccursInSpine, OccursInType, OccursInContext, OccursInGoal}
use Rattle.lf_definitions.specs.Typing.{LfGoal, goal_type}
use Rattle.lf_definitions.specs.Instantiation.{Assignment}
use Rattle.lf_functions.specs.Instances.{instance_of, instance_of_spine, instance_of_type, instance_of_atom, instance_of_context, instance_of_goal, result_of, result_of_spine, result_of_type, result_of_atom, result_of_context}

-- Arguments are instantiated one by one, an atom as a type, and a goal as its type, under its number.
abbrev pub InstancesGoPartByPart : Type 0
InstancesGoPartByPart =
    (goals : List LfGoal) (σ : Assignment) →
    (instance_of_spine goals σ no_args ≡ no_args)
    × ((t : LfTerm) (ts : Spine) → instance_of_spine goals σ (arg t ts) ≡ arg (instance_of goals σ t) (instance_of_spine goals σ ts))
    × ((f : ℕ) (args : Spine) → instance_of_type goals σ (family f args) ≡ family f (instance_of_spine goals σ args))
    × ((a : LfAtom) → atomic (instance_of_atom goals σ a) ≡ instance_of_type goals σ (atomic a))
    × ((g : LfGoal) → (instance_of_goal goals σ g).id ≡ g.id)
    × ((g : LfGoal) → (instance_of_goal goals σ g).context ≡ instance_of_context goals σ g.context)
    × ((g : LfGoal) → goal_type (instance_of_goal goals σ g) ≡ instance_of_type goals σ (goal_type g))

-- Types and contexts keep their shapes.
abbrev pub InstancesKeepShapes : Type 0
InstancesKeepShapes =
    (goals : List LfGoal) (σ : Assignment) →
    ((a : LfType) → shape_of (instance_of_type goals σ a) ≡ shape_of a)
    × ((ctx : Context) → shapes_of_types (instance_of_context goals σ ctx) ≡ shapes_of_types ctx)
    × ((ctx : Context) → length (instance_of_context goals σ ctx) ≡ length ctx)

-- So do the results of lists, which go part by part.
abbrev pub ResultsGoPartByPart : Type 0
ResultsGoPartByPart =
    (shapes : List SimpleType) (sub : Spine) →
    (result_of_spine shapes sub no_args ≡ no_args)
    × ((t : LfTerm) (ts : Spine) → result_of_spine shapes sub (arg t ts) ≡ arg (result_of shapes sub t) (result_of_spine shapes sub ts))
    × ((f : ℕ) (args : Spine) → result_of_type shapes sub (family f args) ≡ family f (result_of_spine shapes sub args))
    × ((a : LfAtom) → atomic (result_of_atom shapes sub a) ≡ result_of_type shapes sub (atomic a))
    × ((a : LfType) → shape_of (result_of_type shapes sub a) ≡ shape_of a)
    × ((ctx : Context) → shapes_of_types (result_of_context shapes sub ctx) ≡ shapes_of_types ctx)

-- Assignments that agree on the metavariables that occur have the same instances.
abbrev pub InstancesLookAtWhatOccurs : Type 0
InstancesLookAtWhatOccurs =
    (goals : List LfGoal) (σ τ : Assignment) →
    ((t : LfTerm) → ((g : ℕ) → OccursIn (metavariable g) t → σ g ≡ τ g) → instance_of goals σ t ≡ instance_of goals τ t)
    × ((ts : Spine) → ((g : ℕ) → OccursInSpine (metavariable g) ts → σ g ≡ τ g) → instance_of_spine goals σ ts ≡ instance_of_spine goals τ ts)
    × ((a : LfType) → ((g : ℕ) → OccursInType (metavariable g) a → σ g ≡ τ g) → instance_of_type goals σ a ≡ instance_of_type goals τ a)
    × ((a : LfAtom) → ((g : ℕ) → OccursInSpine (metavariable g) a.atom_args → σ g ≡ τ g) → instance_of_atom goals σ a ≡ instance_of_atom goals τ a)
    × ((ctx : Context) → ((g : ℕ) → OccursInContext (metavariable g) ctx → σ g ≡ τ g) → instance_of_context goals σ ctx ≡ instance_of_context goals τ ctx)
    × ((h : LfGoal) → ((g : ℕ) → OccursInGoal (metavariable g) h → σ g ≡ τ g) → instance_of_goal goals σ h ≡ instance_of_goal goals τ h)

-- What mentions no metavariable that is assigned is its own instance.
abbrev pub UnassignedInstancesAreTheSame : Type 0
UnassignedInstancesAreTheSame =
    (goals : List LfGoal) (σ : Assignment) →
    ((t : LfTerm) → ((g : ℕ) → OccursIn (metavariable g) t → σ g ≡ None) → instance_of goals σ t ≡ t)
    × ((ts : Spine) → ((g : ℕ) → OccursInSpine (metavariable g) ts → σ g ≡ None) → instance_of_spine goals σ ts ≡ ts)
    × ((a : LfType) → ((g : ℕ) → OccursInType (metavariable g) a → σ g ≡ None) → instance_of_type goals σ a ≡ a)
    × ((a : LfAtom) → ((g : ℕ) → OccursInSpine (metavariable g) a.atom_args → σ g ≡ None) → instance_of_atom goals σ a ≡ a)
    × ((ctx : Context) → ((g : ℕ) → OccursInContext (metavariable g) ctx → σ g ≡ None) → instance_of_context goals σ ctx ≡ ctx)
    × ((h : LfGoal) → ((g : ℕ) → OccursInGoal (metavariable g) h → σ g ≡ None) → instance_of_goal goals σ h ≡ h)
