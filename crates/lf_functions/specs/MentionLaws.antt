-- What instances and results mention, on all data, and instances among other goals.
use Rattle.std.specs.Prelude.{◌≡◌, ◌⊎◌, ℕ, List, Some, None}
use Rattle.lf_definitions.specs.Syntax.{metavariable, LfTerm, Spine, LfType, LfAtom, atomic, Context, SimpleType}
use Rattle.lf_definitions.specs.Shaping.{Scope, Shaped, ShapedSpine}
use Rattle.lf_definitions.specs.ShapedGoals.{kind_shapes_in, scope_in, ShapedTypeIn, ShapedContextIn}
use Rattle.lf_definitions.specs.Replacements.{Goes}
use Rattle.lf_definitions.specs.Occurrence.{OccursIn, OccursInSpine, OccursInType, OccursInContext, OccursInGoal}
use Rattle.lf_definitions.specs.Typing.{LfGoal}
use Rattle.lf_definitions.specs.Signatures.{LfSignature}
use Rattle.lf_definitions.specs.Instantiation.{Assignment, instantiating}
use Rattle.head_laws.specs.ReplacementLaws.{ShapedGoalOver}
use Rattle.lf_functions.specs.Instances.{instance_of, instance_of_spine, instance_of_type, instance_of_atom, instance_of_context, instance_of_goal, result_of, result_of_spine, result_of_type, result_of_context}

-- A metavariable is one of those of which `P` holds and isn't assigned, or it occurs in what is assigned to one of them.
abbrev pub StaysOrIsPut : Assignment → (ℕ → Type 0) → ℕ → Type 0
StaysOrIsPut σ P g = (P g × (σ g ≡ None)) ⊎ ((m : ℕ) × (u : LfTerm) × P m × (σ m ≡ Some u) × OccursIn (metavariable g) u)

-- A metavariable that an instance mentions is mentioned in what it is the instance of and isn't assigned, or it occurs in what is assigned to one that is.
abbrev pub InstancesMentionWhatIsPut : Type 0
InstancesMentionWhatIsPut =
    (goals : List LfGoal) (σ : Assignment) (g : ℕ) →
    ((t : LfTerm) → OccursIn (metavariable g) (instance_of goals σ t) → StaysOrIsPut σ (λ m. OccursIn (metavariable m) t) g)
    × ((ts : Spine) → OccursInSpine (metavariable g) (instance_of_spine goals σ ts) → StaysOrIsPut σ (λ m. OccursInSpine (metavariable m) ts) g)
    × ((a : LfType) → OccursInType (metavariable g) (instance_of_type goals σ a) → StaysOrIsPut σ (λ m. OccursInType (metavariable m) a) g)
    × ((ctx : Context) → OccursInContext (metavariable g) (instance_of_context goals σ ctx) → StaysOrIsPut σ (λ m. OccursInContext (metavariable m) ctx) g)
    × ((h : LfGoal) → OccursInGoal (metavariable g) (instance_of_goal goals σ h) → StaysOrIsPut σ (λ m. OccursInGoal (metavariable m) h) g)

-- A metavariable that a result mentions is mentioned in what the list is put in, or in the list.
abbrev pub ResultsMentionWhatIsPut : Type 0
ResultsMentionWhatIsPut =
    (shapes : List SimpleType) (sub : Spine) (g : ℕ) →
    ((t : LfTerm) → OccursIn (metavariable g) (result_of shapes sub t) → OccursIn (metavariable g) t ⊎ OccursInSpine (metavariable g) sub)
    × ((ts : Spine) → OccursInSpine (metavariable g) (result_of_spine shapes sub ts) → OccursInSpine (metavariable g) ts ⊎ OccursInSpine (metavariable g) sub)
    × ((a : LfType) → OccursInType (metavariable g) (result_of_type shapes sub a) → OccursInType (metavariable g) a ⊎ OccursInSpine (metavariable g) sub)
    × ((ctx : Context) → OccursInContext (metavariable g) (result_of_context shapes sub ctx) → OccursInContext (metavariable g) ctx ⊎ OccursInSpine (metavariable g) sub)

-- An assignment goes from goals to some other scope.
abbrev pub GoesFromGoals : LfSignature → List LfGoal → Context → Assignment → Type 0
GoesFromGoals sig goals ctx σ = (depth : ℕ) × (others : Scope) × Goes depth (scope_in sig goals ctx) others (instantiating σ)

-- The instance of what is shaped among goals is the same among other goals, where it is shaped among these, too.
abbrev pub InstancesAreAmongAnyGoals : Type 0
InstancesAreAmongAnyGoals =
    (sig more : LfSignature) (goals others : List LfGoal) (ctx inside : Context) (σ : Assignment) → GoesFromGoals sig goals ctx σ → GoesFromGoals more others inside σ →
    ((t : LfTerm) (s c : SimpleType) → Shaped (scope_in sig goals ctx) t s → Shaped (scope_in more others inside) t c → instance_of others σ t ≡ instance_of goals σ t)
    × ((ts : Spine) (s c : SimpleType) → ShapedSpine (scope_in sig goals ctx) ts s → ShapedSpine (scope_in more others inside) ts c → instance_of_spine others σ ts ≡ instance_of_spine goals σ ts)
    × ((a : LfType) → ShapedTypeIn sig goals ctx a → ShapedTypeIn more others inside a → instance_of_type others σ a ≡ instance_of_type goals σ a)
    × ((a : LfAtom) → ShapedTypeIn sig goals ctx (atomic a) → ShapedTypeIn more others inside (atomic a) → instance_of_atom others σ a ≡ instance_of_atom goals σ a)
    × ((rest : Context) → ShapedContextIn sig goals ctx rest → ShapedContextIn more others inside rest → instance_of_context others σ rest ≡ instance_of_context goals σ rest)
    × ((g : LfGoal) → ShapedGoalOver (kind_shapes_in sig) (scope_in sig goals ctx) g → ShapedGoalOver (kind_shapes_in more) (scope_in more others inside) g → instance_of_goal others σ g ≡ instance_of_goal goals σ g)
