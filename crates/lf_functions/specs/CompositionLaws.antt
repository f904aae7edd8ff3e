-- Instances after instances, and instances of results.
use Rattle.std.specs.Prelude.{◌≡◌, ℕ, ◌+◌, List, Option, Some, None}
use Rattle.lf_definitions.specs.Syntax.{LfTerm, Spine, LfType, LfAtom, atomic, Context, SimpleType}
use Rattle.lf_definitions.specs.Shaping.{Scope, under_all, Shaped, ShapedSpine, ShapedType, ShapedList}
use Rattle.lf_definitions.specs.ShapedGoals.{ShapedContext, kind_shapes_in, scope_in, ShapedTypeIn, ShapedContextIn}
use Rattle.lf_definitions.specs.Replacements.{Goes}
use Rattle.lf_definitions.specs.Typing.{LfGoal}
use Rattle.lf_definitions.specs.Signatures.{LfSignature}
use Rattle.lf_definitions.specs.Instantiation.{Assignment, instantiating}
use Rattle.head_laws.specs.AssignmentLaws.{AssignsClosedTerms}
use Rattle.head_laws.specs.ReplacementLaws.{ShapedGoalOver}
use Rattle.lf_functions.specs.Instances.{instance_of, instance_of_spine, instance_of_type, instance_of_atom, instance_of_context, instance_of_goal, result_of, result_of_spine, result_of_type, result_of_atom, result_of_context}

abbrev pub instance_of_assigned : List LfGoal → Assignment → ℕ → Option LfTerm → Option LfTerm
instance_of_assigned others τ g None = τ g
instance_of_assigned others τ g (Some u) = Some (instance_of others τ u)

-- One assignment after another: the instances, among the others, of what the first puts, and where it puts nothing what the second puts.
abbrev pub followed_by : List LfGoal → Assignment → Assignment → Assignment
followed_by others σ τ g = instance_of_assigned others τ g (σ g)

-- Where an assignment goes from goals to others, and a second one from these on, the instances of instances are those of the one after the other.
abbrev pub InstancesCompose : Type 0
InstancesCompose =
    (sig : LfSignature) (goals others : List LfGoal) (ctx inside : Context) (p q : ℕ) (last : Scope) (σ τ : Assignment) →
    Goes p (scope_in sig goals ctx) (scope_in sig others inside) (instantiating σ) → Goes q (scope_in sig others inside) last (instantiating τ) →
    ((t : LfTerm) (s : SimpleType) → Shaped (scope_in sig goals ctx) t s → instance_of others τ (instance_of goals σ t) ≡ instance_of goals (followed_by others σ τ) t)
    × ((ts : Spine) (s : SimpleType) → ShapedSpine (scope_in sig goals ctx) ts s → instance_of_spine others τ (instance_of_spine goals σ ts) ≡ instance_of_spine goals (followed_by others σ τ) ts)
    × ((a : LfType) → ShapedTypeIn sig goals ctx a → instance_of_type others τ (instance_of_type goals σ a) ≡ instance_of_type goals (followed_by others σ τ) a)
    × ((a : LfAtom) → ShapedTypeIn sig goals ctx (atomic a) → instance_of_atom others τ (instance_of_atom goals σ a) ≡ instance_of_atom goals (followed_by others σ τ) a)
    × ((more : Context) → ShapedContextIn sig goals ctx more → instance_of_context others τ (instance_of_context goals σ more) ≡ instance_of_context goals (followed_by others σ τ) more)
    × ((g : LfGoal) → ShapedGoalOver (kind_shapes_in sig) (scope_in sig goals ctx) g → instance_of_goal others τ (instance_of_goal goals σ g) ≡ instance_of_goal goals (followed_by others σ τ) g)

-- The one after the other goes all the way.
abbrev pub FollowingGoesOn : Type 0
FollowingGoesOn =
    (sig : LfSignature) (goals others : List LfGoal) (ctx inside : Context) (p q : ℕ) (last : Scope) (σ τ : Assignment) →
    Goes p (scope_in sig goals ctx) (scope_in sig others inside) (instantiating σ) → Goes q (scope_in sig others inside) last (instantiating τ) →
    Goes (p + q) (scope_in sig goals ctx) last (instantiating (followed_by others σ τ))

-- Under an assignment of closed terms the instance of a result is the result of the list's instance in the instance.
abbrev pub InstancesGoAlongWithResults : Type 0
InstancesGoAlongWithResults =
    (sig : LfSignature) (goals : List LfGoal) (ctx : Context) (depth : ℕ) (others : Scope) (σ : Assignment) → AssignsClosedTerms σ → Goes depth (scope_in sig goals ctx) others (instantiating σ) →
    (shapes : List SimpleType) (sub : Spine) → ShapedList (scope_in sig goals ctx) sub shapes →
    ((t : LfTerm) (s : SimpleType) → Shaped (under_all shapes (scope_in sig goals ctx)) t s → instance_of goals σ (result_of shapes sub t) ≡ result_of shapes (instance_of_spine goals σ sub) (instance_of goals σ t))
    × ((ts : Spine) (s : SimpleType) → ShapedSpine (under_all shapes (scope_in sig goals ctx)) ts s →
    instance_of_spine goals σ (result_of_spine shapes sub ts) ≡ result_of_spine shapes (instance_of_spine goals σ sub) (instance_of_spine goals σ ts))
    × ((a : LfType) → ShapedType (kind_shapes_in sig) (under_all shapes (scope_in sig goals ctx)) a →
    instance_of_type goals σ (result_of_type shapes sub a) ≡ result_of_type shapes (instance_of_spine goals σ sub) (instance_of_type goals σ a))
    × ((a : LfAtom) → ShapedType (kind_shapes_in sig) (under_all shapes (scope_in sig goals ctx)) (atomic a) →
    instance_of_atom goals σ (result_of_atom shapes sub a) ≡ result_of_atom shapes (instance_of_spine goals σ sub) (instance_of_atom goals σ a))
    × ((more : Context) → ShapedContext (kind_shapes_in sig) (under_all shapes (scope_in sig goals ctx)) more →
    instance_of_context goals σ (result_of_context shapes sub more) ≡ result_of_context shapes (instance_of_spine goals σ sub) (instance_of_context goals σ more))
