-- What is shaped among goals may be instantiated by bindings that go from these goals to others, and has one instance.
use Rattle.std.proofs.Common.{◌≡◌, List, []}
use Rattle.lf_definitions.specs.Syntax.{LfTerm, LfAtom, atomic, Context, SimpleType}
use Rattle.lf_definitions.specs.Shaping.{Scope, Shaped}
use Rattle.lf_definitions.specs.ShapedGoals.{kind_shapes_in, scope_in, ShapedTypeIn, ShapedGoal}
use Rattle.lf_definitions.specs.Replacements.{Goes}
use Rattle.lf_definitions.specs.Typing.{LfGoal}
use Rattle.lf_definitions.specs.Signatures.{LfSignature}
use Rattle.lf_definitions.specs.Instantiation.{instantiating, Instantiated, InstantiatedType}
use Rattle.head_laws.specs.AssignmentLaws.{AssignsClosedTerms}
use Rattle.goal_lists.specs.Laws.{GoesToGoals}
use Rattle.lf_functions.specs.Instances.{instance_of, instance_of_atom, instance_of_goal}
use Rattle.lf_functions.proofs.Results.{instances_are_the_one_result}
use Rattle.meta_goals.specs.Bindings.{LfBinding, assigning}
use Rattle.meta_goals.specs.Instantiates.{Instantiates, GoalIsShaped}
use Rattle.meta_goals.specs.Laws.{HaveShapesOf}
use Rattle.meta_goals.proofs.BindingLaws.{bound_goals_have_their_shapes, assignments_go_under_variables}
use Rattle.build_shared.specs.Remaining.{CanLeave}

module _ (sig : LfSignature) (goals others : List LfGoal) (bindings : List LfBinding) (closed : AssignsClosedTerms (assigning bindings)) (goes : GoesToGoals sig goals others (assigning bindings))
    (have_shapes : HaveShapesOf goals bindings) where
  goes_in : (ctx : Context) → Goes goes.0 (scope_in sig goals ctx) (scope_in sig others ctx) (instantiating (assigning bindings))
  goes_in ctx = assignments_go_under_variables sig goals others (assigning bindings) goes.0 closed goes.1 ctx

  pub instantiates_in : (ctx : Context) (P : Scope → Type 0) → P (scope_in sig goals ctx) → Instantiates bindings P
  instantiates_in ctx P shaped =
      record {
        size = goes.0;
        outer = scope_in sig goals ctx;
        target = scope_in sig others ctx;
        goes = goes_in ctx;
        closed = closed;
        contexts = λ m s b known found. bound_goals_have_their_shapes sig goals bindings have_shapes ctx m s b known found;
        shaped = shaped;
      }

  pub term_is : (ctx : Context) (t r : LfTerm) (s : SimpleType) → Shaped (scope_in sig goals ctx) t s → Instantiated (assigning bindings) t r → r ≡ instance_of goals (assigning bindings) t
  term_is ctx t r s shaped result = (((instances_are_the_one_result sig goals ctx goes.0 (scope_in sig others ctx) (assigning bindings) (goes_in ctx)).0 t s shaped).0 r).0 result

  pub atom_is : (ctx : Context) (a b : LfAtom) → ShapedTypeIn sig goals ctx (atomic a) → InstantiatedType (assigning bindings) (atomic a) (atomic b) → b ≡ instance_of_atom goals (assigning bindings) a
  atom_is ctx a b shaped result = (((instances_are_the_one_result sig goals ctx goes.0 (scope_in sig others ctx) (assigning bindings) (goes_in ctx)).3 a shaped).0 b).0 result

  pub can_leave : (g : LfGoal) → ShapedGoal sig goals g → CanLeave goals bindings g
  can_leave g shaped =
      record {
        instantiates = instantiates_in [] (GoalIsShaped g) (kind_shapes_in sig, shaped);
        only = λ h result. (((instances_are_the_one_result sig goals [] goes.0 (scope_in sig others []) (assigning bindings) goes.1).5 g shaped).0 h).0 result;
      }

  pub instance_is_shaped : (g : LfGoal) → ShapedGoal sig goals g → ShapedGoal sig others (instance_of_goal goals (assigning bindings) g)
  instance_is_shaped g shaped = ((instances_are_the_one_result sig goals [] goes.0 (scope_in sig others []) (assigning bindings) goes.1).5 g shaped).1
