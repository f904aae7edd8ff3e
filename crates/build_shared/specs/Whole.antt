-- Whole assignments as bindings, and what is asked of one.
use Rattle.std.specs.Prelude.{◌≡◌, ℕ, List, [], ◌∷◌, map, if◌then◌else◌, nat_lt}
use Rattle.lf_definitions.specs.Syntax.{LfTerm, SimpleType, shapes_of_types}
use Rattle.lf_definitions.specs.Typing.{LfGoal}
use Rattle.lf_definitions.specs.Signatures.{LfSignature}
use Rattle.lf_definitions.specs.ShapedGoals.{ShapedSignature, ShapedGoals}
use Rattle.lf_definitions.specs.Instantiation.{LfAssigned, assignment_of}
use Rattle.head_laws.specs.AssignmentLaws.{AssignsClosedTerms}
use Rattle.goal_lists.specs.Laws.{GoesToGoals}
use Rattle.lf_functions.specs.Instances.{instance_of}
use Rattle.applications.specs.Applications.{Completion, entry_of}
use Rattle.meta_goals.specs.Bindings.{LfBinding, assigning}
use Rattle.meta_goals.specs.Laws.{HaveShapesOf}
use Rattle.build_shared.specs.declared.attempt.Attempt.{Attempt}
use Rattle.build_shared.specs.declared.whole.Whole.{Whole}
use Rattle.build_shared.specs.Attempts.{among_at, goal_at, CompletedAt}

-- what the goal becomes, as a binding, and put into another one
abbrev pub goal_binding : LfGoal → LfTerm → LfBinding
goal_binding g u = record { number = g.id; shapes = shapes_of_types g.context; bound_body = u }

abbrev pub with_body : ℕ → List SimpleType → LfTerm → LfBinding
with_body id shapes body = record { number = id; shapes = shapes; bound_body = body }

abbrev pub put_binding : List LfGoal → LfAssigned → LfBinding → LfBinding
put_binding goals e b = record { number = b.number; shapes = b.shapes; bound_body = instance_of goals (assignment_of (e ∷ [])) b.bound_body }

abbrev pub other_bindings : List LfGoal → LfGoal → LfTerm → List LfBinding → List LfBinding
other_bindings goals g u bindings = map (put_binding goals (entry_of g u)) bindings

-- The whole assignment, and all of it but the goal's own binding.
pub record IsWhole (a : Attempt) (bindings : List LfBinding) (done : Completion) (whole : Whole) : Type 0 where
  pub completed_at : CompletedAt a bindings done
  pub others_are : whole.others ≡ other_bindings (among_at a) (goal_at a) done.becomes_term bindings
  pub all_are : whole.all ≡ goal_binding (goal_at a) done.becomes_term ∷ whole.others

-- The bindings may be tested in a list: they go from shaped goals to this list by closed terms.
pub record MayBeTested (sig : LfSignature) (goals : List LfGoal) (bindings : List LfBinding) (list : List LfGoal) : Type 0 where
  pub of_signature : ShapedSignature sig
  pub of_goals : ShapedGoals sig goals
  pub have_shapes : HaveShapesOf goals bindings
  pub closed : AssignsClosedTerms (assigning bindings)
  pub goes : GoesToGoals sig goals list (assigning bindings)
  pub shaped : ShapedGoals sig list

-- those of numbers below another
abbrev pub bindings_below : ℕ → List LfBinding → List LfBinding
bindings_below n [] = []
bindings_below n (b ∷ rest) = if nat_lt b.number n then b ∷ bindings_below n rest else bindings_below n rest
