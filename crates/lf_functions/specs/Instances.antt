-- Instances of terms under an assignment among goals, and results of a list that is put for the innermost variables, as functions that are total on all data.
use Rattle.std.specs.Prelude.{ℕ, List, map, length}
use Rattle.lf_definitions.specs.Syntax.{LfTerm, Spine, LfType, LfAtom, Context, SimpleType, shape_of, shapes_size}
use Rattle.lf_definitions.specs.Substitution.{stays, up_by, push_all}
use Rattle.lf_definitions.specs.Typing.{LfGoal, goal_type}
use Rattle.lf_definitions.specs.Instantiation.{Assignment, instantiating}
use Rattle.lf_functions.specs.Replacing.{replaced, replaced_in_spine, replaced_in_type, replaced_in_atom, replaced_in_context}

-- The shape of each goal is smaller than this depth.
abbrev pub goals_depth : List LfGoal → ℕ
goals_depth goals = shapes_size (map (λ g. shape_of (goal_type g)) goals)

-- What an assignment makes of a term in which these goals stand as metavariables, and of arguments, a type, an atom, a context.
unfoldable pub instance_of : List LfGoal → Assignment → LfTerm → LfTerm
instance_of goals σ t = replaced (goals_depth goals) (instantiating σ) t

unfoldable pub instance_of_spine : List LfGoal → Assignment → Spine → Spine
instance_of_spine goals σ ts = replaced_in_spine (goals_depth goals) (instantiating σ) ts

unfoldable pub instance_of_type : List LfGoal → Assignment → LfType → LfType
instance_of_type goals σ a = replaced_in_type (goals_depth goals) (instantiating σ) a

unfoldable pub instance_of_atom : List LfGoal → Assignment → LfAtom → LfAtom
instance_of_atom goals σ a = replaced_in_atom (goals_depth goals) (instantiating σ) a

unfoldable pub instance_of_context : List LfGoal → Assignment → Context → Context
instance_of_context goals σ ctx = replaced_in_context (goals_depth goals) (instantiating σ) ctx

-- A goal keeps its number; its context and, under that, its target are instantiated.
unfoldable pub instance_of_goal : List LfGoal → Assignment → LfGoal → LfGoal
instance_of_goal goals σ g = record {
  id = g.id;
  context = replaced_in_context (goals_depth goals) (instantiating σ) g.context;
  target = replaced_in_atom (goals_depth goals) (up_by (length g.context) (instantiating σ)) g.target;
}

-- What a list for innermost variables of these shapes makes of a term, and of arguments, a type, an atom, a context.
unfoldable pub result_of : List SimpleType → Spine → LfTerm → LfTerm
result_of shapes sub t = replaced (shapes_size shapes) (push_all sub stays) t

unfoldable pub result_of_spine : List SimpleType → Spine → Spine → Spine
result_of_spine shapes sub ts = replaced_in_spine (shapes_size shapes) (push_all sub stays) ts

unfoldable pub result_of_type : List SimpleType → Spine → LfType → LfType
result_of_type shapes sub a = replaced_in_type (shapes_size shapes) (push_all sub stays) a

unfoldable pub result_of_atom : List SimpleType → Spine → LfAtom → LfAtom
result_of_atom shapes sub a = replaced_in_atom (shapes_size shapes) (push_all sub stays) a

unfoldable pub result_of_context : List SimpleType → Spine → Context → Context
result_of_context shapes sub ctx = replaced_in_context (shapes_size shapes) (push_all sub stays) ctx
