-- What a build puts into the table of what goals become in the end.
use Rattle.std.specs.Prelude.{◌≡◌, ℕ, List, [], ◌∷◌}
use Rattle.lf_definitions.specs.Syntax.{LfTerm, SimpleType, Context}
use Rattle.lf_definitions.specs.Shaping.{Shaped}
use Rattle.lf_definitions.specs.ShapedGoals.{scope_in}
use Rattle.lf_definitions.specs.Typing.{LfGoal}
use Rattle.lf_definitions.specs.Signatures.{LfSignature}
use Rattle.lf_definitions.specs.GoalLists.{LfGoals, all_goals}
use Rattle.lf_definitions.specs.Instantiation.{Instantiated}
use Rattle.lf_functions.specs.Instances.{instance_of}
use Rattle.meta_goals.specs.Bindings.{LfBinding, assigning, bound_again}
use Rattle.meta_goals.specs.Entries.{binding_of}
use Rattle.meta_goals.specs.Instantiates.{Instantiates, TermIsShaped}
use Rattle.proof_replay.specs.declared.putting.Final.{Final}
use Rattle.proof_replay.specs.Leading.{EndsGoals}

abbrev pub seen_final : Final → LfBinding
seen_final f = binding_of (f.number, f.entry)

abbrev pub with_body : ℕ → List SimpleType → LfTerm → LfBinding
with_body number shapes body = record { number = number; shapes = shapes; bound_body = body }

-- an entry whose body stands among these goals, with what they become put into it
abbrev pub put_into : List LfGoal → List LfBinding → LfBinding → LfBinding
put_into goals finals b = with_body b.number b.shapes (instance_of goals (assigning finals) b.bound_body)

-- entries in a table, each in the place of what was there before
abbrev pub all_again : List LfBinding → List LfBinding → List LfBinding
all_again finals [] = finals
all_again finals (b ∷ rest) = all_again (bound_again finals b) rest

-- What the goals become may be put into the body of an entry, and the one result is that among these goals.
pub record CanEnd (goals : List LfGoal) (finals : List LfBinding) (b : LfBinding) : Type 0 where
  pub instantiates : Instantiates finals (TermIsShaped b.bound_body)
  pub only : (r : LfTerm) → Instantiated (assigning finals) b.bound_body r → r ≡ instance_of goals (assigning finals) b.bound_body

-- The new table ends the goals before the build, and by it terms become what the old one makes of what the build makes of them.
pub record PutsBack (sig : LfSignature) (list next : LfGoals) (build old new : List LfBinding) : Type 0 where
  pub ends : EndsGoals sig (all_goals list) new
  pub composes : (ctx : Context) (t : LfTerm) (s : SimpleType) → Shaped (scope_in sig (all_goals list) ctx) t s →
      instance_of (all_goals list) (assigning new) t ≡ instance_of (all_goals next) (assigning old) (instance_of (all_goals list) (assigning build) t)
