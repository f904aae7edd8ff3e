-- Builds that lead from a list to no goals, what becomes of terms by them, and tables of what goals become in the end.
use Rattle.std.specs.Prelude.{◌≡◌, ℕ, List, [], ◌∷◌, map, Some}
use Rattle.lf_definitions.specs.Syntax.{metavariable, LfTerm, SimpleType, base, arrows, Context}
use Rattle.lf_definitions.specs.Shaping.{Shaped}
use Rattle.lf_definitions.specs.ShapedGoals.{scope_in}
use Rattle.lf_definitions.specs.Typing.{LfGoal}
use Rattle.lf_definitions.specs.Signatures.{LfSignature}
use Rattle.lf_definitions.specs.GoalLists.{LfGoals, all_goals}
use Rattle.head_laws.specs.AssignmentLaws.{AssignsClosedTerms}
use Rattle.goal_lists.specs.Laws.{GoesToGoals}
use Rattle.lf_functions.specs.Instances.{instance_of}
use Rattle.alternatives.specs.Taking.{Takes}
use Rattle.meta_goals.specs.Bindings.{LfBinding, assigned_of, assigning, binding_for}
use Rattle.meta_goals.specs.Laws.{HaveShapesOf}

-- A build takes a list to the next one, and its entries have the shapes of their goals' contexts.
pub record BuildTakes (sig : LfSignature) (list next : LfGoals) (build : List LfBinding) : Type 0 where
  pub takes : Takes sig list next (map assigned_of build)
  pub shapes : HaveShapesOf (all_goals list) build

-- Builds lead from a list to one without goals, each on from the list that the one before leads to.
abbrev pub Leads : LfSignature → LfGoals → List (List LfBinding) → Type 0
Leads sig list [] = all_goals list ≡ []
Leads sig list (build ∷ rest) = (next : LfGoals) × BuildTakes sig list next build × Leads sig next rest

-- what becomes of a term that stands among the goals of the first list
abbrev pub carried : (sig : LfSignature) (list : LfGoals) (builds : List (List LfBinding)) → Leads sig list builds → LfTerm → LfTerm
carried sig list [] leads t = t
carried sig list (build ∷ rest) leads t = carried sig leads.0 rest leads.2 (instance_of (all_goals list) (assigning build) t)

-- Each of these goals becomes a closed term without goals, of its shape. A table may hold other goals, too.
pub record EndsGoals (sig : LfSignature) (goals : List LfGoal) (finals : List LfBinding) : Type 0 where
  pub goes : GoesToGoals sig goals [] (assigning finals)
  pub closed : AssignsClosedTerms (assigning finals)
  pub shapes : (m : ℕ) (s : SimpleType) (b : LfBinding) → scope_in sig goals [] (metavariable m) ≡ Some s → binding_for finals m ≡ Some b → s ≡ arrows b.shapes base

-- What becomes of a term by the builds is its instance by the table.
pub record AreFinals (sig : LfSignature) (list : LfGoals) (builds : List (List LfBinding)) (leads : Leads sig list builds) (finals : List LfBinding) : Type 0 where
  pub ends : EndsGoals sig (all_goals list) finals
  pub carries : (ctx : Context) (t : LfTerm) (s : SimpleType) → Shaped (scope_in sig (all_goals list) ctx) t s → carried sig list builds leads t ≡ instance_of (all_goals list) (assigning finals) t
