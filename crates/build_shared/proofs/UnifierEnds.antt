-- What unification answers is what the function says, with bindings that have the shapes of their goals' contexts.
use Rattle.std.proofs.Common.{◌≡◌, ◌≢◌, ℕ, Some, List, [], ◌∷◌, ◌++◌, map, All, AllPairs, sym, ap, ◌∙◌, subst, option_map, slice_get}
use Rattle.std.specs.Prelude.{Contains}
use Rattle.std.proofs.lemmas.List.Elements.{All-nil, All-cons, All-head, All-tail, All-contains_itself, All-weaker}
use Rattle.std.proofs.lemmas.List.Kept.{AllPairs-cons}
use Rattle.head_laws.proofs.Numbers.{AllPairs-head, AllPairs-tail}
use Rattle.application_laws.proofs.Lists.{no_pairs}
use Rattle.lf_definitions.specs.Instantiation.{LfAssigned}
use Rattle.lf_definitions.specs.Syntax.{metavariable, SimpleType, base, arrows, shape_of, shapes_of_types}
use Rattle.lf_definitions.specs.Typing.{LfGoal, goal_type}
use Rattle.lf_definitions.specs.Signatures.{LfSignature}
use Rattle.lf_definitions.specs.GoalLists.{AreDistinct}
use Rattle.lf_definitions.specs.ShapedGoals.{kind_shapes_in, scope_in}
use Rattle.completion_laws.proofs.Scopes.{shape_found}
use Rattle.lf_definitions.proofs.Typing.{shape_of-pis}
use Rattle.lf_definitions.proofs.Telescopes.{arguments-arrows}
use Rattle.lf_definitions.specs.Syntax.{arguments}
use Rattle.typing_laws.proofs.GoalLists.{type_of_goal}
use Rattle.unification.specs.Equations.{numbered_from, solved}
use Rattle.unification.specs.Transitions.{Frozen, Unifies}
use Rattle.unification.specs.Solutions.{IsResolvedAnswer}
use Rattle.lf_functions.specs.Endings.{unifier_of}
use Rattle.lf_functions.proofs.EndingLaws.{unifiers_are_the_one_end, unifiers_are_answers, unifiers_look_at_what_occurs}
use Rattle.lf_functions.proofs.Depths.{KnowsGoals-scope_in}
use Rattle.applications.specs.Methods.{LfCandidate}
use Rattle.applications.specs.Applications.{freezing}
use Rattle.completion_laws.specs.Laws.{IsUnified}
use Rattle.meta_goals.specs.Bindings.{LfBinding, assigned_of, binding_for}
use Rattle.meta_goals.specs.Laws.{HaveShapesOf}
use Rattle.meta_unify.specs.Endings.{ending_of}
use Rattle.meta_unify.specs.Walks.{IsShapedProblem, AnswerKnowsContexts, KnowsContexts}
use Rattle.meta_unify.specs.declared.unified.Unified.{Unified}
use Rattle.meta_unify.specs.declared.unified.Unified.TheVariants.{Solved, Clash, Occurs, Escapes, Prune, NotPattern}
use Rattle.build_shared.specs.Attempts.{IsOffered, EndsWith}
use Rattle.build_shared.specs.Solutions.{solution_of}
use Rattle.build_shared.proofs.BindingLists.{HaveDifferentNumbers, found_own, All-from_places}

-- a goal as a metavariable
pub goal_shape : (sig : LfSignature) (goals : List LfGoal) → AreDistinct goals → (g : LfGoal) → Contains goals g → scope_in sig goals [] (metavariable g.id) ≡ Some (shape_of (goal_type g))
goal_shape sig goals differ g one_of = shape_found sig goals g.id ∙ ap (option_map shape_of) (type_of_goal goals differ g one_of)

pub context_shapes : (g : LfGoal) (shapes : List SimpleType) → shape_of (goal_type g) ≡ arrows shapes base → shapes ≡ shapes_of_types g.context
context_shapes g shapes e =
    sym (arguments-arrows shapes) ∙ sym (ap arguments e) ∙ ap arguments (shape_of-pis g.context g.target.atom_family g.target.atom_args) ∙ arguments-arrows (shapes_of_types g.context)

All-unmap : (P : LfAssigned → Type 0) (xs : List LfBinding) → All P (map assigned_of xs) → All (λ x. P (assigned_of x)) xs
All-unmap P [] all = All-nil (λ x. P (assigned_of x))
All-unmap P (x ∷ xs) all = All-cons (λ y. P (assigned_of y)) x xs (All-head P (assigned_of x) (map assigned_of xs) all) (All-unmap P xs (All-tail P (assigned_of x) (map assigned_of xs) all))

pub numbers_differ : (bindings : List LfBinding) → AllPairs (λ (e : LfAssigned) f. e.assigned_goal ≢ f.assigned_goal) (map assigned_of bindings) → HaveDifferentNumbers bindings
numbers_differ [] pairs = no_pairs (λ (b : LfBinding) d. b.number ≢ d.number)
numbers_differ (b ∷ rest) pairs =
    AllPairs-cons (λ (x : LfBinding) d. x.number ≢ d.number) b rest
    (All-unmap (λ e. b.number ≢ e.assigned_goal) rest (AllPairs-head (λ (e : LfAssigned) f. e.assigned_goal ≢ f.assigned_goal) (assigned_of b) (map assigned_of rest) pairs))
    (numbers_differ rest (AllPairs-tail (λ (e : LfAssigned) f. e.assigned_goal ≢ f.assigned_goal) (assigned_of b) (map assigned_of rest) pairs))

module _ (sig : LfSignature) (goals : List LfGoal) (n : ℕ) (g : LfGoal) (c : LfCandidate) (offered : IsOffered sig goals n g c) where
  abbrev Among : List LfGoal
  Among = goals ++ c.opened.fresh

  abbrev Freezes : Frozen
  Freezes = freezing c.outcome goals g

  pub is_shaped_problem : IsShapedProblem c.equations
  is_shaped_problem = (kind_shapes_in sig, scope_in sig Among g.context, offered.may_be_used.equations_are_shaped)

  end_is : (frozen : Frozen) → ((m : ℕ) → Freezes m ≡ frozen m) → (u : Unified) → Unifies frozen (numbered_from 0 c.equations) (ending_of u) → unifier_of sig Among g.context Freezes c.equations ≡ ending_of u
  end_is frozen same u ends =
      let shaped = offered.may_be_used.equations_are_shaped in
      unifiers_look_at_what_occurs sig sig Among Among g.context g.context frozen Freezes c.equations shaped shaped (λ m _. same m)
      ∙ sym ((unifiers_are_the_one_end sig Among g.context frozen c.equations shaped (ending_of u)).0 ends)

  abbrev unified_by : (bindings : List LfBinding) → unifier_of sig Among g.context Freezes c.equations ≡ solved (map assigned_of bindings) → IsUnified sig goals n g c (map assigned_of bindings)
  unified_by bindings e =
      record { of_signature = offered.of_signature; of_goals = offered.of_goals; below = offered.below; one_of = offered.one_of; may_be_used = offered.may_be_used; solves = e }

  shapes_at : (bindings : List LfBinding) → unifier_of sig Among g.context Freezes c.equations ≡ solved (map assigned_of bindings) → KnowsContexts c.equations bindings → HaveShapesOf Among bindings
  shapes_at bindings e knows =
      All-from_places (λ b. All (λ h. h.id ≡ b.number → b.shapes ≡ shapes_of_types h.context) Among) bindings each
    where
      answer : IsResolvedAnswer (scope_in sig Among g.context) Freezes (numbered_from 0 c.equations) (map assigned_of bindings)
      answer = unifiers_are_answers sig Among g.context Freezes c.equations (map assigned_of bindings) offered.may_be_used.equations_are_shaped e

      at_goal : (b : LfBinding) → binding_for bindings b.number ≡ Some b → (h : LfGoal) → Contains Among h → h.id ≡ b.number → b.shapes ≡ shapes_of_types h.context
      at_goal b found h one_of same =
          let known = goal_shape sig Among offered.may_be_used.goals_are_shaped.0 h one_of in
          let here = KnowsGoals-scope_in sig Among g.context h.id ∙ known in
          context_shapes h b.shapes
          (knows (kind_shapes_in sig) (scope_in sig Among g.context) offered.may_be_used.equations_are_shaped b.number (shape_of (goal_type h)) b
          (subst (λ k. scope_in sig Among g.context (metavariable k) ≡ Some (shape_of (goal_type h))) same here) found)

      each : (i : ℕ) (b : LfBinding) → slice_get bindings i ≡ Some b → All (λ h. h.id ≡ b.number → b.shapes ≡ shapes_of_types h.context) Among
      each i b there =
          All-weaker (Contains Among) (λ h. h.id ≡ b.number → b.shapes ≡ shapes_of_types h.context) (at_goal b (found_own bindings i b there (numbers_differ bindings answer.each_once))) Among (All-contains_itself Among)

  pub ends : (frozen : Frozen) → ((m : ℕ) → Freezes m ≡ frozen m) → (u : Unified) → Unifies frozen (numbered_from 0 c.equations) (ending_of u) → AnswerKnowsContexts c.equations u →
      EndsWith sig goals n g c (solution_of u)
  ends frozen same u unifies knows = each u (end_is frozen same u unifies) knows
    where
      each : (u : Unified) → unifier_of sig Among g.context Freezes c.equations ≡ ending_of u → AnswerKnowsContexts c.equations u → EndsWith sig goals n g c (solution_of u)
      each (Solved assign) e knows = record { unified = unified_by assign e; have_shapes = shapes_at assign e knows }
      each (Clash path) e knows = (_, e)
      each (Occurs m) e knows = (_, e)
      each (Escapes path) e knows = (_, e)
      each (Prune path) e knows = (_, e)
      each (NotPattern path) e knows = (_, e)
