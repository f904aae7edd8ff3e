-- The chosen script can be followed from the opening list on.
use Rattle.std.proofs.Common.{◌≡◌, ℕ, zero, suc, ◌<◌, true, Some, None, List, [], length, refl, sym, ap, ◌∙◌, subst}
use Rattle.std.proofs.lemmas.List.{length-map}
use Rattle.std.proofs.lemmas.Option.{slice_get_within}
use Rattle.lf_definitions.specs.Syntax.{LfType}
use Rattle.lf_definitions.specs.Shaping.{ShapedType}
use Rattle.lf_definitions.specs.ShapedGoals.{kind_shapes_in}
use Rattle.lf_definitions.specs.Typing.{LfGoal}
use Rattle.lf_definitions.specs.Signatures.{LfSignature}
use Rattle.lf_definitions.specs.GoalLists.{LfGoals, all_goals, first_goal, opening}
use Rattle.lf_definitions.proofs.Options.{Some_inj}
use Rattle.lf_definitions.proofs.ShapedGoals.{shapes_of-typing_in, ShapedSignature-FormedSignature}
use Rattle.lf_definitions.proofs.Typing.{ShapedType-Formed}
use Rattle.alternatives.specs.Rules.{LfRule}
use Rattle.alternatives.specs.Alternatives.{LfAlternative}
use Rattle.derivations.specs.Unfolding.{branches_of}
use Rattle.tree_runs.specs.Addresses.{address_of}
use Rattle.tree_runs.specs.Marks.{is_proved}
use Rattle.tree_runs.specs.Runs.{is_run}
use Rattle.tree_runs.specs.Shapes.{TreeShape, nodes_count}
use Rattle.tree_runs.specs.States.{TreeEvent}
use Rattle.tree_runs.proofs.Addresses.{address_of-root}
use Rattle.tree_derivations.specs.Laws.{IsTheorem}
use Rattle.answer_definitions.specs.Chosen.{chosen_from, chosen_script}
use Rattle.chosen_scripts.proofs.Spent.{IsSpent}
use Rattle.chosen_scripts.proofs.Carried.{IsCarried}
use Rattle.chosen_scripts.proofs.Scripts.{none_chosen, opening_spent, opening_carried}
use Rattle.answer_definitions.specs.Theorems.{IsFormedTheorem}
use Rattle.answer_definitions.specs.Right.{state_after}
use Rattle.answer_definitions.specs.Settled.{is_proved_at}
use Rattle.extraction_laws.specs.Following.{nodes_after, IsLeast, shape_after, IsReached, opened, stepped, agreed}
use Rattle.extraction_laws.specs.Laws.{IsNextStep, CanBeFollowed, ChosenScriptsCanBeFollowed}
use Rattle.extraction_laws.proofs.Nodes.{committed_in, is_sound, proved_alike}
use Rattle.extraction_laws.proofs.Agreement.{script_alike}
use Rattle.extraction_laws.proofs.Steps.{addresses, IsFollowed, followed_alike, first_stands, first_is_proved, step_is_left, step_by}

-- A well-formed theorem is one over shaped signatures and types.
shaped_theorem : (sig : LfSignature) (rules : List LfRule) (a : LfType) → IsFormedTheorem sig rules a → IsTheorem sig rules a
shaped_theorem sig rules a formed = record {
  signature = ShapedSignature-FormedSignature sig formed.signature;
  rules_take_atoms = formed.rules_take_atoms;
  type = subst (λ Γ. ShapedType (kind_shapes_in sig) Γ a) (shapes_of-typing_in sig [] []) (ShapedType-Formed formed.type);
}

-- A number that isn't 0 is one more than another.
record IsMore (most : ℕ) : Type 0 where
  left : ℕ
  is : most ≡ suc left

one_more : (most : ℕ) → (most ≡ 0 → ⊥) → IsMore most
one_more zero some = absurd (some refl)
one_more (suc left) some = record { left = left; is = refl }

module _ (sig : LfSignature) (rules : List LfRule) (a : LfType) (formed : IsFormedTheorem sig rules a) (budget : ℕ) (events : List TreeEvent)
    (run : is_run (branches_of sig rules) budget (opening a) events ≡ true) (root : is_proved (shape_after sig rules a events) 0 ≡ true)
  where
    abbrev shape : TreeShape
    shape = shape_after sig rules a events

    abbrev size : ℕ
    size = length (state_after sig rules a events).committed

    root_address : address_of shape 0 ≡ []
    root_address = address_of-root shape (is_sound sig rules a budget events run).is_shape

    root_stands : 0 < nodes_count shape
    root_stands = slice_get_within shape.above 0 None (is_sound sig rules a budget events run).is_shape.root

    root_proved : is_proved_at shape [] ≡ true
    root_proved = subst (λ d. is_proved_at shape d ≡ true) root_address (proved_alike sig rules a budget events run 0 root_stands ∙ root)

    opening_followed : IsFollowed sig rules a budget events run size (opening a) (λ m. 0)
    opening_followed = record {
      stand = λ m has. root_stands;
      known = subst (λ d. IsCarried sig rules a (is_proved_at shape) (opening a) (λ m. d)) (sym root_address)
          (opening_carried sig rules a (is_proved_at shape) (shaped_theorem sig rules a formed) root_proved);
      used = [];
      spent = subst (λ d. IsSpent (committed_in sig rules a budget events run) [] size (λ m. d) (all_goals (opening a))) (sym root_address)
          (subst (λ n. IsSpent (committed_in sig rules a budget events run) [] n (λ m. []) (all_goals (opening a))) (length-map (state_after sig rules a events).committed (address_of shape))
          (opening_spent (committed_in sig rules a budget events run) (all_goals (opening a))));
    }

    -- So much is known of each list that is reached.
    follow : (most : ℕ) (list : LfGoals) (carried : ℕ → ℕ) → IsReached sig rules a events most list carried → IsFollowed sig rules a budget events run most list carried
    follow most list carried opened = opening_followed
    follow most list carried (stepped left before nodes g i first count alternative reached first_is least there entry) =
        let step = step_by sig rules a budget events run (suc left) before nodes (follow (suc left) before nodes reached) g first_is left refl i least in
        let same : step.alternative ≡ alternative = Some_inj step.there there in
        let pairs = Some_inj step.children entry in
        let child : step.first_child ≡ first = ap (λ (p : ℕ × ℕ). p.0) pairs in
        subst (λ n. IsFollowed sig rules a budget events run left alternative.goals (nodes_after before nodes (nodes g.id) n alternative.goals)) child
        (subst (λ (x : LfAlternative). IsFollowed sig rules a budget events run left x.goals (nodes_after before nodes (nodes g.id) step.first_child x.goals)) same step.goes_on)
    follow most list carried (agreed _ _ nodes _ reached agree) = followed_alike sig rules a budget events run most list nodes carried (follow most list nodes reached) agree

    next_step : (most : ℕ) (list : LfGoals) (carried : ℕ → ℕ) → IsReached sig rules a events most list carried → (g : LfGoal) → first_goal list ≡ Some g → (i : ℕ) →
        IsLeast shape (carried g.id) i → IsNextStep sig rules a events (IsReached sig rules a events) most list carried (carried g.id) i
    next_step most list carried reached g first i least =
        let followed = follow most list carried reached in
        let more = one_more most (step_is_left sig rules a budget events run most list carried followed g first) in
        let step = step_by sig rules a budget events run most list carried followed g first more.left more.is i least in
        record {
          alternative = step.alternative;
          there = step.there;
          first = step.first_child;
          children = step.children;
          children_stand = step.children_stand;
          left = more.left;
          one_less = more.is;
          goes_on = stepped more.left list carried g i step.first_child _ step.alternative (subst (λ n. IsReached sig rules a events n list carried) more.is reached) first least step.there step.children;
          script = step.script;
        }

    pub can_be_followed : CanBeFollowed sig rules a events (IsReached sig rules a events)
    unfolding chosen_script
    can_be_followed = record {
      begins = opened;
      whole = ap (λ d. chosen_from sig rules a (is_proved_at shape) size (opening a) (λ m. d)) root_address;
      shaped = λ most list carried reached. (follow most list carried reached).known.may.goals;
      stands = λ most list carried reached g first. (
        first_stands sig rules a budget events run most list carried (follow most list carried reached) g first,
        first_is_proved sig rules a budget events run most list carried (follow most list carried reached) g first,
      );
      steps = next_step;
      ends = λ most list carried none. none_chosen sig rules a (is_proved_at shape) most list (addresses sig rules a budget events run carried) none;
      agrees = λ most list carried other reached agree. (
        agreed most list carried other reached agree,
        sym (script_alike list (addresses sig rules a budget events run carried) (addresses sig rules a budget events run other) (λ m has. ap (address_of shape) (agree m has)) sig rules a (is_proved_at shape) most),
      );
    }

pub chosen_scripts_can_be_followed : ChosenScriptsCanBeFollowed
chosen_scripts_can_be_followed sig rules a formed budget events run root = can_be_followed sig rules a formed budget events run root
