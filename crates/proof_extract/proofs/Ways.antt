-- The way of a chosen script through a tree.
use Rattle.std.proofs.Common.{◌≡◌, ℕ, ◌+◌, ◌<◌, true, Option, Some, None, List, [], ◌∷◌, ◌++◌, length, refl, sym, ap, ◌∙◌, subst, arith, append_assoc, length-append}
use Rattle.std.specs.Prelude.{is_some, option_map, slice_get, if◌then◌else◌}
use Rattle.std.specs.List.{Contains}
use Rattle.std.proofs.lemmas.Option.{slice_get_within}
use Rattle.head_laws.proofs.Numbers.{Contains-here}
use Rattle.lf_definitions.specs.Syntax.{LfType}
use Rattle.lf_definitions.specs.Typing.{LfGoal}
use Rattle.lf_definitions.specs.Signatures.{LfSignature}
use Rattle.lf_definitions.specs.ShapedGoals.{ShapedGoals}
use Rattle.lf_definitions.specs.GoalLists.{LfGoals, all_goals, first_of, first_goal, opening, AreDistinct}
use Rattle.lf_definitions.proofs.Options.{Some_inj}
use Rattle.alternatives.specs.Rules.{LfRule}
use Rattle.alternatives.specs.Alternatives.{LfAlternative}
use Rattle.clusters.proofs.Classes.{member_has_number}
use Rattle.derivations.specs.Derivations.{alternatives_of}
use Rattle.derivations.specs.Replays.{LfStep}
use Rattle.answer_definitions.specs.Chosen.{step_of}
use Rattle.tree_runs.specs.Marks.{entry_at, is_proved}
use Rattle.tree_runs.specs.Shapes.{TreeShape, nodes_count, alternatives_at}
use Rattle.tree_shape.specs.Room.{HasAlternative}
use Rattle.tree_steps.specs.declared.tree.Tree.{Tree}
use Rattle.answer_definitions.specs.Right.{state_after}
use Rattle.answer_definitions.specs.Settled.{script_by}
use Rattle.extraction_laws.specs.Following.{nodes_after, IsLeast, shape_after, script_from, IsReached}
use Rattle.extraction_laws.specs.Laws.{IsNextStep}
use Rattle.proof_extract.specs.Tables.{IsTable}
use Rattle.proof_extract.specs.Ways.{IsFollowed, IsOnTheWay, IsStepOn}

-- the first goal of a list has this number
record IsFirst (list : LfGoals) (n : ℕ) : Type 0 where
  goal : LfGoal
  is : first_goal list ≡ Some goal
  number : goal.id ≡ n

first_of_number : (list : LfGoals) (n : ℕ) → option_map (λ (g : LfGoal). g.id) (first_goal list) ≡ Some n → IsFirst list n
first_of_number list n e = by (first_goal list) refl e
  where
    by : (o : Option LfGoal) → first_goal list ≡ o → option_map (λ (g : LfGoal). g.id) o ≡ Some n → IsFirst list n
    by None is e = absurd cc
    by (Some g) is e = record { goal = g; is = is; number = cc }

pub no_first : (list : LfGoals) → option_map (λ (g : LfGoal). g.id) (first_goal list) ≡ None → first_goal list ≡ None
no_first list e = by (first_goal list) e
  where
    by : (o : Option LfGoal) → option_map (λ (g : LfGoal). g.id) o ≡ None → o ≡ None
    by None e = refl
    by (Some g) e = absurd cc

first_contained : (goals : List LfGoal) (g : LfGoal) → first_of goals ≡ Some g → Contains goals g
first_contained [] g e = absurd cc
first_contained (x ∷ rest) g e = let same : x ≡ g = cc in subst (Contains (x ∷ rest)) same (Contains-here x rest)

alternative_there : (shape : TreeShape) (node i : ℕ) (entry : ℕ × ℕ) → entry_at (alternatives_at shape node) i ≡ Some entry → HasAlternative shape node i
alternative_there shape node i entry e = by (alternatives_at shape node) refl e
  where
    by : (o : Option (List (ℕ × ℕ))) → alternatives_at shape node ≡ o → entry_at o i ≡ Some entry → HasAlternative shape node i
    by None is e = absurd cc
    by (Some all) is e = record { all = all; grown = is; within = slice_get_within all i entry e }

module _ (sig : LfSignature) (rules : List LfRule) (a : LfType) {P S N : Type 0} (tree : Tree P N S) where
  -- ---- one step

  module _ (most : ℕ) (list : LfGoals) (nodes : ℕ → ℕ) (entries : ℕ → Option ℕ) (way : IsOnTheWay sig rules a tree most list nodes entries) where
    pub list_is_shaped : ShapedGoals sig (all_goals list)
    list_is_shaped = way.followed.follows.shaped most list nodes way.reached

    module _ (n : ℕ) (is_first : option_map (λ (g : LfGoal). g.id) (first_goal list) ≡ Some n) where
      first : IsFirst list n
      first = first_of_number list n is_first

      entry_is : entries n ≡ Some (nodes first.goal.id)
      entry_is =
          ap entries (sym first.number) ∙ way.table first.goal.id
          ∙ ap (λ b. if b then Some (nodes first.goal.id) else None) (member_has_number (all_goals list) first.goal (first_contained (all_goals list) first.goal first.is))

      pub has_entry : is_some (entries n) ≡ true
      has_entry = ap is_some entry_is

      module _ (node : ℕ) (node_is : entries n ≡ Some node) where
        same_node : nodes first.goal.id ≡ node
        same_node = Some_inj entry_is node_is

        pub node_stands : node < nodes_count tree.shape.shape
        node_stands =
            subst (λ k. k < nodes_count tree.shape.shape) same_node
            (subst (λ shape. nodes first.goal.id < nodes_count shape) (sym way.followed.shape) (way.followed.follows.stands most list nodes way.reached first.goal first.is).0)

        pub node_is_proved : is_proved tree.shape.shape node ≡ true
        node_is_proved =
            ap (is_proved tree.shape.shape) (sym same_node) ∙ ap (λ shape. is_proved shape (nodes first.goal.id)) way.followed.shape
            ∙ (way.followed.follows.stands most list nodes way.reached first.goal first.is).1

        module _ (choice : ℕ) (least : IsLeast tree.shape.shape node choice) where
          next : IsNextStep sig rules a tree.journal.events (IsReached sig rules a tree.journal.events) most list nodes node choice
          next =
              subst (λ k. IsNextStep sig rules a tree.journal.events (IsReached sig rules a tree.journal.events) most list nodes k choice) same_node
              (way.followed.follows.steps most list nodes way.reached first.goal first.is choice
              (subst (λ k. IsLeast (shape_after sig rules a tree.journal.events) k choice) (sym same_node) (subst (λ shape. IsLeast shape node choice) way.followed.shape least)))

          pub choice_within : choice < length (alternatives_of sig rules list)
          choice_within = slice_get_within (alternatives_of sig rules list) choice next.alternative next.there

          pub has_children : HasAlternative tree.shape.shape node choice
          has_children = subst (λ shape. HasAlternative shape node choice) (sym way.followed.shape) (alternative_there (shape_after sig rules a tree.journal.events) node choice _ next.children)

          module _ (alternative : LfAlternative) (there : slice_get (alternatives_of sig rules list) choice ≡ Some alternative) where
            same_alternative : next.alternative ≡ alternative
            same_alternative = Some_inj next.there there

            reached_then : IsReached sig rules a tree.journal.events next.left alternative.goals (nodes_after list nodes node next.first alternative.goals)
            reached_then =
                subst (λ (x : LfAlternative). IsReached sig rules a tree.journal.events next.left x.goals (nodes_after list nodes node next.first x.goals)) same_alternative next.goes_on

            pub goals_differ : AreDistinct (all_goals alternative.goals)
            goals_differ = (way.followed.follows.shaped next.left alternative.goals (nodes_after list nodes node next.first alternative.goals) reached_then).0

            pub step_on : (children : ℕ × ℕ) → entry_at (alternatives_at tree.shape.shape node) choice ≡ Some children → (made : ℕ → Option ℕ) →
                ((before : LfGoals) (carried : ℕ → ℕ) → IsTable before carried entries → IsTable alternative.goals (nodes_after before carried node children.0 alternative.goals) made) →
                IsStepOn sig rules a tree most list nodes (step_of alternative) alternative.goals made
            step_on children at made table = record {
              left = next.left;
              one_less = next.one_less;
              nodes_then = nodes_after list nodes node children.0 alternative.goals;
              on_the_way = record {
                followed = way.followed;
                reached = subst (λ k. IsReached sig rules a tree.journal.events next.left alternative.goals (nodes_after list nodes node k alternative.goals)) same_first reached_then;
                table = table list nodes way.table;
              };
              script =
                  subst (λ k. script_from sig rules a tree.journal.events most list nodes ≡ step_of alternative ∷ script_from sig rules a tree.journal.events next.left alternative.goals (nodes_after list nodes node k alternative.goals))
                  same_first
                  (subst (λ (x : LfAlternative). script_from sig rules a tree.journal.events most list nodes ≡ step_of x ∷ script_from sig rules a tree.journal.events next.left x.goals (nodes_after list nodes node next.first x.goals))
                  same_alternative next.script);
            }
              where
                same_first : next.first ≡ children.0
                same_first = ap (λ (p : ℕ × ℕ). p.0) (Some_inj next.children (subst (λ shape. entry_at (alternatives_at shape node) choice ≡ Some children) way.followed.shape at))

  -- ---- all steps

  -- how many steps the script has at most
  abbrev pub steps_allowed : ℕ
  steps_allowed = length (state_after sig rules a tree.journal.events).committed

  -- These steps lead from the opening list to this one.
  pub record HasCome (steps : List LfStep) (list : LfGoals) (entries : ℕ → Option ℕ) : Type 0 where
    pub left : ℕ
    pub count : length steps + left ≡ steps_allowed
    pub nodes : ℕ → ℕ
    pub on_the_way : IsOnTheWay sig rules a tree left list nodes entries
    pub script : steps ++ script_from sig rules a tree.journal.events left list nodes ≡ script_by sig rules a tree.journal.events

  pub at_opening : IsFollowed sig rules a tree → (list : LfGoals) (entries : ℕ → Option ℕ) → list ≡ opening a → IsTable (opening a) (λ m. 0) entries → (steps : List LfStep) → steps ≡ [] →
      HasCome steps list entries
  at_opening followed list entries is table steps none = subst (λ l. HasCome steps l entries) (sym is) (subst (λ s. HasCome s (opening a) entries) (sym none) start)
    where
      start : HasCome [] (opening a) entries
      start = record {
        left = steps_allowed;
        count = omega arith;
        nodes = λ m. 0;
        on_the_way = record { followed = followed; reached = followed.follows.begins; table = table };
        script = followed.follows.whole;
      }

  pub has_gone_on : (steps : List LfStep) (list : LfGoals) (entries : ℕ → Option ℕ) (come : HasCome steps list entries) (step : LfStep) (after : LfGoals) (made : ℕ → Option ℕ) →
      IsStepOn sig rules a tree come.left list come.nodes step after made → (steps_then : List LfStep) → steps_then ≡ steps ++ step ∷ [] → HasCome steps_then after made
  has_gone_on steps list entries come step after made on steps_then is = subst (λ s. HasCome s after made) (sym is) record {
    left = on.left;
    count = let longer = length-append steps (step ∷ []) in omega (arith, longer, come.count, on.one_less);
    nodes = on.nodes_then;
    on_the_way = on.on_the_way;
    script = append_assoc steps (step ∷ []) _ ∙ ap (λ l. steps ++ l) (sym on.script) ∙ come.script;
  }

  pub steps_are_left : (steps : List LfStep) (list : LfGoals) (entries : ℕ → Option ℕ) (come : HasCome steps list entries) (step : LfStep) (after : LfGoals) (made : ℕ → Option ℕ) →
      IsStepOn sig rules a tree come.left list come.nodes step after made → length steps < steps_allowed
  steps_are_left steps list entries come step after made on = omega (arith, come.count, on.one_less)

  pub has_ended : (steps : List LfStep) (list : LfGoals) (entries : ℕ → Option ℕ) → HasCome steps list entries → first_goal list ≡ None → steps ≡ script_by sig rules a tree.journal.events
  has_ended steps list entries come none =
      sym (append_nil steps) ∙ ap (λ l. steps ++ l) (sym (come.on_the_way.followed.follows.ends come.left list come.nodes none)) ∙ come.script
    where
      append_nil : (xs : List LfStep) → xs ++ [] ≡ xs
      append_nil [] = refl
      append_nil (x ∷ xs) = ap (λ l. x ∷ l) (append_nil xs)
