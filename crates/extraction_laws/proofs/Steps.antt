-- One step from a list on whose goals carry nodes: what is chosen by addresses is what is read by numbers, and so much is known after it as before.
use mathlib.Core.Path.{fun_ext}
use Rattle.std.proofs.Common.{◌≡◌, ℕ, suc, ◌+◌, ◌<◌, Bool, true, false, not, ◌||◌, Some, List, [], ◌∷◌, ◌++◌, length, refl, sym, ap, ◌∙◌, subst}
use Rattle.std.specs.Prelude.{if◌then◌else◌, nat_eq, slice_get}
use Rattle.std.specs.List.{Contains}
use Rattle.std.proofs.lemmas.List.{length-map}
use Rattle.std.proofs.lemmas.Option.{slice_get_within}
use Rattle.lf_definitions.specs.Syntax.{LfType}
use Rattle.lf_definitions.specs.Typing.{LfGoal}
use Rattle.lf_definitions.specs.Signatures.{LfSignature}
use Rattle.lf_definitions.specs.GoalLists.{LfGoals, all_goals, ids, first_goal, next_id, opening}
use Rattle.application_laws.specs.Conditions.{inside, goals_inside}
use Rattle.application_laws.proofs.Inside.{contains_inside}
use Rattle.alternatives.specs.Rules.{LfRule}
use Rattle.alternatives.specs.Alternatives.{LfAlternative}
use Rattle.clusters.specs.Clusters.{classes, is_one_of, cluster_of, clusters}
use Rattle.clusters.proofs.Elements.{has_mapped}
use Rattle.clusters.proofs.Classes.{is_in_classes, member_has_number}
use Rattle.framed_alternatives.specs.Laws.{with_fresh}
use Rattle.carried_alternatives.specs.Laws.{inside_by_place}
use Rattle.derivations.specs.Derivations.{alternatives_of}
use Rattle.derivations.specs.Unfolding.{branches_of}
use Rattle.tree_runs.specs.Addresses.{Address, address_of}
use Rattle.tree_runs.specs.Marks.{entry_at, is_proved}
use Rattle.tree_runs.specs.Runs.{is_run}
use Rattle.tree_runs.specs.Shapes.{TreeShape, nodes_count, alternatives_at}
use Rattle.tree_runs.specs.States.{TreeEvent}
use Rattle.answer_definitions.specs.Chosen.{same_address, is_moved, class_place, carried_after, step_of}
use Rattle.chosen_scripts.proofs.Choices.{proved_is_committed}
use Rattle.chosen_scripts.proofs.Spent.{IsSpent, some_are_left, no_goal_is_child, spent_after}
use Rattle.chosen_scripts.proofs.Places.{number_contained, first_contained, class_is_placed}
use Rattle.chosen_scripts.proofs.Carried.{carries, Stands, IsCarried, IsEntry, entry_of}
use Rattle.chosen_scripts.proofs.After.{same_classes, goes_on, carried_on}
use Rattle.chosen_scripts.proofs.Scripts.{one_step}
use Rattle.answer_definitions.specs.Settled.{is_proved_at}
use Rattle.extraction_laws.specs.Following.{is_moved_from, moved_classes, nodes_after, Agree, IsLeast, shape_after, script_from}
use Rattle.extraction_laws.proofs.Nodes.{committed_in, same_test, child_stands_at, proved_alike, says_what_is_proved}
use Rattle.extraction_laws.proofs.Branches.{IsProvedEntry, proved_entry, least_is_chosen}
use Rattle.extraction_laws.proofs.Agreement.{id_contained, not_moved_is_old, script_alike, known_alike, spent_alike}

clusters_count : (list : LfGoals) → length (clusters list) ≡ length (classes (all_goals list))
unfolding clusters
clusters_count list = length-map (classes (all_goals list)) (cluster_of list)

module _ (sig : LfSignature) (rules : List LfRule) (a : LfType) (budget : ℕ) (events : List TreeEvent) (run : is_run (branches_of sig rules) budget (opening a) events ≡ true) where
  abbrev shape : TreeShape
  shape = shape_after sig rules a events

  abbrev proved : Address → Bool
  proved = is_proved_at shape

  abbrev committed : List Address
  committed = committed_in sig rules a budget events run

  -- the addresses of what is carried
  abbrev pub addresses : (ℕ → ℕ) → ℕ → Address
  addresses carried m = address_of shape (carried m)

  -- What is known of a list whose goals carry nodes, with so many steps left: these stand, and by their addresses it is what the chosen script comes to.
  pub record IsFollowed (most : ℕ) (list : LfGoals) (carried : ℕ → ℕ) : Type 0 where
    pub stand : (m : ℕ) → Contains (ids (all_goals list)) m → carried m < nodes_count shape
    pub known : IsCarried sig rules a proved list (addresses carried)
    pub used : List Address
    pub spent : IsSpent committed used most (addresses carried) (all_goals list)

  pub followed_alike : (most : ℕ) (list : LfGoals) (carried other : ℕ → ℕ) → IsFollowed most list carried → Agree list carried other → IsFollowed most list other
  followed_alike most list carried other followed agree =
      let same : (m : ℕ) → Contains (ids (all_goals list)) m → addresses carried m ≡ addresses other m = λ m has. ap (address_of shape) (agree m has) in
      record {
        stand = λ m has. subst (λ n. n < nodes_count shape) (agree m has) (followed.stand m has);
        known = known_alike list (addresses carried) (addresses other) same sig rules a proved followed.known;
        used = followed.used;
        spent = spent_alike list (addresses carried) (addresses other) same committed followed.used most followed.spent;
      }

  module _ (most : ℕ) (list : LfGoals) (carried : ℕ → ℕ) (followed : IsFollowed most list carried) (g : LfGoal) (first : first_goal list ≡ Some g) where
    abbrev node : ℕ
    node = carried g.id

    abbrev here : Address
    here = address_of shape node

    abbrev part : LfGoals
    part = inside_by_place (carries (addresses carried) here) list

    has_first : Contains (all_goals list) g
    has_first = first_contained (all_goals list) g first

    pub first_stands : node < nodes_count shape
    first_stands = followed.stand g.id (id_contained (all_goals list) g has_first)

    address_proved : proved here ≡ true
    address_proved = (followed.known.stand g has_first).is_proved

    pub first_is_proved : is_proved shape node ≡ true
    first_is_proved = sym (proved_alike sig rules a budget events run node first_stands) ∙ address_proved

    address_committed : Contains committed here
    address_committed = proved_is_committed proved here sig rules a committed ((says_what_is_proved sig rules a budget events run here).0 address_proved)

    pub step_is_left : most ≡ 0 → ⊥
    step_is_left = some_are_left committed followed.used most (addresses carried) (all_goals list) followed.spent g has_first address_committed

    -- ---- what is moved

    moved_alike : (m : ℕ) → is_moved list (addresses carried) here m ≡ is_moved_from list carried node m
    moved_alike m = step (is_one_of (all_goals list) m) refl
      where
        step : (b : Bool) → is_one_of (all_goals list) m ≡ b → (not b || same_address (addresses carried m) here) ≡ (not b || nat_eq (carried m) node)
        step true e = same_test sig rules a budget events run (carried m) node (followed.stand m (number_contained (all_goals list) m e)) first_stands
        step false e = refl

    moved_same : is_moved list (addresses carried) here ≡ is_moved_from list carried node
    moved_same = fun_ext moved_alike

    -- A step by the least alternative of the node, with one step left less.
    module _ (left : ℕ) (more : most ≡ suc left) (i : ℕ) (least : IsLeast shape node i) where
      stood : Stands sig rules a proved list (addresses carried) g
      stood = followed.known.stand g has_first

      found : IsProvedEntry sig rules a budget events run node first_stands part stood.there i
      found = proved_entry sig rules a budget events run node first_stands part stood.there i least.is_proved

      entry : IsEntry sig rules a proved list (addresses carried) followed.known g first i found.branch.1
      entry = entry_of sig rules a proved list (addresses carried) followed.known g first i found.branch found.in_branches

      abbrev after : LfGoals
      after = entry.alternative.goals

      abbrev onward : ℕ → Address
      onward = carried_after list (addresses carried) here i after

      abbrev test : ℕ → Bool
      test = is_moved_from list carried node

      abbrev moved : List (List LfGoal)
      moved = moved_classes list carried node after

      abbrev later : ℕ → ℕ
      later = nodes_after list carried node found.first after

      -- The alternative has as many children as there are classes of goals that are moved.
      children_are_moved : found.count ≡ length moved
      children_are_moved =
          sym found.size
          ∙ (sym (ap length entry.same_clusters)
          ∙ (clusters_count (goals_inside (with_fresh (carries (addresses carried) here) (next_id list)) after)
          ∙ (sym (ap length (same_classes sig rules a proved list (addresses carried) followed.known g first i found.branch entry))
          ∙ ap (λ (within : ℕ → Bool). length (classes (inside within (all_goals after)))) moved_same)))

      place_within : (m : ℕ) → Contains (ids (all_goals after)) m → test m ≡ true → class_place moved m < length moved
      place_within m has is =
          let r = has_mapped (λ (h : LfGoal). h.id) (all_goals after) m has in
          let there = contains_inside test (all_goals after) r.0 r.1 (ap test r.2 ∙ is) in
          let class = is_in_classes (inside test (all_goals after)) r.0 there in
          let placed = class_is_placed moved r.0.id class.0 class.1 (member_has_number class.0 r.0 class.2) in
          subst (λ k. class_place moved k < length moved) r.2 (slice_get_within moved (class_place moved r.0.id) placed.class placed.there)

      abbrev child : ℕ → Address
      child m = here ++ (i, class_place moved m) ∷ []

      onward_is : (m : ℕ) → onward m ≡ (if test m then child m else addresses carried m)
      onward_is m = ap (λ (within : ℕ → Bool). if within m then here ++ (i, class_place (classes (inside within (all_goals after))) m) ∷ [] else addresses carried m) moved_same

      -- What a goal of the list carries after the step is the address of a node that stands.
      record IsCarriedNode (m : ℕ) : Type 0 where
        stands : later m < nodes_count shape
        address : onward m ≡ address_of shape (later m)

      goal_after : (m : ℕ) → Contains (ids (all_goals after)) m → IsCarriedNode m
      goal_after m has = step (test m) refl
        where
          step : (b : Bool) → test m ≡ b → IsCarriedNode m
          step true is =
              let low : class_place moved m < found.count = subst (λ n. class_place moved m < n) (sym children_are_moved) (place_within m has is) in
              let stands_there = child_stands_at sig rules a budget events run node i found.first found.count (class_place moved m) found.entry low in
              let number : later m ≡ found.first + class_place moved m = ap (λ b. if b then found.first + class_place moved m else carried m) is in
              record {
                stands = subst (λ n. n < nodes_count shape) (sym number) stands_there.stands;
                address = onward_is m ∙ (ap (λ b. if b then child m else addresses carried m) is ∙ (sym stands_there.address ∙ ap (address_of shape) (sym number)));
              }
          step false is =
              let number : later m ≡ carried m = ap (λ b. if b then found.first + class_place moved m else carried m) is in
              record {
                stands = subst (λ n. n < nodes_count shape) (sym number) (followed.stand m (not_moved_is_old list m (nat_eq (carried m) node) is));
                address = onward_is m ∙ (ap (λ b. if b then child m else addresses carried m) is ∙ ap (address_of shape) (sym number));
              }

      agree_after : (m : ℕ) → Contains (ids (all_goals after)) m → onward m ≡ addresses later m
      agree_after m has = (goal_after m has).address

      known_after : IsCarried sig rules a proved after onward
      known_after =
          carried_on sig rules a proved list (addresses carried) followed.known g first i found.branch entry
          (no_goal_is_child committed followed.used most (addresses carried) (all_goals list) followed.spent g has_first address_committed) found.in_branches found.children has_first

      spent_onward : IsSpent committed (here ∷ followed.used) left onward (all_goals after)
      spent_onward =
          spent_after committed followed.used most (addresses carried) (all_goals list) followed.spent g has_first address_committed left more onward (all_goals after)
          (goes_on sig rules a proved list (addresses carried) followed.known g first i found.branch entry)

      followed_after : IsFollowed left after later
      followed_after = record {
        stand = λ m has. (goal_after m has).stands;
        known = known_alike after onward (addresses later) agree_after sig rules a proved known_after;
        used = here ∷ followed.used;
        spent = spent_alike after onward (addresses later) agree_after committed (here ∷ followed.used) left spent_onward;
      }

      script_unrolls : script_from sig rules a events most list carried ≡ step_of entry.alternative ∷ script_from sig rules a events left after later
      script_unrolls =
          ap (λ (k : ℕ). script_from sig rules a events k list carried) more
          ∙ (one_step sig rules a proved left list (addresses carried) g i entry.alternative first
          (least_is_chosen sig rules a budget events run node first_stands part stood.there i least) entry.there
          ∙ ap (λ rest. step_of entry.alternative ∷ rest) (script_alike after onward (addresses later) agree_after sig rules a proved left))

      -- The entry of the list, the children of the node, and what follows.
      pub record IsStepBy : Type 0 where
        pub alternative : LfAlternative
        pub there : slice_get (alternatives_of sig rules list) i ≡ Some alternative
        pub first_child : ℕ
        pub children : entry_at (alternatives_at shape node) i ≡ Some (first_child, length (moved_classes list carried node alternative.goals))
        pub children_stand : (place : ℕ) → place < length (moved_classes list carried node alternative.goals) → first_child + place < nodes_count shape
        pub goes_on : IsFollowed left alternative.goals (nodes_after list carried node first_child alternative.goals)
        pub script : script_from sig rules a events most list carried ≡ step_of alternative ∷ script_from sig rules a events left alternative.goals (nodes_after list carried node first_child alternative.goals)

      pub step_by : IsStepBy
      step_by = record {
        alternative = entry.alternative;
        there = entry.there;
        first_child = found.first;
        children = found.entry ∙ ap (λ (n : ℕ). Some (found.first, n)) children_are_moved;
        children_stand = λ place low.
            (child_stands_at sig rules a budget events run node i found.first found.count place found.entry (subst (λ n. place < n) (sym children_are_moved) low)).stands;
        goes_on = followed_after;
        script = script_unrolls;
      }
