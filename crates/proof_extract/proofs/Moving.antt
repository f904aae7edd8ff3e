-- The table of the list after a step.
use Rattle.std.proofs.Common.{◌≡◌, ℕ, ◌+◌, Bool, true, false, not, Option, Some, None, List, ◌++◌, map, refl, sym, ap, ◌∙◌, subst}
use Rattle.std.specs.Prelude.{◌||◌, if◌then◌else◌, nat_eq}
use Rattle.std.specs.List.{list_any, Contains}
use Rattle.std.proofs.Math.Path.{fun_ext}
use Rattle.std.proofs.lemmas.List.{map-append}
use Rattle.std.proofs.lemmas.List.Folds.{list_any-append}
use Rattle.lf_definitions.specs.Typing.{LfGoal}
use Rattle.lf_definitions.specs.GoalLists.{LfGoals, all_goals, ids, AreDistinct}
use Rattle.application_laws.specs.Conditions.{inside, goals_inside}
use Rattle.application_laws.proofs.Inside.{contains_inside}
use Rattle.goal_lists.specs.Numbering.{numbered_pairs}
use Rattle.clusters.specs.Clusters.{classes, is_one_of}
use Rattle.clusters.proofs.Classes.{is_in_classes, is_in_goals, classes_apart, member_has_number, goal_of_number}
use Rattle.clusters.proofs.Laws.{inside_parts}
use Rattle.answer_definitions.specs.Chosen.{class_place}
use Rattle.extraction_laws.specs.Following.{is_moved_from, nodes_after}
use Rattle.proof_extract.specs.Tables.{IsTable, moves, kept, has_first, given}
use Rattle.proof_extract.proofs.Insides.{distinct_moved, goal_inside, numbers_of_class, firsts_of_pairs}
use Rattle.proof_extract.proofs.Given.{given_none, given_some}

-- the pairs of a class of goals
abbrev pub pairs_of : LfGoals → List LfGoal → List (ℕ × ℕ)
pairs_of list class = numbered_pairs 0 (ids (all_goals (goals_inside (is_one_of class) list)))

-- The first numbers of a class's pairs are the numbers of the class.
firsts_of_class : (list : LfGoals) (class : List LfGoal) → Contains (classes (all_goals list)) class → (m : ℕ) → has_first (pairs_of list class) m ≡ is_one_of class m
firsts_of_class list class has m =
    firsts_of_pairs 0 (ids (all_goals (goals_inside (is_one_of class) list))) m
    ∙ ap (λ goals. is_one_of goals m) (sym (inside_parts (is_one_of class) list.proofs list.witnesses)) ∙ numbers_of_class (all_goals list) class has m

-- A number of two parts is one of either.
one_of_both : (xs ys : List LfGoal) (m : ℕ) → is_one_of (xs ++ ys) m ≡ (is_one_of xs m || is_one_of ys m)
one_of_both xs ys m = ap (list_any (nat_eq m)) (map-append (λ (g : LfGoal). g.id) xs ys) ∙ list_any-append (nat_eq m) (ids xs) (ids ys)

-- what stays is kept once
kept_twice : (node : ℕ) (entry : Option ℕ) (p w : Bool) → (if w then kept node entry (if p then kept node entry None else None) else (if p then kept node entry None else None)) ≡ (if p || w then kept node entry None else None)
kept_twice node entry true true = again (moves node entry)
  where
    again : (b : Bool) → (if b then (if b then None else entry) else entry) ≡ (if b then None else entry)
    again true = refl
    again false = refl
kept_twice node entry true false = refl
kept_twice node entry false true = refl
kept_twice node entry false false = refl

module _ (before after : LfGoals) (carried : ℕ → ℕ) (node first : ℕ) (entries : ℕ → Option ℕ) (is_table : IsTable before carried entries) where
  abbrev Moved : ℕ → Bool
  Moved = is_moved_from before carried node

  -- The table tells which goals are moved.
  same_moves : (m : ℕ) → moves node (entries m) ≡ Moved m
  same_moves m = ap (moves node) (is_table m) ∙ by (is_one_of (all_goals before) m)
    where
      by : (b : Bool) → moves node (if b then Some (carried m) else None) ≡ (not b || nat_eq (carried m) node)
      by true = refl
      by false = refl

  -- what a goal carries that is not moved
  stays : (m : ℕ) → Moved m ≡ false → entries m ≡ Some (carried m)
  stays m is = is_table m ∙ by (is_one_of (all_goals before) m) is
    where
      by : (b : Bool) → (not b || nat_eq (carried m) node) ≡ false → (if b then Some (carried m) else None) ≡ Some (carried m)
      by true e = refl
      by false e = absurd cc

  module _ (moved : LfGoals) (moved_is : moved ≡ goals_inside (λ m. moves node (entries m)) after) where
    -- the goals that are moved
    moved_goals : all_goals moved ≡ inside Moved (all_goals after)
    moved_goals = ap all_goals moved_is ∙ sym (inside_parts (λ m. moves node (entries m)) after.proofs after.witnesses) ∙ ap (λ within. inside within (all_goals after)) (fun_ext same_moves)

    module _ (distinct : AreDistinct (all_goals after)) (m : ℕ) where
      in_moved : is_one_of (all_goals after) m ≡ true → Moved m ≡ true → (g : LfGoal) × Contains (all_goals moved) g × (m ≡ g.id)
      in_moved is moves_on =
          let r = goal_of_number (all_goals after) m is in
          (r.0, subst (λ goals. Contains goals r.0) (sym moved_goals) (contains_inside Moved (all_goals after) r.0 r.1 (subst (λ n. Moved n ≡ true) r.2 moves_on)), r.2)

      of_moved : (class : List LfGoal) → Contains (classes (all_goals moved)) class → is_one_of class m ≡ true → (is_one_of (all_goals after) m ≡ true) × (Moved m ≡ true)
      of_moved class has is =
          let r = goal_of_number class m is in
          let q = goal_inside Moved (all_goals after) r.0 (subst (λ goals. Contains goals r.0) moved_goals (is_in_goals (all_goals moved) class r.0 has r.1)) in
          (ap (is_one_of (all_goals after)) r.2 ∙ member_has_number (all_goals after) r.0 q.0, ap Moved r.2 ∙ q.1)

      abbrev given_by : Option ℕ → Option ℕ
      given_by entry = given first (map (pairs_of moved) (classes (all_goals moved))) m entry

      -- no class has the number of a goal that is not moved
      none_given : ((is_one_of (all_goals after) m ≡ true) × (Moved m ≡ true) → ⊥) → (entry : Option ℕ) → given_by entry ≡ entry
      none_given refuted entry = given_none (pairs_of moved) m (classes (all_goals moved)) none first entry
        where
          none : (class : List LfGoal) → Contains (classes (all_goals moved)) class → has_first (pairs_of moved class) m ≡ false
          none class has = firsts_of_class moved class has m ∙ by (is_one_of class m) refl
            where
              by : (b : Bool) → is_one_of class m ≡ b → b ≡ false
              by false e = refl
              by true e = absurd (refuted (of_moved class has e))

      some_given : is_one_of (all_goals after) m ≡ true → Moved m ≡ true → (entry : Option ℕ) → given_by entry ≡ Some (first + class_place (classes (inside Moved (all_goals after))) m)
      some_given is moves_on entry =
          let r = in_moved is moves_on in
          let class = is_in_classes (all_goals moved) r.0 r.1 in
          given_some (pairs_of moved) m (classes (all_goals moved)) (λ other has. firsts_of_class moved other has m) (classes_apart (all_goals moved) (distinct_moved (λ n. moves node (entries n)) after moved moved_is distinct)).1 class.0 class.1
          (ap (is_one_of class.0) r.2 ∙ member_has_number class.0 r.0 class.2) first entry
          ∙ ap (λ goals. Some (first + class_place (classes goals) m)) moved_goals

      whole : (there moves_on : Bool) → is_one_of (all_goals after) m ≡ there → Moved m ≡ moves_on →
          given_by (if there then kept node (entries m) None else None) ≡ (if there then Some (if moves_on then first + class_place (classes (inside Moved (all_goals after))) m else carried m) else None)
      whole false moves_on is e = none_given (λ both. let f = both.0 in absurd cc) None
      whole true true is e = some_given is e (kept node (entries m) None)
      whole true false is e =
          none_given (λ both. let f = both.1 in absurd cc) (kept node (entries m) None) ∙ ap (λ b. if b then None else entries m) (same_moves m ∙ e) ∙ stays m e

      -- The entry of a number in the table that is made.
      pub entry_after : (empty proofs witnesses last : Option ℕ) → empty ≡ None → proofs ≡ (if is_one_of after.proofs m then kept node (entries m) empty else empty) →
          witnesses ≡ (if is_one_of after.witnesses m then kept node (entries m) proofs else proofs) → last ≡ given first (map (pairs_of moved) (classes (all_goals moved))) m witnesses →
          last ≡ (if is_one_of (all_goals after) m then Some (nodes_after before carried node first after m) else None)
      entry_after empty proofs witnesses last e p w l =
          let k : proofs ≡ (if is_one_of after.proofs m then kept node (entries m) None else None) = p ∙ ap (λ o. if is_one_of after.proofs m then kept node (entries m) o else o) e in
          let both : witnesses ≡ (if is_one_of (all_goals after) m then kept node (entries m) None else None) =
          w ∙ ap (λ o. if is_one_of after.witnesses m then kept node (entries m) o else o) k ∙ kept_twice node (entries m) (is_one_of after.proofs m) (is_one_of after.witnesses m)
          ∙ ap (λ b. if b then kept node (entries m) None else None) (sym (one_of_both after.proofs after.witnesses m)) in
          l ∙ ap given_by both ∙ whole (is_one_of (all_goals after) m) (Moved m) refl refl
