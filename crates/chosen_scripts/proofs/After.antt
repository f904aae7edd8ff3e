-- After a step: where the goals of the list come from, and which addresses they carry.
use Rattle.std.proofs.Common.{◌≡◌, ◌⊎◌, inl, inr, ℕ, ◌+◌, ◌<◌, ◌≤◌, Bool, true, false, not, ◌&&◌, ◌||◌, Some, List, [], ◌∷◌, ◌++◌, length, All, refl, sym, ap, ap₂, ◌∙◌, subst, arith}
use Rattle.std.specs.Prelude.{if◌then◌else◌, nat_eq, slice_get}
use Rattle.std.specs.List.{Contains}
use Rattle.std.proofs.lemmas.Bool.{eq-eqb}
use Rattle.std.proofs.lemmas.Option.{slice_get_within}
use Rattle.std.proofs.lemmas.List.Elements.{All-contains, All-weaker}
use Rattle.lf_definitions.specs.Syntax.{metavariable, LfType}
use Rattle.lf_definitions.specs.Occurrence.{OccursInGoal}
use Rattle.lf_definitions.specs.Typing.{LfGoal}
use Rattle.lf_definitions.specs.Signatures.{LfSignature}
use Rattle.lf_definitions.specs.GoalLists.{LfGoals, all_goals, ids, first_goal, next_id, opening}
use Rattle.lf_definitions.proofs.Options.{Some_inj}
use Rattle.head_laws.proofs.Numbers.{above-Contains}
use Rattle.goal_lists.specs.Numbering.{renumbered}
use Rattle.goal_lists.proofs.RenamedLists.{AreClosed-ShapedGoals}
use Rattle.application_laws.specs.Conditions.{inside, goals_inside}
use Rattle.application_laws.proofs.Inside.{contains_inside}
use Rattle.alternatives.specs.Rules.{LfRule}
use Rattle.clusters.specs.Clusters.{classes, is_one_of, cluster_of, clusters}
use Rattle.clusters.specs.Links.{outside_of, Splits}
use Rattle.clusters.proofs.Elements.{has_mapped, found_any}
use Rattle.clusters.proofs.Classes.{is_in_classes, classes_apart, member_has_number}
use Rattle.clusters.proofs.Connected.{classes_split}
use Rattle.framed_alternatives.specs.Laws.{with_fresh}
use Rattle.framed_alternatives.proofs.Insides.{fresh_inside, below_same, all-inside, contained_inside, inside-same}
use Rattle.carried_alternatives.specs.Laws.{inside_by_place}
use Rattle.derivations.specs.Unfolding.{branches_of, goals_at}
use Rattle.tree_runs.specs.Addresses.{Address}
use Rattle.mark_laws.proofs.Meaning.{child_stands}
use Rattle.shuffled_derivations.specs.Laws.{MayBeDerived}
use Rattle.shuffled_derivations.proofs.Lists.{mapped_at}
use Rattle.shuffled_derivations.proofs.Insides.{goals_inside-outside}
use Rattle.shuffled_derivations.proofs.Alike.{part_may_be_derived}
use Rattle.answer_definitions.specs.Chosen.{same_address, is_moved, class_place, carried_after, are_proved}
use Rattle.chosen_scripts.proofs.Addresses.{same_address_decides, own_address, other_address, alike, one_step_only}
use Rattle.chosen_scripts.proofs.Choices.{each_is_proved}
use Rattle.chosen_scripts.proofs.Spent.{IsCarriedOn}
use Rattle.chosen_scripts.proofs.Places.{number_contained, IsPlace, class_is_placed, same_place, one_place, goals_inside_twice}
use Rattle.chosen_scripts.proofs.Carried.{carries, Stands, IsCarried, IsEntry}

not_true : (b : Bool) → not b ≡ true → b ≡ false
not_true true e = sym e
not_true false e = refl

-- Truth values of which one follows from the other, and their opposites, too.
alike_both : (b c : Bool) → (b ≡ true → c ≡ true) → (not b ≡ true → not c ≡ true) → c ≡ b
alike_both true c to other = to refl
alike_both false c to other = not_true c (other refl)

clusters_at : (list : LfGoals) (p : ℕ) (class : List LfGoal) → slice_get (classes (all_goals list)) p ≡ Some class → slice_get (clusters list) p ≡ Some (cluster_of list class)
unfolding clusters
clusters_at list p class there = mapped_at (cluster_of list) (classes (all_goals list)) p class there

module _ (sig : LfSignature) (rules : List LfRule) (a : LfType) (proved : Address → Bool) (list : LfGoals) (carried : ℕ → Address) (known : IsCarried sig rules a proved list carried) (g : LfGoal)
    (first : first_goal list ≡ Some g) (i : ℕ) (branch : ℕ × List LfGoals) (entry : IsEntry sig rules a proved list carried known g first i branch.1)
  where
    abbrev here : Address
    here = carried g.id

    abbrev within : ℕ → Bool
    within = carries carried here

    abbrev wider : ℕ → Bool
    wider = with_fresh within (next_id list)

    abbrev after : LfGoals
    after = entry.alternative.goals

    abbrev moved : ℕ → Bool
    moved = is_moved list carried here

    abbrev part : LfGoals
    part = goals_inside wider after

    abbrev found : List (List LfGoal)
    found = classes (all_goals part)

    abbrev pub onward : ℕ → Address
    onward = carried_after list carried here i after

    abbrev IsAfter : LfGoal → Type 0
    IsAfter h = Contains (all_goals after) h

    part_may : MayBeDerived sig rules part
    part_may = part_may_be_derived sig rules after entry.may wider entry.stays.splits.0

    -- Goals that are moved are those inside.
    old_is_moved : (m : ℕ) → Contains (ids (all_goals list)) m → moved m ≡ wider m
    old_is_moved m has =
        let less : m < next_id list = above-Contains (ids (all_goals list)) m has in
        ap (λ b. not b || within m) (found_any (nat_eq m) (ids (all_goals list)) m has (eq-eqb m m refl)) ∙ sym (below_same within (next_id list) m less)

    new_is_moved : (m : ℕ) → next_id list ≤ m → moved m ≡ wider m
    new_is_moved m high = step (is_one_of (all_goals list) m) refl ∙ sym (fresh_inside within (next_id list) m high)
      where
        step : (b : Bool) → is_one_of (all_goals list) m ≡ b → not b || within m ≡ true
        step true e = let less : m < next_id list = above-Contains (ids (all_goals list)) m (number_contained (all_goals list) m e) in absurd (omega (arith, less, high))
        step false e = refl

    goal_is_moved : (h : LfGoal) → Contains (ids (all_goals list)) h.id ⊎ (next_id list ≤ h.id) → moved h.id ≡ wider h.id
    goal_is_moved h (inl old) = old_is_moved h.id old
    goal_is_moved h (inr new) = new_is_moved h.id new

    all_are_moved : All (λ h. moved h.id ≡ wider h.id) (all_goals after)
    all_are_moved = All-weaker (λ h. Contains (ids (all_goals list)) h.id ⊎ (next_id list ≤ h.id)) (λ h. moved h.id ≡ wider h.id) goal_is_moved (all_goals after) entry.old_or_new

    pub same_classes : classes (inside moved (all_goals after)) ≡ found
    same_classes = ap classes (inside-same moved wider (all_goals after) all_are_moved ∙ sym (all-inside wider after))

    abbrev child : ℕ → Address
    child m = here ++ (i, class_place found m) ∷ []

    goes_in : (h : LfGoal) → IsAfter h → wider h.id ≡ true → onward h.id ≡ child h.id
    goes_in h has is =
        ap₂ (λ b others. if b then here ++ (i, class_place others h.id) ∷ [] else carried h.id) (All-contains (λ x. moved x.id ≡ wider x.id) (all_goals after) h all_are_moved has ∙ is) same_classes

    stays_out : (h : LfGoal) → IsAfter h → wider h.id ≡ false → onward h.id ≡ carried h.id
    stays_out h has is =
        ap (λ b. if b then here ++ (i, class_place (classes (inside moved (all_goals after))) h.id) ∷ [] else carried h.id)
        (All-contains (λ x. moved x.id ≡ wider x.id) (all_goals after) h all_are_moved has ∙ is)

    was_there : (h : LfGoal) → IsAfter h → wider h.id ≡ false → Contains (all_goals list) h × (within h.id ≡ false)
    was_there h has is =
        let out : Contains (all_goals (goals_inside (outside_of wider) after)) h =
        subst (λ goals. Contains goals h) (sym (all-inside (outside_of wider) after)) (contains_inside (outside_of wider) (all_goals after) h has (ap not is)) in
        let before : Contains (inside (outside_of within) (all_goals list)) h =
        subst (λ goals. Contains goals h) (all-inside (outside_of within) list) (subst (λ (l : LfGoals). Contains (all_goals l) h) entry.stays.outside out) in
        let r = contained_inside (outside_of within) (all_goals list) h before in
        (r.0, not_true (within h.id) r.1)

    is_other : (h : LfGoal) → within h.id ≡ false → carried h.id ≡ here → ⊥
    is_other h is e = let same : within h.id ≡ true = ap (λ d. same_address d here) e ∙ own_address here in absurd cc

    pub goes_on : (h : LfGoal) → Contains (all_goals after) h → IsCarriedOn carried (all_goals list) here onward h
    goes_on h has = step (wider h.id) refl
      where
        step : (b : Bool) → wider h.id ≡ b → IsCarriedOn carried (all_goals list) here onward h
        step true is = inl ((i, class_place found h.id), goes_in h has is)
        step false is = let old = was_there h has is in inr (old.0, stays_out h has is, is_other h old.1)

    -- ---- mentions

    mentioned_is_after : (h : LfGoal) → IsAfter h → (m : ℕ) → OccursInGoal (metavariable m) h → Contains (ids (all_goals after)) m
    mentioned_is_after h has =
        All-contains (λ x. (m : ℕ) → OccursInGoal (metavariable m) x → Contains (ids (all_goals after)) m) (all_goals after) h (AreClosed-ShapedGoals sig (all_goals after) entry.may.goals) has

    number_goes_in : (m : ℕ) → Contains (ids (all_goals after)) m → wider m ≡ true → onward m ≡ child m
    number_goes_in m has is = let r = has_mapped (λ (h : LfGoal). h.id) (all_goals after) m has in subst (λ k. onward k ≡ child k) r.2 (goes_in r.0 r.1 (ap wider r.2 ∙ is))

    number_stays_out : (m : ℕ) → Contains (ids (all_goals after)) m → wider m ≡ false → onward m ≡ carried m
    number_stays_out m has is = let r = has_mapped (λ (h : LfGoal). h.id) (all_goals after) m has in subst (λ k. onward k ≡ carried k) r.2 (stays_out r.0 r.1 (ap wider r.2 ∙ is))

    is_in_part : (h : LfGoal) → IsAfter h → wider h.id ≡ true → Contains (all_goals part) h
    is_in_part h has is = subst (λ goals. Contains goals h) (sym (all-inside wider after)) (contains_inside wider (all_goals after) h has is)

    -- what a goal inside mentions is in its class
    same_class : (h : LfGoal) → Contains (all_goals part) h → (m : ℕ) → OccursInGoal (metavariable m) h → (class : List LfGoal) → Splits (is_one_of class) (all_goals part) → is_one_of class m ≡ is_one_of class h.id
    same_class h has m o class split =
        alike_both (is_one_of class h.id) (is_one_of class m)
        (λ is. All-contains (λ x. is_one_of class x.id ≡ true → (n : ℕ) → OccursInGoal (metavariable n) x → is_one_of class n ≡ true) (all_goals part) h split.0 has is m o)
        (λ is. All-contains (λ x. outside_of (is_one_of class) x.id ≡ true → (n : ℕ) → OccursInGoal (metavariable n) x → outside_of (is_one_of class) n ≡ true) (all_goals part) h split.1 has is m o)

    mentioned_inside : (h : LfGoal) → Contains (all_goals part) h → (m : ℕ) → OccursInGoal (metavariable m) h → child m ≡ child h.id
    mentioned_inside h has m o =
        let all = All-weaker (λ class. Splits (is_one_of class) (all_goals part)) (λ class. is_one_of class m ≡ is_one_of class h.id) (same_class h has m o) found
        (classes_split (all_goals part) part_may.goals.0 (AreClosed-ShapedGoals sig (all_goals part) part_may.goals)) in
        ap (λ p. here ++ (i, p) ∷ []) (same_place found m h.id all)

    wider_as_well : (h : LfGoal) → IsAfter h → (m : ℕ) → OccursInGoal (metavariable m) h → wider m ≡ wider h.id
    wider_as_well h has m o =
        alike_both (wider h.id) (wider m)
        (λ is. All-contains (λ x. wider x.id ≡ true → (n : ℕ) → OccursInGoal (metavariable n) x → wider n ≡ true) (all_goals after) h entry.stays.splits.0 has is m o)
        (λ is. All-contains (λ x. outside_of wider x.id ≡ true → (n : ℕ) → OccursInGoal (metavariable n) x → outside_of wider n ≡ true) (all_goals after) h entry.stays.splits.1 has is m o)

    mention_after : (h : LfGoal) → IsAfter h → (m : ℕ) → OccursInGoal (metavariable m) h → onward m ≡ onward h.id
    mention_after h has m o = step (wider h.id) refl
      where
        step : (b : Bool) → wider h.id ≡ b → onward m ≡ onward h.id
        step true is =
            number_goes_in m (mentioned_is_after h has m o) (wider_as_well h has m o ∙ is) ∙ (mentioned_inside h (is_in_part h has is) m o ∙ sym (goes_in h has is))
        step false is =
            number_stays_out m (mentioned_is_after h has m o) (wider_as_well h has m o ∙ is) ∙ (known.mention h (was_there h has is).0 m o ∙ sym (stays_out h has is))

    -- ---- what stands at the addresses

    placed : (h : LfGoal) → IsAfter h → wider h.id ≡ true → IsPlace found h.id (class_place found h.id)
    placed h has is =
        let r = is_in_classes (all_goals part) h (is_in_part h has is) in
        class_is_placed found h.id r.0 r.1 (member_has_number r.0 h r.2)

    found_apart : (m p j : ℕ) (x y : List LfGoal) → slice_get found p ≡ Some x → slice_get found j ≡ Some y → is_one_of x m ≡ true → is_one_of y m ≡ true → p ≡ j
    found_apart = one_place found (classes_apart (all_goals part) part_may.goals.0).1

    -- No goal of the list carries a child of the address, and each child of the branch is proved.
    module _ (no_child : (h : LfGoal) → Contains (all_goals list) h → (step : ℕ × ℕ) → carried h.id ≡ here ++ step ∷ [] → ⊥)
        (in_branch : slice_get (branches_of sig rules (inside_by_place within list)) i ≡ Some branch) (all_proved : are_proved proved here i 0 (length branch.1) ≡ true) (has_first : Contains (all_goals list) g)
      where
        -- Goals that carry a child are those of its class.
        in_class : (place : ℕ) (class : List LfGoal) → slice_get found place ≡ Some class → (h : LfGoal) → IsAfter h → wider h.id ≡ true → same_address (onward h.id) (here ++ (i, place) ∷ []) ≡ is_one_of class h.id
        in_class place class at_place h has is =
            let p = placed h has is in
            alike (same_address (onward h.id) (here ++ (i, place) ∷ [])) (is_one_of class h.id)
            (λ same.
            let e : child h.id ≡ here ++ (i, place) ∷ [] = sym (goes_in h has is) ∙ (same_address_decides (onward h.id) (here ++ (i, place) ∷ [])).0 same in
            let one = one_step_only here here (i, class_place found h.id) (i, place) e in
            let places : class_place found h.id ≡ place = ap (λ (step : ℕ × ℕ). step.1) one.1 in
            let classes_same : p.class ≡ class = Some_inj p.there (subst (λ k. slice_get found k ≡ Some class) (sym places) at_place) in
            subst (λ x. is_one_of x h.id ≡ true) classes_same p.is_in)
            (λ is_in.
            let places : class_place found h.id ≡ place = found_apart h.id (class_place found h.id) place p.class class p.there at_place p.is_in is_in in
            (same_address_decides (onward h.id) (here ++ (i, place) ∷ [])).1 (goes_in h has is ∙ ap (λ k. here ++ (i, k) ∷ []) places))

        carries_child : (place : ℕ) (class : List LfGoal) → slice_get found place ≡ Some class → (h : LfGoal) → IsAfter h →
            same_address (onward h.id) (here ++ (i, place) ∷ []) ≡ (wider h.id && is_one_of class h.id)
        carries_child place class at_place h has = step (wider h.id) refl
          where
            step : (b : Bool) → wider h.id ≡ b → same_address (onward h.id) (here ++ (i, place) ∷ []) ≡ (b && is_one_of class h.id)
            step true is = in_class place class at_place h has is
            step false is = other_address (onward h.id) (here ++ (i, place) ∷ []) (λ e. no_child h (was_there h has is).0 (i, place) (sym (stays_out h has is) ∙ e))

        stands_inside : (h : LfGoal) → IsAfter h → wider h.id ≡ true → Stands sig rules a proved after onward h
        stands_inside h has is =
            let p = placed h has is in
            let place = class_place found h.id in
            let there : slice_get branch.1 place ≡ Some (cluster_of part p.class) = subst (λ xs. slice_get xs place ≡ Some (cluster_of part p.class)) entry.same_clusters (clusters_at part place p.class p.there) in
            let goals : goals_at sig rules a (child h.id) ≡ Some (cluster_of part p.class) =
            child_stands (branches_of sig rules) (opening a) here (inside_by_place within list) i branch.0 place branch.1 (cluster_of part p.class) (known.stand g has_first).there in_branch there in
            let same : goals_inside (carries onward (child h.id)) after ≡ goals_inside (is_one_of p.class) part =
            goals_inside_twice (carries onward (child h.id)) wider (is_one_of p.class) after (carries_child place p.class p.there) in
            let none : 0 + place ≡ place = omega arith in
            record {
              there = subst (λ d. goals_at sig rules a d ≡ Some (inside_by_place (carries onward d) after)) (sym (goes_in h has is)) (goals ∙ ap (λ l. Some (renumbered l)) (sym same));
              is_proved = subst (λ d. proved d ≡ true) (sym (goes_in h has is))
                  (subst (λ k. proved (here ++ (i, k) ∷ []) ≡ true) none (each_is_proved proved here i 0 (length branch.1) all_proved place (slice_get_within branch.1 place (cluster_of part p.class) there)));
            }

        carries_other : (h : LfGoal) → IsAfter h → wider h.id ≡ false → (x : LfGoal) → IsAfter x → same_address (onward x.id) (carried h.id) ≡ (outside_of wider x.id && same_address (carried x.id) (carried h.id))
        carries_other h has is x has_x = step (wider x.id) refl
          where
            step : (b : Bool) → wider x.id ≡ b → same_address (onward x.id) (carried h.id) ≡ (not b && same_address (carried x.id) (carried h.id))
            step true is_x = other_address (onward x.id) (carried h.id) (λ e. no_child h (was_there h has is).0 (i, class_place found x.id) (sym e ∙ goes_in x has_x is_x))
            step false is_x = ap (λ d. same_address d (carried h.id)) (stays_out x has_x is_x)

        stands_outside : (h : LfGoal) → IsAfter h → wider h.id ≡ false → Stands sig rules a proved after onward h
        stands_outside h has is =
            let old = was_there h has is in
            let d = carried h.id in
            let stood = known.stand h old.0 in
            let apart : (m : ℕ) → within m ≡ true → carries carried d m ≡ true → ⊥ = λ m in_c in_d.
            is_other h old.1 (sym ((same_address_decides (carried m) d).0 in_d) ∙ (same_address_decides (carried m) here).0 in_c) in
            let same : goals_inside (carries onward d) after ≡ goals_inside (carries carried d) list =
            goals_inside_twice (carries onward d) (outside_of wider) (carries carried d) after (carries_other h has is)
            ∙ (ap (goals_inside (carries carried d)) entry.stays.outside ∙ goals_inside-outside within (carries carried d) apart list) in
            record {
              there = subst (λ e. goals_at sig rules a e ≡ Some (inside_by_place (carries onward e) after)) (sym (stays_out h has is)) (stood.there ∙ ap (λ l. Some (renumbered l)) (sym same));
              is_proved = subst (λ e. proved e ≡ true) (sym (stays_out h has is)) stood.is_proved;
            }

        stands_after : (h : LfGoal) → IsAfter h → Stands sig rules a proved after onward h
        stands_after h has = step (wider h.id) refl
          where
            step : (b : Bool) → wider h.id ≡ b → Stands sig rules a proved after onward h
            step true is = stands_inside h has is
            step false is = stands_outside h has is

        pub carried_on : IsCarried sig rules a proved after onward
        carried_on = record { may = entry.may; mention = mention_after; stand = stands_after }
