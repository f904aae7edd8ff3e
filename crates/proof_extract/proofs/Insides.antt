-- Goals whose numbers pass a test, and what their numbers are.
use Rattle.std.proofs.Common.{◌≡◌, ◌≢◌, ℕ, suc, ◌+◌, ◌<◌, Bool, true, false, List, [], ◌∷◌, ◌++◌, map, length, get_or, take, refl, sym, ap, ◌∙◌, subst}
use Rattle.std.specs.Prelude.{◌||◌, if◌then◌else◌, nat_eq}
use Rattle.std.specs.List.{list_any, Contains}
use Rattle.std.proofs.lemmas.List.{map_push}
use Rattle.std.proofs.lemmas.List.Elements.{All-contains, All-weaker}
use Rattle.std.proofs.lemmas.List.Kept.{AllPairs-cons}
use Rattle.head_laws.proofs.Numbers.{AllPairs-head, AllPairs-tail}
use Rattle.lf_definitions.specs.Typing.{LfGoal}
use Rattle.lf_definitions.specs.GoalLists.{LfGoals, all_goals, AreDistinct}
use Rattle.lf_definitions.proofs.Lists.{take_next}
use Rattle.lf_terms.specs.declared.goal.Goal.{Goal}
use Rattle.lf_terms.specs.Targets.{goal_of}
use Rattle.application_laws.specs.Conditions.{inside, goals_inside}
use Rattle.application_laws.proofs.Lists.{no_pairs}
use Rattle.application_laws.proofs.Inside.{All-inside, contains_inside}
use Rattle.goal_lists.specs.Numbering.{numbered_pairs}
use Rattle.clusters.specs.Clusters.{classes, is_one_of}
use Rattle.clusters.proofs.Elements.{all_elements}
use Rattle.clusters.proofs.Renamed.{same_truth}
use Rattle.clusters.proofs.Classes.{is_in_goals, member_has_number, goal_of_number}
use Rattle.clusters.proofs.Laws.{inside_parts}
use Rattle.proof_extract.specs.Tables.{has_first}

-- one goal more
pub one_more_inside : (within : ℕ → Bool) (items : List Goal) (i : ℕ) (x : Goal) (made new : List LfGoal) → i < length items → x ≡ get_or items i x → made ≡ inside within (map goal_of (take i items)) →
    new ≡ made ++ inside within (goal_of x ∷ []) → new ≡ inside within (map goal_of (take (i + 1) items))
one_more_inside within items i x made new less is before here =
    here ∙ ap (λ l. l ++ inside within (goal_of x ∷ [])) before ∙ sym (inside_parts within (map goal_of (take i items)) (goal_of x ∷ []))
    ∙ ap (inside within) (sym (map_push goal_of (take i items) x) ∙ ap (map goal_of) (take_next items i x less is))

-- Numbers that differ do so inside.
distinct_inside : (within : ℕ → Bool) (goals : List LfGoal) → AreDistinct goals → AreDistinct (inside within goals)
distinct_inside within [] distinct = no_pairs (λ g h. g.id ≢ h.id)
distinct_inside within (h ∷ rest) distinct = step (within h.id) (distinct_inside within rest (AllPairs-tail (λ g k. g.id ≢ k.id) h rest distinct))
  where
    step : (b : Bool) → AreDistinct (inside within rest) → AreDistinct (if b then h ∷ inside within rest else inside within rest)
    step true later =
        AllPairs-cons (λ g k. g.id ≢ k.id) h (inside within rest)
        (All-inside within (λ k. h.id ≢ k.id) rest (All-weaker (λ k. h.id ≢ k.id) (λ k. within k.id ≡ true → h.id ≢ k.id) (λ k r is. r) rest (AllPairs-head (λ g k. g.id ≢ k.id) h rest distinct))) later
    step false later = later

pub distinct_moved : (within : ℕ → Bool) (list moved : LfGoals) → moved ≡ goals_inside within list → AreDistinct (all_goals list) → AreDistinct (all_goals moved)
distinct_moved within list moved is distinct =
    subst (λ l. AreDistinct (all_goals l)) (sym is) (subst AreDistinct (inside_parts within list.proofs list.witnesses) (distinct_inside within (all_goals list) distinct))

-- A goal inside is one of the goals, and its number passes the test.
pub goal_inside : (within : ℕ → Bool) (goals : List LfGoal) (g : LfGoal) → Contains (inside within goals) g → Contains goals g × (within g.id ≡ true)
goal_inside within goals g has =
    All-contains (λ h. Contains goals h × (within h.id ≡ true)) (inside within goals) g
    (All-inside within (λ h. Contains goals h × (within h.id ≡ true)) goals (all_elements (λ h. within h.id ≡ true → Contains goals h × (within h.id ≡ true)) goals (λ h there is. (there, is)))) has

-- The numbers of a class are those of the goals that have one of them.
pub numbers_of_class : (goals : List LfGoal) (class : List LfGoal) → Contains (classes goals) class → (m : ℕ) → is_one_of (inside (is_one_of class) goals) m ≡ is_one_of class m
numbers_of_class goals class has m = same_truth (is_one_of (inside (is_one_of class) goals) m) (is_one_of class m) down up
  where
    down : is_one_of (inside (is_one_of class) goals) m ≡ true → is_one_of class m ≡ true
    down is = let r = goal_of_number (inside (is_one_of class) goals) m is in ap (is_one_of class) r.2 ∙ (goal_inside (is_one_of class) goals r.0 r.1).1

    up : is_one_of class m ≡ true → is_one_of (inside (is_one_of class) goals) m ≡ true
    up is =
        let r = goal_of_number class m is in
        let there = contains_inside (is_one_of class) goals r.0 (is_in_goals goals class r.0 has r.1) (member_has_number class r.0 r.1) in
        ap (is_one_of (inside (is_one_of class) goals)) r.2 ∙ member_has_number (inside (is_one_of class) goals) r.0 there

-- The first numbers of numbered pairs are the numbers.
pub firsts_of_pairs : (n : ℕ) (numbers : List ℕ) (m : ℕ) → has_first (numbered_pairs n numbers) m ≡ list_any (nat_eq m) numbers
firsts_of_pairs n [] m = refl
firsts_of_pairs n (id ∷ rest) m = ap (λ b. nat_eq m id || b) (firsts_of_pairs (suc n) rest m)
