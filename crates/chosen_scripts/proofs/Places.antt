-- The place of the class that has a goal of a number, and goals inside of goals inside.
use Rattle.std.proofs.Common.{◌≡◌, ◌⊎◌, inl, inr, ℕ, zero, suc, Bool, true, false, Some, List, [], ◌∷◌, All, AllPairs, refl, sym, ap, ap₂, ◌∙◌, subst}
use Rattle.std.specs.Prelude.{◌&&◌, if◌then◌else◌, nat_eq, slice_get}
use Rattle.std.specs.List.{Contains}
use Rattle.std.proofs.lemmas.Bool.{eqb-true}
use Rattle.std.proofs.lemmas.List.Elements.{All-head, All-tail, Contains-append_left, Contains-append_right}
use Rattle.lf_definitions.specs.Typing.{LfGoal}
use Rattle.lf_definitions.specs.GoalLists.{LfGoals, all_goals, ids, first_of}
use Rattle.lf_definitions.proofs.Options.{Some-Some}
use Rattle.head_laws.proofs.Numbers.{Contains-here, AllPairs-head, AllPairs-tail}
use Rattle.application_laws.specs.Conditions.{inside, goals_inside}
use Rattle.clusters.specs.Clusters.{is_one_of}
use Rattle.clusters.proofs.Elements.{contains_cases, contains_none, all_elements, any_found}
use Rattle.clusters.proofs.Classes.{AreApart}
use Rattle.framed_alternatives.proofs.Insides.{goals_of}
use Rattle.shuffled_derivations.proofs.Lists.{All-at}
use Rattle.answer_definitions.specs.Chosen.{class_place}

pub number_contained : (class : List LfGoal) (m : ℕ) → is_one_of class m ≡ true → Contains (ids class) m
number_contained class m is = let r = any_found (nat_eq m) (ids class) is in subst (Contains (ids class)) (sym (eqb-true m r.0 r.2)) r.1

-- The class at a place has a goal of this number.
pub record IsPlace (found : List (List LfGoal)) (m place : ℕ) : Type 0 where
  pub class : List LfGoal
  pub there : slice_get found place ≡ Some class
  pub is_in : is_one_of class m ≡ true

pub class_is_placed : (found : List (List LfGoal)) (m : ℕ) (class : List LfGoal) → Contains found class → is_one_of class m ≡ true → IsPlace found m (class_place found m)
class_is_placed [] m class has is = absurd (contains_none class has)
class_is_placed (x ∷ rest) m class has is = step (is_one_of x m) refl (contains_cases x rest class has) (λ there. class_is_placed rest m class there is)
  where
    step : (b : Bool) → is_one_of x m ≡ b → (x ≡ class) ⊎ Contains rest class → (Contains rest class → IsPlace rest m (class_place rest m)) →
        IsPlace (x ∷ rest) m (if b then 0 else suc (class_place rest m))
    step true e either later = record { class = x; there = refl; is_in = e }
    step false e (inl same) later = let f : is_one_of x m ≡ true = subst (λ c. is_one_of c m ≡ true) (sym same) is in absurd cc
    step false e (inr there) later = let r = later there in record { class = r.class; there = r.there; is_in = r.is_in }

-- Numbers that the same classes have are at one place.
pub same_place : (found : List (List LfGoal)) (m n : ℕ) → All (λ class. is_one_of class m ≡ is_one_of class n) found → class_place found m ≡ class_place found n
same_place [] m n all = refl
same_place (x ∷ rest) m n all =
    ap₂ (λ b k. if b then 0 else suc k) (All-head (λ class. is_one_of class m ≡ is_one_of class n) x rest all) (same_place rest m n (All-tail (λ class. is_one_of class m ≡ is_one_of class n) x rest all))

-- Where classes are apart, a number is at one place only.
pub one_place : (found : List (List LfGoal)) → AllPairs AreApart found → (m p j : ℕ) (x y : List LfGoal) → slice_get found p ≡ Some x → slice_get found j ≡ Some y →
    is_one_of x m ≡ true → is_one_of y m ≡ true → p ≡ j
one_place [] apart m p j x y at_p at_j in_x in_y = absurd cc
one_place (z ∷ rest) apart m zero zero x y at_p at_j in_x in_y = refl
one_place (z ∷ rest) apart m zero (suc j) x y at_p at_j in_x in_y =
    let first : AreApart x y = subst (λ c. AreApart c y) (Some-Some at_p) (All-at (AreApart z) rest (AllPairs-head AreApart z rest apart) j y at_j) in
    absurd (first m (number_contained x m in_x) (number_contained y m in_y))
one_place (z ∷ rest) apart m (suc p) zero x y at_p at_j in_x in_y =
    let first : AreApart y x = subst (λ c. AreApart c x) (Some-Some at_j) (All-at (AreApart z) rest (AllPairs-head AreApart z rest apart) p x at_p) in
    absurd (first m (number_contained y m in_y) (number_contained x m in_x))
one_place (z ∷ rest) apart m (suc p) (suc j) x y at_p at_j in_x in_y = ap suc (one_place rest (AllPairs-tail AreApart z rest apart) m p j x y at_p at_j in_x in_y)

-- ---- goals inside

pub first_contained : (goals : List LfGoal) (g : LfGoal) → first_of goals ≡ Some g → Contains goals g
first_contained [] g e = absurd cc
first_contained (h ∷ rest) g e = subst (Contains (h ∷ rest)) (Some-Some e) (Contains-here h rest)

inside_twice : (test wider other : ℕ → Bool) (goals : List LfGoal) → All (λ h. test h.id ≡ (wider h.id && other h.id)) goals → inside test goals ≡ inside other (inside wider goals)
inside_twice test wider other [] all = refl
inside_twice test wider other (g ∷ rest) all =
    step (wider g.id) (All-head (λ h. test h.id ≡ (wider h.id && other h.id)) g rest all) (inside_twice test wider other rest (All-tail (λ h. test h.id ≡ (wider h.id && other h.id)) g rest all))
  where
    step : (b : Bool) → test g.id ≡ (b && other g.id) → inside test rest ≡ inside other (inside wider rest) →
        (if test g.id then g ∷ inside test rest else inside test rest) ≡ inside other (if b then g ∷ inside wider rest else inside wider rest)
    step true e later = ap₂ (λ c zs. if c then g ∷ zs else zs) e later
    step false e later = ap (λ c. if c then g ∷ inside test rest else inside test rest) e ∙ later

-- What passes both of two tests is inside of what is inside.
pub goals_inside_twice : (test wider other : ℕ → Bool) (list : LfGoals) → ((h : LfGoal) → Contains (all_goals list) h → test h.id ≡ (wider h.id && other h.id)) →
    goals_inside test list ≡ goals_inside other (goals_inside wider list)
goals_inside_twice test wider other list each =
    ap₂ goals_of
    (inside_twice test wider other list.proofs (all_elements (λ h. test h.id ≡ (wider h.id && other h.id)) list.proofs (λ h has. each h (Contains-append_left list.proofs list.witnesses h has))))
    (inside_twice test wider other list.witnesses (all_elements (λ h. test h.id ≡ (wider h.id && other h.id)) list.witnesses (λ h has. each h (Contains-append_right list.proofs list.witnesses h has))))
