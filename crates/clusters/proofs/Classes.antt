-- Classes: which goals they have, and that these differ.
use Rattle.std.proofs.Common.{◌≡◌, ◌≢◌, ◌⊎◌, inl, inr, ℕ, Bool, true, false, List, [], ◌∷◌, All, AllPairs, refl, sym, ap, ◌∙◌, subst}
use Rattle.std.specs.Prelude.{Contains, not, filter, nat_eq}
use Rattle.std.proofs.lemmas.Bool.{eq-eqb, eqb-true}
use Rattle.std.proofs.lemmas.List.Elements.{All-nil, All-cons, All-head, All-tail, All-filter, All-contains}
use Rattle.std.proofs.lemmas.List.Kept.{AllPairs-cons, AllPairs-filter}
use Rattle.head_laws.proofs.Numbers.{Contains-here, Contains-later, AllPairs-head, AllPairs-tail}
use Rattle.lf_definitions.specs.Typing.{LfGoal}
use Rattle.lf_definitions.specs.GoalLists.{ids, AreDistinct}
use Rattle.goal_lists.proofs.Leaving.{AllPairs-append}
use Rattle.application_laws.proofs.Lists.{no_pairs}
use Rattle.clusters.specs.Clusters.{touches, classes, is_one_of}
use Rattle.clusters.proofs.Elements.{contains_cases, contains_none, all_elements, filtered_has, has_filtered, joined, joined_has, has_joined, mapped_has, has_mapped, any_found, found_any, apart_by_test}

-- A goal is in a class of some.
abbrev pub IsIn : List (List LfGoal) → LfGoal → Type 0
IsIn found g = (class : List LfGoal) × Contains found class × Contains class g

-- the classes that a goal joins, and the others
abbrev pub touched : LfGoal → List (List LfGoal) → List (List LfGoal)
touched g found = filter (touches g) found

abbrev pub untouched : LfGoal → List (List LfGoal) → List (List LfGoal)
untouched g found = filter (λ class. not (touches g class)) found

-- A class with one more goal is the one that it makes, or one that it doesn't touch.
pub class_cases : (g : LfGoal) (found : List (List LfGoal)) (class : List LfGoal) → Contains ((g ∷ joined (touched g found)) ∷ untouched g found) class →
    (g ∷ joined (touched g found) ≡ class) ⊎ (Contains found class × (not (touches g class) ≡ true))
class_cases g found class has = each (contains_cases (g ∷ joined (touched g found)) (untouched g found) class has)
  where
    each : (g ∷ joined (touched g found) ≡ class) ⊎ Contains (untouched g found) class → (g ∷ joined (touched g found) ≡ class) ⊎ (Contains found class × (not (touches g class) ≡ true))
    each (inl same) = inl same
    each (inr there) = inr (has_filtered (λ c. not (touches g c)) found class there)

-- A goal of the class that a goal makes is this goal, or one of a class that it touches.
pub member_cases : (g : LfGoal) (found : List (List LfGoal)) (h : LfGoal) → Contains (g ∷ joined (touched g found)) h →
    (g ≡ h) ⊎ ((class : List LfGoal) × Contains found class × (touches g class ≡ true) × Contains class h)
member_cases g found h has = each (contains_cases g (joined (touched g found)) h has)
  where
    each : (g ≡ h) ⊎ Contains (joined (touched g found)) h → (g ≡ h) ⊎ ((class : List LfGoal) × Contains found class × (touches g class ≡ true) × Contains class h)
    each (inl same) = inl same
    each (inr there) = let r = has_joined (touched g found) h there in let kept = has_filtered (touches g) found r.0 r.1 in inr (r.0, kept.0, kept.1, r.2)

-- A goal of a class that is touched is in the class that a goal makes.
pub member_joins : (g : LfGoal) (found : List (List LfGoal)) (class : List LfGoal) (h : LfGoal) → Contains found class → touches g class ≡ true → Contains class h → Contains (g ∷ joined (touched g found)) h
member_joins g found class h has is there = Contains-later g (joined (touched g found)) h (joined_has (touched g found) class h (filtered_has (touches g) found class has is) there)

-- A class, or the one that takes it in, has its goals.
pub stays_in : (x : LfGoal) (found : List (List LfGoal)) (class : List LfGoal) (g : LfGoal) → Contains found class → Contains class g → IsIn ((x ∷ joined (touched x found)) ∷ untouched x found) g
stays_in x found class g has is = step (touches x class) refl
  where
    step : (b : Bool) → touches x class ≡ b → IsIn ((x ∷ joined (touched x found)) ∷ untouched x found) g
    step true e = (x ∷ joined (touched x found), Contains-here (x ∷ joined (touched x found)) (untouched x found), member_joins x found class g has e is)
    step false e = (class, Contains-later (x ∷ joined (touched x found)) (untouched x found) class (filtered_has (λ c. not (touches x c)) found class has (ap not e)), is)

pub is_in_classes : (goals : List LfGoal) (g : LfGoal) → Contains goals g → IsIn (classes goals) g
is_in_classes [] g has = absurd (contains_none g has)
is_in_classes (x ∷ rest) g has = each (contains_cases x rest g has) (is_in_classes rest g)
  where
    each : (x ≡ g) ⊎ Contains rest g → (Contains rest g → IsIn (classes rest) g) → IsIn (classes (x ∷ rest)) g
    each (inl same) later = (
      x ∷ joined (touched x (classes rest)),
      Contains-here (x ∷ joined (touched x (classes rest))) (untouched x (classes rest)),
      subst (Contains (x ∷ joined (touched x (classes rest)))) same (Contains-here x (joined (touched x (classes rest)))),
    )
    each (inr there) later = let r = later there in stays_in x (classes rest) r.0 g r.1 r.2

pub is_in_goals : (goals : List LfGoal) (class : List LfGoal) (g : LfGoal) → Contains (classes goals) class → Contains class g → Contains goals g
is_in_goals [] class g has is = absurd (contains_none class has)
is_in_goals (x ∷ rest) class g has is = each (class_cases x (classes rest) class has) (λ c. is_in_goals rest c g)
  where
    each : (x ∷ joined (touched x (classes rest)) ≡ class) ⊎ (Contains (classes rest) class × (not (touches x class) ≡ true)) →
        ((c : List LfGoal) → Contains (classes rest) c → Contains c g → Contains rest g) → Contains (x ∷ rest) g
    each (inl same) later = further (member_cases x (classes rest) g (subst (λ c. Contains c g) (sym same) is))
      where
        further : (x ≡ g) ⊎ ((c : List LfGoal) × Contains (classes rest) c × (touches x c ≡ true) × Contains c g) → Contains (x ∷ rest) g
        further (inl e) = subst (Contains (x ∷ rest)) e (Contains-here x rest)
        further (inr r) = Contains-later x rest g (later r.0 r.1 r.3)
    each (inr there) later = Contains-later x rest g (later class there.0 is)

-- No two classes have a goal of one number.
abbrev pub AreApart : List LfGoal → List LfGoal → Type 0
AreApart class other = (m : ℕ) → Contains (ids class) m → Contains (ids other) m → ⊥

apart_again : (class other : List LfGoal) → AreApart class other → AreApart other class
apart_again class other apart m has is = apart m is has

number_of : (class : List LfGoal) (m : ℕ) → Contains (ids class) m → (g : LfGoal) × Contains class g × (g.id ≡ m)
number_of class m has = has_mapped (λ g. g.id) class m has

-- Classes with numbers that differ, and apart from each other, are so when they are joined.
distinct_joined : (found : List (List LfGoal)) → All AreDistinct found → AllPairs AreApart found → AreDistinct (joined found)
distinct_joined [] distinct apart = no_pairs (λ g h. g.id ≢ h.id)
distinct_joined (class ∷ found) distinct apart =
    AllPairs-append (λ g h. g.id ≢ h.id) class (joined found) (All-head AreDistinct class found distinct)
    (distinct_joined found (All-tail AreDistinct class found distinct) (AllPairs-tail AreApart class found apart))
    (all_elements (λ g. All (λ h. g.id ≢ h.id) (joined found)) class (λ g has. all_elements (λ h. g.id ≢ h.id) (joined found) (λ h is. differ g h has (has_joined found h is))))
  where
    differ : (g h : LfGoal) → Contains class g → IsIn found h → g.id ≡ h.id → ⊥
    differ g h has (other, there, is) same =
        All-contains (AreApart class) found other (AllPairs-head AreApart class found apart) there g.id (mapped_has (λ x. x.id) class g has)
        (subst (Contains (ids other)) (sym same) (mapped_has (λ x. x.id) other h is))

pub classes_apart : (goals : List LfGoal) → AreDistinct goals → All AreDistinct (classes goals) × AllPairs AreApart (classes goals)
classes_apart [] distinct = (All-nil AreDistinct, no_pairs AreApart)
classes_apart (x ∷ rest) distinct = step (classes_apart rest (AllPairs-tail (λ g h. g.id ≢ h.id) x rest distinct))
  where
    -- A goal of a later class has another number.
    new : (class : List LfGoal) → Contains (classes rest) class → (h : LfGoal) → Contains class h → x.id ≡ h.id → ⊥
    new class has h is = All-contains (λ h. x.id ≢ h.id) rest h (AllPairs-head (λ g h. g.id ≢ h.id) x rest distinct) (is_in_goals rest class h has is)

    made_is_distinct : All AreDistinct (classes rest) → AllPairs AreApart (classes rest) → AreDistinct (x ∷ joined (touched x (classes rest)))
    made_is_distinct all apart =
        AllPairs-cons (λ g h. g.id ≢ h.id) x (joined (touched x (classes rest)))
        (all_elements (λ h. x.id ≢ h.id) (joined (touched x (classes rest))) (λ h has. let r = has_joined (touched x (classes rest)) h has in new r.0 (has_filtered (touches x) (classes rest) r.0 r.1).0 h r.2))
        (distinct_joined (touched x (classes rest)) (All-filter (touches x) AreDistinct (classes rest) all) (AllPairs-filter AreApart (touches x) (classes rest) apart))

    made_is_apart : AllPairs AreApart (classes rest) → (other : List LfGoal) → Contains (untouched x (classes rest)) other → AreApart (x ∷ joined (touched x (classes rest))) other
    made_is_apart apart other has m here there = each (number_of (x ∷ joined (touched x (classes rest))) m here) (number_of other m there)
      where
        each : (g : LfGoal) × Contains (x ∷ joined (touched x (classes rest))) g × (g.id ≡ m) → (h : LfGoal) × Contains other h × (h.id ≡ m) → ⊥
        each (g, is, e) (h, is_other, f) = further (member_cases x (classes rest) g is)
          where
            further : (x ≡ g) ⊎ ((c : List LfGoal) × Contains (classes rest) c × (touches x c ≡ true) × Contains c g) → ⊥
            further (inl same) = new other (has_filtered (λ c. not (touches x c)) (classes rest) other has).0 h is_other (ap (λ y. y.id) same ∙ e ∙ sym f)
            further (inr r) =
                All-contains (AreApart r.0) (untouched x (classes rest)) other
                (All-contains (λ c. All (AreApart c) (untouched x (classes rest))) (touched x (classes rest)) r.0 (apart_by_test AreApart apart_again (touches x) (classes rest) apart) (filtered_has (touches x) (classes rest) r.0 r.1 r.2))
                has m (subst (Contains (ids r.0)) e (mapped_has (λ y. y.id) r.0 g r.3)) there

    step : All AreDistinct (classes rest) × AllPairs AreApart (classes rest) → All AreDistinct (classes (x ∷ rest)) × AllPairs AreApart (classes (x ∷ rest))
    step (all, apart) = (
      All-cons AreDistinct (x ∷ joined (touched x (classes rest))) (untouched x (classes rest)) (made_is_distinct all apart) (All-filter (λ c. not (touches x c)) AreDistinct (classes rest) all),
      AllPairs-cons AreApart (x ∷ joined (touched x (classes rest))) (untouched x (classes rest))
          (all_elements (AreApart (x ∷ joined (touched x (classes rest)))) (untouched x (classes rest)) (made_is_apart apart))
          (AllPairs-filter AreApart (λ c. not (touches x c)) (classes rest) apart),
    )

-- No class is empty.
pub classes_are_inhabited : (goals : List LfGoal) → All (λ class. (g : LfGoal) × Contains class g) (classes goals)
classes_are_inhabited [] = All-nil (λ class. (g : LfGoal) × Contains class g)
classes_are_inhabited (x ∷ rest) =
    All-cons (λ class. (g : LfGoal) × Contains class g) (x ∷ joined (touched x (classes rest))) (untouched x (classes rest)) (x, Contains-here x (joined (touched x (classes rest))))
    (All-filter (λ c. not (touches x c)) (λ class. (g : LfGoal) × Contains class g) (classes rest) (classes_are_inhabited rest))

-- Goals of one number are one, where the numbers differ.
pub same_goal_of_number : (goals : List LfGoal) → AreDistinct goals → (g h : LfGoal) → Contains goals g → Contains goals h → g.id ≡ h.id → g ≡ h
same_goal_of_number [] distinct g h has is same = absurd (contains_none g has)
same_goal_of_number (x ∷ rest) distinct g h has is same =
    each (contains_cases x rest g has) (contains_cases x rest h is) (λ p q. same_goal_of_number rest (AllPairs-tail (λ y z. y.id ≢ z.id) x rest distinct) g h p q same)
  where
    new : (k : LfGoal) → Contains rest k → x.id ≡ k.id → ⊥
    new k there = All-contains (λ y. x.id ≢ y.id) rest k (AllPairs-head (λ y z. y.id ≢ z.id) x rest distinct) there

    each : (x ≡ g) ⊎ Contains rest g → (x ≡ h) ⊎ Contains rest h → (Contains rest g → Contains rest h → g ≡ h) → g ≡ h
    each (inl e) (inl f) later = sym e ∙ f
    each (inl e) (inr q) later = absurd (new h q (ap (λ y. y.id) e ∙ same))
    each (inr p) (inl f) later = absurd (new g p (ap (λ y. y.id) f ∙ sym same))
    each (inr p) (inr q) later = later p q

-- A goal has a number of a class where it is in this class.
pub member_has_number : (class : List LfGoal) (g : LfGoal) → Contains class g → is_one_of class g.id ≡ true
member_has_number class g has = found_any (nat_eq g.id) (ids class) g.id (mapped_has (λ x. x.id) class g has) (eq-eqb g.id g.id refl)

pub goal_of_number : (class : List LfGoal) (m : ℕ) → is_one_of class m ≡ true → (g : LfGoal) × Contains class g × (m ≡ g.id)
goal_of_number class m is =
    let found = any_found (nat_eq m) (ids class) is in
    let goal = number_of class found.0 found.1 in (goal.0, goal.1, eqb-true m found.0 found.2 ∙ sym goal.2)

pub number_is_member : (goals : List LfGoal) → AreDistinct goals → (class : List LfGoal) → Contains (classes goals) class → (g : LfGoal) → Contains goals g → is_one_of class g.id ≡ true → Contains class g
number_is_member goals distinct class has g there is =
    let r = goal_of_number class g.id is in
    subst (Contains class) (same_goal_of_number goals distinct r.0 g (is_in_goals goals class r.0 has r.1) there (sym r.2)) r.1
