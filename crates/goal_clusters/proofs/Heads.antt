-- Classes begin with the first of their goals, and stand in the order of these.
use Rattle.std.proofs.Common.{◌≡◌, ◌≢◌, ◌⊎◌, inl, inr, ℕ, zero, suc, ◌<◌, ◌≤◌, true, List, [], ◌∷◌, get_or, AllPairs, refl, sym, ap, ◌∙◌, subst, arith}
use Rattle.std.specs.Prelude.{Contains, not, if◌then◌else◌}
use Rattle.std.proofs.lemmas.Bool.{eq-eqb, ne_eqb}
use Rattle.std.proofs.lemmas.List.Elements.{All-contains, Contains-get_or}
use Rattle.std.proofs.lemmas.List.Kept.{AllPairs-cons, AllPairs-filter}
use Rattle.head_laws.specs.Renumbering.{place_of_number}
use Rattle.head_laws.proofs.Numbers.{Contains-here, AllPairs-head, AllPairs-tail}
use Rattle.lf_definitions.specs.Typing.{LfGoal}
use Rattle.lf_definitions.specs.GoalLists.{ids, AreDistinct}
use Rattle.application_laws.proofs.Lists.{no_pairs}
use Rattle.clusters.specs.Clusters.{touches, classes}
use Rattle.clusters.proofs.Elements.{contains_none, all_elements, has_filtered, joined}
use Rattle.clusters.proofs.Classes.{touched, untouched, class_cases, is_in_goals}

-- the place of a goal, and that of the first goal of a class
abbrev pub place_in : List LfGoal → LfGoal → ℕ
place_in goals g = place_of_number (ids goals) g.id

abbrev pub first_place : List LfGoal → List LfGoal → ℕ
first_place goals [] = 0
first_place goals (g ∷ class) = place_in goals g

-- A class begins with a goal that stands before its others.
pub record BeginsFirst (goals class : List LfGoal) : Type 0 where
  pub first : LfGoal
  pub is_member : Contains class first
  pub stands_first : first_place goals class ≡ place_in goals first
  pub is_least : (g : LfGoal) → Contains class g → first_place goals class ≤ place_in goals g

first_here : (x : LfGoal) (rest : List LfGoal) → place_in (x ∷ rest) x ≡ 0
first_here x rest = ap (λ b. if b then zero else suc (place_of_number (ids rest) x.id)) (eq-eqb x.id x.id refl)

module _ (x : LfGoal) (rest : List LfGoal) (distinct : AreDistinct (x ∷ rest)) where
  -- A goal of the rest stands one place later.
  later_place : (g : LfGoal) → Contains rest g → place_in (x ∷ rest) g ≡ suc (place_in rest g)
  later_place g has =
      ap (λ b. if b then zero else suc (place_of_number (ids rest) g.id)) (ne_eqb x.id g.id (All-contains (λ y. x.id ≢ y.id) rest g (AllPairs-head (λ y z. y.id ≢ z.id) x rest distinct) has))

  later_first : (class : List LfGoal) → Contains (classes rest) class → BeginsFirst rest class → first_place (x ∷ rest) class ≡ suc (first_place rest class)
  later_first [] has begins = absurd (contains_none begins.first begins.is_member)
  later_first (g ∷ class) has begins = later_place g (is_in_goals rest (g ∷ class) g has (Contains-here g class))

  begins_here : (class : List LfGoal) → BeginsFirst (x ∷ rest) (x ∷ class)
  begins_here class = record {
    first = x;
    is_member = Contains-here x class;
    stands_first = refl;
    is_least = λ g has. let here = first_here x rest in omega (arith, here);
  }

  begins_later : (class : List LfGoal) → Contains (classes rest) class → BeginsFirst rest class → BeginsFirst (x ∷ rest) class
  begins_later class has begins = record {
    first = begins.first;
    is_member = begins.is_member;
    stands_first = later_first class has begins ∙ ap suc begins.stands_first ∙ sym (later_place begins.first (is_in_goals rest class begins.first has begins.is_member));
    is_least =
        λ g is.
        let here = later_first class has begins in
        let there = later_place g (is_in_goals rest class g has is) in
        let least = begins.is_least g is in
        omega (arith, here, there, least);
  }

pub classes_begin : (goals : List LfGoal) → AreDistinct goals → (class : List LfGoal) → Contains (classes goals) class → BeginsFirst goals class
classes_begin [] distinct class has = absurd (contains_none class has)
classes_begin (x ∷ rest) distinct class has = each (class_cases x (classes rest) class has) (classes_begin rest (AllPairs-tail (λ y z. y.id ≢ z.id) x rest distinct) class)
  where
    each : (x ∷ joined (touched x (classes rest)) ≡ class) ⊎ (Contains (classes rest) class × (not (touches x class) ≡ true)) → (Contains (classes rest) class → BeginsFirst rest class) → BeginsFirst (x ∷ rest) class
    each (inl same) later = subst (BeginsFirst (x ∷ rest)) same (begins_here x rest distinct (joined (touched x (classes rest))))
    each (inr there) later = begins_later x rest distinct class there.0 (later there.0)

-- The classes stand in the order of their first goals.
abbrev pub ComeInOrder : List LfGoal → List LfGoal → List LfGoal → Type 0
ComeInOrder goals class other = first_place goals class < first_place goals other

pairs_among : {X : Type 0} (R S : X → X → Type 0) (xs : List X) → ((x y : X) → Contains xs x → Contains xs y → R x y → S x y) → AllPairs R xs → AllPairs S xs
pairs_among R S xs weaken pairs i j d less within =
    weaken (get_or xs i d) (get_or xs j d) (Contains-get_or xs i d (omega (arith, less, within))) (Contains-get_or xs j d within) (pairs i j d less within)

pub classes_in_order : (goals : List LfGoal) → AreDistinct goals → AllPairs (ComeInOrder goals) (classes goals)
classes_in_order [] distinct = no_pairs (ComeInOrder [])
classes_in_order (x ∷ rest) distinct =
    AllPairs-cons (ComeInOrder (x ∷ rest)) (x ∷ joined (touched x (classes rest))) (untouched x (classes rest))
    (all_elements (ComeInOrder (x ∷ rest) (x ∷ joined (touched x (classes rest)))) (untouched x (classes rest)) after_first)
    (AllPairs-filter (ComeInOrder (x ∷ rest)) (λ c. not (touches x c)) (classes rest) (pairs_among (ComeInOrder rest) (ComeInOrder (x ∷ rest)) (classes rest) later (classes_in_order rest distinct_rest)))
  where
    distinct_rest : AreDistinct rest
    distinct_rest = AllPairs-tail (λ y z. y.id ≢ z.id) x rest distinct

    after_first : (class : List LfGoal) → Contains (untouched x (classes rest)) class → ComeInOrder (x ∷ rest) (x ∷ joined (touched x (classes rest))) class
    after_first class has =
        let there : Contains (classes rest) class = (has_filtered (λ c. not (touches x c)) (classes rest) class has).0 in
        let here = first_here x rest in
        let on = later_first x rest distinct class there (classes_begin rest distinct_rest class there) in
        omega (arith, here, on)

    later : (class other : List LfGoal) → Contains (classes rest) class → Contains (classes rest) other → ComeInOrder rest class other → ComeInOrder (x ∷ rest) class other
    later class other has is less =
        let one = later_first x rest distinct class has (classes_begin rest distinct_rest class has) in
        let two = later_first x rest distinct other is (classes_begin rest distinct_rest other is) in
        omega (arith, one, two, less)
