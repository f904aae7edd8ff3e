-- Classes have exactly the goals that are connected, and no mention crosses their borders.
use Rattle.std.proofs.Common.{◌≡◌, ◌⊎◌, inl, inr, ℕ, Bool, true, false, List, [], ◌∷◌, refl, sym, ap, ◌∙◌, subst}
use Rattle.std.specs.Prelude.{Contains, not, ◌||◌}
use Rattle.std.proofs.lemmas.List.Elements.{All-contains}
use Rattle.head_laws.proofs.Numbers.{Contains-here, Contains-later}
use Rattle.lf_definitions.specs.Syntax.{metavariable}
use Rattle.lf_definitions.specs.Occurrence.{OccursInGoal}
use Rattle.lf_definitions.specs.Typing.{LfGoal}
use Rattle.lf_definitions.specs.GoalLists.{ids}
use Rattle.head_laws.proofs.Occurrence.{occurs_in_type-from}
use Rattle.clusters.specs.Clusters.{goal_mentions, are_linked, touches, classes, is_one_of}
use Rattle.clusters.specs.Links.{AreConnected, same_goal, by_link, outside_of, Splits}
use Rattle.clusters.specs.Laws.{ClassesSplit}
use Rattle.clusters.proofs.Elements.{contains_cases, contains_none, all_elements, joined, has_mapped, any_found, found_any}
use Rattle.clusters.proofs.Classes.{touched, class_cases, member_cases, member_joins, is_in_classes, is_in_goals, member_has_number, number_is_member, goal_of_number}

-- links
or_swapped : (a b : Bool) → a || b ≡ true → b || a ≡ true
or_swapped true true e = refl
or_swapped true false e = refl
or_swapped false true e = refl
or_swapped false false e = e

pub linked_back : (g h : LfGoal) → are_linked g h ≡ true → are_linked h g ≡ true
linked_back g h = or_swapped (goal_mentions g h.id) (goal_mentions h g.id)

-- connections
pub connected_on : {goals : List LfGoal} {g h k : LfGoal} → AreConnected goals g h → AreConnected goals h k → AreConnected goals g k
connected_on (same_goal g) q = q
connected_on (by_link g h k has linked p) q = by_link g h _ has linked (connected_on p q)

pub connected_back : {goals : List LfGoal} {g h : LfGoal} → Contains goals g → AreConnected goals g h → AreConnected goals h g
connected_back has (same_goal g) = same_goal g
connected_back has (by_link g h k there linked p) = connected_on (connected_back there p) (by_link h g g has (linked_back g h linked) (same_goal g))

pub connected_later : (x : LfGoal) {goals : List LfGoal} {g h : LfGoal} → AreConnected goals g h → AreConnected (x ∷ goals) g h
connected_later x (same_goal g) = same_goal g
connected_later x {goals} (by_link g h k has linked p) = by_link g h k (Contains-later x goals h has) linked (connected_later x p)

-- Two goals of a class are connected.
abbrev ClassesConnect : List LfGoal → Type 0
ClassesConnect goals = (c : List LfGoal) → Contains (classes goals) c → (g h : LfGoal) → Contains c g → Contains c h → AreConnected goals g h

pub connected_in_class : (goals class : List LfGoal) → Contains (classes goals) class → (g h : LfGoal) → Contains class g → Contains class h → AreConnected goals g h
connected_in_class [] class has g h is_g is_h = absurd (contains_none class has)
connected_in_class (x ∷ rest) class has g h is_g is_h = each (class_cases x (classes rest) class has) (connected_in_class rest)
  where
    from_first : ClassesConnect rest → (k : LfGoal) → Contains (x ∷ joined (touched x (classes rest))) k → AreConnected (x ∷ rest) x k
    from_first later k is = further (member_cases x (classes rest) k is)
      where
        further : (x ≡ k) ⊎ ((c : List LfGoal) × Contains (classes rest) c × (touches x c ≡ true) × Contains c k) → AreConnected (x ∷ rest) x k
        further (inl same) = subst (AreConnected (x ∷ rest) x) same (same_goal x)
        further (inr (c, there, touching, is_k)) = through (any_found (are_linked x) c touching)
          where
            through : (y : LfGoal) × Contains c y × (are_linked x y ≡ true) → AreConnected (x ∷ rest) x k
            through (y, is_y, linked) = by_link x y k (Contains-later x rest y (is_in_goals rest c y there is_y)) linked (connected_later x (later c there y k is_y is_k))

    each : (x ∷ joined (touched x (classes rest)) ≡ class) ⊎ (Contains (classes rest) class × (not (touches x class) ≡ true)) → ClassesConnect rest → AreConnected (x ∷ rest) g h
    each (inl same) later =
        connected_on (connected_back (Contains-here x rest) (from_first later g (subst (λ c. Contains c g) (sym same) is_g))) (from_first later h (subst (λ c. Contains c h) (sym same) is_h))
    each (inr there) later = connected_later x (later class there.0 g h is_g is_h)

-- What is linked with a goal of a class is in it.
abbrev ClassesTakeIn : List LfGoal → Type 0
ClassesTakeIn goals = (c : List LfGoal) → Contains (classes goals) c → (g h : LfGoal) → Contains c g → Contains goals h → are_linked g h ≡ true → Contains c h

pub linked_in_class : (goals class : List LfGoal) → Contains (classes goals) class → (g h : LfGoal) → Contains class g → Contains goals h → are_linked g h ≡ true → Contains class h
linked_in_class [] class has g h is there linked = absurd (contains_none class has)
linked_in_class (x ∷ rest) class has g h is there linked = each (class_cases x (classes rest) class has) (contains_cases x rest h there) (linked_in_class rest)
  where
    joins : ClassesTakeIn rest → Contains rest h → (x ≡ g) ⊎ ((c : List LfGoal) × Contains (classes rest) c × (touches x c ≡ true) × Contains c g) → Contains (x ∷ joined (touched x (classes rest))) h
    joins later in_rest (inl same) =
        let r = is_in_classes rest h in_rest in
        member_joins x (classes rest) r.0 h r.1 (found_any (are_linked x) r.0 h r.2 (ap (λ y. are_linked y h) same ∙ linked)) r.2
    joins later in_rest (inr (c, in_found, touching, is_g)) = member_joins x (classes rest) c h in_found touching (later c in_found g h is_g in_rest linked)

    clash : (b : Bool) → not b ≡ true → b ≡ true → ⊥
    clash true e f = absurd cc
    clash false e f = absurd cc

    each : (x ∷ joined (touched x (classes rest)) ≡ class) ⊎ (Contains (classes rest) class × (not (touches x class) ≡ true)) → (x ≡ h) ⊎ Contains rest h → ClassesTakeIn rest → Contains class h
    each (inl made) (inl same) later = subst (λ c. Contains c h) made (subst (Contains (x ∷ joined (touched x (classes rest)))) same (Contains-here x (joined (touched x (classes rest)))))
    each (inl made) (inr in_rest) later = subst (λ c. Contains c h) made (joins later in_rest (member_cases x (classes rest) g (subst (λ c. Contains c g) (sym made) is)))
    each (inr (in_found, apart)) (inl same) later =
        absurd (clash (touches x class) apart (found_any (are_linked x) class g is (ap (λ y. are_linked y g) same ∙ linked_back g h linked)))
    each (inr (in_found, apart)) (inr in_rest) later = later class in_found g h is in_rest linked

-- So is what is connected with it.
pub connected_stays : (goals class : List LfGoal) → Contains (classes goals) class → {g h : LfGoal} → AreConnected goals g h → Contains class g → Contains class h
connected_stays goals class has (same_goal g) is = is
connected_stays goals class has (by_link g h k there linked p) is = connected_stays goals class has p (linked_in_class goals class has g h is there linked)

-- Mentions are links.
mention_links : (g h : LfGoal) (m : ℕ) → OccursInGoal (metavariable m) g → m ≡ h.id → are_linked g h ≡ true
mention_links g h m o same = ap (λ b. b || goal_mentions h g.id) (ap (goal_mentions g) (sym same) ∙ occurs_in_type-from o)

pub classes_split : ClassesSplit
classes_split goals distinct closed = all_elements (λ class. Splits (is_one_of class) goals) (classes goals) each
  where
    each : (class : List LfGoal) → Contains (classes goals) class → Splits (is_one_of class) goals
    each class has = (
      all_elements (λ g. is_one_of class g.id ≡ true → (m : ℕ) → OccursInGoal (metavariable m) g → is_one_of class m ≡ true) goals inner,
      all_elements (λ g. outside_of (is_one_of class) g.id ≡ true → (m : ℕ) → OccursInGoal (metavariable m) g → outside_of (is_one_of class) m ≡ true) goals outer,
    )
      where
        inner : (g : LfGoal) → Contains goals g → is_one_of class g.id ≡ true → (m : ℕ) → OccursInGoal (metavariable m) g → is_one_of class m ≡ true
        inner g there is m o =
            let r = has_mapped (λ x. x.id) goals m (All-contains (λ x. (n : ℕ) → OccursInGoal (metavariable n) x → Contains (ids goals) n) goals g closed there m o) in
            ap (is_one_of class) (sym r.2) ∙ member_has_number class r.0 (linked_in_class goals class has g r.0 (number_is_member goals distinct class has g there is) r.1 (mention_links g r.0 m o (sym r.2)))

        outer : (g : LfGoal) → Contains goals g → outside_of (is_one_of class) g.id ≡ true → (m : ℕ) → OccursInGoal (metavariable m) g → outside_of (is_one_of class) m ≡ true
        outer g there is m o = step (is_one_of class m) refl
          where
            clash : (b : Bool) → not b ≡ true → b ≡ true → ⊥
            clash true e f = absurd cc
            clash false e f = absurd cc

            step : (b : Bool) → is_one_of class m ≡ b → not b ≡ true
            step false e = refl
            step true e =
                let r = goal_of_number class m e in
                absurd (clash (is_one_of class g.id) is (member_has_number class g (linked_in_class goals class has r.0 g r.1 there (linked_back g r.0 (mention_links g r.0 m o r.2)))))
