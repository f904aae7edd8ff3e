-- Places have one root exactly where their goals are connected.
use Rattle.std.proofs.Common.{◌≡◌, ◌≢◌, ◌⊎◌, inl, inr, ℕ, zero, suc, ◌+◌, ◌<◌, max, min, Bool, true, false, Option, Some, None, List, [], ◌∷◌, ◌++◌, length, get_or, refl, sym, ap, ap₂, ◌∙◌, subst, arith}
use Rattle.std.specs.Prelude.{Contains, nat_eq, if◌then◌else◌, ◌||◌}
use Rattle.std.specs.List.{position}
use Rattle.std.proofs.lemmas.Bool.{eq-eqb, ne_eqb}
use Rattle.std.proofs.lemmas.List.{get_or_default}
use Rattle.std.proofs.lemmas.List.Elements.{Contains-get_or}
use Rattle.head_laws.proofs.Numbers.{Contains-here, Contains-later}
use Rattle.head_laws.proofs.Occurrence.{OccursInType-true, occurs_in_type-from}
use Rattle.lf_definitions.specs.Syntax.{metavariable}
use Rattle.lf_definitions.specs.Typing.{LfGoal, goal_type}
use Rattle.lf_definitions.specs.GoalLists.{ids, AreDistinct}
use Rattle.lf_definitions.proofs.Options.{Some-Some}
use Rattle.clusters.specs.Clusters.{goal_mentions, are_linked}
use Rattle.clusters.specs.Links.{AreConnected, same_goal, by_link}
use Rattle.clusters.proofs.Elements.{contains_cases, contains_none}
use Rattle.clusters.proofs.Connected.{connected_on, connected_back}
use Rattle.goal_clusters.specs.Mentioned.{numbers_in_type}
use Rattle.goal_clusters.specs.Linking.{joins, joined_at, joined_if, joined_by, joined_all, own_root}
use Rattle.goal_clusters.proofs.Mentioning.{occurs_by_number_type, number_by_occurrence_type}
use Rattle.goal_clusters.proofs.LinkLaws.{same_or_other}
use Rattle.goal_clusters.proofs.Places.{position_is, found_at}

-- Two roots are joined.
joins_same : (a b : ℕ) → joins a b a ≡ joins a b b
joins_same a b = each (same_or_other a (max a b)) (same_or_other b (max a b))
  where
    each : (a ≡ max a b) ⊎ (a ≢ max a b) → (b ≡ max a b) ⊎ (b ≢ max a b) → joins a b a ≡ joins a b b
    each (inl e) (inl f) = ap (joins a b) (e ∙ sym f)
    each (inl e) (inr f) = ap (λ c. if c then min a b else a) (eq-eqb a (max a b) e) ∙ low ∙ sym (ap (λ c. if c then min a b else b) (ne_eqb b (max a b) f))
      where
        low : min a b ≡ b
        low = omega (arith, e, f)
    each (inr e) (inl f) = ap (λ c. if c then min a b else a) (ne_eqb a (max a b) e) ∙ low ∙ sym (ap (λ c. if c then min a b else b) (eq-eqb b (max a b) f))
      where
        low : a ≡ min a b
        low = omega (arith, e, f)
    each (inr e) (inr f) = absurd (omega (arith, e, f))

abbrev IsEither : ℕ → ℕ → ℕ → Type 0
IsEither a b r = (r ≡ a) ⊎ (r ≡ b)

either_max : (a b : ℕ) → IsEither a b (max a b)
either_max a b = step (same_or_other (max a b) a)
  where
    step : (max a b ≡ a) ⊎ (max a b ≢ a) → IsEither a b (max a b)
    step (inl e) = inl e
    step (inr e) = inr (omega (arith, e))

either_min : (a b : ℕ) → IsEither a b (min a b)
either_min a b = step (same_or_other (min a b) a)
  where
    step : (min a b ≡ a) ⊎ (min a b ≢ a) → IsEither a b (min a b)
    step (inl e) = inl e
    step (inr e) = inr (omega (arith, e))

-- What became the same was so, or was both times one of the two.
joins_cases : (a b r s : ℕ) → joins a b r ≡ joins a b s → (r ≡ s) ⊎ (IsEither a b r × IsEither a b s)
joins_cases a b r s e = each (same_or_other r (max a b)) (same_or_other s (max a b))
  where
    hit : (x : ℕ) → x ≡ max a b → joins a b x ≡ min a b
    hit x f = ap (λ c. if c then min a b else x) (eq-eqb x (max a b) f)

    missed : (x : ℕ) → x ≢ max a b → joins a b x ≡ x
    missed x f = ap (λ c. if c then min a b else x) (ne_eqb x (max a b) f)

    each : (r ≡ max a b) ⊎ (r ≢ max a b) → (s ≡ max a b) ⊎ (s ≢ max a b) → (r ≡ s) ⊎ (IsEither a b r × IsEither a b s)
    each (inl f) (inl g) = inl (f ∙ sym g)
    each (inl f) (inr g) = inr (subst (IsEither a b) (sym f) (either_max a b), subst (IsEither a b) (sym (hit r f) ∙ e ∙ missed s g) (either_min a b))
    each (inr f) (inl g) = inr (subst (IsEither a b) (sym (hit s g) ∙ sym e ∙ missed r f) (either_min a b), subst (IsEither a b) (sym g) (either_max a b))
    each (inr f) (inr g) = inl (sym (missed r f) ∙ e ∙ missed s g)

-- What has one root keeps one.
keeps_if : (i : ℕ) (o : Option ℕ) (root : ℕ → ℕ) (p q : ℕ) → root p ≡ root q → joined_if i o root p ≡ joined_if i o root q
keeps_if i None root p q e = e
keeps_if i (Some j) root p q e = ap (joins (root i) (root j)) e

keeps_by : (ns : List ℕ) (i : ℕ) (ms : List ℕ) (root : ℕ → ℕ) (p q : ℕ) → root p ≡ root q → joined_by ns i ms root p ≡ joined_by ns i ms root q
keeps_by ns i [] root p q e = e
keeps_by ns i (m ∷ ms) root p q e = keeps_by ns i ms (joined_if i (position (nat_eq m) ns) root) p q (keeps_if i (position (nat_eq m) ns) root p q e)

keeps_all : (ns : List ℕ) (i : ℕ) (goals : List LfGoal) (root : ℕ → ℕ) (p q : ℕ) → root p ≡ root q → joined_all ns i goals root p ≡ joined_all ns i goals root q
keeps_all ns i [] root p q e = e
keeps_all ns i (g ∷ goals) root p q e =
    keeps_all ns (suc i) goals (joined_by ns i (numbers_in_type (goal_type g)) root) p q (keeps_by ns i (numbers_in_type (goal_type g)) root p q e)

-- What is linked gets one root.
meets_by : (ns : List ℕ) (i : ℕ) (ms : List ℕ) (root : ℕ → ℕ) (m j : ℕ) → Contains ms m → position (nat_eq m) ns ≡ Some j → joined_by ns i ms root i ≡ joined_by ns i ms root j
meets_by ns i [] root m j has e = absurd (contains_none m has)
meets_by ns i (k ∷ ms) root m j has e = each (contains_cases k ms m has) (λ there. meets_by ns i ms (joined_if i (position (nat_eq k) ns) root) m j there e)
  where
    each : (k ≡ m) ⊎ Contains ms m → (Contains ms m → joined_by ns i ms (joined_if i (position (nat_eq k) ns) root) i ≡ joined_by ns i ms (joined_if i (position (nat_eq k) ns) root) j) →
        joined_by ns i ms (joined_if i (position (nat_eq k) ns) root) i ≡ joined_by ns i ms (joined_if i (position (nat_eq k) ns) root) j
    each (inl same) later =
        let found : position (nat_eq k) ns ≡ Some j = ap (λ x. position (nat_eq x) ns) same ∙ e in
        keeps_by ns i ms (joined_if i (position (nat_eq k) ns) root) i j (subst (λ o. joined_if i o root i ≡ joined_if i o root j) (sym found) (joins_same (root i) (root j)))
    each (inr there) later = later there

meets_all : (ns : List ℕ) (first : ℕ) (goals : List LfGoal) (d : LfGoal) (root : ℕ → ℕ) (k m j : ℕ) → k < length goals → Contains (numbers_in_type (goal_type (get_or goals k d))) m → position (nat_eq m) ns ≡ Some j →
    joined_all ns first goals root (first + k) ≡ joined_all ns first goals root j
meets_all ns first [] d root k m j less has e = absurd (omega (arith, less))
meets_all ns first (g ∷ goals) d root zero m j less has e =
    let here : first + 0 ≡ first = omega arith in
    ap (joined_all ns first (g ∷ goals) root) here
    ∙ keeps_all ns (suc first) goals (joined_by ns first (numbers_in_type (goal_type g)) root) first j (meets_by ns first (numbers_in_type (goal_type g)) root m j has e)
meets_all ns first (g ∷ goals) d root (suc k) m j less has e =
    let there : first + suc k ≡ suc first + k = omega arith in
    ap (joined_all ns first (g ∷ goals) root) there ∙ meets_all ns (suc first) goals d (joined_by ns first (numbers_in_type (goal_type g)) root) k m j (omega (arith, less)) has e

-- lists one after the other
pub joined_all-append : (ns : List ℕ) (first : ℕ) (xs ys : List LfGoal) (root : ℕ → ℕ) → joined_all ns (first + length xs) ys (joined_all ns first xs root) ≡ joined_all ns first (xs ++ ys) root
joined_all-append ns first [] ys root = let here : first + 0 ≡ first = omega arith in ap (λ i. joined_all ns i ys root) here
joined_all-append ns first (x ∷ xs) ys root =
    let there : first + suc (length xs) ≡ suc first + length xs = omega arith in
    let next = joined_by ns first (numbers_in_type (goal_type x)) root in
    ap (λ i. joined_all ns i ys (joined_all ns (suc first) xs next)) there ∙ joined_all-append ns (suc first) xs ys next

module _ (goals : List LfGoal) (distinct : AreDistinct goals) (d : LfGoal) where
  -- the root that each place gets
  abbrev pub final : ℕ → ℕ
  final = joined_all (ids goals) 0 goals own_root

  there : (p : ℕ) → p < length goals → Contains goals (get_or goals p d)
  there p less = Contains-get_or goals p d less

  -- Mentions are links.
  by_mention : (p : ℕ) (m j : ℕ) → Contains (numbers_in_type (goal_type (get_or goals p d))) m → position (nat_eq m) (ids goals) ≡ Some j → are_linked (get_or goals p d) (get_or goals j d) ≡ true
  by_mention p m j has e =
      let found = found_at goals d m j e in
      ap (λ b. b || goal_mentions (get_or goals j d) (get_or goals p d).id)
      (ap (goal_mentions (get_or goals p d)) (sym found.1) ∙ occurs_in_type-from (occurs_by_number_type (goal_type (get_or goals p d)) m has))

  mentioned : (p q : ℕ) → p < length goals → q < length goals → goal_mentions (get_or goals p d) (get_or goals q d).id ≡ true → final p ≡ final q
  mentioned p q p_within q_within e =
      let m = (get_or goals q d).id in
      let zeroth : 0 + p ≡ p = omega arith in
      ap final (sym zeroth)
      ∙ meets_all (ids goals) 0 goals d own_root p m q p_within
      (number_by_occurrence_type (goal_type (get_or goals p d)) m (OccursInType-true (metavariable m) (goal_type (get_or goals p d)) e)) (position_is goals distinct d q q_within)

  linked_meet : (p q : ℕ) → p < length goals → q < length goals → are_linked (get_or goals p d) (get_or goals q d) ≡ true → final p ≡ final q
  linked_meet p q p_within q_within e = step (goal_mentions (get_or goals p d) (get_or goals q d).id) refl e
    where
      step : (b : Bool) → goal_mentions (get_or goals p d) (get_or goals q d).id ≡ b → b || goal_mentions (get_or goals q d) (get_or goals p d).id ≡ true → final p ≡ final q
      step true f h = mentioned p q p_within q_within f
      step false f h = sym (mentioned q p q_within p_within h)

  -- What is connected has one root.
  pub connected_meet : {g h : LfGoal} → AreConnected goals g h → (p q : ℕ) → p < length goals → q < length goals → get_or goals p d ≡ g → get_or goals q d ≡ h → final p ≡ final q
  connected_meet (same_goal g) p q p_within q_within p_is q_is =
      ap final (Some-Some (sym (position_is goals distinct d p p_within) ∙ ap (λ (x : LfGoal). position (nat_eq x.id) (ids goals)) (p_is ∙ sym q_is) ∙ position_is goals distinct d q q_within))
  connected_meet (by_link g h k (j, less, j_is) linked more) p q p_within q_within p_is q_is =
      let at_j : get_or goals j d ≡ h = get_or_default goals j d h less ∙ j_is in
      linked_meet p j p_within less (ap₂ are_linked p_is at_j ∙ linked) ∙ connected_meet more j q less q_within at_j q_is

  -- What has one root is connected.
  abbrev Connects : (ℕ → ℕ) → Type 0
  Connects root = (p q : ℕ) → p < length goals → q < length goals → root p ≡ root q → AreConnected goals (get_or goals p d) (get_or goals q d)

  connects_at : (root : ℕ → ℕ) (i j : ℕ) → i < length goals → j < length goals → AreConnected goals (get_or goals i d) (get_or goals j d) → Connects root → Connects (joined_at i j root)
  connects_at root i j i_within j_within link before p q p_within q_within e = each (joins_cases (root i) (root j) (root p) (root q) e)
    where
      either : IsEither (root i) (root j) (root p) → IsEither (root i) (root j) (root q) → AreConnected goals (get_or goals p d) (get_or goals q d)
      either (inl f) (inl g) = before p q p_within q_within (f ∙ sym g)
      either (inl f) (inr g) = connected_on (before p i p_within i_within f) (connected_on link (before j q j_within q_within (sym g)))
      either (inr f) (inl g) = connected_on (before p j p_within j_within f) (connected_on (connected_back (there i i_within) link) (before i q i_within q_within (sym g)))
      either (inr f) (inr g) = before p q p_within q_within (f ∙ sym g)

      each : (root p ≡ root q) ⊎ (IsEither (root i) (root j) (root p) × IsEither (root i) (root j) (root q)) → AreConnected goals (get_or goals p d) (get_or goals q d)
      each (inl f) = before p q p_within q_within f
      each (inr both) = either both.0 both.1

  connects_if : (root : ℕ → ℕ) (i : ℕ) (o : Option ℕ) → i < length goals → ((j : ℕ) → o ≡ Some j → (j < length goals) × AreConnected goals (get_or goals i d) (get_or goals j d)) → Connects root → Connects (joined_if i o root)
  connects_if root i None i_within linked before = before
  connects_if root i (Some j) i_within linked before = let r = linked j refl in connects_at root i j i_within r.0 r.1 before

  connects_by : (ms : List ℕ) (root : ℕ → ℕ) (i : ℕ) → i < length goals → ((m : ℕ) → Contains ms m → Contains (numbers_in_type (goal_type (get_or goals i d))) m) → Connects root → Connects (joined_by (ids goals) i ms root)
  connects_by [] root i i_within are before = before
  connects_by (m ∷ ms) root i i_within are before =
      connects_by ms (joined_if i (position (nat_eq m) (ids goals)) root) i i_within (λ k has. are k (Contains-later m ms k has))
      (connects_if root i (position (nat_eq m) (ids goals)) i_within linked before)
    where
      linked : (j : ℕ) → position (nat_eq m) (ids goals) ≡ Some j → (j < length goals) × AreConnected goals (get_or goals i d) (get_or goals j d)
      linked j e =
          let less = (found_at goals d m j e).0 in
          (less, by_link (get_or goals i d) (get_or goals j d) (get_or goals j d) (there j less) (by_mention i m j (are m (Contains-here m ms)) e) (same_goal (get_or goals j d)))

  connects_all : (rest : List LfGoal) (first : ℕ) (root : ℕ → ℕ) → first + length rest ≡ length goals → ((k : ℕ) → k < length rest → get_or rest k d ≡ get_or goals (first + k) d) → Connects root →
      Connects (joined_all (ids goals) first rest root)
  connects_all [] first root long same before = before
  connects_all (g ∷ rest) first root long same before =
      connects_all rest (suc first) (joined_by (ids goals) first (numbers_in_type (goal_type g)) root) (omega (arith, long))
      (λ k less. let on : first + suc k ≡ suc first + k = omega arith in same (suc k) (omega (arith, less)) ∙ ap (λ p. get_or goals p d) on)
      (connects_by (numbers_in_type (goal_type g)) root first (omega (arith, long)) (λ m has. subst (λ (x : LfGoal). Contains (numbers_in_type (goal_type x)) m) here has) before)
    where
      here : g ≡ get_or goals first d
      here = let zeroth : first + 0 ≡ first = omega arith in same 0 (omega arith) ∙ ap (λ p. get_or goals p d) zeroth

  pub one_root_connects : Connects final
  one_root_connects =
      connects_all goals 0 own_root (omega arith) (λ k less. let zeroth : k ≡ 0 + k = omega arith in ap (λ p. get_or goals p d) zeroth)
      (λ p q p_within q_within e. subst (λ k. AreConnected goals (get_or goals p d) (get_or goals k d)) e (same_goal (get_or goals p d)))
