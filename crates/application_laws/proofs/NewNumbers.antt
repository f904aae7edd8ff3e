-- The numbers of new goals are new, and differ.
use Rattle.std.proofs.Common.{◌≡◌, ◌≢◌, ℕ, suc, ◌+◌, ◌<◌, ◌≤◌, Bool, true, false, Option, Some, None, List, [], ◌∷◌, ◌++◌, All, length, sym, ◌∙◌, arith}
use Rattle.std.specs.Prelude.{not, is_some, slice_index_or, if◌then◌else◌}
use Rattle.std.proofs.lemmas.List.Elements.{All-nil, All-cons, All-append, All-weaker}
use Rattle.std.proofs.lemmas.List.Kept.{AllPairs-cons}
use Rattle.lf_definitions.specs.Syntax.{LfTerm}
use Rattle.lf_definitions.specs.Typing.{LfGoal}
use Rattle.lf_definitions.specs.GoalLists.{AreDistinct}
use Rattle.lf_definitions.specs.Instantiation.{Assignment}
use Rattle.lf_functions.specs.Instances.{instance_of_goal}
use Rattle.opening_laws.proofs.Numbers.{Numbered}
use Rattle.goal_lists.proofs.Leaving.{AllPairs-append}
use Rattle.applications.specs.Applications.{fresh_left}
use Rattle.application_laws.proofs.Lists.{no_pairs}
use Rattle.application_laws.proofs.Members.{instance_id, All-fresh_left}

-- Numbers from one on to before another.
abbrev pub HasNumberWithin : ℕ → ℕ → LfGoal → Type 0
HasNumberWithin low high h = (low ≤ h.id) × (h.id < high)

pub numbers_of : (n : ℕ) (fresh : List LfGoal) → Numbered n fresh → All (HasNumberWithin n (n + length fresh)) fresh
numbers_of n [] numbered = All-nil (HasNumberWithin n (n + 0))
numbers_of n (h ∷ rest) numbered =
    let e = numbered.0 in
    All-cons (HasNumberWithin n (n + suc (length rest))) h rest (omega (arith, e), omega (arith, e))
    (All-weaker (HasNumberWithin (suc n) (suc n + length rest)) (HasNumberWithin n (n + suc (length rest))) (λ x both. let low = both.0 in let high = both.1 in (omega (arith, low), omega (arith, high))) rest
    (numbers_of (suc n) rest numbered.1))

module _ (goals : List LfGoal) (σ : Assignment) where
  pub numbers_left : (n : ℕ) (fresh : List LfGoal) → Numbered n fresh → (test : Bool → Bool) (marks : List Bool) → All (HasNumberWithin n (n + length fresh)) (fresh_left test goals σ fresh marks)
  numbers_left n fresh numbered test marks =
      All-fresh_left (HasNumberWithin n (n + length fresh)) test goals σ fresh marks
      (All-weaker (HasNumberWithin n (n + length fresh)) (λ h. σ h.id ≡ None → HasNumberWithin n (n + length fresh) (instance_of_goal goals σ h))
      (λ h both none. let same = instance_id goals σ h in let low = both.0 in let high = both.1 in (omega (arith, same, low), omega (arith, same, high))) fresh (numbers_of n fresh numbered))

  -- a goal with a lower number than all others
  differs_from : (n : ℕ) (rest : List LfGoal) → Numbered (suc n) rest → (x : LfGoal) → x.id ≡ n → (test : Bool → Bool) (marks : List Bool) → All (λ y. x.id ≢ y.id) (fresh_left test goals σ rest marks)
  differs_from n rest numbered x is test marks =
      All-weaker (HasNumberWithin (suc n) (suc n + length rest)) (λ y. x.id ≢ y.id) (λ y both. apart y both.0) (fresh_left test goals σ rest marks) (numbers_left (suc n) rest numbered test marks)
    where
      apart : (y : LfGoal) → suc n ≤ y.id → x.id ≢ y.id
      apart y low e = absurd (omega (arith, low, e, is))

  pub left_differ : (n : ℕ) (fresh : List LfGoal) → Numbered n fresh → (test : Bool → Bool) (marks : List Bool) → AreDistinct (fresh_left test goals σ fresh marks)
  left_differ n [] numbered test marks = no_pairs (λ x y. x.id ≢ y.id)
  left_differ n (h ∷ rest) numbered test [] = no_pairs (λ x y. x.id ≢ y.id)
  left_differ n (h ∷ rest) numbered test (mark ∷ marks) = step (σ h.id) (test mark) (left_differ (suc n) rest numbered.1 test marks)
    where
      step : (o : Option LfTerm) (b : Bool) → AreDistinct (fresh_left test goals σ rest marks) →
          AreDistinct (if is_some o then fresh_left test goals σ rest marks else (if b then instance_of_goal goals σ h ∷ fresh_left test goals σ rest marks else fresh_left test goals σ rest marks))
      step (Some u) b later = later
      step None true later =
          AllPairs-cons (λ x y. x.id ≢ y.id) (instance_of_goal goals σ h) (fresh_left test goals σ rest marks)
          (differs_from n rest numbered.1 (instance_of_goal goals σ h) (instance_id goals σ h ∙ numbered.0) test marks) later
      step None false later = later

  abbrev AreApart : List LfGoal → List LfGoal → Type 0
  AreApart ys xs = All (λ x. All (λ y. x.id ≢ y.id) ys) xs

  pub parts_apart : (n : ℕ) (fresh : List LfGoal) → Numbered n fresh → (marks : List Bool) → All (λ x. All (λ y. x.id ≢ y.id) (fresh_left not goals σ fresh marks)) (fresh_left (λ mark. mark) goals σ fresh marks)
  parts_apart n [] numbered marks = All-nil (λ x. All (λ y. x.id ≢ y.id) [])
  parts_apart n (h ∷ rest) numbered [] = All-nil (λ x. All (λ y. x.id ≢ y.id) [])
  parts_apart n (h ∷ rest) numbered (mark ∷ marks) = step (σ h.id) mark (parts_apart (suc n) rest numbered.1 marks)
    where
      xs : List LfGoal
      xs = fresh_left (λ mark. mark) goals σ rest marks

      ys : List LfGoal
      ys = fresh_left not goals σ rest marks

      g : LfGoal
      g = instance_of_goal goals σ h

      is : g.id ≡ n
      is = instance_id goals σ h ∙ numbered.0

      swapped : (x : LfGoal) → g.id ≢ x.id → x.id ≢ g.id
      swapped x differ e = differ (sym e)

      step : (o : Option LfTerm) (b : Bool) → AreApart ys xs →
          AreApart (if is_some o then ys else (if not b then g ∷ ys else ys)) (if is_some o then xs else (if b then g ∷ xs else xs))
      step (Some u) b later = later
      step None true later = All-cons (λ x. All (λ y. x.id ≢ y.id) ys) g xs (differs_from n rest numbered.1 g is not marks) later
      step None false later = λ k d within. All-cons (λ y. (slice_index_or xs k d).id ≢ y.id) g ys (swapped (slice_index_or xs k d) (differs_from n rest numbered.1 g is (λ mark. mark) marks k d within)) (later k d within)

  -- with a goal that has the next number between them
  module _ (n : ℕ) (fresh : List LfGoal) (numbered : Numbered n fresh) (marks : List Bool) (more : List LfGoal) (few : AreDistinct more) (next : All (λ h. h.id ≡ n + length fresh) more) where
    abbrev Proofs : List LfGoal
    Proofs = fresh_left (λ mark. mark) goals σ fresh marks

    abbrev Witnesses : List LfGoal
    Witnesses = fresh_left not goals σ fresh marks

    below_next : (x : LfGoal) → HasNumberWithin n (n + length fresh) x → All (λ y. x.id ≢ y.id) more
    below_next x both = All-weaker (λ y. y.id ≡ n + length fresh) (λ y. x.id ≢ y.id) (λ y same. apart y same) more next
      where
        apart : (y : LfGoal) → y.id ≡ n + length fresh → x.id ≢ y.id
        apart y same e = let high = both.1 in absurd (omega (arith, high, same, e))

    pub new_are_new : All (λ h. n ≤ h.id) ((Proofs ++ more) ++ Witnesses)
    new_are_new =
        All-append (λ h. n ≤ h.id) (Proofs ++ more) Witnesses
        (All-append (λ h. n ≤ h.id) Proofs more (All-weaker (HasNumberWithin n (n + length fresh)) (λ h. n ≤ h.id) (λ h both. both.0) Proofs (numbers_left n fresh numbered (λ mark. mark) marks))
        (All-weaker (λ h. h.id ≡ n + length fresh) (λ h. n ≤ h.id) (λ h same. omega (arith, same)) more next))
        (All-weaker (HasNumberWithin n (n + length fresh)) (λ h. n ≤ h.id) (λ h both. both.0) Witnesses (numbers_left n fresh numbered not marks))

    pub new_differ : AreDistinct ((Proofs ++ more) ++ Witnesses)
    new_differ =
        AllPairs-append (λ x y. x.id ≢ y.id) (Proofs ++ more) Witnesses
        (AllPairs-append (λ x y. x.id ≢ y.id) Proofs more (left_differ n fresh numbered (λ mark. mark) marks) few
        (All-weaker (HasNumberWithin n (n + length fresh)) (λ x. All (λ y. x.id ≢ y.id) more) below_next Proofs (numbers_left n fresh numbered (λ mark. mark) marks)))
        (left_differ n fresh numbered not marks)
        (All-append (λ x. All (λ y. x.id ≢ y.id) Witnesses) Proofs more (parts_apart n fresh numbered marks)
        (All-weaker (λ h. h.id ≡ n + length fresh) (λ x. All (λ y. x.id ≢ y.id) Witnesses) above_all more next))
      where
        above_all : (x : LfGoal) → x.id ≡ n + length fresh → All (λ y. x.id ≢ y.id) Witnesses
        above_all x same = All-weaker (HasNumberWithin n (n + length fresh)) (λ y. x.id ≢ y.id) (λ y both. apart y both.1) Witnesses (numbers_left n fresh numbered not marks)
          where
            apart : (y : LfGoal) → y.id < n + length fresh → x.id ≢ y.id
            apart y high e = absurd (omega (arith, high, same, e))
