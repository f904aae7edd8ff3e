-- Goals whose numbers pass a test: in lists of two parts, in what an assignment leaves, and under tests that agree.
use Rattle.std.proofs.Common.{◌≡◌, ℕ, ◌<◌, ◌≤◌, Bool, true, false, Option, Some, None, List, [], ◌∷◌, ◌++◌, All, refl, sym, ap, ap₂, ◌∙◌, arith}
use Rattle.std.specs.Prelude.{not, ◌||◌, leb, is_some, if◌then◌else◌, Contains}
use Rattle.std.proofs.lemmas.Bool.{le-leb, lt-leb, leb-false}
use Rattle.std.proofs.lemmas.List.Elements.{All-nil, All-cons, All-head, All-tail, All-contains, All-map, All-weaker}
use mathlib.Core.Path.{fun_ext}
use Rattle.head_laws.proofs.Numbers.{Contains-here, Contains-later}
use Rattle.lf_definitions.specs.Syntax.{LfTerm}
use Rattle.lf_definitions.specs.Typing.{LfGoal}
use Rattle.lf_definitions.specs.GoalLists.{LfGoals, all_goals, ids}
use Rattle.lf_definitions.specs.Instantiation.{Assignment}
use Rattle.lf_functions.specs.Instances.{instance_of_goal}
use Rattle.applications.specs.Applications.{goals_left}
use Rattle.application_laws.specs.Conditions.{inside, goals_inside}
use Rattle.application_laws.proofs.Inside.{All-inside}
use Rattle.application_laws.proofs.Members.{instance_id}
use Rattle.clusters.specs.Links.{outside_of}
use Rattle.framed_alternatives.specs.Laws.{with_fresh}

abbrev pub goals_of : List LfGoal → List LfGoal → LfGoals
goals_of proofs witnesses = record { proofs = proofs; witnesses = witnesses }

-- Numbers inside once those from `n` on are so, too.
module _ (within : ℕ → Bool) (n : ℕ) where
  pub fresh_inside : (m : ℕ) → n ≤ m → with_fresh within n m ≡ true
  fresh_inside m le = step (within m)
    where
      step : (b : Bool) → b || leb n m ≡ true
      step true = refl
      step false = le-leb n m le

  pub old_inside : (m : ℕ) → within m ≡ true → with_fresh within n m ≡ true
  old_inside m is = ap (λ b. b || leb n m) is

  pub below_same : (m : ℕ) → m < n → with_fresh within n m ≡ within m
  below_same m less = step (within m)
    where
      step : (b : Bool) → b || leb n m ≡ b
      step true = refl
      step false = lt-leb n m less

  -- Numbers from a later one on are inside already.
  pub fresh_twice : (k : ℕ) → n ≤ k → with_fresh (with_fresh within n) k ≡ with_fresh within n
  fresh_twice k le = fun_ext (λ m. step m (within m) (leb n m) refl)
    where
      step : (m : ℕ) (b c : Bool) → leb n m ≡ c → (b || c) || leb k m ≡ b || c
      step m true c e = refl
      step m false true e = refl
      step m false false e = let less = leb-false n m e in lt-leb k m (omega arith)

pub all_contained : (goals : List LfGoal) → All (Contains goals) goals
all_contained [] = All-nil (Contains [])
all_contained (g ∷ rest) =
    All-cons (Contains (g ∷ rest)) g rest (Contains-here g rest) (All-weaker (Contains rest) (Contains (g ∷ rest)) (λ h there. Contains-later g rest h there) rest (all_contained rest))

-- What is true of the numbers of goals is true of each number.
pub number_passes : (P : ℕ → Type 0) (goals : List LfGoal) → All (λ h. P h.id) goals → (m : ℕ) → Contains (ids goals) m → P m
number_passes P goals all m has = All-contains P (ids goals) m (All-map P (λ h. h.id) goals all) has

pub inside-append : (within : ℕ → Bool) (xs ys : List LfGoal) → inside within (xs ++ ys) ≡ inside within xs ++ inside within ys
inside-append within [] ys = refl
inside-append within (x ∷ xs) ys = step (within x.id) (inside-append within xs ys)
  where
    step : (b : Bool) → inside within (xs ++ ys) ≡ inside within xs ++ inside within ys →
        (if b then x ∷ inside within (xs ++ ys) else inside within (xs ++ ys)) ≡ (if b then x ∷ inside within xs else inside within xs) ++ inside within ys
    step true later = ap (λ zs. x ∷ zs) later
    step false later = later

pub all-inside : (within : ℕ → Bool) (list : LfGoals) → all_goals (goals_inside within list) ≡ inside within (all_goals list)
all-inside within list = sym (inside-append within list.proofs list.witnesses)

pub passes_inside : (within : ℕ → Bool) (goals : List LfGoal) → All (λ h. within h.id ≡ true) (inside within goals)
passes_inside within goals = All-inside within (λ h. within h.id ≡ true) goals (λ k d less is. is)

pub contained_inside : (within : ℕ → Bool) (goals : List LfGoal) (h : LfGoal) → Contains (inside within goals) h → Contains goals h × (within h.id ≡ true)
contained_inside within goals h has =
    All-contains (λ x. Contains goals x × (within x.id ≡ true)) (inside within goals) h
    (All-inside within (λ x. Contains goals x × (within x.id ≡ true)) goals (λ k d less is. (all_contained goals k d less, is))) has

-- Tests that agree on the numbers of goals.
pub inside-same : (within other : ℕ → Bool) (xs : List LfGoal) → All (λ h. within h.id ≡ other h.id) xs → inside within xs ≡ inside other xs
inside-same within other [] all = refl
inside-same within other (x ∷ xs) all =
    ap₂ (λ b zs. if b then x ∷ zs else zs) (All-head (λ h. within h.id ≡ other h.id) x xs all) (inside-same within other xs (All-tail (λ h. within h.id ≡ other h.id) x xs all))

pub inside-all : (within : ℕ → Bool) (xs : List LfGoal) → All (λ h. within h.id ≡ true) xs → inside within xs ≡ xs
inside-all within [] all = refl
inside-all within (x ∷ xs) all =
    ap₂ (λ b zs. if b then x ∷ zs else zs) (All-head (λ h. within h.id ≡ true) x xs all) (inside-all within xs (All-tail (λ h. within h.id ≡ true) x xs all))

pub inside-none : (within : ℕ → Bool) (xs : List LfGoal) → All (λ h. within h.id ≡ false) xs → inside within xs ≡ []
inside-none within [] all = refl
inside-none within (x ∷ xs) all =
    ap₂ (λ b zs. if b then x ∷ zs else zs) (All-head (λ h. within h.id ≡ false) x xs all) (inside-none within xs (All-tail (λ h. within h.id ≡ false) x xs all))

-- Goals with numbers below `n`, and goals with numbers from `n` on.
module _ (within : ℕ → Bool) (n : ℕ) where
  pub old_goals : (xs : List LfGoal) → All (λ h. h.id < n) xs → inside (with_fresh within n) xs ≡ inside within xs
  old_goals xs below = inside-same (with_fresh within n) within xs (All-weaker (λ h. h.id < n) (λ h. with_fresh within n h.id ≡ within h.id) (λ h less. below_same within n h.id less) xs below)

  pub old_goals_outside : (xs : List LfGoal) → All (λ h. h.id < n) xs → inside (outside_of (with_fresh within n)) xs ≡ inside (outside_of within) xs
  old_goals_outside xs below =
      inside-same (outside_of (with_fresh within n)) (outside_of within) xs
      (All-weaker (λ h. h.id < n) (λ h. not (with_fresh within n h.id) ≡ not (within h.id)) (λ h less. ap not (below_same within n h.id less)) xs below)

  pub fresh_goals : (xs : List LfGoal) → All (λ h. n ≤ h.id) xs → inside (with_fresh within n) xs ≡ xs
  fresh_goals xs high = inside-all (with_fresh within n) xs (All-weaker (λ h. n ≤ h.id) (λ h. with_fresh within n h.id ≡ true) (λ h le. fresh_inside within n h.id le) xs high)

  pub fresh_goals_outside : (xs : List LfGoal) → All (λ h. n ≤ h.id) xs → inside (outside_of (with_fresh within n)) xs ≡ []
  fresh_goals_outside xs high =
      inside-none (outside_of (with_fresh within n)) xs
      (All-weaker (λ h. n ≤ h.id) (λ h. not (with_fresh within n h.id) ≡ false) (λ h le. ap not (fresh_inside within n h.id le)) xs high)

-- What is left of goals.
module _ (goals : List LfGoal) (σ : Assignment) where
  abbrev with_instance : LfGoal → List LfGoal → Option LfTerm → List LfGoal
  with_instance h rest o = if is_some o then rest else instance_of_goal goals σ h ∷ rest

  pub inside-left : (within : ℕ → Bool) (xs : List LfGoal) → inside within (goals_left goals σ xs) ≡ goals_left goals σ (inside within xs)
  inside-left within [] = refl
  inside-left within (x ∷ xs) = step (σ x.id) refl (within x.id) refl (inside-left within xs)
    where
      step : (o : Option LfTerm) → σ x.id ≡ o → (b : Bool) → within x.id ≡ b → inside within (goals_left goals σ xs) ≡ goals_left goals σ (inside within xs) →
          inside within (with_instance x (goals_left goals σ xs) o) ≡ goals_left goals σ (if b then x ∷ inside within xs else inside within xs)
      step (Some u) e true kept later = later ∙ sym (ap (with_instance x (goals_left goals σ (inside within xs))) e)
      step (Some u) e false kept later = later
      step None e true kept later =
          ap₂ (λ c zs. if c then instance_of_goal goals σ x ∷ zs else zs) (ap within (instance_id goals σ x) ∙ kept) later
          ∙ sym (ap (with_instance x (goals_left goals σ (inside within xs))) e)
      step None e false kept later = ap₂ (λ c zs. if c then instance_of_goal goals σ x ∷ zs else zs) (ap within (instance_id goals σ x) ∙ kept) later

  pub left-stays : (xs : List LfGoal) → All (λ h. (σ h.id ≡ None) × (instance_of_goal goals σ h ≡ h)) xs → goals_left goals σ xs ≡ xs
  left-stays [] all = refl
  left-stays (x ∷ xs) all =
      let here = All-head (λ h. (σ h.id ≡ None) × (instance_of_goal goals σ h ≡ h)) x xs all in
      ap (with_instance x (goals_left goals σ xs)) here.0 ∙ ap₂ (λ h zs. h ∷ zs) here.1 (left-stays xs (All-tail (λ h. (σ h.id ≡ None) × (instance_of_goal goals σ h ≡ h)) x xs all))

  pub left-same : (others xs : List LfGoal) → All (λ h. instance_of_goal others σ h ≡ instance_of_goal goals σ h) xs → goals_left others σ xs ≡ goals_left goals σ xs
  left-same others [] all = refl
  left-same others (x ∷ xs) all =
      ap₂ (λ h zs. if is_some (σ x.id) then zs else h ∷ zs) (All-head (λ h. instance_of_goal others σ h ≡ instance_of_goal goals σ h) x xs all)
      (left-same others xs (All-tail (λ h. instance_of_goal others σ h ≡ instance_of_goal goals σ h) x xs all))
