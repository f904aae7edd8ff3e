-- What is left of goals: there is one list, it is shaped, and its numbers are those of the goals that are not assigned.
use Rattle.std.proofs.Common.{◌≡◌, ◌≢◌, ℕ, zero, suc, ◌⊎◌, inl, inr, Option, Some, None, List, [], ◌∷◌, ◌++◌, All, AllPairs, refl, sym, ap, ap₂, ◌∙◌, subst, arith}
use Rattle.std.specs.Prelude.{Contains}
use Rattle.std.proofs.lemmas.List.Elements.{All-nil, All-cons, All-head, All-tail, All-append, All-weaker}
use Rattle.std.proofs.lemmas.List.Kept.{AllPairs-cons}
use Rattle.lf_definitions.specs.Syntax.{LfTerm, SimpleType}
use Rattle.lf_definitions.specs.Shaping.{Scope}
use Rattle.lf_definitions.specs.Replacements.{Goes}
use Rattle.lf_definitions.specs.Typing.{LfGoal}
use Rattle.lf_definitions.specs.GoalLists.{ids, AreDistinct}
use Rattle.lf_definitions.specs.Instantiation.{Assignment, instantiating, InstantiatedGoal}
use Rattle.lf_definitions.proofs.Options.{None-Some}
use Rattle.head_laws.specs.ReplacementLaws.{ShapedGoalOver}
use Rattle.head_laws.proofs.Numbers.{Contains-here, Contains-later, AllPairs-head, AllPairs-tail}
use Rattle.head_laws.proofs.Results.{total_goal, unique_goal}
use Rattle.goal_lists.specs.Assigning.{Leaves, leaves_none, goal_dropped, goal_stays}

-- parts of a list
pub All-parts : {X : Type 0} (P : X → Type 0) (xs ys : List X) → All P (xs ++ ys) → All P xs × All P ys
All-parts P [] ys all = (All-nil P, all)
All-parts P (x ∷ xs) ys all = let parts = All-parts P xs ys (All-tail P x (xs ++ ys) all) in (All-cons P x xs (All-head P x (xs ++ ys) all) parts.0, parts.1)

pub AllPairs-append : {X : Type 0} (R : X → X → Type 0) (xs ys : List X) → AllPairs R xs → AllPairs R ys → All (λ x. All (R x) ys) xs → AllPairs R (xs ++ ys)
AllPairs-append R [] ys first last across = last
AllPairs-append R (x ∷ xs) ys first last across =
    AllPairs-cons R x (xs ++ ys) (All-append (R x) xs ys (AllPairs-head R x xs first) (All-head (λ y. All (R y) ys) x xs across))
    (AllPairs-append R xs ys (AllPairs-tail R x xs first) last (All-tail (λ y. All (R y) ys) x xs across))

pub Leaves-append : {σ : Assignment} {goals left more later : List LfGoal} → Leaves σ goals left → Leaves σ more later → Leaves σ (goals ++ more) (left ++ later)
Leaves-append leaves_none q = q
Leaves-append (goal_dropped u e p) q = goal_dropped u e (Leaves-append p q)
Leaves-append (goal_stays e i p) q = goal_stays e i (Leaves-append p q)

-- There is at most one list.
pub unique_left : {σ : Assignment} {goals left other : List LfGoal} → Leaves σ goals left → Leaves σ goals other → other ≡ left
unique_left leaves_none leaves_none = refl
unique_left (goal_dropped u e p) (goal_dropped v f q) = unique_left p q
unique_left (goal_dropped u e p) (goal_stays f j q) = absurd (None-Some f e)
unique_left (goal_stays e i p) (goal_dropped v f q) = absurd (None-Some e f)
unique_left {σ} (goal_stays {g = g} {h = h} e i p) (goal_stays {h = k} f j q) = ap₂ (λ x xs. x ∷ xs) (unique_goal σ g k h j i) (unique_left p q)

-- From shaped goals there is one, and it is shaped.
module _ (p : ℕ) (kinds : ℕ → Option SimpleType) (Γ Δ : Scope) (σ : Assignment) (goes : Goes p Γ Δ (instantiating σ)) where
  pub total_left : (goals : List LfGoal) → All (ShapedGoalOver kinds Γ) goals → (left : List LfGoal) × Leaves σ goals left
  total_left [] all = ([], leaves_none)
  total_left (g ∷ rest) all = each (σ g.id) refl (total_left rest (All-tail (ShapedGoalOver kinds Γ) g rest all))
    where
      each : (o : Option LfTerm) → σ g.id ≡ o → (left : List LfGoal) × Leaves σ rest left → (left : List LfGoal) × Leaves σ (g ∷ rest) left
      each None e later = let r = total_goal p kinds Γ Δ σ g goes (All-head (ShapedGoalOver kinds Γ) g rest all) in (r.0 ∷ later.0, goal_stays e r.1 later.1)
      each (Some u) e later = (later.0, goal_dropped u e later.1)

  shaped_goal : (g h : LfGoal) → ShapedGoalOver kinds Γ g → InstantiatedGoal σ g h → ShapedGoalOver kinds Δ h
  shaped_goal g h shaped i = let r = total_goal p kinds Γ Δ σ g goes shaped in subst (ShapedGoalOver kinds Δ) (unique_goal σ g r.0 h r.1 i) r.2

  pub shaped_left : {goals left : List LfGoal} → Leaves σ goals left → All (ShapedGoalOver kinds Γ) goals → All (ShapedGoalOver kinds Δ) left
  shaped_left leaves_none all = All-nil (ShapedGoalOver kinds Δ)
  shaped_left (goal_dropped {g = g} {rest = rest} u e q) all = shaped_left q (All-tail (ShapedGoalOver kinds Γ) g rest all)
  shaped_left (goal_stays {g = g} {h = h} {rest = rest} {left = left} e i q) all =
      All-cons (ShapedGoalOver kinds Δ) h left (shaped_goal g h (All-head (ShapedGoalOver kinds Γ) g rest all) i) (shaped_left q (All-tail (ShapedGoalOver kinds Γ) g rest all))

-- numbers
All-left : (P : ℕ → Type 0) {σ : Assignment} {goals left : List LfGoal} → Leaves σ goals left → All (λ g. P g.id) goals → All (λ g. P g.id) left
All-left P leaves_none all = All-nil (λ g. P g.id)
All-left P (goal_dropped {g = g} {rest = rest} u e p) all = All-left P p (All-tail (λ x. P x.id) g rest all)
All-left P (goal_stays {g = g} {h = h} {rest = rest} {left = left} e i p) all =
    All-cons (λ x. P x.id) h left (subst P (sym i.same_id) (All-head (λ x. P x.id) g rest all)) (All-left P p (All-tail (λ x. P x.id) g rest all))

pub AreDistinct-left : {σ : Assignment} {goals left : List LfGoal} → Leaves σ goals left → AreDistinct goals → AreDistinct left
AreDistinct-left leaves_none distinct = distinct
AreDistinct-left (goal_dropped {g = g} {rest = rest} u e p) distinct = AreDistinct-left p (AllPairs-tail (λ x y. x.id ≢ y.id) g rest distinct)
AreDistinct-left (goal_stays {g = g} {h = h} {rest = rest} {left = left} e i p) distinct =
    AllPairs-cons (λ x y. x.id ≢ y.id) h left
    (subst (λ n. All (λ y. n ≢ y.id) left) (sym i.same_id) (All-left (λ n. g.id ≢ n) p (AllPairs-head (λ x y. x.id ≢ y.id) g rest distinct)))
    (AreDistinct-left p (AllPairs-tail (λ x y. x.id ≢ y.id) g rest distinct))

Contains-cases : (m : ℕ) (rest : List ℕ) (n : ℕ) → Contains (m ∷ rest) n → (m ≡ n) ⊎ Contains rest n
Contains-cases m rest n (zero, less, same) = inl same
Contains-cases m rest n (suc i, less, same) = inr (i, omega arith, same)

pub number_was_there : {σ : Assignment} {goals left : List LfGoal} → Leaves σ goals left → (n : ℕ) → Contains (ids left) n → Contains (ids goals) n × (σ n ≡ None)
number_was_there leaves_none n has = let less = has.1 in absurd (omega arith)
number_was_there (goal_dropped {g = g} {rest = rest} u e p) n has = let before = number_was_there p n has in (Contains-later g.id (ids rest) n before.0, before.1)
number_was_there {σ} (goal_stays {g = g} {h = h} {rest = rest} {left = left} e i p) n has = each (Contains-cases h.id (ids left) n has) (λ there. number_was_there p n there)
  where
    each : (h.id ≡ n) ⊎ Contains (ids left) n → (Contains (ids left) n → Contains (ids rest) n × (σ n ≡ None)) → Contains (ids (g ∷ rest)) n × (σ n ≡ None)
    each (inl same) later = (subst (Contains (ids (g ∷ rest))) (sym i.same_id ∙ same) (Contains-here g.id (ids rest)), ap σ (sym same ∙ i.same_id) ∙ e)
    each (inr there) later = let before = later there in (Contains-later g.id (ids rest) n before.0, before.1)

pub number_that_stays : {σ : Assignment} {goals left : List LfGoal} → Leaves σ goals left → (n : ℕ) → Contains (ids goals) n → σ n ≡ None → Contains (ids left) n
number_that_stays leaves_none n has none = has
number_that_stays {σ} (goal_dropped {g = g} {rest = rest} {left = left} u e p) n has none = each (Contains-cases g.id (ids rest) n has) (λ there. number_that_stays p n there none)
  where
    each : (g.id ≡ n) ⊎ Contains (ids rest) n → (Contains (ids rest) n → Contains (ids left) n) → Contains (ids left) n
    each (inl same) later = absurd (None-Some none (ap σ (sym same) ∙ e))
    each (inr there) later = later there
number_that_stays {σ} (goal_stays {g = g} {h = h} {rest = rest} {left = left} e i p) n has none = each (Contains-cases g.id (ids rest) n has) (λ there. number_that_stays p n there none)
  where
    each : (g.id ≡ n) ⊎ Contains (ids rest) n → (Contains (ids rest) n → Contains (ids left) n) → Contains (ids (h ∷ left)) n
    each (inl same) later = subst (Contains (ids (h ∷ left))) (i.same_id ∙ same) (Contains-here h.id (ids left))
    each (inr there) later = Contains-later h.id (ids left) n (later there)

-- New numbers are apart from those of the list.
pub new_numbers_apart : (goals more : List LfGoal) → All (λ g. Contains (ids goals) g.id → ⊥) more → All (λ x. All (λ y. x.id ≢ y.id) more) goals
new_numbers_apart [] more new = All-nil (λ x. All (λ y. x.id ≢ y.id) more)
new_numbers_apart (g ∷ rest) more new =
    All-cons (λ x. All (λ y. x.id ≢ y.id) more) g rest
    (All-weaker (λ y. Contains (ids (g ∷ rest)) y.id → ⊥) (λ y. g.id ≢ y.id) (λ y fresh e. fresh (subst (Contains (ids (g ∷ rest))) e (Contains-here g.id (ids rest)))) more new)
    (new_numbers_apart rest more
    (All-weaker (λ y. Contains (ids (g ∷ rest)) y.id → ⊥) (λ y. Contains (ids rest) y.id → ⊥) (λ y fresh has. fresh (Contains-later g.id (ids rest) y.id has)) more new))
