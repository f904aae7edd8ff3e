-- Goals by their numbers: what is known among some is known among others, and what is left of them.
use Rattle.std.proofs.Common.{◌≡◌, ◌≢◌, ◌⊎◌, inl, inr, ℕ, zero, suc, Bool, true, false, Option, Some, None, option_map, List, [], ◌∷◌, ◌++◌, All, length, get_or, refl, sym, ap, ◌∙◌, subst, arith}
use Rattle.std.specs.Prelude.{nat_eq, not, is_some, if◌then◌else◌, Contains}
use Rattle.std.proofs.lemmas.Bool.{eqb-true, eq-eqb}
use Rattle.std.proofs.lemmas.List.Elements.{All-nil, All-cons, All-head, All-tail, All-weaker, All-contains, All-contains_itself}
use Rattle.head_laws.proofs.Numbers.{AllPairs-head, AllPairs-tail}
use Rattle.lf_definitions.specs.Syntax.{bound, constant, metavariable, LfTerm, SimpleType, shape_of, shapes_of_types}
use Rattle.lf_definitions.specs.Shaping.{Scope, under, under_all}
use Rattle.lf_definitions.specs.ShapedGoals.{scope_in, ShapedGoal}
use Rattle.lf_definitions.specs.Typing.{LfGoal, goal_type}
use Rattle.lf_definitions.specs.Signatures.{LfSignature}
use Rattle.lf_definitions.specs.GoalLists.{ids, AreDistinct}
use Rattle.lf_definitions.specs.Instantiation.{Assignment}
use Rattle.lf_definitions.proofs.Options.{None-Some}
use Rattle.lf_definitions.proofs.ShapedGoals.{ScopeGrows, ShapedType-grown, ShapedContext-grown}
use Rattle.typing_laws.proofs.GoalLists.{type_of_goal}
use Rattle.lf_functions.specs.Instances.{instance_of_goal}
use Rattle.opening_laws.proofs.Numbers.{found_shape}
use Rattle.applications.specs.Applications.{goals_left, fresh_left}
use Rattle.application_laws.proofs.Members.{IsIn, in_cases, instance_id}
use Rattle.completion_laws.proofs.LeftGoals.{instance_shape}
use Rattle.completion_laws.proofs.Scopes.{shape_found}

-- A goal is found among others by its number, with its shape.
abbrev pub IsFoundIn : List LfGoal → LfGoal → Type 0
IsFoundIn goals h = found_shape goals h.id ≡ Some (shape_of (goal_type h))

pub found_each : (sig : LfSignature) (goals : List LfGoal) → AreDistinct goals → All (IsFoundIn goals) goals
found_each sig goals distinct =
    All-weaker (Contains goals) (IsFoundIn goals) (λ h has. shape_found sig goals h.id ∙ ap (option_map shape_of) (type_of_goal goals distinct h has)) goals (All-contains_itself goals)

-- Its instance is found, too.
pub instance_found : (others goals : List LfGoal) (σ : Assignment) (h : LfGoal) → IsFoundIn others h → IsFoundIn others (instance_of_goal goals σ h)
instance_found others goals σ h found = ap (found_shape others) (instance_id goals σ h) ∙ found ∙ ap Some (sym (instance_shape goals σ h))

-- Each number of the goals has a shape.
pub in_is_found : (goals : List LfGoal) (m : ℕ) → IsIn m (ids goals) → (s : SimpleType) × (found_shape goals m ≡ Some s)
in_is_found [] m is = absurd cc
in_is_found (h ∷ rest) m is = step (nat_eq h.id m) refl (in_cases m h.id (ids rest) is) (in_is_found rest m)
  where
    step : (b : Bool) → nat_eq h.id m ≡ b → (m ≡ h.id) ⊎ IsIn m (ids rest) → (IsIn m (ids rest) → (s : SimpleType) × (found_shape rest m ≡ Some s)) →
        (s : SimpleType) × ((if b then Some (shape_of (goal_type h)) else found_shape rest m) ≡ Some s)
    step true e either later = (shape_of (goal_type h), refl)
    step false e (inl same) later = absurd (clash (sym e ∙ eq-eqb h.id m (sym same)))
      where
        clash : false ≡ true → ⊥
        clash f = absurd cc
    step false e (inr there) later = later there

-- Where each goal is found among others, what is shaped among the goals is shaped among the others.
pub shapes_grow : (goals others : List LfGoal) → All (IsFoundIn others) goals → (m : ℕ) (s : SimpleType) → found_shape goals m ≡ Some s → found_shape others m ≡ Some s
shapes_grow [] others all m s e = absurd cc
shapes_grow (h ∷ rest) others all m s e = step (nat_eq h.id m) refl e (shapes_grow rest others (All-tail (IsFoundIn others) h rest all) m s)
  where
    step : (b : Bool) → nat_eq h.id m ≡ b → (if b then Some (shape_of (goal_type h)) else found_shape rest m) ≡ Some s → (found_shape rest m ≡ Some s → found_shape others m ≡ Some s) → found_shape others m ≡ Some s
    step true same f later = ap (found_shape others) (sym (eqb-true h.id m same)) ∙ All-head (IsFoundIn others) h rest all ∙ f
    step false same f later = later f

grows_under : (Γ Δ : Scope) (a : SimpleType) → ScopeGrows Γ Δ → ScopeGrows (under a Γ) (under a Δ)
grows_under Γ Δ a grow (bound zero) s e = e
grows_under Γ Δ a grow (bound (suc k)) s e = grow (bound k) s e
grows_under Γ Δ a grow (constant c) s e = grow (constant c) s e
grows_under Γ Δ a grow (metavariable m) s e = grow (metavariable m) s e

grows_under_all : (ss : List SimpleType) (Γ Δ : Scope) → ScopeGrows Γ Δ → ScopeGrows (under_all ss Γ) (under_all ss Δ)
grows_under_all [] Γ Δ grow = grow
grows_under_all (a ∷ rest) Γ Δ grow = grows_under_all rest (under a Γ) (under a Δ) (grows_under Γ Δ a grow)

module _ (sig : LfSignature) (goals others : List LfGoal) (all : All (IsFoundIn others) goals) where
  pub scope_grows : ScopeGrows (scope_in sig goals []) (scope_in sig others [])
  scope_grows (bound k) s e = absurd cc
  scope_grows (constant c) s e = e
  scope_grows (metavariable m) s e = shapes_grow goals others all m s e

  pub goal_grown : (h : LfGoal) → ShapedGoal sig goals h → ShapedGoal sig others h
  goal_grown h shaped = (
    ShapedContext-grown shaped.0 (scope_in sig others []) scope_grows,
    ShapedType-grown shaped.1 (scope_in sig others h.context) (grows_under_all (shapes_of_types h.context) (scope_in sig goals []) (scope_in sig others []) scope_grows),
  )

-- What is left of two parts.
pub goals_left-append : (goals : List LfGoal) (σ : Assignment) (xs ys : List LfGoal) → goals_left goals σ (xs ++ ys) ≡ goals_left goals σ xs ++ goals_left goals σ ys
goals_left-append goals σ [] ys = refl
goals_left-append goals σ (h ∷ rest) ys = step (σ h.id) (goals_left-append goals σ rest ys)
  where
    step : (o : Option LfTerm) → goals_left goals σ (rest ++ ys) ≡ goals_left goals σ rest ++ goals_left goals σ ys →
        (if is_some o then goals_left goals σ (rest ++ ys) else instance_of_goal goals σ h ∷ goals_left goals σ (rest ++ ys))
        ≡ (if is_some o then goals_left goals σ rest else instance_of_goal goals σ h ∷ goals_left goals σ rest) ++ goals_left goals σ ys
    step (Some u) later = later
    step None later = ap (λ zs. instance_of_goal goals σ h ∷ zs) later

-- What is true of the instance of each goal without an entry is true of those that are left, and the other way round.
module _ (P : LfGoal → Type 0) (goals : List LfGoal) (σ : Assignment) where
  abbrev pub HoldsWhereLeft : LfGoal → Type 0
  HoldsWhereLeft h = σ h.id ≡ None → P (instance_of_goal goals σ h)

  assigned_holds : (h : LfGoal) (u : LfTerm) → σ h.id ≡ Some u → HoldsWhereLeft h
  assigned_holds h u e none = absurd (None-Some none e)

  pub All-goals_left : (list : List LfGoal) → All HoldsWhereLeft list → All P (goals_left goals σ list)
  All-goals_left [] all = All-nil P
  All-goals_left (h ∷ rest) all = step (σ h.id) refl (All-goals_left rest (All-tail HoldsWhereLeft h rest all))
    where
      step : (o : Option LfTerm) → σ h.id ≡ o → All P (goals_left goals σ rest) → All P (if is_some o then goals_left goals σ rest else instance_of_goal goals σ h ∷ goals_left goals σ rest)
      step (Some u) e later = later
      step None e later = All-cons P (instance_of_goal goals σ h) (goals_left goals σ rest) (All-head HoldsWhereLeft h rest all e) later

  pub All-from_goals_left : (list : List LfGoal) → All P (goals_left goals σ list) → All HoldsWhereLeft list
  All-from_goals_left [] all = All-nil HoldsWhereLeft
  All-from_goals_left (h ∷ rest) all = step (σ h.id) refl all (λ later. All-from_goals_left rest later)
    where
      step : (o : Option LfTerm) → σ h.id ≡ o → All P (if is_some o then goals_left goals σ rest else instance_of_goal goals σ h ∷ goals_left goals σ rest) →
          (All P (goals_left goals σ rest) → All HoldsWhereLeft rest) → All HoldsWhereLeft (h ∷ rest)
      step (Some u) e here later = All-cons HoldsWhereLeft h rest (assigned_holds h u e) (later here)
      step None e here later =
          All-cons HoldsWhereLeft h rest (λ none. All-head P (instance_of_goal goals σ h) (goals_left goals σ rest) here)
          (later (All-tail P (instance_of_goal goals σ h) (goals_left goals σ rest) here))

  pub All-from_fresh_left : (fresh : List LfGoal) (marks : List Bool) → length marks ≡ length fresh → All P (fresh_left (λ mark. mark) goals σ fresh marks) → All P (fresh_left not goals σ fresh marks) →
      All HoldsWhereLeft fresh
  All-from_fresh_left [] marks same proofs witnesses = All-nil HoldsWhereLeft
  All-from_fresh_left (h ∷ rest) [] same proofs witnesses = absurd (omega (arith, same))
  All-from_fresh_left (h ∷ rest) (mark ∷ marks) same proofs witnesses =
      step (σ h.id) refl mark proofs witnesses (let less : length marks ≡ length rest = omega (arith, same) in λ p q. All-from_fresh_left rest marks less p q)
    where
      xs : List LfGoal
      xs = fresh_left (λ mark. mark) goals σ rest marks

      ys : List LfGoal
      ys = fresh_left not goals σ rest marks

      x : LfGoal
      x = instance_of_goal goals σ h

      step : (o : Option LfTerm) → σ h.id ≡ o → (b : Bool) → All P (if is_some o then xs else (if b then x ∷ xs else xs)) → All P (if is_some o then ys else (if not b then x ∷ ys else ys)) →
          (All P xs → All P ys → All HoldsWhereLeft rest) → All HoldsWhereLeft (h ∷ rest)
      step (Some u) e b p q later = All-cons HoldsWhereLeft h rest (assigned_holds h u e) (later p q)
      step None e true p q later = All-cons HoldsWhereLeft h rest (λ none. All-head P x xs p) (later (All-tail P x xs p) q)
      step None e false p q later = All-cons HoldsWhereLeft h rest (λ none. All-head P x ys q) (later p (All-tail P x ys q))

-- Numbers stay.
pub numbers_left : (P : ℕ → Type 0) (goals : List LfGoal) (σ : Assignment) (list : List LfGoal) → All (λ h. P h.id) list → All (λ h. P h.id) (goals_left goals σ list)
numbers_left P goals σ list all =
    All-goals_left (λ h. P h.id) goals σ list
    (All-weaker (λ h. P h.id) (HoldsWhereLeft (λ h. P h.id) goals σ) (λ h p none. subst P (sym (instance_id goals σ h)) p) list all)

-- Where numbers differ, a goal is the only one of its number.
abbrev pub IsSameByNumber : LfGoal → LfGoal → Type 0
IsSameByNumber x y = x.id ≡ y.id → x ≡ y

pub only_one : (goals : List LfGoal) → AreDistinct goals → All (λ x. All (IsSameByNumber x) goals) goals
only_one [] distinct = All-nil (λ x. All (IsSameByNumber x) [])
only_one (g ∷ rest) distinct =
    let apart = AllPairs-head (λ x y. x.id ≢ y.id) g rest distinct in
    All-cons (λ x. All (IsSameByNumber x) (g ∷ rest)) g rest
    (All-cons (IsSameByNumber g) g rest (λ e. refl) (All-weaker (λ y. g.id ≢ y.id) (IsSameByNumber g) (λ y differ e. absurd (differ e)) rest apart))
    (λ k d less. All-cons (IsSameByNumber (get_or rest k d)) g rest (λ e. absurd (apart k d less (sym e))) (only_one rest (AllPairs-tail (λ x y. x.id ≢ y.id) g rest distinct) k d less))

-- the goals of a number among them
pub same_goal : (goals : List LfGoal) → AreDistinct goals → (g : LfGoal) → Contains goals g → All (λ x. IsSameByNumber x g) goals
same_goal goals distinct g has =
    All-weaker (λ x. All (IsSameByNumber x) goals) (λ x. IsSameByNumber x g) (λ x all. All-contains (IsSameByNumber x) goals g all has) goals (only_one goals distinct)
