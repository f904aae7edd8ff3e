-- What is left of renamed goals, shaped goals under other numbers, and lists that are numbered by their places.
use Rattle.std.proofs.Common.{◌≡◌, ◌≢◌, ℕ, Bool, true, false, Option, Some, None, option_map, List, [], ◌∷◌, ◌++◌, map, All, AllPairs, refl, sym, ap, ap₂, ◌∙◌, subst, arith}
use Rattle.std.specs.Prelude.{Contains, nat_eq, if◌then◌else◌}
use Rattle.std.proofs.lemmas.Bool.{eqb-true}
use Rattle.std.proofs.lemmas.List.Elements.{All-nil, All-cons, All-head, All-tail, All-weaker, All-map}
use Rattle.std.proofs.lemmas.List.Kept.{AllPairs-cons}
use Rattle.lf_definitions.specs.Syntax.{LfHead, bound, constant, metavariable, LfTerm, SimpleType, atomic, shape_of}
use Rattle.lf_definitions.specs.Renaming.{rename, rename_type}
use Rattle.lf_definitions.specs.Shaping.{ShapedType, shape_of_metavariable}
use Rattle.lf_definitions.specs.Signatures.{LfSignature}
use Rattle.lf_definitions.specs.ShapedGoals.{shapes_of_goals, kind_shapes_in, scope_in, ShapedGoal, ShapedGoals}
use Rattle.lf_definitions.specs.Occurrence.{OccursInGoal}
use Rattle.lf_definitions.specs.Typing.{LfGoal, goal_type}
use Rattle.lf_definitions.specs.GoalLists.{ids, above, AreClosed}
use Rattle.lf_definitions.specs.Instantiation.{Assignment, metavariables, rename_goal, IsInjective}
use Rattle.lf_definitions.proofs.Types.{shape_of-rename_type, ShapedType-rename_type}
use Rattle.lf_definitions.proofs.Unrenaming.{ShapedType-unrenamed}
use Rattle.lf_definitions.proofs.ShapedGoals.{ShapedType-pis, ShapedContext-pis, ShapedType-under_pis}
use Rattle.head_laws.specs.MetavariableLaws.{AssignsRenamed}
use Rattle.head_laws.specs.Renumbering.{canon, up_to}
use Rattle.head_laws.proofs.Known.{known_type}
use Rattle.head_laws.proofs.Metavariables.{goal_type-rename_goal, InstantiatedGoal-rename_goal, InstantiatedGoal-unrenamed}
use Rattle.head_laws.proofs.Numbers.{Contains-here, Contains-later, nat_eq-map, All-below_above, AllPairs-head, AllPairs-tail, up_to-injective}
use Rattle.head_laws.proofs.GoalNumbers.{AreDistinct-rename_goal, distinct_ids, canon-undone}
use Rattle.goal_lists.specs.Assigning.{Leaves, leaves_none, goal_dropped, goal_stays}

-- What is left is renamed.
unrenamed_none : (f : LfTerm → LfTerm) (o : Option LfTerm) → option_map f o ≡ None → o ≡ None
unrenamed_none f None e = refl
unrenamed_none f (Some u) e = absurd cc

unrenamed_some : (f : LfTerm → LfTerm) (o : Option LfTerm) (u : LfTerm) → option_map f o ≡ Some u → (w : LfTerm) × (o ≡ Some w)
unrenamed_some f None u e = absurd cc
unrenamed_some f (Some w) u e = (w, refl)

module _ (ρ : ℕ → ℕ) (injective : IsInjective ρ) (σ τ : Assignment) (renamed : AssignsRenamed ρ σ τ) where
  pub Leaves-renamed : {goals left : List LfGoal} → Leaves σ goals left → Leaves τ (map (rename_goal ρ) goals) (map (rename_goal ρ) left)
  Leaves-renamed leaves_none = leaves_none
  Leaves-renamed (goal_dropped {g = g} u e p) = goal_dropped (rename (metavariables ρ) u) (renamed g.id ∙ ap (option_map (rename (metavariables ρ))) e) (Leaves-renamed p)
  Leaves-renamed (goal_stays {g = g} {h = h} e i p) =
      goal_stays (renamed g.id ∙ ap (option_map (rename (metavariables ρ))) e) (InstantiatedGoal-rename_goal ρ σ τ renamed g h i) (Leaves-renamed p)

  pub Leaves-unrenamed : (goals left : List LfGoal) → Leaves τ (map (rename_goal ρ) goals) (map (rename_goal ρ) left) → Leaves σ goals left
  Leaves-unrenamed [] [] p = leaves_none
  Leaves-unrenamed [] (h ∷ left) p = elim p [ ]
  Leaves-unrenamed (g ∷ rest) [] (goal_dropped u e p) =
      let put = unrenamed_some (rename (metavariables ρ)) (σ g.id) u (sym (renamed g.id) ∙ e) in
      goal_dropped put.0 put.1 (Leaves-unrenamed rest [] p)
  Leaves-unrenamed (g ∷ rest) (h ∷ left) (goal_dropped u e p) =
      let put = unrenamed_some (rename (metavariables ρ)) (σ g.id) u (sym (renamed g.id) ∙ e) in
      goal_dropped put.0 put.1 (Leaves-unrenamed rest (h ∷ left) p)
  Leaves-unrenamed (g ∷ rest) (h ∷ left) (goal_stays e i p) =
      goal_stays (unrenamed_none (rename (metavariables ρ)) (σ g.id) (sym (renamed g.id) ∙ e)) (InstantiatedGoal-unrenamed ρ injective σ τ renamed g h i) (Leaves-unrenamed rest left p)

-- A goal is shaped where its type is.
type_of_shaped : (sig : LfSignature) (goals : List LfGoal) (g : LfGoal) → ShapedGoal sig goals g → ShapedType (kind_shapes_in sig) (scope_in sig goals []) (goal_type g)
type_of_shaped sig goals g p = ShapedType-pis g.context (atomic g.target) p.0 p.1

shaped_by_type : (sig : LfSignature) (goals : List LfGoal) (g : LfGoal) → ShapedType (kind_shapes_in sig) (scope_in sig goals []) (goal_type g) → ShapedGoal sig goals g
shaped_by_type sig goals g p = (ShapedContext-pis g.context (atomic g.target) p, ShapedType-under_pis g.context (atomic g.target) p)

-- Shaped goals mention none but themselves.
number_of_shape : (goals : List LfGoal) (n : ℕ) (s : SimpleType) → shape_of_metavariable (shapes_of_goals goals) n ≡ Some s → Contains (ids goals) n
number_of_shape [] n s e = absurd cc
number_of_shape (g ∷ rest) n s e = each (nat_eq g.id n) refl (λ f. number_of_shape rest n s f)
  where
    each : (b : Bool) → nat_eq g.id n ≡ b → (shape_of_metavariable (shapes_of_goals rest) n ≡ Some s → Contains (ids rest) n) → Contains (ids (g ∷ rest)) n
    each true is later = subst (Contains (ids (g ∷ rest))) (eqb-true g.id n is) (Contains-here g.id (ids rest))
    each false is later =
        Contains-later g.id (ids rest) n
        (later (sym (ap (λ b. if b then Some (shape_of (goal_type g)) else shape_of_metavariable (shapes_of_goals rest) n) is) ∙ e))

pub AreClosed-ShapedGoals : (sig : LfSignature) (goals : List LfGoal) → ShapedGoals sig goals → AreClosed goals
AreClosed-ShapedGoals sig goals shaped = All-weaker (ShapedGoal sig goals) (λ g. (n : ℕ) → OccursInGoal (metavariable n) g → Contains (ids goals) n) each goals shaped.1
  where
    each : (g : LfGoal) → ShapedGoal sig goals g → (n : ℕ) → OccursInGoal (metavariable n) g → Contains (ids goals) n
    each g p n o = let known = known_type (type_of_shaped sig goals g p) (metavariable n) o in number_of_shape goals n known.0 known.1

-- what holds of images
All-of_map : {X Y : Type 0} (P : Y → Type 0) (f : X → Y) (xs : List X) → All P (map f xs) → All (λ x. P (f x)) xs
All-of_map P f [] all = All-nil (λ x. P (f x))
All-of_map P f (x ∷ xs) all = All-cons (λ y. P (f y)) x xs (All-head P (f x) (map f xs) all) (All-of_map P f xs (All-tail P (f x) (map f xs) all))

AllPairs-of_map : {X Y : Type 0} (R : Y → Y → Type 0) (f : X → Y) (xs : List X) → AllPairs R (map f xs) → AllPairs (λ x y. R (f x) (f y)) xs
AllPairs-of_map R f [] pairs = λ i j d less within. absurd (omega arith)
AllPairs-of_map R f (x ∷ xs) pairs =
    AllPairs-cons (λ y z. R (f y) (f z)) x xs (All-of_map (R (f x)) f xs (AllPairs-head R (f x) (map f xs) pairs)) (AllPairs-of_map R f xs (AllPairs-tail R (f x) (map f xs) pairs))

-- Goals are shaped where they are so under other numbers.
module _ (sig : LfSignature) (ρ : ℕ → ℕ) (injective : IsInjective ρ) where
  shape-renamed : (goals : List LfGoal) (g : ℕ) → shape_of_metavariable (shapes_of_goals (map (rename_goal ρ) goals)) (ρ g) ≡ shape_of_metavariable (shapes_of_goals goals) g
  shape-renamed [] g = refl
  shape-renamed (m ∷ rest) g =
      ap (λ o. if nat_eq (ρ m.id) (ρ g) then Some (shape_of (goal_type (rename_goal ρ m))) else o) (shape-renamed rest g)
      ∙ ap₂ (λ b s. if b then Some s else shape_of_metavariable (shapes_of_goals rest) g) (nat_eq-map ρ injective m.id g)
      (ap shape_of (goal_type-rename_goal ρ m) ∙ shape_of-rename_type (goal_type m) (metavariables ρ))

  scope-renamed : (goals : List LfGoal) (h : LfHead) → scope_in sig (map (rename_goal ρ) goals) [] (metavariables ρ h) ≡ scope_in sig goals [] h
  scope-renamed goals (bound n) = refl
  scope-renamed goals (constant c) = refl
  scope-renamed goals (metavariable g) = shape-renamed goals g

  shaped_unrenamed : (goals : List LfGoal) (g : LfGoal) → ShapedGoal sig (map (rename_goal ρ) goals) (rename_goal ρ g) → ShapedGoal sig goals g
  shaped_unrenamed goals g p =
      let there = scope_in sig (map (rename_goal ρ) goals) [] in
      let renamed : ShapedType (kind_shapes_in sig) there (rename_type (metavariables ρ) (goal_type g)) =
      subst (ShapedType (kind_shapes_in sig) there) (goal_type-rename_goal ρ g) (type_of_shaped sig (map (rename_goal ρ) goals) (rename_goal ρ g) p) in
      shaped_by_type sig goals g
      (ShapedType-unrenamed (goal_type g) (metavariables ρ) (scope_in sig goals []) there (λ h s e. sym (scope-renamed goals h) ∙ e) renamed)

  shaped_renamed : (goals : List LfGoal) (g : LfGoal) → ShapedGoal sig goals g → ShapedGoal sig (map (rename_goal ρ) goals) (rename_goal ρ g)
  shaped_renamed goals g p =
      let there = scope_in sig (map (rename_goal ρ) goals) [] in
      shaped_by_type sig (map (rename_goal ρ) goals) (rename_goal ρ g)
      (subst (ShapedType (kind_shapes_in sig) there) (sym (goal_type-rename_goal ρ g))
      (ShapedType-rename_type (type_of_shaped sig goals g p) (metavariables ρ) there (λ h s e. scope-renamed goals h ∙ e)))

  pub ShapedGoals-renamed : (goals : List LfGoal) → ShapedGoals sig goals → ShapedGoals sig (map (rename_goal ρ) goals)
  ShapedGoals-renamed goals shaped = (
    AreDistinct-rename_goal ρ injective goals shaped.0,
    All-map (ShapedGoal sig (map (rename_goal ρ) goals)) (rename_goal ρ) goals
        (All-weaker (ShapedGoal sig goals) (λ g. ShapedGoal sig (map (rename_goal ρ) goals) (rename_goal ρ g)) (shaped_renamed goals) goals shaped.1),
  )

  pub ShapedGoals-unrenamed : (goals : List LfGoal) → ShapedGoals sig (map (rename_goal ρ) goals) → ShapedGoals sig goals
  ShapedGoals-unrenamed goals shaped = (
    (λ i j d less within e. AllPairs-of_map (λ x y. x.id ≢ y.id) (rename_goal ρ) goals shaped.0 i j d less within (ap ρ e)),
    All-weaker (λ g. ShapedGoal sig (map (rename_goal ρ) goals) (rename_goal ρ g)) (ShapedGoal sig goals) (shaped_unrenamed goals) goals
        (All-of_map (ShapedGoal sig (map (rename_goal ρ) goals)) (rename_goal ρ) goals shaped.1),
  )

-- The places become the old numbers by a renaming that is injective.
pub ShapedGoals-canon : (sig : LfSignature) (goals : List LfGoal) → ShapedGoals sig goals → ShapedGoals sig (canon goals)
ShapedGoals-canon sig goals shaped =
    let n = above (ids goals) in
    let injective : IsInjective (up_to (ids goals) n) = up_to-injective (ids goals) n (distinct_ids goals shaped.0) (All-below_above (ids goals) n (omega arith)) in
    ShapedGoals-unrenamed sig (up_to (ids goals) n) injective (canon goals) (subst (ShapedGoals sig) (sym (canon-undone goals n (AreClosed-ShapedGoals sig goals shaped))) shaped)

-- What gives a list back gives its parts back.
pub parts_back : {X : Type 0} (υ f : X → X) (xs ys : List X) → map υ (map f (xs ++ ys)) ≡ xs ++ ys → (map υ (map f xs) ≡ xs) × (map υ (map f ys) ≡ ys)
parts_back υ f [] ys e = (refl, e)
parts_back υ f (x ∷ xs) ys e = let parts = parts_back υ f xs ys cc in (ap₂ (λ y more. y ∷ more) (cc) parts.0, parts.1)
