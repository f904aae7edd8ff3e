-- What a type is opened to is shaped.
use Rattle.std.proofs.Common.{◌≡◌, ℕ, suc, ◌+◌, ◌≤◌, Option, Some, List, [], ◌∷◌, ◌++◌, All, length, refl, sym, ap, ◌∙◌, subst, arith}
use Rattle.std.proofs.lemmas.List.Elements.{All-nil, All-cons, All-head, All-tail}
use Rattle.lf_definitions.specs.Syntax.{metavariable, Spine, SimpleType, base, arrow, arrows, LfType, pi, family, LfAtom, atomic, Context, pis, shape_of, shapes_of_types, shape_size, binders_of, conclusion_atom}
use Rattle.lf_definitions.specs.Renaming.{rename_type}
use Rattle.lf_definitions.specs.Shaping.{Scope, under, under_all, Shaped, ShapedSpine, shaped_none, shaped_arg, ShapedType, shaped_pi, shaped_family}
use Rattle.lf_definitions.specs.ShapedGoals.{ShapedContext}
use Rattle.lf_definitions.specs.Substitution.{Replacement}
use Rattle.lf_definitions.specs.Replacements.{Goes}
use Rattle.lf_definitions.specs.Expansion.{eta}
use Rattle.lf_definitions.specs.Typing.{LfGoal, goal_type, type_at}
use Rattle.lf_definitions.proofs.Renaming.{ShapedSpine-rename_spine}
use Rattle.lf_definitions.proofs.Totality.{Goes-push, ShapedSpine-SubstitutedSpine}
use Rattle.lf_definitions.proofs.Expansion.{Shaped-eta}
use Rattle.lf_definitions.proofs.Types.{shape_of-rename_type, shape_of-SubstitutedType, ShapedType-SubstitutedType}
use Rattle.lf_definitions.proofs.ShapedGoals.{ShapedType-pis, ShapedContext-pis, ShapedType-under_pis}
use Rattle.lf_definitions.proofs.Unrenaming.{ShapedType-unrenamed}
use Rattle.head_laws.specs.ReplacementLaws.{ShapedGoalOver}
use Rattle.typing_laws.specs.EtaLaws.{expanded}
use Rattle.typing_laws.proofs.Binders.{pis-append}
use Rattle.opening_laws.specs.Openings.{context_variable, keeping, AreKept, fixed_to, fresh_goal, kept_variables, IsOpenedFrom, opens_conclusion, opens_fixed, opens_fresh}
use Rattle.opening_laws.proofs.Kept.{SameShapes, same_kept, shaped_kept, under_all-context_variable}
use Rattle.opening_laws.proofs.Expanded.{Shaped-own_variables, Shaped-expanded}

-- a fact on each argument of a type, by its number
abbrev pub EachArgument : (ℕ → LfType → Type 0) → ℕ → LfType → Type 0
EachArgument P i (family f args) = Unit {0}
EachArgument P i (pi a b) = P i a × EachArgument P (suc i) b

each_argument : (P : ℕ → LfType → Type 0) (type : LfType) (i : ℕ) → ((k : ℕ) (a : LfType) → type_at (binders_of type) k ≡ Some a → P (i + k) a) → EachArgument P i type
each_argument P (family f args) i each = tt
each_argument P (pi a b) i each =
    let here : i + 0 ≡ i = omega arith in (
      subst (λ n. P n a) here (each 0 a refl),
      each_argument P b (suc i) (λ k c e. let there : i + suc k ≡ suc i + k = omega arith in subst (λ n. P n c) there (each (suc k) c e)),
    )

pub each_argument_of : (P : ℕ → LfType → Type 0) (type : LfType) → ((i : ℕ) (a : LfType) → type_at (binders_of type) i ≡ Some a → P i a) → EachArgument P 0 type
each_argument_of P type each = each_argument P type 0 (λ k a e. let here : k ≡ 0 + k = omega arith in subst (λ n. P n a) here (each k a e))

-- the type of a fresh goal as a metavariable
pub whole_type : (a : LfType) → pis (binders_of a) (atomic (conclusion_atom a)) ≡ a
whole_type (pi a b) = ap (pi a) (whole_type b)
whole_type (family f args) = refl

pub goal_type-fresh_goal : (g : ℕ) (entries : Context) (inside : LfType) → goal_type (fresh_goal g entries inside) ≡ pis entries inside
goal_type-fresh_goal g entries inside = pis-append entries (binders_of inside) (atomic (conclusion_atom inside)) ∙ ap (pis entries) (whole_type inside)

shape_of-over : (bs : Context) (a : LfType) → shape_of (pis bs a) ≡ arrows (shapes_of_types bs) (shape_of a)
shape_of-over [] a = refl
shape_of-over (b ∷ bs) a = ap (arrow (shape_of b)) (shape_of-over bs a)

pub shape_of-fresh_goal : (g : ℕ) (entries : Context) (inside : LfType) → shape_of (goal_type (fresh_goal g entries inside)) ≡ arrows (shapes_of_types entries) (shape_of inside)
shape_of-fresh_goal g entries inside = ap shape_of (goal_type-fresh_goal g entries inside) ∙ shape_of-over entries inside

pub metavariable_under_all : (ss : List SimpleType) (Γ : Scope) (g : ℕ) → under_all ss Γ (metavariable g) ≡ Γ (metavariable g)
metavariable_under_all [] Γ g = refl
metavariable_under_all (s ∷ ss) Γ g = metavariable_under_all ss (under s Γ) g

module _ (kinds : ℕ → Option SimpleType) (G : Scope) (ctx : Context) (kept : List ℕ) (entries : Context) (are : AreKept kept 0 ctx entries) where
  -- the scopes of the context and of the kept entries
  abbrev pub AllShapes : Scope
  AllShapes = under_all (shapes_of_types ctx) G

  abbrev pub KeptShapes : Scope
  KeptShapes = under_all (shapes_of_types entries) G

  pub same_kept_shapes : SameShapes (keeping kept (length ctx)) KeptShapes AllShapes
  same_kept_shapes =
      let start : 0 + length ctx ≡ length ctx = omega arith in
      subst (λ n. SameShapes (keeping kept n) KeptShapes AllShapes) start (same_kept are G G (λ h. refl))

  pub shaped_variables : ShapedSpine AllShapes (kept_variables kept (length ctx) entries) (arrows (shapes_of_types entries) base)
  shaped_variables = ShapedSpine-rename_spine (Shaped-own_variables (shapes_of_types entries) G) (keeping kept (length ctx)) AllShapes (λ h s e. same_kept_shapes h ∙ e)

  pub shaped_fresh_term : (g : ℕ) (s : SimpleType) → G (metavariable g) ≡ Some (arrows (shapes_of_types entries) s) → Shaped AllShapes (expanded (metavariable g) (kept_variables kept (length ctx) entries) s) s
  shaped_fresh_term g s known =
      Shaped-expanded AllShapes (metavariable g) (shapes_of_types entries) (kept_variables kept (length ctx) entries) s (metavariable_under_all (shapes_of_types ctx) G g ∙ known) shaped_variables

  shaped_fresh_goal : ShapedContext kinds G ctx → (g : ℕ) (inside : LfType) → ShapedType kinds AllShapes (rename_type (keeping kept (length ctx)) inside) → ShapedGoalOver kinds G (fresh_goal g entries inside)
  shaped_fresh_goal shaped g inside p =
      let here : ShapedType kinds KeptShapes inside = ShapedType-unrenamed inside (keeping kept (length ctx)) KeptShapes AllShapes (λ h s e. sym (same_kept_shapes h) ∙ e) p in
      let type : ShapedType kinds G (goal_type (fresh_goal g entries inside)) =
      subst (ShapedType kinds G) (sym (goal_type-fresh_goal g entries inside)) (ShapedType-pis entries inside (shaped_kept are kinds G G (λ h. refl) shaped) here) in
      (ShapedContext-pis (entries ++ binders_of inside) (atomic (conclusion_atom inside)) type, ShapedType-under_pis (entries ++ binders_of inside) (atomic (conclusion_atom inside)) type)

  module _ (fixed : List (ℕ × ℕ)) (shaped : ShapedContext kinds G ctx) where
    -- An argument that is fixed has the shape of its hypothesis.
    abbrev pub FitsHypothesis : ℕ → LfType → Type 0
    FitsHypothesis i a = (place : ℕ) → fixed_to fixed i ≡ Some place → (b : LfType) × (type_at ctx place ≡ Some b) × (shape_of b ≡ shape_of a)

    pub shaped_fixed_term : (i place : ℕ) (a : LfType) → fixed_to fixed i ≡ Some place → FitsHypothesis i a → Shaped AllShapes (eta (context_variable (length ctx) place) (shape_of a)) (shape_of a)
    shaped_fixed_term i place a e fits =
        let h = fits place e in
        Shaped-eta (shape_of a) AllShapes (context_variable (length ctx) place) (under_all-context_variable ctx G place h.0 h.1 ∙ ap Some h.2)

    -- The metavariable of a goal has the goal's shape.
    abbrev pub HasGoalShape : LfGoal → Type 0
    HasGoalShape g = G (metavariable g.id) ≡ Some (shape_of (goal_type g))

    pub shaped_from : {σ : Replacement} {i first : ℕ} {type : LfType} {ts : Spine} {goals : List LfGoal} {last : LfAtom} → IsOpenedFrom kept (length ctx) entries fixed σ i first type ts goals last →
        (p : ℕ) (Γ : Scope) → ShapedType kinds Γ type → Goes p Γ AllShapes σ → shape_size (shape_of type) ≤ p → EachArgument FitsHypothesis i type → All HasGoalShape goals →
        ShapedSpine AllShapes ts (shape_of type) × ShapedType kinds AllShapes (atomic last) × All (ShapedGoalOver kinds G) goals
    shaped_from (opens_conclusion {σ = σ} put) p Γ (shaped_family s e args) goes small fits is_found =
        (shaped_none, shaped_family s e (ShapedSpine-SubstitutedSpine p Γ AllShapes σ goes args put), All-nil (ShapedGoalOver kinds G))
    shaped_from (opens_fixed {σ = σ} {i = i} {a = a} place e rest) p Γ (shaped_pi x y) goes small fits is_found =
        let u = eta (context_variable (length ctx) place) (shape_of a) in
        let shaped_u : Shaped AllShapes u (shape_of a) = shaped_fixed_term i place a e fits.0 in
        let r = shaped_from rest p (under (shape_of a) Γ) y (Goes-push p Γ AllShapes σ (shape_of a) u goes shaped_u (omega (arith, small))) (omega (arith, small)) fits.1 is_found in
        (shaped_arg shaped_u r.0, r.1, r.2)
    shaped_from (opens_fresh {σ = σ} {first = first} {a = a} {goals = goals} inside e put rest) p Γ (shaped_pi x y) goes small fits is_found =
        let g = fresh_goal first entries inside in
        let u = expanded (metavariable first) (kept_variables kept (length ctx) entries) (shape_of a) in
        let shape : shape_of inside ≡ shape_of a = sym (shape_of-rename_type inside (keeping kept (length ctx))) ∙ shape_of-SubstitutedType put in
        let known : G (metavariable first) ≡ Some (arrows (shapes_of_types entries) (shape_of a)) =
        All-head HasGoalShape g goals is_found ∙ ap Some (shape_of-fresh_goal first entries inside ∙ ap (arrows (shapes_of_types entries)) shape) in
        let shaped_u : Shaped AllShapes u (shape_of a) = shaped_fresh_term first (shape_of a) known in
        let r = shaped_from rest p (under (shape_of a) Γ) y (Goes-push p Γ AllShapes σ (shape_of a) u goes shaped_u (omega (arith, small))) (omega (arith, small)) fits.1 (All-tail HasGoalShape g goals is_found) in
        (shaped_arg shaped_u r.0, r.1, All-cons (ShapedGoalOver kinds G) g goals (shaped_fresh_goal shaped first inside (ShapedType-SubstitutedType p kinds Γ AllShapes σ goes x put)) r.2)
