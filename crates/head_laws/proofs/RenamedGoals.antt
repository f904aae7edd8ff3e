-- Goals among which metavariables are renamed.
use Rattle.std.proofs.Common.{◌≡◌, ◌≢◌, ℕ, Bool, true, false, Option, Some, None, option_map, List, [], ◌∷◌, map, All, refl, sym, ap, ◌∙◌, subst, arith}
use Rattle.std.specs.Prelude.{nat_eq, if◌then◌else◌}
use Rattle.std.proofs.lemmas.List.Elements.{All-nil, All-cons, All-head, All-tail, All-weaker, All-map}
use Rattle.std.proofs.lemmas.List.Kept.{AllPairs-cons}
use Rattle.lf_definitions.specs.Syntax.{LfHead, bound, constant, metavariable, LfType, atomic, Context, SimpleType}
use Rattle.lf_definitions.specs.Renaming.{rename_type, rename_context}
use Rattle.lf_definitions.specs.Typing.{Typing, with_variable, with_context, LfGoal, goal_type, type_at, type_of_metavariable, typed_globals, shapes_of}
use Rattle.lf_definitions.specs.Signatures.{LfSignature, constant_types, kinds_in, typing_in}
use Rattle.lf_definitions.specs.ShapedGoals.{shaped_empty, ShapedSignature, ShapedGoal, without_variables, ShapedTyping}
use Rattle.lf_definitions.specs.GoalLists.{ids, above, AreDistinct, FormedGoal, FormedGoals}
use Rattle.lf_definitions.specs.Instantiation.{metavariables, rename_goal, IsInjective}
use Rattle.lf_definitions.proofs.Renaming.{same_head, rename_type-same_head}
use Rattle.lf_definitions.proofs.ShapedGoals.{ShapedTyping-typing_in}
use Rattle.head_laws.specs.MetavariableLaws.{HasTypesRenamed, KindsStay}
use Rattle.head_laws.specs.Renumbering.{canon, up_to}
use Rattle.head_laws.proofs.Occurrence.{rename_type-agree, rename_context-agree}
use Rattle.head_laws.proofs.Known.{known_type, known_context}
use Rattle.head_laws.proofs.Metavariables.{lifted-metavariables, goal_type-rename_goal}
use Rattle.head_laws.proofs.MetavariableTyping.{HasTypesRenamed-with_variable, Formed-renamed, Formed-unrenamed, FormedContext-renamed, FormedContext-unrenamed}
use Rattle.head_laws.proofs.Numbers.{nat_eq-map, AllPairs-head, AllPairs-tail, All-below_above, up_to-injective}
use Rattle.head_laws.proofs.GoalNumbers.{rename_context-same_head, AreClosed-FormedGoals, canon-undone, distinct_ids, AreDistinct-rename_goal}

-- a shaped signature's own typing
of_signature : (sig : LfSignature) → ShapedSignature sig → ShapedTyping (kinds_in sig) (typing_in sig [] [])
of_signature sig shaped = ShapedTyping-typing_in sig [] [] shaped ((λ i j d less within. absurd (omega arith)), All-nil (ShapedGoal sig [])) shaped_empty

-- No metavariable is known in it, so a renaming of these changes no head that is.
unchanged : (sig : LfSignature) (ρ : ℕ → ℕ) (h : LfHead) → (s : SimpleType) × (without_variables (shapes_of (typing_in sig [] [])) h ≡ Some s) → metavariables ρ h ≡ same_head h
unchanged sig ρ (bound n) known = refl
unchanged sig ρ (constant c) known = refl
unchanged sig ρ (metavariable g) known = let none = known.1 in absurd cc

pub KindsStay-kinds_in : (sig : LfSignature) → ShapedSignature sig → (ρ : ℕ → ℕ) → KindsStay ρ (kinds_in sig)
KindsStay-kinds_in sig shaped ρ f kind e =
    rename_context-agree kind (metavariables ρ) same_head (λ h o. unchanged sig ρ h (known_context ((of_signature sig shaped).of_families f kind e) h o)) ∙ rename_context-same_head kind

pub rename_type-constant : (sig : LfSignature) → ShapedSignature sig → (ρ : ℕ → ℕ) (c : ℕ) (a : LfType) → type_at (constant_types sig) c ≡ Some a → rename_type (metavariables ρ) a ≡ a
rename_type-constant sig shaped ρ c a e =
    rename_type-agree a (metavariables ρ) same_head (λ h o. unchanged sig ρ h (known_type ((of_signature sig shaped).of_constants c a e) h o)) ∙ rename_type-same_head a

-- the types of goals
type_of_metavariable-rename_goal : (ρ : ℕ → ℕ) → IsInjective ρ → (goals : List LfGoal) (g : ℕ) →
    type_of_metavariable (map (rename_goal ρ) goals) (ρ g) ≡ option_map (rename_type (metavariables ρ)) (type_of_metavariable goals g)
type_of_metavariable-rename_goal ρ injective [] g = refl
type_of_metavariable-rename_goal ρ injective (m ∷ rest) g =
    ap (λ b. if b then Some (goal_type (rename_goal ρ m)) else type_of_metavariable (map (rename_goal ρ) rest) (ρ g)) (nat_eq-map ρ injective m.id g)
    ∙ each (nat_eq m.id g) (type_of_metavariable-rename_goal ρ injective rest g)
  where
    each : (b : Bool) → type_of_metavariable (map (rename_goal ρ) rest) (ρ g) ≡ option_map (rename_type (metavariables ρ)) (type_of_metavariable rest g) →
        (if b then Some (goal_type (rename_goal ρ m)) else type_of_metavariable (map (rename_goal ρ) rest) (ρ g)) ≡ option_map (rename_type (metavariables ρ)) (if b then Some (goal_type m) else type_of_metavariable rest g)
    each true later = ap Some (goal_type-rename_goal ρ m)
    each false later = later

HasTypesRenamed-globals : (sig : LfSignature) → ShapedSignature sig → (ρ : ℕ → ℕ) → IsInjective ρ → (goals : List LfGoal) →
    HasTypesRenamed ρ (typed_globals (constant_types sig) goals) (typed_globals (constant_types sig) (map (rename_goal ρ) goals))
HasTypesRenamed-globals sig shaped ρ injective goals (bound n) = refl
HasTypesRenamed-globals sig shaped ρ injective goals (constant c) = each (type_at (constant_types sig) c) refl
  where
    each : (o : Option LfType) → type_at (constant_types sig) c ≡ o → o ≡ option_map (rename_type (metavariables ρ)) o
    each None e = refl
    each (Some a) e = ap Some (sym (rename_type-constant sig shaped ρ c a e))
HasTypesRenamed-globals sig shaped ρ injective goals (metavariable g) = type_of_metavariable-rename_goal ρ injective goals g

HasTypesRenamed-with_context : (ctx : Context) (ρ : ℕ → ℕ) (Γ Δ : Typing) → HasTypesRenamed ρ Γ Δ → HasTypesRenamed ρ (with_context ctx Γ) (with_context (rename_context (metavariables ρ) ctx) Δ)
HasTypesRenamed-with_context [] ρ Γ Δ renamed = renamed
HasTypesRenamed-with_context (a ∷ ctx) ρ Γ Δ renamed =
    let Θ = with_variable (rename_type (metavariables ρ) a) Δ in
    subst (λ ξ. HasTypesRenamed ρ (with_context ctx (with_variable a Γ)) (with_context (rename_context ξ ctx) Θ)) (sym (lifted-metavariables ρ))
    (HasTypesRenamed-with_context ctx ρ (with_variable a Γ) Θ (HasTypesRenamed-with_variable ρ Γ Δ a renamed))

pub HasTypesRenamed-typing_in : (sig : LfSignature) → ShapedSignature sig → (ρ : ℕ → ℕ) → IsInjective ρ → (goals : List LfGoal) (ctx : Context) →
    HasTypesRenamed ρ (typing_in sig goals ctx) (typing_in sig (map (rename_goal ρ) goals) (rename_context (metavariables ρ) ctx))
HasTypesRenamed-typing_in sig shaped ρ injective goals ctx =
    HasTypesRenamed-with_context ctx ρ (typed_globals (constant_types sig) goals) (typed_globals (constant_types sig) (map (rename_goal ρ) goals)) (HasTypesRenamed-globals sig shaped ρ injective goals)

-- what holds of each element's image
All-unmap : (P : LfGoal → Type 0) (f : LfGoal → LfGoal) (xs : List LfGoal) → All P (map f xs) → All (λ x. P (f x)) xs
All-unmap P f [] all = All-nil (λ x. P (f x))
All-unmap P f (x ∷ xs) all = All-cons (λ y. P (f y)) x xs (All-head P (f x) (map f xs) all) (All-unmap P f xs (All-tail P (f x) (map f xs) all))

AreDistinct-unrenamed : (ρ : ℕ → ℕ) (goals : List LfGoal) → AreDistinct (map (rename_goal ρ) goals) → AreDistinct goals
AreDistinct-unrenamed ρ [] distinct = λ i j d less within. absurd (omega arith)
AreDistinct-unrenamed ρ (g ∷ rest) distinct =
    AllPairs-cons (λ x y. x.id ≢ y.id) g rest
    (All-weaker (λ y. ρ g.id ≢ ρ y.id) (λ y. g.id ≢ y.id) (λ y differ e. differ (ap ρ e)) rest
    (All-unmap (λ y. ρ g.id ≢ y.id) (rename_goal ρ) rest (AllPairs-head (λ x y. x.id ≢ y.id) (rename_goal ρ g) (map (rename_goal ρ) rest) distinct)))
    (AreDistinct-unrenamed ρ rest (AllPairs-tail (λ x y. x.id ≢ y.id) (rename_goal ρ g) (map (rename_goal ρ) rest) distinct))

module _ (sig : LfSignature) (shaped : ShapedSignature sig) (ρ : ℕ → ℕ) (injective : IsInjective ρ) (goals : List LfGoal) where
  abbrev renamed_goals : List LfGoal
  renamed_goals = map (rename_goal ρ) goals

  here : (ctx : Context) → HasTypesRenamed ρ (typing_in sig goals ctx) (typing_in sig renamed_goals (rename_context (metavariables ρ) ctx))
  here ctx = HasTypesRenamed-typing_in sig shaped ρ injective goals ctx

  fixed : KindsStay ρ (kinds_in sig)
  fixed = KindsStay-kinds_in sig shaped ρ

  goal_renamed : (g : LfGoal) → FormedGoal sig goals g → FormedGoal sig renamed_goals (rename_goal ρ g)
  goal_renamed g p = (
    FormedContext-renamed p.0 ρ (typing_in sig renamed_goals []) (here []) fixed,
    Formed-renamed p.1 ρ (typing_in sig renamed_goals (rename_context (metavariables ρ) g.context)) (here g.context) fixed,
  )

  goal_unrenamed : (g : LfGoal) → FormedGoal sig renamed_goals (rename_goal ρ g) → FormedGoal sig goals g
  goal_unrenamed g p = (
    FormedContext-unrenamed g.context ρ injective (typing_in sig goals []) (typing_in sig renamed_goals []) (here []) fixed p.0,
    Formed-unrenamed (atomic g.target) ρ injective (typing_in sig goals g.context) (typing_in sig renamed_goals (rename_context (metavariables ρ) g.context)) (here g.context) fixed p.1,
  )

  pub FormedGoals-rename_goal : FormedGoals sig goals → FormedGoals sig renamed_goals
  FormedGoals-rename_goal formed = (
    AreDistinct-rename_goal ρ injective goals formed.0,
    All-map (FormedGoal sig renamed_goals) (rename_goal ρ) goals (All-weaker (FormedGoal sig goals) (λ g. FormedGoal sig renamed_goals (rename_goal ρ g)) goal_renamed goals formed.1),
  )

  pub FormedGoals-unrenamed : FormedGoals sig renamed_goals → FormedGoals sig goals
  FormedGoals-unrenamed formed = (
    AreDistinct-unrenamed ρ goals formed.0,
    All-weaker (λ g. FormedGoal sig renamed_goals (rename_goal ρ g)) (FormedGoal sig goals) goal_unrenamed goals (All-unmap (FormedGoal sig renamed_goals) (rename_goal ρ) goals formed.1),
  )

-- The places become the old numbers by a renaming that is injective.
pub FormedGoals-canon : (sig : LfSignature) → ShapedSignature sig → (goals : List LfGoal) → FormedGoals sig goals → FormedGoals sig (canon goals)
FormedGoals-canon sig shaped goals formed =
    let n = above (ids goals) in
    let injective : IsInjective (up_to (ids goals) n) = up_to-injective (ids goals) n (distinct_ids goals formed.0) (All-below_above (ids goals) n (omega arith)) in
    FormedGoals-unrenamed sig shaped (up_to (ids goals) n) injective (canon goals)
    (subst (FormedGoals sig) (sym (canon-undone goals n (AreClosed-FormedGoals sig goals formed))) formed)
