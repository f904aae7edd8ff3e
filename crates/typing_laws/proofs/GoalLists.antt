-- Goals by their numbers, and goals among others.
use Rattle.std.proofs.Common.{◌≡◌, ◌≢◌, ℕ, zero, suc, ◌<◌, Bool, true, false, if◌then◌else◌, nat_eq, Some, List, [], ◌∷◌, length, get_or, refl, sym, ap, ◌∙◌, subst, arith}
use Rattle.std.specs.Prelude.{Contains}
use Rattle.std.proofs.lemmas.Bool.{eqb-true, eq-eqb}
use Rattle.lf_definitions.specs.Syntax.{bound, constant, metavariable, LfType, pis, Context, atomic}
use Rattle.lf_definitions.specs.Substitution.{Replacement, up_by, SubstitutedType, substituted_pi, SubstitutedContext, substituted_empty, substituted_entry}
use Rattle.lf_definitions.specs.Instantiation.{Assignment, InstantiatedType, InstantiatedGoal}
use Rattle.lf_definitions.specs.Typing.{Typing, with_context, Typed, Kinds, Formed, formed_pi, FormedContext, formed_empty, formed_entry, LfGoal, goal_type, type_of_metavariable}
use Rattle.lf_definitions.specs.Signatures.{LfSignature, kinds_in, typing_in}
use Rattle.lf_definitions.specs.GoalLists.{AreDistinct}
use Rattle.lf_definitions.proofs.Growth.{TypesGrow, TypesGrow-with_context, Typed-grown, Formed-grown, FormedContext-grown}
use Rattle.lf_definitions.proofs.Options.{Some_inj, None-Some}
use Rattle.typing_laws.specs.GoalLaws.{GoalsAreTheirTypes, IsAmong, GoalsGrow, GoalsThatStayAreKept, AssignedGoalsAreKept}
use Rattle.typing_laws.proofs.Binders.{typed_lams}
use Rattle.typing_laws.proofs.FoundGoals.{found}

-- binders and what is under them
pub Formed-pis : (bs : Context) (end : LfType) {kinds : Kinds} {Γ : Typing} → FormedContext kinds Γ bs → Formed kinds (with_context bs Γ) end → Formed kinds Γ (pis bs end)
Formed-pis [] end formed_empty q = q
Formed-pis (b ∷ bs) end (formed_entry p ps) q = formed_pi p (Formed-pis bs end ps q)

pub FormedContext-pis : (bs : Context) (end : LfType) {kinds : Kinds} {Γ : Typing} → Formed kinds Γ (pis bs end) → FormedContext kinds Γ bs × Formed kinds (with_context bs Γ) end
FormedContext-pis [] end p = (formed_empty, p)
FormedContext-pis (b ∷ bs) end (formed_pi p q) = let r = FormedContext-pis bs end q in (formed_entry p r.0, r.1)

pub goals_are_their_types : GoalsAreTheirTypes
goals_are_their_types sig goals g = (λ formed. Formed-pis g.context (atomic g.target) formed.0 formed.1, λ formed. FormedContext-pis g.context (atomic g.target) formed)

-- each goal of a list whose numbers differ is the first of its number
looked_up : (goals : List LfGoal) → AreDistinct goals → (k : ℕ) (d : LfGoal) → k < length goals → type_of_metavariable goals (get_or goals k d).id ≡ Some (goal_type (get_or goals k d))
looked_up [] distinct k d within = absurd (omega (arith, within))
looked_up (g ∷ goals) distinct zero d within = ap (λ b. if b then Some (goal_type g) else type_of_metavariable goals g.id) (eq-eqb g.id g.id refl)
looked_up (g ∷ goals) distinct (suc k) d within =
    at_test (nat_eq g.id (get_or goals k d).id) refl (distinct zero (suc k) d (omega arith) within) (looked_up goals (λ i j e less small. distinct (suc i) (suc j) e (omega (arith, less)) (omega (arith, small))) k d (omega (arith, within)))
  where
    at_test : (b : Bool) → nat_eq g.id (get_or goals k d).id ≡ b → g.id ≢ (get_or goals k d).id → type_of_metavariable goals (get_or goals k d).id ≡ Some (goal_type (get_or goals k d)) →
        (if b then Some (goal_type g) else type_of_metavariable goals (get_or goals k d).id) ≡ Some (goal_type (get_or goals k d))
    at_test true is differ rest = absurd (differ (eqb-true g.id (get_or goals k d).id is))
    at_test false is differ rest = rest

pub type_of_goal : (goals : List LfGoal) → AreDistinct goals → (g : LfGoal) → Contains goals g → type_of_metavariable goals g.id ≡ Some (goal_type g)
type_of_goal goals distinct g (k, within, is) = subst (λ h. type_of_metavariable goals h.id ≡ Some (goal_type h)) is (looked_up goals distinct k g within)

pub TypesGrow-goals : (sig : LfSignature) (goals more : List LfGoal) → IsAmong goals more → AreDistinct more → TypesGrow (typing_in sig goals []) (typing_in sig more [])
TypesGrow-goals sig goals more among distinct (bound n) a e = absurd cc
TypesGrow-goals sig goals more among distinct (constant c) a e = e
TypesGrow-goals sig goals more among distinct (metavariable n) a e =
    let r = found (Contains more) goals among n a e in
    ap (type_of_metavariable more) (sym r.1) ∙ type_of_goal more distinct r.0 r.3 ∙ ap Some r.2

pub goals_grow : GoalsGrow
goals_grow sig goals more among distinct = (
  λ ctx. (
    λ t a typed. Typed-grown typed (typing_in sig more ctx) (grown ctx),
    λ a formed. Formed-grown formed (kinds_in sig) (typing_in sig more ctx) (λ f kind e. e) (grown ctx),
    λ rest formed. FormedContext-grown formed (kinds_in sig) (typing_in sig more ctx) (λ f kind e. e) (grown ctx),
  ),
  λ g formed. (
    FormedContext-grown formed.0 (kinds_in sig) (typing_in sig more []) (λ f kind e. e) (grown []),
    Formed-grown formed.1 (kinds_in sig) (typing_in sig more g.context) (λ f kind e. e) (grown g.context),
  ),
)
  where
    grown : (ctx : Context) → TypesGrow (typing_in sig goals ctx) (typing_in sig more ctx)
    grown ctx = TypesGrow-with_context ctx (typing_in sig goals []) (typing_in sig more []) (TypesGrow-goals sig goals more among distinct)

-- an instance of a goal has the instance of its type
pub SubstitutedType-pis : {σ : Replacement} {bs cs : Context} → SubstitutedContext σ bs cs → {end after : LfType} → SubstitutedType (up_by (length bs) σ) end after → SubstitutedType σ (pis bs end) (pis cs after)
SubstitutedType-pis substituted_empty result = result
SubstitutedType-pis (substituted_entry p ps) result = substituted_pi p (SubstitutedType-pis ps result)

pub InstantiatedType-goal_type : (σ : Assignment) (g h : LfGoal) → InstantiatedGoal σ g h → InstantiatedType σ (goal_type g) (goal_type h)
InstantiatedType-goal_type σ g h result = SubstitutedType-pis result.of_context result.of_target

pub goals_that_stay_are_kept : GoalsThatStayAreKept
goals_that_stay_are_kept sig others σ g h distinct among result left = (
  goal_type h,
  InstantiatedType-goal_type σ g h result,
  λ u is. absurd (None-Some left is),
  λ is. ap (type_of_metavariable others) (sym result.same_id) ∙ type_of_goal others distinct h among,
)

pub assigned_goals_are_kept : AssignedGoalsAreKept
assigned_goals_are_kept sig others σ g h body result put typed = (
  goal_type h,
  InstantiatedType-goal_type σ g h result,
  λ u is. subst (λ t. Typed (typing_in sig others []) t (goal_type h)) (Some_inj put is) (typed_lams h.context (typing_in sig others []) body (atomic h.target) typed),
  λ is. absurd (None-Some is put),
)
