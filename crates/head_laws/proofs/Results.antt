-- Results of replacements in contexts and goals, and one replacement after another.
use Rattle.std.proofs.Common.{◌≡◌, ℕ, suc, ◌↔◌, Option, [], ◌∷◌, length, refl, sym, ap, ap₂, ◌∙◌, subst}
use Rattle.lf_definitions.specs.Syntax.{pis, LfTerm, Spine, LfType, Context, SimpleType, LfAtom, atomic, conclusion_atom, shape_of, shapes_of_types}
use Rattle.lf_definitions.specs.Shaping.{Scope, under, under_all, Shaped, ShapedSpine, ShapedType, shaped_family}
use Rattle.lf_definitions.specs.ShapedGoals.{ShapedContext, shaped_empty, shaped_entry}
use Rattle.lf_definitions.specs.Substitution.{Replacement, up, up_by, Substituted, SubstitutedSpine, SubstitutedType, substituted_pi, substituted_family, SubstitutedContext, substituted_empty, substituted_entry}
use Rattle.lf_definitions.specs.Replacements.{Goes, IsThen}
use Rattle.lf_definitions.specs.Typing.{LfGoal, goal_type}
use Rattle.lf_definitions.specs.Instantiation.{Assignment, instantiating, InstantiatedType, InstantiatedGoal}
use Rattle.lf_definitions.proofs.Uniqueness.{unique, unique_spine, unique_type}
use Rattle.lf_definitions.proofs.Totality.{Goes-up, total, total_spine}
use Rattle.lf_definitions.proofs.Composition.{IsThen-up, composes, composes_spine}
use Rattle.lf_definitions.proofs.Types.{shape_of-SubstitutedType, total_type, composes_type}
use Rattle.lf_definitions.proofs.Telescopes.{Goes-up_by}
use Rattle.head_laws.specs.ReplacementLaws.{ShapedGoalOver}

pub unique_context : {σ : Replacement} {ctx first second : Context} → SubstitutedContext σ ctx first → SubstitutedContext σ ctx second → first ≡ second
unique_context substituted_empty substituted_empty = refl
unique_context (substituted_entry p ps) (substituted_entry q qs) = ap₂ (λ a rest. a ∷ rest) (unique_type p q) (unique_context ps qs)

pub shapes_of_types-SubstitutedContext : {σ : Replacement} {ctx results : Context} → SubstitutedContext σ ctx results → shapes_of_types results ≡ shapes_of_types ctx
shapes_of_types-SubstitutedContext substituted_empty = refl
shapes_of_types-SubstitutedContext (substituted_entry p ps) = ap₂ (λ s rest. s ∷ rest) (shape_of-SubstitutedType p) (shapes_of_types-SubstitutedContext ps)

pub length-shapes_of_types : (ctx : Context) → length (shapes_of_types ctx) ≡ length ctx
length-shapes_of_types [] = refl
length-shapes_of_types (a ∷ ctx) = ap suc (length-shapes_of_types ctx)

abbrev pub HasContextResult : (ℕ → Option SimpleType) → Scope → Replacement → Context → Type 0
HasContextResult kinds Δ σ ctx = (results : Context) × SubstitutedContext σ ctx results × ShapedContext kinds Δ results

pub total_context : (p : ℕ) {kinds : ℕ → Option SimpleType} {Γ : Scope} {ctx : Context} → ShapedContext kinds Γ ctx → (Δ : Scope) (σ : Replacement) → Goes p Γ Δ σ → HasContextResult kinds Δ σ ctx
total_context p shaped_empty Δ σ goes = ([], substituted_empty, shaped_empty)
total_context p {kinds} (shaped_entry {Γ = Γ} {a = a} x y) Δ σ goes =
    let c = total_type p x Δ σ goes in
    let d = total_context p y (under (shape_of a) Δ) (up σ) (Goes-up p Γ Δ σ (shape_of a) goes) in
    (c.0 ∷ d.0, substituted_entry c.1 d.1, shaped_entry c.2 (subst (λ s. ShapedContext kinds (under s Δ) d.0) (sym (shape_of-SubstitutedType c.1)) d.2))

-- an atom, which stays one
total_atom : (p : ℕ) (kinds : ℕ → Option SimpleType) (Γ Δ : Scope) (σ : Replacement) (a : LfAtom) → Goes p Γ Δ σ → ShapedType kinds Γ (atomic a) →
    (b : LfAtom) × SubstitutedType σ (atomic a) (atomic b) × ShapedType kinds Δ (atomic b)
total_atom p kinds Γ Δ σ a goes (shaped_family s e ps) =
    let r = total_spine p ps Δ σ goes in
    (record { atom_family = a.atom_family; atom_args = r.0 }, substituted_family r.1, shaped_family s e r.2)

pub total_goal : (p : ℕ) (kinds : ℕ → Option SimpleType) (Γ Δ : Scope) (σ : Assignment) (g : LfGoal) → Goes p Γ Δ (instantiating σ) → ShapedGoalOver kinds Γ g →
    (h : LfGoal) × InstantiatedGoal σ g h × ShapedGoalOver kinds Δ h
total_goal p kinds Γ Δ σ g goes shaped =
    let c = total_context p shaped.0 Δ (instantiating σ) goes in
    let shapes = shapes_of_types g.context in
    let under_shapes : Goes p (under_all shapes Γ) (under_all shapes Δ) (up_by (length g.context) (instantiating σ)) =
    subst (λ n. Goes p (under_all shapes Γ) (under_all shapes Δ) (up_by n (instantiating σ))) (length-shapes_of_types g.context) (Goes-up_by p shapes Γ Δ (instantiating σ) goes) in
    let t = total_atom p kinds (under_all shapes Γ) (under_all shapes Δ) (up_by (length g.context) (instantiating σ)) g.target under_shapes shaped.1 in
    let same_shapes : shapes ≡ shapes_of_types c.0 = sym (shapes_of_types-SubstitutedContext c.1) in (
      record { id = g.id; context = c.0; target = t.0 },
      record { same_id = refl; of_context = c.1; of_target = t.1 },
      (c.2, subst (λ ss. ShapedType kinds (under_all ss Δ) (atomic t.0)) same_shapes t.2),
    )

goal_of : ℕ → Context → LfAtom → LfGoal
goal_of id context target = record { id = id; context = context; target = target }

pub unique_goal : (σ : Assignment) (g h k : LfGoal) → InstantiatedGoal σ g h → InstantiatedGoal σ g k → h ≡ k
unfolding goal_of
unique_goal σ g h k p q =
    let ids : h.id ≡ k.id = p.same_id ∙ sym q.same_id in
    let contexts : h.context ≡ k.context = unique_context p.of_context q.of_context in
    let targets : h.target ≡ k.target = ap conclusion_atom (unique_type p.of_target q.of_target) in
    ap (λ n. goal_of n h.context h.target) ids ∙ ap₂ (goal_of k.id) contexts targets

-- Binders over a type, part by part.
split_pis : {σ : Replacement} (ctx results : Context) (a b : LfAtom) → SubstitutedType σ (pis ctx (atomic a)) (pis results (atomic b)) →
    SubstitutedContext σ ctx results × SubstitutedType (up_by (length ctx) σ) (atomic a) (atomic b)
split_pis [] [] a b p = (substituted_empty, p)
split_pis [] (c ∷ results) a b p = elim p [ ]
split_pis (d ∷ ctx) [] a b p = elim p [ ]
split_pis (d ∷ ctx) (c ∷ results) a b (substituted_pi p q) = let r = split_pis ctx results a b q in (substituted_entry p r.0, r.1)

join_pis : {σ : Replacement} {ctx results : Context} → SubstitutedContext σ ctx results → (a b : LfType) → SubstitutedType (up_by (length ctx) σ) a b → SubstitutedType σ (pis ctx a) (pis results b)
join_pis substituted_empty a b p = p
join_pis (substituted_entry q qs) a b p = substituted_pi q (join_pis qs a b p)

pub SubstitutedType-goal_type : (σ : Assignment) (g h : LfGoal) → InstantiatedGoal σ g h → InstantiatedType σ (goal_type g) (goal_type h)
SubstitutedType-goal_type σ g h p = join_pis p.of_context (atomic g.target) (atomic h.target) p.of_target

pub InstantiatedGoal-goal_type : (σ : Assignment) (g h : LfGoal) → h.id ≡ g.id → InstantiatedType σ (goal_type g) (goal_type h) → InstantiatedGoal σ g h
InstantiatedGoal-goal_type σ g h same p =
    let parts = split_pis g.context h.context g.target h.target p in
    record { same_id = same; of_context = parts.0; of_target = parts.1 }

-- One replacement after another.
pub composes_context : (p q : ℕ) {kinds : ℕ → Option SimpleType} {Γ : Scope} {ctx : Context} → ShapedContext kinds Γ ctx → (Δ Θ : Scope) (σ τ ρ : Replacement) → Goes p Γ Δ σ → Goes q Δ Θ τ → IsThen σ τ ρ →
    {first second : Context} → SubstitutedContext σ ctx first → SubstitutedContext ρ ctx second → SubstitutedContext τ first second
composes_context p q shaped_empty Δ Θ σ τ ρ goes goes_τ then substituted_empty substituted_empty = substituted_empty
composes_context p q (shaped_entry {Γ = Γ} {a = d} x y) Δ Θ σ τ ρ goes goes_τ then (substituted_entry v w) (substituted_entry r s) =
    substituted_entry (composes_type p q x Δ Θ σ τ ρ goes goes_τ then v r)
    (composes_context p q y (under (shape_of d) Δ) (under (shape_of d) Θ) (up σ) (up τ) (up ρ) (Goes-up p Γ Δ σ (shape_of d) goes) (Goes-up q Δ Θ τ (shape_of d) goes_τ) (IsThen-up σ τ ρ then) w s)

module _ (p q m : ℕ) (Γ Δ Θ : Scope) (σ τ ρ : Replacement) (goes : Goes p Γ Δ σ) (goes_τ : Goes q Δ Θ τ) (then : IsThen σ τ ρ) (goes_ρ : Goes m Γ Θ ρ) where
  pub compose_term : (t r x : LfTerm) (s : SimpleType) → Shaped Γ t s → Substituted σ t r → Substituted τ r x ↔ Substituted ρ t x
  compose_term t r x s shaped result = (
    λ y. let c = total m shaped Θ ρ goes_ρ in
        subst (Substituted ρ t) (unique (composes p q Γ Δ Θ σ τ ρ goes goes_τ then t s r c.0 shaped result c.1) y) c.1,
    λ y. composes p q Γ Δ Θ σ τ ρ goes goes_τ then t s r x shaped result y,
  )

  pub compose_spine : (ts rs xs : Spine) (s : SimpleType) → ShapedSpine Γ ts s → SubstitutedSpine σ ts rs → SubstitutedSpine τ rs xs ↔ SubstitutedSpine ρ ts xs
  compose_spine ts rs xs s shaped result = (
    λ y. let c = total_spine m shaped Θ ρ goes_ρ in
        subst (SubstitutedSpine ρ ts) (unique_spine (composes_spine p q shaped Δ Θ σ τ ρ goes goes_τ then result c.1) y) c.1,
    λ y. composes_spine p q shaped Δ Θ σ τ ρ goes goes_τ then result y,
  )

  pub compose_type : (kinds : ℕ → Option SimpleType) (a b c : LfType) → ShapedType kinds Γ a → SubstitutedType σ a b → SubstitutedType τ b c ↔ SubstitutedType ρ a c
  compose_type kinds a b c shaped result = (
    λ y. let r = total_type m shaped Θ ρ goes_ρ in
        subst (SubstitutedType ρ a) (unique_type (composes_type p q shaped Δ Θ σ τ ρ goes goes_τ then result r.1) y) r.1,
    λ y. composes_type p q shaped Δ Θ σ τ ρ goes goes_τ then result y,
  )

  pub compose_context : (kinds : ℕ → Option SimpleType) (ctx first second : Context) → ShapedContext kinds Γ ctx → SubstitutedContext σ ctx first → SubstitutedContext τ first second ↔ SubstitutedContext ρ ctx second
  compose_context kinds ctx first second shaped result = (
    λ y. let r = total_context m shaped Θ ρ goes_ρ in
        subst (SubstitutedContext ρ ctx) (unique_context (composes_context p q shaped Δ Θ σ τ ρ goes goes_τ then result r.1) y) r.1,
    λ y. composes_context p q shaped Δ Θ σ τ ρ goes goes_τ then result y,
  )
