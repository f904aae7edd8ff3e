-- Renamings of metavariables: binders make no difference to them, and different things stay different.
use Rattle.std.proofs.Common.{◌≡◌, ℕ, zero, suc, Option, Some, None, option_map, [], ◌∷◌, length, refl, sym, ap, ap₂, ◌∙◌, subst}
use mathlib.Core.Path.{fun_ext}
use Rattle.lf_definitions.specs.Syntax.{LfHead, bound, constant, metavariable, LfTerm, LfType, pi, family, atomic, Context, pis, SimpleType, shape_of}
use Rattle.lf_definitions.specs.Renaming.{next, Renaming, lifted, lifted_by, rename, rename_type, rename_context, raise_type}
use Rattle.lf_definitions.specs.Shaping.{Scope, under}
use Rattle.lf_definitions.specs.ShapedGoals.{ShapedContext, shaped_empty, shaped_entry}
use Rattle.lf_definitions.specs.Substitution.{rename_image, Replacement, up, up_by, push, SubstitutedType, SubstitutedContext}
use Rattle.lf_definitions.specs.Typing.{LfGoal, goal_type}
use Rattle.lf_definitions.specs.Instantiation.{Assignment, assigned, instantiating, InstantiatedGoal, metavariables, rename_goal, IsInjective}
use Rattle.lf_definitions.proofs.Renaming.{rename_type-rename_type, KeepsApart, rename_spine_inj, KeepsShapes, KeepsShapes-lifted, Follows, Follows-up, Follows-push, SubstitutedType-rename_type}
use Rattle.lf_definitions.proofs.Types.{shape_of-rename_type, ShapedType-rename_type}
use Rattle.lf_definitions.proofs.TypedSpines.{length-rename_context}
use Rattle.lf_definitions.proofs.Weakening.{rename_type-pis}
use Rattle.head_laws.specs.MetavariableLaws.{AssignsRenamed}
use Rattle.head_laws.proofs.Unrenamed.{unrenamed_type, unrenamed_context, SubstitutedContext-rename_context}

pub lifted-metavariables : (ρ : ℕ → ℕ) → lifted (metavariables ρ) ≡ metavariables ρ
lifted-metavariables ρ = fun_ext each
  where
    each : (h : LfHead) → lifted (metavariables ρ) h ≡ metavariables ρ h
    each (bound zero) = refl
    each (bound (suc n)) = refl
    each (constant c) = refl
    each (metavariable g) = refl

pub lifted_by-metavariables : (n : ℕ) (ρ : ℕ → ℕ) → lifted_by n (metavariables ρ) ≡ metavariables ρ
lifted_by-metavariables zero ρ = refl
lifted_by-metavariables (suc n) ρ = ap (lifted_by n) (lifted-metavariables ρ) ∙ lifted_by-metavariables n ρ

pub rename_type-raise : (ρ : ℕ → ℕ) (a : LfType) → rename_type (metavariables ρ) (raise_type a) ≡ raise_type (rename_type (metavariables ρ) a)
rename_type-raise ρ a =
    rename_type-rename_type a (metavariables ρ) next ∙ ap (λ θ. rename_type θ a) (fun_ext each) ∙ sym (rename_type-rename_type a next (metavariables ρ))
  where
    each : (h : LfHead) → metavariables ρ (next h) ≡ next (metavariables ρ h)
    each (bound n) = refl
    each (constant c) = refl
    each (metavariable g) = refl

pub KeepsApart-metavariables : (ρ : ℕ → ℕ) → IsInjective ρ → KeepsApart (metavariables ρ)
KeepsApart-metavariables ρ injective (bound n) (bound m) e = e
KeepsApart-metavariables ρ injective (bound n) (constant c) e = absurd cc
KeepsApart-metavariables ρ injective (bound n) (metavariable g) e = absurd cc
KeepsApart-metavariables ρ injective (constant c) (bound n) e = absurd cc
KeepsApart-metavariables ρ injective (constant c) (constant d) e = e
KeepsApart-metavariables ρ injective (constant c) (metavariable g) e = absurd cc
KeepsApart-metavariables ρ injective (metavariable g) (bound n) e = absurd cc
KeepsApart-metavariables ρ injective (metavariable g) (constant c) e = absurd cc
KeepsApart-metavariables ρ injective (metavariable g) (metavariable h) e = ap metavariable (injective g h cc)

pub rename_type_inj : (ρ : ℕ → ℕ) → IsInjective ρ → (a c : LfType) → rename_type (metavariables ρ) a ≡ rename_type (metavariables ρ) c → a ≡ c
rename_type_inj ρ injective (pi a b) (pi c d) e =
    let under_binder : rename_type (lifted (metavariables ρ)) b ≡ rename_type (lifted (metavariables ρ)) d = cc in
    ap₂ pi (rename_type_inj ρ injective a c cc) (rename_type_inj ρ injective b d (subst (λ ξ. rename_type ξ b ≡ rename_type ξ d) (lifted-metavariables ρ) under_binder))
rename_type_inj ρ injective (pi a b) (family g us) e = absurd cc
rename_type_inj ρ injective (family f ts) (pi c d) e = absurd cc
rename_type_inj ρ injective (family f ts) (family g us) e = ap₂ family (cc) (rename_spine_inj ts us (metavariables ρ) (KeepsApart-metavariables ρ injective) cc)

pub rename_context_inj : (ρ : ℕ → ℕ) → IsInjective ρ → (xs ys : Context) → rename_context (metavariables ρ) xs ≡ rename_context (metavariables ρ) ys → xs ≡ ys
rename_context_inj ρ injective [] [] e = refl
rename_context_inj ρ injective [] (c ∷ ys) e = absurd cc
rename_context_inj ρ injective (a ∷ xs) [] e = absurd cc
rename_context_inj ρ injective (a ∷ xs) (c ∷ ys) e =
    let under_entry : rename_context (lifted (metavariables ρ)) xs ≡ rename_context (lifted (metavariables ρ)) ys = cc in
    ap₂ (λ b more. b ∷ more) (rename_type_inj ρ injective a c cc) (rename_context_inj ρ injective xs ys (subst (λ ξ. rename_context ξ xs ≡ rename_context ξ ys) (lifted-metavariables ρ) under_entry))

-- binders over a type
pub rename_type-pis_metavariables : (ρ : ℕ → ℕ) (bs : Context) (end : LfType) → rename_type (metavariables ρ) (pis bs end) ≡ pis (rename_context (metavariables ρ) bs) (rename_type (metavariables ρ) end)
rename_type-pis_metavariables ρ bs end =
    rename_type-pis (metavariables ρ) bs end ∙ ap (λ ξ. pis (rename_context (metavariables ρ) bs) (rename_type ξ end)) (lifted_by-metavariables (length bs) ρ)

pub goal_type-rename_goal : (ρ : ℕ → ℕ) (g : LfGoal) → goal_type (rename_goal ρ g) ≡ rename_type (metavariables ρ) (goal_type g)
goal_type-rename_goal ρ g = sym (rename_type-pis_metavariables ρ g.context (atomic g.target))

-- replacements
pub Follows-instantiating : (ρ : ℕ → ℕ) (σ τ : Assignment) → AssignsRenamed ρ σ τ → Follows (metavariables ρ) (metavariables ρ) (instantiating σ) (instantiating τ)
Follows-instantiating ρ σ τ renamed (bound n) = refl
Follows-instantiating ρ σ τ renamed (constant c) = refl
Follows-instantiating ρ σ τ renamed (metavariable g) = ap (assigned (ρ g)) (renamed g) ∙ each (σ g)
  where
    each : (o : Option LfTerm) → assigned (ρ g) (option_map (rename (metavariables ρ)) o) ≡ rename_image (metavariables ρ) (assigned g o)
    each None = refl
    each (Some u) = refl

pub Follows-push_metavariables : (ρ : ℕ → ℕ) (σ τ : Replacement) (t : LfTerm) → Follows (metavariables ρ) (metavariables ρ) σ τ →
    Follows (metavariables ρ) (metavariables ρ) (push t σ) (push (rename (metavariables ρ) t) τ)
Follows-push_metavariables ρ σ τ t follows =
    subst (λ ξ. Follows ξ (metavariables ρ) (push t σ) (push (rename (metavariables ρ) t) τ)) (lifted-metavariables ρ) (Follows-push (metavariables ρ) (metavariables ρ) σ τ t follows)

Follows-up_by_metavariables : (n : ℕ) (ρ : ℕ → ℕ) (σ τ : Replacement) → Follows (metavariables ρ) (metavariables ρ) σ τ → Follows (metavariables ρ) (metavariables ρ) (up_by n σ) (up_by n τ)
Follows-up_by_metavariables zero ρ σ τ follows = follows
Follows-up_by_metavariables (suc n) ρ σ τ follows =
    Follows-up_by_metavariables n ρ (up σ) (up τ)
    (subst (λ ξ. Follows ξ ξ (up σ) (up τ)) (lifted-metavariables ρ) (Follows-up (metavariables ρ) (metavariables ρ) σ τ follows))

-- goals
pub InstantiatedGoal-rename_goal : (ρ : ℕ → ℕ) (σ τ : Assignment) → AssignsRenamed ρ σ τ → (g h : LfGoal) → InstantiatedGoal σ g h → InstantiatedGoal τ (rename_goal ρ g) (rename_goal ρ h)
InstantiatedGoal-rename_goal ρ σ τ renamed g h p =
    let follows = Follows-instantiating ρ σ τ renamed in
    let n = length g.context in
    record {
      same_id = ap ρ p.same_id;
      of_context = SubstitutedContext-rename_context p.of_context (metavariables ρ) (metavariables ρ) (instantiating τ) follows;
      of_target =
          subst (λ k. SubstitutedType (up_by k (instantiating τ)) (rename_type (metavariables ρ) (atomic g.target)) (rename_type (metavariables ρ) (atomic h.target)))
          (sym (length-rename_context (metavariables ρ) g.context))
          (SubstitutedType-rename_type p.of_target (metavariables ρ) (metavariables ρ) (up_by n (instantiating τ)) (Follows-up_by_metavariables n ρ (instantiating σ) (instantiating τ) follows));
    }

pub InstantiatedGoal-unrenamed : (ρ : ℕ → ℕ) → IsInjective ρ → (σ τ : Assignment) → AssignsRenamed ρ σ τ → (g h : LfGoal) → InstantiatedGoal τ (rename_goal ρ g) (rename_goal ρ h) → InstantiatedGoal σ g h
InstantiatedGoal-unrenamed ρ injective σ τ renamed g h p =
    let follows = Follows-instantiating ρ σ τ renamed in
    let n = length g.context in
    let c = unrenamed_context g.context (metavariables ρ) (metavariables ρ) (instantiating σ) (instantiating τ) follows p.of_context in
    let target : SubstitutedType (up_by n (instantiating τ)) (rename_type (metavariables ρ) (atomic g.target)) (rename_type (metavariables ρ) (atomic h.target)) =
    subst (λ k. SubstitutedType (up_by k (instantiating τ)) (rename_type (metavariables ρ) (atomic g.target)) (rename_type (metavariables ρ) (atomic h.target)))
    (length-rename_context (metavariables ρ) g.context) p.of_target in
    let t = unrenamed_type (atomic g.target) (metavariables ρ) (metavariables ρ) (up_by n (instantiating σ)) (up_by n (instantiating τ))
    (Follows-up_by_metavariables n ρ (instantiating σ) (instantiating τ) follows) target in
    record {
      same_id = injective h.id g.id p.same_id;
      of_context = subst (SubstitutedContext (instantiating σ) g.context) (sym (rename_context_inj ρ injective h.context c.0 c.1)) c.2;
      of_target = subst (λ x. SubstitutedType (up_by n (instantiating σ)) (atomic g.target) x) (sym (rename_type_inj ρ injective (atomic h.target) t.0 t.1)) t.2;
    }

-- contexts that are shaped
pub ShapedContext-rename_context : {kinds : ℕ → Option SimpleType} {Γ : Scope} {ctx : Context} → ShapedContext kinds Γ ctx → (ξ : Renaming) (Δ : Scope) → KeepsShapes ξ Γ Δ → ShapedContext kinds Δ (rename_context ξ ctx)
ShapedContext-rename_context shaped_empty ξ Δ keeps = shaped_empty
ShapedContext-rename_context {kinds} (shaped_entry {Γ = Γ} {a = a} {rest = rest} p q) ξ Δ keeps =
    shaped_entry (ShapedType-rename_type p ξ Δ keeps)
    (subst (λ s. ShapedContext kinds (under s Δ) (rename_context (lifted ξ) rest)) (sym (shape_of-rename_type a ξ))
    (ShapedContext-rename_context q (lifted ξ) (under (shape_of a) Δ) (KeepsShapes-lifted ξ Γ Δ (shape_of a) keeps)))
