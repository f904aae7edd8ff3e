-- A term applied to arguments that are variables is its body renamed.
use Rattle.std.proofs.Common.{◌≡◌, ℕ, ◌<◌, ◌≤◌, List, Some, refl, sym, ap, ◌∙◌, subst, subst₂, arith}
use Rattle.lf_definitions.specs.Syntax.{bound, LfTerm, Spine, SimpleType, base, shape_size, arguments, arity, lams}
use Rattle.lf_definitions.specs.Renaming.{extended, Renaming, rename, next_by}
use Rattle.lf_definitions.specs.Shaping.{Scope, under, under_all, Shaped, ShapedSpine, shaped_none, shaped_arg}
use Rattle.lf_definitions.specs.Substitution.{stays, becomes, Replacement, push, push_all, Substituted, substituted_none, substituted_arg, Applied}
use Rattle.lf_definitions.specs.Instantiation.{Assignment, instantiating, Instantiated, InstantiatedSpine}
use Rattle.lf_definitions.proofs.Options.{Some-Some}
use Rattle.lf_definitions.proofs.Renaming.{extended-next, each_head, KeepsShapes}
use Rattle.lf_definitions.proofs.Expansion.{Alike, alike_stays, alike_eta, IsAlike, unit, stripped, Shaped-eta, Substituted-eta, args_count-arity, Applied-lams}
use Rattle.unification.proofs.PatternSpines.{AreVariables, no_variables, one_variable}
use Rattle.unification.proofs.Spreading.{spreading}

-- Assignments leave variables alone.
pub variables_stay : {Γ : Scope} {ns : List ℕ} {ts : Spine} {s : SimpleType} → AreVariables Γ ns ts s → (θ : Assignment) → InstantiatedSpine θ ts ts
variables_stay no_variables θ = substituted_none
variables_stay (one_variable {n = n} {a = a} known is rest) θ =
    substituted_arg (subst (λ x. Instantiated θ x x) (sym is) (Substituted-eta a (instantiating θ) (bound n) (bound n) refl)) (variables_stay rest θ)

pub variables_are_shaped : {Γ : Scope} {ns : List ℕ} {ts : Spine} {s : SimpleType} → AreVariables Γ ns ts s → ShapedSpine Γ ts s
variables_are_shaped no_variables = shaped_none
variables_are_shaped {Γ} (one_variable {n = n} {a = a} known is rest) = shaped_arg (subst (λ x. Shaped Γ x a) (sym is) (Shaped-eta a Γ (bound n) known)) (variables_are_shaped rest)

-- To put them for the newest variables is to rename these.
alike_spreading : {Δ : Scope} {ns : List ℕ} {ts : Spine} {s : SimpleType} → AreVariables Δ ns ts s → (p : ℕ) → shape_size s ≤ p → (Γ : Scope) (ξ : Renaming) (τ : Replacement) → IsAlike p ξ Γ τ →
    IsAlike p (spreading ns ξ) (under_all (arguments s) Γ) (push_all ts τ)
alike_spreading no_variables p small Γ ξ τ alike = alike
alike_spreading (one_variable {n = n} {t = t} {a = a} {s = s} known is rest) p small Γ ξ τ alike =
    let size : shape_size a < p = omega arith in
    alike_spreading rest p (omega arith) (under a Γ) (extended (bound n) ξ) (push t τ)
    (each_head (λ h. (c : SimpleType) → under a Γ h ≡ Some c → Alike p (push t τ h) (extended (bound n) ξ h) c)
    (λ c f. subst₂ (λ u d. Alike p (becomes u) (bound n) d) (sym is) (Some-Some f) (alike_eta size))
    (λ h c f. subst₂ (λ i k. Alike p i k c) (sym (extended-next (becomes t) τ h)) (sym (extended-next (bound n) ξ h))
    (alike h c (sym (extended-next (Some a) Γ h) ∙ f))))

keeps_spreading : {Δ : Scope} {ns : List ℕ} {ts : Spine} {s : SimpleType} → AreVariables Δ ns ts s → (Γ : Scope) (ξ : Renaming) → KeepsShapes ξ Γ Δ → KeepsShapes (spreading ns ξ) (under_all (arguments s) Γ) Δ
keeps_spreading no_variables Γ ξ keeps = keeps
keeps_spreading {Δ} (one_variable {n = n} {a = a} known is rest) Γ ξ keeps =
    keeps_spreading rest (under a Γ) (extended (bound n) ξ)
    (each_head (λ h. (c : SimpleType) → under a Γ h ≡ Some c → Δ (extended (bound n) ξ h) ≡ Some c)
    (λ c f. known ∙ f)
    (λ h c f. ap Δ (extended-next (bound n) ξ h) ∙ keeps h c (sym (extended-next (Some a) Γ h) ∙ f)))

-- So a term applied to them is its body renamed.
pub record IsRenamedBody (v : LfTerm) (ns : List ℕ) (ts : Spine) (s : SimpleType) : Type 0 where
  pub body : LfTerm
  pub value_is : v ≡ lams (arity s) body
  pub applied : Applied stays v ts (rename (spreading ns (next_by 0)) body)

pub renamed_body : {Δ : Scope} {v : LfTerm} {ns : List ℕ} {ts : Spine} {s : SimpleType} → Shaped Δ v s → AreVariables Δ ns ts s → IsRenamedBody v ns ts s
renamed_body {Δ} {v} {ns} {ts} {s} shaped variables =
    let b = stripped shaped in
    let p = shape_size s in
    let ξ = spreading ns (next_by 0) in
    let result : Substituted (push_all ts stays) b.0 (rename ξ b.0) =
    unit p (under_all (arguments s) Δ) Δ ξ (push_all ts stays) (keeps_spreading variables Δ (next_by 0) (λ h c e. e))
    (alike_spreading variables p (omega arith) Δ (next_by 0) stays (λ h c e. alike_stays)) b.0 base b.2 in
    record {
      body = b.0;
      value_is = b.1;
      applied = subst (λ x. Applied stays x ts (rename ξ b.0)) (ap (λ m. lams m b.0) (args_count-arity (variables_are_shaped variables)) ∙ sym b.1) (Applied-lams ts stays b.0 (rename ξ b.0) result);
    }
