-- What the first goal becomes once a new goal has one hypothesis more is shaped.
use Rattle.std.proofs.Common.{◌≡◌, ℕ, suc, ◌+◌, Bool, true, false, Some, List, [], ◌∷◌, ◌++◌, length, refl, sym, ap, ◌∙◌, subst, arith}
use Rattle.std.specs.Prelude.{if◌then◌else◌}
use Rattle.lf_definitions.specs.Syntax.{metavariable, LfTerm, at, Spine, no_args, arg, joined, SimpleType, base, arrows, LfAtom, atomic, Context, shape_of, shapes_of_types}
use Rattle.lf_definitions.specs.Renaming.{next, Renaming, lifted, rename_type}
use Rattle.lf_definitions.specs.Shaping.{Scope, under, under_all, Shaped, shaped_at, ShapedSpine, shaped_none, shaped_arg}
use Rattle.lf_definitions.specs.Typing.{LfGoal, goal_type}
use Rattle.lf_definitions.proofs.Renaming.{each_head, extended-next, ShapedSpine-rename_spine}
use Rattle.lf_definitions.proofs.Types.{shape_of-rename_type}
use Rattle.lf_definitions.proofs.Typing.{shape_of-pis}
use Rattle.head_laws.proofs.Heads.{lifted-next}
use Rattle.unification.proofs.Spreading.{under_all-metavariable}
use Rattle.opening_laws.specs.Openings.{is_kept, keeping, returning, kept_variables}
use Rattle.opening_laws.proofs.Kept.{SameShapes, shifted}
use Rattle.opening_laws.proofs.Expanded.{Shaped-own_variables}
use Rattle.applications.specs.OpenedTypes.{kept_entries}
use Rattle.applications.specs.Applications.{returned, goal_with}

same_binder : (ξ : Renaming) (Γ Δ : Scope) (s c : SimpleType) → c ≡ s → SameShapes ξ Γ Δ → SameShapes (lifted ξ) (under s Γ) (under c Δ)
same_binder ξ Γ Δ s c e same =
    each_head (λ h. under c Δ (lifted ξ h) ≡ under s Γ h) (ap Some e)
    (λ h. ap (under c Δ) (lifted-next ξ h) ∙ extended-next (Some c) Δ (ξ h) ∙ same h ∙ sym (extended-next (Some s) Γ h))

-- A head among the kept entries has its shape as it is seen from all, whatever is kept.
entries_are_seen : (kept : List ℕ) (place : ℕ) (ctx : Context) (Γ Δ : Scope) → SameShapes (keeping kept place) Γ Δ →
    SameShapes (keeping kept (place + length ctx)) (under_all (shapes_of_types (kept_entries kept place ctx)) Γ) (under_all (shapes_of_types ctx) Δ)
entries_are_seen kept place [] Γ Δ same = let here : place ≡ place + 0 = omega arith in subst (λ n. SameShapes (keeping kept n) Γ Δ) here same
entries_are_seen kept place (a ∷ ctx) Γ Δ same =
    subst (λ n. SameShapes (keeping kept n) (under_all (shapes_of_types (kept_entries kept place (a ∷ ctx))) Γ) (under_all (shapes_of_types ctx) (under (shape_of a) Δ))) (shifted place (length ctx))
    (step (is_kept kept place) refl (entries_are_seen kept (suc place) ctx))
  where
    step : (b : Bool) → is_kept kept place ≡ b →
        ((Γ Δ : Scope) → SameShapes (keeping kept (suc place)) Γ Δ → SameShapes (keeping kept (suc place + length ctx)) (under_all (shapes_of_types (kept_entries kept (suc place) ctx)) Γ) (under_all (shapes_of_types ctx) Δ)) →
        SameShapes (keeping kept (suc place + length ctx))
        (under_all (shapes_of_types (if b then rename_type (returning kept place) a ∷ kept_entries kept (suc place) ctx else kept_entries kept (suc place) ctx)) Γ)
        (under_all (shapes_of_types ctx) (under (shape_of a) Δ))
    step true is later =
        let kept_shape = shape_of (rename_type (returning kept place) a) in
        later (under kept_shape Γ) (under (shape_of a) Δ)
        (subst (λ c. SameShapes (if c then lifted (keeping kept place) else (λ h. next (keeping kept place h))) (under kept_shape Γ) (under (shape_of a) Δ)) (sym is)
        (same_binder (keeping kept place) Γ Δ kept_shape (shape_of a) (sym (shape_of-rename_type a (returning kept place))) same))
    step false is later =
        later Γ (under (shape_of a) Δ)
        (subst (λ c. SameShapes (if c then lifted (keeping kept place) else (λ h. next (keeping kept place h))) Γ (under (shape_of a) Δ)) (sym is)
        (λ h. extended-next (Some (shape_of a)) Δ (keeping kept place h) ∙ same h))

variables_are_shaped : (kept : List ℕ) (ctx : Context) (Γ : Scope) →
    ShapedSpine (under_all (shapes_of_types ctx) Γ) (kept_variables kept (length ctx) (kept_entries kept 0 ctx)) (arrows (shapes_of_types (kept_entries kept 0 ctx)) base)
variables_are_shaped kept ctx Γ =
    let entries = shapes_of_types (kept_entries kept 0 ctx) in
    let start : 0 + length ctx ≡ length ctx = omega arith in
    let seen = subst (λ n. SameShapes (keeping kept n) (under_all entries Γ) (under_all (shapes_of_types ctx) Γ)) start (entries_are_seen kept 0 ctx Γ Γ (λ h. refl)) in
    ShapedSpine-rename_spine (Shaped-own_variables entries Γ) (keeping kept (length ctx)) (under_all (shapes_of_types ctx) Γ) (λ h s e. seen h ∙ e)

-- one argument more
with_last : (front : List SimpleType) (us : Spine) (t : LfTerm) (Γ : Scope) → ShapedSpine Γ us (arrows front base) → Shaped Γ t base → ShapedSpine Γ (joined us (arg t no_args)) (arrows (front ++ base ∷ []) base)
with_last [] no_args t Γ ps p = shaped_arg p shaped_none
with_last [] (arg u us) t Γ ps p = elim ps [ ]
with_last (a ∷ front) no_args t Γ ps p = elim ps [ ]
with_last (a ∷ front) (arg u us) t Γ (shaped_arg q ps) p = shaped_arg q (with_last front us t Γ ps p)

shapes_with_last : (ctx : Context) (a : LfAtom) → shapes_of_types (ctx ++ atomic a ∷ []) ≡ shapes_of_types ctx ++ base ∷ []
shapes_with_last [] a = refl
shapes_with_last (b ∷ ctx) a = ap (λ shapes. shape_of b ∷ shapes) (shapes_with_last ctx a)

-- The new goal's metavariable, applied to the kept variables and to the term of the new hypothesis.
pub new_goal_term_is_shaped : (Γ : Scope) (id : ℕ) (g : LfGoal) (kept : List ℕ) (fact : LfAtom) (t : LfTerm) → Γ (metavariable id) ≡ Some (shape_of (goal_type (goal_with id g kept fact))) →
    Shaped (under_all (shapes_of_types g.context) Γ) t base →
    Shaped (under_all (shapes_of_types g.context) Γ) (at (metavariable id) (joined (kept_variables kept (length g.context) (kept_entries kept 0 g.context)) (arg t no_args))) base
new_goal_term_is_shaped Γ id g kept fact t known p =
    let it = goal_with id g kept fact in
    let entries = kept_entries kept 0 g.context in
    let shape : shape_of (goal_type it) ≡ arrows (shapes_of_types entries ++ base ∷ []) base =
    shape_of-pis it.context it.target.atom_family it.target.atom_args ∙ ap (λ shapes. arrows shapes base) (shapes_with_last entries (returned kept g.context fact)) in
    shaped_at (arrows (shapes_of_types entries ++ base ∷ []) base) (under_all-metavariable (shapes_of_types g.context) Γ id ∙ known ∙ ap Some shape)
    (with_last (shapes_of_types entries) (kept_variables kept (length g.context) entries) t (under_all (shapes_of_types g.context) Γ) (variables_are_shaped kept g.context Γ) p)
