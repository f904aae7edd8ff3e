-- A step keeps equations shaped.
use Rattle.std.proofs.Common.{◌≡◌, ℕ, suc, List, [], ◌∷◌, ◌++◌, Option, Some, refl, sym, subst}
use Rattle.std.proofs.lemmas.List.Elements.{All-nil, All-cons, All-head, All-tail, All-append}
use Rattle.lf_definitions.specs.Syntax.{LfHead, LfTerm, lam, at, Spine, no_args, arg, SimpleType, base, family}
use Rattle.lf_definitions.specs.Shaping.{Scope, under, under_all, Shaped, shaped_lam, shaped_at, ShapedSpine, shaped_arg, ShapedType, shaped_family}
use Rattle.lf_definitions.specs.Instantiation.{LfAssigned}
use Rattle.lf_definitions.proofs.Options.{Some_inj}
use Rattle.lf_definitions.proofs.Telescopes.{under_all-append}
use Rattle.unification.specs.Equations.{LfEquation, of_terms, argument_equations, Unifying}
use Rattle.unification.specs.Transitions.{Frozen, solving, Step, step_atoms, step_lams, step_same, step_heads, step_left, step_right}
use Rattle.unification.specs.Solutions.{ShapedEquation, ShapedEquations, ShapedEntry}
use Rattle.unification.proofs.Solvings.{solving-Some, solved_entry_is_shaped}
use Rattle.unification.proofs.Assigning.{equations_left_are_shaped}

pub Shaped-at-base : {Γ : Scope} {h : LfHead} {ts : Spine} {s : SimpleType} → Shaped Γ (at h ts) s → s ≡ base
Shaped-at-base (shaped_at c e ps) = refl

module _ (kinds : ℕ → Option SimpleType) (Γ : Scope) where
  abbrev pub AreShaped : List LfEquation → Type 0
  AreShaped = ShapedEquations kinds Γ

  -- the equations of arguments at one shape
  pub argument_equations_are_shaped : (local : List SimpleType) (path : List ℕ) (child : ℕ) (ts us : Spine) {s : SimpleType} → ShapedSpine (under_all local Γ) ts s → ShapedSpine (under_all local Γ) us s →
      AreShaped (argument_equations path child ts us)
  argument_equations_are_shaped local path child no_args us p q = All-nil (ShapedEquation kinds Γ)
  argument_equations_are_shaped local path child (arg t ts) no_args p q = All-nil (ShapedEquation kinds Γ)
  argument_equations_are_shaped local path child (arg t ts) (arg u us) (shaped_arg {a = a} p ps) (shaped_arg q qs) =
      All-cons (ShapedEquation kinds Γ) (of_terms (path ++ child ∷ []) t u) (argument_equations path (suc child) ts us) (local, a, p, q)
      (argument_equations_are_shaped local path (suc child) ts us ps qs)

  pub atoms_at_one_shape : {f : ℕ} {ts us : Spine} → ShapedType kinds Γ (family f ts) → ShapedType kinds Γ (family f us) → (s : SimpleType) × ShapedSpine Γ ts s × ShapedSpine Γ us s
  atoms_at_one_shape {us = us} (shaped_family s known ps) (shaped_family c knows qs) = (s, ps, subst (ShapedSpine Γ us) (Some_inj knows known) qs)

  pub spines_at_one_shape : {Δ : Scope} {h : LfHead} {ts us : Spine} {s : SimpleType} → Shaped Δ (at h ts) s → Shaped Δ (at h us) s → (c : SimpleType) × ShapedSpine Δ ts c × ShapedSpine Δ us c
  spines_at_one_shape {Δ} {us = us} (shaped_at c known ps) (shaped_at d knows qs) = (c, ps, subst (ShapedSpine Δ us) (Some_inj knows known) qs)

  pub bodies_are_shaped : (local : List SimpleType) (path : List ℕ) {b c : LfTerm} {s : SimpleType} → Shaped (under_all local Γ) (lam b) s → Shaped (under_all local Γ) (lam c) s →
      ShapedEquation kinds Γ (of_terms path b c)
  bodies_are_shaped local path {b} {c} (shaped_lam {a = a} {s = s} p) (shaped_lam q) =
      let same : under a (under_all local Γ) ≡ under_all (local ++ a ∷ []) Γ = sym (under_all-append local (a ∷ []) Γ) in
      (local ++ a ∷ [], s, subst (λ Δ. Shaped Δ b s) same p, subst (λ Δ. Shaped Δ c s) same q)

  -- what an assigning step puts
  pub left_entry_is_shaped : (frozen : Frozen) (path : List ℕ) {h k : LfHead} {ts us : Spine} (e : LfAssigned) → ShapedEquation kinds Γ (of_terms path (at h ts) (at k us)) →
      solving frozen (at h ts) (at k us) ≡ Some e → ShapedEntry Γ e
  left_entry_is_shaped frozen path {h} {k} {ts} {us} e shaped f =
      let Δ = under_all shaped.0 Γ in
      let at_base = Shaped-at-base shaped.2 in
      solved_entry_is_shaped frozen Γ shaped.0 (at h ts) (at k us) e (solving-Some frozen (at h ts) (at k us) e f) (subst (Shaped Δ (at h ts)) at_base shaped.2) (subst (Shaped Δ (at k us)) at_base shaped.3)

  pub right_entry_is_shaped : (frozen : Frozen) (path : List ℕ) {h k : LfHead} {ts us : Spine} (e : LfAssigned) → ShapedEquation kinds Γ (of_terms path (at h ts) (at k us)) →
      solving frozen (at k us) (at h ts) ≡ Some e → ShapedEntry Γ e
  right_entry_is_shaped frozen path {h} {k} {ts} {us} e shaped f =
      left_entry_is_shaped frozen path {h = k} {k = h} {ts = us} {us = ts} e (shaped.0, shaped.1, shaped.3, shaped.2) f

  pub first_and_rest : (q : LfEquation) (rest : List LfEquation) → AreShaped (q ∷ rest) → ShapedEquation kinds Γ q × AreShaped rest
  first_and_rest q rest shaped = (All-head (ShapedEquation kinds Γ) q rest shaped, All-tail (ShapedEquation kinds Γ) q rest shaped)

  pub step_keeps_shapes : {frozen : Frozen} {state other : Unifying} → Step frozen state other → AreShaped state.equations → AreShaped other.equations
  step_keeps_shapes (step_atoms {path = path} {f = f} {ts = ts} {us = us} {rest = rest}) shaped =
      let parts = first_and_rest _ rest shaped in
      let both = atoms_at_one_shape {f = f} {ts = ts} {us = us} parts.0.0 parts.0.1 in
      All-append (ShapedEquation kinds Γ) (argument_equations path 0 ts us) rest (argument_equations_are_shaped [] path 0 ts us both.1 both.2) parts.1
  step_keeps_shapes (step_lams {path = path} {b = b} {c = c} {rest = rest}) shaped =
      let parts = first_and_rest _ rest shaped in
      All-cons (ShapedEquation kinds Γ) (of_terms (path ++ 0 ∷ []) b c) rest (bodies_are_shaped parts.0.0 (path ++ 0 ∷ []) parts.0.2 parts.0.3) parts.1
  step_keeps_shapes (step_same {rest = rest}) shaped = (first_and_rest _ rest shaped).1
  step_keeps_shapes (step_heads {path = path} {ts = ts} {us = us} {rest = rest} rigid differ) shaped =
      let parts = first_and_rest _ rest shaped in
      let both = spines_at_one_shape parts.0.2 parts.0.3 in
      All-append (ShapedEquation kinds Γ) (argument_equations path 0 ts us) rest (argument_equations_are_shaped parts.0.0 path 0 ts us both.1 both.2) parts.1
  step_keeps_shapes {frozen} (step_left {path = path} {h = h} {k = k} {ts = ts} {us = us} {rest = rest} {results = results} e f left others) shaped =
      let parts = first_and_rest (of_terms path (at h ts) (at k us)) rest shaped in
      equations_left_are_shaped kinds Γ e (left_entry_is_shaped frozen path e parts.0 f) rest results parts.1 left
  step_keeps_shapes {frozen} (step_right {path = path} {h = h} {k = k} {ts = ts} {us = us} {rest = rest} {results = results} e none f left others) shaped =
      let parts = first_and_rest (of_terms path (at h ts) (at k us)) rest shaped in
      equations_left_are_shaped kinds Γ e (right_entry_is_shaped frozen path e parts.0 f) rest results parts.1 left
