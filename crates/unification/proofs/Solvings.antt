-- What is known where a side of an equation is solvable for the other.
use Rattle.std.proofs.Common.{◌≡◌, ℕ, Bool, true, false, not, ◌&&◌, List, length, Option, Some, None, refl, sym, ap, ap₂, ◌∙◌, subst}
use Rattle.std.specs.Prelude.{if◌then◌else◌}
use Rattle.std.proofs.lemmas.Bool.{and_parts, not-true, or_left}
use Rattle.lf_definitions.specs.Syntax.{LfHead, bound, constant, metavariable, LfTerm, lam, at, Spine, SimpleType, base, arity, lams}
use Rattle.lf_definitions.specs.Renaming.{rename}
use Rattle.lf_definitions.specs.Shaping.{Scope, under_all, Shaped, shaped_at, ShapedSpine}
use Rattle.lf_definitions.specs.ShapedGoals.{without_variables}
use Rattle.lf_definitions.specs.Occurrence.{IsRigid, rigid_bound, rigid_constant}
use Rattle.lf_definitions.specs.Instantiation.{LfAssigned}
use Rattle.lf_definitions.proofs.Options.{Some-Some}
use Rattle.lf_definitions.proofs.Expansion.{Shaped-lams}
use Rattle.head_laws.specs.Mentions.{same_head, occurs_in, occurs_in_spine}
use Rattle.head_laws.proofs.Heads.{same_head-from}
use Rattle.unification.specs.Patterns.{pattern_of, is_over, placed}
use Rattle.unification.specs.Transitions.{Frozen, entry_for, solving}
use Rattle.unification.specs.Solutions.{ShapedEntry}
use Rattle.unification.proofs.PatternSpines.{AreVariables, pattern_at_shape, length-AreVariables}
use Rattle.unification.proofs.Spreading.{under_all-metavariable, Shaped-placed}

-- `t` is a metavariable that isn't frozen, applied to a pattern, and may be assigned `u`: by the entry `e`.
pub record IsSolved (frozen : Frozen) (t u : LfTerm) (e : LfAssigned) : Type 0 where
  pub args : Spine
  pub numbers : List ℕ
  pub term_is : t ≡ at (metavariable e.assigned_goal) args
  pub is_pattern : pattern_of args ≡ Some numbers
  pub unfrozen : frozen e.assigned_goal ≡ false
  pub not_within : occurs_in (metavariable e.assigned_goal) u ≡ false
  pub over : is_over numbers u ≡ true
  pub count_is : e.binders_count ≡ length numbers
  pub body_is : e.body ≡ rename (placed numbers) u

entry_of : Frozen → ℕ → List ℕ → LfTerm → LfAssigned
entry_of frozen g ns u = record { assigned_goal = g; binders_count = length ns; body = rename (placed ns) u }

solved_entry : (frozen : Frozen) (g : ℕ) (ts : Spine) (ns : List ℕ) (u : LfTerm) → pattern_of ts ≡ Some ns → (not (frozen g) && (not (occurs_in (metavariable g) u) && is_over ns u)) ≡ true →
    IsSolved frozen (at (metavariable g) ts) u (entry_of frozen g ns u)
unfolding entry_of
solved_entry frozen g ts ns u pattern e =
    let first = and_parts (not (frozen g)) (not (occurs_in (metavariable g) u) && is_over ns u) e in
    let second = and_parts (not (occurs_in (metavariable g) u)) (is_over ns u) first.1 in
    record {
      args = ts;
      numbers = ns;
      term_is = refl;
      is_pattern = pattern;
      unfrozen = not-true (frozen g) first.0;
      not_within = not-true (occurs_in (metavariable g) u) second.0;
      over = second.1;
      count_is = refl;
      body_is = refl;
    }

solved_where : (frozen : Frozen) (g : ℕ) (ts : Spine) (u : LfTerm) (e : LfAssigned) (o : Option (List ℕ)) → pattern_of ts ≡ o → entry_for frozen g o u ≡ Some e → IsSolved frozen (at (metavariable g) ts) u e
unfolding entry_of
solved_where frozen g ts u e None pattern f = absurd cc
solved_where frozen g ts u e (Some ns) pattern f = each (not (frozen g) && (not (occurs_in (metavariable g) u) && is_over ns u)) refl f
  where
    each : (b : Bool) → (not (frozen g) && (not (occurs_in (metavariable g) u) && is_over ns u)) ≡ b → (if b then Some (entry_of frozen g ns u) else None) ≡ Some e →
        IsSolved frozen (at (metavariable g) ts) u e
    each true tested q = subst (IsSolved frozen (at (metavariable g) ts) u) (Some-Some q) (solved_entry frozen g ts ns u pattern tested)
    each false tested q = absurd cc

pub solving-Some : (frozen : Frozen) (t u : LfTerm) (e : LfAssigned) → solving frozen t u ≡ Some e → IsSolved frozen t u e
solving-Some frozen (lam b) u e f = absurd cc
solving-Some frozen (at (bound n) ts) u e f = absurd cc
solving-Some frozen (at (constant c) ts) u e f = absurd cc
solving-Some frozen (at (metavariable g) ts) u e f = solved_where frozen g ts u e (pattern_of ts) refl f

-- Rigid heads are not assigned, and nothing is solvable for itself.
pub solving-rigid : (frozen : Frozen) (h : LfHead) (ts : Spine) (u : LfTerm) → IsRigid h → solving frozen (at h ts) u ≡ None
solving-rigid frozen h ts u (rigid_bound n) = refl
solving-rigid frozen h ts u (rigid_constant c) = refl

pub solved_differs : (frozen : Frozen) (t u : LfTerm) (e : LfAssigned) → IsSolved frozen t u e → t ≡ u → ⊥
solved_differs frozen t u e solved same =
    let g = metavariable e.assigned_goal in
    let within : occurs_in g (at g solved.args) ≡ true = or_left (same_head g g) (occurs_in_spine g solved.args) (same_head-from g g refl) in
    let other : occurs_in g (at g solved.args) ≡ false = ap (occurs_in g) (sym solved.term_is ∙ same) ∙ solved.not_within in
    cc

-- Where both sides are shaped, the metavariable has a shape, and its arguments are variables at it.
pub record SolvedShape (Γ : Scope) (g : ℕ) (ns : List ℕ) (ts : Spine) : Type 0 where
  pub shape : SimpleType
  pub is_known : Γ (metavariable g) ≡ Some shape
  pub are_shaped : ShapedSpine Γ ts shape
  pub are_variables : AreVariables Γ ns ts shape

pub solved_shape : (frozen : Frozen) (Γ : Scope) (t u : LfTerm) (e : LfAssigned) (s : SimpleType) (solved : IsSolved frozen t u e) → Shaped Γ t s → SolvedShape Γ e.assigned_goal solved.numbers solved.args
solved_shape frozen Γ t u e s solved p = at_spine (subst (λ x. Shaped Γ x s) solved.term_is p)
  where
    at_spine : {d : SimpleType} → Shaped Γ (at (metavariable e.assigned_goal) solved.args) d → SolvedShape Γ e.assigned_goal solved.numbers solved.args
    at_spine (shaped_at c known ps) = record { shape = c; is_known = known; are_shaped = ps; are_variables = pattern_at_shape ps solved.numbers solved.is_pattern }

-- What is put has the shape of the metavariable, and speaks of no variable.
pub solved_entry_is_shaped : (frozen : Frozen) (Γ : Scope) (local : List SimpleType) (t u : LfTerm) (e : LfAssigned) → IsSolved frozen t u e → Shaped (under_all local Γ) t base → Shaped (under_all local Γ) u base →
    ShapedEntry Γ e
solved_entry_is_shaped frozen Γ local t u e solved p q =
    let g = e.assigned_goal in
    let ns = solved.numbers in
    let at_shape = solved_shape frozen (under_all local Γ) t u e base solved p in
    let c = at_shape.shape in
    let placed_body = Shaped-placed Γ local ns solved.args c u base at_shape.are_variables solved.over q in
    let count : arity c ≡ e.binders_count = sym (solved.count_is ∙ length-AreVariables at_shape.are_variables) in
    let same : lams (arity c) (rename (placed ns) u) ≡ lams e.binders_count e.body = ap₂ lams count (sym solved.body_is) in (
      c,
      sym (under_all-metavariable local Γ g) ∙ at_shape.is_known,
      subst (λ x. Shaped (without_variables Γ) x c) same (Shaped-lams c (without_variables Γ) (rename (placed ns) u) placed_body),
    )
