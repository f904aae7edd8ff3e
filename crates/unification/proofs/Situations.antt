-- What two spines that stand against each other are, as one value: so at most one transition fits, and there is one wherever there is an equation.
use Rattle.std.proofs.Common.{◌≡◌, ◌≢◌, ℕ, Bool, true, false, ◌&&◌, Option, Some, None, refl, sym, ap, ap₂, subst}
use Rattle.std.proofs.lemmas.Bool.{and_left, and_right, and_from, and_parts, false_from_ne_true, both_ways}
use Rattle.lf_definitions.specs.Syntax.{LfHead, bound, constant, metavariable, LfTerm, at, Spine}
use Rattle.lf_definitions.specs.Occurrence.{IsRigid, rigid_bound, rigid_constant}
use Rattle.lf_definitions.specs.Instantiation.{LfAssigned}
use Rattle.head_laws.specs.Mentions.{same_head, is_rigid}
use Rattle.head_laws.proofs.Heads.{same_head-true, same_head-from}
use Rattle.unification.specs.Transitions.{Frozen, solving}
use Rattle.unification.proofs.Tests.{IsRigid-is_rigid, is_rigid-IsRigid}
use Rattle.unification.proofs.SameTerms.{same_term, same_term-true, same_term-same}
use Rattle.unification.proofs.Solvings.{solving-Some, solving-rigid, solved_differs}

pub data Situation : Type 0 where
  identical : Situation
  alike : Situation
  apart : Situation
  solves_left : LfAssigned → Situation
  solves_right : LfAssigned → Situation
  unsolved : Situation

abbrev solvable_right : Option LfAssigned → Situation
solvable_right (Some e) = solves_right e
solvable_right None = unsolved

abbrev solvable : Option LfAssigned → Option LfAssigned → Situation
solvable (Some e) right = solves_left e
solvable None right = solvable_right right

abbrev by_heads : Bool → Bool → Situation → Situation
by_heads true true flexible = alike
by_heads true false flexible = apart
by_heads false same flexible = flexible

abbrev by_syntax : Bool → Situation → Situation
by_syntax true other = identical
by_syntax false other = other

-- of two spines
abbrev pub situation : Frozen → LfHead → Spine → LfHead → Spine → Situation
situation frozen h ts k us =
    by_syntax (same_term (at h ts) (at k us)) (by_heads (is_rigid h && is_rigid k) (same_head h k) (solvable (solving frozen (at h ts) (at k us)) (solving frozen (at k us) (at h ts))))

-- a situation by what it depends on
situated : (frozen : Frozen) (h : LfHead) (ts : Spine) (k : LfHead) (us : Spine) {same rigid heads : Bool} {left right : Option LfAssigned} → same_term (at h ts) (at k us) ≡ same → (is_rigid h && is_rigid k) ≡ rigid →
    same_head h k ≡ heads → solving frozen (at h ts) (at k us) ≡ left → solving frozen (at k us) (at h ts) ≡ right →
    situation frozen h ts k us ≡ by_syntax same (by_heads rigid heads (solvable left right))
situated frozen h ts k us d e f g i = ap₂ by_syntax d (ap₂ (λ x y. x y) (ap₂ by_heads e f) (ap₂ solvable g i))

differ_syntax : (t u : LfTerm) → (t ≡ u → ⊥) → same_term t u ≡ false
differ_syntax t u differ = false_from_ne_true (same_term t u) (λ e. differ (same_term-true t u e))

spines_of : {h k : LfHead} {ts us : Spine} → at h ts ≡ at k us → ts ≡ us
spines_of e = cc

heads_of : {h k : LfHead} {ts us : Spine} → at h ts ≡ at k us → h ≡ k
heads_of e = cc

-- Where a side is assigned its head is no variable or constant.
not_rigid : (frozen : Frozen) (h : LfHead) (ts : Spine) (u : LfTerm) (e : LfAssigned) → solving frozen (at h ts) u ≡ Some e → is_rigid h ≡ false
not_rigid frozen (bound n) ts u e f = absurd cc
not_rigid frozen (constant c) ts u e f = absurd cc
not_rigid frozen (metavariable g) ts u e f = refl

-- One lemma for each way in which a transition begins.
pub is_identical : (frozen : Frozen) (h : LfHead) (ts : Spine) → situation frozen h ts h ts ≡ identical
is_identical frozen h ts = situated frozen h ts h ts (same_term-same (at h ts)) refl refl refl refl

pub is_alike : (frozen : Frozen) (h : LfHead) (ts us : Spine) → IsRigid h → ts ≢ us → situation frozen h ts h us ≡ alike
is_alike frozen h ts us rigid differ =
    let r = is_rigid-IsRigid rigid in
    situated frozen h ts h us (differ_syntax (at h ts) (at h us) (λ e. differ (spines_of e))) (and_from (is_rigid h) (is_rigid h) r r) (same_head-from h h refl) refl refl

pub is_apart : (frozen : Frozen) (h : LfHead) (ts : Spine) (k : LfHead) (us : Spine) → IsRigid h → IsRigid k → h ≢ k → situation frozen h ts k us ≡ apart
is_apart frozen h ts k us rigid rigid_k differ =
    situated frozen h ts k us (differ_syntax (at h ts) (at k us) (λ e. differ (heads_of e)))
    (and_from (is_rigid h) (is_rigid k) (is_rigid-IsRigid rigid) (is_rigid-IsRigid rigid_k))
    (false_from_ne_true (same_head h k) (λ e. differ (same_head-true h k e))) refl refl

pub is_solves_left : (frozen : Frozen) (h : LfHead) (ts : Spine) (k : LfHead) (us : Spine) (e : LfAssigned) → solving frozen (at h ts) (at k us) ≡ Some e → situation frozen h ts k us ≡ solves_left e
is_solves_left frozen h ts k us e f =
    situated frozen h ts k us (differ_syntax (at h ts) (at k us) (solved_differs frozen (at h ts) (at k us) e (solving-Some frozen (at h ts) (at k us) e f)))
    (and_left (is_rigid h) (is_rigid k) (not_rigid frozen h ts (at k us) e f)) refl f refl

pub is_solves_right : (frozen : Frozen) (h : LfHead) (ts : Spine) (k : LfHead) (us : Spine) (e : LfAssigned) → solving frozen (at h ts) (at k us) ≡ None → solving frozen (at k us) (at h ts) ≡ Some e →
    situation frozen h ts k us ≡ solves_right e
is_solves_right frozen h ts k us e none f =
    situated frozen h ts k us (differ_syntax (at h ts) (at k us) (λ q. solved_differs frozen (at k us) (at h ts) e (solving-Some frozen (at k us) (at h ts) e f) (sym q)))
    (and_right (is_rigid h) (is_rigid k) (not_rigid frozen k us (at h ts) e f)) refl none f

pub is_unsolved_left : (frozen : Frozen) (g : ℕ) (ts : Spine) (k : LfHead) (us : Spine) → at (metavariable g) ts ≢ at k us → solving frozen (at (metavariable g) ts) (at k us) ≡ None →
    solving frozen (at k us) (at (metavariable g) ts) ≡ None → situation frozen (metavariable g) ts k us ≡ unsolved
is_unsolved_left frozen g ts k us differ none other = situated frozen (metavariable g) ts k us (differ_syntax (at (metavariable g) ts) (at k us) differ) refl refl none other

rigid_differs : {h : LfHead} {g : ℕ} → IsRigid h → h ≡ metavariable g → ⊥
rigid_differs (rigid_bound n) e = cc
rigid_differs (rigid_constant c) e = cc

pub is_unsolved_right : (frozen : Frozen) (h : LfHead) (ts : Spine) (g : ℕ) (us : Spine) → IsRigid h → solving frozen (at (metavariable g) us) (at h ts) ≡ None →
    situation frozen h ts (metavariable g) us ≡ unsolved
is_unsolved_right frozen h ts g us rigid none =
    situated frozen h ts (metavariable g) us (differ_syntax (at h ts) (at (metavariable g) us) (λ e. rigid_differs rigid (heads_of e)))
    (and_right (is_rigid h) false refl) refl (solving-rigid frozen h ts (at (metavariable g) us) rigid) none

-- And what is known in each situation.
pub data IsSituated (frozen : Frozen) (h : LfHead) (ts : Spine) (k : LfHead) (us : Spine) : Type 0 where
  are_identical : h ≡ k → ts ≡ us → IsSituated frozen h ts k us
  are_alike : IsRigid h → h ≡ k → ts ≢ us → IsSituated frozen h ts k us
  are_apart : IsRigid h → IsRigid k → h ≢ k → IsSituated frozen h ts k us
  is_left : (e : LfAssigned) → solving frozen (at h ts) (at k us) ≡ Some e → IsSituated frozen h ts k us
  is_right : (e : LfAssigned) → solving frozen (at h ts) (at k us) ≡ None → solving frozen (at k us) (at h ts) ≡ Some e → IsSituated frozen h ts k us
  is_unsolved_at_left : (g : ℕ) → h ≡ metavariable g → at h ts ≢ at k us → solving frozen (at h ts) (at k us) ≡ None → solving frozen (at k us) (at h ts) ≡ None → IsSituated frozen h ts k us
  is_unsolved_at_right : (g : ℕ) → IsRigid h → k ≡ metavariable g → solving frozen (at k us) (at h ts) ≡ None → IsSituated frozen h ts k us

module _ (frozen : Frozen) (h : LfHead) (ts : Spine) (k : LfHead) (us : Spine) where
  abbrev Is : Type 0
  Is = IsSituated frozen h ts k us

  by_reasons : (differ : at h ts ≢ at k us) → (is_rigid h && is_rigid k) ≡ false → solving frozen (at h ts) (at k us) ≡ None → solving frozen (at k us) (at h ts) ≡ None → Is
  by_reasons differ flexible none other = at_head h refl
    where
      at_right : IsRigid h → (j : LfHead) → k ≡ j → Is
      at_right rigid (metavariable g) e = is_unsolved_at_right g rigid e other
      at_right rigid (bound n) e = absurd (both_ways (is_rigid h && is_rigid k) flexible (and_from (is_rigid h) (is_rigid k) (is_rigid-IsRigid rigid) (ap is_rigid e)))
      at_right rigid (constant c) e = absurd (both_ways (is_rigid h && is_rigid k) flexible (and_from (is_rigid h) (is_rigid k) (is_rigid-IsRigid rigid) (ap is_rigid e)))

      at_head : (j : LfHead) → h ≡ j → Is
      at_head (metavariable g) e = is_unsolved_at_left g e differ none other
      at_head (bound n) e = at_right (subst IsRigid (sym e) (rigid_bound n)) k refl
      at_head (constant c) e = at_right (subst IsRigid (sym e) (rigid_constant c)) k refl

  by_solving : (left right : Option LfAssigned) → solving frozen (at h ts) (at k us) ≡ left → solving frozen (at k us) (at h ts) ≡ right → (at h ts ≢ at k us) → (is_rigid h && is_rigid k) ≡ false → Is
  by_solving (Some e) right f g differ flexible = is_left e f
  by_solving None (Some e) f g differ flexible = is_right e f g
  by_solving None None f g differ flexible = by_reasons differ flexible f g

  by_rigid : (rigid heads : Bool) → (is_rigid h && is_rigid k) ≡ rigid → same_head h k ≡ heads → (at h ts ≢ at k us) → Is
  by_rigid true true e f differ =
      let same = same_head-true h k f in
      are_alike (IsRigid-is_rigid h (and_parts (is_rigid h) (is_rigid k) e).0) same (λ q. differ (ap₂ at same q))
  by_rigid true false e f differ =
      let both = and_parts (is_rigid h) (is_rigid k) e in
      are_apart (IsRigid-is_rigid h both.0) (IsRigid-is_rigid k both.1) (λ q. both_ways (same_head h k) f (same_head-from h k q))
  by_rigid false heads e f differ = by_solving (solving frozen (at h ts) (at k us)) (solving frozen (at k us) (at h ts)) refl refl differ e

  pub is_situated : Is
  is_situated = each (same_term (at h ts) (at k us)) refl
    where
      each : (b : Bool) → same_term (at h ts) (at k us) ≡ b → Is
      each true e = let same = same_term-true (at h ts) (at k us) e in are_identical (heads_of same) (spines_of same)
      each false e =
          by_rigid (is_rigid h && is_rigid k) (same_head h k) refl refl
          (λ q. both_ways (same_term (at h ts) (at k us)) e (subst (λ x. same_term (at h ts) x ≡ true) q (same_term-same (at h ts))))
