-- Where no metavariable occurs, none is found.
use Rattle.std.proofs.Common.{◌≡◌, ℕ, Bool, true, false, ◌&&◌, ◌||◌, refl, ap, ◌∙◌}
use Rattle.std.specs.Prelude.{is_some}
use Rattle.std.proofs.lemmas.Bool.{false_from_ne_true}
use Rattle.std.proofs.Math.Bool.{and-false}
use Rattle.lf_definitions.specs.Syntax.{metavariable, LfTerm, lam, at, Spine, no_args, arg}
use Rattle.lf_terms.specs.Extents.{ExcludesMetavariables, InTerm, InSpine}
use Rattle.head_laws.specs.Mentions.{same_head, is_rigid, occurs_in, occurs_in_spine}
use Rattle.head_laws.proofs.Occurrence.{OccursIn-true, OccursInSpine-true}
use Rattle.unification.specs.Patterns.{variables_of, occurs_plainly, occurs_plainly_in_spine}

pub not_mentioned : (g : ℕ) (t : LfTerm) → ExcludesMetavariables (InTerm t) → occurs_in (metavariable g) t ≡ false
not_mentioned g t none = false_from_ne_true (occurs_in (metavariable g) t) (λ e. none g (OccursIn-true (metavariable g) t e))

pub not_mentioned_among : (g : ℕ) (ts : Spine) → ExcludesMetavariables (InSpine ts) → occurs_in_spine (metavariable g) ts ≡ false
not_mentioned_among g ts none = false_from_ne_true (occurs_in_spine (metavariable g) ts) (λ e. none g (OccursInSpine-true (metavariable g) ts e))

pub either_true : (a b : Bool) → (a || b) ≡ false → (a ≡ false) × (b ≡ false)
either_true true b e = absurd cc
either_true false b e = (refl, e)

mutual
  plainly_none : (g : ℕ) (t : LfTerm) → occurs_in (metavariable g) t ≡ false → occurs_plainly g t ≡ false
  plainly_none g (lam b) e = plainly_none g b e
  plainly_none g (at h ts) e =
      let both = either_true (same_head (metavariable g) h) (occurs_in_spine (metavariable g) ts) e in
      ap (λ b. (b && is_some (variables_of ts)) || (is_rigid h && occurs_plainly_in_spine g ts)) both.0
      ∙ ap (λ b. is_rigid h && b) (plainly_none_among g ts both.1) ∙ and-false (is_rigid h)

  plainly_none_among : (g : ℕ) (ts : Spine) → occurs_in_spine (metavariable g) ts ≡ false → occurs_plainly_in_spine g ts ≡ false
  plainly_none_among g no_args e = refl
  plainly_none_among g (arg t ts) e =
      let both = either_true (occurs_in (metavariable g) t) (occurs_in_spine (metavariable g) ts) e in
      ap (λ b. b || occurs_plainly_in_spine g ts) (plainly_none g t both.0) ∙ plainly_none_among g ts both.1

pub not_plain : (g : ℕ) (t : LfTerm) → ExcludesMetavariables (InTerm t) → occurs_plainly g t ≡ false
not_plain g t none = plainly_none g t (not_mentioned g t none)

pub not_plain_among : (g : ℕ) (ts : Spine) → ExcludesMetavariables (InSpine ts) → occurs_plainly_in_spine g ts ≡ false
not_plain_among g ts none = plainly_none_among g ts (not_mentioned_among g ts none)
