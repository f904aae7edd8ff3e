-- Reading variables, patterns, the tests of variables and of occurrence, and what a metavariable is assigned, where metavariables are renamed.
use Rattle.std.proofs.Common.{◌≡◌, ℕ, zero, suc, Bool, true, false, Option, Some, None, option_map, List, refl, sym, ap, ap₂, ◌∙◌}
use Rattle.std.specs.Prelude.{not, ◌&&◌, ◌||◌, is_some, length, if◌then◌else◌}
use mathlib.Core.Path.{fun_ext}
use Rattle.lf_definitions.specs.Syntax.{LfHead, bound, constant, metavariable, LfTerm, lam, at, Spine, no_args, arg}
use Rattle.lf_definitions.specs.Renaming.{rename, rename_spine}
use Rattle.lf_definitions.specs.Instantiation.{metavariables, IsInjective}
use Rattle.lf_definitions.proofs.Renaming.{after, rename-rename}
use Rattle.head_laws.specs.Mentions.{same_head, occurs_in, occurs_in_spine, is_rigid}
use Rattle.head_laws.proofs.Metavariables.{lifted-metavariables}
use Rattle.head_laws.proofs.Numbers.{nat_eq-map}
use Rattle.unification.specs.Patterns.{from_outside, is_number, reads_under, are_own, joined_reading, variables_of, where_different, pattern_of, under_binder, is_among, is_over, is_over_spine, escapes_from, spine_escapes_from, occurs_plainly, occurs_plainly_in_spine, placed}
use Rattle.unification.specs.Equations.{Reason, occurs, escapes, prune, not_pattern}
use Rattle.unification.specs.Transitions.{Frozen, entry_for, solving, has_head, reason_among, reason_of}
use Rattle.renamed_unification.specs.Laws.{rename_entry, rename_reason}

-- What looks at no metavariable's number.
mutual
  reads_under-metavariables : (ρ : ℕ → ℕ) (t : LfTerm) (count : ℕ) → reads_under count (rename (metavariables ρ) t) ≡ reads_under count t
  reads_under-metavariables ρ (lam b) count = ap (λ ξ. reads_under (suc count) (rename ξ b)) (lifted-metavariables ρ) ∙ reads_under-metavariables ρ b (suc count)
  reads_under-metavariables ρ (at (bound n) ts) count = ap (λ own. if own then from_outside count n else None) (are_own-metavariables ρ ts count)
  reads_under-metavariables ρ (at (constant c) ts) count = refl
  reads_under-metavariables ρ (at (metavariable g) ts) count = refl

  are_own-metavariables : (ρ : ℕ → ℕ) (ts : Spine) (count : ℕ) → are_own count (rename_spine (metavariables ρ) ts) ≡ are_own count ts
  are_own-metavariables ρ no_args zero = refl
  are_own-metavariables ρ no_args (suc count) = refl
  are_own-metavariables ρ (arg t ts) zero = refl
  are_own-metavariables ρ (arg t ts) (suc count) = ap₂ (λ o own. is_number count o && own) (reads_under-metavariables ρ t zero) (are_own-metavariables ρ ts count)

variables_of-metavariables : (ρ : ℕ → ℕ) (ts : Spine) → variables_of (rename_spine (metavariables ρ) ts) ≡ variables_of ts
variables_of-metavariables ρ no_args = refl
variables_of-metavariables ρ (arg t ts) = ap₂ joined_reading (reads_under-metavariables ρ t zero) (variables_of-metavariables ρ ts)

pub pattern_of-metavariables : (ρ : ℕ → ℕ) (ts : Spine) → pattern_of (rename_spine (metavariables ρ) ts) ≡ pattern_of ts
pattern_of-metavariables ρ ts = ap where_different (variables_of-metavariables ρ ts)

is_among-metavariables : (ρ : ℕ → ℕ) (ns : List ℕ) (h : LfHead) → is_among ns (metavariables ρ h) ≡ is_among ns h
is_among-metavariables ρ ns (bound n) = refl
is_among-metavariables ρ ns (constant c) = refl
is_among-metavariables ρ ns (metavariable g) = refl

is_rigid-metavariables : (ρ : ℕ → ℕ) (h : LfHead) → is_rigid (metavariables ρ h) ≡ is_rigid h
is_rigid-metavariables ρ (bound n) = refl
is_rigid-metavariables ρ (constant c) = refl
is_rigid-metavariables ρ (metavariable g) = refl

mutual
  is_over-metavariables : (ρ : ℕ → ℕ) (t : LfTerm) (ns : List ℕ) → is_over ns (rename (metavariables ρ) t) ≡ is_over ns t
  is_over-metavariables ρ (lam b) ns = ap (λ ξ. is_over (under_binder ns) (rename ξ b)) (lifted-metavariables ρ) ∙ is_over-metavariables ρ b (under_binder ns)
  is_over-metavariables ρ (at h ts) ns = ap₂ (λ among over. among && over) (is_among-metavariables ρ ns h) (is_over_spine-metavariables ρ ts ns)

  is_over_spine-metavariables : (ρ : ℕ → ℕ) (ts : Spine) (ns : List ℕ) → is_over_spine ns (rename_spine (metavariables ρ) ts) ≡ is_over_spine ns ts
  is_over_spine-metavariables ρ no_args ns = refl
  is_over_spine-metavariables ρ (arg t ts) ns = ap₂ (λ now later. now && later) (is_over-metavariables ρ t ns) (is_over_spine-metavariables ρ ts ns)

mutual
  escapes_from-metavariables : (ρ : ℕ → ℕ) (t : LfTerm) (ns : List ℕ) → escapes_from ns (rename (metavariables ρ) t) ≡ escapes_from ns t
  escapes_from-metavariables ρ (lam b) ns = ap (λ ξ. escapes_from (under_binder ns) (rename ξ b)) (lifted-metavariables ρ) ∙ escapes_from-metavariables ρ b (under_binder ns)
  escapes_from-metavariables ρ (at h ts) ns =
      ap₂ (λ among later. not among || later) (is_among-metavariables ρ ns h)
      (ap₂ (λ rigid later. rigid && later) (is_rigid-metavariables ρ h) (spine_escapes_from-metavariables ρ ts ns))

  spine_escapes_from-metavariables : (ρ : ℕ → ℕ) (ts : Spine) (ns : List ℕ) → spine_escapes_from ns (rename_spine (metavariables ρ) ts) ≡ spine_escapes_from ns ts
  spine_escapes_from-metavariables ρ no_args ns = refl
  spine_escapes_from-metavariables ρ (arg t ts) ns = ap₂ (λ now later. now || later) (escapes_from-metavariables ρ t ns) (spine_escapes_from-metavariables ρ ts ns)

-- What looks whether two numbers are the same.
module _ (ρ : ℕ → ℕ) (injective : IsInjective ρ) (g : ℕ) where
  same_head-metavariables : (h : LfHead) → same_head (metavariable (ρ g)) (metavariables ρ h) ≡ same_head (metavariable g) h
  same_head-metavariables (bound n) = refl
  same_head-metavariables (constant c) = refl
  same_head-metavariables (metavariable m) = nat_eq-map ρ injective g m

  has_head-metavariables : (t : LfTerm) → has_head (metavariable (ρ g)) (rename (metavariables ρ) t) ≡ has_head (metavariable g) t
  has_head-metavariables (lam b) = refl
  has_head-metavariables (at h ts) = same_head-metavariables h

  mutual
    occurs_in-metavariables : (t : LfTerm) → occurs_in (metavariable (ρ g)) (rename (metavariables ρ) t) ≡ occurs_in (metavariable g) t
    occurs_in-metavariables (lam b) = ap (λ ξ. occurs_in (metavariable (ρ g)) (rename ξ b)) (lifted-metavariables ρ) ∙ occurs_in-metavariables b
    occurs_in-metavariables (at h ts) = ap₂ (λ now later. now || later) (same_head-metavariables h) (occurs_in_spine-metavariables ts)

    occurs_in_spine-metavariables : (ts : Spine) → occurs_in_spine (metavariable (ρ g)) (rename_spine (metavariables ρ) ts) ≡ occurs_in_spine (metavariable g) ts
    occurs_in_spine-metavariables no_args = refl
    occurs_in_spine-metavariables (arg t ts) = ap₂ (λ now later. now || later) (occurs_in-metavariables t) (occurs_in_spine-metavariables ts)

  mutual
    occurs_plainly-metavariables : (t : LfTerm) → occurs_plainly (ρ g) (rename (metavariables ρ) t) ≡ occurs_plainly g t
    occurs_plainly-metavariables (lam b) = ap (λ ξ. occurs_plainly (ρ g) (rename ξ b)) (lifted-metavariables ρ) ∙ occurs_plainly-metavariables b
    occurs_plainly-metavariables (at h ts) =
        ap₂ (λ here inside. here || inside)
        (ap₂ (λ same ns. same && is_some ns) (same_head-metavariables h) (variables_of-metavariables ρ ts))
        (ap₂ (λ rigid later. rigid && later) (is_rigid-metavariables ρ h) (occurs_plainly_in_spine-metavariables ts))

    occurs_plainly_in_spine-metavariables : (ts : Spine) → occurs_plainly_in_spine (ρ g) (rename_spine (metavariables ρ) ts) ≡ occurs_plainly_in_spine g ts
    occurs_plainly_in_spine-metavariables no_args = refl
    occurs_plainly_in_spine-metavariables (arg t ts) = ap₂ (λ now later. now || later) (occurs_plainly-metavariables t) (occurs_plainly_in_spine-metavariables ts)

-- Variables are placed before metavariables are renamed, or afterwards.
placed-metavariables : (ρ : ℕ → ℕ) (ns : List ℕ) (t : LfTerm) → rename (placed ns) (rename (metavariables ρ) t) ≡ rename (metavariables ρ) (rename (placed ns) t)
placed-metavariables ρ ns t =
    rename-rename t (placed ns) (metavariables ρ) ∙ ap (λ ξ. rename ξ t) (fun_ext each) ∙ sym (rename-rename t (metavariables ρ) (placed ns))
  where
    each : (h : LfHead) → after (placed ns) (metavariables ρ) h ≡ after (metavariables ρ) (placed ns) h
    each (bound n) = refl
    each (constant c) = refl
    each (metavariable g) = refl

-- the reason that the tests say, where `occurring` is that of an occurrence
abbrev by_tests : List ℕ → Reason → Bool → Bool → Bool → Bool → Bool → Reason
by_tests path occurring is_frozen has plainly escaping over =
    if is_frozen then not_pattern path
    else (if has then prune path
    else (if plainly then occurring
    else (if escaping then escapes path
    else (if over then not_pattern path else prune path))))

-- the same metavariables are frozen
abbrev pub FreezesRenamed : (ℕ → ℕ) → Frozen → Frozen → Type 0
FreezesRenamed ρ frozen other = (g : ℕ) → other (ρ g) ≡ frozen g

module _ (ρ : ℕ → ℕ) (injective : IsInjective ρ) (frozen other : Frozen) (freezes : FreezesRenamed ρ frozen other) where
  entry_for-renamed : (g : ℕ) (o : Option (List ℕ)) (t : LfTerm) → entry_for other (ρ g) o (rename (metavariables ρ) t) ≡ option_map (rename_entry ρ) (entry_for frozen g o t)
  entry_for-renamed g None t = refl
  entry_for-renamed g (Some ns) t =
      ap₂ (λ test body. if test then Some (record { assigned_goal = ρ g; binders_count = length ns; body = body }) else None)
      (ap₂ (λ is_frozen rest. not is_frozen && rest) (freezes g) (ap₂ (λ occurring over. not occurring && over) (occurs_in-metavariables ρ injective g t) (is_over-metavariables ρ t ns)))
      (placed-metavariables ρ ns t)
      ∙ each (not (frozen g) && (not (occurs_in (metavariable g) t) && is_over ns t))
    where
      each : (test : Bool) → (if test then Some (rename_entry ρ (record { assigned_goal = g; binders_count = length ns; body = rename (placed ns) t })) else None)
          ≡ option_map (rename_entry ρ) (if test then Some (record { assigned_goal = g; binders_count = length ns; body = rename (placed ns) t }) else None)
      each true = refl
      each false = refl

  pub solving-renamed : (t u : LfTerm) → solving other (rename (metavariables ρ) t) (rename (metavariables ρ) u) ≡ option_map (rename_entry ρ) (solving frozen t u)
  solving-renamed (lam b) u = refl
  solving-renamed (at (bound n) ts) u = refl
  solving-renamed (at (constant c) ts) u = refl
  solving-renamed (at (metavariable g) ts) u =
      ap (λ o. entry_for other (ρ g) o (rename (metavariables ρ) u)) (pattern_of-metavariables ρ ts) ∙ entry_for-renamed g (pattern_of ts) u

  reason_among-renamed : (path : List ℕ) (g : ℕ) (o : Option (List ℕ)) (t : LfTerm) →
      reason_among other path (ρ g) o (rename (metavariables ρ) t) ≡ rename_reason ρ (reason_among frozen path g o t)
  reason_among-renamed path g None t = refl
  reason_among-renamed path g (Some ns) t =
      ap₂ (λ is_frozen has. by_tests path (occurs (ρ g)) is_frozen has (occurs_plainly (ρ g) (rename (metavariables ρ) t)) (escapes_from ns (rename (metavariables ρ) t)) (is_over ns (rename (metavariables ρ) t)))
      (freezes g) (has_head-metavariables ρ injective g t)
      ∙ ap₂ (λ plainly escaping. by_tests path (occurs (ρ g)) (frozen g) (has_head (metavariable g) t) plainly escaping (is_over ns (rename (metavariables ρ) t)))
      (occurs_plainly-metavariables ρ injective g t) (escapes_from-metavariables ρ t ns)
      ∙ ap (by_tests path (occurs (ρ g)) (frozen g) (has_head (metavariable g) t) (occurs_plainly g t) (escapes_from ns t)) (is_over-metavariables ρ t ns)
      ∙ each (frozen g) (has_head (metavariable g) t) (occurs_plainly g t) (escapes_from ns t) (is_over ns t)
    where
      each : (is_frozen has plainly escaping over : Bool) → by_tests path (occurs (ρ g)) is_frozen has plainly escaping over ≡ rename_reason ρ (by_tests path (occurs g) is_frozen has plainly escaping over)
      each true has plainly escaping over = refl
      each false true plainly escaping over = refl
      each false false true escaping over = refl
      each false false false true over = refl
      each false false false false true = refl
      each false false false false false = refl

  pub reason_of-renamed : (path : List ℕ) (g : ℕ) (ts : Spine) (t : LfTerm) →
      reason_of other path (ρ g) (rename_spine (metavariables ρ) ts) (rename (metavariables ρ) t) ≡ rename_reason ρ (reason_of frozen path g ts t)
  reason_of-renamed path g ts t =
      ap (λ o. reason_among other path (ρ g) o (rename (metavariables ρ) t)) (pattern_of-metavariables ρ ts) ∙ reason_among-renamed path g (pattern_of ts) t
