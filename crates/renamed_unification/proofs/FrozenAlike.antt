-- Unification asks whether metavariables are frozen for those alone that its equations mention.
use Rattle.std.proofs.Common.{◌≡◌, inl, inr, ℕ, Option, Some, None, List, refl, ap, ◌∙◌, subst}
use Rattle.std.specs.Prelude.{not, ◌&&◌, length, if◌then◌else◌}
use Rattle.lf_definitions.specs.Syntax.{bound, constant, metavariable, LfTerm, lam, at}
use Rattle.lf_definitions.specs.Renaming.{rename}
use Rattle.lf_definitions.specs.Occurrence.{OccursIn, occurs_head}
use Rattle.head_laws.specs.Mentions.{occurs_in}
use Rattle.unification.specs.Patterns.{pattern_of, is_over, escapes_from, occurs_plainly, placed}
use Rattle.unification.specs.Equations.{Reason, occurs, escapes, prune, not_pattern, Ending, Unifying}
use Rattle.unification.specs.Transitions.{Frozen, entry_for, solving, has_head, reason_among, Step, step_atoms, step_lams, step_same, step_heads, step_left, step_right, Stops, stops_families, stops_heads, stops_lam, stops_at, stops_left, stops_right, Ends, ends_solved, ends_refused, ends_later}
use Rattle.unification.specs.Solutions.{in_first, MentionedBy}
use Rattle.unification.proofs.Remaining.{step_mentions}

-- The same numbers are frozen among those that are mentioned.
abbrev pub FreezesAlike : Frozen → Frozen → (ℕ → Type 0) → Type 0
FreezesAlike frozen other P = (g : ℕ) → P g → other g ≡ frozen g

module _ (frozen other : Frozen) where
  entry_for-alike : (g : ℕ) (o : Option (List ℕ)) (t : LfTerm) → other g ≡ frozen g → entry_for other g o t ≡ entry_for frozen g o t
  entry_for-alike g None t alike = refl
  entry_for-alike g (Some ns) t alike =
      ap (λ b. if not b && (not (occurs_in (metavariable g) t) && is_over ns t) then Some (record { assigned_goal = g; binders_count = length ns; body = rename (placed ns) t }) else None) alike

  solving-alike : (t u : LfTerm) → FreezesAlike frozen other (λ g. OccursIn (metavariable g) t) → solving other t u ≡ solving frozen t u
  solving-alike (lam b) u alike = refl
  solving-alike (at (bound n) ts) u alike = refl
  solving-alike (at (constant c) ts) u alike = refl
  solving-alike (at (metavariable g) ts) u alike = entry_for-alike g (pattern_of ts) u (alike g (occurs_head (metavariable g) ts))

  reason_among-alike : (path : List ℕ) (g : ℕ) (o : Option (List ℕ)) (t : LfTerm) → other g ≡ frozen g → reason_among other path g o t ≡ reason_among frozen path g o t
  reason_among-alike path g None t alike = refl
  reason_among-alike path g (Some ns) t alike =
      ap (λ b. if b then not_pattern path
      else (if has_head (metavariable g) t then prune path
      else (if occurs_plainly g t then occurs g
      else (if escapes_from ns t then escapes path
      else (if is_over ns t then not_pattern path else prune path))))) alike

  Step-alike : {state next : Unifying} → Step frozen state next → FreezesAlike frozen other (MentionedBy state.equations) → Step other state next
  Step-alike step_atoms alike = step_atoms
  Step-alike step_lams alike = step_lams
  Step-alike step_same alike = step_same
  Step-alike (step_heads rigid differ) alike = step_heads rigid differ
  Step-alike (step_left {h = h} {k = k} {ts = ts} {us = us} e is equations entries) alike =
      step_left e (solving-alike (at h ts) (at k us) (λ g o. alike g (in_first (inl o))) ∙ is) equations entries
  Step-alike (step_right {h = h} {k = k} {ts = ts} {us = us} e none is equations entries) alike =
      step_right e (solving-alike (at h ts) (at k us) (λ g o. alike g (in_first (inl o))) ∙ none) (solving-alike (at k us) (at h ts) (λ g o. alike g (in_first (inr o))) ∙ is) equations entries

  Stops-alike : {state : Unifying} {reason : Reason} → Stops frozen state reason → FreezesAlike frozen other (MentionedBy state.equations) → Stops other state reason
  Stops-alike (stops_families differ) alike = stops_families differ
  Stops-alike (stops_heads rigid other_rigid differ) alike = stops_heads rigid other_rigid differ
  Stops-alike stops_lam alike = stops_lam
  Stops-alike stops_at alike = stops_at
  Stops-alike (stops_left {path = path} {g = g} {k = k} {ts = ts} {us = us} differ none other_none) alike =
      subst (Stops other _) (reason_among-alike path g (pattern_of ts) (at k us) (alike g (in_first (inl (occurs_head (metavariable g) ts)))))
      (stops_left differ (solving-alike (at (metavariable g) ts) (at k us) (λ m o. alike m (in_first (inl o))) ∙ none)
      (solving-alike (at k us) (at (metavariable g) ts) (λ m o. alike m (in_first (inr o))) ∙ other_none))
  Stops-alike (stops_right {path = path} {h = h} {g = g} {ts = ts} {us = us} rigid none) alike =
      subst (Stops other _) (reason_among-alike path g (pattern_of us) (at h ts) (alike g (in_first (inr (occurs_head (metavariable g) us)))))
      (stops_right rigid (solving-alike (at (metavariable g) us) (at h ts) (λ m o. alike m (in_first (inr o))) ∙ none))

  pub Ends-alike : {state : Unifying} {ending : Ending} → Ends frozen state ending → FreezesAlike frozen other (MentionedBy state.equations) → Ends other state ending
  Ends-alike ends_solved alike = ends_solved
  Ends-alike (ends_refused stops) alike = ends_refused (Stops-alike stops alike)
  Ends-alike (ends_later step ends) alike = ends_later (Step-alike step alike) (Ends-alike ends (λ g o. alike g (step_mentions step g o)))
