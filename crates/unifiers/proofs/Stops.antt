-- Where a state is the reason that nothing solves its equations, nothing does.
use Rattle.std.proofs.Common.{◌≡◌, ℕ, Bool, true, false, List, Option, Some, None, refl, sym, ◌∙◌}
use Rattle.std.specs.Prelude.{if◌then◌else◌}
use Rattle.std.proofs.lemmas.List.Elements.{All-head}
use Rattle.lf_definitions.specs.Syntax.{LfHead, metavariable, LfTerm, lam, at, Spine, SimpleType, base, arrow}
use Rattle.lf_definitions.specs.Shaping.{Scope, under_all, Shaped, shaped_lam}
use Rattle.lf_definitions.specs.Instantiation.{Assignment}
use Rattle.unification.specs.Patterns.{pattern_of, is_over, escapes_from, occurs_plainly}
use Rattle.unification.specs.Equations.{of_atoms, of_terms, Reason, occurs, escapes, prune, not_pattern, Unifying}
use Rattle.unification.specs.Transitions.{Frozen, has_head, reason_among, reason_of, Stops, stops_families, stops_heads, stops_lam, stops_at, stops_left, stops_right}
use Rattle.unification.specs.Solutions.{ShapedEquation, ShapedEquations, Solves, SolvesAll, MaySolve, SaysNone}
use Rattle.unification.proofs.PatternSpines.{pattern_of-Some}
use Rattle.unification.proofs.ShapedSteps.{Shaped-at-base}
use Rattle.unifiers.proofs.Spines.{Goes-local, stays_result, rigid_stays}
use Rattle.unifiers.proofs.Occurrences.{occurs_unsolved}

-- The reason of a metavariable against a term says that nothing solves only where it occurs in the term, below its head.
abbrev chosen : List ℕ → ℕ → Bool → Bool → Bool → Bool → Bool → Reason
chosen path g frozen headed occurring escaping over =
    if frozen then not_pattern path
    else (if headed then prune path
    else (if occurring then occurs g
    else (if escaping then escapes path
    else (if over then not_pattern path else prune path))))

occurs_chosen : (path : List ℕ) (g : ℕ) (frozen headed occurring escaping over : Bool) → SaysNone (chosen path g frozen headed occurring escaping over) → (headed ≡ false) × (occurring ≡ true)
occurs_chosen path g true headed occurring escaping over says = elim says [ ]
occurs_chosen path g false true occurring escaping over says = elim says [ ]
occurs_chosen path g false false true escaping over says = (refl, refl)
occurs_chosen path g false false false true over says = elim says [ ]
occurs_chosen path g false false false false true says = elim says [ ]
occurs_chosen path g false false false false false says = elim says [ ]

record OccursBelow (g : ℕ) (ts : Spine) (t : LfTerm) : Type 0 where
  numbers : List ℕ
  is_pattern : pattern_of ts ≡ Some numbers
  other_head : has_head (metavariable g) t ≡ false
  occurring : occurs_plainly g t ≡ true

occurs_by_reason : (frozen : Frozen) (path : List ℕ) (g : ℕ) (ts : Spine) (t : LfTerm) → SaysNone (reason_of frozen path g ts t) → OccursBelow g ts t
occurs_by_reason frozen path g ts t says = each (pattern_of ts) refl says
  where
    each : (o : Option (List ℕ)) → pattern_of ts ≡ o → SaysNone (reason_among frozen path g o t) → OccursBelow g ts t
    each None e none = elim none [ ]
    each (Some ns) e none =
        let both = occurs_chosen path g (frozen g) (has_head (metavariable g) t) (occurs_plainly g t) (escapes_from ns t) (is_over ns t) none in
        record { numbers = ns; is_pattern = e; other_head = both.0; occurring = both.1 }

lam_not_at : {Γ : Scope} {b : LfTerm} {k : LfHead} {us : Spine} {s : SimpleType} → Shaped Γ (lam b) s → Shaped Γ (at k us) s → ⊥
lam_not_at (shaped_lam {a = a} {s = s} p) q = let same : arrow a s ≡ base = Shaped-at-base q in cc

same_heads : {h k : LfHead} {ts us : Spine} → at h ts ≡ at k us → h ≡ k
same_heads e = cc

module _ (kinds : ℕ → Option SimpleType) (p : ℕ) (Γ Δ : Scope) (frozen : Frozen) (θ : Assignment) (may : MaySolve p Γ Δ frozen θ) where
  unsolved : (path : List ℕ) (g : ℕ) (k : LfHead) (ts us : Spine) → ShapedEquation kinds Γ (of_terms path (at (metavariable g) ts) (at k us)) → OccursBelow g ts (at k us) →
      Solves θ (of_terms path (at (metavariable g) ts) (at k us)) → ⊥
  unsolved path g k ts us shaped o =
      occurs_unsolved p (under_all shaped.0 Γ) (under_all shaped.0 Δ) θ (Goes-local θ may.closed p Γ Δ may.goes shaped.0) may.closed path g k ts us o.numbers shaped.2 shaped.3
      (pattern_of-Some ts o.numbers o.is_pattern).0 o.other_head o.occurring

  pub stops_unsolved : {state : Unifying} {reason : Reason} → Stops frozen state reason → SaysNone reason → ShapedEquations kinds Γ state.equations → SolvesAll θ state.equations → ⊥
  stops_unsolved (stops_families {path = path} {f = f} {g = g} {ts = ts} {us = us} {rest = rest} differ) says shaped all =
      differ (All-head (Solves θ) (of_atoms path (record { atom_family = f; atom_args = ts }) (record { atom_family = g; atom_args = us })) rest all).0
  stops_unsolved (stops_heads {path = path} {h = h} {k = k} {ts = ts} {us = us} {rest = rest} rigid also differ) says shaped all =
      let solves = All-head (Solves θ) (of_terms path (at h ts) (at k us)) rest all in
      differ (same_heads (sym (stays_result (rigid_stays θ rigid) solves.1).1 ∙ (stays_result (rigid_stays θ also) solves.2).1))
  stops_unsolved (stops_lam {path = path} {b = b} {k = k} {us = us} {rest = rest}) says shaped all =
      let first = All-head (ShapedEquation kinds Γ) (of_terms path (lam b) (at k us)) rest shaped in
      lam_not_at first.2 first.3
  stops_unsolved (stops_at {path = path} {h = h} {ts = ts} {c = c} {rest = rest}) says shaped all =
      let first = All-head (ShapedEquation kinds Γ) (of_terms path (at h ts) (lam c)) rest shaped in
      lam_not_at first.3 first.2
  stops_unsolved (stops_left {path = path} {g = g} {k = k} {ts = ts} {us = us} {rest = rest} differ none also) says shaped all =
      let q = of_terms path (at (metavariable g) ts) (at k us) in
      unsolved path g k ts us (All-head (ShapedEquation kinds Γ) q rest shaped) (occurs_by_reason frozen path g ts (at k us) says) (All-head (Solves θ) q rest all)
  stops_unsolved (stops_right {path = path} {h = h} {g = g} {ts = ts} {us = us} {rest = rest} rigid none) says shaped all =
      let q = of_terms path (at h ts) (at (metavariable g) us) in
      let first = All-head (ShapedEquation kinds Γ) q rest shaped in
      let solves = All-head (Solves θ) q rest all in
      unsolved path g h us ts (first.0, first.1, first.3, first.2) (occurs_by_reason frozen path g us (at h ts) says) (solves.0, solves.2, solves.1)
