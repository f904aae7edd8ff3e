-- A step keeps which assignments solve what is left and meet what was assigned.
use Rattle.std.proofs.Common.{◌≡◌, ℕ, ◌↔◌, List, [], ◌∷◌, ◌++◌, Option, Some, All, refl, subst}
use Rattle.std.proofs.lemmas.List.Elements.{All-nil, All-cons, All-head, All-tail, All-append}
use Rattle.lf_definitions.specs.Syntax.{LfHead, lam, at, Spine, SimpleType}
use Rattle.lf_definitions.specs.Shaping.{Scope, under_all, Shaped}
use Rattle.lf_definitions.specs.Instantiation.{Assignment, instantiating, LfAssigned}
use Rattle.lf_definitions.proofs.Totality.{total}
use Rattle.unification.specs.Equations.{LfEquation, of_atoms, of_terms, argument_equations, Unifying, InstantiatedEquations, InstantiatedEntries}
use Rattle.unification.specs.Transitions.{Frozen, leaving, solving, Step, step_atoms, step_lams, step_same, step_heads, step_left, step_right}
use Rattle.unification.specs.Solutions.{ShapedEquation, ShapedEquations, Solves, SolvesAll, MaySolve, ShapedEntry}
use Rattle.unification.proofs.Solvings.{solving-Some}
use Rattle.unification.proofs.Assigning.{one_assigned, one_assigned_is_closed, entry_bound, Goes-entry, entries_left_are_shaped}
use Rattle.unification.proofs.ShapedSteps.{Shaped-at-base, atoms_at_one_shape, spines_at_one_shape, left_entry_is_shaped, right_entry_is_shaped}
use Rattle.unifiers.proofs.Spines.{Goes-local, lams_solved, heads_solved, each_solved, spines_solved}
use Rattle.unifiers.proofs.Entries.{Meets, instance_from}
use Rattle.unifiers.proofs.Solved.{solved_meets, equations_follow, entries_follow}

-- An assignment solves what is left, and meets what was assigned.
abbrev pub Fulfils : Scope → Assignment → Unifying → Type 0
Fulfils Γ θ state = SolvesAll θ state.equations × All (Meets Γ θ) state.assigned

pub All-append_left : {X : Type 0} (P : X → Type 0) (xs ys : List X) → All P (xs ++ ys) → All P xs
All-append_left P [] ys all = All-nil P
All-append_left P (x ∷ xs) ys all = All-cons P x xs (All-head P x (xs ++ ys) all) (All-append_left P xs ys (All-tail P x (xs ++ ys) all))

pub All-append_right : {X : Type 0} (P : X → Type 0) (xs ys : List X) → All P (xs ++ ys) → All P ys
All-append_right P [] ys all = all
All-append_right P (x ∷ xs) ys all = All-append_right P xs ys (All-tail P x (xs ++ ys) all)

module _ (θ : Assignment) (q : LfEquation) (rest : List LfEquation) where
  first_replaced : (more : List LfEquation) → Solves θ q ↔ SolvesAll θ more → SolvesAll θ (q ∷ rest) ↔ SolvesAll θ (more ++ rest)
  first_replaced more same = (
    λ all. All-append (Solves θ) more rest (same.0 (All-head (Solves θ) q rest all)) (All-tail (Solves θ) q rest all),
    λ all. All-cons (Solves θ) q rest (same.1 (All-append_left (Solves θ) more rest all)) (All-append_right (Solves θ) more rest all),
  )

  first_changed : (r : LfEquation) → Solves θ q ↔ Solves θ r → SolvesAll θ (q ∷ rest) ↔ SolvesAll θ (r ∷ rest)
  first_changed r same = (
    λ all. All-cons (Solves θ) r rest (same.0 (All-head (Solves θ) q rest all)) (All-tail (Solves θ) q rest all),
    λ all. All-cons (Solves θ) q rest (same.1 (All-head (Solves θ) r rest all)) (All-tail (Solves θ) r rest all),
  )

  first_dropped : Solves θ q → SolvesAll θ (q ∷ rest) ↔ SolvesAll θ rest
  first_dropped solves = (λ all. All-tail (Solves θ) q rest all, λ all. All-cons (Solves θ) q rest solves all)

module _ (kinds : ℕ → Option SimpleType) (p : ℕ) (Γ Δ : Scope) (frozen : Frozen) (θ : Assignment) (may : MaySolve p Γ Δ frozen θ) where
  -- what is left under the entry of the first equation
  assigning : (q : LfEquation) (rest results : List LfEquation) (entries others : List LfAssigned) (e : LfAssigned) → Solves θ q ↔ Meets Γ θ e → ShapedEntry Γ e → ShapedEquations kinds Γ rest →
      All (ShapedEntry Γ) entries → InstantiatedEquations (one_assigned e) rest results → InstantiatedEntries (one_assigned e) entries others →
      Fulfils Γ θ (leaving (q ∷ rest) entries) ↔ Fulfils Γ θ (leaving results (e ∷ others))
  assigning q rest results entries others e first entry shaped shaped_entries left kept = (
    λ fulfils. let meets = first.0 (All-head (Solves θ) q rest fulfils.0) in
        ((same_equations meets).0 (All-tail (Solves θ) q rest fulfils.0), All-cons (Meets Γ θ) e others meets ((same_entries meets).0 fulfils.1)),
    λ fulfils. let meets = All-head (Meets Γ θ) e others fulfils.1 in
        (All-cons (Solves θ) q rest (first.1 meets) ((same_equations meets).1 fulfils.0), (same_entries meets).1 (All-tail (Meets Γ θ) e others fulfils.1)),
  )
    where
      alone : Meets Γ θ e → All (Meets Γ θ) (e ∷ [])
      alone meets = All-cons (Meets Γ θ) e [] meets (All-nil (Meets Γ θ))

      same_equations : Meets Γ θ e → SolvesAll θ rest ↔ SolvesAll θ results
      same_equations meets =
          equations_follow kinds (entry_bound Γ e entry) p Γ Δ (one_assigned e) θ (Goes-entry Γ e entry []) (one_assigned_is_closed Γ e entry) may.goes may.closed (instance_from Γ θ (e ∷ []) (alone meets)) left shaped

      same_entries : Meets Γ θ e → All (Meets Γ θ) entries ↔ All (Meets Γ θ) others
      same_entries meets =
          entries_follow kinds (entry_bound Γ e entry) p Γ Δ (one_assigned e) θ (Goes-entry Γ e entry []) (one_assigned_is_closed Γ e entry) may.goes may.closed (instance_from Γ θ (e ∷ []) (alone meets)) kept shaped_entries

  with_entries : (qs rs : List LfEquation) (entries : List LfAssigned) → SolvesAll θ qs ↔ SolvesAll θ rs → Fulfils Γ θ (leaving qs entries) ↔ Fulfils Γ θ (leaving rs entries)
  with_entries qs rs entries same = (λ fulfils. (same.0 fulfils.0, fulfils.1), λ fulfils. (same.1 fulfils.0, fulfils.1))

  -- the first equation, of which one side is solvable for the other
  left_meets : (path : List ℕ) {h k : LfHead} {ts us : Spine} (e : LfAssigned) → ShapedEquation kinds Γ (of_terms path (at h ts) (at k us)) → solving frozen (at h ts) (at k us) ≡ Some e →
      Solves θ (of_terms path (at h ts) (at k us)) ↔ Meets Γ θ e
  left_meets path {h} {k} {ts} {us} e shaped f =
      let inside = under_all shaped.0 Γ in
      let at_base = Shaped-at-base shaped.2 in
      solved_meets p Γ Δ frozen θ may path shaped.0 (at h ts) (at k us) e (solving-Some frozen (at h ts) (at k us) e f) (subst (Shaped inside (at h ts)) at_base shaped.2) (subst (Shaped inside (at k us)) at_base shaped.3)

  right_meets : (path : List ℕ) {h k : LfHead} {ts us : Spine} (e : LfAssigned) → ShapedEquation kinds Γ (of_terms path (at h ts) (at k us)) → solving frozen (at k us) (at h ts) ≡ Some e →
      Solves θ (of_terms path (at h ts) (at k us)) ↔ Meets Γ θ e
  right_meets path {h} {k} {ts} {us} e shaped f =
      let turned = left_meets path {h = k} {k = h} {ts = us} {us = ts} e (shaped.0, shaped.1, shaped.3, shaped.2) f in
      (λ solves. turned.0 (solves.0, solves.2, solves.1), λ meets. let solves = turned.1 meets in (solves.0, solves.2, solves.1))

  pub step_fulfils : {state other : Unifying} → Step frozen state other → ShapedEquations kinds Γ state.equations → All (ShapedEntry Γ) state.assigned → Fulfils Γ θ state ↔ Fulfils Γ θ other
  step_fulfils (step_atoms {path = path} {f = f} {ts = ts} {us = us} {rest = rest} {entries = entries}) shaped shaped_entries =
      let q = of_atoms path (record { atom_family = f; atom_args = ts }) (record { atom_family = f; atom_args = us }) in
      let parts = All-head (ShapedEquation kinds Γ) q rest shaped in
      let both = atoms_at_one_shape kinds Γ {f = f} {ts = ts} {us = us} parts.0 parts.1 in
      with_entries (q ∷ rest) (argument_equations path 0 ts us ++ rest) entries
      (first_replaced θ q rest (argument_equations path 0 ts us) (
        λ solves. each_solved θ ts us solves.1 path 0 solves.2 solves.3,
        λ all. let r = spines_solved both.1 both.2 θ path 0 all in (refl, r.0, r.1, r.2),
      ))
  step_fulfils (step_lams {path = path} {b = b} {c = c} {rest = rest} {entries = entries}) shaped shaped_entries =
      let q = of_terms path (lam b) (lam c) in
      let r = of_terms (path ++ 0 ∷ []) b c in
      with_entries (q ∷ rest) (r ∷ rest) entries (first_changed θ q rest r (lams_solved θ may.closed path (path ++ 0 ∷ []) b c))
  step_fulfils (step_same {path = path} {h = h} {ts = ts} {rest = rest} {entries = entries}) shaped shaped_entries =
      let q = of_terms path (at h ts) (at h ts) in
      let parts = All-head (ShapedEquation kinds Γ) q rest shaped in
      let r = total p parts.2 (under_all parts.0 Δ) (instantiating θ) (Goes-local θ may.closed p Γ Δ may.goes parts.0) in
      with_entries (q ∷ rest) rest entries (first_dropped θ q rest (r.0, r.1, r.1))
  step_fulfils (step_heads {path = path} {h = h} {ts = ts} {us = us} {rest = rest} {entries = entries} rigid differ) shaped shaped_entries =
      let q = of_terms path (at h ts) (at h us) in
      let parts = All-head (ShapedEquation kinds Γ) q rest shaped in
      let both = spines_at_one_shape kinds Γ parts.2 parts.3 in
      let heads = heads_solved θ path h ts us rigid in
      with_entries (q ∷ rest) (argument_equations path 0 ts us ++ rest) entries
      (first_replaced θ q rest (argument_equations path 0 ts us) (
        λ solves. let r = heads.0 solves in each_solved θ ts us r.0 path 0 r.1 r.2,
        λ all. heads.1 (spines_solved both.1 both.2 θ path 0 all),
      ))
  step_fulfils (step_left {path = path} {h = h} {k = k} {ts = ts} {us = us} {rest = rest} {results = results} {entries = entries} {others = others} e f left kept) shaped shaped_entries =
      let q = of_terms path (at h ts) (at k us) in
      let first = All-head (ShapedEquation kinds Γ) q rest shaped in
      assigning q rest results entries others e (left_meets path e first f) (left_entry_is_shaped kinds Γ frozen path e first f) (All-tail (ShapedEquation kinds Γ) q rest shaped) shaped_entries left kept
  step_fulfils (step_right {path = path} {h = h} {k = k} {ts = ts} {us = us} {rest = rest} {results = results} {entries = entries} {others = others} e none f left kept) shaped shaped_entries =
      let q = of_terms path (at h ts) (at k us) in
      let first = All-head (ShapedEquation kinds Γ) q rest shaped in
      assigning q rest results entries others e (right_meets path e first f) (right_entry_is_shaped kinds Γ frozen path e first f) (All-tail (ShapedEquation kinds Γ) q rest shaped) shaped_entries left kept

-- It keeps entries shaped.
pub step_keeps_entries : (kinds : ℕ → Option SimpleType) (Γ : Scope) {frozen : Frozen} {state other : Unifying} → Step frozen state other → ShapedEquations kinds Γ state.equations →
    All (ShapedEntry Γ) state.assigned → All (ShapedEntry Γ) other.assigned
step_keeps_entries kinds Γ step_atoms shaped entries = entries
step_keeps_entries kinds Γ step_lams shaped entries = entries
step_keeps_entries kinds Γ step_same shaped entries = entries
step_keeps_entries kinds Γ (step_heads rigid differ) shaped entries = entries
step_keeps_entries kinds Γ {frozen} (step_left {path = path} {h = h} {k = k} {ts = ts} {us = us} {rest = rest} {entries = es} {others = others} e f left kept) shaped entries =
    let entry = left_entry_is_shaped kinds Γ frozen path e (All-head (ShapedEquation kinds Γ) (of_terms path (at h ts) (at k us)) rest shaped) f in
    All-cons (ShapedEntry Γ) e others entry (entries_left_are_shaped Γ e entry es others entries kept)
step_keeps_entries kinds Γ {frozen} (step_right {path = path} {h = h} {k = k} {ts = ts} {us = us} {rest = rest} {entries = es} {others = others} e none f left kept) shaped entries =
    let entry = right_entry_is_shaped kinds Γ frozen path e (All-head (ShapedEquation kinds Γ) (of_terms path (at h ts) (at k us)) rest shaped) f in
    All-cons (ShapedEntry Γ) e others entry (entries_left_are_shaped Γ e entry es others entries kept)
