-- An equation of which one side is solvable for the other is solved exactly where the entry is met, and then what is left says what it said before.
use Rattle.std.proofs.Common.{◌≡◌, ℕ, ◌↔◌, List, length, Option, All, sym, ap, ap₂, ◌∙◌, subst, subst₂}
use Rattle.std.proofs.lemmas.List.Elements.{All-cons, All-head, All-tail}
use Rattle.lf_definitions.specs.Syntax.{metavariable, LfTerm, Spine, SimpleType, base, lams, family}
use Rattle.lf_definitions.specs.Renaming.{rename}
use Rattle.lf_definitions.specs.Shaping.{Scope, under_all, Shaped, ShapedType, shaped_family}
use Rattle.lf_definitions.specs.Replacements.{Goes}
use Rattle.lf_definitions.specs.Instantiation.{Assignment, instantiating, Instantiated, InstantiatedSpine, LfAssigned}
use Rattle.lf_definitions.proofs.Options.{Some_inj}
use Rattle.head_laws.specs.AssignmentLaws.{AssignsClosedTerms}
use Rattle.unification.specs.Patterns.{placed}
use Rattle.unification.specs.Equations.{LfEquation, of_atoms, of_terms, InstantiatedEquation, instantiated_atoms, instantiated_terms, InstantiatedEquations, no_equation, one_equation, InstantiatedEntry, InstantiatedEntries, no_entry, one_entry}
use Rattle.unification.specs.Transitions.{Frozen}
use Rattle.unification.specs.Solutions.{ShapedEquation, ShapedEquations, Solves, SolvesAll, MaySolve, value_of, IsInstanceOf, ShapedEntry}
use Rattle.unification.proofs.PatternSpines.{pattern_of-Some}
use Rattle.unification.proofs.Spreading.{under_all-metavariable}
use Rattle.unification.proofs.Solvings.{IsSolved, solved_shape}
use Rattle.unifiers.proofs.Following.{follow_term, follow_spine}
use Rattle.unifiers.proofs.Spines.{Goes-local, IsInstanceOf-local}
use Rattle.unifiers.proofs.Assigning.{pattern_solved}
use Rattle.unifiers.proofs.Entries.{term_put, Meets, Shaped-with_variables}

pub solved_meets : (p : ℕ) (Γ Δ : Scope) (frozen : Frozen) (θ : Assignment) → MaySolve p Γ Δ frozen θ → (path : List ℕ) (local : List SimpleType) (t u : LfTerm) (e : LfAssigned) → IsSolved frozen t u e →
    Shaped (under_all local Γ) t base → Shaped (under_all local Γ) u base → Solves θ (of_terms path t u) ↔ Meets Γ θ e
solved_meets p Γ Δ frozen θ may path local t u e solved shaped_t shaped_u =
    let g = e.assigned_goal in
    let there = solved_shape frozen (under_all local Γ) t u e base solved shaped_t in
    let iff =
    pattern_solved p (under_all local Γ) (under_all local Δ) θ (Goes-local θ may.closed p Γ Δ may.goes local) may.closed g there.shape there.is_known solved.numbers solved.args there.are_variables
    (pattern_of-Some solved.args solved.numbers solved.is_pattern).1 u shaped_u solved.over path in
    let term : lams (length solved.numbers) (rename (placed solved.numbers) u) ≡ term_put e = ap₂ lams (sym solved.count_is) (sym solved.body_is) in (
      λ solves s known. subst₂ (λ x c. Instantiated θ x (value_of θ g c)) term (Some_inj there.is_known (under_all-metavariable local Γ g ∙ known))
          (iff.0 (subst (λ x. Solves θ (of_terms path x u)) solved.term_is solves)),
      λ meets. subst (λ x. Solves θ (of_terms path x u)) (sym solved.term_is)
          (iff.1 (subst (λ x. Instantiated θ x (value_of θ g there.shape)) (sym term) (meets there.shape (sym (under_all-metavariable local Γ g) ∙ there.is_known)))),
    )

-- under an assignment of which this one is an instance
module _ (kinds : ℕ → Option SimpleType) (q p : ℕ) (Γ Δ : Scope) (σ θ : Assignment) (goes_σ : Goes q Γ Γ (instantiating σ)) (closed_σ : AssignsClosedTerms σ)
    (goes_θ : Goes p Γ Δ (instantiating θ)) (closed_θ : AssignsClosedTerms θ) (instance : IsInstanceOf Γ σ θ) where
  atoms_follow : (path : List ℕ) (f g : ℕ) {ts us vs ws : Spine} → ShapedType kinds Γ (family f ts) → ShapedType kinds Γ (family g us) → InstantiatedSpine σ ts vs → InstantiatedSpine σ us ws →
      Solves θ (of_atoms path (record { atom_family = f; atom_args = ts }) (record { atom_family = g; atom_args = us }))
      ↔ Solves θ (of_atoms path (record { atom_family = f; atom_args = vs }) (record { atom_family = g; atom_args = ws }))
  atoms_follow path f g {ts = ts} {us = us} {vs = vs} {ws = ws} (shaped_family s e xs) (shaped_family c d ys) ps qs = (
    λ solves. (solves.0, solves.1, (follow_spine q p Γ Δ σ θ goes_σ goes_θ instance ts vs solves.1 s xs ps).1 solves.2, (follow_spine q p Γ Δ σ θ goes_σ goes_θ instance us ws solves.1 c ys qs).1 solves.3),
    λ solves. (solves.0, solves.1, (follow_spine q p Γ Δ σ θ goes_σ goes_θ instance ts vs solves.1 s xs ps).0 solves.2, (follow_spine q p Γ Δ σ θ goes_σ goes_θ instance us ws solves.1 c ys qs).0 solves.3),
  )

  pub local_follow : (local : List SimpleType) (t r x : LfTerm) (s : SimpleType) → Shaped (under_all local Γ) t s → Instantiated σ t r → Instantiated θ r x ↔ Instantiated θ t x
  local_follow local =
      follow_term q p (under_all local Γ) (under_all local Δ) σ θ (Goes-local σ closed_σ q Γ Γ goes_σ local) (Goes-local θ closed_θ p Γ Δ goes_θ local) (IsInstanceOf-local Γ σ θ instance local)

  equation_follows : {a b : LfEquation} → InstantiatedEquation σ a b → ShapedEquation kinds Γ a → Solves θ a ↔ Solves θ b
  equation_follows (instantiated_atoms {path = path} {f = f} {g = g} ps qs) shaped = atoms_follow path f g shaped.0 shaped.1 ps qs
  equation_follows (instantiated_terms {t = t} {u = u} {v = v} {w = w} x y) shaped = (
    λ solves. (solves.0, (local_follow shaped.0 t v solves.0 shaped.1 shaped.2 x).1 solves.1, (local_follow shaped.0 u w solves.0 shaped.1 shaped.3 y).1 solves.2),
    λ solves. (solves.0, (local_follow shaped.0 t v solves.0 shaped.1 shaped.2 x).0 solves.1, (local_follow shaped.0 u w solves.0 shaped.1 shaped.3 y).0 solves.2),
  )

  pub equations_follow : {qs rs : List LfEquation} → InstantiatedEquations σ qs rs → ShapedEquations kinds Γ qs → SolvesAll θ qs ↔ SolvesAll θ rs
  equations_follow no_equation shaped = (λ all. all, λ all. all)
  equations_follow (one_equation {e = e} {f = f} {rest = rest} {results = results} x xs) shaped =
      let first = equation_follows x (All-head (ShapedEquation kinds Γ) e rest shaped) in
      let later = equations_follow xs (All-tail (ShapedEquation kinds Γ) e rest shaped) in (
        λ all. All-cons (Solves θ) f results (first.0 (All-head (Solves θ) e rest all)) (later.0 (All-tail (Solves θ) e rest all)),
        λ all. All-cons (Solves θ) e rest (first.1 (All-head (Solves θ) f results all)) (later.1 (All-tail (Solves θ) f results all)),
      )

  entry_follows : {e f : LfAssigned} → InstantiatedEntry σ e f → ShapedEntry Γ e → Meets Γ θ e ↔ Meets Γ θ f
  entry_follows {e} {f} x shaped =
      let term : lams e.binders_count f.body ≡ term_put f = ap (λ n. lams n f.body) (sym x.same_count) in
      let follows : (r : LfTerm) → Instantiated θ (lams e.binders_count f.body) r ↔ Instantiated θ (term_put e) r =
      λ r. follow_term q p Γ Δ σ θ goes_σ goes_θ instance (term_put e) (lams e.binders_count f.body) r shaped.0 (Shaped-with_variables shaped.2) x.of_body in (
        λ meets s known. subst₂ (λ t g. Instantiated θ t (value_of θ g s)) term (sym x.same_goal) ((follows (value_of θ e.assigned_goal s)).1 (meets s (ap (λ g. Γ (metavariable g)) (sym x.same_goal) ∙ known))),
        λ meets s known. (follows (value_of θ e.assigned_goal s)).0
            (subst₂ (λ t g. Instantiated θ t (value_of θ g s)) (sym term) x.same_goal (meets s (ap (λ g. Γ (metavariable g)) x.same_goal ∙ known))),
      )

  pub entries_follow : {es fs : List LfAssigned} → InstantiatedEntries σ es fs → All (ShapedEntry Γ) es → All (Meets Γ θ) es ↔ All (Meets Γ θ) fs
  entries_follow no_entry shaped = (λ all. all, λ all. all)
  entries_follow (one_entry {e = e} {f = f} {rest = rest} {results = results} x xs) shaped =
      let first = entry_follows x (All-head (ShapedEntry Γ) e rest shaped) in
      let later = entries_follow xs (All-tail (ShapedEntry Γ) e rest shaped) in (
        λ all. All-cons (Meets Γ θ) f results (first.0 (All-head (Meets Γ θ) e rest all)) (later.0 (All-tail (Meets Γ θ) e rest all)),
        λ all. All-cons (Meets Γ θ) e rest (first.1 (All-head (Meets Γ θ) f results all)) (later.1 (All-tail (Meets Γ θ) f results all)),
      )
