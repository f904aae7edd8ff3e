-- How walks over equations are put together.
use Rattle.std.proofs.Common.{◌≡◌, ℕ, suc, List, [], ◌∷◌, ◌++◌, Option, refl, sym, subst, subst₂, append_assoc}
use Rattle.std.proofs.lemmas.List.Elements.{All-cons, All-head, All-tail, All-append}
use Rattle.lf_definitions.specs.Syntax.{LfHead, LfTerm, lam, at, Spine, SimpleType}
use Rattle.lf_definitions.specs.Shaping.{Scope, under_all, Shaped}
use Rattle.lf_definitions.specs.Occurrence.{IsRigid}
use Rattle.lf_definitions.specs.Substitution.{Replacement, Substituted, SubstitutedSpine, substituted_none, substituted_arg}
use Rattle.lf_definitions.specs.Instantiation.{Assignment, instantiating, Instantiated, LfAssigned, assignment_of}
use Rattle.lf_definitions.proofs.Uniqueness.{unique}
use Rattle.lf_definitions.proofs.Totality.{Shaped-Substituted}
use Rattle.unification.specs.Equations.{LfEquation, of_atoms, of_terms, argument_equations, Reason, clash, refused, InstantiatedEquations, instantiated_atoms, instantiated_terms, one_equation}
use Rattle.unification.specs.Transitions.{Frozen, leaving, step_atoms, step_lams, step_same, stops_families, stops_heads, stops_lam, stops_at, Ends, ends_refused, ends_later}
use Rattle.unification.specs.Solutions.{ShapedEquation, ShapedEquations}
use Rattle.unification.proofs.ShapedSteps.{argument_equations_are_shaped, atoms_at_one_shape, spines_at_one_shape, bodies_are_shaped}
use Rattle.unifiers.proofs.Spines.{under_lam, stays_result, rigid_stays}
use Rattle.meta_goals.specs.Bindings.{LfBinding}
use Rattle.meta_unify.specs.Standing.{MentionsNoneBound, Fills}
use Rattle.meta_unify.specs.Walks.{LeadsTo, WalkBegins, WalkPasses, WalkStops}
use Rattle.meta_unify.proofs.Ends.{step_leads, heads_lead}
use Rattle.meta_unify.proofs.Instances.{closed, goes, goes_under, full_stays}

module _ (frozen : Frozen) where
  -- Nothing is done to no equations.
  pub passes_none : (old : List LfBinding) → WalkPasses frozen old old []
  passes_none old kinds Γ entries rest results begins = (entries, results, begins, λ ending ends. ends)

  begins_same : {kinds : ℕ → Option SimpleType} {Γ : Scope} {bindings : List LfBinding} {entries : List LfAssigned} {results xs ys : List LfEquation} → xs ≡ ys → WalkBegins kinds Γ bindings xs entries results →
      WalkBegins kinds Γ bindings ys entries results
  begins_same {kinds} {Γ} {bindings} {entries} {results} e begins = subst (λ qs. WalkBegins kinds Γ bindings qs entries results) e begins

  -- one walk after another
  pub passes_then : (old mid new : List LfBinding) (xs ys : List LfEquation) → WalkPasses frozen old mid xs → WalkPasses frozen mid new ys → WalkPasses frozen old new (xs ++ ys)
  passes_then old mid new xs ys first second kinds Γ entries rest results begins =
      let a = first kinds Γ entries (ys ++ rest) results (begins_same (append_assoc xs ys rest) begins) in
      let b = second kinds Γ a.0 rest a.1 a.2 in
      (b.0, b.1, b.2, λ ending ends. a.3 ending (b.3 ending ends))

  pub stays_later : (old mid : List LfBinding) (xs ys : List LfEquation) (reason : Reason) → WalkPasses frozen old mid xs → WalkStops frozen mid ys reason → WalkStops frozen old (xs ++ ys) reason
  stays_later old mid xs ys reason first second kinds Γ entries rest results begins =
      let a = first kinds Γ entries (ys ++ rest) results (begins_same (append_assoc xs ys rest) begins) in
      a.3 (refused reason) (second kinds Γ a.0 rest a.1 a.2)

  pub stays_before : (old : List LfBinding) (xs ys : List LfEquation) (reason : Reason) → WalkStops frozen old xs reason → WalkStops frozen old (xs ++ ys) reason
  stays_before old xs ys reason stays kinds Γ entries rest results begins = stays kinds Γ entries (ys ++ rest) results (begins_same (append_assoc xs ys rest) begins)

  -- Equations that stand for others, with nothing assigned between.
  abbrev pub Reduces : List LfBinding → List LfEquation → List LfEquation → Type 0
  Reduces old xs ys =
      (kinds : ℕ → Option SimpleType) (Γ : Scope) (entries : List LfAssigned) (rest results : List LfEquation) → WalkBegins kinds Γ old (xs ++ rest) entries results →
      (left : List LfEquation) × WalkBegins kinds Γ old (ys ++ rest) entries left × LeadsTo frozen (leaving results entries) (leaving left entries)

  pub reduces_passes : (old new : List LfBinding) (xs ys : List LfEquation) → Reduces old xs ys → WalkPasses frozen old new ys → WalkPasses frozen old new xs
  reduces_passes old new xs ys reduces passes kinds Γ entries rest results begins =
      let a = reduces kinds Γ entries rest results begins in
      let b = passes kinds Γ entries rest a.0 a.1 in
      (b.0, b.1, b.2, λ ending ends. a.2 ending (b.3 ending ends))

  pub reduces_stays : (old : List LfBinding) (xs ys : List LfEquation) (reason : Reason) → Reduces old xs ys → WalkStops frozen old ys reason → WalkStops frozen old xs reason
  reduces_stays old xs ys reason reduces stays kinds Γ entries rest results begins =
      let a = reduces kinds Γ entries rest results begins in
      a.2 (refused reason) (stays kinds Γ entries rest a.0 a.1)

  module _ (old : List LfBinding) where
    -- abstractions
    pub lams_reduce : (path : List ℕ) (b c : LfTerm) → Reduces old (of_terms path (lam b) (lam c) ∷ []) (of_terms (path ++ 0 ∷ []) b c ∷ [])
    lams_reduce path b c kinds Γ entries rest results begins = go begins.instance
      where
        below : LfEquation
        below = of_terms (path ++ 0 ∷ []) b c

        shapes : ShapedEquation kinds Γ (of_terms path (lam b) (lam c))
        shapes = All-head (ShapedEquation kinds Γ) (of_terms path (lam b) (lam c)) rest begins.shaped

        later_shaped : ShapedEquations kinds Γ rest
        later_shaped = All-tail (ShapedEquation kinds Γ) (of_terms path (lam b) (lam c)) rest begins.shaped

        go : {qs : List LfEquation} → InstantiatedEquations (assignment_of entries) (of_terms path (lam b) (lam c) ∷ rest) qs →
            (left : List LfEquation) × WalkBegins kinds Γ old (of_terms (path ++ 0 ∷ []) b c ∷ rest) entries left × LeadsTo frozen (leaving qs entries) (leaving left entries)
        go (one_equation {results = later} (instantiated_terms p q) ps) =
            let x = under_lam (assignment_of entries) (closed Γ old entries begins.stands) p in
            let y = under_lam (assignment_of entries) (closed Γ old entries begins.stands) q in (
              of_terms (path ++ 0 ∷ []) x.0 y.0 ∷ later,
              record {
                stands = begins.stands;
                shaped = All-cons (ShapedEquation kinds Γ) (of_terms (path ++ 0 ∷ []) b c) rest (bodies_are_shaped kinds Γ shapes.0 path shapes.2 shapes.3) later_shaped;
                instance = one_equation (instantiated_terms x.2 y.2) ps;
              },
              subst₂ (λ v w. LeadsTo frozen (leaving (of_terms path v w ∷ later) entries) (leaving (of_terms (path ++ 0 ∷ []) x.0 y.0 ∷ later) entries)) (sym x.1) (sym y.1) (step_leads step_lams),
            )

    argument_instances : {σ : Assignment} {ρ : Replacement} {ts vs us ws : Spine} {rest later : List LfEquation} → ρ ≡ instantiating σ → SubstitutedSpine ρ ts vs → SubstitutedSpine ρ us ws → (path : List ℕ) (child : ℕ) →
        InstantiatedEquations σ rest later → InstantiatedEquations σ (argument_equations path child ts us ++ rest) (argument_equations path child vs ws ++ later)
    argument_instances e substituted_none q path child r = r
    argument_instances e (substituted_arg p ps) substituted_none path child r = r
    argument_instances e (substituted_arg {t = t} {v = v} p ps) (substituted_arg {t = u} {v = w} q qs) path child r =
        one_equation (instantiated_terms (subst (λ z. Substituted z t v) e p) (subst (λ z. Substituted z u w) e q)) (argument_instances e ps qs path (suc child) r)

    -- equal rigid heads
    pub heads_reduce : (path : List ℕ) (h : LfHead) (ts us : Spine) → IsRigid h → Reduces old (of_terms path (at h ts) (at h us) ∷ []) (argument_equations path 0 ts us)
    heads_reduce path h ts us rigid kinds Γ entries rest results begins = go begins.instance
      where
        shapes : ShapedEquation kinds Γ (of_terms path (at h ts) (at h us))
        shapes = All-head (ShapedEquation kinds Γ) (of_terms path (at h ts) (at h us)) rest begins.shaped

        later_shaped : ShapedEquations kinds Γ rest
        later_shaped = All-tail (ShapedEquation kinds Γ) (of_terms path (at h ts) (at h us)) rest begins.shaped

        go : {qs : List LfEquation} → InstantiatedEquations (assignment_of entries) (of_terms path (at h ts) (at h us) ∷ rest) qs →
            (left : List LfEquation) × WalkBegins kinds Γ old (argument_equations path 0 ts us ++ rest) entries left × LeadsTo frozen (leaving qs entries) (leaving left entries)
        go (one_equation {results = later} (instantiated_terms p q) ps) =
            let x = stays_result (rigid_stays (assignment_of entries) rigid) p in
            let y = stays_result (rigid_stays (assignment_of entries) rigid) q in
            let both = spines_at_one_shape kinds Γ shapes.2 shapes.3 in (
              argument_equations path 0 x.0 y.0 ++ later,
              record {
                stands = begins.stands;
                shaped = All-append (ShapedEquation kinds Γ) (argument_equations path 0 ts us) rest (argument_equations_are_shaped kinds Γ shapes.0 path 0 ts us both.1 both.2) later_shaped;
                instance = argument_instances refl x.2 y.2 path 0 ps;
              },
              subst₂ (λ v w. LeadsTo frozen (leaving (of_terms path v w ∷ later) entries) (leaving (argument_equations path 0 x.0 y.0 ++ later) entries)) (sym x.1) (sym y.1)
                  (heads_lead frozen path h x.0 y.0 later entries rigid),
            )

    -- atoms of one family
    pub atoms_reduce : (path : List ℕ) (f : ℕ) (ts us : Spine) →
        Reduces old (of_atoms path (record { atom_family = f; atom_args = ts }) (record { atom_family = f; atom_args = us }) ∷ []) (argument_equations path 0 ts us)
    atoms_reduce path f ts us kinds Γ entries rest results begins = go begins.instance
      where
        first : LfEquation
        first = of_atoms path (record { atom_family = f; atom_args = ts }) (record { atom_family = f; atom_args = us })

        shapes : ShapedEquation kinds Γ (of_atoms path (record { atom_family = f; atom_args = ts }) (record { atom_family = f; atom_args = us }))
        shapes = All-head (ShapedEquation kinds Γ) _ rest begins.shaped

        later_shaped : ShapedEquations kinds Γ rest
        later_shaped = All-tail (ShapedEquation kinds Γ) _ rest begins.shaped

        go : {qs : List LfEquation} → InstantiatedEquations (assignment_of entries) (of_atoms path (record { atom_family = f; atom_args = ts }) (record { atom_family = f; atom_args = us }) ∷ rest) qs →
            (left : List LfEquation) × WalkBegins kinds Γ old (argument_equations path 0 ts us ++ rest) entries left × LeadsTo frozen (leaving qs entries) (leaving left entries)
        go (one_equation {results = later} (instantiated_atoms {vs = vs} {ws = ws} p q) ps) =
            let both = atoms_at_one_shape kinds Γ {f = f} {ts = ts} {us = us} shapes.0 shapes.1 in (
              argument_equations path 0 vs ws ++ later,
              record {
                stands = begins.stands;
                shaped = All-append (ShapedEquation kinds Γ) (argument_equations path 0 ts us) rest (argument_equations_are_shaped kinds Γ [] path 0 ts us both.1 both.2) later_shaped;
                instance = argument_instances refl p q path 0 ps;
              },
              step_leads step_atoms,
            )

    -- two terms and their instances
    pub full_reduce : (path : List ℕ) (l r t u : LfTerm) → Fills old l t → Fills old r u → MentionsNoneBound old t → MentionsNoneBound old u → Reduces old (of_terms path l r ∷ []) (of_terms path t u ∷ [])
    full_reduce path l r t u fills fills_right full full_right kinds Γ entries rest results begins = go begins.instance
      where
        shapes : ShapedEquation kinds Γ (of_terms path l r)
        shapes = All-head (ShapedEquation kinds Γ) (of_terms path l r) rest begins.shaped

        later_shaped : ShapedEquations kinds Γ rest
        later_shaped = All-tail (ShapedEquation kinds Γ) (of_terms path l r) rest begins.shaped

        left_fills : Instantiated (assignment_of entries) l t
        left_fills = fills Γ entries shapes.0 shapes.1 begins.stands shapes.2

        right_fills : Instantiated (assignment_of entries) r u
        right_fills = fills_right Γ entries shapes.0 shapes.1 begins.stands shapes.3

        keeps : {x y : LfTerm} → Shaped (under_all shapes.0 Γ) x shapes.1 → Instantiated (assignment_of entries) x y → Shaped (under_all shapes.0 Γ) y shapes.1
        keeps shaped p = Shaped-Substituted (goes Γ old entries begins.stands).0 (under_all shapes.0 Γ) (under_all shapes.0 Γ) _ (goes_under Γ old entries begins.stands shapes.0) shaped p

        go : {qs : List LfEquation} → InstantiatedEquations (assignment_of entries) (of_terms path l r ∷ rest) qs →
            (left : List LfEquation) × WalkBegins kinds Γ old (of_terms path t u ∷ rest) entries left × LeadsTo frozen (leaving qs entries) (leaving left entries)
        go (one_equation {results = later} (instantiated_terms {v = v} {w = w} p q) ps) = (
          of_terms path v w ∷ later,
          record {
            stands = begins.stands;
            shaped = All-cons (ShapedEquation kinds Γ) (of_terms path t u) rest (shapes.0, shapes.1, keeps shapes.2 left_fills, keeps shapes.3 right_fills) later_shaped;
            instance =
                one_equation
                (instantiated_terms (subst (Instantiated (assignment_of entries) t) (unique left_fills p) (full_stays Γ old entries begins.stands t full))
                (subst (Instantiated (assignment_of entries) u) (unique right_fills q) (full_stays Γ old entries begins.stands u full_right)))
                ps;
          },
          λ ending ends. ends,
        )

    -- Different rigid heads, an abstraction against a spine, and atoms of two families.
    pub heads_clash : (path : List ℕ) (h k : LfHead) (ts us : Spine) → IsRigid h → IsRigid k → (h ≡ k → ⊥) → WalkStops frozen old (of_terms path (at h ts) (at k us) ∷ []) (clash path)
    heads_clash path h k ts us rigid rigid_k differ kinds Γ entries rest results begins = go begins.instance
      where
        go : {qs : List LfEquation} → InstantiatedEquations (assignment_of entries) (of_terms path (at h ts) (at k us) ∷ rest) qs → Ends frozen (leaving qs entries) (refused (clash path))
        go (one_equation {results = later} (instantiated_terms p q) ps) =
            let x = stays_result (rigid_stays (assignment_of entries) rigid) p in
            let y = stays_result (rigid_stays (assignment_of entries) rigid_k) q in
            subst₂ (λ v w. Ends frozen (leaving (of_terms path v w ∷ later) entries) (refused (clash path))) (sym x.1) (sym y.1) (ends_refused (stops_heads rigid rigid_k differ))

    pub lam_clash : (path : List ℕ) (b : LfTerm) (k : LfHead) (us : Spine) → IsRigid k → WalkStops frozen old (of_terms path (lam b) (at k us) ∷ []) (clash path)
    lam_clash path b k us rigid_k kinds Γ entries rest results begins = go begins.instance
      where
        go : {qs : List LfEquation} → InstantiatedEquations (assignment_of entries) (of_terms path (lam b) (at k us) ∷ rest) qs → Ends frozen (leaving qs entries) (refused (clash path))
        go (one_equation {results = later} (instantiated_terms p q) ps) =
            let x = under_lam (assignment_of entries) (closed Γ old entries begins.stands) p in
            let y = stays_result (rigid_stays (assignment_of entries) rigid_k) q in
            subst₂ (λ v w. Ends frozen (leaving (of_terms path v w ∷ later) entries) (refused (clash path))) (sym x.1) (sym y.1) (ends_refused stops_lam)

    pub at_clash : (path : List ℕ) (h : LfHead) (ts : Spine) (c : LfTerm) → IsRigid h → WalkStops frozen old (of_terms path (at h ts) (lam c) ∷ []) (clash path)
    at_clash path h ts c rigid kinds Γ entries rest results begins = go begins.instance
      where
        go : {qs : List LfEquation} → InstantiatedEquations (assignment_of entries) (of_terms path (at h ts) (lam c) ∷ rest) qs → Ends frozen (leaving qs entries) (refused (clash path))
        go (one_equation {results = later} (instantiated_terms p q) ps) =
            let x = stays_result (rigid_stays (assignment_of entries) rigid) p in
            let y = under_lam (assignment_of entries) (closed Γ old entries begins.stands) q in
            subst₂ (λ v w. Ends frozen (leaving (of_terms path v w ∷ later) entries) (refused (clash path))) (sym x.1) (sym y.1) (ends_refused stops_at)

    pub families_clash : (path : List ℕ) (f g : ℕ) (ts us : Spine) → (f ≡ g → ⊥) →
        WalkStops frozen old (of_atoms path (record { atom_family = f; atom_args = ts }) (record { atom_family = g; atom_args = us }) ∷ []) (clash path)
    families_clash path f g ts us differ kinds Γ entries rest results begins = go begins.instance
      where
        go : {qs : List LfEquation} → InstantiatedEquations (assignment_of entries) (of_atoms path (record { atom_family = f; atom_args = ts }) (record { atom_family = g; atom_args = us }) ∷ rest) qs →
            Ends frozen (leaving qs entries) (refused (clash path))
        go (one_equation (instantiated_atoms p q) ps) = ends_refused (stops_families differ)

    -- the same term twice
    same_leads : (t : LfTerm) (path : List ℕ) (rest : List LfEquation) (entries : List LfAssigned) → LeadsTo frozen (leaving (of_terms path t t ∷ rest) entries) (leaving rest entries)
    same_leads (lam b) path rest entries ending ends = ends_later step_lams (same_leads b (path ++ 0 ∷ []) rest entries ending ends)
    same_leads (at h ts) path rest entries ending ends = ends_later step_same ends

    pub same_passes : (path : List ℕ) (t : LfTerm) → WalkPasses frozen old old (of_terms path t t ∷ [])
    same_passes path t kinds Γ entries rest results begins = go begins.instance
      where
        later_shaped : ShapedEquations kinds Γ rest
        later_shaped = All-tail (ShapedEquation kinds Γ) (of_terms path t t) rest begins.shaped

        go : {qs : List LfEquation} → InstantiatedEquations (assignment_of entries) (of_terms path t t ∷ rest) qs →
            (others : List LfAssigned) × (left : List LfEquation) × WalkBegins kinds Γ old rest others left × LeadsTo frozen (leaving qs entries) (leaving left others)
        go (one_equation {results = later} (instantiated_terms {v = v} {w = w} p q) ps) = (
          entries,
          later,
          record { stands = begins.stands; shaped = later_shaped; instance = ps },
          subst (λ x. LeadsTo frozen (leaving (of_terms path v x ∷ later) entries) (leaving later entries)) (unique p q) (same_leads v path later entries),
        )
