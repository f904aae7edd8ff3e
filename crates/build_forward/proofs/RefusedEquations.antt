-- Equations that are refused stay refused with others after them.
use Rattle.std.proofs.Common.{◌≡◌, ℕ, suc, List, [], ◌∷◌, ◌++◌, refl, sym, ap, ◌∙◌, subst, subst₂, append_assoc}
use Rattle.lf_definitions.specs.Syntax.{lam, at, LfAtom}
use Rattle.lf_definitions.specs.Instantiation.{Assignment, LfAssigned, assignment_of}
use Rattle.unification.specs.Equations.{LfEquation, of_atoms, of_terms, numbered_from, argument_equations, Reason, Ending, solved, refused, Unifying, InstantiatedEquation, InstantiatedEquations, no_equation, one_equation}
use Rattle.unification.specs.Transitions.{Frozen, leaving, Step, step_atoms, step_lams, step_same, step_heads, step_left, step_right, Ends, ends_solved, ends_refused, ends_later, Unifies}
use Rattle.unification.proofs.Laws.{transitions_are_unique}

-- The first of some equations are instantiated by themselves.
first_instances : (σ : Assignment) (xs results : List LfEquation) → InstantiatedEquations σ xs results → (es more : List LfEquation) → xs ≡ es ++ more →
    (fs : List LfEquation) × (left : List LfEquation) × InstantiatedEquations σ es fs × (results ≡ fs ++ left)
first_instances σ xs results instances [] more e = ([], results, no_equation, refl)
first_instances σ _ _ no_equation (x ∷ es) more e = absurd cc
first_instances σ _ _ (one_equation {e = y} {f = f} {rest = rest} {results = results} i is) (x ∷ es) more e =
    let same : y ≡ x = cc in
    let later : rest ≡ es ++ more = cc in
    let r = first_instances σ rest results is es more later in
    (f ∷ r.0, r.1, one_equation (subst (λ z. InstantiatedEquation σ z f) same i) r.2, ap (λ l. f ∷ l) r.3)

none_left : (x : LfEquation) (xs : List LfEquation) → ◌≡◌ {A = List LfEquation} [] (x ∷ xs) → ⊥
none_left x xs e = absurd cc

module _ (frozen : Frozen) where
  -- What a step does to the first of some equations it does without the others, which follow what is left.
  pub record StepsBefore (e : LfEquation) (es : List LfEquation) (assigned : List LfAssigned) (other : Unifying) : Type 0 where
    pub left : List LfEquation
    pub others : List LfEquation
    pub step : Step frozen (leaving (e ∷ es) assigned) (leaving left other.assigned)
    pub are : other.equations ≡ left ++ others

  -- the same step, at the equation and the entries as they are named
  moved : (x e : LfEquation) (es left : List LfEquation) (entries assigned others : List LfAssigned) → x ≡ e → entries ≡ assigned → Step frozen (leaving (x ∷ es) entries) (leaving left others) →
      Step frozen (leaving (e ∷ es) assigned) (leaving left others)
  moved x e es left entries assigned others same same_entries step = subst₂ (λ y a. Step frozen (leaving (y ∷ es) a) (leaving left others)) same same_entries step

  steps_before : {state other : Unifying} → Step frozen state other → (e : LfEquation) (es more : List LfEquation) (assigned : List LfAssigned) → state ≡ leaving (e ∷ es ++ more) assigned → StepsBefore e es assigned other
  steps_before (step_atoms {path = path} {f = f} {ts = ts} {us = us} {rest = rest} {entries = entries}) e es more assigned is =
      let all : of_atoms path (record { atom_family = f; atom_args = ts }) (record { atom_family = f; atom_args = us }) ∷ rest ≡ e ∷ (es ++ more) = ap (λ (s : Unifying). s.equations) is in
      let here : of_atoms path (record { atom_family = f; atom_args = ts }) (record { atom_family = f; atom_args = us }) ≡ e = cc in
      let later : rest ≡ es ++ more = cc in
      let so_far : entries ≡ assigned = ap (λ (s : Unifying). s.assigned) is in
      record { left = argument_equations path 0 ts us ++ es; others = more; step = moved _ e es _ entries assigned entries here so_far (step_atoms); are = ap (λ l. argument_equations path 0 ts us ++ l) later ∙ sym (append_assoc (argument_equations path 0 ts us) es more) }
  steps_before (step_lams {path = path} {b = b} {c = c} {rest = rest} {entries = entries}) e es more assigned is =
      let all : of_terms path (lam b) (lam c) ∷ rest ≡ e ∷ (es ++ more) = ap (λ (s : Unifying). s.equations) is in
      let here : of_terms path (lam b) (lam c) ≡ e = cc in
      let later : rest ≡ es ++ more = cc in
      let so_far : entries ≡ assigned = ap (λ (s : Unifying). s.assigned) is in
      record { left = of_terms (path ++ 0 ∷ []) b c ∷ es; others = more; step = moved _ e es _ entries assigned entries here so_far (step_lams); are = ap (λ l. of_terms (path ++ 0 ∷ []) b c ∷ l) later }
  steps_before (step_same {path = path} {h = h} {ts = ts} {rest = rest} {entries = entries}) e es more assigned is =
      let all : of_terms path (at h ts) (at h ts) ∷ rest ≡ e ∷ (es ++ more) = ap (λ (s : Unifying). s.equations) is in
      let here : of_terms path (at h ts) (at h ts) ≡ e = cc in
      let later : rest ≡ es ++ more = cc in
      let so_far : entries ≡ assigned = ap (λ (s : Unifying). s.assigned) is in
      record { left = es; others = more; step = moved _ e es _ entries assigned entries here so_far (step_same); are = later }
  steps_before (step_heads {path = path} {h = h} {ts = ts} {us = us} {rest = rest} {entries = entries} rigid differ) e es more assigned is =
      let all : of_terms path (at h ts) (at h us) ∷ rest ≡ e ∷ (es ++ more) = ap (λ (s : Unifying). s.equations) is in
      let here : of_terms path (at h ts) (at h us) ≡ e = cc in
      let later : rest ≡ es ++ more = cc in
      let so_far : entries ≡ assigned = ap (λ (s : Unifying). s.assigned) is in
      record { left = argument_equations path 0 ts us ++ es; others = more; step = moved _ e es _ entries assigned entries here so_far (step_heads rigid differ); are = ap (λ l. argument_equations path 0 ts us ++ l) later ∙ sym (append_assoc (argument_equations path 0 ts us) es more) }
  steps_before (step_left {path = path} {h = h} {k = k} {ts = ts} {us = us} {rest = rest} {results = results} {entries = entries} {others = others} x solves instances same) e es more assigned is =
      let all : of_terms path (at h ts) (at k us) ∷ rest ≡ e ∷ (es ++ more) = ap (λ (s : Unifying). s.equations) is in
      let here : of_terms path (at h ts) (at k us) ≡ e = cc in
      let later : rest ≡ es ++ more = cc in
      let so_far : entries ≡ assigned = ap (λ (s : Unifying). s.assigned) is in
      let r = first_instances (assignment_of (x ∷ [])) rest results instances es more later in
      record { left = r.0; others = r.1; step = moved _ e es r.0 entries assigned (x ∷ others) here so_far (step_left x solves r.2 same); are = r.3 }
  steps_before (step_right {path = path} {h = h} {k = k} {ts = ts} {us = us} {rest = rest} {results = results} {entries = entries} {others = others} x unsolved solves instances same) e es more assigned is =
      let all : of_terms path (at h ts) (at k us) ∷ rest ≡ e ∷ (es ++ more) = ap (λ (s : Unifying). s.equations) is in
      let here : of_terms path (at h ts) (at k us) ≡ e = cc in
      let later : rest ≡ es ++ more = cc in
      let so_far : entries ≡ assigned = ap (λ (s : Unifying). s.assigned) is in
      let r = first_instances (assignment_of (x ∷ [])) rest results instances es more later in
      record { left = r.0; others = r.1; step = moved _ e es r.0 entries assigned (x ∷ others) here so_far (step_right x unsolved solves r.2 same); are = r.3 }

  -- Where equations with others after them are solved, so are they.
  solved_before : {state : Unifying} {ending : Ending} → Ends frozen state ending → (entries : List LfAssigned) → ending ≡ solved entries → (es more : List LfEquation) (assigned : List LfAssigned) →
      state ≡ leaving (es ++ more) assigned → (others : List LfAssigned) × Ends frozen (leaving es assigned) (solved others)
  solved_before ends entries e [] more assigned is = (assigned, ends_solved)
  solved_before ends_solved entries e (x ∷ es) more assigned is = absurd (none_left x (es ++ more) (ap (λ (s : Unifying). s.equations) is))
  solved_before (ends_refused stops) entries e (x ∷ es) more assigned is = absurd cc
  solved_before (ends_later {other = other} step ends) entries e (x ∷ es) more assigned is =
      let before = steps_before step x es more assigned is in
      let r = solved_before ends entries e before.left before.others other.assigned (ap (λ l. leaving l other.assigned) before.are) in
      (r.0, ends_later before.step r.1)

pub numbered-append : (n : ℕ) (xs ys : List (LfAtom × LfAtom)) → (more : List LfEquation) × (numbered_from n (xs ++ ys) ≡ numbered_from n xs ++ more)
numbered-append n [] ys = (numbered_from n ys, refl)
numbered-append n (x ∷ xs) ys = let r = numbered-append (suc n) xs ys in (r.0, ap (λ l. of_atoms (n ∷ []) x.0 x.1 ∷ l) r.1)

pub never_solved : (frozen : Frozen) (xs ys : List (LfAtom × LfAtom)) (reason : Reason) (entries : List LfAssigned) → Unifies frozen (numbered_from 0 xs) (refused reason) →
    Unifies frozen (numbered_from 0 (xs ++ ys)) (solved entries) → ⊥
never_solved frozen xs ys reason entries refuses solves =
    let parts = numbered-append 0 xs ys in
    let r = solved_before frozen solves entries refl (numbered_from 0 xs) parts.0 [] (ap (λ l. leaving l []) parts.1) in
    let same : solved r.0 ≡ refused reason = (transitions_are_unique frozen (leaving (numbered_from 0 xs) []) (leaving [] []) (leaving [] []) (refused reason)).1 refuses (solved r.0) r.1 in
    absurd cc
