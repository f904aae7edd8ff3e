-- Which metavariables are mentioned by what is left after a transition.
use Rattle.std.proofs.Common.{◌≡◌, ℕ, zero, suc, ◌⊎◌, inl, inr, Bool, true, false, List, [], ◌∷◌, ◌++◌, Some, None, refl, sym, ap, ◌∙◌, subst}
use Rattle.std.specs.Prelude.{if◌then◌else◌, nat_eq}
use Rattle.std.proofs.lemmas.Bool.{eqb-true, false_from_ne_true, both_ways}
use Rattle.lf_definitions.specs.Syntax.{LfHead, bound, constant, metavariable, LfTerm, lam, at, Spine, no_args, arg, lams}
use Rattle.lf_definitions.specs.Occurrence.{OccursIn, occurs_head, occurs_args, occurs_lam, OccursInSpine, occurs_first, occurs_later}
use Rattle.lf_definitions.specs.Substitution.{Image, stays, becomes}
use Rattle.lf_definitions.specs.Instantiation.{assigned, instantiating, LfAssigned}
use Rattle.lf_definitions.proofs.Uniqueness.{stays-becomes, stays_inj, becomes_inj}
use Rattle.head_laws.specs.Mentions.{ComesFrom, comes_from_head, comes_from_term, occurs_in}
use Rattle.head_laws.proofs.Occurrence.{occurs_in-from, came_term}
use Rattle.head_laws.proofs.Replacing.{Mentioned, mentioned, mentioned_spine}
use Rattle.unification.specs.Patterns.{placed}
use Rattle.unification.specs.Equations.{LfEquation, of_terms, argument_equations, Unifying, InstantiatedEquation, instantiated_atoms, instantiated_terms, InstantiatedEquations, no_equation, one_equation, InstantiatedEntry, InstantiatedEntries, no_entry, one_entry}
use Rattle.unification.specs.Transitions.{Frozen, Step, step_atoms, step_lams, step_same, step_heads, step_left, step_right}
use Rattle.unification.specs.Solutions.{OccursInEquation, OccursInEquations, in_first, in_rest}
use Rattle.unification.proofs.Assigning.{one_assigned}
use Rattle.unification.proofs.Solvings.{IsSolved, solving-Some}

pub OccursIn-lams : (n : ℕ) (b : LfTerm) (g : ℕ) → OccursIn (metavariable g) b → OccursIn (metavariable g) (lams n b)
OccursIn-lams zero b g o = o
OccursIn-lams (suc n) b g o = occurs_lam (metavariable g) (lams n b) (OccursIn-lams n b g o)

pub OccursIn-under_lams : (n : ℕ) (b : LfTerm) (g : ℕ) → OccursIn (metavariable g) (lams n b) → OccursIn (metavariable g) b
OccursIn-under_lams zero b g o = o
OccursIn-under_lams (suc n) b g (occurs_lam _ _ o) = OccursIn-under_lams n b g o

came_stays : {h : LfHead} {i : Image} → ComesFrom h i → (k : LfHead) → i ≡ stays k → h ≡ k
came_stays (comes_from_head h) k e = stays_inj refl e
came_stays (comes_from_term h u o) k e = absurd (stays-becomes e refl)

came_becomes : {h : LfHead} {i : Image} → ComesFrom h i → (u : LfTerm) → i ≡ becomes u → OccursIn h u
came_becomes (comes_from_head h) u e = absurd (stays-becomes refl e)
came_becomes (comes_from_term h w o) u e = subst (OccursIn h) (becomes_inj refl e) o

-- Under an entry a metavariable that is mentioned was mentioned and is not the entry's, or what is put mentions it.
pub data StaysOrIsPut (P : LfHead → Type 0) (e : LfAssigned) (g : ℕ) : Type 0 where
  still : P (metavariable g) → nat_eq e.assigned_goal g ≡ false → StaysOrIsPut P e g
  is_put : OccursIn (metavariable g) e.body → StaysOrIsPut P e g

from_mentioned : (P : LfHead → Type 0) (e : LfAssigned) (g : ℕ) → Mentioned P (instantiating (one_assigned e)) (metavariable g) → StaysOrIsPut P e g
from_mentioned P e g m = at_head m.0 m.1 m.2
  where
    metavariable_inj : (k : ℕ) → metavariable g ≡ metavariable k → g ≡ k
    metavariable_inj k e = cc

    at_number : (k : ℕ) (b : Bool) → nat_eq e.assigned_goal k ≡ b → P (metavariable k) → ComesFrom (metavariable g) (assigned k (if b then Some (lams e.binders_count e.body) else None)) → StaysOrIsPut P e g
    at_number k true f o from = is_put (OccursIn-under_lams e.binders_count e.body g (came_becomes from (lams e.binders_count e.body) refl))
    at_number k false f o from =
        let same : g ≡ k = metavariable_inj k (came_stays from (metavariable k) refl) in
        still (subst (λ j. P (metavariable j)) (sym same) o) (ap (nat_eq e.assigned_goal) same ∙ f)

    at_head : (k : LfHead) → P k → ComesFrom (metavariable g) (instantiating (one_assigned e) k) → StaysOrIsPut P e g
    at_head (bound n) o from = let other : metavariable g ≡ bound n = came_stays from (bound n) refl in absurd cc
    at_head (constant c) o from = let other : metavariable g ≡ constant c = came_stays from (constant c) refl in absurd cc
    at_head (metavariable k) o from = at_number k (nat_eq e.assigned_goal k) refl o from

more_stays : {P Q : LfHead → Type 0} {e : LfAssigned} {g : ℕ} → (P (metavariable g) → Q (metavariable g)) → StaysOrIsPut P e g → StaysOrIsPut Q e g
more_stays more (still o differ) = still (more o) differ
more_stays more (is_put o) = is_put o

equation_mentions : {e : LfAssigned} {q r : LfEquation} → InstantiatedEquation (one_assigned e) q r → (g : ℕ) → OccursInEquation (metavariable g) r → StaysOrIsPut (λ h. OccursInEquation h q) e g
equation_mentions {e} (instantiated_atoms {ts = ts} {us = us} ps qs) g (inl o) = more_stays inl (from_mentioned (λ h. OccursInSpine h ts) e g (mentioned_spine ps (metavariable g) o))
equation_mentions {e} (instantiated_atoms {ts = ts} {us = us} ps qs) g (inr o) = more_stays inr (from_mentioned (λ h. OccursInSpine h us) e g (mentioned_spine qs (metavariable g) o))
equation_mentions {e} (instantiated_terms {t = t} {u = u} p q) g (inl o) = more_stays inl (from_mentioned (λ h. OccursIn h t) e g (mentioned p (metavariable g) o))
equation_mentions {e} (instantiated_terms {t = t} {u = u} p q) g (inr o) = more_stays inr (from_mentioned (λ h. OccursIn h u) e g (mentioned q (metavariable g) o))

pub equations_mention : {e : LfAssigned} {qs rs : List LfEquation} → InstantiatedEquations (one_assigned e) qs rs → (g : ℕ) → OccursInEquations (metavariable g) rs → StaysOrIsPut (λ h. OccursInEquations h qs) e g
equations_mention no_equation g o = elim o [ ]
equations_mention (one_equation p ps) g (in_first o) = more_stays in_first (equation_mentions p g o)
equations_mention (one_equation p ps) g (in_rest o) = more_stays in_rest (equations_mention ps g o)

-- a metavariable that the entries' bodies mention
abbrev pub OccursInBodies : LfHead → List LfAssigned → Type 0
OccursInBodies h [] = ⊥
OccursInBodies h (e ∷ rest) = OccursIn h e.body ⊎ OccursInBodies h rest

entry_mentions : {e f f' : LfAssigned} → InstantiatedEntry (one_assigned e) f f' → (g : ℕ) → OccursIn (metavariable g) f'.body → StaysOrIsPut (λ h. OccursIn h f.body) e g
entry_mentions {e} {f} {f'} p g o =
    more_stays (OccursIn-under_lams f.binders_count f.body g)
    (from_mentioned (λ h. OccursIn h (lams f.binders_count f.body)) e g (mentioned p.of_body (metavariable g) (OccursIn-lams f.binders_count f'.body g o)))

pub entries_mention : {e : LfAssigned} {fs gs : List LfAssigned} → InstantiatedEntries (one_assigned e) fs gs → (g : ℕ) → OccursInBodies (metavariable g) gs → StaysOrIsPut (λ h. OccursInBodies h fs) e g
entries_mention no_entry g o = elim o [ ]
entries_mention (one_entry p ps) g (inl o) = more_stays inl (entry_mentions p g o)
entries_mention (one_entry p ps) g (inr o) = more_stays inr (entries_mention ps g o)

-- What is put mentions what the other side mentions, and not the metavariable itself.
pub body_mentions : {frozen : Frozen} {t u : LfTerm} {e : LfAssigned} → IsSolved frozen t u e → (g : ℕ) → OccursIn (metavariable g) e.body → OccursIn (metavariable g) u × (nat_eq e.assigned_goal g ≡ false)
body_mentions {u = u} {e = e} solved g o =
    let ns = solved.numbers in
    let came = came_term u (placed ns) (metavariable g) (subst (OccursIn (metavariable g)) solved.body_is o) in
    let within = unplaced came.0 came.1 came.2 in (
      within,
      false_from_ne_true (nat_eq e.assigned_goal g) (λ f. both_ways (occurs_in (metavariable e.assigned_goal) u) solved.not_within
          (occurs_in-from (subst (λ k. OccursIn (metavariable k) u) (sym (eqb-true e.assigned_goal g f)) within))),
    )
  where
    unplaced : (k : LfHead) → OccursIn k u → metavariable g ≡ placed solved.numbers k → OccursIn (metavariable g) u
    unplaced (bound n) q f = absurd cc
    unplaced (constant c) q f = absurd cc
    unplaced (metavariable m) q f = subst (λ h. OccursIn h u) (sym f) q

pub solved_mentions : {frozen : Frozen} {t u : LfTerm} {e : LfAssigned} → IsSolved frozen t u e → OccursIn (metavariable e.assigned_goal) t
solved_mentions {e = e} solved = subst (OccursIn (metavariable e.assigned_goal)) (sym solved.term_is) (occurs_head (metavariable e.assigned_goal) solved.args)

-- So what is mentioned then was mentioned before, and is not the metavariable that was assigned.
pub remains : {frozen : Frozen} {t u : LfTerm} {e : LfAssigned} {P : LfHead → Type 0} → IsSolved frozen t u e → (g : ℕ) → StaysOrIsPut P e g → (P (metavariable g) ⊎ OccursIn (metavariable g) u) × (nat_eq e.assigned_goal g ≡ false)
remains solved g (still o differ) = (inl o, differ)
remains solved g (is_put o) = let both = body_mentions solved g o in (inr both.0, both.1)

-- A transition brings no metavariable.
pub OccursInEquations-append : (h : LfHead) (qs rs : List LfEquation) → OccursInEquations h (qs ++ rs) → OccursInEquations h qs ⊎ OccursInEquations h rs
OccursInEquations-append h [] rs o = inr o
OccursInEquations-append h (q ∷ qs) rs (in_first o) = inl (in_first o)
OccursInEquations-append h (q ∷ qs) rs (in_rest o) = either (OccursInEquations-append h qs rs o)
  where
    either : OccursInEquations h qs ⊎ OccursInEquations h rs → OccursInEquations h (q ∷ qs) ⊎ OccursInEquations h rs
    either (inl p) = inl (in_rest p)
    either (inr p) = inr p

pub argument_equations_mention : (h : LfHead) (path : List ℕ) (child : ℕ) (ts us : Spine) → OccursInEquations h (argument_equations path child ts us) → OccursInSpine h ts ⊎ OccursInSpine h us
argument_equations_mention h path child no_args us o = elim o [ ]
argument_equations_mention h path child (arg t ts) no_args o = elim o [ ]
argument_equations_mention h path child (arg t ts) (arg u us) (in_first (inl o)) = inl (occurs_first h t ts o)
argument_equations_mention h path child (arg t ts) (arg u us) (in_first (inr o)) = inr (occurs_first h u us o)
argument_equations_mention h path child (arg t ts) (arg u us) (in_rest o) = either (argument_equations_mention h path (suc child) ts us o)
  where
    either : OccursInSpine h ts ⊎ OccursInSpine h us → OccursInSpine h (arg t ts) ⊎ OccursInSpine h (arg u us)
    either (inl p) = inl (occurs_later h t ts p)
    either (inr p) = inr (occurs_later h u us p)

before_arguments : (h : LfHead) (path : List ℕ) (ts us : Spine) (q : LfEquation) (rest : List LfEquation) → (OccursInSpine h ts ⊎ OccursInSpine h us → OccursInEquation h q) →
    OccursInEquations h (argument_equations path 0 ts us ++ rest) → OccursInEquations h (q ∷ rest)
before_arguments h path ts us q rest first o = either (OccursInEquations-append h (argument_equations path 0 ts us) rest o)
  where
    either : OccursInEquations h (argument_equations path 0 ts us) ⊎ OccursInEquations h rest → OccursInEquations h (q ∷ rest)
    either (inl p) = in_first (first (argument_equations_mention h path 0 ts us p))
    either (inr p) = in_rest p

in_either_at : (h k : LfHead) (ts us : Spine) → OccursInSpine h ts ⊎ OccursInSpine h us → OccursIn h (at k ts) ⊎ OccursIn h (at k us)
in_either_at h k ts us (inl o) = inl (occurs_args h k ts o)
in_either_at h k ts us (inr o) = inr (occurs_args h k us o)

in_either_lam : (g : ℕ) (path : List ℕ) (b c : LfTerm) (rest : List LfEquation) → OccursInEquations (metavariable g) (of_terms (path ++ 0 ∷ []) b c ∷ rest) → OccursInEquations (metavariable g) (of_terms path (lam b) (lam c) ∷ rest)
in_either_lam g path b c rest (in_first (inl o)) = in_first (inl (occurs_lam (metavariable g) b o))
in_either_lam g path b c rest (in_first (inr o)) = in_first (inr (occurs_lam (metavariable g) c o))
in_either_lam g path b c rest (in_rest o) = in_rest o

in_rest_or_side : {h : LfHead} {q : LfEquation} {rest : List LfEquation} {P : Type 0} → (P → OccursInEquation h q) → OccursInEquations h rest ⊎ P → OccursInEquations h (q ∷ rest)
in_rest_or_side side (inl o) = in_rest o
in_rest_or_side side (inr o) = in_first (side o)

pub step_mentions : {frozen : Frozen} {state other : Unifying} → Step frozen state other → (g : ℕ) → OccursInEquations (metavariable g) other.equations → OccursInEquations (metavariable g) state.equations
step_mentions (step_atoms {path = path} {ts = ts} {us = us} {rest = rest}) g o = before_arguments (metavariable g) path ts us _ rest (λ p. p) o
step_mentions (step_lams {path = path} {b = b} {c = c} {rest = rest}) g o = in_either_lam g path b c rest o
step_mentions step_same g o = in_rest o
step_mentions (step_heads {path = path} {h = h} {ts = ts} {us = us} {rest = rest} rigid differ) g o =
    before_arguments (metavariable g) path ts us (of_terms path (at h ts) (at h us)) rest (in_either_at (metavariable g) h ts us) o
step_mentions {frozen} (step_left {h = h} {k = k} {ts = ts} {us = us} e f left others) g o =
    in_rest_or_side inr (remains (solving-Some frozen (at h ts) (at k us) e f) g (equations_mention left g o)).0
step_mentions {frozen} (step_right {h = h} {k = k} {ts = ts} {us = us} e none f left others) g o =
    in_rest_or_side inl (remains (solving-Some frozen (at k us) (at h ts) e f) g (equations_mention left g o)).0
