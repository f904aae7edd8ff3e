-- What a state ends with, from what another ends with.
use Rattle.std.proofs.Common.{◌≡◌, ℕ, suc, Bool, true, false, List, [], ◌∷◌, ◌++◌, refl, subst}
use Rattle.std.proofs.lemmas.Bool.{both_ways}
use Rattle.lf_definitions.specs.Syntax.{LfHead, LfTerm, lam, at, Spine, no_args, arg}
use Rattle.lf_definitions.specs.Occurrence.{IsRigid}
use Rattle.lf_definitions.specs.Instantiation.{LfAssigned}
use Rattle.unification.specs.Equations.{LfEquation, of_terms, argument_equations, Ending, Unifying}
use Rattle.unification.specs.Transitions.{Frozen, leaving, Step, step_atoms, step_lams, step_same, step_heads, step_left, step_right, Ends, ends_solved, ends_refused, ends_later}
use Rattle.unification.proofs.SameTerms.{same_spine, same_spine-true, same_spine-same}
use Rattle.unification.proofs.OneTransition.{one_step, goes_or_stops}
use Rattle.meta_unify.specs.Walks.{LeadsTo}

no_step : {frozen : Frozen} {state other : Unifying} → Step frozen state other → state.equations ≡ [] → ⊥
no_step step_atoms e = cc
no_step step_lams e = cc
no_step step_same e = cc
no_step (step_heads rigid differ) e = cc
no_step (step_left f g p q) e = cc
no_step (step_right f g i p q) e = cc

-- A state that goes on ends as the next one does.
after_step : {frozen : Frozen} {state other : Unifying} {ending : Ending} → Ends frozen state ending → Step frozen state other → Ends frozen other ending
after_step ends_solved step = absurd (no_step step refl)
after_step (ends_refused stop) step = absurd (goes_or_stops step stop)
after_step {frozen} {ending = ending} (ends_later first more) step = subst (λ s. Ends frozen s ending) (one_step first step) more

pub step_leads : {frozen : Frozen} {state other : Unifying} → Step frozen state other → LeadsTo frozen state other
step_leads step ending ends = ends_later step ends

module _ (frozen : Frozen) (entries : List LfAssigned) (ending : Ending) where
  -- An equation between equal terms changes nothing.
  pub same_changes_nothing : (t : LfTerm) (path : List ℕ) (rest : List LfEquation) → Ends frozen (leaving (of_terms path t t ∷ rest) entries) ending → Ends frozen (leaving rest entries) ending
  same_changes_nothing (lam b) path rest ends = same_changes_nothing b (path ++ 0 ∷ []) rest (after_step ends step_lams)
  same_changes_nothing (at h ts) path rest ends = after_step ends step_same

  same_args_change_nothing : (ts : Spine) (path : List ℕ) (child : ℕ) (rest : List LfEquation) → Ends frozen (leaving (argument_equations path child ts ts ++ rest) entries) ending → Ends frozen (leaving rest entries) ending
  same_args_change_nothing no_args path child rest ends = ends
  same_args_change_nothing (arg t ts) path child rest ends =
      same_args_change_nothing ts path (suc child) rest (same_changes_nothing t (path ++ child ∷ []) (argument_equations path (suc child) ts ts ++ rest) ends)

-- So of equal rigid heads the arguments' equations may be taken, whether they are equal or not.
pub heads_lead : (frozen : Frozen) (path : List ℕ) (h : LfHead) (ts us : Spine) (rest : List LfEquation) (entries : List LfAssigned) → IsRigid h →
    LeadsTo frozen (leaving (of_terms path (at h ts) (at h us) ∷ rest) entries) (leaving (argument_equations path 0 ts us ++ rest) entries)
heads_lead frozen path h ts us rest entries rigid ending ends = each (same_spine ts us) refl
  where
    each : (b : Bool) → same_spine ts us ≡ b → Ends frozen (leaving (of_terms path (at h ts) (at h us) ∷ rest) entries) ending
    each true e =
        let same : ts ≡ us = same_spine-true ts us e in
        subst (λ vs. Ends frozen (leaving (argument_equations path 0 ts vs ++ rest) entries) ending → Ends frozen (leaving (of_terms path (at h ts) (at h vs) ∷ rest) entries) ending) same
        (λ equal. ends_later step_same (same_args_change_nothing frozen entries ending ts path 0 rest equal)) ends
    each false e = ends_later (step_heads rigid (λ same. both_ways (same_spine ts us) e (subst (λ vs. same_spine ts vs ≡ true) same (same_spine-same ts)))) ends
