-- The own term of a type, among its opening list: it is shaped, and by a table that ends the list it becomes the body that the table has for number 0.
use Rattle.std.proofs.Common.{◌≡◌, ℕ, Some, None, List, [], sym, ap, ◌∙◌, subst}
use Rattle.lf_definitions.specs.Syntax.{LfHead, bound, metavariable, SimpleType, base, arrow, arrows, LfType, binders_of, conclusion_atom, shape_of, shapes_of_types, arity}
use Rattle.lf_definitions.specs.Shaping.{Shaped, shaped_at, ShapedSpine}
use Rattle.lf_definitions.specs.ShapedGoals.{scope_in}
use Rattle.lf_definitions.specs.Renaming.{next_by}
use Rattle.lf_definitions.specs.Substitution.{stays, Applied}
use Rattle.lf_definitions.specs.Expansion.{own_variables}
use Rattle.lf_definitions.specs.Occurrence.{OccursInSpine, occurs_first, occurs_later}
use Rattle.lf_definitions.specs.Replacements.{Fits, fits_stays}
use Rattle.lf_definitions.specs.Typing.{LfGoal}
use Rattle.lf_definitions.specs.Signatures.{LfSignature}
use Rattle.lf_definitions.specs.GoalLists.{all_goals, opening}
use Rattle.lf_definitions.specs.Instantiation.{assigned, InstantiatedSpine}
use Rattle.lf_definitions.proofs.Telescopes.{next_by-bound}
use Rattle.lf_definitions.proofs.Typing.{shape_of-pis}
use Rattle.opening_laws.proofs.Expanded.{head_of_eta, Shaped-own_variables}
use Rattle.opening_laws.proofs.Shapes.{whole_type}
use Rattle.lf_functions.specs.Instances.{instance_of}
use Rattle.derivations.specs.Replays.{own_term}
use Rattle.meta_goals.specs.Bindings.{LfBinding, assigning, binding_for}
use Rattle.meta_goals.proofs.BodyFacts.{applied_to_own}
use Rattle.meta_goals.proofs.ChangedTerms.{under_all-metavariable, spine_without, applies, assigned_applied}
use Rattle.meta_goals.proofs.LeftGoals.{is_unassigned}
use Rattle.proof_replay.specs.Leading.{EndsGoals}
use Rattle.proof_replay.proofs.PutBack.{may_end, ended_is}

own_variables_are_bound : (s : SimpleType) (k : LfHead) → OccursInSpine k (own_variables s) → (n : ℕ) × (k ≡ bound n)
own_variables_are_bound base k o = elim o [ ]
own_variables_are_bound (arrow a s) k (occurs_first _ _ _ o) = (_, head_of_eta k (next_by (arity s) (bound 0)) a o ∙ next_by-bound (arity s) 0)
own_variables_are_bound (arrow a s) k (occurs_later _ _ _ o) = own_variables_are_bound s k o

apart : {m n : ℕ} → metavariable m ≡ bound n → ⊥
apart e = cc

no_metavariable : (s : SimpleType) (m : ℕ) → OccursInSpine (metavariable m) (own_variables s) → ⊥
no_metavariable s m o = apart (own_variables_are_bound s (metavariable m) o).1

none_is : {s : SimpleType} → None ≡ Some s → ⊥
none_is e = absurd cc

no_metavariable_known : (sig : LfSignature) {p m : ℕ} {s : SimpleType} → Fits (scope_in sig [] []) p (stays (metavariable m)) s → ⊥
no_metavariable_known sig (fits_stays e) = none_is e

module _ (sig : LfSignature) (a : LfType) where
  abbrev pub Goals : List LfGoal
  Goals = all_goals (opening a)

  known : scope_in sig Goals [] (metavariable 0) ≡ Some (shape_of a)
  known = ap (λ b. Some (shape_of b)) (whole_type a)

  shape_is : shape_of a ≡ arrows (shapes_of_types (binders_of a)) base
  shape_is = ap shape_of (sym (whole_type a)) ∙ shape_of-pis (binders_of a) (conclusion_atom a).atom_family (conclusion_atom a).atom_args

  own_shaped : ShapedSpine (scope_in sig Goals (binders_of a)) (own_variables (shape_of a)) (shape_of a)
  own_shaped = subst (λ s. ShapedSpine (scope_in sig Goals (binders_of a)) (own_variables s) s) (sym shape_is) (Shaped-own_variables (shapes_of_types (binders_of a)) (scope_in sig Goals []))

  pub own_term_is_shaped : Shaped (scope_in sig Goals (binders_of a)) (own_term a) base
  own_term_is_shaped = shaped_at (shape_of a) (under_all-metavariable (shapes_of_types (binders_of a)) (scope_in sig Goals []) 0 ∙ known) own_shaped

  module _ (finals : List LfBinding) (ends : EndsGoals sig Goals finals) where
    pub first_is_there : binding_for finals 0 ≡ None → ⊥
    first_is_there none =
        no_metavariable_known sig (subst (λ o. Fits (scope_in sig [] []) ends.goes.0 (assigned 0 o) (shape_of a)) (is_unassigned finals 0 none) (ends.goes.1 (metavariable 0) (shape_of a) known))

    pub own_term_becomes : (b : LfBinding) → binding_for finals 0 ≡ Some b → b.bound_body ≡ instance_of Goals (assigning finals) (own_term a)
    own_term_becomes b found =
        let own = own_variables (shape_of a) in
        let may = may_end sig Goals finals ends (binders_of a) (own_term a) base own_term_is_shaped in
        let results : InstantiatedSpine (assigning finals) own own = spine_without finals own (λ m o. no_metavariable (shape_of a) m o) in
        let fits = applies finals 0 own own b may found results in
        let put : Applied stays _ own b.bound_body = applied_to_own b.shapes b.bound_body own fits (ap own_variables (ends.shapes 0 (shape_of a) b known found)) in
        ended_is sig Goals finals ends (binders_of a) (own_term a) b.bound_body base own_term_is_shaped (assigned_applied finals 0 own own b may found results b.bound_body put)
