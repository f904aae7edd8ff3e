-- The whole assignment of a candidate is shaped among the goals, the fresh ones and what is added.
use Rattle.std.proofs.Common.{◌≡◌, ℕ, zero, suc, ◌+◌, ◌<◌, Bool, true, false, Some, None, List, [], ◌∷◌, ◌++◌, map, All, length, refl, sym, ap, ◌∙◌, subst, arith}
use Rattle.std.specs.Prelude.{nat_eq, ◌&&◌, is_some, if◌then◌else◌, Contains}
use Rattle.std.specs.List.{list_all}
use Rattle.std.proofs.lemmas.List.Elements.{All-nil, All-cons, All-head, All-append, All-weaker, All-map}
use Rattle.lf_definitions.specs.Syntax.{bound, constant, metavariable, LfTerm, at, SimpleType, base, arrow, arrows, LfType, Context, shape_of, shapes_of_types, lams}
use Rattle.lf_definitions.specs.Shaping.{Scope, under, under_all, Shaped, shaped_lam, shape_of_metavariable}
use Rattle.lf_definitions.specs.ShapedGoals.{shapes_of_goals, without_variables, kind_shapes_in, scope_in}
use Rattle.lf_definitions.specs.Replacements.{Goes}
use Rattle.lf_definitions.specs.Signatures.{LfSignature, constant_types}
use Rattle.lf_definitions.specs.Typing.{LfGoal, goal_type, type_of_metavariable}
use Rattle.lf_definitions.specs.GoalLists.{AreDistinct}
use Rattle.lf_definitions.specs.Instantiation.{Assignment, instantiating, LfAssigned, assignment_of}
use Rattle.lf_definitions.proofs.Options.{Some-Some}
use Rattle.lf_definitions.proofs.Renaming.{same_head, rename-same_head, Shaped-rename}
use Rattle.lf_definitions.proofs.ShapedGoals.{ScopeGrows}
use Rattle.lf_definitions.proofs.Typing.{shape_of-pis}
use Rattle.unification.specs.Equations.{numbered_from, solved}
use Rattle.unification.specs.Solutions.{ShapedEntry, IsResolvedAnswer}
use Rattle.unification.proofs.Spreading.{under_all-constant, under_all-metavariable}
use Rattle.unifiers.proofs.Entries.{entries_closed, entries_go}
use Rattle.unifiers.proofs.Spines.{Goes-local}
use Rattle.lf_functions.specs.Instances.{instance_of, instance_of_atom}
use Rattle.lf_functions.specs.Endings.{unifier_of}
use Rattle.lf_functions.proofs.Depths.{KnowsGoals-scope_in, KnowsGoals-under_all, Goes-goals_depth}
use Rattle.lf_functions.proofs.Results.{instances_in_scope, instances_are_the_one_result}
use Rattle.lf_functions.proofs.EndingLaws.{unifiers_are_answers}
use Rattle.opening_laws.proofs.Numbers.{Numbered, AreBelow, found_among, more_goals}
use Rattle.typing_laws.proofs.GoalLists.{type_of_goal}
use Rattle.applications.specs.Methods.{LfCandidate, Outcome, closes, adds}
use Rattle.applications.specs.Applications.{freezing, may_be_added, goal_with, Completion, completion, entry_of, put_into}
use Rattle.application_laws.specs.Conditions.{MayBeUsed}
use Rattle.application_laws.proofs.Members.{numbered_from_places}
use Rattle.application_laws.proofs.NewNumbers.{numbers_of, HasNumberWithin}
use Rattle.application_laws.proofs.Counted.{all_with, whole_with, one_more}
use Rattle.application_laws.proofs.NewGoalTerms.{new_goal_term_is_shaped}

grown_term : {Γ : Scope} {t : LfTerm} {s : SimpleType} → Shaped Γ t s → (Δ : Scope) → ScopeGrows Γ Δ → Shaped Δ t s
grown_term {t = t} {s = s} p Δ grow = subst (λ x. Shaped Δ x s) (rename-same_head t) (Shaped-rename p same_head Δ grow)

-- The shape of a metavariable is that of its type.
shape_from_type : (goals : List LfGoal) (m : ℕ) (a : LfType) → type_of_metavariable goals m ≡ Some a → shape_of_metavariable (shapes_of_goals goals) m ≡ Some (shape_of a)
shape_from_type [] m a e = absurd cc
shape_from_type (h ∷ rest) m a e = step (nat_eq h.id m) e (shape_from_type rest m a)
  where
    step : (b : Bool) → (if b then Some (goal_type h) else type_of_metavariable rest m) ≡ Some a → (type_of_metavariable rest m ≡ Some a → shape_of_metavariable (shapes_of_goals rest) m ≡ Some (shape_of a)) →
        (if b then Some (shape_of (goal_type h)) else shape_of_metavariable (shapes_of_goals rest) m) ≡ Some (shape_of a)
    step true f later = ap (λ x. Some (shape_of x)) (Some-Some f)
    step false f later = later f

-- With no context there are no variables.
closed_scope : (sig : LfSignature) (goals : List LfGoal) → ScopeGrows (scope_in sig goals []) (without_variables (scope_in sig goals []))
closed_scope sig goals (bound n) s e = absurd cc
closed_scope sig goals (constant c) s e = e
closed_scope sig goals (metavariable m) s e = e

out_of_context : (sig : LfSignature) (goals : List LfGoal) (ctx : Context) → ScopeGrows (without_variables (scope_in sig goals ctx)) (scope_in sig goals [])
out_of_context sig goals ctx (bound n) s e = absurd cc
out_of_context sig goals ctx (constant c) s e = sym (under_all-constant (shapes_of_types ctx) (scope_in sig goals []) c) ∙ e
out_of_context sig goals ctx (metavariable m) s e = sym (under_all-metavariable (shapes_of_types ctx) (scope_in sig goals []) m) ∙ e

-- A body under abstractions over a context.
over_context : (ctx : Context) (Γ : Scope) (b : LfTerm) → Shaped (under_all (shapes_of_types ctx) Γ) b base → Shaped Γ (lams (length ctx) b) (arrows (shapes_of_types ctx) base)
over_context [] Γ b p = p
over_context (a ∷ ctx) Γ b p = shaped_lam (over_context ctx (under (shape_of a) Γ) b p)

-- The body of a shaped term, and what is as it is, elsewhere too.
pub record HasBody (Γ : Scope) (count : ℕ) (b : LfTerm) (s : SimpleType) : Type 0 where
  pub local : List SimpleType
  pub shape : SimpleType
  pub is_shaped : Shaped (under_all local Γ) b shape
  pub over : (Δ : Scope) (x : LfTerm) → Shaped (under_all local Δ) x shape → Shaped Δ (lams count x) s

pub has_body : (count : ℕ) (b : LfTerm) (Γ : Scope) (s : SimpleType) → Shaped Γ (lams count b) s → HasBody Γ count b s
has_body zero b Γ s p = record { local = []; shape = s; is_shaped = p; over = λ Δ x q. q }
has_body (suc count) b Γ base p = elim p [ ]
has_body (suc count) b Γ (arrow a s) (shaped_lam p) =
    let inner = has_body count b (under a Γ) s p in
    record { local = a ∷ inner.local; shape = inner.shape; is_shaped = inner.is_shaped; over = λ Δ x q. shaped_lam (inner.over (under a Δ) x q) }

module _ (sig : LfSignature) (goals : List LfGoal) (distinct : AreDistinct goals) (n : ℕ) (below : All (λ h. h.id < n) goals) (g : LfGoal) (one_of : Contains goals g) (c : LfCandidate)
    (may : MayBeUsed sig goals n g c) (entries : List LfAssigned) (solves : unifier_of sig (all_with goals c) g.context (freezing c.outcome goals g) c.equations ≡ solved entries) where
  abbrev pub Everything : List LfGoal
  Everything = all_with goals c

  abbrev pub Here : Scope
  Here = scope_in sig Everything g.context

  abbrev pub Globals : Scope
  Globals = scope_in sig Everything []

  pub answer : IsResolvedAnswer Here (freezing c.outcome goals g) (numbered_from 0 c.equations) entries
  answer = unifiers_are_answers sig Everything g.context (freezing c.outcome goals g) c.equations entries may.equations_are_shaped solves

  pub unifier_goes : (q : ℕ) × Goes q Here Here (instantiating (assignment_of entries))
  unifier_goes = entries_go Here entries answer.shaped

  abbrev term_here : LfTerm
  term_here = instance_of Everything (assignment_of entries) (at c.head c.opened.terms)

  term_is_shaped : Shaped Here term_here base
  term_is_shaped = ((instances_are_the_one_result sig Everything g.context unifier_goes.0 Here (assignment_of entries) unifier_goes.1).0 (at c.head c.opened.terms) base may.term_is_shaped).1

  numbered : Numbered n c.opened.fresh
  numbered = numbered_from_places n c.opened.fresh may.fresh_are_numbered

  all_below : AreBelow (n + length c.opened.fresh) Everything
  all_below =
      All-append (λ h. h.id < n + length c.opened.fresh) goals c.opened.fresh (All-weaker (λ h. h.id < n) (λ h. h.id < n + length c.opened.fresh) (λ h less. omega (arith, less)) goals below)
      (All-weaker (HasNumberWithin n (n + length c.opened.fresh)) (λ h. h.id < n + length c.opened.fresh) (λ h both. both.1) c.opened.fresh (numbers_of n c.opened.fresh numbered))

  grows : (more : List LfGoal) (ctx : Context) → ScopeGrows (scope_in sig Everything ctx) (scope_in sig (Everything ++ more) ctx)
  grows more ctx = more_goals (shapes_of_types (constant_types sig)) Everything more (shapes_of_types ctx)

  abbrev BodyIsShaped : Completion → Type 0
  BodyIsShaped done = Shaped (scope_in sig (Everything ++ done.more) g.context) done.becomes_term base

  body_is_shaped : (done : Completion) (o : Outcome) → completion n Everything g c (assignment_of entries) o ≡ Some done → BodyIsShaped done
  body_is_shaped done closes e = subst BodyIsShaped (Some-Some e) (grown_term term_is_shaped (scope_in sig (Everything ++ []) g.context) (grows [] g.context))
  body_is_shaped done (adds kept) e =
      step (list_all (λ f. is_some (assignment_of entries f.id)) c.opened.fresh) (may_be_added g kept (instance_of_atom Everything (assignment_of entries) c.opened.end)) e
    where
      shaped_then : BodyIsShaped (one_more n Everything g c (assignment_of entries) kept)
      shaped_then =
          let id = n + length c.opened.fresh in
          let fact = instance_of_atom Everything (assignment_of entries) c.opened.end in
          let it = goal_with id g kept fact in
          new_goal_term_is_shaped (scope_in sig (Everything ++ it ∷ []) []) id g kept fact term_here
          (All-head (λ h. scope_in sig (Everything ++ it ∷ []) [] (metavariable h.id) ≡ Some (shape_of (goal_type h))) it [] (found_among (it ∷ []) Everything id all_below (refl, tt)))
          (grown_term term_is_shaped (scope_in sig (Everything ++ it ∷ []) g.context) (grows (it ∷ []) g.context))

      step : (a b : Bool) → (if a && b then Some (one_more n Everything g c (assignment_of entries) kept) else None) ≡ Some done → BodyIsShaped done
      step true true f = subst BodyIsShaped (Some-Some f) shaped_then
      step true false f = absurd cc
      step false b f = absurd cc

  module _ (done : Completion) (completes : completion n Everything g c (assignment_of entries) c.outcome ≡ Some done) where
    -- what is known with the new goal
    abbrev pub Beyond : Scope
    Beyond = scope_in sig (Everything ++ done.more) []

    abbrev pub first_entry : LfAssigned
    first_entry = entry_of g done.becomes_term

    abbrev pub alone : Assignment
    alone = assignment_of (first_entry ∷ [])

    abbrev pub whole : List LfAssigned
    whole = whole_with goals g c entries done

    first_is_shaped : ShapedEntry Beyond first_entry
    first_is_shaped =
        let body = over_context g.context Beyond done.becomes_term (body_is_shaped done c.outcome completes) in
        let shape = shape_of-pis g.context g.target.atom_family g.target.atom_args in (
          shape_of (goal_type g),
          goal_has_shape,
          grown_term (subst (Shaped Beyond (lams (length g.context) done.becomes_term)) (sym shape) body) (without_variables Beyond) (closed_scope sig (Everything ++ done.more)),
        )
      where
        goal_has_shape : Beyond (metavariable g.id) ≡ Some (shape_of (goal_type g))
        goal_has_shape =
            more_goals (shapes_of_types (constant_types sig)) Everything done.more [] (metavariable g.id) (shape_of (goal_type g))
            (more_goals (shapes_of_types (constant_types sig)) goals c.opened.fresh [] (metavariable g.id) (shape_of (goal_type g)) (shape_from_type goals g.id (goal_type g) (type_of_goal goals distinct g one_of)))

    only_first : All (ShapedEntry Beyond) (first_entry ∷ [])
    only_first = All-cons (ShapedEntry Beyond) first_entry [] first_is_shaped (All-nil (ShapedEntry Beyond))

    -- The goal's own entry goes on from all scopes of local binders.
    pub alone_goes : (local : List SimpleType) → (q : ℕ) × Goes q (under_all local Globals) (under_all local Beyond) (instantiating alone)
    alone_goes local =
        let go = entries_go Beyond (first_entry ∷ []) only_first in
        (go.0, Goes-local alone (entries_closed Beyond (first_entry ∷ []) only_first) go.0 Globals Beyond (λ h s e. go.1 h s (grows done.more [] h s e)) local)

    pub entry_has_body : (f : LfAssigned) (shaped : ShapedEntry Here f) → HasBody Globals f.binders_count f.body shaped.0
    entry_has_body f shaped = has_body f.binders_count f.body Globals shaped.0 (grown_term shaped.2 Globals (out_of_context sig Everything g.context))

    put_is_shaped : (f : LfAssigned) → ShapedEntry Here f → ShapedEntry Beyond (put_into Everything first_entry f)
    put_is_shaped f shaped =
        let body = entry_has_body f shaped in
        let go = alone_goes body.local in
        let from = under_all body.local Globals in
        let knows = KnowsGoals-under_all Everything body.local Globals (KnowsGoals-scope_in sig Everything []) in
        let result = ((instances_in_scope Everything (kind_shapes_in sig) from (under_all body.local Beyond) alone
        (Goes-goals_depth Everything go.0 from (under_all body.local Beyond) alone knows go.1)).0 f.body body.shape body.is_shaped).1 in (
          shaped.0,
          grows done.more [] (metavariable f.assigned_goal) shaped.0 (sym (under_all-metavariable (shapes_of_types g.context) Globals f.assigned_goal) ∙ shaped.1),
          grown_term (body.over Beyond (instance_of Everything alone f.body) result) (without_variables Beyond) (closed_scope sig (Everything ++ done.more)),
        )

    pub whole_is_shaped : All (ShapedEntry Beyond) whole
    whole_is_shaped =
        All-cons (ShapedEntry Beyond) first_entry (map (put_into Everything first_entry) entries) first_is_shaped
        (All-map (ShapedEntry Beyond) (put_into Everything first_entry) entries
        (All-weaker (ShapedEntry Here) (λ f. ShapedEntry Beyond (put_into Everything first_entry f)) put_is_shaped entries answer.shaped))

    pub whole_goes : (q : ℕ) × Goes q Globals Beyond (instantiating (assignment_of whole))
    whole_goes = let go = entries_go Beyond whole whole_is_shaped in (go.0, λ h s e. go.1 h s (grows done.more [] h s e))
