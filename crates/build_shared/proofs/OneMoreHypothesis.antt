-- One more hypothesis: when it may be added, and what the goal becomes then.
use Rattle.std.proofs.Common.{◌≡◌, ℕ, ◌+◌, ◌<◌, Bool, true, Some, None, List, [], ◌∷◌, ◌++◌, length, All, sym, ap, ap₂, ◌∙◌, subst}
use Rattle.std.specs.Prelude.{◌&&◌, is_some, if◌then◌else◌}
use Rattle.std.specs.List.{list_all}
use Rattle.std.proofs.lemmas.List.Elements.{All-contains}
use Rattle.lf_definitions.specs.Syntax.{metavariable, LfTerm, at, Spine, no_args, arg, joined, LfType, pis, family, LfAtom, atomic, Context}
use Rattle.lf_definitions.specs.Renaming.{next_by, rename_spine, rename_type}
use Rattle.lf_definitions.specs.ShapedGoals.{kind_shapes_in, scope_in, ShapedGoal}
use Rattle.lf_definitions.specs.Typing.{LfGoal}
use Rattle.lf_definitions.specs.Signatures.{LfSignature}
use Rattle.lf_definitions.specs.Instantiation.{Assignment}
use Rattle.lf_functions.specs.Instances.{instance_of, instance_of_atom}
use Rattle.opening_laws.specs.Openings.{kept_variables, keeping, returning}
use Rattle.opening_laws.specs.Conditions.{MentionsNone, is_dropped}
use Rattle.opening_laws.proofs.Kept.{keeping_type}
use Rattle.applications.specs.OpenedTypes.{kept_entries}
use Rattle.applications.specs.Methods.{LfCandidate, adds}
use Rattle.applications.specs.Applications.{Completion, completion, may_be_added, returned, goal_with}
use Rattle.completion_laws.proofs.KeptContext.{may_add}
use Rattle.completion_laws.proofs.Becoming.{returned_shaped}
use Rattle.meta_goals.specs.Bindings.{LfBinding}
use Rattle.build_shared.specs.Attempts.{IsUnifiedBy}
use Rattle.build_shared.specs.Added.{with_one_more, CanAdd}
use Rattle.build_shared.specs.Conditions.{ContextHasShapes}

module _ (sig : LfSignature) (goals : List LfGoal) (n : ℕ) (g : LfGoal) (c : LfCandidate) (bindings : List LfBinding) (by : IsUnifiedBy sig goals n g c bindings) where
  is_shaped : ShapedGoal sig goals g
  is_shaped = All-contains (ShapedGoal sig goals) goals g by.unified.of_goals.1 by.unified.one_of

  pub context_has_shapes : ContextHasShapes g.context
  context_has_shapes = (kind_shapes_in sig, scope_in sig goals [], is_shaped.0)

  pub can_add : (kept : List ℕ) (fact : LfAtom) → All (λ place. place < length g.context) kept → may_be_added g kept fact ≡ true → CanAdd g kept fact
  can_add kept fact places may =
      let clean = may_add g kept fact may in
      record {
        are_places = places;
        entries_kept = clean.entries_kept;
        fact_is_clean = clean.fact_is_clean;
        target_is_clean = clean.target_is_clean;
        target_has_shapes = (kind_shapes_in sig, _, returned_shaped (kind_shapes_in sig) (scope_in sig goals []) g kept fact clean g.target clean.target_is_clean is_shaped.1);
      }

-- By the two tests.
pub completed_when : (n : ℕ) (goals : List LfGoal) (g : LfGoal) (c : LfCandidate) (σ : Assignment) (kept : List ℕ) (assigned may : Bool) → assigned ≡ list_all (λ f. is_some (σ f.id)) c.opened.fresh →
    may ≡ may_be_added g kept (instance_of_atom goals σ c.opened.end) →
    (if assigned && may then Some (with_one_more (n + length c.opened.fresh) g kept (instance_of_atom goals σ c.opened.end) (instance_of goals σ (at c.head c.opened.terms))) else None) ≡ completion n goals g c σ (adds kept)
completed_when n goals g c σ kept assigned may first second =
    ap₂ (λ a b. if a && b then Some (with_one_more (n + length c.opened.fresh) g kept (instance_of_atom goals σ c.opened.end) (instance_of goals σ (at c.head c.opened.terms))) else None) first second

pub one_more_is : (g : LfGoal) (kept : List ℕ) (number other : ℕ) (fact end : LfAtom) (proof term : LfTerm) → number ≡ other → fact ≡ end → proof ≡ term →
    with_one_more number g kept fact proof ≡ with_one_more other g kept end term
one_more_is g kept number other fact end proof term numbers facts proofs =
    ap (λ k. with_one_more k g kept fact proof) numbers ∙ ap₂ (λ a t. with_one_more other g kept a t) facts proofs

abbrev made : ℕ → Spine → List LfGoal → Completion
made number args more = record { becomes_term = at (metavariable number) args; more = more }

pub made_of : (number : ℕ) (g : LfGoal) (kept : List ℕ) (fact : LfAtom) (proof : LfTerm) (args : Spine) (more : List LfGoal) (added : LfGoal) →
    args ≡ joined (kept_variables kept (length g.context) (kept_entries kept 0 g.context)) (arg proof no_args) → more ≡ added ∷ [] → added ≡ goal_with number g kept fact →
    made number args more ≡ with_one_more number g kept fact proof
made_of number g kept fact proof args more added args_are more_is added_is = ap₂ (λ vs l. made number vs l) args_are (more_is ∙ ap (λ h. h ∷ []) added_is)

-- the parts of a type without binders
pub atom_parts : (bs : Context) (f g : ℕ) (us vs : Spine) → pis bs (family f us) ≡ family g vs → (f ≡ g) × (us ≡ vs)
atom_parts [] f g us vs e = (family_of e, args_of e)
  where
    family_of : family f us ≡ family g vs → f ≡ g
    family_of e = cc

    args_of : family f us ≡ family g vs → us ≡ vs
    args_of e = cc
atom_parts (b ∷ bs) f g us vs e = absurd cc

abbrev goal_by : ℕ → Context → ℕ → Spine → LfGoal
goal_by id ctx f us = record { id = id; context = ctx; target = record { atom_family = f; atom_args = us } }

pub added_is : (number : ℕ) (g : LfGoal) (kept : List ℕ) (fact : LfAtom) (entries last ctx : Context) (hypothesis inside : LfType) (bs : Context) (f : ℕ) (us : Spine) → entries ≡ kept_entries kept 0 g.context →
    hypothesis ≡ atomic (returned kept g.context fact) → last ≡ hypothesis ∷ [] → ctx ≡ entries ++ last → inside ≡ atomic (returned kept g.context g.target) → pis bs (family f us) ≡ rename_type (next_by 1) inside →
    goal_by number ctx f us ≡ goal_with number g kept fact
added_is number g kept fact entries last ctx hypothesis inside bs f us entries_are is last_is ctx_is inside_is raised_is =
    let parts = atom_parts bs f g.target.atom_family us (rename_spine (next_by 1) (returned kept g.context g.target).atom_args) (raised_is ∙ ap (rename_type (next_by 1)) inside_is) in
    ap (λ l. goal_by number l f us) (ctx_is ∙ ap₂ (λ es l. es ++ l) entries_are (last_is ∙ ap (λ h. h ∷ []) is)) ∙ ap₂ (λ k vs. goal_by number (kept_entries kept 0 g.context ++ atomic (returned kept g.context fact) ∷ []) k vs) parts.0 parts.1

-- An atom that mentions no dropped entry, as it is seen among the kept ones.
pub seen_inside : (kept : List ℕ) (count : ℕ) (ctx : Context) (a : LfAtom) (type inside : LfType) → count ≡ length ctx → type ≡ atomic a → MentionsNone (is_dropped kept (length ctx)) (atomic a) →
    ((b : LfType) → rename_type (keeping kept count) b ≡ type → inside ≡ b) → inside ≡ atomic (returned kept ctx a)
seen_inside kept count ctx a type inside counts is clean seen =
    seen (rename_type (returning kept count) (atomic a)) (keeping_type kept count (atomic a) (subst (λ n. MentionsNone (is_dropped kept n) (atomic a)) (sym counts) clean) ∙ sym is)
    ∙ ap (λ n. rename_type (returning kept n) (atomic a)) counts
