-- A build may be put into the table of what the goals after it become, and then the table has what the goals before it become.
use Rattle.std.proofs.Common.{◌≡◌, ℕ, zero, suc, ◌+◌, Option, Some, None, option_map, List, [], ◌∷◌, length, map, All, refl, sym, ap, ap₂, ◌∙◌, subst}
use Rattle.std.specs.Prelude.{Contains}
use Rattle.std.proofs.lemmas.List.Elements.{All-weaker}
use Rattle.lf_definitions.specs.Syntax.{bound, constant, metavariable, LfTerm, no_args, lams, SimpleType, base, arrow, arrows, LfType, pi, family, Context, shape_of, shapes_of_types}
use Rattle.lf_definitions.specs.Shaping.{Scope, under, under_all, Shaped, shaped_lam}
use Rattle.lf_definitions.specs.ShapedGoals.{scope_in}
use Rattle.lf_definitions.specs.Substitution.{stays}
use Rattle.lf_definitions.specs.Occurrence.{OccursIn}
use Rattle.lf_definitions.specs.Replacements.{Fits, fits_stays, Goes}
use Rattle.lf_definitions.specs.Typing.{LfGoal}
use Rattle.lf_definitions.specs.Signatures.{LfSignature}
use Rattle.lf_definitions.specs.GoalLists.{LfGoals, all_goals, ids}
use Rattle.lf_definitions.specs.Instantiation.{Assignment, assigned, instantiating, Instantiated}
use Rattle.lf_definitions.proofs.Options.{Some-Some}
use Rattle.head_laws.specs.AssignmentLaws.{AssignsClosedTerms}
use Rattle.head_laws.proofs.Known.{known_term}
use Rattle.unifiers.proofs.Entries.{term_put, found_entry}
use Rattle.lf_functions.specs.Instances.{instance_of}
use Rattle.lf_functions.specs.CompositionLaws.{instance_of_assigned, followed_by}
use Rattle.lf_functions.proofs.Results.{instances_are_the_one_result}
use Rattle.lf_functions.proofs.InstanceLaws.{instances_look_at_what_occurs}
use Rattle.lf_functions.proofs.Compositions.{instances_compose, following_goes_on}
use Rattle.application_laws.proofs.Members.{in_contained}
use Rattle.build_laws.proofs.Following.{put_is_shaped, entries_are_shaped}
use Rattle.derivations.proofs.Lists.{All-of_map}
use Rattle.meta_goals.specs.Bindings.{LfBinding, assigned_of, assigning, binding_for}
use Rattle.meta_goals.specs.Instantiates.{Instantiates, TermIsShaped}
use Rattle.meta_goals.proofs.BindingLaws.{bound_goals_have_their_shapes, assignments_go_under_variables}
use Rattle.meta_goals.proofs.ChangedTerms.{under_all-metavariable}
use Rattle.meta_goals.proofs.LeftGoals.{is_unassigned}
use Rattle.proof_replay.specs.Leading.{BuildTakes, EndsGoals}
use Rattle.proof_replay.specs.Putting.{put_into, all_again, CanEnd, PutsBack}
use Rattle.proof_replay.proofs.Tables.{first_known, put_found, put_agrees}

-- What is shaped among goals that end may be instantiated by the table, and has one instance.
module _ (sig : LfSignature) (goals : List LfGoal) (finals : List LfBinding) (ends : EndsGoals sig goals finals) where
  pub ends_in : (ctx : Context) → Goes ends.goes.0 (scope_in sig goals ctx) (scope_in sig [] ctx) (instantiating (assigning finals))
  ends_in ctx = assignments_go_under_variables sig goals [] (assigning finals) ends.goes.0 ends.closed ends.goes.1 ctx

  pub may_end : (ctx : Context) (t : LfTerm) (s : SimpleType) → Shaped (scope_in sig goals ctx) t s → Instantiates finals (TermIsShaped t)
  may_end ctx t s shaped =
      record {
        size = ends.goes.0;
        outer = scope_in sig goals ctx;
        target = scope_in sig [] ctx;
        goes = ends_in ctx;
        closed = ends.closed;
        contexts = λ m c b known found. ends.shapes m c b (sym (under_all-metavariable (shapes_of_types ctx) (scope_in sig goals []) m) ∙ known) found;
        shaped = (s, shaped);
      }

  pub ended_is : (ctx : Context) (t r : LfTerm) (s : SimpleType) → Shaped (scope_in sig goals ctx) t s → Instantiated (assigning finals) t r → r ≡ instance_of goals (assigning finals) t
  ended_is ctx t r s shaped result = (((instances_are_the_one_result sig goals ctx ends.goes.0 (scope_in sig [] ctx) (assigning finals) (ends_in ctx)).0 t s shaped).0 r).0 result

-- A context with entries of any shapes.
type_shaped : SimpleType → LfType
type_shaped base = family zero no_args
type_shaped (arrow a s) = pi (type_shaped a) (type_shaped s)

shape_of-type_shaped : (s : SimpleType) → shape_of (type_shaped s) ≡ s
unfolding type_shaped
shape_of-type_shaped base = refl
shape_of-type_shaped (arrow a s) = ap₂ arrow (shape_of-type_shaped a) (shape_of-type_shaped s)

shapes_of-types_shaped : (ss : List SimpleType) → shapes_of_types (map type_shaped ss) ≡ ss
shapes_of-types_shaped [] = refl
shapes_of-types_shaped (s ∷ ss) = ap₂ (λ x xs. x ∷ xs) (shape_of-type_shaped s) (shapes_of-types_shaped ss)

-- What is under abstractions is shaped with their variables.
inside_lams : (n : ℕ) (Γ : Scope) (b : LfTerm) (s : SimpleType) → Shaped Γ (lams n b) s → (ss : List SimpleType) × (c : SimpleType) × Shaped (under_all ss Γ) b c
inside_lams zero Γ b s p = ([], s, p)
inside_lams (suc n) Γ b _ (shaped_lam {a = a} {s = s} p) = let r = inside_lams n (under a Γ) b s p in (a ∷ r.0, r.1, r.2)

none_is : {s : SimpleType} → None ≡ Some s → ⊥
none_is e = absurd cc

staying : {Δ : Scope} {p m : ℕ} {s : SimpleType} → Fits Δ p (stays (metavariable m)) s → Δ (metavariable m) ≡ Some s
staying (fits_stays e) = e

module _ (sig : LfSignature) (list next : LfGoals) (build old : List LfBinding) (takes : BuildTakes sig list next build) (ends : EndsGoals sig (all_goals next) old) where
  abbrev Before : List LfGoal
  Before = all_goals list

  abbrev After : List LfGoal
  After = all_goals next

  abbrev σ : Assignment
  σ = assigning build

  abbrev τ : Assignment
  τ = assigning old

  abbrev new : List LfBinding
  new = all_again old (map (put_into After old) build)

  pub each_can_end : All (CanEnd After old) build
  each_can_end =
      All-weaker (λ e. (s : SimpleType) × Shaped (scope_in sig After []) (term_put (assigned_of e)) s) (CanEnd After old) each build
      (All-of_map (λ e. (s : SimpleType) × Shaped (scope_in sig After []) (term_put e) s) assigned_of build (entries_are_shaped sig list next (map assigned_of build) takes.takes))
    where
      each : (e : LfBinding) → (s : SimpleType) × Shaped (scope_in sig After []) (term_put (assigned_of e)) s → CanEnd After old e
      each e (s, shaped) =
          let inside = inside_lams (length e.shapes) (scope_in sig After []) e.bound_body s shaped in
          let ctx = map type_shaped inside.0 in
          let body = subst (λ ss. Shaped (under_all ss (scope_in sig After [])) e.bound_body inside.1) (sym (shapes_of-types_shaped inside.0)) inside.2 in
          record { instantiates = may_end sig After old ends ctx e.bound_body inside.1 body; only = λ r result. ended_is sig After old ends ctx e.bound_body r inside.1 body result }

  agree : (m : ℕ) → assigning new m ≡ followed_by After σ τ m
  agree m = put_agrees After old ends.closed build m takes.takes.keys_differ

  goes_both : Goes (takes.takes.goes.0 + ends.goes.0) (scope_in sig Before []) (scope_in sig [] []) (instantiating (followed_by After σ τ))
  goes_both = following_goes_on sig Before After [] [] takes.takes.goes.0 ends.goes.0 (scope_in sig [] []) σ τ takes.takes.goes.1 ends.goes.1

  goes : Goes (takes.takes.goes.0 + ends.goes.0) (scope_in sig Before []) (scope_in sig [] []) (instantiating (assigning new))
  goes (bound n) s e = goes_both (bound n) s e
  goes (constant c) s e = goes_both (constant c) s e
  goes (metavariable m) s e = subst (λ o. Fits (scope_in sig [] []) (takes.takes.goes.0 + ends.goes.0) (assigned m o) s) (sym (agree m)) (goes_both (metavariable m) s e)

  closed_step : (m n : ℕ) (u : LfTerm) (o : Option LfTerm) → σ m ≡ o → instance_of_assigned After τ m o ≡ Some u → OccursIn (bound n) u → ⊥
  closed_step m n u None is e o = ends.closed m n u e o
  closed_step m n u (Some v) is e o =
      let key = in_contained m (ids Before) (found_entry (λ k x. Contains (ids Before) k) (map assigned_of build) takes.takes.keys m v is) in
      let put = put_is_shaped sig Before After σ takes.takes.goes.0 takes.takes.goes.1 m v key is in
      let ended = ((instances_are_the_one_result sig After [] ends.goes.0 (scope_in sig [] []) τ ends.goes.1).0 v put.0 put.1).1 in
      none_is (known_term ended (bound n) (subst (OccursIn (bound n)) (sym (Some-Some e)) o)).1

  closed : AssignsClosedTerms (assigning new)
  closed m n u e o = closed_step m n u (σ m) refl (sym (agree m) ∙ e) o

  shapes_step : (m : ℕ) (s : SimpleType) (b : LfBinding) (o : Option LfBinding) → scope_in sig Before [] (metavariable m) ≡ Some s → binding_for build m ≡ o →
      first_known (option_map (put_into After old) o) (binding_for old m) ≡ Some b → s ≡ arrows b.shapes base
  shapes_step m s b None known is found =
      let stay = subst (λ o. Fits (scope_in sig After []) takes.takes.goes.0 (assigned m o) s) (is_unassigned build m is) (takes.takes.goes.1 (metavariable m) s known) in
      ends.shapes m s b (staying stay) found
  shapes_step m s b (Some e) known is found =
      bound_goals_have_their_shapes sig Before build takes.shapes [] m s e known is ∙ ap (λ (x : LfBinding). arrows x.shapes base) (Some-Some found)

  shapes : (m : ℕ) (s : SimpleType) (b : LfBinding) → scope_in sig Before [] (metavariable m) ≡ Some s → binding_for new m ≡ Some b → s ≡ arrows b.shapes base
  shapes m s b known found = shapes_step m s b (binding_for build m) known refl (sym (put_found After old build old m takes.takes.keys_differ) ∙ found)

  composes : (ctx : Context) (t : LfTerm) (s : SimpleType) → Shaped (scope_in sig Before ctx) t s → instance_of Before (assigning new) t ≡ instance_of After τ (instance_of Before σ t)
  composes ctx t s shaped =
      (instances_look_at_what_occurs Before (assigning new) (followed_by After σ τ)).0 t (λ m o. agree m)
      ∙ sym ((instances_compose sig Before After ctx ctx takes.takes.goes.0 ends.goes.0 (scope_in sig [] ctx) σ τ
      (assignments_go_under_variables sig Before After σ takes.takes.goes.0 takes.takes.closed takes.takes.goes.1 ctx) (ends_in sig After old ends ctx)).0 t s shaped)

  pub puts_back : PutsBack sig list next build old new
  puts_back = record { ends = record { goes = (takes.takes.goes.0 + ends.goes.0, goes); closed = closed; shapes = shapes }; composes = composes }
