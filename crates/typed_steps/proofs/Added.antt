-- Where an application adds a hypothesis: what the goal becomes, and that the proof of the hypothesis is typed where entries are tested.
use Rattle.std.proofs.Common.{◌≡◌, ℕ, ◌+◌, Bool, true, false, Some, None, List, [], ◌∷◌, ◌++◌, All, length, refl, sym, ap, ◌∙◌, subst}
use Rattle.std.specs.Prelude.{◌&&◌, is_some, if◌then◌else◌, Contains}
use Rattle.std.specs.List.{list_all}
use Rattle.std.proofs.lemmas.List.Elements.{All-contains, All-contains_itself, All-head}
use Rattle.lf_definitions.specs.Syntax.{metavariable, LfTerm, at, Spine, no_args, arg, joined, base, LfType, LfAtom, atomic, Context, lams, shapes_of_types}
use Rattle.lf_definitions.specs.Shaping.{Scope, under_all, Shaped, shaped_arg, ShapedList}
use Rattle.lf_definitions.specs.ShapedGoals.{shaped_empty, kind_shapes_in, scope_in, ShapedTypeIn, ShapedGoal}
use Rattle.lf_definitions.specs.Occurrence.{OccursIn}
use Rattle.lf_definitions.specs.Substitution.{stays, Replacement, push_all, SubstitutedType}
use Rattle.lf_definitions.specs.Typing.{Typing, Typed, TypedSpine, typed_arg, LfGoal, goal_type, type_of_metavariable}
use Rattle.lf_definitions.specs.Signatures.{LfSignature, typing_in}
use Rattle.lf_definitions.specs.GoalLists.{LfGoals}
use Rattle.lf_definitions.proofs.Options.{Some-Some}
use Rattle.lf_definitions.proofs.ShapedGoals.{ShapedType-pis}
use Rattle.lf_definitions.proofs.Uniqueness.{unique_type}
use Rattle.lf_definitions.proofs.Variables.{with_context-metavariable}
use Rattle.typing_laws.proofs.GoalLists.{type_of_goal}
use Rattle.goal_lists.proofs.Leaving.{All-parts}
use Rattle.lf_functions.specs.Instances.{instance_of, instance_of_atom}
use Rattle.lf_functions.specs.Checking.{has_type}
use Rattle.lf_functions.proofs.Results.{instances_are_the_one_result}
use Rattle.lf_functions.proofs.CheckingLaws.{has_type_is_typing, has_type_looks_at_what_occurs, has_type_knows_what_occurs}
use Rattle.opening_laws.specs.Openings.{kept_variables}
use Rattle.opening_laws.proofs.Kept.{keeping_type}
use Rattle.opening_laws.proofs.Numbers.{keeps_type}
use Rattle.opening_laws.proofs.Shapes.{same_kept_shapes, shaped_variables}
use Rattle.opening_laws.proofs.KeptVariables.{seen_among}
use Rattle.applications.specs.OpenedTypes.{kept_entries}
use Rattle.applications.specs.Methods.{LfCandidate, adds}
use Rattle.applications.specs.Applications.{LfApplication, may_be_added, returned, goal_with, completion, goals_left}
use Rattle.application_laws.proofs.Counted.{one_more}
use Rattle.application_laws.proofs.WholeAssignments.{unifier_goes}
use Rattle.completion_laws.specs.Laws.{goal_besides}
use Rattle.completion_laws.proofs.KeptContext.{MayAdd, may_add}
use Rattle.completion_laws.proofs.Becoming.{returned_shaped}
use Rattle.typed_steps.proofs.Situations.{IsMade, shaped_signature, one_of}
use Rattle.typed_steps.proofs.Remaining.{Old, Everything, Whole, Left, Rest, besides, shaped_old, old_instance}
use Rattle.typed_steps.proofs.Closing.{under_typed_lams, Body, Goal, same_length, goal_is_put, old_tested, old_of_everything}
use Rattle.typed_steps.proofs.Heads.{binders_under, spine_typed}
use Rattle.typed_steps.proofs.Composed.{Unifier}

-- The last of typed arguments.
last_typed : {Γ : Typing} {τ : Replacement} (S : Scope) (bs : Context) (us : Spine) (b : LfType) (t : LfTerm) → ShapedList S us (shapes_of_types bs) → TypedSpine Γ τ (joined us (arg t no_args)) (bs ++ b ∷ []) →
    (d : LfType) × SubstitutedType (push_all us τ) b d × Typed Γ t d
last_typed S [] no_args b t shaped (typed_arg d r p rest) = (d, r, p)
last_typed S [] (arg u us) b t shaped typed = elim shaped [ ]
last_typed S (a ∷ bs) no_args b t shaped typed = elim shaped [ ]
last_typed S (a ∷ bs) (arg u us) b t (shaped_arg q qs) (typed_arg d r p rest) = last_typed S bs us b t qs rest

module _ (sig : LfSignature) (list : LfGoals) (n : ℕ) (g : LfGoal) (c : LfCandidate) (a : LfApplication) (m : IsMade sig list n g c a) (kept : List ℕ) (is_adding : c.outcome ≡ adds kept) where
  abbrev Everywhere : List LfGoal
  Everywhere = Everything sig list n g c a m

  abbrev pub Fact : LfAtom
  Fact = instance_of_atom Everywhere (Unifier sig list n g c a m) c.opened.end

  abbrev pub Proof : LfTerm
  Proof = instance_of Everywhere (Unifier sig list n g c a m) (at c.head c.opened.terms)

  abbrev pub Next : ℕ
  Next = n + length c.opened.fresh

  abbrev pub Entries : Context
  Entries = kept_entries kept 0 g.context

  abbrev pub Variables : Spine
  Variables = kept_variables kept (length g.context) Entries

  abbrev pub Added : LfGoal
  Added = goal_with Next g kept Fact

  -- What the completion says: each fresh goal is assigned, and the hypothesis may be added.
  completes_so : (list_all (λ f. is_some (Unifier sig list n g c a m f.id)) c.opened.fresh ≡ true) × (may_be_added g kept Fact ≡ true) × (one_more n Everywhere g c (Unifier sig list n g c a m) kept ≡ m.counted.done)
  completes_so =
      step (list_all (λ f. is_some (Unifier sig list n g c a m f.id)) c.opened.fresh) refl (may_be_added g kept Fact) refl (sym (ap (completion n Everywhere g c (Unifier sig list n g c a m)) is_adding) ∙ m.counted.completes)
    where
      step : (b : Bool) → list_all (λ f. is_some (Unifier sig list n g c a m f.id)) c.opened.fresh ≡ b → (may : Bool) → may_be_added g kept Fact ≡ may →
          (if b && may then Some (one_more n Everywhere g c (Unifier sig list n g c a m) kept) else None) ≡ Some m.counted.done →
          (list_all (λ f. is_some (Unifier sig list n g c a m f.id)) c.opened.fresh ≡ true) × (may_be_added g kept Fact ≡ true) × (one_more n Everywhere g c (Unifier sig list n g c a m) kept ≡ m.counted.done)
      step true all true may e = (all, may, Some-Some e)
      step true all false may e = absurd cc
      step false all may so e = absurd cc

  pub all_are_assigned : list_all (λ f. is_some (Unifier sig list n g c a m f.id)) c.opened.fresh ≡ true
  all_are_assigned = completes_so.0

  pub may : MayAdd g kept Fact
  may = may_add g kept Fact completes_so.1

  pub becomes_is : at (metavariable Next) (joined Variables (arg Proof no_args)) ≡ m.counted.done.becomes_term
  becomes_is = ap (λ d. d.becomes_term) completes_so.2

  pub more_is : Added ∷ [] ≡ m.counted.done.more
  more_is = ap (λ d. d.more) completes_so.2

  -- The hypothesis is shaped, and the variables of the kept entries are so.
  abbrev Known : Scope
  Known = scope_in sig Everywhere []

  fact_shaped : ShapedTypeIn sig Everywhere g.context (atomic Fact)
  fact_shaped =
      let goes = unifier_goes sig (Old sig list n g c a m) (shaped_old sig list n g c a m).0 n m.below g (one_of sig list n g c a m) c m.may_be_used m.counted.entries m.counted.solves in
      ((instances_are_the_one_result sig Everywhere g.context goes.0 (scope_in sig Everywhere g.context) (Unifier sig list n g c a m) goes.1).3 c.opened.end m.may_be_used.end_is_shaped).1

  pub proof_shaped : Shaped (scope_in sig Everywhere g.context) Proof base
  proof_shaped =
      let goes = unifier_goes sig (Old sig list n g c a m) (shaped_old sig list n g c a m).0 n m.below g (one_of sig list n g c a m) c m.may_be_used m.counted.entries m.counted.solves in
      ((instances_are_the_one_result sig Everywhere g.context goes.0 (scope_in sig Everywhere g.context) (Unifier sig list n g c a m) goes.1).0 (at c.head c.opened.terms) base m.may_be_used.term_is_shaped).1

  variables_shaped : ShapedList (under_all (shapes_of_types g.context) Known) Variables (shapes_of_types Entries)
  variables_shaped = shaped_variables (kind_shapes_in sig) Known g.context kept Entries may.entries_kept

  -- With the variables put for the kept entries, the hypothesis is as it is seen from the whole context.
  pub fact_seen : SubstitutedType (push_all Variables stays) (atomic (returned kept g.context Fact)) (atomic Fact)
  fact_seen =
      subst (SubstitutedType (push_all Variables stays) (atomic (returned kept g.context Fact))) (keeping_type kept (length g.context) (atomic Fact) may.fact_is_clean)
      (seen_among (kind_shapes_in sig) Known (under_all (shapes_of_types g.context) Known) (λ k. refl) kept (length g.context) Entries
      (λ h s e. same_kept_shapes (kind_shapes_in sig) Known g.context kept Entries may.entries_kept h ∙ e) (atomic (returned kept g.context Fact))
      (returned_shaped (kind_shapes_in sig) Known g kept Fact may Fact may.fact_is_clean fact_shaped))

  -- The list in which entries are tested.
  abbrev Tested : List LfGoal
  Tested = Rest sig list n g c a m

  abbrev Beside : LfGoal
  Beside = goal_besides (Old sig list n g c a m) g c m.counted.entries m.counted.done

  abbrev Instance : LfGoal
  Instance = Goal sig list n g c a m

  instance_shaped : ShapedGoal sig Tested Instance
  instance_shaped =
      let goes = (besides sig list n g c a m).goes in
      let has = old_of_everything sig list n g c a m g (one_of sig list n g c a m) in
      subst (ShapedGoal sig Tested) (old_instance sig list n g c a m g (one_of sig list n g c a m))
      ((instances_are_the_one_result sig Everywhere [] goes.0 (scope_in sig Tested []) (Whole sig list n g c a m) goes.1).5 g (All-contains (ShapedGoal sig Everywhere) Everywhere g m.may_be_used.goals_are_shaped.1 has)).1

  body_tested : has_type sig (Left sig list n g c a m) [] (Body sig list n g c a m) (goal_type Instance) ≡ true
  body_tested = old_tested sig list n g c a m g (one_of sig list n g c a m) (Body sig list n g c a m) (goal_is_put sig list n g c a m)

  body_typed : Typed (typing_in sig Tested []) (Body sig list n g c a m) (goal_type Instance)
  body_typed =
      (has_type_is_typing sig Tested [] (shaped_signature sig list n g c a m) (besides sig list n g c a m).shaped shaped_empty (Body sig list n g c a m) (goal_type Instance)
      (ShapedType-pis Instance.context (atomic Instance.target) instance_shaped.0 instance_shaped.1)).0
      (has_type_looks_at_what_occurs sig (Left sig list n g c a m) Tested [] (Body sig list n g c a m) agree (goal_type Instance) ∙ body_tested)
    where
      agree : (k : ℕ) → OccursIn (metavariable k) (Body sig list n g c a m) → type_of_metavariable (Left sig list n g c a m) k ≡ type_of_metavariable Tested k
      agree k o =
          let known = has_type_knows_what_occurs sig (Left sig list n g c a m) [] (Body sig list n g c a m) (goal_type Instance) body_tested k o in
          known.1 ∙ sym (keeps_type (Left sig list n g c a m) (Beside ∷ []) k known.0 known.1)

  applied_typed : Typed (typing_in sig Tested Instance.context) (at (metavariable Next) (joined Variables (arg Proof no_args))) (atomic Instance.target)
  applied_typed =
      subst (λ t. Typed (typing_in sig Tested Instance.context) t (atomic Instance.target)) (sym becomes_is)
      (under_typed_lams Instance.context (typing_in sig Tested []) m.counted.done.becomes_term (atomic Instance.target)
      (subst (λ l. Typed (typing_in sig Tested []) (lams l m.counted.done.becomes_term) (goal_type Instance)) (sym (same_length sig list n g c a m)) body_typed))

  has_added : Contains Tested Added
  has_added =
      let left = Left sig list n g c a m in
      let inside = (All-parts (Contains Tested) left (Beside ∷ []) (All-contains_itself Tested)).0 in
      let added = (All-parts (Contains Tested) (goals_left Everywhere (Whole sig list n g c a m) Everywhere) m.counted.done.more inside).1 in
      All-head (Contains Tested) Added [] (subst (All (Contains Tested)) (sym more_is) added)

  added_known : typing_in sig Tested Instance.context (metavariable Next) ≡ Some (goal_type Added)
  added_known = with_context-metavariable Instance.context (typing_in sig Tested []) Next ∙ type_of_goal Tested (besides sig list n g c a m).shaped.0 Added has_added

  -- There the proof has the hypothesis as its type.
  pub proof_typed : Typed (typing_in sig Tested Instance.context) Proof (atomic Fact)
  proof_typed =
      let typed = subst (TypedSpine (typing_in sig Tested Instance.context) stays (joined Variables (arg Proof no_args))) (binders_under Added.context Added.target.atom_family Added.target.atom_args)
      (spine_typed applied_typed (goal_type Added) added_known) in
      let last = last_typed (under_all (shapes_of_types g.context) Known) Entries Variables (atomic (returned kept g.context Fact)) Proof variables_shaped typed in
      subst (Typed (typing_in sig Tested Instance.context) Proof) (unique_type last.1 fact_seen) last.2
