-- Where an application adds a hypothesis, its proof is typed in the list after, and so is what the goal becomes.
use Rattle.std.proofs.Common.{◌≡◌, ◌⊎◌, inl, inr, ℕ, Bool, true, false, Option, Some, None, List, [], ◌∷◌, ◌++◌, map, All, length, refl, sym, ap, ap₂, ◌∙◌, subst}
use Rattle.std.specs.Prelude.{nat_eq, if◌then◌else◌, Contains}
use Rattle.std.proofs.lemmas.Bool.{eqb-true}
use Rattle.std.proofs.lemmas.List.Elements.{All-contains, All-contains_itself, All-head}
use Rattle.lf_definitions.specs.Syntax.{LfHead, bound, constant, metavariable, LfTerm, at, Spine, no_args, arg, joined, base, arrows, SimpleType, LfType, pi, family, LfAtom, atomic, Context, lams, pis, shapes_of_types}
use Rattle.lf_definitions.specs.Renaming.{next, rename_spine, rename_type, raise_type}
use Rattle.lf_definitions.specs.Shaping.{Scope, under_all, ShapedType}
use Rattle.lf_definitions.specs.ShapedGoals.{ShapedContext, shaped_empty, ShapedTyping, kind_shapes_in, scope_in, ShapedGoal}
use Rattle.lf_definitions.specs.Occurrence.{OccursIn, occurs_args, OccursInSpine, occurs_first, occurs_later}
use Rattle.lf_definitions.specs.Substitution.{stays, Replacement, up_by, push_all, SubstitutedSpine, SubstitutedType, substituted_pi, substituted_family}
use Rattle.lf_definitions.specs.Expansion.{own_variables}
use Rattle.lf_definitions.specs.Instantiation.{Assignment, assigned, instantiating, InstantiatedType, InstantiatedContext, InstantiatedGoal, LfAssigned, assignment_of}
use Rattle.lf_definitions.specs.Typing.{Typing, Typed, typed_at, TypedSpine, LfGoal, goal_type, type_of_metavariable, shapes_of}
use Rattle.lf_definitions.specs.Signatures.{LfSignature, kinds_in, typing_in}
use Rattle.lf_definitions.specs.GoalLists.{LfGoals, ids}
use Rattle.lf_definitions.proofs.Options.{Some_inj, None-Some}
use Rattle.lf_definitions.proofs.ShapedGoals.{ShapedTyping-typing_in, shapes_of-typing_in}
use Rattle.lf_definitions.proofs.Telescopes.{push_all-joined}
use Rattle.lf_definitions.proofs.TypedSpines.{TypedSpine-more}
use Rattle.lf_definitions.proofs.Uniqueness.{unique_type}
use Rattle.lf_definitions.proofs.Unrenaming.{ShapedType-unrenamed}
use Rattle.lf_definitions.proofs.Variables.{with_context-metavariable}
use Rattle.head_laws.specs.AssignmentLaws.{AssignsClosedTerms}
use Rattle.head_laws.proofs.Known.{known_term}
use Rattle.head_laws.proofs.Lookups.{Typed-agree, agree_in}
use Rattle.typing_laws.proofs.Binders.{same_shapes, pis-append, typed_lams}
use Rattle.typing_laws.proofs.Fixing.{kept_type}
use Rattle.typing_laws.proofs.GoalLists.{type_of_goal, InstantiatedType-goal_type}
use Rattle.typing_laws.proofs.TypedReplacements.{SubstitutedType-push}
use Rattle.goal_lists.proofs.Leaving.{All-parts}
use Rattle.lf_functions.specs.Instances.{instance_of_spine, instance_of_goal}
use Rattle.lf_functions.proofs.Results.{instances_are_the_one_result}
use Rattle.opening_laws.specs.Openings.{keeping, returning, AreKept, kept_variables}
use Rattle.opening_laws.proofs.Kept.{keeping_type}
use Rattle.opening_laws.proofs.Shapes.{metavariable_under_all, same_kept_shapes, goal_type-fresh_goal}
use Rattle.opening_laws.proofs.KeptVariables.{seen_among}
use Rattle.applications.specs.Methods.{LfCandidate, adds}
use Rattle.applications.specs.Applications.{LfApplication, freezing, entry_of, put_into, returned, goals_left, fresh_left}
use Rattle.application_laws.proofs.Members.{IsIn, in_left, in_either, in_cases, contains_in, goal_is_in, shaped_is_in, instance_id, under_lams, put_keeps_none}
use Rattle.completion_laws.proofs.Unified.{frozen_stays, next_is_new}
use Rattle.build_laws.proofs.Entries.{goal_of_number}
use Rattle.step_laws.proofs.Found.{IsSameByNumber, same_goal}
use Rattle.typed_steps.proofs.Situations.{IsMade, shaped_signature, one_of, is_step}
use Rattle.typed_steps.proofs.Remaining.{Old, Everything, Whole, Put, Left, After, Rest, With, besides, shaped_old, shaped_after, put_is_whole, put_only_old, body_mentions, added_after}
use Rattle.typed_steps.proofs.Contexts.{keeping_renames, returning_renames, next_renames, instance_renamed, outside_type, inside_type, kept_instances, split_pis}
use Rattle.typed_steps.proofs.Closing.{Body, Goal, BodiesAreTyped, same_length, instance_there, remaining_after, goal_is_put}
use Rattle.typed_steps.proofs.KeptContexts.{typed_kept_variables}
use Rattle.typed_steps.proofs.Heads.{head_stays, shaped_result}
use Rattle.typed_steps.proofs.Composed.{Unifier, unified, whole_has_goal}
use Rattle.typed_steps.proofs.ClosedGoals.{spine_of_head}
use Rattle.typed_steps.proofs.Added.{Fact, Proof, Next, Entries, Variables, Added, may, becomes_is, more_is, proof_shaped, fact_seen, proof_typed}

in_last : (h : LfHead) (us : Spine) (t : LfTerm) → OccursIn h t → OccursInSpine h (joined us (arg t no_args))
in_last h no_args t o = occurs_first h t no_args o
in_last h (arg u us) t o = occurs_later h u (joined us (arg t no_args)) (in_last h us t o)

abbrev args_in : LfType → Spine
args_in (pi a b) = no_args
args_in (family f us) = us

spine_of : {σ : Replacement} {f : ℕ} {ts : Spine} {b : LfType} → SubstitutedType σ (family f ts) b → SubstitutedSpine σ ts (args_in b)
spine_of (substituted_family p) = p

module _ (sig : LfSignature) (list : LfGoals) (n : ℕ) (g : LfGoal) (c : LfCandidate) (a : LfApplication) (m : IsMade sig list n g c a) (kept : List ℕ) (is_adding : c.outcome ≡ adds kept) where
  abbrev Before : List LfGoal
  Before = Old sig list n g c a m

  abbrev Later : List LfGoal
  Later = After sig list n g c a m

  abbrev Tested : List LfGoal
  Tested = Rest sig list n g c a m

  abbrev Instance : LfGoal
  Instance = Goal sig list n g c a m

  abbrev Placed : Context
  Placed = Instance.context

  abbrev Outside : Typing
  Outside = typing_in sig Later []

  abbrev pub There : Typing
  There = typing_in sig Later Placed

  abbrev Assigned : Assignment
  Assigned = Put sig list n g c a m

  abbrev Hypothesis : LfAtom
  Hypothesis = Fact sig list n g c a m kept is_adding

  abbrev Proved : LfTerm
  Proved = Proof sig list n g c a m kept is_adding

  abbrev Number : ℕ
  Number = Next sig list n g c a m kept is_adding

  abbrev Kept_variables : Spine
  Kept_variables = Variables sig list n g c a m kept is_adding

  abbrev Applied : LfTerm
  Applied = at (metavariable Number) (joined Kept_variables (arg Proved no_args))

  abbrev New : LfGoal
  New = Added sig list n g c a m kept is_adding

  -- What the proof mentions has the same type in the list after as where entries are tested.
  same_lookups : (k : ℕ) → OccursIn (metavariable k) Proved → type_of_metavariable Tested k ≡ type_of_metavariable Later k
  same_lookups k o = each (in_either k remaining m.counted.done.more is_left)
    where
      remaining : List LfGoal
      remaining = goals_left (Everything sig list n g c a m) (Whole sig list n g c a m) (Everything sig list n g c a m)

      inside : OccursIn (metavariable k) m.counted.done.becomes_term
      inside =
          subst (OccursIn (metavariable k)) (becomes_is sig list n g c a m kept is_adding)
          (occurs_args (metavariable k) (metavariable Number) (joined Kept_variables (arg Proved no_args)) (in_last (metavariable k) Kept_variables Proved o))

      is_left : IsIn k (ids (Left sig list n g c a m))
      is_left =
          body_mentions sig list n g c a m g.id (Body sig list n g c a m) (in_left g.id Before c.opened.fresh (goal_is_in Before g (one_of sig list n g c a m))) (whole_has_goal sig list n g c a m) k
          (under_lams k (length g.context) m.counted.done.becomes_term inside)

      not_new : k ≡ Number → ⊥
      not_new same =
          let known = known_term (proof_shaped sig list n g c a m kept is_adding) (metavariable k) o in
          next_is_new sig Before n g c m.counted.entries (unified sig list n g c a m)
          (subst (λ j. IsIn j (ids (Everything sig list n g c a m))) same
          (shaped_is_in (Everything sig list n g c a m) k known.0 (sym (metavariable_under_all (shapes_of_types g.context) (scope_in sig (Everything sig list n g c a m) []) k) ∙ known.1)))

      only_new : (k ≡ Number) ⊎ IsIn k [] → ⊥
      only_new (inl same) = not_new same
      only_new (inr there) = none there
        where
          none : IsIn k [] → ⊥
          none e = absurd cc

      tested_remaining : All (Contains Tested) remaining
      tested_remaining = (All-parts (Contains Tested) remaining m.counted.done.more (All-parts (Contains Tested) (Left sig list n g c a m) _ (All-contains_itself Tested)).0).0

      each : IsIn k (ids remaining) ⊎ IsIn k (ids m.counted.done.more) → type_of_metavariable Tested k ≡ type_of_metavariable Later k
      each (inl p) =
          let r = goal_of_number remaining k p in
          ap (type_of_metavariable Tested) (sym r.2) ∙ type_of_goal Tested (besides sig list n g c a m).shaped.0 r.0 (All-contains (Contains Tested) remaining r.0 tested_remaining r.1)
          ∙ sym (type_of_goal Later (shaped_after sig list n g c a m).0 r.0 (All-contains (Contains Later) remaining r.0 (remaining_after sig list n g c a m) r.1)) ∙ ap (type_of_metavariable Later) r.2
      each (inr p) = absurd (only_new (in_cases k Number [] (subst (λ more. IsIn k (ids more)) (sym (more_is sig list n g c a m kept is_adding)) p)))

  pub proof_after : Typed There Proved (atomic Hypothesis)
  proof_after = Typed-agree (proof_typed sig list n g c a m kept is_adding) There (agree_in Placed (typing_in sig Tested []) Outside (λ k. refl) (λ k. refl) (λ h. OccursIn h Proved) same_lookups)

  pub proof_is : Proved ≡ at c.head (instance_of_spine (Everything sig list n g c a m) (Unifier sig list n g c a m) c.opened.terms)
  proof_is = spine_of_head sig list n g c a m c.head c.opened.terms (head_stays sig g.context c.head m.opens.type m.opens.has_type (Unifier sig list n g c a m))

  pub shaped_outside : ShapedTyping (kinds_in sig) Outside
  shaped_outside = ShapedTyping-typing_in sig Later [] (shaped_signature sig list n g c a m) (shaped_after sig list n g c a m) shaped_empty

  instance_shaped : ShapedGoal sig Later Instance
  instance_shaped = (instance_there sig list n g c a m g (one_of sig list n g c a m)).1

  pub shaped_there : ShapedTyping (kinds_in sig) There
  shaped_there = ShapedTyping-typing_in sig Later Placed (shaped_signature sig list n g c a m) (shaped_after sig list n g c a m) instance_shaped.0

  -- So the hypothesis mentions nothing that is assigned.
  fact_shaped_after : ShapedType (kind_shapes_in sig) (shapes_of There) (atomic Hypothesis)
  fact_shaped_after = shaped_result (kinds_in sig) (subst (λ t. Typed There t (atomic Hypothesis)) proof_is proof_after) shaped_there

  later_stays : (k : ℕ) → IsIn k (ids Later) → Assigned k ≡ None
  later_stays k there = step (Assigned k) refl
    where
      step : (o : Option LfTerm) → Assigned k ≡ o → o ≡ None
      step None e = refl
      step (Some u) e =
          let none = ((is_step sig list n g c a m).takes.assigned_or_left k (contains_in k (ids Before) (put_only_old sig list n g c a m k u e))).1 (contains_in k (ids Later) there) in
          absurd (None-Some none e)

  heads_stay : (h : LfHead) (s : SimpleType) → shapes_of There h ≡ Some s → instantiating Assigned h ≡ stays h
  heads_stay (bound k) s e = refl
  heads_stay (constant k) s e = refl
  heads_stay (metavariable k) s e =
      let known = sym (metavariable_under_all (shapes_of_types Placed) (scope_in sig Later []) k) ∙ ap (λ Γ. Γ (metavariable k)) (sym (shapes_of-typing_in sig Later Placed)) ∙ e in
      ap (assigned k) (later_stays k (shaped_is_in Later k s known))

  closed : AssignsClosedTerms Assigned
  closed = (is_step sig list n g c a m).takes.closed

  fact_instance : InstantiatedType Assigned (atomic Hypothesis) (atomic Hypothesis)
  fact_instance = kept_type fact_shaped_after (instantiating Assigned) heads_stay

  -- The new goal in the list after.
  abbrev pub New_after : LfGoal
  New_after = instance_of_goal (With sig list n g c a m) Assigned New

  new_is_after : Contains Later New_after
  new_is_after =
      All-head (λ h. Contains Later (instance_of_goal (With sig list n g c a m) Assigned h)) New []
      (subst (All (λ h. Contains Later (instance_of_goal (With sig list n g c a m) Assigned h))) (sym (more_is sig list n g c a m kept is_adding)) (added_after sig list n g c a m))

  new_shaped : ShapedGoal sig (With sig list n g c a m) New
  new_shaped =
      let P = ShapedGoal sig (With sig list n g c a m) in
      let proofs = All-parts P a.proofs list.proofs (All-parts P (a.proofs ++ list.proofs) (list.witnesses ++ a.witnesses) (is_step sig list n g c a m).may_be_taken.shaped.1).0 in
      let more = All-parts P (fresh_left (λ mark. mark) (Everything sig list n g c a m) (Whole sig list n g c a m) c.opened.fresh c.are_proofs) m.counted.done.more (subst (λ y. All P y.proofs) m.counted.is proofs.0) in
      All-head P New [] (subst (All P) (sym (more_is sig list n g c a m kept is_adding)) more.1)

  new_instance : InstantiatedGoal Assigned New New_after
  new_instance =
      let goes = (is_step sig list n g c a m).may_be_taken.goes in
      let one = (instances_are_the_one_result sig (With sig list n g c a m) [] goes.0 (scope_in sig Later []) Assigned goes.1).5 New new_shaped in
      (one.0 New_after).1 refl

  -- Its hypothesis and target, among the kept entries.
  abbrev Returned_fact : LfType
  Returned_fact = atomic (returned kept g.context Hypothesis)

  abbrev Returned_target : LfType
  Returned_target = atomic (returned kept g.context Instance.target)

  abbrev pub Inside_after : LfType
  Inside_after = pi Returned_fact (raise_type Returned_target)

  abbrev Inside : LfType
  Inside = pi Returned_fact (raise_type (atomic (returned kept g.context g.target)))

  target_instance : InstantiatedType Assigned (atomic g.target) (atomic Instance.target)
  target_instance = outside_type Assigned closed (length g.context) (atomic g.target) (atomic Instance.target) (instance_there sig list n g c a m g (one_of sig list n g c a m)).0.of_target

  returned_instance : InstantiatedType Assigned (atomic (returned kept g.context g.target)) Returned_target
  returned_instance = instance_renamed Assigned closed (returning kept (length g.context)) (returning_renames kept (length g.context)) (atomic g.target) (atomic Instance.target) target_instance

  inside_instance : InstantiatedType Assigned Inside Inside_after
  inside_instance =
      substituted_pi (instance_renamed Assigned closed (returning kept (length g.context)) (returning_renames kept (length g.context)) (atomic Hypothesis) (atomic Hypothesis) fact_instance)
      (inside_type Assigned closed 1 (raise_type (atomic (returned kept g.context g.target))) (raise_type Returned_target)
      (instance_renamed Assigned closed next next_renames (atomic (returned kept g.context g.target)) Returned_target returned_instance))

  -- The type of the new goal in the list after.
  pub record NewType : Type 0 where
    pub among : Context
    pub type_is : goal_type New_after ≡ pis among Inside_after
    pub are_kept : AreKept kept 0 Placed among
    pub same_variables : kept_variables kept (length Placed) among ≡ Kept_variables

  abbrev Old_entries : Context
  Old_entries = Entries sig list n g c a m kept is_adding

  type_by_parts : (cs : Context) (end : LfType) → goal_type New_after ≡ pis cs end → InstantiatedContext Assigned Old_entries cs → InstantiatedType Assigned Inside end → NewType
  type_by_parts cs end is entries_put inside_put = record {
    among = cs;
    type_is = is ∙ ap (pis cs) (unique_type inside_put inside_instance);
    are_kept = kept_instances Assigned closed (may sig list n g c a m kept is_adding).entries_kept Placed cs (instance_there sig list n g c a m g (one_of sig list n g c a m)).0.of_context entries_put;
    same_variables = ap₂ (λ l ss. rename_spine (keeping kept l) (own_variables (arrows ss base))) (same_length sig list n g c a m) (same_shapes entries_put);
  }

  pub new_type : NewType
  new_type = by_parts (split_pis Old_entries Inside whole)
    where
      whole : InstantiatedType Assigned (pis Old_entries Inside) (goal_type New_after)
      whole = subst (λ t. InstantiatedType Assigned t (goal_type New_after)) (goal_type-fresh_goal Number Old_entries Inside) (InstantiatedType-goal_type Assigned New New_after new_instance)

      by_parts : (cs : Context) × (end : LfType) × (goal_type New_after ≡ pis cs end) × InstantiatedContext Assigned Old_entries cs
          × SubstitutedType (up_by (length Old_entries) (instantiating Assigned)) Inside end → NewType
      by_parts (cs, end, is, entries_put, inside_put) = type_by_parts cs end is entries_put (outside_type Assigned closed (length Old_entries) Inside end inside_put)

  -- The target as it is seen from the whole context.
  pub target_seen : rename_type (keeping kept (length g.context)) Returned_target ≡ atomic Instance.target
  target_seen =
      unique_type
      (subst (λ x. InstantiatedType Assigned x (rename_type (keeping kept (length g.context)) Returned_target))
      (keeping_type kept (length g.context) (atomic g.target) (may sig list n g c a m kept is_adding).target_is_clean)
      (instance_renamed Assigned closed (keeping kept (length g.context)) (keeping_renames kept (length g.context)) (atomic (returned kept g.context g.target)) Returned_target returned_instance))
      target_instance

  target_there : rename_type (keeping kept (length Placed)) Returned_target ≡ atomic Instance.target
  target_there = ap (λ l. rename_type (keeping kept l) Returned_target) (same_length sig list n g c a m) ∙ target_seen

  abbrev Known : Scope
  Known = scope_in sig Later []

  target_put : SubstitutedType (push_all Kept_variables stays) Returned_target (atomic Instance.target)
  target_put =
      let are = new_type.are_kept in
      let among = new_type.among in
      let same = same_kept_shapes (kind_shapes_in sig) Known Placed kept among are in
      let here : ShapedType (kind_shapes_in sig) (under_all (shapes_of_types among) Known) Returned_target =
      ShapedType-unrenamed Returned_target (keeping kept (length Placed)) (under_all (shapes_of_types among) Known) (under_all (shapes_of_types Placed) Known) (λ h s e. sym (same h) ∙ e)
      (subst (ShapedType (kind_shapes_in sig) (under_all (shapes_of_types Placed) Known)) (sym target_there) instance_shaped.1) in
      subst (SubstitutedType (push_all Kept_variables stays) Returned_target) target_there
      (subst (λ us. SubstitutedType (push_all us stays) Returned_target (rename_type (keeping kept (length Placed)) Returned_target)) new_type.same_variables
      (seen_among (kind_shapes_in sig) Known (under_all (shapes_of_types Placed) Known) (λ k. refl) kept (length Placed) among (λ h s e. same h ∙ e) Returned_target here))

  variables_typed : TypedSpine There stays Kept_variables new_type.among
  variables_typed =
      subst (λ us. TypedSpine There stays us new_type.among) new_type.same_variables
      (typed_kept_variables (kinds_in sig) Outside shaped_outside (λ k. refl) Placed kept new_type.among new_type.are_kept
      (subst (λ Γ. ShapedContext (kind_shapes_in sig) Γ Placed) (sym (shapes_of-typing_in sig Later [])) instance_shaped.0))

  new_known : There (metavariable Number) ≡ Some (pis (new_type.among ++ Returned_fact ∷ []) (raise_type Returned_target))
  new_known =
      with_context-metavariable Placed Outside Number ∙ ap (type_of_metavariable Later) (sym (instance_id (With sig list n g c a m) Assigned New))
      ∙ type_of_goal Later (shaped_after sig list n g c a m).0 New_after new_is_after
      ∙ ap Some (new_type.type_is ∙ sym (pis-append new_type.among (Returned_fact ∷ []) (raise_type Returned_target)))

  -- What the goal becomes has the target as its type there.
  applied_after : Typed There Applied (atomic Instance.target)
  applied_after =
      let put = SubstitutedType-push Proved target_put in
      typed_at (new_type.among ++ Returned_fact ∷ []) (rename_spine next (returned kept g.context Instance.target).atom_args) new_known
      (TypedSpine-more variables_typed Proved Returned_fact (atomic Hypothesis) (fact_seen sig list n g c a m kept is_adding) proof_after)
      (spine_of (subst (λ θ. SubstitutedType θ (raise_type Returned_target) (atomic Instance.target)) (sym (push_all-joined Kept_variables (arg Proved no_args) stays)) put))

  body_after : Typed Outside (Body sig list n g c a m) (goal_type Instance)
  body_after =
      subst (λ l. Typed Outside (lams l m.counted.done.becomes_term) (goal_type Instance)) (same_length sig list n g c a m)
      (typed_lams Placed Outside m.counted.done.becomes_term (atomic Instance.target) (subst (λ t. Typed There t (atomic Instance.target)) (becomes_is sig list n g c a m kept is_adding) applied_after))

  -- Only the goal is assigned.
  only_goal : (h : LfGoal) → Contains Before h → (u : LfTerm) → Assigned h.id ≡ Some u → h.id ≡ g.id
  only_goal h has u e = step (nat_eq g.id h.id) refl (sym (put_is_whole sig list n g c a m h.id (goal_is_in Before h has)) ∙ e)
    where
      frozen : assignment_of m.counted.entries h.id ≡ None
      frozen = frozen_stays sig Before n g c m.counted.entries (unified sig list n g c a m) h.id (ap (λ out. freezing out Before g h.id) is_adding ∙ goal_is_in Before h has)

      put : List LfAssigned
      put = map (put_into (Everything sig list n g c a m) (entry_of g m.counted.done.becomes_term)) m.counted.entries

      step : (b : Bool) → nat_eq g.id h.id ≡ b → (if b then Some (Body sig list n g c a m) else assignment_of put h.id) ≡ Some u → h.id ≡ g.id
      step true same found = sym (eqb-true g.id h.id same)
      step false differ found =
          absurd (None-Some (put_keeps_none (Everything sig list n g c a m) (entry_of g m.counted.done.becomes_term) m.counted.entries h.id frozen) found)

  pub adding_typed : BodiesAreTyped sig list n g c a m
  adding_typed h has u e =
      let same_id = only_goal h has u e in
      let same : h ≡ g = All-contains (λ x. IsSameByNumber x g) Before h (same_goal Before (shaped_old sig list n g c a m).0 g (one_of sig list n g c a m)) has same_id in
      subst (λ x. Typed Outside u (goal_type (instance_of_goal Before Assigned x))) (sym same)
      (subst (λ v. Typed Outside v (goal_type Instance)) (Some_inj (goal_is_put sig list n g c a m) (ap Assigned (sym same_id) ∙ e)) body_after)
