-- What the goal becomes, and the goal that is added: they are shaped among all goals and the added one, and mention nothing that has an entry.
use Rattle.std.proofs.Common.{◌≡◌, ◌≢◌, ◌⊎◌, inl, inr, ℕ, ◌+◌, Bool, true, false, Option, Some, None, List, [], ◌∷◌, ◌++◌, All, length, refl, sym, ap, ◌∙◌, subst, arith}
use Rattle.std.specs.Prelude.{◌&&◌, is_some, if◌then◌else◌}
use Rattle.std.specs.List.{list_all}
use Rattle.std.proofs.lemmas.List.Elements.{All-nil, All-cons, All-head, All-contains}
use Rattle.lf_definitions.specs.Syntax.{LfHead, metavariable, LfTerm, at, Spine, no_args, arg, joined, SimpleType, base, arrow, arrows, LfType, pi, LfAtom, atomic, Context, shape_of, shapes_of_types}
use Rattle.lf_definitions.specs.Renaming.{next, raise_type}
use Rattle.lf_definitions.specs.Shaping.{Scope, under, under_all, Shaped, shaped_at, ShapedSpine, shaped_none, shaped_arg, ShapedType, shaped_pi}
use Rattle.lf_definitions.specs.ShapedGoals.{ShapedContext, kind_shapes_in, scope_in, ShapedTypeIn, ShapedGoal}
use Rattle.lf_definitions.specs.Occurrence.{OccursIn, OccursInSpine, occurs_first, occurs_later, OccursInType, OccursInGoal}
use Rattle.lf_definitions.specs.Replacements.{Goes}
use Rattle.lf_definitions.specs.Typing.{LfGoal, goal_type}
use Rattle.lf_definitions.specs.Signatures.{LfSignature, constant_types}
use Rattle.lf_definitions.specs.GoalLists.{AreDistinct}
use Rattle.lf_definitions.specs.Instantiation.{Assignment, LfAssigned, assignment_of, instantiating}
use Rattle.lf_definitions.proofs.Options.{Some-Some}
use Rattle.lf_definitions.proofs.Renaming.{KeepsShapes-next}
use Rattle.lf_definitions.proofs.ShapedGoals.{ScopeGrows, ShapedType-grown, ShapedContext-grown, ShapedType-pis}
use Rattle.lf_definitions.proofs.Types.{ShapedType-rename_type}
use Rattle.lf_definitions.proofs.Unrenaming.{ShapedType-unrenamed}
use Rattle.head_laws.proofs.Known.{known_spine}
use Rattle.lf_functions.specs.Instances.{instance_of, instance_of_atom}
use Rattle.lf_functions.proofs.Results.{instances_are_the_one_result}
use Rattle.lf_functions.proofs.InstanceLaws.{instances_go_part_by_part}
use Rattle.lf_functions.proofs.MentionLaws.{instances_mention_what_is_put}
use Rattle.opening_laws.specs.Openings.{keeping, kept_variables}
use Rattle.opening_laws.specs.Conditions.{is_dropped, MentionsNone}
use Rattle.opening_laws.proofs.Kept.{keeping_type, shaped_kept}
use Rattle.opening_laws.proofs.Shapes.{metavariable_under_all, AllShapes, KeptShapes, same_kept_shapes, shaped_variables, goal_type-fresh_goal, shape_of-fresh_goal}
use Rattle.opening_laws.proofs.Numbers.{found_shape, found_among, more_goals}
use Rattle.applications.specs.OpenedTypes.{kept_entries}
use Rattle.applications.specs.Methods.{LfCandidate, Outcome, closes, adds}
use Rattle.applications.specs.Applications.{freezing, may_be_added, returned, goal_with, Completion, completion}
use Rattle.application_laws.proofs.Arguments.{head_or_argument}
use Rattle.application_laws.proofs.GoalMentions.{goal_with_mentions}
use Rattle.application_laws.proofs.Lists.{no_pairs}
use Rattle.completion_laws.specs.Laws.{IsUnified}
use Rattle.completion_laws.proofs.Scopes.{term_elsewhere, goes_inside}
use Rattle.completion_laws.proofs.KeptContext.{MayAdd, may_add}
use Rattle.completion_laws.proofs.Unified.{closed_here, goes_here, frozen_stays, instance_stays, goal_mentions, all_below, next_stays}

-- Arguments of a spine with more arguments.
shaped_joined : (front : List SimpleType) (us ws : Spine) (Θ : Scope) (s : SimpleType) → ShapedSpine Θ us (arrows front base) → ShapedSpine Θ ws s → ShapedSpine Θ (joined us ws) (arrows front s)
shaped_joined [] no_args ws Θ s p q = q
shaped_joined [] (arg u us) ws Θ s p q = elim p [ ]
shaped_joined (a ∷ front) no_args ws Θ s p q = elim p [ ]
shaped_joined (a ∷ front) (arg u us) ws Θ s (shaped_arg p ps) q = shaped_arg p (shaped_joined front us ws Θ s ps q)

in_first_or_last : (h : LfHead) (us : Spine) (t : LfTerm) → OccursInSpine h (joined us (arg t no_args)) → OccursInSpine h us ⊎ OccursIn h t
in_first_or_last h no_args t (occurs_first _ _ _ o) = inr o
in_first_or_last h no_args t (occurs_later _ _ _ o) = elim o [ ]
in_first_or_last h (arg u us) t (occurs_first _ _ _ o) = inl (occurs_first h u us o)
in_first_or_last h (arg u us) t (occurs_later _ _ _ o) = either (in_first_or_last h us t o)
  where
    either : OccursInSpine h us ⊎ OccursIn h t → OccursInSpine h (arg u us) ⊎ OccursIn h t
    either (inl p) = inl (occurs_later h u us p)
    either (inr p) = inr p

-- The goal with one more hypothesis, where the kept entries are a context.
module _ (kinds : ℕ → Option SimpleType) (G : Scope) (g : LfGoal) (kept : List ℕ) (fact : LfAtom) (may : MayAdd g kept fact) where
  abbrev Entries : Context
  Entries = kept_entries kept 0 g.context

  abbrev Here : Scope
  Here = KeptShapes kinds G g.context kept Entries may.entries_kept

  abbrev Everywhere : Scope
  Everywhere = AllShapes kinds G g.context kept Entries may.entries_kept

  -- an atom as it is seen among the kept entries
  pub returned_shaped : (a : LfAtom) → MentionsNone (is_dropped kept (length g.context)) (atomic a) → ShapedType kinds Everywhere (atomic a) → ShapedType kinds Here (atomic (returned kept g.context a))
  returned_shaped a clean shaped =
      ShapedType-unrenamed (atomic (returned kept g.context a)) (keeping kept (length g.context)) Here Everywhere
      (λ h s e. sym (same_kept_shapes kinds G g.context kept Entries may.entries_kept h) ∙ e)
      (subst (ShapedType kinds Everywhere) (sym (keeping_type kept (length g.context) (atomic a) clean)) shaped)

  -- the new hypothesis over the target, which are the binders and the atom under the kept entries
  abbrev Inside : LfType
  Inside = pi (atomic (returned kept g.context fact)) (raise_type (atomic (returned kept g.context g.target)))

  pub goal_with_shaped : (id : ℕ) → ShapedContext kinds G g.context → ShapedType kinds Everywhere (atomic fact) → ShapedType kinds Everywhere (atomic g.target) → ShapedType kinds G (goal_type (goal_with id g kept fact))
  goal_with_shaped id shaped of_fact of_target =
      subst (ShapedType kinds G) (sym (goal_type-fresh_goal id Entries Inside))
      (ShapedType-pis Entries Inside (shaped_kept may.entries_kept kinds G G (λ h. refl) shaped)
      (shaped_pi (returned_shaped fact may.fact_is_clean of_fact)
      (ShapedType-rename_type (returned_shaped g.target may.target_is_clean of_target) next (under base Here) (KeepsShapes-next Here base))))

  pub goal_with_shape : (id : ℕ) → shape_of (goal_type (goal_with id g kept fact)) ≡ arrows (shapes_of_types Entries) (arrow base base)
  goal_with_shape id = shape_of-fresh_goal id Entries Inside

  -- The goal's metavariable, applied to the kept variables and a term.
  pub applied_shaped : (id : ℕ) (t : LfTerm) → G (metavariable id) ≡ Some (shape_of (goal_type (goal_with id g kept fact))) → Shaped Everywhere t base →
      Shaped Everywhere (at (metavariable id) (joined (kept_variables kept (length g.context) Entries) (arg t no_args))) base
  applied_shaped id t known shaped =
      shaped_at (arrows (shapes_of_types Entries) (arrow base base)) (metavariable_under_all (shapes_of_types g.context) G id ∙ known ∙ ap Some (goal_with_shape id))
      (shaped_joined (shapes_of_types Entries) (kept_variables kept (length g.context) Entries) (arg t no_args) Everywhere (arrow base base)
      (shaped_variables kinds G g.context kept Entries may.entries_kept) (shaped_arg shaped shaped_none))

-- The kept variables mention no metavariable, since they are shaped where none is known.
variables_mention : (g : LfGoal) (kept : List ℕ) (fact : LfAtom) → MayAdd g kept fact → (m : ℕ) → OccursInSpine (metavariable m) (kept_variables kept (length g.context) (kept_entries kept 0 g.context)) → ⊥
variables_mention g kept fact may m o =
    let known = known_spine (shaped_variables (λ f. None) (λ h. None) g.context kept (kept_entries kept 0 g.context) may.entries_kept) (metavariable m) o in
    nothing (sym (metavariable_under_all (shapes_of_types g.context) (λ h. None) m) ∙ known.1)
  where
    nothing : {s : SimpleType} → None ≡ Some s → ⊥
    nothing e = absurd cc

pub applied_mentions : (g : LfGoal) (kept : List ℕ) (fact : LfAtom) → MayAdd g kept fact → (id : ℕ) (t : LfTerm) (m : ℕ) →
    OccursIn (metavariable m) (at (metavariable id) (joined (kept_variables kept (length g.context) (kept_entries kept 0 g.context)) (arg t no_args))) → (m ≡ id) ⊎ OccursIn (metavariable m) t
applied_mentions g kept fact may id t m o = either (head_or_argument (metavariable m) (metavariable id) (joined variables (arg t no_args)) o)
  where
    variables : Spine
    variables = kept_variables kept (length g.context) (kept_entries kept 0 g.context)

    number : metavariable m ≡ metavariable id → m ≡ id
    number e = cc

    among : OccursInSpine (metavariable m) variables ⊎ OccursIn (metavariable m) t → (m ≡ id) ⊎ OccursIn (metavariable m) t
    among (inl p) = absurd (variables_mention g kept fact may m p)
    among (inr p) = inr p

    either : (metavariable m ≡ metavariable id) ⊎ OccursInSpine (metavariable m) (joined variables (arg t no_args)) → (m ≡ id) ⊎ OccursIn (metavariable m) t
    either (inl e) = inl (number e)
    either (inr p) = among (in_first_or_last (metavariable m) variables t p)

-- What is known of a completion: what the goal becomes and the goals that are added are shaped among all goals and these, and mention nothing that has an entry.
pub record Becomes (sig : LfSignature) (goals : List LfGoal) (n : ℕ) (g : LfGoal) (c : LfCandidate) (entries : List LfAssigned) (done : Completion) : Type 0 where
  pub term_shaped : Shaped (scope_in sig ((goals ++ c.opened.fresh) ++ done.more) g.context) done.becomes_term base
  pub term_mentions : (m : ℕ) → OccursIn (metavariable m) done.becomes_term → assignment_of entries m ≡ None
  pub more_shaped : All (λ h. ShapedTypeIn sig ((goals ++ c.opened.fresh) ++ done.more) [] (goal_type h)) done.more
  pub more_mention : All (λ h. (m : ℕ) → OccursInGoal (metavariable m) h → assignment_of entries m ≡ None) done.more
  pub more_differ : AreDistinct done.more
  pub more_numbers : All (λ h. h.id ≡ n + length c.opened.fresh) done.more

module _ (sig : LfSignature) (goals : List LfGoal) (n : ℕ) (g : LfGoal) (c : LfCandidate) (entries : List LfAssigned) (x : IsUnified sig goals n g c entries) where
  abbrev Everything : List LfGoal
  Everything = goals ++ c.opened.fresh

  abbrev Next : ℕ
  Next = n + length c.opened.fresh

  abbrev τ : Assignment
  τ = assignment_of entries

  abbrev Proof : LfTerm
  Proof = instance_of Everything τ (at c.head c.opened.terms)

  abbrev Fact : LfAtom
  Fact = instance_of_atom Everything τ c.opened.end

  -- From the whole scope of the context to itself.
  goes_in_context : Goes (goes_here sig goals n g c entries x).0 (scope_in sig Everything g.context) (scope_in sig Everything g.context) (instantiating τ)
  goes_in_context = goes_inside (goes_here sig goals n g c entries x).0 (shapes_of_types g.context) (scope_in sig Everything []) (scope_in sig Everything []) τ (closed_here sig goals n g c entries x) (goes_here sig goals n g c entries x).1

  proof_shaped : Shaped (scope_in sig Everything g.context) Proof base
  proof_shaped =
      ((instances_are_the_one_result sig Everything g.context (goes_here sig goals n g c entries x).0 (scope_in sig Everything g.context) τ goes_in_context).0 (at c.head c.opened.terms) base x.may_be_used.term_is_shaped).1

  proof_mentions : (m : ℕ) → OccursIn (metavariable m) Proof → τ m ≡ None
  proof_mentions m o = instance_stays sig goals n g c entries x (λ k. OccursIn (metavariable k) (at c.head c.opened.terms)) m ((instances_mention_what_is_put Everything τ m).0 (at c.head c.opened.terms) o)

  fact_shaped : ShapedTypeIn sig Everything g.context (atomic Fact)
  fact_shaped = ((instances_are_the_one_result sig Everything g.context (goes_here sig goals n g c entries x).0 (scope_in sig Everything g.context) τ goes_in_context).3 c.opened.end x.may_be_used.end_is_shaped).1

  fact_mentions : (m : ℕ) → OccursInType (metavariable m) (atomic Fact) → τ m ≡ None
  fact_mentions m o =
      instance_stays sig goals n g c entries x (λ k. OccursInType (metavariable k) (atomic c.opened.end)) m
      ((instances_mention_what_is_put Everything τ m).2 (atomic c.opened.end) (subst (OccursInType (metavariable m)) ((instances_go_part_by_part Everything τ).3 c.opened.end) o))

  is_one : ShapedGoal sig goals g
  is_one = All-contains (ShapedGoal sig goals) goals g x.of_goals.1 x.one_of

  -- More goals change nothing.
  with_more : (more : List LfGoal) (t : LfTerm) → Shaped (scope_in sig Everything g.context) t base → Shaped (scope_in sig (Everything ++ more) g.context) t base
  with_more more t p = term_elsewhere p (scope_in sig (Everything ++ more) g.context) (λ h s o e. more_goals (shapes_of_types (constant_types sig)) Everything more (shapes_of_types g.context) h s e)

  closes_becomes : Becomes sig goals n g c entries (record { becomes_term = Proof; more = [] })
  closes_becomes = record {
    term_shaped = with_more [] Proof proof_shaped;
    term_mentions = proof_mentions;
    more_shaped = All-nil (λ h. ShapedTypeIn sig (Everything ++ []) [] (goal_type h));
    more_mention = All-nil (λ h. (m : ℕ) → OccursInGoal (metavariable m) h → τ m ≡ None);
    more_differ = no_pairs (λ h k. h.id ≢ k.id);
    more_numbers = All-nil (λ h. h.id ≡ Next);
  }

  module _ (kept : List ℕ) (is : c.outcome ≡ adds kept) (may : MayAdd g kept Fact) where
    abbrev Added : LfGoal
    Added = goal_with Next g kept Fact

    abbrev Outside : Scope
    Outside = scope_in sig (Everything ++ Added ∷ []) []

    grown : (ss : List SimpleType) → ScopeGrows (under_all ss (scope_in sig Everything [])) (under_all ss Outside)
    grown ss = more_goals (shapes_of_types (constant_types sig)) Everything (Added ∷ []) ss

    from_goals : (ss : List SimpleType) → ScopeGrows (under_all ss (scope_in sig goals [])) (under_all ss Outside)
    from_goals ss h s e = grown ss h s (more_goals (shapes_of_types (constant_types sig)) goals c.opened.fresh ss h s e)

    added_is_known : Outside (metavariable Next) ≡ Some (shape_of (goal_type Added))
    added_is_known = All-head (λ h. found_shape (Everything ++ Added ∷ []) h.id ≡ Some (shape_of (goal_type h))) Added [] (found_among (Added ∷ []) Everything Next (all_below sig goals n g c entries x) (refl, tt))

    added_shaped : ShapedTypeIn sig (Everything ++ Added ∷ []) [] (goal_type Added)
    added_shaped =
        goal_with_shaped (kind_shapes_in sig) Outside g kept Fact may Next (ShapedContext-grown is_one.0 Outside (from_goals []))
        (ShapedType-grown fact_shaped (scope_in sig (Everything ++ Added ∷ []) g.context) (grown (shapes_of_types g.context)))
        (ShapedType-grown is_one.1 (scope_in sig (Everything ++ Added ∷ []) g.context) (from_goals (shapes_of_types g.context)))

    added_mentions : (m : ℕ) → OccursInGoal (metavariable m) Added → τ m ≡ None
    added_mentions m o = either (goal_with_mentions Next g kept Fact m o)
      where
        either : OccursInGoal (metavariable m) g ⊎ OccursInType (metavariable m) (atomic Fact) → τ m ≡ None
        either (inl p) = frozen_stays sig goals n g c entries x m (ap (λ out. freezing out goals g m) is ∙ goal_mentions sig goals n g c entries x m p)
        either (inr p) = fact_mentions m p

    abbrev Applied : LfTerm
    Applied = at (metavariable Next) (joined (kept_variables kept (length g.context) (kept_entries kept 0 g.context)) (arg Proof no_args))

    applied_stays : (m : ℕ) → OccursIn (metavariable m) Applied → τ m ≡ None
    applied_stays m o = either (applied_mentions g kept Fact may Next Proof m o)
      where
        either : (m ≡ Next) ⊎ OccursIn (metavariable m) Proof → τ m ≡ None
        either (inl same) = ap τ same ∙ next_stays sig goals n g c entries x
        either (inr p) = proof_mentions m p

    adds_becomes : Becomes sig goals n g c entries (record { becomes_term = Applied; more = Added ∷ [] })
    adds_becomes = record {
      term_shaped = applied_shaped (kind_shapes_in sig) Outside g kept Fact may Next Proof added_is_known (with_more (Added ∷ []) Proof proof_shaped);
      term_mentions = applied_stays;
      more_shaped = All-cons (λ h. ShapedTypeIn sig (Everything ++ Added ∷ []) [] (goal_type h)) Added [] added_shaped (All-nil (λ h. ShapedTypeIn sig (Everything ++ Added ∷ []) [] (goal_type h)));
      more_mention = All-cons (λ h. (m : ℕ) → OccursInGoal (metavariable m) h → τ m ≡ None) Added [] added_mentions (All-nil (λ h. (m : ℕ) → OccursInGoal (metavariable m) h → τ m ≡ None));
      more_differ = single Added;
      more_numbers = All-cons (λ h. h.id ≡ Next) Added [] refl (All-nil (λ h. h.id ≡ Next));
    }
      where
        single : (h : LfGoal) → AreDistinct (h ∷ [])
        single h i j d less within = absurd (omega (arith, less, within))

  by_outcome : (done : Completion) (o : Outcome) → c.outcome ≡ o → completion n Everything g c τ o ≡ Some done → Becomes sig goals n g c entries done
  by_outcome done closes is e = subst (Becomes sig goals n g c entries) (Some-Some e) closes_becomes
  by_outcome done (adds kept) is e = step (list_all (λ f. is_some (τ f.id)) c.opened.fresh) (may_be_added g kept Fact) refl e
    where
      step : (b may : Bool) → may_be_added g kept Fact ≡ may →
          (if b && may then Some (record { becomes_term = at (metavariable Next) (joined (kept_variables kept (length g.context) (kept_entries kept 0 g.context)) (arg Proof no_args)); more = goal_with Next g kept Fact ∷ [] }) else None) ≡ Some done →
          Becomes sig goals n g c entries done
      step true true may f = subst (Becomes sig goals n g c entries) (Some-Some f) (adds_becomes kept is (may_add g kept Fact may))
      step true false may f = absurd cc
      step false b may f = absurd cc

  pub becomes : (done : Completion) → completion n Everything g c τ c.outcome ≡ Some done → Becomes sig goals n g c entries done
  becomes done e = by_outcome done c.outcome refl e
