-- The entries of a completion are tested in a shaped list: what is left, with the goal besides.
use Rattle.std.proofs.Common.{◌≡◌, ◌≢◌, inl, inr, ℕ, ◌+◌, Bool, true, false, Option, Some, None, option_map, List, [], ◌∷◌, ◌++◌, map, All, length, refl, sym, ap, ap₂, ◌∙◌, subst, subst₂, arith, append_assoc}
use Rattle.std.specs.Prelude.{nat_eq, ◌&&◌, if◌then◌else◌, Contains}
use Rattle.std.proofs.lemmas.Bool.{eqb-true, eq-eqb, ne_eqb}
use Rattle.std.proofs.lemmas.List.Elements.{All-nil, All-cons, All-append, All-contains, All-weaker, All-map}
use Rattle.lf_definitions.specs.Syntax.{metavariable, LfTerm, lams, SimpleType, base, arrows, atomic, shape_of, shapes_of_types}
use Rattle.lf_definitions.specs.Shaping.{Scope, under_all, Shaped}
use Rattle.lf_definitions.specs.ShapedGoals.{kind_shapes_in, scope_in, ShapedTypeIn, ShapedGoal, ShapedGoals}
use Rattle.lf_definitions.specs.Occurrence.{OccursIn, OccursInType, OccursInGoal}
use Rattle.lf_definitions.specs.Replacements.{Goes}
use Rattle.lf_definitions.specs.Typing.{LfGoal, goal_type, type_of_metavariable}
use Rattle.lf_definitions.specs.Signatures.{LfSignature, constant_types}
use Rattle.lf_definitions.specs.GoalLists.{LfGoals, ids, AreDistinct}
use Rattle.lf_definitions.specs.Instantiation.{Assignment, LfAssigned, assignment_of, instantiating}
use Rattle.lf_definitions.proofs.Expansion.{Shaped-lams}
use Rattle.lf_definitions.proofs.Options.{Some-Some, Some_inj, None-Some}
use Rattle.lf_definitions.proofs.ShapedGoals.{ShapedContext-pis, ShapedType-under_pis}
use Rattle.lf_definitions.proofs.Telescopes.{arguments-arrows}
use Rattle.lf_definitions.proofs.Typing.{shape_of-pis}
use Rattle.head_laws.specs.AssignmentLaws.{AssignsClosedTerms}
use Rattle.typing_laws.proofs.Binders.{arity_of}
use Rattle.typing_laws.proofs.GoalLists.{type_of_goal}
use Rattle.goal_lists.specs.Assigning.{leaves_none}
use Rattle.goal_lists.specs.Laws.{GoesToGoals}
use Rattle.goal_lists.proofs.Leaving.{All-parts, AllPairs-append}
use Rattle.goal_lists.proofs.Laws.{new_goals_may_stand_beside}
use Rattle.unification.proofs.Remaining.{OccursIn-under_lams}
use Rattle.unifiers.proofs.Entries.{term_put, found_entry}
use Rattle.lf_functions.specs.Instances.{goals_depth, instance_of_goal}
use Rattle.lf_functions.specs.MentionLaws.{StaysOrIsPut}
use Rattle.lf_functions.proofs.Results.{instances_in_scope}
use Rattle.lf_functions.proofs.MentionLaws.{instances_mention_what_is_put}
use Rattle.lf_functions.proofs.CheckingLaws.{has_type_looks_at_what_occurs}
use Rattle.opening_laws.proofs.Numbers.{found_shape, keeps_type, more_goals}
use Rattle.applications.specs.Methods.{LfCandidate}
use Rattle.applications.specs.Applications.{Completion, completion, entry_of, put_into, goals_left, is_typed_entry, entries_are_typed}
use Rattle.application_laws.proofs.Members.{IsIn, in_contained, instance_id, left_is_in, put_keeps_none}
use Rattle.completion_laws.specs.Laws.{IsUnified, whole_of, left_of, goal_besides, IsTestedBesides, CompletionsAreTestedBesides}
use Rattle.completion_laws.proofs.Bodies.{instance-lams}
use Rattle.completion_laws.proofs.LeftGoals.{leaves_goals_left, instance_shape, left_shape, passed_type, last_passed}
use Rattle.completion_laws.proofs.Scopes.{shape_found, term_elsewhere, type_elsewhere, grows_by_numbers, closed_among, goes_from}
use Rattle.completion_laws.proofs.Unified.{IsEntry, all_entries, goal_below, next_is_new}
use Rattle.completion_laws.proofs.Itself.{goal_has_entry, goal_is_gone}
use Rattle.completion_laws.proofs.Becoming.{Becomes, becomes}

-- A number without an entry had none before something was put into the bodies.
put_was_none : (goals : List LfGoal) (e : LfAssigned) (es : List LfAssigned) (k : ℕ) → assignment_of (map (put_into goals e) es) k ≡ None → assignment_of es k ≡ None
put_was_none goals e [] k none = refl
put_was_none goals e (f ∷ rest) k none = step (nat_eq f.assigned_goal k) none (put_was_none goals e rest k)
  where
    step : (b : Bool) → (if b then Some (lams f.binders_count (put_into goals e f).body) else assignment_of (map (put_into goals e) rest) k) ≡ None →
        (assignment_of (map (put_into goals e) rest) k ≡ None → assignment_of rest k ≡ None) → (if b then Some (lams f.binders_count f.body) else assignment_of rest k) ≡ None
    step true none later = absurd cc
    step false none later = later none

module _ (sig : LfSignature) (goals : List LfGoal) (n : ℕ) (g : LfGoal) (c : LfCandidate) (entries : List LfAssigned) (x : IsUnified sig goals n g c entries) (done : Completion)
    (completes : completion n (goals ++ c.opened.fresh) g c (assignment_of entries) c.outcome ≡ Some done) (not_itself : OccursIn (metavariable g.id) done.becomes_term → ⊥) where
  abbrev Everything : List LfGoal
  Everything = goals ++ c.opened.fresh

  abbrev Before : Scope
  Before = scope_in sig Everything []

  -- with the goals that are added
  abbrev With_more : List LfGoal
  With_more = Everything ++ done.more

  abbrev pub Between : Scope
  Between = scope_in sig With_more []

  abbrev Unifier : Assignment
  Unifier = assignment_of entries

  abbrev Own : LfAssigned
  Own = entry_of g done.becomes_term

  abbrev pub Own_alone : Assignment
  Own_alone = assignment_of (Own ∷ [])

  -- the entries with the goal's entry put into them, and all with this one
  abbrev Others : List LfAssigned
  Others = map (put_into Everything Own) entries

  abbrev pub Besides : Assignment
  Besides = assignment_of Others

  abbrev Whole : Assignment
  Whole = assignment_of (whole_of goals g c entries done)

  abbrev Body : LfTerm
  Body = lams (length g.context) done.becomes_term

  abbrev Goal_shape : SimpleType
  Goal_shape = shape_of (goal_type g)

  made : Becomes sig goals n g c entries done
  made = becomes sig goals n g c entries x done completes

  all_shaped : ShapedGoals sig Everything
  all_shaped = x.may_be_used.goals_are_shaped

  grown : (m : ℕ) (s : SimpleType) → Before (metavariable m) ≡ Some s → Between (metavariable m) ≡ Some s
  grown m s e = more_goals (shapes_of_types (constant_types sig)) Everything done.more [] (metavariable m) s e

  pub goal_known : Before (metavariable g.id) ≡ Some Goal_shape
  goal_known = shape_found sig Everything g.id ∙ ap (option_map shape_of) (keeps_type goals c.opened.fresh g.id (goal_type g) (type_of_goal goals x.of_goals.0 g x.one_of))

  body_shaped : Shaped Between Body Goal_shape
  body_shaped =
      let shapes = shapes_of_types g.context in
      let s = arrows shapes base in
      subst (Shaped Between Body) (sym (shape_of-pis g.context g.target.atom_family g.target.atom_args))
      (subst (λ k. Shaped Between (lams k done.becomes_term) s) (arity_of g.context)
      (Shaped-lams s Between done.becomes_term (subst (λ ss. Shaped (under_all ss Between) done.becomes_term base) (sym (arguments-arrows shapes)) made.term_shaped)))

  -- The goal's entry alone goes from all goals to these with the added ones.
  own_alone : (k : ℕ) (u : LfTerm) → Own_alone k ≡ Some u → (g.id ≡ k) × (Body ≡ u)
  own_alone k u found = step (nat_eq g.id k) refl found
    where
      step : (b : Bool) → nat_eq g.id k ≡ b → (if b then Some Body else None) ≡ Some u → (g.id ≡ k) × (Body ≡ u)
      step true same f = (eqb-true g.id k same, Some-Some f)
      step false same f = absurd cc

  own_found : Own_alone g.id ≡ Some Body
  own_found = ap (λ b. if b then Some Body else None) (eq-eqb g.id g.id refl)

  pub own_closed : AssignsClosedTerms Own_alone
  own_closed = closed_among sig With_more Own_alone (λ m u found. (Goal_shape, subst (λ v. Shaped Between v Goal_shape) (own_alone m u found).1 body_shaped))

  pub own_goes : Goes (goals_depth Everything) Before Between (instantiating Own_alone)
  own_goes = goes_from sig Everything With_more Own_alone put (λ m s known none. grown m s known)
    where
      put : (m : ℕ) (s : SimpleType) (u : LfTerm) → Before (metavariable m) ≡ Some s → Own_alone m ≡ Some u → Shaped Between u s
      put m s u known found =
          let r = own_alone m u found in
          subst₂ (Shaped Between) r.1 (Some_inj goal_known (ap (λ k. Before (metavariable k)) r.0 ∙ known)) body_shaped

  -- What is put is shaped, and mentions nothing that has an entry, nor the goal.
  abbrev pub IsGoodEntry : ℕ → LfTerm → Type 0
  IsGoodEntry k u =
      ((s : SimpleType) × (Before (metavariable k) ≡ Some s) × Shaped Between u s)
      × ((m : ℕ) → OccursIn (metavariable m) u → (Unifier m ≡ None) × (g.id ≢ m))

  own_put : IsGoodEntry g.id Body
  own_put = (
    (Goal_shape, goal_known, body_shaped),
    λ m o. let inside = OccursIn-under_lams (length g.context) done.becomes_term m o in
        (made.term_mentions m inside, λ same. not_itself (subst (λ k. OccursIn (metavariable k) done.becomes_term) (sym same) inside)),
  )

  entry_put : (e : LfAssigned) → IsEntry sig goals n g c entries x e.assigned_goal (term_put e) → IsGoodEntry e.assigned_goal (term_put (put_into Everything Own e))
  entry_put e known =
      let s = known.0.0 in
      let shaped = ((instances_in_scope Everything (kind_shapes_in sig) Before Between Own_alone own_goes).0 (term_put e) s known.0.2).1 in
      subst (IsGoodEntry e.assigned_goal) (instance-lams Everything Own_alone own_closed e.binders_count e.body)
      ((s, known.0.1, shaped), λ m o. mentions m ((instances_mention_what_is_put Everything Own_alone m).0 (term_put e) o))
    where
      mentions : (m : ℕ) → StaysOrIsPut Own_alone (λ k. OccursIn (metavariable k) (term_put e)) m → (Unifier m ≡ None) × (g.id ≢ m)
      mentions m (inl (p, none)) = (known.2 m p, λ same. None-Some none (ap Own_alone (sym same) ∙ own_found))
      mentions m (inr (k, u, p, found, inside)) = own_put.1 m (subst (OccursIn (metavariable m)) (sym (own_alone k u found).1) inside)

  all_put : All (λ e. IsGoodEntry e.assigned_goal (term_put e)) Others
  all_put =
      All-map (λ e. IsGoodEntry e.assigned_goal (term_put e)) (put_into Everything Own) entries
      (All-weaker (λ e. IsEntry sig goals n g c entries x e.assigned_goal (term_put e)) (λ e. IsGoodEntry e.assigned_goal (term_put (put_into Everything Own e))) entry_put entries (all_entries sig goals n g c entries x))

  pub put_besides : (k : ℕ) (u : LfTerm) → Besides k ≡ Some u → IsGoodEntry k u
  put_besides = found_entry IsGoodEntry Others all_put

  put_whole : (k : ℕ) (u : LfTerm) → Whole k ≡ Some u → IsGoodEntry k u
  put_whole = found_entry IsGoodEntry (Own ∷ Others) (All-cons (λ e. IsGoodEntry e.assigned_goal (term_put e)) Own Others own_put all_put)

  closed : AssignsClosedTerms Whole
  closed = closed_among sig With_more Whole (λ m u found. let p = put_whole m u found in (p.0.0, p.0.2))

  goal_entry : Whole g.id ≡ Some Body
  goal_entry = goal_has_entry sig goals n g c entries x done completes

  still_none : (m : ℕ) → Unifier m ≡ None → g.id ≢ m → Whole m ≡ None
  still_none m none differ = ap (λ b. if b then Some Body else Besides m) (ne_eqb g.id m differ) ∙ put_keeps_none Everything Own entries m none

  -- What is left, and the goal besides.
  abbrev Remaining : List LfGoal
  Remaining = goals_left Everything Whole Everything

  abbrev Left : List LfGoal
  Left = left_of goals g c entries done

  abbrev Beside : LfGoal
  Beside = goal_besides goals g c entries done

  abbrev pub Rest : List LfGoal
  Rest = Left ++ Beside ∷ []

  abbrev After : Scope
  After = scope_in sig Rest []

  regroup : Rest ≡ Remaining ++ (done.more ++ Beside ∷ [])
  regroup = append_assoc Remaining done.more (Beside ∷ [])

  same_id : Beside.id ≡ g.id
  same_id = instance_id Everything Besides g

  known_left : (m : ℕ) (s : SimpleType) → Whole m ≡ None → Between (metavariable m) ≡ Some s → After (metavariable m) ≡ Some s
  known_left m s none known =
      ap (λ xs. found_shape xs m) regroup
      ∙ left_shape Everything Whole Everything (done.more ++ Beside ∷ []) m none
      ∙ ap (λ xs. found_shape xs m) (sym (append_assoc Everything done.more (Beside ∷ [])))
      ∙ more_goals (shapes_of_types (constant_types sig)) With_more (Beside ∷ []) [] (metavariable m) s known

  known_goal : After (metavariable g.id) ≡ Some Goal_shape
  known_goal =
      shape_found sig Rest g.id
      ∙ ap (option_map shape_of) (passed_type Left (Beside ∷ []) g.id (goal_is_gone sig goals n g c entries x done completes) ∙ ap (λ b. if b then Some (goal_type Beside) else None) (eq-eqb Beside.id g.id same_id))
      ∙ ap Some (instance_shape Everything Besides g)

  -- Whatever the unifier does not assign is known there.
  known_rest : (m : ℕ) (s : SimpleType) → Unifier m ≡ None → Between (metavariable m) ≡ Some s → After (metavariable m) ≡ Some s
  known_rest m s none known = step (nat_eq g.id m) refl
    where
      differ : nat_eq g.id m ≡ false → g.id ≢ m
      differ e same = clash (sym (eq-eqb g.id m same) ∙ e)
        where
          clash : true ≡ false → ⊥
          clash f = absurd cc

      step : (b : Bool) → nat_eq g.id m ≡ b → After (metavariable m) ≡ Some s
      step true e =
          let same = eqb-true g.id m e in
          let shapes : Goal_shape ≡ s = Some_inj (grown g.id Goal_shape goal_known) (ap (λ k. Between (metavariable k)) same ∙ known) in
          ap (λ k. After (metavariable k)) (sym same) ∙ known_goal ∙ ap Some shapes
      step false e = known_left m s (still_none m none (differ e)) known

  put_after : (k : ℕ) (u : LfTerm) (s : SimpleType) → Before (metavariable k) ≡ Some s → IsGoodEntry k u → Shaped After u s
  put_after k u s known p =
      subst (Shaped After u) (Some_inj p.0.1 known)
      (term_elsewhere p.0.2 After (grows_by_numbers sig With_more Rest (λ h. OccursIn h u) (λ m a o e. known_rest m a (p.1 m o).0 e)))

  goes : Goes (goals_depth Everything) Before After (instantiating Whole)
  goes = goes_from sig Everything Rest Whole (λ m s u known found. put_after m u s known (put_whole m u found)) (λ m s known none. known_left m s none (grown m s known))

  pub goes_besides : Goes (goals_depth Everything) Before After (instantiating Besides)
  goes_besides =
      goes_from sig Everything Rest Besides (λ m s u known found. put_after m u s known (put_besides m u found))
      (λ m s known none. known_rest m s (put_was_none Everything Own entries m none) (grown m s known))

  -- The list is shaped.
  beside_shaped : ShapedGoal sig Rest Beside
  beside_shaped =
      ((instances_in_scope Everything (kind_shapes_in sig) Before After Besides goes_besides).5 g
      (All-contains (ShapedGoal sig Everything) goals g (All-parts (ShapedGoal sig Everything) goals c.opened.fresh all_shaped.1).0 x.one_of)).1

  abbrev IsAdded : LfGoal → Type 0
  IsAdded h = ShapedTypeIn sig With_more [] (goal_type h) × ((m : ℕ) → OccursInGoal (metavariable m) h → Unifier m ≡ None)

  added_shaped : (h : LfGoal) → IsAdded h → ShapedGoal sig Rest h
  added_shaped h (shaped, free) =
      let there = type_elsewhere shaped After (grows_by_numbers sig With_more Rest (λ k. OccursInType k (goal_type h)) (λ m s o e. known_rest m s (free m o) e)) in
      (ShapedContext-pis h.context (atomic h.target) there, ShapedType-under_pis h.context (atomic h.target) there)

  new_shaped : All (ShapedGoal sig Rest) (done.more ++ Beside ∷ [])
  new_shaped =
      All-append (ShapedGoal sig Rest) done.more (Beside ∷ [])
      (All-weaker IsAdded (ShapedGoal sig Rest) added_shaped done.more (λ i d less. (made.more_shaped i d less, made.more_mention i d less)))
      (All-cons (ShapedGoal sig Rest) Beside [] beside_shaped (All-nil (ShapedGoal sig Rest)))

  new_differ : AreDistinct (done.more ++ Beside ∷ [])
  new_differ =
      AllPairs-append (λ h k. h.id ≢ k.id) done.more (Beside ∷ []) made.more_differ (single Beside)
      (All-weaker (λ h. h.id ≡ n + length c.opened.fresh) (λ h. All (λ k. h.id ≢ k.id) (Beside ∷ []))
      (λ h is. All-cons (λ k. h.id ≢ k.id) Beside [] (apart h is) (All-nil (λ k. h.id ≢ k.id))) done.more made.more_numbers)
    where
      single : (h : LfGoal) → AreDistinct (h ∷ [])
      single h i j d less within = absurd (omega (arith, less, within))

      apart : (h : LfGoal) → h.id ≡ n + length c.opened.fresh → h.id ≢ Beside.id
      apart h is same = let less = goal_below sig goals n g c entries x in let there = same ∙ same_id in absurd (omega (arith, is, there, less))

  abbrev HasNewNumber : LfGoal → Type 0
  HasNewNumber h = Contains (ids Remaining) h.id → ⊥

  all_new : All HasNewNumber (done.more ++ Beside ∷ [])
  all_new =
      All-append HasNewNumber done.more (Beside ∷ [])
      (All-weaker (λ h. h.id ≡ n + length c.opened.fresh) HasNewNumber added_new done.more made.more_numbers)
      (All-cons HasNewNumber Beside [] (λ has. None-Some (left_is_in Everything Whole Everything Beside.id (in_contained Beside.id (ids Remaining) has)).1 (ap Whole same_id ∙ goal_entry)) (All-nil HasNewNumber))
    where
      added_new : (h : LfGoal) → h.id ≡ n + length c.opened.fresh → HasNewNumber h
      added_new h is has =
          let there = (left_is_in Everything Whole Everything h.id (in_contained h.id (ids Remaining) has)).0 in
          next_is_new sig goals n g c entries x (subst (λ k. IsIn k (ids Everything)) is there)

  abbrev as_witnesses : List LfGoal → LfGoals
  as_witnesses list = record { proofs = []; witnesses = list }

  shaped : ShapedGoals sig Rest
  shaped =
      subst (ShapedGoals sig) (sym regroup)
      (new_goals_may_stand_beside sig (as_witnesses Everything) (as_witnesses Remaining) (done.more ++ Beside ∷ []) Whole all_shaped
      (subst (λ list. GoesToGoals sig Everything list Whole) regroup (goals_depth Everything, goes))
      (record { of_proofs = leaves_none; of_witnesses = leaves_goals_left sig Everything Rest Whole (goals_depth Everything, goes) Everything all_shaped.1 })
      new_differ all_new (subst (λ list. All (ShapedGoal sig list) (done.more ++ Beside ∷ [])) regroup new_shaped))

  -- No entry mentions the goal.
  tested : (h : LfGoal) (o : Option LfTerm) → Whole h.id ≡ o → (k : LfGoal) → is_typed_entry sig Rest o k ≡ is_typed_entry sig Left o k
  tested h None found k = refl
  tested h (Some u) found k = has_type_looks_at_what_occurs sig Left Rest [] u agree (goal_type k)
    where
      agree : (m : ℕ) → OccursIn (metavariable m) u → type_of_metavariable Left m ≡ type_of_metavariable Rest m
      agree m o = sym (last_passed Left Beside m (λ same. ((put_whole h.id u found).1 m o).1 (sym same_id ∙ same)))

  all_tested : (list : List LfGoal) → entries_are_typed sig Everything Whole Rest list ≡ entries_are_typed sig Everything Whole Left list
  all_tested [] = refl
  all_tested (h ∷ rest) = ap₂ (λ a b. a && b) (tested h (Whole h.id) refl (instance_of_goal Everything Whole h)) (all_tested rest)

  pub tested_besides : IsTestedBesides sig goals g c entries done
  tested_besides = record { closed = closed; goes = (goals_depth Everything, goes); shaped = shaped; tested_alike = all_tested Everything }

pub completions_are_tested_besides : CompletionsAreTestedBesides
completions_are_tested_besides = tested_besides
