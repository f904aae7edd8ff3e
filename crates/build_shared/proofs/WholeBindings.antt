-- The bindings of a whole assignment: their numbers differ, they have the shapes of their goals' contexts, and what they may be used for.
use Rattle.std.proofs.Common.{◌≡◌, ◌≢◌, ℕ, ◌+◌, Some, None, List, [], ◌∷◌, ◌++◌, length, take, map, All, refl, sym, ap, ap₂, ◌∙◌, subst, subst₂, slice_get, option_map}
use Rattle.std.specs.Prelude.{Contains}
use Rattle.std.proofs.lemmas.List.{map-append}
use Rattle.std.proofs.lemmas.Option.{slice_get-map}
use Rattle.std.proofs.lemmas.List.Elements.{All-nil, All-cons, All-map, All-weaker, All-contains, All-contains_itself, Contains-append_left}
use Rattle.std.proofs.lemmas.List.Kept.{AllPairs-cons}
use Rattle.lf_definitions.specs.Syntax.{metavariable, LfTerm, lams, SimpleType, base, arrows, shapes_of_types}
use Rattle.lf_definitions.specs.Shaping.{Scope, under_all, Shaped, shaped_lam}
use Rattle.lf_definitions.specs.ShapedGoals.{kind_shapes_in, scope_in, ShapedGoal, ShapedGoals}
use Rattle.lf_definitions.specs.Replacements.{Goes}
use Rattle.lf_definitions.specs.Typing.{LfGoal}
use Rattle.lf_definitions.specs.Signatures.{LfSignature}
use Rattle.lf_definitions.specs.Instantiation.{Assignment, instantiating, Instantiated, LfAssigned, assignment_of}
use Rattle.lf_definitions.proofs.Options.{Some_inj, None-Some}
use Rattle.lf_definitions.proofs.Typing.{shape_of-pis}
use Rattle.head_laws.specs.AssignmentLaws.{AssignsClosedTerms}
use Rattle.head_laws.proofs.Results.{length-shapes_of_types}
use Rattle.goal_lists.specs.Laws.{GoesToGoals}
use Rattle.goal_lists.proofs.Leaving.{All-parts}
use Rattle.unification.specs.Equations.{numbered_from}
use Rattle.unification.specs.Solutions.{IsResolvedAnswer}
use Rattle.lf_functions.specs.Instances.{goals_depth, instance_of, instance_of_goal}
use Rattle.lf_functions.proofs.EndingLaws.{unifiers_are_answers}
use Rattle.lf_functions.proofs.Results.{instances_in_scope}
use Rattle.applications.proofs.Pairs.{AllPairs-map}
use Rattle.applications.specs.Methods.{LfCandidate}
use Rattle.applications.specs.Applications.{freezing, Completion, entry_of, put_into, goals_left}
use Rattle.completion_laws.specs.Laws.{IsUnified, whole_of, IsTestedBesides}
use Rattle.completion_laws.proofs.Scopes.{goes_inside}
use Rattle.completion_laws.proofs.LeftGoals.{what_is_left_is_goals_left}
use Rattle.goal_lists.specs.Assigning.{Leaves}
use Rattle.completion_laws.proofs.Unified.{all_entries, goal_stays}
use Rattle.completion_laws.proofs.Besides.{own_closed, own_goes, goes_besides, put_besides, completions_are_tested_besides}
use Rattle.completion_laws.proofs.Scopes.{closed_among}
use Rattle.meta_goals.specs.Bindings.{LfBinding, assigned_of, assigning, binding_for}
use Rattle.meta_goals.specs.Instantiates.{Instantiates, TermIsShaped, GoalsAreShaped}
use Rattle.meta_goals.specs.Laws.{HaveShapesOf}
use Rattle.meta_goals.proofs.BindingLaws.{bound_goals_have_their_shapes}
use Rattle.meta_goals.proofs.ChangedTerms.{under_all-metavariable}
use Rattle.meta_goals.proofs.LeftGoals.{is_assigned}
use Rattle.build_shared.specs.Attempts.{IsCompletedBy}
use Rattle.build_shared.specs.Remaining.{CanLeave}
use Rattle.build_shared.specs.Whole.{goal_binding, put_binding, other_bindings, with_body, MayBeTested, bindings_below}
use Rattle.build_shared.proofs.BindingLists.{HaveDifferentNumbers, take_found, All-from_places, All-at, before_differ, found_own, none_of, All-below}
use Rattle.build_shared.proofs.InstancesAmong.{instantiates_in, can_leave}
use Rattle.build_shared.proofs.UnifierEnds.{goal_shape, context_shapes, numbers_differ}

-- Those of numbers below another have the shapes of their goals' contexts, among the first goals.
pub below_have_shapes : (goals fresh : List LfGoal) (n : ℕ) (bindings : List LfBinding) → HaveShapesOf (goals ++ fresh) bindings → HaveShapesOf goals (bindings_below n bindings)
below_have_shapes goals fresh n bindings all =
    All-below (λ b. All (λ g. g.id ≡ b.number → b.shapes ≡ shapes_of_types g.context) goals) n bindings
    (All-weaker (λ b. All (λ g. g.id ≡ b.number → b.shapes ≡ shapes_of_types g.context) (goals ++ fresh)) (λ b. All (λ g. g.id ≡ b.number → b.shapes ≡ shapes_of_types g.context) goals)
    (λ b whole. (All-parts (λ g. g.id ≡ b.number → b.shapes ≡ shapes_of_types g.context) goals fresh whole).0) bindings all)

-- what is under the abstractions over a context
under_shaped_lams : (shapes : List SimpleType) (Γ : Scope) (b : LfTerm) → Shaped Γ (lams (length shapes) b) (arrows shapes base) → Shaped (under_all shapes Γ) b base
under_shaped_lams [] Γ b p = p
under_shaped_lams (a ∷ shapes) Γ b (shaped_lam p) = under_shaped_lams shapes _ b p

pub own_entry : (g : LfGoal) (u : LfTerm) → assigned_of (goal_binding g u) ≡ entry_of g u
own_entry g u = ap (λ n. made n) (length-shapes_of_types g.context)
  where
    made : ℕ → LfAssigned
    made n = record { assigned_goal = g.id; binders_count = n; body = u }

pub other_entries : (goals : List LfGoal) (e : LfAssigned) (bindings : List LfBinding) → map assigned_of (map (put_binding goals e) bindings) ≡ map (put_into goals e) (map assigned_of bindings)
other_entries goals e [] = refl
other_entries goals e (b ∷ rest) = ap (λ l. put_into goals e (assigned_of b) ∷ l) (other_entries goals e rest)

module _ (sig : LfSignature) (goals : List LfGoal) (n : ℕ) (g : LfGoal) (c : LfCandidate) (bindings : List LfBinding) (done : Completion) (x : IsCompletedBy sig goals n g c bindings done) where
  abbrev Among : List LfGoal
  Among = goals ++ c.opened.fresh

  abbrev Entries : List LfAssigned
  Entries = map assigned_of bindings

  abbrev Becoming : LfTerm
  Becoming = done.becomes_term

  abbrev Own : LfBinding
  Own = goal_binding g Becoming

  abbrev Others : List LfBinding
  Others = other_bindings Among g Becoming bindings

  abbrev Before : Scope
  Before = scope_in sig Among []

  abbrev After : Scope
  After = scope_in sig (Among ++ done.more) []

  known : IsUnified sig goals n g c Entries
  known = x.unified_by.unified

  all_shaped : ShapedGoals sig Among
  all_shaped = known.may_be_used.goals_are_shaped

  is_among : Contains Among g
  is_among = Contains-append_left goals c.opened.fresh g known.one_of

  answer : IsResolvedAnswer (scope_in sig Among g.context) (freezing c.outcome goals g) (numbered_from 0 c.equations) Entries
  answer = unifiers_are_answers sig Among g.context (freezing c.outcome goals g) c.equations Entries known.may_be_used.equations_are_shaped known.solves

  -- numbers
  pub differ : HaveDifferentNumbers bindings
  differ = numbers_differ bindings answer.each_once

  own_found : (i : ℕ) (b : LfBinding) → slice_get bindings i ≡ Some b → binding_for bindings b.number ≡ Some b
  own_found i b there = found_own bindings i b there differ

  pub not_goal : All (λ (b : LfBinding). g.id ≢ b.number) bindings
  not_goal = All-from_places (λ (b : LfBinding). g.id ≢ b.number) bindings
      (λ i b there same. None-Some (ap (assigning bindings) (sym same) ∙ goal_stays sig goals n g c Entries known) (is_assigned bindings b.number b (own_found i b there)))

  pub whole_differ : HaveDifferentNumbers (Own ∷ Others)
  whole_differ =
      AllPairs-cons (λ (b : LfBinding) d. b.number ≢ d.number) Own Others
      (All-map (λ (b : LfBinding). g.id ≢ b.number) (put_binding Among (entry_of g Becoming)) bindings not_goal)
      (AllPairs-map (λ (b : LfBinding) d. b.number ≢ d.number) (λ (b : LfBinding) d. b.number ≢ d.number) (put_binding Among (entry_of g Becoming)) (λ b d differ. differ) bindings differ)

  -- shapes
  abbrev FitsGoals : LfBinding → Type 0
  FitsGoals b = All (λ h. h.id ≡ b.number → b.shapes ≡ shapes_of_types h.context) Among

  own_shapes : FitsGoals Own
  own_shapes =
      All-weaker (Contains Among) (λ h. h.id ≡ g.id → shapes_of_types g.context ≡ shapes_of_types h.context) at_goal Among (All-contains_itself Among)
    where
      at_goal : (h : LfGoal) → Contains Among h → h.id ≡ g.id → shapes_of_types g.context ≡ shapes_of_types h.context
      at_goal h there same =
          let here = goal_shape sig Among all_shaped.0 h there in
          let own = goal_shape sig Among all_shaped.0 g is_among in
          context_shapes h (shapes_of_types g.context) (Some_inj here (ap (λ m. Before (metavariable m)) same ∙ own) ∙ shape_of-pis g.context g.target.atom_family g.target.atom_args)

  pub others_have_shapes : HaveShapesOf Among Others
  others_have_shapes = All-map FitsGoals (put_binding Among (entry_of g Becoming)) bindings x.unified_by.have_shapes

  pub all_have_shapes : HaveShapesOf Among (Own ∷ Others)
  all_have_shapes = All-cons FitsGoals Own Others own_shapes others_have_shapes

  -- The goal's entry alone.
  abbrev Alone : Assignment
  Alone = assignment_of (entry_of g Becoming ∷ [])

  alone_is : assigning (Own ∷ []) ≡ Alone
  alone_is = ap (λ e. assignment_of (e ∷ [])) (own_entry g Becoming)

  alone_closed : AssignsClosedTerms Alone
  alone_closed = own_closed sig goals n g c Entries known done x.completes x.not_itself

  module _ (i : ℕ) (b : LfBinding) (there : slice_get bindings i ≡ Some b) where
    body_shaped : Shaped (under_all b.shapes Before) b.bound_body base
    body_shaped =
        let entry = All-at (λ (d : LfBinding). (s : SimpleType) × (Before (metavariable d.number) ≡ Some s) × Shaped Before (lams (length d.shapes) d.bound_body) s) bindings i b each there in
        under_shaped_lams b.shapes Before b.bound_body
        (subst (Shaped Before (lams (length b.shapes) b.bound_body)) (bound_goals_have_their_shapes sig Among bindings x.unified_by.have_shapes [] b.number entry.0 b entry.1 (own_found i b there)) entry.2)
      where
        entry_at : (k : ℕ) (d : LfBinding) → slice_get bindings k ≡ Some d → slice_get Entries k ≡ Some (assigned_of d)
        entry_at k d found = slice_get-map assigned_of bindings k ∙ ap (option_map assigned_of) found

        each : All (λ (d : LfBinding). (s : SimpleType) × (Before (metavariable d.number) ≡ Some s) × Shaped Before (lams (length d.shapes) d.bound_body) s) bindings
        each = All-from_places (λ (d : LfBinding). (s : SimpleType) × (Before (metavariable d.number) ≡ Some s) × Shaped Before (lams (length d.shapes) d.bound_body) s) bindings
            (λ k d found. (All-at (λ e. (s : SimpleType) × (Before (metavariable e.assigned_goal) ≡ Some s) × Shaped Before (lams e.binders_count e.body) s) Entries k (assigned_of d)
            (λ j e less. (all_entries sig goals n g c Entries known j e less).0) (entry_at k d found)))

    goes_under : Goes (goals_depth Among) (under_all b.shapes Before) (under_all b.shapes After) (instantiating Alone)
    goes_under = goes_inside (goals_depth Among) b.shapes Before After Alone alone_closed (own_goes sig goals n g c Entries known done x.completes x.not_itself)

    pub instantiates_alone : Instantiates (Own ∷ []) (TermIsShaped b.bound_body)
    instantiates_alone =
        record {
          size = goals_depth Among;
          outer = under_all b.shapes Before;
          target = under_all b.shapes After;
          goes = subst (λ σ. Goes (goals_depth Among) (under_all b.shapes Before) (under_all b.shapes After) (instantiating σ)) (sym alone_is) goes_under;
          closed = subst AssignsClosedTerms (sym alone_is) alone_closed;
          contexts = λ m s d seen found. bound_goals_have_their_shapes sig Among (Own ∷ []) (All-cons FitsGoals Own [] own_shapes (All-nil FitsGoals)) [] m s d (sym (under_all-metavariable b.shapes Before m) ∙ seen) found;
          shaped = (base, body_shaped);
        }

    put_is : (r : LfTerm) → Instantiated (assigning (Own ∷ [])) b.bound_body r → r ≡ instance_of Among Alone b.bound_body
    put_is r result =
        (((instances_in_scope Among (kind_shapes_in sig) (under_all b.shapes Before) (under_all b.shapes After) Alone goes_under).0 b.bound_body base body_shaped).0 r).0
        (subst (λ σ. Instantiated σ b.bound_body r) alone_is result)

    -- One binding more.
    pub others_more : (old new : List LfBinding) (r : LfTerm) → old ≡ map (put_binding Among (entry_of g Becoming)) (take i bindings) → Instantiated (assigning (Own ∷ [])) b.bound_body r →
        new ≡ old ++ with_body b.number b.shapes r ∷ [] → new ≡ map (put_binding Among (entry_of g Becoming)) (take (i + 1) bindings)
    others_more old new r so_far result made =
        let put = put_binding Among (entry_of g Becoming) in
        made ∙ ap₂ (λ l v. l ++ with_body b.number b.shapes v ∷ []) so_far (put_is r result) ∙ sym (map-append put (take i bindings) (b ∷ [])) ∙ ap (map put) (sym (take_found bindings i b there))

    others_before : All (λ (d : LfBinding). d.number ≢ b.number) (map (put_binding Among (entry_of g Becoming)) (take i bindings))
    others_before = All-map (λ (d : LfBinding). d.number ≢ b.number) (put_binding Among (entry_of g Becoming)) (take i bindings) (before_differ bindings i b there differ)

    pub not_among_others : (old : List LfBinding) → old ≡ map (put_binding Among (entry_of g Becoming)) (take i bindings) → binding_for old b.number ≡ None
    not_among_others old so_far = ap (λ l. binding_for l b.number) so_far ∙ none_of (map (put_binding Among (entry_of g Becoming)) (take i bindings)) b.number others_before

    pub not_among_all : (old all : List LfBinding) → old ≡ map (put_binding Among (entry_of g Becoming)) (take i bindings) → all ≡ Own ∷ old → binding_for all b.number ≡ None
    not_among_all old all so_far is =
        let put = map (put_binding Among (entry_of g Becoming)) (take i bindings) in
        ap (λ l. binding_for l b.number) (is ∙ ap (λ l. Own ∷ l) so_far)
        ∙ none_of (Own ∷ put) b.number (All-cons (λ (d : LfBinding). d.number ≢ b.number) Own put (All-at (λ (d : LfBinding). g.id ≢ d.number) bindings i b not_goal there) others_before)

  -- The whole assignment, as entries.
  abbrev σ : Assignment
  σ = assigning (Own ∷ Others)

  abbrev ρ : Assignment
  ρ = assigning Others

  pub whole_entries : map assigned_of (Own ∷ Others) ≡ whole_of goals g c Entries done
  whole_entries = ap₂ (λ e l. e ∷ l) (own_entry g Becoming) (other_entries Among (entry_of g Becoming) bindings)

  pub σ_is : σ ≡ assignment_of (whole_of goals g c Entries done)
  σ_is = ap assignment_of whole_entries

  pub ρ_is : ρ ≡ assignment_of (map (put_into Among (entry_of g Becoming)) Entries)
  ρ_is = ap assignment_of (other_entries Among (entry_of g Becoming) bindings)

  abbrev pub remains : Assignment → Assignment → List LfGoal
  remains τ υ = (goals_left Among τ Among ++ done.more) ++ instance_of_goal Among υ g ∷ []

  pub tested_besides : IsTestedBesides sig goals g c Entries done
  tested_besides = completions_are_tested_besides sig goals n g c Entries known done x.completes x.not_itself

  pub may_be_tested : MayBeTested sig Among (Own ∷ Others) (remains σ ρ)
  may_be_tested =
      record {
        of_signature = known.of_signature;
        of_goals = all_shaped;
        have_shapes = all_have_shapes;
        closed = subst AssignsClosedTerms (sym σ_is) tested_besides.closed;
        goes = subst₂ (λ τ υ. GoesToGoals sig Among (remains τ υ) τ) (sym σ_is) (sym ρ_is) tested_besides.goes;
        shaped = subst₂ (λ τ υ. ShapedGoals sig (remains τ υ)) (sym σ_is) (sym ρ_is) tested_besides.shaped;
      }

  pub each_can_leave : (h : LfGoal) → Contains Among h → CanLeave Among (Own ∷ Others) h
  each_can_leave h there =
      can_leave sig Among (remains σ ρ) (Own ∷ Others) may_be_tested.closed may_be_tested.goes all_have_shapes h (All-contains (ShapedGoal sig Among) Among h all_shaped.1 there)

  pub goals_can_leave : Instantiates (Own ∷ Others) (GoalsAreShaped goals)
  goals_can_leave =
      instantiates_in sig Among (remains σ ρ) (Own ∷ Others) may_be_tested.closed may_be_tested.goes all_have_shapes [] (GoalsAreShaped goals)
      (kind_shapes_in sig, (All-parts (ShapedGoal sig Among) goals c.opened.fresh all_shaped.1).0)

  pub goal_can_leave_besides : CanLeave Among Others g
  goal_can_leave_besides =
      can_leave sig Among (remains (assignment_of (whole_of goals g c Entries done)) (assignment_of (map (put_into Among (entry_of g Becoming)) Entries))) Others
      (subst AssignsClosedTerms (sym ρ_is) (closed_among sig (Among ++ done.more) (assignment_of (map (put_into Among (entry_of g Becoming)) Entries))
      (λ m u found. let p = put_besides sig goals n g c Entries known done x.completes x.not_itself m u found in (p.0.0, p.0.2))))
      (subst (GoesToGoals sig Among (remains (assignment_of (whole_of goals g c Entries done)) (assignment_of (map (put_into Among (entry_of g Becoming)) Entries)))) (sym ρ_is)
      (goals_depth Among, goes_besides sig goals n g c Entries known done x.completes x.not_itself))
      others_have_shapes g (All-contains (ShapedGoal sig Among) Among g all_shaped.1 is_among)

  -- The same with what the code has.
  module _ (all others : List LfBinding) (others_are : others ≡ Others) (all_are : all ≡ Own ∷ others) where
    pub all_is : all ≡ Own ∷ Others
    all_is = all_are ∙ ap (λ l. Own ∷ l) others_are

    pub remaining_is : (list : List LfGoal) → list ≡ remains (assigning all) (assigning others) → list ≡ remains σ ρ
    remaining_is list is = is ∙ ap₂ (λ (k : List LfBinding) l. remains (assigning k) (assigning l)) all_is others_are

    pub tested_in : (list : List LfGoal) → list ≡ remains (assigning all) (assigning others) → MayBeTested sig Among all list
    tested_in list is = subst₂ (MayBeTested sig Among) (sym all_is) (sym (remaining_is list is)) may_be_tested

    pub all_differ : HaveDifferentNumbers all
    all_differ = subst HaveDifferentNumbers (sym all_is) whole_differ

    pub goals_leave : Instantiates all (GoalsAreShaped goals)
    goals_leave = subst (λ l. Instantiates l (GoalsAreShaped goals)) (sym all_is) goals_can_leave

    pub each_leaves : (h : LfGoal) → Contains Among h → CanLeave Among all h
    each_leaves h there = subst (λ l. CanLeave Among l h) (sym all_is) (each_can_leave h there)

    pub besides_leaves : CanLeave Among others g
    besides_leaves = subst (λ l. CanLeave Among l g) (sym others_are) goal_can_leave_besides

    pub what_is_left : (left : List LfGoal) → Leaves (assigning all) goals left → left ≡ goals_left Among (assigning all) goals
    what_is_left left leaves =
        what_is_left_is_goals_left sig Among (remains σ ρ) (assigning all) all_shaped
        (subst (λ l. GoesToGoals sig Among (remains σ ρ) (assigning l)) (sym all_is) may_be_tested.goes) goals left (All-weaker (Contains goals) (Contains Among) (λ h there. Contains-append_left goals c.opened.fresh h there) goals (All-contains_itself goals)) leaves
