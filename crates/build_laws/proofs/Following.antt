-- One assignment after another takes the first goals to the last.
use Rattle.std.proofs.Common.{◌≡◌, ℕ, ◌+◌, Option, Some, None, List, [], map, All, AllPairs, refl, sym, ap, ◌∙◌, subst}
use Rattle.std.specs.Prelude.{Contains, ◌↔◌}
use Rattle.std.proofs.lemmas.List.Elements.{All-append, All-contains, All-weaker, All-map}
use Rattle.lf_definitions.specs.Syntax.{bound, constant, metavariable, LfTerm, Context, SimpleType, shapes_of_types}
use Rattle.lf_definitions.specs.Shaping.{Shaped}
use Rattle.lf_definitions.specs.ShapedGoals.{scope_in, ShapedGoal, ShapedGoals}
use Rattle.lf_definitions.specs.Occurrence.{OccursInGoal}
use Rattle.lf_definitions.specs.Replacements.{Fits, Goes}
use Rattle.lf_definitions.specs.Typing.{LfGoal}
use Rattle.lf_definitions.specs.Signatures.{LfSignature}
use Rattle.lf_definitions.specs.GoalLists.{LfGoals, all_goals, ids}
use Rattle.lf_definitions.specs.Instantiation.{Assignment, assigned, instantiating, LfAssigned, assignment_of}
use Rattle.lf_definitions.proofs.Options.{None-Some}
use Rattle.head_laws.specs.AssignmentLaws.{AssignsClosedTerms}
use Rattle.head_laws.proofs.Known.{known_term}
use Rattle.goal_lists.proofs.Leaving.{AllPairs-append}
use Rattle.goal_lists.proofs.RenamedLists.{AreClosed-ShapedGoals}
use Rattle.unifiers.proofs.Entries.{term_put, found_entry}
use Rattle.unifiers.proofs.Spines.{Goes-local}
use Rattle.lf_functions.specs.Instances.{instance_of, instance_of_goal}
use Rattle.lf_functions.specs.CompositionLaws.{instance_of_assigned, followed_by}
use Rattle.lf_functions.proofs.Compositions.{instances_compose, following_goes_on}
use Rattle.lf_functions.proofs.Depths.{KnowsGoals-scope_in}
use Rattle.lf_functions.proofs.InstanceLaws.{instances_look_at_what_occurs}
use Rattle.applications.specs.Applications.{entries_among}
use Rattle.application_laws.proofs.Members.{IsIn, contains_in, in_contained, goal_is_in, shaped_is_in}
use Rattle.alternatives.specs.ListsAfter.{under_later, then_assigned}
use Rattle.alternatives.specs.Taking.{Takes}
use Rattle.build_laws.specs.Laws.{NoneComesBack}
use Rattle.build_laws.proofs.Entries.{term_that_fits, AreOfTwo, own_entries, All-among, AllPairs-among, AllPairs-under_later, goal_of_number, shape_of_number, assigned_then}

-- What an assignment puts for one of the goals is shaped where it goes.
pub put_is_shaped : (sig : LfSignature) (goals others : List LfGoal) (σ : Assignment) (p : ℕ) → Goes p (scope_in sig goals []) (scope_in sig others []) (instantiating σ) →
    (m : ℕ) (u : LfTerm) → IsIn m (ids goals) → σ m ≡ Some u → (s : SimpleType) × Shaped (scope_in sig others []) u s
put_is_shaped sig goals others σ p goes m u is e =
    let known = shape_of_number goals m is in
    (known.0, term_that_fits (subst (λ o. Fits (scope_in sig others []) p (assigned m o) known.0) e (goes (metavariable m) known.0 known.1)))

-- So is each entry's term.
pub entries_are_shaped : (sig : LfSignature) (before after : LfGoals) (build : List LfAssigned) → Takes sig before after build → All (λ e. (s : SimpleType) × Shaped (scope_in sig (all_goals after) []) (term_put e) s) build
entries_are_shaped sig before after build takes =
    All-weaker (λ e. Contains (ids (all_goals before)) e.assigned_goal × (assignment_of build e.assigned_goal ≡ Some (term_put e))) (λ e. (s : SimpleType) × Shaped (scope_in sig (all_goals after) []) (term_put e) s)
    (λ e both. put_is_shaped sig (all_goals before) (all_goals after) (assignment_of build) takes.goes.0 takes.goes.1 e.assigned_goal (term_put e) (in_contained e.assigned_goal (ids (all_goals before)) both.0) both.1)
    build (λ k d less. (takes.keys k d less, own_entries build takes.keys_differ k d less))

-- What is assigned by one after the other.
both_none : (between : List LfGoal) (σ τ : Assignment) (m : ℕ) → σ m ≡ None → τ m ≡ None → followed_by between σ τ m ≡ None
both_none between σ τ m first second = ap (instance_of_assigned between τ m) first ∙ second

were_none : (between : List LfGoal) (σ τ : Assignment) (m : ℕ) → followed_by between σ τ m ≡ None → (σ m ≡ None) × (τ m ≡ None)
were_none between σ τ m none = step (σ m) refl
  where
    step : (o : Option LfTerm) → σ m ≡ o → (σ m ≡ None) × (τ m ≡ None)
    step None e = (e, sym (ap (instance_of_assigned between τ m) e) ∙ none)
    step (Some u) e = absurd (None-Some none (ap (instance_of_assigned between τ m) e))

module _ (sig : LfSignature) (before between after : LfGoals) (earlier later : List LfAssigned) (shaped : ShapedGoals sig (all_goals before)) (first : Takes sig before between earlier)
    (second : Takes sig between after later) where
  abbrev Before : List LfGoal
  Before = all_goals before

  abbrev Between : List LfGoal
  Between = all_goals between

  abbrev After : List LfGoal
  After = all_goals after

  abbrev σ : Assignment
  σ = assignment_of earlier

  abbrev τ : Assignment
  τ = assignment_of later

  abbrev Whole : List LfAssigned
  Whole = then_assigned (ids Before) Between earlier later

  abbrev ρ : Assignment
  ρ = assignment_of Whole

  agree : (m : ℕ) → IsIn m (ids Before) → ρ m ≡ followed_by Between σ τ m
  agree m is = assigned_then Between later second.closed (ids Before) earlier m is

  goes_both : Goes (first.goes.0 + second.goes.0) (scope_in sig Before []) (scope_in sig After []) (instantiating (followed_by Between σ τ))
  goes_both = following_goes_on sig Before Between [] [] first.goes.0 second.goes.0 (scope_in sig After []) σ τ first.goes.1 second.goes.1

  goes : Goes (first.goes.0 + second.goes.0) (scope_in sig Before []) (scope_in sig After []) (instantiating ρ)
  goes (bound n) s e = goes_both (bound n) s e
  goes (constant c) s e = goes_both (constant c) s e
  goes (metavariable m) s e =
      subst (λ o. Fits (scope_in sig After []) (first.goes.0 + second.goes.0) (assigned m o) s) (sym (agree m (shaped_is_in Before m s e))) (goes_both (metavariable m) s e)

  keys : All (λ e. Contains (ids Before) e.assigned_goal) Whole
  keys =
      All-append (λ e. Contains (ids Before) e.assigned_goal) (map (under_later Between later) earlier) (entries_among (ids Before) later)
      (All-map (λ e. Contains (ids Before) e.assigned_goal) (under_later Between later) earlier first.keys)
      (All-among (λ e. Contains (ids Before) e.assigned_goal) (ids Before) later (λ k d less is. contains_in _ (ids Before) is))

  pub following_closed : AssignsClosedTerms ρ
  following_closed m n u e o =
      let is = in_contained m (ids Before) (found_entry (λ k x. Contains (ids Before) k) Whole keys m u e) in
      let put = put_is_shaped sig Before After ρ (first.goes.0 + second.goes.0) goes m u is e in
      none (known_term put.1 (bound n) o).1
    where
      none : {s : SimpleType} → None ≡ Some s → ⊥
      none f = absurd cc

  -- What is shaped among the goals mentions none but these.
  pub instances_follow : (ctx : Context) (t : LfTerm) (s : SimpleType) → Shaped (scope_in sig Before ctx) t s → instance_of Before ρ t ≡ instance_of Between τ (instance_of Before σ t)
  instances_follow ctx t s p =
      let local = shapes_of_types ctx in
      (instances_look_at_what_occurs Before ρ (followed_by Between σ τ)).0 t (λ m o. let known = known_term p (metavariable m) o in agree m (shaped_is_in Before m known.0 (sym (KnowsGoals-scope_in sig Before ctx m) ∙ known.1)))
      ∙ sym ((instances_compose sig Before Between ctx ctx first.goes.0 second.goes.0 (scope_in sig After ctx) σ τ
      (Goes-local σ first.closed first.goes.0 (scope_in sig Before []) (scope_in sig Between []) first.goes.1 local)
      (Goes-local τ second.closed second.goes.0 (scope_in sig Between []) (scope_in sig After []) second.goes.1 local)).0 t s p)

  goals_follow : (g : LfGoal) → Contains Before g → instance_of_goal Before ρ g ≡ instance_of_goal Between τ (instance_of_goal Before σ g)
  goals_follow g is =
      (instances_look_at_what_occurs Before ρ (followed_by Between σ τ)).5 g (λ m o. agree m (in_contained m (ids Before) (closed m o)))
      ∙ sym ((instances_compose sig Before Between [] [] first.goes.0 second.goes.0 (scope_in sig After []) σ τ first.goes.1 second.goes.1).5 g (All-contains (ShapedGoal sig Before) Before g shaped.1 is))
    where
      closed : (m : ℕ) → OccursInGoal (metavariable m) g → Contains (ids Before) m
      closed = All-contains (λ h. (n : ℕ) → OccursInGoal (metavariable n) h → Contains (ids Before) n) Before g (AreClosed-ShapedGoals sig Before shaped) is

  -- The earlier entries are of goals that are gone, and the later ones of goals that are left.
  keys_differ : AllPairs AreOfTwo Whole
  keys_differ =
      AllPairs-append AreOfTwo (map (under_later Between later) earlier) (entries_among (ids Before) later) (AllPairs-under_later Between later earlier first.keys_differ)
      (AllPairs-among AreOfTwo (ids Before) later second.keys_differ)
      (All-map (λ e. All (AreOfTwo e) (entries_among (ids Before) later)) (under_later Between later) earlier
      (All-weaker (λ e. Contains (ids Before) e.assigned_goal × (σ e.assigned_goal ≡ Some (term_put e))) (λ e. All (AreOfTwo (under_later Between later e)) (entries_among (ids Before) later)) apart earlier
      (λ k d less. (first.keys k d less, own_entries earlier first.keys_differ k d less))))
    where
      apart : (e : LfAssigned) → Contains (ids Before) e.assigned_goal × (σ e.assigned_goal ≡ Some (term_put e)) → All (AreOfTwo (under_later Between later e)) (entries_among (ids Before) later)
      apart e (key, found) =
          All-among (AreOfTwo (under_later Between later e)) (ids Before) later
          (All-weaker (λ f. Contains (ids Between) f.assigned_goal) (λ f. IsIn f.assigned_goal (ids Before) → AreOfTwo (under_later Between later e) f)
          (λ f there is same. None-Some ((first.assigned_or_left e.assigned_goal key).1 (subst (Contains (ids Between)) (sym same) there)) found) later second.keys)

  module _ (none_comes_back : NoneComesBack before between after) where
    assigned_or_left : (m : ℕ) → Contains (ids Before) m → (ρ m ≡ None) ↔ Contains (ids After) m
    assigned_or_left m is = (to, from)
      where
        to : ρ m ≡ None → Contains (ids After) m
        to none =
            let were = were_none Between σ τ m (sym (agree m (in_contained m (ids Before) is)) ∙ none) in
            (second.assigned_or_left m ((first.assigned_or_left m is).0 were.0)).0 were.1

        from : Contains (ids After) m → ρ m ≡ None
        from there =
            let here = none_comes_back m is there in
            agree m (in_contained m (ids Before) is) ∙ both_none Between σ τ m ((first.assigned_or_left m is).1 here) ((second.assigned_or_left m here).1 there)

    left_under : (g h : LfGoal) → Contains Before g → Contains After h → h.id ≡ g.id → h ≡ instance_of_goal Before ρ g
    left_under g h is there same =
        let number = contains_in g.id (ids Before) (goal_is_in Before g is) in
        let last = contains_in h.id (ids After) (goal_is_in After h there) in
        let middle = goal_of_number Between g.id (in_contained g.id (ids Between) (none_comes_back g.id number (subst (Contains (ids After)) same last))) in
        second.left_under middle.0 h middle.1 there (same ∙ sym middle.2)
        ∙ ap (instance_of_goal Between τ) (first.left_under g middle.0 is middle.1 middle.2)
        ∙ sym (goals_follow g is)

    pub takes_both : Takes sig before after Whole
    takes_both = record {
      shaped = second.shaped;
      closed = following_closed;
      goes = (first.goes.0 + second.goes.0, goes);
      keys = keys;
      keys_differ = keys_differ;
      assigned_or_left = assigned_or_left;
      left_under = left_under;
    }
