-- The earlier entries: each is that of a goal of the first list, and its body may be instantiated among the goals between.
use Rattle.std.proofs.Common.{◌≡◌, ◌≢◌, ℕ, zero, suc, ◌+◌, Some, None, List, [], ◌∷◌, ◌++◌, length, take, map, All, refl, sym, ap, ap₂, ◌∙◌, subst, arith, slice_get, option_map}
use Rattle.std.specs.Prelude.{Contains}
use Rattle.std.proofs.lemmas.List.{map-append}
use Rattle.std.proofs.lemmas.Option.{slice_get-map}
use Rattle.std.proofs.lemmas.List.Elements.{All-map, All-contains}
use Rattle.head_laws.proofs.Numbers.{Contains-here, Contains-later}
use Rattle.lf_definitions.specs.Syntax.{metavariable, LfTerm, lams, SimpleType, base, arrows, shape_of, shapes_of_types}
use Rattle.lf_definitions.specs.Shaping.{Scope, under_all, Shaped, shaped_lam}
use Rattle.lf_definitions.specs.ShapedGoals.{scope_in}
use Rattle.lf_definitions.specs.Replacements.{Fits, fits_becomes}
use Rattle.lf_definitions.specs.Typing.{LfGoal, goal_type}
use Rattle.lf_definitions.specs.GoalLists.{all_goals, ids}
use Rattle.lf_definitions.specs.Instantiation.{assigned, Instantiated}
use Rattle.lf_functions.specs.Instances.{instance_of}
use Rattle.alternatives.specs.ListsAfter.{under_later}
use Rattle.meta_goals.specs.Bindings.{LfBinding, assigned_of, assigning, binding_for}
use Rattle.meta_goals.specs.Instantiates.{Instantiates, TermIsShaped}
use Rattle.meta_goals.proofs.BindingLaws.{bound_goals_have_their_shapes}
use Rattle.meta_goals.proofs.LeftGoals.{is_assigned}
use Rattle.build_shared.specs.Whole.{with_body}
use Rattle.build_shared.proofs.BindingLists.{HaveDifferentNumbers, take_found, All-at, before_differ, found_own, none_of}
use Rattle.build_shared.proofs.InstancesAmong.{instantiates_in, term_is}
use Rattle.build_shared.proofs.UnifierEnds.{goal_shape, numbers_differ}
use Rattle.goal_advance.specs.Following.{MayFollow, put_later}

-- A number of goals is that of one of them.
pub goal_numbered : (goals : List LfGoal) (m : ℕ) → Contains (ids goals) m → (g : LfGoal) × Contains goals g × (g.id ≡ m)
goal_numbered [] m (i, less, same) = absurd (omega (arith, less))
goal_numbered (g ∷ rest) m (zero, less, same) = (g, Contains-here g rest, same)
goal_numbered (g ∷ rest) m (suc i, less, same) = let r = goal_numbered rest m (i, omega (arith, less), same) in (r.0, Contains-later g rest r.0 r.1, r.2)

-- a term that is put for a metavariable
put_is_shaped : {Δ : Scope} {p : ℕ} {u : LfTerm} {s : SimpleType} (m : ℕ) → Fits Δ p (assigned m (Some u)) s → Shaped Δ u s
put_is_shaped m (fits_becomes shaped small) = shaped

-- what is under the abstractions over a context
under_shaped_lams : (shapes : List SimpleType) (Γ : Scope) (b : LfTerm) → Shaped Γ (lams (length shapes) b) (arrows shapes base) → Shaped (under_all shapes Γ) b base
under_shaped_lams [] Γ b p = p
under_shaped_lams (a ∷ shapes) Γ b (shaped_lam p) = under_shaped_lams shapes _ b p

-- as entries
pub later_put : (between : List LfGoal) (later earlier : List LfBinding) → map assigned_of (map (put_later between later) earlier) ≡ map (under_later between (map assigned_of later)) (map assigned_of earlier)
later_put between later [] = refl
later_put between later (b ∷ rest) = ap (λ l. assigned_of (put_later between later b) ∷ l) (later_put between later rest)

module _ (n : ℕ) (earlier later : List LfBinding) (m : MayFollow n earlier later) where
  abbrev pub Before : List LfGoal
  Before = all_goals m.before

  abbrev pub Between : List LfGoal
  Between = all_goals m.between

  pub earlier_differ : HaveDifferentNumbers earlier
  earlier_differ = numbers_differ earlier m.takes_earlier.keys_differ

  module _ (i : ℕ) (b : LfBinding) (there : slice_get earlier i ≡ Some b) where
    pub key_is_before : Contains (ids Before) b.number
    key_is_before =
        All-at (λ e. Contains (ids Before) e.assigned_goal) (map assigned_of earlier) i (assigned_of b) m.takes_earlier.keys (slice_get-map assigned_of earlier i ∙ ap (option_map assigned_of) there)

    pub is_found : binding_for earlier b.number ≡ Some b
    is_found = found_own earlier i b there earlier_differ

    its_goal : (g : LfGoal) × Contains Before g × (g.id ≡ b.number)
    its_goal = goal_numbered Before b.number key_is_before

    known : scope_in m.sig Before [] (metavariable b.number) ≡ Some (shape_of (goal_type its_goal.0))
    known = subst (λ k. scope_in m.sig Before [] (metavariable k) ≡ Some (shape_of (goal_type its_goal.0))) its_goal.2 (goal_shape m.sig Before m.shaped.0 its_goal.0 its_goal.1)

    shapes_are : b.shapes ≡ shapes_of_types its_goal.0.context
    shapes_are =
        All-contains (λ g. g.id ≡ b.number → b.shapes ≡ shapes_of_types g.context) Before its_goal.0
        (All-at (λ d. All (λ g. g.id ≡ d.number → d.shapes ≡ shapes_of_types g.context) Before) earlier i b m.earlier_shapes there) its_goal.1 its_goal.2

    whole_shaped : Shaped (scope_in m.sig Between []) (lams (length b.shapes) b.bound_body) (arrows b.shapes base)
    whole_shaped =
        let Δ = scope_in m.sig Between [] in
        let goes = m.takes_earlier.goes in
        let fits = goes.1 (metavariable b.number) (shape_of (goal_type its_goal.0)) known in
        subst (Shaped Δ (lams (length b.shapes) b.bound_body)) (bound_goals_have_their_shapes m.sig Before earlier m.earlier_shapes [] b.number (shape_of (goal_type its_goal.0)) b known is_found)
        (put_is_shaped b.number (subst (λ o. Fits Δ goes.0 (assigned b.number o) (shape_of (goal_type its_goal.0))) (is_assigned earlier b.number b is_found) fits))

    body_shaped : Shaped (scope_in m.sig Between its_goal.0.context) b.bound_body base
    body_shaped = subst (λ shapes. Shaped (under_all shapes (scope_in m.sig Between [])) b.bound_body base) shapes_are (under_shaped_lams b.shapes (scope_in m.sig Between []) b.bound_body whole_shaped)

    pub may_be_put : Instantiates later (TermIsShaped b.bound_body)
    may_be_put = instantiates_in m.sig Between (all_goals m.after) later m.takes_later.closed m.takes_later.goes m.later_shapes its_goal.0.context (TermIsShaped b.bound_body) (base, body_shaped)

    put_is : (r : LfTerm) → Instantiated (assigning later) b.bound_body r → r ≡ instance_of Between (assigning later) b.bound_body
    put_is r result = term_is m.sig Between (all_goals m.after) later m.takes_later.closed m.takes_later.goes m.later_shapes its_goal.0.context b.bound_body r base body_shaped result

    -- one entry more
    pub earlier_more : (old new : List LfBinding) (r : LfTerm) → old ≡ map (put_later Between later) (take i earlier) → Instantiated (assigning later) b.bound_body r → new ≡ old ++ with_body b.number b.shapes r ∷ [] →
        new ≡ map (put_later Between later) (take (i + 1) earlier)
    earlier_more old new r so_far result made =
        let put = put_later Between later in
        made ∙ ap₂ (λ l v. l ++ with_body b.number b.shapes v ∷ []) so_far (put_is r result) ∙ sym (map-append put (take i earlier) (b ∷ [])) ∙ ap (map put) (sym (take_found earlier i b there))

    pub not_there : (old : List LfBinding) → old ≡ map (put_later Between later) (take i earlier) → binding_for old b.number ≡ None
    not_there old so_far =
        ap (λ l. binding_for l b.number) so_far
        ∙ none_of (map (put_later Between later) (take i earlier)) b.number
        (All-map (λ (d : LfBinding). d.number ≢ b.number) (put_later Between later) (take i earlier) (before_differ earlier i b there earlier_differ))
