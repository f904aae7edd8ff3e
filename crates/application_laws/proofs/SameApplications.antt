-- What comes of a candidate among goals that mention none outside is what comes of it among all.
use Rattle.std.proofs.Common.{◌≡◌, ◌⊎◌, inl, inr, ℕ, ◌+◌, ◌<◌, ◌≤◌, Bool, true, false, Option, Some, None, List, [], ◌∷◌, ◌++◌, map, All, length, refl, sym, ap, ap₂, ◌∙◌, subst, arith}
use Rattle.std.specs.Prelude.{nat_eq, not, ◌&&◌, is_some, if◌then◌else◌, Contains}
use Rattle.std.specs.List.{list_any, list_all}
use Rattle.std.proofs.lemmas.Bool.{eqb-true}
use Rattle.std.proofs.lemmas.List.Elements.{All-nil, All-cons, All-head, All-tail, All-weaker}
use Rattle.lf_definitions.specs.Syntax.{metavariable, LfTerm, at, arg, no_args, joined, base, SimpleType}
use Rattle.lf_definitions.specs.Shaping.{Scope, under_all}
use Rattle.lf_definitions.specs.ShapedGoals.{kind_shapes_in, scope_in, ShapedGoal}
use Rattle.lf_definitions.specs.Occurrence.{OccursIn}
use Rattle.lf_definitions.specs.Signatures.{LfSignature}
use Rattle.lf_definitions.specs.Typing.{LfGoal, goal_type, type_of_metavariable}
use Rattle.lf_definitions.specs.GoalLists.{ids, AreDistinct}
use Rattle.lf_definitions.specs.Instantiation.{Assignment, LfAssigned, assignment_of}
use Rattle.head_laws.proofs.Known.{known_term}
use Rattle.unification.specs.Equations.{Ending, solved, refused}
use Rattle.unification.specs.Solutions.{ShapedEntry}
use Rattle.unifiers.proofs.Entries.{found_entry, term_put}
use Rattle.lf_functions.specs.Instances.{goals_depth, instance_of, instance_of_atom, instance_of_goal}
use Rattle.lf_functions.specs.Checking.{has_type}
use Rattle.lf_functions.specs.Endings.{unifier_of}
use Rattle.lf_functions.proofs.Depths.{KnowsGoals-scope_in, KnowsGoals-under_all}
use Rattle.lf_functions.proofs.CheckingLaws.{has_type_looks_at_what_occurs}
use Rattle.goal_lists.proofs.Leaving.{All-parts}
use Rattle.opening_laws.specs.Openings.{kept_variables}
use Rattle.applications.specs.OpenedTypes.{kept_entries}
use Rattle.applications.specs.Methods.{LfCandidate, Outcome, closes, adds}
use Rattle.applications.specs.Applications.{freezing, may_be_added, goal_with, Completion, completion, put_into, whole_assignment, goals_left, fresh_left, is_typed_entry, entries_are_typed, entries_among, where_typed, completed, application_of}
use Rattle.applications.proofs.RenamedApplications.{application_by, counted_with}
use Rattle.application_laws.specs.Conditions.{MayBeUsed, inside}
use Rattle.application_laws.proofs.Members.{IsIn, in_cases, in_either, shaped_is_in, instance_id, numbered_from_places, in_is_between}
use Rattle.application_laws.proofs.Counted.{all_with, whole_with, AddsOne, none_or_one}
use Rattle.application_laws.proofs.Inside.{numbers_inside}
use Rattle.application_laws.proofs.InstancesInside.{inside_depth, same_instance, same_atom, same_goal}
use Rattle.application_laws.proofs.WholeAssignments.{answer, unifier_goes, first_entry, alone_goes, entry_has_body, whole_is_shaped, whole_goes}

module _ (within : ℕ → Bool) where
  number_is_inside : (goals : List LfGoal) (m : ℕ) → IsIn m (ids (inside within goals)) → within m ≡ true
  number_is_inside [] m is = absurd cc
  number_is_inside (h ∷ rest) m is = step (within h.id) refl is (number_is_inside rest m)
    where
      step : (b : Bool) → within h.id ≡ b → IsIn m (ids (if b then h ∷ inside within rest else inside within rest)) → (IsIn m (ids (inside within rest)) → within m ≡ true) → within m ≡ true
      step true kept i later = either (in_cases m h.id (ids (inside within rest)) i)
        where
          either : (m ≡ h.id) ⊎ IsIn m (ids (inside within rest)) → within m ≡ true
          either (inl same) = ap within same ∙ kept
          either (inr there) = later there
      step false kept i later = later i

  -- what is true of the goals inside
  of_inside : (P : LfGoal → Type 0) (goals : List LfGoal) → All P (inside within goals) → All (λ h. within h.id ≡ true → P h) goals
  of_inside P [] all = All-nil (λ h. within h.id ≡ true → P h)
  of_inside P (h ∷ rest) all = step (within h.id) refl all (of_inside P rest)
    where
      step : (b : Bool) → within h.id ≡ b → All P (if b then h ∷ inside within rest else inside within rest) →
          (All P (inside within rest) → All (λ x. within x.id ≡ true → P x) rest) → All (λ x. within x.id ≡ true → P x) (h ∷ rest)
      step true kept every later = All-cons (λ x. within x.id ≡ true → P x) h rest (λ is. All-head P h (inside within rest) every) (later (All-tail P h (inside within rest) every))
      step false kept every later = All-cons (λ x. within x.id ≡ true → P x) h rest (λ is. absurd (clash (sym kept ∙ is))) (later every)
        where
          clash : false ≡ true → ⊥
          clash f = absurd cc

  module _ (n : ℕ) where
    -- A number inside, or a new one.
    abbrev pub IsInsideOrNew : ℕ → Type 0
    IsInsideOrNew m = (within m ≡ true) ⊎ (n ≤ m)

    not_outside : (m : ℕ) → within m ≡ false → m < n → IsInsideOrNew m → ⊥
    not_outside m out less (inl is) = clash (sym out ∙ is)
      where
        clash : false ≡ true → ⊥
        clash f = absurd cc
    not_outside m out less (inr high) = absurd (omega (arith, less, high))

    -- the entries of goals inside
    entries_among-inside : (goals : List LfGoal) → All (λ h. h.id < n) goals → (es : List LfAssigned) → All (λ e. IsInsideOrNew e.assigned_goal) es → entries_among (ids (inside within goals)) es ≡ entries_among (ids goals) es
    entries_among-inside goals below [] all = refl
    entries_among-inside goals below (e ∷ rest) all =
        ap₂ (λ b more. if b then e ∷ more else more) (numbers_inside within n goals below e.assigned_goal (All-head (λ x. IsInsideOrNew x.assigned_goal) e rest all))
        (entries_among-inside goals below rest (All-tail (λ x. IsInsideOrNew x.assigned_goal) e rest all))

    -- Two lists of goals and one assignment: the same instances of goals inside, and of fresh ones.
    module _ (more few : List LfGoal) (σ : Assignment) where
      abbrev HasSameInstance : LfGoal → Type 0
      HasSameInstance h = instance_of_goal few σ h ≡ instance_of_goal more σ h

      abbrev AreSameInside : List LfGoal → Type 0
      AreSameInside goals = All (λ h. within h.id ≡ true → HasSameInstance h) goals

      fresh_left-inside : (test : Bool → Bool) (fresh : List LfGoal) (marks : List Bool) → All HasSameInstance fresh → fresh_left test few σ fresh marks ≡ fresh_left test more σ fresh marks
      fresh_left-inside test [] marks all = refl
      fresh_left-inside test (h ∷ rest) [] all = refl
      fresh_left-inside test (h ∷ rest) (mark ∷ marks) all =
          ap₂ (λ x later. if is_some (σ h.id) then later else (if test mark then x ∷ later else later)) (All-head HasSameInstance h rest all) (fresh_left-inside test rest marks (All-tail HasSameInstance h rest all))

      goals_left-inside : (fresh : List LfGoal) → All HasSameInstance fresh → goals_left few σ fresh ≡ goals_left more σ fresh
      goals_left-inside [] all = refl
      goals_left-inside (h ∷ rest) all =
          ap₂ (λ x later. if is_some (σ h.id) then later else x ∷ later) (All-head HasSameInstance h rest all) (goals_left-inside rest (All-tail HasSameInstance h rest all))

      module _ (fresh added : List LfGoal) (fresh_same : All HasSameInstance fresh) where
        abbrev FewLeft : List LfGoal → List LfGoal
        FewLeft list = goals_left few σ (inside within list ++ fresh)

        abbrev MoreLeft : List LfGoal → List LfGoal
        MoreLeft list = goals_left more σ (list ++ fresh)

        -- A metavariable that is inside, or new, has the same type among what is left.
        types_left : (m : ℕ) → IsInsideOrNew m → (list : List LfGoal) → AreSameInside list → All (λ h. h.id < n) list →
            type_of_metavariable (goals_left few σ (inside within list ++ fresh) ++ added) m ≡ type_of_metavariable (goals_left more σ (list ++ fresh) ++ added) m
        types_left m where_ [] all below = ap (λ left. type_of_metavariable (left ++ added) m) (goals_left-inside fresh fresh_same)
        types_left m where_ (h ∷ rest) all below =
            kept_or_not (within h.id) refl (types_left m where_ rest (All-tail (λ x. within x.id ≡ true → HasSameInstance x) h rest all) (All-tail (λ x. x.id < n) h rest below))
          where
            both : (o : Option LfTerm) → HasSameInstance h → type_of_metavariable (FewLeft rest ++ added) m ≡ type_of_metavariable (MoreLeft rest ++ added) m →
                type_of_metavariable ((if is_some o then FewLeft rest else instance_of_goal few σ h ∷ FewLeft rest) ++ added) m ≡ type_of_metavariable ((if is_some o then MoreLeft rest else instance_of_goal more σ h ∷ MoreLeft rest) ++ added) m
            both (Some u) same later = later
            both None same later = ap₂ (λ x o. if nat_eq x.id m then Some (goal_type x) else o) same later

            passed : (b : Bool) → nat_eq (instance_of_goal more σ h).id m ≡ b → within h.id ≡ false →
                type_of_metavariable (MoreLeft rest ++ added) m ≡ (if b then Some (goal_type (instance_of_goal more σ h)) else type_of_metavariable (MoreLeft rest ++ added) m)
            passed true same out =
                let number : h.id ≡ m = sym (instance_id more σ h) ∙ eqb-true (instance_of_goal more σ h).id m same in
                absurd (not_outside m (ap within (sym number) ∙ out) (subst (λ k. k < n) number (All-head (λ x. x.id < n) h rest below)) where_)
            passed false same out = refl

            one : (o : Option LfTerm) → within h.id ≡ false → type_of_metavariable (FewLeft rest ++ added) m ≡ type_of_metavariable (MoreLeft rest ++ added) m →
                type_of_metavariable (FewLeft rest ++ added) m ≡ type_of_metavariable ((if is_some o then MoreLeft rest else instance_of_goal more σ h ∷ MoreLeft rest) ++ added) m
            one (Some u) out later = later
            one None out later = later ∙ passed (nat_eq (instance_of_goal more σ h).id m) refl out

            kept_or_not : (b : Bool) → within h.id ≡ b → type_of_metavariable (FewLeft rest ++ added) m ≡ type_of_metavariable (MoreLeft rest ++ added) m →
                type_of_metavariable (goals_left few σ ((if b then h ∷ inside within rest else inside within rest) ++ fresh) ++ added) m ≡ type_of_metavariable (goals_left more σ (h ∷ rest ++ fresh) ++ added) m
            kept_or_not true is later = both (σ h.id) (All-head (λ x. within x.id ≡ true → HasSameInstance x) h rest all is) later
            kept_or_not false is later = one (σ h.id) is later

        -- The tests are the same, where what is assigned is inside or new, and mentions only what is.
        module _ (sig : LfSignature) (left_few left_more : List LfGoal) (agree : (m : ℕ) → IsInsideOrNew m → type_of_metavariable left_few m ≡ type_of_metavariable left_more m)
            (puts : (k : ℕ) (u : LfTerm) → σ k ≡ Some u → IsInsideOrNew k × ((m : ℕ) → OccursIn (metavariable m) u → IsInsideOrNew m)) where
          same_test : (h : LfGoal) (o : Option LfTerm) → σ h.id ≡ o → HasSameInstance h → is_typed_entry sig left_few o (instance_of_goal few σ h) ≡ is_typed_entry sig left_more o (instance_of_goal more σ h)
          same_test h None e same = refl
          same_test h (Some u) e same =
              ap (λ x. has_type sig left_few [] u (goal_type x)) same
              ∙ has_type_looks_at_what_occurs sig left_more left_few [] u (λ m o. sym (agree m ((puts h.id u e).1 m o))) (goal_type (instance_of_goal more σ h))

          tests_of_fresh : (list : List LfGoal) → All HasSameInstance list → entries_are_typed sig few σ left_few list ≡ entries_are_typed sig more σ left_more list
          tests_of_fresh [] all = refl
          tests_of_fresh (h ∷ rest) all = ap₂ (λ x y. x && y) (same_test h (σ h.id) refl (All-head HasSameInstance h rest all)) (tests_of_fresh rest (All-tail HasSameInstance h rest all))

          same_tests : (list : List LfGoal) → AreSameInside list → All (λ h. h.id < n) list → entries_are_typed sig few σ left_few (inside within list ++ fresh) ≡ entries_are_typed sig more σ left_more (list ++ fresh)
          same_tests [] all below = tests_of_fresh fresh fresh_same
          same_tests (h ∷ rest) all below =
              step (within h.id) refl (same_tests rest (All-tail (λ x. within x.id ≡ true → HasSameInstance x) h rest all) (All-tail (λ x. x.id < n) h rest below))
            where
              unassigned : (o : Option LfTerm) → σ h.id ≡ o → within h.id ≡ false → true ≡ is_typed_entry sig left_more o (instance_of_goal more σ h)
              unassigned None e out = refl
              unassigned (Some u) e out = absurd (not_outside h.id out (All-head (λ x. x.id < n) h rest below) (puts h.id u e).0)

              step : (b : Bool) → within h.id ≡ b → entries_are_typed sig few σ left_few (inside within rest ++ fresh) ≡ entries_are_typed sig more σ left_more (rest ++ fresh) →
                  entries_are_typed sig few σ left_few ((if b then h ∷ inside within rest else inside within rest) ++ fresh) ≡ entries_are_typed sig more σ left_more (h ∷ rest ++ fresh)
              step true is later = ap₂ (λ x y. x && y) (same_test h (σ h.id) refl (All-head (λ x. within x.id ≡ true → HasSameInstance x) h rest all is)) later
              step false is later = later ∙ ap (λ x. x && entries_are_typed sig more σ left_more (rest ++ fresh)) (unassigned (σ h.id) refl is)

module _ (sig : LfSignature) (within : ℕ → Bool) (goals : List LfGoal) (n : ℕ) (below : All (λ h. h.id < n) goals) (distinct : AreDistinct (inside within goals)) (below_inside : All (λ h. h.id < n) (inside within goals))
    (g : LfGoal) (one_of : Contains (inside within goals) g) (c : LfCandidate) (may : MayBeUsed sig (inside within goals) n g c) where
  abbrev Few : List LfGoal
  Few = all_with (inside within goals) c

  abbrev More : List LfGoal
  More = all_with goals c

  less : goals_depth Few ≤ goals_depth More
  less = inside_depth within goals c.opened.fresh

  module _ (entries : List LfAssigned) (solves : unifier_of sig Few g.context (freezing c.outcome (inside within goals) g) c.equations ≡ solved entries) where
    abbrev HereScope : Scope
    HereScope = scope_in sig Few g.context

    unified_term : instance_of Few (assignment_of entries) (at c.head c.opened.terms) ≡ instance_of More (assignment_of entries) (at c.head c.opened.terms)
    unified_term =
        let go = unifier_goes sig (inside within goals) distinct n below_inside g one_of c may entries solves in
        sym (same_instance (kind_shapes_in sig) HereScope HereScope Few More less (KnowsGoals-scope_in sig Few g.context) (assignment_of entries) go.0 go.1 (at c.head c.opened.terms) base may.term_is_shaped)

    unified_end : instance_of_atom Few (assignment_of entries) c.opened.end ≡ instance_of_atom More (assignment_of entries) c.opened.end
    unified_end =
        let go = unifier_goes sig (inside within goals) distinct n below_inside g one_of c may entries solves in
        sym (same_atom (kind_shapes_in sig) HereScope HereScope Few More less (KnowsGoals-scope_in sig Few g.context) (assignment_of entries) go.0 go.1 c.opened.end may.end_is_shaped)

    same_completion : (o : Outcome) → completion n Few g c (assignment_of entries) o ≡ completion n More g c (assignment_of entries) o
    same_completion closes = ap (λ t. Some (record { becomes_term = t; more = [] })) unified_term
    same_completion (adds kept) =
        ap₂ (λ t fact. if list_all (λ f. is_some (assignment_of entries f.id)) c.opened.fresh && may_be_added g kept fact
        then Some (record {
          becomes_term = at (metavariable (n + length c.opened.fresh)) (joined (kept_variables kept (length g.context) (kept_entries kept 0 g.context)) (arg t no_args));
          more = goal_with (n + length c.opened.fresh) g kept fact ∷ [];
        })
        else None) unified_term unified_end

    module _ (done : Completion) (completes : completion n Few g c (assignment_of entries) c.outcome ≡ Some done) where
      abbrev First : LfAssigned
      First = first_entry sig (inside within goals) distinct n below_inside g one_of c may entries solves done completes

      abbrev Whole : List LfAssigned
      Whole = whole_with (inside within goals) g c entries done

      abbrev σ : Assignment
      σ = assignment_of Whole

      abbrev GlobalScope : Scope
      GlobalScope = scope_in sig Few []

      abbrev BeyondScope : Scope
      BeyondScope = scope_in sig (Few ++ done.more) []

      same_put : (f : LfAssigned) → ShapedEntry HereScope f → put_into Few First f ≡ put_into More First f
      same_put f shaped =
          let body = entry_has_body sig (inside within goals) distinct n below_inside g one_of c may entries solves done completes f shaped in
          let go = alone_goes sig (inside within goals) distinct n below_inside g one_of c may entries solves done completes body.local in
          ap (λ b. record { assigned_goal = f.assigned_goal; binders_count = f.binders_count; body = b })
          (sym (same_instance (kind_shapes_in sig) (under_all body.local GlobalScope) (under_all body.local BeyondScope) Few More less
          (KnowsGoals-under_all Few body.local GlobalScope (KnowsGoals-scope_in sig Few [])) (assignment_of (First ∷ [])) go.0 go.1 f.body body.shape body.is_shaped))

      same_puts : (fs : List LfAssigned) → All (ShapedEntry HereScope) fs → map (put_into Few First) fs ≡ map (put_into More First) fs
      same_puts [] all = refl
      same_puts (f ∷ rest) all = ap₂ (λ x xs. x ∷ xs) (same_put f (All-head (ShapedEntry HereScope) f rest all)) (same_puts rest (All-tail (ShapedEntry HereScope) f rest all))

      same_whole : Whole ≡ whole_assignment More g done.becomes_term entries
      same_whole = ap (λ later. First ∷ later) (same_puts entries (answer sig (inside within goals) distinct n below_inside g one_of c may entries solves).shaped)

      shaped_whole : All (ShapedEntry BeyondScope) Whole
      shaped_whole = whole_is_shaped sig (inside within goals) distinct n below_inside g one_of c may entries solves done completes

      -- What is known is inside, or new.
      added_are_new : (m : ℕ) → IsIn m (ids done.more) → n ≤ m
      added_are_new m is = each (none_or_one n Few g c (assignment_of entries) done c.outcome refl completes)
        where
          each : (done.more ≡ []) ⊎ AddsOne n Few g c (assignment_of entries) done → n ≤ m
          each (inl none) = absurd (nowhere (subst (λ more. IsIn m (ids more)) none is))
            where
              nowhere : IsIn m [] → ⊥
              nowhere f = absurd cc
          each (inr one) = only (in_cases m (n + length c.opened.fresh) [] (subst (λ more. IsIn m (ids more)) one.more_is is))
            where
              only : (m ≡ n + length c.opened.fresh) ⊎ IsIn m [] → n ≤ m
              only (inl same) = omega (arith, same)
              only (inr f) = absurd cc

      known_is_inside_or_new : (m : ℕ) (s : SimpleType) → BeyondScope (metavariable m) ≡ Some s → IsInsideOrNew within n m
      known_is_inside_or_new m s e = first (in_either m Few done.more (shaped_is_in (Few ++ done.more) m s e))
        where
          second : IsIn m (ids (inside within goals)) ⊎ IsIn m (ids c.opened.fresh) → IsInsideOrNew within n m
          second (inl is) = inl (number_is_inside within goals m is)
          second (inr is) = inr (in_is_between n c.opened.fresh (numbered_from_places n c.opened.fresh may.fresh_are_numbered) m is).0

          first : IsIn m (ids Few) ⊎ IsIn m (ids done.more) → IsInsideOrNew within n m
          first (inl is) = second (in_either m (inside within goals) c.opened.fresh is)
          first (inr is) = inr (added_are_new m is)

      abbrev PutsInside : ℕ → LfTerm → Type 0
      PutsInside k u = IsInsideOrNew within n k × ((m : ℕ) → OccursIn (metavariable m) u → IsInsideOrNew within n m)

      each_puts : All (λ e. PutsInside e.assigned_goal (term_put e)) Whole
      each_puts =
          All-weaker (ShapedEntry BeyondScope) (λ e. PutsInside e.assigned_goal (term_put e))
          (λ e shaped. (known_is_inside_or_new e.assigned_goal shaped.0 shaped.1, λ m o. let known = known_term shaped.2 (metavariable m) o in known_is_inside_or_new m known.0 known.1)) Whole shaped_whole

      puts_inside : (k : ℕ) (u : LfTerm) → σ k ≡ Some u → PutsInside k u
      puts_inside = found_entry PutsInside Whole each_puts

      same_goals : All (HasSameInstance within n More Few σ) Few
      same_goals =
          let go = whole_goes sig (inside within goals) distinct n below_inside g one_of c may entries solves done completes in
          All-weaker (ShapedGoal sig Few) (HasSameInstance within n More Few σ)
          (λ h shaped. sym (same_goal (kind_shapes_in sig) GlobalScope BeyondScope Few More less (KnowsGoals-scope_in sig Few []) σ go.0 go.1 h shaped)) Few may.goals_are_shaped.1

      same_counted : counted_with sig (inside within goals) g c Few Whole done.more (goals_left Few σ Few ++ done.more) ≡ counted_with sig goals g c More Whole done.more (goals_left More σ More ++ done.more)
      same_counted =
          let parts = All-parts (HasSameInstance within n More Few σ) (inside within goals) c.opened.fresh same_goals in
          let olds = of_inside within (HasSameInstance within n More Few σ) goals parts.0 in
          let left_few = goals_left Few σ Few ++ done.more in
          let left_more = goals_left More σ More ++ done.more in
          let fresh = c.opened.fresh in
          let among = entries_among-inside within n goals below Whole (All-weaker (λ e. PutsInside e.assigned_goal (term_put e)) (λ e. IsInsideOrNew within n e.assigned_goal) (λ e both. both.0) Whole each_puts) in
          let agree : (m : ℕ) → IsInsideOrNew within n m → type_of_metavariable left_few m ≡ type_of_metavariable left_more m = λ m where_. types_left within n More Few σ fresh done.more parts.1 m where_ goals olds below in
          let tests = same_tests within n More Few σ fresh done.more parts.1 sig left_few left_more agree puts_inside goals olds below in
          let proofs = fresh_left-inside within n More Few σ (λ mark. mark) fresh c.are_proofs parts.1 in
          let witnesses = fresh_left-inside within n More Few σ not fresh c.are_proofs parts.1 in
          let few_proofs = fresh_left (λ mark. mark) Few σ fresh c.are_proofs in
          let few_witnesses = fresh_left not Few σ fresh c.are_proofs in
          let more_entries = entries_among (ids goals) Whole in
          ap (λ b. if b then Some (application_by c.label (entries_among (ids (inside within goals)) Whole) (few_proofs ++ done.more) few_witnesses
          (list_any (λ e. not (nat_eq e.assigned_goal g.id)) (entries_among (ids (inside within goals)) Whole))) else None) tests
          ∙ ap (λ es. if entries_are_typed sig More σ left_more More then Some (application_by c.label es (few_proofs ++ done.more) few_witnesses (list_any (λ e. not (nat_eq e.assigned_goal g.id)) es)) else None) among
          ∙ ap₂ (λ ps ws. if entries_are_typed sig More σ left_more More then Some (application_by c.label more_entries (ps ++ done.more) ws (list_any (λ e. not (nat_eq e.assigned_goal g.id)) more_entries)) else None)
          proofs witnesses

      same_where_typed : where_typed sig (inside within goals) g c entries (Some done) ≡ where_typed sig goals g c entries (Some done)
      same_where_typed = same_counted ∙ ap (λ es. counted_with sig goals g c More es done.more (goals_left More (assignment_of es) More ++ done.more)) same_whole

    same_completed : completed sig n (inside within goals) g c (solved entries) ≡ completed sig n goals g c (solved entries)
    same_completed = each (completion n Few g c (assignment_of entries) c.outcome) refl ∙ ap (where_typed sig goals g c entries) (same_completion c.outcome)
      where
        each : (o : Option Completion) → completion n Few g c (assignment_of entries) c.outcome ≡ o → where_typed sig (inside within goals) g c entries o ≡ where_typed sig goals g c entries o
        each None completes = refl
        each (Some done) completes = same_where_typed done completes

  pub same_application : unifier_of sig Few g.context (freezing c.outcome (inside within goals) g) c.equations ≡ unifier_of sig More g.context (freezing c.outcome goals g) c.equations →
      application_of sig n (inside within goals) g c ≡ application_of sig n goals g c
  same_application unified =
      each (unifier_of sig Few g.context (freezing c.outcome (inside within goals) g) c.equations) refl ∙ ap (completed sig n goals g c) unified
    where
      each : (end : Ending) → unifier_of sig Few g.context (freezing c.outcome (inside within goals) g) c.equations ≡ end → completed sig n (inside within goals) g c end ≡ completed sig n goals g c end
      each (refused reason) solves = refl
      each (solved entries) solves = same_completed entries solves
