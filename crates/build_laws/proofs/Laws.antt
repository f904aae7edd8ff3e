-- The laws, as they are stated.
use Rattle.std.proofs.Common.{◌≡◌, ℕ, List, [], ◌∷◌, ◌++◌, map, All, refl, sym, ap, ap₂, ◌∙◌, append_assoc}
use Rattle.std.specs.Prelude.{Contains}
use Rattle.std.proofs.lemmas.List.{map-append}
use Rattle.std.proofs.lemmas.List.Elements.{All-nil, All-weaker}
use Rattle.lf_definitions.specs.Syntax.{bound, constant, metavariable, LfTerm, SimpleType}
use Rattle.lf_definitions.specs.Shaping.{Shaped}
use Rattle.lf_definitions.specs.ShapedGoals.{scope_in, ShapedGoals}
use Rattle.lf_definitions.specs.Replacements.{fits_stays, Goes}
use Rattle.lf_definitions.specs.Typing.{LfGoal, type_of_metavariable}
use Rattle.lf_definitions.specs.Signatures.{LfSignature}
use Rattle.lf_definitions.specs.GoalLists.{LfGoals, all_goals, ids}
use Rattle.lf_definitions.specs.Instantiation.{instantiating, LfAssigned, assignment_of}
use Rattle.lf_definitions.proofs.Options.{Some_inj}
use Rattle.typing_laws.proofs.GoalLists.{type_of_goal}
use Rattle.unifiers.proofs.Entries.{term_put}
use Rattle.lf_functions.specs.Instances.{instance_of}
use Rattle.lf_functions.proofs.InstanceLaws.{unassigned_instances_are_the_same}
use Rattle.lf_functions.proofs.Parts.{goal_is_known}
use Rattle.applications.specs.Applications.{entries_among}
use Rattle.application_laws.proofs.Lists.{no_pairs}
use Rattle.application_laws.proofs.Members.{IsIn, contains_in, in_contained}
use Rattle.alternatives.specs.ListsAfter.{under_later, then_assigned}
use Rattle.alternatives.specs.Taking.{Takes}
use Rattle.build_laws.specs.Laws.{NoneComesBack, AssignmentsFollow, NothingIsTaken, FollowingIsAssociative, NothingFollows}
use Rattle.build_laws.proofs.Entries.{instance-lams, lams-injective, AreOfTwo, among_append, among_under_later, among_among, among_all, map_twice}
use Rattle.build_laws.proofs.Following.{entries_are_shaped, following_closed, instances_follow, takes_both}

pub assignments_follow : AssignmentsFollow
assignments_follow sig before between after earlier later shaped first second none_comes_back =
    (takes_both sig before between after earlier later shaped first second none_comes_back, instances_follow sig before between after earlier later shaped first second)

-- Of goals whose numbers differ only one has a number.
same_goal : (goals : List LfGoal) (sig : LfSignature) → ShapedGoals sig goals → (g h : LfGoal) → Contains goals g → Contains goals h → h.id ≡ g.id → h ≡ g
same_goal goals sig shaped g h is there same =
    goal_is_known h g same (Some_inj (type_of_goal goals shaped.0 h there) (ap (type_of_metavariable goals) same ∙ type_of_goal goals shaped.0 g is))

pub nothing_is_taken : NothingIsTaken
nothing_is_taken sig list shaped = record {
  shaped = shaped;
  closed = λ g n u e o. absurd cc;
  goes = (0, stay);
  keys = All-nil (λ e. Contains (ids (all_goals list)) e.assigned_goal);
  keys_differ = no_pairs AreOfTwo;
  assigned_or_left = λ m is. (λ none. is, λ there. refl);
  left_under = λ g h is there same.
      same_goal (all_goals list) sig shaped g h is there same ∙ sym ((unassigned_instances_are_the_same (all_goals list) (assignment_of [])).5 g (λ m o. refl));
}
  where
    stay : Goes 0 (scope_in sig (all_goals list) []) (scope_in sig (all_goals list) []) (instantiating (assignment_of []))
    stay (bound n) s e = fits_stays e
    stay (constant c) s e = fits_stays e
    stay (metavariable m) s e = fits_stays e

module _ (sig : LfSignature) (first second third last : LfGoals) (a b c : List LfAssigned) (to_second : Takes sig first second a) (to_third : Takes sig second third b) (to_last : Takes sig third last c)
    (none_comes_back : NoneComesBack first second third) where
  abbrev Second : List LfGoal
  Second = all_goals second

  abbrev Third : List LfGoal
  Third = all_goals third

  -- the second and third
  abbrev Later : List LfAssigned
  Later = then_assigned (ids Second) Third b c

  bodies_follow : (e : LfAssigned) → (s : SimpleType) × Shaped (scope_in sig Second []) (term_put e) s → under_later Second Later e ≡ under_later Third c (under_later Second b e)
  bodies_follow e (s, shaped) =
      ap (λ x. with_body x)
      (lams-injective e.binders_count (instance_of Second (assignment_of Later) e.body) (instance_of Third (assignment_of c) (instance_of Second (assignment_of b) e.body))
      (sym (instance-lams Second (assignment_of Later) (following_closed sig second third last b c to_second.shaped to_third to_last) e.binders_count e.body)
      ∙ instances_follow sig second third last b c to_second.shaped to_third to_last [] (term_put e) s shaped
      ∙ ap (instance_of Third (assignment_of c)) (instance-lams Second (assignment_of b) to_third.closed e.binders_count e.body)
      ∙ instance-lams Third (assignment_of c) to_last.closed e.binders_count (instance_of Second (assignment_of b) e.body)))
    where
      with_body : LfTerm → LfAssigned
      with_body x = record { assigned_goal = e.assigned_goal; binders_count = e.binders_count; body = x }

  associative : then_assigned (ids (all_goals first)) Second a Later ≡ then_assigned (ids (all_goals first)) Third (then_assigned (ids (all_goals first)) Second a b) c
  associative =
      let ns = ids (all_goals first) in
      let own = under_later Third c in
      let earliest = map own (map (under_later Second b) a) in
      ap₂ (λ xs ys. xs ++ ys)
      (map_twice (under_later Second Later) own (under_later Second b) a
      (All-weaker (λ e. (s : SimpleType) × Shaped (scope_in sig Second []) (term_put e) s) (λ e. under_later Second Later e ≡ own (under_later Second b e)) bodies_follow a (entries_are_shaped sig first second a to_second)))
      (among_append ns (map own b) (entries_among (ids Second) c) ∙ ap₂ (λ xs ys. xs ++ ys) (among_under_later ns Third c b) (among_among ns (ids Second) c known))
      ∙ sym (append_assoc earliest (map own (entries_among ns b)) (entries_among ns c))
      ∙ ap (λ xs. xs ++ entries_among ns c) (sym (map-append own (map (under_later Second b) a) (entries_among ns b)))
    where
      known : All (λ e. IsIn e.assigned_goal (ids (all_goals first)) → IsIn e.assigned_goal (ids Second)) c
      known =
          All-weaker (λ e. Contains (ids Third) e.assigned_goal) (λ e. IsIn e.assigned_goal (ids (all_goals first)) → IsIn e.assigned_goal (ids Second))
          (λ e there is. in_contained e.assigned_goal (ids Second) (none_comes_back e.assigned_goal (contains_in e.assigned_goal (ids (all_goals first)) is) there)) c to_last.keys

pub following_is_associative : FollowingIsAssociative
following_is_associative sig first second third last a b c shaped to_second to_third to_last none_comes_back = associative sig first second third last a b c to_second to_third to_last none_comes_back

-- A body under nothing is as it was.
nothing_later : (numbers : List ℕ) (between : List LfGoal) (earlier : List LfAssigned) → then_assigned numbers between earlier [] ≡ earlier
nothing_later numbers between [] = refl
nothing_later numbers between (e ∷ rest) = ap₂ (λ x xs. with_body x ∷ xs) ((unassigned_instances_are_the_same between (assignment_of [])).0 e.body (λ m o. refl)) (nothing_later numbers between rest)
  where
    with_body : LfTerm → LfAssigned
    with_body x = record { assigned_goal = e.assigned_goal; binders_count = e.binders_count; body = x }

pub nothing_follows : NothingFollows
nothing_follows = (
  nothing_later,
  λ numbers between later all.
      among_all numbers later (All-weaker (λ e. Contains numbers e.assigned_goal) (λ e. IsIn e.assigned_goal numbers) (λ e has. in_contained e.assigned_goal numbers has) later all),
)
