-- The parts of an application, put together.
use Rattle.std.proofs.Common.{◌≡◌, ◌⊎◌, inl, inr, ℕ, ◌<◌, ◌≤◌, Bool, true, false, Some, None, List, [], ◌∷◌, ◌++◌, map, All, refl, sym, ap, ap₂, ◌∙◌, subst, arith, slice_get, option_map}
use Rattle.std.specs.Prelude.{Contains, nat_eq, nat_lt, not, if◌then◌else◌, ◌||◌}
use Rattle.std.specs.List.{list_any}
use Rattle.std.proofs.lemmas.Bool.{lt-ltb, le-ltb}
use Rattle.std.proofs.lemmas.Option.{slice_get-map}
use Rattle.application_laws.specs.Conditions.{MayBeUsed}
use Rattle.std.proofs.lemmas.List.Elements.{All-cons, All-head, All-tail, All-map}
use Rattle.lf_definitions.specs.Syntax.{metavariable}
use Rattle.lf_definitions.specs.Occurrence.{OccursIn}
use Rattle.lf_definitions.specs.Typing.{LfGoal}
use Rattle.lf_definitions.specs.Signatures.{LfSignature, FormedSignature}
use Rattle.lf_definitions.specs.GoalLists.{LfGoals, all_goals, ids, first_of, first_goal}
use Rattle.lf_definitions.specs.Instantiation.{Assignment, LfAssigned, assignment_of}
use Rattle.lf_definitions.proofs.Options.{Some-Some, None-Some}
use Rattle.lf_definitions.proofs.ShapedGoals.{ShapedSignature-FormedSignature}
use Rattle.head_laws.proofs.Numbers.{Contains-here}
use Rattle.applications.specs.Methods.{LfCandidate}
use Rattle.applications.specs.Applications.{LfApplication, Completion, completion, entry_of, entries_among, entries_are_typed, fresh_left, where_typed, completed, application_of}
use Rattle.application_laws.proofs.Members.{IsIn, in_left, in_either, in_below, in_is_between, shaped_is_in, goal_is_in}
use Rattle.completion_laws.specs.Laws.{whole_of, left_of}
use Rattle.completion_laws.proofs.Itself.{nothing_mentions_itself}
use Rattle.completion_laws.proofs.Unified.{numbered, all_entries}
use Rattle.meta_goals.specs.Bindings.{LfBinding, assigned_of, assigning}
use Rattle.build_shared.specs.Attempts.{IsOffered, IsUnifiedBy, EndsWith, IsCompletedBy}
use Rattle.build_shared.specs.Conditions.{MayBeUsedFirst}
use Rattle.build_shared.specs.Whole.{goal_binding, put_binding, other_bindings, bindings_below}
use Rattle.build_shared.proofs.BindingLists.{All-from_places, All-at}
use Rattle.build_shared.proofs.WholeBindings.{whole_entries, σ_is, ρ_is, remains, tested_besides, all_is, remaining_is}

-- entries among goals whose numbers are below the fresh ones
pub entries_below : (n : ℕ) (numbers : List ℕ) (bindings : List LfBinding) → All (λ (b : LfBinding). nat_lt b.number n ≡ list_any (nat_eq b.number) numbers) bindings →
    map assigned_of (bindings_below n bindings) ≡ entries_among numbers (map assigned_of bindings)
entries_below n numbers [] all = refl
entries_below n numbers (b ∷ rest) all =
    step (nat_lt b.number n) (list_any (nat_eq b.number) numbers) (All-head (λ (d : LfBinding). nat_lt d.number n ≡ list_any (nat_eq d.number) numbers) b rest all)
    (entries_below n numbers rest (All-tail (λ (d : LfBinding). nat_lt d.number n ≡ list_any (nat_eq d.number) numbers) b rest all))
  where
    step : (k l : Bool) → k ≡ l → map assigned_of (bindings_below n rest) ≡ entries_among numbers (map assigned_of rest) →
        map assigned_of (if k then b ∷ bindings_below n rest else bindings_below n rest) ≡ (if l then assigned_of b ∷ entries_among numbers (map assigned_of rest) else entries_among numbers (map assigned_of rest))
    step true true same later = ap (λ l. assigned_of b ∷ l) later
    step true false same later = absurd cc
    step false true same later = absurd cc
    step false false same later = later

pub any_other : (g : ℕ) (bindings : List LfBinding) → list_any (λ (b : LfBinding). not (nat_eq b.number g)) bindings ≡ list_any (λ (e : LfAssigned). not (nat_eq e.assigned_goal g)) (map assigned_of bindings)
any_other g [] = refl
any_other g (b ∷ rest) = ap (λ k. not (nat_eq b.number g) || k) (any_other g rest)

number_test : (goals fresh : List LfGoal) (n m : ℕ) → All (λ h. h.id < n) goals → (IsIn m (ids fresh) → n ≤ m) → IsIn m (ids (goals ++ fresh)) → nat_lt m n ≡ list_any (nat_eq m) (ids goals)
number_test goals fresh n m below above is = either (in_either m goals fresh is)
  where
    absent : (b : Bool) → list_any (nat_eq m) (ids goals) ≡ b → n ≤ m → false ≡ b
    absent true e less = let small = in_below m n goals below e in absurd (omega (arith, small, less))
    absent false e less = refl

    either : IsIn m (ids goals) ⊎ IsIn m (ids fresh) → nat_lt m n ≡ list_any (nat_eq m) (ids goals)
    either (inl p) = lt-ltb m n (in_below m n goals below p) ∙ sym p
    either (inr p) = le-ltb m n (above p) ∙ absent (list_any (nat_eq m) (ids goals)) refl (above p)

module _ (sig : LfSignature) (goals : List LfGoal) (n : ℕ) (g : LfGoal) (c : LfCandidate) (bindings : List LfBinding) (done : Completion) (x : IsCompletedBy sig goals n g c bindings done) where
  abbrev Among : List LfGoal
  Among = goals ++ c.opened.fresh

  abbrev Entries : List LfAssigned
  Entries = map assigned_of bindings

  abbrev All_bindings : List LfBinding
  All_bindings = goal_binding g done.becomes_term ∷ other_bindings Among g done.becomes_term bindings

  abbrev Other_bindings : List LfBinding
  Other_bindings = other_bindings Among g done.becomes_term bindings

  above : (m : ℕ) → IsIn m (ids c.opened.fresh) → n ≤ m
  above m is = (in_is_between n c.opened.fresh (numbered sig goals n g c Entries x.unified_by.unified) m is).0

  abbrev HasTest : LfBinding → Type 0
  HasTest b = nat_lt b.number n ≡ list_any (nat_eq b.number) (ids goals)

  tests : All HasTest All_bindings
  tests =
      All-cons HasTest (goal_binding g done.becomes_term) Other_bindings
      (number_test goals c.opened.fresh n g.id x.unified_by.unified.below (above g.id) (in_first x.unified_by.unified.one_of))
      (All-map HasTest (put_binding Among (entry_of g done.becomes_term)) bindings (All-from_places HasTest bindings each))
    where
      in_first : Contains goals g → IsIn g.id (ids (goals ++ c.opened.fresh))
      in_first there = in_left g.id goals c.opened.fresh (goal_is_in goals g there)

      each : (i : ℕ) (b : LfBinding) → slice_get bindings i ≡ Some b → nat_lt b.number n ≡ list_any (nat_eq b.number) (ids goals)
      each i b there =
          let entry = All-at (λ (e : LfAssigned). IsIn e.assigned_goal (ids (goals ++ c.opened.fresh))) Entries i (assigned_of b)
          (λ j e less. let known = (all_entries sig goals n g c Entries x.unified_by.unified j e less).0 in shaped_is_in (goals ++ c.opened.fresh) _ known.0 known.1)
          (slice_get-map assigned_of bindings i ∙ ap (option_map assigned_of) there) in
          number_test goals c.opened.fresh n b.number x.unified_by.unified.below (above b.number) entry

  abbrev σ : Assignment
  σ = assigning All_bindings

  -- the application that is made
  abbrev pub made : Assignment → List LfAssigned → LfApplication
  made τ assigned =
      record {
        label = c.label;
        assigned = assigned;
        proofs = fresh_left (λ mark. mark) Among τ c.opened.fresh c.are_proofs ++ done.more;
        witnesses = fresh_left not Among τ c.opened.fresh c.are_proofs;
        assigns_others = list_any (λ (e : LfAssigned). not (nat_eq e.assigned_goal g.id)) assigned;
      }

  abbrev with_parts : List LfAssigned → List LfGoal → List LfGoal → Bool → LfApplication
  with_parts assigned proofs witnesses other = record { label = c.label; assigned = assigned; proofs = proofs; witnesses = witnesses; assigns_others = other }

  by_test : (b : Bool) → b ≡ entries_are_typed sig Among (assignment_of (whole_of goals g c Entries done)) (left_of goals g c Entries done) Among →
      (if b then Some (made (assignment_of (whole_of goals g c Entries done)) (entries_among (ids goals) (whole_of goals g c Entries done))) else None) ≡ where_typed sig goals g c Entries (Some done)
  by_test b is = ap (λ k. if k then Some (made (assignment_of (whole_of goals g c Entries done)) (entries_among (ids goals) (whole_of goals g c Entries done))) else None) is

  test_is : entries_are_typed sig Among (assigning All_bindings) (remains sig goals n g c bindings done x (assigning All_bindings) (assigning Other_bindings)) Among
      ≡ entries_are_typed sig Among (assignment_of (whole_of goals g c Entries done)) (left_of goals g c Entries done) Among
  test_is =
      ap₂ (λ τ υ. entries_are_typed sig Among τ (remains sig goals n g c bindings done x τ υ) Among) (σ_is sig goals n g c bindings done x) (ρ_is sig goals n g c bindings done x)
      ∙ (tested_besides sig goals n g c bindings done x).tested_alike

  assigned_is : map assigned_of (bindings_below n All_bindings) ≡ entries_among (ids goals) (whole_of goals g c Entries done)
  assigned_is = entries_below n (ids goals) All_bindings tests ∙ ap (entries_among (ids goals)) (whole_entries sig goals n g c bindings done x)

  pub counts : (b : Bool) → b ≡ entries_are_typed sig Among σ (remains sig goals n g c bindings done x σ (assigning Other_bindings)) Among →
      (if b then Some (made σ (map assigned_of (bindings_below n All_bindings))) else None) ≡ where_typed sig goals g c Entries (Some done)
  counts b is = ap₂ (λ τ l. if b then Some (made τ l) else None) (σ_is sig goals n g c bindings done x) assigned_is ∙ by_test b (is ∙ test_is)

  module _ (all others : List LfBinding) (others_are : others ≡ Other_bindings) (all_are : all ≡ goal_binding g done.becomes_term ∷ others) (list : List LfGoal)
      (list_is : list ≡ remains sig goals n g c bindings done x (assigning all) (assigning others)) where
    pub counts_in : (b : Bool) → b ≡ entries_are_typed sig Among (assigning all) list Among →
        (if b then Some (made (assigning all) (map assigned_of (bindings_below n all))) else None) ≡ where_typed sig goals g c Entries (Some done)
    counts_in b is =
        let all_same = all_is sig goals n g c bindings done x all others others_are all_are in
        ap (λ (l : List LfBinding). if b then Some (made (assigning l) (map assigned_of (bindings_below n l))) else None) all_same
        ∙ counts b (is ∙ ap₂ (λ (l : List LfBinding) left. entries_are_typed sig Among (assigning l) left Among) all_same (remaining_is sig goals n g c bindings done x all others others_are all_are list list_is))

    pub parts_are : (assign : List LfBinding) (proofs witnesses : List LfGoal) (other : Bool) → assign ≡ bindings_below n all →
        proofs ≡ fresh_left (λ mark. mark) Among (assigning all) c.opened.fresh c.are_proofs ++ done.more → witnesses ≡ fresh_left not Among (assigning all) c.opened.fresh c.are_proofs →
        other ≡ list_any (λ (b : LfBinding). not (nat_eq b.number g.id)) assign →
        Some (with_parts (map assigned_of assign) proofs witnesses other) ≡ Some (made (assigning all) (map assigned_of (bindings_below n all)))
    parts_are assign proofs witnesses other assign_is proofs_are witnesses_are other_is =
        ap (λ o. Some (with_parts (map assigned_of assign) proofs witnesses o)) (other_is ∙ any_other g.id assign)
        ∙ ap₂ (λ ps ws. Some (with_parts (map assigned_of assign) ps ws (list_any (λ (e : LfAssigned). not (nat_eq e.assigned_goal g.id)) (map assigned_of assign)))) proofs_are witnesses_are
        ∙ ap (λ (l : List LfBinding). Some (made (assigning all) (map assigned_of l))) assign_is

-- What is refused, or becomes nothing, or mentions itself.
pub refused_is_none : (sig : LfSignature) (goals : List LfGoal) (n : ℕ) (g : LfGoal) (c : LfCandidate) → EndsWith sig goals n g c None → None ≡ application_of sig n goals g c
refused_is_none sig goals n g c (reason, e) = sym (ap (completed sig n goals g c) e)

pub unified_is : (sig : LfSignature) (goals : List LfGoal) (n : ℕ) (g : LfGoal) (c : LfCandidate) (bindings : List LfBinding) → IsUnifiedBy sig goals n g c bindings →
    where_typed sig goals g c (map assigned_of bindings) (completion n (goals ++ c.opened.fresh) g c (assigning bindings) c.outcome) ≡ application_of sig n goals g c
unified_is sig goals n g c bindings by = sym (ap (completed sig n goals g c) by.unified.solves)

pub itself_is_none : (sig : LfSignature) (goals : List LfGoal) (n : ℕ) (g : LfGoal) (c : LfCandidate) (bindings : List LfBinding) → IsUnifiedBy sig goals n g c bindings → (done : Completion) →
    completion n (goals ++ c.opened.fresh) g c (assigning bindings) c.outcome ≡ Some done → OccursIn (metavariable g.id) done.becomes_term →
    None ≡ where_typed sig goals g c (map assigned_of bindings) (completion n (goals ++ c.opened.fresh) g c (assigning bindings) c.outcome)
itself_is_none sig goals n g c bindings by done completes here =
    sym (nothing_mentions_itself sig goals n g c (map assigned_of bindings) by.unified done completes here) ∙ ap (where_typed sig goals g c (map assigned_of bindings)) (sym completes)

-- The first goal of a list is one of its goals.
first_is_one : (list : List LfGoal) (g : LfGoal) → first_of list ≡ Some g → Contains list g
first_is_one [] g e = absurd cc
first_is_one (h ∷ rest) g e = subst (Contains (h ∷ rest)) (Some-Some e) (Contains-here h rest)

pub is_offered : (sig : LfSignature) (goals : LfGoals) (n : ℕ) (c : LfCandidate) (g : LfGoal) → FormedSignature sig → MayBeUsedFirst sig goals n c → first_goal goals ≡ Some g → IsOffered sig (all_goals goals) n g c
is_offered sig goals n c g formed (h, first, may) is =
    let same = Some-Some (sym first.is_first ∙ is) in
    record {
      of_signature = ShapedSignature-FormedSignature sig formed;
      of_goals = first.shaped;
      below = first.below;
      one_of = first_is_one (all_goals goals) g is;
      may_be_used = subst (λ k. MayBeUsed sig (all_goals goals) n k c) same may;
    }

pub no_first : (sig : LfSignature) (goals : LfGoals) (n : ℕ) (c : LfCandidate) → MayBeUsedFirst sig goals n c → first_goal goals ≡ None → ⊥
no_first sig goals n c (h, first, may) none = None-Some none first.is_first
