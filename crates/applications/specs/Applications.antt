-- The applications of a rule to the first goal of a list: what it offers, where unification succeeds and each assigned body has its goal's type.
use Rattle.std.specs.Prelude.{ℕ, ◌+◌, List, [], ◌∷◌, ◌++◌, map, length, Bool, true, not, ◌&&◌, Option, Some, None, is_some, if◌then◌else◌, nat_eq}
use Rattle.std.specs.List.{list_any, list_all}
use Rattle.lf_definitions.specs.Syntax.{metavariable, LfTerm, at, no_args, arg, joined, LfType, LfAtom, atomic, Context}
use Rattle.lf_definitions.specs.Renaming.{rename_spine, raise_spine}
use Rattle.lf_definitions.specs.Typing.{LfGoal, goal_type}
use Rattle.lf_definitions.specs.Signatures.{LfSignature}
use Rattle.lf_definitions.specs.GoalLists.{LfGoals, all_goals, ids, first_goal}
use Rattle.lf_definitions.specs.Instantiation.{Assignment, LfAssigned, assignment_of}
use Rattle.head_laws.specs.Mentions.{occurs_in_type}
use Rattle.unification.specs.Equations.{Ending, solved, refused}
use Rattle.unification.specs.Transitions.{Frozen}
use Rattle.opening_laws.specs.Openings.{is_kept, returning, kept_variables, context_variable}
use Rattle.lf_functions.specs.Instances.{instance_of, instance_of_atom, instance_of_goal}
use Rattle.lf_functions.specs.Checking.{has_type, equal_types}
use Rattle.lf_functions.specs.Endings.{unifier_of}
use Rattle.applications.specs.OpenedTypes.{kept_entries}
use Rattle.applications.specs.Methods.{Method, LfLabel, Outcome, closes, adds, LfCandidate}
use Rattle.applications.specs.Candidates.{LfHypothesis, hypotheses_of, places_of, without, candidates}

-- An application's label, what it assigns to goals that were there before, its new goals, and whether it assigns any of these goals but the first.
pub record LfApplication : Type 0 where
  pub label : LfLabel
  pub assigned : List LfAssigned
  pub proofs : List LfGoal
  pub witnesses : List LfGoal
  pub assigns_others : Bool

-- the goal itself stays as it is, or all goals do
abbrev pub freezing : Outcome → List LfGoal → LfGoal → Frozen
freezing closes goals g m = nat_eq g.id m
freezing (adds kept) goals g m = list_any (nat_eq m) (ids goals)

-- What a new hypothesis asks: every fresh goal is assigned, no kept hypothesis has its type, and neither it nor the target nor a kept hypothesis mentions a dropped one.
abbrev pub mentions_none : Context → List ℕ → LfType → Bool
mentions_none ctx dropped a = list_all (λ place. not (occurs_in_type (context_variable (length ctx) place) a)) dropped

abbrev pub kept_types_are : (LfType → Bool) → List ℕ → List LfHypothesis → Bool
kept_types_are test kept [] = true
kept_types_are test kept (h ∷ rest) = (if is_kept kept h.place then test h.type else true) && kept_types_are test kept rest

abbrev pub may_be_added : LfGoal → List ℕ → LfAtom → Bool
may_be_added g kept fact =
    let dropped = without kept (places_of g.context) in
    kept_types_are (λ a. not (equal_types a (atomic fact)) && mentions_none g.context dropped a) kept (hypotheses_of g.context)
    && (mentions_none g.context dropped (atomic fact) && mentions_none g.context dropped (atomic g.target))

-- an atom as it is seen among the kept entries
abbrev pub returned : List ℕ → Context → LfAtom → LfAtom
returned kept ctx a = record { atom_family = a.atom_family; atom_args = rename_spine (returning kept (length ctx)) a.atom_args }

-- The goal with the kept hypotheses and one more.
abbrev pub goal_with : ℕ → LfGoal → List ℕ → LfAtom → LfGoal
goal_with id g kept fact = record {
  id = id;
  context = kept_entries kept 0 g.context ++ atomic (returned kept g.context fact) ∷ [];
  target = record { atom_family = g.target.atom_family; atom_args = raise_spine (returned kept g.context g.target).atom_args };
}

-- What the goal becomes, and the new goals.
pub record Completion : Type 0 where
  pub becomes_term : LfTerm
  pub more : List LfGoal

abbrev pub completion : ℕ → List LfGoal → LfGoal → LfCandidate → Assignment → Outcome → Option Completion
completion n goals g c σ closes = Some (record { becomes_term = instance_of goals σ (at c.head c.opened.terms); more = [] })
completion n goals g c σ (adds kept) =
    let fact = instance_of_atom goals σ c.opened.end in
    if list_all (λ f. is_some (σ f.id)) c.opened.fresh && may_be_added g kept fact
    then Some (record {
      becomes_term = at (metavariable (n + length c.opened.fresh))
          (joined (kept_variables kept (length g.context) (kept_entries kept 0 g.context)) (arg (instance_of goals σ (at c.head c.opened.terms)) no_args));
      more = goal_with (n + length c.opened.fresh) g kept fact ∷ [];
    })
    else None

-- The entry of the goal, put into all other bodies.
abbrev pub entry_of : LfGoal → LfTerm → LfAssigned
entry_of g body = record { assigned_goal = g.id; binders_count = length g.context; body = body }

abbrev pub put_into : List LfGoal → LfAssigned → LfAssigned → LfAssigned
put_into goals e f = record { assigned_goal = f.assigned_goal; binders_count = f.binders_count; body = instance_of goals (assignment_of (e ∷ [])) f.body }

abbrev pub whole_assignment : List LfGoal → LfGoal → LfTerm → List LfAssigned → List LfAssigned
whole_assignment goals g body entries = entry_of g body ∷ map (put_into goals (entry_of g body)) entries

-- the goals that have no entry, under the assignment
abbrev pub goals_left : List LfGoal → Assignment → List LfGoal → List LfGoal
goals_left goals σ [] = []
goals_left goals σ (h ∷ rest) = if is_some (σ h.id) then goals_left goals σ rest else instance_of_goal goals σ h ∷ goals_left goals σ rest

-- those of fresh goals whose marks pass a test
abbrev pub fresh_left : (Bool → Bool) → List LfGoal → Assignment → List LfGoal → List Bool → List LfGoal
fresh_left test goals σ [] marks = []
fresh_left test goals σ (h ∷ rest) [] = []
fresh_left test goals σ (h ∷ rest) (mark ∷ marks) =
    if is_some (σ h.id) then fresh_left test goals σ rest marks
    else (if test mark then instance_of_goal goals σ h ∷ fresh_left test goals σ rest marks else fresh_left test goals σ rest marks)

-- Each goal that has an entry has a body of its type, in its context, all under the assignment, among the goals that are left.
abbrev pub is_typed_entry : LfSignature → List LfGoal → Option LfTerm → LfGoal → Bool
is_typed_entry sig left None h = true
is_typed_entry sig left (Some u) h = has_type sig left [] u (goal_type h)

abbrev pub entries_are_typed : LfSignature → List LfGoal → Assignment → List LfGoal → List LfGoal → Bool
entries_are_typed sig goals σ left [] = true
entries_are_typed sig goals σ left (h ∷ rest) = is_typed_entry sig left (σ h.id) (instance_of_goal goals σ h) && entries_are_typed sig goals σ left rest

-- the entries of goals that were there before
abbrev pub entries_among : List ℕ → List LfAssigned → List LfAssigned
entries_among numbers [] = []
entries_among numbers (e ∷ rest) = if list_any (nat_eq e.assigned_goal) numbers then e ∷ entries_among numbers rest else entries_among numbers rest

-- A candidate counts where each entry is typed in the list that is left.
abbrev pub where_typed : LfSignature → List LfGoal → LfGoal → LfCandidate → List LfAssigned → Option Completion → Option LfApplication
where_typed sig goals g c entries None = None
where_typed sig goals g c entries (Some done) =
    let all = goals ++ c.opened.fresh in
    let whole = whole_assignment all g done.becomes_term entries in
    let σ = assignment_of whole in
    let left = goals_left all σ all ++ done.more in
    if entries_are_typed sig all σ left all
    then Some (record {
      label = c.label;
      assigned = entries_among (ids goals) whole;
      proofs = fresh_left (λ mark. mark) all σ c.opened.fresh c.are_proofs ++ done.more;
      witnesses = fresh_left not all σ c.opened.fresh c.are_proofs;
      assigns_others = list_any (λ e. not (nat_eq e.assigned_goal g.id)) (entries_among (ids goals) whole);
    })
    else None

abbrev pub completed : LfSignature → ℕ → List LfGoal → LfGoal → LfCandidate → Ending → Option LfApplication
completed sig n goals g c (refused reason) = None
completed sig n goals g c (solved entries) = where_typed sig goals g c entries (completion n (goals ++ c.opened.fresh) g c (assignment_of entries) c.outcome)

-- what comes of a candidate, if it counts
abbrev pub application_of : LfSignature → ℕ → List LfGoal → LfGoal → LfCandidate → Option LfApplication
application_of sig n goals g c = completed sig n goals g c (unifier_of sig (goals ++ c.opened.fresh) g.context (freezing c.outcome goals g) c.equations)

abbrev pub with_some : {A : Type 0} → Option A → List A → List A
with_some None rest = rest
with_some (Some a) rest = a ∷ rest

abbrev pub of_candidates : LfSignature → ℕ → List LfGoal → LfGoal → List LfCandidate → List LfApplication
of_candidates sig n goals g [] = []
of_candidates sig n goals g (c ∷ rest) = with_some (application_of sig n goals g c) (of_candidates sig n goals g rest)

-- The applications of a rule to a goal of a list, in order, with fresh numbers from `n` on.
unfoldable pub applications_to : LfSignature → ℕ → Method → ℕ → List LfGoal → LfGoal → List LfApplication
applications_to sig rule method n goals g = of_candidates sig n goals g (candidates sig rule method g n)

abbrev pub at_first : LfSignature → ℕ → Method → ℕ → List LfGoal → Option LfGoal → List LfApplication
at_first sig rule method n goals None = []
at_first sig rule method n goals (Some g) = applications_to sig rule method n goals g

-- The applications of a rule to the first goal of a list.
abbrev pub applications : LfSignature → ℕ → Method → ℕ → LfGoals → List LfApplication
applications sig rule method n goals = at_first sig rule method n (all_goals goals) (first_goal goals)
