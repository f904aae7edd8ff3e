-- Applications go along with renamings of metavariables.
use Rattle.std.proofs.Common.{◌≡◌, ℕ, Bool, true, false, Option, Some, None, option_map, List, [], ◌∷◌, ◌++◌, map, refl, sym, ap, ap₂, ◌∙◌}
use Rattle.std.specs.Prelude.{not, ◌&&◌, ◌||◌, if◌then◌else◌, nat_eq, is_some}
use Rattle.std.specs.List.{list_any}
use Rattle.std.proofs.lemmas.List.{map-append}
use Rattle.lf_definitions.specs.Syntax.{LfTerm}
use Rattle.lf_definitions.specs.Renaming.{rename, rename_context}
use Rattle.lf_definitions.specs.ShapedGoals.{ShapedSignature}
use Rattle.lf_definitions.specs.Typing.{LfGoal, goal_type}
use Rattle.lf_definitions.specs.Signatures.{LfSignature}
use Rattle.lf_definitions.specs.GoalLists.{all_goals, ids, first_of}
use Rattle.lf_definitions.specs.Instantiation.{Assignment, LfAssigned, assignment_of, metavariables, rename_goal, IsInjective}
use Rattle.lf_definitions.proofs.TypedSpines.{length-rename_context}
use Rattle.head_laws.specs.MetavariableLaws.{AssignsRenamed}
use Rattle.head_laws.proofs.Metavariables.{goal_type-rename_goal}
use Rattle.head_laws.proofs.Numbers.{nat_eq-map}
use Rattle.unification.specs.Equations.{Ending, solved, refused}
use Rattle.renamed_unification.specs.Laws.{rename_entry, rename_ending}
use Rattle.lf_functions.specs.Instances.{instance_of_goal}
use Rattle.lf_functions.specs.Checking.{has_type}
use Rattle.lf_functions.specs.Endings.{unifier_of}
use Rattle.lf_functions.specs.EndingLaws.{rename_equations}
use Rattle.lf_functions.proofs.RenamedResults.{instances_are_renamed}
use Rattle.lf_functions.proofs.CheckingLaws.{has_type_is_renamed}
use Rattle.lf_functions.proofs.EndingLaws.{unifiers_are_renamed, entries_are_renamed}
use Rattle.applications.specs.Methods.{Method, LfLabel, LfCandidate}
use Rattle.applications.specs.Candidates.{candidates}
use Rattle.applications.specs.Applications.{LfApplication, freezing, Completion, completion, entry_of, put_into, whole_assignment, goals_left, fresh_left, is_typed_entry, entries_are_typed, entries_among, where_typed, completed, application_of, with_some, of_candidates, applications_to, at_first}
use Rattle.applications.specs.Laws.{TakesNumbersFrom, rename_candidate, rename_application, ApplicationsAreRenamed}
use Rattle.applications.proofs.RenamedCandidates.{candidates_are_renamed}
use Rattle.applications.proofs.RenamedCompletions.{where_true, rename_completion, is_among-renamed, freezing-renamed, is_assigned-renamed, completion-renamed}

abbrev entry_by : ℕ → ℕ → LfTerm → LfAssigned
entry_by g count body = record { assigned_goal = g; binders_count = count; body = body }

abbrev pub application_by : LfLabel → List LfAssigned → List LfGoal → List LfGoal → Bool → LfApplication
application_by label assigned proofs witnesses others = record { label = label; assigned = assigned; proofs = proofs; witnesses = witnesses; assigns_others = others }

-- a candidate with its whole assignment
abbrev pub counted_with : LfSignature → List LfGoal → LfGoal → LfCandidate → List LfGoal → List LfAssigned → List LfGoal → List LfGoal → Option LfApplication
counted_with sig goals g c all whole more left =
    let σ = assignment_of whole in
    if entries_are_typed sig all σ left all
    then Some (application_by c.label (entries_among (ids goals) whole) (fresh_left (λ mark. mark) all σ c.opened.fresh c.are_proofs ++ more) (fresh_left not all σ c.opened.fresh c.are_proofs)
    (list_any (λ e. not (nat_eq e.assigned_goal g.id)) (entries_among (ids goals) whole)))
    else None

module _ (ρ : ℕ → ℕ) (injective : IsInjective ρ) where
  -- the whole assignment
  entry_of-renamed : (g : LfGoal) (body : LfTerm) → entry_of (rename_goal ρ g) (rename (metavariables ρ) body) ≡ rename_entry ρ (entry_of g body)
  entry_of-renamed g body = ap (λ count. entry_by (ρ g.id) count (rename (metavariables ρ) body)) (length-rename_context (metavariables ρ) g.context)

  put_into_all : (goals : List LfGoal) (e : LfAssigned) (entries : List LfAssigned) →
      map (put_into (map (rename_goal ρ) goals) (rename_entry ρ e)) (map (rename_entry ρ) entries) ≡ map (rename_entry ρ) (map (put_into goals e) entries)
  put_into_all goals e [] = refl
  put_into_all goals e (f ∷ rest) =
      ap₂ (λ body later. entry_by (ρ f.assigned_goal) f.binders_count body ∷ later)
      ((instances_are_renamed ρ goals (assignment_of (e ∷ [])) (assignment_of (rename_entry ρ e ∷ [])) (entries_are_renamed ρ injective (e ∷ []))).0 f.body) (put_into_all goals e rest)

  whole_assignment-renamed : (goals : List LfGoal) (g : LfGoal) (body : LfTerm) (entries : List LfAssigned) →
      whole_assignment (map (rename_goal ρ) goals) (rename_goal ρ g) (rename (metavariables ρ) body) (map (rename_entry ρ) entries) ≡ map (rename_entry ρ) (whole_assignment goals g body entries)
  whole_assignment-renamed goals g body entries =
      ap (λ e. e ∷ map (put_into (map (rename_goal ρ) goals) e) (map (rename_entry ρ) entries)) (entry_of-renamed g body)
      ∙ ap (λ later. rename_entry ρ (entry_of g body) ∷ later) (put_into_all goals (entry_of g body) entries)

  -- what is left
  module _ (goals : List LfGoal) (σ τ : Assignment) (renamed : AssignsRenamed ρ σ τ) where
    abbrev there : List LfGoal
    there = map (rename_goal ρ) goals

    instance_there : (h : LfGoal) → instance_of_goal there τ (rename_goal ρ h) ≡ rename_goal ρ (instance_of_goal goals σ h)
    instance_there h = (instances_are_renamed ρ goals σ τ renamed).5 h

    goals_left-renamed : (hs : List LfGoal) → goals_left there τ (map (rename_goal ρ) hs) ≡ map (rename_goal ρ) (goals_left goals σ hs)
    goals_left-renamed [] = refl
    goals_left-renamed (h ∷ rest) = step (is_some (σ h.id)) (is_some (τ (ρ h.id))) (is_assigned-renamed ρ injective σ τ renamed h.id) (goals_left-renamed rest)
      where
        step : (b c : Bool) → c ≡ b → goals_left there τ (map (rename_goal ρ) rest) ≡ map (rename_goal ρ) (goals_left goals σ rest) →
            (if c then goals_left there τ (map (rename_goal ρ) rest) else instance_of_goal there τ (rename_goal ρ h) ∷ goals_left there τ (map (rename_goal ρ) rest))
            ≡ map (rename_goal ρ) (if b then goals_left goals σ rest else instance_of_goal goals σ h ∷ goals_left goals σ rest)
        step true true e later = later
        step false false e later = ap₂ (λ x xs. x ∷ xs) (instance_there h) later
        step true false e later = absurd cc
        step false true e later = absurd cc

    fresh_left-renamed : (test : Bool → Bool) (hs : List LfGoal) (marks : List Bool) → fresh_left test there τ (map (rename_goal ρ) hs) marks ≡ map (rename_goal ρ) (fresh_left test goals σ hs marks)
    fresh_left-renamed test [] marks = refl
    fresh_left-renamed test (h ∷ rest) [] = refl
    fresh_left-renamed test (h ∷ rest) (mark ∷ marks) = step (is_some (σ h.id)) (is_some (τ (ρ h.id))) (test mark) (is_assigned-renamed ρ injective σ τ renamed h.id) (fresh_left-renamed test rest marks)
      where
        step : (b c d : Bool) → c ≡ b → fresh_left test there τ (map (rename_goal ρ) rest) marks ≡ map (rename_goal ρ) (fresh_left test goals σ rest marks) →
            (if c then fresh_left test there τ (map (rename_goal ρ) rest) marks
            else (if d then instance_of_goal there τ (rename_goal ρ h) ∷ fresh_left test there τ (map (rename_goal ρ) rest) marks else fresh_left test there τ (map (rename_goal ρ) rest) marks))
            ≡ map (rename_goal ρ) (if b then fresh_left test goals σ rest marks else (if d then instance_of_goal goals σ h ∷ fresh_left test goals σ rest marks else fresh_left test goals σ rest marks))
        step true true d e later = later
        step false false true e later = ap₂ (λ x xs. x ∷ xs) (instance_there h) later
        step false false false e later = later
        step true false d e later = absurd cc
        step false true d e later = absurd cc

    -- the test of types
    module _ (sig : LfSignature) (shaped : ShapedSignature sig) (left : List LfGoal) where
      is_typed_entry-renamed : (o : Option LfTerm) (h : LfGoal) → is_typed_entry sig (map (rename_goal ρ) left) (option_map (rename (metavariables ρ)) o) (rename_goal ρ h) ≡ is_typed_entry sig left o h
      is_typed_entry-renamed None h = refl
      is_typed_entry-renamed (Some u) h =
          ap (has_type sig (map (rename_goal ρ) left) [] (rename (metavariables ρ) u)) (goal_type-rename_goal ρ h) ∙ has_type_is_renamed sig shaped ρ injective left [] u (goal_type h)

      entries_are_typed-renamed : (hs : List LfGoal) → entries_are_typed sig there τ (map (rename_goal ρ) left) (map (rename_goal ρ) hs) ≡ entries_are_typed sig goals σ left hs
      entries_are_typed-renamed [] = refl
      entries_are_typed-renamed (h ∷ rest) =
          ap₂ (λ x y. x && y)
          (ap₂ (is_typed_entry sig (map (rename_goal ρ) left)) (renamed h.id) (instance_there h) ∙ is_typed_entry-renamed (σ h.id) (instance_of_goal goals σ h)) (entries_are_typed-renamed rest)

  -- the entries of goals that were there before
  entries_among-renamed : (goals : List LfGoal) (entries : List LfAssigned) → entries_among (ids (map (rename_goal ρ) goals)) (map (rename_entry ρ) entries) ≡ map (rename_entry ρ) (entries_among (ids goals) entries)
  entries_among-renamed goals [] = refl
  entries_among-renamed goals (e ∷ rest) =
      step (list_any (nat_eq e.assigned_goal) (ids goals)) (list_any (nat_eq (ρ e.assigned_goal)) (ids (map (rename_goal ρ) goals))) (is_among-renamed ρ injective goals e.assigned_goal) (entries_among-renamed goals rest)
    where
      step : (b c : Bool) → c ≡ b → entries_among (ids (map (rename_goal ρ) goals)) (map (rename_entry ρ) rest) ≡ map (rename_entry ρ) (entries_among (ids goals) rest) →
          (if c then rename_entry ρ e ∷ entries_among (ids (map (rename_goal ρ) goals)) (map (rename_entry ρ) rest) else entries_among (ids (map (rename_goal ρ) goals)) (map (rename_entry ρ) rest))
          ≡ map (rename_entry ρ) (if b then e ∷ entries_among (ids goals) rest else entries_among (ids goals) rest)
      step true true same later = ap (λ more. rename_entry ρ e ∷ more) later
      step false false same later = later
      step true false same later = absurd cc
      step false true same later = absurd cc

  assigns_others-renamed : (id : ℕ) (entries : List LfAssigned) → list_any (λ e. not (nat_eq e.assigned_goal (ρ id))) (map (rename_entry ρ) entries) ≡ list_any (λ e. not (nat_eq e.assigned_goal id)) entries
  assigns_others-renamed id [] = refl
  assigns_others-renamed id (e ∷ rest) = ap₂ (λ x y. not x || y) (nat_eq-map ρ injective e.assigned_goal id) (assigns_others-renamed id rest)

  module _ (sig : LfSignature) (shaped : ShapedSignature sig) (goals : List LfGoal) (g : LfGoal) (c : LfCandidate) where
    abbrev Renamed : Option LfApplication → Option LfApplication → Type 0
    Renamed other o = other ≡ option_map (rename_application ρ) o

    counted_with-renamed : (all : List LfGoal) (whole : List LfAssigned) (more left : List LfGoal) →
        Renamed (counted_with sig (map (rename_goal ρ) goals) (rename_goal ρ g) (rename_candidate ρ c) (map (rename_goal ρ) all) (map (rename_entry ρ) whole) (map (rename_goal ρ) more) (map (rename_goal ρ) left))
        (counted_with sig goals g c all whole more left)
    counted_with-renamed all whole more left =
        let σ = assignment_of whole in
        let τ = assignment_of (map (rename_entry ρ) whole) in
        let renamed = entries_are_renamed ρ injective whole in
        let fresh = c.opened.fresh in
        let entries = entries_among (ids goals) whole in
        let others = entries_among (ids (map (rename_goal ρ) goals)) (map (rename_entry ρ) whole) in
        let all_there = map (rename_goal ρ) all in
        let among : others ≡ map (rename_entry ρ) entries = entries_among-renamed goals whole in
        let proofs = fresh_left (λ mark. mark) all σ fresh c.are_proofs in
        let witnesses = fresh_left not all σ fresh c.are_proofs in
        let proofs_there = fresh_left (λ mark. mark) all_there τ (map (rename_goal ρ) fresh) c.are_proofs in
        let witnesses_there = fresh_left not all_there τ (map (rename_goal ρ) fresh) c.are_proofs in
        let here : LfApplication = application_by c.label entries (proofs ++ more) witnesses (list_any (λ e. not (nat_eq e.assigned_goal g.id)) entries) in
        let other : LfApplication =
        application_by c.label others (proofs_there ++ map (rename_goal ρ) more) witnesses_there (list_any (λ e. not (nat_eq e.assigned_goal (ρ g.id))) others) in
        let same : other ≡ rename_application ρ here =
        ap (λ es. application_by c.label es (proofs_there ++ map (rename_goal ρ) more) witnesses_there (list_any (λ e. not (nat_eq e.assigned_goal (ρ g.id))) es)) among
        ∙ ap₂ (λ ps ws. application_by c.label (map (rename_entry ρ) entries) ps ws (list_any (λ e. not (nat_eq e.assigned_goal (ρ g.id))) (map (rename_entry ρ) entries)))
        (ap (λ ps. ps ++ map (rename_goal ρ) more) (fresh_left-renamed all σ τ renamed (λ mark. mark) fresh c.are_proofs) ∙ sym (map-append (rename_goal ρ) proofs more))
        (fresh_left-renamed all σ τ renamed not fresh c.are_proofs)
        ∙ ap (application_by c.label (map (rename_entry ρ) entries) (map (rename_goal ρ) (proofs ++ more)) (map (rename_goal ρ) witnesses)) (assigns_others-renamed g.id entries) in
        ap (λ b. if b then Some other else None) (entries_are_typed-renamed all σ τ renamed sig shaped left all) ∙ where_true (rename_application ρ) (entries_are_typed sig all σ left all) here other same

    abbrev all_here : List LfGoal
    all_here = goals ++ c.opened.fresh

    all_there_is : map (rename_goal ρ) goals ++ map (rename_goal ρ) c.opened.fresh ≡ map (rename_goal ρ) all_here
    all_there_is = sym (map-append (rename_goal ρ) goals c.opened.fresh)

    where_typed-renamed : (entries : List LfAssigned) (o : Option Completion) →
        Renamed (where_typed sig (map (rename_goal ρ) goals) (rename_goal ρ g) (rename_candidate ρ c) (map (rename_entry ρ) entries) (option_map (rename_completion ρ) o)) (where_typed sig goals g c entries o)
    where_typed-renamed entries None = refl
    where_typed-renamed entries (Some done) =
        let other_goals = map (rename_goal ρ) goals in
        let body = rename (metavariables ρ) done.becomes_term in
        let more = map (rename_goal ρ) done.more in
        let whole = whole_assignment all_here g done.becomes_term entries in
        let counts : List LfGoal → List LfAssigned → Option LfApplication =
        λ all es. counted_with sig other_goals (rename_goal ρ g) (rename_candidate ρ c) all es more (goals_left all (assignment_of es) all ++ more) in
        let left = goals_left all_here (assignment_of whole) all_here in
        ap (λ all. counts all (whole_assignment all (rename_goal ρ g) body (map (rename_entry ρ) entries))) all_there_is
        ∙ ap (counts (map (rename_goal ρ) all_here)) (whole_assignment-renamed all_here g done.becomes_term entries)
        ∙ ap (λ ls. counted_with sig other_goals (rename_goal ρ g) (rename_candidate ρ c) (map (rename_goal ρ) all_here) (map (rename_entry ρ) whole) more ls)
        (ap (λ ls. ls ++ more) (goals_left-renamed all_here (assignment_of whole) (assignment_of (map (rename_entry ρ) whole)) (entries_are_renamed ρ injective whole) all_here)
        ∙ sym (map-append (rename_goal ρ) left done.more))
        ∙ counted_with-renamed all_here whole done.more (left ++ done.more)

    module _ (n m : ℕ) (takes : TakesNumbersFrom ρ n m) where
      completed-renamed : (end : Ending) → Renamed (completed sig m (map (rename_goal ρ) goals) (rename_goal ρ g) (rename_candidate ρ c) (rename_ending ρ end)) (completed sig n goals g c end)
      completed-renamed (refused reason) = refl
      completed-renamed (solved entries) =
          let counts : Option Completion → Option LfApplication = where_typed sig (map (rename_goal ρ) goals) (rename_goal ρ g) (rename_candidate ρ c) (map (rename_entry ρ) entries) in
          let τ = assignment_of (map (rename_entry ρ) entries) in
          ap (λ all. counts (completion m all (rename_goal ρ g) (rename_candidate ρ c) τ c.outcome)) all_there_is
          ∙ ap counts (completion-renamed ρ injective (assignment_of entries) τ (entries_are_renamed ρ injective entries) n m takes all_here g c c.outcome)
          ∙ where_typed-renamed entries (completion n all_here g c (assignment_of entries) c.outcome)

      application_of-renamed : Renamed (application_of sig m (map (rename_goal ρ) goals) (rename_goal ρ g) (rename_candidate ρ c)) (application_of sig n goals g c)
      application_of-renamed =
          let frozen = freezing c.outcome goals g in
          let other = freezing c.outcome (map (rename_goal ρ) goals) (rename_goal ρ g) in
          let ends : Ending → Option LfApplication = completed sig m (map (rename_goal ρ) goals) (rename_goal ρ g) (rename_candidate ρ c) in
          ap (λ all. ends (unifier_of sig all (rename_context (metavariables ρ) g.context) other (rename_equations ρ c.equations))) all_there_is
          ∙ ap ends (unifiers_are_renamed ρ injective frozen other (freezing-renamed ρ injective c.outcome goals g) sig all_here g.context c.equations)
          ∙ completed-renamed (unifier_of sig all_here g.context frozen c.equations)

  with_some-renamed : (o : Option LfApplication) (rest : List LfApplication) → with_some (option_map (rename_application ρ) o) (map (rename_application ρ) rest) ≡ map (rename_application ρ) (with_some o rest)
  with_some-renamed None rest = refl
  with_some-renamed (Some a) rest = refl

  module _ (sig : LfSignature) (shaped : ShapedSignature sig) (n m : ℕ) (takes : TakesNumbersFrom ρ n m) (goals : List LfGoal) where
    of_candidates-renamed : (g : LfGoal) (cs : List LfCandidate) →
        of_candidates sig m (map (rename_goal ρ) goals) (rename_goal ρ g) (map (rename_candidate ρ) cs) ≡ map (rename_application ρ) (of_candidates sig n goals g cs)
    of_candidates-renamed g [] = refl
    of_candidates-renamed g (c ∷ rest) =
        ap₂ with_some (application_of-renamed sig shaped goals g c n m takes) (of_candidates-renamed g rest) ∙ with_some-renamed (application_of sig n goals g c) (of_candidates sig n goals g rest)

    applications_to-renamed : (rule : ℕ) (method : Method) (g : LfGoal) →
        applications_to sig rule method m (map (rename_goal ρ) goals) (rename_goal ρ g) ≡ map (rename_application ρ) (applications_to sig rule method n goals g)
    unfolding applications_to
    applications_to-renamed rule method g =
        ap (of_candidates sig m (map (rename_goal ρ) goals) (rename_goal ρ g)) (candidates_are_renamed sig shaped ρ n m takes rule method g) ∙ of_candidates-renamed g (candidates sig rule method g n)

pub applications_are_renamed : ApplicationsAreRenamed
applications_are_renamed sig shaped ρ injective n m takes rule method = (to_goal, λ list. ap (λ goals. at_first sig rule method m goals (first_of goals)) (sym (map-append (rename_goal ρ) list.proofs list.witnesses)) ∙ to_first (all_goals list))
  where
    to_goal : (goals : List LfGoal) (g : LfGoal) → applications_to sig rule method m (map (rename_goal ρ) goals) (rename_goal ρ g) ≡ map (rename_application ρ) (applications_to sig rule method n goals g)
    to_goal goals g = applications_to-renamed ρ injective sig shaped n m takes goals rule method g

    to_first : (goals : List LfGoal) → at_first sig rule method m (map (rename_goal ρ) goals) (first_of (map (rename_goal ρ) goals)) ≡ map (rename_application ρ) (at_first sig rule method n goals (first_of goals))
    to_first [] = refl
    to_first (g ∷ rest) = to_goal (g ∷ rest) g
