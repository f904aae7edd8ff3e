-- What stands after applications goes along with renamings of metavariables.
use Rattle.std.proofs.Common.{◌≡◌, ℕ, suc, ◌+◌, ◌-◌, ◌≤◌, max, Bool, true, false, List, [], ◌∷◌, ◌++◌, map, All, refl, sym, ap, ap₂, ◌∙◌, arith}
use Rattle.std.specs.Prelude.{if◌then◌else◌, nat_eq, is_some}
use Rattle.std.specs.List.{list_any}
use Rattle.std.proofs.lemmas.List.{map-append}
use Rattle.std.proofs.lemmas.List.Elements.{All-head, All-tail}
use Rattle.lf_definitions.specs.Syntax.{LfTerm}
use Rattle.lf_definitions.specs.Typing.{LfGoal}
use Rattle.lf_definitions.specs.GoalLists.{LfGoals, all_goals, ids, above}
use Rattle.lf_definitions.specs.Instantiation.{Assignment, LfAssigned, assignment_of, rename_goal, IsInjective}
use Rattle.head_laws.specs.MetavariableLaws.{AssignsRenamed}
use Rattle.renamed_unification.specs.Laws.{rename_entry}
use Rattle.lf_functions.specs.Instances.{instance_of_goal}
use Rattle.lf_functions.proofs.RenamedResults.{instances_are_renamed}
use Rattle.lf_functions.proofs.EndingLaws.{entries_are_renamed}
use Rattle.applications.specs.Applications.{LfApplication, goals_left, entries_among}
use Rattle.applications.specs.Laws.{TakesNumbersFrom, rename_application, rename_goals}
use Rattle.applications.proofs.RenamedCompletions.{is_among-renamed, is_assigned-renamed}
use Rattle.alternatives.specs.ListsAfter.{with_new, left_in, list_after, fresh_after, under_later, then_assigned}
use Rattle.renamed_alternatives.specs.Laws.{ListsAfterAreRenamed}

abbrev goals_by : List LfGoal → List LfGoal → LfGoals
goals_by proofs witnesses = record { proofs = proofs; witnesses = witnesses }

pub all_goals-renamed : (ρ : ℕ → ℕ) (list : LfGoals) → all_goals (rename_goals ρ list) ≡ map (rename_goal ρ) (all_goals list)
all_goals-renamed ρ list = sym (map-append (rename_goal ρ) list.proofs list.witnesses)

with_new-renamed : (ρ : ℕ → ℕ) (list : LfGoals) (a : LfApplication) → with_new (rename_goals ρ list) (rename_application ρ a) ≡ rename_goals ρ (with_new list a)
with_new-renamed ρ list a = ap₂ goals_by (sym (map-append (rename_goal ρ) a.proofs list.proofs)) (sym (map-append (rename_goal ρ) list.witnesses a.witnesses))

module _ (ρ : ℕ → ℕ) (injective : IsInjective ρ) where
  module _ (goals : List LfGoal) (σ τ : Assignment) (renamed : AssignsRenamed ρ σ τ) where
    goals_left-renamed : (hs : List LfGoal) → goals_left (map (rename_goal ρ) goals) τ (map (rename_goal ρ) hs) ≡ map (rename_goal ρ) (goals_left goals σ hs)
    goals_left-renamed [] = refl
    goals_left-renamed (h ∷ rest) = step (is_some (σ h.id)) (is_some (τ (ρ h.id))) (is_assigned-renamed ρ injective σ τ renamed h.id) (goals_left-renamed rest)
      where
        there : List LfGoal
        there = goals_left (map (rename_goal ρ) goals) τ (map (rename_goal ρ) rest)

        step : (b c : Bool) → c ≡ b → there ≡ map (rename_goal ρ) (goals_left goals σ rest) →
            (if c then there else instance_of_goal (map (rename_goal ρ) goals) τ (rename_goal ρ h) ∷ there) ≡ map (rename_goal ρ) (if b then goals_left goals σ rest else instance_of_goal goals σ h ∷ goals_left goals σ rest)
        step true true e later = later
        step false false e later = ap₂ (λ x xs. x ∷ xs) ((instances_are_renamed ρ goals σ τ renamed).5 h) later
        step true false e later = absurd cc
        step false true e later = absurd cc

  left_in-renamed : (list : LfGoals) (σ τ : Assignment) → AssignsRenamed ρ σ τ → left_in (rename_goals ρ list) τ ≡ rename_goals ρ (left_in list σ)
  left_in-renamed list σ τ renamed =
      ap (λ all. goals_by (goals_left all τ (map (rename_goal ρ) list.proofs)) (goals_left all τ (map (rename_goal ρ) list.witnesses))) (all_goals-renamed ρ list)
      ∙ ap₂ goals_by (goals_left-renamed (all_goals list) σ τ renamed list.proofs) (goals_left-renamed (all_goals list) σ τ renamed list.witnesses)

  pub list_after-renamed : (list : LfGoals) (a : LfApplication) → list_after (rename_goals ρ list) (rename_application ρ a) ≡ rename_goals ρ (list_after list a)
  unfolding list_after
  list_after-renamed list a =
      ap (λ new. left_in new (assignment_of (map (rename_entry ρ) a.assigned))) (with_new-renamed ρ list a)
      ∙ left_in-renamed (with_new list a) (assignment_of a.assigned) (assignment_of (map (rename_entry ρ) a.assigned)) (entries_are_renamed ρ injective a.assigned)

  -- one assignment after another
  entries_among-renamed : (goals : List LfGoal) (entries : List LfAssigned) → entries_among (ids (map (rename_goal ρ) goals)) (map (rename_entry ρ) entries) ≡ map (rename_entry ρ) (entries_among (ids goals) entries)
  entries_among-renamed goals [] = refl
  entries_among-renamed goals (e ∷ rest) =
      step (list_any (nat_eq e.assigned_goal) (ids goals)) (list_any (nat_eq (ρ e.assigned_goal)) (ids (map (rename_goal ρ) goals))) (is_among-renamed ρ injective goals e.assigned_goal) (entries_among-renamed goals rest)
    where
      there : List LfAssigned
      there = entries_among (ids (map (rename_goal ρ) goals)) (map (rename_entry ρ) rest)

      step : (b c : Bool) → c ≡ b → there ≡ map (rename_entry ρ) (entries_among (ids goals) rest) →
          (if c then rename_entry ρ e ∷ there else there) ≡ map (rename_entry ρ) (if b then e ∷ entries_among (ids goals) rest else entries_among (ids goals) rest)
      step true true same later = ap (λ more. rename_entry ρ e ∷ more) later
      step false false same later = later
      step true false same later = absurd cc
      step false true same later = absurd cc

  abbrev entry_by : ℕ → ℕ → LfTerm → LfAssigned
  entry_by g count body = record { assigned_goal = g; binders_count = count; body = body }

  under_later-renamed : (between : List LfGoal) (later earlier : List LfAssigned) →
      map (under_later (map (rename_goal ρ) between) (map (rename_entry ρ) later)) (map (rename_entry ρ) earlier) ≡ map (rename_entry ρ) (map (under_later between later) earlier)
  under_later-renamed between later [] = refl
  under_later-renamed between later (e ∷ rest) =
      ap₂ (λ body more. entry_by (ρ e.assigned_goal) e.binders_count body ∷ more)
      ((instances_are_renamed ρ between (assignment_of later) (assignment_of (map (rename_entry ρ) later)) (entries_are_renamed ρ injective later)).0 e.body)
      (under_later-renamed between later rest)

  pub then_assigned-renamed : (goals between : List LfGoal) (earlier later : List LfAssigned) →
      then_assigned (ids (map (rename_goal ρ) goals)) (map (rename_goal ρ) between) (map (rename_entry ρ) earlier) (map (rename_entry ρ) later) ≡ map (rename_entry ρ) (then_assigned (ids goals) between earlier later)
  then_assigned-renamed goals between earlier later =
      ap₂ (λ xs ys. xs ++ ys) (under_later-renamed between later earlier) (entries_among-renamed goals later)
      ∙ sym (map-append (rename_entry ρ) (map (under_later between later) earlier) (entries_among (ids goals) later))

-- Numbers from one on are as many steps above it as their new numbers are above the other.
record Shifts (n m : ℕ) (top other : ℕ) : Type 0 where
  by : ℕ
  here : max n top ≡ n + by
  there : max m other ≡ m + by

module _ (ρ : ℕ → ℕ) (n m : ℕ) (takes : TakesNumbersFrom ρ n m) where
  one_taken : (id : ℕ) → n ≤ id → (j : ℕ) × (id ≡ n + j) × (ρ id ≡ m + j)
  one_taken id le = let whole : id ≡ n + (id - n) = omega (arith, le) in (id - n, whole, ap ρ whole ∙ takes (id - n))

  above-shifts : (goals : List LfGoal) → All (λ h. n ≤ h.id) goals → Shifts n m (above (ids goals)) (above (ids (map (rename_goal ρ) goals)))
  above-shifts [] fresh = record { by = 0; here = omega arith; there = omega arith }
  above-shifts (h ∷ rest) fresh = step (one_taken h.id (All-head (λ x. n ≤ x.id) h rest fresh)) (above-shifts rest (All-tail (λ x. n ≤ x.id) h rest fresh))
    where
      step : (j : ℕ) × (h.id ≡ n + j) × (ρ h.id ≡ m + j) → Shifts n m (above (ids rest)) (above (ids (map (rename_goal ρ) rest))) →
          Shifts n m (above (ids (h ∷ rest))) (above (ids (map (rename_goal ρ) (h ∷ rest))))
      step one later =
          let id_here = one.1 in
          let id_there = one.2 in
          let later_here = later.here in
          let later_there = later.there in
          record { by = max (suc one.0) later.by; here = omega (arith, id_here, later_here); there = omega (arith, id_there, later_there) }

  pub fresh_after-taken : (a : LfApplication) → All (λ h. n ≤ h.id) (a.proofs ++ a.witnesses) → TakesNumbersFrom ρ (fresh_after n a) (fresh_after m (rename_application ρ a))
  fresh_after-taken a fresh =
      let shifts = above-shifts (a.proofs ++ a.witnesses) fresh in
      let there : fresh_after m (rename_application ρ a) ≡ m + shifts.by =
      ap (λ hs. max m (above (ids hs))) (sym (map-append (rename_goal ρ) a.proofs a.witnesses)) ∙ shifts.there in
      λ k.
      let far : n + shifts.by + k ≡ n + (shifts.by + k) = omega arith in
      let other : m + (shifts.by + k) ≡ m + shifts.by + k = omega arith in
      ap (λ x. ρ (x + k)) shifts.here ∙ ap ρ far ∙ takes (shifts.by + k) ∙ other ∙ ap (λ x. x + k) (sym there)

pub lists_after_are_renamed : ListsAfterAreRenamed
lists_after_are_renamed = list_after-renamed
