-- Normal forms go along with renamings of metavariables.
use Rattle.std.proofs.Common.{◌≡◌, ℕ, zero, suc, Bool, true, false, Option, Some, None, option_map, List, [], ◌∷◌, ◌++◌, map, All, refl, sym, ap, ap₂, ◌∙◌, subst}
use Rattle.std.specs.Prelude.{not, ◌&&◌, cond, if◌then◌else◌, filter, find, flat_map}
use Rattle.std.proofs.lemmas.List.{map-append}
use Rattle.std.proofs.lemmas.List.Elements.{All-nil, All-append, All-head, All-tail}
use Rattle.lf_definitions.specs.ShapedGoals.{ShapedSignature}
use Rattle.lf_definitions.specs.Typing.{LfGoal}
use Rattle.lf_definitions.specs.Signatures.{LfSignature}
use Rattle.lf_definitions.specs.GoalLists.{LfGoals, all_goals, ids}
use Rattle.lf_definitions.specs.Instantiation.{rename_goal, IsInjective}
use Rattle.renamed_unification.specs.Laws.{rename_entry}
use Rattle.applications.specs.Applications.{LfApplication}
use Rattle.applications.specs.Laws.{TakesNumbersFrom, rename_application, rename_goals}
use Rattle.applications.proofs.RenamedApplications.{applications_are_renamed}
use Rattle.alternatives.specs.Rules.{LfRule, is_normalising, found_by}
use Rattle.alternatives.specs.ListsAfter.{list_after, fresh_after, then_assigned}
use Rattle.alternatives.specs.NormalForms.{has_none, has_one_at_most, is_lawful, first_lawful, LfNormal, stopped, after_step, step_or_stop, normal_within, most_normalising, normal_form}
use Rattle.renamed_alternatives.specs.Laws.{IsRenamedNormal, NormalFormsAreRenamed}
use Rattle.renamed_alternatives.proofs.NewNumbers.{HasFreshNumbers, new_numbers_are_fresh}
use Rattle.renamed_alternatives.proofs.ListsAfter.{all_goals-renamed, list_after-renamed, then_assigned-renamed, fresh_after-taken}

-- the first that passes a test
pub find-renamed : (ρ : ℕ → ℕ) (test : LfApplication → Bool) → ((a : LfApplication) → test (rename_application ρ a) ≡ test a) → (found : List LfApplication) →
    find test (map (rename_application ρ) found) ≡ option_map (rename_application ρ) (find test found)
find-renamed ρ test same [] = refl
find-renamed ρ test same (a ∷ rest) = ap₂ (λ b o. cond b (Some (rename_application ρ a)) o) (same a) (find-renamed ρ test same rest) ∙ step (test a)
  where
    step : (b : Bool) → cond b (Some (rename_application ρ a)) (option_map (rename_application ρ) (find test rest)) ≡ option_map (rename_application ρ) (cond b (Some a) (find test rest))
    step true = refl
    step false = refl

-- what it is true of where it is something
abbrev pub OfSome : (LfApplication → Type 0) → Option LfApplication → Type 0
OfSome P None = Unit {0}
OfSome P (Some a) = P a

pub of_found : (P : LfApplication → Type 0) (test : LfApplication → Bool) (found : List LfApplication) → All P found → OfSome P (find test found)
of_found P test [] all = tt
of_found P test (a ∷ rest) all = step (test a) (of_found P test rest (All-tail P a rest all))
  where
    step : (b : Bool) → OfSome P (find test rest) → OfSome P (cond b (Some a) (find test rest))
    step true later = All-head P a rest all
    step false later = later

has_none-renamed : (ρ : ℕ → ℕ) (goals : List LfGoal) → has_none (map (rename_goal ρ) goals) ≡ has_none goals
has_none-renamed ρ [] = refl
has_none-renamed ρ (g ∷ rest) = refl

has_one_at_most-renamed : (ρ : ℕ → ℕ) (goals : List LfGoal) → has_one_at_most (map (rename_goal ρ) goals) ≡ has_one_at_most goals
has_one_at_most-renamed ρ [] = refl
has_one_at_most-renamed ρ (g ∷ rest) = has_none-renamed ρ rest

is_lawful-renamed : (ρ : ℕ → ℕ) (a : LfApplication) → is_lawful (rename_application ρ a) ≡ is_lawful a
is_lawful-renamed ρ a = ap₂ (λ b c. not a.assigns_others && (b && c)) (has_none-renamed ρ a.witnesses) (has_one_at_most-renamed ρ a.proofs)

-- what several rules find
pub found-fresh : (sig : LfSignature) (n : ℕ) (list : LfGoals) (rules : List LfRule) → All (HasFreshNumbers n) (flat_map (found_by sig n list) rules)
found-fresh sig n list [] = All-nil (HasFreshNumbers n)
found-fresh sig n list (rule ∷ rest) =
    All-append (HasFreshNumbers n) (found_by sig n list rule) (flat_map (found_by sig n list) rest) (new_numbers_are_fresh sig n list rule) (found-fresh sig n list rest)

module _ (sig : LfSignature) (shaped : ShapedSignature sig) (ρ : ℕ → ℕ) (injective : IsInjective ρ) where
  pub found_by-renamed : (n m : ℕ) → TakesNumbersFrom ρ n m → (list : LfGoals) (rule : LfRule) → found_by sig m (rename_goals ρ list) rule ≡ map (rename_application ρ) (found_by sig n list rule)
  found_by-renamed n m takes list rule = (applications_are_renamed sig shaped ρ injective n m takes rule.number rule.method).1 list

  pub found-renamed : (n m : ℕ) → TakesNumbersFrom ρ n m → (list : LfGoals) (rules : List LfRule) →
      flat_map (found_by sig m (rename_goals ρ list)) rules ≡ map (rename_application ρ) (flat_map (found_by sig n list) rules)
  found-renamed n m takes list [] = refl
  found-renamed n m takes list (rule ∷ rest) =
      ap₂ (λ xs ys. xs ++ ys) (found_by-renamed n m takes list rule) (found-renamed n m takes list rest)
      ∙ sym (map-append (rename_application ρ) (found_by sig n list rule) (flat_map (found_by sig n list) rest))

  stopped-renamed : (closed : Bool) (n m : ℕ) → TakesNumbersFrom ρ n m → (list : LfGoals) → IsRenamedNormal ρ (stopped closed n list) (stopped closed m (rename_goals ρ list))
  stopped-renamed closed n m takes list = record { labels = refl; closed = refl; goals = refl; build = refl; fresh = takes }

  after_step-renamed : (list : LfGoals) (a : LfApplication) (normal other : LfNormal) → IsRenamedNormal ρ normal other → IsRenamedNormal ρ (after_step list a normal) (after_step (rename_goals ρ list) (rename_application ρ a) other)
  after_step-renamed list a normal other renamed = record {
    labels = ap (λ ls. a.label ∷ ls) renamed.labels;
    closed = renamed.closed;
    goals = renamed.goals;
    build = ap₂ (λ hs es. then_assigned (ids hs) (all_goals (list_after (rename_goals ρ list) (rename_application ρ a))) (map (rename_entry ρ) a.assigned) es) (all_goals-renamed ρ list) renamed.build
        ∙ ap (λ hs. then_assigned (ids (map (rename_goal ρ) (all_goals list))) hs (map (rename_entry ρ) a.assigned) (map (rename_entry ρ) normal.build))
        (ap all_goals (list_after-renamed ρ injective list a) ∙ all_goals-renamed ρ (list_after list a))
        ∙ then_assigned-renamed ρ injective (all_goals list) (all_goals (list_after list a)) a.assigned normal.build;
    fresh = renamed.fresh;
  }

  -- A function gives normal forms that are renamed.
  abbrev GoAlong : (ℕ → LfGoals → LfNormal) → Type 0
  GoAlong onward = (n m : ℕ) → TakesNumbersFrom ρ n m → (list : LfGoals) → IsRenamedNormal ρ (onward n list) (onward m (rename_goals ρ list))

  step_or_stop-renamed : (onward : ℕ → LfGoals → LfNormal) → GoAlong onward → (n m : ℕ) → TakesNumbersFrom ρ n m → (list : LfGoals) (o : Option LfApplication) → OfSome (HasFreshNumbers n) o →
      IsRenamedNormal ρ (step_or_stop n list onward o) (step_or_stop m (rename_goals ρ list) onward (option_map (rename_application ρ) o))
  step_or_stop-renamed onward along n m takes list None fresh = stopped-renamed false n m takes list
  step_or_stop-renamed onward along n m takes list (Some a) fresh = after_step-renamed list a _ _ (further a.proofs)
    where
      later : TakesNumbersFrom ρ (fresh_after n a) (fresh_after m (rename_application ρ a))
      later = fresh_after-taken ρ n m takes a fresh

      either : Bool → ℕ → LfGoals → LfNormal
      either b k after = if b then stopped true k after else onward k after

      at_renamed : (b : Bool) → IsRenamedNormal ρ (either b (fresh_after n a) (list_after list a)) (either b (fresh_after m (rename_application ρ a)) (rename_goals ρ (list_after list a)))
      at_renamed true = stopped-renamed true (fresh_after n a) (fresh_after m (rename_application ρ a)) later (list_after list a)
      at_renamed false = along (fresh_after n a) (fresh_after m (rename_application ρ a)) later (list_after list a)

      further : (proofs : List LfGoal) →
          IsRenamedNormal ρ (either (has_none proofs) (fresh_after n a) (list_after list a))
          (either (has_none (map (rename_goal ρ) proofs)) (fresh_after m (rename_application ρ a)) (list_after (rename_goals ρ list) (rename_application ρ a)))
      further proofs =
          let here = either (has_none proofs) (fresh_after n a) (list_after list a) in
          subst (λ b. IsRenamedNormal ρ here (either b (fresh_after m (rename_application ρ a)) (list_after (rename_goals ρ list) (rename_application ρ a)))) (sym (has_none-renamed ρ proofs))
          (subst (λ after. IsRenamedNormal ρ here (either (has_none proofs) (fresh_after m (rename_application ρ a)) after)) (sym (list_after-renamed ρ injective list a)) (at_renamed (has_none proofs)))

  first_lawful-renamed : (rules : List LfRule) (n m : ℕ) → TakesNumbersFrom ρ n m → (list : LfGoals) → first_lawful sig rules m (rename_goals ρ list) ≡ option_map (rename_application ρ) (first_lawful sig rules n list)
  first_lawful-renamed rules n m takes list =
      let normalising = filter (λ rule. is_normalising rule.phase) rules in
      ap (find is_lawful) (found-renamed n m takes list normalising) ∙ find-renamed ρ is_lawful (is_lawful-renamed ρ) (flat_map (found_by sig n list) normalising)

  normal_within-renamed : (most : ℕ) (rules : List LfRule) → GoAlong (normal_within most sig rules)
  normal_within-renamed zero rules n m takes list = stopped-renamed false n m takes list
  normal_within-renamed (suc most) rules n m takes list =
      let onward = normal_within most sig rules in
      let o = first_lawful sig rules n list in
      subst (λ other. IsRenamedNormal ρ (step_or_stop n list onward o) (step_or_stop m (rename_goals ρ list) onward other)) (sym (first_lawful-renamed rules n m takes list))
      (step_or_stop-renamed onward (normal_within-renamed most rules) n m takes list o
      (of_found (HasFreshNumbers n) is_lawful _ (found-fresh sig n list (filter (λ rule. is_normalising rule.phase) rules))))

pub normal_forms_are_renamed : NormalFormsAreRenamed
unfolding normal_form
normal_forms_are_renamed sig shaped rules ρ injective n m takes list = normal_within-renamed sig shaped ρ injective most_normalising rules n m takes list
