-- Alternatives go along with renamings of metavariables.
use Rattle.std.proofs.Common.{◌≡◌, ℕ, Bool, true, false, Option, Some, None, option_map, List, [], ◌∷◌, ◌++◌, map, refl, sym, ap, ap₂, ◌∙◌}
use Rattle.std.specs.Prelude.{not, filter, find, flat_map, if◌then◌else◌}
use Rattle.std.proofs.lemmas.List.{map-append}
use Rattle.lf_definitions.specs.ShapedGoals.{ShapedSignature}
use Rattle.lf_definitions.specs.Signatures.{LfSignature}
use Rattle.lf_definitions.specs.GoalLists.{LfGoals, all_goals, ids}
use Rattle.lf_definitions.specs.Instantiation.{LfAssigned, IsInjective}
use Rattle.renamed_unification.specs.Laws.{rename_entry}
use Rattle.applications.specs.Methods.{LfLabel}
use Rattle.applications.specs.Applications.{LfApplication}
use Rattle.applications.specs.Laws.{TakesNumbersFrom, rename_application, rename_goals}
use Rattle.alternatives.specs.Rules.{LfRule, is_normalising, is_safe, found_by}
use Rattle.alternatives.specs.ListsAfter.{then_assigned}
use Rattle.alternatives.specs.NormalForms.{LfNormal, normal_form}
use Rattle.alternatives.specs.Alternatives.{LfLast, safely, LfAlternative, taken, may_be_committed, first_safe, percent_of, chosen_as, ranked, choices_of, committed_or_chosen, as_done, alternatives_from, alternatives}
use Rattle.renamed_alternatives.specs.Laws.{IsRenamedNormal, rename_alternative, AlternativesAreRenamed}
use Rattle.renamed_alternatives.proofs.ListsAfter.{all_goals-renamed, list_after-renamed, then_assigned-renamed}
use Rattle.renamed_alternatives.proofs.NormalForms.{find-renamed, found_by-renamed, found-renamed, normal_forms_are_renamed}

abbrev normal_by : List LfLabel → Bool → LfGoals → List LfAssigned → ℕ → LfNormal
normal_by labels closed goals build fresh = record { labels = labels; closed = closed; goals = goals; build = build; fresh = fresh }

-- a normal form renamed, with another first fresh number
abbrev renamed_normal : (ℕ → ℕ) → ℕ → LfNormal → LfNormal
renamed_normal ρ fresh normal = normal_by normal.labels normal.closed (rename_goals ρ normal.goals) (map (rename_entry ρ) normal.build) fresh

renamed_normal-is : (ρ : ℕ → ℕ) (normal other : LfNormal) → IsRenamedNormal ρ normal other → other ≡ renamed_normal ρ other.fresh normal
renamed_normal-is ρ normal other renamed =
    ap₂ (λ labels closed. normal_by labels closed other.goals other.build other.fresh) renamed.labels renamed.closed
    ∙ ap₂ (λ goals build. normal_by normal.labels normal.closed goals build other.fresh) renamed.goals renamed.build

abbrev alternative_by : List LfLabel → LfLast → ℕ → LfGoals → List LfAssigned → LfAlternative
alternative_by norm last percent goals build = record { norm = norm; last = last; percent = percent; goals = goals; build = build }

module _ (sig : LfSignature) (shaped : ShapedSignature sig) (ρ : ℕ → ℕ) (injective : IsInjective ρ) (list : LfGoals) (normal : LfNormal) (m : ℕ) (takes : TakesNumbersFrom ρ normal.fresh m) where
  abbrev Other : LfNormal
  Other = renamed_normal ρ m normal

  taken-renamed : (last : LfLast) (percent : ℕ) (a : LfApplication) → taken (rename_goals ρ list) Other last percent (rename_application ρ a) ≡ rename_alternative ρ (taken list normal last percent a)
  taken-renamed last percent a =
      ap₂ (alternative_by normal.labels last percent) (list_after-renamed ρ injective normal.goals a)
      (ap₂ (λ hs between. then_assigned (ids hs) between (map (rename_entry ρ) normal.build) (map (rename_entry ρ) a.assigned)) (all_goals-renamed ρ list) (all_goals-renamed ρ normal.goals)
      ∙ then_assigned-renamed ρ injective (all_goals list) (all_goals normal.goals) normal.build a.assigned)

  all_taken : (last : LfApplication → LfLast) → ((a : LfApplication) → last (rename_application ρ a) ≡ last a) → (percent : ℕ) (found : List LfApplication) →
      map (λ a. taken (rename_goals ρ list) Other (last a) percent a) (map (rename_application ρ) found) ≡ map (rename_alternative ρ) (map (λ a. taken list normal (last a) percent a) found)
  all_taken last same percent [] = refl
  all_taken last same percent (a ∷ rest) =
      ap₂ (λ x xs. x ∷ xs)
      (ap (λ l. taken (rename_goals ρ list) Other l percent (rename_application ρ a)) (same a) ∙ taken-renamed (last a) percent a)
      (all_taken last same percent rest)

  choices_of-renamed : (rule : LfRule) → choices_of sig (rename_goals ρ list) Other rule ≡ map (rename_alternative ρ) (choices_of sig list normal rule)
  choices_of-renamed rule =
      ap (map (λ a. taken (rename_goals ρ list) Other (chosen_as rule.phase a.label) (percent_of rule.phase) a)) (found_by-renamed sig shaped ρ injective normal.fresh m takes normal.goals rule)
      ∙ all_taken (λ a. chosen_as rule.phase a.label) (λ a. refl) (percent_of rule.phase) (found_by sig normal.fresh normal.goals rule)

  all_choices : (rules : List LfRule) → flat_map (choices_of sig (rename_goals ρ list) Other) rules ≡ map (rename_alternative ρ) (flat_map (choices_of sig list normal) rules)
  all_choices [] = refl
  all_choices (rule ∷ rest) =
      ap₂ (λ xs ys. xs ++ ys) (choices_of-renamed rule) (all_choices rest) ∙ sym (map-append (rename_alternative ρ) (choices_of sig list normal rule) (flat_map (choices_of sig list normal) rest))

  committed_or_chosen-renamed : (rules : List LfRule) (o : Option LfApplication) →
      committed_or_chosen sig rules (rename_goals ρ list) Other (option_map (rename_application ρ) o) ≡ map (rename_alternative ρ) (committed_or_chosen sig rules list normal o)
  committed_or_chosen-renamed rules (Some a) = ap (λ x. x ∷ []) (taken-renamed (safely a.label) 100 a)
  committed_or_chosen-renamed rules None = all_choices (ranked (filter (λ rule. not (is_normalising rule.phase)) rules))

  first_safe-renamed : (rules : List LfRule) → first_safe sig rules m (rename_goals ρ normal.goals) ≡ option_map (rename_application ρ) (first_safe sig rules normal.fresh normal.goals)
  first_safe-renamed rules =
      let safe_rules = filter (λ rule. is_safe rule.phase) rules in
      ap (find may_be_committed) (found-renamed sig shaped ρ injective normal.fresh m takes normal.goals safe_rules)
      ∙ find-renamed ρ may_be_committed (λ a. refl) (flat_map (found_by sig normal.fresh normal.goals) safe_rules)

  alternatives_from-renamed : (rules : List LfRule) → alternatives_from sig rules (rename_goals ρ list) Other ≡ map (rename_alternative ρ) (alternatives_from sig rules list normal)
  alternatives_from-renamed rules =
      ap (λ o. if normal.closed then as_done Other ∷ [] else committed_or_chosen sig rules (rename_goals ρ list) Other o) (first_safe-renamed rules)
      ∙ step normal.closed
    where
      o : Option LfApplication
      o = first_safe sig rules normal.fresh normal.goals

      step : (b : Bool) → (if b then as_done Other ∷ [] else committed_or_chosen sig rules (rename_goals ρ list) Other (option_map (rename_application ρ) o))
          ≡ map (rename_alternative ρ) (if b then as_done normal ∷ [] else committed_or_chosen sig rules list normal o)
      step true = refl
      step false = committed_or_chosen-renamed rules o

pub alternatives_are_renamed : AlternativesAreRenamed
unfolding alternatives
alternatives_are_renamed sig shaped rules ρ injective n m takes list =
    let normal = normal_form sig rules n list in
    let other = normal_form sig rules m (rename_goals ρ list) in
    let renamed : IsRenamedNormal ρ normal other = normal_forms_are_renamed sig shaped rules ρ injective n m takes list in
    ap (alternatives_from sig rules (rename_goals ρ list)) (renamed_normal-is ρ normal other renamed)
    ∙ alternatives_from-renamed sig shaped ρ injective list normal other.fresh renamed.fresh rules
