-- Percentages of alternatives are at most 100 where those of the rules are, so that a cut at 100 changes nothing.
use Rattle.std.proofs.Common.{◌≡◌, ℕ, ◌≤◌, Bool, true, false, Option, Some, None, List, [], ◌∷◌, map, All, refl, ap₂, arith}
use Rattle.std.specs.Prelude.{not, if◌then◌else◌, filter}
use Rattle.std.proofs.Math.Nat.{min-eq_left}
use Rattle.std.proofs.lemmas.List.Elements.{All-nil, All-cons, All-head, All-tail, All-weaker, All-map, All-filter}
use Rattle.lf_definitions.specs.Signatures.{LfSignature}
use Rattle.lf_definitions.specs.GoalLists.{LfGoals}
use Rattle.applications.specs.Applications.{LfApplication}
use Rattle.alternatives.specs.Rules.{LfRule, is_normalising, found_by}
use Rattle.alternatives.specs.NormalForms.{LfNormal, normal_form}
use Rattle.alternatives.specs.Alternatives.{LfAlternative, safely, taken, first_safe, percent_of, chosen_as, ranked, choices_of, committed_or_chosen, as_done, alternatives_from, alternatives}
use Rattle.taken_alternatives.proofs.Lists.{All-flat_map, All-ranked}
use Rattle.derivations.specs.Derivations.{alternatives_of}
use Rattle.derivations.specs.Unfolding.{branches_of}
use Rattle.rule_problem.specs.Problems.{as_branch, capped}
use Rattle.rule_problem.proofs.BookRules.{IsLow}

abbrev IsLowAlternative : LfAlternative → Type 0
IsLowAlternative alternative = alternative.percent ≤ 100

alone : (alternative : LfAlternative) → alternative.percent ≤ 100 → All IsLowAlternative (alternative ∷ [])
alone alternative low = All-cons IsLowAlternative alternative [] low (All-nil IsLowAlternative)

module _ (sig : LfSignature) (rules : List LfRule) (low : All IsLow rules) (list : LfGoals) where
  choices_are_low : (normal : LfNormal) (rule : LfRule) → IsLow rule → All IsLowAlternative (choices_of sig list normal rule)
  choices_are_low normal rule is_low =
      let taken_by : LfApplication → LfAlternative = λ a. taken list normal (chosen_as rule.phase a.label) (percent_of rule.phase) a in
      All-map IsLowAlternative taken_by (found_by sig normal.fresh normal.goals rule) (λ k d less. is_low)

  committed_or_chosen_are_low : (normal : LfNormal) (o : Option LfApplication) → All IsLowAlternative (committed_or_chosen sig rules list normal o)
  committed_or_chosen_are_low normal (Some a) = alone (taken list normal (safely a.label) 100 a) (omega arith)
  committed_or_chosen_are_low normal None =
      let is_chosen : LfRule → Bool = λ rule. not (is_normalising rule.phase) in
      let others = filter is_chosen rules in
      All-flat_map IsLowAlternative (choices_of sig list normal) (ranked others)
      (All-weaker IsLow (λ rule. All IsLowAlternative (choices_of sig list normal rule)) (choices_are_low normal) (ranked others) (All-ranked IsLow others (All-filter is_chosen IsLow rules low)))

  from_normal_form : (normal : LfNormal) → All IsLowAlternative (alternatives_from sig rules list normal)
  from_normal_form normal = step normal.closed
    where
      step : (closed : Bool) →
          All IsLowAlternative (if closed then as_done normal ∷ [] else committed_or_chosen sig rules list normal (first_safe sig rules normal.fresh normal.goals))
      step true = alone (as_done normal) (omega arith)
      step false = committed_or_chosen_are_low normal (first_safe sig rules normal.fresh normal.goals)

  alternatives_are_low : (n : ℕ) → All IsLowAlternative (alternatives sig rules n list)
  unfolding alternatives
  alternatives_are_low n = from_normal_form (normal_form sig rules n list)

nothing_is_cut : (branches : List (ℕ × List LfGoals)) → All (λ branch. branch.0 ≤ 100) branches → map capped branches ≡ branches
nothing_is_cut [] low = refl
nothing_is_cut (branch ∷ rest) low =
    let is_low : branch.0 ≤ 100 = All-head (λ (b : ℕ × List LfGoals). b.0 ≤ 100) branch rest low in
    ap₂ (λ percent more. (percent, branch.1) ∷ more) (min-eq_left is_low) (nothing_is_cut rest (All-tail (λ (b : ℕ × List LfGoals). b.0 ≤ 100) branch rest low))

pub no_branch_is_cut : (sig : LfSignature) (rules : List LfRule) → All IsLow rules → (list : LfGoals) → map capped (branches_of sig rules list) ≡ branches_of sig rules list
unfolding branches_of
no_branch_is_cut sig rules low list =
    nothing_is_cut (map as_branch (alternatives_of sig rules list)) (All-map (λ branch. branch.0 ≤ 100) as_branch (alternatives_of sig rules list) (alternatives_are_low sig rules low list _))
