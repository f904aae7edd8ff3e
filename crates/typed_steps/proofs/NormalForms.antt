-- Normal forms keep types.
use Rattle.std.proofs.Common.{◌≡◌, ℕ, zero, suc, Bool, true, false, Option, Some, None, List, All, refl, sym, subst}
use Rattle.std.specs.Prelude.{if◌then◌else◌, filter, flat_map}
use Rattle.std.proofs.Math.Nat.{le-max_left}
use Rattle.std.proofs.lemmas.List.Elements.{All-weaker, All-filter}
use Rattle.lf_definitions.specs.Signatures.{LfSignature}
use Rattle.lf_definitions.specs.GoalLists.{LfGoals, all_goals, ids, above}
use Rattle.lf_definitions.proofs.ShapedGoals.{ShapedSignature-FormedSignature}
use Rattle.typing_laws.proofs.ClosedTypes.{ShapedGoals-FormedGoals}
use Rattle.applications.specs.Applications.{LfApplication}
use Rattle.application_laws.specs.Conditions.{TakesAtoms, new_goals}
use Rattle.alternatives.specs.Rules.{LfRule, is_normalising, found_by}
use Rattle.alternatives.specs.ListsAfter.{list_after, fresh_after}
use Rattle.alternatives.specs.NormalForms.{has_none, is_lawful, first_lawful, LfNormal, stopped, after_step, step_or_stop, normal_within, most_normalising, normal_form}
use Rattle.alternatives.specs.Steps.{IsStep}
use Rattle.alternatives.specs.Reaching.{MayBeExpanded, IsReached}
use Rattle.step_laws.proofs.Laws.{applications_are_steps}
use Rattle.build_laws.proofs.Laws.{nothing_follows}
use Rattle.taken_alternatives.proofs.Laws.{normal_forms_are_reached}
use Rattle.taken_alternatives.proofs.Lists.{All-find, All-flat_map}
use Rattle.taken_alternatives.proofs.Numbers.{no_number_back}
use Rattle.typed_steps.specs.Laws.{KeepsTypes, MayBeTyped, NormalFormsKeepTypes}
use Rattle.typed_steps.proofs.Applications.{applications_keep_types}
use Rattle.typed_steps.proofs.Following.{nothing_keeps_types, keeping_follows}

pub as_expanded : (sig : LfSignature) (rules : List LfRule) (n : ℕ) (list : LfGoals) → MayBeTyped sig rules n list → MayBeExpanded sig rules n list
as_expanded sig rules n list may = record {
  signature = ShapedSignature-FormedSignature sig may.signature;
  goals = ShapedGoals-FormedGoals sig (all_goals list) may.goals;
  below = may.below;
  rules_take_atoms = may.rules_take_atoms;
}

-- A step that keeps types.
abbrev pub StepsWell : LfSignature → ℕ → LfGoals → LfApplication → Type 0
StepsWell sig n list a = IsStep sig n list a × KeepsTypes sig list (list_after list a) a.assigned

pub all_step_well : (sig : LfSignature) (rules : List LfRule) (n : ℕ) (list : LfGoals) → MayBeTyped sig rules n list → All (λ rule. All (StepsWell sig n list) (found_by sig n list rule)) rules
all_step_well sig rules n list may = λ i d less k e within. (steps i d less k e within, applications_keep_types sig rules n list may i d less k e within)
  where
    expanded : MayBeExpanded sig rules n list
    expanded = as_expanded sig rules n list may

    steps : All (λ rule. All (IsStep sig n list) (found_by sig n list rule)) rules
    steps =
        All-weaker (λ rule. TakesAtoms sig rule.method) (λ rule. All (IsStep sig n list) (found_by sig n list rule))
        (λ rule atoms. applications_are_steps sig expanded.signature list expanded.goals n may.below rule atoms) rules may.rules_take_atoms

-- Of a normal form it is enough to look at its list and its build.
abbrev pub KeptBy : LfSignature → LfGoals → LfNormal → Type 0
KeptBy sig list normal = KeepsTypes sig list normal.goals normal.build

module _ (sig : LfSignature) (rules : List LfRule) (n : ℕ) (list : LfGoals) (may : MayBeTyped sig rules n list) where
  stop_keeps_types : (closed : Bool) → KeptBy sig list (stopped closed n list)
  stop_keeps_types closed = nothing_keeps_types sig (ShapedSignature-FormedSignature sig may.signature) list may.goals

  module _ (a : LfApplication) (well : StepsWell sig n list a) where
    abbrev After : LfGoals
    After = list_after list a

    abbrev Next : ℕ
    Next = fresh_after n a

    may_after : MayBeTyped sig rules Next After
    may_after = record { signature = may.signature; goals = well.1.formed; below = well.0.below; rules_take_atoms = may.rules_take_atoms }

    closed_keeps_types : KeptBy sig list (after_step list a (stopped true Next After))
    closed_keeps_types = subst (KeepsTypes sig list After) (sym (nothing_follows.0 (ids (all_goals list)) (all_goals After) a.assigned)) well.1

    onward_keeps_types : (rest : LfNormal) → IsReached sig Next After rest → KeptBy sig After rest → KeptBy sig list (after_step list a rest)
    onward_keeps_types rest reached kept =
        keeping_follows sig list After rest.goals a.assigned rest.build well.0.takes reached.takes
        (no_number_back list After rest.goals n Next (le-max_left n (above (ids (new_goals a)))) well.0.old_or_new reached.old_or_new may.below) well.1 kept

  first_steps_well : (a : LfApplication) → first_lawful sig rules n list ≡ Some a → StepsWell sig n list a
  first_steps_well a e =
      let found = found_by sig n list in
      let normalising = filter (λ rule. is_normalising rule.phase) rules in
      All-find (StepsWell sig n list) is_lawful (flat_map found normalising)
      (All-flat_map (StepsWell sig n list) found normalising (All-filter (λ rule. is_normalising rule.phase) (λ rule. All (StepsWell sig n list) (found rule)) rules (all_step_well sig rules n list may))) a e

  by_first : (onward : ℕ → LfGoals → LfNormal) → ((k : ℕ) (after : LfGoals) → MayBeTyped sig rules k after → IsReached sig k after (onward k after) × KeptBy sig after (onward k after)) →
      (o : Option LfApplication) → first_lawful sig rules n list ≡ o → KeptBy sig list (step_or_stop n list onward o)
  by_first onward keeps None is = stop_keeps_types false
  by_first onward keeps (Some a) is = each (has_none a.proofs)
    where
      well : StepsWell sig n list a
      well = first_steps_well a is

      each : (b : Bool) → KeptBy sig list (after_step list a (if b then stopped true (fresh_after n a) (list_after list a) else onward (fresh_after n a) (list_after list a)))
      each true = closed_keeps_types a well
      each false = let r = keeps (fresh_after n a) (list_after list a) (may_after a well) in onward_keeps_types a well (onward (fresh_after n a) (list_after list a)) r.0 r.1

within_keeps_types : (most : ℕ) (sig : LfSignature) (rules : List LfRule) (n : ℕ) (list : LfGoals) → MayBeTyped sig rules n list → KeptBy sig list (normal_within most sig rules n list)
within_keeps_types zero sig rules n list may = stop_keeps_types sig rules n list may false
within_keeps_types (suc most) sig rules n list may =
    by_first sig rules n list may (normal_within most sig rules)
    (λ k after may_then. ((normal_forms_are_reached sig rules k after (as_expanded sig rules k after may_then)).0 most, within_keeps_types most sig rules k after may_then)) (first_lawful sig rules n list) refl

pub normal_forms_keep_types : NormalFormsKeepTypes
unfolding normal_form
normal_forms_keep_types sig rules n list may = (λ most. within_keeps_types most sig rules n list may, within_keeps_types most_normalising sig rules n list may)
