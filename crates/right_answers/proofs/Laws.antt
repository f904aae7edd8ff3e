-- The laws of answers.
use Rattle.std.proofs.Common.{◌≡◌, inl, inr, ℕ, ◌≤◌, Bool, true, false, List, length, Option, Some, refl, sym, ap, subst, ◌∙◌, arith}
use Rattle.std.specs.List.{Contains}
use Rattle.std.proofs.lemmas.Bool.{both_ways, or_parts, or_from}
use Rattle.std.proofs.lemmas.List.{length-map}
use Rattle.lf_definitions.specs.Syntax.{LfTerm, LfType}
use Rattle.lf_definitions.specs.Signatures.{LfSignature}
use Rattle.lf_definitions.specs.GoalLists.{LfGoals, opening}
use Rattle.alternatives.specs.Rules.{LfRule}
use Rattle.derivations.specs.Replays.{LfStep, closed, replay}
use Rattle.derivations.specs.Unfolding.{branches_of, goals_at}
use Rattle.derivations.proofs.Scripts.{derivable_types_replay}
use Rattle.tree_runs.specs.Addresses.{Address, address_of}
use Rattle.tree_runs.specs.Marks.{is_decided, is_proved, is_stuck}
use Rattle.tree_runs.specs.States.{TreeEvent, TreeState, start}
use Rattle.tree_runs.specs.Soundness.{committed_addresses}
use Rattle.tree_runs.specs.Runs.{IsStillRun}
use Rattle.tree_runs.proofs.Marks.{marks_exclude}
use Rattle.tree_runs.proofs.StillRuns.{still_is_one, still_is_run}
use Rattle.tree_runs.proofs.StillRunsExist.{still_run_exists}
use Rattle.tree_derivations.proofs.Laws.{small_theorems_are_decided}
use Rattle.answer_definitions.specs.Blocks.{LfVerdict, proved, stuck, spent, LfBlock}
use Rattle.answer_definitions.specs.Right.{state_after, IsRightVerdict, IsSpentRun, IsRight}
use Rattle.answer_definitions.specs.Settled.{script_by, events_shown, IsVerdictBy, IsAnswerBy, IsSettledRun, IsStillAnswer}
use Rattle.right_answers.specs.Laws.{ChosenScriptsOfRunsReplay, SettledAnswersAreRight, StillAnswersAreUnique, RightAnswersDecideDerivability, SmallTheoremsAreNotSpent}
use Rattle.answer_definitions.specs.Theorems.{IsFormedTheorem, SaysOfDerivations}
use Rattle.right_answers.proofs.Committed.{commits_differ, addresses_stand, addresses_differ}
use Rattle.right_answers.proofs.Proved.{state_is_sound, root_marks}
use Rattle.right_answers.proofs.Settled.{script_closes, verdict_is_right}

pub chosen_scripts_of_runs_replay : ChosenScriptsOfRunsReplay
chosen_scripts_of_runs_replay sig rules a formed budget events run is = script_closes sig rules a formed budget events run is

pub settled_answers_are_right : SettledAnswersAreRight
settled_answers_are_right sig rules a formed budget events settled trace name block answer =
    record { name_is = answer.name_is; verdict = verdict_is_right sig rules a formed budget events settled trace block.verdict block.events answer.verdict answer.events_are }

-- ---- the still run has one answer

module _ (sig : LfSignature) (rules : List LfRule) (a : LfType) (events : List TreeEvent) where
  abbrev State : TreeState LfGoals
  State = state_after sig rules a events

  -- There is a verdict by the marks of the root.
  verdict_by_marks : (is_proved State.shape 0 ≡ true → (t : LfTerm) × (replay sig rules a (script_by sig rules a events) ≡ closed t)) → (verdict : LfVerdict) × IsVerdictBy sig rules a events verdict
  verdict_by_marks closes = each (is_proved State.shape 0) (is_stuck State.shape 0) refl refl
    where
      each : (p s : Bool) → is_proved State.shape 0 ≡ p → is_stuck State.shape 0 ≡ s → (verdict : LfVerdict) × IsVerdictBy sig rules a events verdict
      each true s is other = let closed_by = closes is in (proved closed_by.0 (script_by sig rules a events), (is, refl, closed_by.1))
      each false true is other = (stuck, other)
      each false false is other = (spent, or_from (is_proved State.shape 0) (is_stuck State.shape 0) is other)

  proved_once : (t u : LfTerm) (one two : List LfStep) → IsVerdictBy sig rules a events (proved t one) → IsVerdictBy sig rules a events (proved u two) → proved t one ≡ proved u two
  proved_once t u one two first second =
      let scripts : one ≡ two = first.1 ∙ sym second.1 in
      let both : closed t ≡ closed u = sym first.2 ∙ (ap (replay sig rules a) scripts ∙ second.2) in
      let terms : t ≡ u = cc in
      ap (λ x. proved x one) terms ∙ ap (proved u) scripts

  undecided_unproved : is_proved State.shape 0 ≡ true → is_decided State.shape 0 ≡ false → ⊥
  undecided_unproved is undecided = both_ways (is_proved State.shape 0) (or_parts (is_proved State.shape 0) (is_stuck State.shape 0) undecided).0 is

  undecided_unstuck : is_stuck State.shape 0 ≡ true → is_decided State.shape 0 ≡ false → ⊥
  undecided_unstuck is undecided = both_ways (is_stuck State.shape 0) (or_parts (is_proved State.shape 0) (is_stuck State.shape 0) undecided).1 is

  -- And it is the only one.
  one_verdict : (one two : LfVerdict) → IsVerdictBy sig rules a events one → IsVerdictBy sig rules a events two → one ≡ two
  one_verdict (proved t script) (proved u other) first second = proved_once t u script other first second
  one_verdict (proved t script) stuck first second = absurd (marks_exclude State.shape 0 first.0 second)
  one_verdict (proved t script) spent first second = absurd (undecided_unproved first.0 second)
  one_verdict stuck (proved u other) first second = absurd (marks_exclude State.shape 0 second.0 first)
  one_verdict stuck stuck first second = refl
  one_verdict stuck spent first second = absurd (undecided_unstuck first second)
  one_verdict spent (proved u other) first second = absurd (undecided_unproved second.0 first)
  one_verdict spent stuck first second = absurd (undecided_unstuck second first)
  one_verdict spent spent first second = refl

abbrev block_of : List ℕ → LfVerdict → Option (List TreeEvent) → LfBlock
block_of name verdict events = record { name = name; verdict = verdict; events = events }

same_blocks : (one two : LfBlock) → one.name ≡ two.name → one.verdict ≡ two.verdict → one.events ≡ two.events → one ≡ two
same_blocks one two names verdicts events =
    ap (λ n. block_of n one.verdict one.events) names ∙ (ap (λ v. block_of two.name v one.events) verdicts ∙ ap (block_of two.name two.verdict) events)

module _ (sig : LfSignature) (rules : List LfRule) (a : LfType) (trace : Bool) (name : List ℕ) (events : List TreeEvent) where
  one_answer : (one two : LfBlock) → IsAnswerBy sig rules a trace name events one → IsAnswerBy sig rules a trace name events two → one ≡ two
  one_answer one two first second =
      let verdicts = one_verdict sig rules a events one.verdict two.verdict first.verdict second.verdict in
      same_blocks one two (first.name_is ∙ sym second.name_is) verdicts (first.events_are ∙ (ap (λ v. events_shown trace v events) verdicts ∙ sym second.events_are))

module _ (sig : LfSignature) (rules : List LfRule) (a : LfType) (formed : IsFormedTheorem sig rules a) (budget : ℕ) where
  still_is_settled : (events : List TreeEvent) → IsStillRun (branches_of sig rules) budget (opening a) events → IsSettledRun sig rules a budget events
  still_is_settled events still = let known = still_is_run (branches_of sig rules) budget (start (opening a)) events still in record { run = known.0; settled = known.1 }

  module _ (trace : Bool) (name : List ℕ) where
    still_answer : (block : LfBlock) × IsStillAnswer sig rules a budget trace name block
    still_answer =
        let run = still_run_exists (branches_of sig rules) (opening a) budget in
        let found = verdict_by_marks sig rules a run.0 (script_closes sig rules a formed budget run.0 (still_is_settled run.0 run.1).run) in (
          block_of name found.0 (events_shown trace found.0 run.0),
          record { events = run.0; still = run.1; answer = record { name_is = refl; verdict = found.1; events_are = refl } },
        )

    one_still_answer : (one two : LfBlock) → IsStillAnswer sig rules a budget trace name one → IsStillAnswer sig rules a budget trace name two → one ≡ two
    one_still_answer one two first second =
        let runs = still_is_one (branches_of sig rules) budget (start (opening a)) second.events first.events second.still first.still in
        one_answer sig rules a trace name first.events one two first.answer (subst (λ events. IsAnswerBy sig rules a trace name events two) runs second.answer)

    still_answer_is_right : (block : LfBlock) → IsStillAnswer sig rules a budget trace name block → IsRight sig rules budget a name block
    still_answer_is_right block answer =
        settled_answers_are_right sig rules a formed budget answer.events (still_is_settled answer.events answer.still) trace name block answer.answer

pub still_answers_are_unique : StillAnswersAreUnique
still_answers_are_unique sig rules a formed budget trace name =
    (still_answer sig rules a formed budget trace name, one_still_answer sig rules a formed budget trace name, still_answer_is_right sig rules a formed budget trace name)

-- ---- what right answers say

verdict_says : (sig : LfSignature) (rules : List LfRule) (budget : ℕ) (a : LfType) (verdict : LfVerdict) (shown : Option (List TreeEvent)) → IsRightVerdict sig rules budget a verdict shown → SaysOfDerivations sig rules a verdict
verdict_says sig rules budget a (proved t script) shown right = (derivable_types_replay sig rules a).0 script t right.replays
verdict_says sig rules budget a stuck shown right = right.not_derivable
verdict_says sig rules budget a spent shown right = tt

pub right_answers_decide_derivability : RightAnswersDecideDerivability
right_answers_decide_derivability sig rules budget a name block right = verdict_says sig rules budget a block.verdict block.events right.verdict

module _ (sig : LfSignature) (rules : List LfRule) (a : LfType) (formed : IsFormedTheorem sig rules a) (budget : ℕ) (addresses : List Address) (size : length addresses ≤ budget)
    (covers : (address : Address) (list : LfGoals) → goals_at sig rules a address ≡ Some list → Contains addresses address)
  where
    none_is_spent : (shown : Option (List TreeEvent)) → IsSpentRun sig rules budget a shown → ⊥
    none_is_spent shown spent_run =
        let events = spent_run.journal in
        let run = spent_run.ended.run in
        let state = state_after sig rules a events in
        let sound = state_is_sound sig rules budget a events run in
        let differ = addresses_differ (branches_of sig rules) (opening a) budget state sound (commits_differ (branches_of sig rules) (opening a) budget events run) in
        let stand = addresses_stand (branches_of sig rules) (opening a) budget state sound in
        let count = length-map state.committed (address_of state.shape) in
        let commits = spent_run.commits in
        let marks = root_marks sig rules budget a events run in
        elim (small_theorems_are_decided sig rules a addresses covers (committed_addresses state) differ stand (omega (arith, size, count, commits))) [
          | inl is ↦ undecided_unproved sig rules a events (marks.0.1 is) spent_run.root
          | inr is ↦ undecided_unstuck sig rules a events (marks.1.1 is) spent_run.root
        ]

pub small_theorems_are_not_spent : SmallTheoremsAreNotSpent
small_theorems_are_not_spent sig rules a formed budget addresses size covers name block right is =
    none_is_spent sig rules a formed budget addresses size covers block.events (subst (λ verdict. IsRightVerdict sig rules budget a verdict block.events) is right.verdict)
