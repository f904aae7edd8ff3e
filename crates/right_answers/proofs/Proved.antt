-- The test of a run's state says what is proved in the set of its committed addresses, and the marks of its root are those of the empty address.
use Rattle.std.proofs.Common.{◌≡◌, ◌↔◌, ℕ, zero, suc, ◌+◌, ◌<◌, ◌≤◌, Bool, true, List, [], None, sym, subst, arith}
use Rattle.std.specs.Prelude.{◌&&◌}
use Rattle.std.specs.List.{Contains}
use Rattle.std.proofs.lemmas.Bool.{and_parts, and_from}
use Rattle.std.proofs.lemmas.List.Elements.{All-contains}
use Rattle.std.proofs.lemmas.Option.{slice_get_within}
use Rattle.lf_definitions.specs.Syntax.{LfType}
use Rattle.lf_definitions.specs.Signatures.{LfSignature}
use Rattle.lf_definitions.specs.GoalLists.{LfGoals, opening}
use Rattle.applications.specs.Candidates.{counting_from}
use Rattle.application_laws.proofs.Lists.{numbers_within}
use Rattle.alternatives.specs.Rules.{LfRule}
use Rattle.clusters.proofs.Elements.{any_found, found_any}
use Rattle.derivations.specs.Unfolding.{branches_of}
use Rattle.tree_runs.specs.Shapes.{nodes_count}
use Rattle.tree_runs.specs.Addresses.{Address, address_of, Proved, Stuck}
use Rattle.tree_runs.specs.Marks.{is_proved, is_stuck}
use Rattle.tree_runs.specs.States.{TreeEvent, TreeState}
use Rattle.tree_runs.specs.Runs.{is_run}
use Rattle.tree_runs.specs.Soundness.{committed_addresses, IsSound}
use Rattle.tree_runs.proofs.Addresses.{address_of-root}
use Rattle.tree_runs.proofs.AddressMarks.{runs_agree}
use Rattle.tree_runs.proofs.Soundness.{runs_are_sound}
use Rattle.mark_laws.proofs.Entries.{contains_first, contains_later, is_image}
use Rattle.answer_definitions.specs.Chosen.{same_address}
use Rattle.chosen_scripts.specs.Laws.{SaysWhatIsProved}
use Rattle.chosen_scripts.proofs.Addresses.{same_address_decides}
use Rattle.chosen_scripts.proofs.Choices.{proved_is_committed}
use Rattle.answer_definitions.specs.Right.{state_after}
use Rattle.answer_definitions.specs.Settled.{is_proved_at}
use Rattle.right_answers.proofs.Committed.{commit_stands}

-- Each number below the count is among those counted.
counted : (first count place : ℕ) → place < count → Contains (counting_from first count) (first + place)
counted first zero place within = absurd (omega (arith, within))
counted first (suc count) zero within =
    let same : first ≡ first + 0 = omega arith in
    subst (Contains (counting_from first (suc count))) same (contains_first (counting_from (suc first) count) first)
counted first (suc count) (suc place) within =
    let same : suc first + place ≡ first + suc place = omega arith in
    subst (Contains (counting_from first (suc count))) same (contains_later first (counting_from (suc first) count) (suc first + place) (counted (suc first) count place (omega (arith, within))))

module _ (sig : LfSignature) (rules : List LfRule) (budget : ℕ) (a : LfType) (events : List TreeEvent) (run : is_run (branches_of sig rules) budget (opening a) events ≡ true) where
  abbrev State : TreeState LfGoals
  State = state_after sig rules a events

  abbrev IsProvedAt : Address → Type 0
  IsProvedAt = Proved (branches_of sig rules) (opening a) (committed_addresses State)

  abbrev IsStuckAt : Address → Type 0
  IsStuckAt = Stuck (branches_of sig rules) (opening a) (committed_addresses State)

  pub state_is_sound : IsSound (branches_of sig rules) (opening a) budget State
  state_is_sound = runs_are_sound (branches_of sig rules) (opening a) budget events run

  -- The marks of a node are those of its address.
  abbrev MarksAre : ℕ → Address → Type 0
  MarksAre node address = ((is_proved State.shape node ≡ true) ↔ IsProvedAt address) × ((is_stuck State.shape node ≡ true) ↔ IsStuckAt address)

  marks_are : (node : ℕ) → node < nodes_count State.shape → MarksAre node (address_of State.shape node)
  marks_are node stands = runs_agree (branches_of sig rules) budget (opening a) events run node stands

  pub root_marks : MarksAre 0 []
  root_marks = subst (MarksAre 0) (address_of-root State.shape state_is_sound.is_shape) (marks_are 0 (slice_get_within State.shape.above 0 None state_is_sound.is_shape.root))

  abbrev tested_at : Address → ℕ → Bool
  tested_at address node = same_address (address_of State.shape node) address && is_proved State.shape node

  proved_from_test : (address : Address) → is_proved_at State.shape address ≡ true → IsProvedAt address
  proved_from_test address is =
      let found = any_found (tested_at address) (counting_from 0 (nodes_count State.shape)) is in
      let both = and_parts (same_address (address_of State.shape found.0) address) (is_proved State.shape found.0) found.2 in
      let within = All-contains (λ (node : ℕ). (0 ≤ node) × (node < 0 + nodes_count State.shape)) (counting_from 0 (nodes_count State.shape)) found.0 (numbers_within 0 (nodes_count State.shape)) found.1 in
      let low = within.1 in
      subst IsProvedAt ((same_address_decides (address_of State.shape found.0) address).0 both.0) ((marks_are found.0 (omega (arith, low))).0.0 both.1)

  test_from_proved : (address : Address) → IsProvedAt address → is_proved_at State.shape address ≡ true
  test_from_proved address is =
      let there = proved_is_committed (λ d. is_proved_at State.shape d) address sig rules a (committed_addresses State) is in
      let image = is_image (address_of State.shape) State.committed address there in
      let node = image.item in
      let stands = (commit_stands (branches_of sig rules) (opening a) budget State state_is_sound node image.contained).stands in
      let none : 0 + node ≡ node = omega arith in
      found_any (tested_at address) (counting_from 0 (nodes_count State.shape)) node (subst (Contains (counting_from 0 (nodes_count State.shape))) none (counted 0 (nodes_count State.shape) node stands))
      (and_from (same_address (address_of State.shape node) address) (is_proved State.shape node) ((same_address_decides (address_of State.shape node) address).1 image.image)
      ((marks_are node stands).0.1 (subst IsProvedAt (sym image.image) is)))

  pub test_says_what_is_proved : SaysWhatIsProved sig rules a (committed_addresses State) (is_proved_at State.shape)
  test_says_what_is_proved address = (proved_from_test address, test_from_proved address)
