-- What settled runs answer: the chosen script of a proved theorem closes it, and the answer is right.
use Rattle.std.proofs.Common.{◌≡◌, ℕ, Bool, true, false, List, [], ◌∷◌, length, Option, Some, refl, sym, ap, subst, ◌∙◌, arith}
use Rattle.std.specs.Prelude.{◌||◌, ◌==◌}
use Rattle.std.proofs.lemmas.Bool.{and_parts, eqb-true}
use Rattle.std.proofs.lemmas.List.{length-map}
use Rattle.lf_definitions.specs.Syntax.{LfTerm, LfType}
use Rattle.lf_definitions.specs.ShapedGoals.{kind_shapes_in}
use Rattle.lf_definitions.specs.Shaping.{ShapedType}
use Rattle.lf_definitions.specs.Signatures.{LfSignature}
use Rattle.lf_definitions.specs.GoalLists.{LfGoals, opening}
use Rattle.lf_definitions.proofs.ShapedGoals.{ShapedSignature-FormedSignature, shapes_of-typing_in}
use Rattle.lf_definitions.proofs.Typing.{ShapedType-Formed}
use Rattle.alternatives.specs.Rules.{LfRule}
use Rattle.derivations.specs.Replays.{LfStep, closed, replay}
use Rattle.derivations.specs.Unfolding.{branches_of}
use Rattle.tree_runs.specs.Addresses.{address_of}
use Rattle.tree_runs.specs.Marks.{is_decided, is_proved}
use Rattle.tree_runs.specs.States.{TreeEvent, TreeState}
use Rattle.tree_runs.specs.Runs.{is_run}
use Rattle.tree_runs.specs.Soundness.{committed_addresses}
use Rattle.tree_derivations.specs.Laws.{IsTheorem}
use Rattle.tree_derivations.proofs.Laws.{marks_decide_derivability}
use Rattle.typed_replays.proofs.Replays.{replayed_terms_are_typed}
use Rattle.answer_definitions.specs.Chosen.{chosen_script}
use Rattle.chosen_scripts.proofs.Scripts.{chosen_scripts_replay}
use Rattle.answer_definitions.specs.Blocks.{LfVerdict, proved, stuck, spent}
use Rattle.answer_definitions.specs.Right.{state_after, IsEnded, ShowsProof, IsRightVerdict}
use Rattle.answer_definitions.specs.Settled.{is_proved_at, script_by, events_shown, IsVerdictBy, IsSettledRun}
use Rattle.answer_definitions.specs.Theorems.{IsFormedTheorem}
use Rattle.right_answers.proofs.Committed.{commits_differ, addresses_differ}
use Rattle.right_answers.proofs.Proved.{state_is_sound, root_marks, test_says_what_is_proved}

no_items : {X : Type 0} (xs : List X) → (length xs == 0) ≡ true → xs ≡ []
no_items [] none = refl
no_items (x ∷ xs) none = let size = eqb-true (length (x ∷ xs)) 0 none in absurd (omega (arith, size))

-- What is well formed is shaped.
pub formed_is_shaped : (sig : LfSignature) (rules : List LfRule) (a : LfType) → IsFormedTheorem sig rules a → IsTheorem sig rules a
formed_is_shaped sig rules a formed = record {
  signature = ShapedSignature-FormedSignature sig formed.signature;
  rules_take_atoms = formed.rules_take_atoms;
  type = subst (λ Γ. ShapedType (kind_shapes_in sig) Γ a) (shapes_of-typing_in sig [] []) (ShapedType-Formed formed.type);
}

module _ (sig : LfSignature) (rules : List LfRule) (a : LfType) (formed : IsFormedTheorem sig rules a) (budget : ℕ) (events : List TreeEvent) where
  abbrev State : TreeState LfGoals
  State = state_after sig rules a events

  theorem : IsTheorem sig rules a
  theorem = formed_is_shaped sig rules a formed

  -- Where the root is proved, in any run, the chosen script closes the theorem.
  pub script_closes : is_run (branches_of sig rules) budget (opening a) events ≡ true → is_proved State.shape 0 ≡ true → (t : LfTerm) × (replay sig rules a (script_by sig rules a events) ≡ closed t)
  script_closes run is =
      let sound = state_is_sound sig rules budget a events run in
      let says = test_says_what_is_proved sig rules budget a events run in
      let differ = addresses_differ (branches_of sig rules) (opening a) budget State sound (commits_differ (branches_of sig rules) (opening a) budget events run) in
      let root = (says []).1 ((root_marks sig rules budget a events run).0.0 is) in
      let closes = chosen_scripts_replay sig rules a theorem formed.numbers_differ (committed_addresses State) differ (is_proved_at State.shape) says root in
      subst (λ n. (t : LfTerm) × (replay sig rules a (chosen_script sig rules a (is_proved_at State.shape) n) ≡ closed t)) (length-map State.committed (address_of State.shape)) closes

  module _ (settled : IsSettledRun sig rules a budget events) where
    ended : IsEnded sig rules budget a events
    ended = record { run = settled.run; none_held = no_items State.held (and_parts _ _ settled.settled).0 }

    all_spent : is_decided State.shape 0 ≡ false → length State.committed ≡ budget
    all_spent undecided =
        let over = (and_parts (length State.held == 0) (is_decided State.shape 0 || length State.committed == budget) settled.settled).1 in
        eqb-true (length State.committed) budget (ap (λ b. b || length State.committed == budget) (sym undecided) ∙ over)

    proof_is_shown : is_proved State.shape 0 ≡ true → (t : LfTerm) (script : List LfStep) (trace : Bool) (shown : Option (List TreeEvent)) → shown ≡ events_shown trace (proved t script) events → ShowsProof sig rules budget a shown
    proof_is_shown is t script true shown e = subst (ShowsProof sig rules budget a) (sym e) (ended, is)
    proof_is_shown is t script false shown e = subst (ShowsProof sig rules budget a) (sym e) tt

    stuck_shown : (trace : Bool) → events_shown trace stuck events ≡ Some events
    stuck_shown true = refl
    stuck_shown false = refl

    spent_shown : (trace : Bool) → events_shown trace spent events ≡ Some events
    spent_shown true = refl
    spent_shown false = refl

    -- What the run answers is right.
    pub verdict_is_right : (trace : Bool) (verdict : LfVerdict) (shown : Option (List TreeEvent)) → IsVerdictBy sig rules a events verdict → shown ≡ events_shown trace verdict events → IsRightVerdict sig rules budget a verdict shown
    verdict_is_right trace (proved t script) shown by e =
        let typed = replayed_terms_are_typed sig formed.signature rules formed.rules_take_atoms a formed.type script t by.2 in
        record { replays = by.2; typed = typed.0; no_metavariable = typed.1; shows = proof_is_shown by.0 t script trace shown e }
    verdict_is_right trace stuck shown by e = record {
      not_derivable = (marks_decide_derivability sig rules a theorem).1 (committed_addresses State) ((root_marks sig rules budget a events settled.run).1.0 by);
      journal = events;
      shown = e ∙ stuck_shown trace;
      ended = ended;
      root = by;
    }
    verdict_is_right trace spent shown by e = record { journal = events; shown = e ∙ spent_shown trace; ended = ended; commits = all_spent by; root = by }
