-- What the still run answers is an answer of any number of workers.
use Rattle.std.proofs.Common.{ℕ, zero, suc, ◌<◌, Bool, List, ◌∷◌, arith}
use Rattle.std.proofs.lemmas.List.Elements.{All-nil, All-cons}
use Rattle.lf_definitions.specs.Syntax.{LfType}
use Rattle.lf_definitions.specs.Signatures.{LfSignature}
use Rattle.lf_definitions.specs.GoalLists.{opening}
use Rattle.alternatives.specs.Rules.{LfRule}
use Rattle.derivations.specs.Unfolding.{branches_of}
use Rattle.tree_runs.specs.States.{TreeEvent, claim, commit, TreeState, start, after}
use Rattle.tree_runs.specs.Runs.{Still, settled, step}
use Rattle.tree_runs.proofs.StillRuns.{still_is_run}
use Rattle.tree_shared.specs.Seats.{seat_of, AreSeatsBelow}
use Rattle.answer_definitions.specs.Blocks.{LfBlock}
use Rattle.answer_definitions.specs.Settled.{IsStillAnswer}
use Rattle.theorem_search.specs.Answers.{IsAnswerOf}

module _ {S : Type 0} (branches : S → List (ℕ × List S)) (budget workers : ℕ) (some : 0 < workers) where
  -- all its seats are 0
  still_seats : (state : TreeState S) (events : List TreeEvent) → Still branches budget state events → AreSeatsBelow workers events
  still_seats _ _ (settled state e) = All-nil (λ event. seat_of event < workers)
  still_seats _ _ (step state node counts events going first second rest) =
      let later = still_seats (after branches (after branches state (claim 0 node)) (commit 0 node counts)) events rest in
      All-cons (λ event. seat_of event < workers) (claim 0 node) (commit 0 node counts ∷ events) some (All-cons (λ event. seat_of event < workers) (commit 0 node counts) events some later)

module _ (sig : LfSignature) (rules : List LfRule) (a : LfType) (budget : ℕ) (trace : Bool) (name : List ℕ) where
  pub still_answer_is_shared : (workers : ℕ) (block : LfBlock) → IsStillAnswer sig rules a budget trace name block → IsAnswerOf sig rules a budget trace name workers block
  still_answer_is_shared zero block answer = answer
  still_answer_is_shared (suc n) block answer =
      let known = still_is_run (branches_of sig rules) budget (start (opening a)) answer.events answer.still in
      record {
        events = answer.events;
        settled = record { run = known.0; settled = known.1 };
        seats = still_seats (branches_of sig rules) budget (suc n) (omega arith) (start (opening a)) answer.events answer.still;
        answers = answer.answer;
      }
