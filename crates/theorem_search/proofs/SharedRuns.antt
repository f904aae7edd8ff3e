-- Settled runs over a book are settled runs over the unfolding of a theorem.
use Rattle.std.proofs.Common.{◌≡◌, ◌<◌, ℕ, zero, suc, Bool, true, List, sym, subst, arith}
use Rattle.lf_definitions.specs.Syntax.{LfType}
use Rattle.lf_definitions.specs.Signatures.{LfSignature}
use Rattle.lf_definitions.specs.GoalLists.{LfGoals, opening}
use Rattle.alternatives.specs.Rules.{LfRule}
use Rattle.derivations.specs.Unfolding.{branches_of}
use Rattle.tree_runs.specs.Runs.{is_run, is_settled}
use Rattle.tree_runs.specs.States.{TreeEvent, state_of}
use Rattle.answer_definitions.specs.Blocks.{LfBlock}
use Rattle.answer_definitions.specs.Settled.{IsSettledRun}
use Rattle.theorem_search.specs.Answers.{IsSharedAnswer, IsAnswerOf}

-- What is known of the branches, the root and the budget of a tree makes its events a settled run for the theorem.
pub settled_over_rules : (sig : LfSignature) (rules : List LfRule) (a : LfType) (branches : LfGoals → List (ℕ × List LfGoals)) (root : LfGoals) (own_budget budget : ℕ) (events : List TreeEvent) →
    branches ≡ branches_of sig rules → root ≡ opening a → own_budget ≡ budget → is_run branches own_budget root events ≡ true → is_settled branches budget (state_of branches root events) ≡ true →
    IsSettledRun sig rules a budget events
settled_over_rules sig rules a branches root own_budget budget events of opens same run settled =
    subst (λ list. (is_run (branches_of sig rules) budget list events ≡ true) × (is_settled (branches_of sig rules) budget (state_of (branches_of sig rules) list events) ≡ true) → IsSettledRun sig rules a budget events)
    (sym opens) (λ both. record { run = both.0; settled = both.1 })
    (subst (λ expand. (is_run expand budget root events ≡ true) × (is_settled expand budget (state_of expand root events) ≡ true)) of (subst (λ n. is_run branches n root events ≡ true) same run, settled))

-- Where there is a worker, what the workers answer is the answer.
pub is_answer : (sig : LfSignature) (rules : List LfRule) (a : LfType) (budget : ℕ) (trace : Bool) (name : List ℕ) (workers : ℕ) (block : LfBlock) → 0 < workers →
    IsSharedAnswer sig rules a budget trace name workers block → IsAnswerOf sig rules a budget trace name workers block
is_answer sig rules a budget trace name zero block some answer = absurd (omega (arith, some))
is_answer sig rules a budget trace name (suc n) block some answer = answer
