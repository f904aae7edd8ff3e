-- What the options of a command are, and which words no call serves.
use Rattle.std.proofs.Common.{◌≡◌, ◌↔◌, ℕ, ◌<◌, ◌≤◌, List, Option, None, Some, ap, sym, ◌∙◌, arith}
use Rattle.std.specs.Prelude.{option_map}
use Rattle.command_words.specs.Commands.{LfOptions, GivesWorkers, usual_workers, workers_apart, workers_joined, GivesBudget, usual_budget, budget_apart, budget_joined, IsProve}
use Rattle.aesop_session.specs.Calls.{LfCall, still_call, every_call, IsServed, IsServedCommand, IsStillCommand}

budget_positive : (words : List (List ℕ)) (n : ℕ) → GivesBudget words n → 0 < n
budget_positive _ _ usual_budget = omega arith
budget_positive _ _ (budget_apart word n budget) = omega (arith, budget.some)
budget_positive _ _ (budget_joined word n budget) = omega (arith, budget.some)

workers_few : (words : List (List ℕ)) (n : ℕ) → GivesWorkers words n → n ≤ 64
workers_few _ _ usual_workers = omega arith
workers_few _ _ (workers_apart word n workers) = workers.most
workers_few _ _ (workers_joined word n workers) = workers.most

-- a budget is no zero
pub command_budget : (words : List (List ℕ)) (o : LfOptions) → IsProve words o → 0 < o.budget
command_budget words o p = budget_positive p.budget_words o.budget p.budget

-- and workers are few
pub command_workers : (words : List (List ℕ)) (o : LfOptions) → IsProve words o → o.workers ≤ 64
command_workers words o p = workers_few p.workers_words o.workers p.workers

served_is_prove : (call : LfCall) (words : List (List ℕ)) (o : LfOptions) → IsServed call words o → IsProve words o
served_is_prove still_call words o served = served.0
served_is_prove every_call words o served = served

module _ {A : Type 0} (view : A → LfOptions) (words : List (List ℕ)) (found : Option A) (gives : (o : LfOptions) → (option_map view found ≡ Some o) ↔ IsProve words o) where
  -- where no options were found, the words are no command of either call
  pub no_command : (call : LfCall) → found ≡ None → IsServedCommand call words → ⊥
  no_command call none command =
      let some : option_map view found ≡ Some command.0 = (gives command.0).1 (served_is_prove call words command.0 command.1) in
      let clash : None ≡ Some command.0 = sym (ap (option_map view) none) ∙ some in
      cc

  module _ (options : A) (is : found ≡ Some options) where
    -- where some were found, the words are a command with these
    pub found_prove : IsProve words (view options)
    found_prove = (gives (view options)).0 (ap (option_map view) is)

    pub found_budget : 0 < (view options).budget
    found_budget = command_budget words (view options) found_prove

    pub found_workers : (view options).workers ≤ 64
    found_workers = command_workers words (view options) found_prove

    -- and where these have workers, no command without
    pub no_still_command : ((view options).workers ≡ 0 → ⊥) → IsStillCommand words → ⊥
    no_still_command some command =
        let both : Some (view options) ≡ Some command.0 = sym (ap (option_map view) is) ∙ (gives command.0).1 command.1.0 in
        let same : view options ≡ command.0 = cc in
        some (ap (λ (o : LfOptions). o.workers) same ∙ command.1.1)
