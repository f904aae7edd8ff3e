-- The number that a value gives.
use Rattle.std.proofs.Common.{◌≡◌, ◌∙◌, ◌↔◌, ℕ, Some, subst, List, Option, option_map, ap, sym}
use Rattle.command_words.specs.Given.{GivenWorkers}
use Rattle.command_words.proofs.workers_given.Goals as goal

pub returns-in-Some : goal.returns-in-Some
returns-in-Some c =
    subst (λ (value : Option (List ℕ)). (n : ℕ) → (c.workers_in.result ≡ Some n) ↔ GivenWorkers value n) (ap Some c.as_bytes.ensures.value ∙ ap (option_map (λ text. text.now)) (sym c.in-Some.is)) c.workers_in.ensures
