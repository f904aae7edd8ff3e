-- The words after `prove` are read where each can be, and no command otherwise.
use Rattle.std.proofs.Common.{◌≡◌, ◌↔◌, ◌∷◌, ℕ, List, Some, option_map, codes, map, rules, subst}
use Rattle.command_words.specs.Commands.{LfOptions, IsProve}
use Rattle.command_words.specs.Given.{options_of}
use Rattle.command_words.proofs.CommandWords.{found_none, command_readable}
use Rattle.command_words.proofs.options_after.Goals as goal

pub returns-in_ok-found-in-Some : goal.returns-in_ok-found-in-Some
returns-in_ok-found-in-Some c =
    let words_are : map (λ text. text.now) c.as_slice.result.now ≡ c.args.words.now = search rules in
    subst (λ (words : List (List ℕ)). (o : LfOptions) → (option_map options_of c.in_ok-found-in-Some.found ≡ Some o) ↔ IsProve (codes "prove" ∷ words) o) words_are c.in_ok-found-in-Some.ensures

pub returns-in-None : goal.returns-in-None
returns-in-None c = found_none (IsProve (codes "prove" ∷ c.args.words.now)) (λ o p. c.in_ok-texts.ensures.none (search rules) (command_readable c.args.words.now o p))
