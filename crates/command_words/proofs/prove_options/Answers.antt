-- The words are `prove` and those after it.
use Rattle.std.proofs.Common.{◌≡◌, ◌↔◌, ◌∷◌, ℕ, List, Some, option_map, codes, length, take, drop, ◌-◌, ◌∙◌, refl, rules, subst}
use Rattle.command_words.specs.Commands.{LfOptions, IsProve}
use Rattle.command_words.specs.Given.{options_of}
use Rattle.command_words.proofs.CommandWords.{first_and_rest}
use Rattle.command_words.proofs.prove_options.Goals as goal

pub returns-in_ok-found-in-len1-up : goal.returns-in_ok-found-in-len1-up
returns-in_ok-found-in-len1-up c =
    let words_are : codes "prove" ∷ take (length c.as_slice.result.now - 1) (drop 1 c.as_slice.result.now) ≡ c.args.words.now =
    first_and_rest c.as_slice.result.now _ c.command-item.result c.in-len1-up.len_at_least c.command-item.is (search rules) refl ∙ c.as_slice.ensures in
    subst (λ (words : List (List ℕ)). (o : LfOptions) → (option_map options_of c.in_ok-found-in-len1-up.found ≡ Some o) ↔ IsProve words o) words_are c.in_ok-found-in-len1-up.ensures
