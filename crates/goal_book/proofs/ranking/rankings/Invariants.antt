use Rattle.std.proofs.Common.{◌≡◌, map, filter, take}
use Rattle.goal_book.specs.Rules.{rules_of}
use Rattle.goal_book.specs.Choices.{may_be_chosen}
use Rattle.goal_book.specs.Rankings.{ranking_of}
use Rattle.goal_book.proofs.ranking.rankings.Given as goal

abbrev pub invariant-loop-number : goal.invariant-loop-number
invariant-loop-number l = l.found.items ≡ map ranking_of (filter may_be_chosen (rules_of l.rules (take l.number-index l.numbers)))
