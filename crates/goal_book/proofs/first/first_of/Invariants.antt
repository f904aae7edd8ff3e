use Rattle.std.proofs.Common.{◌≡◌, drop}
use Rattle.goal_book.specs.Rules.{rules_of}
use Rattle.goal_book.specs.Queries.{found_for, first_wanted}
use Rattle.goal_book.proofs.first.first_of.Given as goal

abbrev pub invariant-loop-number : goal.invariant-loop-number
invariant-loop-number l =
    first_wanted (found_for l.query) l.wanted (rules_of l.query.rules.now l.numbers) ≡ first_wanted (found_for l.query) l.wanted (rules_of l.query.rules.now (drop l.number-index l.numbers))
