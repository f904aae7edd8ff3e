use Rattle.std.proofs.Common.{◌++◌, [], ◌∷◌, get_or, map, filter, sym, ap, ◌∙◌}
use Rattle.goal_book.specs.Rules.{rules_of}
use Rattle.goal_book.specs.Choices.{may_be_chosen}
use Rattle.goal_book.specs.Rankings.{ranking_of}
use Rattle.goal_book.proofs.Steps.{rankings_more}
use Rattle.goal_book.proofs.ranking.rankings.Goals as goal

pub loop-number-preserved : goal.loop-number-preserved
loop-number-preserved c =
    let book = c.args.rules.now in
    let numbers = c.args.numbers.now in
    let i = c.loop-number.number-index in
    c.in_ok-add_ranking.ensures
    ∙ ap (λ rs. rs ++ map ranking_of (filter may_be_chosen (rules_of book (get_or numbers i 0 ∷ [])))) c.loop-number.invariant
    ∙ sym (rankings_more book numbers i c.loop-number-test.true)
