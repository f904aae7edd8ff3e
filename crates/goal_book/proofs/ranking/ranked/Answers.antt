use Rattle.std.proofs.Common.{rules, ◌≡◌}
use Rattle.std.proofs.lemmas.List.Sorted.{answers_always}
use Rattle.goal_book.specs.Rankings.{key_of}
use Rattle.goal_book.proofs.SortedRanks.{ranked_within, ranked_are}
use Rattle.goal_book.proofs.ranking.ranked.Goals as goal

pub returns-clause-within : goal.returns-clause-within
returns-clause-within c =
    ranked_within c.args.rules.now c.args.numbers.now c.requires c.in_ok-candidates.candidates.items c.sort_unstable_by_key.new.self.items c.in_ok-candidates.ensures
    c.sort_unstable_by_key.ensures.permutation
    (c.sort_unstable_by_key.ensures.sorted key_of (answers_always _ (λ a r. r ≡ key_of a.0.now) _ (λ f a r f' k. search rules))) c.in_ok-found.found.items (search rules)

pub returns-clause-ranked : goal.returns-clause-ranked
returns-clause-ranked c =
    ranked_are c.args.rules.now c.args.numbers.now c.requires c.in_ok-candidates.candidates.items c.sort_unstable_by_key.new.self.items c.in_ok-candidates.ensures
    c.sort_unstable_by_key.ensures.permutation
    (c.sort_unstable_by_key.ensures.sorted key_of (answers_always _ (λ a r. r ≡ key_of a.0.now) _ (λ f a r f' k. search rules))) c.in_ok-found.found.items (search rules)
