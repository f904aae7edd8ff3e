use Rattle.std.proofs.Common.{rules, ◌≡◌}
use Rattle.std.proofs.lemmas.List.Sorted.{answers_always}
use Rattle.rule_sets.specs.Candidates.{key_of}
use Rattle.rule_sets.proofs.Candidates.{is_order}
use Rattle.rule_sets.proofs.book.RuleBook.active.Goals as goal

pub returns : goal.returns
returns c =
    is_order c.args.self.now c.args.sets.now c.in_ok-chosen.chosen c.in_ok-candidates.candidates.items c.sort_unstable_by_key.new.self.items c.in_ok-chosen.ensures c.in_ok-candidates.ensures
    c.sort_unstable_by_key.ensures.permutation
    (c.sort_unstable_by_key.ensures.sorted key_of (answers_always _ (λ a r. r ≡ key_of a.0.now) _ (λ f a r f' k. search rules))) c.in_ok-items.items.items (search rules)
