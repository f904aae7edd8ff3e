-- Rules with their percentages, and the key that orders them.
use Rattle.std.specs.Prelude.{ℕ, ℤ, pos, neg_ℤ}
use Rattle.alternatives.specs.Rules.{LfRule}
use Rattle.alternatives.specs.Alternatives.{percent_of}
use Rattle.goal_book.specs.declared.ranking.Ranking.{Ranking}

abbrev pub ranking_of : LfRule → Ranking
ranking_of rule = record { percent = percent_of rule.phase; number = rule.number }

-- the percentage with its sign turned, and the number
abbrev pub key_of : Ranking → ℤ × ℕ
key_of ranking = (neg_ℤ (pos ranking.percent), ranking.number)
