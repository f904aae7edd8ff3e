-- The rules that may be tried, with the key that orders them.
use Rattle.std.specs.Prelude.{◌≡◌, ℕ, ◌<◌, ℤ, pos, neg_ℤ, List, Some, Contains, slice_get, nat_eq, All}
use Rattle.std.specs.List.{IsDistinct}
use Rattle.rule_sets.specs.declared.rule.Phase.{Phase}
use Rattle.rule_sets.specs.declared.rule.Phase.TheVariants.{Norm, Safe, Unsafe}
use Rattle.rule_sets.specs.declared.rule.Rule.{Rule}
use Rattle.rule_sets.specs.declared.order.Candidate.{Candidate}
use Rattle.rule_sets.specs.Books.{Book}

-- the stage, the penalty or the percentage with its sign turned, and the number
abbrev pub key_in : Phase → ℕ → ℕ × ℤ × ℕ
key_in (Norm penalty) number = (0, penalty, number)
key_in (Safe penalty) number = (1, penalty, number)
key_in (Unsafe percent) number = (2, neg_ℤ (pos percent), number)

abbrev pub key_of : Candidate → ℕ × ℤ × ℕ
key_of candidate = key_in candidate.phase candidate.number

-- The rule of the candidate's number is of a chosen set, and has its phase.
pub record IsCandidate (book : Book) (chosen : List (List ℕ)) (candidate : Candidate) : Type 0 where
  pub rule : Rule
  pub rule_is : slice_get book.rules candidate.number ≡ Some rule
  pub phase_is : candidate.phase ≡ rule.phase
  pub is_chosen : Contains chosen rule.set

-- Of the rules below a number, those of the chosen sets have a candidate each.
pub record AreCandidates (book : Book) (chosen : List (List ℕ)) (bound : ℕ) (candidates : List Candidate) : Type 0 where
  pub are_candidates : All (IsCandidate book chosen) candidates
  pub all : (number : ℕ) (rule : Rule) → number < bound → slice_get book.rules number ≡ Some rule → Contains chosen rule.set →
      Contains candidates (record { phase = rule.phase; number = number })
  pub below : All (λ candidate. candidate.number < bound) candidates
  pub apart : IsDistinct (λ candidate other. nat_eq candidate.number other.number) candidates
