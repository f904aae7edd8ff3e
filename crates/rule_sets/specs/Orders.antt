-- The rules of some sets, in the order in which they are tried.
use Rattle.std.specs.Prelude.{◌≡◌, ◌↔◌, ◌⊎◌, ℕ, ◌<◌, ◌<ℤ◌, ℤ, List, codes, Some, slice_get, Contains}
use Rattle.rule_sets.specs.declared.rule.Phase.{Phase}
use Rattle.rule_sets.specs.declared.rule.Phase.TheVariants.{Norm, Safe, Unsafe}
use Rattle.rule_sets.specs.declared.rule.Rule.{Rule}
use Rattle.rule_sets.specs.Books.{Book}

-- The rule of this number is of a listed set, or of the built-in set, which is always active.
pub record IsActive (book : Book) (sets : List (List ℕ)) (number : ℕ) : Type 0 where
  pub rule : Rule
  pub rule_is : slice_get book.rules number ≡ Some rule
  pub active : Contains sets rule.set ⊎ (rule.set ≡ codes "builtin")

-- Normalisation rules come first, then safe rules, and then unsafe ones; lower penalties come first, and higher percentages.
pub data IsBefore : Phase → Phase → Type 0 where
  norm_before_safe : (p q : ℤ) → IsBefore (Norm p) (Safe q)
  norm_before_unsafe : (p : ℤ) (n : ℕ) → IsBefore (Norm p) (Unsafe n)
  safe_before_unsafe : (p : ℤ) (n : ℕ) → IsBefore (Safe p) (Unsafe n)
  lower_norm : (p q : ℤ) → p <ℤ q → IsBefore (Norm p) (Norm q)
  lower_safe : (p q : ℤ) → p <ℤ q → IsBefore (Safe p) (Safe q)
  higher_unsafe : (m n : ℕ) → n < m → IsBefore (Unsafe m) (Unsafe n)

-- The rule of the one number is tried before that of the other: by their phases, or else by their numbers.
pub record IsTriedBefore (book : Book) (first second : ℕ) : Type 0 where
  pub rule : Rule
  pub other : Rule
  pub rule_is : slice_get book.rules first ≡ Some rule
  pub other_is : slice_get book.rules second ≡ Some other
  pub before : IsBefore rule.phase other.phase ⊎ ((rule.phase ≡ other.phase) × (first < second))

-- The numbers of the active rules, each before those that are tried after it.
pub record IsOrder (book : Book) (sets : List (List ℕ)) (numbers : List ℕ) : Type 0 where
  pub active : (number : ℕ) → Contains numbers number ↔ IsActive book sets number
  pub ordered : (i j first second : ℕ) → i < j → slice_get numbers i ≡ Some first → slice_get numbers j ≡ Some second → IsTriedBefore book first second
