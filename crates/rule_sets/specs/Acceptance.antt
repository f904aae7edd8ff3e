-- What a rule that a book accepts has, each part by itself.
use Rattle.std.specs.Prelude.{◌≡◌, ℕ, suc, ◌≤◌, List, length, Some, All}
use Rattle.lf_definitions.specs.Syntax.{LfType}
use Rattle.lf_definitions.specs.Occurrence.{Premises}
use Rattle.lf_definitions.specs.Signatures.{LfSignature}
use Rattle.rule_sets.specs.declared.rule.Rule.{Rule}
use Rattle.rule_sets.specs.Books.{Book}
use Rattle.rule_sets.specs.Refusals.{IsTaken, IsFull, IsRuleOver, IsAtomic, argument_at}

-- The book has room for the rule, under its name.
pub record IsFree (book : Book) (rule : Rule) : Type 0 where
  pub not_taken : IsTaken book rule → ⊥
  pub not_full : IsFull book → ⊥

pub record HasNoFault (sig : LfSignature) (book : Book) (rule : Rule) : Type 0 where
  pub free : IsFree book rule
  pub fits : IsRuleOver sig book rule

-- The type has this argument, counted from 1, and the argument has no binders.
pub record HasMajor (type : LfType) (major : ℕ) : Type 0 where
  pub place : ℕ
  pub argument : LfType
  pub place_is : major ≡ suc place
  pub argument_is : argument_at type place ≡ Some argument
  pub atomic : IsAtomic argument

-- The type has 1 to 4 premises, none of which has binders.
pub record HasPremisesOf (type : LfType) : Type 0 where
  pub premises : List LfType
  pub premises_are : Premises type premises
  pub some : 1 ≤ length premises
  pub few : length premises ≤ 4
  pub atomic : All IsAtomic premises
