-- Which rules and lists of constructors a book refuses over a signature, and for which reason.
use Rattle.std.specs.Prelude.{◌≡◌, ◌≢◌, ℕ, suc, zero, ◌<◌, ◌≤◌, List, [], ◌∷◌, ◌++◌, length, Option, Some, None, slice_get, map, All, Contains, take, Result, Ok, Err}
use Rattle.basics.specs.Limits.{most_rules}
use Rattle.lf_definitions.specs.Syntax.{LfType, pi, family, conclusion}
use Rattle.lf_definitions.specs.Signatures.{LfSignature, constant_types, family_kinds}
use Rattle.lf_definitions.specs.Occurrence as occurrence
use Rattle.rule_sets.specs.declared.rule.Phase.{Phase}
use Rattle.rule_sets.specs.declared.rule.Phase.TheVariants as phases
use Rattle.rule_sets.specs.declared.rule.Builder.{Builder}
use Rattle.rule_sets.specs.declared.rule.Builder.TheVariants as builders
use Rattle.rule_sets.specs.declared.rule.Rule.{Rule}
use Rattle.rule_sets.specs.declared.rule.RuleFault.{RuleFault}
use Rattle.rule_sets.specs.declared.rule.RuleFault.TheVariants.{Taken, Full, Percent, NoConst, BadMajor, Premises, NoMemory}
use Rattle.rule_sets.specs.declared.rule.CtorFault.{CtorFault}
use Rattle.rule_sets.specs.declared.rule.CtorFault.TheVariants as ctors
use Rattle.rule_sets.specs.Books.{Book, Listed, first_book, list_of, IsUserBuilder}

-- a type with no binders
abbrev pub IsAtomic : LfType → Type 0
IsAtomic (pi a b) = ⊥
IsAtomic (family f args) = Unit {0}

-- the type of the argument at a place, from 0
abbrev pub argument_at : LfType → ℕ → Option LfType
argument_at (family f args) k = None
argument_at (pi a b) zero = Some a
argument_at (pi a b) (suc k) = argument_at b k

-- A rule of the book has the name.
abbrev pub IsTaken : Book → Rule → Type 0
IsTaken book rule = Contains (map (λ other. other.name) book.rules) rule.name

-- As many rules stand as may: the built-in ones and 10,000.
abbrev pub IsFull : Book → Type 0
IsFull book = most_rules ≤ length book.rules

abbrev pub IsNoPercent : Phase → Type 0
IsNoPercent (phases.Unsafe percent) = 100 < percent
IsNoPercent _ = ⊥

-- The subject is no constant, or no family with listed constructors.
abbrev pub HasNoSubject : LfSignature → Book → Builder → ℕ → Type 0
HasNoSubject sig book builders.Constructors subject = list_of book.lists subject ≡ None
HasNoSubject sig book _ subject = length (constant_types sig) ≤ subject

-- The constant's type has this argument, counted from 1, and the argument has no binders.
pub record IsMajor (sig : LfSignature) (subject major : ℕ) : Type 0 where
  pub type : LfType
  pub place : ℕ
  pub argument : LfType
  pub type_is : slice_get (constant_types sig) subject ≡ Some type
  pub place_is : major ≡ suc place
  pub argument_is : argument_at type place ≡ Some argument
  pub atomic : IsAtomic argument

abbrev pub IsBadMajor : LfSignature → Builder → (subject major : ℕ) → Type 0
IsBadMajor sig builders.Cases subject major = IsMajor sig subject major → ⊥
IsBadMajor sig _ subject major = major ≢ 0

-- The constant's type has 1 to 4 premises, none of which has binders.
pub record HasPremises (sig : LfSignature) (subject : ℕ) : Type 0 where
  pub type : LfType
  pub premises : List LfType
  pub type_is : slice_get (constant_types sig) subject ≡ Some type
  pub premises_are : occurrence.Premises type premises
  pub some : 1 ≤ length premises
  pub few : length premises ≤ 4
  pub atomic : All IsAtomic premises

abbrev pub HasBadPremises : LfSignature → Builder → ℕ → Type 0
HasBadPremises sig builders.Forward subject = HasPremises sig subject → ⊥
HasBadPremises sig builders.Destruct subject = HasPremises sig subject → ⊥
HasBadPremises sig _ subject = ⊥

-- The fault is the first that a rule has.
pub data IsFirstFault (sig : LfSignature) (book : Book) (rule : Rule) : RuleFault → Type 0 where
  taken : IsTaken book rule → IsFirstFault sig book rule Taken
  full : (IsTaken book rule → ⊥) → IsFull book → IsFirstFault sig book rule Full
  percent : (IsTaken book rule → ⊥) → (IsFull book → ⊥) → IsNoPercent rule.phase → IsFirstFault sig book rule Percent
  no_constant : (IsTaken book rule → ⊥) → (IsFull book → ⊥) → (IsNoPercent rule.phase → ⊥) →
      HasNoSubject sig book rule.builder rule.subject → IsFirstFault sig book rule NoConst
  bad_major : (IsTaken book rule → ⊥) → (IsFull book → ⊥) → (IsNoPercent rule.phase → ⊥) →
      (HasNoSubject sig book rule.builder rule.subject → ⊥) → IsBadMajor sig rule.builder rule.subject rule.major → IsFirstFault sig book rule BadMajor
  premises : (IsTaken book rule → ⊥) → (IsFull book → ⊥) → (IsNoPercent rule.phase → ⊥) →
      (HasNoSubject sig book rule.builder rule.subject → ⊥) → (IsBadMajor sig rule.builder rule.subject rule.major → ⊥) →
      HasBadPremises sig rule.builder rule.subject → IsFirstFault sig book rule Premises

-- A rule that is not built in fits a signature, with the constructors that are listed.
pub record IsRuleOver (sig : LfSignature) (book : Book) (rule : Rule) : Type 0 where
  pub builder : IsUserBuilder rule.builder
  pub percent : IsNoPercent rule.phase → ⊥
  pub subject : HasNoSubject sig book rule.builder rule.subject → ⊥
  pub major : IsBadMajor sig rule.builder rule.subject rule.major → ⊥
  pub premises : HasBadPremises sig rule.builder rule.subject → ⊥

-- A rule is added at the end where it has no fault; after a refusal the book is as it was.
abbrev pub AddsRule : LfSignature → Book → Rule → Result (Unit {0}) RuleFault → Book → Type 0
AddsRule sig old rule (Ok done) new =
    (IsTaken old rule → ⊥) × (IsFull old → ⊥) × IsRuleOver sig old rule × (new ≡ record { rules = old.rules ++ rule ∷ []; lists = old.lists })
AddsRule sig old rule (Err (NoMemory kept)) new = (kept ≡ rule) × (new ≡ old)
AddsRule sig old rule (Err fault) new = IsFirstFault sig old rule fault × (new ≡ old)

-- The constant's conclusion has the family.
pub record HasFamily (sig : LfSignature) (f constant : ℕ) : Type 0 where
  pub type : LfType
  pub type_is : slice_get (constant_types sig) constant ≡ Some type
  pub family_is : conclusion type ≡ f

-- Each of the constants stands once, and has the family as its conclusion's.
abbrev pub AreConstructors : LfSignature → ℕ → List ℕ → Type 0
AreConstructors sig f constants =
    (place constant : ℕ) → slice_get constants place ≡ Some constant → (Contains (take place constants) constant → ⊥) × HasFamily sig f constant

-- The fault is the first that a list of constructors has, place by place.
pub data IsFirstFaultOfList (sig : LfSignature) (book : Book) (f : ℕ) (constants : List ℕ) : CtorFault → Type 0 where
  list_taken : (list_of book.lists f ≡ None → ⊥) → IsFirstFaultOfList sig book f constants ctors.Taken
  list_repeated : (place constant : ℕ) → list_of book.lists f ≡ None → AreConstructors sig f (take place constants) →
      slice_get constants place ≡ Some constant → Contains (take place constants) constant → IsFirstFaultOfList sig book f constants (ctors.Repeated place)
  list_other : (place constant : ℕ) → list_of book.lists f ≡ None → AreConstructors sig f (take place constants) →
      slice_get constants place ≡ Some constant → (Contains (take place constants) constant → ⊥) → (HasFamily sig f constant → ⊥) →
      IsFirstFaultOfList sig book f constants (ctors.Other place)

-- A list is added where it has no fault; after a refusal the book is as it was.
abbrev pub AddsList : LfSignature → Book → ℕ → List ℕ → Result (Unit {0}) CtorFault → Book → Type 0
AddsList sig old f constants (Ok done) new = (list_of old.lists f ≡ None) × AreConstructors sig f constants
    × (new ≡ record { rules = old.rules; lists = old.lists ++ record { of_family = f; constants = constants } ∷ [] })
AddsList sig old f constants (Err (ctors.NoMemory kept)) new = (kept ≡ constants) × (new ≡ old)
AddsList sig old f constants (Err fault) new = IsFirstFaultOfList sig old f constants fault × (new ≡ old)

-- The constructors of the list, and its family, are of the signature.
pub record IsListOver (sig : LfSignature) (listed : Listed) : Type 0 where
  pub family_is : listed.of_family < length (family_kinds sig)
  pub constructors : AreConstructors sig listed.of_family listed.constants

-- The rules of a book were added over a signature: after the two built-in ones each fits it, and so does each list of constructors.
pub record IsOver (sig : LfSignature) (book : Book) : Type 0 where
  pub built_in : take 2 book.rules ≡ first_book.rules
  pub rules : (place : ℕ) (rule : Rule) → slice_get book.rules (suc (suc place)) ≡ Some rule → IsRuleOver sig book rule
  pub lists : All (IsListOver sig) book.lists
