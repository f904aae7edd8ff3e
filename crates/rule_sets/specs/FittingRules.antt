-- What a rule of a book says of the signature, by its builder.
use Rattle.std.specs.Prelude.{◌≡◌, ℕ, suc, ◌<◌, ◌≤◌, List, length, Some, slice_get}
use Rattle.lf_definitions.specs.Syntax.{LfType}
use Rattle.lf_definitions.specs.Signatures.{LfSignature, constant_types, family_kinds}
use Rattle.rule_sets.specs.declared.rule.Phase.{Phase}
use Rattle.rule_sets.specs.declared.rule.Phase.TheVariants.{Unsafe}
use Rattle.rule_sets.specs.declared.rule.Builder.{Builder}
use Rattle.rule_sets.specs.declared.rule.Builder.TheVariants.{Apply, Constructors, Cases, Forward, Destruct}
use Rattle.rule_sets.specs.declared.rule.Rule.{Rule}
use Rattle.rule_sets.specs.Books.{Book, list_of}
use Rattle.rule_sets.specs.Refusals.{IsMajor, HasPremises, AreConstructors, IsOver}

-- An unsafe rule has a percentage.
abbrev pub IsPercent : Phase → Type 0
IsPercent (Unsafe percent) = percent ≤ 100
IsPercent _ = Unit {0}

-- The constant has a type.
pub record IsConstant (sig : LfSignature) (subject : ℕ) : Type 0 where
  pub type : LfType
  pub type_is : slice_get (constant_types sig) subject ≡ Some type

-- The family has a list in the book, of constructors that it has in the signature.
pub record IsListed (sig : LfSignature) (book : Book) (subject : ℕ) : Type 0 where
  pub constants : List ℕ
  pub list_is : list_of book.lists subject ≡ Some constants
  pub family_is : subject < length (family_kinds sig)
  pub constructors : AreConstructors sig subject constants

-- Each builder but cases has no major argument, and none is built in.
abbrev pub FitsBuilder : LfSignature → Book → Builder → (subject major : ℕ) → Type 0
FitsBuilder sig book Apply subject major = IsConstant sig subject × (major ≡ 0)
FitsBuilder sig book Constructors subject major = IsListed sig book subject × (major ≡ 0)
FitsBuilder sig book Cases subject major = IsMajor sig subject major
FitsBuilder sig book Forward subject major = HasPremises sig subject × (major ≡ 0)
FitsBuilder sig book Destruct subject major = HasPremises sig subject × (major ≡ 0)
FitsBuilder sig book _ subject major = ⊥

-- A rule fits a signature, with the lists of a book.
pub record FitsSignature (sig : LfSignature) (book : Book) (rule : Rule) : Type 0 where
  pub percent : IsPercent rule.phase
  pub builder : FitsBuilder sig book rule.builder rule.subject rule.major

-- Each rule after the two built-in ones fits the signature that its book is over.
abbrev pub RulesOfABookFit : Type 0
RulesOfABookFit = (sig : LfSignature) (book : Book) → IsOver sig book → (place : ℕ) (rule : Rule) → slice_get book.rules (suc (suc place)) ≡ Some rule → FitsSignature sig book rule
