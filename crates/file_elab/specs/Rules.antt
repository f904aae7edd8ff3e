-- Reading a rule over a signature and a book: the rule, or the first thing that is wrong with its parts.
use Rattle.std.specs.Prelude.{◌≡◌, ℕ, ℤ, pos, neg_ℤ, ◌≤ℤ◌, negsuc, ◌+◌, ◌*◌, ◌-◌, ◌≤◌, List, [], ◌∷◌, codes, Option, Some, None, fold, if◌then◌else◌, nat_eq}
use Rattle.basics.specs.Places.{place_of}
use Rattle.lf_definitions.specs.Signatures.{LfSignature, constant_names, family_names}
use Rattle.file_trees.specs.declared.span.Span.{Span}
use Rattle.file_trees.specs.declared.decl_tree.RuleTree.{RuleTree}
use Rattle.file_trees.specs.declared.decl_tree.PhaseWord.{PhaseWord}
use Rattle.file_trees.specs.declared.decl_tree.PhaseWord.TheVariants as phase_words
use Rattle.file_trees.specs.declared.decl_tree.BuildWord.{BuildWord}
use Rattle.file_trees.specs.declared.decl_tree.BuildWord.TheVariants as build_words
use Rattle.rule_sets.specs.declared.rule.Phase.{Phase}
use Rattle.rule_sets.specs.declared.rule.Phase.TheVariants.{Norm, Safe, Unsafe}
use Rattle.rule_sets.specs.declared.rule.Builder.{Builder}
use Rattle.rule_sets.specs.declared.rule.Builder.TheVariants.{Apply, Constructors, Cases, Forward, Destruct}
use Rattle.rule_sets.specs.declared.rule.Rule.{Rule}
use Rattle.rule_sets.specs.Books.{Book, list_of}
use Rattle.rule_sets.specs.Refusals.{IsMajor, HasBadPremises}
use Rattle.elab_terms.specs.Names.{Text, text_at}
use Rattle.elab_terms.specs.declared.elab_fault.ElabFault.{ElabFault}
use Rattle.elab_terms.specs.declared.elab_fault.ElabFault.TheVariants.{Unknown, BadRule}

-- the value of digits
abbrev pub digits_value : List ℕ → ℕ
digits_value digits = fold (λ value digit. value * 10 + (digit - 48)) 0 digits

-- the value of a number: digits, or a minus terminal and digits
abbrev pub number_value : List ℕ → ℤ
number_value [] = pos 0
number_value (first ∷ rest) = if nat_eq first 45 then neg_ℤ (pos (digits_value rest)) else pos (digits_value (first ∷ rest))

-- A penalty fits 32 bits, and a percentage is at most 100.
pub data ReadsPhase : PhaseWord → ℤ → Phase → Type 0 where
  reads_norm : (penalty : ℤ) → negsuc 2147483647 ≤ℤ penalty → penalty ≤ℤ pos 2147483647 → ReadsPhase phase_words.Norm penalty (Norm penalty)
  reads_safe : (penalty : ℤ) → negsuc 2147483647 ≤ℤ penalty → penalty ≤ℤ pos 2147483647 → ReadsPhase phase_words.Safe penalty (Safe penalty)
  reads_unsafe : (percent : ℕ) → percent ≤ 100 → ReadsPhase phase_words.Unsafe (pos percent) (Unsafe percent)

abbrev pub builder_of : BuildWord → Builder
builder_of build_words.Apply = Apply
builder_of build_words.Constructors = Constructors
builder_of build_words.Cases = Cases
builder_of build_words.Forward = Forward
builder_of build_words.Destruct = Destruct

-- a family, where it has a list
abbrev pub family_if : ℕ → Option (List ℕ) → Option ℕ
family_if f None = None
family_if f (Some constants) = Some f

abbrev pub listed_family : Book → Option ℕ → Option ℕ
listed_family book None = None
listed_family book (Some f) = family_if f (list_of book.lists f)

-- The subject is a constant, or for constructors a family with a list of them.
abbrev pub subject_of : LfSignature → Book → Builder → List ℕ → Option ℕ
subject_of sig book Constructors name = listed_family book (place_of (family_names sig) name)
subject_of sig book _ name = place_of (constant_names sig) name

-- the number of the major argument: none is 0
abbrev pub major_value : Text → Option Span → ℤ
major_value text None = pos 0
major_value text (Some span) = number_value (text_at text span)

-- For cases it is that of an argument with no binders, and else 0.
abbrev pub IsMajorNumber : LfSignature → Builder → ℕ → ℤ → ℕ → Type 0
IsMajorNumber sig Cases subject value major = (value ≡ pos major) × IsMajor sig subject major
IsMajorNumber sig _ subject value major = (value ≡ pos 0) × (major ≡ 0)

-- where a wrong major argument is refused: at its number, or at the subject where there is none
abbrev pub major_place : Span → Option Span → ℕ
major_place subject None = subject.start
major_place subject (Some span) = span.start

abbrev pub set_of : Text → Option Span → List ℕ
set_of text None = codes "default"
set_of text (Some span) = text_at text span

-- The parts of a declaration are this rule.
pub record ReadsRule (text : Text) (sig : LfSignature) (book : Book) (parts : RuleTree) (rule : Rule) : Type 0 where
  pub name_is : rule.name ≡ text_at text parts.name
  pub set_is : rule.set ≡ set_of text parts.set
  pub phase_is : ReadsPhase parts.phase (number_value (text_at text parts.number)) rule.phase
  pub builder_is : rule.builder ≡ builder_of parts.builder
  pub subject_is : subject_of sig book (builder_of parts.builder) (text_at text parts.subject) ≡ Some rule.subject
  pub major_is : IsMajorNumber sig (builder_of parts.builder) rule.subject (major_value text parts.major) rule.major
  pub premises_are : HasBadPremises sig (builder_of parts.builder) rule.subject → ⊥

abbrev pub HasPhase : Text → PhaseWord → Span → Type 0
HasPhase text phase number = (value : Phase) × ReadsPhase phase (number_value (text_at text number)) value

abbrev pub HasMajorPlace : LfSignature → Builder → ℕ → ℤ → Type 0
HasMajorPlace sig builder subject value = (major : ℕ) × IsMajorNumber sig builder subject value major

-- The first of the parts that is refused: the number, then the subject, then the major argument, then the premises.
pub data RefusesRule (text : Text) (sig : LfSignature) (book : Book) (parts : RuleTree) : ElabFault → Type 0 where
  refuses_number : (HasPhase text parts.phase parts.number → ⊥) → RefusesRule text sig book parts (BadRule parts.number.start)
  refuses_subject : HasPhase text parts.phase parts.number → subject_of sig book (builder_of parts.builder) (text_at text parts.subject) ≡ None →
      RefusesRule text sig book parts (Unknown parts.subject.start)
  refuses_major : (found : ℕ) → HasPhase text parts.phase parts.number → subject_of sig book (builder_of parts.builder) (text_at text parts.subject) ≡ Some found →
      (HasMajorPlace sig (builder_of parts.builder) found (major_value text parts.major) → ⊥) →
      RefusesRule text sig book parts (BadRule (major_place parts.subject parts.major))
  refuses_premises : (found : ℕ) → HasPhase text parts.phase parts.number → subject_of sig book (builder_of parts.builder) (text_at text parts.subject) ≡ Some found →
      HasMajorPlace sig (builder_of parts.builder) found (major_value text parts.major) → HasBadPremises sig (builder_of parts.builder) found →
      RefusesRule text sig book parts (BadRule parts.subject.start)
