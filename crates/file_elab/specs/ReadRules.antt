-- What is read as a rule of a file before a book judges it, and where the judgement is said.
use Rattle.std.specs.Prelude.{◌≡◌, ◌⊎◌, ◌<◌, ◌≤◌, ◌^◌, ℕ, ℤ, pos, List, length, map, Option, Some, None}
use Rattle.basics.specs.Places.{place_of}
use Rattle.lf_definitions.specs.Signatures.{LfSignature, constant_names, constant_types}
use Rattle.file_trees.specs.declared.decl_tree.RuleTree.{RuleTree}
use Rattle.file_trees.specs.declared.decl_tree.PhaseWord.{PhaseWord}
use Rattle.rule_sets.specs.declared.rule.Phase.{Phase}
use Rattle.rule_sets.specs.declared.rule.Builder.{Builder}
use Rattle.rule_sets.specs.declared.rule.Rule.{Rule}
use Rattle.rule_sets.specs.declared.rule.RuleFault.{RuleFault}
use Rattle.rule_sets.specs.declared.rule.RuleFault.TheVariants as rule_faults
use Rattle.rule_sets.specs.Books.{Book}
use Rattle.rule_sets.specs.Refusals.{IsNoPercent, HasNoSubject, IsBadMajor}
use Rattle.elab_terms.specs.Names.{Text, text_at}
use Rattle.elab_terms.specs.declared.elab_fault.ElabFault.{ElabFault}
use Rattle.elab_terms.specs.declared.elab_fault.ElabFault.TheVariants.{Taken, TooMany, Unknown, BadRule, NoMemory}
use Rattle.file_elab.specs.Rules.{number_value, ReadsPhase, builder_of, subject_of, major_value, major_place, HasMajorPlace, set_of}

abbrev pub names_in : Book → List (List ℕ)
names_in book = map (λ rule. rule.name) book.rules

-- A number that may not stand there is read as a percentage that no rule has,
abbrev pub IsPhaseFor : PhaseWord → ℤ → Phase → Type 0
IsPhaseFor word value phase = ReadsPhase word value phase ⊎ (IsNoPercent phase × ((other : Phase) → ReadsPhase word value other → ⊥))

abbrev pub number_or : ℕ → Option ℕ → ℕ
number_or past None = past
number_or past (Some number) = number

-- the number of the constant of a name, or else how many constants there are
abbrev pub number_of : LfSignature → List ℕ → ℕ
number_of sig name = number_or (length (constant_names sig)) (place_of (constant_names sig) name)

abbrev pub IsConstantFor : LfSignature → List ℕ → ℕ → Type 0
IsConstantFor sig name number = (place_of (constant_names sig) name ≡ Some number) ⊎ ((place_of (constant_names sig) name ≡ None) × (length (constant_types sig) ≤ number))

-- a name of no subject as a subject that no rule has,
abbrev pub IsSubjectFor : LfSignature → Book → Builder → List ℕ → ℕ → Type 0
IsSubjectFor sig book builder name subject = (subject_of sig book builder name ≡ Some subject) ⊎ ((subject_of sig book builder name ≡ None) × HasNoSubject sig book builder subject)

-- and a number of no argument, if it isn't one of 32 bits, as a major argument that no rule has.
abbrev pub IsMajorFor : LfSignature → Builder → ℕ → ℤ → ℕ → Type 0
IsMajorFor sig builder subject value major = (value ≡ pos major) ⊎ (IsBadMajor sig builder subject major × (HasMajorPlace sig builder subject value → ⊥))

-- An argument that may be chosen has a number of 32 bits.
abbrev pub FitsMajor : LfSignature → Builder → ℕ → Type 0
FitsMajor sig builder found = (value : ℤ) → HasMajorPlace sig builder found value → (number : ℕ) × (number < 2 ^ 32) × (value ≡ pos number)

-- The parts of a declaration are read as a rule.
pub record IsReadRule (text : Text) (sig : LfSignature) (book : Book) (parts : RuleTree) (rule : Rule) : Type 0 where
  pub name_is : rule.name ≡ text_at text parts.name
  pub set_is : rule.set ≡ set_of text parts.set
  pub builder_is : rule.builder ≡ builder_of parts.builder
  pub phase_is : IsPhaseFor parts.phase (number_value (text_at text parts.number)) rule.phase
  pub subject_is : IsSubjectFor sig book rule.builder (text_at text parts.subject) rule.subject
  pub major_is : IsMajorFor sig rule.builder rule.subject (major_value text parts.major) rule.major

-- where a fault of the rule is said
abbrev pub refused_as : RuleTree → RuleFault → ElabFault
refused_as parts rule_faults.Taken = Taken parts.name.start
refused_as parts rule_faults.Full = TooMany parts.name.start
refused_as parts rule_faults.Percent = BadRule parts.number.start
refused_as parts rule_faults.NoConst = Unknown parts.subject.start
refused_as parts rule_faults.BadMajor = BadRule (major_place parts.subject parts.major)
refused_as parts rule_faults.Premises = BadRule parts.subject.start
refused_as parts (rule_faults.NoMemory rule) = NoMemory
