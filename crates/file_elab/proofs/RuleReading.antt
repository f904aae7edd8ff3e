-- Rules of a file: what is read of them, and what a book says of it.
use Rattle.std.proofs.Common.{◌≡◌, ℕ, ◌<◌, ◌≤◌, ◌⊎◌, inl, inr, List, length, Option, Some, None, refl, sym, ap, ◌∙◌, subst, arith, Err}
use Rattle.std.proofs.lemmas.List.{length-map}
use Rattle.std.specs.Prelude.{◌++◌, ◌∷◌, [], Contains, ℤ, pos, negsuc, ◌≤ℤ◌, min}
use Rattle.std.proofs.lemmas.Option.{slice_get_within}
use Rattle.std.proofs.Math.Nat.{min-eq_left, min-eq_right}
use Rattle.lf_definitions.specs.Signatures.{LfSignature, constant_names, constant_types, family_names, family_kinds}
use Rattle.lf_definitions.proofs.Counts.{length-constant_names}
use Rattle.basics.specs.Limits.{most_rules}
use Rattle.basics.specs.Places.{place_of}
use Rattle.basics.proofs.NamePlaces.{place_found}
use Rattle.basics.proofs.Membership.{not_contained, new_name}
use Rattle.file_trees.specs.declared.decl_tree.DeclTree.TheVariants.{Rule as rule_tree}
use Rattle.file_trees.specs.declared.decl_tree.RuleTree.{RuleTree}
use Rattle.file_trees.specs.declared.decl_tree.PhaseWord.{PhaseWord}
use Rattle.file_trees.specs.declared.decl_tree.PhaseWord.TheVariants as phase_words
use Rattle.file_trees.specs.declared.decl_tree.BuildWord.{BuildWord}
use Rattle.file_trees.specs.declared.decl_tree.BuildWord.TheVariants as words
use Rattle.rule_sets.specs.declared.rule.Phase.{Phase}
use Rattle.rule_sets.specs.declared.rule.Phase.TheVariants.{Unsafe}
use Rattle.rule_sets.specs.declared.rule.Builder.{Builder}
use Rattle.rule_sets.specs.declared.rule.Builder.TheVariants.{Constructors}
use Rattle.rule_sets.specs.declared.rule.Rule.{Rule}
use Rattle.rule_sets.specs.declared.rule.RuleFault.{RuleFault}
use Rattle.rule_sets.specs.declared.rule.RuleFault.TheVariants.{Taken, Full, Percent, NoConst, BadMajor, Premises, NoMemory}
use Rattle.rule_sets.specs.Books.{Book, list_of}
use Rattle.rule_sets.specs.Refusals.{IsTaken, IsFull, IsNoPercent, HasNoSubject, IsBadMajor, HasBadPremises, IsRuleOver, AddsRule, IsFirstFault, taken, full, percent, no_constant, bad_major, premises, IsOver}
use Rattle.rule_sets.proofs.FittingRules.{unlisted_past}
use Rattle.elab_terms.specs.KnownTypes.{IsRefusal}
use Rattle.elab_terms.specs.Names.{Text, text_at}
use Rattle.file_elab.specs.Programs.{MayBeNamed, Declares, declares_rule, refuses_taken, refuses_many, refuses_rule_name, refuses_rule_part}
use Rattle.file_elab.specs.ProgramParts.{program_with, DeclaresInBook, RefusesInBook}
use Rattle.file_elab.specs.Rules.{number_value, ReadsPhase, reads_norm, reads_safe, reads_unsafe, HasPhase, builder_of, family_if, listed_family, subject_of, major_value, IsMajorNumber, HasMajorPlace, ReadsRule, refuses_number, refuses_subject, refuses_major, refuses_premises}
use Rattle.file_elab.specs.ReadRules.{names_in, IsPhaseFor, IsSubjectFor, IsMajorFor, IsReadRule, refused_as}
use Rattle.file_elab.proofs.MajorArguments.{major_number, no_major_number}

-- A number that is no penalty, and one that is no percentage.
abbrev IsNoPenalty : ℤ → Type 0
IsNoPenalty value = negsuc 2147483647 ≤ℤ value → value ≤ℤ pos 2147483647 → ⊥

pub no_norm : (value : ℤ) → IsNoPenalty value → IsPhaseFor phase_words.Norm value (Unsafe 255)
no_norm value none = inr (omega arith, not_read value none)
  where
    not_read : (value : ℤ) → IsNoPenalty value → (other : Phase) → ReadsPhase phase_words.Norm value other → ⊥
    not_read value none _ (reads_norm _ low high) = none low high

pub no_safe : (value : ℤ) → IsNoPenalty value → IsPhaseFor phase_words.Safe value (Unsafe 255)
no_safe value none = inr (omega arith, not_read value none)
  where
    not_read : (value : ℤ) → IsNoPenalty value → (other : Phase) → ReadsPhase phase_words.Safe value other → ⊥
    not_read value none _ (reads_safe _ low high) = none low high

pub no_unsafe : (value : ℤ) → ((number : ℕ) → number ≤ 100 → value ≡ pos number → ⊥) → (m : ℕ) → 100 < m → IsPhaseFor phase_words.Unsafe value (Unsafe m)
no_unsafe value none m above = inr (above, not_read value none)
  where
    not_read : (value : ℤ) → ((number : ℕ) → number ≤ 100 → value ≡ pos number → ⊥) → (other : Phase) → ReadsPhase phase_words.Unsafe value other → ⊥
    not_read _ none _ (reads_unsafe number few) = none number few refl

pos_inj : {a b : ℕ} → pos a ≡ pos b → a ≡ b
pos_inj e = cc

-- a percentage is read as itself, and a greater number as some number above
pub percent_read : (value : ℤ) (n m : ℕ) → value ≡ pos n → m ≡ min n 255 → IsPhaseFor phase_words.Unsafe value (Unsafe m)
percent_read value n m is capped = by (grind arith) (grind arith)
  where
    by : (n ≤ 100) ⊎ (100 < n) → (n ≤ 255) ⊎ (255 ≤ n) → IsPhaseFor phase_words.Unsafe value (Unsafe m)
    by (inl few) low =
        let within : n ≤ 255 = omega (arith, few) in
        let same : m ≡ n = capped ∙ min-eq_left within in
        let P : ℤ → Type 0 = λ v. ReadsPhase phase_words.Unsafe v (Unsafe m) in
        inl (subst P (sym (is ∙ ap (λ k. pos k) (sym same))) (reads_unsafe m (omega (arith, few, same))))
    by (inr many) (inl low) =
        let same : m ≡ n = capped ∙ min-eq_left low in
        no_unsafe value (λ number few e. let is_it : number ≡ n = pos_inj (sym e ∙ is) in omega (arith, few, many, is_it)) m (omega (arith, many, same))
    by (inr many) (inr high) =
        let same : m ≡ 255 = capped ∙ min-eq_right high in
        no_unsafe value (λ number few e. let is_it : number ≡ n = pos_inj (sym e ∙ is) in omega (arith, few, many, is_it)) m (omega (arith, same))

right_percent : (word : PhaseWord) (value : ℤ) (phase : Phase) → ReadsPhase word value phase → IsNoPercent phase → ⊥
right_percent _ _ _ (reads_norm penalty low high) above = above
right_percent _ _ _ (reads_safe penalty low high) above = above
right_percent _ _ _ (reads_unsafe number few) above = omega arith

constant_there : (sig : LfSignature) (name : List ℕ) (c : ℕ) → place_of (constant_names sig) name ≡ Some c → length (constant_types sig) ≤ c → ⊥
constant_there sig name c is past =
    let few : c < length (constant_names sig) = slice_get_within (constant_names sig) c name (place_found name (constant_names sig) c is) in
    omega (arith, few, length-constant_names sig)

nat_inj : {a b : ℕ} → ◌≡◌ {A = Option ℕ} (Some a) (Some b) → a ≡ b
nat_inj e = cc

list_there : (book : Book) (o : Option ℕ) (found : ℕ) → listed_family book o ≡ Some found → list_of book.lists found ≡ None → ⊥
list_there book None found is none = absurd cc
list_there book (Some f) found is none = by (list_of book.lists f) refl is
  where
    by : (l : Option (List ℕ)) → list_of book.lists f ≡ l → family_if f l ≡ Some found → ⊥
    by None missing e = absurd cc
    by (Some constants) listed e =
        let clash : ◌≡◌ {A = Option (List ℕ)} None (Some constants) = sym none ∙ ap (list_of book.lists) (sym (nat_inj e)) ∙ listed in absurd cc

subject_there : (sig : LfSignature) (book : Book) (word : BuildWord) (name : List ℕ) (found : ℕ) → subject_of sig book (builder_of word) name ≡ Some found →
    HasNoSubject sig book (builder_of word) found → ⊥
subject_there sig book words.Apply name found is none = constant_there sig name found is none
subject_there sig book words.Constructors name found is none = list_there book (place_of (family_names sig) name) found is none
subject_there sig book words.Cases name found is none = constant_there sig name found is none
subject_there sig book words.Forward name found is none = constant_there sig name found is none
subject_there sig book words.Destruct name found is none = constant_there sig name found is none

pub names_in_count : (book : Book) → length (names_in book) ≡ length book.rules
names_in_count book = length-map book.rules (λ rule. rule.name)

-- What is read of a subject.
module _ (sig : LfSignature) (book : Book) (name : List ℕ) where
  pub family_read : (f : ℕ) → place_of (family_names sig) name ≡ Some f → IsSubjectFor sig book Constructors name f
  family_read f is = by (list_of book.lists f) refl
    where
      here : subject_of sig book Constructors name ≡ family_if f (list_of book.lists f)
      here = ap (listed_family book) is

      by : (l : Option (List ℕ)) → list_of book.lists f ≡ l → IsSubjectFor sig book Constructors name f
      by None none = inr (here ∙ ap (family_if f) none, none)
      by (Some constants) listed = inl (here ∙ ap (family_if f) listed)

  pub no_family_read : (f : ℕ) → IsOver sig book → place_of (family_names sig) name ≡ None → f ≡ length (family_kinds sig) → IsSubjectFor sig book Constructors name f
  no_family_read f over none is = inr (ap (listed_family book) none, unlisted_past sig book f over (omega (arith, is)))

-- A book that refuses a rule is as it was.
pub book_kept : (sig : LfSignature) (old new : Book) (rule : Rule) (fault : RuleFault) → AddsRule sig old rule (Err fault) new → new ≡ old
book_kept sig old new rule Taken adds = adds.1
book_kept sig old new rule Full adds = adds.1
book_kept sig old new rule Percent adds = adds.1
book_kept sig old new rule NoConst adds = adds.1
book_kept sig old new rule BadMajor adds = adds.1
book_kept sig old new rule Premises adds = adds.1
book_kept sig old new rule (NoMemory kept) adds = adds.1

-- What the book says of a rule that was read.
module _ (text : Text) (sig : LfSignature) (old : Book) (parts : RuleTree) (rule : Rule) (read : IsReadRule text sig old parts rule) where
  abbrev names : List (List ℕ)
  names = names_in old

  abbrev builder : Builder
  builder = builder_of parts.builder

  -- The parts that the book let pass are as the declaration has them.
  new : (IsTaken old rule → ⊥) → place_of names (text_at text parts.name) ≡ None
  new free = new_name names (text_at text parts.name) (λ has. let P : List ℕ → Type 0 = Contains names in free (subst P (sym read.name_is) has))

  may_be_named : (IsTaken old rule → ⊥) → (IsFull old → ⊥) → MayBeNamed names most_rules (text_at text parts.name)
  may_be_named free room = record { new = new free; room = omega (arith, room, names_in_count old) }

  phase_read : (IsNoPercent rule.phase → ⊥) → ReadsPhase parts.phase (number_value (text_at text parts.number)) rule.phase
  phase_read good = elim read.phase_is [ inl reads ↦ reads | inr (bad, none) ↦ absurd (good bad) ]

  has_phase : (IsNoPercent rule.phase → ⊥) → HasPhase text parts.phase parts.number
  has_phase good = (rule.phase, phase_read good)

  subject_is : IsSubjectFor sig old builder (text_at text parts.subject) rule.subject
  subject_is = let P : Builder → Type 0 = λ b. IsSubjectFor sig old b (text_at text parts.subject) rule.subject in subst P read.builder_is read.subject_is

  subject_read : (HasNoSubject sig old rule.builder rule.subject → ⊥) → subject_of sig old builder (text_at text parts.subject) ≡ Some rule.subject
  subject_read good =
      let P : Builder → Type 0 = λ b. HasNoSubject sig old b rule.subject in
      elim subject_is [ inl there ↦ there | inr (none, bad) ↦ absurd (good (subst P (sym read.builder_is) bad)) ]

  major_is : IsMajorFor sig builder rule.subject (major_value text parts.major) rule.major
  major_is = let P : Builder → Type 0 = λ b. IsMajorFor sig b rule.subject (major_value text parts.major) rule.major in subst P read.builder_is read.major_is

  major_read : (IsBadMajor sig rule.builder rule.subject rule.major → ⊥) → IsMajorNumber sig builder rule.subject (major_value text parts.major) rule.major
  major_read good =
      let P : Builder → Type 0 = λ b. IsBadMajor sig b rule.subject rule.major in
      elim major_is [
        | inl value ↦ major_number sig builder rule.subject rule.major (major_value text parts.major) value (λ bad. good (subst P (sym read.builder_is) bad))
        | inr (bad, none) ↦ absurd (good (subst P (sym read.builder_is) bad))
      ]

  no_major : IsBadMajor sig rule.builder rule.subject rule.major → HasMajorPlace sig builder rule.subject (major_value text parts.major) → ⊥
  no_major bad =
      let P : Builder → Type 0 = λ b. IsBadMajor sig b rule.subject rule.major in
      elim major_is [
        | inl value ↦ no_major_number sig builder rule.subject rule.major (major_value text parts.major) value (subst P read.builder_is bad)
        | inr (other, none) ↦ none
      ]

  -- A fault is refused at its part.
  no_phase : IsNoPercent rule.phase → HasPhase text parts.phase parts.number → ⊥
  no_phase bad (other, reads) =
      elim read.phase_is [
        | inl here ↦ right_percent parts.phase (number_value (text_at text parts.number)) rule.phase here bad
        | inr (above, none) ↦ none other reads
      ]

  unknown : HasNoSubject sig old rule.builder rule.subject → subject_of sig old builder (text_at text parts.subject) ≡ None
  unknown bad =
      let P : Builder → Type 0 = λ b. HasNoSubject sig old b rule.subject in
      elim subject_is [
        | inl there ↦ absurd (subject_there sig old parts.builder (text_at text parts.subject) rule.subject there (subst P read.builder_is bad))
        | inr (none, past) ↦ none
      ]

  abbrev Refused : RuleFault → Type 0
  Refused fault = IsRefusal (RefusesInBook text sig old (rule_tree parts)) (refused_as parts fault)

  pub rule_refused : (new_book : Book) (fault : RuleFault) → AddsRule sig old rule (Err fault) new_book → Refused fault
  rule_refused new_book (NoMemory kept) adds = tt
  rule_refused new_book Taken adds = by adds.0
    where
      by : IsFirstFault sig old rule Taken → Refused Taken
      by (taken has) theorems =
          let P : List ℕ → Type 0 = Contains names in
          refuses_rule_name parts _
          (refuses_taken (λ none. not_contained names (text_at text parts.name) none (subst P read.name_is has)))
  rule_refused new_book Full adds = by adds.0
    where
      by : IsFirstFault sig old rule Full → Refused Full
      by (full free many) theorems =
          refuses_rule_name parts _
          (refuses_many (new free) (omega (arith, many, names_in_count old)))
  rule_refused new_book Percent adds = by adds.0
    where
      by : IsFirstFault sig old rule Percent → Refused Percent
      by (percent free room bad) theorems =
          refuses_rule_part parts _ (may_be_named free room) (refuses_number (no_phase bad))
  rule_refused new_book NoConst adds = by adds.0
    where
      by : IsFirstFault sig old rule NoConst → Refused NoConst
      by (no_constant free room good bad) theorems =
          refuses_rule_part parts _ (may_be_named free room) (refuses_subject (has_phase good) (unknown bad))
  rule_refused new_book BadMajor adds = by adds.0
    where
      by : IsFirstFault sig old rule BadMajor → Refused BadMajor
      by (bad_major free room good some bad) theorems =
          refuses_rule_part parts _ (may_be_named free room)
          (refuses_major rule.subject (has_phase good) (subject_read some) (no_major bad))
  rule_refused new_book Premises adds = by adds.0
    where
      by : IsFirstFault sig old rule Premises → Refused Premises
      by (premises free room good some fits bad) theorems =
          let P : Builder → Type 0 = λ b. HasBadPremises sig b rule.subject in
          refuses_rule_part parts _ (may_be_named free room)
          (refuses_premises rule.subject (has_phase good) (subject_read some) (rule.major, major_read fits) (subst P read.builder_is bad))

  reads_rule : IsRuleOver sig old rule → ReadsRule text sig old parts rule
  reads_rule fits =
      let P : Builder → Type 0 = λ b. HasBadPremises sig b rule.subject → ⊥ in
      record {
        name_is = read.name_is;
        set_is = read.set_is;
        phase_is = phase_read fits.percent;
        builder_is = read.builder_is;
        subject_is = subject_read fits.subject;
        major_is = major_read fits.major;
        premises_are = subst P read.builder_is fits.premises;
      }

  pub rule_declared : (new_book : Book) → (IsTaken old rule → ⊥) → (IsFull old → ⊥) → IsRuleOver sig old rule → new_book ≡ record { rules = old.rules ++ rule ∷ []; lists = old.lists } →
      DeclaresInBook text sig old (rule_tree parts) new_book
  rule_declared new_book free room fits is theorems =
      let P : Book → Type 0 = λ book. Declares text (program_with sig old theorems) (rule_tree parts) (program_with sig book theorems) in
      subst P (sym is) (declares_rule parts rule (may_be_named free room) (reads_rule fits))
