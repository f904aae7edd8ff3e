-- The parts of a rule of a file are read as a rule, or refused.
use Rattle.std.proofs.Common.{◌≡◌, ℕ, ◌<◌, ◌≤◌, ◌⊎◌, inl, inr, Option, Some, None, refl, sym, ap, subst, arith}
use Rattle.std.specs.Prelude.{◌≢◌, ℤ, pos, negsuc, ◌≤ℤ◌}
use Rattle.lf_definitions.specs.Signatures.{LfSignature}
use Rattle.file_trees.specs.declared.decl_tree.RuleTree.{RuleTree}
use Rattle.file_trees.specs.declared.decl_tree.PhaseWord.{PhaseWord}
use Rattle.file_trees.specs.declared.decl_tree.PhaseWord.TheVariants as phase_words
use Rattle.rule_sets.specs.declared.rule.Phase.{Phase}
use Rattle.rule_sets.specs.declared.rule.Phase.TheVariants.{Norm, Safe, Unsafe}
use Rattle.rule_sets.specs.declared.rule.Builder.{Builder}
use Rattle.rule_sets.specs.declared.rule.Builder.TheVariants.{Apply, Constructors, Cases, Forward, Destruct, Assumption, Hyps}
use Rattle.rule_sets.specs.declared.rule.Rule.{Rule}
use Rattle.rule_sets.specs.Books.{Book}
use Rattle.rule_sets.specs.Refusals.{IsMajor, HasBadPremises}
use Rattle.elab_terms.specs.Names.{Text, text_at}
use Rattle.elab_terms.specs.declared.elab_fault.ElabFault.{ElabFault}
use Rattle.elab_terms.specs.declared.elab_fault.ElabFault.TheVariants.{Unknown, BadRule}
use Rattle.file_elab.specs.Rules.{number_value, ReadsPhase, reads_norm, reads_safe, reads_unsafe, HasPhase, builder_of, subject_of, major_value, major_place, set_of, HasMajorPlace, ReadsRule, RefusesRule, refuses_number, refuses_subject, refuses_major, refuses_premises}
use Rattle.program_verdicts.proofs.Decisions.{HoldsOrNot, below_or_not, same_or_not, between, major_or_not, premises_or_not}

-- The number is one of the phase.
abbrev PhaseOf : PhaseWord → ℤ → Type 0
PhaseOf word value = (phase : Phase) × ReadsPhase word value phase

abbrev IsPenalty : ℤ → Type 0
IsPenalty value = (negsuc 2147483647 ≤ℤ value) × (value ≤ℤ pos 2147483647)

norm_within : (value : ℤ) (phase : Phase) → ReadsPhase phase_words.Norm value phase → IsPenalty value
norm_within _ _ (reads_norm penalty low high) = (low, high)

safe_within : (value : ℤ) (phase : Phase) → ReadsPhase phase_words.Safe value phase → IsPenalty value
safe_within _ _ (reads_safe penalty low high) = (low, high)

pos_inj : {a b : ℕ} → pos a ≡ pos b → a ≡ b
pos_inj e = cc

no_negative : {a b : ℕ} → negsuc a ≡ pos b → ⊥
no_negative e = absurd cc

few_percent : (value : ℤ) (n : ℕ) (phase : Phase) → value ≡ pos n → ReadsPhase phase_words.Unsafe value phase → n ≤ 100
few_percent _ n _ e (reads_unsafe percent few) = let same : percent ≡ n = pos_inj e in omega (arith, few, same)

not_negative : (value : ℤ) (n : ℕ) (phase : Phase) → value ≡ negsuc n → ReadsPhase phase_words.Unsafe value phase → ⊥
not_negative _ n _ e (reads_unsafe percent few) = no_negative (sym e)

norm_phase : (value : ℤ) → HoldsOrNot (IsPenalty value) → HoldsOrNot (PhaseOf phase_words.Norm value)
norm_phase value (inl (low, high)) = inl (Norm value, reads_norm value low high)
norm_phase value (inr beyond) = inr (λ h. beyond (norm_within value h.0 h.1))

safe_phase : (value : ℤ) → HoldsOrNot (IsPenalty value) → HoldsOrNot (PhaseOf phase_words.Safe value)
safe_phase value (inl (low, high)) = inl (Safe value, reads_safe value low high)
safe_phase value (inr beyond) = inr (λ h. beyond (safe_within value h.0 h.1))

percent_phase : (n : ℕ) → (100 < n) ⊎ (n ≤ 100) → HoldsOrNot (PhaseOf phase_words.Unsafe (pos n))
percent_phase n (inl many) = inr (λ h. omega (arith, many, few_percent (pos n) n h.0 refl h.1))
percent_phase n (inr few) = inl (Unsafe n, reads_unsafe n few)

phase_or_not : (word : PhaseWord) (value : ℤ) → HoldsOrNot (PhaseOf word value)
phase_or_not phase_words.Norm value = norm_phase value (between (negsuc 2147483647) value (pos 2147483647))
phase_or_not phase_words.Safe value = safe_phase value (between (negsuc 2147483647) value (pos 2147483647))
phase_or_not phase_words.Unsafe (pos n) = percent_phase n (below_or_not 100 n)
phase_or_not phase_words.Unsafe (negsuc n) = inr (λ h. not_negative (negsuc n) n h.0 refl h.1)

-- The number is that of a major argument.
abbrev IsNone : ℤ → Type 0
IsNone value = (major : ℕ) × ((value ≡ pos 0) × (major ≡ 0))

none_by : (n : ℕ) → (n ≡ 0) ⊎ (n ≢ 0) → HoldsOrNot (IsNone (pos n))
none_by n (inl same) = inl (0, (ap (λ k. pos k) same, refl))
none_by n (inr differ) = inr (λ h. differ (pos_inj h.1.0))

none_or_not : (value : ℤ) → HoldsOrNot (IsNone value)
none_or_not (pos n) = none_by n (same_or_not n 0)
none_or_not (negsuc n) = inr (λ h. no_negative h.1.0)

case_by : (sig : LfSignature) (subject n : ℕ) → HoldsOrNot (IsMajor sig subject n) → HoldsOrNot (HasMajorPlace sig Cases subject (pos n))
case_by sig subject n (inl here) = inl (n, (refl, here))
case_by sig subject n (inr none) = inr (λ h. let P : ℕ → Type 0 = IsMajor sig subject in none (subst P (sym (pos_inj h.1.0)) h.1.1))

case_or_not : (sig : LfSignature) (subject : ℕ) (value : ℤ) → HoldsOrNot (HasMajorPlace sig Cases subject value)
case_or_not sig subject (pos n) = case_by sig subject n (major_or_not sig subject n)
case_or_not sig subject (negsuc n) = inr (λ h. no_negative h.1.0)

major_there : (sig : LfSignature) (builder : Builder) (subject : ℕ) (value : ℤ) → HoldsOrNot (HasMajorPlace sig builder subject value)
major_there sig Cases subject value = case_or_not sig subject value
major_there sig Apply subject value = none_or_not value
major_there sig Constructors subject value = none_or_not value
major_there sig Forward subject value = none_or_not value
major_there sig Destruct subject value = none_or_not value
major_there sig Assumption subject value = none_or_not value
major_there sig Hyps subject value = none_or_not value

-- The premises are bad or not.
opposite : {P : Type 0} → HoldsOrNot P → HoldsOrNot (P → ⊥)
opposite (inl here) = inr (λ none. none here)
opposite (inr none) = inl none

bad_or_not : (sig : LfSignature) (builder : Builder) (subject : ℕ) → HoldsOrNot (HasBadPremises sig builder subject)
bad_or_not sig Forward subject = opposite (premises_or_not sig subject)
bad_or_not sig Destruct subject = opposite (premises_or_not sig subject)
bad_or_not sig Apply subject = inr (λ h. h)
bad_or_not sig Constructors subject = inr (λ h. h)
bad_or_not sig Cases subject = inr (λ h. h)
bad_or_not sig Assumption subject = inr (λ h. h)
bad_or_not sig Hyps subject = inr (λ h. h)

-- The parts, one after another.
module _ (text : Text) (sig : LfSignature) (book : Book) (parts : RuleTree) where
  abbrev pub RuleJudged : Type 0
  RuleJudged = ((rule : Rule) × ReadsRule text sig book parts rule) ⊎ ((fault : ElabFault) × RefusesRule text sig book parts fault)

  abbrev builder : Builder
  builder = builder_of parts.builder

  module _ (phase : HasPhase text parts.phase parts.number) (found : ℕ) (found_is : subject_of sig book builder (text_at text parts.subject) ≡ Some found) where
    by_premises : HasMajorPlace sig builder found (major_value text parts.major) → HoldsOrNot (HasBadPremises sig builder found) → RuleJudged
    by_premises place (inl bad) = inr (BadRule parts.subject.start, refuses_premises found phase found_is place bad)
    by_premises place (inr good) =
        inl (
          record { name = text_at text parts.name; set = set_of text parts.set; phase = phase.0; builder = builder; subject = found; major = place.0 },
          record { name_is = refl; set_is = refl; phase_is = phase.1; builder_is = refl; subject_is = found_is; major_is = place.1; premises_are = good },
        )

    by_major : HoldsOrNot (HasMajorPlace sig builder found (major_value text parts.major)) → RuleJudged
    by_major (inl place) = by_premises place (bad_or_not sig builder found)
    by_major (inr none) = inr (BadRule (major_place parts.subject parts.major), refuses_major found phase found_is none)

  by_subject : HasPhase text parts.phase parts.number → (o : Option ℕ) → subject_of sig book builder (text_at text parts.subject) ≡ o → RuleJudged
  by_subject phase None none = inr (Unknown parts.subject.start, refuses_subject phase none)
  by_subject phase (Some found) is = by_major phase found is (major_there sig builder found (major_value text parts.major))

  by_phase : HoldsOrNot (HasPhase text parts.phase parts.number) → RuleJudged
  by_phase (inl phase) = by_subject phase (subject_of sig book builder (text_at text parts.subject)) refl
  by_phase (inr none) = inr (BadRule parts.number.start, refuses_number none)

  pub rule_judged : RuleJudged
  rule_judged = by_phase (phase_or_not parts.phase (number_value (text_at text parts.number)))
