-- What is true of each rule of a book over a signature: it takes no hypothesis for an argument that has binders, and its percentage as a choice is at most 100.
use Rattle.std.proofs.Common.{◌≡◌, ℕ, zero, suc, ◌≤◌, Option, Some, None, List, [], ◌∷◌, All, take, refl, subst, arith}
use Rattle.std.specs.Prelude.{slice_get, option_map}
use Rattle.std.specs.List.{cons_option}
use Rattle.std.proofs.lemmas.List.Elements.{All-nil, All-cons}
use Rattle.lf_definitions.specs.Signatures.{LfSignature}
use Rattle.application_laws.specs.Conditions.{TakesAtoms}
use Rattle.rule_sets.specs.declared.rule.Phase.{Phase}
use Rattle.rule_sets.specs.declared.rule.Phase.TheVariants.{Norm, Safe, Unsafe}
use Rattle.rule_sets.specs.declared.rule.Rule.{Rule}
use Rattle.rule_sets.specs.Books.{Book, assumption_rule, hyps_rule}
use Rattle.rule_sets.specs.Refusals.{IsNoPercent, IsOver}
use Rattle.rule_methods.proofs.AtomsTaken.{rules_take_atoms}
use Rattle.alternatives.specs.Rules.{LfRule}
use Rattle.alternatives.specs.Alternatives.{percent_of}
use Rattle.goal_book.specs.Rules.{phase_of, numbered, rules_of}

-- What is true of each rule of a book is true of those of some numbers.
module _ (P : LfRule → Type 0) (book : Book) (each : (number : ℕ) (rule : Rule) → slice_get book.rules number ≡ Some rule → P (numbered book.lists number rule)) where
  one_more : (number : ℕ) (rest : List LfRule) (o : Option Rule) → slice_get book.rules number ≡ o → All P rest → All P (cons_option (option_map (numbered book.lists number) o) rest)
  one_more number rest None is all = all
  one_more number rest (Some rule) is all = All-cons P (numbered book.lists number rule) rest (each number rule is) all

  All-rules_of : (numbers : List ℕ) → All P (rules_of book numbers)
  All-rules_of [] = All-nil P
  All-rules_of (number ∷ rest) = one_more number (rules_of book rest) (slice_get book.rules number) refl (All-rules_of rest)

pub rules_of_take_atoms : (sig : LfSignature) (book : Book) → IsOver sig book → (numbers : List ℕ) → All (λ (rule : LfRule). TakesAtoms sig rule.method) (rules_of book numbers)
rules_of_take_atoms sig book over numbers = All-rules_of (λ (rule : LfRule). TakesAtoms sig rule.method) book (rules_take_atoms sig book over) numbers

-- Percentages.

abbrev pub IsLow : LfRule → Type 0
IsLow rule = percent_of rule.phase ≤ 100

low_phase : (phase : Phase) → (IsNoPercent phase → ⊥) → percent_of (phase_of phase) ≤ 100
low_phase (Norm penalty) low = omega arith
low_phase (Safe penalty) low = omega arith
low_phase (Unsafe percent) low = omega (arith, low)

first_of_two : (rules : List Rule) (first second rule : Rule) → take 2 rules ≡ first ∷ second ∷ [] → slice_get rules 0 ≡ Some rule → first ≡ rule
first_of_two [] first second rule two here = absurd cc
first_of_two (r ∷ rules) first second rule two here = cc

second_of_two : (rules : List Rule) (first second rule : Rule) → take 2 rules ≡ first ∷ second ∷ [] → slice_get rules 1 ≡ Some rule → second ≡ rule
second_of_two [] first second rule two here = absurd cc
second_of_two (r ∷ []) first second rule two here = absurd cc
second_of_two (r ∷ s ∷ rules) first second rule two here = cc

rule_is_low : (sig : LfSignature) (book : Book) → IsOver sig book → (number : ℕ) (rule : Rule) → slice_get book.rules number ≡ Some rule → IsLow (numbered book.lists number rule)
rule_is_low sig book over zero rule here =
    let P : Rule → Type 0 = λ r. percent_of (phase_of r.phase) ≤ 100 in subst P (first_of_two book.rules assumption_rule hyps_rule rule over.built_in here) (omega arith)
rule_is_low sig book over (suc zero) rule here =
    let P : Rule → Type 0 = λ r. percent_of (phase_of r.phase) ≤ 100 in subst P (second_of_two book.rules assumption_rule hyps_rule rule over.built_in here) (omega arith)
rule_is_low sig book over (suc (suc place)) rule here = low_phase rule.phase (over.rules place rule here).percent

pub rules_of_are_low : (sig : LfSignature) (book : Book) → IsOver sig book → (numbers : List ℕ) → All IsLow (rules_of book numbers)
rules_of_are_low sig book over numbers = All-rules_of IsLow book (rule_is_low sig book over) numbers
