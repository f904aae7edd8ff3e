-- A rule with an application is among the compatible rules.
use Rattle.std.proofs.Common.{◌≡◌, ℕ, zero, suc, Bool, true, false, List, [], ◌∷◌, sym, subst, arith}
use Rattle.std.specs.Prelude.{map, filter, cond, slice_get, Contains}
use Rattle.head_laws.proofs.Numbers.{Contains-here, Contains-later}
use Rattle.lf_definitions.specs.Signatures.{LfSignature}
use Rattle.lf_definitions.specs.Syntax.{LfAtom}
use Rattle.rule_sets.specs.Books.{Book}
use Rattle.rule_index.specs.Keys.{KeyedRule, rule_key, is_compatible, keyed_rules, compatible_rules}
use Rattle.index_laws.specs.Laws.{RulesWithApplicationsAreFound}
use Rattle.index_laws.proofs.Compatible.{rules_with_applications_are_compatible}

module _ (sig : LfSignature) (book : Book) (target : LfAtom) (number : ℕ) where
  abbrev Rules : List ℕ → List ℕ
  Rules numbers = compatible_rules (keyed_rules sig book numbers) target

  abbrev keyed : ℕ → KeyedRule
  keyed m = record { key = rule_key sig (slice_get book.rules m); number = m }

  abbrev passes : KeyedRule → Bool
  passes rule = is_compatible rule.key target

  found : is_compatible (rule_key sig (slice_get book.rules number)) target ≡ true → (numbers : List ℕ) → Contains numbers number → Contains (Rules numbers) number
  found fits [] (k, less, e) = absurd (omega (arith, less))
  found fits (m ∷ rest) (zero, less, e) =
      subst (λ x. Contains (Rules (x ∷ rest)) number) (sym e)
      (subst (λ b. Contains (map (λ rule. rule.number) (cond b (keyed number ∷ filter passes (keyed_rules sig book rest)) (filter passes (keyed_rules sig book rest)))) number) (sym fits)
      (Contains-here number (Rules rest)))
  found fits (m ∷ rest) (suc k, less, e) = step (passes (keyed m)) (found fits rest (k, omega (arith, less), e))
    where
      step : (b : Bool) → Contains (Rules rest) number →
          Contains (map (λ rule. rule.number) (cond b (keyed m ∷ filter passes (keyed_rules sig book rest)) (filter passes (keyed_rules sig book rest)))) number
      step true later = Contains-later m (Rules rest) number later
      step false later = later

pub rules_with_applications_are_found : RulesWithApplicationsAreFound
rules_with_applications_are_found sig book over number rule there n goals g a one numbers among =
    found sig book g.target number (rules_with_applications_are_compatible sig book over number rule there n goals g a one) numbers among
