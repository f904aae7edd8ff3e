-- The rules of a book, as alternatives speak of them.
use Rattle.std.specs.Prelude.{ℕ, List, Option, option_map, slice_get}
use Rattle.std.specs.List.{filter_map}
use Rattle.rule_sets.specs.declared.rule.Phase.{Phase}
use Rattle.rule_sets.specs.declared.rule.Phase.TheVariants.{Norm, Safe, Unsafe}
use Rattle.rule_sets.specs.declared.rule.Rule.{Rule}
use Rattle.rule_sets.specs.Books.{Listed, Book}
use Rattle.rule_methods.specs.RuleMethods.{method_of}
use Rattle.alternatives.specs.Rules.{LfPhase, normalising, safe, unsafe, LfRule}

-- Penalties order rules, and say no more of them.
abbrev pub phase_of : Phase → LfPhase
phase_of (Norm penalty) = normalising
phase_of (Safe penalty) = safe
phase_of (Unsafe percent) = unsafe percent

-- a rule of this number, where these constructors are listed for families
abbrev pub numbered : List Listed → ℕ → Rule → LfRule
numbered lists number rule = record { number = number; method = method_of lists rule; phase = phase_of rule.phase }

-- the rule of a number, if there is one
abbrev pub rule_at : Book → ℕ → Option LfRule
rule_at book number = option_map (numbered book.lists number) (slice_get book.rules number)

-- the rules of these numbers, in this order
abbrev pub rules_of : Book → List ℕ → List LfRule
rules_of book numbers = filter_map (rule_at book) numbers
