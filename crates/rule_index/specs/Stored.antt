-- Keys and targets as the code has them, seen as plain data.
use Rattle.std.specs.Prelude.{ℕ, zero, suc, Option, Some, None, Bool, true, false, nat_eq}
use Rattle.lf_definitions.specs.Syntax.{bound, constant, metavariable, LfTerm, lam, at, Spine, no_args, arg, LfAtom}
use Rattle.lf_terms.specs.declared.ty.Atom.{Atom}
use Rattle.rule_index.specs.declared.key.Key.{Key}
use Rattle.rule_index.specs.declared.key.Key.TheVariants as keys
use Rattle.rule_index.specs.declared.key.Demand.{Demand}
use Rattle.rule_index.specs.declared.key.Demand.TheVariants.{Anything, Constant, Variable}
use Rattle.rule_index.specs.declared.index.IndexedRule.{IndexedRule}
use Rattle.rule_index.specs.Keys.{RuleKey, fits_all, of_family, KeyedRule}

abbrev pub stored_key : Key → RuleKey
stored_key keys.All = fits_all
stored_key (keys.Family f constants) = of_family f constants.items

abbrev pub keyed : IndexedRule → KeyedRule
keyed entry = record { key = stored_key entry.key; number = entry.number }

abbrev pub target_atom : Atom → LfAtom
target_atom a = record { atom_family = a.family; atom_args = a.args }

-- what an argument of a target asks of a key
abbrev pub demand_of : LfTerm → Demand
demand_of (lam b) = Anything
demand_of (at (bound n) ts) = Variable
demand_of (at (constant c) ts) = Constant c
demand_of (at (metavariable g) ts) = Anything

-- what the argument at a place asks, from 0; where there is none, nothing is asked
abbrev pub demand_at : Spine → ℕ → Demand
demand_at no_args i = Anything
demand_at (arg t ts) zero = demand_of t
demand_at (arg t ts) (suc i) = demand_at ts i

-- whether a part of a key meets a demand
abbrev pub meets : Option ℕ → Demand → Bool
meets None demand = true
meets (Some c) Anything = true
meets (Some c) (Constant d) = nat_eq c d
meets (Some c) Variable = false

-- the arguments from a place on
abbrev pub args_from : ℕ → Spine → Spine
args_from i no_args = no_args
args_from zero (arg t ts) = arg t ts
args_from (suc i) (arg t ts) = args_from i ts
