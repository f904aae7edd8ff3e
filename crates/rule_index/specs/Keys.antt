-- The keys of rules, and the targets that they are compatible with.
use Rattle.std.specs.Prelude.{ℕ, List, [], ◌∷◌, map, filter, Option, Some, None, Bool, true, false, ◌&&◌, nat_eq, slice_get}
use Rattle.lf_definitions.specs.Syntax.{bound, constant, metavariable, LfTerm, lam, at, Spine, no_args, arg, LfType, LfAtom, conclusion_atom}
use Rattle.lf_definitions.specs.Signatures.{LfSignature, constant_types}
use Rattle.rule_sets.specs.declared.rule.Builder.{Builder}
use Rattle.rule_sets.specs.declared.rule.Builder.TheVariants.{Apply, Constructors, Cases}
use Rattle.rule_sets.specs.declared.rule.Rule.{Rule}
use Rattle.rule_sets.specs.Books.{Book}

-- A key fits all targets, or those of a family that have its constants at the heads of their arguments, for each argument where it has one.
pub data RuleKey : Type 0 where
  fits_all : RuleKey
  of_family : ℕ → List (Option ℕ) → RuleKey

-- the constant at the head of a term that is no abstraction
abbrev pub head_constant : LfTerm → Option ℕ
head_constant (at (constant c) ts) = Some c
head_constant _ = None

abbrev pub head_constants : Spine → List (Option ℕ)
head_constants no_args = []
head_constants (arg t ts) = head_constant t ∷ head_constants ts

-- the key of an atom as a conclusion
abbrev pub conclusion_key : LfAtom → RuleKey
conclusion_key a = of_family a.atom_family (head_constants a.atom_args)

-- the key of a type's conclusion, if there is a type
abbrev pub type_key : Option LfType → RuleKey
type_key (Some type) = conclusion_key (conclusion_atom type)
type_key None = fits_all

-- the key of a rule with this builder and this subject
abbrev pub builder_key : LfSignature → Builder → ℕ → RuleKey
builder_key sig Apply subject = type_key (slice_get (constant_types sig) subject)
builder_key sig Cases subject = type_key (slice_get (constant_types sig) subject)
builder_key sig Constructors subject = of_family subject []
builder_key sig _ subject = fits_all

-- the key of a rule, if there is one
abbrev pub rule_key : LfSignature → Option Rule → RuleKey
rule_key sig (Some rule) = builder_key sig rule.builder rule.subject
rule_key sig None = fits_all

-- Where a key asks for a constant, the argument of a target has another constant or a variable at its head, or else allows it.
abbrev pub allows : Option ℕ → LfTerm → Bool
allows None t = true
allows (Some c) (lam b) = true
allows (Some c) (at (bound n) ts) = false
allows (Some c) (at (constant d) ts) = nat_eq c d
allows (Some c) (at (metavariable g) ts) = true

-- Each argument of a target allows what the key asks for there.
abbrev pub all_allow : List (Option ℕ) → Spine → Bool
all_allow [] ts = true
all_allow (c ∷ cs) no_args = true
all_allow (c ∷ cs) (arg t ts) = allows c t && all_allow cs ts

-- whether a key is compatible with a target
abbrev pub is_compatible : RuleKey → LfAtom → Bool
is_compatible fits_all target = true
is_compatible (of_family f cs) target = nat_eq f target.atom_family && all_allow cs target.atom_args

-- A rule, by its number, with its key.
pub record KeyedRule : Type 0 where
  pub key : RuleKey
  pub number : ℕ

-- rules of a book, by their numbers, with their keys over a signature
abbrev pub keyed_rules : LfSignature → Book → List ℕ → List KeyedRule
keyed_rules sig book numbers = map (λ number. record { key = rule_key sig (slice_get book.rules number); number = number }) numbers

-- the numbers of the rules that are compatible with a target, in their order
abbrev pub compatible_rules : List KeyedRule → LfAtom → List ℕ
compatible_rules rules target = map (λ rule. rule.number) (filter (λ rule. is_compatible rule.key target) rules)
