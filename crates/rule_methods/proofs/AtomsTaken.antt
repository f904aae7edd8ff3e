-- The arguments for which a rule of a book takes hypotheses have no binders.
use Rattle.std.proofs.Common.{◌≡◌, ℕ, zero, suc, ◌+◌, Bool, true, List, [], ◌∷◌, take, Some, refl, sym, subst, arith}
use Rattle.std.specs.Prelude.{slice_get, if◌then◌else◌, All}
use Rattle.std.proofs.lemmas.Bool.{false_from_ne_true}
use Rattle.std.proofs.lemmas.List.Elements.{All-nil, All-cons, All-head, All-tail}
use Rattle.lf_definitions.specs.Syntax.{bound, LfType, pi, family, binders_of}
use Rattle.lf_definitions.specs.Typing.{type_at}
use Rattle.lf_definitions.specs.Signatures.{LfSignature, constant_types}
use Rattle.lf_definitions.specs.Occurrence.{Premises, no_premise, witness, premise}
use Rattle.head_laws.proofs.Occurrence.{OccursInType-true, occurs_in_type-from}
use Rattle.applications.specs.Candidates.{premises_from, is_atomic}
use Rattle.application_laws.specs.Conditions.{HasAtomAt, TakesAtoms}
use Rattle.rule_sets.specs.declared.rule.Builder.{Builder}
use Rattle.rule_sets.specs.declared.rule.Builder.TheVariants.{Apply, Constructors, Cases, Forward, Destruct, Assumption, Hyps}
use Rattle.rule_sets.specs.declared.rule.Rule.{Rule}
use Rattle.rule_sets.specs.Books.{Book, assumption_rule, hyps_rule}
use Rattle.rule_sets.specs.Refusals.{IsAtomic, argument_at, IsMajor, HasPremises}
use Rattle.rule_sets.specs.FittingRules.{FitsBuilder}
use Rattle.rule_sets.proofs.FittingRules.{rules_of_a_book_fit}
use Rattle.rule_methods.specs.RuleMethods.{place_of_major, method_by, method_of}
use Rattle.rule_methods.specs.Laws.{RulesTakeAtoms}

one_type : (types : List LfType) (c : ℕ) (a b : LfType) → slice_get types c ≡ Some a → type_at types c ≡ Some b → a ≡ b
one_type [] c a b e f = absurd cc
one_type (t ∷ types) zero a b e f = cc
one_type (t ∷ types) (suc c) a b e f = one_type types c a b e f

atomic_is : (a : LfType) → IsAtomic a → is_atomic a ≡ true
atomic_is (pi a b) atomic = absurd atomic
atomic_is (family f args) atomic = refl

argument_is : (type : LfType) (k : ℕ) (a : LfType) → argument_at type k ≡ Some a → type_at (binders_of type) k ≡ Some a
argument_is (family f args) k a e = absurd cc
argument_is (pi b c) zero a e = e
argument_is (pi b c) (suc k) a e = argument_is c k a e

-- What holds at each binder without binders of its own holds at the premises, if these are such.
module _ (P : ℕ → Type 0) where
  at_premises : (i : ℕ) (type : LfType) (premises : List LfType) → Premises type premises → All IsAtomic premises →
      ((k : ℕ) (a : LfType) (n : ℕ) → type_at (binders_of type) k ≡ Some a → is_atomic a ≡ true → n ≡ i + k → P n) → All P (premises_from i type)
  at_premises i _ _ (no_premise f args) atomic holds = All-nil P
  at_premises i _ _ (witness a b rest occurs more) atomic holds =
      let later : All P (premises_from (suc i) b) = at_premises (suc i) b rest more atomic (λ k c n here is e. holds (suc k) c n here is (omega (arith, e))) in
      let Q : Bool → Type 0 = λ c. All P (if c then premises_from (suc i) b else i ∷ premises_from (suc i) b) in
      subst Q (sym (occurs_in_type-from occurs)) later
  at_premises i _ _ (premise a b rest none more) atomic holds =
      let later : All P (premises_from (suc i) b) =
      at_premises (suc i) b rest more (All-tail IsAtomic a rest atomic) (λ k c n here is e. holds (suc k) c n here is (omega (arith, e))) in
      let now : P i = holds 0 a i refl (atomic_is a (All-head IsAtomic a rest atomic)) (omega arith) in
      let Q : Bool → Type 0 = λ c. All P (if c then premises_from (suc i) b else i ∷ premises_from (suc i) b) in
      subst Q (sym (false_from_ne_true _ (λ e. none (OccursInType-true (bound zero) b e)))) (All-cons P i (premises_from (suc i) b) now later)

-- What the constant of a rule is known to have, said of its type.
module _ (sig : LfSignature) (subject : ℕ) (type : LfType) (type_is : type_at (constant_types sig) subject ≡ Some type) where
  major_is_atomic : (major : ℕ) → IsMajor sig subject major → HasAtomAt type (place_of_major major)
  major_is_atomic major m =
      let same : m.type ≡ type = one_type (constant_types sig) subject m.type type m.type_is type_is in
      let P : LfType → Type 0 = λ t. HasAtomAt t m.place in
      let Q : ℕ → Type 0 = λ n. HasAtomAt type (place_of_major n) in
      subst Q (sym m.place_is) (subst P same (m.argument, argument_is m.type m.place m.argument m.argument_is, atomic_is m.argument m.atomic))

  premises_are_atomic : HasPremises sig subject → All (HasAtomAt type) (premises_from 0 type)
  premises_are_atomic h =
      let same : h.type ≡ type = one_type (constant_types sig) subject h.type type h.type_is type_is in
      let P : LfType → Type 0 = λ t. Premises t h.premises in
      at_premises (HasAtomAt type) 0 type h.premises (subst P same h.premises_are) h.atomic
      (λ k a n here is e. let Q : ℕ → Type 0 = HasAtomAt type in let place : k ≡ n = omega (arith, e) in subst Q place (a, here, is))

takes_atoms : (sig : LfSignature) (book : Book) (builder : Builder) (subject major : ℕ) → FitsBuilder sig book builder subject major → TakesAtoms sig (method_by book.lists builder subject major)
takes_atoms sig book Apply subject major fits = tt
takes_atoms sig book Constructors subject major fits = tt
takes_atoms sig book Cases subject major fits = λ type is. major_is_atomic sig subject type is major fits
takes_atoms sig book Forward subject major fits = λ type is. premises_are_atomic sig subject type is fits.0
takes_atoms sig book Destruct subject major fits = λ type is. premises_are_atomic sig subject type is fits.0
takes_atoms sig book Assumption subject major fits = tt
takes_atoms sig book Hyps subject major fits = tt

first_of_two : (rules : List Rule) (first second rule : Rule) → take 2 rules ≡ first ∷ second ∷ [] → slice_get rules 0 ≡ Some rule → first ≡ rule
first_of_two [] first second rule two here = absurd cc
first_of_two (r ∷ rules) first second rule two here = cc

second_of_two : (rules : List Rule) (first second rule : Rule) → take 2 rules ≡ first ∷ second ∷ [] → slice_get rules 1 ≡ Some rule → second ≡ rule
second_of_two [] first second rule two here = absurd cc
second_of_two (r ∷ []) first second rule two here = absurd cc
second_of_two (r ∷ s ∷ rules) first second rule two here = cc

pub rules_take_atoms : RulesTakeAtoms
rules_take_atoms sig book over zero rule here =
    let P : Rule → Type 0 = λ r. TakesAtoms sig (method_of book.lists r) in
    subst P (first_of_two book.rules assumption_rule hyps_rule rule over.built_in here) tt
rules_take_atoms sig book over (suc zero) rule here =
    let P : Rule → Type 0 = λ r. TakesAtoms sig (method_of book.lists r) in
    subst P (second_of_two book.rules assumption_rule hyps_rule rule over.built_in here) tt
rules_take_atoms sig book over (suc (suc place)) rule here =
    takes_atoms sig book rule.builder rule.subject rule.major (rules_of_a_book_fit sig book over place rule here).builder
