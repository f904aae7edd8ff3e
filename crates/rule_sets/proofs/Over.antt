-- Books that were added over a signature.
use Rattle.std.proofs.Common.{◌≡◌, ℕ, suc, ◌<◌, ◌≤◌, List, [], ◌∷◌, ◌++◌, length, Option, Some, None, Result, Ok, Err, refl, sym, ap, ◌∙◌, subst, arith, length-append, inl, inr, if◌then◌else◌, Bool, true, false}
use Rattle.std.specs.Prelude.{slice_get, nat_eq}
use Rattle.std.proofs.lemmas.List.Elements.{All-nil, All-cons, All-append, All-weaker}
use Rattle.lf_definitions.specs.Syntax.{LfType}
use Rattle.lf_definitions.specs.Signatures.{LfSignature, constant_types, family_kinds}
use Rattle.lf_definitions.proofs.Growth.{constant_types-append, family_kinds-append}
use Rattle.lf_definitions.proofs.Lists.{slice_get-prefix}
use Rattle.rule_sets.specs.declared.rule.Builder.{Builder}
use Rattle.rule_sets.specs.declared.rule.Builder.TheVariants.{Apply, Constructors, Cases, Forward, Destruct, Assumption, Hyps}
use Rattle.rule_sets.specs.declared.rule.Rule.{Rule}
use Rattle.rule_sets.specs.declared.rule.RuleFault.{RuleFault}
use Rattle.rule_sets.specs.declared.rule.RuleFault.TheVariants.{Taken, Full, Percent, NoConst, BadMajor, Premises, NoMemory}
use Rattle.rule_sets.specs.declared.rule.CtorFault.{CtorFault}
use Rattle.rule_sets.specs.declared.rule.CtorFault.TheVariants as ctors
use Rattle.rule_sets.specs.Books.{Book, Listed, list_of, first_book}
use Rattle.rule_sets.specs.Refusals.{HasNoSubject, IsMajor, IsBadMajor, HasPremises, HasBadPremises, IsRuleOver, AddsRule, AddsList, AreConstructors, IsListOver, IsOver}
use Rattle.rule_sets.proofs.BookParts.{built_in_more}
use Rattle.rule_sets.proofs.Constructors.{slice_get-last}

-- What a longer signature keeps.
module _ (sig more : LfSignature) where
  type_stays : (c : ℕ) (a : LfType) → slice_get (constant_types sig) c ≡ Some a → slice_get (constant_types (sig ++ more)) c ≡ Some a
  type_stays c a e = ap (λ l. slice_get l c) (constant_types-append sig more) ∙ slice_get-prefix (constant_types sig) (constant_types more) c a e

  fewer_constants : length (constant_types sig) ≤ length (constant_types (sig ++ more))
  fewer_constants = omega (arith, ap length (constant_types-append sig more), length-append (constant_types sig) (constant_types more))

  fewer_families : length (family_kinds sig) ≤ length (family_kinds (sig ++ more))
  fewer_families = omega (arith, ap length (family_kinds-append sig more), length-append (family_kinds sig) (family_kinds more))

  no_subject : (book : Book) (b : Builder) (subject : ℕ) → HasNoSubject (sig ++ more) book b subject → HasNoSubject sig book b subject
  no_subject book Apply subject none = omega (arith, fewer_constants, none)
  no_subject book Constructors subject none = none
  no_subject book Cases subject none = omega (arith, fewer_constants, none)
  no_subject book Forward subject none = omega (arith, fewer_constants, none)
  no_subject book Destruct subject none = omega (arith, fewer_constants, none)
  no_subject book Assumption subject none = omega (arith, fewer_constants, none)
  no_subject book Hyps subject none = omega (arith, fewer_constants, none)

  major_stays : (subject major : ℕ) → IsMajor sig subject major → IsMajor (sig ++ more) subject major
  major_stays subject major m = record {
    type = m.type;
    place = m.place;
    argument = m.argument;
    type_is = type_stays subject m.type m.type_is;
    place_is = m.place_is;
    argument_is = m.argument_is;
    atomic = m.atomic;
  }

  bad_major : (b : Builder) (subject major : ℕ) → IsBadMajor (sig ++ more) b subject major → IsBadMajor sig b subject major
  bad_major Apply subject major bad = bad
  bad_major Constructors subject major bad = bad
  bad_major Cases subject major bad = λ m. bad (major_stays subject major m)
  bad_major Forward subject major bad = bad
  bad_major Destruct subject major bad = bad
  bad_major Assumption subject major bad = bad
  bad_major Hyps subject major bad = bad

  premises_stay : (subject : ℕ) → HasPremises sig subject → HasPremises (sig ++ more) subject
  premises_stay subject h = record {
    type = h.type;
    premises = h.premises;
    type_is = type_stays subject h.type h.type_is;
    premises_are = h.premises_are;
    some = h.some;
    few = h.few;
    atomic = h.atomic;
  }

  bad_premises : (b : Builder) (subject : ℕ) → HasBadPremises (sig ++ more) b subject → HasBadPremises sig b subject
  bad_premises Apply subject bad = bad
  bad_premises Constructors subject bad = bad
  bad_premises Cases subject bad = bad
  bad_premises Forward subject bad = λ h. bad (premises_stay subject h)
  bad_premises Destruct subject bad = λ h. bad (premises_stay subject h)
  bad_premises Assumption subject bad = bad
  bad_premises Hyps subject bad = bad

  rule_stays : (book : Book) (rule : Rule) → IsRuleOver sig book rule → IsRuleOver (sig ++ more) book rule
  rule_stays book rule over = record {
    builder = over.builder;
    percent = over.percent;
    subject = λ none. over.subject (no_subject book rule.builder rule.subject none);
    major = λ bad. over.major (bad_major rule.builder rule.subject rule.major bad);
    premises = λ bad. over.premises (bad_premises rule.builder rule.subject bad);
  }

  list_stays : (listed : Listed) → IsListOver sig listed → IsListOver (sig ++ more) listed
  list_stays listed over = record {
    family_is = omega (arith, fewer_families, over.family_is);
    constructors = λ place constant here.
        let good = over.constructors place constant here in
        (good.0, record { type = good.1.type; type_is = type_stays constant good.1.type good.1.type_is; family_is = good.1.family_is });
  }

pub stays_over : (sig more : LfSignature) (book : Book) → IsOver sig book → IsOver (sig ++ more) book
stays_over sig more book over = record {
  built_in = over.built_in;
  rules = λ place rule is. rule_stays sig more book rule (over.rules place rule is);
  lists = All-weaker (IsListOver sig) (IsListOver (sig ++ more)) (list_stays sig more) book.lists over.lists;
}

pub first_is_over : (sig : LfSignature) → IsOver sig first_book
first_is_over sig = record { built_in = refl; rules = λ place rule is. absurd cc; lists = All-nil (IsListOver sig) }

-- A book with more lists has at least the subjects.
has_list : (lists : List Listed) (listed : Listed) (f : ℕ) → list_of (lists ++ listed ∷ []) f ≡ None → list_of lists f ≡ None
has_list [] listed f none = refl
has_list (l ∷ lists) listed f none = by (nat_eq l.of_family f) (list_of (lists ++ listed ∷ []) f) (list_of lists f) (has_list lists listed f) none
  where
    by : (b : Bool) (o p : Option (List ℕ)) → (o ≡ None → p ≡ None) → (if b then Some l.constants else o) ≡ None → (if b then Some l.constants else p) ≡ None
    by true o p later none = absurd cc
    by false o p later none = later none

more_lists : (sig : LfSignature) (old new : Book) (b : Builder) (subject : ℕ) → (list_of new.lists subject ≡ None → list_of old.lists subject ≡ None) → HasNoSubject sig new b subject → HasNoSubject sig old b subject
more_lists sig old new Apply subject fewer none = none
more_lists sig old new Constructors subject fewer none = fewer none
more_lists sig old new Cases subject fewer none = none
more_lists sig old new Forward subject fewer none = none
more_lists sig old new Destruct subject fewer none = none
more_lists sig old new Assumption subject fewer none = none
more_lists sig old new Hyps subject fewer none = none

rule_in : (sig : LfSignature) (old new : Book) (rule : Rule) → ((f : ℕ) → list_of new.lists f ≡ None → list_of old.lists f ≡ None) → IsRuleOver sig old rule → IsRuleOver sig new rule
rule_in sig old new rule fewer over = record {
  builder = over.builder;
  percent = over.percent;
  subject = λ none. over.subject (more_lists sig old new rule.builder rule.subject (fewer rule.subject) none);
  major = over.major;
  premises = over.premises;
}

rule_added : (sig : LfSignature) (old new : Book) (rule : Rule) → IsOver sig old → IsRuleOver sig old rule → new ≡ record { rules = old.rules ++ rule ∷ []; lists = old.lists } → IsOver sig new
rule_added sig old new rule over fits is =
    let P : Book → Type 0 = IsOver sig in
    let after : Book = record { rules = old.rules ++ rule ∷ []; lists = old.lists } in
    subst P (sym is) (record {
      built_in = built_in_more old.rules rule over.built_in;
      rules = λ place other here.
          elim (slice_get-last old.rules rule other (suc (suc place)) here) [
            | inl (within, before) ↦ rule_in sig old after other (λ f none. none) (over.rules place other before)
            | inr (last, same) ↦ (let Q : Rule → Type 0 = IsRuleOver sig after in subst Q same (rule_in sig old after rule (λ f none. none) fits))
          ];
      lists = over.lists;
    })

unchanged : (sig : LfSignature) (old new : Book) → IsOver sig old → new ≡ old → IsOver sig new
unchanged sig old new over is = let P : Book → Type 0 = IsOver sig in subst P (sym is) over

pub rule_keeps_over : (sig : LfSignature) (old new : Book) (rule : Rule) (answer : Result (Unit {0}) RuleFault) → IsOver sig old → AddsRule sig old rule answer new → IsOver sig new
rule_keeps_over sig old new rule (Ok done) over adds = rule_added sig old new rule over adds.2 adds.3
rule_keeps_over sig old new rule (Err Taken) over adds = unchanged sig old new over adds.1
rule_keeps_over sig old new rule (Err Full) over adds = unchanged sig old new over adds.1
rule_keeps_over sig old new rule (Err Percent) over adds = unchanged sig old new over adds.1
rule_keeps_over sig old new rule (Err NoConst) over adds = unchanged sig old new over adds.1
rule_keeps_over sig old new rule (Err BadMajor) over adds = unchanged sig old new over adds.1
rule_keeps_over sig old new rule (Err Premises) over adds = unchanged sig old new over adds.1
rule_keeps_over sig old new rule (Err (NoMemory kept)) over adds = unchanged sig old new over adds.1

list_added : (sig : LfSignature) (old new : Book) (f : ℕ) (constants : List ℕ) → f < length (family_kinds sig) → IsOver sig old → AreConstructors sig f constants →
    new ≡ record { rules = old.rules; lists = old.lists ++ record { of_family = f; constants = constants } ∷ [] } → IsOver sig new
list_added sig old new f constants within over good is =
    let P : Book → Type 0 = IsOver sig in
    let listed : Listed = record { of_family = f; constants = constants } in
    let after : Book = record { rules = old.rules; lists = old.lists ++ listed ∷ [] } in
    subst P (sym is) (record {
      built_in = over.built_in;
      rules = λ place rule here. rule_in sig old after rule (has_list old.lists listed) (over.rules place rule here);
      lists = All-append (IsListOver sig) old.lists (listed ∷ []) over.lists
          (All-cons (IsListOver sig) listed [] (record { family_is = within; constructors = good }) (All-nil (IsListOver sig)));
    })

pub list_keeps_over : (sig : LfSignature) (old new : Book) (f : ℕ) (constants : List ℕ) (answer : Result (Unit {0}) CtorFault) → f < length (family_kinds sig) → IsOver sig old →
    AddsList sig old f constants answer new → IsOver sig new
list_keeps_over sig old new f constants (Ok done) within over adds = list_added sig old new f constants within over adds.1 adds.2
list_keeps_over sig old new f constants (Err ctors.Taken) within over adds = unchanged sig old new over adds.1
list_keeps_over sig old new f constants (Err (ctors.Repeated k)) within over adds = unchanged sig old new over adds.1
list_keeps_over sig old new f constants (Err (ctors.Other k)) within over adds = unchanged sig old new over adds.1
list_keeps_over sig old new f constants (Err (ctors.NoMemory kept)) within over adds = unchanged sig old new over adds.1
