-- A declaration that makes a program is refused for no fault, and one that is refused is so for one fault.
use Rattle.std.proofs.Common.{◌≡◌, ℕ, Some, None, ◌⊎◌, inl, inr, List, [], ◌∷◌, ◌++◌, length, take, Contains, slice_get, refl, sym, ap, ap₂, ◌∙◌, subst, subst₂, arith}
use Rattle.basics.specs.Places.{place_of}
use Rattle.lf_definitions.specs.Signatures.{LfSignature, names_of, family_names, constant_names, typing_in}
use Rattle.lf_definitions.proofs.Options.{None-Some, Some_inj}
use Rattle.file_trees.specs.declared.span.Span.{Span}
use Rattle.file_trees.specs.declared.decl_tree.DeclTree.{DeclTree}
use Rattle.file_trees.specs.declared.decl_tree.DeclTree.TheVariants.{Family, Const, Theorem, Rule as rule_tree, Ctors}
use Rattle.file_trees.specs.declared.decl_tree.TheoremTree.{TheoremTree}
use Rattle.file_trees.specs.declared.decl_tree.RuleTree.{RuleTree}
use Rattle.file_trees.specs.Trees.{Classifier}
use Rattle.rule_sets.specs.declared.rule.Rule.{Rule}
use Rattle.rule_sets.specs.Books.{Book, list_of}
use Rattle.rule_sets.specs.Refusals.{HasFamily, AreConstructors, HasBadPremises}
use Rattle.elab_terms.specs.Names.{Text, text_at}
use Rattle.elab_terms.specs.Types.{RefusesType, RefusesKind}
use Rattle.elab_terms.specs.declared.elab_fault.ElabFault.{ElabFault}
use Rattle.elab_terms.specs.declared.elab_fault.ElabFault.TheVariants.{Taken, Unknown, BadRule}
use Rattle.elab_terms.proofs.ReadOrRefused.{read_type_not_refused, one_fault_of_type, read_kind_not_refused, one_fault_of_kind}
use Rattle.file_elab.specs.Rules.{ReadsRule, RefusesRule, refuses_number, refuses_subject, refuses_major, refuses_premises, builder_of, HasMajorPlace, major_value}
use Rattle.basics.specs.Limits.{most_symbols, most_rules, most_theorems}
use Rattle.file_elab.specs.Programs.{LfProgram, rule_names, theorem_names, MayBeNamed, RefusesName, refuses_taken, refuses_many, AreNumbers, no_number, one_number, Declares, declares_family, declares_constant, declares_theorem, declares_rule, declares_constructors, Refuses, refuses_family_name, refuses_family_kind, refuses_constant_name, refuses_constant_type, refuses_theorem_name, refuses_theorem_type, refuses_rule_name, refuses_rule_part, refuses_listed_family, refuses_listed, refuses_listed_name, refuses_listed_again, refuses_listed_other}
use Rattle.file_elab.proofs.DeclaredOnce.{same_numbers}

-- A name that may be declared is not refused, and a fault of a name is one.
name_not_refused : {names : List (List ℕ)} {most : ℕ} {text : Text} {name : Span} {fault : ElabFault} → MayBeNamed names most (text_at text name) → RefusesName names most text name fault → ⊥
name_not_refused may (refuses_taken taken) = taken may.new
name_not_refused may (refuses_many new many) =
    let room = may.room in
    omega (arith, room, many)

one_fault_of_name : {names : List (List ℕ)} {most : ℕ} {text : Text} {name : Span} {fault other : ElabFault} → RefusesName names most text name fault → RefusesName names most text name other → fault ≡ other
one_fault_of_name (refuses_taken taken) (refuses_taken again) = refl
one_fault_of_name (refuses_taken taken) (refuses_many new many) = absurd (taken new)
one_fault_of_name (refuses_many new many) (refuses_taken taken) = absurd (taken new)
one_fault_of_name (refuses_many new many) (refuses_many again more) = refl

-- A declaration with a name is refused at it, or else for its other parts.
abbrev NamedFault : List (List ℕ) → ℕ → Text → Span → (ElabFault → Type 0) → ElabFault → Type 0
NamedFault names most text name Refused fault = RefusesName names most text name fault ⊎ (MayBeNamed names most (text_at text name) × Refused fault)

named_not_refused : {names : List (List ℕ)} {most : ℕ} {text : Text} {name : Span} {fault : ElabFault} (Refused : ElabFault → Type 0) → MayBeNamed names most (text_at text name) →
    (Refused fault → ⊥) → NamedFault names most text name Refused fault → ⊥
named_not_refused Refused may sound (inl refused) = name_not_refused may refused
named_not_refused Refused may sound (inr (again, refused)) = sound refused

one_named_fault : {names : List (List ℕ)} {most : ℕ} {text : Text} {name : Span} {fault other : ElabFault} (Refused : ElabFault → Type 0) → (Refused fault → Refused other → fault ≡ other) →
    NamedFault names most text name Refused fault → NamedFault names most text name Refused other → fault ≡ other
one_named_fault Refused unique (inl refused) (inl wrong) = one_fault_of_name refused wrong
one_named_fault Refused unique (inl refused) (inr (may, wrong)) = absurd (name_not_refused may refused)
one_named_fault Refused unique (inr (may, refused)) (inl wrong) = absurd (name_not_refused may wrong)
one_named_fault Refused unique (inr (may, refused)) (inr (again, wrong)) = unique refused wrong

family_fault : {text : Text} {old : LfProgram} {name : Span} {tree : Classifier} {fault : ElabFault} → Refuses text old (Family name tree) fault →
    NamedFault (names_of old.signature) most_symbols text name (RefusesKind text old.signature [] (typing_in old.signature [] []) tree) fault
family_fault (refuses_family_name name tree fault refused) = inl refused
family_fault (refuses_family_kind name tree fault may refused) = inr (may, refused)

constant_fault : {text : Text} {old : LfProgram} {name : Span} {tree : Classifier} {fault : ElabFault} → Refuses text old (Const name tree) fault →
    NamedFault (names_of old.signature) most_symbols text name (RefusesType text old.signature [] (typing_in old.signature [] []) 0 tree) fault
constant_fault (refuses_constant_name name tree fault refused) = inl refused
constant_fault (refuses_constant_type name tree fault may refused) = inr (may, refused)

theorem_fault : {text : Text} {old : LfProgram} {tree : TheoremTree} {fault : ElabFault} → Refuses text old (Theorem tree) fault →
    NamedFault (theorem_names old) most_theorems text tree.name (RefusesType text old.signature [] (typing_in old.signature [] []) 0 tree.statement) fault
theorem_fault (refuses_theorem_name tree fault refused) = inl refused
theorem_fault (refuses_theorem_type tree fault may refused) = inr (may, refused)

rule_fault : {text : Text} {old : LfProgram} {parts : RuleTree} {fault : ElabFault} → Refuses text old (rule_tree parts) fault →
    NamedFault (rule_names old) most_rules text parts.name (RefusesRule text old.signature old.book parts) fault
rule_fault (refuses_rule_name parts fault refused) = inl refused
rule_fault (refuses_rule_part parts fault may refused) = inr (may, refused)

-- A rule that is read has no fault, and a fault of a rule is one.
rule_not_refused : {text : Text} {sig : LfSignature} {book : Book} {parts : RuleTree} {rule : Rule} {fault : ElabFault} →
    ReadsRule text sig book parts rule → RefusesRule text sig book parts fault → ⊥
rule_not_refused {rule = rule} read (refuses_number none) = none (rule.phase, read.phase_is)
rule_not_refused read (refuses_subject has none) = None-Some none read.subject_is
rule_not_refused {text = text} {sig = sig} {parts = parts} {rule = rule} read (refuses_major found has known none) =
    none (subst (λ s. HasMajorPlace sig (builder_of parts.builder) s (major_value text parts.major)) (Some_inj read.subject_is known) (rule.major, read.major_is))
rule_not_refused {sig = sig} {parts = parts} read (refuses_premises found has known one bad) =
    read.premises_are (subst (HasBadPremises sig (builder_of parts.builder)) (Some_inj known read.subject_is) bad)

one_fault_of_rule : {text : Text} {sig : LfSignature} {book : Book} {parts : RuleTree} {fault other : ElabFault} →
    RefusesRule text sig book parts fault → RefusesRule text sig book parts other → fault ≡ other
one_fault_of_rule (refuses_number none) (refuses_number nothing) = refl
one_fault_of_rule (refuses_number none) (refuses_subject has unknown) = absurd (none has)
one_fault_of_rule (refuses_number none) (refuses_major found has known without) = absurd (none has)
one_fault_of_rule (refuses_number none) (refuses_premises found has known one bad) = absurd (none has)
one_fault_of_rule (refuses_subject has unknown) (refuses_number none) = absurd (none has)
one_fault_of_rule (refuses_subject has unknown) (refuses_subject again same) = refl
one_fault_of_rule (refuses_subject has unknown) (refuses_major found again known without) = absurd (None-Some unknown known)
one_fault_of_rule (refuses_subject has unknown) (refuses_premises found again known one bad) = absurd (None-Some unknown known)
one_fault_of_rule (refuses_major found has known without) (refuses_number none) = absurd (none has)
one_fault_of_rule (refuses_major found has known without) (refuses_subject again unknown) = absurd (None-Some unknown known)
one_fault_of_rule (refuses_major found has known without) (refuses_major other again same none) = refl
one_fault_of_rule {text = text} {sig = sig} {parts = parts} (refuses_major found has known without) (refuses_premises other again same one bad) =
    absurd (without (subst (λ s. HasMajorPlace sig (builder_of parts.builder) s (major_value text parts.major)) (Some_inj same known) one))
one_fault_of_rule (refuses_premises found has known one bad) (refuses_number none) = absurd (none has)
one_fault_of_rule (refuses_premises found has known one bad) (refuses_subject again unknown) = absurd (None-Some unknown known)
one_fault_of_rule {text = text} {sig = sig} {parts = parts} (refuses_premises found has known one bad) (refuses_major other again same without) =
    absurd (without (subst (λ s. HasMajorPlace sig (builder_of parts.builder) s (major_value text parts.major)) (Some_inj known same) one))
one_fault_of_rule (refuses_premises found has known one bad) (refuses_premises other again same more wrong) = refl

-- Of two ways to take an entry out of a list, they are one, or the entry of one stands in prefix of that of the other.
pub record SameEntry {X : Type 0} (prefix longer : List X) (x y : X) : Type 0 where
  pub prefix_is : longer ≡ prefix
  pub entry_is : y ≡ x

pub record EntryBefore {X : Type 0} (prefix longer : List X) (x : X) : Type 0 where
  pub more : List X
  pub longer_is : longer ≡ prefix ++ x ∷ more

pub entries : {X : Type 0} (prefix longer rest left : List X) (x y : X) → prefix ++ x ∷ rest ≡ longer ++ y ∷ left →
    SameEntry prefix longer x y ⊎ EntryBefore prefix longer x ⊎ EntryBefore longer prefix y
entries [] [] rest left x y e = let same : x ≡ y = cc in inl (record { prefix_is = refl; entry_is = sym same })
entries [] (b ∷ longer) rest left x y e = let same : x ≡ b = cc in inr (inl (record { more = longer; longer_is = ap (λ z. z ∷ longer) (sym same) }))
entries (a ∷ prefix) [] rest left x y e = let same : a ≡ y = cc in inr (inr (record { more = prefix; longer_is = ap (λ z. z ∷ prefix) same }))
entries (a ∷ prefix) (b ∷ longer) rest left x y e =
    let here : a ≡ b = cc in
    let later : prefix ++ x ∷ rest ≡ longer ++ y ∷ left = cc in
    elim (entries prefix longer rest left x y later) [
      | inl same ↦ inl (record { prefix_is = ap₂ (λ z zs. z ∷ zs) (sym here) same.prefix_is; entry_is = same.entry_is })
      | inr (inl before) ↦ inr (inl (record { more = before.more; longer_is = ap₂ (λ z zs. z ∷ zs) (sym here) before.longer_is }))
      | inr (inr before) ↦ inr (inr (record { more = before.more; longer_is = ap₂ (λ z zs. z ∷ zs) here before.longer_is }))
    ]

-- A name in a list of constructors is wrong after these constants.
data WrongEntry (text : Text) (sig : LfSignature) (f : ℕ) (constants : List ℕ) (span : Span) : ElabFault → Type 0 where
  no_constant : place_of (constant_names sig) (text_at text span) ≡ None → WrongEntry text sig f constants span (Unknown span.start)
  stands_twice : (constant : ℕ) → place_of (constant_names sig) (text_at text span) ≡ Some constant → Contains constants constant →
      WrongEntry text sig f constants span (Taken span.start)
  of_another : (constant : ℕ) → place_of (constant_names sig) (text_at text span) ≡ Some constant → (Contains constants constant → ⊥) → (HasFamily sig f constant → ⊥) →
      WrongEntry text sig f constants span (BadRule span.start)

one_fault_of_entry : {text : Text} {sig : LfSignature} {f : ℕ} {constants : List ℕ} {span : Span} {fault other : ElabFault} →
    WrongEntry text sig f constants span fault → WrongEntry text sig f constants span other → fault ≡ other
one_fault_of_entry (no_constant none) (no_constant nothing) = refl
one_fault_of_entry (no_constant none) (stands_twice c known twice) = absurd (None-Some none known)
one_fault_of_entry (no_constant none) (of_another c known once differ) = absurd (None-Some none known)
one_fault_of_entry (stands_twice c known twice) (no_constant none) = absurd (None-Some none known)
one_fault_of_entry (stands_twice c known twice) (stands_twice d same more) = refl
one_fault_of_entry {constants = constants} (stands_twice c known twice) (of_another d same once differ) = absurd (once (subst (Contains constants) (Some_inj known same) twice))
one_fault_of_entry (of_another c known once differ) (no_constant none) = absurd (None-Some none known)
one_fault_of_entry {constants = constants} (of_another c known once differ) (stands_twice d same twice) = absurd (once (subst (Contains constants) (Some_inj same known) twice))
one_fault_of_entry (of_another c known once differ) (of_another d same one other) = refl

-- The numbers of a list are those of its prefix, and then that of the name after this.
record NumberAfter (text : Text) (sig : LfSignature) (span : Span) (constants numbers : List ℕ) : Type 0 where
  constant : ℕ
  more : List ℕ
  known : place_of (constant_names sig) (text_at text span) ≡ Some constant
  numbers_are : numbers ≡ constants ++ constant ∷ more

number_after : {text : Text} {sig : LfSignature} {span : Span} {constants numbers : List ℕ} (prefix rest : List Span) →
    AreNumbers text sig prefix constants → AreNumbers text sig (prefix ++ span ∷ rest) numbers → NumberAfter text sig span constants numbers
number_after [] rest no_number (one_number span _ constant numbers known are) = record { constant = constant; more = numbers; known = known; numbers_are = refl }
number_after (first ∷ prefix) rest (one_number _ _ c constants known are) (one_number _ _ d numbers same more) =
    let after = number_after prefix rest are more in
    record { constant = after.constant; more = after.more; known = after.known; numbers_are = ap₂ (λ x xs. x ∷ xs) (Some_inj same known) after.numbers_are }

get_after : (prefix : List ℕ) (x : ℕ) (more : List ℕ) → slice_get (prefix ++ x ∷ more) (length prefix) ≡ Some x
get_after [] x more = refl
get_after (y ∷ prefix) x more = get_after prefix x more

take_prefix : (prefix more : List ℕ) → take (length prefix) (prefix ++ more) ≡ prefix
take_prefix [] more = refl
take_prefix (y ∷ prefix) more = ap (λ xs. y ∷ xs) (take_prefix prefix more)

-- Where all names are constants of a list, none is wrong after those before it.
entry_not_wrong : {text : Text} {sig : LfSignature} {f : ℕ} {span : Span} {constants numbers : List ℕ} {fault : ElabFault} (prefix rest : List Span) →
    AreNumbers text sig (prefix ++ span ∷ rest) numbers → AreConstructors sig f numbers → AreNumbers text sig prefix constants → WrongEntry text sig f constants span fault → ⊥
entry_not_wrong {text = text} {sig = sig} {f = f} {span = span} {constants = constants} {numbers = numbers} prefix rest all fit are wrong = by (number_after prefix rest are all) wrong
  where
    fits : (c : ℕ) (more : List ℕ) → numbers ≡ constants ++ c ∷ more → (Contains constants c → ⊥) × HasFamily sig f c
    fits c more e =
        let there = subst (AreConstructors sig f) e fit (length constants) c (get_after constants c more) in
        (subst (λ xs. Contains xs c → ⊥) (take_prefix constants (c ∷ more)) there.0, there.1)

    by : {fault : ElabFault} → NumberAfter text sig span constants numbers → WrongEntry text sig f constants span fault → ⊥
    by after (no_constant none) = None-Some none after.known
    by after (stands_twice c known twice) = (fits after.constant after.more after.numbers_are).0 (subst (Contains constants) (Some_inj known after.known) twice)
    by after (of_another c known once differ) = differ (subst (HasFamily sig f) (Some_inj after.known known) (fits after.constant after.more after.numbers_are).1)

-- What a list of constructors is refused for.
data ListFault (text : Text) (old : LfProgram) (name : Span) (spans : List Span) : ElabFault → Type 0 where
  unknown_family : place_of (family_names old.signature) (text_at text name) ≡ None → ListFault text old name spans (Unknown name.start)
  has_list : (f : ℕ) → place_of (family_names old.signature) (text_at text name) ≡ Some f → (list_of old.book.lists f ≡ None → ⊥) → ListFault text old name spans (Taken name.start)
  wrong_entry : (f : ℕ) (prefix rest : List Span) (span : Span) (constants : List ℕ) (fault : ElabFault) → place_of (family_names old.signature) (text_at text name) ≡ Some f →
      list_of old.book.lists f ≡ None → spans ≡ prefix ++ span ∷ rest → AreNumbers text old.signature prefix constants → AreConstructors old.signature f constants →
      WrongEntry text old.signature f constants span fault → ListFault text old name spans fault

list_fault : {text : Text} {old : LfProgram} {name : Span} {spans : List Span} {fault : ElabFault} → Refuses text old (Ctors name spans) fault → ListFault text old name spans fault
list_fault (refuses_listed_family name spans none) = unknown_family none
list_fault (refuses_listed name spans f known listed) = has_list f known listed
list_fault (refuses_listed_name name span prefix rest f constants known new are fit none) =
    wrong_entry f prefix rest span constants (Unknown span.start) known new refl are fit (no_constant none)
list_fault (refuses_listed_again name span prefix rest f c constants known new are fit there twice) =
    wrong_entry f prefix rest span constants (Taken span.start) known new refl are fit (stands_twice c there twice)
list_fault (refuses_listed_other name span prefix rest f c constants known new are fit there once differ) =
    wrong_entry f prefix rest span constants (BadRule span.start) known new refl are fit (of_another c there once differ)

list_not_refused : {text : Text} {old : LfProgram} {name : Span} {spans : List Span} {f : ℕ} {numbers : List ℕ} {fault : ElabFault} →
    place_of (family_names old.signature) (text_at text name) ≡ Some f → list_of old.book.lists f ≡ None → AreNumbers text old.signature spans numbers →
    AreConstructors old.signature f numbers → ListFault text old name spans fault → ⊥
list_not_refused known new are fit (unknown_family none) = None-Some none known
list_not_refused {old = old} known new are fit (has_list g same listed) = listed (ap (list_of old.book.lists) (Some_inj same known) ∙ new)
list_not_refused {text = text} {old = old} {numbers = numbers} known new are fit (wrong_entry g prefix rest span constants fault same none parts some good wrong) =
    entry_not_wrong prefix rest (subst (λ xs. AreNumbers text old.signature xs numbers) parts are) (subst (λ n. AreConstructors old.signature n numbers) (Some_inj known same) fit) some wrong

same_entry_fault : {text : Text} {sig : LfSignature} {f : ℕ} {prefix longer : List Span} {span last : Span} {constants others : List ℕ} {fault other : ElabFault} → SameEntry prefix longer span last →
    AreNumbers text sig prefix constants → WrongEntry text sig f constants span fault → AreNumbers text sig longer others → WrongEntry text sig f others last other → fault ≡ other
same_entry_fault {text = text} {sig = sig} {f = f} {others = others} {other = other} same are wrong more bad =
    let constants_are = same_numbers (subst (λ xs. AreNumbers text sig xs others) same.prefix_is more) are in
    one_fault_of_entry wrong (subst₂ (λ cs s. WrongEntry text sig f cs s other) constants_are same.entry_is bad)

before_not_wrong : {text : Text} {sig : LfSignature} {f : ℕ} {prefix longer : List Span} {span : Span} {constants numbers : List ℕ} {fault : ElabFault} → EntryBefore prefix longer span →
    AreNumbers text sig longer numbers → AreConstructors sig f numbers → AreNumbers text sig prefix constants → WrongEntry text sig f constants span fault → ⊥
before_not_wrong {text = text} {sig = sig} {prefix = prefix} {numbers = numbers} before all fit are wrong =
    entry_not_wrong prefix before.more (subst (λ xs. AreNumbers text sig xs numbers) before.longer_is all) fit are wrong

one_list_fault : {text : Text} {old : LfProgram} {name : Span} {spans : List Span} {fault other : ElabFault} → ListFault text old name spans fault → ListFault text old name spans other → fault ≡ other
one_list_fault (unknown_family none) (unknown_family nothing) = refl
one_list_fault (unknown_family none) (has_list g known listed) = absurd (None-Some none known)
one_list_fault (unknown_family none) (wrong_entry g longer left last others other known new parts more good bad) = absurd (None-Some none known)
one_list_fault (has_list f known listed) (unknown_family none) = absurd (None-Some none known)
one_list_fault (has_list f known listed) (has_list g same again) = refl
one_list_fault {old = old} (has_list f known listed) (wrong_entry g longer left last others other same new parts more good bad) = absurd (listed (ap (list_of old.book.lists) (Some_inj known same) ∙ new))
one_list_fault (wrong_entry f prefix rest span constants fault known new parts are fit wrong) (unknown_family none) = absurd (None-Some none known)
one_list_fault {old = old} (wrong_entry f prefix rest span constants fault known new parts are fit wrong) (has_list g same listed) = absurd (listed (ap (list_of old.book.lists) (Some_inj same known) ∙ new))
one_list_fault {text = text} {old = old} (wrong_entry f prefix rest span constants fault known new parts are fit wrong) (wrong_entry g longer left last others other same none split more good bad) =
    let moved = subst (λ n. WrongEntry text old.signature n others last other) (Some_inj same known) bad in
    let fits = subst (λ n. AreConstructors old.signature n others) (Some_inj same known) good in
    elim (entries prefix longer rest left span last (sym parts ∙ split)) [
      | inl one ↦ same_entry_fault one are wrong more moved
      | inr (inl before) ↦ absurd (before_not_wrong before more fits are wrong)
      | inr (inr before) ↦ absurd (before_not_wrong before are fit more moved)
    ]

pub declared_not_refused : {text : Text} {old new : LfProgram} {declaration : DeclTree} {fault : ElabFault} → Declares text old declaration new → Refuses text old declaration fault → ⊥
declared_not_refused {text = text} {old = old} (declares_family name tree kind may read) refused =
    named_not_refused (RefusesKind text old.signature [] (typing_in old.signature [] []) tree) may (λ wrong. read_kind_not_refused read wrong) (family_fault refused)
declared_not_refused {text = text} {old = old} (declares_constant name tree type may read) refused =
    named_not_refused (RefusesType text old.signature [] (typing_in old.signature [] []) 0 tree) may (λ wrong. read_type_not_refused read wrong) (constant_fault refused)
declared_not_refused {text = text} {old = old} (declares_theorem tree type may read) refused =
    named_not_refused (RefusesType text old.signature [] (typing_in old.signature [] []) 0 tree.statement) may (λ wrong. read_type_not_refused read wrong) (theorem_fault refused)
declared_not_refused {text = text} {old = old} (declares_rule parts rule may read) refused =
    named_not_refused (RefusesRule text old.signature old.book parts) may (λ wrong. rule_not_refused read wrong) (rule_fault refused)
declared_not_refused (declares_constructors name spans f constants known none are fit) refused = list_not_refused known none are fit (list_fault refused)

pub one_fault_of_declaration : {text : Text} {old : LfProgram} {fault other : ElabFault} (declaration : DeclTree) → Refuses text old declaration fault → Refuses text old declaration other → fault ≡ other
one_fault_of_declaration {text = text} {old = old} (Family name tree) refused wrong =
    one_named_fault (RefusesKind text old.signature [] (typing_in old.signature [] []) tree) (λ first second. one_fault_of_kind first second) (family_fault refused) (family_fault wrong)
one_fault_of_declaration {text = text} {old = old} (Const name tree) refused wrong =
    one_named_fault (RefusesType text old.signature [] (typing_in old.signature [] []) 0 tree) (λ first second. one_fault_of_type first second) (constant_fault refused) (constant_fault wrong)
one_fault_of_declaration {text = text} {old = old} (Theorem tree) refused wrong =
    one_named_fault (RefusesType text old.signature [] (typing_in old.signature [] []) 0 tree.statement) (λ first second. one_fault_of_type first second) (theorem_fault refused) (theorem_fault wrong)
one_fault_of_declaration {text = text} {old = old} (rule_tree parts) refused wrong =
    one_named_fault (RefusesRule text old.signature old.book parts) (λ first second. one_fault_of_rule first second) (rule_fault refused) (rule_fault wrong)
one_fault_of_declaration (Ctors name spans) refused wrong = one_list_fault (list_fault refused) (list_fault wrong)
