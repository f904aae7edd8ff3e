-- What is read is refused for no fault, and what is refused is so for one.
use Rattle.std.proofs.Common.{◌≡◌, ℕ, zero, suc, ◌<◌, ◌≤◌, Option, Some, List, [], ◌∷◌, ◌++◌, length, take, refl, sym, ap, ◌∙◌, subst, subst₂, arith}
use Rattle.std.specs.Prelude.{slice_get}
use Rattle.std.proofs.lemmas.List.{take_all, length-append}
use Rattle.lf_definitions.specs.Syntax.{LfTerm, Spine, LfType, pis, LfKind}
use Rattle.lf_definitions.specs.Substitution.{Replacement, stays, push, push_all, SubstitutedType}
use Rattle.lf_definitions.specs.Typing.{Typing, with_variable}
use Rattle.lf_definitions.specs.Signatures.{LfSignature}
use Rattle.lf_definitions.proofs.Uniqueness.{unique_type}
use Rattle.lf_definitions.proofs.Options.{Some_inj}
use Rattle.file_trees.specs.declared.span.Span.{Span}
use Rattle.file_trees.specs.Trees.{Tree, Classifier}
use Rattle.file_trees.specs.Trees as trees
use Rattle.file_trees.specs.Places.{tree_place}
use Rattle.elab_terms.specs.Names.{Text, Bound}
use Rattle.elab_terms.specs.Terms.{ReadsTerm, reads_abstraction, reads_application, ReadsArguments, reads_none, reads_argument, RefusesTerm, refuses_abstraction, refuses_body, refuses_redex, refuses_name, refuses_extra, refuses_in_argument, refuses_result, RefusesArguments, refuses_here, refuses_later}
use Rattle.elab_terms.specs.Types.{ReadsType, reads_binder, reads_family, RefusesType, refuses_binder, refuses_domain, refuses_rest, refuses_family, refuses_word, refuses_few, refuses_family_argument, refuses_family_extra, ReadsKind, reads_type_word, reads_kind_binder, RefusesKind, refuses_kind_domain, refuses_kind_rest, refuses_kind_family}
use Rattle.elab_terms.specs.declared.elab_fault.ElabFault.{ElabFault}
use Rattle.elab_terms.specs.declared.elab_fault.ElabFault.TheVariants.{TooMany, Unknown, IllTyped}
use Rattle.elab_terms.proofs.ReadOnce.{same_first, same_missing, length-ReadsArguments, unique_term, unique_arguments, same_binder, no_binder, no_word_binder, unique_read_type}
use Rattle.elab_terms.proofs.FaultCases.{fault_of_abstraction, fault_of_name, FaultOfApplication, extra_argument, wrong_argument, wrong_result, fault_of_application, FaultOfBinder, one_too_many, wrong_domain, wrong_rest, fault_of_binder, fault_of_unknown, FaultOfFamily, few_arguments, wrong_family_argument, extra_family_argument, fault_of_family}

within : {X : Type 0} (xs : List X) (i : ℕ) (x : X) → slice_get xs i ≡ Some x → i < length xs
within [] i x e = absurd cc
within (y ∷ xs) zero x e = omega arith
within (y ∷ xs) (suc i) x e = let later = within xs i x e in omega (arith, later)

-- Arguments that are read are no more than the binders, and so none is one too many.
none_extra : {text : Text} {sig : LfSignature} {binders : Bound} {Γ : Typing} {σ : Replacement} {arguments : List Tree} {domains first : List LfType} {ts : Spine} {extra : Tree} →
    (missing : List LfType) → domains ≡ first ++ missing → ReadsArguments text sig binders Γ σ arguments first ts → slice_get arguments (length domains) ≡ Some extra → ⊥
none_extra {arguments = arguments} {domains = domains} {first = first} {extra = extra} missing are read there =
    let inside = within arguments (length domains) extra there in
    let count = length-ReadsArguments read in
    let parts = ap length are ∙ length-append first missing in
    omega (arith, inside, count, parts)

-- An application whose arguments are read, with the type that is wanted, has no fault.
sound_application : {text : Text} {sig : LfSignature} {binders : Bound} {Γ : Typing} {tree : Tree} {arguments : List Tree} {first : List LfType} {end wanted : LfType} {ts : Spine} {fault : ElabFault} →
    (missing : List LfType) → ((other : ElabFault) → RefusesArguments text sig binders Γ stays arguments (first ++ missing) other → ⊥) →
    ReadsArguments text sig binders Γ stays arguments first ts → SubstitutedType (push_all ts stays) (pis missing end) wanted →
    FaultOfApplication text sig binders Γ tree arguments (first ++ missing) end wanted fault → ⊥
sound_application missing sound read result (extra_argument extra there) = none_extra missing refl read there
sound_application missing sound read result (wrong_argument fault few refused) = sound fault refused
sound_application {text = text} {sig = sig} {binders = binders} {Γ = Γ} {arguments = arguments} {first = first} {end = end} {wanted = wanted} {ts = ts} missing sound read result
    (wrong_result other left us found are reads ends differ) =
    let count = sym (length-ReadsArguments read) ∙ length-ReadsArguments reads in
    let first_is = same_first first missing other left are count in
    let missing_is = same_missing first missing other left are count in
    let args_are = unique_arguments read (subst (λ ds. ReadsArguments text sig binders Γ stays arguments ds us) (sym first_is) reads) in
    differ (unique_type ends (subst₂ (λ x ds. SubstitutedType (push_all x stays) (pis ds end) wanted) args_are missing_is result))

mutual
  pub read_term_not_refused : {text : Text} {sig : LfSignature} {binders : Bound} {Γ : Typing} {tree : Tree} {a : LfType} {t : LfTerm} {fault : ElabFault} →
      ReadsTerm text sig binders Γ tree a t → RefusesTerm text sig binders Γ tree a fault → ⊥
  read_term_not_refused (reads_abstraction binders Γ tree binder body a c b is read) refused = read_term_not_refused read (fault_of_abstraction is refused)
  read_term_not_refused (reads_application binders Γ tree span arguments h first missing f args ts wanted is resolved known read result) refused =
      sound_application missing (λ other wrong. read_arguments_not_refused read missing wrong) read result (fault_of_application is resolved known refused)

  pub read_arguments_not_refused : {text : Text} {sig : LfSignature} {binders : Bound} {Γ : Typing} {σ : Replacement} {arguments : List Tree} {first : List LfType} {ts : Spine} {fault : ElabFault} →
      ReadsArguments text sig binders Γ σ arguments first ts → (missing : List LfType) → RefusesArguments text sig binders Γ σ arguments (first ++ missing) fault → ⊥
  read_arguments_not_refused (reads_none binders Γ σ) missing refused = elim refused [ ]
  read_arguments_not_refused {text = text} {sig = sig} (reads_argument binders Γ σ tree arguments a c rest t ts result read more) missing (refuses_here _ _ _ _ _ _ d _ fault end refused) =
      read_term_not_refused read (subst (λ x. RefusesTerm text sig binders Γ tree x fault) (unique_type end result) refused)
  read_arguments_not_refused {text = text} {sig = sig} (reads_argument binders Γ σ tree arguments a c rest t ts result read more) missing (refuses_later _ _ _ _ _ _ d _ u fault end reads refused) =
      let term_is = unique_term read (subst (λ x. ReadsTerm text sig binders Γ tree x u) (unique_type end result) reads) in
      read_arguments_not_refused more missing (subst (λ x. RefusesArguments text sig binders Γ (push x σ) arguments (rest ++ missing) fault) (sym term_is) refused)

-- The first fault of an application, where it is this one.
extra_first : {text : Text} {sig : LfSignature} {binders : Bound} {Γ : Typing} {tree extra : Tree} {arguments : List Tree} {domains : List LfType} {end wanted : LfType} {fault : ElabFault} →
    slice_get arguments (length domains) ≡ Some extra → FaultOfApplication text sig binders Γ tree arguments domains end wanted fault → IllTyped (tree_place extra) ≡ fault
extra_first there (extra_argument other same) = ap (λ t. IllTyped (tree_place t)) (Some_inj there same)
extra_first {extra = extra} {arguments = arguments} {domains = domains} there (wrong_argument fault few refused) =
    let inside = within arguments (length domains) extra there in
    absurd (omega (arith, inside, few))
extra_first there (wrong_result first missing ts found are read result differ) = absurd (none_extra missing are read there)

argument_first : {text : Text} {sig : LfSignature} {binders : Bound} {Γ : Typing} {tree : Tree} {arguments : List Tree} {domains : List LfType} {end wanted : LfType} {fault other : ElabFault} →
    ((last : ElabFault) → RefusesArguments text sig binders Γ stays arguments domains last → fault ≡ last) → length arguments ≤ length domains →
    RefusesArguments text sig binders Γ stays arguments domains fault → FaultOfApplication text sig binders Γ tree arguments domains end wanted other → fault ≡ other
argument_first {arguments = arguments} {domains = domains} unique few refused (extra_argument extra there) =
    let inside = within arguments (length domains) extra there in
    absurd (omega (arith, inside, few))
argument_first unique few refused (wrong_argument other less wrong) = unique other wrong
argument_first {text = text} {sig = sig} {binders = binders} {Γ = Γ} {arguments = arguments} {fault = fault} unique few refused (wrong_result first missing ts found are read result differ) =
    absurd (read_arguments_not_refused read missing (subst (λ ds. RefusesArguments text sig binders Γ stays arguments ds fault) are refused))

result_first : {text : Text} {sig : LfSignature} {binders : Bound} {Γ : Typing} {tree : Tree} {arguments : List Tree} {first : List LfType} {end wanted : LfType} {ts : Spine} {fault : ElabFault} →
    (missing : List LfType) → ReadsArguments text sig binders Γ stays arguments first ts → FaultOfApplication text sig binders Γ tree arguments (first ++ missing) end wanted fault →
    IllTyped (tree_place tree) ≡ fault
result_first missing read (extra_argument extra there) = absurd (none_extra missing refl read there)
result_first missing read (wrong_argument fault few refused) = absurd (read_arguments_not_refused read missing refused)
result_first missing read (wrong_result other left us found are reads ends differ) = refl

mutual
  pub one_fault_of_term : {text : Text} {sig : LfSignature} {binders : Bound} {Γ : Typing} {tree : Tree} {a : LfType} {fault other : ElabFault} →
      RefusesTerm text sig binders Γ tree a fault → RefusesTerm text sig binders Γ tree a other → fault ≡ other
  one_fault_of_term (refuses_abstraction binders Γ tree binder body f args is) refused = sym (fault_of_abstraction is refused)
  one_fault_of_term (refuses_body binders Γ tree binder body a c fault is wrong) refused = one_fault_of_term wrong (fault_of_abstraction is refused)
  one_fault_of_term (refuses_redex binders Γ tree argument binder body arguments wanted is) refused = sym (fault_of_abstraction is refused)
  one_fault_of_term (refuses_name binders Γ tree span arguments wanted is none) refused = sym (fault_of_name is none refused)
  one_fault_of_term (refuses_extra binders Γ tree extra span arguments h domains f args wanted is resolved known there) refused =
      extra_first there (fault_of_application is resolved known refused)
  one_fault_of_term (refuses_in_argument binders Γ tree span arguments h domains f args wanted fault is resolved known few wrong) refused =
      argument_first (λ last other. one_fault_of_arguments wrong other) few wrong (fault_of_application is resolved known refused)
  one_fault_of_term (refuses_result binders Γ tree span arguments h first missing f args ts found wanted is resolved known read result differ) refused =
      result_first missing read (fault_of_application is resolved known refused)

  pub one_fault_of_arguments : {text : Text} {sig : LfSignature} {binders : Bound} {Γ : Typing} {σ : Replacement} {arguments : List Tree} {domains : List LfType} {fault other : ElabFault} →
      RefusesArguments text sig binders Γ σ arguments domains fault → RefusesArguments text sig binders Γ σ arguments domains other → fault ≡ other
  one_fault_of_arguments {text = text} {sig = sig} (refuses_here binders Γ σ tree arguments a c rest fault result refused) (refuses_here _ _ _ _ _ _ d _ other end wrong) =
      one_fault_of_term refused (subst (λ x. RefusesTerm text sig binders Γ tree x other) (unique_type end result) wrong)
  one_fault_of_arguments {text = text} {sig = sig} (refuses_here binders Γ σ tree arguments a c rest fault result refused) (refuses_later _ _ _ _ _ _ d _ u other end read wrong) =
      absurd (read_term_not_refused (subst (λ x. ReadsTerm text sig binders Γ tree x u) (unique_type end result) read) refused)
  one_fault_of_arguments {text = text} {sig = sig} (refuses_later binders Γ σ tree arguments a c rest t fault result read refused) (refuses_here _ _ _ _ _ _ d _ other end wrong) =
      absurd (read_term_not_refused read (subst (λ x. RefusesTerm text sig binders Γ tree x other) (unique_type end result) wrong))
  one_fault_of_arguments {text = text} {sig = sig} (refuses_later binders Γ σ tree arguments a c rest t fault result read refused) (refuses_later _ _ _ _ _ _ d _ u other end reads wrong) =
      let term_is = unique_term read (subst (λ x. ReadsTerm text sig binders Γ tree x u) (unique_type end result) reads) in
      one_fault_of_arguments refused (subst (λ x. RefusesArguments text sig binders Γ (push x σ) arguments rest other) (sym term_is) wrong)

-- The same of families: where all arguments are read there are as many as the kind has binders.
all_taken : {text : Text} {sig : LfSignature} {binders : Bound} {Γ : Typing} {arguments : List Tree} {domains : LfKind} {ts : Spine} →
    ReadsArguments text sig binders Γ stays arguments domains ts → take (length domains) arguments ≡ arguments
all_taken {arguments = arguments} {domains = domains} read =
    let count = length-ReadsArguments read in
    take_all (length domains) arguments (omega (arith, count))

none_missing : (domains : LfKind) → domains ++ [] ≡ domains
none_missing [] = refl
none_missing (a ∷ domains) = ap (λ ds. a ∷ ds) (none_missing domains)

read_not_refused : {text : Text} {sig : LfSignature} {binders : Bound} {Γ : Typing} {arguments : List Tree} {domains : LfKind} {ts : Spine} {fault : ElabFault} →
    ReadsArguments text sig binders Γ stays arguments domains ts → RefusesArguments text sig binders Γ stays arguments domains fault → ⊥
read_not_refused {text = text} {sig = sig} {binders = binders} {Γ = Γ} {arguments = arguments} {domains = domains} {fault = fault} read refused =
    read_arguments_not_refused read [] (subst (λ ds. RefusesArguments text sig binders Γ stays arguments ds fault) (sym (none_missing domains)) refused)

sound_family : {text : Text} {sig : LfSignature} {binders : Bound} {Γ : Typing} {span : Span} {arguments : List Tree} {domains : LfKind} {ts : Spine} {fault : ElabFault} →
    ReadsArguments text sig binders Γ stays arguments domains ts → FaultOfFamily text sig binders Γ span arguments domains fault → ⊥
sound_family read (few_arguments few) =
    let count = length-ReadsArguments read in
    omega (arith, few, count)
sound_family {text = text} {sig = sig} {binders = binders} {Γ = Γ} {domains = domains} read (wrong_family_argument fault enough refused) =
    read_not_refused read (subst (λ xs. RefusesArguments text sig binders Γ stays xs domains fault) (all_taken read) refused)
sound_family {arguments = arguments} {domains = domains} read (extra_family_argument extra us reads there) =
    let inside = within arguments (length domains) extra there in
    let count = length-ReadsArguments read in
    omega (arith, inside, count)

few_first : {text : Text} {sig : LfSignature} {binders : Bound} {Γ : Typing} {span : Span} {arguments : List Tree} {domains : LfKind} {fault : ElabFault} →
    length arguments < length domains → FaultOfFamily text sig binders Γ span arguments domains fault → IllTyped span.start ≡ fault
few_first few (few_arguments less) = refl
few_first few (wrong_family_argument fault enough refused) = absurd (omega (arith, few, enough))
few_first {arguments = arguments} {domains = domains} few (extra_family_argument extra us reads there) =
    let inside = within arguments (length domains) extra there in
    absurd (omega (arith, few, inside))

family_argument_first : {text : Text} {sig : LfSignature} {binders : Bound} {Γ : Typing} {span : Span} {arguments : List Tree} {domains : LfKind} {fault other : ElabFault} →
    length domains ≤ length arguments → RefusesArguments text sig binders Γ stays (take (length domains) arguments) domains fault →
    FaultOfFamily text sig binders Γ span arguments domains other → fault ≡ other
family_argument_first enough refused (few_arguments few) = absurd (omega (arith, few, enough))
family_argument_first enough refused (wrong_family_argument other more wrong) = one_fault_of_arguments refused wrong
family_argument_first enough refused (extra_family_argument extra us reads there) = absurd (read_not_refused reads refused)

family_extra_first : {text : Text} {sig : LfSignature} {binders : Bound} {Γ : Typing} {span : Span} {arguments : List Tree} {domains : LfKind} {extra : Tree} {ts : Spine} {fault : ElabFault} →
    ReadsArguments text sig binders Γ stays (take (length domains) arguments) domains ts → slice_get arguments (length domains) ≡ Some extra →
    FaultOfFamily text sig binders Γ span arguments domains fault → IllTyped (tree_place extra) ≡ fault
family_extra_first {arguments = arguments} {domains = domains} {extra = extra} read there (few_arguments few) =
    let inside = within arguments (length domains) extra there in
    absurd (omega (arith, few, inside))
family_extra_first read there (wrong_family_argument fault enough refused) = absurd (read_not_refused read refused)
family_extra_first read there (extra_family_argument other us reads same) = ap (λ t. IllTyped (tree_place t)) (Some_inj there same)

-- A binder that is read, and what stands after it.
sound_binder : {text : Text} {sig : LfSignature} {binders : Bound} {Γ : Typing} {count place : ℕ} {domain rest : Classifier} {name : Option (List ℕ)} {a : LfType} {fault : ElabFault} →
    count < 1000 → ReadsType text sig binders Γ 0 domain a → ((other : ElabFault) → RefusesType text sig binders Γ 0 domain other → ⊥) →
    ((other : ElabFault) → RefusesType text sig (name ∷ binders) (with_variable a Γ) (suc count) rest other → ⊥) →
    FaultOfBinder text sig binders Γ count place domain rest name fault → ⊥
sound_binder few read first later (one_too_many many) = omega (arith, few, many)
sound_binder few read first later (wrong_domain other less refused) = first other refused
sound_binder {text = text} {sig = sig} {binders = binders} {Γ = Γ} {count = count} {rest = rest} {name = name} few read first later (wrong_rest b other less reads refused) =
    later other (subst (λ x. RefusesType text sig (name ∷ binders) (with_variable x Γ) (suc count) rest other) (unique_read_type reads read) refused)

pub read_type_not_refused : {text : Text} {sig : LfSignature} {binders : Bound} {Γ : Typing} {count : ℕ} {tree : Classifier} {a : LfType} {fault : ElabFault} →
    ReadsType text sig binders Γ count tree a → RefusesType text sig binders Γ count tree fault → ⊥
read_type_not_refused (reads_binder binders Γ count place whole domain rest name a b is few read more) refused =
    sound_binder few read (λ other wrong. read_type_not_refused read wrong) (λ other wrong. read_type_not_refused more wrong) (fault_of_binder is refused)
read_type_not_refused (reads_family binders Γ count span arguments f domains ts resolved known read) refused = sound_family read (fault_of_family resolved known refused)

many_first : {text : Text} {sig : LfSignature} {binders : Bound} {Γ : Typing} {count place : ℕ} {domain rest : Classifier} {name : Option (List ℕ)} {fault : ElabFault} →
    1000 ≤ count → FaultOfBinder text sig binders Γ count place domain rest name fault → TooMany place ≡ fault
many_first many (one_too_many more) = refl
many_first many (wrong_domain fault few refused) = absurd (omega (arith, few, many))
many_first many (wrong_rest b fault few read refused) = absurd (omega (arith, few, many))

domain_first : {text : Text} {sig : LfSignature} {binders : Bound} {Γ : Typing} {count place : ℕ} {domain rest : Classifier} {name : Option (List ℕ)} {fault other : ElabFault} →
    count < 1000 → RefusesType text sig binders Γ 0 domain fault → ((last : ElabFault) → RefusesType text sig binders Γ 0 domain last → fault ≡ last) →
    FaultOfBinder text sig binders Γ count place domain rest name other → fault ≡ other
domain_first few refused unique (one_too_many many) = absurd (omega (arith, few, many))
domain_first few refused unique (wrong_domain other less wrong) = unique other wrong
domain_first few refused unique (wrong_rest b other less read wrong) = absurd (read_type_not_refused read refused)

rest_first : {text : Text} {sig : LfSignature} {binders : Bound} {Γ : Typing} {count place : ℕ} {domain rest : Classifier} {name : Option (List ℕ)} {a : LfType} {fault other : ElabFault} →
    count < 1000 → ReadsType text sig binders Γ 0 domain a →
    ((last : ElabFault) → RefusesType text sig (name ∷ binders) (with_variable a Γ) (suc count) rest last → fault ≡ last) →
    FaultOfBinder text sig binders Γ count place domain rest name other → fault ≡ other
rest_first few read unique (one_too_many many) = absurd (omega (arith, few, many))
rest_first few read unique (wrong_domain other less wrong) = absurd (read_type_not_refused read wrong)
rest_first {text = text} {sig = sig} {binders = binders} {Γ = Γ} {count = count} {rest = rest} {name = name} few read unique (wrong_rest b other less reads wrong) =
    unique other (subst (λ x. RefusesType text sig (name ∷ binders) (with_variable x Γ) (suc count) rest other) (unique_read_type reads read) wrong)

one_fault_of_word : {text : Text} {sig : LfSignature} {binders : Bound} {Γ : Typing} {count : ℕ} {span : Span} {fault : ElabFault} →
    RefusesType text sig binders Γ count (trees.star span) fault → Unknown span.start ≡ fault
one_fault_of_word (refuses_binder binders Γ count start _ other left binder are many) = absurd (no_word_binder are)
one_fault_of_word (refuses_domain binders Γ count start _ other left binder fault are few refused) = absurd (no_word_binder are)
one_fault_of_word (refuses_rest binders Γ count start _ other left binder a fault are few read refused) = absurd (no_word_binder are)
one_fault_of_word (refuses_word binders Γ count span) = refl

pub one_fault_of_type : {text : Text} {sig : LfSignature} {binders : Bound} {Γ : Typing} {count : ℕ} {tree : Classifier} {fault other : ElabFault} →
    RefusesType text sig binders Γ count tree fault → RefusesType text sig binders Γ count tree other → fault ≡ other
one_fault_of_type (refuses_binder binders Γ count place whole domain rest name is many) refused = many_first many (fault_of_binder is refused)
one_fault_of_type (refuses_domain binders Γ count place whole domain rest name fault is few wrong) refused =
    domain_first few wrong (λ last other. one_fault_of_type wrong other) (fault_of_binder is refused)
one_fault_of_type (refuses_rest binders Γ count place whole domain rest name a fault is few read wrong) refused =
    rest_first few read (λ last other. one_fault_of_type wrong other) (fault_of_binder is refused)
one_fault_of_type (refuses_family binders Γ count span arguments none) refused = sym (fault_of_unknown none refused)
one_fault_of_type (refuses_word binders Γ count span) refused = one_fault_of_word refused
one_fault_of_type (refuses_few binders Γ count span arguments f domains resolved known few) refused = few_first few (fault_of_family resolved known refused)
one_fault_of_type (refuses_family_argument binders Γ count span arguments f domains fault resolved known enough wrong) refused =
    family_argument_first enough wrong (fault_of_family resolved known refused)
one_fault_of_type (refuses_family_extra binders Γ count span arguments extra f domains ts resolved known read there) refused =
    family_extra_first read there (fault_of_family resolved known refused)

-- Kinds.
pub read_kind_not_refused : {text : Text} {sig : LfSignature} {binders : Bound} {Γ : Typing} {tree : Classifier} {kind : LfKind} {fault : ElabFault} →
    ReadsKind text sig binders Γ tree kind → RefusesKind text sig binders Γ tree fault → ⊥
read_kind_not_refused (reads_type_word binders Γ span) (refuses_kind_domain _ _ start _ other left binder fault are refused) = no_word_binder are
read_kind_not_refused (reads_type_word binders Γ span) (refuses_kind_rest _ _ start _ other left binder b fault are read refused) = no_word_binder are
read_kind_not_refused {text = text} {sig = sig} (reads_kind_binder binders Γ place whole domain rest name a kind is read more) (refuses_kind_domain _ _ start _ other left binder fault are refused) =
    read_type_not_refused read (subst (λ x. RefusesType text sig binders Γ 0 x fault) (same_binder is are).domain_is refused)
read_kind_not_refused {text = text} {sig = sig} (reads_kind_binder binders Γ place whole domain rest name a kind is read more) (refuses_kind_rest _ _ start _ other left binder b fault are reads refused) =
    let same = same_binder is are in
    let first = unique_read_type read (subst (λ x. ReadsType text sig binders Γ 0 x b) same.domain_is reads) in
    let moved = subst₂ (λ n x. RefusesKind text sig (n ∷ binders) (with_variable b Γ) x fault) same.name_is same.rest_is refused in
    read_kind_not_refused more (subst (λ x. RefusesKind text sig (name ∷ binders) (with_variable x Γ) rest fault) (sym first) moved)
read_kind_not_refused (reads_kind_binder binders Γ place _ domain rest name a kind is read more) (refuses_kind_family _ _ span arguments) = no_binder is

pub one_fault_of_kind : {text : Text} {sig : LfSignature} {binders : Bound} {Γ : Typing} {tree : Classifier} {fault last : ElabFault} →
    RefusesKind text sig binders Γ tree fault → RefusesKind text sig binders Γ tree last → fault ≡ last
one_fault_of_kind {text = text} {sig = sig} (refuses_kind_domain binders Γ place whole domain rest name fault is refused) (refuses_kind_domain _ _ start _ other left binder last are wrong) =
    one_fault_of_type refused (subst (λ x. RefusesType text sig binders Γ 0 x last) (same_binder is are).domain_is wrong)
one_fault_of_kind {text = text} {sig = sig} (refuses_kind_domain binders Γ place whole domain rest name fault is refused) (refuses_kind_rest _ _ start _ other left binder b last are read wrong) =
    absurd (read_type_not_refused (subst (λ x. ReadsType text sig binders Γ 0 x b) (same_binder is are).domain_is read) refused)
one_fault_of_kind (refuses_kind_domain binders Γ place _ domain rest name fault is refused) (refuses_kind_family _ _ span arguments) = absurd (no_binder is)
one_fault_of_kind {text = text} {sig = sig} (refuses_kind_rest binders Γ place whole domain rest name a fault is read refused) (refuses_kind_domain _ _ start _ other left binder last are wrong) =
    absurd (read_type_not_refused read (subst (λ x. RefusesType text sig binders Γ 0 x last) (same_binder is are).domain_is wrong))
one_fault_of_kind {text = text} {sig = sig} (refuses_kind_rest binders Γ place whole domain rest name a fault is read refused) (refuses_kind_rest _ _ start _ other left binder b last are reads wrong) =
    let same = same_binder is are in
    let first = unique_read_type read (subst (λ x. ReadsType text sig binders Γ 0 x b) same.domain_is reads) in
    let moved = subst₂ (λ n x. RefusesKind text sig (n ∷ binders) (with_variable b Γ) x last) same.name_is same.rest_is wrong in
    one_fault_of_kind refused (subst (λ x. RefusesKind text sig (name ∷ binders) (with_variable x Γ) rest last) (sym first) moved)
one_fault_of_kind (refuses_kind_rest binders Γ place _ domain rest name a fault is read refused) (refuses_kind_family _ _ span arguments) = absurd (no_binder is)
one_fault_of_kind (refuses_kind_family binders Γ span arguments) (refuses_kind_domain _ _ start _ other left binder last are wrong) = absurd (no_binder are)
one_fault_of_kind (refuses_kind_family binders Γ span arguments) (refuses_kind_rest _ _ start _ other left binder b last are read wrong) = absurd (no_binder are)
one_fault_of_kind (refuses_kind_family binders Γ span arguments) (refuses_kind_family _ _ _ _) = refl
