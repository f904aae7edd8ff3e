-- What a tree may be refused for, by what it is.
use Rattle.std.proofs.Common.{◌≡◌, ◌≢◌, ℕ, suc, ◌<◌, ◌≤◌, Option, Some, None, List, [], ◌∷◌, ◌++◌, length, take, refl, sym, ap, ◌∙◌, subst, subst₂}
use Rattle.std.specs.Prelude.{slice_get}
use Rattle.lf_definitions.specs.Syntax.{LfHead, Spine, LfType, pi, family, pis, LfKind}
use Rattle.lf_definitions.specs.Substitution.{stays, push_all, SubstitutedType}
use Rattle.lf_definitions.specs.Typing.{Typing, with_variable}
use Rattle.lf_definitions.specs.Signatures.{LfSignature, kinds_in}
use Rattle.lf_definitions.proofs.Options.{None-Some, Some_inj}
use Rattle.file_trees.specs.declared.span.Span.{Span}
use Rattle.file_trees.specs.declared.span.BinderSpan.{BinderSpan}
use Rattle.file_trees.specs.Trees.{Tree, leaf, abstraction, Classifier}
use Rattle.file_trees.specs.Trees as trees
use Rattle.file_trees.specs.Places.{tree_place}
use Rattle.elab_terms.specs.Applied.{IsApplied}
use Rattle.elab_terms.specs.Names.{Text, text_at, binder_name, Bound, named_head}
use Rattle.elab_terms.specs.Names as names
use Rattle.elab_terms.specs.Terms.{ReadsArguments, RefusesTerm, refuses_abstraction, refuses_body, refuses_redex, refuses_name, refuses_extra, refuses_in_argument, refuses_result, RefusesArguments}
use Rattle.elab_terms.specs.Types.{IsBinder, ReadsType, RefusesType, refuses_binder, refuses_domain, refuses_rest, refuses_family, refuses_word, refuses_few, refuses_family_argument, refuses_family_extra}
use Rattle.elab_terms.specs.declared.elab_fault.ElabFault.{ElabFault}
use Rattle.elab_terms.specs.declared.elab_fault.ElabFault.TheVariants.{TooMany, Unknown, Redex, IllTyped}
use Rattle.elab_terms.proofs.ReadOnce.{leaf-abstraction, leaf_inj, abstraction_binder, abstraction_body, same_head, same_known, same_binders, same_end, same_binder, no_binder}

-- An abstraction, by its arguments and the type that is wanted.
abbrev pub FaultOfAbstraction : Text → LfSignature → Bound → Typing → BinderSpan → Tree → List Tree → LfType → ElabFault → Type 0
FaultOfAbstraction text sig binders Γ binder body (argument ∷ arguments) wanted fault = fault ≡ Redex binder.opening
FaultOfAbstraction text sig binders Γ binder body [] (family f args) fault = fault ≡ IllTyped binder.opening
FaultOfAbstraction text sig binders Γ binder body [] (pi a c) fault = RefusesTerm text sig (binder_name text binder ∷ binders) (with_variable a Γ) body c fault

pub fault_of_abstraction : {text : Text} {sig : LfSignature} {binders : Bound} {Γ : Typing} {tree body : Tree} {binder : BinderSpan} {arguments : List Tree} {wanted : LfType} {fault : ElabFault} →
    IsApplied tree [] (abstraction binder body) arguments → RefusesTerm text sig binders Γ tree wanted fault → FaultOfAbstraction text sig binders Γ binder body arguments wanted fault
fault_of_abstraction {text = text} {sig = sig} {body = body} {binder = binder} is (refuses_abstraction binders Γ tree other more f args are) =
    subst (λ xs. FaultOfAbstraction text sig binders Γ binder body xs (family f args) (IllTyped other.opening)) (sym are.1 ∙ is.1)
    (ap (λ s. IllTyped s.opening) (abstraction_binder are.0 is.0))
fault_of_abstraction {text = text} {sig = sig} {body = body} {binder = binder} is (refuses_body binders Γ tree other more a c fault are refused) =
    subst (λ xs. FaultOfAbstraction text sig binders Γ binder body xs (pi a c) fault) (sym are.1 ∙ is.1)
    (subst₂ (λ s x. RefusesTerm text sig (binder_name text s ∷ binders) (with_variable a Γ) x c fault) (abstraction_binder are.0 is.0) (abstraction_body are.0 is.0) refused)
fault_of_abstraction {text = text} {sig = sig} {body = body} {binder = binder} is (refuses_redex binders Γ tree argument other more arguments wanted are) =
    subst (λ xs. FaultOfAbstraction text sig binders Γ binder body xs wanted (Redex other.opening)) (sym are.1 ∙ is.1)
    (ap (λ s. Redex s.opening) (abstraction_binder are.0 is.0))
fault_of_abstraction is (refuses_name binders Γ tree other arguments wanted are none) = absurd (leaf-abstraction are.0 is.0)
fault_of_abstraction is (refuses_extra binders Γ tree extra other arguments h domains f args wanted are resolved known there) = absurd (leaf-abstraction are.0 is.0)
fault_of_abstraction is (refuses_in_argument binders Γ tree other arguments h domains f args wanted fault are resolved known few refused) = absurd (leaf-abstraction are.0 is.0)
fault_of_abstraction is (refuses_result binders Γ tree other arguments h first missing f args ts found wanted are resolved known read result differ) = absurd (leaf-abstraction are.0 is.0)

-- A name that stands for no head.
pub fault_of_name : {text : Text} {sig : LfSignature} {binders : Bound} {Γ : Typing} {tree : Tree} {span : Span} {arguments : List Tree} {wanted : LfType} {fault : ElabFault} →
    IsApplied tree [] (leaf span) arguments → named_head sig binders (text_at text span) ≡ None → RefusesTerm text sig binders Γ tree wanted fault → fault ≡ Unknown span.start
fault_of_name is none (refuses_abstraction binders Γ tree other more f args are) = absurd (leaf-abstraction is.0 are.0)
fault_of_name is none (refuses_body binders Γ tree other more a c fault are refused) = absurd (leaf-abstraction is.0 are.0)
fault_of_name is none (refuses_redex binders Γ tree argument other more arguments wanted are) = absurd (leaf-abstraction is.0 are.0)
fault_of_name is none (refuses_name binders Γ tree other arguments wanted are nothing) = ap (λ s. Unknown s.start) (leaf_inj are.0 is.0)
fault_of_name {text = text} {sig = sig} is none (refuses_extra binders Γ tree extra other arguments h domains f args wanted are resolved known there) =
    absurd (None-Some none (ap (λ s. named_head sig binders (text_at text s)) (leaf_inj is.0 are.0) ∙ resolved))
fault_of_name {text = text} {sig = sig} is none (refuses_in_argument binders Γ tree other arguments h domains f args wanted fault are resolved known few refused) =
    absurd (None-Some none (ap (λ s. named_head sig binders (text_at text s)) (leaf_inj is.0 are.0) ∙ resolved))
fault_of_name {text = text} {sig = sig} is none (refuses_result binders Γ tree other arguments h first missing f args ts found wanted are resolved known read result differ) =
    absurd (None-Some none (ap (λ s. named_head sig binders (text_at text s)) (leaf_inj is.0 are.0) ∙ resolved))

-- An application of a head, by the binders of its type.
pub data FaultOfApplication (text : Text) (sig : LfSignature) (binders : Bound) (Γ : Typing) (tree : Tree) (arguments : List Tree) (domains : List LfType) (end wanted : LfType) :
    ElabFault → Type 0 where
  extra_argument : (extra : Tree) → slice_get arguments (length domains) ≡ Some extra →
      FaultOfApplication text sig binders Γ tree arguments domains end wanted (IllTyped (tree_place extra))
  wrong_argument : (fault : ElabFault) → length arguments ≤ length domains → RefusesArguments text sig binders Γ stays arguments domains fault →
      FaultOfApplication text sig binders Γ tree arguments domains end wanted fault
  wrong_result : (first missing : List LfType) (ts : Spine) (found : LfType) → domains ≡ first ++ missing → ReadsArguments text sig binders Γ stays arguments first ts →
      SubstitutedType (push_all ts stays) (pis missing end) found → found ≢ wanted →
      FaultOfApplication text sig binders Γ tree arguments domains end wanted (IllTyped (tree_place tree))

pub fault_of_application : {text : Text} {sig : LfSignature} {binders : Bound} {Γ : Typing} {tree : Tree} {span : Span} {arguments : List Tree} {h : LfHead} {domains : List LfType} {f : ℕ} {args : Spine}
    {wanted : LfType} {fault : ElabFault} →
    IsApplied tree [] (leaf span) arguments → named_head sig binders (text_at text span) ≡ Some h → Γ h ≡ Some (pis domains (family f args)) →
    RefusesTerm text sig binders Γ tree wanted fault → FaultOfApplication text sig binders Γ tree arguments domains (family f args) wanted fault
fault_of_application is resolved known (refuses_abstraction binders Γ tree other more f args are) = absurd (leaf-abstraction is.0 are.0)
fault_of_application is resolved known (refuses_body binders Γ tree other more a c fault are refused) = absurd (leaf-abstraction is.0 are.0)
fault_of_application is resolved known (refuses_redex binders Γ tree argument other more arguments wanted are) = absurd (leaf-abstraction is.0 are.0)
fault_of_application {text = text} {sig = sig} is resolved known (refuses_name binders Γ tree other others wanted are none) =
    absurd (None-Some none (ap (λ s. named_head sig binders (text_at text s)) (leaf_inj are.0 is.0) ∙ resolved))
fault_of_application {text = text} {sig = sig} {domains = domains} {f = f} {args = args} is resolved known
    (refuses_extra binders Γ tree extra other others k found g brgs wanted are same typed there) =
    let whole = same_known Γ (same_head text sig binders are.0 same is.0 resolved) typed known in
    extra_argument extra (subst₂ (λ xs ds. slice_get xs (length ds) ≡ Some extra) (sym are.1 ∙ is.1) (same_binders found domains g f brgs args whole) there)
fault_of_application {text = text} {sig = sig} {domains = domains} {f = f} {args = args} is resolved known
    (refuses_in_argument binders Γ tree other others k found g brgs wanted fault are same typed few refused) =
    let whole = same_known Γ (same_head text sig binders are.0 same is.0 resolved) typed known in
    let domains_are = same_binders found domains g f brgs args whole in
    wrong_argument fault (subst₂ (λ xs (ds : List LfType). length xs ≤ length ds) (sym are.1 ∙ is.1) domains_are few)
    (subst₂ (λ xs ds. RefusesArguments text sig binders Γ stays xs ds fault) (sym are.1 ∙ is.1) domains_are refused)
fault_of_application {text = text} {sig = sig} {domains = domains} {f = f} {args = args} is resolved known
    (refuses_result binders Γ tree other others k first missing g brgs ts found wanted are same typed read result differ) =
    let whole = same_known Γ (same_head text sig binders are.0 same is.0 resolved) typed known in
    wrong_result first missing ts found (sym (same_binders (first ++ missing) domains g f brgs args whole))
    (subst (λ xs. ReadsArguments text sig binders Γ stays xs first ts) (sym are.1 ∙ is.1) read)
    (subst (λ x. SubstitutedType (push_all ts stays) (pis missing x) found) (same_end (first ++ missing) domains g f brgs args whole) result) differ

-- A binder of a type, and what stands after it.
pub data FaultOfBinder (text : Text) (sig : LfSignature) (binders : Bound) (Γ : Typing) (count place : ℕ) (domain rest : Classifier) (name : Option (List ℕ)) : ElabFault → Type 0 where
  one_too_many : 1000 ≤ count → FaultOfBinder text sig binders Γ count place domain rest name (TooMany place)
  wrong_domain : (fault : ElabFault) → count < 1000 → RefusesType text sig binders Γ 0 domain fault → FaultOfBinder text sig binders Γ count place domain rest name fault
  wrong_rest : (a : LfType) (fault : ElabFault) → count < 1000 → ReadsType text sig binders Γ 0 domain a →
      RefusesType text sig (name ∷ binders) (with_variable a Γ) (suc count) rest fault → FaultOfBinder text sig binders Γ count place domain rest name fault

pub fault_of_binder : {text : Text} {sig : LfSignature} {binders : Bound} {Γ : Typing} {count place : ℕ} {whole domain rest : Classifier} {name : Option (List ℕ)} {fault : ElabFault} →
    IsBinder text whole place domain rest name → RefusesType text sig binders Γ count whole fault → FaultOfBinder text sig binders Γ count place domain rest name fault
fault_of_binder {text = text} {sig = sig} {domain = domain} {rest = rest} {name = name} is (refuses_binder binders Γ count start whole other left binder are many) =
    subst (λ n. FaultOfBinder text sig binders Γ count n domain rest name (TooMany start)) (same_binder is are).place_is (one_too_many many)
fault_of_binder {text = text} {sig = sig} is (refuses_domain binders Γ count start whole other left binder fault are few refused) =
    wrong_domain fault few (subst (λ x. RefusesType text sig binders Γ 0 x fault) (same_binder is are).domain_is refused)
fault_of_binder {text = text} {sig = sig} is (refuses_rest binders Γ count start whole other left binder a fault are few read refused) =
    wrong_rest a fault few (subst (λ x. ReadsType text sig binders Γ 0 x a) (same_binder is are).domain_is read)
    (subst₂ (λ n x. RefusesType text sig (n ∷ binders) (with_variable a Γ) (suc count) x fault) (same_binder is are).name_is (same_binder is are).rest_is refused)
fault_of_binder is (refuses_family binders Γ count span arguments none) = absurd (no_binder is)
fault_of_binder is (refuses_word binders Γ count span) = elim is [ ]
fault_of_binder is (refuses_few binders Γ count span arguments f domains resolved known few) = absurd (no_binder is)
fault_of_binder is (refuses_family_argument binders Γ count span arguments f domains fault resolved known enough refused) = absurd (no_binder is)
fault_of_binder is (refuses_family_extra binders Γ count span arguments extra f domains ts resolved known read there) = absurd (no_binder is)

-- A family that is not known.
pub fault_of_unknown : {text : Text} {sig : LfSignature} {binders : Bound} {Γ : Typing} {count : ℕ} {span : Span} {arguments : List Tree} {fault : ElabFault} →
    names.family_of sig binders (text_at text span) ≡ None → RefusesType text sig binders Γ count (trees.family span arguments) fault → fault ≡ Unknown span.start
fault_of_unknown none (refuses_binder binders Γ count start _ other left binder are many) = absurd (no_binder are)
fault_of_unknown none (refuses_domain binders Γ count start _ other left binder fault are few refused) = absurd (no_binder are)
fault_of_unknown none (refuses_rest binders Γ count start _ other left binder a fault are few read refused) = absurd (no_binder are)
fault_of_unknown none (refuses_family binders Γ count span arguments nothing) = refl
fault_of_unknown none (refuses_few binders Γ count span arguments f domains resolved known few) = absurd (None-Some none resolved)
fault_of_unknown none (refuses_family_argument binders Γ count span arguments f domains fault resolved known enough refused) = absurd (None-Some none resolved)
fault_of_unknown none (refuses_family_extra binders Γ count span arguments extra f domains ts resolved known read there) = absurd (None-Some none resolved)

-- A family, by the binders of its kind.
pub data FaultOfFamily (text : Text) (sig : LfSignature) (binders : Bound) (Γ : Typing) (span : Span) (arguments : List Tree) (domains : LfKind) : ElabFault → Type 0 where
  few_arguments : length arguments < length domains → FaultOfFamily text sig binders Γ span arguments domains (IllTyped span.start)
  wrong_family_argument : (fault : ElabFault) → length domains ≤ length arguments → RefusesArguments text sig binders Γ stays (take (length domains) arguments) domains fault →
      FaultOfFamily text sig binders Γ span arguments domains fault
  extra_family_argument : (extra : Tree) (ts : Spine) → ReadsArguments text sig binders Γ stays (take (length domains) arguments) domains ts →
      slice_get arguments (length domains) ≡ Some extra → FaultOfFamily text sig binders Γ span arguments domains (IllTyped (tree_place extra))

pub same_kind : (sig : LfSignature) {found : Option ℕ} {f g : ℕ} {domains others : LfKind} → found ≡ Some f → found ≡ Some g → kinds_in sig f ≡ Some domains → kinds_in sig g ≡ Some others →
    others ≡ domains
same_kind sig resolved same known typed = Some_inj typed (ap (kinds_in sig) (Some_inj same resolved) ∙ known)

pub fault_of_family : {text : Text} {sig : LfSignature} {binders : Bound} {Γ : Typing} {count : ℕ} {span : Span} {arguments : List Tree} {f : ℕ} {domains : LfKind} {fault : ElabFault} →
    names.family_of sig binders (text_at text span) ≡ Some f → kinds_in sig f ≡ Some domains → RefusesType text sig binders Γ count (trees.family span arguments) fault →
    FaultOfFamily text sig binders Γ span arguments domains fault
fault_of_family resolved known (refuses_binder binders Γ count start _ other left binder are many) = absurd (no_binder are)
fault_of_family resolved known (refuses_domain binders Γ count start _ other left binder fault are few refused) = absurd (no_binder are)
fault_of_family resolved known (refuses_rest binders Γ count start _ other left binder a fault are few read refused) = absurd (no_binder are)
fault_of_family resolved known (refuses_family binders Γ count span arguments none) = absurd (None-Some none resolved)
fault_of_family {text = text} {sig = sig} resolved known (refuses_few binders Γ count span arguments g others same typed few) =
    subst (λ ds. FaultOfFamily text sig binders Γ span arguments ds (IllTyped span.start)) (same_kind sig resolved same known typed) (few_arguments few)
fault_of_family {text = text} {sig = sig} resolved known (refuses_family_argument binders Γ count span arguments g others fault same typed enough refused) =
    subst (λ ds. FaultOfFamily text sig binders Γ span arguments ds fault) (same_kind sig resolved same known typed) (wrong_family_argument fault enough refused)
fault_of_family {text = text} {sig = sig} resolved known (refuses_family_extra binders Γ count span arguments extra g others ts same typed read there) =
    subst (λ ds. FaultOfFamily text sig binders Γ span arguments ds (IllTyped (tree_place extra))) (same_kind sig resolved same known typed) (extra_family_argument extra ts read there)
