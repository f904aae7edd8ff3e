-- What is refused of a file is refused at a place: no declaration is refused since memory ran out.
use Rattle.std.specs.Prelude.{ℕ, List}
use Rattle.lf_definitions.specs.Syntax.{LfType}
use Rattle.lf_definitions.specs.Substitution.{Replacement}
use Rattle.lf_definitions.specs.Typing.{Typing}
use Rattle.lf_definitions.specs.Signatures.{LfSignature}
use Rattle.file_trees.specs.declared.span.Span.{Span}
use Rattle.file_trees.specs.declared.decl_tree.DeclTree.{DeclTree}
use Rattle.file_trees.specs.declared.decl_tree.RuleTree.{RuleTree}
use Rattle.file_trees.specs.Trees.{Tree, Classifier}
use Rattle.rule_sets.specs.Books.{Book}
use Rattle.elab_terms.specs.Names.{Text, Bound}
use Rattle.elab_terms.specs.Terms.{RefusesTerm, refuses_abstraction, refuses_body, refuses_redex, refuses_name, refuses_extra, refuses_in_argument, refuses_result, RefusesArguments, refuses_here, refuses_later}
use Rattle.elab_terms.specs.Types.{RefusesType, refuses_binder, refuses_domain, refuses_rest, refuses_family, refuses_word, refuses_few, refuses_family_argument, refuses_family_extra, RefusesKind, refuses_kind_domain, refuses_kind_rest, refuses_kind_family}
use Rattle.elab_terms.specs.declared.elab_fault.ElabFault.{ElabFault}
use Rattle.elab_terms.specs.declared.elab_fault.ElabFault.TheVariants.{NoMemory}
use Rattle.file_elab.specs.Rules.{RefusesRule, refuses_number, refuses_subject, refuses_major, refuses_premises}
use Rattle.file_elab.specs.Programs.{LfProgram, RefusesName, refuses_taken, refuses_many, Refuses, refuses_family_name, refuses_family_kind, refuses_constant_name, refuses_constant_type, refuses_theorem_name, refuses_theorem_type, refuses_rule_name, refuses_rule_part, refuses_listed_family, refuses_listed, refuses_listed_name, refuses_listed_again, refuses_listed_other}

-- Each fault has a place, but that memory ran out.
abbrev pub HasPlace : ElabFault → Type 0
HasPlace NoMemory = ⊥
HasPlace _ = Unit {0}

-- What a term, a type, a kind, a name or a rule is refused for has a place.
mutual
  term_has_place : {text : Text} {sig : LfSignature} {binders : Bound} {Γ : Typing} {tree : Tree} {wanted : LfType} {fault : ElabFault} →
      RefusesTerm text sig binders Γ tree wanted fault → HasPlace fault
  term_has_place (refuses_abstraction binders Γ tree binder body f args is) = tt
  term_has_place (refuses_body binders Γ tree binder body a c fault is refused) = term_has_place refused
  term_has_place (refuses_redex binders Γ tree argument binder body arguments wanted is) = tt
  term_has_place (refuses_name binders Γ tree span arguments wanted is none) = tt
  term_has_place (refuses_extra binders Γ tree extra span arguments h domains f args wanted is resolved known there) = tt
  term_has_place (refuses_in_argument binders Γ tree span arguments h domains f args wanted fault is resolved known few refused) = arguments_have_place refused
  term_has_place (refuses_result binders Γ tree span arguments h first missing f args ts found wanted is resolved known read result differ) = tt

  arguments_have_place : {text : Text} {sig : LfSignature} {binders : Bound} {Γ : Typing} {σ : Replacement} {trees : List Tree} {domains : List LfType} {fault : ElabFault} →
      RefusesArguments text sig binders Γ σ trees domains fault → HasPlace fault
  arguments_have_place (refuses_here binders Γ σ tree trees a c rest fault put refused) = term_has_place refused
  arguments_have_place (refuses_later binders Γ σ tree trees a c rest t fault put read refused) = arguments_have_place refused

type_has_place : {text : Text} {sig : LfSignature} {binders : Bound} {Γ : Typing} {count : ℕ} {tree : Classifier} {fault : ElabFault} →
    RefusesType text sig binders Γ count tree fault → HasPlace fault
type_has_place (refuses_binder binders Γ count place whole domain rest name is many) = tt
type_has_place (refuses_domain binders Γ count place whole domain rest name fault is few refused) = type_has_place refused
type_has_place (refuses_rest binders Γ count place whole domain rest name a fault is few read refused) = type_has_place refused
type_has_place (refuses_family binders Γ count span arguments none) = tt
type_has_place (refuses_word binders Γ count span) = tt
type_has_place (refuses_few binders Γ count span arguments f domains resolved known few) = tt
type_has_place (refuses_family_argument binders Γ count span arguments f domains fault resolved known enough refused) = arguments_have_place refused
type_has_place (refuses_family_extra binders Γ count span arguments extra f domains ts resolved known read there) = tt

kind_has_place : {text : Text} {sig : LfSignature} {binders : Bound} {Γ : Typing} {tree : Classifier} {fault : ElabFault} →
    RefusesKind text sig binders Γ tree fault → HasPlace fault
kind_has_place (refuses_kind_domain binders Γ place whole domain rest name fault is refused) = type_has_place refused
kind_has_place (refuses_kind_rest binders Γ place whole domain rest name a fault is read refused) = kind_has_place refused
kind_has_place (refuses_kind_family binders Γ span arguments) = tt

name_has_place : {names : List (List ℕ)} {most : ℕ} {text : Text} {name : Span} {fault : ElabFault} → RefusesName names most text name fault → HasPlace fault
name_has_place (refuses_taken taken) = tt
name_has_place (refuses_many new full) = tt

rule_has_place : {text : Text} {sig : LfSignature} {book : Book} {parts : RuleTree} {fault : ElabFault} → RefusesRule text sig book parts fault → HasPlace fault
rule_has_place (refuses_number none) = tt
rule_has_place (refuses_subject phased none) = tt
rule_has_place (refuses_major found phased known none) = tt
rule_has_place (refuses_premises found phased known placed bad) = tt

-- So has what a declaration is refused for.
pub declaration_has_place : {text : Text} {old : LfProgram} {declaration : DeclTree} {fault : ElabFault} → Refuses text old declaration fault → HasPlace fault
declaration_has_place (refuses_family_name name tree fault refused) = name_has_place refused
declaration_has_place (refuses_family_kind name tree fault may refused) = kind_has_place refused
declaration_has_place (refuses_constant_name name tree fault refused) = name_has_place refused
declaration_has_place (refuses_constant_type name tree fault may refused) = type_has_place refused
declaration_has_place (refuses_theorem_name tree fault refused) = name_has_place refused
declaration_has_place (refuses_theorem_type tree fault may refused) = type_has_place refused
declaration_has_place (refuses_rule_name parts fault refused) = name_has_place refused
declaration_has_place (refuses_rule_part parts fault may refused) = rule_has_place refused
declaration_has_place (refuses_listed_family name spans none) = tt
declaration_has_place (refuses_listed name spans f resolved listed) = tt
declaration_has_place (refuses_listed_name name span prefix rest f constants resolved none are fit unknown) = tt
declaration_has_place (refuses_listed_again name span prefix rest f constant constants resolved none are fit known again) = tt
declaration_has_place (refuses_listed_other name span prefix rest f constant constants resolved none are fit known new other) = tt
