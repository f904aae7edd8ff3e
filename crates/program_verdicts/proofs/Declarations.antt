-- A declaration is taken or refused.
use Rattle.std.proofs.Common.{◌≡◌, ℕ, ◌<◌, ◌≤◌, ◌⊎◌, inl, inr, Option, Some, None, List, [], length, refl}
use Rattle.basics.specs.Limits.{most_symbols, most_rules, most_theorems}
use Rattle.basics.specs.Places.{place_of}
use Rattle.lf_definitions.specs.Signatures.{names_of, typing_in, FormedSignature}
use Rattle.lf_definitions.proofs.Options.{None-Some}
use Rattle.file_trees.specs.declared.span.Span.{Span}
use Rattle.file_trees.specs.declared.decl_tree.DeclTree.{DeclTree}
use Rattle.file_trees.specs.declared.decl_tree.DeclTree.TheVariants.{Family, Const, Theorem, Rule as rule_tree, Ctors}
use Rattle.file_trees.specs.declared.decl_tree.TheoremTree.{TheoremTree}
use Rattle.file_trees.specs.declared.decl_tree.RuleTree.{RuleTree}
use Rattle.file_trees.specs.Trees.{Classifier}
use Rattle.elab_terms.specs.Names.{Text, text_at}
use Rattle.elab_terms.specs.declared.elab_fault.ElabFault.{ElabFault}
use Rattle.elab_terms.specs.declared.elab_fault.ElabFault.TheVariants.{Taken, TooMany}
use Rattle.reading_verdicts.proofs.Places.{closed_place}
use Rattle.reading_verdicts.proofs.Types.{TypeJudged, KindJudged, type_judged, kind_judged}
use Rattle.file_elab.specs.Programs.{LfProgram, rule_names, theorem_names, MayBeNamed, RefusesName, refuses_taken, refuses_many, Declares, declares_family, declares_constant, declares_theorem, declares_rule, Refuses, refuses_family_name, refuses_family_kind, refuses_constant_name, refuses_constant_type, refuses_theorem_name, refuses_theorem_type, refuses_rule_name, refuses_rule_part}
use Rattle.program_verdicts.proofs.Decisions.{below_or_not}
use Rattle.program_verdicts.proofs.Rules.{RuleJudged, rule_judged}
use Rattle.program_verdicts.proofs.Lists.{list_judged}

-- A name may be declared, or it is refused.
module _ (names : List (List ℕ)) (most : ℕ) (text : Text) (name : Span) where
  abbrev NameJudged : Type 0
  NameJudged = MayBeNamed names most (text_at text name) ⊎ ((fault : ElabFault) × RefusesName names most text name fault)

  with_room : place_of names (text_at text name) ≡ None → (length names < most) ⊎ (most ≤ length names) → NameJudged
  with_room new (inl room) = inl (record { new = new; room = room })
  with_room new (inr full) = inr (TooMany name.start, refuses_many new full)

  by_place : (o : Option ℕ) → place_of names (text_at text name) ≡ o → NameJudged
  by_place None new = with_room new (below_or_not (length names) most)
  by_place (Some place) taken = inr (Taken name.start, refuses_taken (λ new. None-Some new taken))

  name_judged : NameJudged
  name_judged = by_place (place_of names (text_at text name)) refl

module _ (text : Text) (old : LfProgram) where
  abbrev pub DeclarationJudged : DeclTree → Type 0
  DeclarationJudged declaration = ((new : LfProgram) × Declares text old declaration new) ⊎ ((fault : ElabFault) × Refuses text old declaration fault)

  abbrev KindRead : Classifier → Type 0
  KindRead tree = KindJudged text old.signature [] (typing_in old.signature [] []) tree

  abbrev TypeRead : Classifier → Type 0
  TypeRead tree = TypeJudged text old.signature [] (typing_in old.signature [] []) 0 tree

  family_judged : (name : Span) (tree : Classifier) → NameJudged (names_of old.signature) most_symbols text name → KindRead tree → DeclarationJudged (Family name tree)
  family_judged name tree (inr (fault, refused)) kind = inr (fault, refuses_family_name name tree fault refused)
  family_judged name tree (inl may) (inl (kind, read)) = inl (_, declares_family name tree kind may read)
  family_judged name tree (inl may) (inr (fault, refused)) = inr (fault, refuses_family_kind name tree fault may refused)

  constant_judged : (name : Span) (tree : Classifier) → NameJudged (names_of old.signature) most_symbols text name → TypeRead tree → DeclarationJudged (Const name tree)
  constant_judged name tree (inr (fault, refused)) type = inr (fault, refuses_constant_name name tree fault refused)
  constant_judged name tree (inl may) (inl (type, read)) = inl (_, declares_constant name tree type may read)
  constant_judged name tree (inl may) (inr (fault, refused)) = inr (fault, refuses_constant_type name tree fault may refused)

  theorem_judged : (tree : TheoremTree) → NameJudged (theorem_names old) most_theorems text tree.name → TypeRead tree.statement → DeclarationJudged (Theorem tree)
  theorem_judged tree (inr (fault, refused)) type = inr (fault, refuses_theorem_name tree fault refused)
  theorem_judged tree (inl may) (inl (type, read)) = inl (_, declares_theorem tree type may read)
  theorem_judged tree (inl may) (inr (fault, refused)) = inr (fault, refuses_theorem_type tree fault may refused)

  rule_declared : (parts : RuleTree) → NameJudged (rule_names old) most_rules text parts.name → RuleJudged text old.signature old.book parts → DeclarationJudged (rule_tree parts)
  rule_declared parts (inr (fault, refused)) rule = inr (fault, refuses_rule_name parts fault refused)
  rule_declared parts (inl may) (inl (rule, read)) = inl (_, declares_rule parts rule may read)
  rule_declared parts (inl may) (inr (fault, refused)) = inr (fault, refuses_rule_part parts fault may refused)

  pub declaration_judged : FormedSignature old.signature → (declaration : DeclTree) → DeclarationJudged declaration
  declaration_judged formed (Family name tree) =
      family_judged name tree (name_judged (names_of old.signature) most_symbols text name)
      (kind_judged text old.signature tree [] (typing_in old.signature [] []) (closed_place old.signature formed))
  declaration_judged formed (Const name tree) =
      constant_judged name tree (name_judged (names_of old.signature) most_symbols text name)
      (type_judged text old.signature tree [] (typing_in old.signature [] []) (closed_place old.signature formed) 0)
  declaration_judged formed (Theorem tree) =
      theorem_judged tree (name_judged (theorem_names old) most_theorems text tree.name)
      (type_judged text old.signature tree.statement [] (typing_in old.signature [] []) (closed_place old.signature formed) 0)
  declaration_judged formed (rule_tree parts) =
      rule_declared parts (name_judged (rule_names old) most_rules text parts.name) (rule_judged text old.signature old.book parts)
  declaration_judged formed (Ctors name spans) = list_judged text old name spans
