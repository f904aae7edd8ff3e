-- A file has one program, or is refused for one fault.
use Rattle.std.proofs.Common.{◌≡◌, inl, inr, List, [], ◌∷◌, ◌++◌, sym, ◌∙◌, subst, subst₂}
use Rattle.file_trees.specs.declared.decl_tree.DeclTree.{DeclTree}
use Rattle.elab_terms.specs.Names.{Text}
use Rattle.elab_terms.specs.declared.elab_fault.ElabFault.{ElabFault}
use Rattle.file_elab.specs.Programs.{LfProgram, first_program, Refuses, DeclaresAll, declares_nothing, declares_next, IsProgram, IsRefused}
use Rattle.file_elab.proofs.DeclaredOnce.{one_declared, one_program}
use Rattle.file_elab.proofs.DeclaredOrRefused.{SameEntry, EntryBefore, entries, declared_not_refused, one_fault_of_declaration}

-- Where all declarations make a program, none of them is refused over those before it.
none_refused : {text : Text} {old between new : LfProgram} {declaration : DeclTree} {fault : ElabFault} (prefix rest : List DeclTree) →
    DeclaresAll text old (prefix ++ declaration ∷ rest) new → DeclaresAll text old prefix between → Refuses text between declaration fault → ⊥
none_refused [] rest (declares_next old middle new declaration _ first more) (declares_nothing _) refused = declared_not_refused first refused
none_refused {text = text} {between = between} (d ∷ prefix) rest (declares_next old middle new _ _ first more) (declares_next _ other _ _ _ second others) refused =
    none_refused prefix rest more (subst (λ p. DeclaresAll text p prefix between) (one_declared second first) others) refused

pub one_program_of_file : (text : Text) (declarations : List DeclTree) (program other : LfProgram) → IsProgram text declarations program → IsProgram text declarations other → program ≡ other
one_program_of_file text declarations program other declared more = one_program declared more

pub program_not_refused : (text : Text) (declarations : List DeclTree) (program : LfProgram) (fault : ElabFault) → IsProgram text declarations program → IsRefused text declarations fault → ⊥
program_not_refused text declarations program fault declared refused =
    none_refused refused.prefix refused.rest (subst (λ ds. DeclaresAll text first_program ds program) refused.parts declared) refused.declared refused.refused

-- The declaration that is refused is one, and so is its fault.
module _ {text : Text} {program other : LfProgram} {prefix longer : List DeclTree} {declaration last : DeclTree} {fault wrong : ElabFault}
    (declared : DeclaresAll text first_program prefix program) (refused : Refuses text program declaration fault)
    (more : DeclaresAll text first_program longer other) (refuses : Refuses text other last wrong) where
  same_refused : SameEntry prefix longer declaration last → fault ≡ wrong
  same_refused same =
      let program_is = one_program (subst (λ ds. DeclaresAll text first_program ds other) same.prefix_is more) declared in
      one_fault_of_declaration declaration refused (subst₂ (λ p d. Refuses text p d wrong) program_is same.entry_is refuses)

  before_refused : EntryBefore prefix longer declaration → ⊥
  before_refused before = none_refused prefix before.more (subst (λ ds. DeclaresAll text first_program ds other) before.longer_is more) declared refused

pub one_fault_of_file : (text : Text) (declarations : List DeclTree) (fault other : ElabFault) → IsRefused text declarations fault → IsRefused text declarations other → fault ≡ other
one_fault_of_file text declarations fault other first second =
    elim (entries first.prefix second.prefix first.rest second.rest first.declaration second.declaration (sym first.parts ∙ second.parts)) [
      | inl same ↦ same_refused first.declared first.refused second.declared second.refused same
      | inr (inl before) ↦ absurd (before_refused first.declared first.refused second.declared second.refused before)
      | inr (inr before) ↦ absurd (before_refused second.declared second.refused first.declared first.refused before)
    ]
