-- Declarations have one verdict: they are taken one after another, up to the first that is refused.
use Rattle.std.proofs.Common.{◌≡◌, inl, inr, List, [], ◌∷◌, ◌++◌, append_assoc, refl, sym, ap, ◌∙◌, subst}
use Rattle.std.proofs.lemmas.List.{append-nil}
use Rattle.lf_definitions.specs.Signatures.{FormedSignature, formed_nothing}
use Rattle.file_trees.specs.declared.decl_tree.DeclTree.{DeclTree}
use Rattle.elab_terms.specs.Names.{Text}
use Rattle.file_elab.specs.Programs.{LfProgram, first_program, DeclaresAll, declares_nothing}
use Rattle.file_elab.proofs.Growing.{declares_last}
use Rattle.file_elab.proofs.OneProgram.{one_program_of_file, program_not_refused, one_fault_of_file}
use Rattle.program_verdicts.specs.Verdicts.{Verdict, makes, refused_for, IsVerdict, DeclarationsHaveOneVerdict}
use Rattle.program_verdicts.proofs.Formed.{formed_after}
use Rattle.program_verdicts.proofs.Declarations.{DeclarationJudged, declaration_judged}

module _ (text : Text) (declarations : List DeclTree) where
  abbrev SomeVerdict : Type 0
  SomeVerdict = (verdict : Verdict) × IsVerdict text declarations verdict

  -- The declarations of a prefix make a program.
  record Taken (prefix : List DeclTree) : Type 0 where
    program : LfProgram
    formed : FormedSignature program.signature
    declared : DeclaresAll text first_program prefix program

  nothing_taken : Taken []
  nothing_taken = record { program = first_program; formed = formed_nothing; declared = declares_nothing first_program }

  all_taken : (taken : Taken declarations) → SomeVerdict
  all_taken taken = (makes taken.program, taken.declared)

  by_next : (prefix : List DeclTree) (declaration : DeclTree) (rest : List DeclTree) → declarations ≡ prefix ++ declaration ∷ rest → (taken : Taken prefix) →
      (Taken (prefix ++ declaration ∷ []) → SomeVerdict) → DeclarationJudged text taken.program declaration → SomeVerdict
  by_next prefix declaration rest parts taken further (inl (new, declared)) =
      further (record { program = new; formed = formed_after declared taken.formed; declared = declares_last taken.declared declaration new declared })
  by_next prefix declaration rest parts taken further (inr (fault, refused)) = (
    refused_for fault,
    record {
      prefix = prefix;
      declaration = declaration;
      rest = rest;
      parts = parts;
      program = taken.program;
      declared = taken.declared;
      refused = refused;
    },
  )

  taken_on : (rest prefix : List DeclTree) → declarations ≡ prefix ++ rest → Taken prefix → SomeVerdict
  taken_on [] prefix parts taken = all_taken (subst Taken (sym (parts ∙ append-nil prefix)) taken)
  taken_on (declaration ∷ rest) prefix parts taken =
      by_next prefix declaration rest parts taken
      (λ more. taken_on rest (prefix ++ declaration ∷ []) (parts ∙ sym (append_assoc prefix (declaration ∷ []) rest)) more)
      (declaration_judged text taken.program taken.formed declaration)

  pub some_verdict : SomeVerdict
  some_verdict = taken_on declarations [] refl nothing_taken

-- Two verdicts are one.
pub same_verdict : (text : Text) (declarations : List DeclTree) (verdict other : Verdict) → IsVerdict text declarations verdict → IsVerdict text declarations other → verdict ≡ other
same_verdict text declarations (makes program) (makes other) h k = ap makes (one_program_of_file text declarations program other h k)
same_verdict text declarations (makes program) (refused_for fault) h k = absurd (program_not_refused text declarations program fault h k)
same_verdict text declarations (refused_for fault) (makes program) h k = absurd (program_not_refused text declarations program fault k h)
same_verdict text declarations (refused_for fault) (refused_for other) h k = ap refused_for (one_fault_of_file text declarations fault other h k)

pub declarations_have_one_verdict : DeclarationsHaveOneVerdict
declarations_have_one_verdict text declarations =
    let found = some_verdict text declarations in
    record { verdict = found.0; holds = found.1; alone = λ other h. same_verdict text declarations other found.0 h found.1 }
