-- A declaration keeps the signature well formed.
use Rattle.std.proofs.Common.{◌++◌, ◌∷◌, [], refl}
use Rattle.lf_definitions.specs.Signatures.{family_entry, constant_entry, names_of, FormedSignature, formed_more}
use Rattle.basics.proofs.NamePlaces.{place_absent}
use Rattle.file_trees.specs.declared.decl_tree.DeclTree.{DeclTree}
use Rattle.elab_terms.specs.Names.{Text, text_at}
use Rattle.elab_terms.proofs.ReadTyped.{Formed-ReadsType, FormedKind-ReadsKind, Founded-typing_in}
use Rattle.file_elab.specs.Programs.{LfProgram, Declares, declares_family, declares_constant, declares_theorem, declares_rule, declares_constructors}

pub formed_after : {text : Text} {old new : LfProgram} {declaration : DeclTree} → Declares text old declaration new → FormedSignature old.signature → FormedSignature new.signature
formed_after {text = text} {old = old} (declares_family name tree kind may read) formed =
    let entry = family_entry (text_at text name) kind in
    formed_more old.signature (old.signature ++ entry ∷ []) entry formed (place_absent (text_at text name) (names_of old.signature) may.new)
    (FormedKind-ReadsKind read (Founded-typing_in old.signature formed)) refl
formed_after {text = text} {old = old} (declares_constant name tree type may read) formed =
    let entry = constant_entry (text_at text name) type in
    formed_more old.signature (old.signature ++ entry ∷ []) entry formed (place_absent (text_at text name) (names_of old.signature) may.new)
    (Formed-ReadsType read (Founded-typing_in old.signature formed)) refl
formed_after (declares_theorem tree type may read) formed = formed
formed_after (declares_rule parts rule may read) formed = formed
formed_after (declares_constructors name spans f constants known none are fit) formed = formed
