use Rattle.std.proofs.Common.{map, ap, ◌∙◌, subst}
use Rattle.lf_definitions.specs.Signatures.{FormedSignature}
use Rattle.lf_terms.specs.Types.{type_of}
use Rattle.proof_replay.specs.Seen.{seen_step}
use Rattle.proof_extract.proofs.Theorems.{type_is_shaped, is_followed, script_closes}
use Rattle.proof_extract.proofs.extracting.extract.Goals as goal

pub chosen_script-requires : goal.chosen_script-requires
chosen_script-requires g c =
    is_followed c.branches_are_of_alternatives.ensures c.types_over_books_are_theorems.ensures c.args.problem.now.book.now c.is_formed.ensures (subst FormedSignature c.sig.ensures c.is_formed-2.ensures)
    (type_of c.args.ty.now) c.requires.formed c.args.tree.now c.requires.tree c.requires.root c.requires.proved c.chosen_scripts_can_be_followed.ensures

pub closed_term-requires-clause-shaped : goal.closed_term-requires-clause-shaped
closed_term-requires-clause-shaped g c = type_is_shaped c.args.problem.now.book.now.sig (type_of c.args.ty.now) c.requires.formed

pub closed_term-requires-clause-closes : goal.closed_term-requires-clause-closes
closed_term-requires-clause-closes g c =
    script_closes c.branches_are_of_alternatives.ensures c.types_over_books_are_theorems.ensures c.args.problem.now.book.now c.is_formed.ensures (subst FormedSignature c.sig.ensures c.is_formed-2.ensures)
    (type_of c.args.ty.now) c.requires.formed c.args.tree.now c.requires.tree c.requires.root c.requires.proved c.chosen_scripts_of_runs_replay.ensures _
    (ap (map seen_step) c.as_slice.ensures.value ∙ c.in_ok-script.ensures)
