use Rattle.std.proofs.Common.{sym, ap, ◌∙◌, subst}
use Rattle.std.proofs.lemmas.Bool.{eqb-false}
use Rattle.lf_definitions.specs.Syntax.{LfAtom}
use Rattle.build_shared.specs.Seen.{seen_atom}
use Rattle.build_forward.specs.Clashes.{AtomsClash}
use Rattle.build_forward.proofs.Clashing.{not_true}
use Rattle.build_forward.proofs.PremisePlaces.{conclusion_is}
use Rattle.build_forward.proofs.clashes.atoms_clash.Goals as goal

pub returns-then-atom-ty : goal.returns-then-atom-ty
returns-then-atom-ty c differ same =
    let ty = c.args.ty.now in
    absurd (eqb-false c.args.atom.now.family ty.family (not_true _ differ) (same ∙ ap (λ (a : LfAtom). a.atom_family) (conclusion_is ty.binders ty.family ty.args)))

pub returns-else-atom-ty : goal.returns-else-atom-ty
returns-else-atom-ty c is =
    let ty = c.args.ty.now in
    subst (AtomsClash (seen_atom c.args.atom.now)) (sym (conclusion_is ty.binders ty.family ty.args)) (λ same. c.args_clash.ensures is)
