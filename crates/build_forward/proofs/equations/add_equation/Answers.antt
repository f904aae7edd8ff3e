use Rattle.std.proofs.Common.{◌∷◌, ◌++◌, [], sym, ap, ap₂, ◌∙◌}
use Rattle.lf_definitions.specs.Syntax.{Spine, LfAtom}
use Rattle.build_forward.proofs.PremisePlaces.{conclusion_is, same_seen}
use Rattle.build_forward.proofs.equations.add_equation.Goals as goal

pub returns : goal.returns
returns c =
    let ty = c.args.hyp.now.ty in
    let Atom : Spine → LfAtom = λ us. record { atom_family = ty.family; atom_args = us } in
    c.in_ok-push.ensures.ok
    ∙ ap₂ (λ (a : LfAtom) (b : LfAtom). c.args.equations.now ++ (a, b) ∷ []) (same_seen c.in_ok-left.left c.args.premise.now c.in_ok-left.ensures)
    (ap Atom c.in_ok-args.ensures ∙ sym (conclusion_is ty.binders ty.family ty.args))
