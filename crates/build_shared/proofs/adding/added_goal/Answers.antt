use Rattle.std.proofs.Common.{[], ◌∷◌, ◌++◌, sym, ap, ◌∙◌, subst}
use Rattle.lf_terms.specs.Targets.{goal_of}
use Rattle.lf_terms.specs.Types.{type_of, types_of}
use Rattle.meta_openings.specs.Tables.{AreTables}
use Rattle.build_shared.specs.Seen.{seen_atom}
use Rattle.build_shared.specs.Conditions.{HasShapes}
use Rattle.build_shared.proofs.OneMoreHypothesis.{added_is, seen_inside}
use Rattle.build_shared.proofs.adding.added_goal.Goals as goal

pub among_kept-requires : goal.among_kept-requires
among_kept-requires c = subst (AreTables c.args.places.now) (sym c.len-count.ensures) c.requires.tables

pub among_kept-requires-2 : goal.among_kept-requires-2
among_kept-requires-2 c = subst (AreTables c.args.places.now) (sym c.len-count.ensures) c.requires.tables

pub raised-requires : goal.raised-requires
raised-requires c =
    let g = goal_of c.args.goal.now in
    subst HasShapes (sym (seen_inside c.args.places.now.kept.now c.len-count.result g.context g.target _ (type_of c.in_ok-inside.inside) c.len-count.ensures (c.type_of_atom-2.ensures ∙ c.in_ok-copy.ensures) c.requires.can.target_is_clean c.in_ok-inside.ensures))
    c.requires.can.target_has_shapes

pub returns : goal.returns
returns c =
    let g = goal_of c.args.goal.now in
    let kept = c.args.places.now.kept.now in
    let h = c.in_ok-hypothesis.hypothesis in
    let r = c.in_ok-raised_target.raised_target in
    added_is c.args.number g kept (seen_atom c.args.fact) c.args.entries.now c.in_ok-last.last c.in_ok-ctx.ctx (type_of h) (type_of c.in_ok-inside.inside) r.binders r.family r.args c.requires.entries
    (seen_inside kept c.len-count.result g.context (seen_atom c.args.fact) _ (type_of h) c.len-count.ensures c.type_of_atom.ensures c.requires.can.fact_is_clean c.in_ok-hypothesis.ensures)
    (c.in_ok-last.ensures ∙ ap types_of (c.in_ok-push.ensures.items ∙ ap (λ l. l ++ h ∷ []) c.new-last.ensures.items)) c.in_ok-ctx.ensures
    (seen_inside kept c.len-count.result g.context g.target _ (type_of c.in_ok-inside.inside) c.len-count.ensures (c.type_of_atom-2.ensures ∙ c.in_ok-copy.ensures) c.requires.can.target_is_clean c.in_ok-inside.ensures)
    c.in_ok-raised_target.ensures
