use Rattle.std.proofs.Common.{ap, ◌∙◌}
use Rattle.lf_terms.specs.Targets.{goal_of}
use Rattle.lf_terms.specs.Types.{type_of}
use Rattle.opening_laws.specs.Openings.{context_variable}
use Rattle.build_cases.proofs.DroppedPlaces.{others_are, kept_for_others, kept_for_later, dropped_at_end, dropped_by_target}
use Rattle.build_cases.proofs.dropping.drops.Goals as goal

pub returns-then-mentioned : goal.returns-then-mentioned
returns-then-mentioned c =
    let s = c.args.split.now in
    let g = goal_of s.usage.now.goal.now in
    let number = c.in_ok-variable.ensures ∙ ap (λ n. context_variable n c.args.place) c.len.ensures in
    let others = others_are s.hyps.now g c.in_ok-variable.variable c.args.place c.in_ok-mentioned.mentioned c.requires number c.in_ok-mentioned.ensures in
    kept_for_others (type_of s.ty.now) s.major g c.args.place c.in_ok-mentioned.mentioned others c.if-mentioned.true

pub returns-then-later : goal.returns-then-later
returns-then-later c =
    let s = c.args.split.now in
    let g = goal_of s.usage.now.goal.now in
    let number = c.in_ok-variable.ensures ∙ ap (λ n. context_variable n c.args.place) c.len.ensures in
    let others = others_are s.hyps.now g c.in_ok-variable.variable c.args.place c.in_ok-mentioned.mentioned c.requires number c.in_ok-mentioned.ensures in
    kept_for_later (type_of s.ty.now) s.major g c.args.place c.in_ok-mentioned.mentioned c.in_ok-later.later others c.if-mentioned.false c.in_ok-later.ensures c.if-later.true

pub returns-then-at_end : goal.returns-then-at_end
returns-then-at_end c =
    let s = c.args.split.now in
    let g = goal_of s.usage.now.goal.now in
    let number = c.in_ok-variable.ensures ∙ ap (λ n. context_variable n c.args.place) c.len.ensures in
    let others = others_are s.hyps.now g c.in_ok-variable.variable c.args.place c.in_ok-mentioned.mentioned c.requires number c.in_ok-mentioned.ensures in
    dropped_at_end (type_of s.ty.now) s.major g c.args.place c.in_ok-mentioned.mentioned c.in_ok-later.later c.in_ok-at_end.at_end others c.if-mentioned.false c.in_ok-later.ensures c.if-later.false c.in_ok-at_end.ensures
    c.if-at_end.true

pub returns : goal.returns
returns c =
    let s = c.args.split.now in
    let g = goal_of s.usage.now.goal.now in
    let number = c.in_ok-variable.ensures ∙ ap (λ n. context_variable n c.args.place) c.len.ensures in
    let others = others_are s.hyps.now g c.in_ok-variable.variable c.args.place c.in_ok-mentioned.mentioned c.requires number c.in_ok-mentioned.ensures in
    dropped_by_target (type_of s.ty.now) s.major g c.args.place c.in_ok-mentioned.mentioned c.in_ok-later.later c.in_ok-at_end.at_end c.in_ok-variable.variable c.in_ok-in_target.in_target others c.if-mentioned.false
    c.in_ok-later.ensures c.if-later.false c.in_ok-at_end.ensures c.if-at_end.false number c.in_ok-in_target.ensures
