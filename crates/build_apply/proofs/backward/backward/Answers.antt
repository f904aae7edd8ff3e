use Rattle.std.proofs.Common.{sym, subst₂}
use Rattle.lf_terms.specs.Targets.{goal_of}
use Rattle.lf_terms.specs.Terms.{head_of}
use Rattle.lf_terms.specs.Types.{type_of}
use Rattle.meta_goals.specs.GoalsOf.{goals_of}
use Rattle.meta_openings.specs.Results.{IsOpenable, opened_type_of}
use Rattle.opening_laws.specs.Openings.{IsOpened}
use Rattle.build_shared.specs.Seen.{seen_label}
use Rattle.build_apply.proofs.Heads.{made_backward, is_openable, opened_is}
use Rattle.build_apply.proofs.backward.backward.Goals as goal

pub open_args-requires : goal.open_args-requires
open_args-requires c =
    let u = c.args.usage.now in
    let type = type_of c.args.ty.now in
    subst₂ (λ k f. IsOpenable u.goal.now.ctx k f u.first type) (sym c.in_ok-kept.ensures) (sym c.new-fixed.ensures)
    (is_openable u.sig.now (goals_of u.goals.now) u.first (goal_of u.goal.now) c.requires.usage.goals (head_of c.args.head) type c.requires.head)

pub returns : goal.returns
returns c =
    let u = c.args.usage.now in
    let g = goal_of u.goal.now in
    let type = type_of c.args.ty.now in
    let opened = opened_type_of c.in_ok-opened.opened in
    let opens = subst₂ (λ k f. IsOpened g.context k f u.first type opened) c.in_ok-kept.ensures c.new-fixed.ensures c.in_ok-opened.ensures in
    made_backward (seen_label c.args.label) (head_of c.args.head) type g u.first opened c.in_ok-are_proofs.are_proofs.items c.in_ok-equations.equations
    (opened_is u.sig.now (goals_of u.goals.now) u.first g c.requires.usage.goals (head_of c.args.head) type c.requires.head opened opens) c.in_ok-are_proofs.ensures c.in_ok-equations.ensures
