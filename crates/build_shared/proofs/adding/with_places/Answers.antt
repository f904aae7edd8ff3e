use Rattle.std.proofs.Common.{◌+◌, Some, true, false, map, refl, sym, ap, ◌∙◌}
use Rattle.lf_definitions.specs.Syntax.{atomic}
use Rattle.lf_definitions.specs.ShapedGoals.{kind_shapes_in}
use Rattle.applications.specs.Applications.{may_be_added}
use Rattle.completion_laws.proofs.Unified.{closed_here, goes_here}
use Rattle.meta_goals.specs.Bindings.{assigned_of, assigning}
use Rattle.meta_goals.specs.Instantiates.{TypeIsShaped}
use Rattle.build_shared.specs.Attempts.{goals_at, goal_at, candidate_at, among_at}
use Rattle.build_shared.specs.Seen.{seen_atom}
use Rattle.build_shared.proofs.InstancesAmong.{instantiates_in, atom_is}
use Rattle.build_shared.proofs.OneMoreHypothesis.{context_has_shapes, can_add, completed_when, one_more_is}
use Rattle.build_shared.proofs.adding.with_places.Goals as goal

pub returns-then-not-are_assigned : goal.returns-then-not-are_assigned
returns-then-not-are_assigned c =
    let a = c.args.attempt.now in
    completed_when a.first (among_at a) (goal_at a) (candidate_at a) (assigning c.args.entries.now) c.args.kept.now false _ (sym c.if-not-are_assigned.true ∙ c.are_assigned.ensures) refl

pub instantiate_atom-requires : goal.instantiate_atom-requires
instantiate_atom-requires c =
    let a = c.args.attempt.now in
    let k = candidate_at a in
    let x = c.requires.unified.unified in
    let entries = map assigned_of c.args.entries.now in
    instantiates_in a.sig.now (among_at a) (among_at a) c.args.entries.now (closed_here a.sig.now (goals_at a) a.first (goal_at a) k entries x) (goes_here a.sig.now (goals_at a) a.first (goal_at a) k entries x)
    c.requires.unified.have_shapes (goal_at a).context (TypeIsShaped (atomic k.opened.end)) (kind_shapes_in a.sig.now, x.may_be_used.end_is_shaped)

pub may_be_added-requires : goal.may_be_added-requires
may_be_added-requires c =
    let a = c.args.attempt.now in
    context_has_shapes a.sig.now (goals_at a) a.first (goal_at a) (candidate_at a) c.args.entries.now c.requires.unified

pub returns-then-not-branch : goal.returns-then-not-branch
returns-then-not-branch c =
    let a = c.args.attempt.now in
    let k = candidate_at a in
    let x = c.requires.unified.unified in
    let entries = map assigned_of c.args.entries.now in
    let fact = atom_is a.sig.now (among_at a) (among_at a) c.args.entries.now (closed_here a.sig.now (goals_at a) a.first (goal_at a) k entries x) (goes_here a.sig.now (goals_at a) a.first (goal_at a) k entries x)
    c.requires.unified.have_shapes (goal_at a).context k.opened.end (seen_atom c.in_ok-fact.fact) x.may_be_used.end_is_shaped c.in_ok-fact.ensures.result in
    completed_when a.first (among_at a) (goal_at a) k (assigning c.args.entries.now) c.args.kept.now true false (sym c.if-not-are_assigned.false ∙ c.are_assigned.ensures)
    (sym c.if-not-branch.true ∙ c.in_ok-may_be_added.ensures ∙ ap (may_be_added (goal_at a) c.args.kept.now) fact)

pub one_more-requires : goal.one_more-requires
one_more-requires c =
    let a = c.args.attempt.now in
    can_add a.sig.now (goals_at a) a.first (goal_at a) (candidate_at a) c.args.entries.now c.requires.unified c.args.kept.now (seen_atom c.in_ok-fact.fact) c.requires.places
    (sym c.in_ok-may_be_added.ensures ∙ c.if-not-branch.false)

pub returns : goal.returns
returns c =
    let a = c.args.attempt.now in
    let k = candidate_at a in
    let x = c.requires.unified.unified in
    let entries = map assigned_of c.args.entries.now in
    let fact = atom_is a.sig.now (among_at a) (among_at a) c.args.entries.now (closed_here a.sig.now (goals_at a) a.first (goal_at a) k entries x) (goes_here a.sig.now (goals_at a) a.first (goal_at a) k entries x)
    c.requires.unified.have_shapes (goal_at a).context k.opened.end (seen_atom c.in_ok-fact.fact) x.may_be_used.end_is_shaped c.in_ok-fact.ensures.result in
    ap Some (c.in_ok-done.ensures ∙ one_more_is (goal_at a) c.args.kept.now _ _ _ _ _ _ (c.in_ok-number.ensures ∙ ap (λ m. a.first + m) c.len.ensures) fact c.in_ok-proof.ensures)
    ∙ completed_when a.first (among_at a) (goal_at a) k (assigning c.args.entries.now) c.args.kept.now true true (sym c.if-not-are_assigned.false ∙ c.are_assigned.ensures)
    (sym c.if-not-branch.false ∙ c.in_ok-may_be_added.ensures ∙ ap (may_be_added (goal_at a) c.args.kept.now) fact)
