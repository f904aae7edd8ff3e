use Rattle.std.proofs.Common.{[], ◌∷◌, ◌++◌, map, sym, ap, ◌∙◌, subst, take_all, arith}
use Rattle.lf_terms.specs.Terms.{term_of}
use Rattle.applications.specs.Applications.{entry_of}
use Rattle.meta_goals.specs.Entries.{binding_of}
use Rattle.meta_goals.specs.Instantiates.{Instantiates, TermIsShaped}
use Rattle.build_shared.specs.Attempts.{goals_at, goal_at, candidate_at, among_at}
use Rattle.build_shared.specs.Completed.{seen_completed}
use Rattle.lf_definitions.specs.Instantiation.{Instantiated}
use Rattle.meta_goals.specs.Bindings.{assigning}
use Rattle.build_shared.specs.Whole.{goal_binding, put_binding, with_body}
use Rattle.build_shared.proofs.BindingLists.{nothing_within}
use Rattle.build_shared.proofs.WholeBindings.{instantiates_alone, others_more, not_among_others, not_among_all}
use Rattle.build_shared.proofs.whole.whole_assignment.Goals as goal

pub loop-place-init : goal.loop-place-init
loop-place-init c = (c.new.ensures, c.in_ok-goal_alone.ensures ∙ ap (λ l. goal_binding (goal_at c.args.attempt.now) (term_of c.args.done.now.becomes) ∷ l) (sym c.new.ensures))

pub add_entry-requires-clause-instantiates : goal.add_entry-requires-clause-instantiates
add_entry-requires-clause-instantiates c =
    let a = c.args.attempt.now in
    let b = binding_of (c.in-Some.id, c.in-Some.entry.now) in
    subst (λ l. Instantiates l (TermIsShaped (term_of c.in-Some.entry.now.body))) (sym c.in_ok-alone.ensures)
    (instantiates_alone a.sig.now (goals_at a) a.first (goal_at a) (candidate_at a) c.args.entries.now (seen_completed c.args.done.now) c.requires c.loop-place.place b (sym c.in-Some.ensures))

pub add_entry-requires-clause-all : goal.add_entry-requires-clause-all
add_entry-requires-clause-all c =
    let a = c.args.attempt.now in
    let b = binding_of (c.in-Some.id, c.in-Some.entry.now) in
    not_among_all a.sig.now (goals_at a) a.first (goal_at a) (candidate_at a) c.args.entries.now (seen_completed c.args.done.now) c.requires c.loop-place.place b (sym c.in-Some.ensures) c.loop-place.whole.others c.loop-place.whole.all
    c.loop-place.invariant.0 c.loop-place.invariant.1

pub add_entry-requires-clause-others : goal.add_entry-requires-clause-others
add_entry-requires-clause-others c =
    let a = c.args.attempt.now in
    let b = binding_of (c.in-Some.id, c.in-Some.entry.now) in
    not_among_others a.sig.now (goals_at a) a.first (goal_at a) (candidate_at a) c.args.entries.now (seen_completed c.args.done.now) c.requires c.loop-place.place b (sym c.in-Some.ensures) c.loop-place.whole.others c.loop-place.invariant.0

pub unreachable-requires : goal.unreachable-requires
unreachable-requires c = nothing_within c.args.entries.now c.loop-place.place (omega (arith, c.loop-place-test.true, c.len-place-end.ensures)) (sym c.in-None.ensures)

pub loop-place-preserved : goal.loop-place-preserved
loop-place-preserved c =
    let a = c.args.attempt.now in
    let b = binding_of (c.in-Some.id, c.in-Some.entry.now) in
    let made = c.in_ok-add_entry-in-Some.ensures in
    let own = goal_binding (goal_at a) (term_of c.args.done.now.becomes) in
    let new = with_body c.in-Some.id c.in-Some.entry.now.shapes made.0 in (
      others_more a.sig.now (goals_at a) a.first (goal_at a) (candidate_at a) c.args.entries.now (seen_completed c.args.done.now) c.requires c.loop-place.place b (sym c.in-Some.ensures) c.loop-place.whole.others
          c.add_entry.new.whole.others made.0 c.loop-place.invariant.0 (subst (λ l. Instantiated (assigning l) b.bound_body made.0) c.in_ok-alone.ensures made.1) made.3,
      made.2 ∙ ap (λ l. l ++ new ∷ []) c.loop-place.invariant.1 ∙ ap (λ l. own ∷ l) (sym made.3),
    )

pub returns : goal.returns
returns c =
    let a = c.args.attempt.now in
    record {
      completed_at = c.requires;
      others_are = c.loop-place.invariant.0 ∙ ap (map (put_binding (among_at a) (entry_of (goal_at a) (term_of c.args.done.now.becomes)))) (take_all c.loop-place.place c.args.entries.now (omega (arith, c.loop-place-test.false, c.len-place-end.ensures)));
      all_are = c.loop-place.invariant.1;
    }
