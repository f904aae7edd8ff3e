use Rattle.std.proofs.Common.{sym, ap, ◌∙◌, [], option_map}
use Rattle.lf_terms.specs.Terms.{term_of}
use Rattle.unification.specs.Patterns.{has_number}
use Rattle.meta_goals.specs.Entries.{binding_of}
use Rattle.meta_unify.specs.Endings.{reason_at}
use Rattle.meta_unify.proofs.Solvable.{found_some, found_none, known_shapes}
use Rattle.meta_unify.proofs.Settling.{settle_same, is_new, settle_left, settle_right, stop_left, stop_right, reason_some, one_has_reason, terms_differ}
use Rattle.meta_unify.proofs.walk.settle.Goals as goal

pub returns-then-same : goal.returns-then-same
returns-then-same c = settle_same (has_number c.args.frozen.now) c.args.late.now (term_of c.args.left.now) (term_of c.args.right.now) (c.same.ensures.0 c.if-same.true)

pub push-requires : goal.push-requires
push-requires c =
    is_new (has_number c.args.frozen.now) c.args.late.now (term_of c.args.left.now) (term_of c.args.right.now) (binding_of (c.in-Some.id, c.in-Some.entry)) c.requires.left
    (found_some c.in_ok-id.field-0 c.in-Some.id c.in-Some.entry c.in-Some.is c.in_ok-id.ensures.entry)

pub returns-in-Some : goal.returns-in-Some
returns-in-Some c =
    settle_left (has_number c.args.frozen.now) c.args.late.now c.push.new.self (term_of c.args.left.now) (term_of c.args.right.now) (binding_of (c.in-Some.id, c.in-Some.entry)) c.in_ok-push.ensures.ok
    c.requires.left c.requires.right (found_some c.in_ok-id.field-0 c.in-Some.id c.in-Some.entry c.in-Some.is c.in_ok-id.ensures.entry)
    (known_shapes c.in_ok-id.field-0 c.in-Some.id c.in-Some.entry c.in-Some.is c.in_ok-id.ensures.shapes)

pub push-requires-in-Some-2 : goal.push-requires-in-Some-2
push-requires-in-Some-2 c =
    is_new (has_number c.args.frozen.now) c.args.late.now (term_of c.args.right.now) (term_of c.args.left.now) (binding_of (c.in-Some-2.id, c.in-Some-2.entry)) c.requires.right
    (found_some c.in_ok-id-2.field-0 c.in-Some-2.id c.in-Some-2.entry c.in-Some-2.is c.in_ok-id-2.ensures.entry)

pub returns-in-Some-2 : goal.returns-in-Some-2
returns-in-Some-2 c =
    settle_right (has_number c.args.frozen.now) c.args.late.now c.push-in-Some-2.new.self (term_of c.args.left.now) (term_of c.args.right.now) (binding_of (c.in-Some-2.id, c.in-Some-2.entry))
    c.in_ok-push-2.ensures.ok c.requires.left c.requires.right (found_none _ c.in_ok-id.field-0 c.in_default.not-Some c.in_ok-id.ensures.entry)
    (found_some c.in_ok-id-2.field-0 c.in-Some-2.id c.in-Some-2.entry c.in-Some-2.is c.in_ok-id-2.ensures.entry)
    (known_shapes c.in_ok-id-2.field-0 c.in-Some-2.id c.in-Some-2.entry c.in-Some-2.is c.in_ok-id-2.ensures.shapes)

pub returns-in-Some-3 : goal.returns-in-Some-3
returns-in-Some-3 c =
    stop_left (has_number c.args.frozen.now) c.args.late.now c.args.late.now (term_of c.args.left.now) (term_of c.args.right.now) c.in-Some-3.cause c.stop_here.result c.requires.left c.requires.right
    (terms_differ c.if-same.false c.same.ensures.1) (found_none _ c.in_ok-id.field-0 c.in_default.not-Some c.in_ok-id.ensures.entry)
    (found_none _ c.in_ok-id-2.field-0 c.in_default-2.not-Some c.in_ok-id-2.ensures.entry)
    (λ path. reason_some c.in_ok-cause.field-0 c.in-Some-3.cause path c.in-Some-3.is (c.in_ok-cause.ensures path)) c.stop_here.ensures.cause c.stop_here.ensures.steps

pub returns : goal.returns
returns c =
    stop_right (has_number c.args.frozen.now) c.args.late.now c.args.late.now (term_of c.args.left.now) (term_of c.args.right.now) c.in-Some-4.cause c.stop_here-in-Some-4.result c.requires.left c.requires.right
    (sym (found_none _ c.in_ok-cause.field-0 c.in_default-3.not-Some (c.in_ok-cause.ensures []))) (found_none _ c.in_ok-id-2.field-0 c.in_default-2.not-Some c.in_ok-id-2.ensures.entry)
    (λ path. reason_some c.in_ok-cause-2.field-0 c.in-Some-4.cause path c.in-Some-4.is (c.in_ok-cause-2.ensures path)) c.stop_here-in-Some-4.ensures.cause c.stop_here-in-Some-4.ensures.steps

pub unreachable-requires : goal.unreachable-requires
unreachable-requires c =
    one_has_reason (has_number c.args.frozen.now) [] (term_of c.args.left.now) (term_of c.args.right.now) c.requires.flexible
    (found_none _ c.in_ok-cause.field-0 c.in_default-3.not-Some (c.in_ok-cause.ensures [])) (sym (c.in_ok-cause-2.ensures []) ∙ ap (option_map (λ k. reason_at k [])) c.in-None.is)
