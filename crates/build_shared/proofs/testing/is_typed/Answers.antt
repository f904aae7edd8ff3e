use Rattle.std.proofs.Common.{sym, ap, ◌∙◌, subst}
use Rattle.lf_definitions.specs.Syntax.{pis, family}
use Rattle.lf_definitions.specs.ShapedGoals.{ShapedTypeIn}
use Rattle.lf_definitions.specs.Signatures.{typing_in}
use Rattle.lf_functions.specs.Instances.{instance_of_goal}
use Rattle.applications.specs.Applications.{is_typed_entry}
use Rattle.lf_terms.specs.Targets.{goal_of}
use Rattle.lf_terms.specs.Terms.{term_of}
use Rattle.lf_kernel.specs.Checks.{Checks}
use Rattle.meta_goals.specs.Bindings.{assigning}
use Rattle.meta_goals.specs.Entries.{binding_of}
use Rattle.meta_goals.proofs.LeftGoals.{is_unassigned}
use Rattle.build_shared.specs.Attempts.{among_at}
use Rattle.build_shared.proofs.EntryTests.{test_can_leave, test_shaped, tested}
use Rattle.build_shared.proofs.testing.is_typed.Goals as goal

pub returns-in-None : goal.returns-in-None
returns-in-None c =
    let a = c.args.attempt.now in
    sym (ap (λ o. is_typed_entry a.sig.now c.args.list.now o (instance_of_goal (among_at a) (assigning c.args.whole.now) (goal_of c.args.goal.now))) (is_unassigned c.args.whole.now c.args.goal.now.id (sym c.in-None.ensures)))

pub instantiate_goal-requires : goal.instantiate_goal-requires
instantiate_goal-requires c =
    let a = c.args.attempt.now in
    (test_can_leave a.sig.now (among_at a) c.args.whole.now c.args.list.now c.requires.may (goal_of c.args.goal.now) c.requires.among).instantiates

pub check-requires-clause-context : goal.check-requires-clause-context
check-requires-clause-context c =
    let a = c.args.attempt.now in
    (test_shaped a.sig.now (among_at a) c.args.whole.now c.args.list.now c.requires.may (goal_of c.args.goal.now) c.requires.among (goal_of c.in_ok-instance-in-Some.instance) c.in_ok-instance-in-Some.ensures.result).0

pub check-requires-clause-expected : goal.check-requires-clause-expected
check-requires-clause-expected c =
    let a = c.args.attempt.now in
    let h = c.in_ok-instance-in-Some.instance in
    subst (λ bs. ShapedTypeIn a.sig.now c.args.list.now h.ctx (pis bs (family h.target.family h.target.args))) (sym c.new.ensures)
    (test_shaped a.sig.now (among_at a) c.args.whole.now c.args.list.now c.requires.may (goal_of c.args.goal.now) c.requires.among (goal_of h) c.in_ok-instance-in-Some.ensures.result).1

pub returns-in_ok-answer-in-Some : goal.returns-in_ok-answer-in-Some
returns-in_ok-answer-in-Some c =
    let a = c.args.attempt.now in
    let h = c.in_ok-instance-in-Some.instance in
    let b = binding_of (c.args.goal.now.id, c.in-Some.entry.now) in
    c.is_well.ensures
    ∙ tested a.sig.now (among_at a) c.args.whole.now c.args.list.now c.requires.may (goal_of c.args.goal.now) c.requires.among b (sym c.in-Some.ensures) (goal_of h) c.in_ok-instance-in-Some.ensures.result c.in_ok-answer-in-Some.answer
    (subst (λ bs. Checks (typing_in a.sig.now c.args.list.now h.ctx) (term_of c.in-Some.entry.now.body) (pis bs (family h.target.family h.target.args)) c.in_ok-answer-in-Some.answer) c.new.ensures c.in_ok-answer-in-Some.ensures)
