use Rattle.std.proofs.Common.{true, false, refl, sym, ◌∙◌}
use Rattle.std.specs.Prelude.{Contains}
use Rattle.std.proofs.lemmas.Result.{IfOk-weaker}
use Rattle.std.proofs.lemmas.List.Elements.{All-contains_itself}
use Rattle.goal_lists.proofs.Leaving.{All-parts}
use Rattle.meta_goals.specs.Bindings.{assigning}
use Rattle.build_shared.specs.Attempts.{goals_at, among_at}
use Rattle.build_shared.proofs.EntryTests.{three_tests}
use Rattle.build_shared.proofs.testing.are_typed.Goals as goal

pub each_is_typed-requires-clause-among : goal.each_is_typed-requires-clause-among
each_is_typed-requires-clause-among c =
    let a = c.args.attempt.now in
    (All-parts (Contains (among_at a)) a.goals.now.proofs a.goals.now.witnesses (All-parts (Contains (among_at a)) (goals_at a) a.candidate.now.opened.fresh (All-contains_itself (among_at a))).0).0

pub each_is_typed-requires-2-clause-among : goal.each_is_typed-requires-2-clause-among
each_is_typed-requires-2-clause-among c =
    let a = c.args.attempt.now in
    (All-parts (Contains (among_at a)) a.goals.now.proofs a.goals.now.witnesses (All-parts (Contains (among_at a)) (goals_at a) a.candidate.now.opened.fresh (All-contains_itself (among_at a))).0).1

pub each_is_typed-requires-3-clause-among : goal.each_is_typed-requires-3-clause-among
each_is_typed-requires-3-clause-among c =
    let a = c.args.attempt.now in
    (All-parts (Contains (among_at a)) (goals_at a) a.candidate.now.opened.fresh (All-contains_itself (among_at a))).1

pub returns-then-not-branch : goal.returns-then-not-branch
returns-then-not-branch c =
    let a = c.args.attempt.now in
    three_tests a.sig.now (among_at a) (assigning c.args.whole.now) c.args.list.now a.goals.now.proofs a.goals.now.witnesses a.candidate.now.opened.fresh false _ _ (sym c.if-not-branch.true ∙ c.in_ok-each_is_typed.ensures) refl refl

pub returns-then-not-branch-2 : goal.returns-then-not-branch-2
returns-then-not-branch-2 c =
    let a = c.args.attempt.now in
    three_tests a.sig.now (among_at a) (assigning c.args.whole.now) c.args.list.now a.goals.now.proofs a.goals.now.witnesses a.candidate.now.opened.fresh true false _ (sym c.if-not-branch.false ∙ c.in_ok-each_is_typed.ensures)
    (sym c.if-not-branch-2.true ∙ c.in_ok-each_is_typed-2.ensures) refl

pub returns : goal.returns
returns c =
    let a = c.args.attempt.now in
    IfOk-weaker c.each_is_typed-3.result _ _
    (λ t e. three_tests a.sig.now (among_at a) (assigning c.args.whole.now) c.args.list.now a.goals.now.proofs a.goals.now.witnesses a.candidate.now.opened.fresh true true t
    (sym c.if-not-branch.false ∙ c.in_ok-each_is_typed.ensures) (sym c.if-not-branch-2.false ∙ c.in_ok-each_is_typed-2.ensures) e) c.each_is_typed-3.ensures
