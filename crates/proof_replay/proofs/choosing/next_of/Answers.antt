use Rattle.std.proofs.Common.{Option, option_map, Some, map, sym, ap, ◌∙◌, subst}
use Rattle.lf_definitions.specs.GoalLists.{all_goals}
use Rattle.meta_goals.specs.Bindings.{assigned_of}
use Rattle.meta_goals.specs.GoalsOf.{goals_of}
use Rattle.build_shared.specs.declared.app.App.{App}
use Rattle.build_shared.specs.Seen.{seen_label, seen_application}
use Rattle.proof_replay.specs.Seen.{seen_step}
use Rattle.proof_replay.specs.Naming.{left_after, MayCome}
use Rattle.proof_replay.proofs.Named.{none_of_others, done_or_none, named_or_none}
use Rattle.proof_replay.proofs.Coming.{normal_is_shaped, named_may_come}
use Rattle.proof_replay.proofs.choosing.next_of.Goals as goal

pub returns-then-not-same-clause-found : goal.returns-then-not-same-clause-found
returns-then-not-same-clause-found c =
    let n = c.in_ok-normed.normed in
    none_of_others c.args.book.now c.requires.book (goals_of c.args.goals.now) c.requires.shaped (map seen_label n.labels.items) n.closed (goals_of n.goals) n.build c.in_ok-normed.ensures.normal (seen_step c.args.step.now)
    (sym c.has_labels-same.ensures ∙ c.if-not-same.true)

pub returns-then-closed-clause-found : goal.returns-then-closed-clause-found
returns-then-closed-clause-found c =
    let n = c.in_ok-normed.normed in
    c.if_done-found.ensures.found
    ∙ done_or_none c.args.book.now c.requires.book (goals_of c.args.goals.now) c.requires.shaped (map seen_label n.labels.items) n.closed (goals_of n.goals) n.build c.in_ok-normed.ensures.normal (seen_step c.args.step.now)
    (sym c.has_labels-same.ensures ∙ c.if-not-same.false) c.if-closed.true

pub returns-then-closed-clause-shapes : goal.returns-then-closed-clause-shapes
returns-then-closed-clause-shapes c = c.if_done-found.ensures.shapes (all_goals (goals_of c.args.goals.now)) c.in_ok-normed.ensures.shapes

pub named_app-requires : goal.named_app-requires
named_app-requires c =
    let n = c.in_ok-normed.normed in
    normal_is_shaped c.args.book.now c.requires.book (goals_of c.args.goals.now) c.requires.shaped (goals_of n.goals) (map seen_label n.labels.items) n.closed n.build c.in_ok-normed.ensures.normal (seen_step c.args.step.now)

pub after_app-requires : goal.after_app-requires
after_app-requires c =
    let n = c.in_ok-normed.normed in
    subst (λ sig. MayCome sig (goals_of c.args.goals.now) (goals_of n.goals) n.build c.in-Some.app) (sym c.sig.ensures)
    (named_may_come c.args.book.now c.requires.book (goals_of c.args.goals.now) c.requires.shaped (goals_of n.goals) (map seen_label n.labels.items) n.closed n.build c.in_ok-normed.ensures.normal
    (seen_step c.args.step.now) c.in_ok-normed.ensures.shapes c.in_ok-named.named c.in-Some.app c.in-Some.is c.in_ok-named.ensures.found c.in_ok-named.ensures.shapes)

pub returns-in-None-clause-found : goal.returns-in-None-clause-found
returns-in-None-clause-found c =
    let n = c.in_ok-normed.normed in
    ap (λ (o : Option App). option_map (left_after (goals_of c.args.goals.now) (goals_of n.goals) (map assigned_of n.build)) (option_map seen_application o)) (sym c.in-None.is)
    ∙ named_or_none c.args.book.now c.requires.book (goals_of c.args.goals.now) c.requires.shaped (map seen_label n.labels.items) n.closed (goals_of n.goals) n.build c.in_ok-normed.ensures.normal (seen_step c.args.step.now)
    (sym c.has_labels-same.ensures ∙ c.if-not-same.false) c.if-closed.false (option_map seen_application c.in_ok-named.named) c.in_ok-named.ensures.found

pub returns-clause-found : goal.returns-clause-found
returns-clause-found c =
    let n = c.in_ok-normed.normed in
    ap Some c.in_ok-next-in-Some.ensures.found
    ∙ ap (λ (o : Option App). option_map (left_after (goals_of c.args.goals.now) (goals_of n.goals) (map assigned_of n.build)) (option_map seen_application o)) (sym c.in-Some.is)
    ∙ named_or_none c.args.book.now c.requires.book (goals_of c.args.goals.now) c.requires.shaped (map seen_label n.labels.items) n.closed (goals_of n.goals) n.build c.in_ok-normed.ensures.normal (seen_step c.args.step.now)
    (sym c.has_labels-same.ensures ∙ c.if-not-same.false) c.if-closed.false (option_map seen_application c.in_ok-named.named) c.in_ok-named.ensures.found
