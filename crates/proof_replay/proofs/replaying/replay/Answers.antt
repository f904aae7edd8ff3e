use Rattle.std.proofs.Common.{map, sym, subst}
use Rattle.lf_definitions.specs.Signatures.{FormedSignature}
use Rattle.lf_definitions.specs.GoalLists.{all_goals}
use Rattle.lf_definitions.specs.ShapedGoals.{ShapedGoals}
use Rattle.lf_terms.specs.Terms.{term_of}
use Rattle.lf_terms.specs.Types.{type_of}
use Rattle.meta_goals.specs.GoalsOf.{goals_of}
use Rattle.goal_book.specs.GoalBooks.{rules_in}
use Rattle.proof_replay.specs.Seen.{seen_step}
use Rattle.proof_replay.proofs.Alternatives.{may_be_followed}
use Rattle.proof_replay.proofs.Opening.{opening_is_shaped}
use Rattle.proof_replay.proofs.Scripts.{refused_is, led_on, led_is}
use Rattle.proof_replay.proofs.replaying.replay.Goals as goal

pub follow-requires-clause-book : goal.follow-requires-clause-book
follow-requires-clause-book c = may_be_followed c.args.book.now c.is_formed.ensures (subst FormedSignature c.sig.ensures c.is_formed-2.ensures)

pub follow-requires-clause-shaped : goal.follow-requires-clause-shaped
follow-requires-clause-shaped c =
    let b = c.args.book.now in
    subst (λ l. ShapedGoals b.sig (all_goals l)) (sym c.in_ok-list.ensures) (opening_is_shaped b.sig (type_of c.args.ty.now) c.requires)

pub whole_term-requires : goal.whole_term-requires
whole_term-requires c =
    let b = c.args.book.now in
    led_on b.sig (rules_in b) (type_of c.args.ty.now) (map seen_step c.args.script.now) (goals_of c.in_ok-list.list) c.in_ok-list.ensures _ c.in-Led.builds c.in-Led.is c.in_ok-run.ensures c.as_slice.result.now
    c.as_slice.ensures.value

pub returns-in-Refused : goal.returns-in-Refused
returns-in-Refused c =
    let b = c.args.book.now in
    refused_is b.sig (rules_in b) (type_of c.args.ty.now) (map seen_step c.args.script.now) (goals_of c.in_ok-list.list) c.in_ok-list.ensures _ c.in-Refused.answer c.in-Refused.is c.in_ok-run.ensures

pub returns-in_ok-term-in-Led : goal.returns-in_ok-term-in-Led
returns-in_ok-term-in-Led c =
    let b = c.args.book.now in
    led_is b.sig (rules_in b) (type_of c.args.ty.now) (map seen_step c.args.script.now) (goals_of c.in_ok-list.list) c.in_ok-list.ensures _ c.in-Led.builds c.in-Led.is c.in_ok-run.ensures c.as_slice.result.now c.as_slice.ensures.value (term_of c.in_ok-term-in-Led.term)
    c.in_ok-term-in-Led.ensures
