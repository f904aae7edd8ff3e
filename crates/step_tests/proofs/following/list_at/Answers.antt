use Rattle.std.proofs.Common.{rules, refl, subst}
use Rattle.lf_definitions.specs.GoalLists.{next_id}
use Rattle.lf_definitions.specs.Signatures.{FormedSignature}
use Rattle.meta_goals.specs.GoalsOf.{goals_of}
use Rattle.goal_expand.specs.declared.given.Given.{Given}
use Rattle.goal_expand.proofs.Books.{is_given}
use Rattle.step_tests.proofs.ReachedLists.{list_is_shaped}
use Rattle.step_tests.proofs.following.list_at.Goals as goal

pub returns : goal.returns
returns c =
    let list = goals_of c.args.goals.now in
    let given : Given = record { alloc = c.args.alloc; book = c.args.book; goals = c.args.goals; first = next_id list } in
    let may = (is_given given c.is_formed.ensures (subst FormedSignature c.sig.ensures c.is_formed-2.ensures) c.requires refl).may_expand in
    list_is_shaped c.args.book.now list may c.in_ok-found.found.items c.in_ok-found.ensures.alternatives c.args.place c.swap_remove-next.result c.swap_remove-next.result
    (search rules) c.swap_remove-next.ensures.value
