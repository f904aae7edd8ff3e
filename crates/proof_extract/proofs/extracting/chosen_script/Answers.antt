use Rattle.std.proofs.Common.{◌≡◌, ◌+◌, ◌-◌, ◌<◌, ◌++◌, ℕ, List, map, [], ◌∷◌, length, length-append, sym, ap, ◌∙◌, arith}
use Rattle.std.proofs.lemmas.List.{map_push, length-map}
use Rattle.std.specs.Prelude.{nat_eq}
use Rattle.goal_book.specs.GoalBooks.{rules_in}
use Rattle.indexmap.specs.IndexMap.{get}
use Rattle.lf_terms.specs.Types.{type_of}
use Rattle.meta_goals.specs.GoalsOf.{goals_of}
use Rattle.proof_replay.specs.Seen.{seen_step}
use Rattle.proof_extract.proofs.Ways.{steps_allowed, at_opening, has_gone_on, steps_are_left, has_ended, no_first}
use Rattle.proof_extract.proofs.extracting.chosen_script.Goals as goal

-- One step more leaves fewer.
fewer_are_left : {X : Type 0} (most : ℕ) (before after : List X) (x : X) (count : ℕ) → after ≡ before ++ x ∷ [] → count ≡ length before → count < most → most - length after < most - length before
fewer_are_left most before after x count is same less = let longer : length after ≡ length before + 1 = ap length is ∙ length-append before (x ∷ []) in omega arith

pub loop-goal-init : goal.loop-goal-init
loop-goal-init g c =
    at_opening c.args.problem.now.book.now.sig (rules_in c.args.problem.now.book.now) (type_of c.args.ty.now) c.args.tree.now c.requires (goals_of c.in_ok-opening.field-0) (get nat_eq c.in_ok-root_table.field-0)
    c.in_ok-opening.ensures (c.in_ok-root_table.ensures (type_of c.args.ty.now)) (map seen_step c.new-script.result.items) (ap (map seen_step) c.new-script.ensures.items)

pub next_step-requires-clause-way : goal.next_step-requires-clause-way
next_step-requires-clause-way g c = (type_of c.args.ty.now, c.loop-goal.invariant.left, c.loop-goal.invariant.nodes, c.loop-goal.invariant.on_the_way)

pub next_step-requires-clause-first : goal.next_step-requires-clause-first
next_step-requires-clause-first g c = sym c.in-Some.ensures

pub loop-goal-preserved : goal.loop-goal-preserved
loop-goal-preserved g c =
    let come = c.loop-goal.invariant in
    has_gone_on c.args.problem.now.book.now.sig (rules_in c.args.problem.now.book.now) (type_of c.args.ty.now) c.args.tree.now (map seen_step c.loop-goal.script.items) (goals_of c.loop-goal.place.goals)
    (get nat_eq c.loop-goal.place.carried) come (seen_step c.in_ok-step.step) (goals_of c.in_ok-step.next.goals) (get nat_eq c.in_ok-step.next.carried)
    (c.in_ok-step.ensures (type_of c.args.ty.now) come.left come.nodes come.on_the_way) (map seen_step c.push.new.self.items)
    (ap (map seen_step) {x = c.push.new.self.items} {y = c.loop-goal.script.items ++ c.in_ok-step.step ∷ []} c.in_ok-push.ensures.items ∙ map_push seen_step c.loop-goal.script.items c.in_ok-step.step)

pub loop-goal-smaller : goal.loop-goal-smaller
loop-goal-smaller g c =
    let come = c.loop-goal.invariant in
    fewer_are_left (steps_allowed c.args.problem.now.book.now.sig (rules_in c.args.problem.now.book.now) (type_of c.args.ty.now) c.args.tree.now) c.loop-goal.script.items c.push.new.self.items
    c.in_ok-step.step (length (map seen_step c.loop-goal.script.items)) c.in_ok-push.ensures.items (length-map c.loop-goal.script.items seen_step)
    (steps_are_left c.args.problem.now.book.now.sig (rules_in c.args.problem.now.book.now) (type_of c.args.ty.now) c.args.tree.now (map seen_step c.loop-goal.script.items) (goals_of c.loop-goal.place.goals)
    (get nat_eq c.loop-goal.place.carried) come (seen_step c.in_ok-step.step) (goals_of c.in_ok-step.next.goals) (get nat_eq c.in_ok-step.next.carried)
    (c.in_ok-step.ensures (type_of c.args.ty.now) come.left come.nodes come.on_the_way))

pub returns : goal.returns
returns g c =
    has_ended c.args.problem.now.book.now.sig (rules_in c.args.problem.now.book.now) (type_of c.args.ty.now) c.args.tree.now (map seen_step c.loop-goal.script.items) (goals_of c.loop-goal.place.goals)
    (get nat_eq c.loop-goal.place.carried) c.loop-goal.invariant (no_first (goals_of c.loop-goal.place.goals) (sym c.first_number.ensures ∙ c.in_default.is))
