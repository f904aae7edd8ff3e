use Rattle.std.proofs.Common.{◌∙◌, ◌∷◌, refl, sym, ap, arith, length, slice_get}
use Rattle.tree_steps.proofs.HeldSeats.{test_is_holding, held_within, held_own, answers, not_holding}
use Rattle.tree_steps.proofs.tree.Tree.holds.Goals as goal

pub returns-then-not-is_held : goal.returns-then-not-is_held
returns-then-not-is_held g c =
    let test = test_is_holding (g.P.Problem.branches c.args.problem.now) (g.P.Problem.seen c.args.problem.now) (g.P.Problem.is_own c.args.problem.now) c.args.self.now c.requires.tree c.args.seat c.args.node c.as_slice.result.now c.as_slice.ensures.value in
    not_holding (g.P.Problem.branches c.args.problem.now) (g.P.Problem.seen c.args.problem.now) (g.P.Problem.is_own c.args.problem.now) c.args.self.now c.requires.tree c.args.seat c.args.node _ _
    (sym (c.is_held.ensures ∙ test) ∙ c.if-not-is_held.true) refl

pub node_at-requires : goal.node_at-requires
node_at-requires g c =
    let test = test_is_holding (g.P.Problem.branches c.args.problem.now) (g.P.Problem.seen c.args.problem.now) (g.P.Problem.is_own c.args.problem.now) c.args.self.now c.requires.tree c.args.seat c.args.node c.as_slice.result.now c.as_slice.ensures.value in
    let within = held_within (g.P.Problem.branches c.args.problem.now) (g.P.Problem.seen c.args.problem.now) (g.P.Problem.is_own c.args.problem.now) c.args.self.now c.requires.tree c.args.seat c.args.node (sym (c.is_held.ensures ∙ test) ∙ c.if-not-is_held.false) in
    omega (arith, within, ap length c.as_slice-2.ensures.value)

pub same-requires-clause-first : goal.same-requires-clause-first
same-requires-clause-first g c =
    let test = test_is_holding (g.P.Problem.branches c.args.problem.now) (g.P.Problem.seen c.args.problem.now) (g.P.Problem.is_own c.args.problem.now) c.args.self.now c.requires.tree c.args.seat c.args.node c.as_slice.result.now c.as_slice.ensures.value in
    held_own (g.P.Problem.branches c.args.problem.now) (g.P.Problem.seen c.args.problem.now) (g.P.Problem.is_own c.args.problem.now) c.args.self.now c.requires.tree c.args.seat c.args.node (sym (c.is_held.ensures ∙ test) ∙ c.if-not-is_held.false) c.node_at.result.now
    (c.node_at.ensures ∙ ap (λ ns. slice_get (c.args.self.now.root ∷ ns) c.args.node) c.as_slice-2.ensures.value)

pub returns : goal.returns
returns g c =
    let test = test_is_holding (g.P.Problem.branches c.args.problem.now) (g.P.Problem.seen c.args.problem.now) (g.P.Problem.is_own c.args.problem.now) c.args.self.now c.requires.tree c.args.seat c.args.node c.as_slice.result.now c.as_slice.ensures.value in
    answers (g.P.Problem.branches c.args.problem.now) (g.P.Problem.seen c.args.problem.now) (g.P.Problem.is_own c.args.problem.now) c.args.self.now c.requires.tree c.args.seat c.args.node (sym (c.is_held.ensures ∙ test) ∙ c.if-not-is_held.false) c.node_at.result.now c.args.content.now c.same.result
    (c.node_at.ensures ∙ ap (λ ns. slice_get (c.args.self.now.root ∷ ns) c.args.node) c.as_slice-2.ensures.value) c.same.ensures
