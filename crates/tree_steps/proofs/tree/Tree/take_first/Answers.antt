use Rattle.std.proofs.Common.{◌∙◌, ◌∷◌, ◌++◌, [], ap, subst, refl, arith}
use Rattle.tree_runs.specs.States.{claim}
use Rattle.tree_queue.specs.Queues.{IsQueueOf}
use Rattle.tree_steps.proofs.Steps.{stays, claimed}
use Rattle.tree_steps.proofs.tree.Tree.take_first.Goals as goal

pub returns-in_err-reserve-clause-tree : goal.returns-in_err-reserve-clause-tree
returns-in_err-reserve-clause-tree g c =
    let shows = c.requires.tree.shows in
    stays (g.P.Problem.branches c.args.problem.now) (g.P.Problem.seen c.args.problem.now) (g.P.Problem.is_own c.args.problem.now) c.args.self.now _
    (record { root = refl; others = refl; shape = refl; marks = refl; commits = refl; budget = refl }) c.reserve.ensures.same refl c.requires.tree shows.ordered shows.fits shows.queue_room
    (omega (arith, c.reserve.ensures.spare, shows.journal_room))

pub returns-in_err-reserve-2-clause-tree : goal.returns-in_err-reserve-2-clause-tree
returns-in_err-reserve-2-clause-tree g c =
    let shows = c.requires.tree.shows in
    stays (g.P.Problem.branches c.args.problem.now) (g.P.Problem.seen c.args.problem.now) (g.P.Problem.is_own c.args.problem.now) c.args.self.now _
    (record { root = refl; others = refl; shape = refl; marks = refl; commits = refl; budget = refl }) c.reserve.ensures.same c.reserve-2.ensures.items c.requires.tree shows.ordered shows.fits shows.queue_room
    (omega (arith, c.reserve.ensures.spare, shows.journal_room))

pub returns-clause-tree : goal.returns-clause-tree
returns-clause-tree g c =
    let shows = c.requires.tree.shows in
    claimed (g.P.Problem.branches c.args.problem.now) (g.P.Problem.seen c.args.problem.now) (g.P.Problem.is_own c.args.problem.now) c.args.self.now _ c.args.seat c.args.entry
    (record { root = refl; others = refl; shape = refl; marks = refl; commits = refl; budget = refl }) c.requires.tree c.requires.undecided c.requires.few c.requires.idle c.requires.first c.requires.relevant c.requires.best
    (c.add_claim.ensures.events ∙ ap (λ es. es ++ claim c.args.seat c.args.entry.node ∷ []) c.reserve.ensures.same)
    (c.put_holding.ensures ∙ ap (λ hs. record { seat = c.args.seat; entry = c.args.entry } ∷ hs) c.reserve-2.ensures.items)
    (subst (λ s. IsQueueOf s c.take.new.self.entries) shows.shape c.take.ensures.queue)
    (c.take.ensures.taken c.args.entry c.requires.first)
    (omega (arith, c.take.ensures.spare, shows.queue_room))
    (omega (arith, c.in_ok-reserve.ensures.ok, c.add_claim.ensures.spare, c.len.ensures, c.args.self.now.held.ok.0))
