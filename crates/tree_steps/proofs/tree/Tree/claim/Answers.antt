use Rattle.std.proofs.Common.{◌≡◌, ◌∙◌, ◌∷◌, sym, ap, refl, arith, length, slice_get, Some}
use Rattle.std.proofs.lemmas.Bool.{or_from}
use Rattle.std.proofs.lemmas.List.{length-map}
use Rattle.tree_runs.specs.Marks.{is_proved, is_stuck}
use Rattle.tree_steps.specs.Trees.{state_of_tree}
use Rattle.tree_steps.proofs.BestEntries.{none_eligible}
use Rattle.tree_runs.proofs.Soundness.{runs_are_sound}
use Rattle.tree_steps.proofs.Idling.{idle_holds}
use Rattle.tree_steps.proofs.Firsts.{dropped, first_within, first_own, first_seen}
use Rattle.tree_steps.proofs.tree.Tree.claim.Goals as goal

pub returns-in_default-clause-tree : goal.returns-in_default-clause-tree
returns-in_default-clause-tree g c =
    dropped (g.P.Problem.branches c.args.problem.now) (g.P.Problem.seen c.args.problem.now) (g.P.Problem.is_own c.args.problem.now) c.args.self.now _
    (record { root = refl; others = refl; shape = refl; marks = refl; commits = refl; budget = refl }) refl refl c.requires.tree c.best.ensures.dropped c.best.ensures.queue c.best.ensures.spare (omega arith)

pub returns-in_default-clause-answer : goal.returns-in_default-clause-answer
returns-in_default-clause-answer g c =
    let kept = dropped (g.P.Problem.branches c.args.problem.now) (g.P.Problem.seen c.args.problem.now) (g.P.Problem.is_own c.args.problem.now) c.args.self.now (record c.args.self.now { queue = c.best.new.self })
    (record { root = refl; others = refl; shape = refl; marks = refl; commits = refl; budget = refl }) refl refl c.requires.tree c.best.ensures.dropped c.best.ensures.queue c.best.ensures.spare (omega arith) in
    let state = state_of_tree (g.P.Problem.branches c.args.problem.now) (g.P.Problem.seen c.args.problem.now) (g.P.Problem.is_own c.args.problem.now) c.args.self.now in
    let shows = c.requires.tree.shows in
    let held = sym (length-map c.args.self.now.held.items (λ holding. (holding.seat, holding.entry.node))) ∙ ap length shows.held in
    let sound = runs_are_sound (g.P.Problem.branches c.args.problem.now) (g.P.Problem.seen c.args.problem.now c.args.self.now.root) c.args.self.now.budget c.args.self.now.journal.events c.requires.tree.run in
    let undecided = or_from (is_proved state.shape 0) (is_stuck state.shape 0) (sym (shows.marks.proved_is 0) ∙ (sym c.proved.ensures ∙ c.if-proved.false)) (sym (shows.marks.stuck_is 0) ∙ (sym c.stuck.ensures ∙ c.if-stuck.false)) in
    let idle = none_eligible state c.args.self.now.budget shows.regular c.best.new.self.entries kept.shows.fits c.in_default.ensures.none in
    let some = idle_holds (g.P.Problem.branches c.args.problem.now) (g.P.Problem.seen c.args.problem.now c.args.self.now.root) c.args.self.now.budget state sound undecided idle in (
      undecided,
      omega (arith, c.if-self-len.false, c.len.ensures, c.args.self.now.held.ok.0, held, shows.commits),
      idle,
      c.len-in_default.ensures ∙ (c.args.self.now.held.ok.0 ∙ held),
      omega (arith, c.len-in_default.ensures, c.args.self.now.held.ok.0, held, some),
      refl,
    )

pub node_at-requires : goal.node_at-requires
node_at-requires g c =
    let kept = dropped (g.P.Problem.branches c.args.problem.now) (g.P.Problem.seen c.args.problem.now) (g.P.Problem.is_own c.args.problem.now) c.args.self.now (record c.args.self.now { queue = c.best.new.self })
    (record { root = refl; others = refl; shape = refl; marks = refl; commits = refl; budget = refl }) refl refl c.requires.tree c.best.ensures.dropped c.best.ensures.queue c.best.ensures.spare (omega arith) in
    let first : slice_get c.best.new.self.entries 0 ≡ Some c.in-Some.entry = sym c.best.ensures.first ∙ c.in-Some.is in
    let within = first_within (g.P.Problem.branches c.args.problem.now) (g.P.Problem.seen c.args.problem.now) (g.P.Problem.is_own c.args.problem.now) _ kept c.in-Some.entry first in
    omega (arith, within, ap length c.as_slice.ensures.value)

pub copy-requires : goal.copy-requires
copy-requires g c =
    let kept = dropped (g.P.Problem.branches c.args.problem.now) (g.P.Problem.seen c.args.problem.now) (g.P.Problem.is_own c.args.problem.now) c.args.self.now (record c.args.self.now { queue = c.best.new.self })
    (record { root = refl; others = refl; shape = refl; marks = refl; commits = refl; budget = refl }) refl refl c.requires.tree c.best.ensures.dropped c.best.ensures.queue c.best.ensures.spare (omega arith) in
    let first : slice_get c.best.new.self.entries 0 ≡ Some c.in-Some.entry = sym c.best.ensures.first ∙ c.in-Some.is in
    let here : Some c.node_at.result.now ≡ slice_get (c.args.self.now.root ∷ c.args.self.now.others.items) c.in-Some.entry.node = c.node_at.ensures ∙ ap (λ ns. slice_get (c.args.self.now.root ∷ ns) c.in-Some.entry.node) c.as_slice.ensures.value in
    first_own (g.P.Problem.branches c.args.problem.now) (g.P.Problem.seen c.args.problem.now) (g.P.Problem.is_own c.args.problem.now) _ kept c.in-Some.entry first c.node_at.result.now here

pub returns-in_err-content-clause-tree : goal.returns-in_err-content-clause-tree
returns-in_err-content-clause-tree g c =
    dropped (g.P.Problem.branches c.args.problem.now) (g.P.Problem.seen c.args.problem.now) (g.P.Problem.is_own c.args.problem.now) c.args.self.now _
    (record { root = refl; others = refl; shape = refl; marks = refl; commits = refl; budget = refl }) refl refl c.requires.tree c.best.ensures.dropped c.best.ensures.queue c.best.ensures.spare (omega arith)

pub take_first-requires-clause-tree : goal.take_first-requires-clause-tree
take_first-requires-clause-tree g c =
    dropped (g.P.Problem.branches c.args.problem.now) (g.P.Problem.seen c.args.problem.now) (g.P.Problem.is_own c.args.problem.now) c.args.self.now _
    (record { root = refl; others = refl; shape = refl; marks = refl; commits = refl; budget = refl }) refl refl c.requires.tree c.best.ensures.dropped c.best.ensures.queue c.best.ensures.spare (omega arith)

pub returns-clause-answer : goal.returns-clause-answer
returns-clause-answer g c =
    let kept = dropped (g.P.Problem.branches c.args.problem.now) (g.P.Problem.seen c.args.problem.now) (g.P.Problem.is_own c.args.problem.now) c.args.self.now (record c.args.self.now { queue = c.best.new.self })
    (record { root = refl; others = refl; shape = refl; marks = refl; commits = refl; budget = refl }) refl refl c.requires.tree c.best.ensures.dropped c.best.ensures.queue c.best.ensures.spare (omega arith) in
    let first : slice_get c.best.new.self.entries 0 ≡ Some c.in-Some.entry = sym c.best.ensures.first ∙ c.in-Some.is in
    let here : Some c.node_at.result.now ≡ slice_get (c.args.self.now.root ∷ c.args.self.now.others.items) c.in-Some.entry.node = c.node_at.ensures ∙ ap (λ ns. slice_get (c.args.self.now.root ∷ ns) c.in-Some.entry.node) c.as_slice.ensures.value in (
      c.in_ok-take_first.ensures.ok,
      c.in_ok-content.ensures.own,
      ap Some c.in_ok-content.ensures.same ∙ first_seen (g.P.Problem.branches c.args.problem.now) (g.P.Problem.seen c.args.problem.now) (g.P.Problem.is_own c.args.problem.now) _ kept c.in-Some.entry first c.node_at.result.now here,
    )
