use Rattle.std.proofs.Common.{refl, ◌∙◌}
use Rattle.tree_steps.proofs.Rows.{commit_added}
use Rattle.tree_steps.proofs.journal.Journal.add_commit.Goals as goal

pub returns-clause-events : goal.returns-clause-events
returns-clause-events c =
    let more = c.as_slice-counts.ensures in
    rw (← c.self.view_is, ← more)
    (commit_added c.self.inside.rows.items _ c.self.inside.counts.items _ c.as_slice-counts.result.now c.args.seat c.args.node c.len-start.result _ c.self.invariant.within c.push_reserved.ensures.items c.append_reserved.ensures.items (c.len-start.ensures ∙ c.self.inside.counts.ok.0) refl)
