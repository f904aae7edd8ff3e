use Rattle.lf_terms.specs.Terms.{term_of}
use Rattle.proof_replay.proofs.WholeTables.{lam_more}
use Rattle.proof_replay.proofs.replaying.under_binders.Goals as goal

pub loop-preserved : goal.loop-preserved
loop-preserved c = lam_more c.loop.counter (term_of c.loop.term) (term_of c.args.inside) c.in_ok-body.body c.in_ok-body.ensures c.loop.invariant
