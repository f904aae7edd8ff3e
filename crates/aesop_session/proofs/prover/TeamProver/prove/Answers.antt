use Rattle.std.proofs.Common.{refl}
use Rattle.aesop_session.proofs.prover.TeamProver.prove.Goals as goal

pub returns-clause-answers : goal.returns-clause-answers
returns-clause-answers g c =
    let says = c.requires.serves c.args.book c.args.theorem c.args.opts refl c.requires.budget c.requires.formed in
    (says.1 c.search.result c.search.ensures).0

pub returns-clause-writable : goal.returns-clause-writable
returns-clause-writable g c =
    let says = c.requires.serves c.args.book c.args.theorem c.args.opts refl c.requires.budget c.requires.formed in
    (says.1 c.search.result c.search.ensures).1
