use Rattle.std.proofs.Common.{◌∙◌}
use Rattle.std.proofs.lemmas.Bool.{ne_eqb}
use Rattle.proof_replay.proofs.Places.{some_in_first}
use Rattle.proof_replay.proofs.following.is_empty.Goals as goal

pub returns-else-len-eq0 : goal.returns-else-len-eq0
returns-else-len-eq0 c = ne_eqb c.len.result 0 c.if-len-eq0.false ∙ some_in_first c.args.list.now.proofs c.args.list.now.witnesses (λ e. c.if-len-eq0.false (c.len.ensures ∙ e))
