use Rattle.std.proofs.Common.{sym, ap, ◌∙◌}
use Rattle.lf_definitions.proofs.Options.{None-Some, Some_inj}
use Rattle.meta_goals.specs.Bindings.{LfBinding}
use Rattle.proof_replay.proofs.replaying.first_body.Goals as goal

pub unreachable-requires : goal.unreachable-requires
unreachable-requires c = None-Some (sym c.in-None.ensures) c.requires.1

pub returns : goal.returns
returns c = λ b found. c.in_ok-body-in-Some.ensures ∙ ap (λ (x : LfBinding). x.bound_body) (Some_inj (sym c.in-Some.ensures) found)
