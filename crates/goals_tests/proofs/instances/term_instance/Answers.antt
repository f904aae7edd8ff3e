use Rattle.lf_definitions.specs.Syntax.{base}
use Rattle.lf_terms.specs.Terms.{term_of}
use Rattle.meta_goals.specs.Instantiates.{TermIsShaped}
use Rattle.goals_tests.specs.Settings.{scope_of}
use Rattle.goals_tests.proofs.PutParts.{puts}
use Rattle.goals_tests.proofs.instances.term_instance.Goals as goal

pub instantiate-requires : goal.instantiate-requires
instantiate-requires c =
    puts (scope_of c.args.setting.now c.args.variables.now) c.args.assign.now (TermIsShaped (term_of c.in_ok-term.term)) c.requires (base, c.is_shaped.ensures c.if-not-is_shaped.false)
