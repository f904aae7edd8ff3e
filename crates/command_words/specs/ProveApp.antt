-- The command that `clap` reads: what its options are called, and that it has no `--help`.
use Rattle.std.specs.Prelude.{Some, codes, true}
use Rattle.clap.specs.Walk.{Rule}
use Rattle.clap.specs.Simple.{App, new_app, new_rule, on_top, with_rule}
use Rattle.clap.specs.declared.builder.ArgAction.TheVariants.{Set, SetTrue}

-- `--workers N`
abbrev pub workers_option : Rule
workers_option = record (new_rule (codes "workers")) { long = Some (codes "workers"); action = Some Set }

-- `--budget N`
abbrev pub budget_option : Rule
budget_option = record (new_rule (codes "budget")) { long = Some (codes "budget"); action = Some Set }

-- `--trace`
abbrev pub trace_flag : Rule
trace_flag = record (new_rule (codes "trace")) { long = Some (codes "trace"); action = Some SetTrue }

-- the command with its options, which reads the words after its name
abbrev pub prove_app : App
prove_app =
    with_rule (with_rule (with_rule (on_top (λ s. record s { no_binary_name = true; disable_help_flag = true }) (new_app (codes "prove"))) workers_option) budget_option)
    trace_flag
