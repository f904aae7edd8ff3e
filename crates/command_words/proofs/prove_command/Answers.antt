-- The command is the one whose words are known.
use Rattle.std.proofs.Common.{◌≡◌, ◌∙◌, rules, ap, ap₂, true}
use Rattle.clap.specs.Words.{rule_of, with_rule}
use Rattle.clap.specs.Simple.{app_of_fields, on_top}
use Rattle.command_words.specs.ProveApp.{workers_option, budget_option, trace_flag}
use Rattle.command_words.proofs.prove_command.Goals as goal

pub returns : goal.returns
returns c =
    let workers_is : rule_of c.action-workers.result ≡ workers_option = search rules in
    let budget_is : rule_of c.action-budget.result ≡ budget_option = search rules in
    let trace_is : rule_of c.action-trace.result ≡ trace_flag = search rules in
    let named = ap app_of_fields c.no_binary_name.ensures ∙ ap (on_top (λ s. record s { no_binary_name = true })) c.new-4.ensures.app in
    let begun = ap app_of_fields c.disable_help_flag-command.ensures ∙ ap (on_top (λ s. record s { disable_help_flag = true })) named in
    c.in_ok-whole.ensures.shape (search rules)
    ∙ ap₂ with_rule (c.in_ok-with_budget.ensures.shape (search rules) ∙ ap₂ with_rule (c.in_ok-with_workers.ensures.shape (search rules) ∙ ap₂ with_rule begun workers_is) budget_is) trace_is
