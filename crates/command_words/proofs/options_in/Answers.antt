-- What is read are the options of the words, and what is refused is no command.
use Rattle.std.proofs.Common.{◌≡◌, ◌∙◌, rules, ap, subst, codes, Bool, map, [], ◌∷◌, Some}
use Rattle.clap.specs.Words.{App, app_of, fault_of, found_of, is_simple, is_simple_and_free, kind_of, matches_of, one_of, rows_of}
use Rattle.clap.specs.declared.error.kind.ErrorKind.TheVariants as kind
use Rattle.clap.proofs.WalkLemmas.{first_value-rows, one_text-rows}
use Rattle.command_words.specs.Commands.{IsProve}
use Rattle.command_words.specs.Given.{GivesOptions}
use Rattle.command_words.specs.ProveApp.{prove_app}
use Rattle.command_words.proofs.ClapSteps.{prove_is_simple, prove_is_free}
use Rattle.command_words.proofs.ClapRows.{text_of_trace}
use Rattle.command_words.proofs.CommandWords.{found_alike, found_none, values_are, command_passes, flag_is, no_kind}
use Rattle.command_words.proofs.options_in.Goals as goal

pub returns-in-Ok : goal.returns-in-Ok
returns-in-Ok c =
    let texts = map (λ text. text.now) c.args.texts.now in
    let app_is : app_of c.in_ok-command.command ≡ prove_app = c.in_ok-command.ensures in
    let found = found_of c.in-Ok.matches in
    let none = subst (λ (a : App). fault_of a texts ≡ []) app_is (c.in-Ok.ensures.kinds (ap is_simple_and_free app_is ∙ prove_is_free)) in
    let rows = (c.in-Ok.ensures.matches (ap is_simple app_is ∙ prove_is_simple)).0 ∙ ap (λ (a : App). matches_of a texts) app_is in
    let trace_is : (t : Bool) → one_of (codes "trace") (rows_of found) ≡ Some (text_of_trace t) → c.get_flag.result ≡ t =
    λ t e. flag_is _ c.get_flag.result c.get_flag.ensures.value c.get_flag.ensures.other t (one_text-rows found (codes "trace") ∙ e) in
    found_alike (GivesOptions _ _ c.get_flag.result) (IsProve (codes "prove" ∷ texts)) _ c.options_given.ensures
    (values_are texts (rows_of found) _ _ c.get_flag.result c.requires none rows
    (c.get_str-workers.ensures ∙ first_value-rows found (codes "workers")) (c.get_str-budget.ensures ∙ first_value-rows found (codes "budget")) trace_is)

pub returns-in-Err-2 : goal.returns-in-Err-2
returns-in-Err-2 c =
    let texts = map (λ text. text.now) c.args.texts.now in
    let app_is : app_of c.in_ok-command.command ≡ prove_app = c.in_ok-command.ensures in
    let other : kind_of c.in-Err.error ≡ kind.OutOfMemory → ⊥ = search rules in
    found_none (IsProve (codes "prove" ∷ texts)) (λ o p.
    no_kind (fault_of (app_of c.in_ok-command.command) texts) c.in-Err.error (ap (λ (a : App). fault_of a texts) app_is ∙ command_passes texts o p) other
    (c.in-Err.ensures.kinds (ap is_simple_and_free app_is ∙ prove_is_free)))
