use Rattle.std.proofs.Common.{◌≡◌, true, false, sym, ap, ◌∙◌, option_map}
use Rattle.std.proofs.lemmas.Result.{IfOk-weaker}
use Rattle.build_shared.specs.Attempts.{goals_at, goal_at, candidate_at}
use Rattle.build_shared.specs.Answers.{where_typed_at}
use Rattle.build_shared.specs.Completed.{seen_completed}
use Rattle.build_shared.proofs.Composing.{itself_is_none}
use Rattle.build_shared.proofs.answering.parts_by.Goals as goal

pub returns-in-None-clause-found : goal.returns-in-None-clause-found
returns-in-None-clause-found c = sym (ap (where_typed_at c.args.attempt.now c.args.entries.now) (sym c.in_ok-complete.ensures ∙ ap (option_map seen_completed) c.in-None.is))

pub returns-then-term_mentions-clause-found : goal.returns-then-term_mentions-clause-found
returns-then-term_mentions-clause-found c =
    let a = c.args.attempt.now in
    itself_is_none a.sig.now (goals_at a) a.first (goal_at a) (candidate_at a) c.args.entries.now c.requires (seen_completed c.in-Some.done)
    (sym c.in_ok-complete.ensures ∙ ap (option_map seen_completed) c.in-Some.is) (c.term_mentions.ensures.0 c.if-term_mentions.true)

pub parts_with-requires : goal.parts_with-requires
parts_with-requires c =
    record {
      unified_by = c.requires;
      completes = sym c.in_ok-complete.ensures ∙ ap (option_map seen_completed) c.in-Some.is;
      not_itself = λ o. let clash : false ≡ true = sym c.if-term_mentions.false ∙ c.term_mentions.ensures.1 o in absurd cc;
    }

pub returns-else-term_mentions-clause-found : goal.returns-else-term_mentions-clause-found
returns-else-term_mentions-clause-found c =
    IfOk-weaker c.parts_with.result _ _
    (λ r e. e ∙ ap (where_typed_at c.args.attempt.now c.args.entries.now) (sym (sym c.in_ok-complete.ensures ∙ ap (option_map seen_completed) c.in-Some.is))) c.parts_with.ensures.found
