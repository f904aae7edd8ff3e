use Rattle.std.proofs.Common.{◌++◌, [], ◌∷◌, get_or, sym, ap, ◌∙◌}
use Rattle.std.specs.Prelude.{flat_map}
use Rattle.goal_book.specs.Rules.{rules_of}
use Rattle.goal_book.specs.Queries.{choices_for}
use Rattle.goal_book.proofs.Steps.{choices_more}
use Rattle.goal_book.proofs.choices.choices.Goals as goal

pub loop-number-preserved : goal.loop-number-preserved
loop-number-preserved c =
    let q = c.args.query.now in
    record {
      seen = c.in_ok-add_choices.ensures.choices
          ∙ ap (λ xs. xs ++ flat_map (choices_for q) (rules_of q.rules.now (get_or c.deref-number-items.result.now c.loop-number.number-index 0 ∷ []))) c.loop-number.invariant.seen
          ∙ sym (choices_more q.rules.now (choices_for q) c.deref-number-items.result.now c.loop-number.number-index c.loop-number-test.true);
      shapes = c.in_ok-add_choices.ensures.shapes c.loop-number.invariant.shapes;
    }
