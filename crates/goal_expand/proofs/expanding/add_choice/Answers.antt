use Rattle.std.proofs.Common.{◌∙◌}
use Rattle.goal_expand.specs.Progress.{list_given, as_taken}
use Rattle.goal_book.specs.Choices.{seen_choice}
use Rattle.goal_expand.proofs.Found.{more_seen, more_shaped, choice_is_taken}
use Rattle.goal_expand.proofs.expanding.add_choice.Goals as goal

pub returns : goal.returns
returns c =
    let g = c.args.given.now in
    let p = c.args.made.now in
    let old = c.args.found.now.items in
    let a = c.in_ok-next.next in
    record {
      alternatives = more_seen old c.push.new.self.items a (as_taken g p (seen_choice c.args.choice)) c.in_ok-push.ensures.items
          (c.in_ok-next.ensures.alternative ∙ choice_is_taken g p c.args.choice c.in_ok-norm.norm.items c.chosen_as-taken.result (c.in_ok-norm.ensures ∙ c.as_slice.ensures.value) c.chosen_as-taken.ensures);
      shapes = more_shaped (list_given g) old c.push.new.self.items a c.in_ok-push.ensures.items c.in_ok-next.ensures.shapes;
    }
