use Rattle.std.proofs.Common.{◌∙◌, subst}
use Rattle.lf_definitions.specs.Signatures.{FormedSignature}
use Rattle.goal_expand.specs.declared.given.Given.{Given}
use Rattle.goal_expand.proofs.Books.{is_given}
use Rattle.goal_expand.proofs.Ended.{closed_alternatives, is_reached, open_alternatives}
use Rattle.goal_expand.proofs.expanding.alternatives.Goals as goal

pub normalised-requires : goal.normalised-requires
normalised-requires c =
    let g : Given = record { alloc = c.args.alloc; book = c.args.book; goals = c.args.goals; first = c.in_ok-first.first } in
    is_given g c.is_formed.ensures (subst FormedSignature c.sig.ensures c.is_formed-2.ensures) c.requires c.in_ok-first.ensures

pub expanded-requires : goal.expanded-requires
expanded-requires c =
    let g : Given = record { alloc = c.args.alloc; book = c.args.book; goals = c.args.goals; first = c.in_ok-first.first } in
    let given = is_given g c.is_formed.ensures (subst FormedSignature c.sig.ensures c.is_formed-2.ensures) c.requires c.in_ok-first.ensures in
    record { given = given; reached = is_reached g given c.in_ok-made.made c.in_ok-made.ensures c.if-closed.false }

pub returns-then-closed : goal.returns-then-closed
returns-then-closed c =
    let g : Given = record { alloc = c.args.alloc; book = c.args.book; goals = c.args.goals; first = c.in_ok-first.first } in
    let given = is_given g c.is_formed.ensures (subst FormedSignature c.sig.ensures c.is_formed-2.ensures) c.requires c.in_ok-first.ensures in
    record {
      alternatives = c.in_ok-only.ensures.alternatives ∙ closed_alternatives g given c.in_ok-made.made c.in_ok-made.ensures c.if-closed.true;
      shapes = c.in_ok-only.ensures.shapes c.in_ok-made.ensures.1;
    }

pub returns : goal.returns
returns c =
    let g : Given = record { alloc = c.args.alloc; book = c.args.book; goals = c.args.goals; first = c.in_ok-first.first } in
    let given = is_given g c.is_formed.ensures (subst FormedSignature c.sig.ensures c.is_formed-2.ensures) c.requires c.in_ok-first.ensures in
    record {
      alternatives = c.in_ok-found.ensures.alternatives ∙ open_alternatives g given c.in_ok-made.made c.in_ok-made.ensures c.if-closed.false;
      shapes = c.in_ok-found.ensures.shapes;
    }
