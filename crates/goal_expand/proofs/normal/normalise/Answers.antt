use Rattle.std.proofs.Common.{subst}
use Rattle.lf_definitions.specs.Signatures.{FormedSignature}
use Rattle.goal_expand.specs.declared.given.Given.{Given}
use Rattle.goal_expand.proofs.Books.{is_given}
use Rattle.goal_expand.proofs.Ended.{is_normed, has_shapes}
use Rattle.goal_expand.proofs.normal.normalise.Goals as goal

pub normalised-requires : goal.normalised-requires
normalised-requires c =
    let g : Given = record { alloc = c.args.alloc; book = c.args.book; goals = c.args.goals; first = c.in_ok-first.first } in
    is_given g c.is_formed.ensures (subst FormedSignature c.sig.ensures c.is_formed-2.ensures) c.requires c.in_ok-first.ensures

pub returns : goal.returns
returns c =
    let g : Given = record { alloc = c.args.alloc; book = c.args.book; goals = c.args.goals; first = c.in_ok-first.first } in
    let given = is_given g c.is_formed.ensures (subst FormedSignature c.sig.ensures c.is_formed-2.ensures) c.requires c.in_ok-first.ensures in
    record {
      normal = is_normed g given c.in_ok-made.made c.in_ok-made.ensures c.in_ok-normed.normed c.in_ok-normed.ensures;
      shapes = has_shapes g given c.in_ok-made.made c.in_ok-made.ensures c.in_ok-normed.normed c.in_ok-normed.ensures;
    }
