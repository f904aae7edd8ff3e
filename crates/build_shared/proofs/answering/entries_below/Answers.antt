use Rattle.std.proofs.Common.{◌++◌, sym, ap, ◌∙◌, subst}
use Rattle.build_shared.specs.Whole.{bindings_below}
use Rattle.build_shared.proofs.BindingLists.{HaveDifferentNumbers}
use Rattle.build_shared.proofs.answering.entries_below.Goals as goal

pub add_below-requires : goal.add_below-requires
add_below-requires c = subst (λ l. HaveDifferentNumbers (l ++ c.args.entries.now)) (sym c.new-below.ensures) c.requires

pub returns : goal.returns
returns c = c.in_ok-add_below.ensures ∙ ap (λ l. l ++ bindings_below c.args.first c.args.entries.now) c.new-below.ensures
