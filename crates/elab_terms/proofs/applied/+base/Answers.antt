use Rattle.std.proofs.Common.{arith, sym, ap, ◌∙◌}
use Rattle.file_trees.specs.Trees.{head}
use Rattle.file_trees.specs.TermViews.{tree_of}
use Rattle.file_trees.proofs.Heads.{head_falls}
use Rattle.elab_terms.specs.Applied.{base_of}
use Rattle.elab_terms.proofs.Applications.{base_of-apply_all}
use Rattle.elab_terms.proofs.applied.+base.Goals as goal

pub base-requires : goal.base-requires
base-requires t c = (omega (arith, c.decreases, head_falls c.args.tree.now c.in-App.head c.in-App.field-1 c.term.result.now c.in-App.is c.term.ensures), tt)

pub returns-in-App : goal.returns-in-App
returns-in-App t c =
    c.base.ensures ∙ ap base_of c.term.ensures ∙ sym (base_of-apply_all (head c.in-App.head) c.in-App.field-1) ∙ ap (λ x. base_of (tree_of x)) (sym c.in-App.is)
