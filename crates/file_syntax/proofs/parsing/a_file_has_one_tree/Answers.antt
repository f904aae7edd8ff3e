use Rattle.std.proofs.Common.{List, [], Option, None, Some, sym, ap, ◌∙◌}
use Rattle.file_trees.specs.declared.decl_tree.DeclTree.{DeclTree}
use Rattle.file_syntax.specs.declared.state.State.{State}
use Rattle.file_syntax.proofs.Derivations.{run-file}
use Rattle.file_syntax.proofs.parsing.a_file_has_one_tree.Goals as goal

abbrev declared : Option State → List DeclTree
declared None = []
declared (Some state) = state.decls

pub returns : goal.returns
returns c bytes tokens declarations other one two = ap declared (sym (run-file one.file) ∙ run-file two.file)
