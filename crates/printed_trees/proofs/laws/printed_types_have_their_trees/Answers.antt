use Rattle.printed_trees.proofs.Parsing.{tree_printed}
use Rattle.printed_trees.proofs.laws.printed_types_have_their_trees.Goals as goal

pub returns : goal.returns
returns c sig a named printable = tree_printed sig a named printable
