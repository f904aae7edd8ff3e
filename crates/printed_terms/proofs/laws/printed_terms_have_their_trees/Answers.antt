use Rattle.printed_tokens.proofs.Spelling.{term_tokens}
use Rattle.printed_trees.proofs.Parsing.{term_printed}
use Rattle.printed_terms.proofs.laws.printed_terms_have_their_trees.Goals as goal

pub returns : goal.returns
returns c sig depth t named printable = (term_tokens sig depth t named printable, term_printed sig depth t named printable)
