use Rattle.printed_terms.proofs.TermLines.{terms_are_lines}
use Rattle.printed_terms.proofs.laws.printed_terms_are_lines.Goals as goal

pub returns : goal.returns
returns c sig depth t named printable = terms_are_lines sig depth t named printable
