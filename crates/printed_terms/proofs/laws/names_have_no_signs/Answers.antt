use Rattle.printed_terms.proofs.NameTexts.{name_bytes, no_signs}
use Rattle.printed_terms.proofs.laws.names_have_no_signs.Goals as goal

pub returns-clause-bytes : goal.returns-clause-bytes
returns-clause-bytes c name is = name_bytes name is

pub returns-clause-signs : goal.returns-clause-signs
returns-clause-signs c name is = no_signs name is
