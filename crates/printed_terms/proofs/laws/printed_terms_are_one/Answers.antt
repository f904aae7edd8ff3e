use Rattle.printed_terms.proofs.SameTexts.{terms_apart, terms_one}
use Rattle.printed_terms.proofs.laws.printed_terms_are_one.Goals as goal

pub returns-clause-same : goal.returns-clause-same
returns-clause-same c sig depth t u formed named first second fits e = terms_one sig depth t u formed named first second fits e

pub returns-clause-parts : goal.returns-clause-parts
returns-clause-parts c sig depth t u rest left formed named first second fits ends end e = terms_apart sig depth t u rest left formed named first second fits ends end e
