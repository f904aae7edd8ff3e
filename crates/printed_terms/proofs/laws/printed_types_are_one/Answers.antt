use Rattle.printed_terms.proofs.SameTypes.{types_one}
use Rattle.printed_terms.proofs.laws.printed_types_are_one.Goals as goal

pub returns : goal.returns
returns c sig depth a b formed named first second fits e = types_one sig depth a b formed named first second fits e
