use Rattle.binder_marks.proofs.BinderPlaces.{mentions_occur}
use Rattle.binder_marks.proofs.laws.mentions_say_what_occurs.Goals as goal

pub returns : goal.returns
returns c = mentions_occur
