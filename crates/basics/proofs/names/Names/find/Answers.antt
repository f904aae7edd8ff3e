use Rattle.basics.proofs.Tables.{place_of-shown}
use Rattle.basics.proofs.names.Names.find.Goals as goal

pub returns-in-None : goal.returns-in-None
returns-in-None c = place_of-shown _ _ _ _ c.self.view_is c.in-None.ensures.index

pub returns-in-Some : goal.returns-in-Some
returns-in-Some c = place_of-shown _ _ _ _ c.self.view_is c.in-Some.ensures.index
