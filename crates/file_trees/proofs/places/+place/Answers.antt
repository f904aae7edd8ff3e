use Rattle.std.proofs.Common.{arith}
use Rattle.file_trees.proofs.Heads.{head_falls}
use Rattle.file_trees.proofs.places.+place.Goals as goal

-- the head of an application is smaller than the application
pub place-requires : goal.place-requires
place-requires t c =
    (omega (arith, c.decreases, head_falls c.args.t.now c.in-App.head c.in-App.field-1 c.term.result.now c.in-App.is c.term.ensures), tt)
