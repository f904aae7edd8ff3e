use Rattle.std.proofs.Common.{ap, ◌∙◌}
use Rattle.head_laws.specs.Renumbering.{place_of_number}
use Rattle.meta_goals.proofs.NumberPlaces.{place_when_found, place_when_absent}
use Rattle.meta_goals.proofs.places.Places.find.Goals as goal

pub returns-in-None : goal.returns-in-None
returns-in-None c = c.len.ensures.len ∙ place_when_absent c.self.inside.numbers.keys c.args.number c.in-None.ensures.index ∙ ap (λ ns. place_of_number ns c.args.number) c.self.view_is

pub returns-in-Some : goal.returns-in-Some
returns-in-Some c = place_when_found c.self.inside.numbers.keys c.args.number c.in-Some.place c.in-Some.ensures.index ∙ ap (λ ns. place_of_number ns c.args.number) c.self.view_is
