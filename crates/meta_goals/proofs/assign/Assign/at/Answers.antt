use Rattle.std.proofs.Common.{ap, ◌∙◌, sym, option_map, slice_get}
use Rattle.std.proofs.lemmas.Option.{slice_get-map}
use Rattle.meta_goals.specs.Entries.{binding_of}
use Rattle.meta_goals.proofs.assign.Assign.at.Goals as goal

pub returns-in-None : goal.returns-in-None
returns-in-None c =
    ap (option_map binding_of) c.in-None.ensures.entry ∙ sym (slice_get-map binding_of c.self.inside.entries.entries c.args.place) ∙ ap (λ l. slice_get l c.args.place) c.self.view_is

pub returns-in-Some : goal.returns-in-Some
returns-in-Some c =
    ap (option_map binding_of) c.in-Some.ensures.entry ∙ sym (slice_get-map binding_of c.self.inside.entries.entries c.args.place) ∙ ap (λ l. slice_get l c.args.place) c.self.view_is
