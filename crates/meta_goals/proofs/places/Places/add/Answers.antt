use Rattle.std.proofs.Common.{[], ◌∷◌, ◌++◌, ap, ◌∙◌, if◌then◌else◌}
use Rattle.std.specs.Prelude.{nat_eq}
use Rattle.std.specs.List.{list_any}
use Rattle.meta_goals.proofs.places.Places.add.Goals as goal

pub returns : goal.returns
returns c =
    let n = c.args.number in
    let keys = c.self.inside.numbers.keys in
    c.in_ok-insert_full.ensures.keys ∙ ap (λ b. if b then keys else keys ++ n ∷ []) (ap (list_any (nat_eq n)) c.self.view_is ∙ c.requires) ∙ ap (λ ns. ns ++ n ∷ []) c.self.view_is
