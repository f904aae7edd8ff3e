use Rattle.std.proofs.Common.{sym, ap, ◌∙◌, option_map}
use Rattle.meta_goals.specs.Bindings.{binding_for}
use Rattle.meta_goals.specs.Entries.{binding_of}
use Rattle.meta_goals.proofs.BindingTables.{binding_for-lookup}
use Rattle.meta_goals.proofs.assign.Assign.find.Goals as goal

pub returns : goal.returns
returns c =
    ap (option_map (λ entry. binding_of (c.args.id, entry))) c.get.ensures.value ∙ sym (binding_for-lookup c.args.id c.self.inside.entries.entries) ∙ ap (λ l. binding_for l c.args.id) c.self.view_is
