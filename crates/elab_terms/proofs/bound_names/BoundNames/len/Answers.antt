use Rattle.std.proofs.Common.{length, ap, arith}
use Rattle.elab_terms.proofs.BinderLevels.{bound_count}
use Rattle.elab_terms.proofs.bound_names.BoundNames.len.Goals as goal

pub returns : goal.returns
returns c = let binders = c.self.inside.binders in omega (arith, c.len.ensures, binders.ok.0, bound_count c.self.inside.names binders.items, ap length c.self.view_is)
