use Rattle.std.proofs.Common.{◌≡◌, Some, length, sym, ap, ◌∙◌, subst₂, arith}
use Rattle.basics.specs.Places.{place_of}
use Rattle.elab_terms.specs.Binding.{AddsName, name_occurred, name_is_new}
use Rattle.elab_terms.proofs.GrowingNames.{place_last}
use Rattle.elab_terms.proofs.bound_names.place_in.Goals as goal

pub returns-in-Some-clause-adds : goal.returns-in-Some-clause-adds
returns-in-Some-clause-adds c = name_occurred

pub returns-in-Ok-clause-place : goal.returns-in-Ok-clause-place
returns-in-Ok-clause-place c =
    let a = c.args in
    let last : length a.names.now ≡ c.len-place.result = omega (arith, c.len-place.ensures, a.levels.now.ok.0, c.requires) in
    ap (λ names. place_of names a.name.now) c.in-Ok.ensures.ok ∙ place_last a.names.now a.name.now (sym c.find.ensures ∙ c.in_default.is) ∙ ap Some last

pub returns-in-Ok-clause-adds : goal.returns-in-Ok-clause-adds
returns-in-Ok-clause-adds c =
    let a = c.args in
    subst₂ (AddsName a.name.now a.names.now a.levels.now.items) (sym c.in-Ok.ensures.ok) (sym c.in_ok-push.ensures.items) (name_is_new (sym c.find.ensures ∙ c.in_default.is))
