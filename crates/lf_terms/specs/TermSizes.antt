-- Each part of a term is smaller than the term.
use Rattle.std.specs.Prelude.{◌≤◌, List, [], ◌∷◌}
use Rattle.std.proofs.Common.{arith}
use denote.Param.Weighed.{most}
use Rattle.lf_definitions.specs.Syntax.{term_size, spine_size}
use Rattle.lf_terms.specs.declared.extent.Extent.{Extent}
use Rattle.lf_terms.specs.declared.term.Term.{Term}
use Rattle.lf_terms.specs.declared.term.Term.TheVariants.{Lam, At}
use Rattle.lf_terms.specs.declared.term.Kept.{Kept}
use Rattle.lf_terms.specs.declared.term.Kept.TheVariants.{Empty, One, Two, More}
use Rattle.lf_terms.specs.declared.term.Body.TheInside as body
use Rattle.lf_terms.specs.declared.term.Terms.TheInside as terms
use Rattle.lf_terms.specs.declared.term.Body.TheDeep.{deep-Body, deep-Term, deep-Terms}
use Rattle.lf_terms.specs.Terms.{term_of, spine_of, kept_spine}

part_falls : (t : Term) → deep-Term t ≤ term_size (term_of t)
part_falls (Lam b) = omega arith
part_falls (At h ts) = omega arith

items_fall : (ts : List Term) → most deep-Term ts ≤ spine_size (spine_of ts)
items_fall [] = omega arith
items_fall (t ∷ ts) = omega (arith, part_falls t, items_fall ts)

pub body_falls : (a : body.Inside) → deep-Body a ≤ term_size (term_of a.inner.value)
body_falls a = omega (arith, part_falls a.inner.value)

kept_fall : (o : Kept) (e : Extent) → deep-Terms (record { items = o; extent = e }) ≤ spine_size (kept_spine o)
kept_fall Empty e = omega arith
kept_fall (One a) e = omega (arith, items_fall a.value)
kept_fall (Two a) e = omega (arith, items_fall a.value)
kept_fall (More a) e = omega (arith, items_fall a.value.items)

pub terms_fall : (a : terms.Inside) → deep-Terms a ≤ spine_size (kept_spine a.items)
terms_fall a = kept_fall a.items a.extent
