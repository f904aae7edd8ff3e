use Rattle.std.proofs.Common.{◌<◌, length, arith, sym, ap, ◌∙◌}
use Rattle.std.proofs.lemmas.List.{get_or_read}
use Rattle.std.proofs.lemmas.Result.{IfOk-weaker}
use Rattle.lf_definitions.specs.Renaming.{rename_type}
use Rattle.lf_terms.specs.Types.{type_of}
use Rattle.meta_openings.specs.Counts.{by_counts}
use Rattle.meta_openings.proofs.Counts.{seen_inside, seen_as_it_is}
use Rattle.meta_openings.proofs.entries.among_kept.Goals as goal

pub returns-then-index-count : goal.returns-then-index-count
returns-then-index-count c =
    let places = c.args.places.now in
    let count = c.args.count in
    let within : count < length places.before.items = omega (arith, c.requires.1.one_more) in
    let all = sym (c.requires.1.counted count (omega arith)) ∙ sym (get_or_read places.before.items count c.index.result.now within c.index.ensures 0) ∙ c.if-index-count.true in
    λ inside e. seen_as_it_is places.kept.now count all (type_of c.args.ty) inside e

pub returns : goal.returns
returns c =
    let places = c.args.places.now in
    let count = c.args.count in
    IfOk-weaker c.renamed_type.result _ _
    (λ r made inside e. seen_inside places.kept.now places.before.items count c.requires.1.counted (type_of c.args.ty) inside (type_of r)
    (made ∙ ap (λ b. rename_type (by_counts b count) (type_of c.args.ty)) c.as_slice.ensures.value) e)
    c.renamed_type.ensures
