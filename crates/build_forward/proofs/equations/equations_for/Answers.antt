use Rattle.std.proofs.Common.{map, sym, ap, ◌∙◌, arith}
use Rattle.lf_terms.specs.Types.{type_of}
use Rattle.meta_openings.specs.Results.{opened_type_of}
use Rattle.applications.specs.Candidates.{premises_from}
use Rattle.build_shared.specs.Seen.{seen_atom, seen_hypothesis}
use Rattle.build_forward.specs.Onwards.{equations_between}
use Rattle.build_forward.proofs.PremisePlaces.{as_many}
use Rattle.build_forward.proofs.SameArguments.{are_between}
use Rattle.build_forward.proofs.equations.equations_for.Goals as goal

pub equations_between-requires : goal.equations_between-requires
equations_between-requires c =
    let are = ap (map seen_atom) c.as_slice.ensures.value ∙ c.in_ok-premises.ensures in
    let many = as_many c.args.onward.now c.requires.onward c.as_slice.result.now (opened_type_of c.args.opened.now) are in
    omega (arith, c.requires.few, many)

pub returns : goal.returns
returns c =
    let type = type_of c.args.onward.now.ty.now in
    let hs = map seen_hypothesis c.args.chosen.now in
    let are = ap (map seen_atom) c.as_slice.ensures.value ∙ c.in_ok-premises.ensures in
    c.in_ok-equations.ensures ∙ ap (λ atoms. equations_between atoms hs) are ∙ sym (are_between type (opened_type_of c.args.opened.now) (premises_from 0 type) hs)
