use Rattle.std.proofs.Common.{◌≡◌, ◌++◌, map, drop}
use Rattle.lf_terms.specs.Types.{type_of}
use Rattle.meta_openings.specs.Results.{opened_type_of}
use Rattle.applications.specs.Candidates.{argument_type}
use Rattle.build_shared.specs.Seen.{seen_atom}
use Rattle.build_forward.proofs.equations.premise_types.Given as goal

abbrev pub invariant-loop-i : goal.invariant-loop-i
invariant-loop-i l =
    let TypeOf = argument_type (type_of l.onward.ty.now) (opened_type_of l.opened) in
    map seen_atom l.types.items ++ map TypeOf (drop l.i l.premises) ≡ map TypeOf l.premises
