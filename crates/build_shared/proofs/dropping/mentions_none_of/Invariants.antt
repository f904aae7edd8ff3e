use Rattle.std.proofs.Common.{◌≡◌, take}
use Rattle.std.specs.Prelude.{true, not}
use Rattle.std.specs.List.{list_all}
use Rattle.head_laws.specs.Mentions.{occurs_in_type}
use Rattle.lf_terms.specs.Types.{type_of}
use Rattle.opening_laws.specs.Openings.{context_variable}
use Rattle.build_shared.proofs.dropping.mentions_none_of.Given as goal

abbrev pub invariant-loop-i : goal.invariant-loop-i
invariant-loop-i l = list_all (λ place. not (occurs_in_type (context_variable l.count place) (type_of l.ty))) (take l.i l.places) ≡ true
