use Rattle.std.proofs.Common.{◌≡◌, drop}
use Rattle.lf_definitions.specs.Shaping.{shape_of_metavariable}
use Rattle.lf_terms.specs.Shapes.{metas_of}
use Rattle.lf_terms.proofs.shaped.shape_of_metavariable.Given as goal

abbrev pub invariant-loop-meta : goal.invariant-loop-meta
invariant-loop-meta l = shape_of_metavariable (metas_of (drop l.meta-index l.items)) l.goal ≡ shape_of_metavariable l.metas l.goal
