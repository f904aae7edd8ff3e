-- Whether a goal that is bound is mentioned, as truth values.
use Rattle.std.specs.Prelude.{List, Bool, false, ◌||◌, is_some}
use Rattle.lf_definitions.specs.Syntax.{LfHead, bound, constant, metavariable, LfTerm, lam, at, Spine, no_args, arg}
use Rattle.meta_goals.specs.Bindings.{LfBinding, binding_for}

abbrev pub is_bound : List LfBinding → LfHead → Bool
is_bound bindings (bound n) = false
is_bound bindings (constant c) = false
is_bound bindings (metavariable g) = is_some (binding_for bindings g)

abbrev mutual
  pub mentions_bound : List LfBinding → LfTerm → Bool
  mentions_bound bindings (lam b) = mentions_bound bindings b
  mentions_bound bindings (at h ts) = is_bound bindings h || mentions_bound_among bindings ts

  pub mentions_bound_among : List LfBinding → Spine → Bool
  mentions_bound_among bindings no_args = false
  mentions_bound_among bindings (arg t ts) = mentions_bound bindings t || mentions_bound_among bindings ts
