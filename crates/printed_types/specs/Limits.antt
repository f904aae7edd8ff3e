-- The limit of the language on the binders of a type.
use Rattle.std.specs.Prelude.{ℕ, suc, ◌<◌}
use Rattle.basics.specs.Limits.{most_binders}
use Rattle.lf_definitions.specs.Syntax.{LfType, pi, family}

-- No type within the type, itself included, has more than 1,000 binders; `count` of its own stand before.
abbrev pub HasFewBinders : ℕ → LfType → Type 0
HasFewBinders count (pi a b) = (count < most_binders) × HasFewBinders 0 a × HasFewBinders (suc count) b
HasFewBinders count (family f args) = Unit {0}
