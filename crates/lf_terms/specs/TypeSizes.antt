-- Each part of a type is smaller than the type.
use Rattle.std.specs.Prelude.{ℕ, ◌<◌, ◌≤◌, List, [], ◌∷◌, Option, Some, None, Vec}
use Rattle.std.proofs.Common.{arith}
use Rattle.std.specs.Global.{Global}
use Rattle.std.specs.declared.sync.Arc.{Arc}
use denote.Param.Weighed.{most}
use Rattle.lf_definitions.specs.Syntax.{LfType, family, Spine, pis, type_size, types_size}
use Rattle.lf_terms.specs.declared.extent.Extent.{Extent}
use Rattle.lf_terms.specs.declared.ty.Ty.{Ty}
use Rattle.lf_terms.specs.declared.ty.Tys.TheInside as types
use Rattle.lf_terms.specs.declared.ty.Tys.TheDeep.{deep-Ty, deep-Tys}
use Rattle.lf_terms.specs.Types.{types_of, kept_types}

pub binders_size : (rest : List LfType) (f : ℕ) (args : Spine) → types_size rest ≤ type_size (pis rest (family f args))
binders_size [] f args = omega arith
binders_size (a ∷ rest) f args = omega (arith, binders_size rest f args)

pub some_size : (rest : List LfType) → 0 < types_size rest
some_size [] = omega arith
some_size (a ∷ rest) = omega arith

items_fall : (ts : List Ty) → most deep-Ty ts ≤ types_size (types_of ts)
items_fall [] = omega arith
items_fall (t ∷ ts) = omega (arith, items_fall ts, some_size (types_of ts), binders_size t.binders t.family t.args)

kept_fall : (o : Option (Arc (Vec Ty Global) Global)) (e : Extent) → deep-Tys (record { items = o; extent = e }) ≤ types_size (kept_types o)
kept_fall None e = omega arith
kept_fall (Some a) e = omega (arith, items_fall a.value.items)

pub types_fall : (a : types.Inside) → deep-Tys a ≤ types_size (kept_types a.items)
types_fall a = kept_fall a.items a.extent
