-- The types of heads at a place.
use Rattle.std.specs.Prelude.{List, Option, option_map}
use Rattle.lf_definitions.specs.Syntax.{LfType, family, pis}
use Rattle.lf_definitions.specs.Renaming.{next_by, rename_type}
use Rattle.lf_definitions.specs.Typing.{Typing, LfGoal, typed_globals}
use Rattle.lf_definitions.specs.Signatures.{LfSignature, constant_types}
use Rattle.lf_kernel.specs.declared.head_type.HeadType.{HeadType}
use Rattle.lf_kernel.specs.declared.local_context.LocalContext.{LocalContext}
use Rattle.lf_kernel.specs.declared.place.Place.{Place}
use Rattle.lf_kernel.specs.LocalContexts.{typing_under}

-- the types of all heads
abbrev pub typing_at : LfSignature → List LfGoal → LocalContext → Typing
typing_at sig goals scope = typing_under (typed_globals (constant_types sig) goals) scope

abbrev pub typing_of : Place → Typing
typing_of p = typing_at p.sig.now p.metas.now p.scope.now

-- the type as it stands where the head is declared
abbrev pub declared_type : HeadType → LfType
declared_type h = pis h.binders.now (family h.family h.args.now)

-- and as it is seen from the place
abbrev pub seen_type : Option HeadType → Option LfType
seen_type found = option_map (λ h. rename_type (next_by h.raise) (declared_type h)) found
