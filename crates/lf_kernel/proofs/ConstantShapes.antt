-- The shapes of the binders of a constant's type are those that the signature keeps.
use Rattle.std.proofs.Common.{◌≡◌, ℕ, zero, suc, ◌<◌, Option, Some, option_map, List, [], ◌∷◌, length, get_or, sym, ap, ◌∙◌, arith}
use Rattle.lf_definitions.specs.Syntax.{LfHead, constant, SimpleType, LfType, arguments, shape_of, shapes_of_types}
use Rattle.lf_definitions.specs.Renaming.{next_by, rename_type}
use Rattle.lf_definitions.specs.Shaping.{shape_at}
use Rattle.lf_definitions.specs.Typing.{type_at, typed_globals}
use Rattle.lf_definitions.specs.Signatures.{LfSignature, constant_types}
use Rattle.lf_definitions.proofs.Telescopes.{arguments-arrows}
use Rattle.lf_definitions.proofs.Types.{shape_of-rename_type}
use Rattle.lf_definitions.proofs.Typing.{shape_of-pis}
use Rattle.lf_definitions.proofs.ShapedGoals.{shapes_of-typing_in}
use Rattle.lf_terms.specs.declared.shape.Shape.{Shape}
use Rattle.lf_terms.specs.Shapes.{simple_type_of, simple_types_of}
use Rattle.lf_terms.proofs.ShapeLists.{length-simple_types_of, shape_at-simple_types_of}
use Rattle.lf_kernel.specs.declared.head_type.HeadType.{HeadType}
use Rattle.lf_kernel.specs.declared.place.Place.{Place}
use Rattle.lf_kernel.specs.Heads.{typing_of, declared_type, seen_type}
use Rattle.lf_kernel.proofs.Heads.{typing_under-constant}

-- the type of a head that is a constant
pub known_of_constant : (p : Place) (h : LfHead) (c : ℕ) (found : HeadType) → seen_type (Some found) ≡ typing_of p h → h ≡ constant c → seen_type (Some found) ≡ type_at (constant_types p.sig.now) c
known_of_constant p h c found known is = known ∙ ap (typing_of p) is ∙ typing_under-constant p.scope.now (typed_globals (constant_types p.sig.now) p.metas.now) c

within : (types : List LfType) (c : ℕ) (a : LfType) → ◌≡◌ {A = Option LfType} (Some a) (type_at types c) → c < length (shapes_of_types types)
within [] c a e = absurd cc
within (b ∷ types) zero a e = omega arith
within (b ∷ types) (suc c) a e = omega (arith, within types c a e)

-- the type of a constant, and the shapes of all constants as the code reads them
module _ (sig : LfSignature) (found : HeadType) (c : ℕ) (known : seen_type (Some found) ≡ type_at (constant_types sig) c) (kept : List Shape) (are : simple_types_of kept ≡ shapes_of_types (constant_types sig)) where
  pub constant_within : c < length kept
  constant_within = omega (arith, within (constant_types sig) c (rename_type (next_by found.raise) (declared_type found)) known, ap length are, length-simple_types_of kept)

  pub constant_shapes : (s : Shape) → s ≡ get_or kept c s → (get_or kept c s).args ≡ shapes_of_types found.binders.now
  constant_shapes s is =
      let seen = rename_type (next_by found.raise) (declared_type found) in
      let read : shape_at (shapes_of_types (constant_types sig)) c ≡ Some (simple_type_of s) = ap (λ ss. shape_at ss c) (sym are) ∙ shape_at-simple_types_of kept c s constant_within is in
      let of_type : ◌≡◌ {A = Option SimpleType} (Some (shape_of seen)) (shape_at (shapes_of_types (constant_types sig)) c) =
      ap (option_map shape_of) known ∙ ap (λ Γ. Γ (constant c)) (shapes_of-typing_in sig [] []) in
      let same : simple_type_of s ≡ shape_of seen = cc in
      ap (λ (x : Shape). x.args) (sym is) ∙ sym (arguments-arrows s.args) ∙ ap arguments (same ∙ shape_of-rename_type (declared_type found) (next_by found.raise) ∙ shape_of-pis found.binders.now found.family found.args.now)
      ∙ arguments-arrows (shapes_of_types found.binders.now)
