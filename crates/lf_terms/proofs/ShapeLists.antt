-- Lists of shapes and the simple types that they are.
use Rattle.std.proofs.Common.{◌≡◌, ℕ, zero, suc, ◌+◌, ◌<◌, List, [], ◌∷◌, ◌++◌, length, get_or, take, Option, Some, Vec, refl, sym, ap, ap₂, ◌∙◌, arith}
use Rattle.std.specs.Global.{Global}
use Rattle.std.specs.declared.sync.Arc.{Arc}
use Rattle.std.proofs.lemmas.List.{take_more}
use Rattle.lf_definitions.specs.Syntax.{SimpleType, shape_of, shapes_of_types, shape_size, shapes_size}
use Rattle.lf_definitions.specs.Shaping.{shape_at}
use Rattle.lf_terms.specs.declared.shape.Shape.{Shape}
use Rattle.lf_terms.specs.Shapes.{simple_type_of, simple_types_of, kept_shapes}
use Rattle.lf_terms.specs.declared.ty.Ty.{Ty}
use Rattle.lf_terms.specs.Types.{type_of, types_of}

pub length-simple_types_of : (ss : List Shape) → length (simple_types_of ss) ≡ length ss
length-simple_types_of [] = refl
length-simple_types_of (s ∷ ss) = ap suc (length-simple_types_of ss)

pub ruleset lengths = (length-simple_types_of)

-- the item read at a place ends the list up to it
pub take_read : {X : Type 0} → (xs : List X) (i : ℕ) (x : X) → i < length xs → x ≡ get_or xs i x → take (i + 1) xs ≡ take i xs ++ x ∷ []
take_read xs i x within is = take_more xs i x within ∙ ap (λ y. take i xs ++ y ∷ []) (sym is)

pub simple_types_of-append : (ss : List Shape) (s : Shape) → simple_types_of (ss ++ s ∷ []) ≡ simple_types_of ss ++ simple_type_of s ∷ []
simple_types_of-append [] s = refl
simple_types_of-append (r ∷ ss) s = ap (λ l. simple_type_of r ∷ l) (simple_types_of-append ss s)

-- one more shape, equal to the one read at a place
pub shape_read : (xs ss new : List Shape) (i : ℕ) (x s : Shape) → i < length xs → x ≡ get_or xs i x → new ≡ ss ++ s ∷ [] →
    simple_types_of ss ≡ simple_types_of (take i xs) → simple_type_of s ≡ simple_type_of x → simple_types_of new ≡ simple_types_of (take (i + 1) xs)
shape_read xs ss new i x s within is pushed before here =
    ap simple_types_of pushed ∙ simple_types_of-append ss s ∙ ap₂ (λ l r. l ++ r ∷ []) before here
    ∙ sym (simple_types_of-append (take i xs) x) ∙ ap simple_types_of (sym (take_read xs i x within is))

-- one more shape in a list that is known
pub push_in_copy : (ss new : List Shape) (s : Shape) (now : List SimpleType) → simple_types_of ss ≡ now → new ≡ ss ++ s ∷ [] → simple_types_of new ≡ now ++ simple_type_of s ∷ []
push_in_copy ss new s now are pushed = ap simple_types_of pushed ∙ simple_types_of-append ss s ∙ ap (λ l. l ++ simple_type_of s ∷ []) are

pub push_in_block : (o : Option (Arc (Vec Shape Global) Global)) (block : Arc (Vec Shape Global) Global) (before after : Vec Shape Global) (s : Shape) (now : List SimpleType) →
    kept_shapes o ≡ now → o ≡ Some block → before ≡ block.value → after.items ≡ before.items ++ s ∷ [] → simple_types_of after.items ≡ now ++ simple_type_of s ∷ []
push_in_block o block before after s now view is lent pushed =
    push_in_copy before.items after.items s now (ap (λ v. simple_types_of v.items) lent ∙ ap kept_shapes (sym is) ∙ view) pushed

shapes_of_types-append : (ts : List Ty) (t : Ty) → shapes_of_types (types_of (ts ++ t ∷ [])) ≡ shapes_of_types (types_of ts) ++ shape_of (type_of t) ∷ []
shapes_of_types-append [] t = refl
shapes_of_types-append (r ∷ ts) t = ap (λ l. shape_of (type_of r) ∷ l) (shapes_of_types-append ts t)

-- one more shape, of the type read at a place
pub shape_more : (ts : List Ty) (ss new : List Shape) (i : ℕ) (t : Ty) (s : Shape) → i < length ts → t ≡ get_or ts i t → new ≡ ss ++ s ∷ [] →
    simple_types_of ss ≡ shapes_of_types (types_of (take i ts)) → simple_type_of s ≡ shape_of (type_of t) →
    simple_types_of new ≡ shapes_of_types (types_of (take (i + 1) ts))
shape_more ts ss new i t s within is pushed before here =
    ap simple_types_of pushed ∙ simple_types_of-append ss s ∙ ap₂ (λ l r. l ++ r ∷ []) before here
    ∙ sym (shapes_of_types-append (take i ts) t) ∙ ap (λ l. shapes_of_types (types_of l)) (sym (take_read ts i t within is))

pub item_size : (ss : List Shape) (i : ℕ) (s : Shape) → i < length ss → s ≡ get_or ss i s → shape_size (simple_type_of s) < shapes_size (simple_types_of ss)
item_size [] i s within is = absurd (omega arith)
item_size (r ∷ ss) zero s within is = omega (arith, ap (λ x. shape_size (simple_type_of x)) is)
item_size (r ∷ ss) (suc i) s within is = omega (arith, item_size ss i s (omega arith) is)

pub shape_at-simple_types_of : (ss : List Shape) (i : ℕ) (s : Shape) → i < length ss → s ≡ get_or ss i s → shape_at (simple_types_of ss) i ≡ Some (simple_type_of s)
shape_at-simple_types_of [] i s within is = absurd (omega arith)
shape_at-simple_types_of (r ∷ ss) zero s within is = ap (λ x. Some (simple_type_of x)) (sym is)
shape_at-simple_types_of (r ∷ ss) (suc i) s within is = shape_at-simple_types_of ss i s (omega arith) is
