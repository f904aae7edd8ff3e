-- Lists of types as plain data.
use Rattle.std.proofs.Common.{◌≡◌, ℕ, zero, suc, ◌+◌, ◌<◌, List, [], ◌∷◌, ◌++◌, length, get_or, take, drop, Some, refl, sym, ap, ap₂, ◌∙◌, arith}
use Rattle.lf_terms.specs.declared.ty.Ty.{Ty}
use Rattle.lf_terms.specs.Types.{type_of, types_of}
use Rattle.lf_terms.specs.TypeSizes.{some_size}
use Rattle.lf_terms.proofs.ShapeLists.{take_read}
use Rattle.lf_definitions.specs.Syntax.{LfType, pi, family, pis, Spine, type_size, types_size}
use Rattle.lf_definitions.specs.Typing.{type_at}
use Rattle.lf_definitions.proofs.Options.{Some-Some}

pub length-types_of : (ts : List Ty) → length (types_of ts) ≡ length ts
length-types_of [] = refl
length-types_of (t ∷ ts) = ap suc (length-types_of ts)

pub ruleset lengths = (length-types_of)

pub item_size : (ts : List Ty) (i : ℕ) (t : Ty) → i < length ts → t ≡ get_or ts i t → type_size (type_of t) + 1 < types_size (types_of ts)
item_size [] i t within is = absurd (omega arith)
item_size (u ∷ ts) zero t within is = omega (arith, ap (λ x. type_size (type_of x)) is, some_size (types_of ts))
item_size (u ∷ ts) (suc i) t within is = omega (arith, item_size ts i t (omega arith) is)

pub types_of-append : (ts : List Ty) (t : Ty) → types_of (ts ++ t ∷ []) ≡ types_of ts ++ type_of t ∷ []
types_of-append [] t = refl
types_of-append (u ∷ ts) t = ap (λ l. type_of u ∷ l) (types_of-append ts t)

-- the types before a place, with the one read there
pub types_of-take_more : (ts : List Ty) (i : ℕ) (t : Ty) → i < length ts → t ≡ get_or ts i t → types_of (take (i + 1) ts) ≡ types_of (take i ts) ++ type_of t ∷ []
types_of-take_more ts i t within is = ap types_of (take_read ts i t within is) ∙ types_of-append (take i ts) t

-- the types from a place on begin with the one read there
pub types_of-drop : (ts : List Ty) (i : ℕ) (t : Ty) → i < length ts → t ≡ get_or ts i t → types_of (drop i ts) ≡ type_of t ∷ types_of (drop (suc i) ts)
types_of-drop [] i t within is = absurd (omega arith)
types_of-drop (u ∷ ts) zero t within is = ap (λ x. type_of x ∷ types_of ts) (sym is)
types_of-drop (u ∷ ts) (suc i) t within is = types_of-drop ts i t (omega arith) is

type_at-types_of : (ts : List Ty) (i : ℕ) (t : Ty) → i < length ts → t ≡ get_or ts i t → type_at (types_of ts) i ≡ Some (type_of t)
type_at-types_of [] i t within is = absurd (omega arith)
type_at-types_of (u ∷ ts) zero t within is = ap (λ x. Some (type_of x)) (sym is)
type_at-types_of (u ∷ ts) (suc i) t within is = type_at-types_of ts i t (omega arith) is

pub same_types_more : (xs ys : List Ty) (i : ℕ) (x y : Ty) → i < length xs → length xs ≡ length ys → x ≡ get_or xs i x → y ≡ get_or ys i y →
    types_of (take i xs) ≡ types_of (take i ys) → type_of x ≡ type_of y → types_of (take (i + 1) xs) ≡ types_of (take (i + 1) ys)
same_types_more xs ys i x y within lengths x_is y_is before here =
    types_of-take_more xs i x within x_is ∙ ap₂ (λ l t. l ++ t ∷ []) before here ∙ sym (types_of-take_more ys i y (omega arith) y_is)

pub same_type_at : (xs ys : List Ty) (i : ℕ) (x y : Ty) → i < length xs → length xs ≡ length ys → x ≡ get_or xs i x → y ≡ get_or ys i y →
    types_of xs ≡ types_of ys → type_of x ≡ type_of y
same_type_at xs ys i x y within lengths x_is y_is e =
    Some-Some (sym (type_at-types_of xs i x within x_is) ∙ ap (λ l. type_at l i) e ∙ type_at-types_of ys i y (omega arith) y_is)

pub length_of_types : (xs ys : List Ty) → types_of xs ≡ types_of ys → length xs ≡ length ys
length_of_types xs ys e = sym (length-types_of xs) ∙ ap length e ∙ length-types_of ys

-- equal types have equal binders, families and arguments
pub pis_inj : (bs cs : List LfType) (f g : ℕ) (ts us : Spine) → pis bs (family f ts) ≡ pis cs (family g us) → (bs ≡ cs) × (f ≡ g) × (ts ≡ us)
pis_inj [] [] f g ts us e = (refl, cc, cc)
pis_inj [] (c ∷ cs) f g ts us e = absurd cc
pis_inj (b ∷ bs) [] f g ts us e = absurd cc
pis_inj (b ∷ bs) (c ∷ cs) f g ts us e =
    let first : b ≡ c = cc in
    let later : pis bs (family f ts) ≡ pis cs (family g us) = cc in
    let rest = pis_inj bs cs f g ts us later in
    (ap₂ (λ x l. x ∷ l) first rest.0, rest.1, rest.2)

pub pis-append : (bs : List LfType) (b end : LfType) → pis (bs ++ b ∷ []) end ≡ pis bs (pi b end)
pis-append [] b end = refl
pis-append (c ∷ bs) b end = ap (pi c) (pis-append bs b end)
