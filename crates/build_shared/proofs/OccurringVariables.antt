-- Where a variable occurs, part by part.
use Rattle.std.proofs.Common.{◌≡◌, ℕ, suc, ◌+◌, ◌<◌, ◌≤◌, Bool, true, false, ◌||◌, List, [], ◌∷◌, length, get_or, drop, refl, sym, ap, ◌∙◌, arith, add-one}
use Rattle.std.proofs.lemmas.Bool.{false_from_ne_true}
use Rattle.std.proofs.lemmas.List.{drop_all}
use Rattle.lf_definitions.specs.Syntax.{bound, Spine, LfType, family, Context, pis}
use Rattle.lf_terms.specs.declared.ty.Ty.{Ty}
use Rattle.lf_terms.specs.Extents.{StaysWithin, InType, InSpine}
use Rattle.lf_terms.specs.Types.{type_of, types_of}
use Rattle.lf_terms.proofs.TypeLists.{types_of-drop}
use Rattle.head_laws.specs.Mentions.{occurs_in_spine, occurs_in_type, occurs_in_context}
use Rattle.head_laws.proofs.Occurrence.{OccursInSpine-true, OccursInType-true}

-- where all variables have lower numbers
pub none_within_type : (n : ℕ) (a : LfType) → StaysWithin n (InType a) → occurs_in_type (bound n) a ≡ false
none_within_type n a within = false_from_ne_true (occurs_in_type (bound n) a) (λ e. within n (omega arith) (OccursInType-true (bound n) a e))

pub none_within_spine : (n : ℕ) (ts : Spine) → StaysWithin n (InSpine ts) → occurs_in_spine (bound n) ts ≡ false
none_within_spine n ts within = false_from_ne_true (occurs_in_spine (bound n) ts) (λ e. within n (omega arith) (OccursInSpine-true (bound n) ts e))

-- in a type, by its binders and its arguments
pub by_parts : (n : ℕ) (bs : Context) (f : ℕ) (args : Spine) → occurs_in_type (bound n) (pis bs (family f args)) ≡ occurs_in_context (bound n) bs || occurs_in_spine (bound (n + length bs)) args
by_parts n [] f args = let here : n ≡ n + 0 = omega arith in ap (λ m. occurs_in_spine (bound m) args) here
by_parts n (b ∷ bs) f args =
    let there : suc n + length bs ≡ n + suc (length bs) = omega arith in
    ap (λ o. occurs_in_type (bound n) b || o) (by_parts (suc n) bs f args ∙ ap (λ m. occurs_in_context (bound (suc n)) bs || occurs_in_spine (bound m) args) there)
    ∙ grouped (occurs_in_type (bound n) b) (occurs_in_context (bound (suc n)) bs) (occurs_in_spine (bound (n + suc (length bs))) args)
  where
    grouped : (x y z : Bool) → x || (y || z) ≡ (x || y) || z
    grouped true y z = refl
    grouped false y z = refl

pub in_binders : (n : ℕ) (bs : Context) (f : ℕ) (args : Spine) (types : List Ty) (early : Bool) → types_of types ≡ bs → early ≡ occurs_in_context (bound n) (types_of types) → early ≡ true →
    true ≡ occurs_in_type (bound n) (pis bs (family f args))
in_binders n bs f args types early are is e =
    let found : occurs_in_context (bound n) bs ≡ true = sym (is ∙ ap (occurs_in_context (bound n)) are) ∙ e in
    sym (by_parts n bs f args ∙ ap (λ b. b || occurs_in_spine (bound (n + length bs)) args) found)

pub in_arguments : (n : ℕ) (bs : Context) (f : ℕ) (args : Spine) (types : List Ty) (early : Bool) (inside : ℕ) (later : Bool) → types_of types ≡ bs → early ≡ occurs_in_context (bound n) (types_of types) → early ≡ false →
    inside ≡ n + length bs → later ≡ occurs_in_spine (bound inside) args → later ≡ occurs_in_type (bound n) (pis bs (family f args))
in_arguments n bs f args types early inside later are is e inside_is later_is =
    let none : occurs_in_context (bound n) bs ≡ false = sym (is ∙ ap (occurs_in_context (bound n)) are) ∙ e in
    later_is ∙ ap (λ m. occurs_in_spine (bound m) args) inside_is ∙ sym (by_parts n bs f args ∙ ap (λ b. b || occurs_in_spine (bound (n + length bs)) args) none)

-- in types, one after another
module _ (n : ℕ) (types : List Ty) (i : ℕ) where
  read_there : (x : Ty) (inside : ℕ) (occurs : Bool) → i < length types → x ≡ get_or types i x → inside ≡ n + i → occurs ≡ occurs_in_type (bound inside) (type_of x) →
      occurs_in_context (bound (n + i)) (types_of (drop i types)) ≡ occurs || occurs_in_context (bound (suc (n + i))) (types_of (drop (suc i) types))
  read_there x inside occurs within x_is inside_is occurs_is =
      ap (occurs_in_context (bound (n + i))) (types_of-drop types i x within x_is)
      ∙ ap (λ b. b || occurs_in_context (bound (suc (n + i))) (types_of (drop (suc i) types))) (sym (occurs_is ∙ ap (λ m. occurs_in_type (bound m) (type_of x)) inside_is))

  pub found_there : (x : Ty) (inside : ℕ) (occurs whole : Bool) → i < length types → x ≡ get_or types i x → inside ≡ n + i → occurs ≡ occurs_in_type (bound inside) (type_of x) → occurs ≡ true →
      whole ≡ occurs_in_context (bound (n + i)) (types_of (drop i types)) → true ≡ whole
  found_there x inside occurs whole within x_is inside_is occurs_is e left =
      sym (left ∙ read_there x inside occurs within x_is inside_is occurs_is ∙ ap (λ b. b || occurs_in_context (bound (suc (n + i))) (types_of (drop (suc i) types))) e)

  pub not_there : (x : Ty) (inside : ℕ) (occurs whole : Bool) → i < length types → x ≡ get_or types i x → inside ≡ n + i → occurs ≡ occurs_in_type (bound inside) (type_of x) → occurs ≡ false →
      whole ≡ occurs_in_context (bound (n + i)) (types_of (drop i types)) → whole ≡ occurs_in_context (bound (n + (i + 1))) (types_of (drop (i + 1) types))
  not_there x inside occurs whole within x_is inside_is occurs_is e left =
      let there : suc (n + i) ≡ n + (i + 1) = omega arith in
      left ∙ read_there x inside occurs within x_is inside_is occurs_is ∙ ap (λ b. b || occurs_in_context (bound (suc (n + i))) (types_of (drop (suc i) types))) e
      ∙ ap (λ m. occurs_in_context (bound m) (types_of (drop (suc i) types))) there ∙ ap (λ k. occurs_in_context (bound (n + (i + 1))) (types_of (drop k types))) (sym (add-one i))

  pub nowhere : (whole : Bool) → length types ≤ i → whole ≡ occurs_in_context (bound (n + i)) (types_of (drop i types)) → false ≡ whole
  nowhere whole past left = sym (left ∙ ap (λ l. occurs_in_context (bound (n + i)) (types_of l)) (drop_all i types past))
