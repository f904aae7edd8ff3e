-- Where a tree stands: the names there that are a variable's, a constant's or a family's have a type or a kind.
use Rattle.std.proofs.Common.{◌≡◌, ℕ, zero, suc, ◌+◌, ◌<◌, Bool, true, false, cond, Option, Some, None, option_map, List, [], ◌∷◌, length, refl, sym, ap, ◌∙◌, arith}
use Rattle.std.specs.Str.{bytes_eq}
use Rattle.std.proofs.lemmas.List.Quantifiers.{position-Some}
use Rattle.basics.specs.Places.{place_of}
use Rattle.lf_definitions.specs.Syntax.{LfHead, bound, constant, LfType, Context, LfKind}
use Rattle.lf_definitions.specs.Typing.{Typing, with_variable, with_context, FormedContext, formed_entry, type_at, kinds_of}
use Rattle.lf_definitions.specs.Signatures.{LfSignature, family_names, family_kinds, constant_names, constant_types, kinds_in, typing_in, FormedSignature}
use Rattle.lf_definitions.proofs.Counts.{length-family_names, length-constant_names}
use Rattle.lf_definitions.proofs.Typing.{ShapedType-Formed}
use Rattle.elab_terms.specs.Names.{Bound, variable_of, head_or, named_head, family_or, family_of}
use Rattle.elab_terms.specs.KnownTypes.{KnownAt, IsWanted}
use Rattle.elab_terms.proofs.Reading.{known_under}
use Rattle.elab_terms.proofs.ClosedScopes.{known_closed}
use Rattle.reading_verdicts.specs.Verdicts.{AreAround}

abbrev pub HasType : Typing → LfHead → Type 0
HasType Γ h = (a : LfType) × (Γ h ≡ Some a)

-- All types are shaped, and each variable and each constant has one.
pub record Place (sig : LfSignature) (Γ : Typing) (binders : Bound) : Type 0 where
  pub known : KnownAt sig Γ binders
  pub constants : (c : ℕ) → c < length (constant_types sig) → HasType Γ (constant c)

-- under one binder more
pub place_under : (sig : LfSignature) (Γ : Typing) (binders : Bound) (name : Option (List ℕ)) (a : LfType) → Place sig Γ binders → IsWanted sig Γ a →
    Place sig (with_variable a Γ) (name ∷ binders)
place_under sig Γ binders name a place shaped = record {
  known = known_under sig Γ (with_variable a Γ) binders (name ∷ binders) name a refl refl place.known shaped;
  constants = place.constants;
}

type_there : (types : List LfType) (c : ℕ) → c < length types → (a : LfType) × (type_at types c ≡ Some a)
type_there [] c within = absurd (omega arith)
type_there (a ∷ types) zero within = (a, refl)
type_there (a ∷ types) (suc c) within = type_there types c (omega arith)

pub closed_place : (sig : LfSignature) → FormedSignature sig → Place sig (typing_in sig [] []) []
closed_place sig formed = record { known = known_closed sig formed; constants = λ c within. type_there (constant_types sig) c within }

place_in : (sig : LfSignature) (ctx : Context) (Γ : Typing) (outer : Bound) → Place sig Γ outer → FormedContext (kinds_in sig) Γ ctx →
    (binders : Bound) → length binders ≡ length ctx + length outer → Place sig (with_context ctx Γ) binders
place_in sig [] Γ outer place formed binders count = record {
  known = record { founded = place.known.founded; have_types = λ n within. place.known.have_types n (omega (arith, within, count)) };
  constants = place.constants;
}
place_in sig (a ∷ ctx) Γ outer place (formed_entry here later) binders count =
    place_in sig ctx (with_variable a Γ) (None ∷ outer) (place_under sig Γ outer None a place (ShapedType-Formed here)) later binders (omega (arith, count))

pub place_around : (sig : LfSignature) (binders : Bound) (ctx : Context) → AreAround sig binders ctx → Place sig (typing_in sig [] ctx) binders
place_around sig binders ctx around =
    place_in sig ctx (typing_in sig [] []) [] (closed_place sig around.signature) around.context binders (omega (arith, around.count))

-- The number of a variable is below that of binders.
raised_within : (found : Option ℕ) (n count : ℕ) → option_map suc found ≡ Some n → ((m : ℕ) → found ≡ Some m → m < count) → n < suc count
raised_within None n count e inside = absurd cc
raised_within (Some m) n count e inside = let more : suc m ≡ n = cc in omega (arith, inside m refl, more)

here_within : (b : Bool) (found : Option ℕ) (n count : ℕ) → cond b (Some 0) (option_map suc found) ≡ Some n → ((m : ℕ) → found ≡ Some m → m < count) → n < suc count
here_within true found n count e inside = let here : 0 ≡ n = cc in omega (arith, here)
here_within false found n count e inside = raised_within found n count e inside

variable_within : (binders : Bound) (name : List ℕ) (n : ℕ) → variable_of binders name ≡ Some n → n < length binders
variable_within [] name n e = absurd cc
variable_within (None ∷ binders) name n e = raised_within (variable_of binders name) n (length binders) e (λ m f. variable_within binders name m f)
variable_within (Some binder ∷ binders) name n e =
    here_within (bytes_eq name binder) (variable_of binders name) n (length binders) e (λ m f. variable_within binders name m f)

module _ (sig : LfSignature) (Γ : Typing) (binders : Bound) (place : Place sig Γ binders) (name : List ℕ) where
  constant_typed : (found : Option ℕ) → place_of (constant_names sig) name ≡ found → (h : LfHead) → option_map constant found ≡ Some h → HasType Γ h
  constant_typed None is h e = absurd cc
  constant_typed (Some c) is h e =
      let same : constant c ≡ h = cc in
      let within = (position-Some (bytes_eq name) (constant_names sig) c [] is).0 in
      let typed = place.constants c (omega (arith, within, length-constant_names sig)) in
      (typed.0, ap Γ (sym same) ∙ typed.1)

  by_variable : (found : Option ℕ) → variable_of binders name ≡ found → (h : LfHead) → head_or (option_map constant (place_of (constant_names sig) name)) found ≡ Some h → HasType Γ h
  by_variable None is h e = constant_typed (place_of (constant_names sig) name) refl h e
  by_variable (Some n) is h e =
      let same : bound n ≡ h = cc in
      let typed = place.known.have_types n (variable_within binders name n is) in
      (typed.0, ap Γ (sym same) ∙ typed.1)

  -- What a name stands for has a type.
  pub head_typed : (h : LfHead) → named_head sig binders name ≡ Some h → HasType Γ h
  head_typed h e = by_variable (variable_of binders name) refl h e

kind_there : (kinds : List LfKind) (f : ℕ) → f < length kinds → (kind : LfKind) × (kinds_of kinds f ≡ Some kind)
kind_there [] f within = absurd (omega arith)
kind_there (kind ∷ kinds) zero within = (kind, refl)
kind_there (kind ∷ kinds) (suc f) within = kind_there kinds f (omega arith)

module _ (sig : LfSignature) (binders : Bound) (name : List ℕ) (f : ℕ) where
  named_family : (found : Option ℕ) → family_or (place_of (family_names sig) name) found ≡ Some f → place_of (family_names sig) name ≡ Some f
  named_family None e = e
  named_family (Some n) e = absurd cc

  -- The family of a name has a kind.
  pub family_known : family_of sig binders name ≡ Some f → (kind : LfKind) × (kinds_in sig f ≡ Some kind)
  family_known e =
      let within = (position-Some (bytes_eq name) (family_names sig) f [] (named_family (variable_of binders name) e)).0 in
      kind_there (family_kinds sig) f (omega (arith, within, length-family_names sig))
