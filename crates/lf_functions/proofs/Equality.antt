-- The tests of equality of syntax.
use Rattle.std.proofs.Common.{◌≡◌, refl, sym, ap, ap₂, ◌∙◌}
use Rattle.std.specs.Prelude.{Bool, true, false}
use Rattle.std.proofs.lemmas.Bool.{eqb-true, eq-eqb, and_parts, and_from}
use Rattle.lf_definitions.specs.Syntax.{LfTerm, lam, at, Spine, no_args, arg, LfType, pi, family}
use Rattle.head_laws.specs.Mentions.{same_head}
use Rattle.head_laws.proofs.Heads.{same_head-true, same_head-from}
use Rattle.lf_functions.specs.Checking.{equal_terms, equal_spines, equal_types}

mutual
  pub equal_terms-true : (t u : LfTerm) → equal_terms t u ≡ true → t ≡ u
  equal_terms-true (lam b) (lam c) e = ap lam (equal_terms-true b c e)
  equal_terms-true (lam b) (at k us) e = absurd cc
  equal_terms-true (at h ts) (lam c) e = absurd cc
  equal_terms-true (at h ts) (at k us) e =
      let parts = and_parts (same_head h k) (equal_spines ts us) e in
      ap₂ at (same_head-true h k parts.0) (equal_spines-true ts us parts.1)

  pub equal_spines-true : (ts us : Spine) → equal_spines ts us ≡ true → ts ≡ us
  equal_spines-true no_args no_args e = refl
  equal_spines-true no_args (arg u us) e = absurd cc
  equal_spines-true (arg t ts) no_args e = absurd cc
  equal_spines-true (arg t ts) (arg u us) e =
      let parts = and_parts (equal_terms t u) (equal_spines ts us) e in
      ap₂ arg (equal_terms-true t u parts.0) (equal_spines-true ts us parts.1)

mutual
  equal_terms-same : (t : LfTerm) → equal_terms t t ≡ true
  equal_terms-same (lam b) = equal_terms-same b
  equal_terms-same (at h ts) = and_from (same_head h h) (equal_spines ts ts) (same_head-from h h refl) (equal_spines-same ts)

  equal_spines-same : (ts : Spine) → equal_spines ts ts ≡ true
  equal_spines-same no_args = refl
  equal_spines-same (arg t ts) = and_from (equal_terms t t) (equal_spines ts ts) (equal_terms-same t) (equal_spines-same ts)

pub equal_types-true : (a b : LfType) → equal_types a b ≡ true → a ≡ b
equal_types-true (pi a b) (pi c d) e =
    let parts = and_parts (equal_types a c) (equal_types b d) e in
    ap₂ pi (equal_types-true a c parts.0) (equal_types-true b d parts.1)
equal_types-true (pi a b) (family g us) e = absurd cc
equal_types-true (family f ts) (pi c d) e = absurd cc
equal_types-true (family f ts) (family g us) e =
    let parts = and_parts _ (equal_spines ts us) e in
    ap₂ family (eqb-true f g parts.0) (equal_spines-true ts us parts.1)

equal_types-same : (a : LfType) → equal_types a a ≡ true
equal_types-same (pi a b) = and_from (equal_types a a) (equal_types b b) (equal_types-same a) (equal_types-same b)
equal_types-same (family f ts) = and_from _ (equal_spines ts ts) (eq-eqb f f refl) (equal_spines-same ts)

pub equal_terms-from : (t u : LfTerm) → t ≡ u → equal_terms t u ≡ true
equal_terms-from t u e = ap (equal_terms t) (sym e) ∙ equal_terms-same t

pub equal_spines-from : (ts us : Spine) → ts ≡ us → equal_spines ts us ≡ true
equal_spines-from ts us e = ap (equal_spines ts) (sym e) ∙ equal_spines-same ts

pub equal_types-from : (a b : LfType) → a ≡ b → equal_types a b ≡ true
equal_types-from a b e = ap (equal_types a) (sym e) ∙ equal_types-same a

-- Truth values that are true together are the same.
pub same_truth : (x y : Bool) → (x ≡ true → y ≡ true) → (y ≡ true → x ≡ true) → x ≡ y
same_truth true true to back = refl
same_truth true false to back = sym (to refl)
same_truth false true to back = back refl
same_truth false false to back = refl
