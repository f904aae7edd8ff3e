-- Whether two terms are the same syntax, as truth values.
use Rattle.std.proofs.Common.{◌≡◌, Bool, true, false, ◌&&◌, refl, ap, ap₂}
use Rattle.std.proofs.lemmas.Bool.{and_parts, and_from}
use Rattle.lf_definitions.specs.Syntax.{LfTerm, lam, at, Spine, no_args, arg}
use Rattle.head_laws.specs.Mentions.{same_head}
use Rattle.head_laws.proofs.Heads.{same_head-true, same_head-from}

abbrev mutual
  pub same_term : LfTerm → LfTerm → Bool
  same_term (lam b) (lam c) = same_term b c
  same_term (lam b) (at k us) = false
  same_term (at h ts) (lam c) = false
  same_term (at h ts) (at k us) = same_head h k && same_spine ts us

  pub same_spine : Spine → Spine → Bool
  same_spine no_args no_args = true
  same_spine no_args (arg u us) = false
  same_spine (arg t ts) no_args = false
  same_spine (arg t ts) (arg u us) = same_term t u && same_spine ts us

mutual
  pub same_term-true : (t u : LfTerm) → same_term t u ≡ true → t ≡ u
  same_term-true (lam b) (lam c) e = ap lam (same_term-true b c e)
  same_term-true (lam b) (at k us) e = absurd cc
  same_term-true (at h ts) (lam c) e = absurd cc
  same_term-true (at h ts) (at k us) e =
      let both = and_parts (same_head h k) (same_spine ts us) e in
      ap₂ at (same_head-true h k both.0) (same_spine-true ts us both.1)

  pub same_spine-true : (ts us : Spine) → same_spine ts us ≡ true → ts ≡ us
  same_spine-true no_args no_args e = refl
  same_spine-true no_args (arg u us) e = absurd cc
  same_spine-true (arg t ts) no_args e = absurd cc
  same_spine-true (arg t ts) (arg u us) e =
      let both = and_parts (same_term t u) (same_spine ts us) e in
      ap₂ arg (same_term-true t u both.0) (same_spine-true ts us both.1)

mutual
  pub same_term-same : (t : LfTerm) → same_term t t ≡ true
  same_term-same (lam b) = same_term-same b
  same_term-same (at h ts) = and_from (same_head h h) (same_spine ts ts) (same_head-from h h refl) (same_spine-same ts)

  pub same_spine-same : (ts : Spine) → same_spine ts ts ≡ true
  same_spine-same no_args = refl
  same_spine-same (arg t ts) = and_from (same_term t t) (same_spine ts ts) (same_term-same t) (same_spine-same ts)
