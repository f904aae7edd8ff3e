-- A term has at most one result under a replacement.
use Rattle.std.proofs.Common.{◌≡◌, refl, sym, ap, ap₂, subst₂}
use Rattle.lf_definitions.specs.Syntax.{LfHead, LfTerm, lam, at, Spine, arg, LfType, pi, family}
use Rattle.lf_definitions.specs.Substitution.{Image, stays, becomes, Replacement, Substituted, substituted_lam, substituted_stays, substituted_becomes, SubstitutedSpine, substituted_none, substituted_arg, Applied, applied_none, applied_arg, SubstitutedType, substituted_pi, substituted_family}

pub stays-becomes : {i : Image} {k : LfHead} {u : LfTerm} → i ≡ stays k → i ≡ becomes u → ⊥
stays-becomes e f = cc

pub stays_inj : {i : Image} {k m : LfHead} → i ≡ stays k → i ≡ stays m → k ≡ m
stays_inj e f = cc

pub becomes_inj : {i : Image} {u w : LfTerm} → i ≡ becomes u → i ≡ becomes w → u ≡ w
becomes_inj e f = cc

mutual
  pub unique : {σ : Replacement} {t a b : LfTerm} → Substituted σ t a → Substituted σ t b → a ≡ b
  unique (substituted_lam p) (substituted_lam q) = ap lam (unique p q)
  unique (substituted_stays e ps) (substituted_stays f qs) = ap₂ at (stays_inj e f) (unique_spine ps qs)
  unique (substituted_stays e ps) (substituted_becomes u vs f qs q) = absurd (stays-becomes e f)
  unique (substituted_becomes u vs e ps p) (substituted_stays f qs) = absurd (stays-becomes f e)
  unique {b = b} (substituted_becomes u vs e ps p) (substituted_becomes w ws f qs q) =
      unique_applied p (subst₂ (λ x xs. Applied stays x xs b) (becomes_inj f e) (sym (unique_spine ps qs)) q)

  pub unique_spine : {σ : Replacement} {ts vs ws : Spine} → SubstitutedSpine σ ts vs → SubstitutedSpine σ ts ws → vs ≡ ws
  unique_spine substituted_none substituted_none = refl
  unique_spine (substituted_arg p ps) (substituted_arg q qs) = ap₂ arg (unique p q) (unique_spine ps qs)

  pub unique_applied : {σ : Replacement} {u a b : LfTerm} {vs : Spine} → Applied σ u vs a → Applied σ u vs b → a ≡ b
  unique_applied (applied_none p) (applied_none q) = unique p q
  unique_applied (applied_arg p) (applied_arg q) = unique_applied p q

pub unique_type : {σ : Replacement} {a b c : LfType} → SubstitutedType σ a b → SubstitutedType σ a c → b ≡ c
unique_type (substituted_pi p ps) (substituted_pi q qs) = ap₂ pi (unique_type p q) (unique_type ps qs)
unique_type (substituted_family {f = f} ps) (substituted_family qs) = ap (family f) (unique_spine ps qs)
