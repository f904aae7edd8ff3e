-- Whether two types are equal can be told.
use Rattle.std.proofs.Common.{ℕ, inl, inr, refl, ap, ap₂, arith}
use Rattle.lf_definitions.specs.Syntax.{LfHead, bound, constant, metavariable, LfTerm, lam, at, Spine, no_args, arg, LfType, pi, family}
use Rattle.lf_definitions.proofs.Decisions.{SameOrNot}

same_number : (n m : ℕ) → SameOrNot n m
same_number n m = grind arith

same_heads : (h k : LfHead) → SameOrNot h k
same_heads (bound n) (bound m) = at_numbers (same_number n m)
  where
    at_numbers : SameOrNot n m → SameOrNot (bound n) (bound m)
    at_numbers (inl e) = inl (ap bound e)
    at_numbers (inr differ) = inr (λ e. differ cc)
same_heads (constant n) (constant m) = at_numbers (same_number n m)
  where
    at_numbers : SameOrNot n m → SameOrNot (constant n) (constant m)
    at_numbers (inl e) = inl (ap constant e)
    at_numbers (inr differ) = inr (λ e. differ cc)
same_heads (metavariable n) (metavariable m) = at_numbers (same_number n m)
  where
    at_numbers : SameOrNot n m → SameOrNot (metavariable n) (metavariable m)
    at_numbers (inl e) = inl (ap metavariable e)
    at_numbers (inr differ) = inr (λ e. differ cc)
same_heads (bound n) (constant m) = inr (λ e. cc)
same_heads (bound n) (metavariable m) = inr (λ e. cc)
same_heads (constant n) (bound m) = inr (λ e. cc)
same_heads (constant n) (metavariable m) = inr (λ e. cc)
same_heads (metavariable n) (bound m) = inr (λ e. cc)
same_heads (metavariable n) (constant m) = inr (λ e. cc)

both_at : {h k : LfHead} {ts us : Spine} → SameOrNot h k → SameOrNot ts us → SameOrNot (at h ts) (at k us)
both_at (inl e) (inl f) = inl (ap₂ at e f)
both_at (inl e) (inr differ) = inr (λ same. differ cc)
both_at (inr differ) other = inr (λ same. differ cc)

both_args : {t u : LfTerm} {ts us : Spine} → SameOrNot t u → SameOrNot ts us → SameOrNot (arg t ts) (arg u us)
both_args (inl e) (inl f) = inl (ap₂ arg e f)
both_args (inl e) (inr differ) = inr (λ same. differ cc)
both_args (inr differ) other = inr (λ same. differ cc)

both_bodies : {b c : LfTerm} → SameOrNot b c → SameOrNot (lam b) (lam c)
both_bodies (inl e) = inl (ap lam e)
both_bodies (inr differ) = inr (λ same. differ cc)

mutual
  same_terms : (t u : LfTerm) → SameOrNot t u
  same_terms (lam b) (lam c) = both_bodies (same_terms b c)
  same_terms (lam b) (at k us) = inr (λ e. cc)
  same_terms (at h ts) (lam c) = inr (λ e. cc)
  same_terms (at h ts) (at k us) = both_at (same_heads h k) (same_spines ts us)

  same_spines : (ts us : Spine) → SameOrNot ts us
  same_spines no_args no_args = inl refl
  same_spines no_args (arg u us) = inr (λ e. cc)
  same_spines (arg t ts) no_args = inr (λ e. cc)
  same_spines (arg t ts) (arg u us) = both_args (same_terms t u) (same_spines ts us)

both_families : {f g : ℕ} {ts us : Spine} → SameOrNot f g → SameOrNot ts us → SameOrNot (family f ts) (family g us)
both_families (inl e) (inl f) = inl (ap₂ family e f)
both_families (inl e) (inr differ) = inr (λ same. differ cc)
both_families (inr differ) other = inr (λ same. differ cc)

both_pis : {a c b d : LfType} → SameOrNot a c → SameOrNot b d → SameOrNot (pi a b) (pi c d)
both_pis (inl e) (inl f) = inl (ap₂ pi e f)
both_pis (inl e) (inr differ) = inr (λ same. differ cc)
both_pis (inr differ) other = inr (λ same. differ cc)

pub same_types : (a b : LfType) → SameOrNot a b
same_types (pi a b) (pi c d) = both_pis (same_types a c) (same_types b d)
same_types (pi a b) (family g us) = inr (λ e. cc)
same_types (family f ts) (pi c d) = inr (λ e. cc)
same_types (family f ts) (family g us) = both_families (same_number f g) (same_spines ts us)
