-- Stripping abstractions.
use Rattle.std.proofs.Common.{◌≡◌, ℕ, zero, suc, ◌+◌, ◌<◌, ◌≤◌, refl, sym, ap, ◌∙◌, arith, add-one}
use Rattle.lf_definitions.specs.Syntax.{LfHead, LfTerm, lam, at, Spine, lams, term_size}
use Rattle.lf_terms.specs.Putting.{HasLams}

lams-lam : (n : ℕ) (b : LfTerm) → lams n (lam b) ≡ lams (suc n) b
lams-lam zero b = refl
lams-lam (suc n) b = ap lam (lams-lam n b)

-- one abstraction more is stripped
pub strip_more : (n : ℕ) (t before body : LfTerm) → t ≡ lams n before → before ≡ lam body → t ≡ lams (n + 1) body
strip_more n t before body t_is before_is = t_is ∙ ap (lams n) before_is ∙ lams-lam n body ∙ ap (λ m. lams m body) (sym (add-one n))

lams-at : (i n : ℕ) (h : LfHead) (ts : Spine) (b : LfTerm) → i < n → lams i (at h ts) ≡ lams n b → ⊥
lams-at zero zero h ts b less e = omega arith
lams-at zero (suc n) h ts b less e = cc
lams-at (suc i) zero h ts b less e = omega arith
lams-at (suc i) (suc n) h ts b less e = lams-at i n h ts b (omega arith) cc

-- A spine does not come too early.
pub strip_stuck : (i n : ℕ) (t before : LfTerm) (h : LfHead) (ts : Spine) → HasLams n t → i < n → t ≡ lams i before → before ≡ at h ts → ⊥
strip_stuck i n t before h ts has less t_is before_is = lams-at i n h ts has.0 less (ap (lams i) (sym before_is) ∙ sym t_is ∙ has.1)

pub term_size-lams : (n : ℕ) (b : LfTerm) → term_size b ≤ term_size (lams n b)
term_size-lams zero b = omega arith
term_size-lams (suc n) b = omega (arith, term_size-lams n b)
