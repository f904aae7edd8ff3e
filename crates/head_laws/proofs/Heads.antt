-- Heads: whether two are the same, and heads as they are seen from under a binder.
use Rattle.std.proofs.Common.{◌≡◌, ℕ, zero, suc, refl, sym, ap, ◌∙◌, arith}
use Rattle.std.specs.Prelude.{true}
use Rattle.std.proofs.lemmas.Bool.{eqb-true, eq-eqb}
use Rattle.lf_definitions.specs.Syntax.{LfHead, bound, constant, metavariable}
use Rattle.lf_definitions.specs.Renaming.{next, Renaming, lifted}
use Rattle.lf_definitions.proofs.Renaming.{extended-next}
use Rattle.head_laws.specs.Mentions.{same_head}

pub same_head-true : (h k : LfHead) → same_head h k ≡ true → h ≡ k
same_head-true (bound n) (bound m) e = ap bound (eqb-true n m e)
same_head-true (bound n) (constant c) e = absurd cc
same_head-true (bound n) (metavariable g) e = absurd cc
same_head-true (constant c) (bound n) e = absurd cc
same_head-true (constant c) (constant d) e = ap constant (eqb-true c d e)
same_head-true (constant c) (metavariable g) e = absurd cc
same_head-true (metavariable g) (bound n) e = absurd cc
same_head-true (metavariable g) (constant c) e = absurd cc
same_head-true (metavariable g) (metavariable m) e = ap metavariable (eqb-true g m e)

same_head-same : (h : LfHead) → same_head h h ≡ true
same_head-same (bound n) = eq-eqb n n refl
same_head-same (constant c) = eq-eqb c c refl
same_head-same (metavariable g) = eq-eqb g g refl

pub same_head-from : (h k : LfHead) → h ≡ k → same_head h k ≡ true
same_head-from h k e = ap (same_head h) (sym e) ∙ same_head-same h

pub next_inj : (h k : LfHead) → next h ≡ next k → h ≡ k
next_inj (bound n) (bound m) e = ap bound (suc_inj n m cc)
  where
    suc_inj : (n m : ℕ) → suc n ≡ suc m → n ≡ m
    suc_inj n m e = omega arith
next_inj (bound n) (constant c) e = absurd cc
next_inj (bound n) (metavariable g) e = absurd cc
next_inj (constant c) (bound n) e = absurd cc
next_inj (constant c) (constant d) e = cc
next_inj (constant c) (metavariable g) e = absurd cc
next_inj (metavariable g) (bound n) e = absurd cc
next_inj (metavariable g) (constant c) e = absurd cc
next_inj (metavariable g) (metavariable m) e = cc

pub next-zero : (h : LfHead) → next h ≡ bound zero → ⊥
next-zero (bound n) e = apart (bound_inj e)
  where
    bound_inj : {m : ℕ} → bound m ≡ bound zero → m ≡ zero
    bound_inj e = cc

    apart : suc n ≡ zero → ⊥
    apart e = omega arith
next-zero (constant c) e = cc
next-zero (metavariable g) e = cc

pub lifted-next : (ξ : Renaming) (h : LfHead) → lifted ξ (next h) ≡ next (ξ h)
lifted-next ξ h = extended-next (bound zero) (λ k. next (ξ k)) h
