-- The types of the variables of a context: each is its entry, as it is seen from under that entry and all later ones.
use Rattle.std.proofs.Common.{◌≡◌, ℕ, zero, suc, ◌+◌, ◌-◌, Option, Some, None, option_map, [], ◌∷◌, ◌++◌, length, refl, sym, ap, ◌∙◌, arith}
use mathlib.Core.Path.{fun_ext}
use Rattle.lf_definitions.specs.Syntax.{LfHead, bound, constant, metavariable, LfType, Context}
use Rattle.lf_definitions.specs.Renaming.{next, next_by, rename_type, raise_type}
use Rattle.lf_definitions.specs.Typing.{Typing, with_variable, with_context, type_at}
use Rattle.lf_definitions.proofs.Renaming.{rename_type-rename_type, rename_type-same_head}

pub rename_type-next_by : (n : ℕ) (a : LfType) → rename_type (next_by n) (raise_type a) ≡ rename_type (next_by (suc n)) a
rename_type-next_by n a = rename_type-rename_type a (next_by n) next

pub rename_type-next_by_zero : (a : LfType) → rename_type (next_by zero) a ≡ a
rename_type-next_by_zero a = rename_type-same_head a

pub with_context-append : (prefix more : Context) (Γ : Typing) → with_context (prefix ++ more) Γ ≡ with_context more (with_context prefix Γ)
with_context-append [] more Γ = refl
with_context-append (a ∷ prefix) more Γ = with_context-append prefix more (with_variable a Γ)

raised_again : (n : ℕ) (o : Option LfType) → option_map (rename_type (next_by n)) (option_map raise_type o) ≡ option_map (rename_type (next_by (suc n))) o
raised_again n None = refl
raised_again n (Some a) = ap Some (rename_type-next_by n a)

not_raised : (o : Option LfType) → o ≡ option_map (rename_type (next_by zero)) o
not_raised None = refl
not_raised (Some a) = ap Some (sym (rename_type-next_by_zero a))

-- a variable outside the context
pub with_context-outside : (ctx : Context) (Γ : Typing) (n : ℕ) → with_context ctx Γ (bound (length ctx + n)) ≡ option_map (rename_type (next_by (length ctx))) (Γ (bound n))
with_context-outside [] Γ n = ap (λ m. Γ (bound m)) (omega arith) ∙ not_raised (Γ (bound n))
with_context-outside (a ∷ ctx) Γ n =
    ap (λ m. with_context ctx (with_variable a Γ) (bound m)) (omega arith) ∙ with_context-outside ctx (with_variable a Γ) (suc n) ∙ raised_again (length ctx) (Γ (bound n))

-- a variable of the context
pub with_context-inside : (ctx : Context) (Γ : Typing) (k : ℕ) (a : LfType) → type_at ctx k ≡ Some a →
    with_context ctx Γ (bound (length ctx - suc k)) ≡ Some (rename_type (next_by (length ctx - k)) a)
with_context-inside [] Γ k a e = absurd cc
with_context-inside (b ∷ ctx) Γ zero a e =
    let same : b ≡ a = cc in
    let number : suc (length ctx) - 1 ≡ length ctx + zero = omega arith in
    let count : suc (length ctx) ≡ suc (length ctx) - zero = omega arith in
    ap (λ m. with_context ctx (with_variable b Γ) (bound m)) number ∙ with_context-outside ctx (with_variable b Γ) zero
    ∙ ap Some (rename_type-next_by (length ctx) b ∙ ap (rename_type (next_by (suc (length ctx)))) same)
    ∙ ap (λ m. Some (rename_type (next_by m) a)) count
with_context-inside (b ∷ ctx) Γ (suc k) a e =
    let number : suc (length ctx) - suc (suc k) ≡ length ctx - suc k = omega arith in
    let count : length ctx - k ≡ suc (length ctx) - suc k = omega arith in
    ap (λ m. with_context ctx (with_variable b Γ) (bound m)) number ∙ with_context-inside ctx (with_variable b Γ) k a e
    ∙ ap (λ m. Some (rename_type (next_by m) a)) count

-- the other heads
pub with_context-constant : (ctx : Context) (Γ : Typing) (c : ℕ) → with_context ctx Γ (constant c) ≡ Γ (constant c)
with_context-constant [] Γ c = refl
with_context-constant (a ∷ ctx) Γ c = with_context-constant ctx (with_variable a Γ) c

pub with_context-metavariable : (ctx : Context) (Γ : Typing) (g : ℕ) → with_context ctx Γ (metavariable g) ≡ Γ (metavariable g)
with_context-metavariable [] Γ g = refl
with_context-metavariable (a ∷ ctx) Γ g = with_context-metavariable ctx (with_variable a Γ) g

-- one after another
next_by-next_by : (m n : ℕ) (h : LfHead) → next_by m (next_by n h) ≡ next_by (n + m) h
next_by-next_by m zero h =
    let count : m ≡ zero + m = omega arith in
    ap (λ k. next_by k h) count
next_by-next_by m (suc n) h =
    let count : suc (n + m) ≡ suc n + m = omega arith in
    next_by-next_by m n (next h) ∙ ap (λ k. next_by k h) count

pub rename_type-next_by_again : (m n : ℕ) (a : LfType) → rename_type (next_by m) (rename_type (next_by n) a) ≡ rename_type (next_by (n + m)) a
rename_type-next_by_again m n a = rename_type-rename_type a (next_by m) (next_by n) ∙ ap (λ ξ. rename_type ξ a) (fun_ext (next_by-next_by m n))
