-- Paths that are kept from their last step to their first.
use Rattle.std.proofs.Common.{◌≡◌, ℕ, zero, suc, ◌+◌, ◌<◌, Option, Some, None, List, [], ◌∷◌, ◌++◌, length, reverse, replicate, refl, sym, ap, ◌∙◌, subst, subst₂, arith, append_assoc, append-nil, add-one}
use Rattle.std.proofs.lemmas.List.{reverse-append, replicate_more}
use Rattle.lf_definitions.specs.Syntax.{LfHead, LfTerm, at, Spine, LfType, pis, Context, lams}
use Rattle.lf_definitions.specs.Typing.{Typing, with_variable, with_context, Typed, typed_lam}
use Rattle.lf_definitions.specs.Failures.{FailsTerm, fails_at, fails_in_body}
use Rattle.lf_kernel.specs.Checks.{Walks}
use Rattle.lf_kernel.specs.Stripping.{EndsAfter}

reverse-replicate : (n k : ℕ) → reverse (replicate n k) ≡ replicate n k
reverse-replicate zero k = refl
reverse-replicate (suc n) k =
    reverse-append (k ∷ []) (replicate n k) ∙ ap (λ rest. rest ++ k ∷ []) (reverse-replicate n k) ∙ replicate_more n k ∙ ap (λ m. replicate m k) (add-one n)

pub reverse-step : (path longer : List ℕ) (child : ℕ) → longer ≡ path ++ child ∷ [] → reverse longer ≡ child ∷ reverse path
reverse-step path longer child is = ap reverse is ∙ reverse-append path (child ∷ [])

reverse-under : (path : List ℕ) (n : ℕ) → reverse (path ++ replicate n 0) ≡ replicate n 0 ++ reverse path
reverse-under path n = reverse-append path (replicate n 0) ∙ ap (λ prefix. prefix ++ reverse path) (reverse-replicate n 0)

-- under abstractions
pub typed_under : (bs : Context) (Γ : Typing) (b : LfTerm) (end : LfType) → Typed (with_context bs Γ) b end → Typed Γ (lams (length bs) b) (pis bs end)
typed_under [] Γ b end p = p
typed_under (a ∷ bs) Γ b end p = typed_lam (typed_under bs (with_variable a Γ) b end p)

fails_inside : (bs : Context) (Γ : Typing) (b : LfTerm) (end : LfType) (path : List ℕ) → FailsTerm (with_context bs Γ) b end path → FailsTerm Γ (lams (length bs) b) (pis bs end) (replicate (length bs) 0 ++ path)
fails_inside [] Γ b end path p = p
fails_inside (a ∷ bs) Γ b end path p = fails_in_body Γ (lams (length bs) b) a (pis bs end) (replicate (length bs) 0 ++ path) (fails_inside bs (with_variable a Γ) b end path p)

fails_outside : (depth : ℕ) (bs : Context) (Γ : Typing) (h : LfHead) (ts : Spine) (end : LfType) → depth < length bs → FailsTerm Γ (lams depth (at h ts)) (pis bs end) (replicate depth 0)
fails_outside depth [] Γ h ts end less = absurd (omega arith)
fails_outside zero (a ∷ bs) Γ h ts end less = fails_at Γ h ts a (pis bs end)
fails_outside (suc depth) (a ∷ bs) Γ h ts end less =
    fails_in_body Γ (lams depth (at h ts)) a (pis bs end) (replicate depth 0) (fails_outside depth bs (with_variable a Γ) h ts end (omega arith))

-- as the code has them
pub fails_under : (bs : Context) (Γ : Typing) (t b : LfTerm) (end : LfType) (count : ℕ) (path longer : List ℕ) → t ≡ lams count b → count ≡ length bs → longer ≡ path ++ replicate count 0 →
    FailsTerm (with_context bs Γ) b end (reverse path) → FailsTerm Γ t (pis bs end) (reverse longer)
fails_under bs Γ t b end count path longer t_is count_is longer_is p =
    subst₂ (λ x r. FailsTerm Γ x (pis bs end) r)
    (ap (λ n. lams n b) (sym count_is) ∙ sym t_is)
    (ap (λ n. replicate n 0 ++ reverse path) (sym count_is) ∙ sym (ap reverse longer_is ∙ reverse-under path count))
    (fails_inside bs Γ b end (reverse path) p)

pub fails_early : (bs : Context) (Γ : Typing) (t : LfTerm) (end : LfType) (count depth : ℕ) (path longer : List ℕ) → EndsAfter count t depth → count ≡ length bs → path ≡ [] → longer ≡ path ++ replicate depth 0 →
    FailsTerm Γ t (pis bs end) (reverse longer)
fails_early bs Γ t end count depth path longer (less, h, ts, t_is) count_is path_is longer_is =
    subst₂ (λ x r. FailsTerm Γ x (pis bs end) r) (sym t_is)
    (sym (ap reverse longer_is ∙ reverse-under path depth ∙ ap (λ p. replicate depth 0 ++ reverse p) path_is ∙ append-nil (replicate depth 0)))
    (fails_outside depth bs Γ h ts end (omega arith))

pub zero_more : (path before after : List ℕ) (k : ℕ) → before ≡ path ++ replicate k 0 → after ≡ before ++ 0 ∷ [] → after ≡ path ++ replicate (k + 1) 0
zero_more path before after k is pushed =
    pushed ∙ ap (λ p. p ++ 0 ∷ []) is ∙ append_assoc path (replicate k 0) (0 ∷ []) ∙ ap (λ zeros. path ++ zeros) (replicate_more k 0)

pub typed_whole : (bs : Context) (Γ : Typing) (t b : LfTerm) (end : LfType) (count : ℕ) → t ≡ lams count b → count ≡ length bs → Typed (with_context bs Γ) b end → Typed Γ t (pis bs end)
typed_whole bs Γ t b end count t_is count_is p =
    subst (λ x. Typed Γ x (pis bs end)) (ap (λ n. lams n b) (sym count_is) ∙ sym t_is) (typed_under bs Γ b end p)

-- what a walk answers, by its answer
pub well : (holds : Type 0) (fails : List ℕ → Type 0) (r : Option (List ℕ)) → r ≡ None → Walks holds fails r → holds
well holds fails r is w = subst (Walks holds fails) is w

pub ill : (holds : Type 0) (fails : List ℕ → Type 0) (r : Option (List ℕ)) (path : List ℕ) → r ≡ Some path → Walks holds fails r → fails (reverse path)
ill holds fails r path is w = subst (Walks holds fails) is w

pub walks_map : (holds other : Type 0) (fails others : List ℕ → Type 0) → (holds → other) → ((path : List ℕ) → fails path → others path) → (r : Option (List ℕ)) → Walks holds fails r → Walks other others r
walks_map holds other fails others f g None w = f w
walks_map holds other fails others f g (Some path) w = g (reverse path) w
