-- A spine that is typed argument by argument, and where one of its arguments fails.
use Rattle.std.proofs.Common.{◌≡◌, ℕ, suc, ◌+◌, List, [], ◌∷◌, ◌++◌, length, refl, ap, subst, arith}
use Rattle.lf_definitions.specs.Syntax.{LfHead, LfTerm, Spine, no_args, arg, LfType, Context, args_count, joined}
use Rattle.lf_definitions.specs.Renaming.{Renaming, lifted, lifted_by, rename_spine, rename_type, rename_context}
use Rattle.lf_definitions.specs.Substitution.{stays, rename_image, Replacement, push, push_all, SubstitutedType, SubstitutedSpine}
use Rattle.lf_definitions.specs.Typing.{Typing, Typed, TypedSpine, typed_none, typed_arg}
use Rattle.lf_definitions.specs.Failures.{FailsTerm, FailsSpine, fails_here, fails_later}
use Rattle.lf_definitions.proofs.Renaming.{same_head, rename_type-same_head, rename_spine-same_head, SubstitutedType-rename_type, SubstitutedSpine-rename_spine}
use Rattle.lf_definitions.proofs.Weakening.{Follows-push_all}

-- one more argument
pub TypedSpine-more : {Γ : Typing} {σ : Replacement} {ts : Spine} {bs : List LfType} → TypedSpine Γ σ ts bs → (t : LfTerm) (a c : LfType) → SubstitutedType (push_all ts σ) a c → Typed Γ t c →
    TypedSpine Γ σ (joined ts (arg t no_args)) (bs ++ a ∷ [])
TypedSpine-more typed_none t a c result p = typed_arg c result p typed_none
TypedSpine-more (typed_arg d r q qs) t a c result p = typed_arg d r q (TypedSpine-more qs t a c result p)

-- the first argument that fails, after those that are typed
pub FailsSpine-at : {Γ : Typing} {σ : Replacement} {ts : Spine} {bs : List LfType} → TypedSpine Γ σ ts bs → (t : LfTerm) (a c : LfType) → SubstitutedType (push_all ts σ) a c →
    (rest : Spine) (more : List LfType) (child : ℕ) (path : List ℕ) → FailsTerm Γ t c path → FailsSpine Γ σ (joined ts (arg t rest)) (bs ++ a ∷ more) child ((child + args_count ts) ∷ path)
FailsSpine-at {Γ} {σ} typed_none t a c result rest more child path fails =
    subst (λ n. FailsSpine Γ σ (arg t rest) (a ∷ more) child (n ∷ path)) (omega arith) (fails_here Γ σ t rest a c more child path result fails)
FailsSpine-at {Γ} {σ} (typed_arg {t = u} {ts = us} {a = b} {rest = bs} d r q qs) t a c result rest more child path fails =
    fails_later Γ σ u (joined us (arg t rest)) b d (bs ++ a ∷ more) child ((child + suc (args_count us)) ∷ path) r q
    (subst (λ n. FailsSpine Γ (push u σ) (joined us (arg t rest)) (bs ++ a ∷ more) (suc child) (n ∷ path)) (omega arith)
    (FailsSpine-at qs t a c result rest more (suc child) path fails))

-- A list put for the innermost variables of what was renamed outside them, or put while the variables outside are renamed: it is the same.
pub SubstitutedType-renamed_outside : (sub : Spine) (ξ : Renaming) (a c : LfType) → SubstitutedType (push_all sub (λ h. stays (ξ h))) a c →
    SubstitutedType (push_all sub stays) (rename_type (lifted_by (args_count sub) ξ) a) c
SubstitutedType-renamed_outside sub ξ a c result =
    subst (SubstitutedType (push_all sub stays) (rename_type (lifted_by (args_count sub) ξ) a)) (rename_type-same_head c)
    (SubstitutedType-rename_type result (lifted_by (args_count sub) ξ) same_head (push_all sub stays)
    (subst (λ vs. (h : LfHead) → push_all vs stays (lifted_by (args_count sub) ξ h) ≡ rename_image same_head (push_all sub (λ k. stays (ξ k)) h)) (rename_spine-same_head sub)
    (Follows-push_all sub ξ same_head (λ h. stays (ξ h)) stays (λ h. refl))))

pub SubstitutedSpine-renamed_outside : (sub : Spine) (ξ : Renaming) (ts vs : Spine) → SubstitutedSpine (push_all sub (λ h. stays (ξ h))) ts vs →
    SubstitutedSpine (push_all sub stays) (rename_spine (lifted_by (args_count sub) ξ) ts) vs
SubstitutedSpine-renamed_outside sub ξ ts vs result =
    subst (SubstitutedSpine (push_all sub stays) (rename_spine (lifted_by (args_count sub) ξ) ts)) (rename_spine-same_head vs)
    (SubstitutedSpine-rename_spine result (lifted_by (args_count sub) ξ) same_head (push_all sub stays)
    (subst (λ us. (h : LfHead) → push_all us stays (lifted_by (args_count sub) ξ h) ≡ rename_image same_head (push_all sub (λ k. stays (ξ k)) h)) (rename_spine-same_head sub)
    (Follows-push_all sub ξ same_head (λ h. stays (ξ h)) stays (λ h. refl))))

pub length-rename_context : (ξ : Renaming) (ctx : Context) → length (rename_context ξ ctx) ≡ length ctx
length-rename_context ξ [] = refl
length-rename_context ξ (a ∷ ctx) = ap suc (length-rename_context (lifted ξ) ctx)

pub rename_context-append : (prefix more : Context) (ξ : Renaming) → rename_context ξ (prefix ++ more) ≡ rename_context ξ prefix ++ rename_context (lifted_by (length prefix) ξ) more
rename_context-append [] more ξ = refl
rename_context-append (a ∷ prefix) more ξ = ap (λ rest. rename_type ξ a ∷ rest) (rename_context-append prefix more (lifted ξ))
