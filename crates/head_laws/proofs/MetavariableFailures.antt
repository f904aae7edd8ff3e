-- First failures go along with renamings of metavariables, both ways: the path is the same.
use Rattle.std.proofs.Common.{◌≡◌, ℕ, suc, Option, Some, None, option_map, List, [], ◌∷◌, length, refl, sym, ap, ◌∙◌, subst}
use Rattle.lf_definitions.specs.Syntax.{LfHead, LfTerm, lam, at, Spine, no_args, arg, args_count, LfType, pi, family, Context}
use Rattle.lf_definitions.specs.Renaming.{Renaming, lifted, rename, rename_spine, rename_type, rename_context}
use Rattle.lf_definitions.specs.Substitution.{Replacement, stays, push, push_all, SubstitutedSpine}
use Rattle.lf_definitions.specs.Typing.{Typing, with_variable, Typed, TypedSpine, Kinds}
use Rattle.lf_definitions.specs.Failures.{FailsTerm, fails_lam, fails_at, fails_in_body, fails_head, fails_count, fails_in_argument, fails_result, FailsSpine, fails_here, fails_later, FailsTypeFrom, fails_binder, fails_rest, fails_family, fails_family_count, fails_family_argument, FailsContextFrom, fails_entry, fails_entries}
use Rattle.lf_definitions.specs.Instantiation.{metavariables, IsInjective}
use Rattle.lf_definitions.proofs.Renaming.{rename_spine_inj, Follows, SubstitutedType-rename_type}
use Rattle.lf_definitions.proofs.TypedSpines.{length-rename_context}
use Rattle.head_laws.specs.MetavariableLaws.{HasTypesRenamed, KindsStay}
use Rattle.head_laws.proofs.Metavariables.{lifted-metavariables, KeepsApart-metavariables, Follows-push_metavariables}
use Rattle.head_laws.proofs.MetavariableTyping.{HasTypesRenamed-with_variable, head_renamed, head_unrenamed, results_renamed, results_unrenamed, Typed-renamed, TypedSpine-renamed, Typed-unrenamed, TypedSpine-unrenamed, Formed-renamed, Formed-unrenamed}
use Rattle.head_laws.proofs.Unrenamed.{unrenamed_type}

args_count-rename_spine : (ts : Spine) (ξ : Renaming) → args_count (rename_spine ξ ts) ≡ args_count ts
args_count-rename_spine no_args ξ = refl
args_count-rename_spine (arg t ts) ξ = ap suc (args_count-rename_spine ts ξ)

-- the number of arguments differs on both sides, or on neither
count_renamed : (ρ : ℕ → ℕ) (ts : Spine) (bs : List LfType) → args_count ts ≡ length bs → args_count (rename_spine (metavariables ρ) ts) ≡ length (rename_context (metavariables ρ) bs)
count_renamed ρ ts bs e = args_count-rename_spine ts (metavariables ρ) ∙ e ∙ sym (length-rename_context (metavariables ρ) bs)

count_unrenamed : (ρ : ℕ → ℕ) (ts : Spine) (bs : List LfType) → args_count (rename_spine (metavariables ρ) ts) ≡ length (rename_context (metavariables ρ) bs) → args_count ts ≡ length bs
count_unrenamed ρ ts bs e = sym (args_count-rename_spine ts (metavariables ρ)) ∙ e ∙ length-rename_context (metavariables ρ) bs

-- and so do result types
family_unrenamed : (ρ : ℕ → ℕ) → IsInjective ρ → (f g : ℕ) (xs ys : Spine) → family f (rename_spine (metavariables ρ) xs) ≡ family g (rename_spine (metavariables ρ) ys) → family f xs ≡ family g ys
family_unrenamed ρ injective f g xs ys e =
    let same : xs ≡ ys = rename_spine_inj xs ys (metavariables ρ) (KeepsApart-metavariables ρ injective) cc in
    cc

family_renamed : (ρ : ℕ → ℕ) (f g : ℕ) (xs ys : Spine) → family f xs ≡ family g ys → family f (rename_spine (metavariables ρ) xs) ≡ family g (rename_spine (metavariables ρ) ys)
family_renamed ρ f g xs ys e = ap (rename_type (metavariables ρ)) e

none_renamed : (ρ : ℕ → ℕ) (Γ Δ : Typing) → HasTypesRenamed ρ Γ Δ → (h : LfHead) → Γ h ≡ None → Δ (metavariables ρ h) ≡ None
none_renamed ρ Γ Δ renamed h e = renamed h ∙ ap (option_map (rename_type (metavariables ρ))) e

none_unrenamed : (ρ : ℕ → ℕ) (Γ Δ : Typing) → HasTypesRenamed ρ Γ Δ → (h : LfHead) → Δ (metavariables ρ h) ≡ None → Γ h ≡ None
none_unrenamed ρ Γ Δ renamed h e = each (Γ h) refl
  where
    each : (o : Option LfType) → Γ h ≡ o → Γ h ≡ None
    each None is = is
    each (Some b) is =
        let some : Δ (metavariables ρ h) ≡ Some (rename_type (metavariables ρ) b) = renamed h ∙ ap (option_map (rename_type (metavariables ρ))) is in
        absurd cc

mutual
  pub FailsTerm-renamed : {Γ : Typing} {t : LfTerm} {a : LfType} {path : List ℕ} → FailsTerm Γ t a path → (ρ : ℕ → ℕ) → IsInjective ρ → (Δ : Typing) → HasTypesRenamed ρ Γ Δ →
      FailsTerm Δ (rename (metavariables ρ) t) (rename_type (metavariables ρ) a) path
  FailsTerm-renamed (fails_lam Γ b f args) ρ injective Δ renamed = fails_lam Δ (rename (lifted (metavariables ρ)) b) f (rename_spine (metavariables ρ) args)
  FailsTerm-renamed (fails_at Γ h ts a c) ρ injective Δ renamed =
      fails_at Δ (metavariables ρ h) (rename_spine (metavariables ρ) ts) (rename_type (metavariables ρ) a) (rename_type (lifted (metavariables ρ)) c)
  FailsTerm-renamed (fails_in_body Γ b a c path p) ρ injective Δ renamed =
      let ζ = metavariables ρ in
      let Θ = with_variable (rename_type ζ a) Δ in
      fails_in_body Δ (rename (lifted ζ) b) (rename_type ζ a) (rename_type (lifted ζ) c) path
      (subst (λ ξ. FailsTerm Θ (rename ξ b) (rename_type ξ c) path) (sym (lifted-metavariables ρ)) (FailsTerm-renamed p ρ injective Θ (HasTypesRenamed-with_variable ρ Γ Δ a renamed)))
  FailsTerm-renamed (fails_head Γ h ts f results e) ρ injective Δ renamed =
      fails_head Δ (metavariables ρ h) (rename_spine (metavariables ρ) ts) f (rename_spine (metavariables ρ) results) (none_renamed ρ Γ Δ renamed h e)
  FailsTerm-renamed (fails_count Γ h ts results f g bs args e differ) ρ injective Δ renamed =
      let ζ = metavariables ρ in
      fails_count Δ (ζ h) (rename_spine ζ ts) (rename_spine ζ results) f g (rename_context ζ bs) (rename_spine ζ args) (head_renamed ρ Γ Δ renamed h bs g args e) (λ q. differ (count_unrenamed ρ ts bs q))
  FailsTerm-renamed (fails_in_argument Γ h ts results f g bs args path e count p) ρ injective Δ renamed =
      let ζ = metavariables ρ in
      fails_in_argument Δ (ζ h) (rename_spine ζ ts) (rename_spine ζ results) f g (rename_context ζ bs) (rename_spine ζ args) path (head_renamed ρ Γ Δ renamed h bs g args e) (count_renamed ρ ts bs count)
      (FailsSpine-renamed p ρ injective Δ renamed stays (λ k. refl))
  FailsTerm-renamed (fails_result Γ h ts results found f g bs args e ps result differ) ρ injective Δ renamed =
      let ζ = metavariables ρ in
      fails_result Δ (ζ h) (rename_spine ζ ts) (rename_spine ζ results) (rename_spine ζ found) f g (rename_context ζ bs) (rename_spine ζ args) (head_renamed ρ Γ Δ renamed h bs g args e)
      (TypedSpine-renamed ps ρ Δ renamed stays (λ k. refl)) (results_renamed ρ ts result) (λ q. differ (family_unrenamed ρ injective g f found results q))

  pub FailsSpine-renamed : {Γ : Typing} {σ : Replacement} {ts : Spine} {bs : List LfType} {child : ℕ} {path : List ℕ} → FailsSpine Γ σ ts bs child path → (ρ : ℕ → ℕ) → IsInjective ρ → (Δ : Typing) → HasTypesRenamed ρ Γ Δ →
      (τ : Replacement) → Follows (metavariables ρ) (metavariables ρ) σ τ → FailsSpine Δ τ (rename_spine (metavariables ρ) ts) (rename_context (metavariables ρ) bs) child path
  FailsSpine-renamed (fails_here Γ σ t ts a c rest child path result p) ρ injective Δ renamed τ follows =
      let ζ = metavariables ρ in
      fails_here Δ τ (rename ζ t) (rename_spine ζ ts) (rename_type ζ a) (rename_type ζ c) (rename_context (lifted ζ) rest) child path (SubstitutedType-rename_type result ζ ζ τ follows)
      (FailsTerm-renamed p ρ injective Δ renamed)
  FailsSpine-renamed (fails_later Γ σ t ts a c rest child path result q p) ρ injective Δ renamed τ follows =
      let ζ = metavariables ρ in
      fails_later Δ τ (rename ζ t) (rename_spine ζ ts) (rename_type ζ a) (rename_type ζ c) (rename_context (lifted ζ) rest) child path (SubstitutedType-rename_type result ζ ζ τ follows)
      (Typed-renamed q ρ Δ renamed)
      (subst (λ ξ. FailsSpine Δ (push (rename ζ t) τ) (rename_spine ζ ts) (rename_context ξ rest) (suc child) path) (sym (lifted-metavariables ρ))
      (FailsSpine-renamed p ρ injective Δ renamed (push (rename ζ t) τ) (Follows-push_metavariables ρ σ τ t follows)))

mutual
  pub FailsTerm-unrenamed : (t : LfTerm) (a : LfType) {path : List ℕ} (ρ : ℕ → ℕ) → IsInjective ρ → (Γ Δ : Typing) → HasTypesRenamed ρ Γ Δ → FailsTerm Δ (rename (metavariables ρ) t) (rename_type (metavariables ρ) a) path →
      FailsTerm Γ t a path
  FailsTerm-unrenamed (lam b) (family f args) ρ injective Γ Δ renamed (fails_lam _ _ _ _) = fails_lam Γ b f args
  FailsTerm-unrenamed (lam b) (pi a c) ρ injective Γ Δ renamed (fails_in_body _ _ _ _ path p) =
      let Θ = with_variable (rename_type (metavariables ρ) a) Δ in
      fails_in_body Γ b a c path
      (FailsTerm-unrenamed b c ρ injective (with_variable a Γ) Θ (HasTypesRenamed-with_variable ρ Γ Δ a renamed)
      (subst (λ ξ. FailsTerm Θ (rename ξ b) (rename_type ξ c) path) (lifted-metavariables ρ) p))
  FailsTerm-unrenamed (at h ts) (pi a c) ρ injective Γ Δ renamed (fails_at _ _ _ _ _) = fails_at Γ h ts a c
  FailsTerm-unrenamed (at h ts) (family f rs) ρ injective Γ Δ renamed (fails_head _ _ _ _ _ e) = fails_head Γ h ts f rs (none_unrenamed ρ Γ Δ renamed h e)
  FailsTerm-unrenamed (at h ts) (family f rs) ρ injective Γ Δ renamed (fails_count _ _ _ _ _ g bs args e differ) =
      let head = head_unrenamed ρ Γ Δ renamed h bs g args e in
      fails_count Γ h ts rs f g head.binders head.arguments head.has_type (λ q. differ (count_renamed ρ ts head.binders q ∙ ap length (sym head.renamed_binders)))
  FailsTerm-unrenamed (at h ts) (family f rs) ρ injective Γ Δ renamed (fails_in_argument _ _ _ _ _ g bs args path e count p) =
      let head = head_unrenamed ρ Γ Δ renamed h bs g args e in
      fails_in_argument Γ h ts rs f g head.binders head.arguments path head.has_type (count_unrenamed ρ ts head.binders (count ∙ ap length head.renamed_binders))
      (FailsSpine-unrenamed ts head.binders ρ injective Γ Δ renamed stays stays (λ k. refl)
      (subst (λ xs. FailsSpine Δ stays (rename_spine (metavariables ρ) ts) xs 0 path) head.renamed_binders p))
  FailsTerm-unrenamed (at h ts) (family f rs) ρ injective Γ Δ renamed (fails_result _ _ _ _ found _ g bs args e ps result differ) =
      let ζ = metavariables ρ in
      let head = head_unrenamed ρ Γ Δ renamed h bs g args e in
      let r = results_unrenamed ρ ts head.arguments (subst (λ xs. SubstitutedSpine (push_all (rename_spine ζ ts) stays) xs found) head.renamed_arguments result) in
      fails_result Γ h ts rs r.0 f g head.binders head.arguments head.has_type
      (TypedSpine-unrenamed ts head.binders ρ injective Γ Δ renamed stays stays (λ k. refl) (subst (TypedSpine Δ stays (rename_spine ζ ts)) head.renamed_binders ps))
      r.2 (λ q. differ (ap (family g) r.1 ∙ family_renamed ρ g f r.0 rs q))

  pub FailsSpine-unrenamed : (ts : Spine) (bs : List LfType) {child : ℕ} {path : List ℕ} (ρ : ℕ → ℕ) → IsInjective ρ → (Γ Δ : Typing) → HasTypesRenamed ρ Γ Δ →
      (σ τ : Replacement) → Follows (metavariables ρ) (metavariables ρ) σ τ → FailsSpine Δ τ (rename_spine (metavariables ρ) ts) (rename_context (metavariables ρ) bs) child path → FailsSpine Γ σ ts bs child path
  FailsSpine-unrenamed no_args [] ρ injective Γ Δ renamed σ τ follows p = elim p [ ]
  FailsSpine-unrenamed no_args (b ∷ bs) ρ injective Γ Δ renamed σ τ follows p = elim p [ ]
  FailsSpine-unrenamed (arg t ts) [] ρ injective Γ Δ renamed σ τ follows p = elim p [ ]
  FailsSpine-unrenamed (arg t ts) (b ∷ bs) ρ injective Γ Δ renamed σ τ follows (fails_here _ _ _ _ _ c _ child path result p) =
      let ζ = metavariables ρ in
      let r = unrenamed_type b ζ ζ σ τ follows result in
      fails_here Γ σ t ts b r.0 bs child path r.2 (FailsTerm-unrenamed t r.0 ρ injective Γ Δ renamed (subst (λ x. FailsTerm Δ (rename ζ t) x path) r.1 p))
  FailsSpine-unrenamed (arg t ts) (b ∷ bs) ρ injective Γ Δ renamed σ τ follows (fails_later _ _ _ _ _ c _ child path result q p) =
      let ζ = metavariables ρ in
      let r = unrenamed_type b ζ ζ σ τ follows result in
      fails_later Γ σ t ts b r.0 bs child path r.2 (Typed-unrenamed t r.0 ρ injective Γ Δ renamed (subst (Typed Δ (rename ζ t)) r.1 q))
      (FailsSpine-unrenamed ts bs ρ injective Γ Δ renamed (push t σ) (push (rename ζ t) τ) (Follows-push_metavariables ρ σ τ t follows)
      (subst (λ ξ. FailsSpine Δ (push (rename ζ t) τ) (rename_spine ζ ts) (rename_context ξ bs) (suc child) path) (lifted-metavariables ρ) p))

pub FailsTypeFrom-renamed : {kinds : Kinds} {Γ : Typing} {a : LfType} {child : ℕ} {path : List ℕ} → FailsTypeFrom kinds Γ a child path → (ρ : ℕ → ℕ) → IsInjective ρ → (Δ : Typing) → HasTypesRenamed ρ Γ Δ → KindsStay ρ kinds →
    FailsTypeFrom kinds Δ (rename_type (metavariables ρ) a) child path
FailsTypeFrom-renamed (fails_binder kinds Γ a b child path p) ρ injective Δ renamed fixed =
    fails_binder kinds Δ (rename_type (metavariables ρ) a) (rename_type (lifted (metavariables ρ)) b) child path (FailsTypeFrom-renamed p ρ injective Δ renamed fixed)
FailsTypeFrom-renamed (fails_rest kinds Γ a b child path q p) ρ injective Δ renamed fixed =
    let ζ = metavariables ρ in
    let Θ = with_variable (rename_type ζ a) Δ in
    fails_rest kinds Δ (rename_type ζ a) (rename_type (lifted ζ) b) child path (Formed-renamed q ρ Δ renamed fixed)
    (subst (λ ξ. FailsTypeFrom kinds Θ (rename_type ξ b) (suc child) path) (sym (lifted-metavariables ρ)) (FailsTypeFrom-renamed p ρ injective Θ (HasTypesRenamed-with_variable ρ Γ Δ a renamed) fixed))
FailsTypeFrom-renamed (fails_family kinds Γ f args child e) ρ injective Δ renamed fixed = fails_family kinds Δ f (rename_spine (metavariables ρ) args) child e
FailsTypeFrom-renamed (fails_family_count kinds Γ f args child bs e differ) ρ injective Δ renamed fixed =
    fails_family_count kinds Δ f (rename_spine (metavariables ρ) args) child bs e (λ q. differ (sym (args_count-rename_spine args (metavariables ρ)) ∙ q))
FailsTypeFrom-renamed (fails_family_argument kinds Γ f args child bs path e count p) ρ injective Δ renamed fixed =
    let ζ = metavariables ρ in
    fails_family_argument kinds Δ f (rename_spine ζ args) child bs path e (args_count-rename_spine args ζ ∙ count)
    (subst (λ xs. FailsSpine Δ stays (rename_spine ζ args) xs child path) (fixed f bs e) (FailsSpine-renamed p ρ injective Δ renamed stays (λ h. refl)))

pub FailsTypeFrom-unrenamed : (a : LfType) {kinds : Kinds} {child : ℕ} {path : List ℕ} (ρ : ℕ → ℕ) → IsInjective ρ → (Γ Δ : Typing) → HasTypesRenamed ρ Γ Δ → KindsStay ρ kinds →
    FailsTypeFrom kinds Δ (rename_type (metavariables ρ) a) child path → FailsTypeFrom kinds Γ a child path
FailsTypeFrom-unrenamed (pi a b) {kinds} ρ injective Γ Δ renamed fixed (fails_binder _ _ _ _ child path p) = fails_binder kinds Γ a b child path (FailsTypeFrom-unrenamed a ρ injective Γ Δ renamed fixed p)
FailsTypeFrom-unrenamed (pi a b) {kinds} ρ injective Γ Δ renamed fixed (fails_rest _ _ _ _ child path q p) =
    let Θ = with_variable (rename_type (metavariables ρ) a) Δ in
    fails_rest kinds Γ a b child path (Formed-unrenamed a ρ injective Γ Δ renamed fixed q)
    (FailsTypeFrom-unrenamed b ρ injective (with_variable a Γ) Θ (HasTypesRenamed-with_variable ρ Γ Δ a renamed) fixed
    (subst (λ ξ. FailsTypeFrom kinds Θ (rename_type ξ b) (suc child) path) (lifted-metavariables ρ) p))
FailsTypeFrom-unrenamed (family f args) {kinds} ρ injective Γ Δ renamed fixed (fails_family _ _ _ _ child e) = fails_family kinds Γ f args child e
FailsTypeFrom-unrenamed (family f args) {kinds} ρ injective Γ Δ renamed fixed (fails_family_count _ _ _ _ child bs e differ) =
    fails_family_count kinds Γ f args child bs e (λ q. differ (args_count-rename_spine args (metavariables ρ) ∙ q))
FailsTypeFrom-unrenamed (family f args) {kinds} ρ injective Γ Δ renamed fixed (fails_family_argument _ _ _ _ child bs path e count p) =
    let ζ = metavariables ρ in
    fails_family_argument kinds Γ f args child bs path e (sym (args_count-rename_spine args ζ) ∙ count)
    (FailsSpine-unrenamed args bs ρ injective Γ Δ renamed stays stays (λ h. refl) (subst (λ xs. FailsSpine Δ stays (rename_spine ζ args) xs child path) (sym (fixed f bs e)) p))

pub FailsContextFrom-renamed : {kinds : Kinds} {Γ : Typing} {ctx : Context} {child : ℕ} {path : List ℕ} → FailsContextFrom kinds Γ ctx child path → (ρ : ℕ → ℕ) → IsInjective ρ → (Δ : Typing) → HasTypesRenamed ρ Γ Δ →
    KindsStay ρ kinds → FailsContextFrom kinds Δ (rename_context (metavariables ρ) ctx) child path
FailsContextFrom-renamed (fails_entry kinds Γ a rest child path p) ρ injective Δ renamed fixed =
    fails_entry kinds Δ (rename_type (metavariables ρ) a) (rename_context (lifted (metavariables ρ)) rest) child path (FailsTypeFrom-renamed p ρ injective Δ renamed fixed)
FailsContextFrom-renamed (fails_entries kinds Γ a rest child path q p) ρ injective Δ renamed fixed =
    let ζ = metavariables ρ in
    let Θ = with_variable (rename_type ζ a) Δ in
    fails_entries kinds Δ (rename_type ζ a) (rename_context (lifted ζ) rest) child path (Formed-renamed q ρ Δ renamed fixed)
    (subst (λ ξ. FailsContextFrom kinds Θ (rename_context ξ rest) (suc child) path) (sym (lifted-metavariables ρ)) (FailsContextFrom-renamed p ρ injective Θ (HasTypesRenamed-with_variable ρ Γ Δ a renamed) fixed))

pub FailsContextFrom-unrenamed : (ctx : Context) {kinds : Kinds} {child : ℕ} {path : List ℕ} (ρ : ℕ → ℕ) → IsInjective ρ → (Γ Δ : Typing) → HasTypesRenamed ρ Γ Δ → KindsStay ρ kinds →
    FailsContextFrom kinds Δ (rename_context (metavariables ρ) ctx) child path → FailsContextFrom kinds Γ ctx child path
FailsContextFrom-unrenamed [] ρ injective Γ Δ renamed fixed p = elim p [ ]
FailsContextFrom-unrenamed (a ∷ rest) {kinds} ρ injective Γ Δ renamed fixed (fails_entry _ _ _ _ child path p) = fails_entry kinds Γ a rest child path (FailsTypeFrom-unrenamed a ρ injective Γ Δ renamed fixed p)
FailsContextFrom-unrenamed (a ∷ rest) {kinds} ρ injective Γ Δ renamed fixed (fails_entries _ _ _ _ child path q p) =
    let Θ = with_variable (rename_type (metavariables ρ) a) Δ in
    fails_entries kinds Γ a rest child path (Formed-unrenamed a ρ injective Γ Δ renamed fixed q)
    (FailsContextFrom-unrenamed rest ρ injective (with_variable a Γ) Θ (HasTypesRenamed-with_variable ρ Γ Δ a renamed) fixed
    (subst (λ ξ. FailsContextFrom kinds Θ (rename_context ξ rest) (suc child) path) (lifted-metavariables ρ) p))
