-- Typing goes along with renamings of metavariables, both ways.
use Rattle.std.proofs.Common.{◌≡◌, ℕ, zero, suc, Option, Some, None, option_map, List, [], ◌∷◌, refl, sym, ap, ◌∙◌, subst}
use Rattle.lf_definitions.specs.Syntax.{LfHead, bound, constant, metavariable, LfTerm, lam, at, Spine, no_args, arg, LfType, pi, family, conclusion, Context, pis}
use Rattle.lf_definitions.specs.Renaming.{rename, rename_spine, rename_type, rename_context, raise_type}
use Rattle.lf_definitions.specs.Substitution.{Replacement, stays, push, push_all, SubstitutedSpine}
use Rattle.lf_definitions.specs.Typing.{Typing, with_variable, Typed, typed_lam, typed_at, TypedSpine, typed_none, typed_arg, Kinds, Formed, formed_pi, formed_family, FormedContext, formed_empty, formed_entry}
use Rattle.lf_definitions.specs.Instantiation.{metavariables, IsInjective}
use Rattle.lf_definitions.proofs.Renaming.{rename_spine_inj, Follows, SubstitutedType-rename_type, SubstitutedSpine-rename_spine}
use Rattle.lf_definitions.proofs.Failures.{binders_of, family_args_of, binders_of-pis, conclusion-pis, family_args_of-pis}
use Rattle.lf_definitions.proofs.Decisions.{pis-binders_of}
use Rattle.lf_definitions.proofs.Options.{Some-Some}
use Rattle.head_laws.specs.MetavariableLaws.{HasTypesRenamed, KindsStay}
use Rattle.head_laws.proofs.Metavariables.{lifted-metavariables, rename_type-raise, KeepsApart-metavariables, rename_type-pis_metavariables, Follows-push_metavariables}
use Rattle.head_laws.proofs.Unrenamed.{unrenamed_spine, unrenamed_type}

pub HasTypesRenamed-with_variable : (ρ : ℕ → ℕ) (Γ Δ : Typing) (a : LfType) → HasTypesRenamed ρ Γ Δ → HasTypesRenamed ρ (with_variable a Γ) (with_variable (rename_type (metavariables ρ) a) Δ)
HasTypesRenamed-with_variable ρ Γ Δ a renamed (bound zero) = ap Some (sym (rename_type-raise ρ a))
HasTypesRenamed-with_variable ρ Γ Δ a renamed (bound (suc n)) = ap (option_map raise_type) (renamed (bound n)) ∙ each (Γ (bound n))
  where
    each : (o : Option LfType) → option_map raise_type (option_map (rename_type (metavariables ρ)) o) ≡ option_map (rename_type (metavariables ρ)) (option_map raise_type o)
    each None = refl
    each (Some b) = ap Some (sym (rename_type-raise ρ b))
HasTypesRenamed-with_variable ρ Γ Δ a renamed (constant c) = renamed (constant c)
HasTypesRenamed-with_variable ρ Γ Δ a renamed (metavariable g) = renamed (metavariable g)

-- a head's type, renamed
pub head_renamed : (ρ : ℕ → ℕ) (Γ Δ : Typing) → HasTypesRenamed ρ Γ Δ → (h : LfHead) (bs : List LfType) (f : ℕ) (args : Spine) → Γ h ≡ Some (pis bs (family f args)) →
    Δ (metavariables ρ h) ≡ Some (pis (rename_context (metavariables ρ) bs) (family f (rename_spine (metavariables ρ) args)))
head_renamed ρ Γ Δ renamed h bs f args e = renamed h ∙ ap (option_map (rename_type (metavariables ρ))) e ∙ ap Some (rename_type-pis_metavariables ρ bs (family f args))

-- and the type of which it is the renamed one
pub record HeadType (ρ : ℕ → ℕ) (Γ : Typing) (h : LfHead) (bs : List LfType) (f : ℕ) (args : Spine) : Type 0 where
  pub binders : List LfType
  pub arguments : Spine
  pub has_type : Γ h ≡ Some (pis binders (family f arguments))
  pub renamed_binders : bs ≡ rename_context (metavariables ρ) binders
  pub renamed_arguments : args ≡ rename_spine (metavariables ρ) arguments

pub head_unrenamed : (ρ : ℕ → ℕ) (Γ Δ : Typing) → HasTypesRenamed ρ Γ Δ → (h : LfHead) (bs : List LfType) (f : ℕ) (args : Spine) → Δ (metavariables ρ h) ≡ Some (pis bs (family f args)) → HeadType ρ Γ h bs f args
head_unrenamed ρ Γ Δ renamed h bs f args e = each (Γ h) refl
  where
    each : (o : Option LfType) → Γ h ≡ o → HeadType ρ Γ h bs f args
    each None is =
        let none : Δ (metavariables ρ h) ≡ None = renamed h ∙ ap (option_map (rename_type (metavariables ρ))) is in
        absurd cc
    each (Some b) is =
        let ζ = metavariables ρ in
        let type_is : rename_type ζ b ≡ pis bs (family f args) = Some-Some (sym (renamed h ∙ ap (option_map (rename_type ζ)) is) ∙ e) in
        let parts : pis (rename_context ζ (binders_of b)) (family (conclusion b) (rename_spine ζ (family_args_of b))) ≡ pis bs (family f args) =
        sym (rename_type-pis_metavariables ρ (binders_of b) (family (conclusion b) (family_args_of b))) ∙ ap (rename_type ζ) (pis-binders_of b) ∙ type_is in
        let same_binders : bs ≡ rename_context ζ (binders_of b) =
        sym (binders_of-pis bs f args) ∙ ap binders_of (sym parts) ∙ binders_of-pis (rename_context ζ (binders_of b)) (conclusion b) (rename_spine ζ (family_args_of b)) in
        let same_family : conclusion b ≡ f =
        sym (conclusion-pis (rename_context ζ (binders_of b)) (conclusion b) (rename_spine ζ (family_args_of b))) ∙ ap conclusion parts ∙ conclusion-pis bs f args in
        let same_args : args ≡ rename_spine ζ (family_args_of b) =
        sym (family_args_of-pis bs f args) ∙ ap family_args_of (sym parts) ∙ family_args_of-pis (rename_context ζ (binders_of b)) (conclusion b) (rename_spine ζ (family_args_of b)) in
        record {
          binders = binders_of b;
          arguments = family_args_of b;
          has_type = is ∙ ap Some (sym (pis-binders_of b) ∙ ap (λ n. pis (binders_of b) (family n (family_args_of b))) same_family);
          renamed_binders = same_binders;
          renamed_arguments = same_args;
        }

pub Follows-push_all_metavariables : (ts : Spine) (ρ : ℕ → ℕ) (σ τ : Replacement) → Follows (metavariables ρ) (metavariables ρ) σ τ →
    Follows (metavariables ρ) (metavariables ρ) (push_all ts σ) (push_all (rename_spine (metavariables ρ) ts) τ)
Follows-push_all_metavariables no_args ρ σ τ follows = follows
Follows-push_all_metavariables (arg t ts) ρ σ τ follows =
    Follows-push_all_metavariables ts ρ (push t σ) (push (rename (metavariables ρ) t) τ) (Follows-push_metavariables ρ σ τ t follows)

-- the arguments of a head's result
pub results_renamed : (ρ : ℕ → ℕ) (ts : Spine) {args rs : Spine} → SubstitutedSpine (push_all ts stays) args rs →
    SubstitutedSpine (push_all (rename_spine (metavariables ρ) ts) stays) (rename_spine (metavariables ρ) args) (rename_spine (metavariables ρ) rs)
results_renamed ρ ts result =
    SubstitutedSpine-rename_spine result (metavariables ρ) (metavariables ρ) (push_all (rename_spine (metavariables ρ) ts) stays) (Follows-push_all_metavariables ts ρ stays stays (λ h. refl))

pub results_unrenamed : (ρ : ℕ → ℕ) (ts : Spine) (args : Spine) {xs : Spine} → SubstitutedSpine (push_all (rename_spine (metavariables ρ) ts) stays) (rename_spine (metavariables ρ) args) xs →
    (rs : Spine) × (xs ≡ rename_spine (metavariables ρ) rs) × SubstitutedSpine (push_all ts stays) args rs
results_unrenamed ρ ts args result = unrenamed_spine result (metavariables ρ) (metavariables ρ) (push_all ts stays) (Follows-push_all_metavariables ts ρ stays stays (λ h. refl)) args refl

mutual
  pub Typed-renamed : {Γ : Typing} {t : LfTerm} {a : LfType} → Typed Γ t a → (ρ : ℕ → ℕ) (Δ : Typing) → HasTypesRenamed ρ Γ Δ → Typed Δ (rename (metavariables ρ) t) (rename_type (metavariables ρ) a)
  Typed-renamed (typed_lam {Γ = Γ} {b = b} {a = a} {c = c} p) ρ Δ renamed =
      let Θ = with_variable (rename_type (metavariables ρ) a) Δ in
      typed_lam (subst (λ ξ. Typed Θ (rename ξ b) (rename_type ξ c)) (sym (lifted-metavariables ρ)) (Typed-renamed p ρ Θ (HasTypesRenamed-with_variable ρ Γ Δ a renamed)))
  Typed-renamed (typed_at {Γ = Γ} {h = h} {ts = ts} {f = f} bs args e ps result) ρ Δ renamed =
      typed_at (rename_context (metavariables ρ) bs) (rename_spine (metavariables ρ) args) (head_renamed ρ Γ Δ renamed h bs f args e)
      (TypedSpine-renamed ps ρ Δ renamed stays (λ k. refl)) (results_renamed ρ ts result)

  pub TypedSpine-renamed : {Γ : Typing} {σ : Replacement} {ts : Spine} {bs : List LfType} → TypedSpine Γ σ ts bs → (ρ : ℕ → ℕ) (Δ : Typing) → HasTypesRenamed ρ Γ Δ →
      (τ : Replacement) → Follows (metavariables ρ) (metavariables ρ) σ τ → TypedSpine Δ τ (rename_spine (metavariables ρ) ts) (rename_context (metavariables ρ) bs)
  TypedSpine-renamed typed_none ρ Δ renamed τ follows = typed_none
  TypedSpine-renamed (typed_arg {σ = σ} {t = t} {ts = ts} {rest = bs} c result p ps) ρ Δ renamed τ follows =
      let ζ = metavariables ρ in
      typed_arg (rename_type ζ c) (SubstitutedType-rename_type result ζ ζ τ follows) (Typed-renamed p ρ Δ renamed)
      (subst (λ ξ. TypedSpine Δ (push (rename ζ t) τ) (rename_spine ζ ts) (rename_context ξ bs)) (sym (lifted-metavariables ρ))
      (TypedSpine-renamed ps ρ Δ renamed (push (rename ζ t) τ) (Follows-push_metavariables ρ σ τ t follows)))

mutual
  pub Typed-unrenamed : (t : LfTerm) (a : LfType) (ρ : ℕ → ℕ) → IsInjective ρ → (Γ Δ : Typing) → HasTypesRenamed ρ Γ Δ → Typed Δ (rename (metavariables ρ) t) (rename_type (metavariables ρ) a) → Typed Γ t a
  Typed-unrenamed (lam b) (pi a c) ρ injective Γ Δ renamed (typed_lam p) =
      let Θ = with_variable (rename_type (metavariables ρ) a) Δ in
      typed_lam (Typed-unrenamed b c ρ injective (with_variable a Γ) Θ (HasTypesRenamed-with_variable ρ Γ Δ a renamed)
      (subst (λ ξ. Typed Θ (rename ξ b) (rename_type ξ c)) (lifted-metavariables ρ) p))
  Typed-unrenamed (lam b) (family f args) ρ injective Γ Δ renamed p = elim p [ ]
  Typed-unrenamed (at h ts) (pi a c) ρ injective Γ Δ renamed p = elim p [ ]
  Typed-unrenamed (at h ts) (family f rs) ρ injective Γ Δ renamed (typed_at bs args e ps result) =
      let ζ = metavariables ρ in
      let head = head_unrenamed ρ Γ Δ renamed h bs f args e in
      let found = results_unrenamed ρ ts head.arguments
      (subst (λ xs. SubstitutedSpine (push_all (rename_spine ζ ts) stays) xs (rename_spine ζ rs)) head.renamed_arguments result) in
      let same : rs ≡ found.0 = rename_spine_inj rs found.0 ζ (KeepsApart-metavariables ρ injective) found.1 in
      typed_at head.binders head.arguments head.has_type
      (TypedSpine-unrenamed ts head.binders ρ injective Γ Δ renamed stays stays (λ k. refl) (subst (TypedSpine Δ stays (rename_spine ζ ts)) head.renamed_binders ps))
      (subst (SubstitutedSpine (push_all ts stays) head.arguments) (sym same) found.2)

  pub TypedSpine-unrenamed : (ts : Spine) (bs : List LfType) (ρ : ℕ → ℕ) → IsInjective ρ → (Γ Δ : Typing) → HasTypesRenamed ρ Γ Δ →
      (σ τ : Replacement) → Follows (metavariables ρ) (metavariables ρ) σ τ → TypedSpine Δ τ (rename_spine (metavariables ρ) ts) (rename_context (metavariables ρ) bs) → TypedSpine Γ σ ts bs
  TypedSpine-unrenamed no_args [] ρ injective Γ Δ renamed σ τ follows typed_none = typed_none
  TypedSpine-unrenamed no_args (b ∷ bs) ρ injective Γ Δ renamed σ τ follows p = elim p [ ]
  TypedSpine-unrenamed (arg t ts) [] ρ injective Γ Δ renamed σ τ follows p = elim p [ ]
  TypedSpine-unrenamed (arg t ts) (b ∷ bs) ρ injective Γ Δ renamed σ τ follows (typed_arg c result p ps) =
      let ζ = metavariables ρ in
      let r = unrenamed_type b ζ ζ σ τ follows result in
      typed_arg r.0 r.2 (Typed-unrenamed t r.0 ρ injective Γ Δ renamed (subst (Typed Δ (rename ζ t)) r.1 p))
      (TypedSpine-unrenamed ts bs ρ injective Γ Δ renamed (push t σ) (push (rename ζ t) τ) (Follows-push_metavariables ρ σ τ t follows)
      (subst (λ ξ. TypedSpine Δ (push (rename ζ t) τ) (rename_spine ζ ts) (rename_context ξ bs)) (lifted-metavariables ρ) ps))

pub Formed-renamed : {kinds : Kinds} {Γ : Typing} {a : LfType} → Formed kinds Γ a → (ρ : ℕ → ℕ) (Δ : Typing) → HasTypesRenamed ρ Γ Δ → KindsStay ρ kinds → Formed kinds Δ (rename_type (metavariables ρ) a)
Formed-renamed {kinds} (formed_pi {Γ = Γ} {a = a} {b = b} p q) ρ Δ renamed fixed =
    let Θ = with_variable (rename_type (metavariables ρ) a) Δ in
    formed_pi (Formed-renamed p ρ Δ renamed fixed)
    (subst (λ ξ. Formed kinds Θ (rename_type ξ b)) (sym (lifted-metavariables ρ)) (Formed-renamed q ρ Θ (HasTypesRenamed-with_variable ρ Γ Δ a renamed) fixed))
Formed-renamed (formed_family {f = f} {args = ts} bs e ps) ρ Δ renamed fixed =
    formed_family bs e (subst (TypedSpine Δ stays (rename_spine (metavariables ρ) ts)) (fixed f bs e) (TypedSpine-renamed ps ρ Δ renamed stays (λ h. refl)))

pub Formed-unrenamed : (a : LfType) {kinds : Kinds} (ρ : ℕ → ℕ) → IsInjective ρ → (Γ Δ : Typing) → HasTypesRenamed ρ Γ Δ → KindsStay ρ kinds → Formed kinds Δ (rename_type (metavariables ρ) a) → Formed kinds Γ a
Formed-unrenamed (pi a b) {kinds} ρ injective Γ Δ renamed fixed (formed_pi p q) =
    let Θ = with_variable (rename_type (metavariables ρ) a) Δ in
    formed_pi (Formed-unrenamed a ρ injective Γ Δ renamed fixed p)
    (Formed-unrenamed b ρ injective (with_variable a Γ) Θ (HasTypesRenamed-with_variable ρ Γ Δ a renamed) fixed (subst (λ ξ. Formed kinds Θ (rename_type ξ b)) (lifted-metavariables ρ) q))
Formed-unrenamed (family f ts) ρ injective Γ Δ renamed fixed (formed_family bs e ps) =
    formed_family bs e (TypedSpine-unrenamed ts bs ρ injective Γ Δ renamed stays stays (λ h. refl) (subst (TypedSpine Δ stays (rename_spine (metavariables ρ) ts)) (sym (fixed f bs e)) ps))

pub FormedContext-renamed : {kinds : Kinds} {Γ : Typing} {ctx : Context} → FormedContext kinds Γ ctx → (ρ : ℕ → ℕ) (Δ : Typing) → HasTypesRenamed ρ Γ Δ → KindsStay ρ kinds →
    FormedContext kinds Δ (rename_context (metavariables ρ) ctx)
FormedContext-renamed formed_empty ρ Δ renamed fixed = formed_empty
FormedContext-renamed {kinds} (formed_entry {Γ = Γ} {a = a} {rest = rest} p q) ρ Δ renamed fixed =
    let Θ = with_variable (rename_type (metavariables ρ) a) Δ in
    formed_entry (Formed-renamed p ρ Δ renamed fixed)
    (subst (λ ξ. FormedContext kinds Θ (rename_context ξ rest)) (sym (lifted-metavariables ρ)) (FormedContext-renamed q ρ Θ (HasTypesRenamed-with_variable ρ Γ Δ a renamed) fixed))

pub FormedContext-unrenamed : (ctx : Context) {kinds : Kinds} (ρ : ℕ → ℕ) → IsInjective ρ → (Γ Δ : Typing) → HasTypesRenamed ρ Γ Δ → KindsStay ρ kinds → FormedContext kinds Δ (rename_context (metavariables ρ) ctx) →
    FormedContext kinds Γ ctx
FormedContext-unrenamed [] ρ injective Γ Δ renamed fixed formed_empty = formed_empty
FormedContext-unrenamed (a ∷ rest) {kinds} ρ injective Γ Δ renamed fixed (formed_entry p q) =
    let Θ = with_variable (rename_type (metavariables ρ) a) Δ in
    formed_entry (Formed-unrenamed a ρ injective Γ Δ renamed fixed p)
    (FormedContext-unrenamed rest ρ injective (with_variable a Γ) Θ (HasTypesRenamed-with_variable ρ Γ Δ a renamed) fixed (subst (λ ξ. FormedContext kinds Θ (rename_context ξ rest)) (lifted-metavariables ρ) q))
