-- Typing looks up the heads that occur alone, and each of them has a type.
use Rattle.std.proofs.Common.{◌≡◌, ℕ, zero, suc, Option, Some, None, option_map, List, [], ◌∷◌, refl, sym, ap, ◌∙◌}
use Rattle.lf_definitions.specs.Syntax.{LfHead, bound, constant, metavariable, LfTerm, Spine, LfType, family, Context, pis}
use Rattle.lf_definitions.specs.Renaming.{next, raise_type}
use Rattle.lf_definitions.specs.Occurrence.{OccursIn, occurs_head, occurs_args, occurs_lam, OccursInSpine, occurs_first, occurs_later, OccursInType, occurs_binder, occurs_rest, occurs_family, OccursInContext, occurs_entry, occurs_after}
use Rattle.lf_definitions.specs.Substitution.{Replacement}
use Rattle.lf_definitions.specs.Typing.{Typing, with_variable, with_context, Typed, typed_lam, typed_at, TypedSpine, typed_none, typed_arg, Kinds, Formed, formed_pi, formed_family, FormedContext, formed_empty, formed_entry}
use Rattle.lf_definitions.specs.Failures.{FailsTerm, fails_lam, fails_at, fails_in_body, fails_head, fails_count, fails_in_argument, fails_result, FailsSpine, fails_here, fails_later, FailsTypeFrom, fails_binder, fails_rest, fails_family, fails_family_count, fails_family_argument, FailsContextFrom, fails_entry, fails_entries}

-- Typings that agree on some heads agree under a binder on these and on the binder's variable.
agree_with : (P : LfHead → Type 0) (Γ Δ : Typing) (a : LfType) → ((h : LfHead) → P (next h) → Γ h ≡ Δ h) → (h : LfHead) → P h → with_variable a Γ h ≡ with_variable a Δ h
agree_with P Γ Δ a agree (bound zero) o = refl
agree_with P Γ Δ a agree (bound (suc n)) o = ap (option_map raise_type) (agree (bound n) o)
agree_with P Γ Δ a agree (constant c) o = agree (constant c) o
agree_with P Γ Δ a agree (metavariable g) o = agree (metavariable g) o

mutual
  pub Typed-agree : {Γ : Typing} {t : LfTerm} {a : LfType} → Typed Γ t a → (Δ : Typing) → ((h : LfHead) → OccursIn h t → Γ h ≡ Δ h) → Typed Δ t a
  Typed-agree (typed_lam {Γ = Γ} {b = b} {a = a} p) Δ agree = typed_lam (Typed-agree p (with_variable a Δ) (agree_with (λ h. OccursIn h b) Γ Δ a (λ h o. agree h (occurs_lam h b o))))
  Typed-agree (typed_at {h = h} {ts = ts} bs args e ps result) Δ agree =
      typed_at bs args (sym (agree h (occurs_head h ts)) ∙ e) (TypedSpine-agree ps Δ (λ k o. agree k (occurs_args k h ts o))) result

  pub TypedSpine-agree : {Γ : Typing} {σ : Replacement} {ts : Spine} {bs : List LfType} → TypedSpine Γ σ ts bs → (Δ : Typing) → ((h : LfHead) → OccursInSpine h ts → Γ h ≡ Δ h) → TypedSpine Δ σ ts bs
  TypedSpine-agree typed_none Δ agree = typed_none
  TypedSpine-agree (typed_arg {t = t} {ts = ts} c result p ps) Δ agree =
      typed_arg c result (Typed-agree p Δ (λ h o. agree h (occurs_first h t ts o))) (TypedSpine-agree ps Δ (λ h o. agree h (occurs_later h t ts o)))

pub Formed-agree : {kinds : Kinds} {Γ : Typing} {a : LfType} → Formed kinds Γ a → (Δ : Typing) → ((h : LfHead) → OccursInType h a → Γ h ≡ Δ h) → Formed kinds Δ a
Formed-agree (formed_pi {Γ = Γ} {a = a} {b = b} p q) Δ agree =
    formed_pi (Formed-agree p Δ (λ h o. agree h (occurs_binder h a b o)))
    (Formed-agree q (with_variable a Δ) (agree_with (λ h. OccursInType h b) Γ Δ a (λ h o. agree h (occurs_rest h a b o))))
Formed-agree (formed_family {f = f} {args = ts} bs e ps) Δ agree = formed_family bs e (TypedSpine-agree ps Δ (λ h o. agree h (occurs_family h f ts o)))

pub FormedContext-agree : {kinds : Kinds} {Γ : Typing} {ctx : Context} → FormedContext kinds Γ ctx → (Δ : Typing) → ((h : LfHead) → OccursInContext h ctx → Γ h ≡ Δ h) → FormedContext kinds Δ ctx
FormedContext-agree formed_empty Δ agree = formed_empty
FormedContext-agree (formed_entry {Γ = Γ} {a = a} {rest = rest} p q) Δ agree =
    formed_entry (Formed-agree p Δ (λ h o. agree h (occurs_entry h a rest o)))
    (FormedContext-agree q (with_variable a Δ) (agree_with (λ h. OccursInContext h rest) Γ Δ a (λ h o. agree h (occurs_after h a rest o))))

mutual
  pub FailsTerm-agree : {Γ : Typing} {t : LfTerm} {a : LfType} {path : List ℕ} → FailsTerm Γ t a path → (Δ : Typing) → ((h : LfHead) → OccursIn h t → Γ h ≡ Δ h) → FailsTerm Δ t a path
  FailsTerm-agree (fails_lam Γ b f args) Δ agree = fails_lam Δ b f args
  FailsTerm-agree (fails_at Γ h ts a c) Δ agree = fails_at Δ h ts a c
  FailsTerm-agree (fails_in_body Γ b a c path p) Δ agree =
      fails_in_body Δ b a c path (FailsTerm-agree p (with_variable a Δ) (agree_with (λ h. OccursIn h b) Γ Δ a (λ h o. agree h (occurs_lam h b o))))
  FailsTerm-agree (fails_head Γ h ts f results e) Δ agree = fails_head Δ h ts f results (sym (agree h (occurs_head h ts)) ∙ e)
  FailsTerm-agree (fails_count Γ h ts results f g bs args e differ) Δ agree = fails_count Δ h ts results f g bs args (sym (agree h (occurs_head h ts)) ∙ e) differ
  FailsTerm-agree (fails_in_argument Γ h ts results f g bs args path e count p) Δ agree =
      fails_in_argument Δ h ts results f g bs args path (sym (agree h (occurs_head h ts)) ∙ e) count (FailsSpine-agree p Δ (λ k o. agree k (occurs_args k h ts o)))
  FailsTerm-agree (fails_result Γ h ts results found f g bs args e ps result differ) Δ agree =
      fails_result Δ h ts results found f g bs args (sym (agree h (occurs_head h ts)) ∙ e) (TypedSpine-agree ps Δ (λ k o. agree k (occurs_args k h ts o))) result differ

  pub FailsSpine-agree : {Γ : Typing} {σ : Replacement} {ts : Spine} {bs : List LfType} {child : ℕ} {path : List ℕ} → FailsSpine Γ σ ts bs child path → (Δ : Typing) → ((h : LfHead) → OccursInSpine h ts → Γ h ≡ Δ h) →
      FailsSpine Δ σ ts bs child path
  FailsSpine-agree (fails_here Γ σ t ts a c rest child path result p) Δ agree = fails_here Δ σ t ts a c rest child path result (FailsTerm-agree p Δ (λ h o. agree h (occurs_first h t ts o)))
  FailsSpine-agree (fails_later Γ σ t ts a c rest child path result q p) Δ agree =
      fails_later Δ σ t ts a c rest child path result (Typed-agree q Δ (λ h o. agree h (occurs_first h t ts o))) (FailsSpine-agree p Δ (λ h o. agree h (occurs_later h t ts o)))

pub FailsTypeFrom-agree : {kinds : Kinds} {Γ : Typing} {a : LfType} {child : ℕ} {path : List ℕ} → FailsTypeFrom kinds Γ a child path → (Δ : Typing) → ((h : LfHead) → OccursInType h a → Γ h ≡ Δ h) →
    FailsTypeFrom kinds Δ a child path
FailsTypeFrom-agree (fails_binder kinds Γ a b child path p) Δ agree = fails_binder kinds Δ a b child path (FailsTypeFrom-agree p Δ (λ h o. agree h (occurs_binder h a b o)))
FailsTypeFrom-agree (fails_rest kinds Γ a b child path q p) Δ agree =
    fails_rest kinds Δ a b child path (Formed-agree q Δ (λ h o. agree h (occurs_binder h a b o)))
    (FailsTypeFrom-agree p (with_variable a Δ) (agree_with (λ h. OccursInType h b) Γ Δ a (λ h o. agree h (occurs_rest h a b o))))
FailsTypeFrom-agree (fails_family kinds Γ f args child e) Δ agree = fails_family kinds Δ f args child e
FailsTypeFrom-agree (fails_family_count kinds Γ f args child bs e differ) Δ agree = fails_family_count kinds Δ f args child bs e differ
FailsTypeFrom-agree (fails_family_argument kinds Γ f args child bs path e count p) Δ agree =
    fails_family_argument kinds Δ f args child bs path e count (FailsSpine-agree p Δ (λ h o. agree h (occurs_family h f args o)))

pub FailsContextFrom-agree : {kinds : Kinds} {Γ : Typing} {ctx : Context} {child : ℕ} {path : List ℕ} → FailsContextFrom kinds Γ ctx child path → (Δ : Typing) → ((h : LfHead) → OccursInContext h ctx → Γ h ≡ Δ h) →
    FailsContextFrom kinds Δ ctx child path
FailsContextFrom-agree (fails_entry kinds Γ a rest child path p) Δ agree = fails_entry kinds Δ a rest child path (FailsTypeFrom-agree p Δ (λ h o. agree h (occurs_entry h a rest o)))
FailsContextFrom-agree (fails_entries kinds Γ a rest child path q p) Δ agree =
    fails_entries kinds Δ a rest child path (Formed-agree q Δ (λ h o. agree h (occurs_entry h a rest o)))
    (FailsContextFrom-agree p (with_variable a Δ) (agree_with (λ h. OccursInContext h rest) Γ Δ a (λ h o. agree h (occurs_after h a rest o))))

-- Heads that occur have types.
abbrev HasType : Typing → LfHead → Type 0
HasType Γ h = (b : LfType) × (Γ h ≡ Some b)

-- from under a binder
has_type_outside : (Γ : Typing) (a : LfType) (h : LfHead) → HasType (with_variable a Γ) (next h) → HasType Γ h
has_type_outside Γ a (bound n) has = each (Γ (bound n)) refl
  where
    each : (o : Option LfType) → Γ (bound n) ≡ o → HasType Γ (bound n)
    each None is =
        let none : option_map raise_type (Γ (bound n)) ≡ None = ap (option_map raise_type) is in
        let some = has.1 in
        absurd cc
    each (Some b) is = (b, is)
has_type_outside Γ a (constant c) has = has
has_type_outside Γ a (metavariable g) has = has

mutual
  pub has_type_term : {Γ : Typing} {t : LfTerm} {a : LfType} → Typed Γ t a → (h : LfHead) → OccursIn h t → HasType Γ h
  has_type_term (typed_lam {Γ = Γ} {a = a} p) h (occurs_lam _ _ o) = has_type_outside Γ a h (has_type_term p (next h) o)
  has_type_term (typed_at {f = f} bs args e ps result) h (occurs_head _ _) = (pis bs (family f args), e)
  has_type_term (typed_at bs args e ps result) h (occurs_args _ _ _ o) = has_type_spine ps h o

  pub has_type_spine : {Γ : Typing} {σ : Replacement} {ts : Spine} {bs : List LfType} → TypedSpine Γ σ ts bs → (h : LfHead) → OccursInSpine h ts → HasType Γ h
  has_type_spine typed_none h o = elim o [ ]
  has_type_spine (typed_arg c result p ps) h (occurs_first _ _ _ o) = has_type_term p h o
  has_type_spine (typed_arg c result p ps) h (occurs_later _ _ _ o) = has_type_spine ps h o

pub has_type_type : {kinds : Kinds} {Γ : Typing} {a : LfType} → Formed kinds Γ a → (h : LfHead) → OccursInType h a → HasType Γ h
has_type_type (formed_pi p q) h (occurs_binder _ _ _ o) = has_type_type p h o
has_type_type (formed_pi {Γ = Γ} {a = a} p q) h (occurs_rest _ _ _ o) = has_type_outside Γ a h (has_type_type q (next h) o)
has_type_type (formed_family bs e ps) h (occurs_family _ _ _ o) = has_type_spine ps h o

pub has_type_context : {kinds : Kinds} {Γ : Typing} {ctx : Context} → FormedContext kinds Γ ctx → (h : LfHead) → OccursInContext h ctx → HasType Γ h
has_type_context formed_empty h o = elim o [ ]
has_type_context (formed_entry p q) h (occurs_entry _ _ _ o) = has_type_type p h o
has_type_context (formed_entry {Γ = Γ} {a = a} p q) h (occurs_after _ _ _ o) = has_type_outside Γ a h (has_type_context q (next h) o)

-- Typings that agree on variables, constants and some metavariables do so under a context.
pub agree_in : (ctx : Context) (Γ Δ : Typing) → ((n : ℕ) → Γ (bound n) ≡ Δ (bound n)) → ((c : ℕ) → Γ (constant c) ≡ Δ (constant c)) → (P : LfHead → Type 0) → ((g : ℕ) → P (metavariable g) → Γ (metavariable g) ≡ Δ (metavariable g)) →
    (h : LfHead) → P h → with_context ctx Γ h ≡ with_context ctx Δ h
agree_in [] Γ Δ variables constants P agree (bound n) o = variables n
agree_in [] Γ Δ variables constants P agree (constant c) o = constants c
agree_in [] Γ Δ variables constants P agree (metavariable g) o = agree g o
agree_in (a ∷ ctx) Γ Δ variables constants P agree h o = agree_in ctx (with_variable a Γ) (with_variable a Δ) newer constants P agree h o
  where
    newer : (n : ℕ) → with_variable a Γ (bound n) ≡ with_variable a Δ (bound n)
    newer zero = refl
    newer (suc n) = ap (option_map raise_type) (variables n)
