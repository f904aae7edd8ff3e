-- A failure and a derivation exclude each other, and the path of a failure is unique.
use Rattle.std.proofs.Common.{◌≡◌, ℕ, Option, Some, List, [], ◌∷◌, length, refl, sym, ap, ◌∙◌, subst}
use Rattle.lf_definitions.specs.Syntax.{LfTerm, Spine, LfType, pi, family, Context, pis, conclusion}
use Rattle.lf_definitions.specs.Substitution.{Replacement, stays, push_all, SubstitutedSpine}
use Rattle.lf_definitions.specs.Typing.{Typing, Typed, typed_lam, typed_at, TypedSpine, typed_arg, Kinds, Formed, formed_pi, formed_family, FormedContext, formed_entry}
use Rattle.lf_definitions.specs.Failures.{FailsTerm, fails_lam, fails_at, fails_in_body, fails_head, fails_count, fails_in_argument, fails_result, FailsSpine, fails_here, fails_later, FailsTypeFrom, fails_binder, fails_rest, fails_family, fails_family_count, fails_family_argument, FailsContextFrom, fails_entry, fails_entries}
use Rattle.lf_definitions.proofs.Uniqueness.{unique_type, unique_spine}
use Rattle.lf_definitions.proofs.Weakening.{args_count-TypedSpine}
use Rattle.lf_definitions.proofs.Options.{None-Some, Some_inj}

-- the binders of a type, its family and the family's arguments
abbrev pub binders_of : LfType → List LfType
binders_of (pi a b) = a ∷ binders_of b
binders_of (family f args) = []

abbrev pub family_args_of : LfType → Spine
family_args_of (pi a b) = family_args_of b
family_args_of (family f args) = args

pub binders_of-pis : (bs : List LfType) (f : ℕ) (args : Spine) → binders_of (pis bs (family f args)) ≡ bs
binders_of-pis [] f args = refl
binders_of-pis (b ∷ bs) f args = ap (λ cs. b ∷ cs) (binders_of-pis bs f args)

pub conclusion-pis : (bs : List LfType) (f : ℕ) (args : Spine) → conclusion (pis bs (family f args)) ≡ f
conclusion-pis [] f args = refl
conclusion-pis (b ∷ bs) f args = conclusion-pis bs f args

pub family_args_of-pis : (bs : List LfType) (f : ℕ) (args : Spine) → family_args_of (pis bs (family f args)) ≡ args
family_args_of-pis [] f args = refl
family_args_of-pis (b ∷ bs) f args = family_args_of-pis bs f args

-- so a type has one reading as binders over a family
same_binders : (bs cs : List LfType) (f g : ℕ) (args other : Spine) {o : Option LfType} → o ≡ Some (pis bs (family f args)) → o ≡ Some (pis cs (family g other)) → bs ≡ cs
same_binders bs cs f g args other e e' =
    sym (binders_of-pis bs f args) ∙ ap binders_of (Some_inj e e') ∙ binders_of-pis cs g other

same_family : (bs cs : List LfType) (f g : ℕ) (args other : Spine) {o : Option LfType} → o ≡ Some (pis bs (family f args)) → o ≡ Some (pis cs (family g other)) → f ≡ g
same_family bs cs f g args other e e' =
    sym (conclusion-pis bs f args) ∙ ap conclusion (Some_inj e e') ∙ conclusion-pis cs g other

same_args : (bs cs : List LfType) (f g : ℕ) (args other : Spine) {o : Option LfType} → o ≡ Some (pis bs (family f args)) → o ≡ Some (pis cs (family g other)) → args ≡ other
same_args bs cs f g args other e e' =
    sym (family_args_of-pis bs f args) ∙ ap family_args_of (Some_inj e e') ∙ family_args_of-pis cs g other

mutual
  pub FailsTerm-Typed : {Γ : Typing} {t : LfTerm} {a : LfType} {path : List ℕ} → FailsTerm Γ t a path → Typed Γ t a → ⊥
  FailsTerm-Typed (fails_lam Γ b f args) typed = elim typed [ ]
  FailsTerm-Typed (fails_at Γ h ts a c) typed = elim typed [ ]
  FailsTerm-Typed (fails_in_body Γ b a c path p) (typed_lam q) = FailsTerm-Typed p q
  FailsTerm-Typed (fails_head Γ h ts f results e) (typed_at cs other e' ps result) = None-Some e e'
  FailsTerm-Typed (fails_count Γ h ts results f g bs args e differ) (typed_at cs other e' ps result) =
      differ (args_count-TypedSpine ps ∙ ap length (same_binders _ _ _ _ _ _ e' e))
  FailsTerm-Typed (fails_in_argument Γ h ts results f g bs args path e count p) (typed_at cs other e' ps result) =
      FailsSpine-TypedSpine p (subst (TypedSpine Γ stays ts) (same_binders _ _ _ _ _ _ e' e) ps)
  FailsTerm-Typed (fails_result Γ h ts results found f g bs args e ps result differ) (typed_at cs other e' ps' result') =
      differ (sames (same_family _ _ _ _ _ _ e e') (unique_spine result (subst (λ xs. SubstitutedSpine (push_all ts stays) xs results) (same_args _ _ _ _ _ _ e' e) result')))
    where
      sames : {g f : ℕ} {xs ys : Spine} → g ≡ f → xs ≡ ys → family g xs ≡ family f ys
      sames e f = cc

  pub FailsSpine-TypedSpine : {Γ : Typing} {σ : Replacement} {ts : Spine} {bs : List LfType} {child : ℕ} {path : List ℕ} → FailsSpine Γ σ ts bs child path → TypedSpine Γ σ ts bs → ⊥
  FailsSpine-TypedSpine (fails_here Γ σ t ts a c rest child path result p) (typed_arg d result' q qs) =
      FailsTerm-Typed p (subst (Typed Γ t) (unique_type result' result) q)
  FailsSpine-TypedSpine (fails_later Γ σ t ts a c rest child path result q p) (typed_arg d result' q' qs) = FailsSpine-TypedSpine p qs

pub FailsTypeFrom-Formed : {kinds : Kinds} {Γ : Typing} {a : LfType} {child : ℕ} {path : List ℕ} → FailsTypeFrom kinds Γ a child path → Formed kinds Γ a → ⊥
FailsTypeFrom-Formed (fails_binder kinds Γ a b child path p) (formed_pi q qs) = FailsTypeFrom-Formed p q
FailsTypeFrom-Formed (fails_rest kinds Γ a b child path q p) (formed_pi q' qs) = FailsTypeFrom-Formed p qs
FailsTypeFrom-Formed (fails_family kinds Γ f args child e) (formed_family bs e' ps) = None-Some e e'
FailsTypeFrom-Formed (fails_family_count kinds Γ f args child bs e differ) (formed_family cs e' ps) = differ (args_count-TypedSpine ps ∙ ap length (Some_inj e' e))
FailsTypeFrom-Formed (fails_family_argument kinds Γ f args child bs path e count p) (formed_family cs e' ps) =
    FailsSpine-TypedSpine p (subst (TypedSpine Γ stays args) (Some_inj e' e) ps)

pub FailsContextFrom-FormedContext : {kinds : Kinds} {Γ : Typing} {ctx : Context} {child : ℕ} {path : List ℕ} → FailsContextFrom kinds Γ ctx child path → FormedContext kinds Γ ctx → ⊥
FailsContextFrom-FormedContext (fails_entry kinds Γ a rest child path p) (formed_entry q qs) = FailsTypeFrom-Formed p q
FailsContextFrom-FormedContext (fails_entries kinds Γ a rest child path q p) (formed_entry q' qs) = FailsContextFrom-FormedContext p qs

mutual
  pub unique_path : {Γ : Typing} {t : LfTerm} {a : LfType} {p q : List ℕ} → FailsTerm Γ t a p → FailsTerm Γ t a q → p ≡ q
  unique_path (fails_lam Γ b f args) (fails_lam _ _ _ _) = refl
  unique_path (fails_at Γ h ts a c) (fails_at _ _ _ _ _) = refl
  unique_path (fails_in_body Γ b a c path p) (fails_in_body _ _ _ _ path' q) = ap (λ r. 0 ∷ r) (unique_path p q)
  unique_path (fails_head Γ h ts f results e) (fails_head _ _ _ _ _ e') = refl
  unique_path (fails_head Γ h ts f results e) (fails_count _ _ _ _ _ g' bs' args' e' differ') = refl
  unique_path (fails_head Γ h ts f results e) (fails_in_argument _ _ _ _ _ g' bs' args' path' e' count' p') = absurd (None-Some e e')
  unique_path (fails_head Γ h ts f results e) (fails_result _ _ _ _ found' _ g' bs' args' e' ps' result' differ') = refl
  unique_path (fails_count Γ h ts results f g bs args e differ) (fails_head _ _ _ _ _ e') = refl
  unique_path (fails_count Γ h ts results f g bs args e differ) (fails_count _ _ _ _ _ g' bs' args' e' differ') = refl
  unique_path (fails_count Γ h ts results f g bs args e differ) (fails_in_argument _ _ _ _ _ g' bs' args' path' e' count' p') = absurd (differ (count' ∙ ap length (same_binders _ _ _ _ _ _ e' e)))
  unique_path (fails_count Γ h ts results f g bs args e differ) (fails_result _ _ _ _ found' _ g' bs' args' e' ps' result' differ') = refl
  unique_path (fails_in_argument Γ h ts results f g bs args path e count p) (fails_head _ _ _ _ _ e') = absurd (None-Some e' e)
  unique_path (fails_in_argument Γ h ts results f g bs args path e count p) (fails_count _ _ _ _ _ g' bs' args' e' differ') = absurd (differ' (count ∙ ap length (same_binders _ _ _ _ _ _ e e')))
  unique_path (fails_in_argument Γ h ts results f g bs args path e count p) (fails_in_argument _ _ _ _ _ g' bs' args' path' e' count' p') =
      unique_path_spine p (subst (λ cs. FailsSpine Γ stays ts cs 0 path') (same_binders _ _ _ _ _ _ e' e) p')
  unique_path (fails_in_argument Γ h ts results f g bs args path e count p) (fails_result _ _ _ _ found' _ g' bs' args' e' ps' result' differ') =
      absurd (FailsSpine-TypedSpine p (subst (TypedSpine Γ stays ts) (same_binders _ _ _ _ _ _ e' e) ps'))
  unique_path (fails_result Γ h ts results found f g bs args e ps result differ) (fails_head _ _ _ _ _ e') = refl
  unique_path (fails_result Γ h ts results found f g bs args e ps result differ) (fails_count _ _ _ _ _ g' bs' args' e' differ') = refl
  unique_path (fails_result Γ h ts results found f g bs args e ps result differ) (fails_in_argument _ _ _ _ _ g' bs' args' path' e' count' p') =
      absurd (FailsSpine-TypedSpine p' (subst (TypedSpine Γ stays ts) (same_binders _ _ _ _ _ _ e e') ps))
  unique_path (fails_result Γ h ts results found f g bs args e ps result differ) (fails_result _ _ _ _ found' _ g' bs' args' e' ps' result' differ') = refl

  pub unique_path_spine : {Γ : Typing} {σ : Replacement} {ts : Spine} {bs : List LfType} {child : ℕ} {p q : List ℕ} → FailsSpine Γ σ ts bs child p → FailsSpine Γ σ ts bs child q → p ≡ q
  unique_path_spine (fails_here Γ σ t ts a c rest child path result p) (fails_here _ _ _ _ _ d _ _ path' result' q) =
      ap (λ r. child ∷ r) (unique_path p (subst (λ x. FailsTerm Γ t x path') (unique_type result' result) q))
  unique_path_spine (fails_here Γ σ t ts a c rest child path result p) (fails_later _ _ _ _ _ d _ _ path' result' q ps) =
      absurd (FailsTerm-Typed p (subst (Typed Γ t) (unique_type result' result) q))
  unique_path_spine (fails_later Γ σ t ts a c rest child path result q ps) (fails_here _ _ _ _ _ d _ _ path' result' p) =
      absurd (FailsTerm-Typed p (subst (Typed Γ t) (unique_type result result') q))
  unique_path_spine (fails_later Γ σ t ts a c rest child path result q ps) (fails_later _ _ _ _ _ d _ _ path' result' q' ps') = unique_path_spine ps ps'

pub unique_path_type : {kinds : Kinds} {Γ : Typing} {a : LfType} {child : ℕ} {p q : List ℕ} → FailsTypeFrom kinds Γ a child p → FailsTypeFrom kinds Γ a child q → p ≡ q
unique_path_type (fails_binder kinds Γ a b child path p) (fails_binder _ _ _ _ _ path' q) = ap (λ r. child ∷ r) (unique_path_type p q)
unique_path_type (fails_binder kinds Γ a b child path p) (fails_rest _ _ _ _ _ path' q qs) = absurd (FailsTypeFrom-Formed p q)
unique_path_type (fails_rest kinds Γ a b child path q qs) (fails_binder _ _ _ _ _ path' p) = absurd (FailsTypeFrom-Formed p q)
unique_path_type (fails_rest kinds Γ a b child path q ps) (fails_rest _ _ _ _ _ path' q' ps') = unique_path_type ps ps'
unique_path_type (fails_family kinds Γ f args child e) (fails_family _ _ _ _ _ e') = refl
unique_path_type (fails_family kinds Γ f args child e) (fails_family_count _ _ _ _ _ bs' e' differ') = refl
unique_path_type (fails_family kinds Γ f args child e) (fails_family_argument _ _ _ _ _ bs' path' e' count' p') = absurd (None-Some e e')
unique_path_type (fails_family_count kinds Γ f args child bs e differ) (fails_family _ _ _ _ _ e') = refl
unique_path_type (fails_family_count kinds Γ f args child bs e differ) (fails_family_count _ _ _ _ _ bs' e' differ') = refl
unique_path_type (fails_family_count kinds Γ f args child bs e differ) (fails_family_argument _ _ _ _ _ bs' path' e' count' p') = absurd (differ (count' ∙ ap length (Some_inj e' e)))
unique_path_type (fails_family_argument kinds Γ f args child bs path e count p) (fails_family _ _ _ _ _ e') = absurd (None-Some e' e)
unique_path_type (fails_family_argument kinds Γ f args child bs path e count p) (fails_family_count _ _ _ _ _ bs' e' differ') = absurd (differ' (count ∙ ap length (Some_inj e e')))
unique_path_type (fails_family_argument kinds Γ f args child bs path e count p) (fails_family_argument _ _ _ _ _ bs' path' e' count' p') =
    unique_path_spine p (subst (λ cs. FailsSpine Γ stays args cs child path') (Some_inj e' e) p')

pub unique_path_context : {kinds : Kinds} {Γ : Typing} {ctx : Context} {child : ℕ} {p q : List ℕ} → FailsContextFrom kinds Γ ctx child p → FailsContextFrom kinds Γ ctx child q → p ≡ q
unique_path_context (fails_entry kinds Γ a rest child path p) (fails_entry _ _ _ _ _ path' q) = ap (λ r. child ∷ r) (unique_path_type p q)
unique_path_context (fails_entry kinds Γ a rest child path p) (fails_entries _ _ _ _ _ path' q qs) = absurd (FailsTypeFrom-Formed p q)
unique_path_context (fails_entries kinds Γ a rest child path q qs) (fails_entry _ _ _ _ _ path' p) = absurd (FailsTypeFrom-Formed p q)
unique_path_context (fails_entries kinds Γ a rest child path q ps) (fails_entries _ _ _ _ _ path' q' ps') = unique_path_context ps ps'
