-- Where heads occur: by truth values, after a renaming, and what renamings look at.
use Rattle.std.proofs.Common.{◌≡◌, ◌⊎◌, inl, inr, [], ◌∷◌, refl, sym, ap, ap₂, ◌∙◌, subst}
use Rattle.std.specs.Prelude.{true, ◌&&◌}
use Rattle.std.proofs.lemmas.Bool.{or_cases, or_left, or_right, and_parts, and_from}
use Rattle.lf_definitions.specs.Syntax.{LfHead, bound, constant, metavariable, LfTerm, lam, at, Spine, no_args, arg, LfType, pi, family, Context}
use Rattle.lf_definitions.specs.Renaming.{next, Renaming, lifted, rename, rename_spine, rename_type, rename_context}
use Rattle.lf_definitions.specs.Occurrence.{OccursIn, occurs_head, occurs_args, occurs_lam, OccursInSpine, occurs_first, occurs_later, OccursInType, occurs_binder, occurs_rest, occurs_family, OccursInContext, occurs_entry, occurs_after, IsRigid, rigid_bound, rigid_constant, OccursRigidly, rigidly_head, rigidly_args, rigidly_lam, OccursRigidlyInSpine, rigidly_first, rigidly_later}
use Rattle.lf_definitions.proofs.Renaming.{each_head}
use Rattle.head_laws.specs.Mentions.{same_head, occurs_in, occurs_in_spine, occurs_in_type, occurs_in_context, is_rigid, occurs_rigidly, occurs_rigidly_in_spine}
use Rattle.head_laws.proofs.Heads.{same_head-true, same_head-from, next_inj, next-zero, lifted-next}

mutual
  pub OccursIn-true : (h : LfHead) (t : LfTerm) → occurs_in h t ≡ true → OccursIn h t
  OccursIn-true h (lam b) e = occurs_lam h b (OccursIn-true (next h) b e)
  OccursIn-true h (at k ts) e = either (or_cases (same_head h k) (occurs_in_spine h ts) e) (λ f. OccursInSpine-true h ts f)
    where
      either : (same_head h k ≡ true) ⊎ (occurs_in_spine h ts ≡ true) → (occurs_in_spine h ts ≡ true → OccursInSpine h ts) → OccursIn h (at k ts)
      either (inl f) later = subst (λ x. OccursIn h (at x ts)) (same_head-true h k f) (occurs_head h ts)
      either (inr f) later = occurs_args h k ts (later f)

  pub OccursInSpine-true : (h : LfHead) (ts : Spine) → occurs_in_spine h ts ≡ true → OccursInSpine h ts
  OccursInSpine-true h no_args e = absurd cc
  OccursInSpine-true h (arg t ts) e = either (or_cases (occurs_in h t) (occurs_in_spine h ts) e) (λ f. OccursIn-true h t f) (λ f. OccursInSpine-true h ts f)
    where
      either : (occurs_in h t ≡ true) ⊎ (occurs_in_spine h ts ≡ true) → (occurs_in h t ≡ true → OccursIn h t) → (occurs_in_spine h ts ≡ true → OccursInSpine h ts) → OccursInSpine h (arg t ts)
      either (inl f) now later = occurs_first h t ts (now f)
      either (inr f) now later = occurs_later h t ts (later f)

mutual
  pub occurs_in-from : {h : LfHead} {t : LfTerm} → OccursIn h t → occurs_in h t ≡ true
  occurs_in-from (occurs_head h ts) = or_left (same_head h h) (occurs_in_spine h ts) (same_head-from h h refl)
  occurs_in-from (occurs_args h k ts o) = or_right (same_head h k) (occurs_in_spine h ts) (occurs_in_spine-from o)
  occurs_in-from (occurs_lam h b o) = occurs_in-from o

  pub occurs_in_spine-from : {h : LfHead} {ts : Spine} → OccursInSpine h ts → occurs_in_spine h ts ≡ true
  occurs_in_spine-from (occurs_first h t ts o) = or_left (occurs_in h t) (occurs_in_spine h ts) (occurs_in-from o)
  occurs_in_spine-from (occurs_later h t ts o) = or_right (occurs_in h t) (occurs_in_spine h ts) (occurs_in_spine-from o)

pub OccursInType-true : (h : LfHead) (a : LfType) → occurs_in_type h a ≡ true → OccursInType h a
OccursInType-true h (pi a b) e = either (or_cases (occurs_in_type h a) (occurs_in_type (next h) b) e) (λ f. OccursInType-true h a f) (λ f. OccursInType-true (next h) b f)
  where
    either : (occurs_in_type h a ≡ true) ⊎ (occurs_in_type (next h) b ≡ true) → (occurs_in_type h a ≡ true → OccursInType h a) → (occurs_in_type (next h) b ≡ true → OccursInType (next h) b) → OccursInType h (pi a b)
    either (inl f) now later = occurs_binder h a b (now f)
    either (inr f) now later = occurs_rest h a b (later f)
OccursInType-true h (family f args) e = occurs_family h f args (OccursInSpine-true h args e)

pub occurs_in_type-from : {h : LfHead} {a : LfType} → OccursInType h a → occurs_in_type h a ≡ true
occurs_in_type-from (occurs_binder h a b o) = or_left (occurs_in_type h a) (occurs_in_type (next h) b) (occurs_in_type-from o)
occurs_in_type-from (occurs_rest h a b o) = or_right (occurs_in_type h a) (occurs_in_type (next h) b) (occurs_in_type-from o)
occurs_in_type-from (occurs_family h f args o) = occurs_in_spine-from o

pub OccursInContext-true : (h : LfHead) (ctx : Context) → occurs_in_context h ctx ≡ true → OccursInContext h ctx
OccursInContext-true h [] e = absurd cc
OccursInContext-true h (a ∷ rest) e = either (or_cases (occurs_in_type h a) (occurs_in_context (next h) rest) e) (λ f. OccursInContext-true (next h) rest f)
  where
    either : (occurs_in_type h a ≡ true) ⊎ (occurs_in_context (next h) rest ≡ true) → (occurs_in_context (next h) rest ≡ true → OccursInContext (next h) rest) → OccursInContext h (a ∷ rest)
    either (inl f) later = occurs_entry h a rest (OccursInType-true h a f)
    either (inr f) later = occurs_after h a rest (later f)

pub occurs_in_context-from : {h : LfHead} {ctx : Context} → OccursInContext h ctx → occurs_in_context h ctx ≡ true
occurs_in_context-from (occurs_entry h a rest o) = or_left (occurs_in_type h a) (occurs_in_context (next h) rest) (occurs_in_type-from o)
occurs_in_context-from (occurs_after h a rest o) = or_right (occurs_in_type h a) (occurs_in_context (next h) rest) (occurs_in_context-from o)

IsRigid-true : (k : LfHead) → is_rigid k ≡ true → IsRigid k
IsRigid-true (bound n) e = rigid_bound n
IsRigid-true (constant c) e = rigid_constant c
IsRigid-true (metavariable g) e = absurd cc

is_rigid-from : {k : LfHead} → IsRigid k → is_rigid k ≡ true
is_rigid-from (rigid_bound n) = refl
is_rigid-from (rigid_constant c) = refl

mutual
  pub OccursRigidly-true : (h : LfHead) (t : LfTerm) → occurs_rigidly h t ≡ true → OccursRigidly h t
  OccursRigidly-true h (lam b) e = rigidly_lam h b (OccursRigidly-true (next h) b e)
  OccursRigidly-true h (at k ts) e = either (or_cases (same_head h k) (is_rigid k && occurs_rigidly_in_spine h ts) e) (λ f. OccursRigidlyInSpine-true h ts f)
    where
      either : (same_head h k ≡ true) ⊎ ((is_rigid k && occurs_rigidly_in_spine h ts) ≡ true) → (occurs_rigidly_in_spine h ts ≡ true → OccursRigidlyInSpine h ts) → OccursRigidly h (at k ts)
      either (inl f) later = subst (λ x. OccursRigidly h (at x ts)) (same_head-true h k f) (rigidly_head h ts)
      either (inr f) later =
          let both = and_parts (is_rigid k) (occurs_rigidly_in_spine h ts) f in
          rigidly_args h k ts (IsRigid-true k both.0) (later both.1)

  pub OccursRigidlyInSpine-true : (h : LfHead) (ts : Spine) → occurs_rigidly_in_spine h ts ≡ true → OccursRigidlyInSpine h ts
  OccursRigidlyInSpine-true h no_args e = absurd cc
  OccursRigidlyInSpine-true h (arg t ts) e =
      either (or_cases (occurs_rigidly h t) (occurs_rigidly_in_spine h ts) e) (λ f. OccursRigidly-true h t f) (λ f. OccursRigidlyInSpine-true h ts f)
    where
      either : (occurs_rigidly h t ≡ true) ⊎ (occurs_rigidly_in_spine h ts ≡ true) → (occurs_rigidly h t ≡ true → OccursRigidly h t) → (occurs_rigidly_in_spine h ts ≡ true → OccursRigidlyInSpine h ts) →
          OccursRigidlyInSpine h (arg t ts)
      either (inl f) now later = rigidly_first h t ts (now f)
      either (inr f) now later = rigidly_later h t ts (later f)

mutual
  pub occurs_rigidly-from : {h : LfHead} {t : LfTerm} → OccursRigidly h t → occurs_rigidly h t ≡ true
  occurs_rigidly-from (rigidly_head h ts) = or_left (same_head h h) (is_rigid h && occurs_rigidly_in_spine h ts) (same_head-from h h refl)
  occurs_rigidly-from (rigidly_args h k ts rigid o) =
      or_right (same_head h k) (is_rigid k && occurs_rigidly_in_spine h ts) (and_from (is_rigid k) (occurs_rigidly_in_spine h ts) (is_rigid-from rigid) (occurs_rigidly_in_spine-from o))
  occurs_rigidly-from (rigidly_lam h b o) = occurs_rigidly-from o

  pub occurs_rigidly_in_spine-from : {h : LfHead} {ts : Spine} → OccursRigidlyInSpine h ts → occurs_rigidly_in_spine h ts ≡ true
  occurs_rigidly_in_spine-from (rigidly_first h t ts o) = or_left (occurs_rigidly h t) (occurs_rigidly_in_spine h ts) (occurs_rigidly-from o)
  occurs_rigidly_in_spine-from (rigidly_later h t ts o) = or_right (occurs_rigidly h t) (occurs_rigidly_in_spine h ts) (occurs_rigidly_in_spine-from o)

-- Renamings that agree on some heads agree under a binder on these and on the binder's variable.
agree_lifted : (P : LfHead → Type 0) (ξ ζ : Renaming) → ((h : LfHead) → P (next h) → ξ h ≡ ζ h) → (h : LfHead) → P h → lifted ξ h ≡ lifted ζ h
agree_lifted P ξ ζ agree =
    each_head (λ h. P h → lifted ξ h ≡ lifted ζ h) (λ o. refl) (λ h o. lifted-next ξ h ∙ ap next (agree h o) ∙ sym (lifted-next ζ h))

mutual
  pub rename-agree : (t : LfTerm) (ξ ζ : Renaming) → ((h : LfHead) → OccursIn h t → ξ h ≡ ζ h) → rename ξ t ≡ rename ζ t
  rename-agree (lam b) ξ ζ agree = ap lam (rename-agree b (lifted ξ) (lifted ζ) (agree_lifted (λ h. OccursIn h b) ξ ζ (λ h o. agree h (occurs_lam h b o))))
  rename-agree (at h ts) ξ ζ agree = ap₂ at (agree h (occurs_head h ts)) (rename_spine-agree ts ξ ζ (λ k o. agree k (occurs_args k h ts o)))

  pub rename_spine-agree : (ts : Spine) (ξ ζ : Renaming) → ((h : LfHead) → OccursInSpine h ts → ξ h ≡ ζ h) → rename_spine ξ ts ≡ rename_spine ζ ts
  rename_spine-agree no_args ξ ζ agree = refl
  rename_spine-agree (arg t ts) ξ ζ agree =
      ap₂ arg (rename-agree t ξ ζ (λ h o. agree h (occurs_first h t ts o))) (rename_spine-agree ts ξ ζ (λ h o. agree h (occurs_later h t ts o)))

pub rename_type-agree : (a : LfType) (ξ ζ : Renaming) → ((h : LfHead) → OccursInType h a → ξ h ≡ ζ h) → rename_type ξ a ≡ rename_type ζ a
rename_type-agree (pi a b) ξ ζ agree =
    ap₂ pi (rename_type-agree a ξ ζ (λ h o. agree h (occurs_binder h a b o)))
    (rename_type-agree b (lifted ξ) (lifted ζ) (agree_lifted (λ h. OccursInType h b) ξ ζ (λ h o. agree h (occurs_rest h a b o))))
rename_type-agree (family f args) ξ ζ agree = ap (family f) (rename_spine-agree args ξ ζ (λ h o. agree h (occurs_family h f args o)))

pub rename_context-agree : (ctx : Context) (ξ ζ : Renaming) → ((h : LfHead) → OccursInContext h ctx → ξ h ≡ ζ h) → rename_context ξ ctx ≡ rename_context ζ ctx
rename_context-agree [] ξ ζ agree = refl
rename_context-agree (a ∷ rest) ξ ζ agree =
    ap₂ (λ b more. b ∷ more) (rename_type-agree a ξ ζ (λ h o. agree h (occurs_entry h a rest o)))
    (rename_context-agree rest (lifted ξ) (lifted ζ) (agree_lifted (λ h. OccursInContext h rest) ξ ζ (λ h o. agree h (occurs_after h a rest o))))

-- What occurs becomes what occurs in the renamed term.
mutual
  pub OccursIn-rename : {k : LfHead} {t : LfTerm} → OccursIn k t → (ξ : Renaming) → OccursIn (ξ k) (rename ξ t)
  OccursIn-rename (occurs_head h ts) ξ = occurs_head (ξ h) (rename_spine ξ ts)
  OccursIn-rename (occurs_args h k ts o) ξ = occurs_args (ξ h) (ξ k) (rename_spine ξ ts) (OccursInSpine-rename_spine o ξ)
  OccursIn-rename (occurs_lam h b o) ξ = occurs_lam (ξ h) (rename (lifted ξ) b) (subst (λ x. OccursIn x (rename (lifted ξ) b)) (lifted-next ξ h) (OccursIn-rename o (lifted ξ)))

  pub OccursInSpine-rename_spine : {k : LfHead} {ts : Spine} → OccursInSpine k ts → (ξ : Renaming) → OccursInSpine (ξ k) (rename_spine ξ ts)
  OccursInSpine-rename_spine (occurs_first h t ts o) ξ = occurs_first (ξ h) (rename ξ t) (rename_spine ξ ts) (OccursIn-rename o ξ)
  OccursInSpine-rename_spine (occurs_later h t ts o) ξ = occurs_later (ξ h) (rename ξ t) (rename_spine ξ ts) (OccursInSpine-rename_spine o ξ)

pub OccursInType-rename_type : {k : LfHead} {a : LfType} → OccursInType k a → (ξ : Renaming) → OccursInType (ξ k) (rename_type ξ a)
OccursInType-rename_type (occurs_binder h a b o) ξ = occurs_binder (ξ h) (rename_type ξ a) (rename_type (lifted ξ) b) (OccursInType-rename_type o ξ)
OccursInType-rename_type (occurs_rest h a b o) ξ =
    occurs_rest (ξ h) (rename_type ξ a) (rename_type (lifted ξ) b) (subst (λ x. OccursInType x (rename_type (lifted ξ) b)) (lifted-next ξ h) (OccursInType-rename_type o (lifted ξ)))
OccursInType-rename_type (occurs_family h f args o) ξ = occurs_family (ξ h) f (rename_spine ξ args) (OccursInSpine-rename_spine o ξ)

pub OccursInContext-rename_context : {k : LfHead} {ctx : Context} → OccursInContext k ctx → (ξ : Renaming) → OccursInContext (ξ k) (rename_context ξ ctx)
OccursInContext-rename_context (occurs_entry h a rest o) ξ = occurs_entry (ξ h) (rename_type ξ a) (rename_context (lifted ξ) rest) (OccursInType-rename_type o ξ)
OccursInContext-rename_context (occurs_after h a rest o) ξ =
    occurs_after (ξ h) (rename_type ξ a) (rename_context (lifted ξ) rest) (subst (λ x. OccursInContext x (rename_context (lifted ξ) rest)) (lifted-next ξ h) (OccursInContext-rename_context o (lifted ξ)))

-- And nothing else occurs there.
abbrev pub Came : (LfHead → Type 0) → Renaming → LfHead → Type 0
Came P ξ h = (k : LfHead) × P k × (h ≡ ξ k)

-- from under a binder
came_lifted : (P : LfHead → Type 0) (ξ : Renaming) (h : LfHead) → Came P (lifted ξ) (next h) → Came (λ k. P (next k)) ξ h
came_lifted P ξ h came = each_head (λ k. P k → next h ≡ lifted ξ k → Came (λ m. P (next m)) ξ h)
    (λ o e. absurd (next-zero h e))
    (λ k o e. (k, o, next_inj h (ξ k) (e ∙ lifted-next ξ k)))
    came.0 came.1 came.2

mutual
  pub came_term : (t : LfTerm) (ξ : Renaming) (h : LfHead) → OccursIn h (rename ξ t) → Came (λ k. OccursIn k t) ξ h
  came_term (lam b) ξ h (occurs_lam _ _ o) = let c = came_lifted (λ k. OccursIn k b) ξ h (came_term b (lifted ξ) (next h) o) in (c.0, occurs_lam c.0 b c.1, c.2)
  came_term (at k ts) ξ h (occurs_head _ _) = (k, occurs_head k ts, refl)
  came_term (at k ts) ξ h (occurs_args _ _ _ o) = let c = came_spine ts ξ h o in (c.0, occurs_args c.0 k ts c.1, c.2)

  pub came_spine : (ts : Spine) (ξ : Renaming) (h : LfHead) → OccursInSpine h (rename_spine ξ ts) → Came (λ k. OccursInSpine k ts) ξ h
  came_spine no_args ξ h o = elim o [ ]
  came_spine (arg t ts) ξ h (occurs_first _ _ _ o) = let c = came_term t ξ h o in (c.0, occurs_first c.0 t ts c.1, c.2)
  came_spine (arg t ts) ξ h (occurs_later _ _ _ o) = let c = came_spine ts ξ h o in (c.0, occurs_later c.0 t ts c.1, c.2)

pub came_type : (a : LfType) (ξ : Renaming) (h : LfHead) → OccursInType h (rename_type ξ a) → Came (λ k. OccursInType k a) ξ h
came_type (pi a b) ξ h (occurs_binder _ _ _ o) = let c = came_type a ξ h o in (c.0, occurs_binder c.0 a b c.1, c.2)
came_type (pi a b) ξ h (occurs_rest _ _ _ o) = let c = came_lifted (λ k. OccursInType k b) ξ h (came_type b (lifted ξ) (next h) o) in (c.0, occurs_rest c.0 a b c.1, c.2)
came_type (family f args) ξ h (occurs_family _ _ _ o) = let c = came_spine args ξ h o in (c.0, occurs_family c.0 f args c.1, c.2)

pub came_context : (ctx : Context) (ξ : Renaming) (h : LfHead) → OccursInContext h (rename_context ξ ctx) → Came (λ k. OccursInContext k ctx) ξ h
came_context [] ξ h o = elim o [ ]
came_context (a ∷ rest) ξ h (occurs_entry _ _ _ o) = let c = came_type a ξ h o in (c.0, occurs_entry c.0 a rest c.1, c.2)
came_context (a ∷ rest) ξ h (occurs_after _ _ _ o) =
    let c = came_lifted (λ k. OccursInContext k rest) ξ h (came_context rest (lifted ξ) (next h) o) in
    (c.0, occurs_after c.0 a rest c.1, c.2)
