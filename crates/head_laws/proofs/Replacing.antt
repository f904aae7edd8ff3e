-- Replacements look at the heads that occur alone, and what occurs in a result comes from the images of these.
use Rattle.std.proofs.Common.{◌≡◌, zero, ◌⊎◌, inl, inr, [], ◌∷◌, refl, sym, ap, ◌∙◌, subst}
use Rattle.lf_definitions.specs.Syntax.{LfHead, bound, LfTerm, lam, at, Spine, no_args, arg, LfType, pi, family, Context}
use Rattle.lf_definitions.specs.Renaming.{next, raise}
use Rattle.lf_definitions.specs.Occurrence.{OccursIn, occurs_head, occurs_args, occurs_lam, OccursInSpine, occurs_first, occurs_later, OccursInType, occurs_binder, occurs_rest, occurs_family, OccursInContext, occurs_entry, occurs_after}
use Rattle.lf_definitions.specs.Substitution.{Image, stays, becomes, rename_image, Replacement, up, push, Substituted, substituted_lam, substituted_stays, substituted_becomes, SubstitutedSpine, substituted_none, substituted_arg, Applied, applied_none, applied_arg, SubstitutedType, substituted_pi, substituted_family, SubstitutedContext, substituted_empty, substituted_entry}
use Rattle.lf_definitions.proofs.Renaming.{extended-next, each_head, Substituted-stays}
use mathlib.Core.Path.{fun_ext}
use Rattle.lf_definitions.proofs.Uniqueness.{stays-becomes, stays_inj, becomes_inj}
use Rattle.head_laws.specs.Mentions.{ComesFrom, comes_from_head, comes_from_term}
use Rattle.head_laws.proofs.Heads.{next_inj, next-zero}
use Rattle.head_laws.proofs.Occurrence.{came_term}

pub up-next : (σ : Replacement) (h : LfHead) → up σ (next h) ≡ rename_image next (σ h)
up-next σ h = extended-next (stays (bound zero)) (λ k. rename_image next (σ k)) h

-- Replacements that agree on some heads agree under a binder on these and on the binder's variable.
agree_up : (P : LfHead → Type 0) (σ τ : Replacement) → ((h : LfHead) → P (next h) → σ h ≡ τ h) → (h : LfHead) → P h → up σ h ≡ up τ h
agree_up P σ τ agree = each_head (λ h. P h → up σ h ≡ up τ h) (λ o. refl) (λ h o. up-next σ h ∙ ap (rename_image next) (agree h o) ∙ sym (up-next τ h))

mutual
  pub Substituted-agree : {σ : Replacement} {t r : LfTerm} → Substituted σ t r → (τ : Replacement) → ((h : LfHead) → OccursIn h t → σ h ≡ τ h) → Substituted τ t r
  Substituted-agree (substituted_lam {σ = σ} {b = b} p) τ agree = substituted_lam (Substituted-agree p (up τ) (agree_up (λ h. OccursIn h b) σ τ (λ h o. agree h (occurs_lam h b o))))
  Substituted-agree (substituted_stays {h = h} {ts = ts} e ps) τ agree =
      substituted_stays (sym (agree h (occurs_head h ts)) ∙ e) (SubstitutedSpine-agree ps τ (λ k o. agree k (occurs_args k h ts o)))
  Substituted-agree (substituted_becomes {h = h} {ts = ts} u vs e ps p) τ agree =
      substituted_becomes u vs (sym (agree h (occurs_head h ts)) ∙ e) (SubstitutedSpine-agree ps τ (λ k o. agree k (occurs_args k h ts o))) p

  pub SubstitutedSpine-agree : {σ : Replacement} {ts rs : Spine} → SubstitutedSpine σ ts rs → (τ : Replacement) → ((h : LfHead) → OccursInSpine h ts → σ h ≡ τ h) → SubstitutedSpine τ ts rs
  SubstitutedSpine-agree substituted_none τ agree = substituted_none
  SubstitutedSpine-agree (substituted_arg {t = t} {ts = ts} p ps) τ agree =
      substituted_arg (Substituted-agree p τ (λ h o. agree h (occurs_first h t ts o))) (SubstitutedSpine-agree ps τ (λ h o. agree h (occurs_later h t ts o)))

pub SubstitutedType-agree : {σ : Replacement} {a b : LfType} → SubstitutedType σ a b → (τ : Replacement) → ((h : LfHead) → OccursInType h a → σ h ≡ τ h) → SubstitutedType τ a b
SubstitutedType-agree (substituted_pi {σ = σ} {a = a} {b = b} p q) τ agree =
    substituted_pi (SubstitutedType-agree p τ (λ h o. agree h (occurs_binder h a b o)))
    (SubstitutedType-agree q (up τ) (agree_up (λ h. OccursInType h b) σ τ (λ h o. agree h (occurs_rest h a b o))))
SubstitutedType-agree (substituted_family {f = f} {ts = ts} ps) τ agree = substituted_family (SubstitutedSpine-agree ps τ (λ h o. agree h (occurs_family h f ts o)))

pub SubstitutedContext-agree : {σ : Replacement} {ctx results : Context} → SubstitutedContext σ ctx results → (τ : Replacement) → ((h : LfHead) → OccursInContext h ctx → σ h ≡ τ h) → SubstitutedContext τ ctx results
SubstitutedContext-agree substituted_empty τ agree = substituted_empty
SubstitutedContext-agree (substituted_entry {σ = σ} {a = a} {rest = rest} p q) τ agree =
    substituted_entry (SubstitutedType-agree p τ (λ h o. agree h (occurs_entry h a rest o)))
    (SubstitutedContext-agree q (up τ) (agree_up (λ h. OccursInContext h rest) σ τ (λ h o. agree h (occurs_after h a rest o))))

-- Where each head stays, nothing changes.
pub SubstitutedSpine-stays : (ts : Spine) → SubstitutedSpine stays ts ts
SubstitutedSpine-stays no_args = substituted_none
SubstitutedSpine-stays (arg t ts) = substituted_arg (Substituted-stays t) (SubstitutedSpine-stays ts)

pub up-stays : (h : LfHead) → up stays h ≡ stays h
up-stays = each_head (λ h. up stays h ≡ stays h) refl (λ h. up-next stays h)

pub SubstitutedType-stays : (a : LfType) → SubstitutedType stays a a
SubstitutedType-stays (pi a b) = substituted_pi (SubstitutedType-stays a) (subst (λ σ. SubstitutedType σ b b) (sym (fun_ext up-stays)) (SubstitutedType-stays b))
SubstitutedType-stays (family f ts) = substituted_family (SubstitutedSpine-stays ts)

pub SubstitutedContext-stays : (ctx : Context) → SubstitutedContext stays ctx ctx
SubstitutedContext-stays [] = substituted_empty
SubstitutedContext-stays (a ∷ rest) = substituted_entry (SubstitutedType-stays a) (subst (λ σ. SubstitutedContext σ rest rest) (sym (fun_ext up-stays)) (SubstitutedContext-stays rest))

-- What occurs in a result comes from an image.
abbrev pub Mentioned : (LfHead → Type 0) → Replacement → LfHead → Type 0
Mentioned P σ h = (k : LfHead) × P k × ComesFrom h (σ k)

comes_stays : {h : LfHead} {i : Image} → ComesFrom h i → (k : LfHead) → i ≡ stays k → h ≡ k
comes_stays (comes_from_head h) k e = stays_inj refl e
comes_stays (comes_from_term h u o) k e = absurd (stays-becomes e refl)

comes_becomes : {h : LfHead} {i : Image} → ComesFrom h i → (u : LfTerm) → i ≡ becomes u → OccursIn h u
comes_becomes (comes_from_head h) u e = absurd (stays-becomes refl e)
comes_becomes (comes_from_term h w o) u e = subst (OccursIn h) (becomes_inj refl e) o

-- from under a binder
comes_next : (h : LfHead) (i : Image) → ComesFrom (next h) (rename_image next i) → ComesFrom h i
comes_next h (stays k) from = subst (λ x. ComesFrom h (stays x)) (next_inj h k (comes_stays from (next k) refl)) (comes_from_head h)
comes_next h (becomes u) from =
    let c = came_term u next (next h) (comes_becomes from (raise u) refl) in
    comes_from_term h u (subst (λ x. OccursIn x u) (sym (next_inj h c.0 c.2)) c.1)

mentioned_up : (P : LfHead → Type 0) (σ : Replacement) (h : LfHead) → Mentioned P (up σ) (next h) → Mentioned (λ k. P (next k)) σ h
mentioned_up P σ h m =
    each_head (λ k. P k → ComesFrom (next h) (up σ k) → Mentioned (λ x. P (next x)) σ h)
    (λ o from. absurd (next-zero h (comes_stays from (bound zero) refl)))
    (λ k o from. (k, o, comes_next h (σ k) (subst (ComesFrom (next h)) (up-next σ k) from)))
    m.0 m.1 m.2

-- an argument that was put, or another head
mentioned_push : (P : LfHead → Type 0) (v : LfTerm) (σ : Replacement) (h : LfHead) → Mentioned P (push v σ) h → OccursIn h v ⊎ Mentioned (λ k. P (next k)) σ h
mentioned_push P v σ h m =
    each_head (λ k. P k → ComesFrom h (push v σ k) → OccursIn h v ⊎ Mentioned (λ x. P (next x)) σ h)
    (λ o from. inl (comes_becomes from v refl))
    (λ k o from. inr (k, o, subst (ComesFrom h) (extended-next (becomes v) σ k) from))
    m.0 m.1 m.2

mutual
  pub mentioned : {σ : Replacement} {t r : LfTerm} → Substituted σ t r → (h : LfHead) → OccursIn h r → Mentioned (λ k. OccursIn k t) σ h
  mentioned (substituted_lam {σ = σ} {b = b} p) h (occurs_lam _ _ o) = let m = mentioned_up (λ k. OccursIn k b) σ h (mentioned p (next h) o) in (m.0, occurs_lam m.0 b m.1, m.2)
  mentioned (substituted_stays {h = k} {ts = ts} e ps) h (occurs_head _ _) = (k, occurs_head k ts, subst (ComesFrom h) (sym e) (comes_from_head h))
  mentioned (substituted_stays {h = k} {ts = ts} e ps) h (occurs_args _ _ _ o) = let m = mentioned_spine ps h o in (m.0, occurs_args m.0 k ts m.1, m.2)
  mentioned (substituted_becomes {σ = σ} {h = k} {ts = ts} u vs e ps p) h o = either (mentioned_applied p h o) (λ q. mentioned_spine ps h q)
    where
      either : OccursInSpine h vs ⊎ Mentioned (λ x. OccursIn x u) stays h → (OccursInSpine h vs → Mentioned (λ x. OccursInSpine x ts) σ h) → Mentioned (λ x. OccursIn x (at k ts)) σ h
      either (inl q) in_args = let m = in_args q in (m.0, occurs_args m.0 k ts m.1, m.2)
      either (inr m) in_args = (k, occurs_head k ts, subst (ComesFrom h) (sym e) (comes_from_term h u (subst (λ x. OccursIn x u) (sym (comes_stays m.2 m.0 refl)) m.1)))

  pub mentioned_spine : {σ : Replacement} {ts rs : Spine} → SubstitutedSpine σ ts rs → (h : LfHead) → OccursInSpine h rs → Mentioned (λ k. OccursInSpine k ts) σ h
  mentioned_spine substituted_none h o = elim o [ ]
  mentioned_spine (substituted_arg {t = t} {ts = ts} p ps) h (occurs_first _ _ _ o) = let m = mentioned p h o in (m.0, occurs_first m.0 t ts m.1, m.2)
  mentioned_spine (substituted_arg {t = t} {ts = ts} p ps) h (occurs_later _ _ _ o) = let m = mentioned_spine ps h o in (m.0, occurs_later m.0 t ts m.1, m.2)

  mentioned_applied : {σ : Replacement} {u r : LfTerm} {vs : Spine} → Applied σ u vs r → (h : LfHead) → OccursIn h r → OccursInSpine h vs ⊎ Mentioned (λ k. OccursIn k u) σ h
  mentioned_applied (applied_none p) h o = inr (mentioned p h o)
  mentioned_applied (applied_arg {σ = σ} {b = b} {v = v} {vs = vs} p) h o = either (mentioned_applied p h o)
    where
      put : OccursIn h v ⊎ Mentioned (λ k. OccursIn (next k) b) σ h → OccursInSpine h (arg v vs) ⊎ Mentioned (λ k. OccursIn k (lam b)) σ h
      put (inl q) = inl (occurs_first h v vs q)
      put (inr m) = inr (m.0, occurs_lam m.0 b m.1, m.2)

      either : OccursInSpine h vs ⊎ Mentioned (λ k. OccursIn k b) (push v σ) h → OccursInSpine h (arg v vs) ⊎ Mentioned (λ k. OccursIn k (lam b)) σ h
      either (inl q) = inl (occurs_later h v vs q)
      either (inr m) = put (mentioned_push (λ k. OccursIn k b) v σ h m)

pub mentioned_type : {σ : Replacement} {a c : LfType} → SubstitutedType σ a c → (h : LfHead) → OccursInType h c → Mentioned (λ k. OccursInType k a) σ h
mentioned_type (substituted_pi {a = a} {b = b} p q) h (occurs_binder _ _ _ o) = let m = mentioned_type p h o in (m.0, occurs_binder m.0 a b m.1, m.2)
mentioned_type (substituted_pi {σ = σ} {a = a} {b = b} p q) h (occurs_rest _ _ _ o) =
    let m = mentioned_up (λ k. OccursInType k b) σ h (mentioned_type q (next h) o) in
    (m.0, occurs_rest m.0 a b m.1, m.2)
mentioned_type (substituted_family {f = f} {ts = ts} ps) h (occurs_family _ _ _ o) = let m = mentioned_spine ps h o in (m.0, occurs_family m.0 f ts m.1, m.2)

pub mentioned_context : {σ : Replacement} {ctx results : Context} → SubstitutedContext σ ctx results → (h : LfHead) → OccursInContext h results → Mentioned (λ k. OccursInContext k ctx) σ h
mentioned_context substituted_empty h o = elim o [ ]
mentioned_context (substituted_entry {a = a} {rest = rest} p q) h (occurs_entry _ _ _ o) = let m = mentioned_type p h o in (m.0, occurs_entry m.0 a rest m.1, m.2)
mentioned_context (substituted_entry {σ = σ} {a = a} {rest = rest} p q) h (occurs_after _ _ _ o) =
    let m = mentioned_up (λ k. OccursInContext k rest) σ h (mentioned_context q (next h) o) in
    (m.0, occurs_after m.0 a rest m.1, m.2)
