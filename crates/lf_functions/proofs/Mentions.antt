-- A metavariable that is mentioned after a replacement comes from the image of a head that was mentioned before.
use Rattle.std.proofs.Common.{◌≡◌, ◌⊎◌, inl, inr, ℕ, zero, suc, [], ◌∷◌, refl, sym, ap, ◌∙◌, subst}
use Rattle.lf_definitions.specs.Syntax.{LfHead, bound, metavariable, LfTerm, lam, at, Spine, no_args, arg, LfType, pi, family, Context, args_count}
use Rattle.lf_definitions.specs.Renaming.{next, next_by, raise}
use Rattle.lf_definitions.specs.Occurrence.{OccursIn, occurs_head, occurs_args, occurs_lam, OccursInSpine, occurs_first, occurs_later, OccursInType, occurs_binder, occurs_rest, occurs_family, OccursInContext, occurs_entry, occurs_after}
use Rattle.lf_definitions.specs.Substitution.{Image, stays, becomes, rename_image, Replacement, up, push, push_all}
use Rattle.lf_definitions.proofs.Renaming.{extended-next, each_head}
use Rattle.lf_definitions.proofs.Telescopes.{next_by-metavariable}
use Rattle.lf_definitions.proofs.Uniqueness.{stays-becomes, stays_inj, becomes_inj}
use Rattle.head_laws.specs.Mentions.{ComesFrom, comes_from_head, comes_from_term}
use Rattle.head_laws.proofs.Heads.{next_inj, next-zero}
use Rattle.head_laws.proofs.Occurrence.{came_term}
use Rattle.head_laws.proofs.Replacing.{up-next}
use Rattle.lf_functions.specs.Replacing.{Replacing, applied_term, applied_image, replaced_term, replaced_spine, nested, replaced, replaced_in_spine, replaced_in_type, replaced_in_context}

-- from the image of a head of which `P` holds
abbrev pub Comes : (LfHead → Type 0) → Replacement → ℕ → Type 0
Comes P σ g = (k : LfHead) × P k × ComesFrom (metavariable g) (σ k)

pub from_kept : {h : LfHead} {i : Image} → ComesFrom h i → (k : LfHead) → i ≡ stays k → h ≡ k
from_kept (comes_from_head h) k e = stays_inj refl e
from_kept (comes_from_term h u o) k e = absurd (stays-becomes e refl)

pub from_put : {h : LfHead} {i : Image} → ComesFrom h i → (u : LfTerm) → i ≡ becomes u → OccursIn h u
from_put (comes_from_head h) u e = absurd (stays-becomes refl e)
from_put (comes_from_term h w o) u e = subst (OccursIn h) (becomes_inj refl e) o

from_below : (g : ℕ) (i : Image) → ComesFrom (metavariable g) (rename_image next i) → ComesFrom (metavariable g) i
from_below g (stays k) from = subst (λ x. ComesFrom (metavariable g) (stays x)) (next_inj (metavariable g) k (from_kept from (next k) refl)) (comes_from_head (metavariable g))
from_below g (becomes u) from =
    let c = came_term u next (metavariable g) (from_put from (raise u) refl) in
    comes_from_term (metavariable g) u (subst (λ x. OccursIn x u) (sym (next_inj (metavariable g) c.0 c.2)) c.1)

Comes-up : (P : LfHead → Type 0) (σ : Replacement) (g : ℕ) → Comes P (up σ) g → Comes (λ k. P (next k)) σ g
Comes-up P σ g c =
    each_head (λ k. P k → ComesFrom (metavariable g) (up σ k) → Comes (λ x. P (next x)) σ g)
    (λ o from. absurd (next-zero (metavariable g) (from_kept from (bound zero) refl)))
    (λ k o from. (k, o, from_below g (σ k) (subst (ComesFrom (metavariable g)) (up-next σ k) from)))
    c.0 c.1 c.2

-- an argument that was put, or another head
Comes-push : (P : LfHead → Type 0) (v : LfTerm) (σ : Replacement) (g : ℕ) → Comes P (push v σ) g → OccursIn (metavariable g) v ⊎ Comes (λ k. P (next k)) σ g
Comes-push P v σ g c =
    each_head (λ k. P k → ComesFrom (metavariable g) (push v σ k) → OccursIn (metavariable g) v ⊎ Comes (λ x. P (next x)) σ g)
    (λ o from. inl (from_put from v refl))
    (λ k o from. inr (k, o, subst (ComesFrom (metavariable g)) (extended-next (becomes v) σ k) from))
    c.0 c.1 c.2

abbrev MentionsWithin : Replacing → ℕ → Type 0
MentionsWithin inside g = (t : LfTerm) (σ : Replacement) → σ (metavariable g) ≡ stays (metavariable g) → OccursIn (metavariable g) (inside σ t) → Comes (λ k. OccursIn k t) σ g

module _ (inside : Replacing) (g : ℕ) (within : MentionsWithin inside g) where
  applied_mentions : (vs : Spine) (u : LfTerm) (σ : Replacement) → σ (metavariable g) ≡ stays (metavariable g) → OccursIn (metavariable g) (applied_term inside σ u vs) →
      OccursInSpine (metavariable g) vs ⊎ Comes (λ k. OccursIn k u) σ g
  applied_mentions no_args u σ fixed o = inr (within u σ fixed o)
  applied_mentions (arg v vs) (lam b) σ fixed o = either (applied_mentions vs b (push v σ) fixed o)
    where
      put : OccursIn (metavariable g) v ⊎ Comes (λ k. OccursIn (next k) b) σ g → OccursInSpine (metavariable g) (arg v vs) ⊎ Comes (λ k. OccursIn k (lam b)) σ g
      put (inl q) = inl (occurs_first (metavariable g) v vs q)
      put (inr c) = inr (c.0, occurs_lam c.0 b c.1, c.2)

      either : OccursInSpine (metavariable g) vs ⊎ Comes (λ k. OccursIn k b) (push v σ) g → OccursInSpine (metavariable g) (arg v vs) ⊎ Comes (λ k. OccursIn k (lam b)) σ g
      either (inl q) = inl (occurs_later (metavariable g) v vs q)
      either (inr c) = put (Comes-push (λ k. OccursIn k b) v σ g c)
  applied_mentions (arg v vs) (at h ts) σ fixed o = inr (metavariable g, o, subst (ComesFrom (metavariable g)) (sym fixed) (comes_from_head (metavariable g)))

  image_mentions : (i : Image) (vs : Spine) → OccursIn (metavariable g) (applied_image inside i vs) → OccursInSpine (metavariable g) vs ⊎ ComesFrom (metavariable g) i
  image_mentions (stays k) vs (occurs_head _ _) = inr (comes_from_head (metavariable g))
  image_mentions (stays k) vs (occurs_args _ _ _ o) = inl o
  image_mentions (becomes u) vs o = either (applied_mentions vs u stays refl o)
    where
      either : OccursInSpine (metavariable g) vs ⊎ Comes (λ k. OccursIn k u) stays g → OccursInSpine (metavariable g) vs ⊎ ComesFrom (metavariable g) (becomes u)
      either (inl q) = inl q
      either (inr c) = inr (comes_from_term (metavariable g) u (subst (λ x. OccursIn x u) (sym (from_kept c.2 c.0 refl)) c.1))

  mutual
    term_mentions : (t : LfTerm) (σ : Replacement) → OccursIn (metavariable g) (replaced_term inside σ t) → Comes (λ k. OccursIn k t) σ g
    term_mentions (lam b) σ (occurs_lam _ _ o) = let c = Comes-up (λ k. OccursIn k b) σ g (term_mentions b (up σ) o) in (c.0, occurs_lam c.0 b c.1, c.2)
    term_mentions (at h ts) σ o = either (image_mentions (σ h) (replaced_spine inside σ ts) o) (λ q. spine_mentions ts σ q)
      where
        either : OccursInSpine (metavariable g) (replaced_spine inside σ ts) ⊎ ComesFrom (metavariable g) (σ h) →
            (OccursInSpine (metavariable g) (replaced_spine inside σ ts) → Comes (λ k. OccursInSpine k ts) σ g) → Comes (λ k. OccursIn k (at h ts)) σ g
        either (inl q) in_args = let c = in_args q in (c.0, occurs_args c.0 h ts c.1, c.2)
        either (inr from) in_args = (h, occurs_head h ts, from)

    spine_mentions : (ts : Spine) (σ : Replacement) → OccursInSpine (metavariable g) (replaced_spine inside σ ts) → Comes (λ k. OccursInSpine k ts) σ g
    spine_mentions no_args σ o = elim o [ ]
    spine_mentions (arg t ts) σ (occurs_first _ _ _ o) = let c = term_mentions t σ o in (c.0, occurs_first c.0 t ts c.1, c.2)
    spine_mentions (arg t ts) σ (occurs_later _ _ _ o) = let c = spine_mentions ts σ o in (c.0, occurs_later c.0 t ts c.1, c.2)

nested_mentions : (depth g : ℕ) → MentionsWithin (nested depth) g
nested_mentions zero g t σ fixed o = (metavariable g, o, subst (ComesFrom (metavariable g)) (sym fixed) (comes_from_head (metavariable g)))
nested_mentions (suc depth) g t σ fixed o = term_mentions (nested depth) g (nested_mentions depth g) t σ o

pub replaced_mentions : (depth g : ℕ) (t : LfTerm) (σ : Replacement) → OccursIn (metavariable g) (replaced depth σ t) → Comes (λ k. OccursIn k t) σ g
unfolding replaced
replaced_mentions depth g t σ o = term_mentions (nested depth) g (nested_mentions depth g) t σ o

pub replaced_in_spine_mentions : (depth g : ℕ) (ts : Spine) (σ : Replacement) → OccursInSpine (metavariable g) (replaced_in_spine depth σ ts) → Comes (λ k. OccursInSpine k ts) σ g
unfolding replaced_in_spine
replaced_in_spine_mentions depth g ts σ o = spine_mentions (nested depth) g (nested_mentions depth g) ts σ o

pub replaced_in_type_mentions : (depth g : ℕ) (a : LfType) (σ : Replacement) → OccursInType (metavariable g) (replaced_in_type depth σ a) → Comes (λ k. OccursInType k a) σ g
unfolding replaced_in_type
replaced_in_type_mentions depth g (pi a b) σ (occurs_binder _ _ _ o) = let c = replaced_in_type_mentions depth g a σ o in (c.0, occurs_binder c.0 a b c.1, c.2)
replaced_in_type_mentions depth g (pi a b) σ (occurs_rest _ _ _ o) =
    let c = Comes-up (λ k. OccursInType k b) σ g (replaced_in_type_mentions depth g b (up σ) o) in
    (c.0, occurs_rest c.0 a b c.1, c.2)
replaced_in_type_mentions depth g (family f args) σ (occurs_family _ _ _ o) = let c = replaced_in_spine_mentions depth g args σ o in (c.0, occurs_family c.0 f args c.1, c.2)

pub replaced_in_context_mentions : (depth g : ℕ) (ctx : Context) (σ : Replacement) → OccursInContext (metavariable g) (replaced_in_context depth σ ctx) → Comes (λ k. OccursInContext k ctx) σ g
unfolding replaced_in_context
replaced_in_context_mentions depth g [] σ o = elim o [ ]
replaced_in_context_mentions depth g (a ∷ rest) σ (occurs_entry _ _ _ o) = let c = replaced_in_type_mentions depth g a σ o in (c.0, occurs_entry c.0 a rest c.1, c.2)
replaced_in_context_mentions depth g (a ∷ rest) σ (occurs_after _ _ _ o) =
    let c = Comes-up (λ k. OccursInContext k rest) σ g (replaced_in_context_mentions depth g rest (up σ) o) in
    (c.0, occurs_after c.0 a rest c.1, c.2)

-- A list puts its terms.
comes_from_list : (sub : Spine) (σ : Replacement) (g : ℕ) (P : LfHead → Type 0) → Comes P (push_all sub σ) g → OccursInSpine (metavariable g) sub ⊎ Comes (λ k. P (next_by (args_count sub) k)) σ g
comes_from_list no_args σ g P c = inr c
comes_from_list (arg u us) σ g P c = either (comes_from_list us (push u σ) g P c)
  where
    put : OccursIn (metavariable g) u ⊎ Comes (λ k. P (next_by (args_count us) (next k))) σ g → OccursInSpine (metavariable g) (arg u us) ⊎ Comes (λ k. P (next_by (args_count us) (next k))) σ g
    put (inl q) = inl (occurs_first (metavariable g) u us q)
    put (inr c) = inr c

    either : OccursInSpine (metavariable g) us ⊎ Comes (λ k. P (next_by (args_count us) k)) (push u σ) g → OccursInSpine (metavariable g) (arg u us) ⊎ Comes (λ k. P (next_by (args_count us) (next k))) σ g
    either (inl q) = inl (occurs_later (metavariable g) u us q)
    either (inr c) = put (Comes-push (λ k. P (next_by (args_count us) k)) u σ g c)

pub in_list_or_before : (sub : Spine) (g : ℕ) (P : LfHead → Type 0) → Comes P (push_all sub stays) g → P (metavariable g) ⊎ OccursInSpine (metavariable g) sub
in_list_or_before sub g P c = either (comes_from_list sub stays g P c)
  where
    either : OccursInSpine (metavariable g) sub ⊎ Comes (λ k. P (next_by (args_count sub) k)) stays g → P (metavariable g) ⊎ OccursInSpine (metavariable g) sub
    either (inl q) = inr q
    either (inr (k, p, from)) = inl (subst P (ap (next_by (args_count sub)) (sym (from_kept from k refl)) ∙ next_by-metavariable (args_count sub) g) p)
