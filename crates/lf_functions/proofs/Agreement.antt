-- What a replacement makes of terms depends on the heads that occur alone, and where these stay nothing changes.
use Rattle.std.proofs.Common.{◌≡◌, ℕ, [], ◌∷◌, refl, sym, ap, ap₂, ◌∙◌}
use mathlib.Core.Path.{fun_ext}
use Rattle.lf_definitions.specs.Syntax.{LfHead, LfTerm, lam, at, Spine, no_args, arg, LfType, pi, family, LfAtom, Context}
use Rattle.lf_definitions.specs.Renaming.{next}
use Rattle.lf_definitions.specs.Occurrence.{OccursIn, occurs_head, occurs_args, occurs_lam, OccursInSpine, occurs_first, occurs_later, OccursInType, occurs_binder, occurs_rest, occurs_family, OccursInContext, occurs_entry, occurs_after}
use Rattle.lf_definitions.specs.Substitution.{rename_image, stays, Replacement, up}
use Rattle.lf_definitions.proofs.Renaming.{each_head}
use Rattle.head_laws.proofs.Replacing.{up-next, up-stays}
use Rattle.lf_functions.specs.Replacing.{Replacing, applied_image, replaced_term, replaced_spine, nested, replaced, replaced_in_spine, replaced_in_type, replaced_in_atom, replaced_in_context}

-- Replacements agree on some heads.
abbrev pub AgreeOn : (LfHead → Type 0) → Replacement → Replacement → Type 0
AgreeOn P σ τ = (h : LfHead) → P h → σ h ≡ τ h

AgreeOn-up : (P : LfHead → Type 0) (σ τ : Replacement) → AgreeOn (λ h. P (next h)) σ τ → AgreeOn P (up σ) (up τ)
AgreeOn-up P σ τ agree = each_head (λ h. P h → up σ h ≡ up τ h) (λ o. refl) (λ h o. up-next σ h ∙ ap (rename_image next) (agree h o) ∙ sym (up-next τ h))

mutual
  replaced_term-agree : (inside : Replacing) (t : LfTerm) (σ τ : Replacement) → AgreeOn (λ h. OccursIn h t) σ τ → replaced_term inside σ t ≡ replaced_term inside τ t
  replaced_term-agree inside (lam b) σ τ agree =
      ap lam (replaced_term-agree inside b (up σ) (up τ) (AgreeOn-up (λ h. OccursIn h b) σ τ (λ h o. agree h (occurs_lam h b o))))
  replaced_term-agree inside (at h ts) σ τ agree =
      ap₂ (applied_image inside) (agree h (occurs_head h ts)) (replaced_spine-agree inside ts σ τ (λ k o. agree k (occurs_args k h ts o)))

  replaced_spine-agree : (inside : Replacing) (ts : Spine) (σ τ : Replacement) → AgreeOn (λ h. OccursInSpine h ts) σ τ → replaced_spine inside σ ts ≡ replaced_spine inside τ ts
  replaced_spine-agree inside no_args σ τ agree = refl
  replaced_spine-agree inside (arg t ts) σ τ agree =
      ap₂ arg (replaced_term-agree inside t σ τ (λ h o. agree h (occurs_first h t ts o))) (replaced_spine-agree inside ts σ τ (λ h o. agree h (occurs_later h t ts o)))

pub replaced-agree : (depth : ℕ) (t : LfTerm) (σ τ : Replacement) → AgreeOn (λ h. OccursIn h t) σ τ → replaced depth σ t ≡ replaced depth τ t
unfolding replaced
replaced-agree depth t σ τ agree = replaced_term-agree (nested depth) t σ τ agree

pub replaced_in_spine-agree : (depth : ℕ) (ts : Spine) (σ τ : Replacement) → AgreeOn (λ h. OccursInSpine h ts) σ τ → replaced_in_spine depth σ ts ≡ replaced_in_spine depth τ ts
unfolding replaced_in_spine
replaced_in_spine-agree depth ts σ τ agree = replaced_spine-agree (nested depth) ts σ τ agree

pub replaced_in_type-agree : (depth : ℕ) (a : LfType) (σ τ : Replacement) → AgreeOn (λ h. OccursInType h a) σ τ → replaced_in_type depth σ a ≡ replaced_in_type depth τ a
unfolding replaced_in_type
replaced_in_type-agree depth (pi a b) σ τ agree =
    ap₂ pi (replaced_in_type-agree depth a σ τ (λ h o. agree h (occurs_binder h a b o)))
    (replaced_in_type-agree depth b (up σ) (up τ) (AgreeOn-up (λ h. OccursInType h b) σ τ (λ h o. agree h (occurs_rest h a b o))))
replaced_in_type-agree depth (family f args) σ τ agree = ap (family f) (replaced_in_spine-agree depth args σ τ (λ h o. agree h (occurs_family h f args o)))

atom_from : ℕ → Spine → LfAtom
atom_from f ts = record { atom_family = f; atom_args = ts }

pub replaced_in_atom-agree : (depth : ℕ) (a : LfAtom) (σ τ : Replacement) → AgreeOn (λ h. OccursInSpine h a.atom_args) σ τ → replaced_in_atom depth σ a ≡ replaced_in_atom depth τ a
unfolding replaced_in_atom atom_from
replaced_in_atom-agree depth a σ τ agree = ap (atom_from a.atom_family) (replaced_in_spine-agree depth a.atom_args σ τ agree)

pub replaced_in_context-agree : (depth : ℕ) (ctx : Context) (σ τ : Replacement) → AgreeOn (λ h. OccursInContext h ctx) σ τ → replaced_in_context depth σ ctx ≡ replaced_in_context depth τ ctx
unfolding replaced_in_context
replaced_in_context-agree depth [] σ τ agree = refl
replaced_in_context-agree depth (a ∷ rest) σ τ agree =
    ap₂ (λ c results. c ∷ results) (replaced_in_type-agree depth a σ τ (λ h o. agree h (occurs_entry h a rest o)))
    (replaced_in_context-agree depth rest (up σ) (up τ) (AgreeOn-up (λ h. OccursInContext h rest) σ τ (λ h o. agree h (occurs_after h a rest o))))

-- Where all stays, nothing changes.
mutual
  replaced_term-stays : (inside : Replacing) (t : LfTerm) → replaced_term inside stays t ≡ t
  replaced_term-stays inside (lam b) = ap lam (ap (λ σ. replaced_term inside σ b) (fun_ext up-stays) ∙ replaced_term-stays inside b)
  replaced_term-stays inside (at h ts) = ap (at h) (replaced_spine-stays inside ts)

  replaced_spine-stays : (inside : Replacing) (ts : Spine) → replaced_spine inside stays ts ≡ ts
  replaced_spine-stays inside no_args = refl
  replaced_spine-stays inside (arg t ts) = ap₂ arg (replaced_term-stays inside t) (replaced_spine-stays inside ts)

pub replaced-stays : (depth : ℕ) (t : LfTerm) → replaced depth stays t ≡ t
unfolding replaced
replaced-stays depth t = replaced_term-stays (nested depth) t

pub replaced_in_spine-stays : (depth : ℕ) (ts : Spine) → replaced_in_spine depth stays ts ≡ ts
unfolding replaced_in_spine
replaced_in_spine-stays depth ts = replaced_spine-stays (nested depth) ts

pub replaced_in_type-stays : (depth : ℕ) (a : LfType) → replaced_in_type depth stays a ≡ a
unfolding replaced_in_type
replaced_in_type-stays depth (pi a b) = ap₂ pi (replaced_in_type-stays depth a) (ap (λ σ. replaced_in_type depth σ b) (fun_ext up-stays) ∙ replaced_in_type-stays depth b)
replaced_in_type-stays depth (family f args) = ap (family f) (replaced_in_spine-stays depth args)

pub replaced_in_atom-stays : (depth : ℕ) (a : LfAtom) → replaced_in_atom depth stays a ≡ a
unfolding replaced_in_atom atom_from
replaced_in_atom-stays depth a = ap (atom_from a.atom_family) (replaced_in_spine-stays depth a.atom_args)

pub replaced_in_context-stays : (depth : ℕ) (ctx : Context) → replaced_in_context depth stays ctx ≡ ctx
unfolding replaced_in_context
replaced_in_context-stays depth [] = refl
replaced_in_context-stays depth (a ∷ rest) =
    ap₂ (λ c results. c ∷ results) (replaced_in_type-stays depth a) (ap (λ σ. replaced_in_context depth σ rest) (fun_ext up-stays) ∙ replaced_in_context-stays depth rest)
