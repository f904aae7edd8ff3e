-- What a replacement makes of terms goes along with a renaming of metavariables, on all data.
use Rattle.std.proofs.Common.{◌≡◌, ℕ, zero, suc, [], ◌∷◌, refl, sym, ap, ap₂, ◌∙◌, subst}
use Rattle.lf_definitions.specs.Syntax.{LfTerm, lam, at, Spine, no_args, arg, LfType, pi, family, LfAtom, Context}
use Rattle.lf_definitions.specs.Renaming.{rename, rename_spine, rename_type, rename_context}
use Rattle.lf_definitions.specs.Substitution.{Image, stays, becomes, rename_image, Replacement, up, up_by, push}
use Rattle.lf_definitions.specs.Instantiation.{metavariables}
use Rattle.lf_definitions.proofs.Renaming.{Follows, Follows-up}
use Rattle.head_laws.proofs.Metavariables.{lifted-metavariables, Follows-push_metavariables}
use Rattle.renamed_unification.specs.Laws.{rename_atom}
use Rattle.lf_functions.specs.Replacing.{Replacing, applied_term, applied_image, replaced_term, replaced_spine, nested, replaced, replaced_in_spine, replaced_in_type, replaced_in_atom, replaced_in_context}

-- `τ` does to renamed heads what `σ` does to heads, renamed.
abbrev pub GoesAlong : (ℕ → ℕ) → Replacement → Replacement → Type 0
GoesAlong ρ σ τ = Follows (metavariables ρ) (metavariables ρ) σ τ

pub GoesAlong-up : (ρ : ℕ → ℕ) (σ τ : Replacement) → GoesAlong ρ σ τ → GoesAlong ρ (up σ) (up τ)
GoesAlong-up ρ σ τ along = subst (λ ξ. Follows ξ ξ (up σ) (up τ)) (lifted-metavariables ρ) (Follows-up (metavariables ρ) (metavariables ρ) σ τ along)

pub GoesAlong-up_by : (n : ℕ) (ρ : ℕ → ℕ) (σ τ : Replacement) → GoesAlong ρ σ τ → GoesAlong ρ (up_by n σ) (up_by n τ)
GoesAlong-up_by zero ρ σ τ along = along
GoesAlong-up_by (suc n) ρ σ τ along = GoesAlong-up_by n ρ (up σ) (up τ) (GoesAlong-up ρ σ τ along)

abbrev Commutes : (ℕ → ℕ) → Replacing → Type 0
Commutes ρ inside = (t : LfTerm) (σ τ : Replacement) → GoesAlong ρ σ τ → inside τ (rename (metavariables ρ) t) ≡ rename (metavariables ρ) (inside σ t)

module _ (ρ : ℕ → ℕ) (inside : Replacing) (commutes : Commutes ρ inside) where
  applied_term-renamed : (vs : Spine) (u : LfTerm) (σ τ : Replacement) → GoesAlong ρ σ τ →
      applied_term inside τ (rename (metavariables ρ) u) (rename_spine (metavariables ρ) vs) ≡ rename (metavariables ρ) (applied_term inside σ u vs)
  applied_term-renamed no_args u σ τ along = commutes u σ τ along
  applied_term-renamed (arg v vs) (lam b) σ τ along =
      let ζ = metavariables ρ in
      ap (λ ξ. applied_term inside (push (rename ζ v) τ) (rename ξ b) (rename_spine ζ vs)) (lifted-metavariables ρ)
      ∙ applied_term-renamed vs b (push v σ) (push (rename ζ v) τ) (Follows-push_metavariables ρ σ τ v along)
  applied_term-renamed (arg v vs) (at h ts) σ τ along = refl

  applied_image-renamed : (i : Image) (vs : Spine) → applied_image inside (rename_image (metavariables ρ) i) (rename_spine (metavariables ρ) vs) ≡ rename (metavariables ρ) (applied_image inside i vs)
  applied_image-renamed (stays k) vs = refl
  applied_image-renamed (becomes u) vs = applied_term-renamed vs u stays stays (λ h. refl)

  mutual
    replaced_term-renamed : (t : LfTerm) (σ τ : Replacement) → GoesAlong ρ σ τ → replaced_term inside τ (rename (metavariables ρ) t) ≡ rename (metavariables ρ) (replaced_term inside σ t)
    replaced_term-renamed (lam b) σ τ along =
        ap lam (subst (λ ξ. replaced_term inside (up τ) (rename ξ b) ≡ rename ξ (replaced_term inside (up σ) b)) (sym (lifted-metavariables ρ)) (replaced_term-renamed b (up σ) (up τ) (GoesAlong-up ρ σ τ along)))
    replaced_term-renamed (at h ts) σ τ along =
        ap₂ (applied_image inside) (along h) (replaced_spine-renamed ts σ τ along) ∙ applied_image-renamed (σ h) (replaced_spine inside σ ts)

    replaced_spine-renamed : (ts : Spine) (σ τ : Replacement) → GoesAlong ρ σ τ → replaced_spine inside τ (rename_spine (metavariables ρ) ts) ≡ rename_spine (metavariables ρ) (replaced_spine inside σ ts)
    replaced_spine-renamed no_args σ τ along = refl
    replaced_spine-renamed (arg t ts) σ τ along = ap₂ arg (replaced_term-renamed t σ τ along) (replaced_spine-renamed ts σ τ along)

nested-renamed : (depth : ℕ) (ρ : ℕ → ℕ) → Commutes ρ (nested depth)
nested-renamed zero ρ t σ τ along = refl
nested-renamed (suc depth) ρ t σ τ along = replaced_term-renamed ρ (nested depth) (nested-renamed depth ρ) t σ τ along

pub replaced-renamed : (depth : ℕ) (ρ : ℕ → ℕ) (t : LfTerm) (σ τ : Replacement) → GoesAlong ρ σ τ → replaced depth τ (rename (metavariables ρ) t) ≡ rename (metavariables ρ) (replaced depth σ t)
unfolding replaced
replaced-renamed depth ρ t σ τ along = replaced_term-renamed ρ (nested depth) (nested-renamed depth ρ) t σ τ along

pub replaced_in_spine-renamed : (depth : ℕ) (ρ : ℕ → ℕ) (ts : Spine) (σ τ : Replacement) → GoesAlong ρ σ τ →
    replaced_in_spine depth τ (rename_spine (metavariables ρ) ts) ≡ rename_spine (metavariables ρ) (replaced_in_spine depth σ ts)
unfolding replaced_in_spine
replaced_in_spine-renamed depth ρ ts σ τ along = replaced_spine-renamed ρ (nested depth) (nested-renamed depth ρ) ts σ τ along

pub replaced_in_type-renamed : (depth : ℕ) (ρ : ℕ → ℕ) (a : LfType) (σ τ : Replacement) → GoesAlong ρ σ τ →
    replaced_in_type depth τ (rename_type (metavariables ρ) a) ≡ rename_type (metavariables ρ) (replaced_in_type depth σ a)
unfolding replaced_in_type
replaced_in_type-renamed depth ρ (pi a b) σ τ along =
    ap₂ pi (replaced_in_type-renamed depth ρ a σ τ along)
    (subst (λ ξ. replaced_in_type depth (up τ) (rename_type ξ b) ≡ rename_type ξ (replaced_in_type depth (up σ) b)) (sym (lifted-metavariables ρ))
    (replaced_in_type-renamed depth ρ b (up σ) (up τ) (GoesAlong-up ρ σ τ along)))
replaced_in_type-renamed depth ρ (family f args) σ τ along = ap (family f) (replaced_in_spine-renamed depth ρ args σ τ along)

atom_of_parts : ℕ → Spine → LfAtom
atom_of_parts f ts = record { atom_family = f; atom_args = ts }

pub replaced_in_atom-renamed : (depth : ℕ) (ρ : ℕ → ℕ) (a : LfAtom) (σ τ : Replacement) → GoesAlong ρ σ τ → replaced_in_atom depth τ (rename_atom ρ a) ≡ rename_atom ρ (replaced_in_atom depth σ a)
unfolding replaced_in_atom atom_of_parts
replaced_in_atom-renamed depth ρ a σ τ along = ap (atom_of_parts a.atom_family) (replaced_in_spine-renamed depth ρ a.atom_args σ τ along)

pub replaced_in_context-renamed : (depth : ℕ) (ρ : ℕ → ℕ) (ctx : Context) (σ τ : Replacement) → GoesAlong ρ σ τ →
    replaced_in_context depth τ (rename_context (metavariables ρ) ctx) ≡ rename_context (metavariables ρ) (replaced_in_context depth σ ctx)
unfolding replaced_in_context
replaced_in_context-renamed depth ρ [] σ τ along = refl
replaced_in_context-renamed depth ρ (a ∷ rest) σ τ along =
    ap₂ (λ c results. c ∷ results) (replaced_in_type-renamed depth ρ a σ τ along)
    (subst (λ ξ. replaced_in_context depth (up τ) (rename_context ξ rest) ≡ rename_context ξ (replaced_in_context depth (up σ) rest)) (sym (lifted-metavariables ρ))
    (replaced_in_context-renamed depth ρ rest (up σ) (up τ) (GoesAlong-up ρ σ τ along)))
