-- Whether a variable occurs, which binders are premises and which types have binders does not change where metavariables are renamed.
use Rattle.std.proofs.Common.{◌≡◌, ℕ, zero, suc, [], ◌∷◌, refl, ap, ap₂, ◌∙◌}
use Rattle.std.specs.Prelude.{not, ◌||◌, if◌then◌else◌}
use Rattle.lf_definitions.specs.Syntax.{LfHead, bound, constant, metavariable, LfTerm, lam, at, Spine, no_args, arg, LfType, pi, family, Context, binders_of}
use Rattle.lf_definitions.specs.Renaming.{Renaming, lifted, rename, rename_spine, rename_type, rename_context}
use Rattle.lf_definitions.specs.Instantiation.{metavariables}
use Rattle.head_laws.specs.Mentions.{same_head, occurs_in, occurs_in_spine, occurs_in_type, occurs_in_context}
use Rattle.head_laws.proofs.Metavariables.{lifted-metavariables}
use Rattle.applications.specs.Candidates.{premise_marks, premises_from, is_atomic, occurs_later, occurs_under, occurs_at_end}
use Rattle.applications.proofs.RenamedParts.{binders_of-rename_type}

pub is_atomic-rename_type : (a : LfType) (ξ : Renaming) → is_atomic (rename_type ξ a) ≡ is_atomic a
is_atomic-rename_type (pi a b) ξ = refl
is_atomic-rename_type (family f args) ξ = refl

module _ (ρ : ℕ → ℕ) where
  same_variable : (n : ℕ) (k : LfHead) → same_head (bound n) (metavariables ρ k) ≡ same_head (bound n) k
  same_variable n (bound m) = refl
  same_variable n (constant c) = refl
  same_variable n (metavariable g) = refl

  mutual
    pub variable_in : (t : LfTerm) (n : ℕ) → occurs_in (bound n) (rename (metavariables ρ) t) ≡ occurs_in (bound n) t
    variable_in (lam b) n = ap (λ ξ. occurs_in (bound (suc n)) (rename ξ b)) (lifted-metavariables ρ) ∙ variable_in b (suc n)
    variable_in (at h ts) n = ap₂ (λ x y. x || y) (same_variable n h) (variable_in_spine ts n)

    pub variable_in_spine : (ts : Spine) (n : ℕ) → occurs_in_spine (bound n) (rename_spine (metavariables ρ) ts) ≡ occurs_in_spine (bound n) ts
    variable_in_spine no_args n = refl
    variable_in_spine (arg t ts) n = ap₂ (λ x y. x || y) (variable_in t n) (variable_in_spine ts n)

  pub variable_in_type : (a : LfType) (n : ℕ) → occurs_in_type (bound n) (rename_type (metavariables ρ) a) ≡ occurs_in_type (bound n) a
  variable_in_type (pi a b) n =
      ap₂ (λ x y. x || y) (variable_in_type a n) (ap (λ ξ. occurs_in_type (bound (suc n)) (rename_type ξ b)) (lifted-metavariables ρ) ∙ variable_in_type b (suc n))
  variable_in_type (family f args) n = variable_in_spine args n

  variable_in_context : (ctx : Context) (n : ℕ) → occurs_in_context (bound n) (rename_context (metavariables ρ) ctx) ≡ occurs_in_context (bound n) ctx
  variable_in_context [] n = refl
  variable_in_context (a ∷ rest) n =
      ap₂ (λ x y. x || y) (variable_in_type a n) (ap (λ ξ. occurs_in_context (bound (suc n)) (rename_context ξ rest)) (lifted-metavariables ρ) ∙ variable_in_context rest (suc n))

  pub variable_under : (a : LfType) (n : ℕ) → occurs_under (bound n) (rename_type (metavariables ρ) a) ≡ occurs_under (bound n) a
  variable_under (pi a b) n = ap (λ ξ. occurs_under (bound (suc n)) (rename_type ξ b)) (lifted-metavariables ρ) ∙ variable_under b (suc n)
  variable_under (family f args) n = variable_in_spine args n

  -- the innermost binder of what is under it
  first_variable : (b : LfType) → occurs_in_type (bound zero) (rename_type (lifted (metavariables ρ)) b) ≡ occurs_in_type (bound zero) b
  first_variable b = ap (λ ξ. occurs_in_type (bound zero) (rename_type ξ b)) (lifted-metavariables ρ) ∙ variable_in_type b zero

  pub premise_marks-renamed : (a : LfType) → premise_marks (rename_type (metavariables ρ) a) ≡ premise_marks a
  premise_marks-renamed (pi a b) =
      ap₂ (λ occurs marks. not occurs ∷ marks) (first_variable b) (ap (λ ξ. premise_marks (rename_type ξ b)) (lifted-metavariables ρ) ∙ premise_marks-renamed b)
  premise_marks-renamed (family f args) = refl

  pub premises_from-renamed : (a : LfType) (i : ℕ) → premises_from i (rename_type (metavariables ρ) a) ≡ premises_from i a
  premises_from-renamed (pi a b) i =
      ap₂ (λ occurs later. if occurs then later else i ∷ later) (first_variable b) (ap (λ ξ. premises_from (suc i) (rename_type ξ b)) (lifted-metavariables ρ) ∙ premises_from-renamed b (suc i))
  premises_from-renamed (family f args) i = refl

  pub occurs_later-renamed : (a : LfType) (k : ℕ) → occurs_later (rename_type (metavariables ρ) a) k ≡ occurs_later a k
  occurs_later-renamed (family f args) k = refl
  occurs_later-renamed (pi a b) zero =
      ap (λ ξ. occurs_in_context (bound zero) (binders_of (rename_type ξ b))) (lifted-metavariables ρ)
      ∙ ap (occurs_in_context (bound zero)) (binders_of-rename_type b (metavariables ρ)) ∙ variable_in_context (binders_of b) zero
  occurs_later-renamed (pi a b) (suc k) = ap (λ ξ. occurs_later (rename_type ξ b) k) (lifted-metavariables ρ) ∙ occurs_later-renamed b k

  pub occurs_at_end-renamed : (a : LfType) (k : ℕ) → occurs_at_end (rename_type (metavariables ρ) a) k ≡ occurs_at_end a k
  occurs_at_end-renamed (family f args) k = refl
  occurs_at_end-renamed (pi a b) zero = ap (λ ξ. occurs_under (bound zero) (rename_type ξ b)) (lifted-metavariables ρ) ∙ variable_under b zero
  occurs_at_end-renamed (pi a b) (suc k) = ap (λ ξ. occurs_at_end (rename_type ξ b) k) (lifted-metavariables ρ) ∙ occurs_at_end-renamed b k
