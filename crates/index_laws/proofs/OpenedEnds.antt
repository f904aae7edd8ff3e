-- What an opened type ends in: its conclusion, with terms put for variables, on all data.
use Rattle.std.proofs.Common.{◌≡◌, ℕ, suc, Option, Some, None, List, refl}
use Rattle.lf_definitions.specs.Syntax.{constant, metavariable, Spine, LfType, pi, family, Context, shape_of, conclusion_atom}
use Rattle.lf_definitions.specs.Substitution.{stays, Replacement, push}
use Rattle.lf_definitions.specs.Expansion.{eta}
use Rattle.typing_laws.specs.EtaLaws.{expanded}
use Rattle.lf_functions.specs.Replacing.{replaced_in_spine}
use Rattle.opening_laws.specs.Openings.{LfOpened, fixed_to, context_variable, kept_variables}
use Rattle.applications.specs.OpenedTypes.{opened_at, opened_from, opening_of}

-- Arguments are those of others, with something put for heads that are no constants.
pub record ArePut (args results : Spine) : Type 0 where
  pub depth : ℕ
  pub put : Replacement
  pub constants_stay : (c : ℕ) → put (constant c) ≡ stays (constant c)
  pub are : results ≡ replaced_in_spine depth put args

abbrev pub EndsAs : LfType → LfOpened → Type 0
EndsAs type o = (o.end.atom_family ≡ (conclusion_atom type).atom_family) × ArePut (conclusion_atom type).atom_args o.end.atom_args

abbrev ConstantsStay : Replacement → Type 0
ConstantsStay σ = (c : ℕ) → σ (constant c) ≡ stays (constant c)

module _ (depth : ℕ) (kept : List ℕ) (count : ℕ) (entries : Context) (fixed : List (ℕ × ℕ)) where
  end_from : (type : LfType) (i : ℕ) (σ : Replacement) (first : ℕ) → ConstantsStay σ → EndsAs type (opened_from depth kept count entries fixed i type σ first)
  end_from (family f args) i σ first stay = (refl, record { depth = depth; put = σ; constants_stay = stay; are = refl })
  end_from (pi a b) i σ first stay = step (fixed_to fixed i) (end_from b (suc i))
    where
      step : (o : Option ℕ) → ((τ : Replacement) (next_first : ℕ) → ConstantsStay τ → EndsAs b (opened_from depth kept count entries fixed (suc i) b τ next_first)) →
          EndsAs (pi a b) (opened_at depth kept count entries σ first o a (opened_from depth kept count entries fixed (suc i) b))
      step (Some place) later = later (push (eta (context_variable count place) (shape_of a)) σ) first stay
      step None later = later (push (expanded (metavariable first) (kept_variables kept count entries) (shape_of a)) σ) (suc first) stay

pub opened_end : (ctx : Context) (kept : List ℕ) (fixed : List (ℕ × ℕ)) (first : ℕ) (type : LfType) → EndsAs type (opening_of ctx kept fixed first type)
unfolding opening_of
opened_end ctx kept fixed first type = end_from _ kept _ _ fixed type 0 stays first (λ c. refl)
