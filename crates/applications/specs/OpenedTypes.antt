-- What a type is opened to, as a function that is total on all data.
use Rattle.std.specs.Prelude.{ℕ, suc, List, [], ◌∷◌, length, Option, Some, None, if◌then◌else◌}
use Rattle.lf_definitions.specs.Syntax.{metavariable, LfTerm, no_args, arg, LfType, pi, family, Context, shape_of, shape_size}
use Rattle.lf_definitions.specs.Renaming.{rename_type}
use Rattle.lf_definitions.specs.Substitution.{stays, Replacement, push}
use Rattle.lf_definitions.specs.Expansion.{eta}
use Rattle.typing_laws.specs.EtaLaws.{expanded}
use Rattle.lf_functions.specs.Replacing.{replaced_in_spine, replaced_in_type}
use Rattle.opening_laws.specs.Openings.{LfOpened, is_kept, returning, fixed_to, fresh_goal, context_variable, kept_variables}

-- the entries at the kept places, by themselves, from a place on
abbrev pub kept_entries : List ℕ → ℕ → Context → Context
kept_entries kept place [] = []
kept_entries kept place (a ∷ ctx) = if is_kept kept place then rename_type (returning kept place) a ∷ kept_entries kept (suc place) ctx else kept_entries kept (suc place) ctx

-- one more term
abbrev pub with_term : LfTerm → LfOpened → LfOpened
with_term t result = record { terms = arg t result.terms; fresh = result.fresh; end = result.end }

-- and a fresh goal for it
abbrev pub with_goal : LfTerm → ℕ → Context → LfType → LfOpened → LfOpened
with_goal t first entries inside result = record { terms = arg t result.terms; fresh = fresh_goal first entries inside ∷ result.fresh; end = result.end }

-- A fixed argument becomes its hypothesis, and any other one a term headed by a fresh goal; `rest` opens the arguments after it, with what puts the terms so far and the next fresh number.
abbrev pub opened_at : ℕ → List ℕ → ℕ → Context → Replacement → ℕ → Option ℕ → LfType → (Replacement → ℕ → LfOpened) → LfOpened
opened_at depth kept count entries σ first (Some place) a rest =
    with_term (eta (context_variable count place) (shape_of a)) (rest (push (eta (context_variable count place) (shape_of a)) σ) first)
opened_at depth kept count entries σ first None a rest =
    with_goal (expanded (metavariable first) (kept_variables kept count entries) (shape_of a)) first entries (rename_type (returning kept count) (replaced_in_type depth σ a))
    (rest (push (expanded (metavariable first) (kept_variables kept count entries) (shape_of a)) σ) (suc first))

-- The arguments of a type from the i-th on, where `σ` puts the terms of those before.
abbrev pub opened_from : ℕ → List ℕ → ℕ → Context → List (ℕ × ℕ) → ℕ → LfType → Replacement → ℕ → LfOpened
opened_from depth kept count entries fixed i (family f args) σ first = record { terms = no_args; fresh = []; end = record { atom_family = f; atom_args = replaced_in_spine depth σ args } }
opened_from depth kept count entries fixed i (pi a b) σ first =
    opened_at depth kept count entries σ first (fixed_to fixed i) a (opened_from depth kept count entries fixed (suc i) b)

-- A type is opened in a context, with these places kept, these arguments fixed to hypotheses, and fresh numbers from `first` on.
unfoldable pub opening_of : Context → List ℕ → List (ℕ × ℕ) → ℕ → LfType → LfOpened
opening_of ctx kept fixed first type = opened_from (shape_size (shape_of type)) kept (length ctx) (kept_entries kept 0 ctx) fixed 0 type stays first
