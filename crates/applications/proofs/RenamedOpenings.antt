-- An opening, as a function, goes along with renamings of metavariables.
use Rattle.std.proofs.Common.{◌≡◌, ℕ, suc, ◌+◌, Bool, true, false, Option, Some, None, List, [], ◌∷◌, length, refl, sym, ap, ap₂, ◌∙◌, arith}
use Rattle.std.specs.Prelude.{if◌then◌else◌}
use Rattle.lf_definitions.specs.Syntax.{metavariable, LfTerm, Spine, no_args, arg, base, arrows, LfType, pi, family, Context, shape_of, shapes_of_types, shape_size, arity}
use Rattle.lf_definitions.specs.Renaming.{lifted, rename, rename_spine, rename_type, rename_context}
use Rattle.lf_definitions.specs.Substitution.{stays, Replacement, push}
use Rattle.lf_definitions.specs.Expansion.{own_variables, eta}
use Rattle.lf_definitions.specs.Typing.{LfGoal}
use Rattle.lf_definitions.specs.Instantiation.{metavariables, rename_goal}
use Rattle.lf_definitions.proofs.Expansion.{rename-eta}
use Rattle.lf_definitions.proofs.Types.{shape_of-rename_type}
use Rattle.lf_definitions.proofs.TypedSpines.{length-rename_context}
use Rattle.head_laws.proofs.Metavariables.{lifted-metavariables, lifted_by-metavariables, Follows-push_metavariables}
use Rattle.typing_laws.specs.EtaLaws.{expanded}
use Rattle.opening_laws.specs.Openings.{context_variable, is_kept, keeping, returning, fixed_to, fresh_goal, kept_variables, LfOpened, rename_opened}
use Rattle.opening_laws.proofs.Expanded.{own_variables_renamed, rename-expanded}
use Rattle.lf_functions.specs.Replacing.{replaced_in_type}
use Rattle.lf_functions.proofs.Renamed.{GoesAlong, replaced_in_spine-renamed, replaced_in_type-renamed}
use Rattle.applications.specs.OpenedTypes.{kept_entries, with_term, with_goal, opened_at, opened_from, opening_of}
use Rattle.applications.specs.Laws.{TakesNumbersFrom, OpeningFunctionsAreRenamed}
use Rattle.applications.proofs.RenamedParts.{keeping-along, returning-along, rename_type-along, rename_spine-along, shapes_of_types-rename_context, fresh_goal-renamed}

one_entry : (ρ : ℕ → ℕ) (b : Bool) (a c : LfType) (rest more : Context) → c ≡ rename_type (metavariables ρ) a → more ≡ rename_context (metavariables ρ) rest →
    (if b then c ∷ more else more) ≡ rename_context (metavariables ρ) (if b then a ∷ rest else rest)
one_entry ρ true a c rest more e later = ap₂ (λ x xs. x ∷ xs) e (later ∙ ap (λ ξ. rename_context ξ rest) (sym (lifted-metavariables ρ)))
one_entry ρ false a c rest more e later = later

pub kept_entries-renamed : (ρ : ℕ → ℕ) (kept : List ℕ) (place : ℕ) (ctx : Context) → kept_entries kept place (rename_context (metavariables ρ) ctx) ≡ rename_context (metavariables ρ) (kept_entries kept place ctx)
kept_entries-renamed ρ kept place [] = refl
kept_entries-renamed ρ kept place (a ∷ ctx) =
    let ζ = metavariables ρ in
    one_entry ρ (is_kept kept place) (rename_type (returning kept place) a) (rename_type (returning kept place) (rename_type ζ a)) (kept_entries kept (suc place) ctx) (kept_entries kept (suc place) (rename_context (lifted ζ) ctx))
    (rename_type-along ρ (returning kept place) (returning-along ρ kept place) a)
    (ap (λ ξ. kept_entries kept (suc place) (rename_context ξ ctx)) (lifted-metavariables ρ) ∙ kept_entries-renamed ρ kept (suc place) ctx)

pub kept_variables-renamed : (ρ : ℕ → ℕ) (kept : List ℕ) (count : ℕ) (entries : Context) → kept_variables kept count (rename_context (metavariables ρ) entries) ≡ rename_spine (metavariables ρ) (kept_variables kept count entries)
kept_variables-renamed ρ kept count entries =
    let ζ = metavariables ρ in
    let s = arrows (shapes_of_types entries) base in
    let same : rename_spine ζ (own_variables s) ≡ own_variables s =
    ap (λ ξ. rename_spine ξ (own_variables s)) (sym (lifted_by-metavariables (arity s) ρ)) ∙ own_variables_renamed s ζ in
    ap (λ shapes. rename_spine (keeping kept count) (own_variables (arrows shapes base))) (shapes_of_types-rename_context entries ζ)
    ∙ ap (rename_spine (keeping kept count)) (sym same)
    ∙ rename_spine-along ρ (keeping kept count) (keeping-along ρ kept count) (own_variables s)

none_past : (n : ℕ) → n ≡ n + 0
none_past n = omega arith

one_past : (n k : ℕ) → suc n + k ≡ n + suc k
one_past n k = omega arith

pub first_taken : (ρ : ℕ → ℕ) (first other : ℕ) → TakesNumbersFrom ρ first other → ρ first ≡ other
first_taken ρ first other takes = ap ρ (none_past first) ∙ takes 0 ∙ sym (none_past other)

later_taken : (ρ : ℕ → ℕ) (first other : ℕ) → TakesNumbersFrom ρ first other → TakesNumbersFrom ρ (suc first) (suc other)
later_taken ρ first other takes k = ap ρ (one_past first k) ∙ takes (suc k) ∙ sym (one_past other k)

abbrev opened_with_goal : LfTerm → LfGoal → LfOpened → LfOpened
opened_with_goal t g result = record { terms = arg t result.terms; fresh = g ∷ result.fresh; end = result.end }

abbrev concluded : ℕ → Spine → LfOpened
concluded f args = record { terms = no_args; fresh = []; end = record { atom_family = f; atom_args = args } }

module _ (ρ : ℕ → ℕ) (depth : ℕ) (kept : List ℕ) (count : ℕ) (entries : Context) (fixed : List (ℕ × ℕ)) where
  abbrev other_entries : Context
  other_entries = rename_context (metavariables ρ) entries

  -- what opens the arguments after one, and what opens them renamed
  abbrev Along : (Replacement → ℕ → LfOpened) → (Replacement → ℕ → LfOpened) → Type 0
  Along rest renamed = (first other : ℕ) → TakesNumbersFrom ρ first other → (σ τ : Replacement) → GoesAlong ρ σ τ → renamed τ other ≡ rename_opened ρ (rest σ first)

  opened_at-renamed : (o : Option ℕ) (a : LfType) (rest renamed : Replacement → ℕ → LfOpened) → Along rest renamed →
      (first other : ℕ) → TakesNumbersFrom ρ first other → (σ τ : Replacement) → GoesAlong ρ σ τ →
      opened_at depth kept count other_entries τ other o (rename_type (metavariables ρ) a) renamed ≡ rename_opened ρ (opened_at depth kept count entries σ first o a rest)
  opened_at-renamed (Some place) a rest renamed later first other takes σ τ along =
      let ζ = metavariables ρ in
      let v = context_variable count place in
      let u = eta v (shape_of a) in
      let same : eta v (shape_of (rename_type ζ a)) ≡ rename ζ u = ap (eta v) (shape_of-rename_type a ζ) ∙ sym (rename-eta ζ v (shape_of a)) in
      ap (λ t. with_term t (renamed (push t τ) other)) same
      ∙ ap (with_term (rename ζ u)) (later first other takes (push u σ) (push (rename ζ u) τ) (Follows-push_metavariables ρ σ τ u along))
  opened_at-renamed None a rest renamed later first other takes σ τ along =
      let ζ = metavariables ρ in
      let u = expanded (metavariable first) (kept_variables kept count entries) (shape_of a) in
      let inside = rename_type (returning kept count) (replaced_in_type depth σ a) in
      let number = first_taken ρ first other takes in
      let same : expanded (metavariable other) (kept_variables kept count other_entries) (shape_of (rename_type ζ a)) ≡ rename ζ u =
      ap (expanded (metavariable other) (kept_variables kept count other_entries)) (shape_of-rename_type a ζ)
      ∙ ap₂ (λ g vs. expanded (metavariable g) vs (shape_of a)) (sym number) (kept_variables-renamed ρ kept count entries)
      ∙ sym (rename-expanded ζ (metavariable first) (kept_variables kept count entries) (shape_of a)) in
      let there : rename_type (returning kept count) (replaced_in_type depth τ (rename_type ζ a)) ≡ rename_type ζ inside =
      ap (rename_type (returning kept count)) (replaced_in_type-renamed depth ρ a σ τ along) ∙ rename_type-along ρ (returning kept count) (returning-along ρ kept count) (replaced_in_type depth σ a) in
      let goal : fresh_goal other other_entries (rename_type ζ inside) ≡ rename_goal ρ (fresh_goal first entries inside) =
      ap (λ g. fresh_goal g other_entries (rename_type ζ inside)) (sym number) ∙ fresh_goal-renamed ρ first entries inside in
      ap₂ (λ t b. with_goal t other other_entries b (renamed (push t τ) (suc other))) same there
      ∙ ap (with_goal (rename ζ u) other other_entries (rename_type ζ inside))
      (later (suc first) (suc other) (later_taken ρ first other takes) (push u σ) (push (rename ζ u) τ) (Follows-push_metavariables ρ σ τ u along))
      ∙ ap (λ g. opened_with_goal (rename ζ u) g (rename_opened ρ (rest (push u σ) (suc first)))) goal

  opened_from-renamed : (type : LfType) (i : ℕ) (first other : ℕ) → TakesNumbersFrom ρ first other → (σ τ : Replacement) → GoesAlong ρ σ τ →
      opened_from depth kept count other_entries fixed i (rename_type (metavariables ρ) type) τ other ≡ rename_opened ρ (opened_from depth kept count entries fixed i type σ first)
  opened_from-renamed (family f args) i first other takes σ τ along = ap (concluded f) (replaced_in_spine-renamed depth ρ args σ τ along)
  opened_from-renamed (pi a b) i first other takes σ τ along =
      let ζ = metavariables ρ in
      ap (λ ξ. opened_at depth kept count other_entries τ other (fixed_to fixed i) (rename_type ζ a) (opened_from depth kept count other_entries fixed (suc i) (rename_type ξ b))) (lifted-metavariables ρ)
      ∙ opened_at-renamed (fixed_to fixed i) a (opened_from depth kept count entries fixed (suc i) b) (opened_from depth kept count other_entries fixed (suc i) (rename_type ζ b)) (opened_from-renamed b (suc i))
      first other takes σ τ along

pub opening_functions_are_renamed : OpeningFunctionsAreRenamed
unfolding opening_of
opening_functions_are_renamed ρ first other takes ctx kept fixed type =
    let ζ = metavariables ρ in
    let open_in : ℕ → ℕ → Context → LfOpened = λ depth count entries. opened_from depth kept count entries fixed 0 (rename_type ζ type) stays other in
    let d = shape_size (shape_of type) in
    ap₂ (λ s count. open_in (shape_size s) count (kept_entries kept 0 (rename_context ζ ctx))) (shape_of-rename_type type ζ) (length-rename_context ζ ctx)
    ∙ ap (open_in d (length ctx)) (kept_entries-renamed ρ kept 0 ctx)
    ∙ opened_from-renamed ρ d kept (length ctx) (kept_entries kept 0 ctx) fixed type 0 first other takes stays stays (λ h. refl)
