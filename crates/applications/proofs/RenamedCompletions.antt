-- What a goal becomes goes along with renamings of metavariables.
use Rattle.std.proofs.Common.{◌≡◌, ℕ, ◌+◌, Bool, true, false, Option, Some, None, option_map, List, [], ◌∷◌, ◌++◌, map, length, refl, sym, ap, ap₂, ◌∙◌}
use mathlib.Core.Path.{fun_ext}
use Rattle.std.specs.Prelude.{not, ◌&&◌, ◌||◌, if◌then◌else◌, nat_eq, is_some}
use Rattle.std.specs.List.{list_any, list_all}
use Rattle.std.proofs.lemmas.List.{length-map}
use Rattle.lf_definitions.specs.Syntax.{metavariable, LfTerm, at, Spine, no_args, arg, joined, LfType, LfAtom, atomic, Context}
use Rattle.lf_definitions.specs.Renaming.{next, rename, rename_spine, rename_type, rename_context, raise_spine}
use Rattle.lf_definitions.specs.Typing.{LfGoal}
use Rattle.lf_definitions.specs.GoalLists.{ids}
use Rattle.lf_definitions.specs.Instantiation.{Assignment, metavariables, rename_goal, IsInjective}
use Rattle.lf_definitions.proofs.TypedSpines.{length-rename_context, rename_context-append}
use Rattle.head_laws.specs.Mentions.{occurs_in_type}
use Rattle.head_laws.specs.MetavariableLaws.{AssignsRenamed}
use Rattle.head_laws.proofs.Metavariables.{lifted_by-metavariables, rename_type_inj}
use Rattle.head_laws.proofs.Numbers.{nat_eq-map}
use Rattle.renamed_unification.specs.Laws.{rename_atom}
use Rattle.opening_laws.specs.Openings.{context_variable, is_kept, returning, kept_variables}
use Rattle.lf_functions.specs.Instances.{instance_of, instance_of_atom}
use Rattle.lf_functions.specs.Checking.{equal_types}
use Rattle.lf_functions.proofs.Equality.{equal_types-true, equal_types-from, same_truth}
use Rattle.lf_functions.proofs.RenamedResults.{instances_are_renamed}
use Rattle.applications.specs.OpenedTypes.{kept_entries}
use Rattle.applications.specs.Methods.{Outcome, closes, adds, LfCandidate}
use Rattle.applications.specs.Candidates.{LfHypothesis, hypotheses_of, places_of, without}
use Rattle.applications.specs.Applications.{freezing, mentions_none, kept_types_are, may_be_added, returned, goal_with, Completion, completion}
use Rattle.applications.specs.Laws.{TakesNumbersFrom, rename_candidate}
use Rattle.applications.proofs.RenamedParts.{atom_by_parts, goal_by_parts, returning-along, next-along, rename_spine-along}
use Rattle.applications.proofs.RenamedOpenings.{kept_entries-renamed, kept_variables-renamed}
use Rattle.applications.proofs.RenamedTests.{variable_in_type}
use Rattle.applications.proofs.RenamedHypotheses.{rename_hypothesis, places_of-renamed, hypotheses_of-renamed}

-- something where a test holds
pub where_true : {A B : Type 0} (f : A → B) (b : Bool) (x : A) (y : B) → y ≡ f x → (if b then Some y else None) ≡ option_map f (if b then Some x else None)
where_true f true x y e = ap Some e
where_true f false x y e = refl

pub is_some-option_map : {A B : Type 0} (f : A → B) (o : Option A) → is_some (option_map f o) ≡ is_some o
is_some-option_map f None = refl
is_some-option_map f (Some x) = refl

joined-renamed : (ρ : ℕ → ℕ) (us ws : Spine) → joined (rename_spine (metavariables ρ) us) (rename_spine (metavariables ρ) ws) ≡ rename_spine (metavariables ρ) (joined us ws)
joined-renamed ρ no_args ws = refl
joined-renamed ρ (arg u us) ws = ap (arg (rename (metavariables ρ) u)) (joined-renamed ρ us ws)

abbrev completed_by : LfTerm → List LfGoal → Completion
completed_by body more = record { becomes_term = body; more = more }

abbrev pub rename_completion : (ℕ → ℕ) → Completion → Completion
rename_completion ρ done = completed_by (rename (metavariables ρ) done.becomes_term) (map (rename_goal ρ) done.more)

returned-renamed : (ρ : ℕ → ℕ) (kept : List ℕ) (ctx : Context) (a : LfAtom) → returned kept (rename_context (metavariables ρ) ctx) (rename_atom ρ a) ≡ rename_atom ρ (returned kept ctx a)
returned-renamed ρ kept ctx a =
    let ζ = metavariables ρ in
    ap (λ count. atom_by_parts a.atom_family (rename_spine (returning kept count) (rename_spine ζ a.atom_args))) (length-rename_context ζ ctx)
    ∙ ap (atom_by_parts a.atom_family) (rename_spine-along ρ (returning kept (length ctx)) (returning-along ρ kept (length ctx)) a.atom_args)

goal_with-renamed : (ρ : ℕ → ℕ) (id : ℕ) (g : LfGoal) (kept : List ℕ) (fact : LfAtom) → goal_with (ρ id) (rename_goal ρ g) kept (rename_atom ρ fact) ≡ rename_goal ρ (goal_with id g kept fact)
goal_with-renamed ρ id g kept fact =
    let ζ = metavariables ρ in
    let entries = kept_entries kept 0 g.context in
    let a = returned kept g.context fact in
    let target = returned kept g.context g.target in
    let context : kept_entries kept 0 (rename_context ζ g.context) ++ atomic (returned kept (rename_context ζ g.context) (rename_atom ρ fact)) ∷ [] ≡ rename_context ζ (entries ++ atomic a ∷ []) =
    ap₂ (λ es b. es ++ atomic b ∷ []) (kept_entries-renamed ρ kept 0 g.context) (returned-renamed ρ kept g.context fact)
    ∙ ap (λ ξ. rename_context ζ entries ++ rename_context ξ (atomic a ∷ [])) (sym (lifted_by-metavariables (length entries) ρ))
    ∙ sym (rename_context-append entries (atomic a ∷ []) ζ) in
    ap₂ (goal_by_parts (ρ id)) context
    (ap (λ b. atom_by_parts g.target.atom_family (raise_spine b.atom_args)) (returned-renamed ρ kept g.context g.target)
    ∙ ap (atom_by_parts g.target.atom_family) (rename_spine-along ρ next (next-along ρ) target.atom_args))

-- tests
mentions_none-renamed : (ρ : ℕ → ℕ) (ctx : Context) (dropped : List ℕ) (a : LfType) → mentions_none (rename_context (metavariables ρ) ctx) dropped (rename_type (metavariables ρ) a) ≡ mentions_none ctx dropped a
mentions_none-renamed ρ ctx dropped a =
    ap (λ test. list_all test dropped)
    (fun_ext (λ place. ap (λ count. not (occurs_in_type (context_variable count place) (rename_type (metavariables ρ) a))) (length-rename_context (metavariables ρ) ctx) ∙ ap not (variable_in_type ρ a _)))

kept_types_are-renamed : (ρ : ℕ → ℕ) (test other : LfType → Bool) → ((a : LfType) → other (rename_type (metavariables ρ) a) ≡ test a) → (kept : List ℕ) (hs : List LfHypothesis) →
    kept_types_are other kept (map (rename_hypothesis ρ) hs) ≡ kept_types_are test kept hs
kept_types_are-renamed ρ test other same kept [] = refl
kept_types_are-renamed ρ test other same kept (h ∷ rest) =
    ap₂ (λ x y. (if is_kept kept h.place then x else true) && y) (same h.type) (kept_types_are-renamed ρ test other same kept rest)

module _ (ρ : ℕ → ℕ) (injective : IsInjective ρ) where
  equal_renamed_types : (a b : LfType) → equal_types (rename_type (metavariables ρ) a) (rename_type (metavariables ρ) b) ≡ equal_types a b
  equal_renamed_types a b =
      let ζ = metavariables ρ in
      same_truth (equal_types (rename_type ζ a) (rename_type ζ b)) (equal_types a b)
      (λ e. equal_types-from a b (rename_type_inj ρ injective a b (equal_types-true (rename_type ζ a) (rename_type ζ b) e)))
      (λ e. equal_types-from (rename_type ζ a) (rename_type ζ b) (ap (rename_type ζ) (equal_types-true a b e)))

  -- what is asked of a kept hypothesis
  abbrev passes_in : Context → List ℕ → LfAtom → LfType → Bool
  passes_in ctx dropped fact a = not (equal_types a (atomic fact)) && mentions_none ctx dropped a

  may_be_added-renamed : (g : LfGoal) (kept : List ℕ) (fact : LfAtom) → may_be_added (rename_goal ρ g) kept (rename_atom ρ fact) ≡ may_be_added g kept fact
  may_be_added-renamed g kept fact =
      let ζ = metavariables ρ in
      let there = rename_context ζ g.context in
      let dropped = without kept (places_of g.context) in
      let passes : (a : LfType) → passes_in there dropped (rename_atom ρ fact) (rename_type ζ a) ≡ passes_in g.context dropped fact a =
      λ a. ap₂ (λ x y. not x && y) (equal_renamed_types a (atomic fact)) (mentions_none-renamed ρ g.context dropped a) in
      ap (λ places. kept_types_are (passes_in there (without kept places) (rename_atom ρ fact)) kept (hypotheses_of there)
      && (mentions_none there (without kept places) (atomic (rename_atom ρ fact)) && mentions_none there (without kept places) (atomic (rename_atom ρ g.target)))) (places_of-renamed ρ g.context)
      ∙ ap₂ (λ x y. x && y)
      (ap (kept_types_are (passes_in there dropped (rename_atom ρ fact)) kept) (hypotheses_of-renamed ρ g.context)
      ∙ kept_types_are-renamed ρ (passes_in g.context dropped fact) (passes_in there dropped (rename_atom ρ fact)) passes kept (hypotheses_of g.context))
      (ap₂ (λ x y. x && y) (mentions_none-renamed ρ g.context dropped (atomic fact)) (mentions_none-renamed ρ g.context dropped (atomic g.target)))

  -- goals by their numbers
  pub is_among-renamed : (goals : List LfGoal) (k : ℕ) → list_any (nat_eq (ρ k)) (ids (map (rename_goal ρ) goals)) ≡ list_any (nat_eq k) (ids goals)
  is_among-renamed [] k = refl
  is_among-renamed (h ∷ rest) k = ap₂ (λ x y. x || y) (nat_eq-map ρ injective k h.id) (is_among-renamed rest k)

  pub freezing-renamed : (outcome : Outcome) (goals : List LfGoal) (g : LfGoal) (k : ℕ) → freezing outcome (map (rename_goal ρ) goals) (rename_goal ρ g) (ρ k) ≡ freezing outcome goals g k
  freezing-renamed closes goals g k = nat_eq-map ρ injective g.id k
  freezing-renamed (adds kept) goals g k = is_among-renamed goals k

  module _ (σ τ : Assignment) (renamed : AssignsRenamed ρ σ τ) where
    pub is_assigned-renamed : (k : ℕ) → is_some (τ (ρ k)) ≡ is_some (σ k)
    is_assigned-renamed k = ap is_some (renamed k) ∙ is_some-option_map (rename (metavariables ρ)) (σ k)

    all_assigned-renamed : (fresh : List LfGoal) → list_all (λ f. is_some (τ f.id)) (map (rename_goal ρ) fresh) ≡ list_all (λ f. is_some (σ f.id)) fresh
    all_assigned-renamed [] = refl
    all_assigned-renamed (f ∷ rest) = ap₂ (λ x y. x && y) (is_assigned-renamed f.id) (all_assigned-renamed rest)

    -- the new goal's metavariable, applied to the kept entries and to the fact's term
    abbrev body_with : ℕ → List ℕ → ℕ → Context → LfTerm → LfTerm
    body_with number kept count entries proof = at (metavariable number) (joined (kept_variables kept count entries) (arg proof no_args))

    body_with-renamed : (number : ℕ) (kept : List ℕ) (ctx : Context) (proof : LfTerm) →
        body_with (ρ number) kept (length (rename_context (metavariables ρ) ctx)) (kept_entries kept 0 (rename_context (metavariables ρ) ctx)) (rename (metavariables ρ) proof)
        ≡ rename (metavariables ρ) (body_with number kept (length ctx) (kept_entries kept 0 ctx) proof)
    body_with-renamed number kept ctx proof =
        let ζ = metavariables ρ in
        let entries = kept_entries kept 0 ctx in
        ap₂ (λ count es. body_with (ρ number) kept count es (rename ζ proof)) (length-rename_context ζ ctx) (kept_entries-renamed ρ kept 0 ctx)
        ∙ ap (λ vs. at (metavariable (ρ number)) (joined vs (arg (rename ζ proof) no_args))) (kept_variables-renamed ρ kept (length ctx) entries)
        ∙ ap (at (metavariable (ρ number))) (joined-renamed ρ (kept_variables kept (length ctx) entries) (arg proof no_args))

    pub completion-renamed : (n m : ℕ) → TakesNumbersFrom ρ n m → (goals : List LfGoal) (g : LfGoal) (c : LfCandidate) (outcome : Outcome) →
        completion m (map (rename_goal ρ) goals) (rename_goal ρ g) (rename_candidate ρ c) τ outcome ≡ option_map (rename_completion ρ) (completion n goals g c σ outcome)
    completion-renamed n m takes goals g c closes = ap (λ t. Some (completed_by t [])) ((instances_are_renamed ρ goals σ τ renamed).0 (at c.head c.opened.terms))
    completion-renamed n m takes goals g c (adds kept) =
        let ζ = metavariables ρ in
        let laws = instances_are_renamed ρ goals σ τ renamed in
        let there = map (rename_goal ρ) goals in
        let count = length c.opened.fresh in
        let proof = instance_of goals σ (at c.head c.opened.terms) in
        let fact = instance_of_atom goals σ c.opened.end in
        let new_number : m + length (map (rename_goal ρ) c.opened.fresh) ≡ ρ (n + count) = ap (λ k. m + k) (length-map c.opened.fresh (rename_goal ρ)) ∙ sym (takes count) in
        let found : ℕ → LfTerm → LfAtom → Completion =
        λ number t a. completed_by (body_with number kept (length (rename_context ζ g.context)) (kept_entries kept 0 (rename_context ζ g.context)) t) (goal_with number (rename_goal ρ g) kept a ∷ []) in
        let done : Completion = completed_by (body_with (n + count) kept (length g.context) (kept_entries kept 0 g.context) proof) (goal_with (n + count) g kept fact ∷ []) in
        let test : Bool = list_all (λ f. is_some (τ f.id)) (map (rename_goal ρ) c.opened.fresh) in
        ap₂ (λ t a. if test && may_be_added (rename_goal ρ g) kept a then Some (found (m + length (map (rename_goal ρ) c.opened.fresh)) t a) else None) (laws.0 (at c.head c.opened.terms)) (laws.3 c.opened.end)
        ∙ ap₂ (λ b number. if b then Some (found number (rename ζ proof) (rename_atom ρ fact)) else None)
        (ap₂ (λ x y. x && y) (all_assigned-renamed c.opened.fresh) (may_be_added-renamed g kept fact)) new_number
        ∙ where_true (rename_completion ρ) (list_all (λ f. is_some (σ f.id)) c.opened.fresh && may_be_added g kept fact) done (found (ρ (n + count)) (rename ζ proof) (rename_atom ρ fact))
        (ap₂ (λ t h. completed_by t (h ∷ [])) (body_with-renamed (n + count) kept g.context proof) (goal_with-renamed ρ (n + count) g kept fact))
