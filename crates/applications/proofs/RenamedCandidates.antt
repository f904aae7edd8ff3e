-- What rules offer goes along with renamings of metavariables.
use Rattle.std.proofs.Common.{◌≡◌, ℕ, zero, suc, Bool, Option, Some, None, option_map, List, [], ◌∷◌, ◌++◌, map, length, refl, sym, ap, ap₂, ◌∙◌}
use Rattle.std.specs.Prelude.{not, ◌&&◌, ◌||◌, if◌then◌else◌, take}
use Rattle.std.proofs.lemmas.List.{map-append}
use Rattle.lf_definitions.specs.Syntax.{LfHead, constant, Spine, no_args, arg, SimpleType, LfType, LfAtom, Context, binders_of, conclusion_atom, shapes_of_types}
use Rattle.lf_definitions.specs.Renaming.{rename, rename_spine, rename_type}
use Rattle.lf_definitions.specs.ShapedGoals.{ShapedSignature}
use Rattle.lf_definitions.specs.Typing.{LfGoal, type_at}
use Rattle.lf_definitions.specs.Signatures.{LfSignature, constant_types}
use Rattle.lf_definitions.specs.Instantiation.{metavariables, rename_goal}
use Rattle.lf_definitions.proofs.TypedSpines.{length-rename_context}
use Rattle.head_laws.specs.Mentions.{occurs_in_spine}
use Rattle.head_laws.proofs.RenamedGoals.{rename_type-constant}
use Rattle.renamed_unification.specs.Laws.{rename_atom}
use Rattle.opening_laws.specs.Openings.{LfOpened, context_variable, rename_opened}
use Rattle.lf_functions.specs.Instances.{result_of_type}
use Rattle.lf_functions.specs.EndingLaws.{rename_equations}
use Rattle.lf_functions.proofs.RenamedResults.{results_are_renamed}
use Rattle.applications.specs.OpenedTypes.{opening_of}
use Rattle.applications.specs.Methods.{Method, applies, constructs, splits, goes_forward, takes_apart, assumes, uses_hypotheses, LfLabel, closes, adds, LfCandidate}
use Rattle.applications.specs.Candidates.{places_of, premise_marks, unfixed_marks, premises_from, LfHypothesis, hypotheses_of, are_atomic, have_binders, meets_target, backward, where_some, each, constructed, by_hypothesis, first_args, argument_atom, argument_type, without, drops, kept_by_splitting, split, tuples, paired, premise_equations, onward, candidates}
use Rattle.applications.specs.Laws.{TakesNumbersFrom, rename_candidate, CandidatesAreRenamed}
use Rattle.applications.proofs.RenamedParts.{binders_of-rename_type, conclusion_atom-renamed, first_shapes-rename_context, type_at-renamed}
use Rattle.applications.proofs.RenamedOpenings.{opening_functions_are_renamed}
use Rattle.applications.proofs.RenamedTests.{variable_in_spine, premise_marks-renamed, premises_from-renamed, occurs_later-renamed, occurs_at_end-renamed}
use Rattle.applications.proofs.RenamedHypotheses.{map_along, each_along, rename_hypothesis, places_of-renamed, atomic_hypotheses-renamed, binding_hypotheses-renamed, mentioned_by_others-renamed, tuples-renamed, paired-renamed, hypothesis_places-renamed}

-- the type of an argument
first_args-renamed : (ρ : ℕ → ℕ) (k : ℕ) (ts : Spine) → first_args k (rename_spine (metavariables ρ) ts) ≡ rename_spine (metavariables ρ) (first_args k ts)
first_args-renamed ρ zero ts = refl
first_args-renamed ρ (suc k) no_args = refl
first_args-renamed ρ (suc k) (arg t ts) = ap (arg (rename (metavariables ρ) t)) (first_args-renamed ρ k ts)

argument_atom-renamed : (ρ : ℕ → ℕ) (o : Option LfType) (shapes : List SimpleType) (ts : Spine) (other : LfAtom) →
    argument_atom (option_map (rename_type (metavariables ρ)) o) shapes (rename_spine (metavariables ρ) ts) (rename_atom ρ other) ≡ rename_atom ρ (argument_atom o shapes ts other)
argument_atom-renamed ρ None shapes ts other = refl
argument_atom-renamed ρ (Some a) shapes ts other = ap conclusion_atom ((results_are_renamed ρ shapes ts).2 a) ∙ conclusion_atom-renamed ρ (result_of_type shapes ts a)

argument_type-renamed : (ρ : ℕ → ℕ) (type : LfType) (opened : LfOpened) (k : ℕ) → argument_type (rename_type (metavariables ρ) type) (rename_opened ρ opened) k ≡ rename_atom ρ (argument_type type opened k)
argument_type-renamed ρ type opened k =
    let ζ = metavariables ρ in
    let of_parts : Context → Spine → LfAtom = λ binders ts. argument_atom (type_at binders k) (shapes_of_types (take k binders)) ts (rename_atom ρ opened.end) in
    ap₂ of_parts (binders_of-rename_type type ζ) (first_args-renamed ρ k opened.terms)
    ∙ ap₂ (λ o shapes. argument_atom o shapes (rename_spine ζ (first_args k opened.terms)) (rename_atom ρ opened.end)) (type_at-renamed ρ (binders_of type) k) (first_shapes-rename_context k (binders_of type) ζ)
    ∙ argument_atom-renamed ρ (type_at (binders_of type) k) (shapes_of_types (take k (binders_of type))) (first_args k opened.terms) opened.end

premise_equations-renamed : (ρ : ℕ → ℕ) (type : LfType) (opened : LfOpened) (premises : List ℕ) (hs : List LfHypothesis) →
    premise_equations (rename_type (metavariables ρ) type) (rename_opened ρ opened) premises (map (rename_hypothesis ρ) hs) ≡ rename_equations ρ (premise_equations type opened premises hs)
premise_equations-renamed ρ type opened [] hs = refl
premise_equations-renamed ρ type opened (i ∷ rest) [] = refl
premise_equations-renamed ρ type opened (i ∷ rest) (h ∷ hs) =
    ap₂ (λ pair later. pair ∷ later) (ap₂ (λ a b. (a, b)) (argument_type-renamed ρ type opened i) (conclusion_atom-renamed ρ h.type)) (premise_equations-renamed ρ type opened rest hs)

-- Candidates by the parts in which a renaming makes a difference.
abbrev backward_of : LfLabel → LfHead → LfGoal → LfOpened → List Bool → LfCandidate
backward_of label h g opened marks = record { label = label; head = h; opened = opened; are_proofs = marks; equations = meets_target g opened; outcome = closes }

abbrev split_of : ℕ → ℕ → LfGoal → ℕ → LfOpened → List Bool → LfAtom → LfAtom → LfCandidate
split_of rule c g place opened marks asked had = record {
  label = record { of_rule = rule; choice = 0; hypotheses = place ∷ [] };
  head = constant c;
  opened = opened;
  are_proofs = marks;
  equations = (asked, had) ∷ meets_target g opened;
  outcome = closes;
}

abbrev onward_of : ℕ → ℕ → List ℕ → LfOpened → List Bool → List (LfAtom × LfAtom) → List ℕ → LfCandidate
onward_of rule c places opened marks equations kept = record {
  label = record { of_rule = rule; choice = 0; hypotheses = places };
  head = constant c;
  opened = opened;
  are_proofs = marks;
  equations = equations;
  outcome = adds kept;
}

-- the same, with the opening by the arguments that are fixed
abbrev onward_from : ℕ → ℕ → LfType → LfGoal → ℕ → List ℕ → List ℕ → List LfHypothesis → List ℕ → List (ℕ × ℕ) → LfCandidate
onward_from rule c type g n kept premises hs places fixed =
    let opened = opening_of g.context (places_of g.context) fixed n type in
    onward_of rule c places opened (unfixed_marks fixed 0 (premise_marks type)) (premise_equations type opened premises hs) kept

module _ (sig : LfSignature) (shaped : ShapedSignature sig) (ρ : ℕ → ℕ) (n m : ℕ) (takes : TakesNumbersFrom ρ n m) (rule : ℕ) (g : LfGoal) where
  abbrev renamed_type : LfType → LfType
  renamed_type = rename_type (metavariables ρ)

  abbrev Renamed : List LfCandidate → List LfCandidate → Type 0
  Renamed others cs = others ≡ map (rename_candidate ρ) cs

  opening_there : (kept others : List ℕ) (fixed : List (ℕ × ℕ)) (type : LfType) → others ≡ kept →
      opening_of (rename_goal ρ g).context others fixed m (renamed_type type) ≡ rename_opened ρ (opening_of g.context kept fixed n type)
  opening_there kept others fixed type same =
      ap (λ places. opening_of (rename_goal ρ g).context places fixed m (renamed_type type)) same ∙ opening_functions_are_renamed ρ n m takes g.context kept fixed type

  backward-renamed : (label : LfLabel) (h : LfHead) (type : LfType) → backward label (metavariables ρ h) (renamed_type type) (rename_goal ρ g) m ≡ rename_candidate ρ (backward label h type g n)
  backward-renamed label h type =
      ap₂ (backward_of label (metavariables ρ h) (rename_goal ρ g)) (opening_there (places_of g.context) (places_of (rename_goal ρ g).context) [] type (places_of-renamed ρ g.context)) (premise_marks-renamed ρ type)

  by_hypothesis-renamed : (h : LfHypothesis) → Renamed (by_hypothesis rule (rename_goal ρ g) m (rename_hypothesis ρ h)) (by_hypothesis rule g n h)
  by_hypothesis-renamed h =
      let label : LfLabel = record { of_rule = rule; choice = 0; hypotheses = h.place ∷ [] } in
      ap (λ count. backward label (context_variable count h.place) (renamed_type h.type) (rename_goal ρ g) m ∷ []) (length-rename_context (metavariables ρ) g.context)
      ∙ ap (λ c. c ∷ []) (backward-renamed label (context_variable (length g.context) h.place) h.type)

  -- The type of a constant stays.
  of_constant : (c : ℕ) (f other : LfType → List LfCandidate) → ((type : LfType) → Renamed (other (renamed_type type)) (f type)) →
      Renamed (where_some (type_at (constant_types sig) c) other) (where_some (type_at (constant_types sig) c) f)
  of_constant c f other same = each_way (type_at (constant_types sig) c) refl
    where
      each_way : (o : Option LfType) → type_at (constant_types sig) c ≡ o → Renamed (where_some o other) (where_some o f)
      each_way None is = refl
      each_way (Some a) is = ap other (sym (rename_type-constant sig shaped ρ c a is)) ∙ same a

  constructed-renamed : (constants : List ℕ) (place : ℕ) → Renamed (constructed rule sig place constants (rename_goal ρ g) m) (constructed rule sig place constants g n)
  constructed-renamed [] place = refl
  constructed-renamed (c ∷ rest) place =
      let label : LfLabel = record { of_rule = rule; choice = place; hypotheses = [] } in
      let one : LfType → List LfCandidate = λ type. backward label (constant c) type g n ∷ [] in
      ap₂ (λ us vs. us ++ vs)
      (of_constant c one (λ type. backward label (constant c) type (rename_goal ρ g) m ∷ []) (λ type. ap (λ x. x ∷ []) (backward-renamed label (constant c) type)))
      (constructed-renamed rest (suc place))
      ∙ sym (map-append (rename_candidate ρ) (where_some (type_at (constant_types sig) c) one) (constructed rule sig (suc place) rest g n))

  -- splitting
  drops-renamed : (type : LfType) (major place : ℕ) → drops (renamed_type type) major (rename_goal ρ g) place ≡ drops type major g place
  drops-renamed type major place =
      let mentions : Bool = occurs_in_spine (context_variable (length g.context) place) g.target.atom_args in
      let in_target : occurs_in_spine (context_variable (length (rename_goal ρ g).context) place) (rename_goal ρ g).target.atom_args ≡ mentions =
      ap (λ count. occurs_in_spine (context_variable count place) (rename_goal ρ g).target.atom_args) (length-rename_context (metavariables ρ) g.context) ∙ variable_in_spine ρ g.target.atom_args _ in
      ap₂ (λ x y. not x && y) (mentioned_by_others-renamed ρ g.context place)
      (ap₂ (λ x y. not x && y) (occurs_later-renamed ρ type major) (ap₂ (λ x y. x || not y) (occurs_at_end-renamed ρ type major) in_target))

  kept_by_splitting-renamed : (type : LfType) (major place : ℕ) → kept_by_splitting (renamed_type type) major (rename_goal ρ g) place ≡ kept_by_splitting type major g place
  kept_by_splitting-renamed type major place =
      ap₂ (λ b places. if b then without (place ∷ []) places else places) (drops-renamed type major place) (places_of-renamed ρ g.context)

  split-renamed : (c : ℕ) (type : LfType) (major : ℕ) (h : LfHypothesis) → Renamed (split rule c (renamed_type type) major (rename_goal ρ g) m (rename_hypothesis ρ h)) (split rule c type major g n h)
  split-renamed c type major h =
      let fixed = (major, h.place) ∷ [] in
      let kept = kept_by_splitting type major g h.place in
      let opened = opening_of g.context kept fixed n type in
      let marks = unfixed_marks fixed 0 (premise_marks type) in
      let there : LfOpened → List Bool → LfAtom → LfAtom → List LfCandidate = λ o ms asked had. split_of rule c (rename_goal ρ g) h.place o ms asked had ∷ [] in
      ap₂ (λ o ms. there o (unfixed_marks fixed 0 ms) (argument_type (renamed_type type) o major) (conclusion_atom (renamed_type h.type)))
      (opening_there kept (kept_by_splitting (renamed_type type) major (rename_goal ρ g) h.place) fixed type (kept_by_splitting-renamed type major h.place)) (premise_marks-renamed ρ type)
      ∙ ap₂ (there (rename_opened ρ opened) marks) (argument_type-renamed ρ type opened major) (conclusion_atom-renamed ρ h.type)

  -- going forward
  onward-renamed : (c : ℕ) (type : LfType) (kept others : List ℕ) (hs : List LfHypothesis) → others ≡ kept →
      onward rule c (renamed_type type) (rename_goal ρ g) m others (map (rename_hypothesis ρ) hs) ≡ rename_candidate ρ (onward rule c type g n kept hs)
  onward-renamed c type kept others hs same =
      let premises = premises_from 0 type in
      let renamed_hs = map (rename_hypothesis ρ) hs in
      let places = map (λ h. h.place) hs in
      let fixed = paired premises hs in
      let opened = opening_of g.context (places_of g.context) fixed n type in
      let marks = unfixed_marks fixed 0 (premise_marks type) in
      ap₂ (λ ps ks. onward_from rule c (renamed_type type) (rename_goal ρ g) m ks ps renamed_hs (map (λ h. h.place) renamed_hs) (paired ps renamed_hs)) (premises_from-renamed ρ type 0) same
      ∙ ap₂ (onward_from rule c (renamed_type type) (rename_goal ρ g) m kept premises renamed_hs) (hypothesis_places-renamed ρ hs) (paired-renamed ρ premises hs)
      ∙ ap₂ (λ o ms. onward_of rule c places o (unfixed_marks fixed 0 ms) (premise_equations (renamed_type type) o premises renamed_hs) kept)
      (opening_there (places_of g.context) (places_of (rename_goal ρ g).context) fixed type (places_of-renamed ρ g.context)) (premise_marks-renamed ρ type)
      ∙ ap (λ equations. onward_of rule c places (rename_opened ρ opened) marks equations kept) (premise_equations-renamed ρ type opened premises hs)

  tuples_there : (type : LfType) → tuples (length (premises_from 0 (renamed_type type))) (are_atomic (hypotheses_of (rename_goal ρ g).context))
      ≡ map (map (rename_hypothesis ρ)) (tuples (length (premises_from 0 type)) (are_atomic (hypotheses_of g.context)))
  tuples_there type =
      ap₂ (λ ps hs. tuples (length ps) hs) (premises_from-renamed ρ type 0) (atomic_hypotheses-renamed ρ g.context) ∙ tuples-renamed ρ (length (premises_from 0 type)) (are_atomic (hypotheses_of g.context))

  all_onward : (c : ℕ) (type : LfType) (kept others : List LfHypothesis → List ℕ) → ((hs : List LfHypothesis) → others (map (rename_hypothesis ρ) hs) ≡ kept hs) →
      Renamed (map (λ hs. onward rule c (renamed_type type) (rename_goal ρ g) m (others hs) hs) (tuples (length (premises_from 0 (renamed_type type))) (are_atomic (hypotheses_of (rename_goal ρ g).context))))
      (map (λ hs. onward rule c type g n (kept hs) hs) (tuples (length (premises_from 0 type)) (are_atomic (hypotheses_of g.context))))
  all_onward c type kept others same =
      let there : List LfHypothesis → LfCandidate = λ hs. onward rule c (renamed_type type) (rename_goal ρ g) m (others hs) hs in
      ap (map there) (tuples_there type)
      ∙ map_along (tuples (length (premises_from 0 type)) (are_atomic (hypotheses_of g.context))) (λ hs. onward rule c type g n (kept hs) hs) there (map (rename_hypothesis ρ)) (rename_candidate ρ)
      (λ hs. onward-renamed c type (kept hs) (others (map (rename_hypothesis ρ) hs)) hs (same hs))

  candidates-renamed : (method : Method) → Renamed (candidates sig rule method (rename_goal ρ g) m) (candidates sig rule method g n)
  candidates-renamed (applies c) =
      let label : LfLabel = record { of_rule = rule; choice = 0; hypotheses = [] } in
      of_constant c (λ type. backward label (constant c) type g n ∷ []) (λ type. backward label (constant c) type (rename_goal ρ g) m ∷ []) (λ type. ap (λ x. x ∷ []) (backward-renamed label (constant c) type))
  candidates-renamed (constructs constants) = constructed-renamed constants 0
  candidates-renamed (splits c major) =
      of_constant c (λ type. each (are_atomic (hypotheses_of g.context)) (split rule c type major g n))
      (λ type. each (are_atomic (hypotheses_of (rename_goal ρ g).context)) (split rule c type major (rename_goal ρ g) m))
      (λ type. ap (λ hs. each hs (split rule c (renamed_type type) major (rename_goal ρ g) m)) (atomic_hypotheses-renamed ρ g.context)
      ∙ each_along (are_atomic (hypotheses_of g.context)) (split rule c type major g n) (split rule c (renamed_type type) major (rename_goal ρ g) m) (rename_hypothesis ρ) (rename_candidate ρ) (split-renamed c type major))
  candidates-renamed (goes_forward c) =
      of_constant c (λ type. map (onward rule c type g n (places_of g.context)) (tuples (length (premises_from 0 type)) (are_atomic (hypotheses_of g.context))))
      (λ type. map (onward rule c type (rename_goal ρ g) m (places_of (rename_goal ρ g).context)) (tuples (length (premises_from 0 type)) (are_atomic (hypotheses_of (rename_goal ρ g).context))))
      (λ type. all_onward c type (λ hs. places_of g.context) (λ hs. places_of (rename_goal ρ g).context) (λ hs. places_of-renamed ρ g.context))
  candidates-renamed (takes_apart c) =
      of_constant c (λ type. map (λ hs. onward rule c type g n (without (map (λ h. h.place) hs) (places_of g.context)) hs) (tuples (length (premises_from 0 type)) (are_atomic (hypotheses_of g.context))))
      (λ type. map (λ hs. onward rule c type (rename_goal ρ g) m (without (map (λ h. h.place) hs) (places_of (rename_goal ρ g).context)) hs)
      (tuples (length (premises_from 0 type)) (are_atomic (hypotheses_of (rename_goal ρ g).context))))
      (λ type. all_onward c type (λ hs. without (map (λ h. h.place) hs) (places_of g.context)) (λ hs. without (map (λ h. h.place) hs) (places_of (rename_goal ρ g).context))
      (λ hs. ap₂ without (hypothesis_places-renamed ρ hs) (places_of-renamed ρ g.context)))
  candidates-renamed assumes =
      ap (λ hs. each hs (by_hypothesis rule (rename_goal ρ g) m)) (atomic_hypotheses-renamed ρ g.context)
      ∙ each_along (are_atomic (hypotheses_of g.context)) (by_hypothesis rule g n) (by_hypothesis rule (rename_goal ρ g) m) (rename_hypothesis ρ) (rename_candidate ρ) by_hypothesis-renamed
  candidates-renamed uses_hypotheses =
      ap (λ hs. each hs (by_hypothesis rule (rename_goal ρ g) m)) (binding_hypotheses-renamed ρ g.context)
      ∙ each_along (have_binders (hypotheses_of g.context)) (by_hypothesis rule g n) (by_hypothesis rule (rename_goal ρ g) m) (rename_hypothesis ρ) (rename_candidate ρ) by_hypothesis-renamed

pub candidates_are_renamed : CandidatesAreRenamed
candidates_are_renamed sig shaped ρ n m takes rule method g = candidates-renamed sig shaped ρ n m takes rule g method
