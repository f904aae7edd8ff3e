-- New goals have fresh numbers, on all data.
use Rattle.std.proofs.Common.{◌≡◌, ◌≢◌, ◌⊎◌, inl, inr, ℕ, suc, ◌+◌, ◌≤◌, Option, Some, None, List, [], ◌∷◌, ◌++◌, All, length, map, refl, sym, subst}
use Rattle.std.proofs.lemmas.List.Elements.{All-nil, All-cons, All-append, All-map}
use Rattle.lf_definitions.specs.Syntax.{LfType, pi, family, Context, constant}
use Rattle.lf_definitions.specs.Substitution.{stays, Replacement}
use Rattle.lf_definitions.specs.Typing.{LfGoal, type_at}
use Rattle.lf_definitions.specs.Signatures.{LfSignature, constant_types}
use Rattle.lf_definitions.specs.GoalLists.{all_goals, first_goal, AreDistinct}
use Rattle.lf_definitions.specs.Instantiation.{Assignment, assignment_of}
use Rattle.opening_laws.specs.Openings.{LfOpened, fixed_to}
use Rattle.opening_laws.proofs.Numbers.{Numbered}
use Rattle.lf_functions.specs.Instances.{instance_of_atom}
use Rattle.applications.specs.OpenedTypes.{kept_entries, opened_at, opened_from, opening_of}
use Rattle.applications.specs.Methods.{Method, applies, constructs, splits, goes_forward, takes_apart, assumes, uses_hypotheses, LfLabel, LfCandidate}
use Rattle.applications.specs.Candidates.{LfHypothesis, hypotheses_of, are_atomic, have_binders, places_of, without, premises_from, paired, tuples, backward, constructed, by_hypothesis, split, onward, where_some, each, candidates}
use Rattle.applications.specs.Applications.{LfApplication, goal_with, Completion, application_of, applications_to, at_first}
use Rattle.applications.proofs.Pairs.{everywhere, one_pair, no_pair}
use Rattle.application_laws.proofs.Lists.{All-where_some, All-each}
use Rattle.application_laws.proofs.NewNumbers.{new_are_new}
use Rattle.application_laws.proofs.Counted.{all_with, whole_with, is_counted, All-of_candidates, AddsOne, none_or_one}
use Rattle.renamed_alternatives.specs.Laws.{NewNumbersAreFresh}

module _ (depth : ℕ) (kept : List ℕ) (count : ℕ) (entries : Context) (fixed : List (ℕ × ℕ)) where
  opened_at-numbered : (o : Option ℕ) (a : LfType) (rest : Replacement → ℕ → LfOpened) → ((σ : Replacement) (first : ℕ) → Numbered first (rest σ first).fresh) → (σ : Replacement) (first : ℕ) →
      Numbered first (opened_at depth kept count entries σ first o a rest).fresh
  opened_at-numbered (Some place) a rest later σ first = later _ first
  opened_at-numbered None a rest later σ first = (refl, later _ (suc first))

  opened_from-numbered : (type : LfType) (i : ℕ) (σ : Replacement) (first : ℕ) → Numbered first (opened_from depth kept count entries fixed i type σ first).fresh
  opened_from-numbered (family f args) i σ first = tt
  opened_from-numbered (pi a b) i σ first = opened_at-numbered (fixed_to fixed i) a (opened_from depth kept count entries fixed (suc i) b) (opened_from-numbered b (suc i)) σ first

opening_of-numbered : (ctx : Context) (kept : List ℕ) (fixed : List (ℕ × ℕ)) (first : ℕ) (type : LfType) → Numbered first (opening_of ctx kept fixed first type).fresh
unfolding opening_of
opening_of-numbered ctx kept fixed first type = opened_from-numbered _ kept (length ctx) (kept_entries kept 0 ctx) fixed type 0 stays first

-- The fresh goals of a candidate have the numbers from one on.
abbrev IsNumbered : ℕ → LfCandidate → Type 0
IsNumbered n c = Numbered n c.opened.fresh

one : (n : ℕ) (c : LfCandidate) → IsNumbered n c → All (IsNumbered n) (c ∷ [])
one n c numbered = All-cons (IsNumbered n) c [] numbered (All-nil (IsNumbered n))

module _ (sig : LfSignature) (rule : ℕ) (g : LfGoal) (n : ℕ) where
  constructed-numbered : (place : ℕ) (constants : List ℕ) → All (IsNumbered n) (constructed rule sig place constants g n)
  constructed-numbered place [] = All-nil (IsNumbered n)
  constructed-numbered place (c ∷ rest) =
      let label : LfLabel = record { of_rule = rule; choice = place; hypotheses = [] } in
      All-append (IsNumbered n) (where_some (type_at (constant_types sig) c) (λ type. backward label (constant c) type g n ∷ [])) (constructed rule sig (suc place) rest g n)
      (All-where_some (IsNumbered n) (type_at (constant_types sig) c) (λ type. backward label (constant c) type g n ∷ []) (λ type known. one n _ (opening_of-numbered g.context (places_of g.context) [] n type)))
      (constructed-numbered (suc place) rest)

  by_each : (f : LfHypothesis → List LfCandidate) → ((h : LfHypothesis) → All (IsNumbered n) (f h)) → (hs : List LfHypothesis) → All (IsNumbered n) (each hs f)
  by_each f step hs = All-each (λ h. Unit {0}) (IsNumbered n) f (λ h nothing. step h) hs (everywhere (λ h. Unit {0}) hs (λ h. tt))

  candidates-numbered : (method : Method) → All (IsNumbered n) (candidates sig rule method g n)
  candidates-numbered (applies c) =
      All-where_some (IsNumbered n) (type_at (constant_types sig) c) _ (λ type known. one n _ (opening_of-numbered g.context (places_of g.context) [] n type))
  candidates-numbered (constructs constants) = constructed-numbered 0 constants
  candidates-numbered (splits c major) =
      All-where_some (IsNumbered n) (type_at (constant_types sig) c) _
      (λ type known. by_each (split rule c type major g n) (λ h. one n _ (opening_of-numbered g.context _ ((major, h.place) ∷ []) n type)) (are_atomic (hypotheses_of g.context)))
  candidates-numbered (goes_forward c) =
      All-where_some (IsNumbered n) (type_at (constant_types sig) c) _
      (λ type known. let hss = tuples (length (premises_from 0 type)) (are_atomic (hypotheses_of g.context)) in
      All-map (IsNumbered n) (onward rule c type g n (places_of g.context)) hss (everywhere _ hss (λ hs. opening_of-numbered g.context (places_of g.context) (paired (premises_from 0 type) hs) n type)))
  candidates-numbered (takes_apart c) =
      All-where_some (IsNumbered n) (type_at (constant_types sig) c) _
      (λ type known. let hss = tuples (length (premises_from 0 type)) (are_atomic (hypotheses_of g.context)) in
      All-map (IsNumbered n) (λ hs. onward rule c type g n (without (map (λ h. h.place) hs) (places_of g.context)) hs) hss
      (everywhere _ hss (λ hs. opening_of-numbered g.context (places_of g.context) (paired (premises_from 0 type) hs) n type)))
  candidates-numbered assumes = by_each (by_hypothesis rule g n) (λ h. one n _ (opening_of-numbered g.context (places_of g.context) [] n h.type)) (are_atomic (hypotheses_of g.context))
  candidates-numbered uses_hypotheses = by_each (by_hypothesis rule g n) (λ h. one n _ (opening_of-numbered g.context (places_of g.context) [] n h.type)) (have_binders (hypotheses_of g.context))

abbrev pub HasFreshNumbers : ℕ → LfApplication → Type 0
HasFreshNumbers n a = All (λ h. n ≤ h.id) (a.proofs ++ a.witnesses)

-- At most one goal is new beside those of the opening, and it has the number after theirs.
abbrev HasNext : ℕ → LfCandidate → List LfGoal → Type 0
HasNext n c more = AreDistinct more × All (λ h. h.id ≡ n + length c.opened.fresh) more

has_next : (n : ℕ) (goals : List LfGoal) (g : LfGoal) (c : LfCandidate) (σ : Assignment) (done : Completion) → (done.more ≡ []) ⊎ AddsOne n goals g c σ done → HasNext n c done.more
has_next n goals g c σ done (inl none) = subst (HasNext n c) (sym none) (no_pair (λ x y. x.id ≢ y.id), All-nil (λ h. h.id ≡ n + length c.opened.fresh))
has_next n goals g c σ done (inr adds) =
    let new = goal_with (n + length c.opened.fresh) g adds.kept (instance_of_atom goals σ c.opened.end) in
    let has_number : LfGoal → Type 0 = λ h. h.id ≡ n + length c.opened.fresh in
    subst (HasNext n c) (sym adds.more_is) (one_pair (λ x y. x.id ≢ y.id) new, All-cons has_number new [] refl (All-nil has_number))

module _ (sig : LfSignature) (n : ℕ) (goals : List LfGoal) (g : LfGoal) where
  application-fresh : (c : LfCandidate) → IsNumbered n c → (a : LfApplication) → application_of sig n goals g c ≡ Some a → HasFreshNumbers n a
  application-fresh c numbered a found =
      let counted = is_counted sig n goals g c a found in
      let next = has_next n (all_with goals c) g c (assignment_of counted.entries) counted.done
      (none_or_one n (all_with goals c) g c (assignment_of counted.entries) counted.done c.outcome refl counted.completes) in
      subst (HasFreshNumbers n) (sym counted.is)
      (new_are_new (all_with goals c) (assignment_of (whole_with goals g c counted.entries counted.done)) n c.opened.fresh numbered c.are_proofs counted.done.more next.0 next.1)

  applications-fresh : (rule : ℕ) (method : Method) → All (HasFreshNumbers n) (applications_to sig rule method n goals g)
  unfolding applications_to
  applications-fresh rule method =
      All-of_candidates (HasFreshNumbers n) (IsNumbered n) sig n goals g application-fresh (candidates sig rule method g n) (candidates-numbered sig rule g n method)

pub new_numbers_are_fresh : NewNumbersAreFresh
new_numbers_are_fresh sig n list rule = at_goal (first_goal list)
  where
    at_goal : (o : Option LfGoal) → All (HasFreshNumbers n) (at_first sig rule.number rule.method n (all_goals list) o)
    at_goal None = All-nil (HasFreshNumbers n)
    at_goal (Some g) = applications-fresh sig n (all_goals list) g rule.number rule.method
