-- What is made of kept places depends on which places below the length of a context are kept alone.
use Rattle.std.proofs.Common.{◌≡◌, ℕ, zero, suc, ◌+◌, ◌<◌, ◌≤◌, Bool, true, false, Some, None, List, [], ◌∷◌, ◌++◌, length, All, refl, sym, ap, ap₂, ◌∙◌, arith}
use Rattle.std.specs.Prelude.{not, ◌&&◌, ◌||◌, nat_eq, is_some, if◌then◌else◌}
use Rattle.std.specs.List.{list_all}
use Rattle.std.proofs.lemmas.Bool.{eqb-true}
use Rattle.std.proofs.lemmas.List.Elements.{All-nil, All-cons, All-head, All-tail, All-weaker}
use Rattle.lf_definitions.specs.Syntax.{bound, metavariable, at, Spine, no_args, arg, joined, LfType, family, LfAtom, atomic, Context, base, arrows, shapes_of_types}
use Rattle.lf_definitions.specs.Renaming.{next, next_by, extended, lifted, rename_spine, rename_type, raise_spine, Renaming}
use Rattle.lf_definitions.specs.Expansion.{own_variables}
use Rattle.lf_definitions.specs.Instantiation.{Assignment}
use Rattle.lf_definitions.specs.Typing.{LfGoal}
use Rattle.lf_functions.specs.Checking.{equal_types}
use Rattle.lf_functions.specs.Instances.{instance_of, instance_of_atom}
use Rattle.opening_laws.specs.Openings.{is_kept, keeping, returning, kept_variables}
use Rattle.application_laws.proofs.Dropping.{All-without}
use Rattle.application_laws.proofs.Lists.{numbers_within}
use Rattle.applications.specs.Methods.{LfCandidate, adds}
use Rattle.applications.specs.OpenedTypes.{kept_entries}
use Rattle.applications.specs.Candidates.{LfHypothesis, hypotheses_from, hypotheses_of, without, counting_from, places_of}
use Rattle.applications.specs.Applications.{mentions_none, kept_types_are, may_be_added, goal_with, Completion, completion}

-- what is kept is what was there and isn't dropped
kept_unless : (dropped places : List ℕ) (q : ℕ) → is_kept (without dropped places) q ≡ is_kept places q && not (is_kept dropped q)
kept_unless dropped [] q = refl
kept_unless dropped (place ∷ rest) q = step (is_kept dropped place) refl (nat_eq q place) refl (kept_unless dropped rest q)
  where
    gone : (k : Bool) → k && not true ≡ false
    gone true = refl
    gone false = refl

    stays : (k : Bool) → true ≡ (true || k) && not false
    stays k = refl

    step : (d : Bool) → is_kept dropped place ≡ d → (same : Bool) → nat_eq q place ≡ same → is_kept (without dropped rest) q ≡ is_kept rest q && not (is_kept dropped q) →
        is_kept (if d then without dropped rest else place ∷ without dropped rest) q ≡ (same || is_kept rest q) && not (is_kept dropped q)
    step true is true e later =
        let here : is_kept dropped q ≡ true = ap (is_kept dropped) (eqb-true q place e) ∙ is in
        later ∙ ap (λ b. is_kept rest q && not b) here ∙ gone (is_kept rest q) ∙ sym (ap not here)
    step true is false e later = later
    step false is true e later =
        let here : is_kept dropped q ≡ false = ap (is_kept dropped) (eqb-true q place e) ∙ is in
        ap (λ b. b || is_kept (without dropped rest) q) e ∙ sym (ap not here)
    step false is false e later = ap (λ b. b || is_kept (without dropped rest) q) e ∙ later

-- those of the places that are not dropped are those that are kept
pub kept_of_places : (kept places : List ℕ) (q : ℕ) → is_kept places q ≡ true → is_kept (without (without kept places) places) q ≡ is_kept kept q
kept_of_places kept places q there =
    kept_unless (without kept places) places q ∙ ap₂ (λ a b. a && not b) there (kept_unless kept places q ∙ ap (λ b. b && not (is_kept kept q)) there) ∙ twice (is_kept kept q)
  where
    twice : (b : Bool) → not (not b) ≡ b
    twice true = refl
    twice false = refl

module _ (some others : List ℕ) where
  abbrev SameBelow : ℕ → Type 0
  SameBelow n = (q : ℕ) → q < n → is_kept some q ≡ is_kept others q

  returning-same : (n : ℕ) → SameBelow n → returning some n ≡ returning others n
  returning-same zero same = refl
  returning-same (suc n) same = ap₂ (λ b (ξ : Renaming). if b then lifted ξ else extended (bound zero) ξ) (same n (omega arith)) (returning-same n (λ q less. same q (omega (arith, less))))

  keeping-same : (n : ℕ) → SameBelow n → keeping some n ≡ keeping others n
  keeping-same zero same = refl
  keeping-same (suc n) same = ap₂ (λ b (ξ : Renaming). if b then lifted ξ else (λ h. next (ξ h))) (same n (omega arith)) (keeping-same n (λ q less. same q (omega (arith, less))))

  pub kept_entries-same : (place : ℕ) (ctx : Context) → SameBelow (place + length ctx) → kept_entries some place ctx ≡ kept_entries others place ctx
  kept_entries-same place [] same = refl
  kept_entries-same place (a ∷ ctx) same =
      ap (λ b. if b then rename_type (returning some place) a ∷ kept_entries some (suc place) ctx else kept_entries some (suc place) ctx) (same place (omega arith))
      ∙ ap₂ (λ (ξ : Renaming) l. if is_kept others place then rename_type ξ a ∷ l else l) (returning-same place (λ q less. same q (omega (arith, less))))
      (kept_entries-same (suc place) ctx (λ q less. same q (omega (arith, less))))

  pub kept_variables-same : (ctx entries : Context) → SameBelow (length ctx) → kept_variables some (length ctx) entries ≡ kept_variables others (length ctx) entries
  kept_variables-same ctx entries same = ap (λ (ξ : Renaming). rename_spine ξ (own_variables (arrows (shapes_of_types entries) base))) (keeping-same (length ctx) same)

  abbrev SameAt : ℕ → Type 0
  SameAt q = is_kept some q ≡ is_kept others q

  without-same : (places : List ℕ) → All SameAt places → without some places ≡ without others places
  without-same [] all = refl
  without-same (place ∷ rest) all = ap₂ (λ b l. if b then l else place ∷ l) (All-head SameAt place rest all) (without-same rest (All-tail SameAt place rest all))

  kept_types_are-same : (test : LfType → Bool) (hs : List LfHypothesis) → All (λ h. SameAt h.place) hs → kept_types_are test some hs ≡ kept_types_are test others hs
  kept_types_are-same test [] all = refl
  kept_types_are-same test (h ∷ rest) all =
      ap₂ (λ b later. (if b then test h.type else true) && later) (All-head (λ (x : LfHypothesis). SameAt x.place) h rest all) (kept_types_are-same test rest (All-tail (λ (x : LfHypothesis). SameAt x.place) h rest all))

  all_places : (first count n : ℕ) → first + count ≤ n → SameBelow n → All SameAt (counting_from first count)
  all_places first zero n less same = All-nil SameAt
  all_places first (suc count) n less same = All-cons SameAt first (counting_from (suc first) count) (same first (omega (arith, less))) (all_places (suc first) count n (omega (arith, less)) same)

  all_hypotheses : (first n : ℕ) (ctx : Context) → first + length ctx ≤ n → SameBelow n → All (λ (h : LfHypothesis). SameAt h.place) (hypotheses_from first ctx)
  all_hypotheses first n [] less same = All-nil (λ (h : LfHypothesis). SameAt h.place)
  all_hypotheses first n (a ∷ rest) less same =
      All-cons (λ (h : LfHypothesis). SameAt h.place) (record { place = first; type = rename_type (next_by (suc (length rest))) a }) (hypotheses_from (suc first) rest) (same first (omega (arith, less)))
      (all_hypotheses (suc first) n rest (omega (arith, less)) same)

  module _ (g : LfGoal) (fact : LfAtom) (same : SameBelow (length g.context)) where
    abbrev test_by : List ℕ → LfType → Bool
    test_by dropped a = not (equal_types a (atomic fact)) && mentions_none g.context dropped a

    abbrev rest_by : List ℕ → Bool
    rest_by dropped = mentions_none g.context dropped (atomic fact) && mentions_none g.context dropped (atomic g.target)

    may_be_added-same : may_be_added g some fact ≡ may_be_added g others fact
    may_be_added-same =
        let none : 0 + length g.context ≤ length g.context = omega arith in
        ap (λ dropped. kept_types_are (test_by dropped) some (hypotheses_of g.context) && rest_by dropped) (without-same (places_of g.context) (all_places 0 (length g.context) (length g.context) none same))
        ∙ ap (λ b. b && rest_by (without others (places_of g.context)))
        (kept_types_are-same (test_by (without others (places_of g.context))) (hypotheses_of g.context) (all_hypotheses 0 (length g.context) g.context none same))

    from_start : SameBelow (0 + length g.context)
    from_start q less = same q (omega (arith, less))

    goal_with-same : (id : ℕ) → goal_with id g some fact ≡ goal_with id g others fact
    goal_with-same id =
        ap₂ (λ (entries : Context) (ξ : Renaming). made entries ξ) (kept_entries-same 0 g.context from_start) (returning-same (length g.context) same)
      where
        made : Context → Renaming → LfGoal
        made entries ξ = record {
          id = id;
          context = entries ++ family fact.atom_family (rename_spine ξ fact.atom_args) ∷ [];
          target = record { atom_family = g.target.atom_family; atom_args = raise_spine (rename_spine ξ g.target.atom_args) };
        }

    variables-same : kept_variables some (length g.context) (kept_entries some 0 g.context) ≡ kept_variables others (length g.context) (kept_entries others 0 g.context)
    variables-same = kept_variables-same g.context (kept_entries some 0 g.context) same ∙ ap (kept_variables others (length g.context)) (kept_entries-same 0 g.context from_start)

-- So does what a new hypothesis makes of a goal.
pub completion-same : (some others : List ℕ) (n : ℕ) (goals : List LfGoal) (g : LfGoal) (c : LfCandidate) (σ : Assignment) → ((q : ℕ) → q < length g.context → is_kept some q ≡ is_kept others q) →
    completion n goals g c σ (adds some) ≡ completion n goals g c σ (adds others)
completion-same some others n goals g c σ same =
    let fact = instance_of_atom goals σ c.opened.end in
    ap (λ may. if assigned && may then Some (made (variables some) (goal_with number g some fact)) else None) (may_be_added-same some others g fact same)
    ∙ ap₂ (λ vs h. if assigned && may_be_added g others fact then Some (made vs h) else None) (variables-same some others g fact same) (goal_with-same some others g fact same number)
  where
    number : ℕ
    number = n + length c.opened.fresh

    assigned : Bool
    assigned = list_all (λ f. is_some (σ f.id)) c.opened.fresh

    variables : List ℕ → Spine
    variables kept = kept_variables kept (length g.context) (kept_entries kept 0 g.context)

    made : Spine → LfGoal → Completion
    made vs h = record { becomes_term = at (metavariable number) (joined vs (arg (instance_of goals σ (at c.head c.opened.terms)) no_args)); more = h ∷ [] }

-- Places that are left are places of the context.
pub present_places : (ctx : Context) (dropped : List ℕ) → All (λ place. place < length ctx) (without dropped (places_of ctx))
present_places ctx dropped =
    All-without (λ place. place < length ctx) dropped (places_of ctx)
    (All-weaker (λ m. (0 ≤ m) × (m < 0 + length ctx)) (λ place. place < length ctx) (λ m p. let less = p.1 in omega (arith, less)) (places_of ctx) (numbers_within 0 (length ctx)))
