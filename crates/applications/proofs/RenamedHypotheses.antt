-- The hypotheses of a context, and tuples of them, go along with renamings of metavariables.
use Rattle.std.proofs.Common.{◌≡◌, ℕ, zero, suc, Bool, true, false, List, [], ◌∷◌, ◌++◌, map, length, refl, sym, ap, ap₂, ◌∙◌}
use Rattle.std.specs.Prelude.{not, ◌&&◌, ◌||◌, if◌then◌else◌, nat_eq}
use Rattle.std.specs.List.{list_any}
use Rattle.std.proofs.lemmas.List.{map-append}
use Rattle.lf_definitions.specs.Syntax.{LfType, Context}
use Rattle.lf_definitions.specs.Renaming.{lifted, next_by, rename_type, rename_context}
use Rattle.lf_definitions.specs.Instantiation.{metavariables}
use Rattle.lf_definitions.proofs.TypedSpines.{length-rename_context}
use Rattle.head_laws.specs.Mentions.{occurs_in_type}
use Rattle.head_laws.proofs.Metavariables.{lifted-metavariables}
use Rattle.opening_laws.specs.Openings.{context_variable}
use Rattle.applications.specs.Candidates.{counting_from, places_of, LfHypothesis, hypotheses_from, hypotheses_of, are_atomic, have_binders, is_atomic, each, mentioned_by_others, tuples, paired}
use Rattle.applications.proofs.RenamedParts.{next_by-along, rename_type-along}
use Rattle.applications.proofs.RenamedTests.{is_atomic-rename_type, variable_in_type}

-- Lists made of lists, one element after another.
pub map_along : {A B C D : Type 0} (xs : List A) (f : A → B) (other : C → D) (r : A → C) (s : B → D) → ((x : A) → other (r x) ≡ s (f x)) → map other (map r xs) ≡ map s (map f xs)
map_along [] f other r s same = refl
map_along (x ∷ xs) f other r s same = ap₂ (λ y ys. y ∷ ys) (same x) (map_along xs f other r s same)

pub each_along : {A B : Type 0} (xs : List A) (f other : A → List B) (r : A → A) (s : B → B) → ((x : A) → other (r x) ≡ map s (f x)) → each (map r xs) other ≡ map s (each xs f)
each_along [] f other r s same = refl
each_along (x ∷ xs) f other r s same = ap₂ (λ us vs. us ++ vs) (same x) (each_along xs f other r s same) ∙ sym (map-append s (f x) (each xs f))

abbrev pub rename_hypothesis : (ℕ → ℕ) → LfHypothesis → LfHypothesis
rename_hypothesis ρ h = record { place = h.place; type = rename_type (metavariables ρ) h.type }

abbrev hypothesis_at : ℕ → LfType → LfHypothesis
hypothesis_at place a = record { place = place; type = a }

pub places_of-renamed : (ρ : ℕ → ℕ) (ctx : Context) → places_of (rename_context (metavariables ρ) ctx) ≡ places_of ctx
places_of-renamed ρ ctx = ap (counting_from 0) (length-rename_context (metavariables ρ) ctx)

module _ (ρ : ℕ → ℕ) where
  hypotheses_from-renamed : (ctx : Context) (place : ℕ) → hypotheses_from place (rename_context (metavariables ρ) ctx) ≡ map (rename_hypothesis ρ) (hypotheses_from place ctx)
  hypotheses_from-renamed [] place = refl
  hypotheses_from-renamed (a ∷ rest) place =
      let ζ = metavariables ρ in
      ap₂ (λ b hs. hypothesis_at place b ∷ hs)
      (ap (λ n. rename_type (next_by (suc n)) (rename_type ζ a)) (length-rename_context (lifted ζ) rest) ∙ rename_type-along ρ (next_by (suc (length rest))) (next_by-along (suc (length rest)) ρ) a)
      (ap (λ ξ. hypotheses_from (suc place) (rename_context ξ rest)) (lifted-metavariables ρ) ∙ hypotheses_from-renamed rest (suc place))

  pub hypotheses_of-renamed : (ctx : Context) → hypotheses_of (rename_context (metavariables ρ) ctx) ≡ map (rename_hypothesis ρ) (hypotheses_of ctx)
  hypotheses_of-renamed ctx = hypotheses_from-renamed ctx 0

  -- those without binders, and those with
  one_if : (b : Bool) (h : LfHypothesis) (hs others : List LfHypothesis) → others ≡ map (rename_hypothesis ρ) hs →
      (if b then rename_hypothesis ρ h ∷ others else others) ≡ map (rename_hypothesis ρ) (if b then h ∷ hs else hs)
  one_if true h hs others e = ap (λ later. rename_hypothesis ρ h ∷ later) e
  one_if false h hs others e = e

  one_unless : (b : Bool) (h : LfHypothesis) (hs others : List LfHypothesis) → others ≡ map (rename_hypothesis ρ) hs →
      (if b then others else rename_hypothesis ρ h ∷ others) ≡ map (rename_hypothesis ρ) (if b then hs else h ∷ hs)
  one_unless true h hs others e = e
  one_unless false h hs others e = ap (λ later. rename_hypothesis ρ h ∷ later) e

  are_atomic-renamed : (hs : List LfHypothesis) → are_atomic (map (rename_hypothesis ρ) hs) ≡ map (rename_hypothesis ρ) (are_atomic hs)
  are_atomic-renamed [] = refl
  are_atomic-renamed (h ∷ rest) =
      let later = are_atomic (map (rename_hypothesis ρ) rest) in
      ap (λ b. if b then rename_hypothesis ρ h ∷ later else later) (is_atomic-rename_type h.type (metavariables ρ)) ∙ one_if (is_atomic h.type) h (are_atomic rest) later (are_atomic-renamed rest)

  have_binders-renamed : (hs : List LfHypothesis) → have_binders (map (rename_hypothesis ρ) hs) ≡ map (rename_hypothesis ρ) (have_binders hs)
  have_binders-renamed [] = refl
  have_binders-renamed (h ∷ rest) =
      let later = have_binders (map (rename_hypothesis ρ) rest) in
      ap (λ b. if b then later else rename_hypothesis ρ h ∷ later) (is_atomic-rename_type h.type (metavariables ρ)) ∙ one_unless (is_atomic h.type) h (have_binders rest) later (have_binders-renamed rest)

  pub atomic_hypotheses-renamed : (ctx : Context) → are_atomic (hypotheses_of (rename_context (metavariables ρ) ctx)) ≡ map (rename_hypothesis ρ) (are_atomic (hypotheses_of ctx))
  atomic_hypotheses-renamed ctx = ap are_atomic (hypotheses_of-renamed ctx) ∙ are_atomic-renamed (hypotheses_of ctx)

  pub binding_hypotheses-renamed : (ctx : Context) → have_binders (hypotheses_of (rename_context (metavariables ρ) ctx)) ≡ map (rename_hypothesis ρ) (have_binders (hypotheses_of ctx))
  binding_hypotheses-renamed ctx = ap have_binders (hypotheses_of-renamed ctx) ∙ have_binders-renamed (hypotheses_of ctx)

  -- what is mentioned
  list_any-along : (hs : List LfHypothesis) (test other : LfHypothesis → Bool) → ((h : LfHypothesis) → other (rename_hypothesis ρ h) ≡ test h) → list_any other (map (rename_hypothesis ρ) hs) ≡ list_any test hs
  list_any-along [] test other same = refl
  list_any-along (h ∷ rest) test other same = ap₂ (λ x y. x || y) (same h) (list_any-along rest test other same)

  pub mentioned_by_others-renamed : (ctx : Context) (place : ℕ) → mentioned_by_others (rename_context (metavariables ρ) ctx) place ≡ mentioned_by_others ctx place
  mentioned_by_others-renamed ctx place =
      let test : ℕ → LfHypothesis → Bool = λ n h. not (nat_eq h.place place) && occurs_in_type (context_variable n place) h.type in
      ap (λ n. list_any (test n) (hypotheses_of (rename_context (metavariables ρ) ctx))) (length-rename_context (metavariables ρ) ctx)
      ∙ ap (list_any (test (length ctx))) (hypotheses_of-renamed ctx)
      ∙ list_any-along (hypotheses_of ctx) (test (length ctx)) (test (length ctx)) (λ h. ap (λ b. not (nat_eq h.place place) && b) (variable_in_type ρ h.type _))

  -- tuples
  with_first : (h : LfHypothesis) (ts : List (List LfHypothesis)) → map (λ rest. rename_hypothesis ρ h ∷ rest) (map (map (rename_hypothesis ρ)) ts) ≡ map (map (rename_hypothesis ρ)) (map (λ rest. h ∷ rest) ts)
  with_first h ts = map_along ts (λ rest. h ∷ rest) (λ rest. rename_hypothesis ρ h ∷ rest) (map (rename_hypothesis ρ)) (map (rename_hypothesis ρ)) (λ rest. refl)

  pub tuples-renamed : (count : ℕ) (hs : List LfHypothesis) → tuples count (map (rename_hypothesis ρ) hs) ≡ map (map (rename_hypothesis ρ)) (tuples count hs)
  tuples-renamed zero hs = refl
  tuples-renamed (suc count) hs =
      each_along hs (λ h. map (λ rest. h ∷ rest) (tuples count hs)) (λ h. map (λ rest. h ∷ rest) (tuples count (map (rename_hypothesis ρ) hs))) (rename_hypothesis ρ) (map (rename_hypothesis ρ))
      (λ h. ap (map (λ rest. rename_hypothesis ρ h ∷ rest)) (tuples-renamed count hs) ∙ with_first h (tuples count hs))

  pub paired-renamed : (places : List ℕ) (hs : List LfHypothesis) → paired places (map (rename_hypothesis ρ) hs) ≡ paired places hs
  paired-renamed [] hs = refl
  paired-renamed (i ∷ rest) [] = refl
  paired-renamed (i ∷ rest) (h ∷ hs) = ap (λ later. (i, h.place) ∷ later) (paired-renamed rest hs)

  pub hypothesis_places-renamed : (hs : List LfHypothesis) → map (λ h. h.place) (map (rename_hypothesis ρ) hs) ≡ map (λ h. h.place) hs
  hypothesis_places-renamed [] = refl
  hypothesis_places-renamed (h ∷ rest) = ap (λ later. h.place ∷ later) (hypothesis_places-renamed rest)
