-- Where a hypothesis may be added, nothing that is kept mentions a dropped entry: the kept entries are a context.
use Rattle.std.proofs.Common.{◌≡◌, ℕ, zero, suc, ◌+◌, ◌-◌, ◌<◌, Bool, true, false, Some, List, [], ◌∷◌, length, refl, sym, ap, ◌∙◌, subst, arith}
use Rattle.std.specs.Prelude.{nat_eq, not, ◌&&◌, ◌||◌, if◌then◌else◌}
use Rattle.std.specs.List.{list_all}
use Rattle.std.proofs.lemmas.Bool.{eqb-true, and_parts}
use Rattle.lf_definitions.specs.Syntax.{bound, LfType, LfAtom, atomic, Context}
use Rattle.lf_definitions.specs.Renaming.{next_by, rename_type}
use Rattle.lf_definitions.specs.Occurrence.{OccursInType}
use Rattle.lf_definitions.specs.Typing.{LfGoal, type_at}
use Rattle.lf_definitions.proofs.Telescopes.{next_by-bound}
use Rattle.head_laws.specs.Mentions.{occurs_in_type}
use Rattle.head_laws.proofs.Occurrence.{occurs_in_type-from, OccursInType-rename_type}
use Rattle.lf_functions.specs.Checking.{equal_types}
use Rattle.opening_laws.specs.Openings.{context_variable, is_kept, returning, AreKept, kept_nothing, kept_entry, dropped_entry}
use Rattle.opening_laws.specs.Conditions.{is_dropped, MentionsNone}
use Rattle.opening_laws.proofs.Kept.{keeping_type, shifted, is_dropped-context_variable}
use Rattle.opening_laws.proofs.Existence.{type_at-within}
use Rattle.applications.specs.OpenedTypes.{kept_entries}
use Rattle.applications.specs.Candidates.{hypotheses_from, hypotheses_of, places_of, without}
use Rattle.applications.specs.Applications.{mentions_none, kept_types_are, may_be_added}
use Rattle.application_laws.proofs.Hypotheses.{keeps_places}
use Rattle.application_laws.proofs.Dropping.{kept_without, dropped_variable}

-- what a test says of all numbers, and of the types of kept hypotheses
all_at : (test : ℕ → Bool) (ns : List ℕ) (p : ℕ) → list_all test ns ≡ true → is_kept ns p ≡ true → test p ≡ true
all_at test [] p all is = absurd cc
all_at test (k ∷ ns) p all is = let parts = and_parts (test k) (list_all test ns) all in step (nat_eq p k) refl parts.0 (all_at test ns p parts.1) is
  where
    step : (b : Bool) → nat_eq p k ≡ b → test k ≡ true → (is_kept ns p ≡ true → test p ≡ true) → b || is_kept ns p ≡ true → test p ≡ true
    step true same here later e = ap test (eqb-true p k same) ∙ here
    step false same here later e = later e

kept_test : (test : LfType → Bool) (kept : List ℕ) (first : ℕ) (ctx : Context) (k : ℕ) (a : LfType) → kept_types_are test kept (hypotheses_from first ctx) ≡ true → is_kept kept (first + k) ≡ true → type_at ctx k ≡ Some a →
    test (rename_type (next_by (length ctx - k)) a) ≡ true
kept_test test kept first [] k a all is at_place = absurd cc
kept_test test kept first (b ∷ rest) zero a all is at_place =
    let same : b ≡ a = cc in
    let here : first + 0 ≡ first = omega arith in
    let whole : suc (length rest) ≡ suc (length rest) - 0 = omega arith in
    let tested = (and_parts (if is_kept kept first then test (rename_type (next_by (suc (length rest))) b) else true) (kept_types_are test kept (hypotheses_from (suc first) rest)) all).0 in
    subst (λ l. test (rename_type (next_by l) a) ≡ true) whole
    (subst (λ x. test (rename_type (next_by (suc (length rest))) x) ≡ true) same
    (subst (λ c. (if c then test (rename_type (next_by (suc (length rest))) b) else true) ≡ true) (ap (is_kept kept) (sym here) ∙ is) tested))
kept_test test kept first (b ∷ rest) (suc k) a all is at_place =
    let there : first + suc k ≡ suc first + k = omega arith in
    let less : length rest - k ≡ suc (length rest) - suc k = omega arith in
    let later = (and_parts (if is_kept kept first then test (rename_type (next_by (suc (length rest))) b) else true) (kept_types_are test kept (hypotheses_from (suc first) rest)) all).1 in
    subst (λ l. test (rename_type (next_by l) a) ≡ true) less (kept_test test kept (suc first) rest k a later (ap (is_kept kept) (sym there) ∙ is) at_place)

differ : {b : Bool} → b ≡ true → b ≡ false → ⊥
differ e f = clash (sym e ∙ f)
  where
    clash : true ≡ false → ⊥
    clash g = absurd cc

-- What passes the test mentions no dropped entry of the whole context.
module _ (ctx : Context) (kept : List ℕ) where
  abbrev Dropped : List ℕ
  Dropped = without kept (places_of ctx)

  is_among_dropped : (p : ℕ) → p < length ctx → is_kept kept p ≡ false → is_kept Dropped p ≡ true
  is_among_dropped p less gone = step (is_kept Dropped p) refl
    where
      step : (b : Bool) → is_kept Dropped p ≡ b → b ≡ true
      step true e = refl
      step false e = absurd (differ (kept_without kept (places_of ctx) p (keeps_places ctx p less) e) gone)

  pub whole_is_clean : (a : LfType) → mentions_none ctx Dropped a ≡ true → MentionsNone (is_dropped kept (length ctx)) a
  whole_is_clean a none h o = step (is_dropped kept (length ctx) h) refl
    where
      found : (p : ℕ) → is_kept Dropped p ≡ true → h ≡ context_variable (length ctx) p → ⊥
      found p is same =
          clash (occurs_in_type (context_variable (length ctx) p) a) (occurs_in_type-from (subst (λ k. OccursInType k a) same o))
          (all_at (λ place. not (occurs_in_type (context_variable (length ctx) place) a)) Dropped p none is)
        where
          clash : (b : Bool) → b ≡ true → not b ≡ true → ⊥
          clash true e f = absurd cc
          clash false e f = absurd cc

      step : (b : Bool) → is_dropped kept (length ctx) h ≡ b → b ≡ false
      step false e = refl
      step true e = let d = dropped_variable kept (length ctx) h e in absurd (found d.0 (is_among_dropped d.0 d.1 d.2) d.3)

  -- An entry mentions none, where it mentions none as it is seen from the whole.
  seen_variable : (len q p : ℕ) → p < q → q < len → next_by (len - q) (context_variable q p) ≡ context_variable len p
  seen_variable len q p less within =
      let e : (len - q) + (q - suc p) ≡ len - suc p = omega (arith, less, within) in
      next_by-bound (len - q) (q - suc p) ∙ ap bound e

  entry_is_clean : (q : ℕ) (a : LfType) → q < length ctx → MentionsNone (is_dropped kept (length ctx)) (rename_type (next_by (length ctx - q)) a) → MentionsNone (is_dropped kept q) a
  entry_is_clean q a within clean h o = step (is_dropped kept q h) refl
    where
      found : (p : ℕ) → p < q → is_kept kept p ≡ false → h ≡ context_variable q p → ⊥
      found p less gone same =
          let place = context_variable (length ctx) p in
          let small : p < length ctx = omega (arith, less, within) in
          let seen : OccursInType place (rename_type (next_by (length ctx - q)) a) =
          subst (λ k. OccursInType k (rename_type (next_by (length ctx - q)) a)) (seen_variable (length ctx) q p less within)
          (OccursInType-rename_type (subst (λ k. OccursInType k a) same o) (next_by (length ctx - q))) in
          differ (is_dropped-context_variable kept (length ctx) p small ∙ ap not gone) (clean place seen)

      step : (b : Bool) → is_dropped kept q h ≡ b → b ≡ false
      step false e = refl
      step true e = let d = dropped_variable kept q h e in absurd (found d.0 d.1 d.2 d.3)

-- The kept entries stand at the kept places, where these mention none that is dropped.
are_kept : (kept : List ℕ) (place : ℕ) (ctx : Context) → ((k : ℕ) (a : LfType) → is_kept kept (place + k) ≡ true → type_at ctx k ≡ Some a → MentionsNone (is_dropped kept (place + k)) a) →
    AreKept kept place ctx (kept_entries kept place ctx)
are_kept kept place [] clean = kept_nothing
are_kept kept place (a ∷ ctx) clean =
    let here : place + 0 ≡ place = omega arith in
    step (is_kept kept place) refl (subst (λ n. is_kept kept n ≡ true → MentionsNone (is_dropped kept n) a) here (λ is. clean 0 a is refl))
    (are_kept kept (suc place) ctx (λ k b. subst (λ n. is_kept kept n ≡ true → type_at ctx k ≡ Some b → MentionsNone (is_dropped kept n) b) (sym (shifted place k)) (λ is e. clean (suc k) b is e)))
  where
    step : (b : Bool) → is_kept kept place ≡ b → (is_kept kept place ≡ true → MentionsNone (is_dropped kept place) a) → AreKept kept (suc place) ctx (kept_entries kept (suc place) ctx) →
        AreKept kept place (a ∷ ctx) (if b then rename_type (returning kept place) a ∷ kept_entries kept (suc place) ctx else kept_entries kept (suc place) ctx)
    step true is here rest = kept_entry is (keeping_type kept place a (here is)) rest
    step false is here rest = dropped_entry is rest

-- What is known where a hypothesis may be added.
pub record MayAdd (g : LfGoal) (kept : List ℕ) (fact : LfAtom) : Type 0 where
  pub entries_kept : AreKept kept 0 g.context (kept_entries kept 0 g.context)
  pub fact_is_clean : MentionsNone (is_dropped kept (length g.context)) (atomic fact)
  pub target_is_clean : MentionsNone (is_dropped kept (length g.context)) (atomic g.target)

pub may_add : (g : LfGoal) (kept : List ℕ) (fact : LfAtom) → may_be_added g kept fact ≡ true → MayAdd g kept fact
may_add g kept fact may =
    let ctx = g.context in
    let dropped = without kept (places_of ctx) in
    let test : LfType → Bool = λ a. not (equal_types a (atomic fact)) && mentions_none ctx dropped a in
    let parts = and_parts (kept_types_are test kept (hypotheses_of ctx)) (mentions_none ctx dropped (atomic fact) && mentions_none ctx dropped (atomic g.target)) may in
    let both = and_parts (mentions_none ctx dropped (atomic fact)) (mentions_none ctx dropped (atomic g.target)) parts.1 in record {
      entries_kept = are_kept kept 0 ctx (λ k a is at_place.
          let seen = rename_type (next_by (length ctx - k)) a in
          let tested = kept_test test kept 0 ctx k a parts.0 is at_place in
          let here : k ≡ 0 + k = omega arith in
          subst (λ q. MentionsNone (is_dropped kept q) a) here
          (entry_is_clean ctx kept k a (type_at-within ctx k a at_place)
          (whole_is_clean ctx kept seen (and_parts (not (equal_types seen (atomic fact))) (mentions_none ctx dropped seen) tested).1)));
      fact_is_clean = whole_is_clean ctx kept (atomic fact) both.0;
      target_is_clean = whole_is_clean ctx kept (atomic g.target) both.1;
    }
