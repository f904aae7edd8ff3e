-- Where a split drops its hypothesis from the context, nothing that is kept mentions it, and the type is opened so.
use Rattle.std.proofs.Common.{◌≡◌, ◌⊎◌, inl, inr, ℕ, zero, suc, ◌+◌, ◌-◌, ◌<◌, Bool, true, false, Some, None, List, [], ◌∷◌, All, AllPairs, take, length, refl, sym, ap, ◌∙◌, subst, arith}
use Rattle.std.specs.Prelude.{nat_eq, not, ◌&&◌, ◌||◌, if◌then◌else◌}
use Rattle.std.specs.List.{list_any}
use Rattle.std.proofs.lemmas.Bool.{eqb-true}
use Rattle.std.proofs.lemmas.List.Elements.{All-nil, All-cons, All-head, All-tail}
use Rattle.std.proofs.lemmas.List.Kept.{AllPairs-cons}
use Rattle.head_laws.proofs.Numbers.{AllPairs-head, AllPairs-tail}
use Rattle.lf_definitions.specs.Syntax.{LfHead, bound, constant, metavariable, SimpleType, LfType, pi, family, Context, shapes_of_types, binders_of}
use Rattle.lf_definitions.specs.Renaming.{next_by, rename_type}
use Rattle.lf_definitions.specs.Shaping.{under_all}
use Rattle.lf_definitions.specs.ShapedGoals.{scope_in, ShapedTypeIn}
use Rattle.lf_definitions.specs.Occurrence.{OccursInType, OccursInContext, occurs_entry, occurs_after}
use Rattle.lf_definitions.specs.Signatures.{LfSignature}
use Rattle.lf_definitions.specs.Typing.{type_at}
use Rattle.lf_definitions.proofs.Telescopes.{under_all-next_by_length}
use Rattle.head_laws.specs.Mentions.{occurs_in_type}
use Rattle.head_laws.proofs.Occurrence.{occurs_in_type-from, occurs_in_context-from, OccursInType-rename_type}
use Rattle.typing_laws.proofs.Occurring.{HasShape-OccursInType}
use Rattle.opening_laws.specs.Openings.{context_variable, is_kept}
use Rattle.opening_laws.specs.Conditions.{is_dropped, is_fixed_to_dropped, is_barred, MentionsNone}
use Rattle.opening_laws.proofs.Kept.{is_dropped-constant, is_dropped-metavariable}
use Rattle.opening_laws.proofs.Existence.{type_at-within}
use Rattle.applications.specs.Candidates.{LfHypothesis, hypotheses_from, places_of, without, mentioned_by_others, occurs_later}
use Rattle.application_laws.proofs.Lists.{no_pairs}
use Rattle.application_laws.proofs.Hypotheses.{keeps_places}
use Rattle.application_laws.proofs.Arguments.{binder_is_shaped}

-- what is true of a list is true of it without some
pub All-without : (P : ℕ → Type 0) (dropped places : List ℕ) → All P places → All P (without dropped places)
All-without P dropped [] all = All-nil P
All-without P dropped (p ∷ rest) all = step (is_kept dropped p) (All-without P dropped rest (All-tail P p rest all))
  where
    step : (b : Bool) → All P (without dropped rest) → All P (if b then without dropped rest else p ∷ without dropped rest)
    step true later = later
    step false later = All-cons P p (without dropped rest) (All-head P p rest all) later

pub AllPairs-without : (R : ℕ → ℕ → Type 0) (dropped places : List ℕ) → AllPairs R places → AllPairs R (without dropped places)
AllPairs-without R dropped [] all = no_pairs R
AllPairs-without R dropped (p ∷ rest) all = step (is_kept dropped p) (AllPairs-without R dropped rest (AllPairs-tail R p rest all))
  where
    step : (b : Bool) → AllPairs R (without dropped rest) → AllPairs R (if b then without dropped rest else p ∷ without dropped rest)
    step true later = later
    step false later = AllPairs-cons R p (without dropped rest) (All-without (R p) dropped rest (AllPairs-head R p rest all)) later

-- A place is kept unless it is dropped.
pub kept_without : (dropped places : List ℕ) (q : ℕ) → is_kept places q ≡ true → is_kept (without dropped places) q ≡ false → is_kept dropped q ≡ true
kept_without dropped [] q is gone = absurd cc
kept_without dropped (p ∷ rest) q is gone = step (nat_eq q p) refl (is_kept dropped p) refl (kept_without dropped rest q) is gone
  where
    step : (b : Bool) → nat_eq q p ≡ b → (d : Bool) → is_kept dropped p ≡ d → (is_kept rest q ≡ true → is_kept (without dropped rest) q ≡ false → is_kept dropped q ≡ true) →
        b || is_kept rest q ≡ true → is_kept (if d then without dropped rest else p ∷ without dropped rest) q ≡ false → is_kept dropped q ≡ true
    step true same true drops later is gone = ap (is_kept dropped) (eqb-true q p same) ∙ drops
    step true same false drops later is gone = absurd (both (nat_eq q p) same gone)
      where
        both : (b : Bool) → b ≡ true → b || is_kept (without dropped rest) q ≡ false → ⊥
        both true e f = absurd cc
        both false e f = absurd cc
    step false same true drops later is gone = later is gone
    step false same false drops later is gone = later is (second (nat_eq q p) gone)
      where
        second : (b : Bool) → b || is_kept (without dropped rest) q ≡ false → is_kept (without dropped rest) q ≡ false
        second true e = absurd cc
        second false e = e

-- A dropped head is the variable of a dropped place.
not_true : (b : Bool) → not b ≡ true → b ≡ false
not_true true e = absurd cc
not_true false e = refl

pub dropped_variable : (kept : List ℕ) (n : ℕ) (h : LfHead) → is_dropped kept n h ≡ true → (p : ℕ) × (p < n) × (is_kept kept p ≡ false) × (h ≡ context_variable n p)
dropped_variable kept zero h is = absurd cc
dropped_variable kept (suc n) (bound zero) is = let here : 0 ≡ suc n - suc n = omega arith in (n, omega arith, not_true (is_kept kept n) is, ap bound here)
dropped_variable kept (suc n) (bound (suc i)) is = further (dropped_variable kept n (bound i) is)
  where
    number : LfHead → ℕ
    number (bound j) = j
    number (constant c) = 0
    number (metavariable m) = 0

    further : (p : ℕ) × (p < n) × (is_kept kept p ≡ false) × (bound i ≡ context_variable n p) → (p : ℕ) × (p < suc n) × (is_kept kept p ≡ false) × (bound (suc i) ≡ context_variable (suc n) p)
    further (p, less, gone, e) =
        let same : i ≡ n - suc p = ap number e in
        let there : suc i ≡ suc n - suc p = omega (arith, less, same) in
        (p, omega (arith, less), gone, ap bound there)
dropped_variable kept (suc n) (constant c) is = absurd (differ (is_dropped kept n (constant c)) is (is_dropped-constant kept n c))
  where
    differ : (b : Bool) → b ≡ true → b ≡ false → ⊥
    differ true e f = absurd cc
    differ false e f = absurd cc
dropped_variable kept (suc n) (metavariable m) is = absurd (differ (is_dropped kept n (metavariable m)) is (is_dropped-metavariable kept n m))
  where
    differ : (b : Bool) → b ≡ true → b ≡ false → ⊥
    differ true e f = absurd cc
    differ false e f = absurd cc

-- what no hypothesis passes, the one at a place does not
none_at : (test : LfHypothesis → Bool) (first : ℕ) (ctx : Context) (k : ℕ) (a : LfType) → list_any test (hypotheses_from first ctx) ≡ false → type_at ctx k ≡ Some a →
    test (record { place = first + k; type = rename_type (next_by (length ctx - k)) a }) ≡ false
none_at test first [] k a none is = absurd cc
none_at test first (b ∷ rest) zero a none is =
    let same : b ≡ a = cc in
    let here : first ≡ first + 0 = omega arith in
    let all : suc (length rest) ≡ suc (length rest) - 0 = omega arith in
    subst (λ l. test (record { place = first + 0; type = rename_type (next_by l) a }) ≡ false) all
    (subst (λ p. test (record { place = p; type = rename_type (next_by (suc (length rest))) a }) ≡ false) here
    (subst (λ x. test (record { place = first; type = rename_type (next_by (suc (length rest))) x }) ≡ false) same (head_false (test (record { place = first; type = rename_type (next_by (suc (length rest))) b })) none)))
  where
    head_false : (b : Bool) → b || list_any test (hypotheses_from (suc first) rest) ≡ false → b ≡ false
    head_false true e = absurd cc
    head_false false e = refl
none_at test first (b ∷ rest) (suc k) a none is =
    let there : suc first + k ≡ first + suc k = omega arith in
    let less : length rest - k ≡ suc (length rest) - suc k = omega arith in
    subst (λ p. test (record { place = p; type = rename_type (next_by (suc (length rest) - suc k)) a }) ≡ false) there
    (subst (λ l. test (record { place = suc first + k; type = rename_type (next_by l) a }) ≡ false) less
    (none_at test (suc first) rest k a (tail_false (test (record { place = first; type = rename_type (next_by (suc (length rest))) b })) none) is))
  where
    tail_false : (b : Bool) → b || list_any test (hypotheses_from (suc first) rest) ≡ false → list_any test (hypotheses_from (suc first) rest) ≡ false
    tail_false true e = absurd cc
    tail_false false e = e

next_by-bound : (k i : ℕ) → next_by k (bound i) ≡ bound (i + k)
next_by-bound zero i = let e : i ≡ i + 0 = omega arith in ap bound e
next_by-bound (suc k) i = let e : suc i + k ≡ i + suc k = omega arith in next_by-bound k (suc i) ∙ ap bound e

-- An entry that mentions a variable of the context has it, seen from the whole, in its hypothesis.
variable_from_whole : (len q p : ℕ) → p < q → q < len → next_by (len - q) (context_variable q p) ≡ context_variable len p
variable_from_whole len q p less within =
    let e : (q - suc p) + (len - q) ≡ len - suc p = omega (arith, less, within) in
    next_by-bound (len - q) (q - suc p) ∙ ap bound e

pub others_mention_not : (ctx : Context) (place q : ℕ) (a : LfType) → mentioned_by_others ctx place ≡ false → type_at ctx q ≡ Some a → place < q → OccursInType (context_variable q place) a → ⊥
others_mention_not ctx place q a none is less o =
    let within : q < length ctx = type_at-within ctx q a is in
    let test : LfHypothesis → Bool = λ h. not (nat_eq h.place place) && occurs_in_type (context_variable (length ctx) place) h.type in
    let gone = none_at test 0 ctx q a none is in
    let seen = subst (λ h. OccursInType h (rename_type (next_by (length ctx - q)) a)) (variable_from_whole (length ctx) q place less within) (OccursInType-rename_type o (next_by (length ctx - q))) in
    clash (nat_eq (0 + q) place) differ (occurs_in_type (context_variable (length ctx) place) (rename_type (next_by (length ctx - q)) a)) (occurs_in_type-from seen) gone
  where
    differ : nat_eq (0 + q) place ≡ false
    differ = grind (arith, less)

    clash : (b : Bool) → b ≡ false → (c : Bool) → c ≡ true → not b && c ≡ false → ⊥
    clash true e c f g = absurd cc
    clash false e true f g = absurd cc
    clash false e false f g = absurd cc

-- A later binder that mentions the one at a place.
in_later : (i j : ℕ) (ctx : Context) (a : LfType) → type_at ctx i ≡ Some a → OccursInType (bound (j + i)) a → OccursInContext (bound j) ctx
in_later i j [] a is o = absurd cc
in_later zero j (b ∷ rest) a is o =
    let same : a ≡ b = cc in
    let here : j + 0 ≡ j = omega arith in
    occurs_entry (bound j) b rest (subst (λ k. OccursInType (bound k) b) here (subst (OccursInType (bound (j + 0))) same o))
in_later (suc i) j (b ∷ rest) a is o =
    let there : j + suc i ≡ suc j + i = omega arith in
    occurs_after (bound j) b rest (in_later i (suc j) rest a is (subst (λ k. OccursInType (bound k) a) there o))

pub later_mention : (type : LfType) (major i : ℕ) (a : LfType) → type_at (binders_of type) i ≡ Some a → major < i → OccursInType (bound (i - suc major)) a → occurs_later type major ≡ true
later_mention (family f args) major i a is less o = absurd cc
later_mention (pi b c) major zero a is less o = absurd (omega (arith, less))
later_mention (pi b c) zero (suc i) a is less o =
    let here : suc i - 1 ≡ 0 + i = omega arith in
    occurs_in_context-from (in_later i 0 (binders_of c) a is (subst (λ k. OccursInType (bound k) a) here o))
later_mention (pi b c) (suc major) (suc i) a is less o =
    let there : suc i - suc (suc major) ≡ i - suc major = omega arith in
    later_mention c major i a is (omega (arith, less)) (subst (λ k. OccursInType (bound k) a) there o)

-- A barred head is an argument that is fixed to a dropped place, or a dropped variable seen from under the arguments.
pub barred_head : (kept : List ℕ) (count major place i : ℕ) (h : LfHead) → is_barred kept count ((major, place) ∷ []) i h ≡ true →
    ((major < i) × (h ≡ bound (i - suc major))) ⊎ ((k : ℕ) × (h ≡ bound (i + k)))
barred_head kept count major place zero h is = let d = dropped_variable kept count h is in inr (count - suc d.0, d.3 ∙ shifted (count - suc d.0))
  where
    shifted : (k : ℕ) → bound k ≡ bound (0 + k)
    shifted k = let e : k ≡ 0 + k = omega arith in ap bound e
barred_head kept count major place (suc i) (bound zero) is = step (nat_eq major i) refl is
  where
    step : (b : Bool) → nat_eq major i ≡ b → is_fixed_to_dropped kept (if b then Some place else None) ≡ true → ((major < suc i) × (bound zero ≡ bound (suc i - suc major))) ⊎ ((k : ℕ) × (bound zero ≡ bound (suc i + k)))
    step true same e = let eq = eqb-true major i same in let here : 0 ≡ suc i - suc major = omega (arith, eq) in inl (omega (arith, eq), ap bound here)
    step false same e = absurd cc
barred_head kept count major place (suc i) (bound (suc j)) is = further (barred_head kept count major place i (bound j) is)
  where
    number : LfHead → ℕ
    number (bound k) = k
    number (constant c) = 0
    number (metavariable m) = 0

    further : ((major < i) × (bound j ≡ bound (i - suc major))) ⊎ ((k : ℕ) × (bound j ≡ bound (i + k))) → ((major < suc i) × (bound (suc j) ≡ bound (suc i - suc major))) ⊎ ((k : ℕ) × (bound (suc j) ≡ bound (suc i + k)))
    further (inl (less, e)) = let same = ap number e in let there : suc j ≡ suc i - suc major = omega (arith, less, same) in inl (omega (arith, less), ap bound there)
    further (inr (k, e)) = let same = ap number e in let there : suc j ≡ suc i + k = omega (arith, same) in inr (k, ap bound there)
barred_head kept count major place (suc i) (constant c) is = further (barred_head kept count major place i (constant c) is)
  where
    further : ((major < i) × (constant c ≡ bound (i - suc major))) ⊎ ((k : ℕ) × (constant c ≡ bound (i + k))) → ((major < suc i) × (constant c ≡ bound (suc i - suc major))) ⊎ ((k : ℕ) × (constant c ≡ bound (suc i + k)))
    further (inl (less, e)) = absurd cc
    further (inr (k, e)) = absurd cc
barred_head kept count major place (suc i) (metavariable m) is = further (barred_head kept count major place i (metavariable m) is)
  where
    further : ((major < i) × (metavariable m ≡ bound (i - suc major))) ⊎ ((k : ℕ) × (metavariable m ≡ bound (i + k))) → ((major < suc i) × (metavariable m ≡ bound (suc i - suc major))) ⊎ ((k : ℕ) × (metavariable m ≡ bound (suc i + k)))
    further (inl (less, e)) = absurd cc
    further (inr (k, e)) = absurd cc

-- A closed type mentions no variable from outside its binders.
length_taken : (type : LfType) (i : ℕ) (a : LfType) → type_at (binders_of type) i ≡ Some a → length (shapes_of_types (take i (binders_of type))) ≡ i
length_taken (family f args) i a is = absurd cc
length_taken (pi b c) zero a is = refl
length_taken (pi b c) (suc i) a is = ap suc (length_taken c i a is)

pub closed_binders : (sig : LfSignature) (type : LfType) → ShapedTypeIn sig [] [] type → (i : ℕ) (a : LfType) → type_at (binders_of type) i ≡ Some a → (k : ℕ) → OccursInType (bound (i + k)) a → ⊥
closed_binders sig type shaped i a is k o =
    let shapes = shapes_of_types (take i (binders_of type)) in
    let has = HasShape-OccursInType (binder_is_shaped shaped i a is) o in
    let there : k + i ≡ i + k = omega arith in
    let same : under_all shapes (scope_in sig [] []) (bound (i + k)) ≡ None =
    ap (λ h. under_all shapes (scope_in sig [] []) h) (ap bound (sym there) ∙ sym (next_by-bound i k) ∙ ap (λ l. next_by l (bound k)) (sym (length_taken type i a is))) ∙ under_all-next_by_length shapes (scope_in sig [] []) (bound k) in
    nothing has.0 (sym same ∙ has.1)
  where
    nothing : (s : SimpleType) → None ≡ Some s → ⊥
    nothing s e = absurd cc

-- So the conditions of an opening hold where the hypothesis is dropped.
module _ (ctx : Context) (place : ℕ) where
  abbrev Kept : List ℕ
  Kept = without (place ∷ []) (places_of ctx)

  only_place : (p : ℕ) → p < length ctx → is_kept Kept p ≡ false → p ≡ place
  only_place p less gone = alone (nat_eq p place) refl (kept_without (place ∷ []) (places_of ctx) p (keeps_places ctx p less) gone)
    where
      alone : (b : Bool) → nat_eq p place ≡ b → b || false ≡ true → p ≡ place
      alone true e f = eqb-true p place e
      alone false e f = absurd cc

  pub kept_entries_mention : mentioned_by_others ctx place ≡ false → (q : ℕ) (a : LfType) → type_at ctx q ≡ Some a → MentionsNone (is_dropped Kept q) a
  kept_entries_mention none q a is h o = step (is_dropped Kept q h) refl
    where
      step : (b : Bool) → is_dropped Kept q h ≡ b → b ≡ false
      step false e = refl
      step true e =
          let d = dropped_variable Kept q h e in
          let less = d.1 in
          let within : q < length ctx = type_at-within ctx q a is in
          let same = only_place d.0 (omega (arith, less, within)) d.2 in
          absurd (others_mention_not ctx place q a none is (subst (λ p. p < q) same less) (subst (λ p. OccursInType (context_variable q p) a) same (subst (λ k. OccursInType k a) d.3 o)))

  pub binders_mention : (sig : LfSignature) (type : LfType) → ShapedTypeIn sig [] [] type → (major : ℕ) → occurs_later type major ≡ false → (i : ℕ) (a : LfType) → type_at (binders_of type) i ≡ Some a →
      MentionsNone (is_barred Kept (length ctx) ((major, place) ∷ []) i) a
  binders_mention sig type closed major none i a is h o = step (is_barred Kept (length ctx) ((major, place) ∷ []) i h) refl
    where
      either : ((major < i) × (h ≡ bound (i - suc major))) ⊎ ((k : ℕ) × (h ≡ bound (i + k))) → ⊥
      either (inl (less, e)) = differ (occurs_later type major) none (later_mention type major i a is less (subst (λ k. OccursInType k a) e o))
        where
          differ : (b : Bool) → b ≡ false → b ≡ true → ⊥
          differ true e f = absurd cc
          differ false e f = absurd cc
      either (inr (k, e)) = closed_binders sig type closed i a is k (subst (λ x. OccursInType x a) e o)

      step : (b : Bool) → is_barred Kept (length ctx) ((major, place) ∷ []) i h ≡ b → b ≡ false
      step false e = refl
      step true e = absurd (either (barred_head Kept (length ctx) major place i h e))
