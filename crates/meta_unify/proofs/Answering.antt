-- The answer, entry by entry.
use Rattle.std.proofs.Common.{◌≡◌, ℕ, zero, suc, ◌+◌, ◌-◌, ◌<◌, ◌≤◌, true, false, not, List, [], ◌∷◌, ◌++◌, length, take, take_all, map, All, Some, None, refl, sym, ap, ap₂, ◌∙◌, subst, arith, append_assoc, append-nil, slice_get}
use Rattle.std.specs.Prelude.{nat_eq, if◌then◌else◌}
use Rattle.std.proofs.lemmas.Bool.{and_parts, not-true, or_parts, or_from, eqb-true, eq-eqb, both_ways, false_from_ne_true}
use Rattle.std.proofs.lemmas.Option.{get_or_from_slice_get, slice_get_within}
use Rattle.std.proofs.lemmas.List.{map-append}
use Rattle.std.proofs.lemmas.List.Elements.{All-nil, All-head, All-tail, All-push, All-get_or}
use Rattle.lf_definitions.specs.Syntax.{LfHead, bound, constant, metavariable, LfTerm, lams, SimpleType, base, arrows}
use Rattle.lf_definitions.specs.Shaping.{Scope, under, under_all, Shaped, shaped_lam}
use Rattle.lf_definitions.specs.Occurrence.{OccursIn}
use Rattle.lf_definitions.specs.Instantiation.{Assignment, assigned, instantiating, Instantiated, LfAssigned, assignment_of}
use Rattle.lf_definitions.proofs.Options.{Some-Some}
use Rattle.lf_definitions.proofs.Uniqueness.{unique}
use Rattle.head_laws.specs.AssignmentLaws.{AssignsClosedTerms}
use Rattle.head_laws.proofs.Replacing.{Substituted-agree}
use Rattle.lf_terms.proofs.ShapeLists.{take_read}
use Rattle.unification.specs.Patterns.{has_number, are_different}
use Rattle.unification.specs.Equations.{InstantiatedEntry, InstantiatedEntries, no_entry, one_entry}
use Rattle.unification.specs.Solutions.{ShapedEntry}
use Rattle.unifiers.proofs.Assigning.{lams_inj}
use Rattle.unifiers.proofs.Entries.{Shaped-with_variables}
use Rattle.unifiers.proofs.Spines.{over_lam}
use Rattle.unifiers.proofs.Steps.{All-append_left}
use Rattle.meta_goals.specs.Bindings.{LfBinding, assigned_of, assigning, binding_for}
use Rattle.meta_goals.specs.Instantiates.{Instantiates, TermIsShaped}
use Rattle.meta_unify.specs.Standing.{newest_first, assigned_goals, KnowsContext, Stands}
use Rattle.meta_unify.proofs.Lookups.{newest_first-push, not_bound, no_entry_for, assigned_goals-left, assigned_goals-none}
use Rattle.meta_unify.proofs.Triangular.{body_mentions_later}
use Rattle.meta_unify.proofs.Instances.{closed}
use Rattle.meta_unify.proofs.Filling.{shaped_instantiates}

-- The bindings that are left, instantiated, are what is left of the entries.
abbrev pub IsAnswered : List LfBinding → List LfBinding → ℕ → Type 0
IsAnswered self answer i =
    (Γ : Scope) (entries : List LfAssigned) → Stands Γ self entries →
    (rest : List LfAssigned) × (map assigned_of answer ++ rest ≡ entries) × InstantiatedEntries (assignment_of entries) (newest_first (take (length self - i) self) []) rest

-- What was answered knows the shapes of its goals' contexts.
abbrev pub HasContexts : List LfBinding → List LfBinding → Type 0
HasContexts self answer = (Γ : Scope) (entries : List LfAssigned) → Stands Γ self entries → All (KnowsContext Γ) answer

pub contexts_begin : (self answer : List LfBinding) → answer ≡ [] → HasContexts self answer
contexts_begin self answer none Γ entries stands = subst (All (KnowsContext Γ)) (sym none) (All-nil (KnowsContext Γ))

pub answer_begins : (self answer : List LfBinding) → answer ≡ [] → IsAnswered self answer 0
answer_begins self answer none Γ entries stands =
    let all : take (length self - 0) self ≡ self = take_all (length self - 0) self (omega arith) in (
      entries,
      ap (λ bs. map assigned_of bs ++ entries) none,
      subst (λ bs. InstantiatedEntries (assignment_of entries) (newest_first bs []) entries) (sym all) stands.instantiated,
    )

-- The place of the next binding is one.
pub is_there : (bindings : List LfBinding) (k : ℕ) → k < length bindings → slice_get bindings k ≡ None → ⊥
is_there [] k within e = omega arith
is_there (b ∷ rest) zero within e = cc
is_there (b ∷ rest) (suc k) within e = is_there rest k (omega arith) e

-- bodies under abstractions
over_lams : (σ : Assignment) → AssignsClosedTerms σ → (n : ℕ) (b r : LfTerm) → Instantiated σ b r → Instantiated σ (lams n b) (lams n r)
over_lams σ closes zero b r p = p
over_lams σ closes (suc n) b r p = over_lam σ closes (over_lams σ closes n b r p)

under_lams : (n : ℕ) (Γ : Scope) (b : LfTerm) (s : SimpleType) → Shaped Γ (lams n b) s → (local : List SimpleType) × (d : SimpleType) × Shaped (under_all local Γ) b d
under_lams zero Γ b s p = ([], s, p)
under_lams (suc n) Γ b s (shaped_lam {a = a} {s = d} p) = let inside = under_lams n (under a Γ) b d p in (a ∷ inside.0, inside.1, inside.2)

entry_at : (P : LfAssigned → Type 0) (bindings : List LfBinding) (k : ℕ) (b : LfBinding) → slice_get bindings k ≡ Some b → All P (map assigned_of bindings) → P (assigned_of b)
entry_at P [] k b is all = absurd cc
entry_at P (c ∷ rest) zero b is all = subst (λ d. P (assigned_of d)) (Some-Some is) (All-head P (assigned_of c) (map assigned_of rest) all)
entry_at P (c ∷ rest) (suc k) b is all = entry_at P rest k b is (All-tail P (assigned_of c) (map assigned_of rest) all)

-- Entries of other goals make no difference.
same_without : (xs rest : List LfAssigned) (g : ℕ) → has_number (assigned_goals rest) g ≡ false → assignment_of xs g ≡ assignment_of (xs ++ rest) g
same_without [] rest g none = sym (assigned_goals-none rest g none)
same_without (x ∷ xs) rest g none = ap (λ o. if nat_eq x.assigned_goal g then Some (lams x.binders_count x.body) else o) (same_without xs rest g none)

-- No goal has two entries.
none_before : (xs : List LfAssigned) (f : LfAssigned) (ys : List LfAssigned) (g : ℕ) → has_number (assigned_goals (xs ++ f ∷ ys)) g ≡ false → nat_eq f.assigned_goal g ≡ false
none_before [] f ys g e = (or_parts (nat_eq f.assigned_goal g) (has_number (assigned_goals ys) g) e).0
none_before (x ∷ xs) f ys g e = none_before xs f ys g (or_parts (nat_eq x.assigned_goal g) (has_number (assigned_goals (xs ++ f ∷ ys)) g) e).1

not_before : (xs : List LfAssigned) (f : LfAssigned) (ys : List LfAssigned) → are_different (assigned_goals (xs ++ f ∷ ys)) ≡ true → has_number (assigned_goals xs) f.assigned_goal ≡ false
not_before [] f ys e = refl
not_before (x ∷ xs) f ys e =
    let parts = and_parts (not (has_number (assigned_goals (xs ++ f ∷ ys)) x.assigned_goal)) (are_different (assigned_goals (xs ++ f ∷ ys))) e in
    let other = none_before xs f ys x.assigned_goal (not-true (has_number (assigned_goals (xs ++ f ∷ ys)) x.assigned_goal) parts.0) in
    or_from (nat_eq x.assigned_goal f.assigned_goal) (has_number (assigned_goals xs) f.assigned_goal)
    (false_from_ne_true (nat_eq x.assigned_goal f.assigned_goal) (λ q. both_ways (nat_eq f.assigned_goal x.assigned_goal) other (eq-eqb f.assigned_goal x.assigned_goal (sym (eqb-true x.assigned_goal f.assigned_goal q)))))
    (not_before xs f ys parts.1)

abbrev made_of : ℕ → ℕ → LfTerm → LfAssigned
made_of g n b = record { assigned_goal = g; binders_count = n; body = b }

entry_is : (f : LfAssigned) (g n : ℕ) (b : LfTerm) → f.assigned_goal ≡ g → f.binders_count ≡ n → f.body ≡ b → f ≡ record { assigned_goal = g; binders_count = n; body = b }
entry_is f g n b same count body = ap (λ k. made_of k f.binders_count f.body) same ∙ ap₂ (made_of g) count body

-- The last binding that is left.
module _ (self answer : List LfBinding) (i k : ℕ) (b : LfBinding) (within : i < length self) (place : k ≡ length self - 1 - i) (is : slice_get self k ≡ Some b) (so_far : IsAnswered self answer i) where
  module _ (Γ : Scope) (entries : List LfAssigned) (stands : Stands Γ self entries) where
    abbrev σ : Assignment
    σ = assignment_of entries

    -- the entries that are left, with that of the binding
    left : (rest : List LfAssigned) × (map assigned_of answer ++ rest ≡ entries) × InstantiatedEntries σ (newest_first (take (suc k) self) []) rest
    left =
        let before = so_far Γ entries stands in
        let count : length self - i ≡ suc k = omega (arith, place, within) in
        (before.0, before.1, subst (λ n. InstantiatedEntries σ (newest_first (take n self) []) before.0) count before.2)

    -- its own entry, and the others
    split : (f : LfAssigned) × (rest : List LfAssigned) × (map assigned_of answer ++ f ∷ rest ≡ entries) × InstantiatedEntry σ (assigned_of b) f × InstantiatedEntries σ (newest_first (take k self) []) rest
    split =
        let next : k + 1 ≡ suc k = omega arith in
        let more : newest_first (take (suc k) self) [] ≡ assigned_of b ∷ newest_first (take k self) [] =
        ap (λ n. newest_first (take n self) []) (sym next) ∙ ap (λ bs. newest_first bs []) (take_read self k b (slice_get_within self k b is) (sym (get_or_from_slice_get self k b b is))) ∙ newest_first-push (take k self) b [] in
        parts left.0 left.1 (subst (λ fs. InstantiatedEntries σ fs left.0) more left.2)
      where
        parts : (all : List LfAssigned) → map assigned_of answer ++ all ≡ entries → InstantiatedEntries (assignment_of entries) (assigned_of b ∷ newest_first (take k self) []) all →
            (f : LfAssigned) × (rest : List LfAssigned) × (map assigned_of answer ++ f ∷ rest ≡ entries) × InstantiatedEntry (assignment_of entries) (assigned_of b) f
            × InstantiatedEntries (assignment_of entries) (newest_first (take k self) []) rest
        parts all e (one_entry {f = f} {results = rest} p ps) = (f, rest, e, p, ps)

    inside : (local : List SimpleType) × (d : SimpleType) × Shaped (under_all local Γ) b.bound_body d
    inside =
        let entry = entry_at (ShapedEntry Γ) self k b is stands.bindings_shaped in
        under_lams (length b.shapes) Γ b.bound_body entry.0 (Shaped-with_variables entry.2)

    -- what is answered so far makes of a goal in its body what all entries make of it
    same_inside : (g : ℕ) → OccursIn (metavariable g) b.bound_body → assigning answer g ≡ σ g
    same_inside g o =
        let none = body_mentions_later self k b stands.triangular (slice_get_within self k b is) (sym (get_or_from_slice_get self k b b is)) g o in
        let absent = ap (λ ks. has_number ks g) (assigned_goals-left left.2) ∙ no_entry_for (take (suc k) self) [] g none refl in
        same_without (map assigned_of answer) left.0 g absent ∙ ap (λ fs. assignment_of fs g) left.1

    body_result : (r : LfTerm) → Instantiated (assigning answer) b.bound_body r → Instantiated σ b.bound_body r
    body_result r p = Substituted-agree p (instantiating σ) each
      where
        each : (h : LfHead) → OccursIn h b.bound_body → instantiating (assigning answer) h ≡ instantiating (assignment_of entries) h
        each (bound n) o = refl
        each (constant c) o = refl
        each (metavariable g) o = ap (assigned g) (same_inside g o)

    body_instantiates : All (KnowsContext Γ) answer → Instantiates answer (TermIsShaped b.bound_body)
    body_instantiates contexts =
        let shaped = All-append_left (ShapedEntry Γ) (map assigned_of answer) left.0 (subst (All (ShapedEntry Γ)) (sym left.1) stands.entries_shaped) in
        shaped_instantiates Γ answer shaped contexts inside.0 inside.1 b.bound_body inside.2

    is_new : binding_for answer b.number ≡ None
    is_new =
        not_bound answer b.number
        (ap (has_number (assigned_goals (map assigned_of answer))) (sym split.3.same_goal)
        ∙ not_before (map assigned_of answer) split.0 split.1 (ap (λ fs. are_different (assigned_goals fs)) split.2 ∙ stands.differ))

  pub answer_instantiates : ((Γ : Scope) × (entries : List LfAssigned) × Stands Γ self entries) → HasContexts self answer → Instantiates answer (TermIsShaped b.bound_body)
  answer_instantiates exists contexts = body_instantiates exists.0 exists.1 exists.2 (contexts exists.0 exists.1 exists.2)

  pub answer_is_new : ((Γ : Scope) × (entries : List LfAssigned) × Stands Γ self entries) → binding_for answer b.number ≡ None
  answer_is_new exists = is_new exists.0 exists.1 exists.2

  module _ (new : List LfBinding) (c : LfBinding) (number : c.number ≡ b.number) (shapes : c.shapes ≡ b.shapes) (more : new ≡ answer ++ c ∷ []) where
    pub contexts_go_on : HasContexts self answer → HasContexts self new
    contexts_go_on contexts Γ entries stands =
        let here = subst (KnowsContext Γ) (get_or_from_slice_get self k b b is) (All-get_or (KnowsContext Γ) self k b (slice_get_within self k b is) stands.contexts) in
        subst (All (KnowsContext Γ)) (sym more)
        (All-push (KnowsContext Γ) answer c (contexts Γ entries stands) (λ s known. here s (ap (λ m. Γ (metavariable m)) (sym number) ∙ known) ∙ ap (λ ss. arrows ss base) (sym shapes)))

    pub answer_goes_on : Instantiated (assigning answer) b.bound_body c.bound_body → IsAnswered self new (i + 1)
    answer_goes_on result Γ entries stands =
        let σ = assignment_of entries in
        let last = split Γ entries stands in
        let f = last.0 in
        let n = length b.shapes in
        let filled : Instantiated σ (lams n b.bound_body) (lams n c.bound_body) = over_lams σ (closed Γ self entries stands) n b.bound_body c.bound_body (body_result Γ entries stands c.bound_body result) in
        let body : f.body ≡ c.bound_body = lams_inj n f.body c.bound_body (unique last.3.of_body filled) in
        let entry : f ≡ assigned_of c = entry_is f c.number (length c.shapes) c.bound_body (last.3.same_goal ∙ sym number) (last.3.same_count ∙ ap length (sym shapes)) body in
        let remaining : length self - (i + 1) ≡ k = omega (arith, place, within) in (
          last.1,
          ap (λ bs. map assigned_of bs ++ last.1) more ∙ ap (λ fs. fs ++ last.1) (map-append assigned_of answer (c ∷ []))
              ∙ append_assoc (map assigned_of answer) (assigned_of c ∷ []) last.1 ∙ ap (λ g. map assigned_of answer ++ g ∷ last.1) (sym entry) ∙ last.2,
          subst (λ m. InstantiatedEntries σ (newest_first (take m self) []) last.1) (sym remaining) last.4,
        )

pub answer_ends : (self answer : List LfBinding) (i : ℕ) → length self ≤ i → IsAnswered self answer i → (Γ : Scope) (entries : List LfAssigned) → Stands Γ self entries → map assigned_of answer ≡ entries
answer_ends self answer i past so_far Γ entries stands =
    let last = so_far Γ entries stands in
    let none : length self - i ≡ 0 = omega (arith, past) in
    sym (append-nil (map assigned_of answer)) ∙ ap (λ fs. map assigned_of answer ++ fs) (sym (empty last.0 (subst (λ n. InstantiatedEntries (assignment_of entries) (newest_first (take n self) []) last.0) none last.2)))
    ∙ last.1
  where
    empty : (rest : List LfAssigned) → InstantiatedEntries (assignment_of entries) [] rest → rest ≡ []
    empty rest no_entry = refl
