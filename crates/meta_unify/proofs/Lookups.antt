-- Bindings and entries as lists: what is found in them.
use Rattle.std.proofs.Common.{◌≡◌, ◌≢◌, ℕ, Bool, true, false, not, List, [], ◌∷◌, ◌++◌, map, All, AllPairs, Some, None, refl, sym, ap, ◌∙◌, subst, arith}
use Rattle.std.specs.Prelude.{if◌then◌else◌, nat_eq}
use Rattle.std.proofs.lemmas.Bool.{eqb-true, eq-eqb, both_ways, or_parts, or_from, and_parts, and_from, not-true, not_from_false}
use Rattle.std.proofs.lemmas.List.Elements.{All-nil, All-cons, All-head, All-tail}
use Rattle.std.proofs.lemmas.List.Kept.{AllPairs-cons}
use Rattle.lf_definitions.specs.Syntax.{LfTerm, lams}
use Rattle.lf_definitions.specs.Instantiation.{Assignment, Instantiated, LfAssigned, assignment_of}
use Rattle.lf_definitions.proofs.Options.{Some-Some}
use Rattle.unification.specs.Patterns.{has_number, are_different}
use Rattle.unification.specs.Equations.{InstantiatedEntries, no_entry, one_entry}
use Rattle.meta_goals.specs.Bindings.{LfBinding, assigned_of, binding_for}
use Rattle.meta_unify.specs.Standing.{newest_first, assigned_goals}

pub newest_first-push : (bindings : List LfBinding) (b : LfBinding) (older : List LfAssigned) → newest_first (bindings ++ b ∷ []) older ≡ assigned_of b ∷ newest_first bindings older
newest_first-push [] b older = refl
newest_first-push (c ∷ rest) b older = newest_first-push rest b (assigned_of c ∷ older)

-- What holds of each in order holds of each, the newest first, and the other way round.
pub All-newest_first : (P : LfAssigned → Type 0) (bindings : List LfBinding) (older : List LfAssigned) → All P (map assigned_of bindings) → All P older → All P (newest_first bindings older)
All-newest_first P [] older all more = more
All-newest_first P (b ∷ rest) older all more =
    All-newest_first P rest (assigned_of b ∷ older) (All-tail P (assigned_of b) (map assigned_of rest) all) (All-cons P (assigned_of b) older (All-head P (assigned_of b) (map assigned_of rest) all) more)

pub All-in_order : (P : LfAssigned → Type 0) (bindings : List LfBinding) (older : List LfAssigned) → All P (newest_first bindings older) → All P (map assigned_of bindings) × All P older
All-in_order P [] older all = (All-nil P, all)
All-in_order P (b ∷ rest) older all =
    let both = All-in_order P rest (assigned_of b ∷ older) all in
    (All-cons P (assigned_of b) (map assigned_of rest) (All-head P (assigned_of b) older both.1) both.0, All-tail P (assigned_of b) older both.1)

pub All-map_push : (P : LfAssigned → Type 0) (bindings : List LfBinding) (b : LfBinding) → All P (map assigned_of bindings) → P (assigned_of b) → All P (map assigned_of (bindings ++ b ∷ []))
All-map_push P [] b all one = All-cons P (assigned_of b) [] one (All-nil P)
All-map_push P (c ∷ rest) b all one =
    All-cons P (assigned_of c) (map assigned_of (rest ++ b ∷ [])) (All-head P (assigned_of c) (map assigned_of rest) all) (All-map_push P rest b (All-tail P (assigned_of c) (map assigned_of rest) all) one)

-- Which goals have a binding.
pub no_binding : (bindings : List LfBinding) (older : List LfAssigned) (g : ℕ) → has_number (assigned_goals (newest_first bindings older)) g ≡ false → (binding_for bindings g ≡ None) × (has_number (assigned_goals older) g ≡ false)
no_binding [] older g e = (refl, e)
no_binding (b ∷ rest) older g e =
    let later = no_binding rest (assigned_of b ∷ older) g e in
    let parts = or_parts (nat_eq b.number g) (has_number (assigned_goals older) g) later.1 in
    (ap (λ t. if t then Some b else binding_for rest g) parts.0 ∙ later.0, parts.1)

pub no_entry_for : (bindings : List LfBinding) (older : List LfAssigned) (g : ℕ) → binding_for bindings g ≡ None → has_number (assigned_goals older) g ≡ false → has_number (assigned_goals (newest_first bindings older)) g ≡ false
no_entry_for [] older g e more = more
no_entry_for (b ∷ rest) older g e more = each (nat_eq b.number g) refl (no_entry_for rest (assigned_of b ∷ older) g)
  where
    each : (t : Bool) → nat_eq b.number g ≡ t →
        (binding_for rest g ≡ None → has_number (assigned_goals (assigned_of b ∷ older)) g ≡ false → has_number (assigned_goals (newest_first rest (assigned_of b ∷ older))) g ≡ false) →
        has_number (assigned_goals (newest_first rest (assigned_of b ∷ older))) g ≡ false
    each true f later =
        let found : Some b ≡ None = sym (ap (λ t. if t then Some b else binding_for rest g) f) ∙ e in
        absurd cc
    each false f later = later (sym (ap (λ t. if t then Some b else binding_for rest g) f) ∙ e) (or_from (nat_eq b.number g) (has_number (assigned_goals older) g) f more)

pub not_bound : (bindings : List LfBinding) (g : ℕ) → has_number (assigned_goals (map assigned_of bindings)) g ≡ false → binding_for bindings g ≡ None
not_bound [] g e = refl
not_bound (b ∷ rest) g e =
    let parts = or_parts (nat_eq b.number g) (has_number (assigned_goals (map assigned_of rest)) g) e in
    ap (λ t. if t then Some b else binding_for rest g) parts.0 ∙ not_bound rest g parts.1

pub found_binding : (P : LfBinding → Type 0) (bindings : List LfBinding) (g : ℕ) (x : LfBinding) → All P bindings → binding_for bindings g ≡ Some x → P x × (x.number ≡ g)
found_binding P [] g x all e = absurd cc
found_binding P (b ∷ rest) g x all e = each (nat_eq b.number g) refl (found_binding P rest g x (All-tail P b rest all))
  where
    each : (t : Bool) → nat_eq b.number g ≡ t → (binding_for rest g ≡ Some x → P x × (x.number ≡ g)) → P x × (x.number ≡ g)
    each true f later =
        let here : b ≡ x = Some-Some (sym (ap (λ t. if t then Some b else binding_for rest g) f) ∙ e) in
        (subst P here (All-head P b rest all), ap (λ y. y.number) (sym here) ∙ eqb-true b.number g f)
    each false f later = later (sym (ap (λ t. if t then Some b else binding_for rest g) f) ∙ e)

-- Entries under an assignment.
pub assigned_goals-left : {σ : Assignment} {fs gs : List LfAssigned} → InstantiatedEntries σ fs gs → assigned_goals gs ≡ assigned_goals fs
assigned_goals-left no_entry = refl
assigned_goals-left (one_entry {e = e} {f = f} {rest = rest} {results = results} p ps) = ap (λ k. k ∷ assigned_goals results) p.same_goal ∙ ap (λ ks. e.assigned_goal ∷ ks) (assigned_goals-left ps)

pub none-assigned_goals : (entries : List LfAssigned) (g : ℕ) → assignment_of entries g ≡ None → has_number (assigned_goals entries) g ≡ false
none-assigned_goals [] g e = refl
none-assigned_goals (f ∷ rest) g e = each (nat_eq f.assigned_goal g) refl (none-assigned_goals rest g)
  where
    each : (t : Bool) → nat_eq f.assigned_goal g ≡ t → (assignment_of rest g ≡ None → has_number (assigned_goals rest) g ≡ false) → has_number (assigned_goals (f ∷ rest)) g ≡ false
    each true q later =
        let found : Some (lams f.binders_count f.body) ≡ None = sym (ap (λ t. if t then Some (lams f.binders_count f.body) else assignment_of rest g) q) ∙ e in
        absurd cc
    each false q later =
        or_from (nat_eq f.assigned_goal g) (has_number (assigned_goals rest) g) q
        (later (sym (ap (λ t. if t then Some (lams f.binders_count f.body) else assignment_of rest g) q) ∙ e))

pub assigned_goals-none : (entries : List LfAssigned) (g : ℕ) → has_number (assigned_goals entries) g ≡ false → assignment_of entries g ≡ None
assigned_goals-none [] g e = refl
assigned_goals-none (f ∷ rest) g e =
    let parts = or_parts (nat_eq f.assigned_goal g) (has_number (assigned_goals rest) g) e in
    ap (λ t. if t then Some (lams f.binders_count f.body) else assignment_of rest g) parts.0 ∙ assigned_goals-none rest g parts.1

-- What is found among results is a result of what is found.
pub found_result : {σ : Assignment} {fs gs : List LfAssigned} → InstantiatedEntries σ fs gs → (g : ℕ) (w : LfTerm) → assignment_of gs g ≡ Some w → (v : LfTerm) × (assignment_of fs g ≡ Some v) × Instantiated σ v w
found_result no_entry g w e = absurd cc
found_result {σ} (one_entry {e = x} {f = y} {rest = rest} {results = results} p ps) g w e = each (nat_eq y.assigned_goal g) refl (found_result ps g w)
  where
    each : (t : Bool) → nat_eq y.assigned_goal g ≡ t → (assignment_of results g ≡ Some w → (v : LfTerm) × (assignment_of rest g ≡ Some v) × Instantiated σ v w) →
        (v : LfTerm) × (assignment_of (x ∷ rest) g ≡ Some v) × Instantiated σ v w
    each true q more =
        let here : lams y.binders_count y.body ≡ w = Some-Some (sym (ap (λ t. if t then Some (lams y.binders_count y.body) else assignment_of results g) q) ∙ e) in
        let term : lams x.binders_count y.body ≡ w = ap (λ n. lams n y.body) (sym p.same_count) ∙ here in (
          lams x.binders_count x.body,
          ap (λ t. if t then Some (lams x.binders_count x.body) else assignment_of rest g) (ap (λ k. nat_eq k g) (sym p.same_goal) ∙ q),
          subst (Instantiated σ (lams x.binders_count x.body)) term p.of_body,
        )
    each false q more =
        let later = more (sym (ap (λ t. if t then Some (lams y.binders_count y.body) else assignment_of results g) q) ∙ e) in
        (later.0, ap (λ t. if t then Some (lams x.binders_count x.body) else assignment_of rest g) (ap (λ k. nat_eq k g) (sym p.same_goal) ∙ q) ∙ later.1, later.2)

-- Different numbers are those of entries of which no two are of one goal.
apart_from : (g : ℕ) (entries : List LfAssigned) → has_number (assigned_goals entries) g ≡ false → All (λ f. g ≢ f.assigned_goal) entries
apart_from g [] e = All-nil (λ f. g ≢ f.assigned_goal)
apart_from g (f ∷ rest) e =
    let parts = or_parts (nat_eq f.assigned_goal g) (has_number (assigned_goals rest) g) e in
    All-cons (λ x. g ≢ x.assigned_goal) f rest (λ same. both_ways (nat_eq f.assigned_goal g) parts.0 (eq-eqb f.assigned_goal g (sym same))) (apart_from g rest parts.1)

pub AllPairs-assigned_goals : (entries : List LfAssigned) → are_different (assigned_goals entries) ≡ true → AllPairs (λ e f. e.assigned_goal ≢ f.assigned_goal) entries
AllPairs-assigned_goals [] differ = λ i j d less within. absurd (omega arith)
AllPairs-assigned_goals (e ∷ rest) differ =
    let parts = and_parts (not (has_number (assigned_goals rest) e.assigned_goal)) (are_different (assigned_goals rest)) differ in
    AllPairs-cons (λ f g. f.assigned_goal ≢ g.assigned_goal) e rest (apart_from e.assigned_goal rest (not-true (has_number (assigned_goals rest) e.assigned_goal) parts.0)) (AllPairs-assigned_goals rest parts.1)

pub differ_more : (e : LfAssigned) (entries : List LfAssigned) → has_number (assigned_goals entries) e.assigned_goal ≡ false → are_different (assigned_goals entries) ≡ true → are_different (assigned_goals (e ∷ entries)) ≡ true
differ_more e entries none differ =
    and_from (not (has_number (assigned_goals entries) e.assigned_goal)) (are_different (assigned_goals entries)) (not_from_false (has_number (assigned_goals entries) e.assigned_goal) none) differ
