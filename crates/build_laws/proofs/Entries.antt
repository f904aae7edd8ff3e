-- Entries and goals by their numbers, and what assignments that follow one another put.
use Rattle.std.proofs.Common.{◌≡◌, ◌≢◌, ◌⊎◌, inl, inr, ℕ, zero, suc, Bool, true, false, Some, List, [], ◌∷◌, ◌++◌, map, All, AllPairs, refl, sym, ap, ap₂, ◌∙◌}
use Rattle.std.specs.Prelude.{nat_eq, if◌then◌else◌, Contains}
use Rattle.std.specs.List.{list_any}
use Rattle.std.proofs.lemmas.Bool.{eq-eqb, ne_eqb}
use Rattle.std.proofs.lemmas.List.Elements.{All-nil, All-cons, All-head, All-tail, All-weaker, All-map}
use Rattle.std.proofs.lemmas.List.Kept.{AllPairs-cons}
use Rattle.lf_definitions.specs.Syntax.{LfTerm, lam, lams, SimpleType, shape_of}
use Rattle.lf_definitions.specs.Shaping.{Scope, Shaped}
use Rattle.lf_definitions.specs.Substitution.{becomes}
use Rattle.lf_definitions.specs.Replacements.{Fits, fits_becomes}
use Rattle.lf_definitions.specs.Typing.{LfGoal, goal_type}
use Rattle.lf_definitions.specs.GoalLists.{ids}
use Rattle.lf_definitions.specs.Instantiation.{Assignment, LfAssigned, assignment_of}
use Rattle.head_laws.specs.AssignmentLaws.{AssignsClosedTerms}
use Rattle.head_laws.proofs.Assignments.{up_by-closed}
use Rattle.head_laws.proofs.Numbers.{Contains-here, Contains-later, AllPairs-head, AllPairs-tail}
use Rattle.unifiers.proofs.Entries.{term_put}
use Rattle.lf_functions.specs.Replacing.{nested, replaced_term, replaced}
use Rattle.lf_functions.specs.Instances.{goals_depth, instance_of}
use Rattle.lf_functions.specs.CompositionLaws.{instance_of_assigned, followed_by}
use Rattle.opening_laws.proofs.Numbers.{found_shape}
use Rattle.applications.specs.Applications.{entries_among}
use Rattle.application_laws.proofs.Lists.{no_pairs}
use Rattle.application_laws.proofs.Members.{IsIn, in_cases, among_same}
use Rattle.alternatives.specs.ListsAfter.{under_later, then_assigned}

-- Under closed terms an instance goes under abstractions.
pub instance-lams : (goals : List LfGoal) (σ : Assignment) → AssignsClosedTerms σ → (n : ℕ) (b : LfTerm) → instance_of goals σ (lams n b) ≡ lams n (instance_of goals σ b)
unfolding instance_of replaced
instance-lams goals σ closed zero b = refl
instance-lams goals σ closed (suc n) b =
    ap (λ θ. lam (replaced_term (nested (goals_depth goals)) θ (lams n b))) (up_by-closed 1 σ closed) ∙ ap lam (instance-lams goals σ closed n b)

pub lams-injective : (n : ℕ) (b c : LfTerm) → lams n b ≡ lams n c → b ≡ c
lams-injective zero b c e = e
lams-injective (suc n) b c e = lams-injective n b c (cc)

pub term_that_fits : {Δ : Scope} {p : ℕ} {u : LfTerm} {s : SimpleType} → Fits Δ p (becomes u) s → Shaped Δ u s
term_that_fits (fits_becomes shaped small) = shaped

-- Two entries are of different goals.
abbrev pub AreOfTwo : LfAssigned → LfAssigned → Type 0
AreOfTwo e f = e.assigned_goal ≢ f.assigned_goal

-- Where no two entries are of one goal, each is the one of its goal.
pub own_entries : (es : List LfAssigned) → AllPairs AreOfTwo es → All (λ e. assignment_of es e.assigned_goal ≡ Some (term_put e)) es
own_entries [] differ = All-nil (λ e. assignment_of [] e.assigned_goal ≡ Some (term_put e))
own_entries (e ∷ rest) differ =
    All-cons (λ f. assignment_of (e ∷ rest) f.assigned_goal ≡ Some (term_put f)) e rest
    (ap (λ b. if b then Some (term_put e) else assignment_of rest e.assigned_goal) (eq-eqb e.assigned_goal e.assigned_goal refl))
    (All-weaker (λ f. AreOfTwo e f × (assignment_of rest f.assigned_goal ≡ Some (term_put f))) (λ f. assignment_of (e ∷ rest) f.assigned_goal ≡ Some (term_put f))
    (λ f both. ap (λ b. if b then Some (term_put e) else assignment_of rest f.assigned_goal) (ne_eqb e.assigned_goal f.assigned_goal both.0) ∙ both.1) rest
    (λ k d less. (AllPairs-head AreOfTwo e rest differ k d less, own_entries rest (AllPairs-tail AreOfTwo e rest differ) k d less)))

-- What is true of entries whose goals have one of some numbers.
pub All-among : (P : LfAssigned → Type 0) (ns : List ℕ) (es : List LfAssigned) → All (λ e. IsIn e.assigned_goal ns → P e) es → All P (entries_among ns es)
All-among P ns [] all = All-nil P
All-among P ns (e ∷ rest) all =
    step (list_any (nat_eq e.assigned_goal) ns) refl (All-head (λ f. IsIn f.assigned_goal ns → P f) e rest all) (All-among P ns rest (All-tail (λ f. IsIn f.assigned_goal ns → P f) e rest all))
  where
    step : (b : Bool) → list_any (nat_eq e.assigned_goal) ns ≡ b → (IsIn e.assigned_goal ns → P e) → All P (entries_among ns rest) → All P (if b then e ∷ entries_among ns rest else entries_among ns rest)
    step true is here later = All-cons P e (entries_among ns rest) (here is) later
    step false is here later = later

pub AllPairs-among : (R : LfAssigned → LfAssigned → Type 0) (ns : List ℕ) (es : List LfAssigned) → AllPairs R es → AllPairs R (entries_among ns es)
AllPairs-among R ns [] pairs = no_pairs R
AllPairs-among R ns (e ∷ rest) pairs =
    step (list_any (nat_eq e.assigned_goal) ns)
    (All-among (R e) ns rest (All-weaker (R e) (λ f. IsIn f.assigned_goal ns → R e f) (λ f r is. r) rest (AllPairs-head R e rest pairs))) (AllPairs-among R ns rest (AllPairs-tail R e rest pairs))
  where
    step : (b : Bool) → All (R e) (entries_among ns rest) → AllPairs R (entries_among ns rest) → AllPairs R (if b then e ∷ entries_among ns rest else entries_among ns rest)
    step true first later = AllPairs-cons R e (entries_among ns rest) first later
    step false first later = later

-- Bodies make no difference to whose the entries are.
pub AllPairs-under_later : (between : List LfGoal) (later es : List LfAssigned) → AllPairs AreOfTwo es → AllPairs AreOfTwo (map (under_later between later) es)
AllPairs-under_later between later [] pairs = no_pairs AreOfTwo
AllPairs-under_later between later (e ∷ rest) pairs =
    AllPairs-cons AreOfTwo (under_later between later e) (map (under_later between later) rest)
    (All-map (AreOfTwo (under_later between later e)) (under_later between later) rest (AllPairs-head AreOfTwo e rest pairs))
    (AllPairs-under_later between later rest (AllPairs-tail AreOfTwo e rest pairs))

-- A goal of a number, and its shape.
pub goal_of_number : (goals : List LfGoal) (m : ℕ) → IsIn m (ids goals) → (g : LfGoal) × Contains goals g × (g.id ≡ m)
goal_of_number [] m is = absurd cc
goal_of_number (g ∷ rest) m is = step (in_cases m g.id (ids rest) is) (goal_of_number rest m)
  where
    step : (m ≡ g.id) ⊎ IsIn m (ids rest) → (IsIn m (ids rest) → (h : LfGoal) × Contains rest h × (h.id ≡ m)) → (h : LfGoal) × Contains (g ∷ rest) h × (h.id ≡ m)
    step (inl same) later = (g, Contains-here g rest, sym same)
    step (inr there) later = let r = later there in (r.0, Contains-later g rest r.0 r.1, r.2)

pub shape_of_number : (goals : List LfGoal) (m : ℕ) → IsIn m (ids goals) → (s : SimpleType) × (found_shape goals m ≡ Some s)
shape_of_number [] m is = absurd cc
shape_of_number (g ∷ rest) m is = step (nat_eq g.id m) refl (shape_of_number rest m)
  where
    clash : true ≡ false → ⊥
    clash f = absurd cc

    further : nat_eq g.id m ≡ false → (m ≡ g.id) ⊎ IsIn m (ids rest) → IsIn m (ids rest)
    further e (inl same) = absurd (clash (sym (eq-eqb g.id m (sym same)) ∙ e))
    further e (inr there) = there

    step : (b : Bool) → nat_eq g.id m ≡ b → (IsIn m (ids rest) → (s : SimpleType) × (found_shape rest m ≡ Some s)) → (s : SimpleType) × ((if b then Some (shape_of (goal_type g)) else found_shape rest m) ≡ Some s)
    step true e later = (shape_of (goal_type g), refl)
    step false e later = later (further e (in_cases m g.id (ids rest) is))

-- Entries and then later ones assign, to goals of these numbers, what the one assignment after the other does.
pub assigned_then : (between : List LfGoal) (later : List LfAssigned) → AssignsClosedTerms (assignment_of later) → (ns : List ℕ) (earlier : List LfAssigned) (m : ℕ) → IsIn m ns →
    assignment_of (then_assigned ns between earlier later) m ≡ followed_by between (assignment_of earlier) (assignment_of later) m
assigned_then between later closed ns [] m is = among_same ns later m is
assigned_then between later closed ns (e ∷ rest) m is = step (nat_eq e.assigned_goal m) (assigned_then between later closed ns rest m is)
  where
    step : (b : Bool) → assignment_of (then_assigned ns between rest later) m ≡ followed_by between (assignment_of rest) (assignment_of later) m →
        (if b then Some (lams e.binders_count (instance_of between (assignment_of later) e.body)) else assignment_of (then_assigned ns between rest later) m)
        ≡ instance_of_assigned between (assignment_of later) m (if b then Some (lams e.binders_count e.body) else assignment_of rest m)
    step true same = ap Some (sym (instance-lams between (assignment_of later) closed e.binders_count e.body))
    step false same = same

-- Entries among entries.
pub among_append : (ns : List ℕ) (xs ys : List LfAssigned) → entries_among ns (xs ++ ys) ≡ entries_among ns xs ++ entries_among ns ys
among_append ns [] ys = refl
among_append ns (e ∷ xs) ys = step (list_any (nat_eq e.assigned_goal) ns) (among_append ns xs ys)
  where
    step : (b : Bool) → entries_among ns (xs ++ ys) ≡ entries_among ns xs ++ entries_among ns ys →
        (if b then e ∷ entries_among ns (xs ++ ys) else entries_among ns (xs ++ ys)) ≡ (if b then e ∷ entries_among ns xs else entries_among ns xs) ++ entries_among ns ys
    step true same = ap (λ rest. e ∷ rest) same
    step false same = same

pub among_under_later : (ns : List ℕ) (between : List LfGoal) (later es : List LfAssigned) → entries_among ns (map (under_later between later) es) ≡ map (under_later between later) (entries_among ns es)
among_under_later ns between later [] = refl
among_under_later ns between later (e ∷ rest) = step (list_any (nat_eq e.assigned_goal) ns) (among_under_later ns between later rest)
  where
    step : (b : Bool) → entries_among ns (map (under_later between later) rest) ≡ map (under_later between later) (entries_among ns rest) →
        (if b then under_later between later e ∷ entries_among ns (map (under_later between later) rest) else entries_among ns (map (under_later between later) rest))
        ≡ map (under_later between later) (if b then e ∷ entries_among ns rest else entries_among ns rest)
    step true same = ap (λ more. under_later between later e ∷ more) same
    step false same = same

pub among_among : (ns ms : List ℕ) (es : List LfAssigned) → All (λ e. IsIn e.assigned_goal ns → IsIn e.assigned_goal ms) es → entries_among ns (entries_among ms es) ≡ entries_among ns es
among_among ns ms [] all = refl
among_among ns ms (e ∷ rest) all =
    step (list_any (nat_eq e.assigned_goal) ns) (list_any (nat_eq e.assigned_goal) ms) refl refl (All-head (λ f. IsIn f.assigned_goal ns → IsIn f.assigned_goal ms) e rest all)
    (among_among ns ms rest (All-tail (λ f. IsIn f.assigned_goal ns → IsIn f.assigned_goal ms) e rest all))
  where
    clash : false ≡ true → ⊥
    clash f = absurd cc

    step : (a b : Bool) → list_any (nat_eq e.assigned_goal) ns ≡ a → list_any (nat_eq e.assigned_goal) ms ≡ b → (IsIn e.assigned_goal ns → IsIn e.assigned_goal ms) →
        entries_among ns (entries_among ms rest) ≡ entries_among ns rest →
        entries_among ns (if b then e ∷ entries_among ms rest else entries_among ms rest) ≡ (if a then e ∷ entries_among ns rest else entries_among ns rest)
    step true true in_ns in_ms implies same = ap (λ c. if c then e ∷ entries_among ns (entries_among ms rest) else entries_among ns (entries_among ms rest)) in_ns ∙ ap (λ more. e ∷ more) same
    step false true in_ns in_ms implies same = ap (λ c. if c then e ∷ entries_among ns (entries_among ms rest) else entries_among ns (entries_among ms rest)) in_ns ∙ same
    step true false in_ns in_ms implies same = absurd (clash (sym in_ms ∙ implies in_ns))
    step false false in_ns in_ms implies same = same

-- Entries that all are of goals of these numbers.
pub among_all : (ns : List ℕ) (es : List LfAssigned) → All (λ e. IsIn e.assigned_goal ns) es → entries_among ns es ≡ es
among_all ns [] all = refl
among_all ns (e ∷ rest) all =
    ap (λ b. if b then e ∷ entries_among ns rest else entries_among ns rest) (All-head (λ f. IsIn f.assigned_goal ns) e rest all)
    ∙ ap (λ more. e ∷ more) (among_all ns rest (All-tail (λ f. IsIn f.assigned_goal ns) e rest all))

pub map_twice : (f g h : LfAssigned → LfAssigned) (es : List LfAssigned) → All (λ e. f e ≡ g (h e)) es → map f es ≡ map g (map h es)
map_twice f g h [] all = refl
map_twice f g h (e ∷ rest) all = ap₂ (λ x xs. x ∷ xs) (All-head (λ x. f x ≡ g (h x)) e rest all) (map_twice f g h rest (All-tail (λ x. f x ≡ g (h x)) e rest all))
