-- Equations between atoms, one after another, and the whole problem.
use mathlib.Core.Path.{fun_ext}
use Rattle.std.proofs.Common.{◌≡◌, ℕ, zero, suc, ◌+◌, ◌<◌, ◌≤◌, List, [], ◌∷◌, ◌++◌, length, reverse, get_or, take, take_all, map, All, Option, Some, None, refl, sym, ap, ap₂, ◌∙◌, subst, subst₂, arith, append-nil, add-one}
use Rattle.std.proofs.lemmas.List.Elements.{All-nil, All-head, All-tail}
use Rattle.lf_definitions.specs.Syntax.{LfHead, bound, constant, metavariable, Spine, LfAtom, atomic, SimpleType}
use Rattle.lf_definitions.specs.Shaping.{Scope, ShapedType}
use Rattle.lf_definitions.specs.Occurrence.{OccursInSpine}
use Rattle.lf_definitions.specs.Substitution.{stays}
use Rattle.lf_definitions.specs.Instantiation.{instantiating, InstantiatedSpine, LfAssigned, assignment_of}
use Rattle.head_laws.proofs.Replacing.{SubstitutedSpine-stays, SubstitutedSpine-agree}
use Rattle.unification.specs.Patterns.{has_number}
use Rattle.unification.specs.Equations.{LfEquation, of_atoms, numbered_from, argument_equations, Ending, solved, refused, InstantiatedEquations, instantiated_atoms, no_equation, one_equation, no_entry}
use Rattle.unification.specs.Transitions.{Frozen, leaving, Ends, ends_solved, Unifies}
use Rattle.unification.specs.Solutions.{ShapedEquation, ShapedEquations, ShapedEntry}
use Rattle.unification.proofs.ShapedSteps.{atoms_at_one_shape}
use Rattle.meta_goals.specs.Bindings.{LfBinding, assigned_of}
use Rattle.meta_unify.specs.declared.equations.Equation.{Equation}
use Rattle.meta_unify.specs.declared.stop.Stop.{Stop}
use Rattle.meta_unify.specs.declared.stop.Cause.TheVariants.{Apart}
use Rattle.meta_unify.specs.Equations.{atoms_of}
use Rattle.meta_unify.specs.Endings.{reason_at}
use Rattle.meta_unify.specs.Standing.{KnowsContext, Stands, AreWorkable, AtomsAreWorkable}
use Rattle.meta_unify.specs.Walks.{WalkBegins, WalkPasses, WalkStops, WalkedAt, Walked, IsShapedProblem, KnowsContexts}
use Rattle.meta_unify.proofs.Lookups.{found_binding}
use Rattle.meta_unify.proofs.Passing.{passes_then, stays_later, stays_before, atoms_reduce, families_clash}
use Rattle.meta_unify.proofs.Walking.{walked_reduces, stops_here, still_stands, reason_in}

-- Nothing is assigned at first.
pub nothing_stands : (Γ : Scope) → Stands Γ [] []
nothing_stands Γ = record {
  instantiated = no_entry;
  bindings_shaped = All-nil (ShapedEntry Γ);
  entries_shaped = All-nil (ShapedEntry Γ);
  differ = refl;
  resolved = λ g h u e o. absurd cc;
  contexts = All-nil (KnowsContext Γ);
  triangular = tt;
}

spine_stays : (ts : Spine) → InstantiatedSpine (assignment_of []) ts ts
spine_stays ts = SubstitutedSpine-agree (SubstitutedSpine-stays ts) (instantiating (assignment_of [])) each
  where
    each : (h : LfHead) → OccursInSpine h ts → stays h ≡ instantiating (assignment_of []) h
    each (bound n) o = refl
    each (constant c) o = refl
    each (metavariable g) o = refl

problem_stays : (n : ℕ) (pairs : List (LfAtom × LfAtom)) → InstantiatedEquations (assignment_of []) (numbered_from n pairs) (numbered_from n pairs)
problem_stays n [] = no_equation
problem_stays n (pair ∷ rest) = one_equation (instantiated_atoms (spine_stays pair.0.atom_args) (spine_stays pair.1.atom_args)) (problem_stays (suc n) rest)

-- two atoms of one family
pub args_workable : (bindings : List LfBinding) (pair : LfAtom × LfAtom) → pair.0.atom_family ≡ pair.1.atom_family → AtomsAreWorkable bindings pair → AreWorkable bindings pair.0.atom_args pair.1.atom_args
args_workable bindings pair same w =
    let both =
    atoms_at_one_shape w.kinds w.outer {f = pair.0.atom_family} {ts = pair.0.atom_args} {us = pair.1.atom_args} w.left_shaped
    (subst (λ f. ShapedType w.kinds w.outer (atomic (record { atom_family = f; atom_args = pair.1.atom_args }))) (sym same) w.right_shaped) in
    record { outer = w.outer; entries = w.entries; stands = w.stands; local = []; shape = both.0; left_shaped = both.1; right_shaped = both.2 }

pub atoms_walked : (frozen : Frozen) (old new : List LfBinding) (pair : LfAtom × LfAtom) → pair.0.atom_family ≡ pair.1.atom_family → (r : Option Stop) →
    Walked frozen old new (λ path. argument_equations path 0 pair.0.atom_args pair.1.atom_args) r → Walked frozen old new (λ path. of_atoms path pair.0 pair.1 ∷ []) r
atoms_walked frozen old new pair same r walked =
    let ts = pair.0.atom_args in
    let us = pair.1.atom_args in
    subst (λ f. Walked frozen old new (λ path. of_atoms path (record { atom_family = pair.0.atom_family; atom_args = ts }) (record { atom_family = f; atom_args = us }) ∷ []) r) same
    (walked_reduces frozen old new
    (λ path. of_atoms path (record { atom_family = pair.0.atom_family; atom_args = ts }) (record { atom_family = pair.0.atom_family; atom_args = us }) ∷ [])
    (λ path. argument_equations path 0 ts us) (λ path. atoms_reduce frozen old path pair.0.atom_family ts us) r walked)

pub atoms_stop : (frozen : Frozen) (old new : List LfBinding) (pair : LfAtom × LfAtom) (stop : Stop) → (pair.0.atom_family ≡ pair.1.atom_family → ⊥) → stop.cause ≡ Apart → stop.steps ≡ [] →
    Walked frozen old new (λ path. of_atoms path pair.0 pair.1 ∷ []) (Some stop)
atoms_stop frozen old new pair stop differ cause steps =
    stops_here frozen old new (λ path. of_atoms path pair.0 pair.1 ∷ []) stop Apart cause steps
    (λ path. families_clash frozen old path pair.0.atom_family pair.1.atom_family pair.0.atom_args pair.1.atom_args differ)

-- Equations, one after another.
abbrev pub first_ones : ℕ → List Equation → List LfEquation
first_ones i items = numbered_from 0 (map atoms_of (take i items))

one_more : (items : List Equation) (i : ℕ) (x : Equation) → i < length items → x ≡ get_or items i x → (n : ℕ) →
    numbered_from n (map atoms_of (take (suc i) items)) ≡ numbered_from n (map atoms_of (take i items)) ++ of_atoms ((n + i) ∷ []) (atoms_of x).0 (atoms_of x).1 ∷ []
one_more [] i x within is n = absurd (omega arith)
one_more (y ∷ rest) zero x within is n =
    let place : n ≡ n + 0 = omega arith in
    ap₂ (λ m z. of_atoms (m ∷ []) (atoms_of z).0 (atoms_of z).1 ∷ []) place (sym is)
one_more (y ∷ rest) (suc i) x within is n =
    let place : suc n + i ≡ n + suc i = omega arith in
    ap (λ qs. of_atoms (n ∷ []) (atoms_of y).0 (atoms_of y).1 ∷ qs)
    (one_more rest i x (omega arith) is (suc n) ∙ ap (λ m. numbered_from (suc n) (map atoms_of (take i rest)) ++ of_atoms (m ∷ []) (atoms_of x).0 (atoms_of x).1 ∷ []) place)

more_atoms : (items : List Equation) (i : ℕ) (x : Equation) → i < length items → x ≡ get_or items i x → first_ones (i + 1) items ≡ first_ones i items ++ of_atoms (i ∷ []) (atoms_of x).0 (atoms_of x).1 ∷ []
more_atoms items i x within is =
    let place : 0 + i ≡ i = omega arith in
    ap (λ n. first_ones n items) (add-one i) ∙ one_more items i x within is 0 ∙ ap (λ m. first_ones i items ++ of_atoms (m ∷ []) (atoms_of x).0 (atoms_of x).1 ∷ []) place

what_is_left : (items : List Equation) (i n : ℕ) → (more : List LfEquation) × (numbered_from n (map atoms_of items) ≡ numbered_from n (map atoms_of (take i items)) ++ more)
what_is_left items zero n = (numbered_from n (map atoms_of items), refl)
what_is_left [] (suc i) n = ([], refl)
what_is_left (x ∷ rest) (suc i) n = let more = what_is_left rest i (suc n) in (more.0, ap (λ qs. of_atoms (n ∷ []) (atoms_of x).0 (atoms_of x).1 ∷ qs) more.1)

atoms_at : (kinds : ℕ → Option SimpleType) (Γ : Scope) (items : List Equation) (i n : ℕ) (x : Equation) → i < length items → x ≡ get_or items i x → ShapedEquations kinds Γ (numbered_from n (map atoms_of items)) →
    ShapedType kinds Γ (atomic (atoms_of x).0) × ShapedType kinds Γ (atomic (atoms_of x).1)
atoms_at kinds Γ [] i n x within is shaped = absurd (omega arith)
atoms_at kinds Γ (y ∷ rest) zero n x within is shaped =
    subst (λ z. ShapedType kinds Γ (atomic (atoms_of z).0) × ShapedType kinds Γ (atomic (atoms_of z).1)) (sym is)
    (All-head (ShapedEquation kinds Γ) (of_atoms (n ∷ []) (atoms_of y).0 (atoms_of y).1) (numbered_from (suc n) (map atoms_of rest)) shaped)
atoms_at kinds Γ (y ∷ rest) (suc i) n x within is shaped =
    atoms_at kinds Γ rest i (suc n) x (omega arith) is (All-tail (ShapedEquation kinds Γ) (of_atoms (n ∷ []) (atoms_of y).0 (atoms_of y).1) (numbered_from (suc n) (map atoms_of rest)) shaped)

pub atoms_workable : (frozen : Frozen) (old new : List LfBinding) (pairs : List (LfAtom × LfAtom)) (items : List Equation) (i : ℕ) (x : Equation) → old ≡ [] → map atoms_of items ≡ pairs → i < length items → x ≡ get_or items i x →
    IsShapedProblem pairs → WalkPasses frozen old new (first_ones i items) → AtomsAreWorkable new (atoms_of x)
atoms_workable frozen old new pairs items i x fresh is within at_i shaped passes =
    let whole = subst (λ ps. ShapedEquations shaped.0 shaped.1 (numbered_from 0 ps)) (sym is) shaped.2 in
    let more = what_is_left items i 0 in
    let after =
    still_stands frozen old new shaped.0 shaped.1 [] (first_ones i items) more.0 (subst (λ bs. Stands shaped.1 bs []) (sym fresh) (nothing_stands shaped.1))
    (subst (ShapedEquations shaped.0 shaped.1) more.1 whole) passes in
    let both = atoms_at shaped.0 shaped.1 items i 0 x within at_i whole in
    record { kinds = shaped.0; outer = shaped.1; entries = after.0; stands = after.1; left_shaped = both.0; right_shaped = both.1 }

pub atoms_pass_more : (frozen : Frozen) (old mid new : List LfBinding) (items : List Equation) (i : ℕ) (x : Equation) (r : Option Stop) → i < length items → x ≡ get_or items i x → WalkPasses frozen old mid (first_ones i items) →
    r ≡ None → Walked frozen mid new (λ path. of_atoms path (atoms_of x).0 (atoms_of x).1 ∷ []) r → WalkPasses frozen old new (first_ones (i + 1) items)
atoms_pass_more frozen old mid new items i x r within is passes none walked =
    subst (WalkPasses frozen old new) (sym (more_atoms items i x within is))
    (passes_then frozen old mid new (first_ones i items) (of_atoms (i ∷ []) (atoms_of x).0 (atoms_of x).1 ∷ []) passes
    (subst (Walked frozen mid new (λ path. of_atoms path (atoms_of x).0 (atoms_of x).1 ∷ [])) none walked (i ∷ [])))

pub atoms_stay : (frozen : Frozen) (old mid new : List LfBinding) (pairs : List (LfAtom × LfAtom)) (items : List Equation) (i : ℕ) (x : Equation) (r : Option Stop) (stop other : Stop) → map atoms_of items ≡ pairs → i < length items →
    x ≡ get_or items i x → WalkPasses frozen old mid (first_ones i items) → r ≡ Some stop → other.cause ≡ stop.cause → other.steps ≡ stop.steps ++ i ∷ [] → Walked frozen mid new (λ path. of_atoms path (atoms_of x).0 (atoms_of x).1 ∷ []) r →
    WalkStops frozen old (numbered_from 0 pairs) (reason_at other.cause (reverse other.steps))
atoms_stay frozen old mid new pairs items i x r stop other items_are within is passes some cause steps walked =
    let reason = reason_at other.cause (reverse other.steps) in
    let one = of_atoms (i ∷ []) (atoms_of x).0 (atoms_of x).1 ∷ [] in
    let more = what_is_left items (i + 1) 0 in
    let here = subst (WalkStops frozen mid one) (reason_in stop other [] i cause steps) (subst (Walked frozen mid new (λ path. of_atoms path (atoms_of x).0 (atoms_of x).1 ∷ [])) some walked (i ∷ [])) in
    let joined = stays_later frozen old mid (first_ones i items) one reason passes here in
    subst (λ ps. WalkStops frozen old (numbered_from 0 ps) reason) items_are
    (subst (λ qs. WalkStops frozen old qs reason) (sym more.1)
    (stays_before frozen old (first_ones (i + 1) items) more.0 reason (subst (λ qs. WalkStops frozen old qs reason) (sym (more_atoms items i x within is)) joined)))

pub atoms_pass_all : (frozen : Frozen) (old new : List LfBinding) (pairs : List (LfAtom × LfAtom)) (items : List Equation) (i : ℕ) → map atoms_of items ≡ pairs → length items ≤ i → WalkPasses frozen old new (first_ones i items) →
    WalkPasses frozen old new (numbered_from 0 pairs)
atoms_pass_all frozen old new pairs items i is past passes = subst (λ ps. WalkPasses frozen old new (numbered_from 0 ps)) (ap (map atoms_of) (take_all i items past) ∙ is) passes

-- Of frozen goals it matters alone which there are.
pub same_frozen : (ns ms : List ℕ) → ((g : ℕ) → has_number ns g ≡ has_number ms g) → (equations : List LfEquation) (ending : Ending) → Unifies (has_number ns) equations ending → Unifies (has_number ms) equations ending
same_frozen ns ms same equations ending unifies = subst (λ frozen. Unifies frozen equations ending) (fun_ext same) unifies

-- The whole problem.
problem_begins : (pairs : List (LfAtom × LfAtom)) (shaped : IsShapedProblem pairs) (old : List LfBinding) → old ≡ [] → WalkBegins shaped.0 shaped.1 old (numbered_from 0 pairs ++ []) [] (numbered_from 0 pairs)
problem_begins pairs shaped old fresh =
    subst₂ (λ bs qs. WalkBegins shaped.0 shaped.1 bs qs [] (numbered_from 0 pairs)) (sym fresh) (sym (append-nil (numbered_from 0 pairs)))
    (record { stands = nothing_stands shaped.1; shaped = shaped.2; instance = problem_stays 0 pairs })

pub problem_stands : (frozen : Frozen) (old new : List LfBinding) (pairs : List (LfAtom × LfAtom)) (r : Option Stop) → old ≡ [] → IsShapedProblem pairs → r ≡ None → WalkedAt frozen old new [] (numbered_from 0 pairs) r →
    (Γ : Scope) × (entries : List LfAssigned) × Stands Γ new entries
problem_stands frozen old new pairs r fresh shaped none walked =
    let after = subst (WalkedAt frozen old new [] (numbered_from 0 pairs)) none walked shaped.0 shaped.1 [] [] (numbered_from 0 pairs) (problem_begins pairs shaped old fresh) in
    (shaped.1, after.0, after.2.stands)

pub problem_solved : (frozen : Frozen) (old new answer : List LfBinding) (pairs : List (LfAtom × LfAtom)) (r : Option Stop) → old ≡ [] → IsShapedProblem pairs → r ≡ None → WalkedAt frozen old new [] (numbered_from 0 pairs) r →
    ((Γ : Scope) (entries : List LfAssigned) → Stands Γ new entries → map assigned_of answer ≡ entries) → Unifies frozen (numbered_from 0 pairs) (solved (map assigned_of answer))
problem_solved frozen old new answer pairs r fresh shaped none walked answered =
    let after = subst (WalkedAt frozen old new [] (numbered_from 0 pairs)) none walked shaped.0 shaped.1 [] [] (numbered_from 0 pairs) (problem_begins pairs shaped old fresh) in
    let entries_are = answered shaped.1 after.0 after.2.stands in
    subst (λ fs. Unifies frozen (numbered_from 0 pairs) (solved fs)) (sym entries_are) (after.3 (solved after.0) (at_end after.1 after.0 after.2.instance))
  where
    at_end : (left : List LfEquation) (entries : List LfAssigned) → InstantiatedEquations (assignment_of entries) [] left → Ends frozen (leaving left entries) (solved entries)
    at_end left entries no_equation = ends_solved

pub problem_contexts : (frozen : Frozen) (old new answer : List LfBinding) (pairs : List (LfAtom × LfAtom)) (r : Option Stop) → old ≡ [] → r ≡ None → WalkedAt frozen old new [] (numbered_from 0 pairs) r →
    ((Γ : Scope) (entries : List LfAssigned) → Stands Γ new entries → All (KnowsContext Γ) answer) → KnowsContexts pairs answer
problem_contexts frozen old new answer pairs r fresh none walked knows kinds Γ shaped g s b known found =
    let after = subst (WalkedAt frozen old new [] (numbered_from 0 pairs)) none walked kinds Γ [] [] (numbered_from 0 pairs) (problem_begins pairs (kinds, Γ, shaped) old fresh) in
    let there = found_binding (KnowsContext Γ) answer g b (knows Γ after.0 after.2.stands) found in
    there.0 s (ap (λ m. Γ (metavariable m)) there.1 ∙ known)

pub problem_refused : (frozen : Frozen) (old new : List LfBinding) (pairs : List (LfAtom × LfAtom)) (r : Option Stop) (stop : Stop) (ending : Ending) → old ≡ [] → IsShapedProblem pairs → r ≡ Some stop →
    WalkedAt frozen old new [] (numbered_from 0 pairs) r → ending ≡ refused (reason_at stop.cause (reverse stop.steps)) → Unifies frozen (numbered_from 0 pairs) ending
problem_refused frozen old new pairs r stop ending fresh shaped some walked is =
    subst (Unifies frozen (numbered_from 0 pairs)) (sym is)
    (subst (WalkedAt frozen old new [] (numbered_from 0 pairs)) some walked shaped.0 shaped.1 [] [] (numbered_from 0 pairs) (problem_begins pairs shaped old fresh))
