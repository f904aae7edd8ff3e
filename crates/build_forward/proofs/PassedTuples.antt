-- Nothing comes of a tuple whose first premises are refused.
use Rattle.std.proofs.Common.{◌≡◌, ℕ, zero, suc, ◌+◌, ◌<◌, ◌≤◌, Option, None, Some, List, [], ◌∷◌, ◌++◌, All, length, map, refl, sym, ap, ap₂, ◌∙◌, subst, subst₂, length-append, get_or, replicate, arith}
use Rattle.std.specs.Prelude.{nat_eq, ◌||◌}
use Rattle.std.specs.Cmp.{nat_eq_equiv}
use Rattle.std.specs.List.{list_any}
use Rattle.std.proofs.lemmas.List.{append-nil, map-append, length-replicate, replicate-append-replicate}
use Rattle.std.proofs.lemmas.List.Elements.{All-nil, All-cons, All-head, All-tail, All-append, All-weaker, All-map}
use Rattle.lf_definitions.specs.ShapedGoals.{scope_in, kind_shapes_in}
use Rattle.lf_definitions.specs.Typing.{LfGoal}
use Rattle.lf_definitions.specs.GoalLists.{all_goals}
use Rattle.lf_definitions.specs.Syntax.{LfAtom, SimpleType}
use Rattle.lf_terms.specs.declared.ty.Atom.{Atom}
use Rattle.lf_definitions.specs.Shaping.{Scope}
use Rattle.lf_definitions.specs.Instantiation.{LfAssigned}
use Rattle.lf_terms.specs.Targets.{goal_of}
use Rattle.lf_terms.specs.Types.{type_of}
use Rattle.unification.specs.Patterns.{has_number}
use Rattle.unification.specs.Equations.{numbered_from, Reason, clash, occurs, escapes, prune, not_pattern, Ending, solved, refused}
use Rattle.unification.specs.Transitions.{Unifies}
use Rattle.unification.specs.Solutions.{ShapedEquation, ShapedEquations}
use Rattle.unifiers.proofs.Steps.{All-append_left}
use Rattle.lf_functions.specs.Endings.{unifier_of}
use Rattle.lf_functions.proofs.EndingLaws.{unifiers_are_the_one_end, unifiers_look_at_what_occurs}
use Rattle.meta_goals.specs.Bindings.{LfBinding}
use Rattle.meta_goals.specs.GoalsOf.{goals_of}
use Rattle.meta_unify.specs.Walks.{IsShapedProblem}
use Rattle.meta_unify.specs.Endings.{ending_of}
use Rattle.meta_unify.specs.declared.unified.Unified.{Unified}
use Rattle.meta_unify.specs.declared.unified.Unified.TheVariants.{Solved, Clash, Occurs, Escapes, Prune, NotPattern}
use Rattle.applications.specs.Methods.{LfCandidate}
use Rattle.applications.specs.Candidates.{LfHypothesis, places_of, premises_from, tuples}
use Rattle.applications.specs.Applications.{freezing, application_of, completed, with_some}
use Rattle.application_laws.proofs.Lists.{All-each}
use Rattle.build_shared.specs.declared.app.App.{App}
use Rattle.build_shared.specs.declared.hypotheses.Hypothesis.{Hypothesis}
use Rattle.build_shared.specs.declared.rule_use.RuleUse.{RuleUse}
use Rattle.build_shared.specs.RuleUses.{what_counts, AddsWhatCounts}
use Rattle.build_shared.specs.Seen.{seen_atom, seen_hypothesis, seen_application}
use Rattle.build_forward.specs.declared.onward.Onward.{Onward}
use Rattle.build_forward.specs.declared.refusal.Sieve.{Sieve}
use Rattle.build_forward.specs.Onwards.{IsOnward, IsAtomIn, opening_for, equations_between, tuple_offer, tuple_offers}
use Rattle.build_forward.specs.Sieves.{IsSieve, NothingComes, Awaits}
use Rattle.build_forward.proofs.PremisePlaces.{read_holds}
use Rattle.build_forward.proofs.OpenedTuples.{is_usable}
use Rattle.build_forward.proofs.SameArguments.{openings_agree, same_equations, are_between, between-append}
use Rattle.build_forward.proofs.RefusedEquations.{never_solved, numbered-append}

is_one_of_all : (ns : List ℕ) (n : ℕ) → has_number ns n ≡ list_any (nat_eq n) ns
is_one_of_all [] n = refl
is_one_of_all (m ∷ ns) n = ap₂ (λ a b. a || b) (nat_eq_equiv.symm m n) (is_one_of_all ns n)

refused_by : (unified : Unified) → ((bindings : List LfBinding) → unified ≡ Solved bindings → ⊥) → (reason : Reason) × (ending_of unified ≡ refused reason)
refused_by (Solved bindings) never = absurd (never bindings refl)
refused_by (Clash path) never = (clash path, refl)
refused_by (Occurs m) never = (occurs m, refl)
refused_by (Escapes path) never = (escapes path, refl)
refused_by (Prune path) never = (prune path, refl)
refused_by (NotPattern path) never = (not_pattern path, refl)

module _ (s : Sieve) (is : IsSieve s) where
  abbrev o : Onward
  o = s.onward.now

  abbrev u : RuleUse
  u = s.onward.now.usage.now

  abbrev goals : List LfGoal
  goals = all_goals (goals_of s.onward.now.usage.now.goals.now)

  abbrev g : LfGoal
  g = goal_of s.onward.now.usage.now.goal.now

  -- the equations of a tuple, or of the first premises
  abbrev pub tried : List LfHypothesis → List (LfAtom × LfAtom)
  tried hs = equations_between (map seen_atom s.premises.now) hs

  abbrev pub kinds_known : ℕ → Option SimpleType
  kinds_known = kind_shapes_in u.sig.now

  module _ (hs : List LfHypothesis) (all : All (IsAtomIn s.onward.now.usage.now) hs) (enough : length (premises_from 0 (type_of s.onward.now.ty.now)) ≤ length hs) where
    abbrev c : LfCandidate
    c = tuple_offer s.onward.now hs

    abbrev pub among : Scope
    among = scope_in u.sig.now (goals ++ (tuple_offer s.onward.now hs).opened.fresh) g.context

    equations_are : c.equations ≡ tried hs
    equations_are =
        let type = type_of s.onward.now.ty.now in
        let ks = premises_from 0 type in
        let agree = openings_agree g.context (places_of g.context) u.first type hs is.tuple enough is.enough in
        same_equations type (opening_for o hs) (opening_for o is.tuple) ks hs agree is.onward.take_atoms
        ∙ are_between type (opening_for o is.tuple) ks hs ∙ ap (λ atoms. equations_between atoms hs) (sym is.premises_are)

    offered_shaped : ShapedEquations kinds_known among (numbered_from 0 c.equations)
    offered_shaped = (is_usable o is.onward hs all).equations_are_shaped

    pub tried_are_shaped : ShapedEquations kinds_known among (numbered_from 0 (tried hs))
    tried_are_shaped = subst (λ l. ShapedEquations kinds_known among (numbered_from 0 l)) equations_are offered_shaped

    solves_tried : (entries : List LfAssigned) → unifier_of u.sig.now (goals ++ c.opened.fresh) g.context (freezing c.outcome goals g) c.equations ≡ solved entries →
        Unifies (has_number s.frozen.now) (numbered_from 0 (tried hs)) (solved entries)
    solves_tried entries ends =
        let fresh = goals ++ c.opened.fresh in
        let frozen = has_number s.frozen.now in
        let also : unifier_of u.sig.now fresh g.context frozen c.equations ≡ solved entries =
        unifiers_look_at_what_occurs u.sig.now u.sig.now fresh fresh g.context g.context (freezing c.outcome goals g) frozen c.equations offered_shaped offered_shaped
        (λ m mentioned. is_one_of_all s.frozen.now m ∙ ap (list_any (nat_eq m)) is.frozen_are) ∙ ends in
        subst (λ l. Unifies frozen (numbered_from 0 l) (solved entries)) equations_are
        ((unifiers_are_the_one_end u.sig.now fresh g.context frozen c.equations offered_shaped (solved entries)).1 (sym also))

    -- Nothing comes of a tuple whose equations are never solved.
    pub none_of : ((entries : List LfAssigned) → Unifies (has_number s.frozen.now) (numbered_from 0 (tried hs)) (solved entries) → ⊥) →
        application_of u.sig.now u.first goals g (tuple_offer s.onward.now hs) ≡ None
    none_of never =
        none_completed (tuple_offer s.onward.now hs) (unifier_of u.sig.now (goals ++ (tuple_offer s.onward.now hs).opened.fresh) g.context (freezing (tuple_offer s.onward.now hs).outcome goals g) (tuple_offer s.onward.now hs).equations)
        (λ entries ends. never entries (solves_tried entries ends))
      where
        none_completed : (x : LfCandidate) (e : Ending) → ((entries : List LfAssigned) → e ≡ solved entries → ⊥) → completed u.sig.now u.first goals g x e ≡ None
        none_completed x (refused why) never = refl
        none_completed x (solved entries) never = absurd (never entries refl)

  module _ (chosen : List LfHypothesis) (chosen_are : All (IsAtomIn s.onward.now.usage.now) chosen) where
    pub is_shaped_problem : IsShapedProblem (tried chosen)
    is_shaped_problem =
        let all = All-append (IsAtomIn u) chosen is.tuple chosen_are is.atoms in
        let enough : length (premises_from 0 (type_of s.onward.now.ty.now)) ≤ length (chosen ++ is.tuple) = omega (arith, is.enough, length-append chosen is.tuple) in
        let first = between-append (map seen_atom s.premises.now) chosen is.tuple in
        let numbers = numbered-append 0 (tried chosen) first.0 in
        let Γ = among (chosen ++ is.tuple) all enough in
        let shaped : ShapedEquations kinds_known Γ (numbered_from 0 (tried chosen) ++ numbers.0) =
        subst (ShapedEquations kinds_known Γ) (ap (numbered_from 0) first.1 ∙ numbers.1) (tried_are_shaped (chosen ++ is.tuple) all enough) in
        (kinds_known, Γ, All-append_left (ShapedEquation kinds_known Γ) (numbered_from 0 (tried chosen)) numbers.0 shaped)

    nothing_comes : (reason : Reason) → Unifies (has_number s.frozen.now) (numbered_from 0 (tried chosen)) (refused reason) → NothingComes o chosen
    nothing_comes reason refuses rest rest_are enough =
        let first = between-append (map seen_atom s.premises.now) chosen rest in
        none_of (chosen ++ rest) (All-append (IsAtomIn u) chosen rest chosen_are rest_are) enough
        (λ entries solves. never_solved (has_number s.frozen.now) (tried chosen) first.0 reason entries refuses
        (subst (λ l. Unifies (has_number s.frozen.now) (numbered_from 0 l) (solved entries)) first.1 solves))

    -- So it is where the unifier's answer is no solution.
    pub refusal_means : (equations : List (LfAtom × LfAtom)) (unified : Unified) → equations ≡ tried chosen → Unifies (has_number s.frozen.now) (numbered_from 0 equations) (ending_of unified) → ((bindings : List LfBinding) → unified ≡ Solved bindings → ⊥) →
        NothingComes o chosen
    refusal_means equations unified are ends never =
        let why = refused_by unified never in
        nothing_comes why.0 (subst₂ (λ l e. Unifies (has_number s.frozen.now) (numbered_from 0 l) e) are why.1 ends)

-- The tuples of some length.
good_tuples : (P : LfHypothesis → Type 0) (count : ℕ) (hs : List LfHypothesis) → All P hs → All (λ t. All P t × (length t ≡ count)) (tuples count hs)
good_tuples P zero hs all = All-cons (λ t. All P t × (length t ≡ 0)) [] [] (All-nil P, refl) (All-nil (λ t. All P t × (length t ≡ 0)))
good_tuples P (suc count) hs all =
    let IsGood : ℕ → List LfHypothesis → Type 0 = λ n t. All P t × (length t ≡ n) in
    All-each P (IsGood (suc count)) (λ h. map (λ rest. h ∷ rest) (tuples count hs))
    (λ h p. All-map (IsGood (suc count)) (λ rest. h ∷ rest) (tuples count hs)
    (All-weaker (IsGood count) (λ rest. IsGood (suc count) (h ∷ rest)) (λ rest both. (All-cons P h rest p both.0, ap suc both.1)) (tuples count hs) (good_tuples P count hs all)))
    hs all

none_counts : (u : RuleUse) (f : List LfHypothesis → LfCandidate) (found : List (List LfHypothesis)) →
    All (λ t. application_of u.sig.now u.first (all_goals (goals_of u.goals.now)) (goal_of u.goal.now) (f t) ≡ None) found → what_counts u (map f found) ≡ []
none_counts u f [] all = refl
none_counts u f (t ∷ found) all =
    let IsNone : List LfHypothesis → Type 0 = λ x. application_of u.sig.now u.first (all_goals (goals_of u.goals.now)) (goal_of u.goal.now) (f x) ≡ None in
    ap (λ a. with_some a (what_counts u (map f found))) (All-head IsNone t found all) ∙ none_counts u f found (All-tail IsNone t found all)

-- Where nothing comes of the tuples that begin so, they may be passed over.
pub passed_over : (o : Onward) → IsOnward o → (chosen : List LfHypothesis) (left : ℕ) → NothingComes o chosen → length chosen + left ≡ length o.premises.now → (found : List App) →
    AddsWhatCounts o.usage.now (tuple_offers o left chosen) found found
passed_over o is chosen left nothing count found =
    let hs = map seen_hypothesis o.hyps.now in
    let IsNone : List LfHypothesis → Type 0 =
    λ t. application_of o.usage.now.sig.now o.usage.now.first (all_goals (goals_of o.usage.now.goals.now)) (goal_of o.usage.now.goal.now) (tuple_offer o (chosen ++ t)) ≡ None in
    let none : All IsNone (tuples left hs) =
    All-weaker (λ t. All (IsAtomIn o.usage.now) t × (length t ≡ left)) IsNone
    (λ t good. nothing t good.0 (let many = good.1 in omega (arith, count, many, ap length is.premises_are, length-append chosen t))) (tuples left hs) (good_tuples (IsAtomIn o.usage.now) left hs is.atoms) in
    sym (append-nil (map seen_application found)) ∙ ap (λ l. map seen_application found ++ l) (sym (none_counts o.usage.now (λ t. tuple_offer o (chosen ++ t)) (tuples left hs) none))

-- A hypothesis is repeated.
pub repeated_more : (old new : List Hypothesis) (h copy : Hypothesis) (i : ℕ) → map seen_hypothesis old ≡ replicate i (seen_hypothesis h) → seen_hypothesis copy ≡ seen_hypothesis h → new ≡ old ++ copy ∷ [] →
    map seen_hypothesis new ≡ replicate (i + 1) (seen_hypothesis h)
repeated_more old new h copy i before same pushed =
    ap (map seen_hypothesis) pushed ∙ map-append seen_hypothesis old (copy ∷ []) ∙ ap₂ (λ l x. l ++ x ∷ []) before same ∙ replicate-append-replicate i 1 (seen_hypothesis h)

all_repeated : (P : LfHypothesis → Type 0) (n : ℕ) (h : LfHypothesis) → P h → All P (replicate n h)
all_repeated P zero h p = All-nil P
all_repeated P (suc n) h p = All-cons P h (replicate n h) p (all_repeated P n h p)

-- What begins the search.
module _ (o : Onward) (is : IsOnward o) (h : Hypothesis) (some : 0 < length o.hyps.now) (h_is : h ≡ get_or o.hyps.now 0 h) (tuple : List Hypothesis)
    (tuple_is : map seen_hypothesis tuple ≡ replicate (length o.premises.now) (seen_hypothesis h)) where
  pub tuple_atoms : All (IsAtomIn o.usage.now) (map seen_hypothesis tuple)
  tuple_atoms =
      subst (All (IsAtomIn o.usage.now)) (sym tuple_is)
      (all_repeated (IsAtomIn o.usage.now) (length o.premises.now) (seen_hypothesis h) (read_holds (IsAtomIn o.usage.now) o.hyps.now 0 h is.atoms some h_is))

  pub tuple_length : length (map seen_hypothesis tuple) ≡ length o.premises.now
  tuple_length = ap length tuple_is ∙ length-replicate (length o.premises.now) (seen_hypothesis h)

-- Where nothing is awaited, nothing comes.
pub nothing_awaited : (o : Onward) (chosen : List LfHypothesis) (found : Option Atom) → ((a : Atom) → found ≡ Some a → ⊥) → Awaits o chosen found → NothingComes o chosen
nothing_awaited o chosen None never nothing = nothing
nothing_awaited o chosen (Some a) never nothing = absurd (never a refl)
