-- A new binding: what the bindings then stand for is what the definition's step makes of equations and entries.
use Rattle.std.proofs.Common.{◌≡◌, ℕ, ◌⊎◌, inl, inr, Bool, true, false, List, [], ◌∷◌, ◌++◌, All, Option, Some, None, refl, sym, ap, ◌∙◌, subst}
use Rattle.std.specs.Prelude.{if◌then◌else◌, nat_eq}
use Rattle.std.proofs.lemmas.List.Elements.{All-nil, All-cons, All-head, All-tail, All-push}
use Rattle.lf_definitions.specs.Syntax.{metavariable, LfTerm, Spine, SimpleType, lams, base, arrows, family}
use Rattle.lf_definitions.specs.Shaping.{Scope, under_all, Shaped, ShapedSpine, shaped_arg, ShapedType, shaped_family}
use Rattle.lf_definitions.specs.Occurrence.{OccursIn}
use Rattle.lf_definitions.specs.Substitution.{Replacement, Substituted, SubstitutedSpine, substituted_none, substituted_arg}
use Rattle.lf_definitions.specs.Replacements.{Goes}
use Rattle.lf_definitions.specs.Instantiation.{Assignment, instantiating, Instantiated, InstantiatedSpine, LfAssigned, assignment_of}
use Rattle.lf_definitions.proofs.Options.{Some-Some}
use Rattle.lf_definitions.proofs.Totality.{Shaped-Substituted}
use Rattle.head_laws.specs.AssignmentLaws.{AssignsClosedTerms}
use Rattle.unification.specs.Patterns.{has_number, are_different}
use Rattle.unification.specs.Equations.{LfEquation, of_atoms, of_terms, InstantiatedEquation, instantiated_atoms, instantiated_terms, InstantiatedEquations, no_equation, one_equation, InstantiatedEntry, InstantiatedEntries, no_entry, one_entry}
use Rattle.unification.specs.Transitions.{Frozen}
use Rattle.unification.specs.Solutions.{ShapedEquation, ShapedEquations, IsInstanceOf, ShapedEntry, OccursInEquations, in_first, in_rest}
use Rattle.unification.proofs.Assigning.{one_assigned, equations_left, entries_left}
use Rattle.unification.proofs.Remaining.{OccursIn-under_lams, equations_mention, body_mentions, solved_mentions, remains}
use Rattle.unification.proofs.Solvings.{IsSolved}
use Rattle.unifiers.proofs.Entries.{Meets, instance_from, meets_each, entries_closed, entries_go, Shaped-with_variables}
use Rattle.unifiers.proofs.Solved.{local_follow, entries_follow}
use Rattle.meta_goals.specs.Bindings.{LfBinding, assigned_of, binding_for}
use Rattle.meta_unify.specs.Standing.{assigned_goals, Stands, KnowsContext, MentionsNoneBound}
use Rattle.meta_unify.specs.Walks.{WalkBegins}
use Rattle.meta_unify.proofs.Lookups.{newest_first-push, All-map_push, no_binding, assigned_goals-left, none-assigned_goals, assigned_goals-none, found_result, AllPairs-assigned_goals, differ_more}
use Rattle.meta_unify.proofs.Triangular.{absent_push, triangular_push}
use Rattle.meta_unify.proofs.Instances.{unchanged, instance_is_resolved, instance_of_itself, goes, closed, goes_under, newest_shaped, results_are_shaped}

module _ (Γ : Scope) (kinds : ℕ → Option SimpleType) (frozen : Frozen) (bindings : List LfBinding) (entries : List LfAssigned) (stands : Stands Γ bindings entries)
    (b : LfBinding) (t u : LfTerm) (is_solved : IsSolved frozen t u (assigned_of b)) (entry : ShapedEntry Γ (assigned_of b))
    (left_none : (g : ℕ) → OccursIn (metavariable g) t → assignment_of entries g ≡ None) (right_none : (g : ℕ) → OccursIn (metavariable g) u → assignment_of entries g ≡ None)
    (shapes : (c : SimpleType) → Γ (metavariable b.number) ≡ Some c → c ≡ arrows b.shapes base) where
  abbrev pub e : LfAssigned
  e = assigned_of b

  abbrev pub old : Assignment
  old = assignment_of entries

  abbrev pub one : Assignment
  one = one_assigned e

  pub made : (others : List LfAssigned) × InstantiatedEntries one entries others × All (ShapedEntry Γ) others
  made = entries_left Γ e entry entries stands.entries_shaped

  abbrev pub others : List LfAssigned
  others = made.0

  abbrev pub new : Assignment
  new = assignment_of (e ∷ others)

  is_free : old b.number ≡ None
  is_free = left_none b.number (solved_mentions is_solved)

  -- what has no entry has no binding
  unbound_before : (g : ℕ) → old g ≡ None → binding_for bindings g ≡ None
  unbound_before g none = (no_binding bindings [] g (ap (λ ks. has_number ks g) (sym (assigned_goals-left stands.instantiated)) ∙ none-assigned_goals entries g none)).0

  -- what has no entry and is not the new one has none after
  still_none : (g : ℕ) → old g ≡ None → nat_eq b.number g ≡ false → new g ≡ None
  still_none g none differ =
      ap (λ t. if t then Some (lams e.binders_count e.body) else assignment_of others g) differ
      ∙ assigned_goals-none others g (ap (λ ks. has_number ks g) (assigned_goals-left made.1) ∙ none-assigned_goals entries g none)

  -- what the body mentions
  body_none : (g : ℕ) → OccursIn (metavariable g) (lams e.binders_count e.body) → new g ≡ None
  body_none g o = let both = body_mentions is_solved g (OccursIn-under_lams e.binders_count e.body g o) in still_none g (right_none g both.0) both.1

  body_full : MentionsNoneBound (bindings ++ b ∷ []) b.bound_body
  body_full g o = let both = body_mentions is_solved g o in absent_push bindings b g (unbound_before g (right_none g both.0)) both.1

  -- what mentions nothing that was assigned mentions, under the new entry, nothing that is assigned
  result_none : (r x : LfTerm) → ((g : ℕ) → OccursIn (metavariable g) r → old g ≡ None) → Instantiated one r x → (g : ℕ) → OccursIn (metavariable g) x → new g ≡ None
  result_none r x none p g o =
      let both = remains is_solved g (equations_mention (one_equation (instantiated_terms {path = []} p p) no_equation) g (in_first (inl o))) in
      still_none g (before both.0) both.1
    where
      of_pair : OccursInEquations (metavariable g) (of_terms [] r r ∷ []) → old g ≡ None
      of_pair (in_first (inl q)) = none g q
      of_pair (in_first (inr q)) = none g q
      of_pair (in_rest q) = elim q [ ]

      before : OccursInEquations (metavariable g) (of_terms [] r r ∷ []) ⊎ OccursIn (metavariable g) u → old g ≡ None
      before (inl q) = of_pair q
      before (inr q) = right_none g q

  is_resolved : (g h : ℕ) (w : LfTerm) → new g ≡ Some w → OccursIn (metavariable h) w → new h ≡ None
  is_resolved g h w f o = each (nat_eq b.number g) refl
    where
      each : (t : Bool) → nat_eq b.number g ≡ t → new h ≡ None
      each true q =
          let here : lams e.binders_count e.body ≡ w = Some-Some (sym (ap (λ t. if t then Some (lams e.binders_count e.body) else assignment_of others g) q) ∙ f) in
          body_none h (subst (OccursIn (metavariable h)) (sym here) o)
      each false q =
          let there = found_result made.1 g w (sym (ap (λ t. if t then Some (lams e.binders_count e.body) else assignment_of others g) q) ∙ f) in
          result_none there.0 w (λ k p. stands.resolved g k there.0 there.1 p) there.2 h o

  differ : are_different (assigned_goals (e ∷ others)) ≡ true
  differ =
      differ_more e others (ap (λ ks. has_number ks b.number) (assigned_goals-left made.1) ∙ none-assigned_goals entries b.number is_free) (ap are_different (assigned_goals-left made.1) ∙ stands.differ)

  all_shaped : All (ShapedEntry Γ) (e ∷ others)
  all_shaped = All-cons (ShapedEntry Γ) e others entry made.2

  one_shaped : All (ShapedEntry Γ) (e ∷ [])
  one_shaped = All-cons (ShapedEntry Γ) e [] entry (All-nil (ShapedEntry Γ))

  abbrev new_goes : (q : ℕ) × Goes q Γ Γ (instantiating new)
  new_goes = entries_go Γ (e ∷ others) all_shaped

  new_closed : AssignsClosedTerms new
  new_closed = entries_closed Γ (e ∷ others) all_shaped

  abbrev one_goes : (q : ℕ) × Goes q Γ Γ (instantiating one)
  one_goes = entries_go Γ (e ∷ []) one_shaped

  one_closed : AssignsClosedTerms one
  one_closed = entries_closed Γ (e ∷ []) one_shaped

  meets_all : All (Meets Γ new) (e ∷ others)
  meets_all = meets_each Γ new (e ∷ others) (AllPairs-assigned_goals (e ∷ others) differ) (instance_of_itself Γ new is_resolved)

  of_one : IsInstanceOf Γ one new
  of_one = instance_from Γ new (e ∷ []) (All-cons (Meets Γ new) e [] (All-head (Meets Γ new) e others meets_all) (All-nil (Meets Γ new)))

  of_old : IsInstanceOf Γ old new
  of_old =
      instance_from Γ new entries
      ((entries_follow kinds one_goes.0 new_goes.0 Γ Γ one new one_goes.1 one_closed new_goes.1 new_closed of_one made.1 stands.entries_shaped).1 (All-tail (Meets Γ new) e others meets_all))

  abbrev old_goes : (q : ℕ) × Goes q Γ Γ (instantiating old)
  old_goes = goes Γ bindings entries stands

  old_closed : AssignsClosedTerms old
  old_closed = closed Γ bindings entries stands

  -- The new assignment does what the old one and then the new entry do.
  composed : (local : List SimpleType) (s : SimpleType) (x r y : LfTerm) → Shaped (under_all local Γ) x s → Instantiated old x r → Instantiated one r y → Instantiated new x y
  composed local s x r y shaped p q =
      let r_shaped = Shaped-Substituted old_goes.0 (under_all local Γ) (under_all local Γ) (instantiating old) (goes_under Γ bindings entries stands local) shaped p in
      let itself = unchanged new y (result_none r y (instance_is_resolved old stands.resolved x r p) q) in
      let first = (local_follow kinds one_goes.0 new_goes.0 Γ Γ one new one_goes.1 one_closed new_goes.1 new_closed of_one local r y y s r_shaped q).0 itself in
      (local_follow kinds old_goes.0 new_goes.0 Γ Γ old new old_goes.1 old_closed new_goes.1 new_closed of_old local x r y s shaped p).0 first

  spine_composed : {ρ τ : Replacement} {s : SimpleType} {ts rs ys : Spine} → ρ ≡ instantiating old → τ ≡ instantiating one → SubstitutedSpine ρ ts rs → SubstitutedSpine τ rs ys → ShapedSpine Γ ts s →
      InstantiatedSpine new ts ys
  spine_composed e f substituted_none substituted_none shaped = substituted_none
  spine_composed e f (substituted_arg {t = t} {v = v} p ps) (substituted_arg {v = w} q qs) (shaped_arg {a = a} x xs) =
      substituted_arg (composed [] a t v w x (subst (λ z. Substituted z t v) e p) (subst (λ z. Substituted z v w) f q)) (spine_composed e f ps qs xs)

  atoms_composed : {path : List ℕ} {f g : ℕ} {ts us rs ss xs ys : Spine} → InstantiatedSpine old ts rs → InstantiatedSpine old us ss → InstantiatedSpine one rs xs → InstantiatedSpine one ss ys →
      ShapedType kinds Γ (family f ts) → ShapedType kinds Γ (family g us) →
      InstantiatedEquation new (of_atoms path (record { atom_family = f; atom_args = ts }) (record { atom_family = g; atom_args = us }))
      (of_atoms path (record { atom_family = f; atom_args = xs }) (record { atom_family = g; atom_args = ys }))
  atoms_composed p q v w (shaped_family s known ps) (shaped_family c knows qs) = instantiated_atoms (spine_composed refl refl p v ps) (spine_composed refl refl q w qs)

  equation_composed : {x r y : LfEquation} → InstantiatedEquation old x r → InstantiatedEquation one r y → ShapedEquation kinds Γ x → InstantiatedEquation new x y
  equation_composed (instantiated_atoms p q) (instantiated_atoms v w) shaped = atoms_composed p q v w shaped.0 shaped.1
  equation_composed (instantiated_terms {t = t} {u = r} {v = v} {w = w} p q) (instantiated_terms {v = x} {w = y} i j) shaped =
      instantiated_terms (composed shaped.0 shaped.1 t v x shaped.2 p i) (composed shaped.0 shaped.1 r w y shaped.3 q j)

  equations_composed : {xs rs ys : List LfEquation} → ShapedEquations kinds Γ xs → InstantiatedEquations old xs rs → InstantiatedEquations one rs ys → InstantiatedEquations new xs ys
  equations_composed shaped no_equation no_equation = no_equation
  equations_composed shaped (one_equation {e = x} {rest = xs} p ps) (one_equation q qs) =
      one_equation (equation_composed p q (All-head (ShapedEquation kinds Γ) x xs shaped)) (equations_composed (All-tail (ShapedEquation kinds Γ) x xs shaped) ps qs)

  entry_composed : {f g h : LfAssigned} → ShapedEntry Γ f → InstantiatedEntry old f g → InstantiatedEntry one g h → InstantiatedEntry new f h
  entry_composed {f} {g} {h} shaped p q = record {
    same_goal = q.same_goal ∙ p.same_goal;
    same_count = q.same_count ∙ p.same_count;
    of_body =
        composed [] shaped.0 (lams f.binders_count f.body) (lams f.binders_count g.body) (lams f.binders_count h.body) (Shaped-with_variables shaped.2) p.of_body
        (subst (λ n. Instantiated one (lams n g.body) (lams n h.body)) p.same_count q.of_body);
  }

  entries_composed : {fs gs hs : List LfAssigned} → All (ShapedEntry Γ) fs → InstantiatedEntries old fs gs → InstantiatedEntries one gs hs → InstantiatedEntries new fs hs
  entries_composed shaped no_entry no_entry = no_entry
  entries_composed shaped (one_entry {e = f} {rest = fs} p ps) (one_entry q qs) =
      one_entry (entry_composed (All-head (ShapedEntry Γ) f fs shaped) p q) (entries_composed (All-tail (ShapedEntry Γ) f fs shaped) ps qs)

  -- The bindings then stand for the entries of the definition.
  pub stand_more : Stands Γ (bindings ++ b ∷ []) (e ∷ others)
  stand_more = record {
    instantiated =
        subst (λ fs. InstantiatedEntries new fs (e ∷ others)) (sym (newest_first-push bindings b []))
        (one_entry (record { same_goal = refl; same_count = refl; of_body = unchanged new (lams e.binders_count e.body) body_none })
        (entries_composed (newest_shaped Γ bindings entries stands) stands.instantiated made.1));
    bindings_shaped = All-map_push (ShapedEntry Γ) bindings b stands.bindings_shaped entry;
    entries_shaped = all_shaped;
    differ = differ;
    resolved = is_resolved;
    contexts = All-push (KnowsContext Γ) bindings b stands.contexts shapes;
    triangular = triangular_push bindings b stands.triangular body_full;
  }

  -- And the equations that are left are as the definition leaves them.
  pub goes_on : (rest results : List LfEquation) → ShapedEquations kinds Γ rest → InstantiatedEquations old rest results →
      (left : List LfEquation) × WalkBegins kinds Γ (bindings ++ b ∷ []) rest (e ∷ others) left × InstantiatedEquations one results left
  goes_on rest results shaped p =
      let left = equations_left kinds Γ e entry results (results_are_shaped Γ bindings entries stands kinds rest results shaped p) in
      (left.0, record { stands = stand_more; shaped = shaped; instance = equations_composed shaped p left.1 }, left.1)
