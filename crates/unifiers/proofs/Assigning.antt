-- A metavariable applied to a pattern has one instance with a term exactly where what is put for it is the instance of that term, renamed.
use Rattle.std.proofs.Common.{◌≡◌, ℕ, zero, suc, ◌↔◌, List, [], ◌∷◌, length, true, Option, Some, None, refl, sym, ap, ◌∙◌, subst}
use Rattle.lf_definitions.specs.Syntax.{LfHead, bound, constant, metavariable, LfTerm, lam, at, Spine, SimpleType, base, lams}
use Rattle.lf_definitions.specs.Renaming.{next, extended, Renaming, rename, next_by}
use Rattle.lf_definitions.specs.Shaping.{Scope, Shaped}
use Rattle.lf_definitions.specs.Occurrence.{OccursIn, occurs_lam}
use Rattle.lf_definitions.specs.Substitution.{stays, becomes, rename_image, Substituted}
use Rattle.lf_definitions.specs.Replacements.{Goes}
use Rattle.lf_definitions.specs.GoalLists.{above}
use Rattle.lf_definitions.specs.Instantiation.{Assignment, assigned, instantiating, Instantiated}
use Rattle.lf_definitions.proofs.Uniqueness.{unique}
use Rattle.lf_definitions.proofs.Renaming.{extended-next, each_head, same_head, rename-same_head, rename_inj, Follows, Substituted-rename}
use Rattle.lf_definitions.proofs.Totality.{total}
use Rattle.lf_definitions.proofs.Expansion.{Substituted-lams}
use Rattle.lf_definitions.proofs.Telescopes.{next_by-constant, next_by-metavariable}
use Rattle.head_laws.specs.Mentions.{ComesFrom, comes_from_head, comes_from_term}
use Rattle.head_laws.specs.AssignmentLaws.{AssignsClosedTerms}
use Rattle.head_laws.proofs.Assignments.{up_by-closed}
use Rattle.head_laws.proofs.Occurrence.{rename-agree}
use Rattle.head_laws.proofs.Replacing.{mentioned}
use Rattle.unification.specs.Patterns.{has_number, are_different, is_over, placed}
use Rattle.unification.specs.Equations.{of_terms}
use Rattle.unification.specs.Solutions.{Solves, value_of}
use Rattle.unification.proofs.Tests.{over_term, is_over-from}
use Rattle.unification.proofs.PatternSpines.{AreVariables, length-AreVariables}
use Rattle.unification.proofs.Spreading.{spreading, renamed_back, spreading-apart}
use Rattle.unifiers.proofs.Values.{value_closed, HasInstance, has_instance}

came_head : {h k : LfHead} → ComesFrom h (stays k) → h ≡ k
came_head (comes_from_head h) = refl

came_within : {h : LfHead} {u : LfTerm} → ComesFrom h (becomes u) → OccursIn h u
came_within (comes_from_term h u o) = o

module _ (θ : Assignment) (closed : AssignsClosedTerms θ) where
  -- Instances of what is over some variables are over these.
  from_variable : (ns : List ℕ) (t : LfTerm) → is_over ns t ≡ true → (n : ℕ) (k : LfHead) → OccursIn k t → ComesFrom (bound n) (instantiating θ k) → has_number ns n ≡ true
  from_variable ns t over n (bound m) o from = ap (has_number ns) (bound_inj (came_head from)) ∙ over_term t ns over (bound m) o
    where
      bound_inj : {i j : ℕ} → bound i ≡ bound j → i ≡ j
      bound_inj e = cc
  from_variable ns t over n (constant c) o from = let same : bound n ≡ constant c = came_head from in absurd cc
  from_variable ns t over n (metavariable g) o from = each (θ g) refl from
    where
      each : (v : Option LfTerm) → θ g ≡ v → ComesFrom (bound n) (assigned g v) → has_number ns n ≡ true
      each None e f = let same : bound n ≡ metavariable g = came_head f in absurd cc
      each (Some u) e f = absurd (closed g n u e (came_within f))

  over_instance : (ns : List ℕ) (t r : LfTerm) → Instantiated θ t r → is_over ns t ≡ true → is_over ns r ≡ true
  over_instance ns t r result over = is_over-from r ns (λ n o. let m = mentioned result (bound n) o in from_variable ns t over n m.0 m.1 m.2)

  -- Variables may be placed before or afterwards.
  follows_placed : (ns : List ℕ) → Follows (placed ns) (placed ns) (instantiating θ) (instantiating θ)
  follows_placed ns (bound n) = refl
  follows_placed ns (constant c) = refl
  follows_placed ns (metavariable g) = each (θ g) refl
    where
      fixed : (u : LfTerm) → θ g ≡ Some u → (h : LfHead) → OccursIn h u → placed ns h ≡ same_head h
      fixed u e (bound n) o = absurd (closed g n u e o)
      fixed u e (constant c) o = refl
      fixed u e (metavariable m) o = refl

      each : (v : Option LfTerm) → θ g ≡ v → assigned g v ≡ rename_image (placed ns) (assigned g v)
      each None e = refl
      each (Some u) e = ap becomes (sym (rename-agree u (placed ns) same_head (fixed u e) ∙ rename-same_head u))

  placed_instance : (ns : List ℕ) (t r : LfTerm) → Instantiated θ t r → Instantiated θ (lams (length ns) (rename (placed ns) t)) (lams (length ns) (rename (placed ns) r))
  placed_instance ns t r result =
      Substituted-lams (length ns) (instantiating θ) (rename (placed ns) t) (rename (placed ns) r)
      (subst (λ σ. Substituted σ (rename (placed ns) t) (rename (placed ns) r)) (sym (up_by-closed (length ns) θ closed))
      (Substituted-rename result (placed ns) (placed ns) (instantiating θ) (follows_placed ns)))

occurs_lams : (k : ℕ) (h : LfHead) (b : LfTerm) → OccursIn (next_by k h) b → OccursIn h (lams k b)
occurs_lams zero h b o = o
occurs_lams (suc k) h b o = occurs_lam h (lams k b) (occurs_lams k (next h) b o)

pub lams_inj : (k : ℕ) (b c : LfTerm) → lams k b ≡ lams k c → b ≡ c
lams_inj zero b c e = e
lams_inj (suc k) b c e = lams_inj k b c (lam_inj e)
  where
    lam_inj : {x y : LfTerm} → lam x ≡ lam y → x ≡ y
    lam_inj f = cc

-- What is outside does not matter to what speaks of nothing outside.
spreading-agree : (ns : List ℕ) (ξ ζ : Renaming) (P : LfHead → Type 0) → ((h : LfHead) → P (next_by (length ns) h) → ξ h ≡ ζ h) → (h : LfHead) → P h → spreading ns ξ h ≡ spreading ns ζ h
spreading-agree [] ξ ζ P agree h o = agree h o
spreading-agree (n ∷ ns) ξ ζ P agree h o = spreading-agree ns (extended (bound n) ξ) (extended (bound n) ζ) P each h o
  where
    each : (k : LfHead) → P (next_by (length ns) k) → extended (bound n) ξ k ≡ extended (bound n) ζ k
    each = each_head (λ k. P (next_by (length ns) k) → extended (bound n) ξ k ≡ extended (bound n) ζ k)
        (λ q. refl)
        (λ k q. extended-next (bound n) ξ k ∙ agree k q ∙ sym (extended-next (bound n) ζ k))

spreading_closed : (ns : List ℕ) (k : ℕ) (c : LfTerm) → ((n : ℕ) → OccursIn (bound n) (lams (length ns) c) → ⊥) → rename (spreading ns (next_by 0)) c ≡ rename (spreading ns (next_by k)) c
spreading_closed ns k c closed =
    rename-agree c (spreading ns (next_by 0)) (spreading ns (next_by k)) (spreading-agree ns (next_by 0) (next_by k) (λ h. OccursIn h c) (λ h o. each h (occurs_lams (length ns) h c o)))
  where
    each : (h : LfHead) → OccursIn h (lams (length ns) c) → next_by 0 h ≡ next_by k h
    each (bound n) o = absurd (closed n o)
    each (constant d) o = sym (next_by-constant k d)
    each (metavariable g) o = sym (next_by-metavariable k g)

module _ (p : ℕ) (Γ Δ : Scope) (θ : Assignment) (goes : Goes p Γ Δ (instantiating θ)) (closed : AssignsClosedTerms θ) (g : ℕ) (s : SimpleType) (known : Γ (metavariable g) ≡ Some s)
    (ns : List ℕ) (ts : Spine) (variables : AreVariables Γ ns ts s) (differ : are_different ns ≡ true) (t : LfTerm) (shaped : Shaped Γ t base) (over : is_over ns t ≡ true) where
  abbrev value : LfTerm
  value = value_of θ g s

  there : HasInstance θ g ns ts s
  there = has_instance p Γ Δ θ goes g s known variables

  value_is : value ≡ lams (length ns) there.body
  value_is = there.value_is ∙ ap (λ k. lams k there.body) (sym (length-AreVariables variables))

  body_closed : (n : ℕ) → OccursIn (bound n) (lams (length ns) there.body) → ⊥
  body_closed n o = value_closed θ closed g s n (subst (OccursIn (bound n)) (sym value_is) o)

  -- for the instance of the term: the two are the same, renamed, exactly where the bodies are
  module _ (r : LfTerm) (result : Instantiated θ t r) where
    abbrev placed_result : LfTerm
    placed_result = rename (placed ns) r

    abbrev greater : Renaming
    greater = spreading ns (next_by (above ns))

    over_result : is_over ns r ≡ true
    over_result = over_instance θ closed ns t r result over

    same_body : rename (spreading ns (next_by 0)) there.body ≡ r → there.body ≡ placed_result
    same_body e =
        rename_inj there.body placed_result greater (spreading-apart ns differ)
        (sym (spreading_closed ns (above ns) there.body body_closed) ∙ e ∙ sym (renamed_back ns (above ns) r over_result))

    solved_at : Instantiated θ (at (metavariable g) ts) r → Instantiated θ (lams (length ns) (rename (placed ns) t)) value
    solved_at q =
        subst (Instantiated θ (lams (length ns) (rename (placed ns) t)))
        (ap (lams (length ns)) (sym (same_body (unique there.result q))) ∙ sym value_is)
        (placed_instance θ closed ns t r result)

    solves_at : Instantiated θ (lams (length ns) (rename (placed ns) t)) value → Instantiated θ (at (metavariable g) ts) r
    solves_at q =
        let same : there.body ≡ placed_result = lams_inj (length ns) there.body placed_result (sym value_is ∙ unique q (placed_instance θ closed ns t r result)) in
        subst (Instantiated θ (at (metavariable g) ts)) (ap (rename (spreading ns (next_by 0))) same ∙ renamed_back ns 0 r over_result) there.result

  pub pattern_solved : (path : List ℕ) → Solves θ (of_terms path (at (metavariable g) ts) t) ↔ Instantiated θ (lams (length ns) (rename (placed ns) t)) (value_of θ g s)
  pattern_solved path = (
    λ solves. solved_at solves.0 solves.2 solves.1,
    λ q. let r = total p shaped Δ (instantiating θ) goes in
        (r.0, solves_at r.0 r.1 q, r.1),
  )
