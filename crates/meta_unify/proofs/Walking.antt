-- Steps of the walk, with the equations of the code as premises.
use Rattle.std.proofs.Common.{◌≡◌, ℕ, zero, suc, ◌+◌, ◌<◌, ◌≤◌, false, List, [], ◌∷◌, ◌++◌, length, reverse, get_or, take, take_all, Option, Some, None, refl, sym, ap, ap₂, ◌∙◌, subst, subst₂, arith, append_assoc, append-nil, add-one}
use Rattle.std.proofs.lemmas.Bool.{not-false, both_ways}
use Rattle.std.proofs.lemmas.List.{reverse-append}
use Rattle.lf_definitions.specs.Syntax.{LfHead, LfTerm, lam, at, Spine, SimpleType, arity, args_count}
use Rattle.lf_definitions.specs.Shaping.{Scope, under, under_all, Shaped, shaped_lam, ShapedSpine, shaped_none, shaped_arg}
use Rattle.lf_definitions.specs.Occurrence.{IsRigid}
use Rattle.lf_definitions.specs.Instantiation.{instantiating, LfAssigned, assignment_of}
use Rattle.lf_definitions.proofs.Telescopes.{under_all-append}
use Rattle.lf_definitions.proofs.Totality.{Shaped-Substituted}
use Rattle.head_laws.specs.Mentions.{same_head, is_rigid}
use Rattle.head_laws.proofs.Heads.{same_head-from}
use Rattle.lf_terms.specs.declared.term.Term.{Term}
use Rattle.lf_terms.specs.Terms.{term_of, spine_of}
use Rattle.lf_terms.proofs.Spines.{args_count-spine_of}
use Rattle.unification.specs.Equations.{LfEquation, of_terms, argument_equations}
use Rattle.unification.specs.Transitions.{Frozen}
use Rattle.unification.specs.Solutions.{ShapedEquations}
use Rattle.unification.proofs.Tests.{IsRigid-is_rigid}
use Rattle.unification.proofs.ShapedSteps.{argument_equations_are_shaped, spines_at_one_shape}
use Rattle.meta_goals.specs.Bindings.{LfBinding}
use Rattle.meta_unify.specs.declared.stop.Stop.{Stop}
use Rattle.meta_unify.specs.declared.stop.Cause.{Cause}
use Rattle.meta_unify.specs.declared.stop.Cause.TheVariants.{Apart}
use Rattle.meta_unify.specs.Equations.{is_flexible}
use Rattle.meta_unify.specs.Endings.{reason_at}
use Rattle.meta_unify.specs.Standing.{Stands, IsWorkable, AreWorkable, MentionsNoneBound, Fills}
use Rattle.meta_unify.specs.Walks.{WalkPasses, WalkStops, Walked}
use Rattle.meta_unify.proofs.Instances.{goes, goes_under, begin}
use Rattle.meta_unify.proofs.Passing.{Reduces, passes_then, stays_later, stays_before, reduces_passes, reduces_stays, lams_reduce, heads_reduce, full_reduce, heads_clash, lam_clash, at_clash}

-- Paths of stops.
path_here : (path steps : List ℕ) → steps ≡ [] → path ++ reverse steps ≡ path
path_here path steps e = ap (λ s. path ++ reverse s) e ∙ append-nil path

path_in : (path steps longer : List ℕ) (child : ℕ) → longer ≡ steps ++ child ∷ [] → path ++ reverse longer ≡ (path ++ child ∷ []) ++ reverse steps
path_in path steps longer child e = ap (λ s. path ++ reverse s) e ∙ ap (λ s. path ++ s) (reverse-append steps (child ∷ [])) ∙ sym (append_assoc path (child ∷ []) (reverse steps))

pub reason_in : (stop other : Stop) (path : List ℕ) (child : ℕ) → other.cause ≡ stop.cause → other.steps ≡ stop.steps ++ child ∷ [] →
    reason_at stop.cause ((path ++ child ∷ []) ++ reverse stop.steps) ≡ reason_at other.cause (path ++ reverse other.steps)
reason_in stop other path child e f = ap₂ reason_at (sym e) (sym (path_in path stop.steps other.steps child f))

reason_here : (stop : Stop) (cause : Cause) (path : List ℕ) → stop.cause ≡ cause → stop.steps ≡ [] → reason_at cause path ≡ reason_at stop.cause (path ++ reverse stop.steps)
reason_here stop cause path e f = ap₂ reason_at (sym e) (sym (path_here path stop.steps f))

-- What is rigid is known by the test.
rigid_head : (t : LfTerm) (h : LfHead) (ts : Spine) → t ≡ at h ts → is_flexible t ≡ false → IsRigid h
rigid_head t h ts e f = IsRigid-is_rigid h (not-false (is_rigid h) (sym (ap is_flexible e) ∙ f))

pub differ_heads : (h k : LfHead) → same_head h k ≡ false → h ≡ k → ⊥
differ_heads h k e same = both_ways (same_head h k) e (same_head-from h k same)

module _ (frozen : Frozen) (old new : List LfBinding) where
  pub walked_reduces : (xs ys : List ℕ → List LfEquation) → ((path : List ℕ) → Reduces frozen old (xs path) (ys path)) → (r : Option Stop) → Walked frozen old new ys r → Walked frozen old new xs r
  walked_reduces xs ys reduces None walked = λ path. reduces_passes frozen old new (xs path) (ys path) (reduces path) (walked path)
  walked_reduces xs ys reduces (Some stop) walked = λ path. reduces_stays frozen old (xs path) (ys path) (reason_at stop.cause (path ++ reverse stop.steps)) (reduces path) (walked path)

  -- a stop at these very equations
  pub stops_here : (xs : List ℕ → List LfEquation) (stop : Stop) (cause : Cause) → stop.cause ≡ cause → stop.steps ≡ [] → ((path : List ℕ) → WalkStops frozen old (xs path) (reason_at cause path)) →
      Walked frozen old new xs (Some stop)
  stops_here xs stop cause e f stays = λ path. subst (WalkStops frozen old (xs path)) (reason_here stop cause path e f) (stays path)

  -- instances of two terms
  pub full_walked : (l r t u : LfTerm) → Fills old l t → Fills old r u → MentionsNoneBound old t → MentionsNoneBound old u → (result : Option Stop) → Walked frozen old new (λ path. of_terms path t u ∷ []) result →
      Walked frozen old new (λ path. of_terms path l r ∷ []) result
  full_walked l r t u fills fills_right full full_right result walked =
      walked_reduces (λ path. of_terms path l r ∷ []) (λ path. of_terms path t u ∷ []) (λ path. full_reduce frozen old path l r t u fills fills_right full full_right) result walked

  -- abstractions
  pub lams_pass : (t u b c : LfTerm) (r : Option Stop) → t ≡ lam b → u ≡ lam c → r ≡ None → Walked frozen old new (λ path. of_terms path b c ∷ []) r → Walked frozen old new (λ path. of_terms path t u ∷ []) None
  lams_pass t u b c r e f none walked =
      subst₂ (λ x y. Walked frozen old new (λ path. of_terms path x y ∷ []) None) (sym e) (sym f)
      (λ path. reduces_passes frozen old new (of_terms path (lam b) (lam c) ∷ []) (of_terms (path ++ 0 ∷ []) b c ∷ []) (lams_reduce frozen old path b c)
      (subst (Walked frozen old new (λ p. of_terms p b c ∷ [])) none walked (path ++ 0 ∷ [])))

  pub lams_stay : (t u b c : LfTerm) (r : Option Stop) (stop other : Stop) → t ≡ lam b → u ≡ lam c → r ≡ Some stop → other.cause ≡ stop.cause → other.steps ≡ stop.steps ++ 0 ∷ [] →
      Walked frozen old new (λ path. of_terms path b c ∷ []) r → Walked frozen old new (λ path. of_terms path t u ∷ []) (Some other)
  lams_stay t u b c r stop other e f some cause steps walked =
      subst₂ (λ x y. Walked frozen old new (λ path. of_terms path x y ∷ []) (Some other)) (sym e) (sym f)
      (λ path. reduces_stays frozen old (of_terms path (lam b) (lam c) ∷ []) (of_terms (path ++ 0 ∷ []) b c ∷ []) (reason_at other.cause (path ++ reverse other.steps)) (lams_reduce frozen old path b c)
      (subst (WalkStops frozen old (of_terms (path ++ 0 ∷ []) b c ∷ [])) (reason_in stop other path 0 cause steps) (subst (Walked frozen old new (λ p. of_terms p b c ∷ [])) some walked (path ++ 0 ∷ []))))

  -- heads
  pub args_walked : (t u : LfTerm) (h k : LfHead) (ts us : Spine) → t ≡ at h ts → u ≡ at k us → is_flexible t ≡ false → h ≡ k → (r : Option Stop) → Walked frozen old new (λ path. argument_equations path 0 ts us) r →
      Walked frozen old new (λ path. of_terms path t u ∷ []) r
  args_walked t u h k ts us e f rigid same r walked =
      subst₂ (λ x y. Walked frozen old new (λ path. of_terms path x y ∷ []) r) (sym e) (ap (λ j. at j us) same ∙ sym f)
      (walked_reduces (λ path. of_terms path (at h ts) (at h us) ∷ []) (λ path. argument_equations path 0 ts us) (λ path. heads_reduce frozen old path h ts us (rigid_head t h ts e rigid)) r walked)

  pub heads_stop : (t u : LfTerm) (h k : LfHead) (ts us : Spine) (stop : Stop) → t ≡ at h ts → u ≡ at k us → is_flexible t ≡ false → is_flexible u ≡ false → (h ≡ k → ⊥) → stop.cause ≡ Apart → stop.steps ≡ [] →
      Walked frozen old new (λ path. of_terms path t u ∷ []) (Some stop)
  heads_stop t u h k ts us stop e f rigid rigid_k differ cause steps =
      subst₂ (λ x y. Walked frozen old new (λ path. of_terms path x y ∷ []) (Some stop)) (sym e) (sym f)
      (stops_here (λ path. of_terms path (at h ts) (at k us) ∷ []) stop Apart cause steps (λ path. heads_clash frozen old path h k ts us (rigid_head t h ts e rigid) (rigid_head u k us f rigid_k) differ))

  pub lam_stop : (t u b : LfTerm) (k : LfHead) (us : Spine) (stop : Stop) → t ≡ lam b → u ≡ at k us → is_flexible u ≡ false → stop.cause ≡ Apart → stop.steps ≡ [] →
      Walked frozen old new (λ path. of_terms path t u ∷ []) (Some stop)
  lam_stop t u b k us stop e f rigid_k cause steps =
      subst₂ (λ x y. Walked frozen old new (λ path. of_terms path x y ∷ []) (Some stop)) (sym e) (sym f)
      (stops_here (λ path. of_terms path (lam b) (at k us) ∷ []) stop Apart cause steps (λ path. lam_clash frozen old path b k us (rigid_head u k us f rigid_k)))

  pub at_stop : (t u c : LfTerm) (h : LfHead) (ts : Spine) (stop : Stop) → t ≡ at h ts → u ≡ lam c → is_flexible t ≡ false → stop.cause ≡ Apart → stop.steps ≡ [] →
      Walked frozen old new (λ path. of_terms path t u ∷ []) (Some stop)
  at_stop t u c h ts stop e f rigid cause steps =
      subst₂ (λ x y. Walked frozen old new (λ path. of_terms path x y ∷ []) (Some stop)) (sym e) (sym f)
      (stops_here (λ path. of_terms path (at h ts) (lam c) ∷ []) stop Apart cause steps (λ path. at_clash frozen old path h ts c (rigid_head t h ts e rigid)))

-- What is workable.
pub workable_left : {bindings : List LfBinding} {t u : LfTerm} → IsWorkable bindings t u → IsWorkable bindings t t
workable_left w = record { outer = w.outer; entries = w.entries; stands = w.stands; local = w.local; shape = w.shape; left_shaped = w.left_shaped; right_shaped = w.left_shaped }

pub workable_right : {bindings : List LfBinding} {t u : LfTerm} → IsWorkable bindings t u → IsWorkable bindings u u
workable_right w = record { outer = w.outer; entries = w.entries; stands = w.stands; local = w.local; shape = w.shape; left_shaped = w.right_shaped; right_shaped = w.right_shaped }

pub workable_full : (bindings : List LfBinding) (l r t u : LfTerm) → IsWorkable bindings l r → Fills bindings l t → Fills bindings r u → IsWorkable bindings t u
workable_full bindings l r t u w fills fills_right =
    let Δ = under_all w.local w.outer in
    let q = goes w.outer bindings w.entries w.stands in
    let there = goes_under w.outer bindings w.entries w.stands w.local in
    record {
      outer = w.outer;
      entries = w.entries;
      stands = w.stands;
      local = w.local;
      shape = w.shape;
      left_shaped = Shaped-Substituted q.0 Δ Δ (instantiating (assignment_of w.entries)) there w.left_shaped (fills w.outer w.entries w.local w.shape w.stands w.left_shaped);
      right_shaped = Shaped-Substituted q.0 Δ Δ (instantiating (assignment_of w.entries)) there w.right_shaped (fills_right w.outer w.entries w.local w.shape w.stands w.right_shaped);
    }

lam_shapes : (local : List SimpleType) (Γ : Scope) {b c : LfTerm} {s : SimpleType} → Shaped (under_all local Γ) (lam b) s → Shaped (under_all local Γ) (lam c) s →
    (more : List SimpleType) × (d : SimpleType) × Shaped (under_all more Γ) b d × Shaped (under_all more Γ) c d
lam_shapes local Γ {b} {c} (shaped_lam {a = a} {s = s} p) (shaped_lam q) =
    let same : under a (under_all local Γ) ≡ under_all (local ++ a ∷ []) Γ = sym (under_all-append local (a ∷ []) Γ) in
    (local ++ a ∷ [], s, subst (λ Δ. Shaped Δ b s) same p, subst (λ Δ. Shaped Δ c s) same q)

pub workable_lams : (bindings : List LfBinding) (t u b c : LfTerm) → t ≡ lam b → u ≡ lam c → IsWorkable bindings t u → IsWorkable bindings b c
workable_lams bindings t u b c e f w =
    let Δ = under_all w.local w.outer in
    let both = lam_shapes w.local w.outer (subst (λ x. Shaped Δ x w.shape) e w.left_shaped) (subst (λ x. Shaped Δ x w.shape) f w.right_shaped) in
    record { outer = w.outer; entries = w.entries; stands = w.stands; local = both.0; shape = both.1; left_shaped = both.2; right_shaped = both.3 }

pub workable_args : (bindings : List LfBinding) (t u : LfTerm) (h k : LfHead) (ts us : Spine) → t ≡ at h ts → u ≡ at k us → h ≡ k → IsWorkable bindings t u → AreWorkable bindings ts us
workable_args bindings t u h k ts us e f same w =
    let Δ = under_all w.local w.outer in
    let both =
    spines_at_one_shape (λ n. None) w.outer {Δ = Δ} {h = h} {ts = ts} {us = us} (subst (λ x. Shaped Δ x w.shape) e w.left_shaped) (subst (λ x. Shaped Δ x w.shape) (f ∙ ap (λ j. at j us) (sym same)) w.right_shaped) in
    record { outer = w.outer; entries = w.entries; stands = w.stands; local = w.local; shape = both.0; left_shaped = both.1; right_shaped = both.2 }

-- Arguments, one after another.
abbrev pub so_far : List ℕ → ℕ → List Term → List Term → List LfEquation
so_far path i ts us = argument_equations path 0 (spine_of (take i ts)) (spine_of (take i us))

one_more : (ts us : List Term) (i : ℕ) (t u : Term) → i < length ts → length ts ≡ length us → t ≡ get_or ts i t → u ≡ get_or us i u → (path : List ℕ) (c : ℕ) →
    argument_equations path c (spine_of (take (suc i) ts)) (spine_of (take (suc i) us)) ≡ argument_equations path c (spine_of (take i ts)) (spine_of (take i us)) ++ of_terms (path ++ (c + i) ∷ []) (term_of t) (term_of u) ∷ []
one_more [] us i t u within lengths e f path c = absurd (omega arith)
one_more (x ∷ ts) [] i t u within lengths e f path c = absurd (omega arith)
one_more (x ∷ ts) (y ∷ us) zero t u within lengths e f path c =
    let place : c ≡ c + 0 = omega arith in
    ap₂ (λ a b. of_terms (path ++ c ∷ []) (term_of a) (term_of b) ∷ []) (sym e) (sym f) ∙ ap (λ n. of_terms (path ++ n ∷ []) (term_of t) (term_of u) ∷ []) place
one_more (x ∷ ts) (y ∷ us) (suc i) t u within lengths e f path c =
    let place : suc c + i ≡ c + suc i = omega arith in
    ap (λ qs. of_terms (path ++ c ∷ []) (term_of x) (term_of y) ∷ qs)
    (one_more ts us i t u (omega arith) (omega arith) e f path (suc c)
    ∙ ap (λ n. argument_equations path (suc c) (spine_of (take i ts)) (spine_of (take i us)) ++ of_terms (path ++ n ∷ []) (term_of t) (term_of u) ∷ []) place)

what_is_left : (ts us : List Term) (i : ℕ) → length ts ≡ length us → (path : List ℕ) (c : ℕ) →
    (more : List LfEquation) × (argument_equations path c (spine_of ts) (spine_of us) ≡ argument_equations path c (spine_of (take i ts)) (spine_of (take i us)) ++ more)
what_is_left ts us zero lengths path c = (argument_equations path c (spine_of ts) (spine_of us), refl)
what_is_left [] us (suc i) lengths path c = ([], refl)
what_is_left (x ∷ ts) [] (suc i) lengths path c = absurd (omega arith)
what_is_left (x ∷ ts) (y ∷ us) (suc i) lengths path c =
    let more = what_is_left ts us i (omega arith) path (suc c) in
    (more.0, ap (λ qs. of_terms (path ++ c ∷ []) (term_of x) (term_of y) ∷ qs) more.1)

pub more_args : (ts us : List Term) (i : ℕ) (t u : Term) → i < length ts → length ts ≡ length us → t ≡ get_or ts i t → u ≡ get_or us i u → (path : List ℕ) →
    so_far path (i + 1) ts us ≡ so_far path i ts us ++ of_terms (path ++ i ∷ []) (term_of t) (term_of u) ∷ []
more_args ts us i t u within lengths e f path =
    let place : 0 + i ≡ i = omega arith in
    ap (λ n. so_far path n ts us) (add-one i) ∙ one_more ts us i t u within lengths e f path 0 ∙ ap (λ n. so_far path i ts us ++ of_terms (path ++ n ∷ []) (term_of t) (term_of u) ∷ []) place

at_one_shape : {Δ : Scope} {s : SimpleType} (ts us : List Term) (i : ℕ) (t u : Term) → i < length ts → length ts ≡ length us → t ≡ get_or ts i t → u ≡ get_or us i u → ShapedSpine Δ (spine_of ts) s → ShapedSpine Δ (spine_of us) s →
    (d : SimpleType) × Shaped Δ (term_of t) d × Shaped Δ (term_of u) d
at_one_shape [] us i t u within lengths e f p q = absurd (omega arith)
at_one_shape (x ∷ ts) [] i t u within lengths e f p q = absurd (omega arith)
at_one_shape {Δ} (x ∷ ts) (y ∷ us) zero t u within lengths e f (shaped_arg {a = a} p ps) (shaped_arg q qs) = (a, subst (λ v. Shaped Δ (term_of v) a) (sym e) p, subst (λ v. Shaped Δ (term_of v) a) (sym f) q)
at_one_shape (x ∷ ts) (y ∷ us) (suc i) t u within lengths e f (shaped_arg p ps) (shaped_arg q qs) = at_one_shape ts us i t u (omega arith) (omega arith) e f ps qs

-- There are as many on both sides.
count_at_shape : {Δ : Scope} {ts : Spine} {s : SimpleType} → ShapedSpine Δ ts s → args_count ts ≡ arity s
count_at_shape shaped_none = refl
count_at_shape (shaped_arg p ps) = ap suc (count_at_shape ps)

pub same_lengths : {bindings : List LfBinding} {left right : Spine} (ts us : List Term) → spine_of ts ≡ left → spine_of us ≡ right → AreWorkable bindings left right → length ts ≡ length us
same_lengths ts us e f w =
    sym (args_count-spine_of ts) ∙ ap args_count e ∙ count_at_shape w.left_shaped ∙ sym (count_at_shape w.right_shaped) ∙ ap args_count (sym f) ∙ args_count-spine_of us

-- The bindings that were made on the way stand for entries in the same scope.
pub still_stands : (frozen : Frozen) (old new : List LfBinding) (kinds : ℕ → Option SimpleType) (Γ : Scope) (entries : List LfAssigned) (xs more : List LfEquation) → Stands Γ old entries → ShapedEquations kinds Γ (xs ++ more) →
    WalkPasses frozen old new xs → (others : List LfAssigned) × Stands Γ new others
still_stands frozen old new kinds Γ entries xs more stands shaped passes =
    let first = begin Γ old entries stands kinds (xs ++ more) shaped in
    let after = passes kinds Γ entries more first.0 first.1 in
    (after.0, after.2.stands)

pub workable_item : (frozen : Frozen) (old new : List LfBinding) (left right : Spine) (ts us : List Term) (i : ℕ) (t u : Term) → spine_of ts ≡ left → spine_of us ≡ right → i < length ts → length ts ≡ length us →
    t ≡ get_or ts i t → u ≡ get_or us i u → AreWorkable old left right → ((path : List ℕ) → WalkPasses frozen old new (so_far path i ts us)) → IsWorkable new (term_of t) (term_of u)
workable_item frozen old new left right ts us i t u e f within lengths t_is u_is w passes =
    let Δ = under_all w.local w.outer in
    let p = subst (λ x. ShapedSpine Δ x w.shape) (sym e) w.left_shaped in
    let q = subst (λ x. ShapedSpine Δ x w.shape) (sym f) w.right_shaped in
    let more = what_is_left ts us i lengths [] 0 in
    let shaped = argument_equations_are_shaped (λ n. None) w.outer w.local [] 0 (spine_of ts) (spine_of us) p q in
    let after = still_stands frozen old new (λ n. None) w.outer w.entries (so_far [] i ts us) more.0 w.stands (subst (ShapedEquations (λ n. None) w.outer) more.1 shaped) (passes []) in
    let both = at_one_shape ts us i t u within lengths t_is u_is p q in
    record { outer = w.outer; entries = after.0; stands = after.1; local = w.local; shape = both.0; left_shaped = both.1; right_shaped = both.2 }

pub args_pass_more : (frozen : Frozen) (old mid new : List LfBinding) (ts us : List Term) (i : ℕ) (t u : Term) (r : Option Stop) → i < length ts → length ts ≡ length us → t ≡ get_or ts i t → u ≡ get_or us i u →
    ((path : List ℕ) → WalkPasses frozen old mid (so_far path i ts us)) → r ≡ None → Walked frozen mid new (λ path. of_terms path (term_of t) (term_of u) ∷ []) r → (path : List ℕ) → WalkPasses frozen old new (so_far path (i + 1) ts us)
args_pass_more frozen old mid new ts us i t u r within lengths e f passes none walked path =
    subst (WalkPasses frozen old new) (sym (more_args ts us i t u within lengths e f path))
    (passes_then frozen old mid new (so_far path i ts us) (of_terms (path ++ i ∷ []) (term_of t) (term_of u) ∷ []) (passes path)
    (subst (Walked frozen mid new (λ p. of_terms p (term_of t) (term_of u) ∷ [])) none walked (path ++ i ∷ [])))

pub args_stay : (frozen : Frozen) (old mid new : List LfBinding) (left right : Spine) (ts us : List Term) (i : ℕ) (t u : Term) (r : Option Stop) (stop other : Stop) → spine_of ts ≡ left → spine_of us ≡ right → i < length ts →
    length ts ≡ length us → t ≡ get_or ts i t → u ≡ get_or us i u → ((path : List ℕ) → WalkPasses frozen old mid (so_far path i ts us)) → r ≡ Some stop → other.cause ≡ stop.cause → other.steps ≡ stop.steps ++ i ∷ [] →
    Walked frozen mid new (λ path. of_terms path (term_of t) (term_of u) ∷ []) r → Walked frozen old new (λ path. argument_equations path 0 left right) (Some other)
args_stay frozen old mid new left right ts us i t u r stop other left_is right_is within lengths e f passes some cause steps walked =
    subst₂ (λ x y. Walked frozen old new (λ path. argument_equations path 0 x y) (Some other)) left_is right_is at_path
  where
    at_path : (path : List ℕ) → WalkStops frozen old (argument_equations path 0 (spine_of ts) (spine_of us)) (reason_at other.cause (path ++ reverse other.steps))
    at_path path =
        let reason = reason_at other.cause (path ++ reverse other.steps) in
        let one = of_terms (path ++ i ∷ []) (term_of t) (term_of u) ∷ [] in
        let more = what_is_left ts us (i + 1) lengths path 0 in
        let here =
        subst (WalkStops frozen mid one) (reason_in stop other path i cause steps) (subst (Walked frozen mid new (λ p. of_terms p (term_of t) (term_of u) ∷ [])) some walked (path ++ i ∷ [])) in
        let joined = stays_later frozen old mid (so_far path i ts us) one reason (passes path) here in
        subst (λ qs. WalkStops frozen old qs reason) (sym more.1)
        (stays_before frozen old (so_far path (i + 1) ts us) more.0 reason (subst (λ qs. WalkStops frozen old qs reason) (sym (more_args ts us i t u within lengths e f path)) joined))

pub args_pass_all : (frozen : Frozen) (old new : List LfBinding) (left right : Spine) (ts us : List Term) (i : ℕ) → spine_of ts ≡ left → spine_of us ≡ right → length ts ≡ length us → length ts ≤ i →
    ((path : List ℕ) → WalkPasses frozen old new (so_far path i ts us)) → Walked frozen old new (λ path. argument_equations path 0 left right) None
args_pass_all frozen old new left right ts us i left_is right_is lengths past passes path =
    subst₂ (λ x y. WalkPasses frozen old new (argument_equations path 0 x y)) (ap spine_of (take_all i ts past) ∙ left_is) (ap spine_of (take_all i us (omega arith)) ∙ right_is) (passes path)
