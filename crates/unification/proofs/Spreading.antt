-- The entries of a context as different variables, and terms over these variables as terms in the context.
use Rattle.std.proofs.Common.{◌≡◌, ℕ, zero, suc, ◌+◌, ◌<◌, ◌⊎◌, inl, inr, Bool, true, false, List, [], ◌∷◌, length, Some, refl, sym, ap, ◌∙◌, arith}
use Rattle.std.specs.Prelude.{if◌then◌else◌, nat_eq}
use Rattle.std.proofs.lemmas.Bool.{eqb-true, or_cases}
use Rattle.lf_definitions.specs.Syntax.{LfHead, bound, constant, metavariable, LfTerm, Spine, SimpleType, arguments}
use Rattle.lf_definitions.specs.Renaming.{next, extended, Renaming, lifted, rename, rename_spine, next_by}
use Rattle.lf_definitions.specs.Shaping.{Scope, under, under_all, Shaped, shaped_lam, shaped_at, ShapedSpine, shaped_none, shaped_arg}
use Rattle.lf_definitions.specs.ShapedGoals.{without_variables}
use Rattle.lf_definitions.specs.Occurrence.{OccursIn, occurs_head, occurs_args, occurs_lam, OccursInSpine, occurs_first, occurs_later}
use Rattle.lf_definitions.specs.GoalLists.{above}
use Rattle.lf_definitions.proofs.Options.{Some_inj}
use Rattle.lf_definitions.proofs.Renaming.{extended-next, each_head, after, same_head, rename-rename, rename-same_head, KeepsApart}
use Rattle.lf_definitions.proofs.Expansion.{under_all-next_by}
use Rattle.lf_definitions.proofs.Telescopes.{next_by-bound, next_by-constant, next_by-metavariable}
use Rattle.head_laws.specs.Renumbering.{place_of_number}
use Rattle.head_laws.proofs.Heads.{next_inj, lifted-next}
use Rattle.head_laws.proofs.Occurrence.{rename-agree}
use Rattle.head_laws.proofs.Numbers.{above-Contains}
use Rattle.unification.specs.Patterns.{has_number, are_different, is_over, placed}
use Rattle.unification.proofs.Tests.{Contains-true, has_number-here, has_number-later, over_term}
use Rattle.unification.proofs.PatternSpines.{are_different-parts, AreVariables, no_variables, one_variable, length-AreVariables}

-- The entries of a context, as many as these numbers, become the variables of these numbers, in order; of heads from outside it is known what they become.
abbrev pub spreading : List ℕ → Renaming → Renaming
spreading [] ξ = ξ
spreading (n ∷ ns) ξ = spreading ns (extended (bound n) ξ)

pub spreading-next_by : (ns : List ℕ) (ξ : Renaming) (h : LfHead) → spreading ns ξ (next_by (length ns) h) ≡ ξ h
spreading-next_by [] ξ h = refl
spreading-next_by (n ∷ ns) ξ h = spreading-next_by ns (extended (bound n) ξ) (next h) ∙ extended-next (bound n) ξ h

pub spreading-constant : (ns : List ℕ) (ξ : Renaming) (c : ℕ) → spreading ns ξ (constant c) ≡ ξ (constant c)
spreading-constant [] ξ c = refl
spreading-constant (n ∷ ns) ξ c = spreading-constant ns (extended (bound n) ξ) c

pub spreading-metavariable : (ns : List ℕ) (ξ : Renaming) (g : ℕ) → spreading ns ξ (metavariable g) ≡ ξ (metavariable g)
spreading-metavariable [] ξ g = refl
spreading-metavariable (n ∷ ns) ξ g = spreading-metavariable ns (extended (bound n) ξ) g

-- where a number is placed that is the first one, or a later one
placed_first : (m : ℕ) (ns : List ℕ) (n : ℕ) → nat_eq m n ≡ true → placed (m ∷ ns) (bound n) ≡ next_by (length ns) (bound zero)
placed_first m ns n e =
    let place : place_of_number (m ∷ ns) n ≡ zero = ap (λ b. if b then zero else suc (place_of_number ns n)) e in
    ap bound (omega arith) ∙ sym (next_by-bound (length ns) zero)

placed_later : (m : ℕ) (ns : List ℕ) (n : ℕ) → nat_eq m n ≡ false → placed (m ∷ ns) (bound n) ≡ placed ns (bound n)
placed_later m ns n e =
    let place : place_of_number (m ∷ ns) n ≡ suc (place_of_number ns n) = ap (λ b. if b then zero else suc (place_of_number ns n)) e in
    ap bound (omega arith)

has_number-rest : (m : ℕ) (ns : List ℕ) (n : ℕ) → nat_eq m n ≡ false → has_number (m ∷ ns) n ≡ true → has_number ns n ≡ true
has_number-rest m ns n differ e = either (or_cases (nat_eq m n) (has_number ns n) e)
  where
    either : (nat_eq m n ≡ true) ⊎ (has_number ns n ≡ true) → has_number ns n ≡ true
    either (inl f) = absurd cc
    either (inr f) = f

pub spreading-placed : (ns : List ℕ) (ξ : Renaming) (n : ℕ) → has_number ns n ≡ true → spreading ns ξ (placed ns (bound n)) ≡ bound n
spreading-placed [] ξ n e = absurd cc
spreading-placed (m ∷ ns) ξ n e = each (nat_eq m n) refl (λ f. spreading-placed ns (extended (bound m) ξ) n f)
  where
    each : (b : Bool) → nat_eq m n ≡ b → (has_number ns n ≡ true → spreading ns (extended (bound m) ξ) (placed ns (bound n)) ≡ bound n) →
        spreading ns (extended (bound m) ξ) (placed (m ∷ ns) (bound n)) ≡ bound n
    each true f later =
        ap (spreading ns (extended (bound m) ξ)) (placed_first m ns n f) ∙ spreading-next_by ns (extended (bound m) ξ) (bound zero) ∙ ap bound (eqb-true m n f)
    each false f later = ap (spreading ns (extended (bound m) ξ)) (placed_later m ns n f) ∙ later (has_number-rest m ns n f e)

-- A term over the variables, placed in the context and spread again, is as it was.
pub renamed_back : (ns : List ℕ) (k : ℕ) (u : LfTerm) → is_over ns u ≡ true → rename (spreading ns (next_by k)) (rename (placed ns) u) ≡ u
renamed_back ns k u e = rename-rename u (spreading ns (next_by k)) (placed ns) ∙ rename-agree u (after (spreading ns (next_by k)) (placed ns)) same_head each ∙ rename-same_head u
  where
    each : (h : LfHead) → OccursIn h u → spreading ns (next_by k) (placed ns h) ≡ h
    each (bound n) o = spreading-placed ns (next_by k) n (over_term u ns e (bound n) o)
    each (constant c) o = spreading-constant ns (next_by k) c ∙ next_by-constant k c
    each (metavariable g) o = spreading-metavariable ns (next_by k) g ∙ next_by-metavariable k g

-- Different variables, with what is outside kept above them, keep heads apart.
abbrev pub Avoids : Renaming → List ℕ → Type 0
Avoids ξ ns = (h : LfHead) (n : ℕ) → has_number ns n ≡ true → ξ h ≡ bound n → ⊥

bound_inj : (m n : ℕ) → bound m ≡ bound n → m ≡ n
bound_inj m n e = cc

KeepsApart-extended : (n : ℕ) (ξ : Renaming) → KeepsApart ξ → ((h : LfHead) → ξ h ≡ bound n → ⊥) → KeepsApart (extended (bound n) ξ)
KeepsApart-extended n ξ apart avoids =
    each_head (λ h. (k : LfHead) → extended (bound n) ξ h ≡ extended (bound n) ξ k → h ≡ k)
    (each_head (λ k. bound n ≡ extended (bound n) ξ k → bound zero ≡ k) (λ e. refl) (λ k e. absurd (avoids k (sym (e ∙ extended-next (bound n) ξ k)))))
    (λ h. each_head (λ k. extended (bound n) ξ (next h) ≡ extended (bound n) ξ k → next h ≡ k)
    (λ e. absurd (avoids h (sym (extended-next (bound n) ξ h) ∙ e)))
    (λ k e. ap next (apart h k (sym (extended-next (bound n) ξ h) ∙ e ∙ extended-next (bound n) ξ k))))

Avoids-extended : (n : ℕ) (ns : List ℕ) (ξ : Renaming) → has_number ns n ≡ false → Avoids ξ (n ∷ ns) → Avoids (extended (bound n) ξ) ns
Avoids-extended n ns ξ differs avoids =
    each_head (λ h. (m : ℕ) → has_number ns m ≡ true → extended (bound n) ξ h ≡ bound m → ⊥)
    (λ m has e. let same : has_number ns n ≡ true = ap (has_number ns) (bound_inj n m e) ∙ has in cc)
    (λ h m has e. avoids h m (has_number-later n ns m has) (sym (extended-next (bound n) ξ h) ∙ e))

KeepsApart-spreading : (ns : List ℕ) (ξ : Renaming) → are_different ns ≡ true → KeepsApart ξ → Avoids ξ ns → KeepsApart (spreading ns ξ)
KeepsApart-spreading [] ξ differ apart avoids = apart
KeepsApart-spreading (n ∷ ns) ξ differ apart avoids =
    let parts = are_different-parts n ns differ in
    KeepsApart-spreading ns (extended (bound n) ξ) parts.1 (KeepsApart-extended n ξ apart (λ h. avoids h n (has_number-here n ns))) (Avoids-extended n ns ξ parts.0 avoids)

next_by_inj : (k : ℕ) → KeepsApart (next_by k)
next_by_inj zero h j e = e
next_by_inj (suc k) h j e = next_inj h j (next_by_inj k (next h) (next j) e)

Avoids-above : (ns : List ℕ) → Avoids (next_by (above ns)) ns
Avoids-above ns (bound i) n has e =
    let same : above ns + i ≡ n = bound_inj (above ns + i) n (sym (next_by-bound (above ns) i) ∙ e) in
    let less : n < above ns = above-Contains ns n (Contains-true ns n has) in
    omega arith
Avoids-above ns (constant c) n has e = let other : constant c ≡ bound n = sym (next_by-constant (above ns) c) ∙ e in cc
Avoids-above ns (metavariable g) n has e = let other : metavariable g ≡ bound n = sym (next_by-metavariable (above ns) g) ∙ e in cc

pub spreading-apart : (ns : List ℕ) → are_different ns ≡ true → KeepsApart (spreading ns (next_by (above ns)))
spreading-apart ns differ = KeepsApart-spreading ns (next_by (above ns)) differ (next_by_inj (above ns)) (Avoids-above ns)

-- A renaming that keeps the shapes of the heads that occur keeps the shapes of terms.
abbrev pub KeepsShapesOf : (LfHead → Type 0) → Renaming → Scope → Scope → Type 0
KeepsShapesOf P ξ Γ Δ = (h : LfHead) (s : SimpleType) → P h → Γ h ≡ Some s → Δ (ξ h) ≡ Some s

KeepsShapesOf-lifted : (P : LfHead → Type 0) (ξ : Renaming) (Γ Δ : Scope) (a : SimpleType) → KeepsShapesOf (λ h. P (next h)) ξ Γ Δ → KeepsShapesOf P (lifted ξ) (under a Γ) (under a Δ)
KeepsShapesOf-lifted P ξ Γ Δ a keeps =
    each_head (λ h. (s : SimpleType) → P h → under a Γ h ≡ Some s → under a Δ (lifted ξ h) ≡ Some s)
    (λ s o e. e)
    (λ h s o e. ap (under a Δ) (lifted-next ξ h) ∙ extended-next (Some a) Δ (ξ h) ∙ keeps h s o (sym (extended-next (Some a) Γ h) ∙ e))

mutual
  pub Shaped-rename_occurring : {Γ : Scope} {t : LfTerm} {s : SimpleType} → Shaped Γ t s → (ξ : Renaming) (Δ : Scope) → KeepsShapesOf (λ h. OccursIn h t) ξ Γ Δ → Shaped Δ (rename ξ t) s
  Shaped-rename_occurring (shaped_lam {Γ = Γ} {b = b} {a = a} p) ξ Δ keeps =
      shaped_lam (Shaped-rename_occurring p (lifted ξ) (under a Δ) (KeepsShapesOf-lifted (λ h. OccursIn h b) ξ Γ Δ a (λ h s o e. keeps h s (occurs_lam h b o) e)))
  Shaped-rename_occurring (shaped_at {h = h} {ts = ts} s e ps) ξ Δ keeps =
      shaped_at s (keeps h s (occurs_head h ts) e) (ShapedSpine-rename_occurring ps ξ Δ (λ k c o f. keeps k c (occurs_args k h ts o) f))

  pub ShapedSpine-rename_occurring : {Γ : Scope} {ts : Spine} {s : SimpleType} → ShapedSpine Γ ts s → (ξ : Renaming) (Δ : Scope) → KeepsShapesOf (λ h. OccursInSpine h ts) ξ Γ Δ →
      ShapedSpine Δ (rename_spine ξ ts) s
  ShapedSpine-rename_occurring shaped_none ξ Δ keeps = shaped_none
  ShapedSpine-rename_occurring (shaped_arg {t = t} {ts = ts} p ps) ξ Δ keeps =
      shaped_arg (Shaped-rename_occurring p ξ Δ (λ h s o e. keeps h s (occurs_first h t ts o) e)) (ShapedSpine-rename_occurring ps ξ Δ (λ h s o e. keeps h s (occurs_later h t ts o) e))

pub under_all-constant : (xs : List SimpleType) (Γ : Scope) (c : ℕ) → under_all xs Γ (constant c) ≡ Γ (constant c)
under_all-constant [] Γ c = refl
under_all-constant (x ∷ xs) Γ c = under_all-constant xs (under x Γ) c

pub under_all-metavariable : (xs : List SimpleType) (Γ : Scope) (g : ℕ) → under_all xs Γ (metavariable g) ≡ Γ (metavariable g)
under_all-metavariable [] Γ g = refl
under_all-metavariable (x ∷ xs) Γ g = under_all-metavariable xs (under x Γ) g

-- Each of the variables has the shape of the entry at its place.
pub placed_shape : {Γ : Scope} {ns : List ℕ} {ts : Spine} {s : SimpleType} → AreVariables Γ ns ts s → (Δ : Scope) (n : ℕ) (d : SimpleType) → has_number ns n ≡ true → Γ (bound n) ≡ Some d →
    under_all (arguments s) Δ (placed ns (bound n)) ≡ Some d
placed_shape no_variables Δ n d has e = absurd cc
placed_shape {Γ} (one_variable {n = m} {ns = ns} {a = a} {s = s} known is rest) Δ n d has e = each (nat_eq m n) refl (λ f. placed_shape rest (under a Δ) n d f e)
  where
    each : (b : Bool) → nat_eq m n ≡ b → (has_number ns n ≡ true → under_all (arguments s) (under a Δ) (placed ns (bound n)) ≡ Some d) →
        under_all (arguments s) (under a Δ) (placed (m ∷ ns) (bound n)) ≡ Some d
    each true f later =
        let same : a ≡ d = Some_inj (ap (λ k. Γ (bound k)) (sym (eqb-true m n f)) ∙ known) e in
        ap (under_all (arguments s) (under a Δ)) (placed_first m ns n f ∙ ap (λ k. next_by k (bound zero)) (length-AreVariables rest))
        ∙ under_all-next_by s (under a Δ) (bound zero) ∙ ap Some same
    each false f later = ap (under_all (arguments s) (under a Δ)) (placed_later m ns n f) ∙ later (has_number-rest m ns n f has)

-- So a term over the variables, placed in the context, is shaped there, and speaks of no other variable.
pub Shaped-placed : (Γ : Scope) (local : List SimpleType) (ns : List ℕ) (ts : Spine) (c : SimpleType) (u : LfTerm) (s : SimpleType) → AreVariables (under_all local Γ) ns ts c →
    is_over ns u ≡ true → Shaped (under_all local Γ) u s → Shaped (under_all (arguments c) (without_variables Γ)) (rename (placed ns) u) s
Shaped-placed Γ local ns ts c u s vars over p = Shaped-rename_occurring p (placed ns) (under_all (arguments c) (without_variables Γ)) keeps
  where
    keeps : KeepsShapesOf (λ h. OccursIn h u) (placed ns) (under_all local Γ) (under_all (arguments c) (without_variables Γ))
    keeps (bound n) d o e = placed_shape vars (without_variables Γ) n d (over_term u ns over (bound n) o) e
    keeps (constant k) d o e = under_all-constant (arguments c) (without_variables Γ) k ∙ sym (under_all-constant local Γ k) ∙ e
    keeps (metavariable g) d o e = under_all-metavariable (arguments c) (without_variables Γ) g ∙ sym (under_all-metavariable local Γ g) ∙ e
