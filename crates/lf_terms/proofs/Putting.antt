-- The steps of a substitution: what each asks follows from what was asked before, and what each gives makes up the result.
use Rattle.std.proofs.Common.{◌≡◌, ℕ, zero, suc, ◌+◌, ◌-◌, ◌<◌, ◌≤◌, Some, List, [], ◌∷◌, ◌++◌, length, get_or, refl, sym, ap, ap₂, ◌∙◌, subst, subst₂, arith, add-one, length-append}
use mathlib.Core.Path.{fun_ext}
use Rattle.lf_definitions.specs.Syntax.{LfHead, bound, constant, metavariable, LfTerm, lam, at, LfType, Spine, no_args, arg, SimpleType, base, arrows, shape_size, shapes_size, args_count, arg_at, lams, joined}
use Rattle.lf_definitions.specs.Renaming.{next, Renaming, lifted, rename, next_by, lifted_by}
use Rattle.lf_definitions.specs.Shaping.{Scope, under, under_all, Shaped, shaped_lam, shaped_at, ShapedSpine, shaped_none, shaped_arg, shape_at, ShapedList}
use Rattle.lf_definitions.specs.Substitution.{stays, becomes, rename_image, Replacement, up, up_by, push, push_all, Substituted, substituted_lam, substituted_stays, substituted_becomes, SubstitutedSpine, substituted_none, substituted_arg, Applied, SubstitutedType}
use Rattle.lf_definitions.proofs.Uniqueness.{unique_spine}
use Rattle.lf_definitions.proofs.Renaming.{extended-next, each_head, same_head, rename-same_head, Substituted-rename}
use Rattle.lf_definitions.specs.Replacements.{fits_stays, Goes}
use Rattle.lf_definitions.proofs.Totality.{Shaped-Substituted, ShapedSpine-SubstitutedSpine}
use Rattle.lf_definitions.proofs.Expansion.{rename_image-same_head, stripped, args_count-arity, Applied-lams, rename-lams}
use Rattle.lf_definitions.proofs.Types.{ShapedType-SubstitutedType}
use Rattle.lf_definitions.proofs.Telescopes.{under_all-append, args_count-length, arguments-arrows, Shaped-arg_at, Goes-push_all, Goes-up_by, next_by-bound, next_by-constant, next_by-metavariable, up_by-bound_small, up_by-bound, up_by-constant, up_by-metavariable, push_all-bound, push_all-bound_greater, push_all-constant, push_all-metavariable, under_all-next_by_length}
use Rattle.lf_definitions.proofs.Options.{Some-Some}
use Rattle.lf_terms.specs.declared.term.Term.{Term}
use Rattle.lf_terms.specs.declared.shape.Shape.{Shape}
use Rattle.lf_terms.specs.Terms.{term_of, spine_of}
use Rattle.lf_terms.specs.Shapes.{simple_type_of, simple_types_of}
use Rattle.lf_terms.proofs.Spines.{args_count-spine_of, arg_at-spine_of}
use Rattle.lf_terms.proofs.ShapeLists.{length-simple_types_of, shape_at-simple_types_of}
use Rattle.lf_terms.specs.Putting.{putting, PutAt, put_stays, put_becomes, Puts, TermShaped, ArgsShaped, TypeShaped, HeadShaped, HasLams, TermStaysShaped, ArgsStayShaped, TypeStaysShaped}
use Rattle.lf_terms.proofs.Walks.{walk, walks, deeper, apply_walk, head_walk, walks_sound, walk_same, walk-rename, apply_walk-lams, arg_cost}

-- Local binders.
up_by-suc : (n : ℕ) (σ : Replacement) → up_by (suc n) σ ≡ up (up_by n σ)
up_by-suc zero σ = refl
up_by-suc (suc n) σ = up_by-suc n (up σ)

pub putting-suc : (sub : Spine) (by d : ℕ) → putting sub by (d + 1) ≡ up (putting sub by d)
putting-suc sub by d = ap (λ n. putting sub by n) (add-one d) ∙ up_by-suc d (push_all sub (λ h. stays (next_by by h)))

pub put_under : (sub : Spine) (by d : ℕ) (b r : LfTerm) → Substituted (putting sub by (d + 1)) b r → Substituted (putting sub by d) (lam b) (lam r)
put_under sub by d b r p = substituted_lam (subst (λ σ. Substituted σ b r) (putting-suc sub by d) p)

body_shaped : {Γ : Scope} {b : LfTerm} {s : SimpleType} → Shaped Γ (lam b) s → (a : SimpleType) × (c : SimpleType) × Shaped (under a Γ) b c
body_shaped (shaped_lam {a = a} {s = c} p) = (a, c, p)

pub puts_under : (sub : Spine) (shapes : List SimpleType) (by d : ℕ) (b : LfTerm) → Puts sub shapes by d (TermShaped (lam b)) → Puts sub shapes by (d + 1) (TermShaped b)
puts_under sub shapes by d b p =
    let inside = body_shaped p.shaped in
    record {
      outer = p.outer;
      target = p.target;
      local = p.local ++ inside.0 ∷ [];
      shape = inside.1;
      depth_is = length-append p.local (inside.0 ∷ []) ∙ ap (λ n. n + 1) p.depth_is;
      keeps = p.keeps;
      shaped_sub = p.shaped_sub;
      shaped = subst (λ Γ. Shaped Γ b inside.1) (sym (under_all-append p.local (inside.0 ∷ []) (under_all shapes p.outer))) inside.2;
    }

-- Arguments.
args_shaped : {Γ : Scope} {h : LfHead} {ts : Spine} {s : SimpleType} → Shaped Γ (at h ts) s → (c : SimpleType) × (Γ h ≡ Some c) × ShapedSpine Γ ts c
args_shaped (shaped_at c e ps) = (c, e, ps)

pub puts_args : (sub : Spine) (shapes : List SimpleType) (by d : ℕ) (h : LfHead) (ts : Spine) → Puts sub shapes by d (TermShaped (at h ts)) → Puts sub shapes by d (ArgsShaped ts)
puts_args sub shapes by d h ts p =
    let inside = args_shaped p.shaped in
    record { outer = p.outer; target = p.target; local = p.local; shape = inside.0; depth_is = p.depth_is; keeps = p.keeps; shaped_sub = p.shaped_sub; shaped = inside.2 }

arg_shaped : {Γ : Scope} {ts : Spine} {s : SimpleType} → ShapedSpine Γ ts s → (i : ℕ) (t : LfTerm) → arg_at ts i ≡ Some t → (a : SimpleType) × Shaped Γ t a
arg_shaped shaped_none i t e = absurd cc
arg_shaped {Γ} (shaped_arg {t = u} {a = a} p ps) zero t e = let same : u ≡ t = cc in (a, subst (λ x. Shaped Γ x a) same p)
arg_shaped (shaped_arg p ps) (suc i) t e = arg_shaped ps i t e

pub puts_arg : (sub : Spine) (shapes : List SimpleType) (by d : ℕ) (ts : Spine) (i : ℕ) (t : LfTerm) → Puts sub shapes by d (ArgsShaped ts) → arg_at ts i ≡ Some t → Puts sub shapes by d (TermShaped t)
puts_arg sub shapes by d ts i t p e =
    let inside = arg_shaped p.shaped i t e in
    record { outer = p.outer; target = p.target; local = p.local; shape = inside.0; depth_is = p.depth_is; keeps = p.keeps; shaped_sub = p.shaped_sub; shaped = inside.1 }

pub put_arg : (σ : Replacement) (ts vs us rs : Spine) (t r : LfTerm) → us ≡ joined ts (arg t no_args) → rs ≡ joined vs (arg r no_args) → SubstitutedSpine σ ts vs → Substituted σ t r → SubstitutedSpine σ us rs
put_arg σ ts vs us rs t r us_is rs_is ps p = subst₂ (SubstitutedSpine σ) (sym us_is) (sym rs_is) (last ps)
  where
    last : {ts vs : Spine} → SubstitutedSpine σ ts vs → SubstitutedSpine σ (joined ts (arg t no_args)) (joined vs (arg r no_args))
    last substituted_none = substituted_arg p substituted_none
    last (substituted_arg q qs) = substituted_arg q (last qs)

-- Heads.
putting_goes : (sub : Spine) (shapes : List SimpleType) (by d : ℕ) (H : Scope → Scope → SimpleType → Type 0) (p : Puts sub shapes by d H) →
    Goes (shapes_size shapes) (under_all p.local (under_all shapes p.outer)) (under_all p.local p.target) (putting sub by d)
putting_goes sub shapes by d H p =
    let σ : Replacement = λ h. stays (next_by by h) in
    subst (λ n. Goes (shapes_size shapes) (under_all p.local (under_all shapes p.outer)) (under_all p.local p.target) (up_by n (push_all sub σ))) p.depth_is
    (Goes-up_by (shapes_size shapes) p.local (under_all shapes p.outer) p.target (push_all sub σ)
    (Goes-push_all (shapes_size shapes) shapes sub p.outer p.target σ (λ h s e. fits_stays (p.keeps h s e)) p.shaped_sub (omega arith)))

-- What is shaped has a shaped result.
pub term_stays_shaped : (sub : Spine) (shapes : List SimpleType) (by d : ℕ) (t r : LfTerm) → Substituted (putting sub by d) t r → TermStaysShaped sub shapes by d t r
term_stays_shaped sub shapes by d t r result p =
    Shaped-Substituted (shapes_size shapes) (under_all p.local (under_all shapes p.outer)) (under_all p.local p.target) (putting sub by d) (putting_goes sub shapes by d (TermShaped t) p) p.shaped result

pub args_stay_shaped : (sub : Spine) (shapes : List SimpleType) (by d : ℕ) (ts rs : Spine) → SubstitutedSpine (putting sub by d) ts rs → ArgsStayShaped sub shapes by d ts rs
args_stay_shaped sub shapes by d ts rs results p =
    ShapedSpine-SubstitutedSpine (shapes_size shapes) (under_all p.local (under_all shapes p.outer)) (under_all p.local p.target) (putting sub by d) (putting_goes sub shapes by d (ArgsShaped ts) p) p.shaped results

pub type_stays_shaped : (sub : Spine) (shapes : List SimpleType) (by d : ℕ) (a b : LfType) → SubstitutedType (putting sub by d) a b → TypeStaysShaped sub shapes by d a b
type_stays_shaped sub shapes by d a b result p =
    ShapedType-SubstitutedType (shapes_size shapes) p.shaped.0 (under_all p.local (under_all shapes p.outer)) (under_all p.local p.target) (putting sub by d) (putting_goes sub shapes by d (TypeShaped a) p) p.shaped.1 result

pub puts_head : (sub : Spine) (shapes : List SimpleType) (by d : ℕ) (h : LfHead) (ts vs : Spine) → Puts sub shapes by d (TermShaped (at h ts)) → SubstitutedSpine (putting sub by d) ts vs →
    Puts sub shapes by d (HeadShaped h vs)
puts_head sub shapes by d h ts vs p results =
    let inside = args_shaped p.shaped in
    let Γ = under_all p.local (under_all shapes p.outer) in
    record {
      outer = p.outer;
      target = p.target;
      local = p.local;
      shape = inside.0;
      depth_is = p.depth_is;
      keeps = p.keeps;
      shaped_sub = p.shaped_sub;
      shaped = (inside.1, ShapedSpine-SubstitutedSpine (shapes_size shapes) Γ (under_all p.local p.target) (putting sub by d) (putting_goes sub shapes by d (TermShaped (at h ts)) p) inside.2 results);
    }

pub put_head : (σ : Replacement) (h : LfHead) (ts vs : Spine) (r : LfTerm) → SubstitutedSpine σ ts vs → PutAt σ h vs r → Substituted σ (at h ts) r
put_head σ h ts vs r results (put_stays e) = substituted_stays e results
put_head σ h ts vs r results (put_becomes u e applied) = substituted_becomes u vs e results applied

pub put_constant : (sub : Spine) (by d c : ℕ) → putting sub by d (constant c) ≡ stays (constant c)
put_constant sub by d c =
    let σ : Replacement = λ h. stays (next_by by h) in
    up_by-constant d c (push_all sub σ) ∙ ap (rename_image (next_by d)) (push_all-constant sub c σ ∙ ap stays (next_by-constant by c)) ∙ ap stays (next_by-constant d c)

pub put_metavariable : (sub : Spine) (by d g : ℕ) → putting sub by d (metavariable g) ≡ stays (metavariable g)
put_metavariable sub by d g =
    let σ : Replacement = λ h. stays (next_by by h) in
    up_by-metavariable d g (push_all sub σ) ∙ ap (rename_image (next_by d)) (push_all-metavariable sub g σ ∙ ap stays (next_by-metavariable by g)) ∙ ap stays (next_by-metavariable d g)

pub put_local : (sub : Spine) (by d n : ℕ) (vs : Spine) → n < d → PutAt (putting sub by d) (bound n) vs (at (bound n) vs)
put_local sub by d n vs less = put_stays (up_by-bound_small d n (push_all sub (λ h. stays (next_by by h))) less)

pub put_greater : (sub : Spine) (by d n : ℕ) (vs : Spine) → d ≤ n → args_count sub ≤ n - d → PutAt (putting sub by d) (bound n) vs (at (bound ((n - args_count sub) + by)) vs)
put_greater sub by d n vs outside past =
    let m = args_count sub in
    let i = n - d - m in
    let σ : Replacement = λ h. stays (next_by by h) in
    let number : n ≡ d + (m + i) = omega arith in
    let lowered : d + (by + i) ≡ (n - m) + by = omega arith in
    put_stays
    (ap (λ k. putting sub by d (bound k)) number ∙ up_by-bound d (m + i) (push_all sub σ)
    ∙ ap (rename_image (next_by d)) (push_all-bound_greater sub i σ ∙ ap stays (next_by-bound by i)) ∙ ap stays (next_by-bound d (by + i)) ∙ ap (λ k. stays (bound k)) lowered)

-- A variable that is replaced.
pub under_all-bound : (shapes : List SimpleType) (Γ : Scope) (k : ℕ) (s : SimpleType) → shape_at shapes k ≡ Some s → under_all shapes Γ (bound (length shapes - suc k)) ≡ Some s
under_all-bound [] Γ k s e = absurd cc
under_all-bound (a ∷ shapes) Γ zero s e =
    let place : bound (suc (length shapes) - 1) ≡ next_by (length shapes) (bound zero) = ap bound (omega arith) ∙ sym (next_by-bound (length shapes) zero) in
    ap (under_all shapes (under a Γ)) place ∙ under_all-next_by_length shapes (under a Γ) (bound zero) ∙ e
under_all-bound (a ∷ shapes) Γ (suc k) s e =
    let place : suc (length shapes) - suc (suc k) ≡ length shapes - suc k = omega arith in
    ap (λ n. under_all shapes (under a Γ) (bound n)) place ∙ under_all-bound shapes (under a Γ) k s e

-- what is known where a variable is replaced by the term at place `k`
pub record Replaced (sub : Spine) (shapes : List SimpleType) (by d n k : ℕ) (vs : Spine) (u : LfTerm) (args : List SimpleType) : Type 0 where
  pub puts : Puts sub shapes by d (HeadShaped (bound n) vs)
  pub number : n ≡ d + (args_count sub - suc k)
  pub term_is : arg_at sub k ≡ Some u
  pub shape_is : shape_at shapes k ≡ Some (arrows args base)

module _ (sub : Spine) (shapes : List SimpleType) (by d n k : ℕ) (vs : Spine) (u : LfTerm) (args : List SimpleType) (c : Replaced sub shapes by d n k vs u args) where
  replaced_shape : c.puts.shape ≡ arrows args base
  replaced_shape =
      let p = c.puts in
      let m = args_count sub in
      let lengths : m ≡ length shapes = args_count-length shapes p.target sub p.shaped_sub in
      let place : bound n ≡ next_by (length p.local) (bound (length shapes - suc k)) =
      ap bound (c.number ∙ ap₂ (λ i j. i + (j - suc k)) (sym p.depth_is) lengths) ∙ sym (next_by-bound (length p.local) (length shapes - suc k)) in
      Some-Some (sym p.shaped.0 ∙ ap (under_all p.local (under_all shapes p.outer)) place
      ∙ under_all-next_by_length p.local (under_all shapes p.outer) (bound (length shapes - suc k)) ∙ under_all-bound shapes p.outer k (arrows args base) c.shape_is)

  term_shaped : Shaped c.puts.target u (arrows args base)
  term_shaped = Shaped-arg_at shapes c.puts.target sub k (arrows args base) u c.puts.shaped_sub c.shape_is c.term_is

  results_shaped : ShapedList (under_all c.puts.local c.puts.target) vs args
  results_shaped = subst (ShapedSpine (under_all c.puts.local c.puts.target) vs) replaced_shape c.puts.shaped.1

  -- The term begins with as many abstractions as there are arguments.
  pub replaced_lams : HasLams (args_count vs) u
  replaced_lams = let r = stripped term_shaped in (r.0, r.1 ∙ ap (λ m. lams m r.0) (sym (args_count-arity results_shaped)))

  lams_inj : (m : ℕ) (b e : LfTerm) → lams m b ≡ lams m e → b ≡ e
  lams_inj zero b e p = p
  lams_inj (suc m) b e p = lams_inj m b e cc

  body_is_shaped : (b : LfTerm) → u ≡ lams (args_count vs) b → Shaped (under_all args c.puts.target) b base
  body_is_shaped b is =
      let r = stripped term_shaped in
      let same : r.0 ≡ b = lams_inj (args_count vs) r.0 b (ap (λ m. lams m r.0) (args_count-arity results_shaped) ∙ sym r.1 ∙ is) in
      subst₂ (λ l x. Shaped (under_all l c.puts.target) x base) (arguments-arrows args) same r.2

  -- The results of the arguments may be put into its body.
  pub puts_nested : (b : LfTerm) → u ≡ lams (args_count vs) b → Puts vs args d 0 (TermShaped b)
  puts_nested b is =
      record {
        outer = c.puts.target;
        target = under_all c.puts.local c.puts.target;
        local = [];
        shape = base;
        depth_is = refl;
        keeps = λ h a e. ap (λ m. under_all c.puts.local c.puts.target (next_by m h)) (sym c.puts.depth_is) ∙ under_all-next_by_length c.puts.local c.puts.target h ∙ e;
        shaped_sub = results_shaped;
        shaped = body_is_shaped b is;
      }

  replaced_image : putting sub by d (bound n) ≡ becomes (rename (next_by d) u)
  replaced_image =
      let σ : Replacement = λ h. stays (next_by by h) in
      ap (λ i. putting sub by d (bound i)) c.number ∙ up_by-bound d (args_count sub - suc k) (push_all sub σ) ∙ ap (rename_image (next_by d)) (push_all-bound sub k u σ c.term_is)

  pub nested_outside : (vs : Spine) (τ : Replacement) (ξ : Renaming) (h : LfHead) → push_all vs τ (lifted_by (args_count vs) ξ h) ≡ push_all vs (λ k. τ (ξ k)) h
  nested_outside no_args τ ξ h = refl
  nested_outside (arg v vs) τ ξ h = nested_outside vs (push v τ) (lifted ξ) h ∙ ap (λ σ. push_all vs σ h) (fun_ext one)
    where
      one : (h : LfHead) → push v τ (lifted ξ h) ≡ push v (λ k. τ (ξ k)) h
      one =
          each_head (λ h. push v τ (lifted ξ h) ≡ push v (λ k. τ (ξ k)) h) refl
          (λ h. ap (push v τ) (extended-next (bound zero) (λ k. next (ξ k)) h) ∙ extended-next (becomes v) τ (ξ h) ∙ sym (extended-next (becomes v) (λ k. τ (ξ k)) h))

  renamed_term : (b : LfTerm) → u ≡ lams (args_count vs) b → rename (next_by d) u ≡ lams (args_count vs) (rename (lifted_by (args_count vs) (next_by d)) b)
  renamed_term b is = ap (rename (next_by d)) is ∙ rename-lams (args_count vs) (next_by d) b

  -- Its result is that of the term put, applied to the results.
  pub put_nested : (b r : LfTerm) → u ≡ lams (args_count vs) b → Substituted (putting vs d 0) b r → PutAt (putting sub by d) (bound n) vs r
  put_nested b r is result =
      let ξ = lifted_by (args_count vs) (next_by d) in
      let moved : Substituted (push_all vs stays) (rename ξ b) (rename same_head r) =
      Substituted-rename result ξ same_head (push_all vs stays) (λ h. nested_outside vs stays (next_by d) h ∙ sym (rename_image-same_head (putting vs d 0 h))) in
      let body : Substituted (push_all vs stays) (rename ξ b) r = subst (Substituted (push_all vs stays) (rename ξ b)) (rename-same_head r) moved in
      put_becomes (rename (next_by d) u) replaced_image
      (subst (λ x. Applied stays x vs r) (sym (renamed_term b is)) (Applied-lams vs stays (rename ξ b) r body))

  nested_walk : (p : ℕ) (b : LfTerm) → u ≡ lams (args_count vs) b → shapes_size args < p →
      apply_walk (deeper p) stays (rename (next_by d) u) vs ≡ walk (deeper (shapes_size args)) (putting vs d 0) b
  unfolding puts_nested
  nested_walk zero b is less = absurd (omega arith)
  nested_walk (suc p) b is less =
      let ξ = lifted_by (args_count vs) (next_by d) in
      let q = puts_nested b is in
      ap (λ x. apply_walk (deeper (suc p)) stays x vs) (renamed_term b is) ∙ apply_walk-lams vs (deeper (suc p)) stays (rename ξ b)
      ∙ walk-rename b (deeper p) (push_all vs stays) ξ ∙ ap (λ σ. walk (deeper p) σ b) (fun_ext (nested_outside vs stays (next_by d)))
      ∙ walk_same (shapes_size args) p (omega arith) (under_all args c.puts.target) (under_all c.puts.local c.puts.target) (putting vs d 0) b base q.shaped (putting_goes vs args d 0 (TermShaped b) q)

  shape_below : (shapes : List SimpleType) (k : ℕ) (a : SimpleType) → shape_at shapes k ≡ Some a → shape_size a < shapes_size shapes
  shape_below [] k a e = absurd cc
  shape_below (x ∷ xs) zero a e = let same : x ≡ a = cc in rw (← same) (omega arith)
  shape_below (x ∷ xs) (suc k) a e = omega (arith, shape_below xs k a e)

  -- It costs less.
  pub nested_cost : (b : LfTerm) → u ≡ lams (args_count vs) b →
      (walk (deeper (shapes_size args)) (putting vs d 0) b).0 < (head_walk (deeper (shapes_size shapes)) (putting sub by d (bound n)) vs).0
  nested_cost b is =
      let p = shapes_size shapes in
      let same : (head_walk (deeper p) (putting sub by d (bound n)) vs).0 ≡ suc (walk (deeper (shapes_size args)) (putting vs d 0) b).0 =
      ap (λ i. (head_walk (deeper p) i vs).0) replaced_image ∙ ap (λ o. suc o.0) (nested_walk p b is (shape_below shapes k (arrows args base) c.shape_is)) in
      omega (arith, same)

-- The costs of the steps.
abbrev pub term_cost : Spine → List SimpleType → ℕ → ℕ → LfTerm → ℕ
term_cost sub shapes by d t = (walk (deeper (shapes_size shapes)) (putting sub by d) t).0

abbrev pub args_cost : Spine → List SimpleType → ℕ → ℕ → Spine → ℕ
args_cost sub shapes by d ts = (walks (deeper (shapes_size shapes)) (putting sub by d) ts).0

abbrev pub head_cost : Spine → List SimpleType → ℕ → ℕ → LfHead → Spine → ℕ
head_cost sub shapes by d h vs = suc (head_walk (deeper (shapes_size shapes)) (putting sub by d h) vs).0

pub under_cost : (sub : Spine) (shapes : List SimpleType) (by d : ℕ) (b : LfTerm) → term_cost sub shapes by (d + 1) b < term_cost sub shapes by d (lam b)
under_cost sub shapes by d b =
    let p = shapes_size shapes in
    let same : (walk (deeper p) (putting sub by (d + 1)) b).0 ≡ (walk (deeper p) (up (putting sub by d)) b).0 = ap (λ σ. (walk (deeper p) σ b).0) (putting-suc sub by d) in
    omega (arith, same)

pub args_below : (sub : Spine) (shapes : List SimpleType) (by d : ℕ) (h : LfHead) (ts : Spine) → args_cost sub shapes by d ts < term_cost sub shapes by d (at h ts)
args_below sub shapes by d h ts = omega arith

pub arg_below : (sub : Spine) (shapes : List SimpleType) (by d : ℕ) (ts : Spine) (i : ℕ) (t : LfTerm) → arg_at ts i ≡ Some t → term_cost sub shapes by d t < args_cost sub shapes by d ts
arg_below sub shapes by d ts i t e = arg_cost ts i t (deeper (shapes_size shapes)) (putting sub by d) e

pub head_below : (sub : Spine) (shapes : List SimpleType) (by d : ℕ) (h : LfHead) (ts vs : Spine) → Puts sub shapes by d (TermShaped (at h ts)) → SubstitutedSpine (putting sub by d) ts vs →
    head_cost sub shapes by d h vs < term_cost sub shapes by d (at h ts)
head_below sub shapes by d h ts vs p results =
    let q = shapes_size shapes in
    let inside = args_shaped p.shaped in
    let walked : (walks (deeper q) (putting sub by d) ts).1 ≡ vs =
    unique_spine (walks_sound q (under_all p.local (under_all shapes p.outer)) (under_all p.local p.target) (putting sub by d) ts inside.0 inside.2 (putting_goes sub shapes by d (TermShaped (at h ts)) p)) results in
    let same : (head_walk (deeper q) (putting sub by d h) (walks (deeper q) (putting sub by d) ts).1).0 ≡ (head_walk (deeper q) (putting sub by d h) vs).0 =
    ap (λ x. (head_walk (deeper q) (putting sub by d h) x).0) walked in
    omega (arith, same)

-- what is known where the code finds the term and the shape at a place
pub replaced_here : (sub : Spine) (shapes : List SimpleType) (by d n k : ℕ) (vs : Spine) (xs : List Term) (ss : List Shape) (x : Term) (s : Shape) →
    Puts sub shapes by d (HeadShaped (bound n) vs) → spine_of xs ≡ sub → simple_types_of ss ≡ shapes → d ≤ n → n - d < length xs → k ≡ length xs - 1 - (n - d) →
    x ≡ get_or xs k x → s ≡ get_or ss k s → Replaced sub shapes by d n k vs (term_of x) s.args
replaced_here sub shapes by d n k vs xs ss x s puts xs_are ss_are outside within place x_is s_is =
    let count : args_count sub ≡ length xs = ap args_count (sym xs_are) ∙ args_count-spine_of xs in
    let lengths : length ss ≡ length xs =
    sym (length-simple_types_of ss) ∙ ap length ss_are ∙ sym (args_count-length shapes puts.target sub puts.shaped_sub) ∙ count in
    record {
      puts = puts;
      number = omega (arith, count);
      term_is = subst (λ l. arg_at l k ≡ Some (term_of x)) xs_are (arg_at-spine_of xs k x (omega arith) x_is);
      shape_is = subst (λ l. shape_at l k ≡ Some (simple_type_of s)) ss_are (shape_at-simple_types_of ss k s (omega (arith, lengths)) s_is);
    }

pub places_agree : (sub : Spine) (shapes : List SimpleType) (by d : ℕ) (H : Scope → Scope → SimpleType → Type 0) (xs : List Term) (ss : List Shape) →
    Puts sub shapes by d H → spine_of xs ≡ sub → simple_types_of ss ≡ shapes → length ss ≡ length xs
places_agree sub shapes by d H xs ss puts xs_are ss_are =
    sym (length-simple_types_of ss) ∙ ap length ss_are ∙ sym (args_count-length shapes puts.target sub puts.shaped_sub) ∙ ap args_count (sym xs_are) ∙ args_count-spine_of xs

-- A shaped substitution may begin.
pub puts_start : (Γ : Scope) (outer inner : List SimpleType) (sub : Spine) (t : LfTerm) (s : SimpleType) → Shaped (under_all (outer ++ inner) Γ) t s → ShapedList (under_all outer Γ) sub inner →
    Puts sub inner 0 0 (TermShaped t)
puts_start Γ outer inner sub t s shaped shaped_sub =
    record {
      outer = under_all outer Γ;
      target = under_all outer Γ;
      local = [];
      shape = s;
      depth_is = refl;
      keeps = λ h a e. e;
      shaped_sub = shaped_sub;
      shaped = subst (λ Δ. Shaped Δ t s) (under_all-append outer inner Γ) shaped;
    }

-- Its result is shaped.
pub put_shaped : (Γ : Scope) (outer inner : List SimpleType) (sub : Spine) (t r : LfTerm) (s : SimpleType) → Shaped (under_all (outer ++ inner) Γ) t s → ShapedList (under_all outer Γ) sub inner →
    Substituted (putting sub 0 0) t r → Shaped (under_all outer Γ) r s
put_shaped Γ outer inner sub t r s shaped shaped_sub result =
    let σ : Replacement = λ h. stays h in
    Shaped-Substituted (shapes_size inner) (under_all inner (under_all outer Γ)) (under_all outer Γ) (putting sub 0 0)
    (Goes-push_all (shapes_size inner) inner sub (under_all outer Γ) (under_all outer Γ) σ (λ h a e. fits_stays e) shaped_sub (omega arith))
    (subst (λ Δ. Shaped Δ t s) (under_all-append outer inner Γ) shaped) result

-- One term is a list for one variable of its shape.
pub one_shaped : (Γ : Scope) (sub : Spine) (inner : List SimpleType) (t : LfTerm) (s : SimpleType) → sub ≡ arg t no_args → inner ≡ s ∷ [] → Shaped Γ t s → ShapedList Γ sub inner
one_shaped Γ sub inner t s sub_is inner_is p = subst₂ (ShapedList Γ) (sym sub_is) (sym inner_is) (shaped_arg p shaped_none)
