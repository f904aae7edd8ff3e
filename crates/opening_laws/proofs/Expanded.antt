-- A head with its first arguments, made eta-long: renamed, its heads, and its shape.
use Rattle.std.proofs.Common.{◌≡◌, ℕ, zero, suc, ◌⊎◌, inl, inr, Some, List, [], ◌∷◌, refl, sym, ap, ap₂, ◌∙◌, subst}
use mathlib.Core.Path.{fun_ext}
use Rattle.lf_definitions.specs.Syntax.{LfHead, bound, constant, metavariable, LfTerm, lam, at, Spine, no_args, arg, SimpleType, base, arrow, arrows, arguments, arity, joined, lams}
use Rattle.lf_definitions.specs.Renaming.{next, Renaming, lifted, rename, rename_spine, next_by, lifted_by}
use Rattle.lf_definitions.specs.Shaping.{Scope, under, under_all, Shaped, shaped_at, ShapedSpine, shaped_arg}
use Rattle.lf_definitions.specs.Expansion.{own_variables, eta}
use Rattle.lf_definitions.specs.Occurrence.{OccursIn, occurs_head, occurs_args, occurs_lam, OccursInSpine, occurs_first, occurs_later}
use Rattle.lf_definitions.proofs.Renaming.{rename_spine-rename_spine, ShapedSpine-rename_spine}
use Rattle.lf_definitions.proofs.Expansion.{rename-lams, rename-eta, Shaped-lams, under_all-next_by, Knows, ShapedSpine-own_variables}
use Rattle.lf_definitions.proofs.Telescopes.{arguments-arrows}
use Rattle.head_laws.proofs.Heads.{next_inj, lifted-next}
use Rattle.head_laws.proofs.Occurrence.{came_term, came_spine}
use Rattle.typing_laws.specs.EtaLaws.{expanded}

-- the arguments of a spine under so many abstractions
abbrev args_under : ℕ → LfTerm → Spine
args_under zero (lam b) = no_args
args_under zero (at h ts) = ts
args_under (suc n) (lam b) = args_under n b
args_under (suc n) (at h ts) = no_args

args_under-lams : (n : ℕ) (h : LfHead) (ts : Spine) → args_under n (lams n (at h ts)) ≡ ts
args_under-lams zero h ts = refl
args_under-lams (suc n) h ts = args_under-lams n h ts

pub own_variables_renamed : (s : SimpleType) (ξ : Renaming) → rename_spine (lifted_by (arity s) ξ) (own_variables s) ≡ own_variables s
own_variables_renamed s ξ =
    let n = arity s in
    let k = next_by n (constant zero) in
    let own = own_variables s in
    sym (args_under-lams n (lifted_by n ξ k) (rename_spine (lifted_by n ξ) own))
    ∙ ap (args_under n) (sym (rename-lams n ξ (at k own)) ∙ rename-eta ξ (constant zero) s)
    ∙ args_under-lams n (next_by n (ξ (constant zero))) own

rename_spine-joined : (us ws : Spine) (ξ : Renaming) → rename_spine ξ (joined us ws) ≡ joined (rename_spine ξ us) (rename_spine ξ ws)
rename_spine-joined no_args ws ξ = refl
rename_spine-joined (arg u us) ws ξ = ap (arg (rename ξ u)) (rename_spine-joined us ws ξ)

lifted_by-next_by : (n : ℕ) (ξ : Renaming) (h : LfHead) → lifted_by n ξ (next_by n h) ≡ next_by n (ξ h)
lifted_by-next_by zero ξ h = refl
lifted_by-next_by (suc n) ξ h = lifted_by-next_by n (lifted ξ) (next h) ∙ ap (next_by n) (lifted-next ξ h)

raised_args : (n : ℕ) (ξ : Renaming) (ts : Spine) → rename_spine (lifted_by n ξ) (rename_spine (next_by n) ts) ≡ rename_spine (next_by n) (rename_spine ξ ts)
raised_args n ξ ts =
    rename_spine-rename_spine ts (lifted_by n ξ) (next_by n) ∙ ap (λ θ. rename_spine θ ts) (fun_ext (lifted_by-next_by n ξ)) ∙ sym (rename_spine-rename_spine ts (next_by n) ξ)

pub rename-expanded : (ξ : Renaming) (h : LfHead) (ts : Spine) (s : SimpleType) → rename ξ (expanded h ts s) ≡ expanded (ξ h) (rename_spine ξ ts) s
rename-expanded ξ h ts s =
    let n = arity s in
    rename-lams n ξ (at (next_by n h) (joined (rename_spine (next_by n) ts) (own_variables s)))
    ∙ ap₂ (λ k us. lams n (at k us)) (lifted_by-next_by n ξ h)
    (rename_spine-joined (rename_spine (next_by n) ts) (own_variables s) (lifted_by n ξ) ∙ ap₂ joined (raised_args n ξ ts) (own_variables_renamed s ξ))

-- Heads that occur under abstractions.
heads_under_lams : (n : ℕ) (h : LfHead) (b : LfTerm) → OccursIn h (lams n b) → OccursIn (next_by n h) b
heads_under_lams zero h b o = o
heads_under_lams (suc n) h b (occurs_lam _ _ o) = heads_under_lams n (next h) b o

heads_from_under_lams : (n : ℕ) (h : LfHead) (b : LfTerm) → OccursIn (next_by n h) b → OccursIn h (lams n b)
heads_from_under_lams zero h b o = o
heads_from_under_lams (suc n) h b o = occurs_lam h (lams n b) (heads_from_under_lams n (next h) b o)

-- The eta-long form of a head has no other head from outside, since it is what a renaming of all heads to this one makes of itself.
pub head_of_eta : (x k : LfHead) (s : SimpleType) → OccursIn x (eta k s) → x ≡ k
head_of_eta x k s o = (came_term (eta k s) (λ h. k) x (subst (OccursIn x) (sym (rename-eta (λ h. k) k s)) o)).2

no_own_variable : (x : LfHead) (s : SimpleType) → OccursInSpine (next_by (arity s) x) (own_variables s) → ⊥
no_own_variable x s o = apart (sym (is (constant zero)) ∙ is (metavariable zero))
  where
    is : (k : LfHead) → x ≡ k
    is k = head_of_eta x k s (heads_from_under_lams (arity s) x (at (next_by (arity s) k) (own_variables s)) (occurs_args (next_by (arity s) x) (next_by (arity s) k) (own_variables s) o))

    apart : constant zero ≡ metavariable zero → ⊥
    apart e = cc

head_or_argument : (x k : LfHead) (ts : Spine) → OccursIn x (at k ts) → (x ≡ k) ⊎ OccursInSpine x ts
head_or_argument x k ts (occurs_head _ _) = inl refl
head_or_argument x k ts (occurs_args _ _ _ o) = inr o

in_first_or_second : (x : LfHead) (us ws : Spine) → OccursInSpine x (joined us ws) → OccursInSpine x us ⊎ OccursInSpine x ws
in_first_or_second x no_args ws o = inr o
in_first_or_second x (arg u us) ws (occurs_first _ _ _ o) = inl (occurs_first x u us o)
in_first_or_second x (arg u us) ws (occurs_later _ _ _ o) = either (in_first_or_second x us ws o)
  where
    either : OccursInSpine x us ⊎ OccursInSpine x ws → OccursInSpine x (arg u us) ⊎ OccursInSpine x ws
    either (inl p) = inl (occurs_later x u us p)
    either (inr p) = inr p

next_by_apart : (n : ℕ) (h k : LfHead) → next_by n h ≡ next_by n k → h ≡ k
next_by_apart zero h k e = e
next_by_apart (suc n) h k e = next_inj h k (next_by_apart n (next h) (next k) e)

pub heads_of_expanded : (x h : LfHead) (ts : Spine) (s : SimpleType) → OccursIn x (expanded h ts s) → (x ≡ h) ⊎ OccursInSpine x ts
heads_of_expanded x h ts s o =
    let n = arity s in
    either (head_or_argument (next_by n x) (next_by n h) (joined (rename_spine (next_by n) ts) (own_variables s))
    (heads_under_lams n x (at (next_by n h) (joined (rename_spine (next_by n) ts) (own_variables s))) o))
  where
    among : OccursInSpine (next_by (arity s) x) (rename_spine (next_by (arity s)) ts) ⊎ OccursInSpine (next_by (arity s) x) (own_variables s) → (x ≡ h) ⊎ OccursInSpine x ts
    among (inl p) =
        let c = came_spine ts (next_by (arity s)) (next_by (arity s) x) p in
        inr (subst (λ k. OccursInSpine k ts) (sym (next_by_apart (arity s) x c.0 c.2)) c.1)
    among (inr p) = absurd (no_own_variable x s p)

    either : (next_by (arity s) x ≡ next_by (arity s) h) ⊎ OccursInSpine (next_by (arity s) x) (joined (rename_spine (next_by (arity s)) ts) (own_variables s)) → (x ≡ h) ⊎ OccursInSpine x ts
    either (inl e) = inl (next_by_apart (arity s) x h e)
    either (inr p) = among (in_first_or_second (next_by (arity s) x) (rename_spine (next_by (arity s)) ts) (own_variables s) p)

-- It has the shape of what the head still takes.
Knows-own : (s : SimpleType) (Γ : Scope) → Knows (under_all (arguments s) Γ) s
Knows-own base Γ = tt
Knows-own (arrow a s) Γ = (under_all-next_by s (under a Γ) (bound zero), Knows-own s (under a Γ))

pub Shaped-own_variables : (front : List SimpleType) (Γ : Scope) → ShapedSpine (under_all front Γ) (own_variables (arrows front base)) (arrows front base)
Shaped-own_variables front Γ =
    subst (λ ss. ShapedSpine (under_all ss Γ) (own_variables (arrows front base)) (arrows front base)) (arguments-arrows front)
    (ShapedSpine-own_variables (arrows front base) (under_all (arguments (arrows front base)) Γ) (Knows-own (arrows front base) Γ))

ShapedSpine-joined : (front : List SimpleType) (us ws : Spine) (Θ : Scope) (s : SimpleType) → ShapedSpine Θ us (arrows front base) → ShapedSpine Θ ws s → ShapedSpine Θ (joined us ws) (arrows front s)
ShapedSpine-joined [] no_args ws Θ s p q = q
ShapedSpine-joined [] (arg u us) ws Θ s p q = elim p [ ]
ShapedSpine-joined (a ∷ front) no_args ws Θ s p q = elim p [ ]
ShapedSpine-joined (a ∷ front) (arg u us) ws Θ s (shaped_arg p ps) q = shaped_arg p (ShapedSpine-joined front us ws Θ s ps q)

pub Shaped-expanded : (Δ : Scope) (h : LfHead) (front : List SimpleType) (ts : Spine) (s : SimpleType) → Δ h ≡ Some (arrows front s) → ShapedSpine Δ ts (arrows front base) → Shaped Δ (expanded h ts s) s
Shaped-expanded Δ h front ts s known shaped =
    let n = arity s in
    let Θ = under_all (arguments s) Δ in
    Shaped-lams s Δ (at (next_by n h) (joined (rename_spine (next_by n) ts) (own_variables s)))
    (shaped_at (arrows front s) (under_all-next_by s Δ h ∙ known)
    (ShapedSpine-joined front (rename_spine (next_by n) ts) (own_variables s) Θ s
    (ShapedSpine-rename_spine shaped (next_by n) Θ (λ k c e. under_all-next_by s Δ k ∙ e))
    (ShapedSpine-own_variables s Θ (Knows-own s Δ))))
