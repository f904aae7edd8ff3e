-- What mentions no goal that is bound.
use Rattle.std.proofs.Common.{◌≡◌, ℕ, false, List, Option, Some, None, refl}
use Rattle.std.specs.Prelude.{is_some}
use Rattle.std.proofs.lemmas.Bool.{or_parts, or_from}
use Rattle.lf_definitions.specs.Syntax.{LfHead, bound, constant, metavariable, LfTerm, lam, at, Spine, no_args, arg}
use Rattle.lf_definitions.specs.Occurrence.{OccursIn, occurs_head, occurs_args, occurs_lam, OccursInSpine, occurs_first, occurs_later}
use Rattle.meta_goals.specs.Bindings.{LfBinding, binding_for}
use Rattle.meta_unify.specs.Mentions.{is_bound, mentions_bound, mentions_bound_among}

none_from : {A : Type 0} (o : Option A) → is_some o ≡ false → o ≡ None
none_from None e = refl
none_from (Some x) e = absurd cc

mutual
  pub full_term : (bindings : List LfBinding) (t : LfTerm) → mentions_bound bindings t ≡ false → (g : ℕ) → OccursIn (metavariable g) t → binding_for bindings g ≡ None
  full_term bindings (lam b) e g (occurs_lam _ _ o) = full_term bindings b e g o
  full_term bindings (at h ts) e g (occurs_head _ _) = none_from (binding_for bindings g) (or_parts (is_some (binding_for bindings g)) (mentions_bound_among bindings ts) e).0
  full_term bindings (at h ts) e g (occurs_args _ _ _ o) = full_spine bindings ts (or_parts (is_bound bindings h) (mentions_bound_among bindings ts) e).1 g o

  full_spine : (bindings : List LfBinding) (ts : Spine) → mentions_bound_among bindings ts ≡ false → (g : ℕ) → OccursInSpine (metavariable g) ts → binding_for bindings g ≡ None
  full_spine bindings no_args e g o = elim o [ ]
  full_spine bindings (arg t ts) e g (occurs_first _ _ _ o) = full_term bindings t (or_parts (mentions_bound bindings t) (mentions_bound_among bindings ts) e).0 g o
  full_spine bindings (arg t ts) e g (occurs_later _ _ _ o) = full_spine bindings ts (or_parts (mentions_bound bindings t) (mentions_bound_among bindings ts) e).1 g o

mutual
  nothing_in_term : (bindings : List LfBinding) (t : LfTerm) → ((g : ℕ) → OccursIn (metavariable g) t → ⊥) → mentions_bound bindings t ≡ false
  nothing_in_term bindings (lam b) none = nothing_in_term bindings b (λ g o. none g (occurs_lam (metavariable g) b o))
  nothing_in_term bindings (at h ts) none =
      or_from (is_bound bindings h) (mentions_bound_among bindings ts) (at_head h none) (nothing_among bindings ts (λ g o. none g (occurs_args (metavariable g) h ts o)))
    where
      at_head : (k : LfHead) → ((g : ℕ) → OccursIn (metavariable g) (at k ts) → ⊥) → is_bound bindings k ≡ false
      at_head (bound n) nothing = refl
      at_head (constant c) nothing = refl
      at_head (metavariable m) nothing = absurd (nothing m (occurs_head (metavariable m) ts))

  pub nothing_among : (bindings : List LfBinding) (ts : Spine) → ((g : ℕ) → OccursInSpine (metavariable g) ts → ⊥) → mentions_bound_among bindings ts ≡ false
  nothing_among bindings no_args none = refl
  nothing_among bindings (arg t ts) none =
      or_from (mentions_bound bindings t) (mentions_bound_among bindings ts) (nothing_in_term bindings t (λ g o. none g (occurs_first (metavariable g) t ts o)))
      (nothing_among bindings ts (λ g o. none g (occurs_later (metavariable g) t ts o)))
