-- Terms that are typed over a signature, under so many variables, are printable where no metavariable occurs in them.
use Rattle.std.proofs.Common.{◌≡◌, ◌≢◌, ℕ, zero, suc, ◌<◌, Option, Some, None, List, [], ◌∷◌, length, refl, subst, arith}
use Rattle.std.specs.Prelude.{option_map}
use Rattle.lf_definitions.specs.Syntax.{LfHead, bound, constant, metavariable, LfTerm, at, Spine, LfType, pis, family}
use Rattle.lf_definitions.specs.Renaming.{raise_type}
use Rattle.lf_definitions.specs.Substitution.{Replacement}
use Rattle.lf_definitions.specs.Occurrence.{OccursIn, occurs_head, occurs_args, occurs_lam, OccursInSpine, occurs_first, occurs_later}
use Rattle.lf_definitions.specs.Typing.{Typing, with_variable, Typed, typed_lam, typed_at, TypedSpine, typed_none, typed_arg, type_at}
use Rattle.lf_definitions.specs.Signatures.{LfSignature, family_entry, constant_entry, constant_names, constant_types, typing_in}
use Rattle.file_print.specs.Printable.{IsPrintableHead, IsPrintable, ArePrintable}

constant_within : (sig : LfSignature) (c : ℕ) (a : LfType) → type_at (constant_types sig) c ≡ Some a → c < length (constant_names sig)
constant_within [] c a e = absurd cc
constant_within (family_entry name kind ∷ sig) c a e = constant_within sig c a e
constant_within (constant_entry name type ∷ sig) zero a e = omega arith
constant_within (constant_entry name type ∷ sig) (suc c) a e = let r = constant_within sig c a e in omega (arith, r)

-- no metavariable occurs in a term, or in a spine
abbrev pub HasNone : LfTerm → Type 0
HasNone t = (m : ℕ) → OccursIn (metavariable m) t → ⊥

abbrev HasNoneInSpine : Spine → Type 0
HasNoneInSpine ts = (m : ℕ) → OccursInSpine (metavariable m) ts → ⊥

module _ (sig : LfSignature) where
  -- Each head that has a type, and is no metavariable, is printable.
  abbrev KnowsPrintable : ℕ → Typing → Type 0
  KnowsPrintable depth Γ = (h : LfHead) (a : LfType) → Γ h ≡ Some a → ((m : ℕ) → h ≢ metavariable m) → IsPrintableHead sig depth h

  one_more_variable : (depth : ℕ) (Γ : Typing) (a : LfType) → KnowsPrintable depth Γ → KnowsPrintable (suc depth) (with_variable a Γ)
  one_more_variable depth Γ a known (bound zero) b e other = omega arith
  one_more_variable depth Γ a known (bound (suc n)) b e other = step (Γ (bound n)) refl e
    where
      step : (o : Option LfType) → Γ (bound n) ≡ o → option_map raise_type o ≡ Some b → suc n < suc depth
      step None is e = absurd cc
      step (Some c) is e = let r : n < depth = known (bound n) c is (λ m same. absurd cc) in omega (arith, r)
  one_more_variable depth Γ a known (constant c) b e other = known (constant c) b e other
  one_more_variable depth Γ a known (metavariable g) b e other = absurd (other g refl)

  mutual
    typed_printable : (depth : ℕ) {Γ : Typing} {t : LfTerm} {a : LfType} → KnowsPrintable depth Γ → Typed Γ t a → HasNone t → IsPrintable sig depth t
    typed_printable depth {Γ = Γ} known (typed_lam {b = b} {a = a} body) none =
        typed_printable (suc depth) (one_more_variable depth Γ a known) body (λ m o. none m (occurs_lam (metavariable m) b o))
    typed_printable depth known (typed_at {h = h} {ts = ts} {f = f} binders args is spine substituted) none = (
      known h (pis binders (family f args)) is (λ m same. none m (subst (λ k. OccursIn k (at h ts)) same (occurs_head h ts))),
      spine_printable depth known spine (λ m o. none m (occurs_args (metavariable m) h ts o)),
    )

    spine_printable : (depth : ℕ) {Γ : Typing} {σ : Replacement} {ts : Spine} {binders : List LfType} → KnowsPrintable depth Γ → TypedSpine Γ σ ts binders → HasNoneInSpine ts → ArePrintable sig depth ts
    spine_printable depth known typed_none none = tt
    spine_printable depth known (typed_arg {t = t} {ts = ts} c substituted first later) none = (
      typed_printable depth known first (λ m o. none m (occurs_first (metavariable m) t ts o)),
      spine_printable depth known later (λ m o. none m (occurs_later (metavariable m) t ts o)),
    )

  -- With no variables, only constants have types.
  constants_known : KnowsPrintable 0 (typing_in sig [] [])
  constants_known (bound n) a e other = absurd cc
  constants_known (constant c) a e other = constant_within sig c a e
  constants_known (metavariable g) a e other = absurd (other g refl)

  pub closed_terms_are_printable : {t : LfTerm} {a : LfType} → Typed (typing_in sig [] []) t a → HasNone t → IsPrintable sig 0 t
  closed_terms_are_printable typed none = typed_printable 0 constants_known typed none
