-- Where a metavariable occurs, part by part.
use Rattle.std.proofs.Common.{◌≡◌, ◌↔◌, ℕ, zero, suc, ◌+◌, ◌<◌, ◌≤◌, Bool, true, false, IsTrue, List, [], ◌∷◌, ◌++◌, length, get_or, take, take_all, refl, sym, ap, ◌∙◌, subst, arith}
use Rattle.lf_definitions.specs.Syntax.{LfHead, metavariable, LfTerm, lam, at, Spine, no_args, arg, joined, LfType, family, pis, Context}
use Rattle.lf_definitions.specs.Occurrence.{OccursIn, occurs_head, occurs_args, occurs_lam, OccursInSpine, occurs_first, occurs_later, OccursInType, occurs_binder, occurs_rest, occurs_family, OccursInContext, occurs_entry, occurs_after}
use Rattle.lf_terms.specs.declared.term.Term.{Term}
use Rattle.lf_terms.specs.declared.ty.Ty.{Ty}
use Rattle.lf_terms.specs.Terms.{term_of, spine_of}
use Rattle.lf_terms.specs.Types.{type_of, types_of}
use Rattle.lf_terms.specs.Extents.{ExcludesMetavariables, InSpine, InContext}
use Rattle.lf_terms.proofs.Spines.{take_more_spine}
use Rattle.lf_terms.proofs.TypeLists.{types_of-take_more}

falsely : {A : Type 0} → IsTrue false → A
falsely h = absurd cc

-- No metavariable occurs.
pub none_in_spine : (g : ℕ) (ts : Spine) → ExcludesMetavariables (InSpine ts) → IsTrue false ↔ OccursInSpine (metavariable g) ts
none_in_spine g ts none = (falsely, λ o. absurd (none g o))

pub none_in_context : (g : ℕ) (ctx : Context) → ExcludesMetavariables (InContext ctx) → IsTrue false ↔ OccursInContext (metavariable g) ctx
none_in_context g ctx none = (falsely, λ o. absurd (none g o))

-- An abstraction, and a spine.
pub in_body : (g : ℕ) (t b : LfTerm) (found : Bool) → t ≡ lam b → IsTrue found ↔ OccursIn (metavariable g) b → IsTrue found ↔ OccursIn (metavariable g) t
in_body g t b found is here = subst (λ x. IsTrue found ↔ OccursIn (metavariable g) x) (sym is) (λ h. occurs_lam (metavariable g) b (here.0 h), λ o. here.1 (inside o))
  where
    inside : OccursIn (metavariable g) (lam b) → OccursIn (metavariable g) b
    inside (occurs_lam k c o) = o

pub at_its_head : (g : ℕ) (t : LfTerm) (k : LfHead) (ts : Spine) (found : Bool) → t ≡ at k ts → k ≡ metavariable g → found ≡ true → IsTrue found ↔ OccursIn (metavariable g) t
at_its_head g t k ts found is same told = (λ _. subst (OccursIn (metavariable g)) (sym is) (subst (λ h. OccursIn (metavariable g) (at h ts)) (sym same) (occurs_head (metavariable g) ts)), λ _. told)

pub in_its_args : (g : ℕ) (t : LfTerm) (k : LfHead) (ts : Spine) (found : Bool) → t ≡ at k ts → (k ≡ metavariable g → ⊥) → IsTrue found ↔ OccursInSpine (metavariable g) ts → IsTrue found ↔ OccursIn (metavariable g) t
in_its_args g t k ts found is other here =
    subst (λ x. IsTrue found ↔ OccursIn (metavariable g) x) (sym is) (λ h. occurs_args (metavariable g) k ts (here.0 h), λ o. here.1 (inside o refl))
  where
    inside : {h : LfHead} → OccursIn h (at k ts) → h ≡ metavariable g → OccursInSpine (metavariable g) ts
    inside (occurs_head h us) e = absurd (other e)
    inside (occurs_args h j us o) e = subst (λ x. OccursInSpine x ts) e o

-- The terms before a place, and the one at it.
not_in_none : {h : LfHead} → OccursInSpine h no_args → ⊥
not_in_none o = elim o [ ]

not_joined : (h : LfHead) (ts : Spine) (t : LfTerm) → (OccursInSpine h ts → ⊥) → (OccursIn h t → ⊥) → OccursInSpine h (joined ts (arg t no_args)) → ⊥
not_joined h no_args t before here (occurs_first k u us o) = here o
not_joined h no_args t before here (occurs_later k u us o) = not_in_none o
not_joined h (arg u us) t before here (occurs_first k v vs o) = before (occurs_first h u us o)
not_joined h (arg u us) t before here (occurs_later k v vs o) = not_joined h us t (λ p. before (occurs_later h u us p)) here o

module _ (g : ℕ) where
  abbrev M : LfHead
  M = metavariable g

  pub none_before_spine : OccursInSpine M no_args → ⊥
  none_before_spine = not_in_none

  pub not_yet_in_spine : (xs : List Term) (i : ℕ) (x : Term) → i < length xs → x ≡ get_or xs i x → (OccursInSpine M (spine_of (take i xs)) → ⊥) → (OccursIn M (term_of x) → ⊥) →
      OccursInSpine M (spine_of (take (i + 1) xs)) → ⊥
  not_yet_in_spine xs i x within is before here o =
      not_joined M (spine_of (take i xs)) (term_of x) before here (subst (OccursInSpine M) (take_more_spine xs i x within is) o)

  pub found_in_spine : (xs : List Term) (i : ℕ) (x : Term) → i < length xs → x ≡ get_or xs i x → OccursIn M (term_of x) → OccursInSpine M (spine_of xs)
  found_in_spine [] i x within is o = absurd (omega arith)
  found_in_spine (y ∷ xs) zero x within is o = occurs_first M (term_of y) (spine_of xs) (subst (λ z. OccursIn M (term_of z)) is o)
  found_in_spine (y ∷ xs) (suc i) x within is o = occurs_later M (term_of y) (spine_of xs) (found_in_spine xs i x (omega arith) is o)

  pub not_in_spine : (xs : List Term) (i : ℕ) (ts : Spine) → length xs ≤ i → spine_of xs ≡ ts → (OccursInSpine M (spine_of (take i xs)) → ⊥) → IsTrue false ↔ OccursInSpine M ts
  not_in_spine xs i ts end are none = (falsely, λ o. absurd (none (subst (OccursInSpine M) (sym (ap spine_of (take_all i xs end) ∙ are)) o)))

  -- The same of types, each in the scope of those before it.
  pub none_before_context : OccursInContext M [] → ⊥
  none_before_context o = elim o [ ]

  not_after : (bs : Context) (b : LfType) → (OccursInContext M bs → ⊥) → (OccursInType M b → ⊥) → OccursInContext M (bs ++ b ∷ []) → ⊥
  not_after [] b before here (occurs_entry k a rest o) = here o
  not_after [] b before here (occurs_after k a rest o) = none_before_context o
  not_after (c ∷ bs) b before here (occurs_entry k a rest o) = before (occurs_entry M c bs o)
  not_after (c ∷ bs) b before here (occurs_after k a rest o) = not_after bs b (λ p. before (occurs_after M c bs p)) here o

  pub not_yet_in_context : (xs : List Ty) (i : ℕ) (x : Ty) → i < length xs → x ≡ get_or xs i x → (OccursInContext M (types_of (take i xs)) → ⊥) → (OccursInType M (type_of x) → ⊥) →
      OccursInContext M (types_of (take (i + 1) xs)) → ⊥
  not_yet_in_context xs i x within is before here o =
      not_after (types_of (take i xs)) (type_of x) before here (subst (OccursInContext M) (types_of-take_more xs i x within is) o)

  pub found_in_context : (xs : List Ty) (i : ℕ) (x : Ty) → i < length xs → x ≡ get_or xs i x → OccursInType M (type_of x) → OccursInContext M (types_of xs)
  found_in_context [] i x within is o = absurd (omega arith)
  found_in_context (y ∷ xs) zero x within is o = occurs_entry M (type_of y) (types_of xs) (subst (λ z. OccursInType M (type_of z)) is o)
  found_in_context (y ∷ xs) (suc i) x within is o = occurs_after M (type_of y) (types_of xs) (found_in_context xs i x (omega arith) is o)

  pub not_in_context : (xs : List Ty) (i : ℕ) (ctx : Context) → length xs ≤ i → types_of xs ≡ ctx → (OccursInContext M (types_of (take i xs)) → ⊥) → IsTrue false ↔ OccursInContext M ctx
  not_in_context xs i ctx end are none = (falsely, λ o. absurd (none (subst (OccursInContext M) (sym (ap types_of (take_all i xs end) ∙ are)) o)))

  -- A type, of its binders and its arguments.
  in_binders : (bs : Context) (end : LfType) → OccursInContext M bs → OccursInType M (pis bs end)
  in_binders [] end o = absurd (none_before_context o)
  in_binders (b ∷ bs) end (occurs_entry k a rest o) = occurs_binder M b (pis bs end) o
  in_binders (b ∷ bs) end (occurs_after k a rest o) = occurs_rest M b (pis bs end) (in_binders bs end o)

  in_end : (bs : Context) (end : LfType) → OccursInType M end → OccursInType M (pis bs end)
  in_end [] end o = o
  in_end (b ∷ bs) end o = occurs_rest M b (pis bs end) (in_end bs end o)

  past_binders : (bs : Context) (f : ℕ) (args : Spine) → (OccursInContext M bs → ⊥) → OccursInType M (pis bs (family f args)) → OccursInSpine M args
  past_binders [] f args none (occurs_family k e us o) = o
  past_binders (b ∷ bs) f args none (occurs_binder k a c o) = absurd (none (occurs_entry M b bs o))
  past_binders (b ∷ bs) f args none (occurs_rest k a c o) = past_binders bs f args (λ p. none (occurs_after M b bs p)) o

  pub by_binders : (bs : Context) (f : ℕ) (args : Spine) (found : Bool) → found ≡ true → OccursInContext M bs → IsTrue found ↔ OccursInType M (pis bs (family f args))
  by_binders bs f args found told here = (λ _. in_binders bs (family f args) here, λ _. told)

  pub by_args : (bs : Context) (f : ℕ) (args : Spine) (found : Bool) → (OccursInContext M bs → ⊥) → IsTrue found ↔ OccursInSpine M args → IsTrue found ↔ OccursInType M (pis bs (family f args))
  by_args bs f args found none here = (λ h. in_end bs (family f args) (occurs_family M f args (here.0 h)), λ o. here.1 (past_binders bs f args none o))

  -- what a test that failed says
  pub refused : {A : Type 0} (b : Bool) → b ≡ false → IsTrue b ↔ A → A → ⊥
  refused b e here a = let yes : b ≡ true = here.1 a in cc
