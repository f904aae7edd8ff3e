-- The numbers that something mentions are those that occur in it.
use Rattle.std.proofs.Common.{◌≡◌, ◌⊎◌, inl, inr, ℕ, ◌+◌, ◌<◌, List, [], ◌∷◌, ◌++◌, length, get_or, take, refl, sym, ap, ◌∙◌, subst}
use Rattle.std.specs.Prelude.{Contains}
use Rattle.std.proofs.lemmas.List.{append_assoc, append-nil}
use Rattle.std.proofs.lemmas.List.Elements.{Contains-append_left, Contains-append_right, Contains-append_cases}
use Rattle.head_laws.proofs.Numbers.{Contains-here}
use Rattle.lf_definitions.specs.Syntax.{LfHead, bound, constant, metavariable, LfTerm, lam, at, Spine, no_args, arg, joined, LfType, pi, family, pis, Context}
use Rattle.lf_definitions.specs.Occurrence.{OccursIn, occurs_head, occurs_args, occurs_lam, OccursInSpine, occurs_first, occurs_later, OccursInType, occurs_binder, occurs_rest, occurs_family, OccursInContext, occurs_entry, occurs_after}
use Rattle.lf_terms.specs.declared.term.Term.{Term}
use Rattle.lf_terms.specs.declared.ty.Ty.{Ty}
use Rattle.lf_terms.specs.Terms.{term_of, spine_of}
use Rattle.lf_terms.specs.Types.{type_of, types_of}
use Rattle.lf_terms.specs.Extents.{ExcludesMetavariables, InSpine, InContext}
use Rattle.lf_terms.proofs.Spines.{take_more_spine}
use Rattle.lf_terms.proofs.TypeLists.{types_of-take_more}
use Rattle.clusters.proofs.Elements.{contains_cases, contains_none}
use Rattle.goal_clusters.specs.Mentioned.{number_of_head, numbers_in, numbers_in_spine, numbers_in_type, numbers_in_context}

-- What is mentioned occurs.
head_number : (h : LfHead) (m : ℕ) → Contains (number_of_head h) m → h ≡ metavariable m
head_number (bound n) m has = absurd (contains_none m has)
head_number (constant c) m has = absurd (contains_none m has)
head_number (metavariable k) m has = step (contains_cases k [] m has)
  where
    step : (k ≡ m) ⊎ Contains [] m → metavariable k ≡ metavariable m
    step (inl same) = ap metavariable same
    step (inr none) = absurd (contains_none m none)

mutual
  pub occurs_by_number : (t : LfTerm) (m : ℕ) → Contains (numbers_in t) m → OccursIn (metavariable m) t
  occurs_by_number (lam b) m has = occurs_lam (metavariable m) b (occurs_by_number b m has)
  occurs_by_number (at h ts) m has = each (Contains-append_cases (number_of_head h) (numbers_in_spine ts) m has) (occurs_by_number_spine ts m)
    where
      each : Contains (number_of_head h) m ⊎ Contains (numbers_in_spine ts) m → (Contains (numbers_in_spine ts) m → OccursInSpine (metavariable m) ts) → OccursIn (metavariable m) (at h ts)
      each (inl here) later = subst (λ k. OccursIn (metavariable m) (at k ts)) (sym (head_number h m here)) (occurs_head (metavariable m) ts)
      each (inr there) later = occurs_args (metavariable m) h ts (later there)

  pub occurs_by_number_spine : (ts : Spine) (m : ℕ) → Contains (numbers_in_spine ts) m → OccursInSpine (metavariable m) ts
  occurs_by_number_spine no_args m has = absurd (contains_none m has)
  occurs_by_number_spine (arg t ts) m has = each (Contains-append_cases (numbers_in t) (numbers_in_spine ts) m has) (occurs_by_number t m) (occurs_by_number_spine ts m)
    where
      each : Contains (numbers_in t) m ⊎ Contains (numbers_in_spine ts) m → (Contains (numbers_in t) m → OccursIn (metavariable m) t) → (Contains (numbers_in_spine ts) m → OccursInSpine (metavariable m) ts) →
          OccursInSpine (metavariable m) (arg t ts)
      each (inl here) first later = occurs_first (metavariable m) t ts (first here)
      each (inr there) first later = occurs_later (metavariable m) t ts (later there)

pub occurs_by_number_type : (a : LfType) (m : ℕ) → Contains (numbers_in_type a) m → OccursInType (metavariable m) a
occurs_by_number_type (pi a b) m has = each (Contains-append_cases (numbers_in_type a) (numbers_in_type b) m has) (occurs_by_number_type a m) (occurs_by_number_type b m)
  where
    each : Contains (numbers_in_type a) m ⊎ Contains (numbers_in_type b) m → (Contains (numbers_in_type a) m → OccursInType (metavariable m) a) → (Contains (numbers_in_type b) m → OccursInType (metavariable m) b) →
        OccursInType (metavariable m) (pi a b)
    each (inl here) first later = occurs_binder (metavariable m) a b (first here)
    each (inr there) first later = occurs_rest (metavariable m) a b (later there)
occurs_by_number_type (family f args) m has = occurs_family (metavariable m) f args (occurs_by_number_spine args m has)

occurs_by_number_context : (ctx : Context) (m : ℕ) → Contains (numbers_in_context ctx) m → OccursInContext (metavariable m) ctx
occurs_by_number_context [] m has = absurd (contains_none m has)
occurs_by_number_context (a ∷ rest) m has = each (Contains-append_cases (numbers_in_type a) (numbers_in_context rest) m has) (occurs_by_number_context rest m)
  where
    each : Contains (numbers_in_type a) m ⊎ Contains (numbers_in_context rest) m → (Contains (numbers_in_context rest) m → OccursInContext (metavariable m) rest) → OccursInContext (metavariable m) (a ∷ rest)
    each (inl here) later = occurs_entry (metavariable m) a rest (occurs_by_number_type a m here)
    each (inr there) later = occurs_after (metavariable m) a rest (later there)

-- What occurs is mentioned.
mutual
  number_by_occurrence : (t : LfTerm) (m : ℕ) → OccursIn (metavariable m) t → Contains (numbers_in t) m
  number_by_occurrence (lam b) m (occurs_lam _ _ o) = number_by_occurrence b m o
  number_by_occurrence (at h ts) m (occurs_head _ _) = Contains-append_left (m ∷ []) (numbers_in_spine ts) m (Contains-here m [])
  number_by_occurrence (at h ts) m (occurs_args _ _ _ o) = Contains-append_right (number_of_head h) (numbers_in_spine ts) m (number_by_occurrence_spine ts m o)

  number_by_occurrence_spine : (ts : Spine) (m : ℕ) → OccursInSpine (metavariable m) ts → Contains (numbers_in_spine ts) m
  number_by_occurrence_spine no_args m o = elim o [ ]
  number_by_occurrence_spine (arg t ts) m (occurs_first _ _ _ o) = Contains-append_left (numbers_in t) (numbers_in_spine ts) m (number_by_occurrence t m o)
  number_by_occurrence_spine (arg t ts) m (occurs_later _ _ _ o) = Contains-append_right (numbers_in t) (numbers_in_spine ts) m (number_by_occurrence_spine ts m o)

pub number_by_occurrence_type : (a : LfType) (m : ℕ) → OccursInType (metavariable m) a → Contains (numbers_in_type a) m
number_by_occurrence_type (pi a b) m (occurs_binder _ _ _ o) = Contains-append_left (numbers_in_type a) (numbers_in_type b) m (number_by_occurrence_type a m o)
number_by_occurrence_type (pi a b) m (occurs_rest _ _ _ o) = Contains-append_right (numbers_in_type a) (numbers_in_type b) m (number_by_occurrence_type b m o)
number_by_occurrence_type (family f args) m (occurs_family _ _ _ o) = number_by_occurrence_spine args m o

-- Where nothing occurs, nothing is mentioned.
none_contained : (ms : List ℕ) → ((m : ℕ) → Contains ms m → ⊥) → ms ≡ []
none_contained [] none = refl
none_contained (m ∷ ms) none = absurd (none m (Contains-here m ms))

pub nothing_in_spine : (ts : Spine) (ms : List ℕ) → ExcludesMetavariables (InSpine ts) → ms ≡ ms ++ numbers_in_spine ts
nothing_in_spine ts ms none = sym (ap (λ l. ms ++ l) (none_contained (numbers_in_spine ts) (λ m has. none m (occurs_by_number_spine ts m has))) ∙ append-nil ms)

pub nothing_in_context : (ctx : Context) (ms : List ℕ) → ExcludesMetavariables (InContext ctx) → ms ≡ ms ++ numbers_in_context ctx
nothing_in_context ctx ms none = sym (ap (λ l. ms ++ l) (none_contained (numbers_in_context ctx) (λ m has. none m (occurs_by_number_context ctx m has))) ∙ append-nil ms)

-- one term more
numbers_in-joined : (ts : Spine) (t : LfTerm) → numbers_in_spine (joined ts (arg t no_args)) ≡ numbers_in_spine ts ++ numbers_in t
numbers_in-joined no_args t = append-nil (numbers_in t)
numbers_in-joined (arg u ts) t = ap (λ l. numbers_in u ++ l) (numbers_in-joined ts t) ∙ sym (append_assoc (numbers_in u) (numbers_in_spine ts) (numbers_in t))

pub one_more_term : (xs : List Term) (i : ℕ) (x : Term) (first now new : List ℕ) → i < length xs → x ≡ get_or xs i x → now ≡ first ++ numbers_in_spine (spine_of (take i xs)) →
    new ≡ now ++ numbers_in (term_of x) → new ≡ first ++ numbers_in_spine (spine_of (take (i + 1) xs))
one_more_term xs i x first now new within is before here =
    here ∙ ap (λ l. l ++ numbers_in (term_of x)) before ∙ append_assoc first (numbers_in_spine (spine_of (take i xs))) (numbers_in (term_of x))
    ∙ ap (λ l. first ++ l) (sym (ap numbers_in_spine (take_more_spine xs i x within is) ∙ numbers_in-joined (spine_of (take i xs)) (term_of x)))

-- one type more
numbers_in-last : (bs : Context) (b : LfType) → numbers_in_context (bs ++ b ∷ []) ≡ numbers_in_context bs ++ numbers_in_type b
numbers_in-last [] b = append-nil (numbers_in_type b)
numbers_in-last (a ∷ bs) b = ap (λ l. numbers_in_type a ++ l) (numbers_in-last bs b) ∙ sym (append_assoc (numbers_in_type a) (numbers_in_context bs) (numbers_in_type b))

pub one_more_type : (xs : List Ty) (i : ℕ) (x : Ty) (first now new : List ℕ) → i < length xs → x ≡ get_or xs i x → now ≡ first ++ numbers_in_context (types_of (take i xs)) →
    new ≡ now ++ numbers_in_type (type_of x) → new ≡ first ++ numbers_in_context (types_of (take (i + 1) xs))
one_more_type xs i x first now new within is before here =
    here ∙ ap (λ l. l ++ numbers_in_type (type_of x)) before ∙ append_assoc first (numbers_in_context (types_of (take i xs))) (numbers_in_type (type_of x))
    ∙ ap (λ l. first ++ l) (sym (ap numbers_in_context (types_of-take_more xs i x within is) ∙ numbers_in-last (types_of (take i xs)) (type_of x)))

-- A type mentions what its binders and its arguments do.
numbers_in-pis : (bs : Context) (f : ℕ) (args : Spine) → numbers_in_type (pis bs (family f args)) ≡ numbers_in_context bs ++ numbers_in_spine args
numbers_in-pis [] f args = refl
numbers_in-pis (b ∷ bs) f args = ap (λ l. numbers_in_type b ++ l) (numbers_in-pis bs f args) ∙ sym (append_assoc (numbers_in_type b) (numbers_in_context bs) (numbers_in_spine args))

pub binders_and_args : (bs : Context) (f : ℕ) (args : Spine) (first now new : List ℕ) → now ≡ first ++ numbers_in_context bs → new ≡ now ++ numbers_in_spine args → new ≡ first ++ numbers_in_type (pis bs (family f args))
binders_and_args bs f args first now new before here =
    here ∙ ap (λ l. l ++ numbers_in_spine args) before ∙ append_assoc first (numbers_in_context bs) (numbers_in_spine args) ∙ ap (λ l. first ++ l) (sym (numbers_in-pis bs f args))
