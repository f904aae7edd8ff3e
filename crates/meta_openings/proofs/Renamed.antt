-- Renamed terms and types under local binders.
use Rattle.std.proofs.Common.{◌≡◌, ℕ, zero, suc, ◌+◌, ◌-◌, ◌<◌, ◌≤◌, ◌⊎◌, inl, inr, List, [], ◌∷◌, ◌++◌, length, get_or, take, refl, sym, ap, ap₂, ◌∙◌, arith, take_all}
use Rattle.lf_definitions.specs.Syntax.{LfHead, bound, constant, metavariable, LfTerm, lam, Spine, no_args, arg, joined, LfType, family, pis, Context}
use Rattle.lf_definitions.specs.Renaming.{next, Renaming, lifted, rename, rename_spine, rename_type, rename_context, next_by, lifted_by}
use Rattle.lf_definitions.proofs.Renaming.{same_head, rename_spine-same_head, rename_type-same_head}
use Rattle.lf_definitions.proofs.Telescopes.{next_by-bound}
use Rattle.lf_definitions.proofs.TypedSpines.{rename_context-append}
use Rattle.lf_definitions.proofs.Weakening.{rename_type-pis}
use Rattle.head_laws.proofs.Heads.{lifted-next}
use Rattle.head_laws.proofs.Occurrence.{rename_spine-agree, rename_type-agree}
use Rattle.lf_terms.specs.declared.term.Term.{Term}
use Rattle.lf_terms.specs.declared.ty.Ty.{Ty}
use Rattle.lf_terms.specs.Extents.{StaysWithin, InSpine, InType}
use Rattle.lf_terms.specs.Terms.{term_of, spine_of}
use Rattle.lf_terms.specs.Types.{type_of, types_of}
use Rattle.lf_terms.proofs.Spines.{take_more_spine, spine_of-append}
use Rattle.lf_terms.proofs.TypeLists.{length-types_of, types_of-append, types_of-take_more}
use Rattle.meta_openings.specs.Counts.{by_counts}

pub lifted_by-lifted : (n : ℕ) (ξ : Renaming) → lifted_by n (lifted ξ) ≡ lifted (lifted_by n ξ)
lifted_by-lifted zero ξ = refl
lifted_by-lifted (suc n) ξ = lifted_by-lifted n (lifted ξ)

pub lifted_by-one_more : (n : ℕ) (ξ : Renaming) → lifted_by (n + 1) ξ ≡ lifted (lifted_by n ξ)
lifted_by-one_more n ξ = let more : n + 1 ≡ suc n = omega arith in ap (λ k. lifted_by k ξ) more ∙ lifted_by-lifted n ξ

pub lifted_by-sum : (n i : ℕ) (ξ : Renaming) → lifted_by (n + i) ξ ≡ lifted_by i (lifted_by n ξ)
lifted_by-sum zero i ξ = let same : zero + i ≡ i = omega arith in ap (λ k. lifted_by k ξ) same
lifted_by-sum (suc n) i ξ = let same : suc n + i ≡ suc (n + i) = omega arith in ap (λ k. lifted_by k ξ) same ∙ lifted_by-sum n i (lifted ξ)

passed_binders : (n : ℕ) (ξ : Renaming) (h : LfHead) → lifted_by n ξ (next_by n h) ≡ next_by n (ξ h)
passed_binders zero ξ h = refl
passed_binders (suc n) ξ h = passed_binders n (lifted ξ) (next h) ∙ ap (next_by n) (lifted-next ξ h)

local_stays : (depth n : ℕ) (ξ : Renaming) → n < depth → lifted_by depth ξ (bound n) ≡ bound n
local_stays zero n ξ small = absurd (omega (arith, small))
local_stays (suc depth) zero ξ small = ap (λ θ. θ (bound zero)) (lifted_by-lifted depth ξ)
local_stays (suc depth) (suc n) ξ small =
    ap (λ θ. θ (bound (suc n))) (lifted_by-lifted depth ξ) ∙ ap next (local_stays depth n ξ (omega (arith, small)))

global_stays : (depth : ℕ) (ξ : Renaming) (h : LfHead) → next h ≡ h → ξ h ≡ h → lifted_by depth ξ h ≡ h
global_stays zero ξ h same stays = stays
global_stays (suc depth) ξ h same stays =
    global_stays depth (lifted ξ) h same (ap (lifted ξ) (sym same) ∙ lifted-next ξ h ∙ ap next stays ∙ same)

module _ (before : List ℕ) (count : ℕ) where
  abbrev Numbers : ℕ → Renaming
  Numbers depth = lifted_by depth (by_counts before count)

  pub renamed_local : (depth n : ℕ) → n < depth → bound n ≡ Numbers depth (bound n)
  renamed_local depth n small = sym (local_stays depth n (by_counts before count) small)

  pub renamed_constant : (depth c : ℕ) → constant c ≡ Numbers depth (constant c)
  renamed_constant depth c = sym (global_stays depth (by_counts before count) (constant c) refl refl)

  pub renamed_metavariable : (depth g : ℕ) → metavariable g ≡ Numbers depth (metavariable g)
  renamed_metavariable depth g = sym (global_stays depth (by_counts before count) (metavariable g) refl refl)

  pub renamed_outside : (depth number new : ℕ) → depth ≤ number → bound new ≡ by_counts before count (bound (number - depth)) → bound (depth + new) ≡ Numbers depth (bound number)
  renamed_outside depth number new far is =
      let there : bound number ≡ next_by depth (bound (number - depth)) = ap bound (omega (arith, far)) ∙ sym (next_by-bound depth (number - depth)) in
      sym (ap (Numbers depth) there ∙ passed_binders depth (by_counts before count) (bound (number - depth)) ∙ ap (next_by depth) (sym is) ∙ next_by-bound depth new)

  below_or_not : (n depth : ℕ) → (n < depth) ⊎ (depth ≤ n)
  below_or_not n depth = grind arith

  within_stays : (depth : ℕ) (Occurring : LfHead → Type 0) → StaysWithin depth Occurring → (h : LfHead) → Occurring h → Numbers depth h ≡ same_head h
  within_stays depth Occurring inside (bound n) o = either (below_or_not n depth)
    where
      either : (n < depth) ⊎ (depth ≤ n) → Numbers depth (bound n) ≡ bound n
      either (inl small) = sym (renamed_local depth n small)
      either (inr far) = absurd (inside n far o)
  within_stays depth Occurring inside (constant c) o = sym (renamed_constant depth c)
  within_stays depth Occurring inside (metavariable g) o = sym (renamed_metavariable depth g)

  -- What is within the local binders is shared.
  pub spine_within : (depth : ℕ) (ts : Spine) → StaysWithin depth (InSpine ts) → ts ≡ rename_spine (Numbers depth) ts
  spine_within depth ts inside = sym (rename_spine-agree ts (Numbers depth) same_head (within_stays depth (InSpine ts) inside) ∙ rename_spine-same_head ts)

  pub type_within : (depth : ℕ) (a : LfType) → StaysWithin depth (InType a) → a ≡ rename_type (Numbers depth) a
  type_within depth a inside = sym (rename_type-agree a (Numbers depth) same_head (within_stays depth (InType a) inside) ∙ rename_type-same_head a)

  pub renamed_lam : (depth : ℕ) (t b r : LfTerm) → t ≡ lam b → r ≡ rename (Numbers (depth + 1)) b → lam r ≡ rename (Numbers depth) t
  renamed_lam depth t b r is made =
      ap lam (made ∙ ap (λ θ. rename θ b) (lifted_by-one_more depth (by_counts before count))) ∙ ap (rename (Numbers depth)) (sym is)

  -- One term more.
  pub more_renamed : (depth : ℕ) (items results new : List Term) (i : ℕ) (x r : Term) → i < length items → x ≡ get_or items i x → new ≡ results ++ r ∷ [] →
      term_of r ≡ rename (Numbers depth) (term_of x) → spine_of results ≡ rename_spine (Numbers depth) (spine_of (take i items)) →
      spine_of new ≡ rename_spine (Numbers depth) (spine_of (take (i + 1) items))
  more_renamed depth items results new i x r within is pushed made sofar =
      ap spine_of pushed ∙ spine_of-append results r ∙ ap₂ (λ ts t. joined ts (arg t no_args)) sofar made
      ∙ sym (ap (rename_spine (Numbers depth)) (take_more_spine items i x within is) ∙ renamed_joined (spine_of (take i items)))
    where
      renamed_joined : (ts : Spine) → rename_spine (Numbers depth) (joined ts (arg (term_of x) no_args)) ≡ joined (rename_spine (Numbers depth) ts) (arg (rename (Numbers depth) (term_of x)) no_args)
      renamed_joined no_args = refl
      renamed_joined (arg t ts) = ap (arg (rename (Numbers depth) t)) (renamed_joined ts)

  pub all_renamed : (depth : ℕ) (items results : List Term) (i : ℕ) (ts : Spine) → length items ≤ i → spine_of items ≡ ts →
      spine_of results ≡ rename_spine (Numbers depth) (spine_of (take i items)) → spine_of results ≡ rename_spine (Numbers depth) ts
  all_renamed depth items results i ts all are made = made ∙ ap (λ xs. rename_spine (Numbers depth) (spine_of xs)) (take_all i items all) ∙ ap (rename_spine (Numbers depth)) are

  taken : {X : Type 0} (xs : List X) (i : ℕ) → i ≤ length xs → length (take i xs) ≡ i
  taken xs zero within = refl
  taken [] (suc i) within = absurd (omega arith)
  taken (x ∷ xs) (suc i) within = ap suc (taken xs i (omega arith))

  -- One binder more.
  pub more_renamed_binders : (depth : ℕ) (items results new : List Ty) (i : ℕ) (x r : Ty) → i < length items → x ≡ get_or items i x → new ≡ results ++ r ∷ [] →
      type_of r ≡ rename_type (Numbers (depth + i)) (type_of x) → types_of results ≡ rename_context (Numbers depth) (types_of (take i items)) →
      types_of new ≡ rename_context (Numbers depth) (types_of (take (i + 1) items))
  more_renamed_binders depth items results new i x r within is pushed made sofar =
      let prefix = types_of (take i items) in
      let places : length prefix ≡ i = length-types_of (take i items) ∙ taken items i (omega (arith, within)) in
      let deep : Numbers (depth + i) ≡ lifted_by (length prefix) (Numbers depth) = lifted_by-sum depth i (by_counts before count) ∙ ap (λ n. lifted_by n (Numbers depth)) (sym places) in
      ap types_of pushed ∙ types_of-append results r ∙ ap₂ (λ l t. l ++ t ∷ []) sofar (made ∙ ap (λ θ. rename_type θ (type_of x)) deep)
      ∙ sym (ap (rename_context (Numbers depth)) (types_of-take_more items i x within is) ∙ rename_context-append prefix (type_of x ∷ []) (Numbers depth))

  pub type_renamed : (depth : ℕ) (items : List Ty) (results binders made : Context) (i f : ℕ) (ts us : Spine) → i ≡ length items → types_of items ≡ binders → made ≡ results →
      results ≡ rename_context (Numbers depth) (types_of (take i items)) → us ≡ rename_spine (Numbers (depth + length items)) ts →
      pis made (family f us) ≡ rename_type (Numbers depth) (pis binders (family f ts))
  type_renamed depth items results binders made i f ts us all are made_is sofar args =
      let whole : types_of (take i items) ≡ binders = ap types_of (take_all i items (omega (arith, all))) ∙ are in
      let count_is : length items ≡ length binders = sym (length-types_of items) ∙ ap length are in
      ap₂ (λ bs ws. pis bs (family f ws)) (made_is ∙ sofar ∙ ap (rename_context (Numbers depth)) whole)
      (args ∙ ap (λ θ. rename_spine θ ts) (lifted_by-sum depth (length items) (by_counts before count) ∙ ap (λ n. lifted_by n (Numbers depth)) count_is))
      ∙ sym (rename_type-pis (Numbers depth) binders (family f ts))
