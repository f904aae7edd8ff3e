-- What is kept of the heads that occur, for what is put together of parts, and for what it spares.
use Rattle.std.proofs.Common.{◌≡◌, ◌⊎◌, inl, inr, ℕ, zero, suc, ◌+◌, ◌<◌, ◌≤◌, List, [], ◌∷◌, ◌++◌, length, get_or, take, refl, sym, ap, ◌∙◌, subst, arith}
use Rattle.lf_definitions.specs.Syntax.{LfHead, bound, constant, metavariable, LfTerm, lam, at, Spine, no_args, arg, joined, LfType, pi, family, pis}
use Rattle.lf_definitions.specs.Renaming.{next, next_by}
use Rattle.lf_definitions.specs.Occurrence.{occurs_head, occurs_args, occurs_lam, occurs_first, occurs_later, occurs_binder, occurs_rest, occurs_family, occurs_entry, occurs_after}
use Rattle.lf_definitions.specs.Substitution.{stays, rename_image, Replacement, up, push_all, Substituted, substituted_lam, substituted_stays, SubstitutedSpine, substituted_none, substituted_arg, SubstitutedType, substituted_pi, substituted_family}
use Rattle.lf_definitions.proofs.Telescopes.{next_by-bound, next_by-metavariable, up_by-bound_small}
use Rattle.lf_terms.specs.declared.extent.Extent.{Extent}
use Rattle.lf_terms.specs.declared.term.Term.{Term}
use Rattle.lf_terms.specs.declared.ty.Ty.{Ty}
use Rattle.lf_terms.specs.Extents.{Covers, IsWider, IsOutside, StaysWithin, InTerm, InSpine, InType, InContext, IsHead, no_bound}
use Rattle.lf_terms.specs.Terms.{term_of, spine_of}
use Rattle.lf_terms.specs.Types.{type_of, types_of}
use Rattle.lf_terms.specs.Putting.{putting}
use Rattle.lf_terms.proofs.Spines.{take_more_spine}
use Rattle.lf_terms.proofs.TypeLists.{types_of-take_more}
use Rattle.lf_terms.proofs.Putting.{put_constant, put_metavariable}

-- What is kept may be of more than what occurs.
pub covers_part : (e : Extent) (Whole Part : LfHead → Type 0) → ((h : LfHead) → Part h → Whole h) → Covers e Whole → Covers e Part
covers_part e Whole Part part c =
    record {
      variables = λ small n far here. c.variables small n far (part (bound n) here);
      metavariables = λ none g here. c.metavariables none g (part (metavariable g) here);
    }

pub covers_wider : (a b : Extent) (Occurring : LfHead → Type 0) → IsWider a b → Covers a Occurring → Covers b Occurring
covers_wider a b Occurring wider c =
    record {
      variables = λ small n far here. c.variables (omega (arith, wider.reach_grows)) n (omega (arith, wider.reach_grows)) here;
      metavariables = λ none g here. c.metavariables (wider.metas_grow none) g here;
    }

pub covers_either : (e : Extent) (Whole One Other : LfHead → Type 0) → ((h : LfHead) → Whole h → One h ⊎ Other h) → Covers e One → Covers e Other → Covers e Whole
covers_either e Whole One Other split c d =
    record {
      variables = λ small n far here. either (c.variables small n far) (d.variables small n far) (split (bound n) here);
      metavariables = λ none g here. either (c.metavariables none g) (d.metavariables none g) (split (metavariable g) here);
    }
  where
    either : {A B : Type 0} → (A → ⊥) → (B → ⊥) → A ⊎ B → ⊥
    either f g (inl a) = f a
    either f g (inr b) = g b

pub covers_both : (a b e : Extent) (Whole One Other : LfHead → Type 0) → IsWider a e → IsWider b e → ((h : LfHead) → Whole h → One h ⊎ Other h) → Covers a One → Covers b Other → Covers e Whole
covers_both a b e Whole One Other first second split c d =
    covers_either e Whole One Other split (covers_wider a e One first c) (covers_wider b e Other second d)

pub covers_outside : (inside e : Extent) (count : ℕ) (Occurring : LfHead → Type 0) → IsOutside inside count e → Covers inside Occurring → Covers e (λ h. Occurring (next_by count h))
covers_outside inside e count Occurring outside c =
    record {
      variables = λ small n far here.
          let falls = outside.reach_falls small in
          c.variables falls.0 (count + n) (omega (arith, falls.1)) (subst Occurring (next_by-bound count n) here);
      metavariables = λ none g here. c.metavariables (sym outside.metas_stay ∙ none) g (subst Occurring (next_by-metavariable count g) here);
    }

-- What is kept of nothing.
pub covers_nothing : (e : Extent) (Occurring : LfHead → Type 0) → ((h : LfHead) → Occurring h → ⊥) → Covers e Occurring
covers_nothing e Occurring nothing = record { variables = λ small n far here. nothing (bound n) here; metavariables = λ none g here. nothing (metavariable g) here }

-- A term.
in_lam : (b : LfTerm) (h : LfHead) → InTerm (lam b) h → InTerm b (next h)
in_lam b h (occurs_lam k c o) = o

in_at : (k : LfHead) (ts : Spine) (h : LfHead) → InTerm (at k ts) h → IsHead k h ⊎ InSpine ts h
in_at k ts h (occurs_head i us) = inl refl
in_at k ts h (occurs_args i j us o) = inr o

pub covers_lam : (inside e : Extent) (t b : LfTerm) → t ≡ lam b → IsOutside inside 1 e → Covers inside (InTerm b) → Covers e (InTerm t)
covers_lam inside e t b is outside c =
    subst (λ u. Covers e (InTerm u)) (sym is) (covers_part e (λ h. InTerm b (next_by 1 h)) (InTerm (lam b)) (in_lam b) (covers_outside inside e 1 (InTerm b) outside c))

pub covers_at : (a b e : Extent) (t : LfTerm) (k : LfHead) (ts : Spine) → t ≡ at k ts → IsWider a e → IsWider b e → Covers a (IsHead k) → Covers b (InSpine ts) → Covers e (InTerm t)
covers_at a b e t k ts is first second c d = subst (λ u. Covers e (InTerm u)) (sym is) (covers_both a b e (InTerm (at k ts)) (IsHead k) (InSpine ts) first second (in_at k ts) c d)

-- A list of terms.
in_no_args : (h : LfHead) → InSpine no_args h → ⊥
in_no_args h = elim [ ]

in_last : (ts : Spine) (t : LfTerm) (h : LfHead) → InSpine (joined ts (arg t no_args)) h → InSpine ts h ⊎ InTerm t h
in_last no_args t h (occurs_first i u us o) = inr o
in_last no_args t h (occurs_later i u us o) = absurd (in_no_args h o)
in_last (arg u us) t h (occurs_first i v vs o) = inl (occurs_first h u us o)
in_last (arg u us) t h (occurs_later i v vs o) = later (in_last us t h o)
  where
    later : InSpine us h ⊎ InTerm t h → InSpine (arg u us) h ⊎ InTerm t h
    later (inl p) = inl (occurs_later h u us p)
    later (inr p) = inr p

pub covers_none : (e : Extent) → Covers e (InSpine no_args)
covers_none e = covers_nothing e (InSpine no_args) in_no_args

pub covers_more : (a b e : Extent) (xs : List Term) (i : ℕ) (x : Term) → i < length xs → x ≡ get_or xs i x → IsWider a e → IsWider b e →
    Covers a (InSpine (spine_of (take i xs))) → Covers b (InTerm (term_of x)) → Covers e (InSpine (spine_of (take (i + 1) xs)))
covers_more a b e xs i x within is first second c d =
    let ts = spine_of (take i xs) in
    subst (λ us. Covers e (InSpine us)) (sym (take_more_spine xs i x within is))
    (covers_both a b e (InSpine (joined ts (arg (term_of x) no_args))) (InSpine ts) (InTerm (term_of x)) first second (in_last ts (term_of x)) c d)

-- A type, and a context.
in_pis : (bs : List LfType) (f : ℕ) (args : Spine) (h : LfHead) → InType (pis bs (family f args)) h → InContext bs h ⊎ InSpine args (next_by (length bs) h)
in_pis [] f args h (occurs_family i g us o) = inr o
in_pis (b ∷ bs) f args h (occurs_binder i a c o) = inl (occurs_entry h b bs o)
in_pis (b ∷ bs) f args h (occurs_rest i a c o) = later (in_pis bs f args (next h) o)
  where
    later : InContext bs (next h) ⊎ InSpine args (next_by (length bs) (next h)) → InContext (b ∷ bs) h ⊎ InSpine args (next_by (length bs) (next h))
    later (inl p) = inl (occurs_after h b bs p)
    later (inr p) = inr p

pub covers_pis : (a inside b e : Extent) (bs : List LfType) (f : ℕ) (args : Spine) → IsOutside inside (length bs) b → IsWider a e → IsWider b e →
    Covers a (InContext bs) → Covers inside (InSpine args) → Covers e (InType (pis bs (family f args)))
covers_pis a inside b e bs f args outside first second c d =
    covers_both a b e (InType (pis bs (family f args))) (InContext bs) (λ h. InSpine args (next_by (length bs) h)) first second (in_pis bs f args) c
    (covers_outside inside b (length bs) (InSpine args) outside d)

in_empty : (h : LfHead) → InContext [] h → ⊥
in_empty h = elim [ ]

in_last_entry : (bs : List LfType) (b : LfType) (h : LfHead) → InContext (bs ++ b ∷ []) h → InContext bs h ⊎ InType b (next_by (length bs) h)
in_last_entry [] b h (occurs_entry i a rest o) = inr o
in_last_entry [] b h (occurs_after i a rest o) = absurd (in_empty (next h) o)
in_last_entry (c ∷ bs) b h (occurs_entry i a rest o) = inl (occurs_entry h c bs o)
in_last_entry (c ∷ bs) b h (occurs_after i a rest o) = later (in_last_entry bs b (next h) o)
  where
    later : InContext bs (next h) ⊎ InType b (next_by (length bs) (next h)) → InContext (c ∷ bs) h ⊎ InType b (next_by (length bs) (next h))
    later (inl p) = inl (occurs_after h c bs p)
    later (inr p) = inr p

pub covers_no_entry : (e : Extent) → Covers e (InContext [])
covers_no_entry e = covers_nothing e (InContext []) in_empty

length-take_types : (xs : List Ty) (i : ℕ) → i < length xs → length (types_of (take i xs)) ≡ i
length-take_types [] i within = absurd (omega arith)
length-take_types (x ∷ xs) zero within = refl
length-take_types (x ∷ xs) (suc i) within = ap suc (length-take_types xs i (omega arith))

pub covers_more_types : (a inside b e : Extent) (xs : List Ty) (i : ℕ) (x : Ty) → i < length xs → x ≡ get_or xs i x → IsOutside inside i b → IsWider a e → IsWider b e →
    Covers a (InContext (types_of (take i xs))) → Covers inside (InType (type_of x)) → Covers e (InContext (types_of (take (i + 1) xs)))
covers_more_types a inside b e xs i x within is outside first second c d =
    let bs = types_of (take i xs) in
    let outside_all : IsOutside inside (length bs) b = subst (λ n. IsOutside inside n b) (sym (length-take_types xs i within)) outside in
    subst (λ l. Covers e (InContext l)) (sym (types_of-take_more xs i x within is))
    (covers_both a b e (InContext (bs ++ type_of x ∷ [])) (InContext bs) (λ h. InType (type_of x) (next_by (length bs) h)) first second (in_last_entry bs (type_of x)) c
    (covers_outside inside b (length bs) (InType (type_of x)) outside_all d))

-- What the test tells.
pub within : (e : Extent) (depth : ℕ) (Occurring : LfHead → Type 0) → Covers e Occurring → (e.reach ≤ depth) × (e.reach < no_bound) → StaysWithin depth Occurring
within e depth Occurring c small n far here = c.variables small.1 n (omega (arith, small.0)) here

-- Where each head that occurs stays as it is, so does the whole.
abbrev Leaves : Replacement → (LfHead → Type 0) → Type 0
Leaves σ Occurring = (h : LfHead) → Occurring h → σ h ≡ stays h

up-leaves : (σ : Replacement) (Inside Occurring : LfHead → Type 0) → ((h : LfHead) → Inside (next h) → Occurring h) → Leaves σ Occurring → Leaves (up σ) Inside
up-leaves σ Inside Occurring outside leaves (bound zero) here = refl
up-leaves σ Inside Occurring outside leaves (bound (suc n)) here = ap (rename_image next) (leaves (bound n) (outside (bound n) here))
up-leaves σ Inside Occurring outside leaves (constant c) here = ap (rename_image next) (leaves (constant c) (outside (constant c) here))
up-leaves σ Inside Occurring outside leaves (metavariable g) here = ap (rename_image next) (leaves (metavariable g) (outside (metavariable g) here))

mutual
  pub term_stays : (t : LfTerm) (σ : Replacement) → Leaves σ (InTerm t) → Substituted σ t t
  term_stays (lam b) σ leaves = substituted_lam (term_stays b (up σ) (up-leaves σ (InTerm b) (InTerm (lam b)) (λ h o. occurs_lam h b o) leaves))
  term_stays (at k ts) σ leaves = substituted_stays (leaves k (occurs_head k ts)) (spine_stays ts σ (λ h o. leaves h (occurs_args h k ts o)))

  pub spine_stays : (ts : Spine) (σ : Replacement) → Leaves σ (InSpine ts) → SubstitutedSpine σ ts ts
  spine_stays no_args σ leaves = substituted_none
  spine_stays (arg t ts) σ leaves = substituted_arg (term_stays t σ (λ h o. leaves h (occurs_first h t ts o))) (spine_stays ts σ (λ h o. leaves h (occurs_later h t ts o)))

pub type_stays : (a : LfType) (σ : Replacement) → Leaves σ (InType a) → SubstitutedType σ a a
type_stays (pi a b) σ leaves =
    substituted_pi (type_stays a σ (λ h o. leaves h (occurs_binder h a b o))) (type_stays b (up σ) (up-leaves σ (InType b) (InType (pi a b)) (λ h o. occurs_rest h a b o) leaves))
type_stays (family f args) σ leaves = substituted_family (spine_stays args σ (λ h o. leaves h (occurs_family h f args o)))

-- Putting a list for variables outside of all that occur leaves them.
putting_leaves : (sub : Spine) (by d : ℕ) (Occurring : LfHead → Type 0) → StaysWithin d Occurring → Leaves (putting sub by d) Occurring
putting_leaves sub by d Occurring inside (bound n) here = by_number (less_or n d)
  where
    less_or : (n d : ℕ) → (n < d) ⊎ (d ≤ n)
    less_or n zero = inr (omega arith)
    less_or zero (suc d) = inl (omega arith)
    less_or (suc n) (suc d) = more (less_or n d)
      where
        more : (n < d) ⊎ (d ≤ n) → (suc n < suc d) ⊎ (suc d ≤ suc n)
        more (inl p) = inl (omega (arith, p))
        more (inr p) = inr (omega (arith, p))

    by_number : (n < d) ⊎ (d ≤ n) → putting sub by d (bound n) ≡ stays (bound n)
    by_number (inl less) = up_by-bound_small d n (push_all sub (λ h. stays (next_by by h))) less
    by_number (inr far) = absurd (inside n far here)
putting_leaves sub by d Occurring inside (constant c) here = put_constant sub by d c
putting_leaves sub by d Occurring inside (metavariable g) here = put_metavariable sub by d g

pub term_unchanged : (sub : Spine) (by d : ℕ) (t : LfTerm) → StaysWithin d (InTerm t) → Substituted (putting sub by d) t t
term_unchanged sub by d t inside = term_stays t (putting sub by d) (putting_leaves sub by d (InTerm t) inside)

pub spine_unchanged : (sub : Spine) (by d : ℕ) (ts : Spine) → StaysWithin d (InSpine ts) → SubstitutedSpine (putting sub by d) ts ts
spine_unchanged sub by d ts inside = spine_stays ts (putting sub by d) (putting_leaves sub by d (InSpine ts) inside)

pub type_unchanged : (sub : Spine) (by d : ℕ) (a : LfType) → StaysWithin d (InType a) → SubstitutedType (putting sub by d) a a
type_unchanged sub by d a inside = type_stays a (putting sub by d) (putting_leaves sub by d (InType a) inside)
