-- A term reads as a variable where it is the eta-long form of one, and at a shape it is that of the shape.
use Rattle.std.proofs.Common.{◌≡◌, ℕ, zero, suc, ◌+◌, Bool, true, false, Option, Some, None, refl, sym, ap, ap₂, ◌∙◌, subst, arith}
use Rattle.std.specs.Prelude.{if◌then◌else◌}
use Rattle.std.proofs.lemmas.Bool.{eqb-true, and_parts, and_from}
use Rattle.lf_definitions.specs.Syntax.{LfHead, bound, constant, metavariable, LfTerm, lam, at, Spine, no_args, arg, SimpleType, base, arrow, arguments, arity, lams}
use Rattle.lf_definitions.specs.Renaming.{next_by}
use Rattle.lf_definitions.specs.Shaping.{Scope, under, under_all, Shaped, shaped_lam, shaped_at, ShapedSpine, shaped_none, shaped_arg}
use Rattle.lf_definitions.specs.Expansion.{own_variables, eta}
use Rattle.lf_definitions.proofs.Options.{Some-Some}
use Rattle.lf_definitions.proofs.Expansion.{under_all-next_by, Knows}
use Rattle.lf_definitions.proofs.Telescopes.{next_by-bound}
use Rattle.unification.specs.Patterns.{from_outside, is_number, reads_under, are_own, reads}
use Rattle.unification.proofs.Tests.{nat_eq-same}

-- The eta-long form of a variable reads as this variable.
from_outside-bound : (k n : ℕ) → from_outside k (k + n) ≡ Some n
from_outside-bound zero n = ap (from_outside zero) (omega arith)
from_outside-bound (suc k) n =
    let count : suc k + n ≡ suc (k + n) = omega arith in
    ap (from_outside (suc k)) count ∙ from_outside-bound k n

reads_under-lams : (k count : ℕ) (b : LfTerm) → reads_under count (lams k b) ≡ reads_under (count + k) b
reads_under-lams zero count b = ap (λ m. reads_under m b) (omega arith)
reads_under-lams (suc k) count b =
    let sum : suc count + k ≡ count + suc k = omega arith in
    reads_under-lams k (suc count) b ∙ ap (λ m. reads_under m b) sum

reads_under-own : (count n : ℕ) (ts : Spine) → are_own count ts ≡ true → reads_under count (at (bound n) ts) ≡ from_outside count n
reads_under-own count n ts e = ap (λ b. if b then from_outside count n else None) e

reads-eta_by : (n : ℕ) (s : SimpleType) → are_own (arity s) (own_variables s) ≡ true → reads (eta (bound n) s) ≡ Some n
reads-eta_by n s own =
    let k = arity s in
    let sum : zero + k ≡ k = omega arith in
    reads_under-lams k zero (at (next_by k (bound n)) (own_variables s))
    ∙ ap (λ m. reads_under m (at (next_by k (bound n)) (own_variables s))) sum
    ∙ ap (λ h. reads_under k (at h (own_variables s))) (next_by-bound k n)
    ∙ reads_under-own k (k + n) (own_variables s) own
    ∙ from_outside-bound k n

are_own-own_variables : (s : SimpleType) → are_own (arity s) (own_variables s) ≡ true
are_own-own_variables base = refl
are_own-own_variables (arrow a s) =
    let k = arity s in
    let x = next_by k (bound zero) in
    let number : x ≡ bound k = next_by-bound k zero ∙ ap bound (omega arith) in
    let reading : reads (eta x a) ≡ Some k = ap (λ h. reads (eta h a)) number ∙ reads-eta_by k a (are_own-own_variables a) in
    and_from (is_number k (reads (eta x a))) (are_own k (own_variables s)) (ap (is_number k) reading ∙ nat_eq-same k) (are_own-own_variables s)

pub reads-eta : (n : ℕ) (s : SimpleType) → reads (eta (bound n) s) ≡ Some n
reads-eta n s = reads-eta_by n s (are_own-own_variables s)

-- What reads as a variable is an eta-long form of it.
from_outside-Some : (count m n : ℕ) → from_outside count m ≡ Some n → m ≡ count + n
from_outside-Some zero m n e = let same : m ≡ n = Some-Some e in omega arith
from_outside-Some (suc count) zero n e = absurd cc
from_outside-Some (suc count) (suc m) n e = let rest : m ≡ count + n = from_outside-Some count m n e in omega arith

is_number-true : (n : ℕ) (o : Option ℕ) → is_number n o ≡ true → o ≡ Some n
is_number-true n None e = absurd cc
is_number-true n (Some m) e = ap Some (sym (eqb-true n m e))

-- a variable from outside, under binders of which so many were passed, applied to the variables of all of them
record ReadsUnder (count : ℕ) (t : LfTerm) (n : ℕ) : Type 0 where
  binders : ℕ
  shape : SimpleType
  of_arity : arity shape ≡ count + binders
  term_is : t ≡ lams binders (at (bound (arity shape + n)) (own_variables shape))

record AreOwn (count : ℕ) (ts : Spine) : Type 0 where
  shape : SimpleType
  of_arity : arity shape ≡ count
  spine_is : ts ≡ own_variables shape

read_under_lam : (count : ℕ) (b : LfTerm) (n : ℕ) → ReadsUnder (suc count) b n → ReadsUnder count (lam b) n
read_under_lam count b n r =
    record { binders = suc r.binders; shape = r.shape; of_arity = let e : arity r.shape ≡ suc count + r.binders = r.of_arity in omega arith; term_is = ap lam r.term_is }

read_at : (count m n : ℕ) (ts : Spine) → AreOwn count ts → from_outside count m ≡ Some n → ReadsUnder count (at (bound m) ts) n
read_at count m n ts own e =
    let number : m ≡ count + n = from_outside-Some count m n e in
    let count_is : arity own.shape ≡ count = own.of_arity in
    let same : m ≡ arity own.shape + n = omega arith in
    record { binders = zero; shape = own.shape; of_arity = omega arith; term_is = ap₂ (λ k us. at (bound k) us) same own.spine_is }

read_zero : (t : LfTerm) (n : ℕ) → ReadsUnder zero t n → (s : SimpleType) × (t ≡ eta (bound n) s)
read_zero t n r =
    let count : r.binders ≡ arity r.shape = let e : arity r.shape ≡ zero + r.binders = r.of_arity in omega arith in
    (r.shape, r.term_is ∙ ap₂ (λ k h. lams k (at h (own_variables r.shape))) count (sym (next_by-bound (arity r.shape) n)))

own_more : (count : ℕ) (t : LfTerm) (ts : Spine) → (s : SimpleType) × (t ≡ eta (bound count) s) → AreOwn count ts → AreOwn (suc count) (arg t ts)
own_more count t ts first rest =
    let number : bound count ≡ next_by (arity rest.shape) (bound zero) = ap bound (let e : arity rest.shape ≡ count = rest.of_arity in omega arith) ∙ sym (next_by-bound (arity rest.shape) zero) in
    record {
      shape = arrow first.0 rest.shape;
      of_arity = ap suc rest.of_arity;
      spine_is = ap₂ arg (first.1 ∙ ap (λ h. eta h first.0) number) rest.spine_is;
    }

mutual
  reads_under-Some : (t : LfTerm) (count n : ℕ) → reads_under count t ≡ Some n → ReadsUnder count t n
  reads_under-Some (lam b) count n e = read_under_lam count b n (reads_under-Some b (suc count) n e)
  reads_under-Some (at (bound m) ts) count n e = each (are_own count ts) refl (λ f. are_own-true ts count f)
    where
      each : (b : Bool) → are_own count ts ≡ b → (are_own count ts ≡ true → AreOwn count ts) → ReadsUnder count (at (bound m) ts) n
      each true f own = read_at count m n ts (own f) (sym (ap (λ x. if x then from_outside count m else None) f) ∙ e)
      each false f own = let none : reads_under count (at (bound m) ts) ≡ None = ap (λ x. if x then from_outside count m else None) f in absurd cc
  reads_under-Some (at (constant c) ts) count n e = absurd cc
  reads_under-Some (at (metavariable g) ts) count n e = absurd cc

  are_own-true : (ts : Spine) (count : ℕ) → are_own count ts ≡ true → AreOwn count ts
  are_own-true no_args zero e = record { shape = base; of_arity = refl; spine_is = refl }
  are_own-true no_args (suc count) e = absurd cc
  are_own-true (arg t ts) zero e = absurd cc
  are_own-true (arg t ts) (suc count) e =
      let both = and_parts (is_number count (reads t)) (are_own count ts) e in
      own_more count t ts (read_zero t count (reads_under-Some t zero count (is_number-true count (reads t) both.0))) (are_own-true ts count both.1)

pub reads-Some : (t : LfTerm) (n : ℕ) → reads t ≡ Some n → (s : SimpleType) × (t ≡ eta (bound n) s)
reads-Some t n e = read_zero t n (reads_under-Some t zero n e)

-- The shape of an eta-long form is the one that it is made for, and its head has it.
stripped_lams : (k : ℕ) {Γ : Scope} {h : LfHead} {ts : Spine} {s : SimpleType} → Shaped Γ (lams k (at h ts)) s → (arity s ≡ k) × Shaped (under_all (arguments s) Γ) (at h ts) base
stripped_lams zero (shaped_at s e ps) = (refl, shaped_at s e ps)
stripped_lams (suc k) (shaped_lam p) = let r = stripped_lams k p in (ap suc r.0, r.1)

same_arguments : (s c : SimpleType) (Γ : Scope) → arity s ≡ arity c → Knows (under_all (arguments s) Γ) c → s ≡ c
same_arguments base base Γ e knows = refl
same_arguments base (arrow b c) Γ e knows = absurd (omega arith)
same_arguments (arrow a s) base Γ e knows = absurd (omega arith)
same_arguments (arrow a s) (arrow b c) Γ e knows =
    let count : arity c ≡ arity s = omega arith in
    let first : a ≡ b =
    Some-Some (sym (ap (λ k. under_all (arguments s) (under a Γ) (next_by k (bound zero))) count ∙ under_all-next_by s (under a Γ) (bound zero)) ∙ knows.0) in
    ap₂ arrow first (same_arguments s c (under a Γ) (sym count) knows.1)

shape_of_eta_by : (c : SimpleType) → ((Δ : Scope) (d : SimpleType) → ShapedSpine Δ (own_variables c) d → (d ≡ c) × Knows Δ c) →
    (Γ : Scope) (h : LfHead) (s : SimpleType) → Shaped Γ (eta h c) s → (s ≡ c) × (Γ h ≡ Some c)
shape_of_eta_by c own Γ h s p = at_spine (stripped_lams (arity c) p)
  where
    at_spine : (arity s ≡ arity c) × Shaped (under_all (arguments s) Γ) (at (next_by (arity c) h) (own_variables c)) base → (s ≡ c) × (Γ h ≡ Some c)
    at_spine (count, shaped_at d e ps) =
        let known = own (under_all (arguments s) Γ) d ps in
        (same_arguments s c Γ count known.1, sym (under_all-next_by s Γ h) ∙ ap (λ k. under_all (arguments s) Γ (next_by k h)) count ∙ e ∙ ap Some known.0)

shape_of_own_variables : (c : SimpleType) (Δ : Scope) (d : SimpleType) → ShapedSpine Δ (own_variables c) d → (d ≡ c) × Knows Δ c
shape_of_own_variables base Δ d shaped_none = (refl, tt)
shape_of_own_variables (arrow a c) Δ d (shaped_arg {s = rest} p ps) =
    let first = shape_of_eta_by a (shape_of_own_variables a) Δ (next_by (arity c) (bound zero)) _ p in
    let later = shape_of_own_variables c Δ rest ps in
    (ap₂ arrow first.0 later.0, (first.1, later.1))

pub shape_of_eta : (c : SimpleType) (Γ : Scope) (h : LfHead) (s : SimpleType) → Shaped Γ (eta h c) s → (s ≡ c) × (Γ h ≡ Some c)
shape_of_eta c = shape_of_eta_by c (shape_of_own_variables c)

pub reading_at_shape : (Γ : Scope) (t : LfTerm) (s : SimpleType) (n : ℕ) → Shaped Γ t s → reads t ≡ Some n → (t ≡ eta (bound n) s) × (Γ (bound n) ≡ Some s)
reading_at_shape Γ t s n p e =
    let r = reads-Some t n e in
    let same = shape_of_eta r.0 Γ (bound n) s (subst (λ x. Shaped Γ x s) r.1 p) in
    (r.1 ∙ ap (eta (bound n)) (sym same.0), same.1 ∙ ap Some (sym same.0))
