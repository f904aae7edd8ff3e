-- Lists of terms and the spines that they are.
use Rattle.std.proofs.Common.{◌≡◌, ℕ, zero, suc, ◌+◌, ◌<◌, List, [], ◌∷◌, ◌++◌, length, get_or, take, Some, refl, sym, ap, ap₂, ◌∙◌, arith, add-one}
use Rattle.lf_definitions.specs.Syntax.{LfTerm, Spine, no_args, arg, args_count, arg_at, joined, term_size, spine_size}
use Rattle.lf_definitions.proofs.Options.{Some-Some}
use Rattle.lf_terms.specs.declared.head.Head.{Head}
use Rattle.lf_terms.specs.declared.head.Head.TheVariants.{Bound, Const, Meta}
use Rattle.lf_terms.specs.declared.term.Term.{Term}
use Rattle.lf_terms.specs.Terms.{head_of, term_of, spine_of}

pub args_count-spine_of : (ts : List Term) → args_count (spine_of ts) ≡ length ts
args_count-spine_of [] = refl
args_count-spine_of (t ∷ ts) = ap suc (args_count-spine_of ts)

-- the item read at a place of a list
pub arg_at-spine_of : (xs : List Term) (i : ℕ) (x : Term) → i < length xs → x ≡ get_or xs i x → arg_at (spine_of xs) i ≡ Some (term_of x)
arg_at-spine_of [] i x within is = absurd (omega arith)
arg_at-spine_of (y ∷ ys) zero x within is = ap (λ t. Some (term_of t)) (sym is)
arg_at-spine_of (y ∷ ys) (suc i) x within is = arg_at-spine_of ys i x (omega arith) is

-- a term of a spine is smaller than the spine
pub term_size-arg_at : (ts : Spine) (i : ℕ) (t : LfTerm) → arg_at ts i ≡ Some t → term_size t < spine_size ts
term_size-arg_at no_args i t e = absurd cc
term_size-arg_at (arg u ts) zero t e = let same : u ≡ t = cc in rw (← same) (omega arith)
term_size-arg_at (arg u ts) (suc i) t e = omega (arith, term_size-arg_at ts i t e)

pub item_size : (xs : List Term) (i : ℕ) (x : Term) → i < length xs → x ≡ get_or xs i x → term_size (term_of x) < spine_size (spine_of xs)
item_size xs i x within is = term_size-arg_at (spine_of xs) i (term_of x) (arg_at-spine_of xs i x within is)

take-suc_spine : (xs : List Term) (i : ℕ) (x : Term) → i < length xs → x ≡ get_or xs i x → spine_of (take (suc i) xs) ≡ joined (spine_of (take i xs)) (arg (term_of x) no_args)
take-suc_spine [] i x within is = absurd (omega arith)
take-suc_spine (y ∷ ys) zero x within is = ap (λ t. arg (term_of t) no_args) (sym is)
take-suc_spine (y ∷ ys) (suc i) x within is = ap (arg (term_of y)) (take-suc_spine ys i x (omega arith) is)

-- one item more
pub take_more_spine : (xs : List Term) (i : ℕ) (x : Term) → i < length xs → x ≡ get_or xs i x → spine_of (take (i + 1) xs) ≡ joined (spine_of (take i xs)) (arg (term_of x) no_args)
take_more_spine xs i x within is = ap (λ n. spine_of (take n xs)) (add-one i) ∙ take-suc_spine xs i x within is

pub same_take_more : (xs ys : List Term) (i : ℕ) (x y : Term) → i < length xs → length xs ≡ length ys → x ≡ get_or xs i x → y ≡ get_or ys i y →
    spine_of (take i xs) ≡ spine_of (take i ys) → term_of x ≡ term_of y → spine_of (take (i + 1) xs) ≡ spine_of (take (i + 1) ys)
same_take_more xs ys i x y within lengths x_is y_is before here =
    take_more_spine xs i x within x_is ∙ ap₂ (λ s t. joined s (arg t no_args)) before here ∙ sym (take_more_spine ys i y (omega arith) y_is)

pub same_at : (xs ys : List Term) (i : ℕ) (x y : Term) → i < length xs → length xs ≡ length ys → x ≡ get_or xs i x → y ≡ get_or ys i y →
    spine_of xs ≡ spine_of ys → term_of x ≡ term_of y
same_at xs ys i x y within lengths x_is y_is e =
    Some-Some (sym (arg_at-spine_of xs i x within x_is) ∙ ap (λ s. arg_at s i) e ∙ arg_at-spine_of ys i y (omega arith) y_is)

pub length_of_spine : (xs ys : List Term) → spine_of xs ≡ spine_of ys → length xs ≡ length ys
length_of_spine xs ys e = sym (args_count-spine_of xs) ∙ ap args_count e ∙ args_count-spine_of ys

pub head_of_inj : (h k : Head) → head_of h ≡ head_of k → h ≡ k
head_of_inj (Bound n) (Bound m) e = cc
head_of_inj (Bound n) (Const m) e = absurd cc
head_of_inj (Bound n) (Meta m) e = absurd cc
head_of_inj (Const n) (Bound m) e = absurd cc
head_of_inj (Const n) (Const m) e = cc
head_of_inj (Const n) (Meta m) e = absurd cc
head_of_inj (Meta n) (Bound m) e = absurd cc
head_of_inj (Meta n) (Const m) e = absurd cc
head_of_inj (Meta n) (Meta m) e = cc

pub spine_of-append : (ts : List Term) (t : Term) → spine_of (ts ++ t ∷ []) ≡ joined (spine_of ts) (arg (term_of t) no_args)
spine_of-append [] t = refl
spine_of-append (u ∷ ts) t = ap (arg (term_of u)) (spine_of-append ts t)
