-- What makes transitions end: the metavariables that are mentioned, and the size of the equations.
use Rattle.std.proofs.Common.{◌≡◌, ℕ, zero, suc, ◌+◌, ◌<◌, ◌≤◌, ◌⊎◌, inl, inr, Bool, true, false, List, [], ◌∷◌, ◌++◌, length, refl, sym, ap, ◌∙◌, arith}
use Rattle.std.specs.Prelude.{if◌then◌else◌, nat_eq}
use Rattle.std.proofs.lemmas.Bool.{eqb-true, or_cases, or_left, or_right}
use Rattle.lf_definitions.specs.Syntax.{LfHead, bound, constant, metavariable, LfTerm, lam, at, Spine, no_args, arg, term_size, spine_size}
use Rattle.lf_definitions.specs.Occurrence.{OccursIn, occurs_head, occurs_args, occurs_lam, OccursInSpine, occurs_first, occurs_later}
use Rattle.unification.specs.Patterns.{has_number}
use Rattle.unification.specs.Equations.{LfEquation, of_atoms, of_terms, argument_equations}
use Rattle.unification.specs.Solutions.{OccursInEquation, OccursInEquations, in_first, in_rest}
use Rattle.unification.proofs.Tests.{has_number-here, has_number-later, has_number-append_left, has_number-append_right}

-- A list without a number.
abbrev pub without : ℕ → List ℕ → List ℕ
without g [] = []
without g (m ∷ rest) = if nat_eq g m then without g rest else m ∷ without g rest

length-without-le : (g : ℕ) (ns : List ℕ) → length (without g ns) ≤ length ns
length-without-le g [] = omega arith
length-without-le g (m ∷ rest) = each (nat_eq g m) refl (length-without-le g rest)
  where
    each : (b : Bool) → nat_eq g m ≡ b → length (without g rest) ≤ length rest → length (if b then without g rest else m ∷ without g rest) ≤ suc (length rest)
    each true e le = omega arith
    each false e le = omega arith

pub length-without : (g : ℕ) (ns : List ℕ) → has_number ns g ≡ true → length (without g ns) < length ns
length-without g [] e = absurd cc
length-without g (m ∷ rest) e = each (nat_eq g m) refl (λ f. length-without g rest f)
  where
    later : nat_eq g m ≡ false → (nat_eq m g ≡ true) ⊎ (has_number rest g ≡ true) → has_number rest g ≡ true
    later differ (inl f) = let same : nat_eq g m ≡ true = ap (λ k. nat_eq k m) (sym (eqb-true m g f)) ∙ ap (λ k. nat_eq m k) (eqb-true m g f) ∙ f in absurd cc
    later differ (inr f) = f

    each : (b : Bool) → nat_eq g m ≡ b → (has_number rest g ≡ true → length (without g rest) < length rest) → length (if b then without g rest else m ∷ without g rest) < suc (length rest)
    each true f less = let le : length (without g rest) ≤ length rest = length-without-le g rest in omega arith
    each false f less = let there : length (without g rest) < length rest = less (later f (or_cases (nat_eq m g) (has_number rest g) e)) in omega arith

pub has_number-without : (g h : ℕ) (ns : List ℕ) → nat_eq g h ≡ false → has_number ns h ≡ true → has_number (without g ns) h ≡ true
has_number-without g h [] differ e = absurd cc
has_number-without g h (m ∷ rest) differ e = each (nat_eq g m) refl (or_cases (nat_eq m h) (has_number rest h) e) (λ f. has_number-without g h rest differ f)
  where
    each : (b : Bool) → nat_eq g m ≡ b → (nat_eq m h ≡ true) ⊎ (has_number rest h ≡ true) → (has_number rest h ≡ true → has_number (without g rest) h ≡ true) →
        has_number (if b then without g rest else m ∷ without g rest) h ≡ true
    each true f (inl same) later = let other : nat_eq g h ≡ true = ap (nat_eq g) (sym (eqb-true m h same)) ∙ f in absurd cc
    each true f (inr there) later = later there
    each false f (inl same) later = or_left (nat_eq m h) (has_number (without g rest) h) same
    each false f (inr there) later = or_right (nat_eq m h) (has_number (without g rest) h) (later there)

-- The size of equations: an equation of atoms counts one more than its arguments' equations may.
abbrev pub equation_size : LfEquation → ℕ
equation_size (of_atoms path a b) = suc (spine_size a.atom_args + spine_size b.atom_args)
equation_size (of_terms path t u) = term_size t + term_size u

abbrev pub equations_size : List LfEquation → ℕ
equations_size [] = zero
equations_size (q ∷ rest) = equation_size q + equations_size rest

pub equations_size-append : (qs rs : List LfEquation) → equations_size (qs ++ rs) ≡ equations_size qs + equations_size rs
equations_size-append [] rs = omega arith
equations_size-append (q ∷ qs) rs = let e : equations_size (qs ++ rs) ≡ equations_size qs + equations_size rs = equations_size-append qs rs in omega arith

pub equations_size-argument_equations : (path : List ℕ) (child : ℕ) (ts us : Spine) → equations_size (argument_equations path child ts us) ≤ spine_size ts + spine_size us
equations_size-argument_equations path child no_args us = omega arith
equations_size-argument_equations path child (arg t ts) no_args = omega arith
equations_size-argument_equations path child (arg t ts) (arg u us) =
    let le : equations_size (argument_equations path (suc child) ts us) ≤ spine_size ts + spine_size us = equations_size-argument_equations path (suc child) ts us in omega arith

-- The metavariables of equations are a list.
abbrev with_number_of : LfHead → List ℕ → List ℕ
with_number_of (bound n) ns = ns
with_number_of (constant c) ns = ns
with_number_of (metavariable g) ns = g ∷ ns

abbrev mutual
  numbers_of : LfTerm → List ℕ
  numbers_of (lam b) = numbers_of b
  numbers_of (at h ts) = with_number_of h (numbers_of_spine ts)

  numbers_of_spine : Spine → List ℕ
  numbers_of_spine no_args = []
  numbers_of_spine (arg t ts) = numbers_of t ++ numbers_of_spine ts

abbrev numbers_of_equation : LfEquation → List ℕ
numbers_of_equation (of_atoms path a b) = numbers_of_spine a.atom_args ++ numbers_of_spine b.atom_args
numbers_of_equation (of_terms path t u) = numbers_of t ++ numbers_of u

abbrev pub numbers_of_equations : List LfEquation → List ℕ
numbers_of_equations [] = []
numbers_of_equations (q ∷ rest) = numbers_of_equation q ++ numbers_of_equations rest

has_number-with : (h : LfHead) (ns : List ℕ) (g : ℕ) → has_number ns g ≡ true → has_number (with_number_of h ns) g ≡ true
has_number-with (bound n) ns g e = e
has_number-with (constant c) ns g e = e
has_number-with (metavariable m) ns g e = has_number-later m ns g e

mutual
  in_numbers : (t : LfTerm) (g : ℕ) → OccursIn (metavariable g) t → has_number (numbers_of t) g ≡ true
  in_numbers (lam b) g (occurs_lam _ _ o) = in_numbers b g o
  in_numbers (at h ts) g (occurs_head _ _) = has_number-here g (numbers_of_spine ts)
  in_numbers (at h ts) g (occurs_args _ _ _ o) = has_number-with h (numbers_of_spine ts) g (in_numbers_spine ts g o)

  in_numbers_spine : (ts : Spine) (g : ℕ) → OccursInSpine (metavariable g) ts → has_number (numbers_of_spine ts) g ≡ true
  in_numbers_spine no_args g o = elim o [ ]
  in_numbers_spine (arg t ts) g (occurs_first _ _ _ o) = has_number-append_left (numbers_of t) (numbers_of_spine ts) g (in_numbers t g o)
  in_numbers_spine (arg t ts) g (occurs_later _ _ _ o) = has_number-append_right (numbers_of t) (numbers_of_spine ts) g (in_numbers_spine ts g o)

in_numbers_equation : (q : LfEquation) (g : ℕ) → OccursInEquation (metavariable g) q → has_number (numbers_of_equation q) g ≡ true
in_numbers_equation (of_atoms path a b) g (inl o) = has_number-append_left (numbers_of_spine a.atom_args) (numbers_of_spine b.atom_args) g (in_numbers_spine a.atom_args g o)
in_numbers_equation (of_atoms path a b) g (inr o) = has_number-append_right (numbers_of_spine a.atom_args) (numbers_of_spine b.atom_args) g (in_numbers_spine b.atom_args g o)
in_numbers_equation (of_terms path t u) g (inl o) = has_number-append_left (numbers_of t) (numbers_of u) g (in_numbers t g o)
in_numbers_equation (of_terms path t u) g (inr o) = has_number-append_right (numbers_of t) (numbers_of u) g (in_numbers u g o)

pub in_numbers_equations : (qs : List LfEquation) (g : ℕ) → OccursInEquations (metavariable g) qs → has_number (numbers_of_equations qs) g ≡ true
in_numbers_equations [] g o = elim o [ ]
in_numbers_equations (q ∷ qs) g (in_first o) = has_number-append_left (numbers_of_equation q) (numbers_of_equations qs) g (in_numbers_equation q g o)
in_numbers_equations (q ∷ qs) g (in_rest o) = has_number-append_right (numbers_of_equation q) (numbers_of_equations qs) g (in_numbers_equations qs g o)
