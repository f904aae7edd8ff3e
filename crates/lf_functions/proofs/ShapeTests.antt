-- What is shaped is found to be so.
use Rattle.std.proofs.Common.{◌≡◌, ℕ, suc, List, [], ◌∷◌, Option, Some, None, option_map, refl, sym, ap, subst}
use Rattle.std.proofs.lemmas.List.Elements.{All-head, All-tail}
use Rattle.lf_definitions.specs.Syntax.{LfHead, LfTerm, Spine, SimpleType, LfAtom, atomic}
use Rattle.lf_definitions.specs.Shaping.{Scope, under, Shaped, shaped_lam, shaped_at, ShapedSpine, shaped_none, shaped_arg, ShapedType, shaped_family}
use Rattle.lf_definitions.proofs.Options.{Some-Some}
use Rattle.unification.specs.Equations.{of_atoms, numbered_from}
use Rattle.unification.specs.Solutions.{ShapedEquation, ShapedEquations}
use Rattle.lf_functions.specs.ShapeTests.{head_or_none, argument_or_none, shaped_or_none, spine_or_none, family_or_none, atom_or_none, equation_or_none, equations_or_none}

-- There is something.
abbrev pub IsFound : {A : Type 0} → Option A → Type 0
IsFound {A} o = (x : A) × (o ≡ Some x)

found_map : {A B : Type 0} (f : A → B) (o : Option A) → IsFound o → IsFound (option_map f o)
found_map f o found = (f found.0, ap (option_map f) found.1)

found_head : (Γ : Scope) (h : LfHead) (ts : Spine) (s : SimpleType) (o : Option SimpleType) (is : Γ h ≡ o) → o ≡ Some s → (arguments : (s : SimpleType) → Option (ShapedSpine Γ ts s)) → IsFound (arguments s) →
    IsFound (head_or_none Γ h ts o is arguments)
found_head Γ h ts s None is e arguments found = absurd cc
found_head Γ h ts s (Some c) is e arguments found =
    found_map (shaped_at c is) (arguments c) (subst (λ x. IsFound (arguments x)) (sym (Some-Some e)) found)

found_argument : (Γ : Scope) (t : LfTerm) (ts : Spine) (a s : SimpleType) (first : Option (Shaped Γ t a)) (others : Option (ShapedSpine Γ ts s)) → IsFound first → IsFound others →
    IsFound (argument_or_none Γ t ts a s first others)
found_argument Γ t ts a s None others p q = absurd (let e = p.1 in cc)
found_argument Γ t ts a s (Some x) others p q = found_map (shaped_arg x) others q

mutual
  found_term : {Γ : Scope} {t : LfTerm} {s : SimpleType} → Shaped Γ t s → IsFound (shaped_or_none Γ t s)
  found_term (shaped_lam {Γ = Γ} {b = b} {a = a} {s = s} p) = found_map shaped_lam (shaped_or_none (under a Γ) b s) (found_term p)
  found_term (shaped_at {Γ = Γ} {h = h} {ts = ts} s e ps) = found_head Γ h ts s (Γ h) refl e (λ s. spine_or_none Γ ts s) (found_spine ps)

  found_spine : {Γ : Scope} {ts : Spine} {s : SimpleType} → ShapedSpine Γ ts s → IsFound (spine_or_none Γ ts s)
  found_spine shaped_none = (shaped_none, refl)
  found_spine (shaped_arg {Γ = Γ} {t = t} {ts = ts} {a = a} {s = s} p ps) = found_argument Γ t ts a s (shaped_or_none Γ t a) (spine_or_none Γ ts s) (found_term p) (found_spine ps)

found_family : (kinds : ℕ → Option SimpleType) (Γ : Scope) (a : LfAtom) (s : SimpleType) (o : Option SimpleType) (is : kinds a.atom_family ≡ o) → o ≡ Some s → ShapedSpine Γ a.atom_args s → IsFound (family_or_none kinds Γ a o is)
found_family kinds Γ a s None is e ps = absurd cc
found_family kinds Γ a s (Some c) is e ps = found_map (shaped_family c is) (spine_or_none Γ a.atom_args c) (found_spine (subst (ShapedSpine Γ a.atom_args) (sym (Some-Some e)) ps))

found_atom : (kinds : ℕ → Option SimpleType) (Γ : Scope) (a : LfAtom) → ShapedType kinds Γ (atomic a) → IsFound (atom_or_none kinds Γ a)
found_atom kinds Γ a (shaped_family s e ps) = found_family kinds Γ a s (kinds a.atom_family) refl e ps

found_equation : (kinds : ℕ → Option SimpleType) (Γ : Scope) (n : ℕ) (a b : LfAtom) (rest : List (LfAtom × LfAtom)) (first : Option (ShapedType kinds Γ (atomic a))) (second : Option (ShapedType kinds Γ (atomic b)))
    (later : Option (ShapedEquations kinds Γ (numbered_from (suc n) rest))) → IsFound first → IsFound second → IsFound later → IsFound (equation_or_none kinds Γ n a b rest first second later)
found_equation kinds Γ n a b rest None second later p q r = absurd (let e = p.1 in cc)
found_equation kinds Γ n a b rest (Some x) None later p q r = absurd (let e = q.1 in cc)
found_equation kinds Γ n a b rest (Some x) (Some y) later p q r = found_map _ later r

pub found_equations : (kinds : ℕ → Option SimpleType) (Γ : Scope) (n : ℕ) (equations : List (LfAtom × LfAtom)) → ShapedEquations kinds Γ (numbered_from n equations) → IsFound (equations_or_none kinds Γ n equations)
found_equations kinds Γ n [] shaped = (_, refl)
found_equations kinds Γ n (pair ∷ rest) shaped =
    let P = ShapedEquation kinds Γ in
    let e = of_atoms (n ∷ []) pair.0 pair.1 in
    let first = All-head P e (numbered_from (suc n) rest) shaped in
    found_equation kinds Γ n pair.0 pair.1 rest (atom_or_none kinds Γ pair.0) (atom_or_none kinds Γ pair.1) (equations_or_none kinds Γ (suc n) rest) (found_atom kinds Γ pair.0 first.0) (found_atom kinds Γ pair.1 first.1)
    (found_equations kinds Γ (suc n) rest (All-tail P e (numbered_from (suc n) rest) shaped))
