-- The premises of a type, and of each what it is fixed to.
use Rattle.std.proofs.Common.{◌≡◌, ℕ, zero, suc, ◌<◌, ◌≤◌, Bool, true, false, not, List, [], ◌∷◌, ◌++◌, All, length, get_or, drop, map, Some, slice_get, refl, sym, ap, ap₂, ◌∙◌, subst, arith}
use Rattle.std.specs.Prelude.{if◌then◌else◌}
use Rattle.std.proofs.lemmas.List.{append-nil, at_drop_all, length-map}
use Rattle.std.proofs.lemmas.List.Elements.{All-head, All-tail}
use Rattle.lf_definitions.specs.Syntax.{bound, Spine, LfType, pi, family, LfAtom, Context, pis, conclusion_atom}
use Rattle.head_laws.specs.Mentions.{occurs_in_type}
use Rattle.lf_terms.specs.declared.ty.Atom.{Atom}
use Rattle.lf_terms.specs.Types.{type_of, atom_of}
use Rattle.opening_laws.specs.Openings.{LfOpened}
use Rattle.applications.specs.Candidates.{LfHypothesis, premise_marks, premises_from, argument_type, paired}
use Rattle.build_shared.specs.declared.hypotheses.Hypothesis.{Hypothesis}
use Rattle.build_shared.specs.Seen.{seen_atom, seen_hypothesis}
use Rattle.build_forward.specs.declared.onward.Onward.{Onward}
use Rattle.build_forward.specs.Onwards.{marked_from, IsOnward, premise_types, equations_between}

pub marked-premises : (i : ℕ) (type : LfType) → marked_from i (premise_marks type) ≡ premises_from i type
marked-premises i (family f args) = refl
marked-premises i (pi a b) = step (occurs_in_type (bound zero) b) (marked-premises (suc i) b)
  where
    step : (c : Bool) → marked_from (suc i) (premise_marks b) ≡ premises_from (suc i) b → marked_from i (not c ∷ premise_marks b) ≡ (if c then premises_from (suc i) b else i ∷ premises_from (suc i) b)
    step true e = e
    step false e = ap (λ l. i ∷ l) e

-- what a type ends in
pub conclusion_is : (bs : Context) (f : ℕ) (args : Spine) → conclusion_atom (pis bs (family f args)) ≡ record { atom_family = f; atom_args = args }
conclusion_is [] f args = refl
conclusion_is (b ∷ bs) f args = conclusion_is bs f args

-- What is true of all hypotheses is true of the one that is read.
pub read_holds : (P : LfHypothesis → Type 0) (xs : List Hypothesis) (k : ℕ) (x : Hypothesis) → All P (map seen_hypothesis xs) → k < length xs → x ≡ get_or xs k x → P (seen_hypothesis x)
read_holds P [] k x all within is = absurd (omega (arith, within))
read_holds P (y ∷ xs) zero x all within is = subst (λ z. P (seen_hypothesis z)) (sym is) (All-head P (seen_hypothesis y) (map seen_hypothesis xs) all)
read_holds P (y ∷ xs) (suc k) x all within is = read_holds P xs k x (All-tail P (seen_hypothesis y) (map seen_hypothesis xs) all) (omega (arith, within)) is

-- All is pushed where nothing is left.
pub all_pushed : {X : Type 0} (old rest whole : List X) → rest ≡ [] → old ++ rest ≡ whole → old ≡ whole
all_pushed old rest whole none before = sym (append-nil old) ∙ ap (λ l. old ++ l) (sym none) ∙ before

-- The premises and the hypotheses from a place on.
module _ (premises : List ℕ) (chosen : List Hypothesis) (i : ℕ) where
  abbrev pub pairs_left : List (ℕ × ℕ)
  pairs_left = paired (drop i premises) (map seen_hypothesis (drop i chosen))

  pub none_fixed : length chosen ≤ i → pairs_left ≡ []
  none_fixed past = at_drop_all (λ hs. paired (drop i premises) (map seen_hypothesis hs)) chosen i past ∙ nothing (drop i premises)
    where
      nothing : (ks : List ℕ) → paired ks [] ≡ []
      nothing [] = refl
      nothing (k ∷ ks) = refl

-- So for the types of the premises.
module _ (premises : List Atom) (chosen : List Hypothesis) (i : ℕ) where
  abbrev pub equations_left : List (LfAtom × LfAtom)
  equations_left = equations_between (map seen_atom (drop i premises)) (map seen_hypothesis (drop i chosen))

  pub no_equation : length chosen ≤ i → equations_left ≡ []
  no_equation past = at_drop_all (λ hs. equations_between (map seen_atom (drop i premises)) (map seen_hypothesis hs)) chosen i past ∙ nothing (map seen_atom (drop i premises))
    where
      nothing : (atoms : List LfAtom) → equations_between atoms [] ≡ []
      nothing [] = refl
      nothing (a ∷ atoms) = refl

-- The item that is read is the one at the place.
pub read_at : (xs : List Atom) (k : ℕ) (x : Atom) → k < length xs → x ≡ get_or xs k x → slice_get (map seen_atom xs) k ≡ Some (seen_atom x)
read_at [] k x within is = absurd (omega (arith, within))
read_at (y ∷ xs) zero x within is = ap (λ z. Some (seen_atom z)) (sym is)
read_at (y ∷ xs) (suc k) x within is = read_at xs k x (omega (arith, within)) is

-- An equal copy is seen as the same.
pub same_seen : (a b : Atom) → atom_of a ≡ atom_of b → seen_atom a ≡ seen_atom b
same_seen a b e =
    let families : a.family ≡ b.family = cc in
    let args : a.args ≡ b.args = cc in
    ap₂ (λ f us. record { atom_family = f; atom_args = us }) families args

-- There is a type for each premise.
pub as_many : (o : Onward) → IsOnward o → (atoms : List Atom) (opened : LfOpened) → map seen_atom atoms ≡ premise_types o opened → length atoms ≡ length o.premises.now
as_many o is atoms opened are =
    sym (length-map atoms seen_atom) ∙ ap length are ∙ length-map (premises_from 0 (type_of o.ty.now)) (argument_type (type_of o.ty.now) opened) ∙ ap length (sym is.premises_are)
