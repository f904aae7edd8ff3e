-- The premises of a type are its binders that have no mark.
use Rattle.std.proofs.Common.{◌≡◌, ℕ, zero, suc, ◌+◌, ◌<◌, ◌≤◌, Bool, true, false, List, [], ◌∷◌, ◌++◌, length, get_or, take, refl, sym, ap, ◌∙◌, subst, arith, add-one, length-append}
use Rattle.std.specs.Prelude.{All}
use Rattle.std.proofs.lemmas.List.{take_all, append-nil}
use Rattle.std.proofs.lemmas.List.Elements.{All-nil, All-cons, All-tail, All-append}
use Rattle.lf_definitions.specs.Syntax.{LfType, family, pis, Spine}
use Rattle.lf_definitions.specs.Occurrence.{Premises, no_premise, witness, premise}
use Rattle.lf_terms.specs.declared.ty.Ty.{Ty}
use Rattle.lf_terms.specs.Types.{type_of, types_of}
use Rattle.binder_marks.specs.Mentions.{AreMentions, mentions_binder}
use Rattle.rule_sets.specs.Refusals.{IsAtomic}
use Rattle.rule_sets.specs.Acceptance.{HasPremisesOf}

abbrev pub unmarked : List Ty → List Bool → List LfType
unmarked [] ms = []
unmarked (t ∷ ts) [] = []
unmarked (t ∷ ts) (true ∷ ms) = unmarked ts ms
unmarked (t ∷ ts) (false ∷ ms) = type_of t ∷ unmarked ts ms

not_true : {A : Type 0} → false ≡ true → A
not_true e = absurd cc

pub premises_unmarked : (ts : List Ty) (f : ℕ) (args : Spine) (ms : List Bool) → AreMentions (pis (types_of ts) (family f args)) ms →
    Premises (pis (types_of ts) (family f args)) (unmarked ts ms)
premises_unmarked [] f args ms m = no_premise f args
premises_unmarked (t ∷ ts) f args [] m = elim m [ ]
premises_unmarked (t ∷ ts) f args (true ∷ ms) (mentions_binder a b _ _ says rest) = witness _ _ _ (says.0 refl) (premises_unmarked ts f args ms rest)
premises_unmarked (t ∷ ts) f args (false ∷ ms) (mentions_binder a b _ _ says rest) = premise _ _ _ (λ o. not_true (says.1 o)) (premises_unmarked ts f args ms rest)

pub mentions_length : (ts : List Ty) (f : ℕ) (args : Spine) (ms : List Bool) → AreMentions (pis (types_of ts) (family f args)) ms → length ms ≡ length ts
mentions_length [] f args [] m = refl
mentions_length [] f args (x ∷ ms) m = elim m [ ]
mentions_length (t ∷ ts) f args [] m = elim m [ ]
mentions_length (t ∷ ts) f args (x ∷ ms) (mentions_binder a b _ _ says rest) = ap suc (mentions_length ts f args ms rest)

pub premises_are_one : (a : LfType) (ps qs : List LfType) → Premises a ps → Premises a qs → ps ≡ qs
premises_are_one _ _ _ (no_premise f args) (no_premise _ _) = refl
premises_are_one _ _ _ (witness a b rest o p) (witness _ _ others _ q) = premises_are_one b rest others p q
premises_are_one _ _ _ (witness a b rest o p) (premise _ _ others none q) = absurd (none o)
premises_are_one _ _ _ (premise a b rest none p) (witness _ _ others o q) = absurd (none o)
premises_are_one _ _ _ (premise a b rest none p) (premise _ _ others _ q) = ap (λ l. a ∷ l) (premises_are_one b rest others p q)

unmarked-suc : (ts : List Ty) (ms : List Bool) (i : ℕ) (t : Ty) (m : Bool) → i < length ts → i < length ms → t ≡ get_or ts i t → m ≡ get_or ms i m →
    unmarked (take (suc i) ts) (take (suc i) ms) ≡ unmarked (take i ts) (take i ms) ++ unmarked (t ∷ []) (m ∷ [])
unmarked-suc [] ms i t m within inside t_is m_is = absurd (omega arith)
unmarked-suc (u ∷ ts) [] i t m within inside t_is m_is = absurd (omega arith)
unmarked-suc (u ∷ ts) (n ∷ ms) zero t m within inside t_is m_is =
    let P : Ty → Type 0 = λ x. unmarked (u ∷ []) (n ∷ []) ≡ unmarked (x ∷ []) (n ∷ []) in
    let Q : Bool → Type 0 = λ b. unmarked (u ∷ []) (n ∷ []) ≡ unmarked (t ∷ []) (b ∷ []) in
    subst Q (sym m_is) (subst P (sym t_is) refl)
unmarked-suc (u ∷ ts) (true ∷ ms) (suc i) t m within inside t_is m_is = unmarked-suc ts ms i t m (omega arith) (omega arith) t_is m_is
unmarked-suc (u ∷ ts) (false ∷ ms) (suc i) t m within inside t_is m_is = ap (λ l. type_of u ∷ l) (unmarked-suc ts ms i t m (omega arith) (omega arith) t_is m_is)

-- Of the binders so far, those with no mark are counted, and none of them has binders.
pub record PremisesSoFar (ts : List Ty) (ms : List Bool) (i count : ℕ) : Type 0 where
  pub counted : length (unmarked (take i ts) (take i ms)) ≡ count
  pub atomic : All IsAtomic (unmarked (take i ts) (take i ms))
  pub few : count ≤ i

module _ (ts : List Ty) (ms : List Bool) (i count : ℕ) (t : Ty) (m : Bool) (within : i < length ts) (inside : i < length ms) (t_is : t ≡ get_or ts i t) (m_is : m ≡ get_or ms i m)
    (so_far : PremisesSoFar ts ms i count) where
  pub marked_more : m ≡ true → PremisesSoFar ts ms (i + 1) count
  marked_more marked =
      let more : unmarked (take (i + 1) ts) (take (i + 1) ms) ≡ unmarked (take i ts) (take i ms) =
      ap (λ k. unmarked (take k ts) (take k ms)) (add-one i) ∙ unmarked-suc ts ms i t m within inside t_is m_is
      ∙ ap (λ b. unmarked (take i ts) (take i ms) ++ unmarked (t ∷ []) (b ∷ [])) marked ∙ append-nil _ in
      let P : List LfType → Type 0 = All IsAtomic in
      record { counted = ap length more ∙ so_far.counted; atomic = subst P (sym more) so_far.atomic; few = omega (arith, so_far.few) }

  pub unmarked_more : m ≡ false → IsAtomic (type_of t) → PremisesSoFar ts ms (i + 1) (count + 1)
  unmarked_more free atomic =
      let more : unmarked (take (i + 1) ts) (take (i + 1) ms) ≡ unmarked (take i ts) (take i ms) ++ type_of t ∷ [] =
      ap (λ k. unmarked (take k ts) (take k ms)) (add-one i) ∙ unmarked-suc ts ms i t m within inside t_is m_is
      ∙ ap (λ b. unmarked (take i ts) (take i ms) ++ unmarked (t ∷ []) (b ∷ [])) free in
      let P : List LfType → Type 0 = All IsAtomic in
      let one : All IsAtomic (type_of t ∷ []) = All-cons IsAtomic (type_of t) [] atomic (All-nil IsAtomic) in
      record {
        counted = omega (arith, ap length more, length-append (unmarked (take i ts) (take i ms)) (type_of t ∷ []), so_far.counted);
        atomic = subst P (sym more) (All-append IsAtomic _ _ so_far.atomic one);
        few = omega (arith, so_far.few);
      }

-- a binder with no mark is one of the premises
atomic_at : (ts : List Ty) (ms : List Bool) (i : ℕ) (t : Ty) → i < length ts → i < length ms → t ≡ get_or ts i t → get_or ms i true ≡ false → All IsAtomic (unmarked ts ms) → IsAtomic (type_of t)
atomic_at [] ms i t within inside is free all = absurd (omega arith)
atomic_at (u ∷ ts) [] i t within inside is free all = absurd (omega arith)
atomic_at (u ∷ ts) (true ∷ ms) zero t within inside is free all = not_true (sym free)
atomic_at (u ∷ ts) (false ∷ ms) zero t within inside is free all = let P : Ty → Type 0 = λ x. IsAtomic (type_of x) in subst P (sym is) (all 0 (type_of u) (omega arith))
atomic_at (u ∷ ts) (true ∷ ms) (suc i) t within inside is free all = atomic_at ts ms i t (omega arith) (omega arith) is free all
atomic_at (u ∷ ts) (false ∷ ms) (suc i) t within inside is free all = atomic_at ts ms i t (omega arith) (omega arith) is free (All-tail IsAtomic (type_of u) _ all)

module _ (ts : List Ty) (bs : List LfType) (f : ℕ) (args : Spine) (ms : List Bool) (all : types_of ts ≡ bs) (mentions : AreMentions (pis bs (family f args)) ms) where
  mentions_here : AreMentions (pis (types_of ts) (family f args)) ms
  mentions_here = let P : List LfType → Type 0 = λ cs. AreMentions (pis cs (family f args)) ms in subst P (sym all) mentions

  premises_here : Premises (pis bs (family f args)) (unmarked ts ms)
  premises_here = let P : List LfType → Type 0 = λ cs. Premises (pis cs (family f args)) (unmarked ts ms) in subst P all (premises_unmarked ts f args ms mentions_here)

  pub as_many_marks : length ms ≡ length ts
  as_many_marks = mentions_length ts f args ms mentions_here

  pub not_with_binders : (i : ℕ) (t : Ty) → i < length ts → t ≡ get_or ts i t → get_or ms i true ≡ false → (IsAtomic (type_of t) → ⊥) → HasPremisesOf (pis bs (family f args)) → ⊥
  not_with_binders i t within is free not_atomic has =
      let same : has.premises ≡ unmarked ts ms = premises_are_one (pis bs (family f args)) has.premises (unmarked ts ms) has.premises_are premises_here in
      let P : List LfType → Type 0 = All IsAtomic in
      not_atomic (atomic_at ts ms i t within (omega (arith, as_many_marks)) is free (subst P same has.atomic))

  module _ (i count : ℕ) (past : length ts ≤ i) (so_far : PremisesSoFar ts ms i count) where
    whole : unmarked (take i ts) (take i ms) ≡ unmarked ts ms
    whole = ap (λ us. unmarked us (take i ms)) (take_all i ts past) ∙ ap (unmarked ts) (take_all i ms (omega (arith, as_many_marks)))

    pub premises_found : 1 ≤ count → count ≤ 4 → HasPremisesOf (pis bs (family f args))
    premises_found some few =
        let counted : length (unmarked ts ms) ≡ count = ap length (sym whole) ∙ so_far.counted in
        let P : List LfType → Type 0 = All IsAtomic in
        record {
          premises = unmarked ts ms;
          premises_are = premises_here;
          some = omega (arith, counted);
          few = omega (arith, counted);
          atomic = subst P whole so_far.atomic;
        }

    pub premises_counted : HasPremisesOf (pis bs (family f args)) → (1 ≤ count) × (count ≤ 4)
    premises_counted has =
        let same : has.premises ≡ unmarked ts ms = premises_are_one (pis bs (family f args)) has.premises (unmarked ts ms) has.premises_are premises_here in
        let counted : length has.premises ≡ count = ap length (same ∙ sym whole) ∙ so_far.counted in
        (omega (arith, counted, has.some), omega (arith, counted, has.few))
