-- What is known of the hypotheses of a shaped context, and that all its places may be kept.
use Rattle.std.proofs.Common.{◌≡◌, ℕ, zero, suc, ◌+◌, ◌<◌, Bool, true, false, Option, Some, [], ◌∷◌, All, length, refl, sym, ap, ◌∙◌, subst, arith}
use Rattle.std.specs.Prelude.{nat_eq, ◌||◌}
use Rattle.std.proofs.lemmas.List.Elements.{All-nil, All-cons, All-weaker}
use Rattle.lf_definitions.specs.Syntax.{LfHead, bound, metavariable, SimpleType, LfType, Context, shape_of, shapes_of_types}
use Rattle.lf_definitions.specs.Renaming.{next, next_by, rename_type}
use Rattle.lf_definitions.specs.Shaping.{Scope, under, under_all, ShapedType}
use Rattle.lf_definitions.specs.ShapedGoals.{ShapedContext, shaped_empty, shaped_entry}
use Rattle.lf_definitions.specs.Occurrence.{OccursInType, OccursInContext, occurs_entry, occurs_after}
use Rattle.lf_definitions.specs.Typing.{type_at}
use Rattle.lf_definitions.proofs.Telescopes.{under_all-next_by_length}
use Rattle.lf_definitions.proofs.Types.{shape_of-rename_type, ShapedType-rename_type}
use Rattle.head_laws.proofs.Occurrence.{came_type}
use Rattle.opening_laws.specs.Openings.{is_kept}
use Rattle.opening_laws.specs.Laws.{KeepsAll}
use Rattle.applications.specs.Candidates.{counting_from, places_of, LfHypothesis, hypotheses_from}

-- Of a hypothesis after the places before `first`: the entry at its place, whose shape it has, that its type is shaped in the whole, and mentions what the context mentions.
abbrev pub IsHypothesisFrom : (ℕ → Option SimpleType) → Scope → ℕ → Context → LfHypothesis → Type 0
IsHypothesisFrom kinds Γ first ctx h =
    (k : ℕ) × (a : LfType) × (h.place ≡ first + k) × (type_at ctx k ≡ Some a) × (shape_of h.type ≡ shape_of a)
    × ShapedType kinds (under_all (shapes_of_types ctx) Γ) h.type
    × ((m : ℕ) → OccursInType (metavariable m) h.type → OccursInContext (metavariable m) ctx)

length_shapes : (ctx : Context) → length (shapes_of_types ctx) ≡ length ctx
length_shapes [] = refl
length_shapes (a ∷ ctx) = ap suc (length_shapes ctx)

raised_past : (a : LfType) (rest : Context) (Γ : Scope) (h : LfHead) → under_all (shapes_of_types rest) (under (shape_of a) Γ) (next_by (suc (length rest)) h) ≡ Γ h
raised_past a rest Γ h =
    ap (λ n. under_all (shapes_of_types rest) (under (shape_of a) Γ) (next_by (suc n) h)) (sym (length_shapes rest))
    ∙ under_all-next_by_length (shape_of a ∷ shapes_of_types rest) Γ h

next_by-number : (k : ℕ) (h : LfHead) (m : ℕ) → next_by k h ≡ metavariable m → h ≡ metavariable m
next_by-number zero h m e = e
next_by-number (suc k) h m e = once h (next_by-number k (next h) m e)
  where
    once : (h : LfHead) → next h ≡ metavariable m → h ≡ metavariable m
    once (bound n) e = absurd cc
    once (LfHead.constant c) e = absurd cc
    once (metavariable g) e = e

pub all_hypotheses : (kinds : ℕ → Option SimpleType) (Γ : Scope) (first : ℕ) (ctx : Context) → ShapedContext kinds Γ ctx → All (IsHypothesisFrom kinds Γ first ctx) (hypotheses_from first ctx)
all_hypotheses kinds Γ first [] shaped_empty = All-nil (IsHypothesisFrom kinds Γ first [])
all_hypotheses kinds Γ first (a ∷ rest) (shaped_entry p ps) =
    All-cons (IsHypothesisFrom kinds Γ first (a ∷ rest)) (record { place = first; type = rename_type (next_by (suc (length rest))) a }) (hypotheses_from (suc first) rest) (
      0,
      a,
      omega arith,
      refl,
      shape_of-rename_type a (next_by (suc (length rest))),
      ShapedType-rename_type p (next_by (suc (length rest))) (under_all (shapes_of_types rest) (under (shape_of a) Γ)) (λ h s e. raised_past a rest Γ h ∙ e),
      λ m o. here m (came_type a (next_by (suc (length rest))) (metavariable m) o),
    )
    (All-weaker (IsHypothesisFrom kinds (under (shape_of a) Γ) (suc first) rest) (IsHypothesisFrom kinds Γ first (a ∷ rest)) later (hypotheses_from (suc first) rest)
    (all_hypotheses kinds (under (shape_of a) Γ) (suc first) rest ps))
  where
    here : (m : ℕ) → (k : LfHead) × OccursInType k a × (metavariable m ≡ next_by (suc (length rest)) k) → OccursInContext (metavariable m) (a ∷ rest)
    here m (k, o, e) = occurs_entry (metavariable m) a rest (subst (λ h. OccursInType h a) (next_by-number (suc (length rest)) k m (sym e)) o)

    later : (h : LfHypothesis) → IsHypothesisFrom kinds (under (shape_of a) Γ) (suc first) rest h → IsHypothesisFrom kinds Γ first (a ∷ rest) h
    later h (k, b, at_place, is, same, shaped, mentions) = (suc k, b, omega (arith, at_place), is, same, shaped, λ m o. occurs_after (metavariable m) a rest (mentions m o))

-- all places of a context
pub keeps_numbers : (n count place : ℕ) → place < count → is_kept (counting_from n count) (n + place) ≡ true
keeps_numbers n zero place less = absurd (omega (arith, less))
keeps_numbers n (suc count) zero less = ap (λ b. b || is_kept (counting_from (suc n) count) (n + 0)) itself
  where
    itself : nat_eq (n + 0) n ≡ true
    itself = grind arith
keeps_numbers n (suc count) (suc place) less =
    let there : n + suc place ≡ suc n + place = omega arith in
    let low : place < count = omega (arith, less) in
    ap (λ b. nat_eq (n + suc place) n || b) (ap (is_kept (counting_from (suc n) count)) there ∙ keeps_numbers (suc n) count place low) ∙ or_true (nat_eq (n + suc place) n)
  where
    or_true : (b : Bool) → b || true ≡ true
    or_true true = refl
    or_true false = refl

pub keeps_places : (ctx : Context) → KeepsAll (places_of ctx) (length ctx)
keeps_places ctx place less = let here : 0 + place ≡ place = omega arith in subst (λ p. is_kept (counting_from 0 (length ctx)) p ≡ true) here (keeps_numbers 0 (length ctx) place less)
