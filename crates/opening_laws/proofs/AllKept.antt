-- Where all entries of a context are kept.
use Rattle.std.proofs.Common.{◌≡◌, ℕ, zero, suc, ◌+◌, ◌<◌, true, false, not, Option, Some, None, if◌then◌else◌, List, [], ◌∷◌, All, length, refl, sym, ap, ◌∙◌, subst, arith}
use mathlib.Core.Path.{fun_ext}
use Rattle.lf_definitions.specs.Syntax.{LfHead, LfType, Context}
use Rattle.lf_definitions.specs.Renaming.{next, lifted, rename_type}
use Rattle.lf_definitions.proofs.Renaming.{extended-next, each_head, lifted-same_head, rename_type-same_head}
use Rattle.opening_laws.specs.Openings.{is_kept, keeping, AreKept, kept_nothing, kept_entry, fixed_to}
use Rattle.opening_laws.specs.Conditions.{is_dropped, is_fixed_to_dropped, is_barred, FixesArgument}
use Rattle.opening_laws.specs.Laws.{KeepsAll, AllMayBeKept}
use Rattle.opening_laws.proofs.Existence.{type_at-within}
use Rattle.opening_laws.proofs.Laws.{fixed_pair}

keeps_fewer : (kept : List ℕ) (m n : ℕ) → m < suc n → KeepsAll kept n → KeepsAll kept m
keeps_fewer kept m n le keeps place less = keeps place (omega (arith, le, less))

keeps_below : (kept : List ℕ) (n : ℕ) → KeepsAll kept (suc n) → KeepsAll kept n
keeps_below kept n keeps = keeps_fewer kept n (suc n) (omega arith) keeps

none_dropped : (kept : List ℕ) (n : ℕ) → KeepsAll kept n → (h : LfHead) → is_dropped kept n h ≡ false
none_dropped kept zero keeps h = refl
none_dropped kept (suc n) keeps h =
    each_head (λ k. is_dropped kept (suc n) k ≡ false) (ap not (keeps n (omega arith)))
    (λ k. extended-next (not (is_kept kept n)) (is_dropped kept n) k ∙ none_dropped kept n (keeps_below kept n keeps) k) h

none_barred : (kept : List ℕ) (count : ℕ) (fixed : List (ℕ × ℕ)) → ((i place : ℕ) → fixed_to fixed i ≡ Some place → is_kept kept place ≡ true) → KeepsAll kept count → (i : ℕ) (h : LfHead) → is_barred kept count fixed i h ≡ false
none_barred kept count fixed fits keeps zero h = none_dropped kept count keeps h
none_barred kept count fixed fits keeps (suc i) h =
    each_head (λ k. is_barred kept count fixed (suc i) k ≡ false) (newest (fixed_to fixed i) refl)
    (λ k. extended-next (is_fixed_to_dropped kept (fixed_to fixed i)) (is_barred kept count fixed i) k ∙ none_barred kept count fixed fits keeps i k) h
  where
    newest : (o : Option ℕ) → fixed_to fixed i ≡ o → is_fixed_to_dropped kept o ≡ false
    newest None e = refl
    newest (Some place) e = ap not (fits i place e)

keeps_heads : (kept : List ℕ) (n : ℕ) → KeepsAll kept n → (h : LfHead) → keeping kept n h ≡ h
keeps_heads kept zero keeps h = refl
keeps_heads kept (suc n) keeps h =
    ap (λ b. (if b then lifted (keeping kept n) else (λ k. next (keeping kept n k))) h) (keeps n (omega arith))
    ∙ ap (λ θ. lifted θ h) (fun_ext (keeps_heads kept n (keeps_below kept n keeps))) ∙ lifted-same_head h

keeps_entries : (kept : List ℕ) (place : ℕ) (ctx : Context) → KeepsAll kept (place + length ctx) → AreKept kept place ctx ctx
keeps_entries kept place [] keeps = kept_nothing
keeps_entries kept place (a ∷ ctx) keeps =
    let below : place < suc (place + length (a ∷ ctx)) = omega arith in
    let there : suc place + length ctx ≡ place + suc (length ctx) = omega arith in
    kept_entry (keeps place (omega arith)) (ap (λ θ. rename_type θ a) (fun_ext (keeps_heads kept place (keeps_fewer kept place (place + length (a ∷ ctx)) below keeps))) ∙ rename_type-same_head a)
    (keeps_entries kept (suc place) ctx (subst (KeepsAll kept) (sym there) keeps))

pub all_may_be_kept : AllMayBeKept
all_may_be_kept ctx kept keeps = (
  λ sig goals fixed first type differ below shaped_ctx shaped_type rise places once fit. record {
    goals_differ = differ;
    goals_are_below = below;
    context_is_shaped = shaped_ctx;
    type_is_shaped = shaped_type;
    kept_rise = rise;
    kept_are_places = places;
    kept_mention_kept = λ place a is e h o. none_dropped kept place (within place (type_at-within ctx place a e)) h;
    fixed_once = once;
    fixed_fit = fit;
    others_mention_kept = λ i a e free h o. none_barred kept (length ctx) fixed (kept_place type fixed fit) keeps i h;
  },
  let start : length ctx ≡ 0 + length ctx = omega arith in keeps_entries kept 0 ctx (subst (KeepsAll kept) start keeps),
  keeps_heads kept (length ctx) keeps,
)
  where
    within : (place : ℕ) → place < length ctx → KeepsAll kept place
    within place less = let more : place < suc (length ctx) = omega (arith, less) in keeps_fewer kept place (length ctx) more keeps

    kept_place : (type : LfType) (fixed : List (ℕ × ℕ)) → All (FixesArgument ctx type) fixed → (i place : ℕ) → fixed_to fixed i ≡ Some place → is_kept kept place ≡ true
    kept_place type fixed fit i place e = let p = fixed_pair (FixesArgument ctx type) fixed i place fit e in keeps place (type_at-within ctx place p.1 p.3)
