-- The children of a node, alternative by alternative.
use Rattle.std.proofs.Common.{◌≡◌, inl, inr, ℕ, ◌+◌, ◌<◌, ◌≤◌, Bool, true, false, ◌||◌, List, length, Option, Some, None, refl, sym, ap, subst, ◌∙◌, arith}
use Rattle.std.specs.Option.{option_map, option_flatten}
use Rattle.std.specs.Prelude.{slice_get}
use Rattle.std.proofs.lemmas.Bool.{or_left, or_right}
use Rattle.std.proofs.lemmas.Option.{slice_get_within}
use Rattle.tree_runs.specs.Shapes.{TreeShape, above_at, alternatives_at, IsChild, IsShape}
use Rattle.tree_runs.specs.Marks.{all_from, any_from, all_children, entry_at}
use Rattle.tree_runs.proofs.Lists.{below_or_past, same_pairs}
use Rattle.tree_marks.specs.TreeMarks.{marked, unmarked, entry_decided}
use Rattle.tree_marks.specs.Fading.{Fading, Fades, HangsBelow, IsDecidedChild, FadesBeside}
use Rattle.tree_marks.proofs.Entries.{any_from-holds, has_width}
use Rattle.tree_marks.proofs.Climbs.{one_parent, only_parent}
use Rattle.tree_marks.proofs.Fallen.{fades_nothing, fades_then, fades_more}

range_child : (shape : TreeShape) (node alternative first count child : ℕ) → entry_at (alternatives_at shape node) alternative ≡ Some (first, count) → first ≤ child → child < first + count →
    (place : ℕ) × IsChild shape node alternative place child
range_child shape node alternative first count child e low high = elim (below_or_past first child) [
  | inl small ↦ absurd (omega arith)
  | inr p ↦ (p.0, known (alternatives_at shape node) refl e p.0 p.1)
]
  where
    known : (o : Option (List (ℕ × ℕ))) → alternatives_at shape node ≡ o → entry_at o alternative ≡ Some (first, count) → (k : ℕ) → child ≡ first + k → IsChild shape node alternative k child
    known None g f k n = absurd cc
    known (Some all) g f k n = record { all = all; first = first; count = count; grown = g; there = f; within = omega (arith, n); number = n }

child_range : (shape : TreeShape) (node alternative first count place child : ℕ) → entry_at (alternatives_at shape node) alternative ≡ Some (first, count) → IsChild shape node alternative place child →
    (first ≤ child) × (child < first + count)
child_range shape node alternative first count place child e c =
    let twice : ◌≡◌ {A = Option (ℕ × ℕ)} (Some (first, count)) (Some (c.first, c.count)) = sym e ∙ ap (λ o. entry_at o alternative) c.grown ∙ c.there in
    let pair = same_pairs first c.first count c.count twice in
    (omega (arith, pair.0, c.number), omega (arith, pair.0, pair.1, c.number, c.within))

-- the children of the first alternatives, this many, are marked irrelevant, and no other node was
pub record BelowFades (shape : TreeShape) (old new : Fading) (node bound : ℕ) : Type 0 where
  pub fades : Fades old new (HangsBelow shape node)
  pub done : (alternative place child : ℕ) → alternative < bound → IsChild shape node alternative place child → unmarked new.flags child ≡ false

pub next_below : (shape : TreeShape) (a b c : Fading) (node alternative first count : ℕ) → BelowFades shape a b node alternative → entry_at (alternatives_at shape node) alternative ≡ Some (first, count) →
    Fades b c (λ child. (first ≤ child) × (child < first + count)) → ((child : ℕ) → first ≤ child → child < first + count → unmarked c.flags child ≡ false) → BelowFades shape a c node (alternative + 1)
next_below shape a b c node alternative first count h e f inside = record {
  fades = fades_then a b c (HangsBelow shape node) h.fades (fades_more b c (λ child. (first ≤ child) × (child < first + count)) (HangsBelow shape node)
      (λ child p. let there = range_child shape node alternative first count child e p.0 p.1 in record { alternative = alternative; place = there.0; is = there.1 }) f);
  done = λ other place child small d. elim (below_or_past alternative other) [
    | inl earlier ↦ f.down child (h.done other place child earlier d)
    | inr p ↦
        let same : other ≡ alternative = omega (arith, p.1) in
        let moved = subst (λ (n : ℕ). IsChild shape node n place child) same d in
        let range = child_range shape node alternative first count place child e moved in
        inside child range.0 range.1
  ];
}

-- all alternatives are done
pub all_below : (shape : TreeShape) (a b : Fading) (node width bound : ℕ) → Some width ≡ option_map length (alternatives_at shape node) → width ≤ bound → BelowFades shape a b node bound →
    (child : ℕ) → HangsBelow shape node child → unmarked b.flags child ≡ false
all_below shape a b node width bound e enough h child c =
    let known = has_width shape node width e in
    let same : ◌≡◌ {A = Option (List (ℕ × ℕ))} (Some known.all) (Some c.is.all) = sym known.grown ∙ c.is.grown in
    let is : known.all ≡ c.is.all = cc in
    let within = slice_get_within c.is.all c.alternative _ c.is.there in
    h.done c.alternative c.place child (omega (arith, within, known.size, ap length is)) c.is

-- ---- beside a node

-- it is the root
pub root_beside : (shape : TreeShape) → IsShape shape → (proved stuck : List Bool) (node : ℕ) (fading : Fading) → above_at shape node ≡ None → FadesBeside shape proved stuck node fading fading
root_beside shape is_shape proved stuck node fading root = record {
  fades = fades_nothing fading (IsDecidedChild shape proved stuck);
  whole = λ parent alternative place entry q other c e d up now. absurd (let clash : ◌≡◌ {A = Option (ℕ × ℕ × ℕ)} None (Some (parent, alternative, place)) = only_parent shape is_shape node None root parent alternative place c in cc);
}

flat : (o : Option (Option (ℕ × ℕ × ℕ))) (way : ℕ × ℕ × ℕ) → option_flatten o ≡ Some way → o ≡ Some (Some way)
flat None way e = absurd cc
flat (Some o) way e = ap Some e

pub is_child_above : (shape : TreeShape) → IsShape shape → (node : ℕ) (way : ℕ × ℕ × ℕ) → above_at shape node ≡ Some way → IsChild shape way.0 way.1 way.2 node
is_child_above shape is_shape node way e = is_shape.down way.0 way.1 way.2 node (flat (slice_get shape.above node) way e)

-- its alternative isn't decided by it
pub open_beside : (shape : TreeShape) → IsShape shape → (proved stuck : List Bool) (node : ℕ) (way : ℕ × ℕ × ℕ) (first count : ℕ) (fading : Fading) → above_at shape node ≡ Some way →
    entry_at (alternatives_at shape way.0) way.1 ≡ Some (first, count) → (marked stuck node || all_from (marked proved) first count) ≡ false → FadesBeside shape proved stuck node fading fading
open_beside shape is_shape proved stuck node way first count fading up entry test = record {
  fades = fades_nothing fading (IsDecidedChild shape proved stuck);
  whole = λ parent alternative place found q other c e d relevant now.
      let one = one_parent shape is_shape way.0 parent way.1 alternative way.2 place node (is_child_above shape is_shape node way up) c in
      let twice : ◌≡◌ {A = Option (ℕ × ℕ)} (Some (first, count)) (Some found) = sym entry ∙ (ap (λ (n : ℕ). entry_at (alternatives_at shape n) way.1) one.0 ∙ (ap (entry_at (alternatives_at shape parent)) one.1 ∙ e)) in
      let same : (first, count) ≡ found = cc in
      ap (λ (p : ℕ × ℕ). marked stuck node || all_children (marked proved) p) (sym same) ∙ test;
}

-- its alternative is decided, and was marked
pub decided_beside : (shape : TreeShape) → IsShape shape → (proved stuck : List Bool) (node : ℕ) (way : ℕ × ℕ × ℕ) (first count : ℕ) (old new : Fading) → above_at shape node ≡ Some way →
    entry_at (alternatives_at shape way.0) way.1 ≡ Some (first, count) → (marked stuck node || all_from (marked proved) first count) ≡ true →
    Fades old new (λ child. (first ≤ child) × (child < first + count)) → ((child : ℕ) → first ≤ child → child < first + count → unmarked new.flags child ≡ false) → FadesBeside shape proved stuck node old new
decided_beside shape is_shape proved stuck node way first count old new up entry test f inside =
    let here = is_child_above shape is_shape node way up in
    let range = child_range shape way.0 way.1 first count way.2 node entry here in
    record {
      fades = fades_more old new (λ child. (first ≤ child) × (child < first + count)) (IsDecidedChild shape proved stuck)
          (λ child p. let there = range_child shape way.0 way.1 first count child entry p.0 p.1 in
          record { parent = way.0; alternative = way.1; place = there.0; there = there.1; decided = ap (entry_decided proved stuck) entry ∙ decided range.0 range.1 (marked stuck node) refl test }) f;
      whole = λ parent alternative place found q other c e d relevant now.
          let one = one_parent shape is_shape way.0 parent way.1 alternative way.2 place node here c in
          let moved = subst (λ (n : ℕ). IsChild shape n way.1 q other) (sym one.0) (subst (λ (n : ℕ). IsChild shape parent n q other) (sym one.1) d) in
          let inner = child_range shape way.0 way.1 first count q other entry moved in
          absurd (let clash : true ≡ false = sym now ∙ inside other inner.0 inner.1 in cc);
    }
  where
    decided : first ≤ node → node < first + count → (v : Bool) → marked stuck node ≡ v → (v || all_from (marked proved) first count) ≡ true → (all_from (marked proved) first count || any_from (marked stuck) first count) ≡ true
    decided low high true e h = elim (below_or_past first node) [
      | inl small ↦ absurd (omega arith)
      | inr p ↦ or_right (all_from (marked proved) first count) (any_from (marked stuck) first count)
          (any_from-holds (marked stuck) first count p.0 (omega (arith, p.1)) (ap (marked stuck) (let z : first + p.0 ≡ node = omega (arith, p.1) in z) ∙ e))
    ]
    decided low high false e h = or_left (all_from (marked proved) first count) (any_from (marked stuck) first count) h
