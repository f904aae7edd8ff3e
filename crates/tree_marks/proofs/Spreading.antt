-- Irrelevance is passed on: by what a node decides that was just marked, and by pending nodes.
use Rattle.std.proofs.Common.{◌≡◌, ◌≢◌, ◌⊎◌, inl, inr, ℕ, zero, suc, ◌+◌, ◌<◌, Bool, true, false, not, ◌||◌, List, [], ◌∷◌, ◌++◌, Option, Some, None, refl, sym, ap, subst, ◌∙◌, arith}
use Rattle.std.proofs.lemmas.Bool.{and_parts, and_from, or_from}
use Rattle.tree_runs.specs.Shapes.{TreeShape, alternatives_at, IsChild, IsShape}
use Rattle.tree_runs.specs.Marks.{any_from, all_children, some_child, proved_by, stuck_by, entry_at}
use Rattle.tree_runs.proofs.Lists.{same_or_other}
use Rattle.tree_runs.proofs.Marks.{any_from-agree, all_from-weaker, any_from-weaker, child-rises}
use Rattle.tree_marks.specs.TreeMarks.{marked, unmarked, entry_decided, keeps, IsFresh, Begins}
use Rattle.tree_marks.specs.Fading.{Fading, is_pending, Fades, HangsBelow, IsSpread}
use Rattle.tree_marks.proofs.Entries.{all_from-fails}
use Rattle.tree_marks.proofs.Climbs.{one_parent}
use Rattle.tree_marks.proofs.Fallen.{was_up, last_pending, earlier_pending, last_is_pending}

pub true_or_false : (b : Bool) → (b ≡ true) ⊎ (b ≡ false)
true_or_false true = inl refl
true_or_false false = inr refl

pub false_from : (b : Bool) → (b ≡ true → ⊥) → b ≡ false
false_from true h = absurd (h refl)
false_from false h = refl

pub both : (b : Bool) → b ≡ true → b ≡ false → ⊥
both b e f = let clash : true ≡ false = sym e ∙ f in cc

not_true : (b : Bool) → not b ≡ true → b ≡ false
not_true true h = absurd cc
not_true false h = refl

not_false : (b : Bool) → b ≡ false → not b ≡ true
not_false b e = ap not e

or_grown : (a b c d : Bool) → (a ≡ true → c ≡ true) → (b ≡ true → d ≡ true) → (a || b) ≡ true → (c || d) ≡ true
or_grown true b c d f g h = let e = f refl in cc
or_grown false b true d f g h = refl
or_grown false b false d f g h = g h

-- ---- what children's relevance hangs on

-- a node is undecided, its alternative is, and the node is relevant
pub record StaysRelevant (shape : TreeShape) (proved stuck flags : List Bool) (node alternative : ℕ) : Type 0 where
  pub undecided : (marked proved node || marked stuck node) ≡ false
  pub open_entry : entry_decided proved stuck (entry_at (alternatives_at shape node) alternative) ≡ false
  pub up : unmarked flags node ≡ true

pub keeping : (shape : TreeShape) (proved stuck flags : List Bool) (node alternative : ℕ) → keeps shape proved stuck flags node alternative ≡ true → StaysRelevant shape proved stuck flags node alternative
keeping shape proved stuck flags node alternative h =
    let parts = and_parts _ _ h in
    let first = and_parts _ _ parts.0 in
    record { undecided = not_true _ first.0; open_entry = not_true _ first.1; up = parts.1 }

pub kept : (shape : TreeShape) (proved stuck flags : List Bool) (node alternative : ℕ) → StaysRelevant shape proved stuck flags node alternative → keeps shape proved stuck flags node alternative ≡ true
kept shape proved stuck flags node alternative h = and_from _ _ (and_from _ _ (not_false _ h.undecided) (not_false _ h.open_entry)) h.up

module _ (proved stuck proved' stuck' : List Bool) (proved_grows : (n : ℕ) → marked proved n ≡ true → marked proved' n ≡ true) (stuck_grows : (n : ℕ) → marked stuck n ≡ true → marked stuck' n ≡ true) where
  entry_grown : (o : Option (ℕ × ℕ)) → entry_decided proved stuck o ≡ true → entry_decided proved' stuck' o ≡ true
  entry_grown None h = h
  entry_grown (Some entry) h = or_grown (all_children (marked proved) entry) (some_child (marked stuck) entry) _ _
      (all_from-weaker (marked proved) (marked proved') proved_grows entry.0 entry.1) (any_from-weaker (marked stuck) (marked stuck') stuck_grows entry.0 entry.1) h

  -- what isn't relevant isn't later
  pub lost : (shape : TreeShape) (flags flags' : List Bool) (node alternative : ℕ) → (unmarked flags' node ≡ true → unmarked flags node ≡ true) → keeps shape proved stuck flags node alternative ≡ false → keeps shape proved' stuck' flags' node alternative ≡ false
  lost shape flags flags' node alternative back h = false_from _ (λ e.
      let k = keeping shape proved' stuck' flags' node alternative e in
      both _ (kept shape proved stuck flags node alternative (record {
        undecided = false_from _ (λ d. both _ (or_grown (marked proved node) (marked stuck node) _ _ (proved_grows node) (stuck_grows node) d) k.undecided);
        open_entry = false_from _ (λ d. both _ (entry_grown (entry_at (alternatives_at shape node) alternative) d) k.open_entry);
        up = back k.up;
      })) h)

same_lost : (shape : TreeShape) (proved stuck flags flags' : List Bool) (node alternative : ℕ) → (unmarked flags' node ≡ true → unmarked flags node ≡ true) → keeps shape proved stuck flags node alternative ≡ false → keeps shape proved stuck flags' node alternative ≡ false
same_lost shape proved stuck flags flags' node alternative back h = lost proved stuck proved stuck (λ n e. e) (λ n e. e) shape flags flags' node alternative back h

down_lost : (shape : TreeShape) (proved stuck flags : List Bool) (node alternative : ℕ) → unmarked flags node ≡ false → keeps shape proved stuck flags node alternative ≡ false
down_lost shape proved stuck flags node alternative down = false_from _ (λ e. both _ (keeping shape proved stuck flags node alternative e).up down)

-- a node that was relevant is so still, or is pending
pub up_or_pending : (a b : Fading) (Kind : ℕ → Type 0) → Fades a b Kind → (node : ℕ) → unmarked a.flags node ≡ true → (unmarked b.flags node ≡ true) ⊎ (is_pending b.pending node ≡ true)
up_or_pending a b Kind f node up = elim (true_or_false (unmarked b.flags node)) [
  | inl e ↦ inl e
  | inr e ↦ elim (f.fallen node e) [ inl before ↦ absurd (both _ up before) | inr p ↦ inr p.1 ]
]

-- no node hangs below itself, and the root hangs nowhere
pub not_below_itself : (shape : TreeShape) → IsShape shape → (node : ℕ) → HangsBelow shape node node → ⊥
not_below_itself shape is_shape node h = let r = child-rises shape is_shape node h.alternative h.place node h.is in omega (arith, r)

-- ---- pending nodes are worked off

pub worked : (shape : TreeShape) → IsShape shape → (proved stuck : List Bool) (old taken new : Fading) (node : ℕ) → old.pending ≡ taken.pending ++ node ∷ [] → taken.flags ≡ old.flags →
    Fades taken new (HangsBelow shape node) → ((child : ℕ) → HangsBelow shape node child → unmarked new.flags child ≡ false) → IsSpread shape proved stuck old → IsSpread shape proved stuck new
worked shape is_shape proved stuck old taken new node p same f below h =
    let as_old : (n : ℕ) → unmarked taken.flags n ≡ unmarked old.flags n = λ n. ap (λ fs. unmarked fs n) same in
    let up_old : (n : ℕ) → unmarked new.flags n ≡ true → unmarked old.flags n ≡ true = λ n e. sym (as_old n) ∙ was_up taken new (HangsBelow shape node) f n e in
    let node_down : unmarked new.flags node ≡ false = f.down node (as_old node ∙ h.waiting node (ap (λ ps. is_pending ps node) p ∙ last_is_pending taken.pending node)) in
    record {
      sound = λ n a place child c e. elim (f.fallen child e) [
        | inl before ↦ same_lost shape proved stuck old.flags new.flags n a (up_old n) (h.sound n a place child c (sym (as_old child) ∙ before))
        | inr q ↦ let one = one_parent shape is_shape n node a q.0.alternative place q.0.place child c q.0.is in down_lost shape proved stuck new.flags n a (ap (unmarked new.flags) one.0 ∙ node_down)
      ];
      whole = λ n a place child c up. elim (h.whole n a place child c (up_old child up)) [
        | inl keep ↦
            let k = keeping shape proved stuck old.flags n a keep in
            elim (up_or_pending taken new (HangsBelow shape node) f n (as_old n ∙ k.up)) [
              | inl e ↦ inl (kept shape proved stuck new.flags n a (record { undecided = k.undecided; open_entry = k.open_entry; up = e }))
              | inr e ↦ inr e
            ]
        | inr w ↦ elim (last_pending taken.pending node n (ap (λ ps. is_pending ps n) (sym p) ∙ w)) [
          | inl e ↦ inr (f.stays n e)
          | inr e ↦ absurd (both _ up (below child (record { alternative = a; place = place; is = subst (λ (m : ℕ). IsChild shape m a place child) e c })))
        ]
      ];
      waiting = λ n w. elim (f.waiting n w) [
        | inl e ↦ f.down n (as_old n ∙ h.waiting n (ap (λ ps. is_pending ps n) p ∙ earlier_pending taken.pending node n e))
        | inr e ↦ e
      ];
      root = elim (true_or_false (unmarked new.flags 0)) [
        | inl e ↦ e
        | inr e ↦ elim (f.fallen 0 e) [
          | inl before ↦ absurd (both _ h.root (sym (as_old 0) ∙ before))
          | inr q ↦ absurd (let r = child-rises shape is_shape node q.0.alternative q.0.place 0 q.0.is in omega (arith, r))
        ]
      ];
    }

-- where none is pending, the children of all nodes are marked as they are
pub spread_is_fresh : (shape : TreeShape) (proved stuck : List Bool) (fading : Fading) → fading.pending ≡ [] → IsSpread shape proved stuck fading → (node : ℕ) → IsFresh shape proved stuck fading.flags node
spread_is_fresh shape proved stuck fading idle h node alternative place child c = elim (true_or_false (unmarked fading.flags child)) [
  | inl up ↦ elim (h.whole node alternative place child c up) [
    | inl keep ↦ up ∙ sym keep
    | inr w ↦ absurd (both _ w (ap (λ ps. is_pending ps node) idle))
  ]
  | inr down ↦ down ∙ sym (h.sound node alternative place child c down)
]

-- ---- where settling begins

any_from-none : (test : ℕ → Bool) (first count : ℕ) → ((place : ℕ) → place < count → test (first + place) ≡ false) → any_from test first count ≡ false
any_from-none test first count h = any_from-agree test (λ n. false) first count h ∙ nowhere first count
  where
    nowhere : (first count : ℕ) → any_from (λ n. false) first count ≡ false
    nowhere first zero = refl
    nowhere first (suc count) = nowhere (suc first) count

module _ (shape : TreeShape) (proved stuck : List Bool) (fading : Fading) (node : ℕ) (h : Begins shape proved stuck fading.flags node) (unproved : marked proved node ≡ false) (unstuck : marked stuck node ≡ false) where
  -- a new child is undecided
  new_undecided : (alternative place child : ℕ) → IsChild shape node alternative place child → (marked proved child ≡ false) × (marked stuck child ≡ false)
  new_undecided alternative place child c =
      let r = child-rises shape h.is_shape node alternative place child c in
      let local = h.local child (λ e. omega (arith, e, r)) in
      let bare = h.childless alternative place child c in
      (local.proved_is ∙ ap (proved_by (marked proved)) bare, local.stuck_is ∙ ap (stuck_by (marked stuck)) bare)

  -- so is each alternative that has children
  new_entry_open : (alternative place child : ℕ) → IsChild shape node alternative place child → entry_decided proved stuck (entry_at (alternatives_at shape node) alternative) ≡ false
  new_entry_open alternative place child c =
      let each : (k : ℕ) → k < c.count → (marked proved (c.first + k) ≡ false) × (marked stuck (c.first + k) ≡ false) =
      λ k small. new_undecided alternative k (c.first + k) (record { all = c.all; first = c.first; count = c.count; grown = c.grown; there = c.there; within = small; number = refl }) in
      ap (λ o. entry_decided proved stuck (entry_at o alternative)) c.grown ∙ (ap (entry_decided proved stuck) c.there
      ∙ or_from _ _ (all_from-fails (marked proved) c.first c.count place c.within (each place c.within).0) (any_from-none (marked stuck) c.first c.count (λ k small. (each k small).1)))

  no_new_down : (n a place child : ℕ) → IsChild shape n a place child → unmarked fading.flags child ≡ false → n ≢ node
  no_new_down n a place child c down same = both _ (h.news a place child (subst (λ (m : ℕ). IsChild shape m a place child) same c)) down

  -- the node is relevant
  pub begins_up : fading.pending ≡ [] → unmarked fading.flags node ≡ true → IsSpread shape proved stuck fading
  begins_up idle up = record {
    sound = λ n a place child c down. sym (h.fresh n (no_new_down n a place child c down) a place child c) ∙ down;
    whole = λ n a place child c e. elim (same_or_other n node) [
      | inl here ↦ inl (subst (λ (m : ℕ). keeps shape proved stuck fading.flags m a ≡ true) (sym here) (kept shape proved stuck fading.flags node a (record {
        undecided = or_from _ _ unproved unstuck;
        open_entry = new_entry_open a place child (subst (λ (m : ℕ). IsChild shape m a place child) here c);
        up = up;
      })))
      | inr ne ↦ inl (sym (h.fresh n ne a place child c) ∙ e)
    ];
    waiting = λ n w. absurd (both _ w (ap (λ ps. is_pending ps n) idle));
    root = h.root;
  }

  -- the node is irrelevant, and its children were marked so
  pub begins_down : (new : Fading) → IsShape shape → fading.pending ≡ [] → unmarked fading.flags node ≡ false → Fades fading new (HangsBelow shape node) →
      ((child : ℕ) → HangsBelow shape node child → unmarked new.flags child ≡ false) → IsSpread shape proved stuck new
  begins_down new is_shape idle down f below =
      let back : (n : ℕ) → unmarked new.flags n ≡ true → unmarked fading.flags n ≡ true = λ n e. was_up fading new (HangsBelow shape node) f n e in
      record {
        sound = λ n a place child c e. elim (f.fallen child e) [
          | inl was ↦ same_lost shape proved stuck fading.flags new.flags n a (back n) (sym (h.fresh n (no_new_down n a place child c was) a place child c) ∙ was)
          | inr q ↦ let one = one_parent shape is_shape n node a q.0.alternative place q.0.place child c q.0.is in
              down_lost shape proved stuck new.flags n a (ap (unmarked new.flags) one.0 ∙ f.down node down)
        ];
        whole = λ n a place child c up. elim (same_or_other n node) [
          | inl here ↦ absurd (both _ up (below child (record { alternative = a; place = place; is = subst (λ (m : ℕ). IsChild shape m a place child) here c })))
          | inr ne ↦
              let k = keeping shape proved stuck fading.flags n a (sym (h.fresh n ne a place child c) ∙ back child up) in
              elim (up_or_pending fading new (HangsBelow shape node) f n k.up) [
                | inl e ↦ inl (kept shape proved stuck new.flags n a (record { undecided = k.undecided; open_entry = k.open_entry; up = e }))
                | inr e ↦ inr e
              ]
        ];
        waiting = λ n w. elim (f.waiting n w) [ inl e ↦ absurd (both _ e (ap (λ ps. is_pending ps n) idle)) | inr e ↦ e ];
        root = elim (true_or_false (unmarked new.flags 0)) [
          | inl e ↦ e
          | inr e ↦ elim (f.fallen 0 e) [
            | inl before ↦ absurd (both _ h.root before)
            | inr q ↦ absurd (let r = child-rises shape is_shape node q.0.alternative q.0.place 0 q.0.is in omega (arith, r))
          ]
        ];
      }
