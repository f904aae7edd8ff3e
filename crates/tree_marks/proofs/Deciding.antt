-- What is marked irrelevant around a node that was just marked proved or stuck.
use Rattle.std.proofs.Common.{◌≡◌, ◌⊎◌, inl, inr, ℕ, ◌+◌, Bool, true, false, ◌||◌, List, Option, Some, None, refl, sym, ap, subst, ◌∙◌, arith}
use Rattle.std.specs.Prelude.{slice_get}
use Rattle.std.specs.Option.{option_flatten}
use Rattle.std.proofs.lemmas.Bool.{or_parts, or_from}
use Rattle.tree_runs.specs.Shapes.{TreeShape, above_at, alternatives_at, IsChild, IsShape}
use Rattle.tree_runs.specs.Marks.{all_children, some_child, entry_at}
use Rattle.tree_runs.proofs.Lists.{same_or_other}
use Rattle.tree_runs.proofs.Marks.{any_from-agree, child-rises}
use Rattle.tree_marks.specs.TreeMarks.{marked, unmarked, entry_decided, keeps}
use Rattle.tree_marks.specs.Fading.{Fading, is_pending, HangsBelow, IsDecidedChild, Fades, FadesBeside, IsSpread, DecidesOne}
use Rattle.tree_marks.proofs.Climbs.{one_parent, only_parent, all_kept_at, some_kept_at}
use Rattle.tree_marks.proofs.Fallen.{was_up}
use Rattle.tree_marks.proofs.Spreading.{StaysRelevant, true_or_false, false_from, both, keeping, kept, lost, up_or_pending, not_below_itself}

module _ (shape : TreeShape) (is_shape : IsShape shape) (proved stuck proved' stuck' : List Bool) (node : ℕ) (d : DecidesOne proved stuck proved' stuck' node) where
  proved_grows : (n : ℕ) → marked proved n ≡ true → marked proved' n ≡ true
  proved_grows n h = elim (same_or_other n node) [ inl same ↦ ap (marked proved') same ∙ d.proved_grows (ap (marked proved) (sym same) ∙ h) | inr ne ↦ d.proved_elsewhere n ne ∙ h ]

  stuck_grows : (n : ℕ) → marked stuck n ≡ true → marked stuck' n ≡ true
  stuck_grows n h = elim (same_or_other n node) [ inl same ↦ ap (marked stuck') same ∙ d.stuck_grows (ap (marked stuck) (sym same) ∙ h) | inr ne ↦ d.stuck_elsewhere n ne ∙ h ]

  -- an alternative that isn't the node's is as it was
  elsewhere_open : (n a : ℕ) → ((place : ℕ) → IsChild shape n a place node → ⊥) → (o : Option (ℕ × ℕ)) → entry_at (alternatives_at shape n) a ≡ o → entry_decided proved stuck o ≡ false → entry_decided proved' stuck' o ≡ false
  elsewhere_open n a free None e h = h
  elsewhere_open n a free (Some entry) e h =
      let parts = or_parts (all_children (marked proved) entry) (some_child (marked stuck) entry) h in
      or_from _ _ (all_kept_at shape node proved proved' d.proved_elsewhere n a entry free (alternatives_at shape n) refl e ∙ parts.0)
      (some_kept_at shape node stuck stuck' d.stuck_elsewhere n a entry free (alternatives_at shape n) refl e ∙ parts.1)

  -- the node's own is open, where the node isn't stuck and not all children are proved
  here_open : (o : Option (ℕ × ℕ)) → ((entry : ℕ × ℕ) → o ≡ Some entry → (marked stuck' node || all_children (marked proved') entry) ≡ false) → entry_decided proved stuck o ≡ false → entry_decided proved' stuck' o ≡ false
  here_open None h e = e
  here_open (Some entry) h e =
      let parts = or_parts (all_children (marked proved) entry) (some_child (marked stuck) entry) e in
      let now = or_parts (marked stuck' node) (all_children (marked proved') entry) (h entry refl) in
      let unstuck : marked stuck node ≡ false = false_from _ (λ s. both _ (d.stuck_grows s) now.0) in
      let same : (n : ℕ) → marked stuck' n ≡ marked stuck n = λ n. elim (same_or_other n node) [ inl e ↦ ap (marked stuck') e ∙ (now.0 ∙ (sym unstuck ∙ ap (marked stuck) (sym e))) | inr ne ↦ d.stuck_elsewhere n ne ] in
      or_from _ _ now.1 (any_from-agree (marked stuck') (marked stuck) entry.0 entry.1 (λ place within. same (entry.0 + place)) ∙ parts.1)

  module _ (r0 r1 r2 : Fading) (f : Fades r0 r1 (HangsBelow shape node)) (below : (child : ℕ) → HangsBelow shape node child → unmarked r1.flags child ≡ false)
      (g : FadesBeside shape proved' stuck' node r1 r2) (h : IsSpread shape proved stuck r0) where
    up_before : (n : ℕ) → unmarked r2.flags n ≡ true → unmarked r0.flags n ≡ true
    up_before n e = was_up r0 r1 (HangsBelow shape node) f n (was_up r1 r2 (IsDecidedChild shape proved' stuck') g.fades n e)

    pending_on : (n : ℕ) → is_pending r0.pending n ≡ true → is_pending r2.pending n ≡ true
    pending_on n e = g.fades.stays n (f.stays n e)

    still_sound : (n a place child : ℕ) → IsChild shape n a place child → unmarked r2.flags child ≡ false → keeps shape proved' stuck' r2.flags n a ≡ false
    still_sound n a place child c e = elim (g.fades.fallen child e) [
      | inl before ↦ elim (f.fallen child before) [
        | inl earlier ↦ lost proved stuck proved' stuck' proved_grows stuck_grows shape r0.flags r2.flags n a (up_before n) (h.sound n a place child c earlier)
        | inr q ↦
            let one = one_parent shape is_shape n node a q.0.alternative place q.0.place child c q.0.is in
            false_from _ (λ k. both _ (ap (λ (m : ℕ). marked proved' m || marked stuck' m) one.0 ∙ d.decided) (keeping shape proved' stuck' r2.flags n a k).undecided)
      ]
      | inr q ↦
          let one = one_parent shape is_shape n q.0.parent a q.0.alternative place q.0.place child c q.0.there in
          false_from _ (λ k. both _
          (ap (λ (m : ℕ). entry_decided proved' stuck' (entry_at (alternatives_at shape m) a)) one.0 ∙ (ap (λ (m : ℕ). entry_decided proved' stuck' (entry_at (alternatives_at shape q.0.parent) m)) one.1 ∙ q.0.decided))
          (keeping shape proved' stuck' r2.flags n a k).open_entry)
    ]

    -- an alternative with a relevant child, which was open
    still_open : (n a place child : ℕ) → IsChild shape n a place child → unmarked r2.flags child ≡ true → StaysRelevant shape proved stuck r0.flags n a → (way : Option (ℕ × ℕ × ℕ)) → above_at shape node ≡ way →
        entry_decided proved' stuck' (entry_at (alternatives_at shape n) a) ≡ false
    still_open n a place child c up k None e =
        elsewhere_open n a (λ q b. let clash : ◌≡◌ {A = Option (ℕ × ℕ × ℕ)} None (Some (n, a, q)) = only_parent shape is_shape node None e n a q b in cc) (entry_at (alternatives_at shape n) a) refl k.open_entry
    still_open n a place child c up k (Some way) e = elim (same_or_other n way.0) [
      | inr ne ↦ elsewhere_open n a (λ q b. ne (ap (λ (w : ℕ × ℕ × ℕ). w.0) (sym (inside q b)))) (entry_at (alternatives_at shape n) a) refl k.open_entry
      | inl here ↦ elim (same_or_other a way.1) [
        | inr ne ↦ elsewhere_open n a (λ q b. ne (ap (λ (w : ℕ × ℕ × ℕ). w.1) (sym (inside q b)))) (entry_at (alternatives_at shape n) a) refl k.open_entry
        | inl there ↦
            let b : IsChild shape n a way.2 node = subst (λ (m : ℕ). IsChild shape m a way.2 node) (sym here) (subst (λ (m : ℕ). IsChild shape way.0 m way.2 node) (sym there) (has_parent way e)) in
            elim (true_or_false (unmarked r1.flags node)) [
              | inl relevant ↦ here_open (entry_at (alternatives_at shape n) a) (λ entry is. g.whole n a way.2 entry place child b is c relevant up) k.open_entry
              | inr gone ↦ elim (f.fallen node gone) [
                | inl before ↦ absurd (both _ (kept shape proved stuck r0.flags n a k) (h.sound n a way.2 node b before))
                | inr q ↦ absurd (not_below_itself shape is_shape node q.0)
              ]
            ]
      ]
    ]
      where
        inside : (q : ℕ) → IsChild shape n a q node → way ≡ (n, a, q)
        inside q b = let whole : ◌≡◌ {A = Option (ℕ × ℕ × ℕ)} (Some way) (Some (n, a, q)) = only_parent shape is_shape node (Some way) e n a q b in cc

        has_parent : (w : ℕ × ℕ × ℕ) → above_at shape node ≡ Some w → IsChild shape w.0 w.1 w.2 node
        has_parent w e = is_shape.down w.0 w.1 w.2 node (flat (slice_get shape.above node) w e)
          where
            flat : (o : Option (Option (ℕ × ℕ × ℕ))) (w : ℕ × ℕ × ℕ) → option_flatten o ≡ Some w → o ≡ Some (Some w)
            flat None w e = absurd cc
            flat (Some o) w e = ap Some e

    still_whole : (n a place child : ℕ) → IsChild shape n a place child → unmarked r2.flags child ≡ true → (keeps shape proved' stuck' r2.flags n a ≡ true) ⊎ (is_pending r2.pending n ≡ true)
    still_whole n a place child c up = elim (same_or_other n node) [
      | inl here ↦ absurd (both _ (was_up r1 r2 (IsDecidedChild shape proved' stuck') g.fades child up)
          (below child (record { alternative = a; place = place; is = subst (λ (m : ℕ). IsChild shape m a place child) here c })))
      | inr ne ↦ elim (h.whole n a place child c (up_before child up)) [
        | inr w ↦ inr (pending_on n w)
        | inl keep ↦
            let k = keeping shape proved stuck r0.flags n a keep in
            elim (up_or_pending r0 r1 (HangsBelow shape node) f n k.up) [
              | inr w ↦ inr (g.fades.stays n w)
              | inl e ↦ elim (up_or_pending r1 r2 (IsDecidedChild shape proved' stuck') g.fades n e) [
                | inr w ↦ inr w
                | inl now ↦ inl (kept shape proved' stuck' r2.flags n a (record {
                  undecided = (let parts = or_parts (marked proved n) (marked stuck n) k.undecided in or_from _ _ (d.proved_elsewhere n ne ∙ parts.0) (d.stuck_elsewhere n ne ∙ parts.1));
                  open_entry = still_open n a place child c up k (above_at shape node) refl;
                  up = now;
                }))
              ]
            ]
      ]
    ]

    -- irrelevance is spread by the new marks
    pub spreads_on : IsSpread shape proved' stuck' r2
    spreads_on = record {
      sound = still_sound;
      whole = still_whole;
      waiting = λ n w. elim (g.fades.waiting n w) [
        | inr e ↦ e
        | inl before ↦ elim (f.waiting n before) [ inr e ↦ g.fades.down n e | inl earlier ↦ g.fades.down n (f.down n (h.waiting n earlier)) ]
      ];
      root = elim (true_or_false (unmarked r2.flags 0)) [
        | inl e ↦ e
        | inr e ↦ elim (g.fades.fallen 0 e) [
          | inl before ↦ elim (f.fallen 0 before) [
            | inl earlier ↦ absurd (both _ h.root earlier)
            | inr q ↦ absurd (let r = child-rises shape is_shape node q.0.alternative q.0.place 0 q.0.is in omega (arith, r))
          ]
          | inr q ↦ absurd (let r = child-rises shape is_shape q.0.parent q.0.alternative q.0.place 0 q.0.there in omega (arith, r))
        ]
      ];
    }
