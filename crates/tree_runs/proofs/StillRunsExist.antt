-- From each sound state where nothing is held seat 0 goes on until it is settled.
use Rattle.std.proofs.Common.{◌≡◌, ◌≢◌, ◌⊎◌, inl, inr, ℕ, zero, suc, ◌+◌, ◌<◌, ◌≤◌, Bool, true, false, not, ◌&&◌, ◌||◌, List, [], ◌∷◌, length, Some, None, refl, sym, ap, subst, ◌∙◌, arith, length-append, eq-eqb}
use Rattle.std.specs.Prelude.{slice_get, ◌==◌}
use Rattle.std.specs.List.{list_any}
use Rattle.std.proofs.lemmas.Bool.{and_from, lt-ltb}
use Rattle.std.proofs.lemmas.Option.{slice_get_within, slice_get_cases}
use Rattle.tree_runs.specs.Shapes.{alternatives_at}
use Rattle.tree_runs.specs.Marks.{is_decided}
use Rattle.tree_runs.specs.States.{TreeEvent, claim, commit, TreeNode, TreeState, start, counts_of, after_commit, after}
use Rattle.tree_runs.specs.Best.{is_eligible, IsBetter, Best}
use Rattle.tree_runs.specs.Runs.{same_counts, are_counts, is_legal, is_settled, Still, settled, step}
use Rattle.tree_runs.specs.Soundness.{is_committed, IsSound}
use Rattle.tree_runs.proofs.Progress.{progress}
use Rattle.tree_runs.proofs.Best.{is_best-from_Best}
use Rattle.tree_runs.proofs.Order.{better_or_worse, better_trans, address_of-apart}
use Rattle.tree_runs.proofs.Soundness.{start_sound, after_sound}

true_or_false : (b : Bool) → (b ≡ true) ⊎ (b ≡ false)
true_or_false true = inl refl
true_or_false false = inr refl

or_false : (a b : Bool) → (a || b) ≡ false → (a ≡ false) × (b ≡ false)
or_false true b h = absurd cc
or_false false b h = (refl, h)

same_counts-itself : (xs : List ℕ) → same_counts xs xs ≡ true
same_counts-itself [] = refl
same_counts-itself (x ∷ xs) = and_from (x == x) (same_counts xs xs) (eq-eqb x x refl) (same_counts-itself xs)

module _ {S : Type 0} (branches : S → List (ℕ × List S)) (root : S) (budget : ℕ) (state : TreeState S) (sound : IsSound branches root budget state) where
  -- the best among the nodes below a number
  record IsBestBelow (bound : ℕ) : Type 0 where
    node : ℕ
    content : TreeNode S
    there : slice_get state.nodes node ≡ Some content
    low : node < bound
    eligible : is_eligible state node ≡ true
    better : (other : ℕ) (rival : TreeNode S) → other < bound → slice_get state.nodes other ≡ Some rival → is_eligible state other ≡ true → (other ≡ node) ⊎ IsBetter content rival

  addresses_apart : (a b : ℕ) (x y : TreeNode S) → slice_get state.nodes a ≡ Some x → slice_get state.nodes b ≡ Some y → a ≢ b → x.address ≡ y.address → ⊥
  addresses_apart a b x y ex ey ne e =
      let sa = slice_get_within state.nodes a x ex in
      let sb = slice_get_within state.nodes b y ey in
      ne (address_of-apart state.shape sound.is_shape a b (omega (arith, sa, sound.nodes)) (omega (arith, sb, sound.nodes)) (sym (sound.addresses a x ex) ∙ e ∙ sound.addresses b y ey))

  last_or_below : (other bound : ℕ) → other < suc bound → (other < bound) ⊎ (other ≡ bound)
  last_or_below zero zero h = inr refl
  last_or_below zero (suc bound) h = inl (omega arith)
  last_or_below (suc other) zero h = absurd (omega arith)
  last_or_below (suc other) (suc bound) h = elim (last_or_below other bound (omega arith)) [ inl l ↦ inl (omega arith) | inr e ↦ inr (ap suc e) ]

  keep_best : (bound : ℕ) → (is_eligible state bound ≡ true → ⊥) → IsBestBelow bound → IsBestBelow (suc bound)
  keep_best bound never b = record {
    node = b.node;
    content = b.content;
    there = b.there;
    low = (let l = b.low in omega (arith, l));
    eligible = b.eligible;
    better = λ other rival low e eligible. elim (last_or_below other bound low) [ inl below ↦ b.better other rival below e eligible | inr last ↦ absurd (never (subst (λ (n : ℕ). is_eligible state n ≡ true) last eligible)) ];
  }

  same_content : (node : ℕ) (x y : TreeNode S) → slice_get state.nodes node ≡ Some x → slice_get state.nodes node ≡ Some y → x ≡ y
  same_content node x y e f = let twice : Some x ≡ Some y = sym e ∙ f in cc

  -- one more node that is eligible
  first_best : (bound : ℕ) (content : TreeNode S) → slice_get state.nodes bound ≡ Some content → is_eligible state bound ≡ true → ((other : ℕ) → other < bound → is_eligible state other ≡ true → ⊥) → IsBestBelow (suc bound)
  first_best bound content there eligible none = record {
    node = bound;
    content = content;
    there = there;
    low = omega arith;
    eligible = eligible;
    better = λ other rival low e ok. elim (last_or_below other bound low) [ inl below ↦ absurd (none other below ok) | inr last ↦ inl last ];
  }

  next_best : (bound : ℕ) (content : TreeNode S) → slice_get state.nodes bound ≡ Some content → is_eligible state bound ≡ true → IsBestBelow bound → IsBestBelow (suc bound)
  next_best bound content there eligible b =
      let l = b.low in
      elim (better_or_worse b.content content (addresses_apart b.node bound b.content content b.there there (λ e. omega (arith, e, l)))) [
        | inl stays ↦ record {
          node = b.node;
          content = b.content;
          there = b.there;
          low = omega (arith, l);
          eligible = b.eligible;
          better = λ other rival low e ok. elim (last_or_below other bound low) [
            | inl below ↦ b.better other rival below e ok
            | inr last ↦ inr (subst (IsBetter b.content) (same_content bound content rival there (ap (slice_get state.nodes) (sym last) ∙ e)) stays)
          ];
        }
        | inr wins ↦ record {
          node = bound;
          content = content;
          there = there;
          low = omega arith;
          eligible = eligible;
          better = λ other rival low e ok. elim (last_or_below other bound low) [
            | inr last ↦ inl last
            | inl below ↦ elim (b.better other rival below e ok) [
              | inl same ↦ inr (subst (IsBetter content) (same_content b.node b.content rival b.there (ap (slice_get state.nodes) (sym same) ∙ e)) wins)
              | inr beaten ↦ inr (better_trans content b.content rival wins beaten)
            ]
          ];
        }
      ]

  best_below : (bound : ℕ) → bound ≤ length state.nodes → ((other : ℕ) → other < bound → is_eligible state other ≡ true → ⊥) ⊎ IsBestBelow bound
  best_below zero h = inl (λ other low e. absurd (omega arith))
  best_below (suc bound) h = elim (slice_get_cases state.nodes bound).1 [
    | inr past ↦ absurd (let p = past.0 in omega (arith, p))
    | inl here ↦ elim (best_below bound (omega arith)) [
      | inl none ↦ elim (true_or_false (is_eligible state bound)) [
        | inl ok ↦ inr (first_best bound here.0 here.2 ok none)
        | inr not_ok ↦ inl (λ other low e. elim (last_or_below other bound low) [ inl below ↦ none other below e | inr last ↦ absurd (let clash : false ≡ true = sym not_ok ∙ ap (is_eligible state) (sym last) ∙ e in cc) ])
      ]
      | inr b ↦ elim (true_or_false (is_eligible state bound)) [
        | inl ok ↦ inr (next_best bound here.0 here.2 ok b)
        | inr not_ok ↦ inr (keep_best bound (λ e. let clash : false ≡ true = sym not_ok ∙ e in cc) b)
      ]
    ]
  ]

  -- where something is eligible there is a best node
  pub best_exists : (some : ℕ) → some < length state.nodes → is_eligible state some ≡ true → (node : ℕ) × Best state node
  best_exists some low ok = elim (best_below (length state.nodes) (omega arith)) [
    | inl none ↦ absurd (none some low ok)
    | inr b ↦ (b.node, record { content = b.content; there = b.there; eligible = b.eligible; better = λ other rival e fine. b.better other rival (slice_get_within state.nodes other rival e) e fine })
  ]

  uncommitted_known : (node : ℕ) → alternatives_at state.shape node ≡ None → (b : Bool) → is_committed state node ≡ b → b ≡ false
  uncommitted_known node ungrown true e = absurd (sound.committed_grown node e ungrown)
  uncommitted_known node ungrown false e = refl

  idle_best : state.held ≡ [] → is_decided state.shape 0 ≡ false → (node : ℕ) × Best state node
  idle_best idle undecided =
      let found = progress state.shape sound.is_shape undecided in
      let low : found.node < length state.nodes = (let s = found.stands in omega (arith, s, sound.nodes)) in
      let uncommitted : is_committed state found.node ≡ false = uncommitted_known found.node found.ungrown (is_committed state found.node) refl in
      let unheld : list_any (λ pair. pair.1 == found.node) state.held ≡ false = ap (list_any (λ pair. pair.1 == found.node)) idle in
      best_exists found.node low
      (and_from _ _ (and_from _ _ (and_from _ _ (lt-ltb found.node (length state.nodes) low) (ap not uncommitted)) (ap not unheld)) found.relevant)

  -- the next pair of events
  pub record HasPair : Type 0 where
    pub node : ℕ
    pub counts : List ℕ
    pub first : is_legal branches budget state (claim 0 node) ≡ true
    pub second : is_legal branches budget (after branches state (claim 0 node)) (commit 0 node counts) ≡ true
    pub idle : (after branches (after branches state (claim 0 node)) (commit 0 node counts)).held ≡ []
    pub longer : length (after branches (after branches state (claim 0 node)) (commit 0 node counts)).committed ≡ length state.committed + 1

  pub has_pair : state.held ≡ [] → is_decided state.shape 0 ≡ false → length state.committed < budget → HasPair
  unfolding is_legal after
  has_pair idle undecided room =
      let best = idle_best idle undecided in
      let node = best.0 in
      let content = best.1.content in
      let held_none : length state.held ≡ 0 = ap length idle in
      record {
        node = node;
        counts = counts_of (branches content.seen);
        first = and_from _ _ (and_from _ _ (and_from _ _ (ap not undecided) (lt-ltb (length state.committed + length state.held) budget (omega (arith, held_none, room)))) (ap (λ held. not (list_any (λ pair. pair.0 == 0) held)) idle)) (is_best-from_Best state node best.1);
        second = and_from _ _ (ap (λ b. b || list_any (λ pair. pair.0 == 0 && pair.1 == node) state.held) (eq-eqb node node refl))
            (ap (λ o. are_counts branches o (counts_of (branches content.seen))) best.1.there ∙ same_counts-itself (counts_of (branches content.seen)));
        idle = ap (λ o. (after_commit branches (record state { held = (0, node) ∷ state.held }) 0 node o).held) best.1.there ∙ ap (λ held. (after_commit branches (record state { held = (0, node) ∷ held }) 0 node (Some content)).held) idle;
        longer = ap (λ o. length (after_commit branches (record state { held = (0, node) ∷ state.held }) 0 node o).committed) best.1.there ∙ length-append state.committed (node ∷ []);
      }

module _ {S : Type 0} (branches : S → List (ℕ × List S)) (root : S) (budget : ℕ) where
  record IsGoing (state : TreeState S) : Type 0 where
    undecided : is_decided state.shape 0 ≡ false
    room : length state.committed < budget

  going_known : (state : TreeState S) → IsSound branches root budget state → state.held ≡ [] → is_settled branches budget state ≡ false → IsGoing state
  going_known state sound idle e =
      let none : length state.held ≡ 0 = ap length idle in
      let parts = or_false (is_decided state.shape 0) (length state.committed == budget) (sym (ap (λ (n : ℕ). (n == 0) && (is_decided state.shape 0 || length state.committed == budget)) none) ∙ e) in
      record { undecided = parts.0; room = (let bound = sound.within in let ne : length state.committed ≢ budget = λ same. let clash : false ≡ true = sym parts.1 ∙ eq-eqb (length state.committed) budget same in cc in omega (arith, bound, ne, none)) }

  go_on : (fuel : ℕ) (state : TreeState S) → IsSound branches root budget state → state.held ≡ [] → budget ≤ length state.committed + fuel → (journal : List TreeEvent) × Still branches budget state journal
  go_on zero state sound idle enough = elim (true_or_false (is_settled branches budget state)) [
    | inl done ↦ ([], settled state done)
    | inr going ↦ absurd (let known = going_known state sound idle going in let r = known.room in omega (arith, r, enough))
  ]
  go_on (suc fuel) state sound idle enough = elim (true_or_false (is_settled branches budget state)) [
    | inl done ↦ ([], settled state done)
    | inr going ↦
        let known = going_known state sound idle going in
        let pair = has_pair branches root budget state sound idle known.undecided known.room in
        let claimed_sound = after_sound branches root budget state (claim 0 pair.node) sound pair.first in
        let next_sound = after_sound branches root budget (after branches state (claim 0 pair.node)) (commit 0 pair.node pair.counts) claimed_sound pair.second in
        let rest = go_on fuel (after branches (after branches state (claim 0 pair.node)) (commit 0 pair.node pair.counts)) next_sound pair.idle (let l = pair.longer in omega (arith, l, enough)) in
        (claim 0 pair.node ∷ commit 0 pair.node pair.counts ∷ rest.0, step state pair.node pair.counts rest.0 going pair.first pair.second rest.1)
  ]

  -- there is a still run
  pub still_run_exists : (journal : List TreeEvent) × Still branches budget (start root) journal
  still_run_exists = go_on budget (start root) (start_sound branches root budget) refl (omega arith)
