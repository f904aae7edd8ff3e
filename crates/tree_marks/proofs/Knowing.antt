-- What is known of children and alternatives, when marks are written at one node.
use Rattle.std.proofs.Common.{◌≡◌, ◌≢◌, inl, inr, ℕ, zero, suc, ◌+◌, ◌<◌, ◌≤◌, Bool, true, false, ◌||◌, List, [], ◌∷◌, length, Option, Some, None, refl, sym, ap, subst, ◌∙◌, arith}
use Rattle.std.specs.Prelude.{slice_get, slice_set}
use Rattle.std.specs.Option.{option_map, option_flatten}
use Rattle.std.specs.List.{list_any, list_all}
use Rattle.std.proofs.lemmas.Bool.{and_parts, and_from}
use Rattle.std.proofs.lemmas.Option.{slice_get_cases, slice_get_within}
use Rattle.tree_runs.specs.Shapes.{TreeShape, nodes_count, above_at, alternatives_at, IsChild, IsShape}
use Rattle.tree_runs.specs.Marks.{all_from, all_children, some_child, proved_by, stuck_by, entry_at}
use Rattle.tree_runs.proofs.Lists.{same_or_other}
use Rattle.tree_runs.proofs.Marks.{any_from-agree, all_from-weaker, any_from-weaker, above-rises}
use Rattle.tree_marks.specs.TreeMarks.{marked, IsLocalAt, run_of, passed_of, EachEntry, NoneStuck, KnowsProved, KnowsStuck}
use Rattle.tree_shape.specs.Room.{HasAlternative}
use Rattle.tree_marks.specs.Fading.{Fading, IsSpread, DecidesOne}
use Rattle.tree_marks.proofs.Climbs.{get_or-set-same, get_or-set-other, only_parent, other_parent, all_kept_at, some_kept_at}
use Rattle.tree_marks.proofs.Entries.{children_stand, list_any-none, has_width, entry_known, proved_found, stuck_refuted, stuck_found}

-- fewer of those that pass
pub all_from-less : (test : ℕ → Bool) (first more less : ℕ) → less ≤ more → all_from test first more ≡ true → all_from test first less ≡ true
all_from-less test first more zero h a = refl
all_from-less test first zero (suc less) h a = absurd (omega arith)
all_from-less test first (suc more) (suc less) h a =
    let parts = and_parts (test first) (all_from test (suc first) more) a in
    and_from (test first) (all_from test (suc first) less) parts.0 (all_from-less test (suc first) more less (omega arith) parts.1)

pub same_runs : (proved : List Bool) (known known' : List (ℕ × ℕ)) → ((node : ℕ) → run_of known' node ≡ run_of known node) → KnowsProved proved known → KnowsProved proved known'
same_runs proved known known' same h node = ap (all_from (marked proved) node) (same node) ∙ h node

pub knows_passed : (shape : TreeShape) (stuck : List Bool) (known : List (ℕ × ℕ)) (node passed : ℕ) → passed_of known node ≡ passed → EachEntry shape node passed (some_child (marked stuck)) true → NoneStuck shape stuck node passed →
    KnowsStuck shape stuck known node
knows_passed shape stuck known node passed e before next = record {
  before = subst (λ (p : ℕ). EachEntry shape node p (some_child (marked stuck)) true) (sym e) before;
  next = subst (NoneStuck shape stuck node) (sym e) next;
}

pub passed_kept : (shape : TreeShape) (stuck : List Bool) (known known' : List (ℕ × ℕ)) (node : ℕ) → passed_of known' node ≡ passed_of known node → KnowsStuck shape stuck known node → KnowsStuck shape stuck known' node
passed_kept shape stuck known known' node e h = knows_passed shape stuck known' node (passed_of known node) e h.before h.next

-- one node's alternatives, and those of all others
pub knows_everywhere : (shape : TreeShape) (stuck : List Bool) (known known' : List (ℕ × ℕ)) (node : ℕ) → KnowsStuck shape stuck known' node → ((other : ℕ) → (other ≡ node → ⊥) → passed_of known' other ≡ passed_of known other) →
    ((other : ℕ) → (other ≡ node → ⊥) → KnowsStuck shape stuck known other) → (other : ℕ) → KnowsStuck shape stuck known' other
knows_everywhere shape stuck known known' node here same others other = elim (same_or_other other node) [
  | inl e ↦ subst (KnowsStuck shape stuck known') (sym e) here
  | inr ne ↦ passed_kept shape stuck known known' other (same other ne) (others other ne)
]

-- ---- a node by what is known of its alternatives

pub passed_whole : (shape : TreeShape) (node width passed : ℕ) (stuck : List Bool) → Some width ≡ option_map length (alternatives_at shape node) → width ≤ passed → EachEntry shape node passed (some_child (marked stuck)) true →
    stuck_by (marked stuck) (alternatives_at shape node) ≡ true
passed_whole shape node width passed stuck e enough h = stuck_found shape node width (marked stuck) e (λ alternative entry small f. h alternative entry (omega arith) f)

pub passed_partly : (shape : TreeShape) (node width passed : ℕ) (stuck : List Bool) → Some width ≡ option_map length (alternatives_at shape node) → passed < width → NoneStuck shape stuck node passed →
    stuck_by (marked stuck) (alternatives_at shape node) ≡ false
passed_partly shape node width passed stuck e small h =
    let known = has_width shape node width e in
    elim (slice_get_cases known.all passed).1 [
      | inl p ↦ let here : entry_at (alternatives_at shape node) passed ≡ Some p.0 = entry_known shape node known.all passed known.grown ∙ p.2 in stuck_refuted shape node passed p.0 (marked stuck) here (h p.0 here)
      | inr p ↦ absurd (omega (arith, p.0, known.size))
    ]

-- where there is no such alternative, it has no stuck child
pub none_past : (shape : TreeShape) (node width passed : ℕ) (stuck : List Bool) → Some width ≡ option_map length (alternatives_at shape node) → width ≤ passed → NoneStuck shape stuck node passed
none_past shape node width passed stuck e enough entry f =
    let known = has_width shape node width e in
    elim (slice_get_cases known.all passed).1 [
      | inl p ↦ absurd (let small = p.1 in omega (arith, small, known.size))
      | inr p ↦ absurd (let clash : ◌≡◌ {A = Option (ℕ × ℕ)} None (Some entry) = sym p.1 ∙ sym (entry_known shape node known.all passed known.grown) ∙ f in cc)
    ]

-- a node all of whose other alternatives fail
pub only_alternative : (shape : TreeShape) (node i : ℕ) (entry : ℕ × ℕ) (proved : ℕ → Bool) → entry_at (alternatives_at shape node) i ≡ Some entry →
    ((other : ℕ) (e : ℕ × ℕ) → (other ≡ i → ⊥) → entry_at (alternatives_at shape node) other ≡ Some e → all_children proved e ≡ false) →
    (b : Bool) → b ≡ all_children proved entry → b ≡ proved_by proved (alternatives_at shape node)
only_alternative shape node i entry proved f others true e = sym (proved_found shape node i entry proved f (sym e))
only_alternative shape node i entry proved f others false e = sym (fails (alternatives_at shape node) refl)
  where
    fails : (o : Option (List (ℕ × ℕ))) → alternatives_at shape node ≡ o → proved_by proved o ≡ false
    fails None g = refl
    fails (Some all) g = list_any-none (all_children proved) all (λ j x h. elim (same_or_other j i) [
      | inl same ↦ let there = entry_known shape node all j g ∙ h in
          let twice : ◌≡◌ {A = Option (ℕ × ℕ)} (Some x) (Some entry) = sym there ∙ ap (entry_at (alternatives_at shape node)) same ∙ f in
          let is : x ≡ entry = cc in ap (all_children proved) is ∙ sym e
      | inr ne ↦ others j x ne (entry_known shape node all j g ∙ h)
    ])

-- ---- marks that only grow

or_grows : (a b c d : Bool) → (a ≡ true → c ≡ true) → (b ≡ true → d ≡ true) → (a || b) ≡ true → (c || d) ≡ true
or_grows true b c d f g h = let e = f refl in cc
or_grows false b true d f g h = refl
or_grows false b false d f g h = g h

proved_by-grows : (p q : ℕ → Bool) → ((n : ℕ) → p n ≡ true → q n ≡ true) → (o : Option (List (ℕ × ℕ))) → proved_by p o ≡ true → proved_by q o ≡ true
proved_by-grows p q h None a = a
proved_by-grows p q h (Some []) a = a
proved_by-grows p q h (Some (x ∷ all)) a = or_grows (all_children p x) (list_any (all_children p) all) _ _ (all_from-weaker p q h x.0 x.1) (proved_by-grows p q h (Some all)) a

stuck_by-grows : (p q : ℕ → Bool) → ((n : ℕ) → p n ≡ true → q n ≡ true) → (o : Option (List (ℕ × ℕ))) → stuck_by p o ≡ true → stuck_by q o ≡ true
stuck_by-grows p q h None a = a
stuck_by-grows p q h (Some []) a = a
stuck_by-grows p q h (Some (x ∷ all)) a =
    let parts = and_parts (some_child p x) (list_all (some_child p) all) a in
    and_from (some_child q x) (list_all (some_child q) all) (any_from-weaker p q h x.0 x.1 parts.0) (stuck_by-grows p q h (Some all) parts.1)

or_parts : (a b : Bool) → (a || b) ≡ false → (a ≡ false) × (b ≡ false)
or_parts true b h = absurd cc
or_parts false b h = (refl, h)

list_any_each : (test : ℕ × ℕ → Bool) (xs : List (ℕ × ℕ)) → list_any test xs ≡ false → (i : ℕ) (x : ℕ × ℕ) → slice_get xs i ≡ Some x → test x ≡ false
list_any_each test [] h i x e = absurd cc
list_any_each test (y ∷ xs) h zero x e = let parts = or_parts (test y) (list_any test xs) h in let same : y ≡ x = cc in ap test (sym same) ∙ parts.0
list_any_each test (y ∷ xs) h (suc i) x e = let parts = or_parts (test y) (list_any test xs) h in list_any_each test xs parts.1 i x e

unproved_each : (proved : ℕ → Bool) (o : Option (List (ℕ × ℕ))) → proved_by proved o ≡ false → (i : ℕ) (entry : ℕ × ℕ) → entry_at o i ≡ Some entry → all_children proved entry ≡ false
unproved_each proved None h i entry e = absurd cc
unproved_each proved (Some all) h i entry e = list_any_each (all_children proved) all h i entry e

other_alternative : (shape : TreeShape) → IsShape shape → (node : ℕ) (way : ℕ × ℕ × ℕ) → above_at shape node ≡ Some way → (i : ℕ) → i ≢ way.1 → (place : ℕ) → IsChild shape way.0 i place node → ⊥
other_alternative shape is_shape node way e i ne place c =
    let both : ◌≡◌ {A = Option (ℕ × ℕ × ℕ)} (Some way) (Some (way.0, i, place)) = only_parent shape is_shape node (Some way) e way.0 i place c in
    let inside : ◌≡◌ {A = ℕ × ℕ × ℕ} way (way.0, i, place) = cc in
    ne (sym (ap (λ (w : ℕ × ℕ × ℕ). w.1) inside))

written_grows : (flags flags' : List Bool) (node : ℕ) (flag : Bool) → node < length flags → flags' ≡ slice_set flags node flag → (marked flags node ≡ true → flag ≡ true) → (n : ℕ) → marked flags n ≡ true → marked flags' n ≡ true
written_grows flags flags' node flag within e rises n h = elim (same_or_other n node) [
  | inl same ↦ ap (λ xs. marked xs n) e ∙ ap (marked (slice_set flags node flag)) same ∙ get_or-set-same flags node flag false within ∙ rises (ap (marked flags) (sym same) ∙ h)
  | inr ne ↦ ap (λ xs. marked xs n) e ∙ get_or-set-other flags node n flag false ne ∙ h
]

-- ---- the climb

-- How far it has come: the marks that this node is to have, what is known, and that irrelevance is spread.
pub record Climbing (shape : TreeShape) (proved stuck : List Bool) (known : List (ℕ × ℕ)) (fading : Fading) (node : ℕ) (is_proved is_stuck : Bool) : Type 0 where
  pub others : (other : ℕ) → (other ≡ node → ⊥) → IsLocalAt shape proved stuck other
  pub proved_is : is_proved ≡ proved_by (marked proved) (alternatives_at shape node)
  pub stuck_is : is_stuck ≡ stuck_by (marked stuck) (alternatives_at shape node)
  pub proved_rises : marked proved node ≡ true → is_proved ≡ true
  pub stuck_rises : marked stuck node ≡ true → is_stuck ≡ true
  pub knows_proved : KnowsProved proved known
  pub knows_stuck : (n : ℕ) → KnowsStuck shape stuck known n
  pub spread : IsSpread shape proved stuck fading

-- what holds above a node that was just marked
pub record Above (shape : TreeShape) (proved stuck : List Bool) (known : List (ℕ × ℕ)) (child node alternative : ℕ) : Type 0 where
  pub proved_rises : marked proved node ≡ true → proved_by (marked proved) (alternatives_at shape node) ≡ true
  pub stuck_rises : marked stuck node ≡ true → stuck_by (marked stuck) (alternatives_at shape node) ≡ true
  pub unproved : marked proved node ≡ false → (other : ℕ) (entry : ℕ × ℕ) → (other ≡ alternative → ⊥) → entry_at (alternatives_at shape node) other ≡ Some entry → all_children (marked proved) entry ≡ false
  pub knows_proved : KnowsProved proved known
  pub before : (n : ℕ) → EachEntry shape n (passed_of known n) (some_child (marked stuck)) true
  pub next : (alternative ≡ passed_of known node → ⊥) → NoneStuck shape stuck node (passed_of known node)
  pub unstuck : marked stuck child ≡ false → NoneStuck shape stuck node (passed_of known node)
  pub others : (n : ℕ) → (n ≡ node → ⊥) → NoneStuck shape stuck n (passed_of known n)

-- what grows and is false was false
stays_false : (b : Bool) {c : Bool} → (b ≡ true → c ≡ true) → c ≡ false → b ≡ false
stays_false false h e = refl
stays_false true h e = absurd (let t = h refl in let clash : true ≡ false = sym t ∙ e in cc)

pub above : (shape : TreeShape) → IsShape shape → (proved stuck proved' stuck' : List Bool) (known : List (ℕ × ℕ)) (fading : Fading) (node : ℕ) (way : ℕ × ℕ × ℕ) (p s : Bool) →
    Climbing shape proved stuck known fading node p s → node < length proved → node < length stuck → proved' ≡ slice_set proved node p → stuck' ≡ slice_set stuck node s → above_at shape node ≡ Some way →
    Above shape proved' stuck' known node way.0 way.1
above shape is_shape proved stuck proved' stuck' known fading node way p s h within_p within_s wp ws up =
    let elsewhere_p : (other : ℕ) → other ≢ node → marked proved' other ≡ marked proved other = λ other ne. ap (λ flags. marked flags other) wp ∙ get_or-set-other proved node other p false ne in
    let elsewhere_s : (other : ℕ) → other ≢ node → marked stuck' other ≡ marked stuck other = λ other ne. ap (λ flags. marked flags other) ws ∙ get_or-set-other stuck node other s false ne in
    let grows_p = written_grows proved proved' node p within_p wp h.proved_rises in
    let grows_s = written_grows stuck stuck' node s within_s ws h.stuck_rises in
    let same_stuck : marked stuck' node ≡ false → (n : ℕ) → marked stuck' n ≡ marked stuck n = λ a n. elim (same_or_other n node) [
      | inl same ↦ ap (marked stuck') same ∙ (a ∙ (sym (stays_false (marked stuck node) (λ e. grows_s node e) a) ∙ ap (marked stuck) (sym same)))
      | inr ne ↦ elsewhere_s n ne
    ] in
    let rises = above-rises shape is_shape node way up in
    let apart : way.0 ≢ node = λ e. omega (arith, e, rises) in
    let local = h.others way.0 apart in
    record {
      proved_rises = λ a. proved_by-grows (marked proved) (marked proved') grows_p (alternatives_at shape way.0) (sym local.proved_is ∙ sym (elsewhere_p way.0 apart) ∙ a);
      stuck_rises = λ a. stuck_by-grows (marked stuck) (marked stuck') grows_s (alternatives_at shape way.0) (sym local.stuck_is ∙ sym (elsewhere_s way.0 apart) ∙ a);
      unproved = λ a other entry ne f.
          all_kept_at shape node proved proved' elsewhere_p way.0 other entry (other_alternative shape is_shape node way up other ne) (alternatives_at shape way.0) refl f
          ∙ unproved_each (marked proved) (alternatives_at shape way.0) (sym local.proved_is ∙ sym (elsewhere_p way.0 apart) ∙ a) other entry f;
      knows_proved = λ n. all_from-weaker (marked proved) (marked proved') grows_p n (run_of known n) (h.knows_proved n);
      before = λ n alternative entry small f. any_from-weaker (marked stuck) (marked stuck') grows_s entry.0 entry.1 ((h.knows_stuck n).before alternative entry small f);
      next = λ ne entry f. some_kept_at shape node stuck stuck' elsewhere_s way.0 (passed_of known way.0) entry (other_alternative shape is_shape node way up (passed_of known way.0) (λ e. ne (sym e))) (alternatives_at shape way.0) refl f
          ∙ (h.knows_stuck way.0).next entry f;
      unstuck = λ a entry f. any_from-agree (marked stuck') (marked stuck) entry.0 entry.1 (λ place within. same_stuck a (entry.0 + place)) ∙ (h.knows_stuck way.0).next entry f;
      others = λ n ne entry f. some_kept_at shape node stuck stuck' elsewhere_s n (passed_of known n) entry (other_parent shape is_shape node way up n ne (passed_of known n)) (alternatives_at shape n) refl f
          ∙ (h.knows_stuck n).next entry f;
    }

-- the node that is written is decided, since its marks change
pub decides : (shape : TreeShape) (proved stuck proved' stuck' : List Bool) (known : List (ℕ × ℕ)) (fading : Fading) (node : ℕ) (p s : Bool) → Climbing shape proved stuck known fading node p s →
    node < length proved → node < length stuck → proved' ≡ slice_set proved node p → stuck' ≡ slice_set stuck node s →
    (marked proved node ≡ p → marked stuck node ≡ s → ⊥) → DecidesOne proved stuck proved' stuck' node
decides shape proved stuck proved' stuck' known fading node p s h within_p within_s wp ws changed =
    let here_p = ap (λ flags. marked flags node) wp ∙ get_or-set-same proved node p false within_p in
    let here_s = ap (λ flags. marked flags node) ws ∙ get_or-set-same stuck node s false within_s in
    record {
      proved_elsewhere = λ other ne. ap (λ flags. marked flags other) wp ∙ get_or-set-other proved node other p false ne;
      stuck_elsewhere = λ other ne. ap (λ flags. marked flags other) ws ∙ get_or-set-other stuck node other s false ne;
      proved_grows = λ e. here_p ∙ h.proved_rises e;
      stuck_grows = λ e. here_s ∙ h.stuck_rises e;
      decided = ap (λ b. b || marked stuck' node) here_p ∙ (ap (λ b. p || b) here_s ∙ one p s (marked proved node) (marked stuck node) changed h.proved_rises h.stuck_rises);
    }
  where
    one : (p s a b : Bool) → (a ≡ p → b ≡ s → ⊥) → (a ≡ true → p ≡ true) → (b ≡ true → s ≡ true) → (p || s) ≡ true
    one true s a b h f g = refl
    one false true a b h f g = refl
    one false false true b h f g = f refl
    one false false false true h f g = g refl
    one false false false false h f g = absurd (h refl refl)

-- the climb goes on above
pub climbs_on : (shape : TreeShape) (proved stuck : List Bool) (known known' known'' : List (ℕ × ℕ)) (fading : Fading) (child node alternative : ℕ) (p s : Bool) →
    ((other : ℕ) → (other ≡ node → ⊥) → IsLocalAt shape proved stuck other) → Above shape proved stuck known child node alternative →
    p ≡ proved_by (marked proved) (alternatives_at shape node) → s ≡ stuck_by (marked stuck) (alternatives_at shape node) →
    KnowsProved proved known' → ((n : ℕ) → passed_of known' n ≡ passed_of known n) → ((n : ℕ) → run_of known'' n ≡ run_of known' n) →
    KnowsStuck shape stuck known'' node → ((n : ℕ) → (n ≡ node → ⊥) → passed_of known'' n ≡ passed_of known' n) → IsSpread shape proved stuck fading → Climbing shape proved stuck known'' fading node p s
climbs_on shape proved stuck known known' known'' fading child node alternative p s local a vp vs knows passed runs here others spread = record {
  others = local;
  proved_is = vp;
  stuck_is = vs;
  proved_rises = λ e. vp ∙ a.proved_rises e;
  stuck_rises = λ e. vs ∙ a.stuck_rises e;
  knows_proved = same_runs proved known' known'' runs knows;
  knows_stuck = λ n. elim (same_or_other n node) [
    | inl e ↦ subst (KnowsStuck shape stuck known'') (sym e) here
    | inr ne ↦ knows_passed shape stuck known'' n (passed_of known n) (others n ne ∙ passed n) (a.before n) (a.others n ne)
  ];
  spread = spread;
}

pub moved_before : (shape : TreeShape) (stuck : List Bool) (known known' : List (ℕ × ℕ)) (node : ℕ) → passed_of known' node ≡ passed_of known node → EachEntry shape node (passed_of known node) (some_child (marked stuck)) true →
    EachEntry shape node (passed_of known' node) (some_child (marked stuck)) true
moved_before shape stuck known known' node e h = subst (λ (p : ℕ). EachEntry shape node p (some_child (marked stuck)) true) (sym e) h

pub moved_unstuck : (shape : TreeShape) (stuck : List Bool) (known known' : List (ℕ × ℕ)) (child node : ℕ) → passed_of known' node ≡ passed_of known node →
    (marked stuck child ≡ false → NoneStuck shape stuck node (passed_of known node)) → marked stuck child ≡ false → NoneStuck shape stuck node (passed_of known' node)
moved_unstuck shape stuck known known' child node e h a = subst (NoneStuck shape stuck node) (sym e) (h a)

pub moved_next : (shape : TreeShape) (stuck : List Bool) (known known' : List (ℕ × ℕ)) (node alternative : ℕ) → passed_of known' node ≡ passed_of known node →
    ((alternative ≡ passed_of known node → ⊥) → NoneStuck shape stuck node (passed_of known node)) → (alternative ≡ passed_of known' node → ⊥) → NoneStuck shape stuck node (passed_of known' node)
moved_next shape stuck known known' node alternative e h ne = subst (NoneStuck shape stuck node) (sym e) (h (λ x. ne (x ∙ sym e)))

flat : (o : Option (Option (ℕ × ℕ × ℕ))) (way : ℕ × ℕ × ℕ) → option_flatten o ≡ Some way → o ≡ Some (Some way)
flat None way e = absurd cc
flat (Some o) way e = ap Some e

-- a node's alternative is one of the node above
pub has_above : (shape : TreeShape) → IsShape shape → (node : ℕ) (way : ℕ × ℕ × ℕ) → above_at shape node ≡ Some way → HasAlternative shape way.0 way.1
has_above shape is_shape node way e =
    let c = is_shape.down way.0 way.1 way.2 node (flat (slice_get shape.above node) way e) in
    record { all = c.all; grown = c.grown; within = slice_get_within c.all way.1 _ c.there }

-- the number that an alternative has for its first child stands
pub first_stands : (shape : TreeShape) → IsShape shape → (node alternative first count : ℕ) → node < nodes_count shape → entry_at (alternatives_at shape node) alternative ≡ Some (first, count) → first < nodes_count shape
first_stands shape is_shape node alternative first zero stands e = known (alternatives_at shape node) refl e
  where
    known : (o : Option (List (ℕ × ℕ))) → alternatives_at shape node ≡ o → entry_at o alternative ≡ Some (first, 0) → first < nodes_count shape
    known None g f = absurd cc
    known (Some all) g f = let z : first ≡ 0 = is_shape.childless node alternative first all g f in omega (arith, z, stands)
first_stands shape is_shape node alternative first (suc count) stands e = let h = children_stand shape is_shape node alternative first (suc count) e in omega (arith, h)

-- at the root the climb ends
pub written_knows_proved : (proved proved' : List Bool) (known : List (ℕ × ℕ)) (node : ℕ) (p : Bool) → node < length proved → proved' ≡ slice_set proved node p → (marked proved node ≡ true → p ≡ true) →
    KnowsProved proved known → KnowsProved proved' known
written_knows_proved proved proved' known node p within wp rises h n = all_from-weaker (marked proved) (marked proved') (written_grows proved proved' node p within wp rises) n (run_of known n) (h n)

pub root_knows_stuck : (shape : TreeShape) → IsShape shape → (stuck stuck' : List Bool) (known : List (ℕ × ℕ)) (node : ℕ) (s : Bool) → node < length stuck → stuck' ≡ slice_set stuck node s → (marked stuck node ≡ true → s ≡ true) →
    above_at shape node ≡ None → ((n : ℕ) → KnowsStuck shape stuck known n) → (n : ℕ) → KnowsStuck shape stuck' known n
root_knows_stuck shape is_shape stuck stuck' known node s within ws rises root h n =
    let elsewhere : (other : ℕ) → other ≢ node → marked stuck' other ≡ marked stuck other = λ other ne. ap (λ flags. marked flags other) ws ∙ get_or-set-other stuck node other s false ne in
    record {
      before = λ alternative entry small f. any_from-weaker (marked stuck) (marked stuck') (written_grows stuck stuck' node s within ws rises) entry.0 entry.1 ((h n).before alternative entry small f);
      next = λ entry f. some_kept_at shape node stuck stuck' elsewhere n (passed_of known n) entry
          (λ place c. let clash : None ≡ Some (n, passed_of known n, place) = only_parent shape is_shape node None root n (passed_of known n) place c in cc) (alternatives_at shape n) refl f
          ∙ (h n).next entry f;
    }
