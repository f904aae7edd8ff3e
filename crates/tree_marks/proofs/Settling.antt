-- Marks that are right before a node is grown, what holds when settling begins, and what it gives when it ends.
use Rattle.std.proofs.Common.{◌≡◌, inl, inr, ℕ, zero, suc, ◌+◌, ◌-◌, ◌<◌, ◌≤◌, Bool, true, false, not, ◌&&◌, ◌||◌, List, [], ◌∷◌, ◌++◌, length, take, replicate, get_or, Option, Some, None, refl, sym, ap, subst, ◌∙◌, arith, length-append}
use Rattle.std.specs.Prelude.{sum, slice_get}
use Rattle.std.specs.Option.{option_flatten}
use Rattle.std.proofs.lemmas.List.{get_or_past, take-append-le, take_all, length-replicate}
use Rattle.std.proofs.lemmas.Option.{slice_get_cases}
use Rattle.tree_runs.specs.Shapes.{TreeShape, root_shape, nodes_count, above_at, alternatives_at, grow, IsShape, IsChild}
use Rattle.tree_runs.specs.Marks.{all_from, some_child, proved_by, stuck_by, entry_at, is_proved, is_stuck, alternative_decided, relevant_by, is_relevant}
use Rattle.tree_runs.proofs.Shapes.{IsShape-root, IsShape-grow, alternatives-others, old-child, new-child, nodes_count-grow}
use Rattle.tree_runs.proofs.Marks.{alternatives-past, all_from-agree, any_from-agree, proved_by-agree, stuck_by-agree, is_proved-local, is_stuck-local, proved-unique, stuck-unique, relevant-unique}
use Rattle.tree_runs.proofs.Progress.{is_relevant-local, root_relevant}
use Rattle.tree_marks.specs.TreeMarks.{TreeMarks, marked, unmarked, run_of, passed_of, KnowsProved, KnowsStuck, KnowsOthers, Settled, JustGrown, IsLocalAt, entry_decided, keeps, IsFresh, Begins}

default_alone : {X : Type 0} (k n : ℕ) (d : X) → get_or (replicate k d) n d ≡ d
default_alone zero n d = refl
default_alone (suc k) zero d = refl
default_alone (suc k) (suc n) d = default_alone k n d

pub default_stays : {X : Type 0} (flags : List X) (k : ℕ) (d : X) (n : ℕ) → get_or (flags ++ replicate k d) n d ≡ get_or flags n d
default_stays [] k d n = default_alone k n d
default_stays (x ∷ flags) k d zero = refl
default_stays (x ∷ flags) k d (suc n) = default_stays flags k d n

-- ---- alternatives, by flags that are the marks

flags_decide : (shape : TreeShape) (proved stuck : List Bool) → ((n : ℕ) → marked proved n ≡ is_proved shape n) → ((n : ℕ) → marked stuck n ≡ is_stuck shape n) → (o : Option (ℕ × ℕ)) → entry_decided proved stuck o ≡ alternative_decided shape o
flags_decide shape proved stuck p s None = refl
flags_decide shape proved stuck p s (Some entry) =
    let a = all_from-agree (marked proved) (is_proved shape) entry.0 entry.1 (λ place within. p (entry.0 + place)) in
    let b = any_from-agree (marked stuck) (is_stuck shape) entry.0 entry.1 (λ place within. s (entry.0 + place)) in
    cc

-- what keeps children relevant, by flags that are the marks
flags_keep : (shape : TreeShape) (proved stuck relevant : List Bool) (test : ℕ → Bool) → ((n : ℕ) → marked proved n ≡ is_proved shape n) → ((n : ℕ) → marked stuck n ≡ is_stuck shape n) → ((n : ℕ) → unmarked relevant n ≡ test n) →
    (node alternative place : ℕ) → keeps shape proved stuck relevant node alternative ≡ relevant_by shape test (Some (node, alternative, place))
flags_keep shape proved stuck relevant test p s r node alternative place =
    let a = p node in
    let b = s node in
    let d = flags_decide shape proved stuck p s (entry_at (alternatives_at shape node) alternative) in
    let here = r node in
    cc

-- ---- where settling begins

module _ (before : TreeShape) (node : ℕ) (counts : List ℕ) (marks : TreeMarks) (settled : Settled before marks) (stands : node < nodes_count before) (ungrown : alternatives_at before node ≡ None)
    (proved stuck relevant : List Bool) (p : (n : ℕ) → marked proved n ≡ marked marks.proved n) (s : (n : ℕ) → marked stuck n ≡ marked marks.stuck n) (r : (n : ℕ) → unmarked relevant n ≡ unmarked marks.relevant n) where
  now_proved : (n : ℕ) → marked proved n ≡ is_proved before n
  now_proved n = p n ∙ settled.proved_is n

  now_stuck : (n : ℕ) → marked stuck n ≡ is_stuck before n
  now_stuck n = s n ∙ settled.stuck_is n

  now_relevant : (n : ℕ) → unmarked relevant n ≡ is_relevant before n
  now_relevant n = r n ∙ settled.relevant_is n

  local_elsewhere : (other : ℕ) → (other ≡ node → ⊥) → IsLocalAt (grow before node counts) proved stuck other
  local_elsewhere other ne =
      let kept = alternatives-others before node counts settled.is_shape stands ungrown other ne in
      record {
        proved_is = now_proved other ∙ is_proved-local before settled.is_shape other ∙ proved_by-agree before (is_proved before) (marked proved) other (λ alternative place child c. sym (now_proved child)) ∙ ap (proved_by (marked proved)) (sym kept);
        stuck_is = now_stuck other ∙ is_stuck-local before settled.is_shape other ∙ stuck_by-agree before (is_stuck before) (marked stuck) other (λ alternative place child c. sym (now_stuck child)) ∙ ap (stuck_by (marked stuck)) (sym kept);
      }

  fresh_elsewhere : (other : ℕ) → (other ≡ node → ⊥) → IsFresh (grow before node counts) proved stuck relevant other
  fresh_elsewhere other ne alternative place child c =
      let old = old-child before node counts settled.is_shape stands ungrown other alternative place child ne c in
      let up : above_at before child ≡ Some (other, alternative, place) = ap option_flatten (settled.is_shape.up other alternative place child old) in
      now_relevant child ∙ is_relevant-local before settled.is_shape child ∙ ap (relevant_by before (is_relevant before)) up
      ∙ sym (flags_keep before proved stuck relevant (is_relevant before) now_proved now_stuck now_relevant other alternative place)
      ∙ ap (λ o. not (marked proved other || marked stuck other) && not (entry_decided proved stuck (entry_at o alternative)) && unmarked relevant other)
      (sym (alternatives-others before node counts settled.is_shape stands ungrown other ne))

new_is_childless : (before : TreeShape) (node : ℕ) (counts : List ℕ) → IsShape before → node < nodes_count before → alternatives_at before node ≡ None →
    (alternative place child : ℕ) → IsChild (grow before node counts) node alternative place child → alternatives_at (grow before node counts) child ≡ None
new_is_childless before node counts is_shape stands ungrown alternative place child c =
    let born = new-child before node counts is_shape stands ungrown alternative place child c in
    let number = born.number in
    alternatives-others before node counts is_shape stands ungrown child (λ e. omega (arith, e, number, stands)) ∙ alternatives-past before is_shape child (omega (arith, number))

new_is_relevant : (before : TreeShape) (node : ℕ) (counts : List ℕ) (flags : List Bool) → IsShape before → node < nodes_count before → alternatives_at before node ≡ None → length flags ≡ nodes_count before →
    (alternative place child : ℕ) → IsChild (grow before node counts) node alternative place child → unmarked flags child ≡ true
new_is_relevant before node counts flags is_shape stands ungrown size alternative place child c =
    let born = new-child before node counts is_shape stands ungrown alternative place child c in
    let number = born.number in
    get_or_past flags child true (omega (arith, number, size))

pub begins : (shape : TreeShape) (node : ℕ) (marks : TreeMarks) (proved stuck relevant : List Bool) (i j k : ℕ) → JustGrown shape node marks →
    proved ≡ marks.proved ++ replicate i false → stuck ≡ marks.stuck ++ replicate j false → relevant ≡ marks.relevant ++ replicate k true → Begins shape proved stuck relevant node
begins shape node marks proved stuck relevant i j k h ep es er =
    let p : (n : ℕ) → marked proved n ≡ marked marks.proved n = λ n. ap (λ flags. marked flags n) ep ∙ default_stays marks.proved i false n in
    let s : (n : ℕ) → marked stuck n ≡ marked marks.stuck n = λ n. ap (λ flags. marked flags n) es ∙ default_stays marks.stuck j false n in
    let r : (n : ℕ) → unmarked relevant n ≡ unmarked marks.relevant n = λ n. ap (λ flags. unmarked flags n) er ∙ default_stays marks.relevant k true n in
    subst (λ sh. Begins sh proved stuck relevant node) (sym h.grown) (record {
      is_shape = IsShape-grow h.before node h.counts h.settled.is_shape h.stands h.ungrown;
      local = local_elsewhere h.before node h.counts marks h.settled h.stands h.ungrown proved stuck relevant p s r;
      fresh = fresh_elsewhere h.before node h.counts marks h.settled h.stands h.ungrown proved stuck relevant p s r;
      childless = new_is_childless h.before node h.counts h.settled.is_shape h.stands h.ungrown;
      news = λ alternative place child c. r child ∙ new_is_relevant h.before node h.counts marks.relevant h.settled.is_shape h.stands h.ungrown h.settled.relevant_size alternative place child c;
      root = r 0 ∙ h.settled.relevant_is 0 ∙ root_relevant h.before h.settled.is_shape;
    })

-- what is known when settling begins
pub knows_begins : (shape : TreeShape) (node : ℕ) (marks : TreeMarks) (proved stuck : List Bool) (known : List (ℕ × ℕ)) (i j k : ℕ) → JustGrown shape node marks →
    proved ≡ marks.proved ++ replicate i false → stuck ≡ marks.stuck ++ replicate j false → known ≡ marks.known ++ replicate k (0, 0) → KnowsOthers shape proved stuck known node
knows_begins shape node marks proved stuck known i j k h ep es ek =
    let p : (n : ℕ) → marked proved n ≡ marked marks.proved n = λ n. ap (λ flags. marked flags n) ep ∙ default_stays marks.proved i false n in
    let s : (n : ℕ) → marked stuck n ≡ marked marks.stuck n = λ n. ap (λ flags. marked flags n) es ∙ default_stays marks.stuck j false n in
    let run : (n : ℕ) → run_of known n ≡ run_of marks.known n = λ n. ap (λ numbers. run_of numbers n) ek ∙ ap (λ (e : ℕ × ℕ). e.0) (default_stays marks.known k (0, 0) n) in
    let passed : (n : ℕ) → passed_of known n ≡ passed_of marks.known n = λ n. ap (λ numbers. passed_of numbers n) ek ∙ ap (λ (e : ℕ × ℕ). e.1) (default_stays marks.known k (0, 0) n) in
    let kept : (other : ℕ) → (other ≡ node → ⊥) → alternatives_at shape other ≡ alternatives_at h.before other =
    λ other ne. ap (λ sh. alternatives_at sh other) h.grown ∙ alternatives-others h.before node h.counts h.settled.is_shape h.stands h.ungrown other ne in
    let same : (entry : ℕ × ℕ) → some_child (marked stuck) entry ≡ some_child (marked marks.stuck) entry = λ entry. any_from-agree (marked stuck) (marked marks.stuck) entry.0 entry.1 (λ place within. s (entry.0 + place)) in
    record {
      knows_proved = λ n. ap (all_from (marked proved) n) (run n) ∙ all_from-agree (marked proved) (marked marks.proved) n (run_of marks.known n) (λ place within. p (n + place)) ∙ h.settled.knows_proved n;
      knows_stuck = λ other ne. record {
        before = λ alternative entry small f. same entry ∙ (h.settled.knows_stuck other).before alternative entry (omega (arith, small, passed other)) (ap (λ o. entry_at o alternative) (sym (kept other ne)) ∙ f);
        next = λ entry f. same entry ∙ (h.settled.knows_stuck other).next entry
            (ap (entry_at (alternatives_at h.before other)) (sym (passed other)) ∙ ap (λ o. entry_at o (passed_of known other)) (sym (kept other ne)) ∙ f);
      };
      unproved = p node ∙ h.settled.proved_is node ∙ is_proved-local h.before h.settled.is_shape node ∙ ap (proved_by (is_proved h.before)) h.ungrown;
      unstuck = s node ∙ h.settled.stuck_is node ∙ is_stuck-local h.before h.settled.is_shape node ∙ ap (stuck_by (is_stuck h.before)) h.ungrown;
    }

-- ---- where it ends

fresh_is_local : (shape : TreeShape) (is_shape : IsShape shape) (proved stuck relevant : List Bool) → ((n : ℕ) → marked proved n ≡ is_proved shape n) → ((n : ℕ) → marked stuck n ≡ is_stuck shape n) →
    length relevant ≡ nodes_count shape → ((n : ℕ) → IsFresh shape proved stuck relevant n) → unmarked relevant 0 ≡ true → (n : ℕ) (o : Option (Option (ℕ × ℕ × ℕ))) → slice_get shape.above n ≡ o →
    unmarked relevant n ≡ relevant_by shape (unmarked relevant) (option_flatten o)
fresh_is_local shape is_shape proved stuck relevant p s size fresh root n None e = get_or_past relevant n true (past n e)
  where
    past : (n : ℕ) → slice_get shape.above n ≡ None → length relevant ≤ n
    past n e = elim (slice_get_cases shape.above n).1 [ inl h ↦ absurd (let clash : ◌≡◌ {A = Option (Option (ℕ × ℕ × ℕ))} None (Some h.0) = sym e ∙ h.2 in cc) | inr h ↦ omega (arith, h.0, size) ]
fresh_is_local shape is_shape proved stuck relevant p s size fresh root zero (Some None) e = root
fresh_is_local shape is_shape proved stuck relevant p s size fresh root (suc n) (Some None) e = absurd (is_shape.others n e)
fresh_is_local shape is_shape proved stuck relevant p s size fresh root n (Some (Some way)) e =
    fresh way.0 way.1 way.2 n (is_shape.down way.0 way.1 way.2 n e) ∙ flags_keep shape proved stuck relevant (unmarked relevant) p s (λ m. refl) way.0 way.1 way.2

pub ends : (shape : TreeShape) (is_shape : IsShape shape) (proved stuck relevant : List Bool) (known : List (ℕ × ℕ)) → length proved ≡ nodes_count shape → length stuck ≡ nodes_count shape → length relevant ≡ nodes_count shape →
    ((n : ℕ) → IsLocalAt shape proved stuck n) → ((n : ℕ) → IsFresh shape proved stuck relevant n) → unmarked relevant 0 ≡ true →
    length known ≡ nodes_count shape → KnowsProved proved known → ((n : ℕ) → KnowsStuck shape stuck known n) →
    Settled shape (record { proved = proved; stuck = stuck; relevant = relevant; known = known })
ends shape is_shape proved stuck relevant known a b c local fresh root d knows_proved knows_stuck =
    let p = proved-unique shape is_shape (marked proved) (λ n. (local n).proved_is) in
    let s = stuck-unique shape is_shape (marked stuck) (λ n. (local n).stuck_is) in
    record {
      is_shape = is_shape;
      proved_size = a;
      stuck_size = b;
      relevant_size = c;
      proved_is = p;
      stuck_is = s;
      relevant_is = relevant-unique shape is_shape (unmarked relevant) (λ n. fresh_is_local shape is_shape proved stuck relevant p s c fresh root n (slice_get shape.above n) refl);
      known_size = d;
      knows_proved = knows_proved;
      knows_stuck = knows_stuck;
    }

pub settled_as : (shape : TreeShape) (proved stuck relevant : List Bool) (known : List (ℕ × ℕ)) (proved' stuck' relevant' : List Bool) (known' : List (ℕ × ℕ)) → Settled shape (record { proved = proved; stuck = stuck; relevant = relevant; known = known }) →
    proved' ≡ proved → stuck' ≡ stuck → relevant' ≡ relevant → known' ≡ known → Settled shape (record { proved = proved'; stuck = stuck'; relevant = relevant'; known = known' })
settled_as shape proved stuck relevant known proved' stuck' relevant' known' h p s r k =
    subst (λ flags. Settled shape (record { proved = flags; stuck = stuck'; relevant = relevant'; known = known' })) (sym p)
    (subst (λ flags. Settled shape (record { proved = proved; stuck = flags; relevant = relevant'; known = known' })) (sym s)
    (subst (λ flags. Settled shape (record { proved = proved; stuck = stuck; relevant = flags; known = known' })) (sym r)
    (subst (λ numbers. Settled shape (record { proved = proved; stuck = stuck; relevant = relevant; known = numbers })) (sym k) h)))

-- ---- the root alone

root_ungrown : (n : ℕ) → alternatives_at root_shape n ≡ None
root_ungrown zero = refl
root_ungrown (suc n) = refl

root_unmarked : (n : ℕ) → marked (false ∷ []) n ≡ false
root_unmarked zero = refl
root_unmarked (suc n) = refl

root_local : (n : ℕ) → IsLocalAt root_shape (false ∷ []) (false ∷ []) n
root_local n = record {
  proved_is = root_unmarked n ∙ sym (ap (proved_by (marked (false ∷ []))) (root_ungrown n));
  stuck_is = root_unmarked n ∙ sym (ap (stuck_by (marked (false ∷ []))) (root_ungrown n));
}

root_fresh : (n : ℕ) → IsFresh root_shape (false ∷ []) (false ∷ []) (true ∷ []) n
root_fresh n alternative place child c = absurd (let clash : ◌≡◌ {A = Option (List (ℕ × ℕ))} None (Some c.all) = sym (root_ungrown n) ∙ c.grown in cc)

root_run : (n : ℕ) → run_of ((0, 0) ∷ []) n ≡ 0
root_run zero = refl
root_run (suc n) = refl

root_knows_proved : KnowsProved (false ∷ []) ((0, 0) ∷ [])
root_knows_proved n = ap (all_from (marked (false ∷ [])) n) (root_run n)

root_knows_stuck : (n : ℕ) → KnowsStuck root_shape (false ∷ []) ((0, 0) ∷ []) n
root_knows_stuck n = record {
  before = λ alternative entry small f. absurd (let clash : ◌≡◌ {A = Option (ℕ × ℕ)} None (Some entry) = ap (λ o. entry_at o alternative) (sym (root_ungrown n)) ∙ f in cc);
  next = λ entry f. absurd (let clash : ◌≡◌ {A = Option (ℕ × ℕ)} None (Some entry) = ap (λ o. entry_at o (passed_of ((0, 0) ∷ []) n)) (sym (root_ungrown n)) ∙ f in cc);
}

pub root_settled : (proved stuck relevant : List Bool) (known : List (ℕ × ℕ)) → proved ≡ false ∷ [] → stuck ≡ false ∷ [] → relevant ≡ true ∷ [] → known ≡ (0, 0) ∷ [] →
    Settled root_shape (record { proved = proved; stuck = stuck; relevant = relevant; known = known })
root_settled proved stuck relevant known p s r k = settled_as root_shape (false ∷ []) (false ∷ []) (true ∷ []) ((0, 0) ∷ []) proved stuck relevant known
    (ends root_shape IsShape-root (false ∷ []) (false ∷ []) (true ∷ []) ((0, 0) ∷ []) refl refl refl root_local root_fresh refl refl root_knows_proved root_knows_stuck) p s r k

-- ---- how many marks there are before and after

pub record Sizes (shape : TreeShape) (node : ℕ) (marks : TreeMarks) : Type 0 where
  pub proved_size : length marks.proved ≤ nodes_count shape
  pub stuck_size : length marks.stuck ≡ length marks.proved
  pub relevant_size : length marks.relevant ≡ length marks.proved
  pub known_size : length marks.known ≡ length marks.proved
  pub stands : node < nodes_count shape

pub sizes : (shape : TreeShape) (node : ℕ) (marks : TreeMarks) → JustGrown shape node marks → Sizes shape node marks
sizes shape node marks h =
    let more : nodes_count shape ≡ nodes_count h.before + sum h.counts = ap nodes_count h.grown ∙ nodes_count-grow h.before node h.counts in
    record {
      proved_size = omega (arith, more, h.settled.proved_size);
      stuck_size = h.settled.stuck_size ∙ sym h.settled.proved_size;
      relevant_size = h.settled.relevant_size ∙ sym h.settled.proved_size;
      known_size = h.settled.known_size ∙ sym h.settled.proved_size;
      stands = omega (arith, more, h.stands);
    }

-- a slice that covers its vector, written back
pub written_back : {X : Type 0} (flags rest : List X) (n : ℕ) → n ≡ length flags → take n (flags ++ rest) ≡ flags
written_back flags rest n e = let within : n ≤ length flags = omega (arith, e) in take-append-le n flags rest within ∙ take_all n flags (omega (arith, e))

pub length-extended : {X : Type 0} (flags longer : List X) (n : ℕ) (d : X) → length flags ≤ n → longer ≡ flags ++ replicate (n - length flags) d → length longer ≡ n
length-extended flags longer n d within e =
    ap length e ∙ length-append flags (replicate (n - length flags) d) ∙ ap (λ (k : ℕ). length flags + k) (length-replicate (n - length flags) d) ∙ (let z : length flags + (n - length flags) ≡ n = omega arith in z)
