-- Nodes that are marked irrelevant one by one.
use Rattle.std.proofs.Common.{◌≡◌, ◌⊎◌, inl, inr, ℕ, zero, suc, ◌+◌, ◌<◌, ◌≤◌, Bool, true, false, ◌==◌, List, [], ◌∷◌, ◌++◌, length, replicate, refl, sym, ap, subst, ◌∙◌, arith, length-append}
use Rattle.std.specs.Prelude.{slice_set}
use Rattle.std.proofs.lemmas.Bool.{eqb-true, eqb-false, or_cases, or_left, or_right}
use Rattle.std.proofs.lemmas.List.{get_or_past}
use Rattle.std.proofs.lemmas.List.Folds.{list_any-append}
use Rattle.tree_runs.proofs.Lists.{below_or_past, same_or_other}
use Rattle.tree_marks.specs.TreeMarks.{unmarked}
use Rattle.tree_marks.specs.Fading.{Fading, ups, is_pending, Fades}
use Rattle.tree_marks.proofs.Climbs.{get_or-set-same, get_or-set-other}

-- ---- how many flags are up

pub ups-set : (flags : List Bool) (node : ℕ) → node < length flags → unmarked flags node ≡ true → ups (slice_set flags node false) + 1 ≡ ups flags
ups-set [] node h e = absurd (omega arith)
ups-set (true ∷ flags) zero h e = omega arith
ups-set (false ∷ flags) zero h e = absurd cc
ups-set (true ∷ flags) (suc node) h e = let rest = ups-set flags node (omega arith) e in omega (arith, rest)
ups-set (false ∷ flags) (suc node) h e = ups-set flags node (omega arith) e

pub ups-extended : (flags : List Bool) (k : ℕ) → ups (flags ++ replicate k true) ≡ ups flags + k
ups-extended [] zero = refl
ups-extended [] (suc k) = let rest = ups-extended [] k in omega (arith, rest)
ups-extended (true ∷ flags) k = let rest = ups-extended flags k in omega (arith, rest)
ups-extended (false ∷ flags) k = ups-extended flags k

length-set : (flags : List Bool) (node : ℕ) (flag : Bool) → length (slice_set flags node flag) ≡ length flags
length-set [] node flag = refl
length-set (x ∷ flags) zero flag = refl
length-set (x ∷ flags) (suc node) flag = ap suc (length-set flags node flag)

-- ---- one after another

pub fades_nothing : (fading : Fading) (Kind : ℕ → Type 0) → Fades fading fading Kind
fades_nothing fading Kind = record { size = refl; down = λ node h. h; fallen = λ node h. inl h; stays = λ node h. h; waiting = λ node h. inl h; total = refl }

pub fades_then : (a b c : Fading) (Kind : ℕ → Type 0) → Fades a b Kind → Fades b c Kind → Fades a c Kind
fades_then a b c Kind f g = record {
  size = g.size ∙ f.size;
  down = λ node h. g.down node (f.down node h);
  fallen = λ node h. elim (g.fallen node h) [
    | inl before ↦ elim (f.fallen node before) [ inl earlier ↦ inl earlier | inr p ↦ inr (p.0, g.stays node p.1) ]
    | inr p ↦ inr p
  ];
  stays = λ node h. g.stays node (f.stays node h);
  waiting = λ node h. elim (g.waiting node h) [
    | inl before ↦ elim (f.waiting node before) [ inl earlier ↦ inl earlier | inr e ↦ inr (g.down node e) ]
    | inr e ↦ inr e
  ];
  total = g.total ∙ f.total;
}

pub fades_more : (a b : Fading) (Kind More : ℕ → Type 0) → ((node : ℕ) → Kind node → More node) → Fades a b Kind → Fades a b More
fades_more a b Kind More more f = record {
  size = f.size;
  down = f.down;
  fallen = λ node h. elim (f.fallen node h) [ inl e ↦ inl e | inr p ↦ inr (more node p.0, p.1) ];
  stays = f.stays;
  waiting = f.waiting;
  total = f.total;
}

-- what is relevant was so before
pub was_up : (a b : Fading) (Kind : ℕ → Type 0) → Fades a b Kind → (node : ℕ) → unmarked b.flags node ≡ true → unmarked a.flags node ≡ true
was_up a b Kind f node h = go (unmarked a.flags node) refl
  where
    go : (v : Bool) → unmarked a.flags node ≡ v → unmarked a.flags node ≡ true
    go true e = e
    go false e = absurd (let clash = f.down node e in let both : true ≡ false = sym h ∙ clash in cc)

-- what is marked stands
pub down_within : (flags : List Bool) (node : ℕ) → unmarked flags node ≡ false → node < length flags
down_within flags node down = elim (below_or_past (length flags) node) [
  | inl small ↦ small
  | inr p ↦ absurd (let past = get_or_past flags node true (omega (arith, p.1)) in let clash : true ≡ false = sym past ∙ down in cc)
]

pub last_pending : (pending : List ℕ) (last node : ℕ) → is_pending (pending ++ last ∷ []) node ≡ true → (is_pending pending node ≡ true) ⊎ (node ≡ last)
last_pending pending last node h = elim (or_cases (is_pending pending node) (is_pending (last ∷ []) node) (sym (list_any-append (λ other. other == node) pending (last ∷ [])) ∙ h)) [
  | inl e ↦ inl e
  | inr e ↦ elim (or_cases (last == node) false e) [ inl same ↦ inr (sym (eqb-true last node same)) | inr clash ↦ absurd cc ]
]

pub earlier_pending : (pending : List ℕ) (last node : ℕ) → is_pending pending node ≡ true → is_pending (pending ++ last ∷ []) node ≡ true
earlier_pending pending last node h = list_any-append (λ other. other == node) pending (last ∷ []) ∙ or_left (is_pending pending node) (is_pending (last ∷ []) node) h

same_number : (n : ℕ) → (n == n) ≡ true
same_number n = go (n == n) refl
  where
    go : (v : Bool) → (n == n) ≡ v → (n == n) ≡ true
    go true e = e
    go false e = absurd (eqb-false n n e refl)

pub last_is_pending : (pending : List ℕ) (last : ℕ) → is_pending (pending ++ last ∷ []) last ≡ true
last_is_pending pending last =
    list_any-append (λ other. other == last) pending (last ∷ []) ∙ or_right (is_pending pending last) (is_pending (last ∷ []) last) (or_left (last == last) false (same_number last))

-- one node
pub fades_one : (flags flags' : List Bool) (pending pending' : List ℕ) (node : ℕ) → node < length flags → unmarked flags node ≡ true → flags' ≡ slice_set flags node false → pending' ≡ pending ++ node ∷ [] →
    Fades (record { flags = flags; pending = pending }) (record { flags = flags'; pending = pending' }) (λ other. other ≡ node)
fades_one flags flags' pending pending' node within up f p =
    let here : unmarked flags' node ≡ false = ap (λ fs. unmarked fs node) f ∙ get_or-set-same flags node false true within in
    let away : (other : ℕ) → (other ≡ node → ⊥) → unmarked flags' other ≡ unmarked flags other = λ other ne. ap (λ fs. unmarked fs other) f ∙ get_or-set-other flags node other false true ne in
    record {
      size = ap length f ∙ length-set flags node false;
      down = λ other h. elim (same_or_other other node) [ inl same ↦ ap (unmarked flags') same ∙ here | inr ne ↦ away other ne ∙ h ];
      fallen = λ other h. elim (same_or_other other node) [
        | inl same ↦ inr (same, subst (λ (n : ℕ). is_pending pending' n ≡ true) (sym same) (ap (λ ps. is_pending ps node) p ∙ last_is_pending pending node))
        | inr ne ↦ inl (sym (away other ne) ∙ h)
      ];
      stays = λ other h. ap (λ ps. is_pending ps other) p ∙ earlier_pending pending node other h;
      waiting = λ other h. elim (last_pending pending node other (ap (λ ps. is_pending ps other) (sym p) ∙ h)) [ inl e ↦ inl e | inr same ↦ inr (ap (unmarked flags') same ∙ here) ];
      total = (let less = ups-set flags node within up in omega (arith, ap ups f, less, ap length p, length-append pending (node ∷ [])));
    }

-- ---- nodes in a row

-- so many of them are done
pub record RangeFades (old new : Fading) (first count : ℕ) : Type 0 where
  pub fades : Fades old new (λ node. (first ≤ node) × (node < first + count))
  pub inside : (node : ℕ) → first ≤ node → node < first + count → unmarked new.flags node ≡ false

-- ---- one pending node is taken

pub taken_waits : (old taken new : Fading) (node : ℕ) (Kind : ℕ → Type 0) → old.pending ≡ taken.pending ++ node ∷ [] → taken.flags ≡ old.flags → Fades taken new Kind →
    ((n : ℕ) → is_pending old.pending n ≡ true → unmarked old.flags n ≡ false) → (n : ℕ) → is_pending new.pending n ≡ true → unmarked new.flags n ≡ false
taken_waits old taken new node Kind p same f h n w = elim (f.waiting n w) [
  | inl e ↦ f.down n (ap (λ fs. unmarked fs n) same ∙ h n (ap (λ ps. is_pending ps n) p ∙ earlier_pending taken.pending node n e))
  | inr e ↦ e
]

pub taken_stands : (old taken : Fading) (node : ℕ) → old.pending ≡ taken.pending ++ node ∷ [] → ((n : ℕ) → is_pending old.pending n ≡ true → unmarked old.flags n ≡ false) → node < length old.flags
taken_stands old taken node p h = down_within old.flags node (h node (ap (λ ps. is_pending ps node) p ∙ last_is_pending taken.pending node))
