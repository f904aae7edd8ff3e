-- A table of variables, filled from the last of them to the first.
use Rattle.std.proofs.Common.{◌≡◌, ◌≢◌, ◌⊎◌, inl, inr, ℕ, zero, suc, ◌+◌, ◌-◌, ◌<◌, ◌≤◌, true, false, not, ◌&&◌, List, [], ◌∷◌, length, get_or, drop, set, replicate, Option, Some, None, All, sym, ap, ap₂, ◌∙◌, subst, arith}
use Rattle.std.specs.Prelude.{is_some, if◌then◌else◌}
use Rattle.std.proofs.Math.Seq.{drop-cons}
use Rattle.std.proofs.lemmas.Bool.{and_parts, false_from_ne_true, cases_lt}
use Rattle.std.proofs.lemmas.List.{get_or-set_same, get_or-set_other, get_or-replicate, get_or_past, drop_all, length-set, length-drop, length-replicate}
use Rattle.unification.specs.Patterns.{has_number, are_different, where_different}
use Rattle.meta_patterns.specs.Variables.{placed_number, IsPlaceTable}
use Rattle.meta_patterns.proofs.OwnVariables.{equal_or_not, placed_number-here, placed_number-later, is_some-placed_number}

-- what the table has after so many of the last variables
pub record TableSoFar (ns : List ℕ) (i : ℕ) (table : List (Option ℕ)) : Type 0 where
  pub is_table : IsPlaceTable table (drop (length ns - i) ns)
  pub differ : are_different (drop (length ns - i) ns) ≡ true
  pub has_room : All (λ n. n < length table) ns

abbrev nothing : Option ℕ
nothing = None

empty_entry : (size n : ℕ) → get_or (replicate size nothing) n None ≡ None
empty_entry size n = either (cases_lt n size)
  where
    either : (n < size) ⊎ (size ≤ n) → get_or (replicate size nothing) n None ≡ None
    either (inl inside) = get_or-replicate size n nothing None inside
    either (inr past) = get_or_past (replicate size nothing) n None (omega (arith, past, length-replicate size nothing))

pub empty_table : (ns : List ℕ) (size : ℕ) (table : List (Option ℕ)) → table ≡ replicate size None → All (λ n. n < size) ns → TableSoFar ns 0 table
empty_table ns size table is room =
    let none : drop (length ns - 0) ns ≡ [] = drop_all (length ns - 0) ns (omega arith) in
    let long : size ≡ length table = sym (ap length is ∙ length-replicate size None) in
    record {
      is_table = subst (IsPlaceTable table) (sym none) (λ n. let same : table ≡ replicate size nothing = is in ap (λ l. get_or l n None) same ∙ empty_entry size n);
      differ = ap are_different none;
      has_room = subst (λ k. All (λ n. n < k) ns) long room;
    }

-- the next of them, and those after it
next_variable : (ns : List ℕ) (i x : ℕ) → i < length ns → x ≡ get_or ns (length ns - 1 - i) 0 → drop (length ns - (i + 1)) ns ≡ x ∷ drop (length ns - i) ns
next_variable ns i x inside is =
    let k = length ns - 1 - i in
    let here : length ns - (i + 1) ≡ k = omega arith in
    let after : suc k ≡ length ns - i = omega (arith, inside) in
    ap (λ n. drop n ns) here ∙ drop-cons ns k 0 (omega (arith, inside)) ∙ ap₂ (λ y n. y ∷ drop n ns) (sym is) after

different_rest : (ns : List ℕ) (k : ℕ) → are_different ns ≡ true → are_different (drop k ns) ≡ true
different_rest ns zero e = e
different_rest [] (suc k) e = e
different_rest (n ∷ rest) (suc k) e = different_rest rest k (and_parts (not (has_number rest n)) (are_different rest) e).1

-- One stands twice.
pub table_stops : (ns : List ℕ) (i x : ℕ) (table : List (Option ℕ)) → TableSoFar ns i table → i < length ns → x ≡ get_or ns (length ns - 1 - i) 0 → is_some (get_or table x None) ≡ true →
    are_different ns ≡ false
table_stops ns i x table so_far inside is there =
    let rest = drop (length ns - i) ns in
    let again : has_number rest x ≡ true = sym (is_some-placed_number rest x) ∙ ap is_some (sym (so_far.is_table x)) ∙ there in
    let twice : are_different (x ∷ rest) ≡ false = ap (λ b. not b && are_different rest) again in
    false_from_ne_true (are_different ns) (λ e. differ (sym twice ∙ ap are_different (sym (next_variable ns i x inside is)) ∙ different_rest ns (length ns - (i + 1)) e))
  where
    differ : false ≡ true → ⊥
    differ e = cc

-- one more
table_step : (rest : List ℕ) (x i : ℕ) (table : List (Option ℕ)) → x < length table → i ≡ length rest → IsPlaceTable table rest → IsPlaceTable (set table x (Some i)) (x ∷ rest)
table_step rest x i table room place is_table n = either (equal_or_not x n)
  where
    either : (x ≡ n) ⊎ (x ≢ n) → get_or (set table x (Some i)) n None ≡ placed_number (x ∷ rest) n
    either (inl e) = ap (λ k. get_or (set table x (Some i)) k None) (sym e) ∙ get_or-set_same table x (Some i) None room ∙ ap Some place ∙ sym (placed_number-here x n rest e)
    either (inr differ) = get_or-set_other table x n (Some i) None (λ e. differ (sym e)) ∙ is_table n ∙ sym (placed_number-later x n rest differ)

pub table_goes_on : (ns : List ℕ) (i x : ℕ) (table : List (Option ℕ)) → TableSoFar ns i table → i < length ns → x ≡ get_or ns (length ns - 1 - i) 0 → x < length table →
    is_some (get_or table x None) ≡ false → TableSoFar ns (i + 1) (set table x (Some i))
table_goes_on ns i x table so_far inside is room none =
    let rest = drop (length ns - i) ns in
    let next = next_variable ns i x inside is in
    let new : has_number rest x ≡ false = sym (is_some-placed_number rest x) ∙ ap is_some (sym (so_far.is_table x)) ∙ none in
    let place : i ≡ length rest = omega (arith, inside, length-drop (length ns - i) ns) in
    record {
      is_table = subst (IsPlaceTable (set table x (Some i))) (sym next) (table_step rest x i table room place so_far.is_table);
      differ = ap are_different next ∙ ap₂ (λ b c. not b && c) new so_far.differ;
      has_room = subst (λ k. All (λ n. n < k) ns) (sym (length-set table x (Some i))) so_far.has_room;
    }

pub table_ends : (ns : List ℕ) (i : ℕ) (table : List (Option ℕ)) → TableSoFar ns i table → length ns ≤ i → (are_different ns ≡ true) × IsPlaceTable table ns
table_ends ns i table so_far past =
    let all : drop (length ns - i) ns ≡ ns = let none : length ns - i ≡ zero = omega (arith, past) in ap (λ k. drop k ns) none in
    (ap are_different (sym all) ∙ so_far.differ, subst (IsPlaceTable table) all so_far.is_table)

pub different_pattern : (ns : List ℕ) → are_different ns ≡ true → Some ns ≡ where_different (Some ns)
different_pattern ns e = sym (ap (λ b. if b then Some ns else None) e)

pub no_pattern : (ns : List ℕ) → are_different ns ≡ false → None ≡ where_different (Some ns)
no_pattern ns e = sym (ap (λ b. if b then Some ns else None) e)
