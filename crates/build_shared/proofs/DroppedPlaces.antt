-- Places that are dropped from a context, and variables that a type does not mention.
use Rattle.std.proofs.Common.{◌≡◌, ℕ, zero, suc, ◌+◌, ◌<◌, ◌≤◌, Bool, true, false, List, [], ◌∷◌, ◌++◌, length, get_or, take, replicate, refl, sym, ap, ap₂, ◌∙◌, arith}
use Rattle.std.specs.Prelude.{not, ◌&&◌, if◌then◌else◌}
use Rattle.std.specs.List.{list_all}
use Rattle.std.proofs.lemmas.List.{take_more, append_assoc, replicate-append-replicate}
use Rattle.std.proofs.lemmas.List.Folds.{list_all_more, list_all_at}
use Rattle.lf_definitions.specs.Syntax.{bound, LfType, family, no_args, pis}
use Rattle.head_laws.specs.Mentions.{occurs_in_type}
use Rattle.opening_laws.specs.Openings.{context_variable, is_kept}
use Rattle.applications.specs.Candidates.{without, premise_marks}

abbrev pub blank : LfType
blank = family 0 no_args

-- Under binders that mention nothing, a variable is as much later.
past_blanks : (k n : ℕ) (a : LfType) → occurs_in_type (bound n) (pis (replicate k blank) a) ≡ occurs_in_type (bound (n + k)) a
past_blanks zero n a = let e : n ≡ n + 0 = omega arith in ap (λ m. occurs_in_type (bound m) a) e
past_blanks (suc k) n a = let e : suc n + k ≡ n + suc k = omega arith in past_blanks k (suc n) a ∙ ap (λ m. occurs_in_type (bound m) a) e

-- The marks of the first binders tell which variables are mentioned.
pub mark_at : (count place : ℕ) (a : LfType) (d : Bool) → place < count → get_or (premise_marks (pis (replicate count blank) a)) place d ≡ not (occurs_in_type (context_variable count place) a)
mark_at zero place a d less = absurd (omega (arith, less))
mark_at (suc count) zero a d less = ap not (past_blanks count 0 a) ∙ ap (λ m. not (occurs_in_type (bound m) a)) (omega arith)
mark_at (suc count) (suc place) a d less =
    mark_at count place a d (omega (arith, less)) ∙ ap (λ m. not (occurs_in_type (bound m) a)) (omega arith)

pub marks_are_many : (count : ℕ) (a : LfType) → count ≤ length (premise_marks (pis (replicate count blank) a))
marks_are_many zero a = omega arith
marks_are_many (suc count) a = let rest = marks_are_many count a in omega (arith, rest)

pub without-append : (dropped xs ys : List ℕ) → without dropped (xs ++ ys) ≡ without dropped xs ++ without dropped ys
without-append dropped [] ys = refl
without-append dropped (x ∷ xs) ys = step (is_kept dropped x) (without-append dropped xs ys)
  where
    step : (b : Bool) → without dropped (xs ++ ys) ≡ without dropped xs ++ without dropped ys →
        (if b then without dropped (xs ++ ys) else x ∷ without dropped (xs ++ ys)) ≡ (if b then without dropped xs else x ∷ without dropped xs) ++ without dropped ys
    step true later = later
    step false later = ap (λ l. x ∷ l) later

pub without_more : (dropped places : List ℕ) (i : ℕ) (rest new : List ℕ) → i < length places → rest ≡ without dropped (take i places) → new ≡ rest ++ without dropped (get_or places i 0 ∷ []) →
    new ≡ without dropped (take (i + 1) places)
without_more dropped places i rest new within so_far made =
    let x = get_or places i 0 in
    made ∙ ap (λ l. l ++ without dropped (x ∷ [])) so_far ∙ sym (without-append dropped (take i places) (x ∷ [])) ∙ ap (without dropped) (sym (take_more places i 0 within))

-- tests of each of some places
module _ (test : ℕ → Bool) where
  pub test_more : (places : List ℕ) (i : ℕ) → i < length places → list_all test (take i places) ≡ true → test (get_or places i 0) ≡ true → list_all test (take (i + 1) places) ≡ true
  test_more places i within so_far here = list_all_more test places i 0 within ∙ ap₂ (λ a b. a && b) so_far here

  pub test_fails : (places : List ℕ) (i : ℕ) → i < length places → test (get_or places i 0) ≡ false → false ≡ list_all test places
  test_fails places i within here = sym (list_all_at test places i 0 within here)

pub blanks_more : (old types new : List LfType) (k : ℕ) (t : LfType) → types ≡ old ++ replicate k blank → new ≡ types ++ t ∷ [] → t ≡ blank → new ≡ old ++ replicate (k + 1) blank
blanks_more old types new k t so_far pushed is =
    pushed ∙ ap₂ (λ l x. l ++ x ∷ []) so_far is ∙ append_assoc old (replicate k blank) (blank ∷ []) ∙ ap (λ l. old ++ l) (replicate-append-replicate k 1 blank)

-- The mark of a place.
pub place_is_unmentioned : (count place : ℕ) (a under : LfType) (marks : List Bool) (mark : Bool) → place < count → under ≡ pis (replicate count blank) a → marks ≡ premise_marks under → mark ≡ get_or marks place false →
    not (occurs_in_type (context_variable count place) a) ≡ mark
place_is_unmentioned count place a under marks mark less under_is marks_are is =
    sym (is ∙ ap (λ l. get_or l place false) (marks_are ∙ ap premise_marks under_is) ∙ mark_at count place a false less)

pub place_has_mark : (count place : ℕ) (a under : LfType) (marks : List Bool) → place < count → under ≡ pis (replicate count blank) a → marks ≡ premise_marks under → place < length marks
place_has_mark count place a under marks less under_is marks_are =
    let many : length marks ≡ length (premise_marks (pis (replicate count blank) a)) = ap length (marks_are ∙ ap premise_marks under_is) in
    let at_least = marks_are_many count a in
    omega (arith, many, at_least, less)
