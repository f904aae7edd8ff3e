-- What the rows of `clap` hold of the three options.
use Rattle.std.proofs.Common.{◌≡◌, ◌∙◌, Bool, true, false, refl, sym, ap, subst, List, [], ◌∷◌, ◌++◌, Option, None, Some, codes, is_some, option_map, append-nil, fold}
use Rattle.std.specs.Prelude.{find, if◌then◌else◌, option_and_then, slice_get}
use Rattle.std.specs.Option.{option_or}
use Rattle.std.specs.Str.{bytes_eq}
use Rattle.std.proofs.lemmas.List.Folds.{find-append}
use Rattle.clap.specs.Walk.{Row, Text, at_row, first_of, has_row, more_values, one_of, row_text, used, with_default}
use Rattle.clap.specs.declared.parser.matches.ValueSource.TheVariants.{DefaultValue, CommandLine}
use Rattle.clap.specs.declared.builder.value_parser.Reading.TheVariants as reading
use Rattle.command_words.proofs.ClapSteps.{Which, workers, budget, id_of, rule_for, trace_rule, top}

abbrev row_by_id : Text → List Row → Option Row
row_by_id id rows = find (λ r. bytes_eq r.id id) rows

has_row-by_id : (id : Text) (rows : List Row) → has_row id rows ≡ is_some (row_by_id id rows)
has_row-by_id id [] = refl
has_row-by_id id (r ∷ rs) = go (bytes_eq r.id id) refl (has_row-by_id id rs)
  where
    go : (t : Bool) → bytes_eq r.id id ≡ t → has_row id rs ≡ is_some (row_by_id id rs) → has_row id (r ∷ rs) ≡ is_some (row_by_id id (r ∷ rs))
    go true t rest = rw t refl
    go false t rest = rw t rest

-- where there is no row with the id, the new one goes to the end
absent_row : (id : Text) (change : Row → List Row) (missing rows : List Row) → has_row id rows ≡ false → at_row id change missing rows ≡ rows ++ missing
absent_row id change missing [] none = refl
absent_row id change missing (r ∷ rs) none = go (bytes_eq r.id id) refl none (absent_row id change missing rs)
  where
    go : (t : Bool) → bytes_eq r.id id ≡ t → has_row id (r ∷ rs) ≡ false → (has_row id rs ≡ false → at_row id change missing rs ≡ rs ++ missing) → at_row id change missing (r ∷ rs) ≡ r ∷ rs ++ missing
    go true t none rest = let bad : true ≡ false = rw t at none in cc
    go false t none rest = let left : has_row id rs ≡ false = rw t at none in rw t (ap (λ (xs : List Row). r ∷ xs) (rest left))

abbrev value_row : Text → Text → Row
value_row id v = record { id = id; values = v ∷ []; count = None; source = Some CommandLine; reading = reading.AsWritten }

abbrev trace_row : Row
trace_row = value_row (codes "trace") (codes "true")

-- a use after which there is a row more
added_row : (id : Text) (change : Row → List Row) (missing rows : List Row) → has_row id rows ≡ false → at_row id change missing (at_row id (λ _. []) [] rows) ≡ rows ++ missing
added_row id change missing rows none =
    let same : at_row id (λ _. []) [] rows ≡ rows = absent_row id (λ _. []) [] rows none ∙ append-nil rows in
    ap (at_row id change missing) same ∙ absent_row id change missing rows none

value_used : (o : Which) (v : Text) (rows : List Row) → has_row (id_of o) rows ≡ false → used (rule_for o) (v ∷ []) rows ≡ rows ++ value_row (id_of o) v ∷ []
value_used workers v rows none = added_row (codes "workers") (more_values CommandLine (v ∷ [])) (value_row (codes "workers") v ∷ []) rows none
value_used budget v rows none = added_row (codes "budget") (more_values CommandLine (v ∷ [])) (value_row (codes "budget") v ∷ []) rows none

trace_used : (rows : List Row) → has_row (codes "trace") rows ≡ false → used trace_rule [] rows ≡ rows ++ trace_row ∷ []
trace_used rows none = added_row (codes "trace") (more_values CommandLine (codes "true" ∷ [])) (trace_row ∷ []) rows none

-- What has been given so far: the words of the two options with values, and whether `--trace` was there.
pub record Slots : Type 0 where
  pub workers_word : Option Text
  pub budget_word : Option Text
  pub shows : Bool

abbrev pub nothing_given : Slots
nothing_given = record { workers_word = None; budget_word = None; shows = false }

abbrev pub slot : Which → Slots → Option Text
slot workers s = s.workers_word
slot budget s = s.budget_word

abbrev pub with_value : Which → Text → Slots → Slots
with_value workers v s = record s { workers_word = Some v }
with_value budget v s = record s { budget_word = Some v }

abbrev pub with_trace : Slots → Slots
with_trace s = record s { shows = true }

abbrev trace_found : Bool → Option Row
trace_found true = Some trace_row
trace_found false = None

-- The rows are those of what has been given.
pub record Holds (rows : List Row) (s : Slots) : Type 0 where
  pub workers_row : row_by_id (codes "workers") rows ≡ option_map (value_row (codes "workers")) s.workers_word
  pub budget_row : row_by_id (codes "budget") rows ≡ option_map (value_row (codes "budget")) s.budget_word
  pub trace_row_is : row_by_id (codes "trace") rows ≡ trace_found s.shows

pub nothing_held_yet : Holds [] nothing_given
nothing_held_yet = record { workers_row = refl; budget_row = refl; trace_row_is = refl }

mapped_some : (id : Text) (o : Option Text) → is_some (option_map (value_row id) o) ≡ is_some o
mapped_some id None = refl
mapped_some id (Some v) = refl

trace_some : (t : Bool) → is_some (trace_found t) ≡ t
trace_some true = refl
trace_some false = refl

pub has_value : (o : Which) (rows : List Row) (s : Slots) → Holds rows s → has_row (id_of o) rows ≡ is_some (slot o s)
has_value workers rows s h = has_row-by_id (codes "workers") rows ∙ ap is_some h.workers_row ∙ mapped_some (codes "workers") s.workers_word
has_value budget rows s h = has_row-by_id (codes "budget") rows ∙ ap is_some h.budget_row ∙ mapped_some (codes "budget") s.budget_word

pub has_trace : (rows : List Row) (s : Slots) → Holds rows s → has_row (codes "trace") rows ≡ s.shows
has_trace rows s h = has_row-by_id (codes "trace") rows ∙ ap is_some h.trace_row_is ∙ trace_some s.shows

-- a new row at the end is found by its id where there was none, and by no other
or_none_right : {A : Type 0} (o : Option A) → option_or o None ≡ o
or_none_right None = refl
or_none_right (Some x) = refl

found_new : (id : Text) (rows : List Row) (r : Row) → has_row id rows ≡ false → row_by_id id (rows ++ r ∷ []) ≡ row_by_id id (r ∷ [])
found_new id rows r none = find-append (λ r. bytes_eq r.id id) rows (r ∷ []) ∙ go (row_by_id id rows) refl
  where
    go : (o : Option Row) → row_by_id id rows ≡ o → option_or (row_by_id id rows) (row_by_id id (r ∷ [])) ≡ row_by_id id (r ∷ [])
    go None e = rw e refl
    go (Some x) e = let bad : false ≡ true = sym none ∙ has_row-by_id id rows ∙ ap is_some e in cc

found_old : (id : Text) (rows : List Row) (r : Row) → bytes_eq r.id id ≡ false → row_by_id id (rows ++ r ∷ []) ≡ row_by_id id rows
found_old id rows r other =
    let none : row_by_id id (r ∷ []) ≡ None = rw other refl in
    find-append (λ r. bytes_eq r.id id) rows (r ∷ []) ∙ ap (option_or (row_by_id id rows)) none ∙ or_none_right (row_by_id id rows)

pub holds_value : (o : Which) (v : Text) (rows : List Row) (s : Slots) → Holds rows s → slot o s ≡ None → Holds (used (rule_for o) (v ∷ []) rows) (with_value o v s)
holds_value workers v rows s h none =
    let absent : has_row (codes "workers") rows ≡ false = has_value workers rows s h ∙ ap is_some none in
    let r = value_row (codes "workers") v in
    subst (λ (rs : List Row). Holds rs (with_value workers v s)) (sym (value_used workers v rows absent)) (record {
      workers_row = found_new (codes "workers") rows r absent;
      budget_row = found_old (codes "budget") rows r refl ∙ h.budget_row;
      trace_row_is = found_old (codes "trace") rows r refl ∙ h.trace_row_is;
    })
holds_value budget v rows s h none =
    let absent : has_row (codes "budget") rows ≡ false = has_value budget rows s h ∙ ap is_some none in
    let r = value_row (codes "budget") v in
    subst (λ (rs : List Row). Holds rs (with_value budget v s)) (sym (value_used budget v rows absent)) (record {
      workers_row = found_old (codes "workers") rows r refl ∙ h.workers_row;
      budget_row = found_new (codes "budget") rows r absent;
      trace_row_is = found_old (codes "trace") rows r refl ∙ h.trace_row_is;
    })

pub holds_trace : (rows : List Row) (s : Slots) → Holds rows s → s.shows ≡ false → Holds (used trace_rule [] rows) (with_trace s)
holds_trace rows s h none =
    let absent : has_row (codes "trace") rows ≡ false = has_trace rows s h ∙ none in
    subst (λ (rs : List Row). Holds rs (with_trace s)) (sym (trace_used rows absent)) (record {
      workers_row = found_old (codes "workers") rows trace_row refl ∙ h.workers_row;
      budget_row = found_old (codes "budget") rows trace_row refl ∙ h.budget_row;
      trace_row_is = found_new (codes "trace") rows trace_row absent;
    })

-- ---- what is read at the end

abbrev pub text_of_trace : Bool → Text
text_of_trace true = codes "true"
text_of_trace false = codes "false"

abbrev default_row : Row
default_row = record { id = codes "trace"; values = codes "false" ∷ []; count = None; source = Some DefaultValue; reading = reading.AsWritten }

-- What the getters read.
pub record GivesValues (rows : List Row) (s : Slots) : Type 0 where
  pub workers_value : first_of (codes "workers") rows ≡ s.workers_word
  pub budget_value : first_of (codes "budget") rows ≡ s.budget_word
  pub trace_value : one_of (codes "trace") rows ≡ Some (text_of_trace s.shows)

first_value : (id : Text) (o : Option Text) (found : Option Row) → found ≡ option_map (value_row id) o → option_and_then (λ (r : Row). slice_get r.values 0) found ≡ o
first_value id None found e = rw e refl
first_value id (Some v) found e = rw e refl

same_either : (b : Bool) (rows : List Row) → (if b then rows else rows) ≡ rows
same_either true rows = refl
same_either false rows = refl

-- an option that takes a value has no default
no_default : (o : Which) (rows : List Row) → with_default rows (rule_for o) ≡ rows
no_default workers rows = same_either (has_row (codes "workers") rows) rows
no_default budget rows = same_either (has_row (codes "budget") rows) rows

only_trace_default : (rows : List Row) → fold with_default rows top.rules ≡ with_default rows trace_rule
only_trace_default rows =
    ap (λ (rs : List Row). with_default (with_default rs (rule_for budget)) trace_rule) (no_default workers rows) ∙ ap (λ (rs : List Row). with_default rs trace_rule) (no_default budget rows)

trace_default : (rows : List Row) (s : Slots) → Holds rows s → GivesValues (with_default rows trace_rule) s
trace_default rows s h = go s.shows refl
  where
    go : (t : Bool) → s.shows ≡ t → GivesValues (with_default rows trace_rule) s
    go true is =
        let given : has_row (codes "trace") rows ≡ true = has_trace rows s h ∙ is in
        let same : with_default rows trace_rule ≡ rows = rw given refl in
        let found : row_by_id (codes "trace") rows ≡ Some trace_row = h.trace_row_is ∙ ap trace_found is in
        subst (λ (rs : List Row). GivesValues rs s) (sym same) (record {
          workers_value = first_value (codes "workers") s.workers_word _ h.workers_row;
          budget_value = first_value (codes "budget") s.budget_word _ h.budget_row;
          trace_value = ap (option_and_then row_text) found ∙ ap (λ (b : Bool). Some (text_of_trace b)) (sym is);
        })
    go false is =
        let absent : has_row (codes "trace") rows ≡ false = has_trace rows s h ∙ is in
        let same : with_default rows trace_rule ≡ rows ++ default_row ∷ [] = rw absent (absent_row (codes "trace") (more_values DefaultValue (codes "false" ∷ [])) (default_row ∷ []) rows absent) in
        subst (λ (rs : List Row). GivesValues rs s) (sym same) (record {
          workers_value = first_value (codes "workers") s.workers_word _ (found_old (codes "workers") rows default_row refl ∙ h.workers_row);
          budget_value = first_value (codes "budget") s.budget_word _ (found_old (codes "budget") rows default_row refl ∙ h.budget_row);
          trace_value = ap (option_and_then row_text) (found_new (codes "trace") rows default_row absent) ∙ ap (λ (b : Bool). Some (text_of_trace b)) (sym is);
        })

-- with its defaults, what the rows hold is what is read
pub values_at_end : (rows : List Row) (s : Slots) → Holds rows s → GivesValues (fold with_default rows top.rules) s
values_at_end rows s h = subst (λ (rs : List Row). GivesValues rs s) (sym (only_trace_default rows)) (trace_default rows s h)
