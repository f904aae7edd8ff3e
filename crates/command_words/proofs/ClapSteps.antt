-- What `clap` makes of each word, from any place between two options.
use Rattle.std.proofs.Common.{◌≡◌, ◌∙◌, ◌==◌, ℕ, Bool, true, false, refl, ap, List, [], ◌∷◌, ◌++◌, Option, None, Some, codes, fold, is_some, ◌||◌}
use Rattle.std.specs.Prelude.{⊤, if◌then◌else◌}
use Rattle.std.proofs.lemmas.Bool.{ne_eqb}
use Rattle.clap.specs.Lexer.{short_of}
use Rattle.clap.specs.Walk.{Row, Rule, Text, Walk, Waiting, idle, option, walked, used, settled_rows, has_row, with_default, finished}
use Rattle.clap.specs.Simple.{Shape, built, entered, filled, with_index, is_simple, matches_of}
use Rattle.clap.specs.Kinds.{Kinds, or_else}
use Rattle.clap.specs.Faults.{check_fault, default_fault, defaults_fault, entered_fault, fault_of, is_simple_and_free, settle_fault, turn_fault, use_fault, walk_fault}
use Rattle.clap.specs.declared.error.kind.ErrorKind.TheVariants as kind
use Rattle.clap.proofs.OnLiterals.{clap_on_literals}
use Rattle.command_words.specs.Given.{Begins}
use Rattle.command_words.specs.ProveApp.{workers_option, budget_option, trace_flag, prove_app}

pub prove_is_simple : is_simple prove_app ≡ true
unfolding clap_on_literals
prove_is_simple = refl

pub prove_is_free : is_simple_and_free prove_app ≡ true
unfolding clap_on_literals
prove_is_free = refl

abbrev pub top : Shape
top = (built prove_app).top

abbrev pub at : List Row → Option (Text × List Text) → Waiting → Walk
at rows pending waiting = record {
  held = record { rows = rows; pending = pending; skip = 0 };
  waiting = waiting;
  position = 1;
  is_trailing = false;
  stopped = None;
}

-- a word that begins with no hyphen has another first byte
no_hyphen : (x : ℕ) (xs : List ℕ) → (Begins (codes "-") (x ∷ xs) → ⊥) → (x == 45) ≡ false
no_hyphen x xs plain = ne_eqb x 45 (λ e. plain (xs, ap (λ (b : ℕ). b ∷ xs) e))

no_short : (x : ℕ) (xs : List ℕ) → (Begins (codes "-") (x ∷ xs) → ⊥) → short_of (x ∷ xs) ≡ None
no_short x xs plain = rw (no_hyphen x xs plain) refl

-- the options that take a value
pub data Which : Type 0 where
  workers : Which
  budget : Which

abbrev pub id_of : Which → Text
id_of workers = codes "workers"
id_of budget = codes "budget"

abbrev pub word_of : Which → Text
word_of workers = codes "--workers"
word_of budget = codes "--budget"

abbrev pub joined_of : Which → Text
joined_of workers = codes "--workers="
joined_of budget = codes "--budget="

abbrev pub rule_for : Which → Rule
rule_for workers = with_index 1 (filled workers_option)
rule_for budget = with_index 1 (filled budget_option)

abbrev pub trace_rule : Rule
trace_rule = with_index 1 (filled trace_flag)

abbrev pub pending_fault : List Row → Option (Text × List Text) → Kinds
pending_fault rows p = settle_fault top.rules false (at rows p idle).held

abbrev pub pending_rows : List Row → Option (Text × List Text) → List Row
pending_rows rows p = settled_rows top.rules p rows

abbrev pub end_of : Walk → List Text → Walk
end_of w words = fold (walked top.rules []) w words

-- what is wrong with the words from here on
abbrev pub fault_at : Walk → List Text → Kinds
fault_at w words = or_else (walk_fault top [] w words) (settle_fault top.rules false (end_of w words).held)

abbrev pub rows_at_end : Walk → List Text → List Row
rows_at_end w words = settled_rows top.rules (end_of w words).held.pending (end_of w words).held.rows

-- ---- one word

pub trace_walks : (rows : List Row) (p : Option (Text × List Text)) → walked top.rules [] (at rows p idle) (codes "--trace") ≡ at (used trace_rule [] (pending_rows rows p)) None idle
unfolding clap_on_literals
trace_walks rows p = refl

pub trace_fails : (rows : List Row) (p : Option (Text × List Text)) →
    turn_fault top [] (at rows p idle) (codes "--trace") ≡ or_else (or_else (pending_fault rows p) (use_fault false trace_rule [] (pending_rows rows p))) []
unfolding clap_on_literals
trace_fails rows p = refl

pub joined_walks : (o : Which) (v : Text) (rows : List Row) (p : Option (Text × List Text)) →
    walked top.rules [] (at rows p idle) (joined_of o ++ v) ≡ at (used (rule_for o) (v ∷ []) (pending_rows rows p)) None idle
unfolding clap_on_literals
joined_walks workers v rows p = refl
joined_walks budget v rows p = refl

pub joined_fails : (o : Which) (v : Text) (rows : List Row) (p : Option (Text × List Text)) →
    turn_fault top [] (at rows p idle) (joined_of o ++ v) ≡ or_else (or_else (pending_fault rows p) (use_fault false (rule_for o) (v ∷ []) (pending_rows rows p))) []
unfolding clap_on_literals
joined_fails workers v rows p = refl
joined_fails budget v rows p = refl

pub name_walks : (o : Which) (rows : List Row) (p : Option (Text × List Text)) →
    walked top.rules [] (at rows p idle) (word_of o) ≡ at (pending_rows rows p) (Some (id_of o, [])) (option (id_of o))
unfolding clap_on_literals
name_walks workers rows p = refl
name_walks budget rows p = refl

pub name_fails : (o : Which) (rows : List Row) (p : Option (Text × List Text)) → turn_fault top [] (at rows p idle) (word_of o) ≡ or_else (pending_fault rows p) []
unfolding clap_on_literals
name_fails workers rows p = refl
name_fails budget rows p = refl

-- a word with no hyphen is the value of an option that waits for one
pub value_walks : (o : Which) (v : Text) (rows : List Row) → (Begins (codes "-") v → ⊥) →
    walked top.rules [] (at rows (Some (id_of o, [])) (option (id_of o))) v ≡ at rows (Some (id_of o, v ∷ [])) idle
unfolding clap_on_literals
value_walks workers [] rows plain = refl
value_walks budget [] rows plain = refl
value_walks workers (x ∷ xs) rows plain = rw (no_hyphen x xs plain, no_short x xs plain) refl
value_walks budget (x ∷ xs) rows plain = rw (no_hyphen x xs plain, no_short x xs plain) refl

pub value_passes : (o : Which) (v : Text) (rows : List Row) → (Begins (codes "-") v → ⊥) → turn_fault top [] (at rows (Some (id_of o, [])) (option (id_of o))) v ≡ []
unfolding clap_on_literals
value_passes workers [] rows plain = refl
value_passes budget [] rows plain = refl
value_passes workers (x ∷ xs) rows plain = rw (no_hyphen x xs plain, no_short x xs plain) refl
value_passes budget (x ∷ xs) rows plain = rw (no_hyphen x xs plain, no_short x xs plain) refl

-- and a stray one elsewhere
pub stray_fails : (v : Text) (rows : List Row) (p : Option (Text × List Text)) → (Begins (codes "-") v → ⊥) → turn_fault top [] (at rows p idle) v ≡ kind.UnknownArgument ∷ []
unfolding clap_on_literals
stray_fails [] rows p plain = refl
stray_fails (x ∷ xs) rows p plain = rw (no_hyphen x xs plain, no_short x xs plain) refl

-- ---- no option may stand where a value is waited for, nor the end

abbrev pub waiting_at : Which → List Row → Walk
waiting_at o rows = at rows (Some (id_of o, [])) (option (id_of o))

pub trace_waited : (o : Which) (rows : List Row) → turn_fault top [] (waiting_at o rows) (codes "--trace") ≡ kind.InvalidValue ∷ []
unfolding clap_on_literals
trace_waited workers rows = refl
trace_waited budget rows = refl

pub name_waited : (o other : Which) (rows : List Row) → turn_fault top [] (waiting_at o rows) (word_of other) ≡ kind.InvalidValue ∷ []
unfolding clap_on_literals
name_waited workers workers rows = refl
name_waited workers budget rows = refl
name_waited budget workers rows = refl
name_waited budget budget rows = refl

pub joined_waited : (o other : Which) (v : Text) (rows : List Row) → turn_fault top [] (waiting_at o rows) (joined_of other ++ v) ≡ kind.InvalidValue ∷ []
unfolding clap_on_literals
joined_waited workers workers v rows = refl
joined_waited workers budget v rows = refl
joined_waited budget workers v rows = refl
joined_waited budget budget v rows = refl

pub end_waited : (o : Which) (rows : List Row) → settle_fault top.rules false (waiting_at o rows).held ≡ kind.InvalidValue ∷ []
unfolding clap_on_literals
end_waited workers rows = refl
end_waited budget rows = refl

-- ---- one use

pub value_is_used : (o : Which) (v : Text) (rows : List Row) → has_row (id_of o) rows ≡ false → use_fault false (rule_for o) (v ∷ []) rows ≡ []
unfolding clap_on_literals
value_is_used workers v rows none = rw none refl
value_is_used budget v rows none = rw none refl

pub value_is_refused : (o : Which) (v : Text) (rows : List Row) → has_row (id_of o) rows ≡ true → use_fault false (rule_for o) (v ∷ []) rows ≡ kind.ArgumentConflict ∷ []
unfolding clap_on_literals
value_is_refused workers v rows some = rw some refl
value_is_refused budget v rows some = rw some refl

pub trace_is_used : (rows : List Row) → has_row (codes "trace") rows ≡ false → use_fault false trace_rule [] rows ≡ []
unfolding clap_on_literals
trace_is_used rows none = rw none refl

pub trace_is_refused : (rows : List Row) → has_row (codes "trace") rows ≡ true → use_fault false trace_rule [] rows ≡ kind.ArgumentConflict ∷ []
unfolding clap_on_literals
trace_is_refused rows some = rw some refl

-- ---- the whole

pub fault_step : (w : Walk) (word : Text) (rest : List Text) → fault_at w (word ∷ rest)
    ≡ or_else (or_else (turn_fault top [] w word) (walk_fault top [] (walked top.rules [] w word) rest)) (settle_fault top.rules false (end_of (walked top.rules [] w word) rest).held)
unfolding walk_fault
fault_step w word rest = refl

pub fault_at_end : (w : Walk) → fault_at w [] ≡ settle_fault top.rules false w.held
unfolding walk_fault
fault_at_end w = refl

-- nothing stops the walk, and nothing is wrong after it
abbrev last_fault : Kinds → Option (Text × List Text) → Kinds → Kinds
last_fault walked_fault stop settled_fault = or_else walked_fault (or_else (entered_fault (built prove_app) stop) (or_else settled_fault []))

last_faults : (f g : Kinds) (stop : Option (Text × List Text)) → last_fault f stop g ≡ or_else f g
last_faults [] [] None = refl
last_faults [] (k ∷ ks) None = refl
last_faults (k ∷ ks) g None = refl
last_faults [] [] (Some p) = refl
last_faults [] (k ∷ ks) (Some p) = refl
last_faults (k ∷ ks) g (Some p) = refl

pub or_none : (a b : Kinds) → a ≡ [] → b ≡ [] → or_else a b ≡ []
or_none a b first second = ap (λ (k : Kinds). or_else k b) first ∙ second

default_none : (b : Bool) (k : Kinds) → k ≡ [] → (if b then [] else k) ≡ []
default_none true k none = refl
default_none false k none = none

-- The defaults of the arguments pass, whatever was given.
abbrev PassDefaults : List Rule → Type 0
PassDefaults [] = ⊤
PassDefaults (a ∷ rest) = ((rows : List Row) → default_fault rows a ≡ []) × PassDefaults rest

defaults_pass : (rows : List Row) (rules : List Rule) → PassDefaults rules → defaults_fault rows rules ≡ []
unfolding defaults_fault
defaults_pass rows [] pass = refl
defaults_pass rows (a ∷ rest) pass = or_none (default_fault rows a) (defaults_fault (with_default rows a) rest) (pass.0 rows) (defaults_pass (with_default rows a) rest pass.1)

no_defaults_fault : (rows : List Row) → defaults_fault rows top.rules ≡ []
no_defaults_fault rows =
    let budget_on : PassDefaults (rule_for budget ∷ trace_rule ∷ []) = (λ rows. default_none (has_row (codes "budget") rows || true) _ refl, (λ rows. default_none (has_row (codes "trace") rows || false) _ refl, tt)) in
    defaults_pass rows top.rules (λ rows. default_none (has_row (codes "workers") rows || true) _ refl, budget_on)

no_check_fault : (rows : List Row) (stop : Option (Text × List Text)) → check_fault top rows (is_some (entered (built prove_app) stop)) ≡ []
no_check_fault rows None = refl
no_check_fault rows (Some p) = refl

pub whole_fault : (words : List Text) → fault_of prove_app words ≡ fault_at (at [] None idle) words
whole_fault words =
    let end = end_of (at [] None idle) words in
    let f = walk_fault top [] (at [] None idle) words in
    let s = settle_fault top.rules false end.held in
    let below = entered_fault (built prove_app) end.stopped in
    let check = check_fault top (finished top.rules end.held) (is_some (entered (built prove_app) end.stopped)) in
    ap (λ (d : Kinds). or_else f (or_else below (or_else s (or_else d check)))) (no_defaults_fault (rows_at_end (at [] None idle) words))
    ∙ ap (λ (c : Kinds). or_else f (or_else below (or_else s c))) (no_check_fault (finished top.rules end.held) end.stopped)
    ∙ last_faults f s end.stopped

-- the rows of the whole are those at the end, with what `--trace` is where it is not given
pub whole_rows : (words : List Text) → matches_of prove_app words ≡ fold with_default (rows_at_end (at [] None idle) words) top.rules
whole_rows words = refl
