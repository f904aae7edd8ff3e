-- The words of which `clap` finds nothing wrong are those of the three options, each at most once.
use Rattle.std.proofs.Common.{◌≡◌, ◌∙◌, ◌||◌, Bool, true, false, refl, sym, ap, subst, arith, suc, List, [], ◌∷◌, ◌++◌, Option, None, Some, codes, is_some, append-nil}
use Rattle.std.specs.Prelude.{All}
use Rattle.std.proofs.lemmas.List.{append_assoc}
use Rattle.clap.specs.Walk.{Row, Text, Walk, idle, used, walked, has_row}
use Rattle.clap.specs.Kinds.{Kinds, or_else}
use Rattle.clap.specs.Faults.{settle_fault, turn_fault, use_fault, walk_fault}
use Rattle.command_words.specs.Commands.{GivesTrace, no_trace, given_trace, InSomeOrder, abc, acb, bac, bca, cab, cba}
use Rattle.command_words.specs.Given.{Begins, IsListed, plain_word, option_word, joined_word, trace_word, workers_word, budget_word, workers_value, budget_value}
use Rattle.command_words.proofs.ClapSteps.{Which, workers, budget, at, id_of, word_of, joined_of, rule_for, trace_rule, top, pending_fault, pending_rows, end_of, fault_at, rows_at_end, waiting_at, or_none, trace_walks, trace_fails, joined_walks, joined_fails, name_walks, name_fails, value_walks, value_passes, stray_fails, trace_waited, name_waited, joined_waited, end_waited, value_is_used, value_is_refused, trace_is_used, trace_is_refused, fault_step, fault_at_end}
use Rattle.command_words.proofs.ClapRows.{Slots, nothing_given, nothing_held_yet, slot, with_value, with_trace, Holds, has_value, has_trace, holds_value, holds_trace}

-- ---- kinds

none_first : (a b : Kinds) → or_else a b ≡ [] → a ≡ []
none_first [] b none = refl
none_first (k ∷ ks) b none = cc

none_second : (a b : Kinds) → or_else a b ≡ [] → b ≡ []
none_second [] b none = none
none_second (k ∷ ks) b none = cc

-- ---- one word

word_fault_none : (w : Walk) (word : Text) (rest : List Text) → fault_at w (word ∷ rest) ≡ [] → turn_fault top [] w word ≡ []
word_fault_none w word rest none =
    none_first _ _ (none_first _ _ (sym (fault_step w word rest) ∙ none))

word_passes : (w next : Walk) (word : Text) (rest : List Text) → turn_fault top [] w word ≡ [] → walked top.rules [] w word ≡ next → fault_at w (word ∷ rest) ≡ fault_at next rest
word_passes w next word rest passes goes =
    fault_step w word rest
    ∙ ap (λ (k : Kinds). or_else (or_else k (walk_fault top [] (walked top.rules [] w word) rest)) (settle_fault top.rules false (end_of (walked top.rules [] w word) rest).held)) passes
    ∙ ap (λ (v : Walk). fault_at v rest) goes

word_rows : (w next : Walk) (word : Text) (rest : List Text) → walked top.rules [] w word ≡ next → rows_at_end w (word ∷ rest) ≡ rows_at_end next rest
word_rows w next word rest goes = ap (λ (v : Walk). rows_at_end v rest) goes

-- ---- places between options

-- A place between two options: the rows, and the option that is not yet among them.
pub record Place : Type 0 where
  pub rows : List Row
  pub pending : Option (Text × List Text)

abbrev walk_at : Place → Walk
walk_at p = at p.rows p.pending idle

abbrev fault_before : Place → Kinds
fault_before p = pending_fault p.rows p.pending

abbrev rows_before : Place → List Row
rows_before p = pending_rows p.rows p.pending

-- The words go from one place to the other.
record Moves (from : Place) (words : List Text) (to : Place) : Type 0 where
  fault : (rest : List Text) → fault_at (walk_at from) (words ++ rest) ≡ fault_at (walk_at to) rest
  rows : (rest : List Text) → rows_at_end (walk_at from) (words ++ rest) ≡ rows_at_end (walk_at to) rest

abbrev after_value : Which → Text → Place → Place
after_value o v p = record { rows = used (rule_for o) (v ∷ []) (rows_before p); pending = None }

abbrev before_value : Which → Text → Place → Place
before_value o v p = record { rows = rows_before p; pending = Some (id_of o, v ∷ []) }

abbrev after_trace : Place → Place
after_trace p = record { rows = used trace_rule [] (rows_before p); pending = None }

moves_trace : (p : Place) → fault_before p ≡ [] → has_row (codes "trace") (rows_before p) ≡ false → Moves p (codes "--trace" ∷ []) (after_trace p)
moves_trace p none absent =
    let passes : turn_fault top [] (walk_at p) (codes "--trace") ≡ [] =
    trace_fails p.rows p.pending ∙ or_none _ [] (or_none _ _ none (trace_is_used (rows_before p) absent)) refl in
    record {
      fault = λ rest. word_passes (walk_at p) (walk_at (after_trace p)) (codes "--trace") rest passes (trace_walks p.rows p.pending);
      rows = λ rest. word_rows (walk_at p) (walk_at (after_trace p)) (codes "--trace") rest (trace_walks p.rows p.pending);
    }

moves_joined : (o : Which) (v : Text) (p : Place) → fault_before p ≡ [] → has_row (id_of o) (rows_before p) ≡ false → Moves p ((joined_of o ++ v) ∷ []) (after_value o v p)
moves_joined o v p none absent =
    let passes : turn_fault top [] (walk_at p) (joined_of o ++ v) ≡ [] =
    joined_fails o v p.rows p.pending ∙ or_none _ [] (or_none _ _ none (value_is_used o v (rows_before p) absent)) refl in
    record {
      fault = λ rest. word_passes (walk_at p) (walk_at (after_value o v p)) (joined_of o ++ v) rest passes (joined_walks o v p.rows p.pending);
      rows = λ rest. word_rows (walk_at p) (walk_at (after_value o v p)) (joined_of o ++ v) rest (joined_walks o v p.rows p.pending);
    }

moves_apart : (o : Which) (v : Text) (p : Place) → (Begins (codes "-") v → ⊥) → fault_before p ≡ [] → Moves p (word_of o ∷ v ∷ []) (before_value o v p)
moves_apart o v p plain none =
    let passes : turn_fault top [] (walk_at p) (word_of o) ≡ [] = name_fails o p.rows p.pending ∙ or_none _ [] none refl in
    let waits = waiting_at o (rows_before p) in
    record {
      fault = λ rest. word_passes (walk_at p) waits (word_of o) (v ∷ rest) passes (name_walks o p.rows p.pending)
          ∙ word_passes waits (walk_at (before_value o v p)) v rest (value_passes o v (rows_before p) plain) (value_walks o v (rows_before p) plain);
      rows = λ rest. word_rows (walk_at p) waits (word_of o) (v ∷ rest) (name_walks o p.rows p.pending)
          ∙ word_rows waits (walk_at (before_value o v p)) v rest (value_walks o v (rows_before p) plain);
    }

-- the option that was written apart is the one that is not yet among the rows
value_waits : (o : Which) (v : Text) (p : Place) → fault_before (before_value o v p) ≡ use_fault false (rule_for o) (v ∷ []) (rows_before p)
value_waits workers v p = refl
value_waits budget v p = refl

value_counts : (o : Which) (v : Text) (p : Place) → rows_before (before_value o v p) ≡ used (rule_for o) (v ∷ []) (rows_before p)
value_counts workers v p = refl
value_counts budget v p = refl

-- Nothing is wrong at the place, and the rows before it are those of what has been given.
pub record Stands (p : Place) (s : Slots) : Type 0 where
  pub clean : fault_before p ≡ []
  pub holds : Holds (rows_before p) s

-- Words that move to a place with more given.
record Gives (p : Place) (words : List Text) (s : Slots) : Type 0 where
  place : Place
  moves : Moves p words place
  stands : Stands place s

gives_nothing : (p : Place) (s : Slots) → Stands p s → Gives p [] s
gives_nothing p s stands = record { place = p; moves = record { fault = λ rest. refl; rows = λ rest. refl }; stands = stands }

gives_trace : (p : Place) (s : Slots) → Stands p s → s.shows ≡ false → Gives p (codes "--trace" ∷ []) (with_trace s)
gives_trace p s stands fresh = record {
  place = after_trace p;
  moves = moves_trace p stands.clean (has_trace (rows_before p) s stands.holds ∙ fresh);
  stands = record { clean = refl; holds = holds_trace (rows_before p) s stands.holds fresh };
}

gives_joined : (o : Which) (v : Text) (p : Place) (s : Slots) → Stands p s → slot o s ≡ None → Gives p ((joined_of o ++ v) ∷ []) (with_value o v s)
gives_joined o v p s stands fresh = record {
  place = after_value o v p;
  moves = moves_joined o v p stands.clean (has_value o (rows_before p) s stands.holds ∙ ap is_some fresh);
  stands = record { clean = refl; holds = holds_value o v (rows_before p) s stands.holds fresh };
}

gives_apart : (o : Which) (v : Text) (p : Place) (s : Slots) → (Begins (codes "-") v → ⊥) → Stands p s → slot o s ≡ None → Gives p (word_of o ∷ v ∷ []) (with_value o v s)
gives_apart o v p s plain stands fresh = record {
  place = before_value o v p;
  moves = moves_apart o v p plain stands.clean;
  stands = record {
    clean = value_waits o v p ∙ value_is_used o v (rows_before p) (has_value o (rows_before p) s stands.holds ∙ ap is_some fresh);
    holds = subst (λ (rows : List Row). Holds rows (with_value o v s)) (sym (value_counts o v p)) (holds_value o v (rows_before p) s stands.holds fresh);
  };
}

gives_then : (p : Place) (xs ys : List Text) (s t : Slots) → Gives p xs s → ((q : Place) → Stands q s → Gives q ys t) → Gives p (xs ++ ys) t
gives_then p xs ys s t first next =
    let second = next first.place first.stands in
    record {
      place = second.place;
      moves = record {
        fault = λ rest. ap (fault_at (walk_at p)) (append_assoc xs ys rest) ∙ first.moves.fault (ys ++ rest) ∙ second.moves.fault rest;
        rows = λ rest. ap (rows_at_end (walk_at p)) (append_assoc xs ys rest) ∙ first.moves.rows (ys ++ rest) ∙ second.moves.rows rest;
      };
      stands = second.stands;
    }

-- ---- groups of words

-- The words of one option, with its value if it is there.
pub data Group (o : Which) : List Text → Option Text → Type 0 where
  absent : Group o [] None
  apart : (v : Text) → (Begins (codes "-") v → ⊥) → Group o (word_of o ∷ v ∷ []) (Some v)
  joined : (v : Text) → Group o ((joined_of o ++ v) ∷ []) (Some v)

abbrev set_value : Which → Option Text → Slots → Slots
set_value workers x s = record s { workers_word = x }
set_value budget x s = record s { budget_word = x }

abbrev set_shown : Bool → Slots → Slots
set_shown t s = record s { shows = t }

set_none : (o : Which) (s : Slots) → slot o s ≡ None → s ≡ set_value o None s
set_none workers s fresh = ap (λ (x : Option Text). record s { workers_word = x }) fresh
set_none budget s fresh = ap (λ (x : Option Text). record s { budget_word = x }) fresh

set_some : (o : Which) (v : Text) (s : Slots) → with_value o v s ≡ set_value o (Some v) s
set_some workers v s = refl
set_some budget v s = refl

gives_group : (o : Which) (words : List Text) (x : Option Text) (p : Place) (s : Slots) → Group o words x → Stands p s → slot o s ≡ None → Gives p words (set_value o x s)
gives_group o _ _ p s absent stands fresh = subst (Gives p []) (set_none o s fresh) (gives_nothing p s stands)
gives_group o _ _ p s (apart v plain) stands fresh = subst (Gives p (word_of o ∷ v ∷ [])) (set_some o v s) (gives_apart o v p s plain stands fresh)
gives_group o _ _ p s (joined v) stands fresh = subst (Gives p ((joined_of o ++ v) ∷ [])) (set_some o v s) (gives_joined o v p s stands fresh)

gives_shown : (words : List Text) (t : Bool) (p : Place) (s : Slots) → GivesTrace words t → Stands p s → s.shows ≡ false → Gives p words (set_shown t s)
gives_shown _ _ p s no_trace stands fresh = subst (Gives p []) (ap (λ (t : Bool). set_shown t s) fresh) (gives_nothing p s stands)
gives_shown _ _ p s given_trace stands fresh = gives_trace p s stands fresh

abbrev start : Place
start = record { rows = []; pending = None }

start_stands : Stands start nothing_given
start_stands = record { clean = refl; holds = nothing_held_yet }

abbrev pub gathered : Option Text → Option Text → Bool → Slots
gathered w b t = record { workers_word = w; budget_word = b; shows = t }

-- three groups in any order
gives_order : (ww bw tw words : List Text) (w b : Option Text) (t : Bool) → InSomeOrder ww bw tw words → Group workers ww w → Group budget bw b → GivesTrace tw t → Gives start words (gathered w b t)
gives_order ww bw tw _ w b t abc gw gb gt =
    let two : Gives start (ww ++ bw) (gathered w b false) =
    gives_then start ww bw (gathered w None false) (gathered w b false) (gives_group workers ww w start (nothing_given) gw start_stands refl) (λ q st. gives_group budget bw b q (gathered w None false) gb st refl) in
    gives_then start (ww ++ bw) tw (gathered w b false) (gathered w b t) two (λ q st. gives_shown tw t q (gathered w b false) gt st refl)
gives_order ww bw tw _ w b t acb gw gb gt =
    let two : Gives start (ww ++ tw) (gathered w None t) =
    gives_then start ww tw (gathered w None false) (gathered w None t) (gives_group workers ww w start (nothing_given) gw start_stands refl) (λ q st. gives_shown tw t q (gathered w None false) gt st refl) in
    gives_then start (ww ++ tw) bw (gathered w None t) (gathered w b t) two (λ q st. gives_group budget bw b q (gathered w None t) gb st refl)
gives_order ww bw tw _ w b t bac gw gb gt =
    let two : Gives start (bw ++ ww) (gathered w b false) =
    gives_then start bw ww (gathered None b false) (gathered w b false) (gives_group budget bw b start (nothing_given) gb start_stands refl) (λ q st. gives_group workers ww w q (gathered None b false) gw st refl) in
    gives_then start (bw ++ ww) tw (gathered w b false) (gathered w b t) two (λ q st. gives_shown tw t q (gathered w b false) gt st refl)
gives_order ww bw tw _ w b t bca gw gb gt =
    let two : Gives start (bw ++ tw) (gathered None b t) =
    gives_then start bw tw (gathered None b false) (gathered None b t) (gives_group budget bw b start (nothing_given) gb start_stands refl) (λ q st. gives_shown tw t q (gathered None b false) gt st refl) in
    gives_then start (bw ++ tw) ww (gathered None b t) (gathered w b t) two (λ q st. gives_group workers ww w q (gathered None b t) gw st refl)
gives_order ww bw tw _ w b t cab gw gb gt =
    let two : Gives start (tw ++ ww) (gathered w None t) =
    gives_then start tw ww (gathered None None t) (gathered w None t) (gives_shown tw t start (nothing_given) gt start_stands refl) (λ q st. gives_group workers ww w q (gathered None None t) gw st refl) in
    gives_then start (tw ++ ww) bw (gathered w None t) (gathered w b t) two (λ q st. gives_group budget bw b q (gathered w None t) gb st refl)
gives_order ww bw tw _ w b t cba gw gb gt =
    let two : Gives start (tw ++ bw) (gathered None b t) =
    gives_then start tw bw (gathered None None t) (gathered None b t) (gives_shown tw t start (nothing_given) gt start_stands refl) (λ q st. gives_group budget bw b q (gathered None None t) gb st refl) in
    gives_then start (tw ++ bw) ww (gathered None b t) (gathered w b t) two (λ q st. gives_group workers ww w q (gathered None b t) gw st refl)

-- nothing is wrong with such words, and the rows at their end are theirs
pub words_pass : (ww bw tw words : List Text) (w b : Option Text) (t : Bool) → InSomeOrder ww bw tw words → Group workers ww w → Group budget bw b → GivesTrace tw t →
    (fault_at (at [] None idle) words ≡ []) × Holds (rows_at_end (at [] None idle) words) (gathered w b t)
words_pass ww bw tw words w b t order gw gb gt =
    let g = gives_order ww bw tw words w b t order gw gb gt in
    let whole = append-nil words in (
      ap (fault_at (walk_at start)) (sym whole) ∙ g.moves.fault [] ∙ fault_at_end (walk_at g.place) ∙ g.stands.clean,
      subst (λ (rows : List Row). Holds rows (gathered w b t)) (sym (ap (rows_at_end (walk_at start)) (sym whole) ∙ g.moves.rows [])) g.stands.holds,
    )

-- ---- the other way

-- Words of listed forms.
data Forms : List Text → Type 0 where
  end_form : Forms []
  plain_form : (v : Text) (rest : List Text) → (Begins (codes "-") v → ⊥) → Forms rest → Forms (v ∷ rest)
  trace_form : (rest : List Text) → Forms rest → Forms (codes "--trace" ∷ rest)
  name_form : (o : Which) (rest : List Text) → Forms rest → Forms (word_of o ∷ rest)
  joined_form : (o : Which) (v : Text) (rest : List Text) → Forms rest → Forms ((joined_of o ++ v) ∷ rest)

word_form : (word : Text) (rest : List Text) → IsListed word → Forms rest → Forms (word ∷ rest)
word_form word rest (plain_word plain) f = plain_form word rest plain f
word_form word rest (option_word (trace_word is)) f = subst (λ (w : Text). Forms (w ∷ rest)) (sym is) (trace_form rest f)
word_form word rest (option_word (workers_word is)) f = subst (λ (w : Text). Forms (w ∷ rest)) (sym is) (name_form workers rest f)
word_form word rest (option_word (budget_word is)) f = subst (λ (w : Text). Forms (w ∷ rest)) (sym is) (name_form budget rest f)
word_form word rest (joined_word (workers_value is)) f = subst (λ (w : Text). Forms (w ∷ rest)) (sym is.1) (joined_form workers is.0 rest f)
word_form word rest (joined_word (budget_value is)) f = subst (λ (w : Text). Forms (w ∷ rest)) (sym is.1) (joined_form budget is.0 rest f)

forms_of : (words : List Text) → All IsListed words → Forms words
forms_of [] all = end_form
forms_of (word ∷ rest) all = word_form word rest (all 0 word (omega arith)) (forms_of rest (λ k d lt. all (suc k) d (omega arith)))

-- where nothing is wrong with what comes, nothing was wrong before it
settled_before : (words : List Text) (p : Place) → Forms words → fault_at (walk_at p) words ≡ [] → fault_before p ≡ []
settled_before _ p end_form none = sym (fault_at_end (walk_at p)) ∙ none
settled_before _ p (plain_form v rest plain f) none = let bad = sym (stray_fails v p.rows p.pending plain) ∙ word_fault_none (walk_at p) v rest none in cc
settled_before _ p (trace_form rest f) none = none_first _ _ (none_first _ [] (sym (trace_fails p.rows p.pending) ∙ word_fault_none (walk_at p) (codes "--trace") rest none))
settled_before _ p (name_form o rest f) none = none_first _ [] (sym (name_fails o p.rows p.pending) ∙ word_fault_none (walk_at p) (word_of o) rest none)
settled_before _ p (joined_form o v rest f) none = none_first _ _ (none_first _ [] (sym (joined_fails o v p.rows p.pending) ∙ word_fault_none (walk_at p) (joined_of o ++ v) rest none))

absent_value : (o : Which) (v : Text) (rows : List Row) → use_fault false (rule_for o) (v ∷ []) rows ≡ [] → has_row (id_of o) rows ≡ false
absent_value o v rows none = go (has_row (id_of o) rows) refl
  where
    go : (t : Bool) → has_row (id_of o) rows ≡ t → has_row (id_of o) rows ≡ false
    go false is = is
    go true is = let bad = sym (value_is_refused o v rows is) ∙ none in cc

absent_trace : (rows : List Row) → use_fault false trace_rule [] rows ≡ [] → has_row (codes "trace") rows ≡ false
absent_trace rows none = go (has_row (codes "trace") rows) refl
  where
    go : (t : Bool) → has_row (codes "trace") rows ≡ t → has_row (codes "trace") rows ≡ false
    go false is = is
    go true is = let bad = sym (trace_is_refused rows is) ∙ none in cc

is_none : (x : Option Text) → is_some x ≡ false → x ≡ None
is_none None none = refl
is_none (Some v) none = cc

turned : (a b c words : List Text) → InSomeOrder a b c words → InSomeOrder b c a words
turned a b c _ abc = cab
turned a b c _ acb = cba
turned a b c _ bac = acb
turned a b c _ bca = abc
turned a b c _ cab = bca
turned a b c _ cba = bac

-- one group more before two others
put_first : (a b c words : List Text) → InSomeOrder [] b c words → InSomeOrder a b c (a ++ words)
put_first a b c _ abc = subst (InSomeOrder a b c) (append_assoc a b c) abc
put_first a b c _ acb = subst (InSomeOrder a b c) (append_assoc a c b) acb
put_first a b c _ bac = subst (λ (xs : List Text). InSomeOrder a b c (a ++ (xs ++ c))) (sym (append-nil b)) (subst (InSomeOrder a b c) (append_assoc a b c) abc)
put_first a b c _ bca = subst (λ (xs : List Text). InSomeOrder a b c (a ++ xs)) (sym (append-nil (b ++ c))) (subst (InSomeOrder a b c) (append_assoc a b c) abc)
put_first a b c _ cab = subst (λ (xs : List Text). InSomeOrder a b c (a ++ (xs ++ b))) (sym (append-nil c)) (subst (InSomeOrder a b c) (append_assoc a c b) acb)
put_first a b c _ cba = subst (λ (xs : List Text). InSomeOrder a b c (a ++ xs)) (sym (append-nil (c ++ b))) (subst (InSomeOrder a b c) (append_assoc a c b) acb)

put_second : (a b c words : List Text) → InSomeOrder a [] c words → InSomeOrder a b c (b ++ words)
put_second a b c words order =
    let turn = put_first b c a words (turned a [] c words order) in
    turned c a b (b ++ words) (turned b c a (b ++ words) turn)

put_third : (a b c words : List Text) → InSomeOrder a b [] words → InSomeOrder a b c (c ++ words)
put_third a b c words order =
    let turn = put_first c a b words (turned b [] a words (turned a b [] words order)) in
    turned c a b (c ++ words) turn

abbrev either : Option Text → Option Text → Option Text
either None x = x
either (Some v) x = Some v

-- The words after some options: each option once, none that is given already, and rows that hold all.
record ReadsOn (words : List Text) (s : Slots) (rows : List Row) : Type 0 where
  w : Option Text
  b : Option Text
  t : Bool
  ww : List Text
  bw : List Text
  tw : List Text
  order : InSomeOrder ww bw tw words
  workers_group : Group workers ww w
  budget_group : Group budget bw b
  trace_group : GivesTrace tw t
  workers_once : is_some s.workers_word ≡ true → w ≡ None
  budget_once : is_some s.budget_word ≡ true → b ≡ None
  trace_once : s.shows ≡ true → t ≡ false
  holds : Holds rows (gathered (either s.workers_word w) (either s.budget_word b) (s.shows || t))

either_none : (x : Option Text) → either x None ≡ x
either_none None = refl
either_none (Some v) = refl

or_false : (b : Bool) → (b || false) ≡ b
or_false true = refl
or_false false = refl

no_group : (o : Which) (words : List Text) (x : Option Text) → x ≡ None → Group o words x → words ≡ []
no_group o _ _ none absent = refl
no_group o _ _ none (apart v plain) = cc
no_group o _ _ none (joined v) = cc

not_shown : (words : List Text) (t : Bool) → t ≡ false → GivesTrace words t → words ≡ []
not_shown _ _ none no_trace = refl
not_shown _ _ none given_trace = cc

read_end : (s : Slots) (rows : List Row) → Holds rows s → ReadsOn [] s rows
read_end s rows holds = record {
  w = None;
  b = None;
  t = false;
  ww = [];
  bw = [];
  tw = [];
  order = abc;
  workers_group = absent;
  budget_group = absent;
  trace_group = no_trace;
  workers_once = λ e. refl;
  budget_once = λ e. refl;
  trace_once = λ e. refl;
  holds = subst (λ (w : Option Text). Holds rows (gathered w (either s.budget_word None) (s.shows || false))) (sym (either_none s.workers_word))
      (subst (λ (b : Option Text). Holds rows (gathered s.workers_word b (s.shows || false))) (sym (either_none s.budget_word))
      (subst (λ (t : Bool). Holds rows (gathered s.workers_word s.budget_word t)) (sym (or_false s.shows)) holds));
}

read_trace : (rest : List Text) (s : Slots) (rows : List Row) → s.shows ≡ false → ReadsOn rest (with_trace s) rows → ReadsOn (codes "--trace" ∷ rest) s rows
read_trace rest s rows fresh r =
    let none : r.tw ≡ [] = not_shown r.tw r.t (r.trace_once refl) r.trace_group in
    record {
      w = r.w;
      b = r.b;
      t = true;
      ww = r.ww;
      bw = r.bw;
      tw = codes "--trace" ∷ [];
      order = put_third r.ww r.bw (codes "--trace" ∷ []) rest (subst (λ (tw : List Text). InSomeOrder r.ww r.bw tw rest) none r.order);
      workers_group = r.workers_group;
      budget_group = r.budget_group;
      trace_group = given_trace;
      workers_once = r.workers_once;
      budget_once = r.budget_once;
      trace_once = λ e. let bad : false ≡ true = sym fresh ∙ e in cc;
      holds = subst (λ (b : Bool). Holds rows (gathered (either s.workers_word r.w) (either s.budget_word r.b) (b || true))) (sym fresh) r.holds;
    }

read_value : (o : Which) (v : Text) (words rest : List Text) (s : Slots) (rows : List Row) → slot o s ≡ None → Group o words (Some v) → ReadsOn rest (with_value o v s) rows → ReadsOn (words ++ rest) s rows
read_value workers v words rest s rows fresh group r =
    let none : r.ww ≡ [] = no_group workers r.ww r.w (r.workers_once refl) r.workers_group in
    record {
      w = Some v;
      b = r.b;
      t = r.t;
      ww = words;
      bw = r.bw;
      tw = r.tw;
      order = put_first words r.bw r.tw rest (subst (λ (ww : List Text). InSomeOrder ww r.bw r.tw rest) none r.order);
      workers_group = group;
      budget_group = r.budget_group;
      trace_group = r.trace_group;
      workers_once = λ e. let bad : false ≡ true = ap is_some (sym fresh) ∙ e in cc;
      budget_once = r.budget_once;
      trace_once = r.trace_once;
      holds = subst (λ (x : Option Text). Holds rows (gathered (either x (Some v)) (either s.budget_word r.b) (s.shows || r.t))) (sym fresh) r.holds;
    }
read_value budget v words rest s rows fresh group r =
    let none : r.bw ≡ [] = no_group budget r.bw r.b (r.budget_once refl) r.budget_group in
    record {
      w = r.w;
      b = Some v;
      t = r.t;
      ww = r.ww;
      bw = words;
      tw = r.tw;
      order = put_second r.ww words r.tw rest (subst (λ (bw : List Text). InSomeOrder r.ww bw r.tw rest) none r.order);
      workers_group = r.workers_group;
      budget_group = group;
      trace_group = r.trace_group;
      workers_once = r.workers_once;
      budget_once = λ e. let bad : false ≡ true = ap is_some (sym fresh) ∙ e in cc;
      trace_once = r.trace_once;
      holds = subst (λ (x : Option Text). Holds rows (gathered (either s.workers_word r.w) (either x (Some v)) (s.shows || r.t))) (sym fresh) r.holds;
    }

abbrev Reads : Place → List Text → Slots → Type 0
Reads p words s = Holds (rows_before p) s → fault_at (walk_at p) words ≡ [] → ReadsOn words s (rows_at_end (walk_at p) words)

trace_on : (rest : List Text) (p : Place) (s : Slots) → Forms rest → Reads (after_trace p) rest (with_trace s) → Reads p (codes "--trace" ∷ rest) s
trace_on rest p s f on holds none =
    let turn = none_first _ [] (sym (trace_fails p.rows p.pending) ∙ word_fault_none (walk_at p) (codes "--trace") rest none) in
    let clean = none_first _ _ turn in
    let missing = absent_trace (rows_before p) (none_second (fault_before p) _ turn) in
    let fresh : s.shows ≡ false = sym (has_trace (rows_before p) s holds) ∙ missing in
    let moves = moves_trace p clean missing in
    read_trace rest s _ fresh (subst (ReadsOn rest (with_trace s)) (sym (moves.rows rest)) (on (holds_trace (rows_before p) s holds fresh) (sym (moves.fault rest) ∙ none)))

joined_on : (o : Which) (v : Text) (rest : List Text) (p : Place) (s : Slots) → Forms rest → Reads (after_value o v p) rest (with_value o v s) → Reads p ((joined_of o ++ v) ∷ rest) s
joined_on o v rest p s f on holds none =
    let turn = none_first _ [] (sym (joined_fails o v p.rows p.pending) ∙ word_fault_none (walk_at p) (joined_of o ++ v) rest none) in
    let clean = none_first _ _ turn in
    let missing = absent_value o v (rows_before p) (none_second (fault_before p) _ turn) in
    let fresh : slot o s ≡ None = is_none _ (sym (has_value o (rows_before p) s holds) ∙ missing) in
    let moves = moves_joined o v p clean missing in
    read_value o v ((joined_of o ++ v) ∷ []) rest s _ fresh (joined v) (subst (ReadsOn rest (with_value o v s)) (sym (moves.rows rest)) (on (holds_value o v (rows_before p) s holds fresh) (sym (moves.fault rest) ∙ none)))

apart_on : (o : Which) (v : Text) (rest : List Text) (p : Place) (s : Slots) → (Begins (codes "-") v → ⊥) → Forms rest → Reads (before_value o v p) rest (with_value o v s) → Reads p (word_of o ∷ v ∷ rest) s
apart_on o v rest p s plain f on holds none =
    let clean = settled_before (word_of o ∷ v ∷ rest) p (name_form o (v ∷ rest) (plain_form v rest plain f)) none in
    let moves = moves_apart o v p plain clean in
    let left : fault_at (walk_at (before_value o v p)) rest ≡ [] = sym (moves.fault rest) ∙ none in
    let missing = absent_value o v (rows_before p) (sym (value_waits o v p) ∙ settled_before rest (before_value o v p) f left) in
    let fresh : slot o s ≡ None = is_none _ (sym (has_value o (rows_before p) s holds) ∙ missing) in
    let held = subst (λ (rows : List Row). Holds rows (with_value o v s)) (sym (value_counts o v p)) (holds_value o v (rows_before p) s holds fresh) in
    read_value o v (word_of o ∷ v ∷ []) rest s _ fresh (apart v plain) (subst (ReadsOn rest (with_value o v s)) (sym (moves.rows rest)) (on held left))

-- after the name of an option there is a word with no hyphen
name_waits : (o : Which) (rest : List Text) (p : Place) → Forms (word_of o ∷ rest) → fault_at (walk_at p) (word_of o ∷ rest) ≡ [] → fault_at (waiting_at o (rows_before p)) rest ≡ []
name_waits o rest p f none =
    let clean = settled_before (word_of o ∷ rest) p f none in
    let passes : turn_fault top [] (walk_at p) (word_of o) ≡ [] = name_fails o p.rows p.pending ∙ or_none _ [] clean refl in
    sym (word_passes (walk_at p) (waiting_at o (rows_before p)) (word_of o) rest passes (name_walks o p.rows p.pending)) ∙ none

reads_on : (words : List Text) (p : Place) (s : Slots) → Forms words → Reads p words s
reads_on _ p s end_form holds none = read_end s (rows_before p) holds
reads_on _ p s (plain_form v rest plain f) holds none = let bad = sym (stray_fails v p.rows p.pending plain) ∙ word_fault_none (walk_at p) v rest none in cc
reads_on _ p s (trace_form rest f) holds none = trace_on rest p s f (reads_on rest (after_trace p) (with_trace s) f) holds none
reads_on _ p s (joined_form o v rest f) holds none = joined_on o v rest p s f (reads_on rest (after_value o v p) (with_value o v s) f) holds none
reads_on _ p s (name_form o _ (plain_form v rest plain f)) holds none = apart_on o v rest p s plain f (reads_on rest (before_value o v p) (with_value o v s) f) holds none
reads_on _ p s (name_form o _ end_form) holds none =
    let bad = sym (end_waited o (rows_before p)) ∙ sym (fault_at_end (waiting_at o (rows_before p))) ∙ name_waits o [] p (name_form o [] end_form) none in cc
reads_on _ p s (name_form o _ (trace_form rest f)) holds none =
    let bad = sym (trace_waited o (rows_before p)) ∙ word_fault_none (waiting_at o (rows_before p)) (codes "--trace") rest (name_waits o _ p (name_form o _ (trace_form rest f)) none) in cc
reads_on _ p s (name_form o _ (name_form other rest f)) holds none =
    let bad = sym (name_waited o other (rows_before p)) ∙ word_fault_none (waiting_at o (rows_before p)) (word_of other) rest (name_waits o _ p (name_form o _ (name_form other rest f)) none) in cc
reads_on _ p s (name_form o _ (joined_form other v rest f)) holds none =
    let bad = sym (joined_waited o other v (rows_before p)) ∙ word_fault_none (waiting_at o (rows_before p)) (joined_of other ++ v) rest (name_waits o _ p (name_form o _ (joined_form other v rest f)) none) in cc

-- What words give of which nothing is wrong.
pub record GivesRows (words : List Text) (rows : List Row) : Type 0 where
  pub w : Option Text
  pub b : Option Text
  pub t : Bool
  pub ww : List Text
  pub bw : List Text
  pub tw : List Text
  pub order : InSomeOrder ww bw tw words
  pub workers_group : Group workers ww w
  pub budget_group : Group budget bw b
  pub trace_group : GivesTrace tw t
  pub holds : Holds rows (gathered w b t)

pub passing_words : (words : List Text) → All IsListed words → fault_at (at [] None idle) words ≡ [] → GivesRows words (rows_at_end (at [] None idle) words)
passing_words words all none =
    let r = reads_on words start nothing_given (forms_of words all) nothing_held_yet none in
    record { w = r.w; b = r.b; t = r.t; ww = r.ww; bw = r.bw; tw = r.tw; order = r.order; workers_group = r.workers_group; budget_group = r.budget_group; trace_group = r.trace_group; holds = r.holds }
