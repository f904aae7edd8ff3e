-- Which words are the command, and with which options.
use Rattle.std.proofs.Common.{◌≡◌, ◌∙◌, ◌↔◌, ℕ, ◌<◌, ◌≤◌, Bool, true, false, refl, sym, ap, subst, arith, zero, suc, List, [], ◌∷◌, ◌++◌, Option, None, Some, codes, inl, inr, slice_index, ◌&&◌, length, take, drop, get_or, ◌-◌}
use Rattle.std.specs.Prelude.{All, nat_lt}
use Rattle.std.specs.List.{list_all}
use Rattle.std.specs.Str.{IsUtf8, IsAscii}
use Rattle.std.proofs.lemmas.Bool.{ltb-true}
use Rattle.std.proofs.lemmas.Str.{IsUtf8-from_ascii, IsUtf8-append}
use Rattle.std.proofs.lemmas.List.Elements.{All-append, All-get_or, All-nil, All-push}
use Rattle.std.proofs.lemmas.List.{take_all}
use Rattle.std.proofs.Math.Seq.{take-suc}
use Rattle.clap.specs.Walk.{Row, Text, first_of, one_of, idle}
use Rattle.clap.specs.Simple.{matches_of}
use Rattle.clap.specs.Faults.{fault_of}
use Rattle.clap.specs.Words.{HasKind, Kinds, kind_of}
use Rattle.clap.specs.declared.error.Error.{Error}
use Rattle.clap.specs.declared.error.kind.ErrorKind.TheVariants as kind
use Rattle.command_words.specs.Commands.{LfOptions, IsDigit, GivesWorkers, usual_workers, workers_apart, workers_joined, GivesBudget, usual_budget, budget_apart, budget_joined, GivesTrace, no_trace, given_trace, InSomeOrder, abc, acb, bac, bca, cab, cba, IsProve}
use Rattle.command_words.specs.Given.{Begins, IsListed, IsReadable, plain_word, option_word, joined_word, trace_word, workers_word, budget_word, workers_value, budget_value, GivenWorkers, GivenBudget, GivesOptions}
use Rattle.command_words.specs.ProveApp.{prove_app}
use Rattle.command_words.proofs.ClapSteps.{workers, budget, at, rows_at_end, whole_fault, whole_rows}
use Rattle.command_words.proofs.ClapRows.{GivesValues, text_of_trace, values_at_end}
use Rattle.command_words.proofs.ClapWalks.{Group, absent, apart, joined, gathered, words_pass, passing_words}

-- ---- what is found exactly where something holds

-- where it holds of none, nothing is found
pub found_none : {A : Type 0} (R : A → Type 0) → ((x : A) → R x → ⊥) → (x : A) → (None ≡ Some x) ↔ R x
found_none R never x = (λ e. cc, λ r. absurd (never x r))

-- what is found where the one holds is found where the other does, if both hold of the same values
pub found_alike : {A : Type 0} (R S : A → Type 0) (found : Option A) → ((x : A) → (found ≡ Some x) ↔ R x) → ((x : A) → R x ↔ S x) → (x : A) → (found ≡ Some x) ↔ S x
found_alike R S found is same x = (λ e. (same x).0 ((is x).0 e), λ s. (is x).1 ((same x).1 s))

-- ---- words of options

-- digits begin with no hyphen
no_hyphen : (word : Text) → All IsDigit word → Begins (codes "-") word → ⊥
no_hyphen word digits begins =
    let digit : IsDigit 45 = subst (All IsDigit) begins.1 digits 0 0 (omega arith) in
    omega (arith, digit.0)

workers_words : (words : List Text) (n : ℕ) → GivesWorkers words n → (w : Option Text) × Group workers words w × GivenWorkers w n
workers_words _ _ usual_workers = (None, absent, refl)
workers_words _ _ (workers_apart word n writes) = (Some word, apart word (no_hyphen word writes.writes.digits), writes)
workers_words _ _ (workers_joined word n writes) = (Some word, joined word, writes)

budget_words : (words : List Text) (n : ℕ) → GivesBudget words n → (b : Option Text) × Group budget words b × GivenBudget b n
budget_words _ _ usual_budget = (None, absent, refl)
budget_words _ _ (budget_apart word n writes) = (Some word, apart word (no_hyphen word writes.writes.digits), writes)
budget_words _ _ (budget_joined word n writes) = (Some word, joined word, writes)

gives_workers : (words : List Text) (w : Option Text) (n : ℕ) → Group workers words w → GivenWorkers w n → GivesWorkers words n
gives_workers _ _ n absent given = subst (GivesWorkers []) (sym given) usual_workers
gives_workers _ _ n (apart v plain) given = workers_apart v n given
gives_workers _ _ n (joined v) given = workers_joined v n given

gives_budget : (words : List Text) (b : Option Text) (n : ℕ) → Group budget words b → GivenBudget b n → GivesBudget words n
gives_budget _ _ n absent given = subst (GivesBudget []) (sym given) usual_budget
gives_budget _ _ n (apart v plain) given = budget_apart v n given
gives_budget _ _ n (joined v) given = budget_joined v n given

-- ---- what `clap` makes of them

-- The words are a command's, with what they give.
record IsRead (rest : List Text) (o : LfOptions) : Type 0 where
  w : Option Text
  b : Option Text
  workers_given : GivenWorkers w o.workers
  budget_given : GivenBudget b o.budget
  passes : fault_of prove_app rest ≡ []
  values : GivesValues (matches_of prove_app rest) (gathered w b o.trace)

command_read : (rest : List Text) (o : LfOptions) → IsProve (codes "prove" ∷ rest) o → IsRead rest o
command_read rest o p =
    let same : p.rest ≡ rest = let e = p.words_are in cc in
    let order : InSomeOrder p.workers_words p.budget_words p.trace_words rest = subst (InSomeOrder p.workers_words p.budget_words p.trace_words) same p.order in
    let given = workers_words p.workers_words o.workers p.workers in
    let budgeted = budget_words p.budget_words o.budget p.budget in
    let pass = words_pass p.workers_words p.budget_words p.trace_words rest given.0 budgeted.0 o.trace order given.1 budgeted.1 p.trace in
    record {
      w = given.0;
      b = budgeted.0;
      workers_given = given.2;
      budget_given = budgeted.2;
      passes = whole_fault rest ∙ pass.0;
      values = subst (λ (rows : List Row). GivesValues rows (gathered given.0 budgeted.0 o.trace)) (sym (whole_rows rest)) (values_at_end (rows_at_end (at [] None idle) rest) (gathered given.0 budgeted.0 o.trace) pass.1);
    }

-- nothing is wrong with a command
pub command_passes : (rest : List Text) (o : LfOptions) → IsProve (codes "prove" ∷ rest) o → fault_of prove_app rest ≡ []
command_passes rest o p = (command_read rest o p).passes

-- the values that are read are those of the command, and words whose values are those of a command are one
pub values_are : (rest : List Text) (rows : List Row) (wv bv : Option Text) (trace : Bool) → All IsListed rest → fault_of prove_app rest ≡ [] → rows ≡ matches_of prove_app rest →
    wv ≡ first_of (codes "workers") rows → bv ≡ first_of (codes "budget") rows → ((t : Bool) → one_of (codes "trace") rows ≡ Some (text_of_trace t) → trace ≡ t) →
    (o : LfOptions) → GivesOptions wv bv trace o ↔ IsProve (codes "prove" ∷ rest) o
values_are rest rows wv bv trace listed none is workers_is budget_is trace_is o =
    let g = passing_words rest listed (sym (whole_fault rest) ∙ none) in
    let v : GivesValues (matches_of prove_app rest) (gathered g.w g.b g.t) =
    subst (λ (rows : List Row). GivesValues rows (gathered g.w g.b g.t)) (sym (whole_rows rest)) (values_at_end (rows_at_end (at [] None idle) rest) (gathered g.w g.b g.t) g.holds) in
    let first_is : wv ≡ g.w = workers_is ∙ ap (first_of (codes "workers")) is ∙ v.workers_value in
    let second_is : bv ≡ g.b = budget_is ∙ ap (first_of (codes "budget")) is ∙ v.budget_value in
    let third_is : trace ≡ g.t = trace_is g.t (ap (one_of (codes "trace")) is ∙ v.trace_value) in (
      λ gives. record {
        rest = rest;
        words_are = refl;
        workers_words = g.ww;
        budget_words = g.bw;
        trace_words = g.tw;
        order = g.order;
        workers = gives_workers g.ww g.w o.workers g.workers_group (subst (λ (w : Option Text). GivenWorkers w o.workers) first_is gives.workers);
        budget = gives_budget g.bw g.b o.budget g.budget_group (subst (λ (b : Option Text). GivenBudget b o.budget) second_is gives.budget);
        trace = subst (GivesTrace g.tw) (sym (gives.shows ∙ third_is)) g.trace_group;
      },
      λ p.
          let r = command_read rest o p in
          record {
            workers = subst (λ (w : Option Text). GivenWorkers w o.workers) (sym (workers_is ∙ ap (first_of (codes "workers")) is ∙ r.values.workers_value)) r.workers_given;
            budget = subst (λ (b : Option Text). GivenBudget b o.budget) (sym (budget_is ∙ ap (first_of (codes "budget")) is ∙ r.values.budget_value)) r.budget_given;
            shows = sym (trace_is o.trace (ap (one_of (codes "trace")) is ∙ r.values.trace_value));
          },
    )

-- ---- each word of a command can be read

and_first : (a b : Bool) → (a && b) ≡ true → a ≡ true
and_first true b both = refl
and_first false b both = cc

and_second : (a b : Bool) → (a && b) ≡ true → b ≡ true
and_second true b both = both
and_second false b both = cc

ascii : (word : Text) → list_all (λ c. nat_lt c 128) word ≡ true → (i : ℕ) → slice_index word i < 128
ascii [] all i = omega arith
ascii (c ∷ cs) all zero = ltb-true c 128 (and_first (nat_lt c 128) (list_all (λ c. nat_lt c 128) cs) all)
ascii (c ∷ cs) all (suc i) = ascii cs (and_second (nat_lt c 128) (list_all (λ c. nat_lt c 128) cs) all) i

ascii_digits : (word : Text) → All IsDigit word → (i : ℕ) → slice_index word i < 128
ascii_digits [] digits i = omega arith
ascii_digits (c ∷ cs) digits zero = let first = digits 0 0 (omega arith) in omega (arith, first.1)
ascii_digits (c ∷ cs) digits (suc i) = ascii_digits cs (λ k d lt. digits (suc k) d (omega arith)) i

digits_readable : (word : Text) → All IsDigit word → IsReadable word
digits_readable word digits = (IsUtf8-from_ascii word (ascii_digits word digits), plain_word (no_hyphen word digits))

joined_utf8 : (front word : Text) → IsAscii front → All IsDigit word → IsUtf8 (front ++ word)
joined_utf8 front word first digits = IsUtf8-append front word (IsUtf8-from_ascii front first) (IsUtf8-from_ascii word (ascii_digits word digits))

All-one : (P : Text → Type 0) (x : Text) → P x → All P (x ∷ [])
All-one P x p = All-push P [] x (All-nil P) p

All-two : (P : Text → Type 0) (x y : Text) → P x → P y → All P (x ∷ y ∷ [])
All-two P x y p q = All-push P (x ∷ []) y (All-one P x p) q

workers_readable : (words : List Text) (n : ℕ) → GivesWorkers words n → All IsReadable words
workers_readable _ _ usual_workers = All-nil IsReadable
workers_readable _ _ (workers_apart word n writes) =
    All-two IsReadable (codes "--workers") word (IsUtf8-from_ascii _ (ascii (codes "--workers") refl), option_word (workers_word refl)) (digits_readable word writes.writes.digits)
workers_readable _ _ (workers_joined word n writes) =
    All-one IsReadable (codes "--workers=" ++ word) (joined_utf8 (codes "--workers=") word (ascii (codes "--workers=") refl) writes.writes.digits, joined_word (workers_value (word, refl)))

budget_readable : (words : List Text) (n : ℕ) → GivesBudget words n → All IsReadable words
budget_readable _ _ usual_budget = All-nil IsReadable
budget_readable _ _ (budget_apart word n writes) =
    All-two IsReadable (codes "--budget") word (IsUtf8-from_ascii _ (ascii (codes "--budget") refl), option_word (budget_word refl)) (digits_readable word writes.writes.digits)
budget_readable _ _ (budget_joined word n writes) =
    All-one IsReadable (codes "--budget=" ++ word) (joined_utf8 (codes "--budget=") word (ascii (codes "--budget=") refl) writes.writes.digits, joined_word (budget_value (word, refl)))

trace_readable : (words : List Text) (t : Bool) → GivesTrace words t → All IsReadable words
trace_readable _ _ no_trace = All-nil IsReadable
trace_readable _ _ given_trace = All-one IsReadable (codes "--trace") (IsUtf8-from_ascii _ (ascii (codes "--trace") refl), option_word (trace_word refl))

all_three : (P : Text → Type 0) (xs ys zs : List Text) → All P xs → All P ys → All P zs → All P (xs ++ ys ++ zs)
all_three P xs ys zs p q r = All-append P (xs ++ ys) zs (All-append P xs ys p q) r

all_in_order : (P : Text → Type 0) (a b c words : List Text) → InSomeOrder a b c words → All P a → All P b → All P c → All P words
all_in_order P a b c _ abc p q r = all_three P a b c p q r
all_in_order P a b c _ acb p q r = all_three P a c b p r q
all_in_order P a b c _ bac p q r = all_three P b a c q p r
all_in_order P a b c _ bca p q r = all_three P b c a q r p
all_in_order P a b c _ cab p q r = all_three P c a b r p q
all_in_order P a b c _ cba p q r = all_three P c b a r q p

pub command_readable : (rest : List Text) (o : LfOptions) → IsProve (codes "prove" ∷ rest) o → All IsReadable rest
command_readable rest o p =
    let same : p.rest ≡ rest = let e = p.words_are in cc in
    subst (All IsReadable) same (all_in_order IsReadable p.workers_words p.budget_words p.trace_words p.rest p.order
    (workers_readable p.workers_words o.workers p.workers) (budget_readable p.budget_words o.budget p.budget) (trace_readable p.trace_words o.trace p.trace))

-- ---- errors

-- where no kind may come and memory was had, there is no error
pub no_kind : (kinds : Kinds) (e : Error) → kinds ≡ [] → (kind_of e ≡ kind.OutOfMemory → ⊥) → HasKind kinds e → ⊥
no_kind [] e none other (inl memory) = other memory
no_kind [] e none other (inr among) = absurd among
no_kind (k ∷ ks) e none other has = cc

-- the flag that is read is the one that was given
pub flag_is : (text : Option Text) (flag : Bool) → (text ≡ Some (codes "true") → flag ≡ true) → (text ≡ Some (codes "false") → flag ≡ false) → (t : Bool) → text ≡ Some (text_of_trace t) → flag ≡ t
flag_is text flag yes_is no_is true e = yes_is e
flag_is text flag yes_is no_is false e = no_is e

-- ---- words read one after another

-- one more word is read
pub listed_more : (words done : List Text) (i next : ℕ) (word : Text) → done ≡ take i words → All IsListed (take i words) → i < length words → word ≡ get_or words i word → IsListed word → next ≡ suc i →
    (done ++ word ∷ [] ≡ take next words) × All IsListed (take next words)
listed_more words done i next word same listed less is reads after =
    let more : take next words ≡ take i words ++ word ∷ [] = ap (λ (k : ℕ). take k words) after ∙ take-suc words i word less ∙ ap (λ (w : Text). take i words ++ w ∷ []) (sym is) in (
      ap (λ (xs : List Text). xs ++ word ∷ []) same ∙ sym more,
      subst (All IsListed) (sym more) (All-push IsListed (take i words) word listed reads),
    )

-- a word that can't be read is one of those that all can
pub one_unread : (words : List Text) (i : ℕ) (word : Text) → i < length words → word ≡ get_or words i word → (IsUtf8 word → IsListed word → ⊥) → All IsReadable words → ⊥
one_unread words i word less is unread all =
    let reads : IsReadable word = subst IsReadable (sym is) (All-get_or IsReadable words i word less all) in
    unread reads.0 reads.1

-- the first word and those after it are the words
pub first_and_rest : (words rest : List Text) (first : Text) → 1 ≤ length words → first ≡ get_or words 0 first → first ≡ codes "prove" → rest ≡ take (length words - 1) (drop 1 words) → codes "prove" ∷ rest ≡ words
first_and_rest [] rest first least at_start is after = absurd (omega (arith, least))
first_and_rest (word ∷ words) rest first least at_start is after =
    ap (λ (w : Text). w ∷ rest) (sym is ∙ at_start) ∙ ap (λ (ws : List Text). word ∷ ws) (after ∙ take_all (length (word ∷ words) - 1) words (omega arith))
