use Rattle.std.proofs.Common.{◌≡◌, ℕ, List, Ok, Err, Result, sym, subst}
use Rattle.std.specs.Prelude.{IfOk, IfErr}
use Rattle.std.specs.Str.{chars, IsUtf8, IsValidUpTo}
use Rattle.lex_text.specs.declared.lex_fault.LexFault.{LexFault}
use Rattle.lex_text.specs.declared.lex_fault.LexFault.TheVariants.{BadChar, LongName}
use Rattle.lex_text.specs.declared.token_list.Tokens.{Tokens}
use Rattle.lex_text.specs.Characters.{NotUtf8At}
use Rattle.lex_text.specs.Tokens.{TokensOf, Cut, Wrong, WrongText, bad_character, long_name}
use Rattle.lex_text.specs.Reading.{IsFaultAt}
use Rattle.lex_text.proofs.Utf8.{TokensOf-from_cut, WrongText-from_wrong, NotUtf8At-from_valid}
use Rattle.lex_text.proofs.tokens.tokens.Goals as goal

-- what the cut of the text says of the bytes
tokens_of_bytes : (bytes text : List ℕ) (answer : Result Tokens LexFault) → text ≡ bytes → IsUtf8 bytes →
    IfOk answer (λ cut. Cut 0 (chars text) cut.items) → IfOk answer (λ cut. TokensOf bytes cut.items)
tokens_of_bytes bytes text (Ok cut) same u h = TokensOf-from_cut bytes cut.items u (subst (λ bs. Cut 0 (chars bs) cut.items) same h)
tokens_of_bytes bytes text (Err fault) same u h = tt

bad_character_of_bytes : (bytes text : List ℕ) (answer : Result Tokens LexFault) (place : ℕ) → text ≡ bytes → IsUtf8 bytes →
    IfErr answer (IsFaultAt text 0) → answer ≡ Err (BadChar place) → WrongText bytes (bad_character place)
bad_character_of_bytes bytes text answer place same u h e =
    let here = subst (λ a. IfErr a (IsFaultAt text 0)) e h in
    WrongText-from_wrong bytes (bad_character place) u (subst (λ bs. Wrong 0 (chars bs) (bad_character place)) same here)

long_name_of_bytes : (bytes text : List ℕ) (answer : Result Tokens LexFault) (place : ℕ) → text ≡ bytes → IsUtf8 bytes →
    IfErr answer (IsFaultAt text 0) → answer ≡ Err (LongName place) → WrongText bytes (long_name place)
long_name_of_bytes bytes text answer place same u h e =
    let here = subst (λ a. IfErr a (IsFaultAt text 0)) e h in
    WrongText-from_wrong bytes (long_name place) u (subst (λ bs. Wrong 0 (chars bs) (long_name place)) same here)

pub returns-in-Ok-clause-cut : goal.returns-in-Ok-clause-cut
returns-in-Ok-clause-cut c =
    let text = c.in-Ok.ensures.cases in
    tokens_of_bytes c.args.bytes.now c.in-Ok.text.now c.cut.result text.0 text.1 c.cut.ensures.cut

pub returns-in-Ok-clause-bad_char : goal.returns-in-Ok-clause-bad_char
returns-in-Ok-clause-bad_char c place e =
    let text = c.in-Ok.ensures.cases in
    bad_character_of_bytes c.args.bytes.now c.in-Ok.text.now c.cut.result place text.0 text.1 c.cut.ensures.fault e

pub returns-in-Ok-clause-long_name : goal.returns-in-Ok-clause-long_name
returns-in-Ok-clause-long_name c place e =
    let text = c.in-Ok.ensures.cases in
    long_name_of_bytes c.args.bytes.now c.in-Ok.text.now c.cut.result place text.0 text.1 c.cut.ensures.fault e

pub returns-in-Err-clause-not_utf8 : goal.returns-in-Err-clause-not_utf8
returns-in-Err-clause-not_utf8 c place e =
    let same : c.valid_up_to.result ≡ place = cc in
    let valid = subst (IsValidUpTo c.args.bytes.now) (sym c.valid_up_to.ensures) c.in-Err.ensures.cases.1 in
    subst (NotUtf8At c.args.bytes.now) same (NotUtf8At-from_valid c.args.bytes.now c.valid_up_to.result valid)
