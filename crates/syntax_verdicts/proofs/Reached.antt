-- Tokens have a verdict: they are read one after another, up to the first that is refused.
use Rattle.std.proofs.Common.{◌≡◌, ℕ, ◌<◌, ◌≤◌, ◌⊎◌, inl, inr, List, [], ◌∷◌, ◌++◌, Some, None, append_assoc, refl, sym, ◌∙◌, subst, arith}
use Rattle.std.specs.Prelude.{sum}
use Rattle.std.proofs.lemmas.List.{append-nil}
use Rattle.lex_text.specs.declared.token.Token.{Token}
use Rattle.file_trees.specs.declared.span.Span.{Span}
use Rattle.file_syntax.specs.declared.terminal.Terminal.TheVariants.{Equals}
use Rattle.file_syntax.specs.Terminals.{terminal_of}
use Rattle.file_syntax.specs.Nesting.{open_after}
use Rattle.file_syntax.specs.Reading.{move, step, start}
use Rattle.file_syntax.proofs.Outcomes.{ReadSoFar, nothing_read, read_more, refused_at, too_deep_at, unfinished_at, parsed_whole}
use Rattle.syntax_verdicts.specs.Verdicts.{Verdict, parsed, expected, too_deep, IsVerdict}

abbrev pub SomeVerdict : List ℕ → List Token → ℕ → Type 0
SomeVerdict bytes tokens size = (verdict : Verdict) × IsVerdict bytes tokens size verdict

abbrev nowhere : Span
nowhere = record { start = 0; end = 0 }

-- The states of the machine have no name here: `move` shows their cases, and `start` is between declarations.
between_or_not : (top : _) (next : _) → move [] [] top (Equals nowhere) ≡ next → (top ≡ start.top) ⊎ (top ≡ start.top → ⊥)
between_or_not top next e = grind (arith, e)

few_or_many : (n : ℕ) → (n ≤ 256) ⊎ (256 < n)
few_or_many n = grind arith

at_end : (bytes : List ℕ) (tokens : List Token) (size : ℕ) {state : _} {opened : List ℕ} → ReadSoFar bytes tokens state opened →
    (state.top ≡ start.top) ⊎ (state.top ≡ start.top → ⊥) → SomeVerdict bytes tokens size
at_end bytes tokens size {state = state} read (inl between) = (parsed state.decls, parsed_whole read between)
at_end bytes tokens size read (inr open_yet) = (expected size, unfinished_at size read open_yet)

-- what was read with one token more goes on to a verdict
abbrev Further : List ℕ → List Token → ℕ → List Token → Token → List ℕ → Type 0
Further bytes tokens size prefix token opened =
    (after : _) → ReadSoFar bytes (prefix ++ token ∷ []) after (open_after (terminal_of bytes token) opened) → SomeVerdict bytes tokens size

at_step : (bytes : List ℕ) (tokens : List Token) (size : ℕ) (prefix : List Token) (token : Token) (rest : List Token) → tokens ≡ prefix ++ token ∷ rest →
    {state after : _} {opened : List ℕ} → ReadSoFar bytes prefix state opened → Further bytes tokens size prefix token opened →
    step state (terminal_of bytes token) ≡ Some after →
    (sum (open_after (terminal_of bytes token) opened) ≤ 256) ⊎ (256 < sum (open_after (terminal_of bytes token) opened)) → SomeVerdict bytes tokens size
at_step bytes tokens size prefix token rest parts {after = after} read further stepped (inl few) = further after (read_more token read stepped few)
at_step bytes tokens size prefix token rest parts read further stepped (inr many) =
    (too_deep token.start, too_deep_at tokens token rest read stepped many parts)

at_token : (bytes : List ℕ) (tokens : List Token) (size : ℕ) (prefix : List Token) (token : Token) (rest : List Token) → tokens ≡ prefix ++ token ∷ rest →
    {state : _} {opened : List ℕ} → ReadSoFar bytes prefix state opened → Further bytes tokens size prefix token opened →
    (next : _) → step state (terminal_of bytes token) ≡ next → SomeVerdict bytes tokens size
at_token bytes tokens size prefix token rest parts read further None refused =
    (expected token.start, refused_at tokens token rest size read refused parts)
at_token bytes tokens size prefix token rest parts {opened = opened} read further (Some after) stepped =
    at_step bytes tokens size prefix token rest parts read further stepped (few_or_many (sum (open_after (terminal_of bytes token) opened)))

reached : (bytes : List ℕ) (tokens : List Token) (size : ℕ) (rest prefix : List Token) → tokens ≡ prefix ++ rest → (state : _) (opened : List ℕ) →
    ReadSoFar bytes prefix state opened → SomeVerdict bytes tokens size
reached bytes tokens size [] prefix parts state opened read =
    at_end bytes tokens size (subst (λ p. ReadSoFar bytes p state opened) (sym (parts ∙ append-nil prefix)) read)
    (between_or_not state.top (move [] [] state.top (Equals nowhere)) refl)
reached bytes tokens size (token ∷ rest) prefix parts state opened read =
    at_token bytes tokens size prefix token rest parts read
    (λ after more. reached bytes tokens size rest (prefix ++ token ∷ []) (parts ∙ sym (append_assoc prefix (token ∷ []) rest)) after
    (open_after (terminal_of bytes token) opened) more)
    (step state (terminal_of bytes token)) refl

pub some_verdict : (bytes : List ℕ) (tokens : List Token) (size : ℕ) → SomeVerdict bytes tokens size
some_verdict bytes tokens size = reached bytes tokens size tokens [] refl start [] (nothing_read bytes)
