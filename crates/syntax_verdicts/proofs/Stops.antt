-- Where what was read first stops being the beginning of a file, or shallow: this place is one.
use Rattle.std.proofs.Common.{◌≡◌, ℕ, zero, suc, ◌≤◌, inl, inr, List, [], ◌∷◌, ◌++◌, take, append_assoc, refl, sym, ◌∙◌, subst}
use Rattle.std.specs.Prelude.{sum}
use Rattle.std.proofs.lemmas.List.{map-append}
use Rattle.std.proofs.Math.Seq.{take-nil}
use Rattle.basics.specs.Limits.{deepest_nesting}
use Rattle.lex_text.specs.declared.token.Token.{Token}
use Rattle.file_syntax.specs.declared.terminal.Terminal.{Terminal}
use Rattle.file_syntax.specs.Terminals.{terminal_of, terminals_of}
use Rattle.file_syntax.specs.Productions.{IsFile}
use Rattle.file_syntax.specs.Nesting.{open_after, open_in, IsShallow}
use Rattle.file_syntax.specs.Files.{GoesOn}
use Rattle.syntax_verdicts.proofs.Prefixes.{Extends, head_is, one_extends, same_prefix, same_rest}

-- Some file begins so, and so far it is nowhere too deep.
abbrev pub IsGood : List Terminal → Type 0
IsGood terminals = GoesOn terminals × IsShallow terminals

pub goes_on_before : (terminals more : List Terminal) → GoesOn (terminals ++ more) → GoesOn terminals
goes_on_before terminals more h =
    (more ++ h.0, h.1, subst (λ l. IsFile l h.1) (append_assoc terminals more h.0) h.2)

shallow_from : (terminals more : List Terminal) (opened : List ℕ) →
    ((count : ℕ) → sum (open_in opened (take count (terminals ++ more))) ≤ deepest_nesting) →
    (count : ℕ) → sum (open_in opened (take count terminals)) ≤ deepest_nesting
shallow_from [] more opened h count = subst (λ l. sum (open_in opened l) ≤ deepest_nesting) (sym (take-nil count)) (h 0)
shallow_from (first ∷ terminals) more opened h zero = h 0
shallow_from (first ∷ terminals) more opened h (suc count) =
    shallow_from terminals more (open_after first opened) (λ k. h (suc k)) count

pub shallow_before : (terminals more : List Terminal) → IsShallow (terminals ++ more) → IsShallow terminals
shallow_before terminals more h = shallow_from terminals more [] h

good_before : (terminals more : List Terminal) → IsGood (terminals ++ more) → IsGood terminals
good_before terminals more h = (goes_on_before terminals more h.0, shallow_before terminals more h.1)

pub terminals_more : (bytes : List ℕ) (prefix : List Token) (token : Token) (more : List Token) →
    terminals_of bytes (prefix ++ token ∷ more) ≡ (terminals_of bytes prefix ++ terminal_of bytes token ∷ []) ++ terminals_of bytes more
terminals_more bytes prefix token more =
    map-append (terminal_of bytes) prefix (token ∷ more)
    ∙ sym (append_assoc (terminals_of bytes prefix) (terminal_of bytes token ∷ []) (terminals_of bytes more))

-- With the next token it is no longer good.
abbrev pub Stops : List ℕ → List Token → List Token → Type 0
Stops bytes prefix [] = Unit {0}
Stops bytes prefix (token ∷ rest) = IsGood (terminals_of bytes prefix ++ terminal_of bytes token ∷ []) → ⊥

-- The tokens are good up to the end of the prefix.
pub record StopsAt (bytes : List ℕ) (tokens prefix rest : List Token) : Type 0 where
  pub parts : tokens ≡ prefix ++ rest
  pub good : IsGood (terminals_of bytes prefix)
  pub stops : Stops bytes prefix rest

no_longer : (bytes : List ℕ) (prefix rest more left : List Token) → Stops bytes prefix rest → rest ≡ more ++ left →
    IsGood (terminals_of bytes (prefix ++ more)) → more ≡ []
no_longer bytes prefix rest [] left stops e good = refl
no_longer bytes prefix [] (token ∷ more) left stops e good = cc
no_longer bytes prefix (first ∷ rest) (token ∷ more) left stops e good =
    let whole : IsGood ((terminals_of bytes prefix ++ terminal_of bytes token ∷ []) ++ terminals_of bytes more) =
    subst IsGood (terminals_more bytes prefix token more) good in
    let with_token : IsGood (terminals_of bytes prefix ++ terminal_of bytes token ∷ []) =
    good_before (terminals_of bytes prefix ++ terminal_of bytes token ∷ []) (terminals_of bytes more) whole in
    absurd (stops (subst (λ t. IsGood (terminals_of bytes prefix ++ terminal_of bytes t ∷ [])) (sym (head_is e)) with_token))

nothing_more : (bytes : List ℕ) (tokens prefix rest other left : List Token) → StopsAt bytes tokens prefix rest → StopsAt bytes tokens other left →
    (h : Extends prefix rest other left) → h.more ≡ []
nothing_more bytes tokens prefix rest other left first second h =
    no_longer bytes prefix rest h.more left first.stops h.rest_is (subst (λ p. IsGood (terminals_of bytes p)) h.prefix_is second.good)

pub record SamePlace (prefix rest other left : List Token) : Type 0 where
  pub prefix_is : prefix ≡ other
  pub rest_is : rest ≡ left

pub stops_once : (bytes : List ℕ) (tokens prefix rest other left : List Token) → StopsAt bytes tokens prefix rest → StopsAt bytes tokens other left →
    SamePlace prefix rest other left
stops_once bytes tokens prefix rest other left first second =
    elim (one_extends prefix rest other left (sym first.parts ∙ second.parts)) [
      | inl h ↦
          let none : h.more ≡ [] = nothing_more bytes tokens prefix rest other left first second h in
          record {
            prefix_is = sym (same_prefix prefix rest other left h none);
            rest_is = sym (same_rest prefix rest other left h none);
          }
      | inr h ↦
          let none : h.more ≡ [] = nothing_more bytes tokens other left prefix rest second first h in
          record {
            prefix_is = same_prefix other left prefix rest h none;
            rest_is = same_rest other left prefix rest h none;
          }
    ]
