-- How deep a terminal is nested: open parentheses, open braces up to their closing ones, and abstractions whose body goes on.
use Rattle.std.specs.Prelude.{ℕ, suc, ◌≤◌, List, [], ◌∷◌, take, sum}
use Rattle.basics.specs.Limits.{deepest_nesting}
use Rattle.file_syntax.specs.declared.terminal.Terminal.{Terminal}
use Rattle.file_syntax.specs.declared.terminal.Terminal.TheVariants.{LParen, RParen, LBrace, RBrace, LBracket}

-- the abstractions within the innermost parenthesis or brace go on up to its end
abbrev pub one_deeper : List ℕ → List ℕ
one_deeper [] = []
one_deeper (count ∷ opened) = suc count ∷ opened

abbrev pub one_closed : List ℕ → List ℕ
one_closed [] = []
one_closed (count ∷ opened) = opened

-- For each open parenthesis and brace, the innermost first: one, and one for each abstraction in it whose body goes on.
abbrev pub open_after : Terminal → List ℕ → List ℕ
open_after (LParen span) opened = 1 ∷ opened
open_after (LBrace span) opened = 1 ∷ opened
open_after (LBracket span) opened = one_deeper opened
open_after (RParen span) opened = one_closed opened
open_after (RBrace span) opened = one_closed opened
open_after _ opened = opened

abbrev pub open_in : List ℕ → List Terminal → List ℕ
open_in opened [] = opened
open_in opened (terminal ∷ terminals) = open_in (open_after terminal opened) terminals

-- the nesting after the terminals
abbrev pub nesting : List Terminal → ℕ
nesting terminals = sum (open_in [] terminals)

-- Nowhere in the terminals is the nesting above 256.
abbrev pub IsShallow : List Terminal → Type 0
IsShallow terminals = (count : ℕ) → nesting (take count terminals) ≤ deepest_nesting
