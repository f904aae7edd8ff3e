-- What the grammar tells apart of a token: its kind, and of a word which word it is.
use Rattle.std.specs.Prelude.{ℕ, if◌then◌else◌, List, map, codes}
use Rattle.std.specs.Str.{bytes_eq}
use Rattle.lex_text.specs.declared.mark.Mark.{Mark}
use Rattle.lex_text.specs.declared.mark.Mark.TheVariants.{Word as a_word, Var as a_variable, Number as a_number, Colon as a_colon, Dot as a_dot, Equals as an_equals, Arrow as an_arrow, LParen as an_lparen, RParen as an_rparen, LBrace as an_lbrace, RBrace as an_rbrace, LBracket as an_lbracket, RBracket as an_rbracket}
use Rattle.lex_text.specs.declared.token.Token.{Token}
use Rattle.lex_text.specs.Tokens.{text_of}
use Rattle.file_trees.specs.declared.span.Span.{Span}
use Rattle.file_syntax.specs.declared.terminal.Keyword.{Keyword}
use Rattle.file_syntax.specs.declared.terminal.Keyword.TheVariants.{Family, Const, Theorem, Data, Rule, Norm, Safe, Unsafe, Apply, Constructors, Cases, Forward, Destruct, At, In, Other}
use Rattle.file_syntax.specs.declared.terminal.Terminal.{Terminal}
use Rattle.file_syntax.specs.declared.terminal.Terminal.TheVariants.{TypeWord, Word, Var, Number, Colon, Dot, Equals, Arrow, LParen, RParen, LBrace, RBrace, LBracket, RBracket}

-- a word other than `type`
abbrev pub keyword_of : List ℕ → Keyword
keyword_of text =
    if bytes_eq text (codes "family") then Family
    else if bytes_eq text (codes "const") then Const
    else if bytes_eq text (codes "theorem") then Theorem
    else if bytes_eq text (codes "data") then Data
    else if bytes_eq text (codes "rule") then Rule
    else if bytes_eq text (codes "norm") then Norm
    else if bytes_eq text (codes "safe") then Safe
    else if bytes_eq text (codes "unsafe") then Unsafe
    else if bytes_eq text (codes "apply") then Apply
    else if bytes_eq text (codes "constructors") then Constructors
    else if bytes_eq text (codes "cases") then Cases
    else if bytes_eq text (codes "forward") then Forward
    else if bytes_eq text (codes "destruct") then Destruct
    else if bytes_eq text (codes "at") then At
    else if bytes_eq text (codes "in") then In
    else Other

abbrev pub word_of : List ℕ → Span → Terminal
word_of text span = if bytes_eq text (codes "type") then TypeWord span else Word (keyword_of text) span

abbrev pub span_of : Token → Span
span_of token = record { start = token.start; end = token.end }

abbrev marked : Mark → List ℕ → Span → Terminal
marked a_word text span = word_of text span
marked a_variable text span = Var span
marked a_number text span = Number span
marked a_colon text span = Colon span
marked a_dot text span = Dot span
marked an_equals text span = Equals span
marked an_arrow text span = Arrow span
marked an_lparen text span = LParen span
marked an_rparen text span = RParen span
marked an_lbrace text span = LBrace span
marked an_rbrace text span = RBrace span
marked an_lbracket text span = LBracket span
marked an_rbracket text span = RBracket span

abbrev pub terminal_of : List ℕ → Token → Terminal
terminal_of bytes token = marked token.mark (text_of bytes token) (span_of token)

-- the terminals of tokens
abbrev pub terminals_of : List ℕ → List Token → List Terminal
terminals_of bytes tokens = map (terminal_of bytes) tokens
