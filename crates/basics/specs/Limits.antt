-- The limits of the language and of its values, by name.
use Rattle.std.specs.Prelude.{ℕ, ◌^◌}

-- families and constants in a signature
abbrev pub most_symbols : ℕ
most_symbols = 65535

-- rules in a rule book, the two built-in ones among them
abbrev pub most_rules : ℕ
most_rules = 10002

-- theorems in a file
abbrev pub most_theorems : ℕ
most_theorems = 10000

-- how deep a token may be nested in a file
abbrev pub deepest_nesting : ℕ
deepest_nesting = 256

-- binders in a type of a file
abbrev pub most_binders : ℕ
most_binders = 1000

-- bytes in a name
abbrev pub longest_name : ℕ
longest_name = 255

-- bytes in an input
abbrev pub most_input : ℕ
most_input = 4194304

-- Each list and each text is shorter than this, and so is each number that a metavariable or a node has.
abbrev pub list_limit : ℕ
list_limit = 2147483648
