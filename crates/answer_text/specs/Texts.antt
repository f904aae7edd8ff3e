-- The texts of blocks, by the names of a signature and the rules of a book.
use Rattle.std.specs.Prelude.{ℕ, List, [], ◌∷◌, ◌++◌, flat_map, codes, decimal, Bool, true, false, Option, Some, None, slice_get}
use Rattle.lf_definitions.specs.Signatures.{LfSignature}
use Rattle.applications.specs.Methods.{LfLabel}
use Rattle.alternatives.specs.Alternatives.{LfLast, done, safely, unsafely, late}
use Rattle.derivations.specs.Replays.{LfStep}
use Rattle.tree_runs.specs.States.{TreeEvent, claim, commit, release}
use Rattle.file_print.specs.Texts.{term_text}
use Rattle.rule_sets.specs.declared.rule.Rule.{Rule}
use Rattle.rule_sets.specs.declared.rule.Builder.{Builder}
use Rattle.rule_sets.specs.declared.rule.Builder.TheVariants.{Apply, Constructors}
use Rattle.rule_sets.specs.Books.{Book}
use Rattle.answer_definitions.specs.Blocks.{LfVerdict, proved, stuck, spent, LfBlock}

-- a text with a line end
abbrev pub line : List ℕ → List ℕ
line text = text ++ 10 ∷ []

-- Which labels say the place of a constructor, and which say places of hypotheses.
abbrev pub says_choice : Builder → Bool
says_choice Constructors = true
says_choice _ = false

abbrev pub says_hypotheses : Builder → Bool
says_hypotheses Apply = false
says_hypotheses Constructors = false
says_hypotheses _ = true

-- numbers with commas between them
abbrev pub listed_text : List ℕ → List ℕ
listed_text [] = []
listed_text (n ∷ []) = decimal n
listed_text (n ∷ m ∷ rest) = decimal n ++ codes "," ++ listed_text (m ∷ rest)

abbrev pub choice_text : Bool → ℕ → List ℕ
choice_text true choice = codes "/" ++ decimal choice
choice_text false choice = []

abbrev pub hypotheses_text : Bool → List ℕ → List ℕ
hypotheses_text true places = codes "@" ++ listed_text places
hypotheses_text false places = []

-- the label of an application of a rule; nothing where the rule isn't there
abbrev pub label_by : Option Rule → LfLabel → List ℕ
label_by None label = []
label_by (Some rule) label = rule.name ++ choice_text (says_choice rule.builder) label.choice ++ hypotheses_text (says_hypotheses rule.builder) label.hypotheses

-- A label is the rule's name, with the place of the constructor for a rule of constructors, and with the places of the hypotheses where the rule takes some.
abbrev pub label_text : Book → LfLabel → List ℕ
label_text book label = label_by (slice_get book.rules label.of_rule) label

abbrev pub norm_text : Book → LfLabel → List ℕ
norm_text book label = codes " norm " ++ label_text book label

abbrev pub last_text : Book → LfLast → List ℕ
last_text book done = codes "done"
last_text book (safely label) = codes "safe " ++ label_text book label
last_text book (unsafely label) = codes "unsafe " ++ label_text book label
last_text book (late label) = codes "late " ++ label_text book label

-- the line of a step
abbrev pub step_text : Book → LfStep → List ℕ
step_text book step = line (codes "step" ++ flat_map (norm_text book) step.norm ++ codes " " ++ last_text book step.last)

-- a number after a space
abbrev pub number_text : ℕ → List ℕ
number_text n = codes " " ++ decimal n

-- the line of an event
abbrev pub event_text : TreeEvent → List ℕ
event_text (claim seat node) = line (codes "claim" ++ number_text seat ++ number_text node)
event_text (commit seat node counts) = line (codes "commit" ++ number_text seat ++ number_text node ++ flat_map number_text counts)
event_text (release seat node) = line (codes "release" ++ number_text seat ++ number_text node)

abbrev pub events_text : Option (List TreeEvent) → List ℕ
events_text None = []
events_text (Some events) = flat_map event_text events

-- the lines that say what was answered for a theorem of a name
abbrev pub verdict_text : LfSignature → Book → List ℕ → LfVerdict → List ℕ
verdict_text sig book name (proved t script) =
    line (codes "theorem " ++ name ++ codes " proved") ++ line (codes "term " ++ term_text sig 0 t) ++ flat_map (step_text book) script
verdict_text sig book name stuck = line (codes "theorem " ++ name ++ codes " stuck")
verdict_text sig book name spent = line (codes "theorem " ++ name ++ codes " spent")

-- The text of a block: what was answered, with the term and a line for each step of the script, and a line for each event that is shown.
abbrev pub block_text : LfSignature → Book → LfBlock → List ℕ
block_text sig book block = verdict_text sig book block.name block.verdict ++ events_text block.events
