-- Blocks that can be written.
use Rattle.std.specs.Prelude.{◌<◌, length, All}
use Rattle.lf_definitions.specs.Signatures.{LfSignature}
use Rattle.applications.specs.Methods.{LfLabel}
use Rattle.alternatives.specs.Alternatives.{LfLast, done, safely, unsafely, late}
use Rattle.derivations.specs.Replays.{LfStep}
use Rattle.file_print.specs.Printable.{IsPrintable}
use Rattle.rule_sets.specs.Books.{Book}
use Rattle.answer_definitions.specs.Blocks.{LfVerdict, proved, stuck, spent, LfBlock}

-- The label is of a rule of the book.
abbrev pub NamesRule : Book → LfLabel → Type 0
NamesRule book label = label.of_rule < length book.rules

abbrev pub LastNamesRule : Book → LfLast → Type 0
LastNamesRule book done = Unit {0}
LastNamesRule book (safely label) = NamesRule book label
LastNamesRule book (unsafely label) = NamesRule book label
LastNamesRule book (late label) = NamesRule book label

abbrev pub StepNamesRules : Book → LfStep → Type 0
StepNamesRules book step = All (NamesRule book) step.norm × LastNamesRule book step.last

-- The term has no metavariable and no free variable and its constants are of the signature, and the rules of the steps are of the book.
abbrev pub IsWritableVerdict : LfSignature → Book → LfVerdict → Type 0
IsWritableVerdict sig book (proved t script) = IsPrintable sig 0 t × All (StepNamesRules book) script
IsWritableVerdict sig book stuck = Unit {0}
IsWritableVerdict sig book spent = Unit {0}

abbrev pub IsWritable : LfSignature → Book → LfBlock → Type 0
IsWritable sig book block = IsWritableVerdict sig book block.verdict
