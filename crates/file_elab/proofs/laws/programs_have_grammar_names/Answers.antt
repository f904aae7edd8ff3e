use Rattle.file_elab.proofs.ProgramNames.{program_named}
use Rattle.file_elab.proofs.laws.programs_have_grammar_names.Goals as goal

pub returns : goal.returns
returns c bytes declarations program parsed is = program_named bytes declarations program parsed is
