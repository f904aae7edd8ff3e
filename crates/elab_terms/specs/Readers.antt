-- What is read with, as definitions speak of it.
use Rattle.lf_definitions.specs.Typing.{Typing}
use Rattle.lf_kernel.specs.declared.local_context.LocalContext.{LocalContext}
use Rattle.elab_terms.specs.Names.{Text}
use Rattle.elab_terms.specs.KnownTypes.{known_typing}
use Rattle.elab_terms.specs.declared.reader.Reader.{Reader}

abbrev pub whole_text : Reader → Text
whole_text reader = reader.source.now

-- the types of heads at a place
abbrev pub typing_by : Reader → LocalContext → Typing
typing_by reader scope = known_typing reader.sig.now scope
