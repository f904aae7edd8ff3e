use Rattle.printed_tokens.proofs.Spelling.{are_named}
use Rattle.printed_types.proofs.PrintableTypes.{closed_mentions}
use Rattle.printed_types.proofs.ReadBack.{whole_read}
use Rattle.printed_types.proofs.laws.printed_trees_are_read_back.Goals as goal

pub returns : goal.returns
returns c text sig a tree formed named is few within printed =
    whole_read text sig formed (are_named sig named) a tree within few is (closed_mentions sig a is) printed
