use Rattle.file_print.specs.Texts.{type_text}
use Rattle.printed_tokens.specs.Pieces.{tokens_from, type_pieces}
use Rattle.printed_tokens.proofs.Spelling.{are_named, tokens_printed}
use Rattle.printed_trees.proofs.Parsing.{tree_printed}
use Rattle.printed_types.proofs.Nesting.{depth_bounded}
use Rattle.printed_types.proofs.PrintableTypes.{closed_mentions, closed_printable}
use Rattle.printed_types.proofs.ReadBack.{whole_read}
use Rattle.printed_types.proofs.laws.printed_types_read_back.Goals as goal

pub returns : goal.returns
returns c sig a formed named is few shallow =
    let printable = closed_printable sig a is in
    let cut = tokens_printed sig a named printable in
    let nested = shallow (tokens_from 0 (type_pieces sig 0 a)) cut in
    let tree = tree_printed sig a named printable in
    record {
      tokens = tokens_from 0 (type_pieces sig 0 a);
      cut = cut;
      tree = tree.0;
      parsed = tree.1;
      shallow = nested;
      read = whole_read (type_text sig 0 a) sig formed (are_named sig named) a tree.0 (depth_bounded sig a few nested) few is (closed_mentions sig a is) tree.2;
    }
