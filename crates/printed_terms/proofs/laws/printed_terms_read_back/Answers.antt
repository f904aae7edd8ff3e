use Rattle.std.proofs.Common.{◌^◌, arith}
use Rattle.file_print.specs.Texts.{term_text}
use Rattle.printed_tokens.specs.Pieces.{tokens_from, term_pieces}
use Rattle.printed_tokens.proofs.Spelling.{are_named, term_tokens}
use Rattle.printed_trees.proofs.Parsing.{term_printed}
use Rattle.printed_types.proofs.PrintableTypes.{closed_term_mentions, closed_term_printable}
use Rattle.printed_types.proofs.ReadBack.{whole_term_read}
use Rattle.printed_terms.proofs.TextLengths.{term_within}
use Rattle.printed_terms.proofs.laws.printed_terms_read_back.Goals as goal

pub returns : goal.returns
returns c sig t a formed named typed fits =
    let printable = closed_term_printable sig t a typed in
    let found = term_printed sig 0 t named printable in
    let within = term_within sig (2 ^ 64) 0 t (omega (arith, fits)) in
    record {
      tokens = tokens_from 0 (term_pieces sig 0 t);
      cut = term_tokens sig 0 t named printable;
      tree = found.0;
      parsed = found.1;
      read = whole_term_read (term_text sig 0 t) sig formed (are_named sig named) t a found.0 within typed (closed_term_mentions sig t a typed) found.2;
    }
