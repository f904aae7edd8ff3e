use Rattle.std.proofs.Common.{◌≡◌, length, take}
use Rattle.lf_definitions.specs.Substitution.{stays}
use Rattle.lf_terms.specs.Terms.{spine_of}
use Rattle.file_trees.specs.TermViews.{trees_of}
use Rattle.elab_terms.specs.Readers.{whole_text, typing_by}
use Rattle.elab_terms.specs.Terms.{ReadsArguments}
use Rattle.elab_terms.proofs.Reading.{seen_types}
use Rattle.elab_terms.proofs.types.read_terms.Given as goal

abbrev pub invariant-loop-i : goal.invariant-loop-i
invariant-loop-i l = record {
  count : length l.terms.items ≡ l.i;
  read : ReadsArguments (whole_text l.reader) l.reader.sig.now l.fn.names (typing_by l.reader l.scope) stays (take l.i (trees_of l.items)) (take l.i (seen_types 0 l.types)) (spine_of l.terms.items);
  names : l.names ≡ l.fn.names;
}
