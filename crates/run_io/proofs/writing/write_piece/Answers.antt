use Rattle.std.proofs.Common.{arith, length, ◌++◌, take, ap, ◌∙◌, append_assoc, take-append-drop, length-append, le_trans}
use Rattle.std.proofs.lemmas.List.{take_rest}
use Rattle.std.proofs.KnownBytes.{Appends-trans}
use Rattle.run_io.proofs.writing.write_piece.Goals as goal

pub loop-rest-preserved : goal.loop-rest-preserved
loop-rest-preserved g c =
    let before = c.loop-rest.invariant in
    let rest = c.loop-rest.rest.now in
    let n = c.in-Ok.count in
    record {
      done = before.done ++ take n rest;
      split = append_assoc before.done (take n rest) _ ∙ ap (λ l. before.done ++ l) (ap (λ l. take n rest ++ l) (take_rest rest n) ∙ take-append-drop n rest) ∙ before.split;
      taken = Appends-trans _ _ _ _ _ before.taken c.in-Ok.ensures.bytes;
      idle = λ none. absurd (omega (arith, c.in-Ok.ensures.bound, length-append before.done rest, ap length (before.split ∙ none)));
      faults = le_trans before.faults c.in-Ok.ensures.cause.later;
      zeros = le_trans before.zeros c.in-Ok.ensures.zero.later;
    }
