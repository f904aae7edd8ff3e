-- What reads from bytes in memory give.
use Rattle.std.proofs.Common.{◌≡◌, ℕ, min, List, ◌++◌, length, take, drop, Some, Ok, arith, length-append, length-drop, sym, ap, ◌∙◌, take_at, length-take-le, take-append-drop, drop_of_length-le}
use Rattle.std.proofs.lemmas.List.{length-take}
use Rattle.std.specs.Io.KnownBytes.{ReadConsumes}
use Rattle.run_io.specs.declared.source.Failed.{Failed}

-- the prefix of what was left stands at the prefix of the buffer
pub reads_prefix : (left to new rest : List ℕ) (n : ℕ) → n ≡ min (length left) (length to) → new ≡ take n left ++ drop n to → rest ≡ drop n left
    → ReadConsumes {E = Failed} (Some left) (Some rest) (Ok n) new
reads_prefix left to new rest n count copied after =
    let prefix : take n new ≡ take n left = ap (take n) copied ∙ take_at _ _ n (length-take-le n left (omega arith)) in
    let size : length new ≡ length to = ap length copied ∙ simp (length-append, length-take, length-drop) (omega arith) in (
      sym (take-append-drop n left) ∙ ap (λ l. l ++ drop n left) (sym prefix) ∙ ap (λ l. take n new ++ l) (sym after),
      λ zero room. after ∙ drop_of_length-le left (omega arith),
    )
