-- What stood in a text before it grew still stands at its prefix.
use Rattle.std.proofs.Common.{◌≡◌, ℕ, ◌≤◌, List, ◌++◌, length, take, sym, ap, ◌∙◌, arith, length-take}
use Rattle.std.proofs.lemmas.List.{take_all, take-take, take-append-le}
use Rattle.std.specs.Io.{StartsWith}

pub kept_unchanged : (old new : List ℕ) → new ≡ old → StartsWith new old
kept_unchanged old new same = ap (take (length old)) same ∙ take_all (length old) old (omega arith)

pub kept_appended : (old text new : List ℕ) → new ≡ old ++ text → StartsWith new old
kept_appended old text new more = ap (take (length old)) more ∙ take-append-le (length old) old text (omega arith) ∙ take_all (length old) old (omega arith)

pub kept_later : (old mid new : List ℕ) → StartsWith mid old → StartsWith new mid → StartsWith new old
kept_later old mid new first second =
    let short : length old ≤ length mid = omega (arith, ap length first, length-take (length old) mid) in
    sym (take-take (length old) (length mid) new short) ∙ ap (take (length old)) second ∙ first
