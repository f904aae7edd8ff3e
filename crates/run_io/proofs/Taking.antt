-- One more read, after those that gave the bytes of `done`.
use Rattle.std.proofs.Common.{◌≡◌, ℕ, ◌+◌, ◌<◌, ◌≤◌, List, ◌++◌, length, take, arith, length-append}
use Rattle.std.specs.Prelude.{Option}
use Rattle.std.specs.Io.KnownBytes.{Consumes}
use Rattle.std.proofs.KnownBytes.{Consumes-trans}
use Rattle.std.proofs.Math.ListN.{length-take}
use Rattle.run_io.specs.Moves.{TakesAtMost, TakesMoreThan}

length_with_read : (done buf : List ℕ) (n : ℕ) → n ≤ length buf → length (done ++ take n buf) ≡ length done + n
length_with_read done buf n within = omega (arith, length-append done (take n buf), length-take n buf)

pub takes_at_most : (limit n : ℕ) (a b c : Option (List ℕ)) (done buf : List ℕ) → Consumes a b done → Consumes b c (take n buf) → n ≤ length buf → length done + n ≤ limit → TakesAtMost limit a c
takes_at_most limit n a b c done buf before now within few =
    (done ++ take n buf, omega (arith, length_with_read done buf n within), Consumes-trans a b c _ _ before now)

pub takes_more_than : (limit n : ℕ) (a b c : Option (List ℕ)) (done buf : List ℕ) → Consumes a b done → Consumes b c (take n buf) → n ≤ length buf → limit < length done + n → TakesMoreThan limit a c
takes_more_than limit n a b c done buf before now within many =
    (done ++ take n buf, omega (arith, length_with_read done buf n within), Consumes-trans a b c _ _ before now)
