-- The marks of arguments that aren't fixed, one after another.
use Rattle.std.proofs.Common.{◌≡◌, ℕ, suc, ◌+◌, ◌<◌, Bool, true, false, Option, Some, None, List, [], ◌∷◌, ◌++◌, length, get_or, drop, refl, sym, ap, ◌∙◌, add-one, append-nil, append_assoc, drop-cons}
use Rattle.std.specs.Prelude.{is_some}
use Rattle.opening_laws.specs.Openings.{fixed_to}
use Rattle.applications.specs.Candidates.{skipping, unfixed_marks}

-- The mark of an argument that is fixed, and of one that isn't.
pub none_added : (o : Option ℕ) (mark : Bool) (left : List Bool) → is_some o ≡ true → left ≡ left ++ skipping o mark []
none_added None mark left e = absurd cc
none_added (Some place) mark left e = sym (append-nil left)

pub one_added : (o : Option ℕ) (mark : Bool) (left new : List Bool) → is_some o ≡ false → new ≡ left ++ mark ∷ [] → new ≡ left ++ skipping o mark []
one_added None mark left new e is = is
one_added (Some place) mark left new e is = absurd cc

skipping-append : (o : Option ℕ) (mark : Bool) (rest : List Bool) → skipping o mark [] ++ rest ≡ skipping o mark rest
skipping-append None mark rest = refl
skipping-append (Some place) mark rest = refl

pub marks_more : (fixed : List (ℕ × ℕ)) (whole left new marks : List Bool) (i : ℕ) (d : Bool) → i < length marks → new ≡ left ++ skipping (fixed_to fixed i) (get_or marks i d) [] →
    left ++ unfixed_marks fixed i (drop i marks) ≡ whole → new ++ unfixed_marks fixed (i + 1) (drop (i + 1) marks) ≡ whole
marks_more fixed whole left new marks i d within new_is before =
    let mark = get_or marks i d in
    let rest = unfixed_marks fixed (suc i) (drop (suc i) marks) in
    ap (λ k. new ++ unfixed_marks fixed k (drop k marks)) (add-one i) ∙ ap (λ l. l ++ rest) new_is ∙ append_assoc left (skipping (fixed_to fixed i) mark []) rest
    ∙ ap (λ l. left ++ l) (skipping-append (fixed_to fixed i) mark rest ∙ sym (ap (unfixed_marks fixed i) (drop-cons marks i d within))) ∙ before
