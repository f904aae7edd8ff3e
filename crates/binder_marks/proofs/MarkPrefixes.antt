-- Marks from a place on.
use Rattle.std.proofs.Common.{◌≡◌, ℕ, ◌+◌, ◌<◌, List, [], ◌∷◌, ◌++◌, Bool, false, length, get_or, drop, refl, sym, ap, ◌∙◌, arith, length-drop, append_assoc, append-nil}
use Rattle.std.proofs.lemmas.List.{get_or-drop, drop-drop, drop_at}
use Rattle.binder_marks.specs.Marks.{HaveAt}

pub prefix_within : (ms : List Bool) (p : ℕ) (m : Bool) (prefix : List Bool) → HaveAt ms p (m ∷ prefix) → p < length ms
prefix_within ms p m prefix have = omega (arith, length-drop p ms, ap length have.1)

pub prefix_mark : (ms : List Bool) (p : ℕ) (m : Bool) (prefix : List Bool) → HaveAt ms p (m ∷ prefix) → get_or ms p false ≡ m
prefix_mark ms p m prefix have =
    let same : p ≡ p + 0 = omega arith in ap (λ k. get_or ms k false) same ∙ sym (get_or-drop p ms 0 false) ∙ ap (λ l. get_or l 0 false) have.1

pub prefix_later : (ms : List Bool) (p : ℕ) (m : Bool) (prefix : List Bool) → HaveAt ms p (m ∷ prefix) → HaveAt ms (p + 1) prefix
prefix_later ms p m prefix have = (have.0, sym (drop-drop 1 p ms) ∙ ap (λ l. drop 1 l) have.1)

pub prefix_first : (ms : List Bool) (p : ℕ) (first then : List Bool) → HaveAt ms p (first ++ then) → HaveAt ms p first
prefix_first ms p first then have = (then ++ have.0, have.1 ∙ append_assoc first then have.0)

pub prefix_then : (ms : List Bool) (p q : ℕ) (first then : List Bool) → q ≡ p + length first → HaveAt ms p (first ++ then) → HaveAt ms q then
prefix_then ms p q first then is have =
    (have.0, ap (λ k. drop k ms) is ∙ sym (drop-drop (length first) p ms) ∙ ap (λ l. drop (length first) l) (have.1 ∙ append_assoc first then have.0) ∙ drop_at first (then ++ have.0) (length first) refl)

pub prefix_whole : (ms : List Bool) (prefix : List Bool) → ms ≡ prefix → HaveAt ms 0 prefix
prefix_whole ms prefix is = ([], is ∙ sym (append-nil prefix))
