-- The events of rows, as more of them and more counts are added.
use Rattle.std.proofs.Common.{◌≡◌, ℕ, List, [], ◌∷◌, ◌++◌, length, take, drop, All, refl, ap, ◌∙◌, arith, length-drop}
use Rattle.std.proofs.lemmas.List.{map-append, drop-append-le, take-append-le}
use Rattle.std.proofs.lemmas.List.Elements.{All-head, All-tail}
use Rattle.std.proofs.Math.Seq.{drop-append_seam, take-length}
use Rattle.tree_runs.specs.States.{commit}
use Rattle.tree_steps.specs.declared.journal.Row.{Row}
use Rattle.tree_steps.specs.declared.journal.Row.TheVariants.{Claim, Commit, Release}
use Rattle.tree_steps.specs.Journals.{event_of, events_of, IsWithin}

-- counts at the end change no event
event_of-more : (counts more : List ℕ) (row : Row) → IsWithin counts row → event_of (counts ++ more) row ≡ event_of counts row
event_of-more counts more (Claim seat node) w = refl
event_of-more counts more (Commit seat node start width) w =
    let dropped = drop-append-le start counts more (omega (arith, w)) in
    let taken = take-append-le width (drop start counts) more (omega (arith, w, length-drop start counts)) in
    ap (λ cs. commit seat node cs) (ap (take width) dropped ∙ taken)
event_of-more counts more (Release seat node) w = refl

events_of-more : (counts more : List ℕ) (rows : List Row) → All (IsWithin counts) rows → events_of rows (counts ++ more) ≡ events_of rows counts
events_of-more counts more [] w = refl
events_of-more counts more (row ∷ rows) w =
    ap (λ e. e ∷ events_of rows (counts ++ more)) (event_of-more counts more row (All-head (IsWithin counts) row rows w)) ∙
    ap (λ es. event_of counts row ∷ es) (events_of-more counts more rows (All-tail (IsWithin counts) row rows w))

-- a commit is added, and its counts
pub commit_added : (rows rows' : List Row) (counts counts' more : List ℕ) (seat node start width : ℕ) → All (IsWithin counts) rows → rows' ≡ rows ++ Commit seat node start width ∷ [] → counts' ≡ counts ++ more →
    start ≡ length counts → width ≡ length more → events_of rows' counts' ≡ events_of rows counts ++ commit seat node more ∷ []
commit_added rows rows' counts counts' more seat node start width within r c s w =
    let seam : take width (drop start (counts ++ more)) ≡ more = rw (s, w, drop-append_seam counts more) (take-length more) in
    rw (r, c, map-append (event_of (counts ++ more)) rows (Commit seat node start width ∷ []), events_of-more counts more rows within, seam) refl
