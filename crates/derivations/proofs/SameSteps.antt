-- The tests of scripts decide equality of labels and of last steps, and a step finds the alternative that it is of.
use Rattle.std.proofs.Common.{◌≡◌, ℕ, true, Decides, List, [], ◌∷◌, refl, ap, ap₂, ◌∙◌}
use Rattle.std.specs.Prelude.{◌&&◌, nat_eq}
use Rattle.std.proofs.lemmas.Bool.Decides.{Decides-eqb, Decides-like, Decides-and}
use Rattle.applications.specs.Methods.{LfLabel}
use Rattle.alternatives.specs.Alternatives.{LfLast, done, safely, unsafely, late, LfAlternative}
use Rattle.derivations.specs.Replays.{LfStep, same_numbers, same_label, same_labels, same_last, is_step_of}

pub same_numbers_decides : (ns ks : List ℕ) → Decides (same_numbers ns ks) (ns ≡ ks)
same_numbers_decides [] [] = (λ e. refl, λ e. refl)
same_numbers_decides [] (k ∷ ks) = (λ e. absurd cc, λ e. absurd cc)
same_numbers_decides (n ∷ ns) [] = (λ e. absurd cc, λ e. absurd cc)
same_numbers_decides (n ∷ ns) (k ∷ ks) =
    Decides-like (nat_eq n k && same_numbers ns ks) (λ p. ap₂ (λ x xs. x ∷ xs) p.0 p.1) (λ e. (cc, cc)) (Decides-and (nat_eq n k) (same_numbers ns ks) (Decides-eqb n k) (same_numbers_decides ns ks))

label_of_parts : ℕ → ℕ → List ℕ → LfLabel
label_of_parts rule choice places = record { of_rule = rule; choice = choice; hypotheses = places }

same_parts : (l k : LfLabel) → (l.of_rule ≡ k.of_rule) × ((l.choice ≡ k.choice) × (l.hypotheses ≡ k.hypotheses)) → l ≡ k
unfolding label_of_parts
same_parts l k p = ap₂ (λ rule choice. label_of_parts rule choice l.hypotheses) p.0 p.1.0 ∙ ap (label_of_parts k.of_rule k.choice) p.1.1

pub same_label_decides : (l k : LfLabel) → Decides (same_label l k) (l ≡ k)
same_label_decides l k =
    Decides-like (same_label l k) (same_parts l k) (λ e. (ap (λ x. x.of_rule) e, (ap (λ x. x.choice) e, ap (λ x. x.hypotheses) e)))
    (Decides-and (nat_eq l.of_rule k.of_rule) (nat_eq l.choice k.choice && same_numbers l.hypotheses k.hypotheses) (Decides-eqb l.of_rule k.of_rule)
    (Decides-and (nat_eq l.choice k.choice) (same_numbers l.hypotheses k.hypotheses) (Decides-eqb l.choice k.choice) (same_numbers_decides l.hypotheses k.hypotheses)))

pub same_labels_decides : (ls ks : List LfLabel) → Decides (same_labels ls ks) (ls ≡ ks)
same_labels_decides [] [] = (λ e. refl, λ e. refl)
same_labels_decides [] (k ∷ ks) = (λ e. absurd cc, λ e. absurd cc)
same_labels_decides (l ∷ ls) [] = (λ e. absurd cc, λ e. absurd cc)
same_labels_decides (l ∷ ls) (k ∷ ks) =
    Decides-like (same_label l k && same_labels ls ks) (λ p. ap₂ (λ x xs. x ∷ xs) p.0 p.1) (λ e. (cc, cc))
    (Decides-and (same_label l k) (same_labels ls ks) (same_label_decides l k) (same_labels_decides ls ks))

pub same_last_decides : (l k : LfLast) → Decides (same_last l k) (l ≡ k)
same_last_decides done done = (λ e. refl, λ e. refl)
same_last_decides done (safely k) = (λ e. absurd cc, λ e. absurd cc)
same_last_decides done (unsafely k) = (λ e. absurd cc, λ e. absurd cc)
same_last_decides done (late k) = (λ e. absurd cc, λ e. absurd cc)
same_last_decides (safely l) done = (λ e. absurd cc, λ e. absurd cc)
same_last_decides (safely l) (safely k) = Decides-like (same_label l k) (ap safely) (λ e. cc) (same_label_decides l k)
same_last_decides (safely l) (unsafely k) = (λ e. absurd cc, λ e. absurd cc)
same_last_decides (safely l) (late k) = (λ e. absurd cc, λ e. absurd cc)
same_last_decides (unsafely l) done = (λ e. absurd cc, λ e. absurd cc)
same_last_decides (unsafely l) (safely k) = (λ e. absurd cc, λ e. absurd cc)
same_last_decides (unsafely l) (unsafely k) = Decides-like (same_label l k) (ap unsafely) (λ e. cc) (same_label_decides l k)
same_last_decides (unsafely l) (late k) = (λ e. absurd cc, λ e. absurd cc)
same_last_decides (late l) done = (λ e. absurd cc, λ e. absurd cc)
same_last_decides (late l) (safely k) = (λ e. absurd cc, λ e. absurd cc)
same_last_decides (late l) (unsafely k) = (λ e. absurd cc, λ e. absurd cc)
same_last_decides (late l) (late k) = Decides-like (same_label l k) (ap late) (λ e. cc) (same_label_decides l k)

-- A step is an alternative's where it has its labels of normalisation and its last step.
pub is_step_of_decides : (step : LfStep) (alternative : LfAlternative) → Decides (is_step_of step alternative) ((step.norm ≡ alternative.norm) × (step.last ≡ alternative.last))
is_step_of_decides step alternative =
    Decides-and (same_labels step.norm alternative.norm) (same_last step.last alternative.last) (same_labels_decides step.norm alternative.norm) (same_last_decides step.last alternative.last)

-- the step of an alternative
abbrev pub step_of : LfAlternative → LfStep
step_of alternative = record { norm = alternative.norm; last = alternative.last }

pub is_own_step : (alternative : LfAlternative) → is_step_of (step_of alternative) alternative ≡ true
is_own_step alternative = (is_step_of_decides (step_of alternative) alternative).1 (refl, refl)
