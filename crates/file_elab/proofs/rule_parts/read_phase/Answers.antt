use Rattle.std.proofs.Common.{rules, w32, sym, subst, subst₂, arith, inl}
use mir.Val.{SFits}
use Rattle.std.proofs.lemmas.Int.{to_z-of_z}
use Rattle.file_trees.specs.declared.decl_tree.PhaseWord.TheVariants as words
use Rattle.rule_sets.specs.declared.rule.Phase.TheVariants.{Norm, Safe, Unsafe}
use Rattle.file_elab.specs.Rules.{number_value, ReadsPhase, reads_norm, reads_safe}
use Rattle.file_elab.specs.ReadRules.{IsPhaseFor}
use Rattle.file_elab.proofs.RuleReading.{no_norm, no_safe, no_unsafe, percent_read}
use Rattle.file_elab.proofs.rule_parts.read_phase.Goals as goal

pub returns-in-None : goal.returns-in-None
returns-in-None c =
    let value = number_value c.args.text.now in
    subst (λ w. IsPhaseFor w value (Unsafe 255)) (sym c.in-Norm.is) (no_norm value c.in-None.ensures.none)

pub returns-in-Some : goal.returns-in-Some
returns-in-Some c =
    let n = c.in-Some.number in
    let fits : SFits w32 n = search rules in
    let e = c.in-Some.ensures.some in
    inl (subst₂ (λ w p. ReadsPhase w (number_value c.args.text.now) (Norm p)) (sym c.in-Norm.is) (sym (to_z-of_z w32 n fits))
    (subst (λ v. ReadsPhase words.Norm v (Norm n)) (sym e.0) (reads_norm n e.1 e.2)))

pub returns-in-None-penalty : goal.returns-in-None-penalty
returns-in-None-penalty c =
    let value = number_value c.args.text.now in
    subst (λ w. IsPhaseFor w value (Unsafe 255)) (sym c.in-Safe.is) (no_safe value c.in-None-penalty.ensures.none)

pub returns-in-Some-penalty : goal.returns-in-Some-penalty
returns-in-Some-penalty c =
    let n = c.in-Some-penalty.number in
    let fits : SFits w32 n = search rules in
    let e = c.in-Some-penalty.ensures.some in
    inl (subst₂ (λ w p. ReadsPhase w (number_value c.args.text.now) (Safe p)) (sym c.in-Safe.is) (sym (to_z-of_z w32 n fits))
    (subst (λ v. ReadsPhase words.Safe v (Safe n)) (sym e.0) (reads_safe n e.1 e.2)))

pub returns-in-None-natural : goal.returns-in-None-natural
returns-in-None-natural c =
    let value = number_value c.args.text.now in
    subst (λ w. IsPhaseFor w value (Unsafe 255)) (sym c.in-Unsafe.is)
    (no_unsafe value (λ number few e. c.in-None-natural.ensures.none number (omega (arith, few)) e) 255 (omega arith))

pub returns-in-Some-natural : goal.returns-in-Some-natural
returns-in-Some-natural c =
    let value = number_value c.args.text.now in
    subst (λ w. IsPhaseFor w value (Unsafe c.min.result)) (sym c.in-Unsafe.is)
    (percent_read value c.in-Some-natural.percent c.min.result c.in-Some-natural.ensures.some c.min.ensures)
