-- Candidates and applications of the code, seen as plain data.
use Rattle.std.specs.Prelude.{map}
use Rattle.lf_definitions.specs.Syntax.{LfAtom}
use Rattle.lf_terms.specs.declared.ty.Atom.{Atom}
use Rattle.lf_terms.specs.Terms.{head_of}
use Rattle.lf_terms.specs.Types.{type_of}
use Rattle.meta_goals.specs.Bindings.{assigned_of}
use Rattle.meta_openings.specs.Results.{opened_type_of}
use Rattle.applications.specs.Methods.{LfLabel, Outcome as LfOutcome, closes, adds, LfCandidate}
use Rattle.applications.specs.Candidates.{LfHypothesis}
use Rattle.applications.specs.Applications.{LfApplication}
use Rattle.build_shared.specs.declared.label.Label.{Label}
use Rattle.build_shared.specs.declared.candidate.Outcome.{Outcome}
use Rattle.build_shared.specs.declared.candidate.Outcome.TheVariants.{Closes, Adds}
use Rattle.build_shared.specs.declared.candidate.Candidate.{Candidate}
use Rattle.build_shared.specs.declared.hypotheses.Hypothesis.{Hypothesis}
use Rattle.build_shared.specs.declared.app.App.{App}

-- a family with arguments
abbrev pub seen_atom : Atom → LfAtom
seen_atom a = record { atom_family = a.family; atom_args = a.args }

abbrev pub seen_label : Label → LfLabel
seen_label l = record { of_rule = l.rule; choice = l.choice; hypotheses = l.hyps }

abbrev pub seen_outcome : Outcome → LfOutcome
seen_outcome Closes = closes
seen_outcome (Adds kept) = adds kept

abbrev pub seen_candidate : Candidate → LfCandidate
seen_candidate c = record {
  label = seen_label c.label;
  head = head_of c.head;
  opened = opened_type_of c.opened;
  are_proofs = c.are_proofs.items;
  equations = c.equations;
  outcome = seen_outcome c.outcome;
}

abbrev pub seen_hypothesis : Hypothesis → LfHypothesis
seen_hypothesis h = record { place = h.place; type = type_of h.ty }

abbrev pub seen_application : App → LfApplication
seen_application a = record {
  label = seen_label a.label;
  assigned = map assigned_of a.assign;
  proofs = a.proofs;
  witnesses = a.witnesses;
  assigns_others = a.assigns_others;
}
