-- A sieve of tuples, which passes over those that begin with hypotheses of which nothing comes.
use Rattle.std.specs.Prelude.{◌≡◌, ◌≤◌, List, [], ◌∷◌, ◌++◌, map, length, Option, Some, None, All}
use Rattle.lf_definitions.specs.Syntax.{LfAtom, conclusion_atom}
use Rattle.lf_definitions.specs.GoalLists.{all_goals, ids}
use Rattle.lf_terms.specs.declared.ty.Atom.{Atom}
use Rattle.lf_terms.specs.Targets.{goal_of}
use Rattle.lf_terms.specs.Types.{type_of}
use Rattle.meta_goals.specs.GoalsOf.{goals_of}
use Rattle.applications.specs.Candidates.{LfHypothesis, premises_from}
use Rattle.applications.specs.Applications.{application_of}
use Rattle.build_shared.specs.Seen.{seen_atom}
use Rattle.build_forward.specs.declared.onward.Onward.{Onward}
use Rattle.build_forward.specs.declared.refusal.Sieve.{Sieve}
use Rattle.build_forward.specs.Onwards.{IsOnward, IsAtomIn, opening_for, premise_types, tuple_offer}
use Rattle.build_forward.specs.Clashes.{AtomsClash}

-- The constant's type is opened for some tuple, the premises are those of that, and the frozen numbers are those of all goals.
pub record IsSieve (s : Sieve) : Type 0 where
  pub onward : IsOnward s.onward.now
  pub tuple : List LfHypothesis
  pub atoms : All (IsAtomIn s.onward.now.usage.now) tuple
  pub enough : length (premises_from 0 (type_of s.onward.now.ty.now)) ≤ length tuple
  pub premises_are : map seen_atom s.premises.now ≡ premise_types s.onward.now (opening_for s.onward.now tuple)
  pub frozen_are : s.frozen.now ≡ ids (all_goals (goals_of s.onward.now.usage.now.goals.now))

-- Nothing comes of tuples that begin with these hypotheses.
abbrev pub NothingComes : Onward → List LfHypothesis → Type 0
NothingComes o chosen =
    (rest : List LfHypothesis) → All (IsAtomIn o.usage.now) rest → length (premises_from 0 (type_of o.ty.now)) ≤ length (chosen ++ rest) →
    application_of o.usage.now.sig.now o.usage.now.first (all_goals (goals_of o.usage.now.goals.now)) (goal_of o.usage.now.goal.now) (tuple_offer o (chosen ++ rest)) ≡ None

-- Nothing comes of tuples that begin with them and go on with a hypothesis whose type clashes with an atom.
abbrev pub ClashesComeToNothing : Onward → List LfHypothesis → LfAtom → Type 0
ClashesComeToNothing o chosen a =
    (h : LfHypothesis) → IsAtomIn o.usage.now h → AtomsClash a (conclusion_atom h.type) → NothingComes o (chosen ++ h ∷ [])

-- What is awaited after some hypotheses, or nothing.
abbrev pub Awaits : Onward → List LfHypothesis → Option Atom → Type 0
Awaits o chosen None = NothingComes o chosen
Awaits o chosen (Some a) = ClashesComeToNothing o chosen (seen_atom a)
