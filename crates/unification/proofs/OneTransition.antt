-- At most one transition fits a state, and each state has at most one end.
use Rattle.std.proofs.Common.{◌≡◌, ◌≢◌, ℕ, List, [], ◌∷◌, ◌++◌, refl, sym, ap, ap₂, ◌∙◌, subst}
use Rattle.lf_definitions.specs.Syntax.{LfHead, bound, constant, metavariable, LfTerm, lam, at, Spine}
use Rattle.lf_definitions.specs.Occurrence.{rigid_bound, rigid_constant}
use Rattle.lf_definitions.specs.Instantiation.{LfAssigned}
use Rattle.unification.specs.Equations.{LfEquation, of_atoms, of_terms, argument_equations, Reason, clash, Ending, solved, refused, Unifying, InstantiatedEquations, InstantiatedEntries}
use Rattle.unification.specs.Transitions.{Frozen, reason_of, leaving, Step, step_atoms, step_lams, step_same, step_heads, step_left, step_right, Stops, stops_families, stops_heads, stops_lam, stops_at, stops_left, stops_right, Ends, ends_solved, ends_refused, ends_later}
use Rattle.unification.proofs.Assigning.{one_assigned, unique_equations, unique_entries}
use Rattle.unification.proofs.Situations.{Situation, identical, alike, apart, solves_left, solves_right, unsolved, situation, is_identical, is_alike, is_apart, is_solves_left, is_solves_right, is_unsolved_left, is_unsolved_right}

-- What a state goes to, told from its first equation.
abbrev Assigns : LfAssigned → List LfEquation → List LfAssigned → Unifying → Type 0
Assigns e rest entries other =
    (results : List LfEquation) × (others : List LfAssigned) × InstantiatedEquations (one_assigned e) rest results × InstantiatedEntries (one_assigned e) entries others × (other ≡ leaving results (e ∷ others))

abbrev SpinesGo : Situation → List ℕ → Spine → Spine → List LfEquation → List LfAssigned → Unifying → Type 0
SpinesGo identical path ts us rest entries other = other ≡ leaving rest entries
SpinesGo alike path ts us rest entries other = other ≡ leaving (argument_equations path 0 ts us ++ rest) entries
SpinesGo apart path ts us rest entries other = ⊥
SpinesGo (solves_left e) path ts us rest entries other = Assigns e rest entries other
SpinesGo (solves_right e) path ts us rest entries other = Assigns e rest entries other
SpinesGo unsolved path ts us rest entries other = ⊥

abbrev TermsGo : Frozen → List ℕ → LfTerm → LfTerm → List LfEquation → List LfAssigned → Unifying → Type 0
TermsGo frozen path (lam b) (lam c) rest entries other = other ≡ leaving (of_terms (path ++ 0 ∷ []) b c ∷ rest) entries
TermsGo frozen path (lam b) (at k us) rest entries other = ⊥
TermsGo frozen path (at h ts) (lam c) rest entries other = ⊥
TermsGo frozen path (at h ts) (at k us) rest entries other = SpinesGo (situation frozen h ts k us) path ts us rest entries other

abbrev EquationsGo : Frozen → List LfEquation → List LfAssigned → Unifying → Type 0
EquationsGo frozen [] entries other = ⊥
EquationsGo frozen (of_atoms path a b ∷ rest) entries other = (a.atom_family ≡ b.atom_family) × (other ≡ leaving (argument_equations path 0 a.atom_args b.atom_args ++ rest) entries)
EquationsGo frozen (of_terms path t u ∷ rest) entries other = TermsGo frozen path t u rest entries other

go_by_step : {frozen : Frozen} {state other : Unifying} → Step frozen state other → EquationsGo frozen state.equations state.assigned other
go_by_step step_atoms = (refl, refl)
go_by_step step_lams = refl
go_by_step {frozen} (step_same {path = path} {h = h} {ts = ts} {rest = rest} {entries = entries}) =
    subst (λ s. SpinesGo s path ts ts rest entries (leaving rest entries)) (sym (is_identical frozen h ts)) refl
go_by_step {frozen} (step_heads {path = path} {h = h} {ts = ts} {us = us} {rest = rest} {entries = entries} rigid differ) =
    subst (λ s. SpinesGo s path ts us rest entries (leaving (argument_equations path 0 ts us ++ rest) entries)) (sym (is_alike frozen h ts us rigid differ)) refl
go_by_step {frozen} (step_left {path = path} {h = h} {k = k} {ts = ts} {us = us} {rest = rest} {results = results} {entries = entries} {others = others} e f left more) =
    subst (λ s. SpinesGo s path ts us rest entries (leaving results (e ∷ others))) (sym (is_solves_left frozen h ts k us e f)) (results, others, left, more, refl)
go_by_step {frozen} (step_right {path = path} {h = h} {k = k} {ts = ts} {us = us} {rest = rest} {results = results} {entries = entries} {others = others} e none f left more) =
    subst (λ s. SpinesGo s path ts us rest entries (leaving results (e ∷ others))) (sym (is_solves_right frozen h ts k us e none f)) (results, others, left, more, refl)

one_assigning : (e : LfAssigned) {rest : List LfEquation} {entries : List LfAssigned} {other another : Unifying} → Assigns e rest entries other → Assigns e rest entries another → other ≡ another
one_assigning e first second = first.4 ∙ ap₂ (λ qs es. leaving qs (e ∷ es)) (unique_equations first.2 second.2) (unique_entries first.3 second.3) ∙ sym second.4

one_of_spines : (path : List ℕ) (ts us : Spine) (rest : List LfEquation) (entries : List LfAssigned) (s : Situation) {other another : Unifying} → SpinesGo s path ts us rest entries other →
    SpinesGo s path ts us rest entries another → other ≡ another
one_of_spines path ts us rest entries identical e f = e ∙ sym f
one_of_spines path ts us rest entries alike e f = e ∙ sym f
one_of_spines path ts us rest entries apart e f = absurd e
one_of_spines path ts us rest entries (solves_left e) first second = one_assigning e first second
one_of_spines path ts us rest entries (solves_right e) first second = one_assigning e first second
one_of_spines path ts us rest entries unsolved e f = absurd e

one_of_terms : (frozen : Frozen) (path : List ℕ) (t u : LfTerm) (rest : List LfEquation) (entries : List LfAssigned) (other another : Unifying) → TermsGo frozen path t u rest entries other →
    TermsGo frozen path t u rest entries another → other ≡ another
one_of_terms frozen path (lam b) (lam c) rest entries other another e f = e ∙ sym f
one_of_terms frozen path (lam b) (at k us) rest entries other another e f = absurd e
one_of_terms frozen path (at h ts) (lam c) rest entries other another e f = absurd e
one_of_terms frozen path (at h ts) (at k us) rest entries other another e f = one_of_spines path ts us rest entries (situation frozen h ts k us) e f

one_of_equations : (frozen : Frozen) (equations : List LfEquation) (entries : List LfAssigned) (other another : Unifying) → EquationsGo frozen equations entries other → EquationsGo frozen equations entries another → other ≡ another
one_of_equations frozen [] entries other another e f = absurd e
one_of_equations frozen (of_atoms path a b ∷ rest) entries other another e f = e.1 ∙ sym f.1
one_of_equations frozen (of_terms path t u ∷ rest) entries other another e f = one_of_terms frozen path t u rest entries other another e f

pub one_step : {frozen : Frozen} {state other another : Unifying} → Step frozen state other → Step frozen state another → other ≡ another
one_step {frozen} {state} {other} {another} first second = one_of_equations frozen state.equations state.assigned other another (go_by_step first) (go_by_step second)

-- The reason at which a state stops, told in the same way.
abbrev reason_at_right : Frozen → List ℕ → LfTerm → LfHead → Spine → Reason
reason_at_right frozen path t (metavariable g) us = reason_of frozen path g us t
reason_at_right frozen path t (bound n) us = clash path
reason_at_right frozen path t (constant c) us = clash path

abbrev reason_at : Frozen → List ℕ → LfHead → Spine → LfHead → Spine → Reason
reason_at frozen path (metavariable g) ts k us = reason_of frozen path g ts (at k us)
reason_at frozen path (bound n) ts k us = reason_at_right frozen path (at (bound n) ts) k us
reason_at frozen path (constant c) ts k us = reason_at_right frozen path (at (constant c) ts) k us

abbrev SpinesStop : Situation → Frozen → List ℕ → LfHead → Spine → LfHead → Spine → Reason → Type 0
SpinesStop identical frozen path h ts k us reason = ⊥
SpinesStop alike frozen path h ts k us reason = ⊥
SpinesStop apart frozen path h ts k us reason = reason ≡ clash path
SpinesStop (solves_left e) frozen path h ts k us reason = ⊥
SpinesStop (solves_right e) frozen path h ts k us reason = ⊥
SpinesStop unsolved frozen path h ts k us reason = reason ≡ reason_at frozen path h ts k us

abbrev TermsStop : Frozen → List ℕ → LfTerm → LfTerm → Reason → Type 0
TermsStop frozen path (lam b) (lam c) reason = ⊥
TermsStop frozen path (lam b) (at k us) reason = reason ≡ clash path
TermsStop frozen path (at h ts) (lam c) reason = reason ≡ clash path
TermsStop frozen path (at h ts) (at k us) reason = SpinesStop (situation frozen h ts k us) frozen path h ts k us reason

abbrev EquationsStop : Frozen → List LfEquation → Reason → Type 0
EquationsStop frozen [] reason = ⊥
EquationsStop frozen (of_atoms path a b ∷ rest) reason = (a.atom_family ≢ b.atom_family) × (reason ≡ clash path)
EquationsStop frozen (of_terms path t u ∷ rest) reason = TermsStop frozen path t u reason

stop_by_reason : {frozen : Frozen} {state : Unifying} {reason : Reason} → Stops frozen state reason → EquationsStop frozen state.equations reason
stop_by_reason (stops_families differ) = (differ, refl)
stop_by_reason {frozen} (stops_heads {path = path} {h = h} {k = k} {ts = ts} {us = us} rigid rigid_k differ) =
    subst (λ s. SpinesStop s frozen path h ts k us (clash path)) (sym (is_apart frozen h ts k us rigid rigid_k differ)) refl
stop_by_reason stops_lam = refl
stop_by_reason stops_at = refl
stop_by_reason {frozen} (stops_left {path = path} {g = g} {k = k} {ts = ts} {us = us} differ none other) =
    subst (λ s. SpinesStop s frozen path (metavariable g) ts k us (reason_of frozen path g ts (at k us))) (sym (is_unsolved_left frozen g ts k us differ none other)) refl
stop_by_reason {frozen} (stops_right {path = path} {g = g} {ts = ts} {us = us} (rigid_bound n) none) =
    subst (λ s. SpinesStop s frozen path (bound n) ts (metavariable g) us (reason_of frozen path g us (at (bound n) ts))) (sym (is_unsolved_right frozen (bound n) ts g us (rigid_bound n) none)) refl
stop_by_reason {frozen} (stops_right {path = path} {g = g} {ts = ts} {us = us} (rigid_constant c) none) =
    subst (λ s. SpinesStop s frozen path (constant c) ts (metavariable g) us (reason_of frozen path g us (at (constant c) ts))) (sym (is_unsolved_right frozen (constant c) ts g us (rigid_constant c) none)) refl

one_reason_of_spines : (frozen : Frozen) (path : List ℕ) (h : LfHead) (ts : Spine) (k : LfHead) (us : Spine) (s : Situation) {reason other : Reason} → SpinesStop s frozen path h ts k us reason →
    SpinesStop s frozen path h ts k us other → reason ≡ other
one_reason_of_spines frozen path h ts k us identical e f = absurd e
one_reason_of_spines frozen path h ts k us alike e f = absurd e
one_reason_of_spines frozen path h ts k us apart e f = e ∙ sym f
one_reason_of_spines frozen path h ts k us (solves_left x) e f = absurd e
one_reason_of_spines frozen path h ts k us (solves_right x) e f = absurd e
one_reason_of_spines frozen path h ts k us unsolved e f = e ∙ sym f

one_reason_of_terms : (frozen : Frozen) (path : List ℕ) (t u : LfTerm) (reason other : Reason) → TermsStop frozen path t u reason → TermsStop frozen path t u other → reason ≡ other
one_reason_of_terms frozen path (lam b) (lam c) reason other e f = absurd e
one_reason_of_terms frozen path (lam b) (at k us) reason other e f = e ∙ sym f
one_reason_of_terms frozen path (at h ts) (lam c) reason other e f = e ∙ sym f
one_reason_of_terms frozen path (at h ts) (at k us) reason other e f = one_reason_of_spines frozen path h ts k us (situation frozen h ts k us) e f

one_reason_of_equations : (frozen : Frozen) (equations : List LfEquation) (reason other : Reason) → EquationsStop frozen equations reason → EquationsStop frozen equations other → reason ≡ other
one_reason_of_equations frozen [] reason other e f = absurd e
one_reason_of_equations frozen (of_atoms path a b ∷ rest) reason other e f = e.1 ∙ sym f.1
one_reason_of_equations frozen (of_terms path t u ∷ rest) reason other e f = one_reason_of_terms frozen path t u reason other e f

pub one_reason : {frozen : Frozen} {state : Unifying} {reason other : Reason} → Stops frozen state reason → Stops frozen state other → reason ≡ other
one_reason {frozen} {state} {reason} {other} first second = one_reason_of_equations frozen state.equations reason other (stop_by_reason first) (stop_by_reason second)

-- A state that goes on does not stop.
module _ (frozen : Frozen) (path : List ℕ) (h : LfHead) (ts : Spine) (k : LfHead) (us : Spine) (rest : List LfEquation) (entries : List LfAssigned) (other : Unifying) (reason : Reason) where
  spines_go_or_stop : (s : Situation) → SpinesGo s path ts us rest entries other → SpinesStop s frozen path h ts k us reason → ⊥
  spines_go_or_stop identical go stop = stop
  spines_go_or_stop alike go stop = stop
  spines_go_or_stop apart go stop = go
  spines_go_or_stop (solves_left e) go stop = stop
  spines_go_or_stop (solves_right e) go stop = stop
  spines_go_or_stop unsolved go stop = go

terms_go_or_stop : (frozen : Frozen) (path : List ℕ) (t u : LfTerm) (rest : List LfEquation) (entries : List LfAssigned) (other : Unifying) (reason : Reason) → TermsGo frozen path t u rest entries other →
    TermsStop frozen path t u reason → ⊥
terms_go_or_stop frozen path (lam b) (lam c) rest entries other reason go stop = stop
terms_go_or_stop frozen path (lam b) (at k us) rest entries other reason go stop = go
terms_go_or_stop frozen path (at h ts) (lam c) rest entries other reason go stop = go
terms_go_or_stop frozen path (at h ts) (at k us) rest entries other reason go stop =
    spines_go_or_stop frozen path h ts k us rest entries other reason (situation frozen h ts k us) go stop

equations_go_or_stop : (frozen : Frozen) (equations : List LfEquation) (entries : List LfAssigned) (other : Unifying) (reason : Reason) → EquationsGo frozen equations entries other → EquationsStop frozen equations reason → ⊥
equations_go_or_stop frozen [] entries other reason go stop = go
equations_go_or_stop frozen (of_atoms path a b ∷ rest) entries other reason go stop = stop.0 go.0
equations_go_or_stop frozen (of_terms path t u ∷ rest) entries other reason go stop = terms_go_or_stop frozen path t u rest entries other reason go stop

pub goes_or_stops : {frozen : Frozen} {state other : Unifying} {reason : Reason} → Step frozen state other → Stops frozen state reason → ⊥
goes_or_stops {frozen} {state} {other} {reason} step stop = equations_go_or_stop frozen state.equations state.assigned other reason (go_by_step step) (stop_by_reason stop)

-- and there is neither where no equation is left
no_step : {frozen : Frozen} {state other : Unifying} → Step frozen state other → state.equations ≡ [] → ⊥
no_step {frozen} {state} {other} step e = subst (λ qs. EquationsGo frozen qs state.assigned other) e (go_by_step step)

no_stop : {frozen : Frozen} {state : Unifying} {reason : Reason} → Stops frozen state reason → state.equations ≡ [] → ⊥
no_stop {frozen} {state} {reason} stop e = subst (λ qs. EquationsStop frozen qs reason) e (stop_by_reason stop)

end_of_none : {frozen : Frozen} {state : Unifying} {last : Ending} → Ends frozen state last → state.equations ≡ [] → last ≡ solved state.assigned
end_of_none ends_solved e = refl
end_of_none (ends_refused stop) e = absurd (no_stop stop e)
end_of_none (ends_later step later) e = absurd (no_step step e)

end_of_stop : {frozen : Frozen} {state : Unifying} {last : Ending} {reason : Reason} → Ends frozen state last → Stops frozen state reason → last ≡ refused reason
end_of_stop ends_solved stop = absurd (no_stop stop refl)
end_of_stop (ends_refused other) stop = ap refused (one_reason other stop)
end_of_stop (ends_later step later) stop = absurd (goes_or_stops step stop)

end_of_step : {frozen : Frozen} {state other : Unifying} {ending last : Ending} → Ends frozen state last → Step frozen state other → (Ends frozen other last → last ≡ ending) → last ≡ ending
end_of_step ends_solved step later = absurd (no_step step refl)
end_of_step (ends_refused stop) step later = absurd (goes_or_stops step stop)
end_of_step {frozen} {last = last} (ends_later other more) step later = later (subst (λ s. Ends frozen s last) (one_step other step) more)

pub one_end : {frozen : Frozen} {state : Unifying} {ending : Ending} → Ends frozen state ending → (last : Ending) → Ends frozen state last → last ≡ ending
one_end ends_solved last other = end_of_none other refl
one_end (ends_refused stop) last other = end_of_stop other stop
one_end (ends_later step later) last other = end_of_step other step (λ more. one_end later last more)
