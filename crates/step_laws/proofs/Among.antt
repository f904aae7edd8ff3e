-- The entries of goals that were there before: what is true of all entries is true of these.
use Rattle.std.proofs.Common.{◌≡◌, ℕ, Bool, true, false, List, [], ◌∷◌, All, AllPairs, refl}
use Rattle.std.specs.Prelude.{nat_eq, not, ◌||◌, if◌then◌else◌, Contains}
use Rattle.std.specs.List.{list_any}
use Rattle.std.proofs.lemmas.Bool.{eqb-true}
use Rattle.std.proofs.lemmas.List.Elements.{All-nil, All-cons, All-head, All-tail}
use Rattle.std.proofs.lemmas.List.Kept.{AllPairs-cons}
use Rattle.head_laws.proofs.Numbers.{AllPairs-head, AllPairs-tail}
use Rattle.lf_definitions.specs.Instantiation.{LfAssigned}
use Rattle.applications.specs.Applications.{entries_among}
use Rattle.application_laws.proofs.Members.{contains_in}

All-entries_among : (P : LfAssigned → Type 0) (ns : List ℕ) (es : List LfAssigned) → All P es → All P (entries_among ns es)
All-entries_among P ns [] all = All-nil P
All-entries_among P ns (e ∷ rest) all = step (list_any (nat_eq e.assigned_goal) ns) (All-entries_among P ns rest (All-tail P e rest all))
  where
    step : (b : Bool) → All P (entries_among ns rest) → All P (if b then e ∷ entries_among ns rest else entries_among ns rest)
    step true later = All-cons P e (entries_among ns rest) (All-head P e rest all) later
    step false later = later

pub AllPairs-entries_among : (R : LfAssigned → LfAssigned → Type 0) (ns : List ℕ) (es : List LfAssigned) → AllPairs R es → AllPairs R (entries_among ns es)
AllPairs-entries_among R ns [] pairs = pairs
AllPairs-entries_among R ns (e ∷ rest) pairs = step (list_any (nat_eq e.assigned_goal) ns) (AllPairs-entries_among R ns rest (AllPairs-tail R e rest pairs))
  where
    step : (b : Bool) → AllPairs R (entries_among ns rest) → AllPairs R (if b then e ∷ entries_among ns rest else entries_among ns rest)
    step true later = AllPairs-cons R e (entries_among ns rest) (All-entries_among (R e) ns rest (AllPairs-head R e rest pairs)) later
    step false later = later

-- Each of them is that of one of the goals.
abbrev pub IsOneOf : List ℕ → LfAssigned → Type 0
IsOneOf ns e = Contains ns e.assigned_goal

pub keys_among : (ns : List ℕ) (es : List LfAssigned) → All (IsOneOf ns) (entries_among ns es)
keys_among ns [] = All-nil (IsOneOf ns)
keys_among ns (e ∷ rest) = step (list_any (nat_eq e.assigned_goal) ns) refl (keys_among ns rest)
  where
    step : (b : Bool) → list_any (nat_eq e.assigned_goal) ns ≡ b → All (IsOneOf ns) (entries_among ns rest) → All (IsOneOf ns) (if b then e ∷ entries_among ns rest else entries_among ns rest)
    step true is later = All-cons (IsOneOf ns) e (entries_among ns rest) (contains_in e.assigned_goal ns is) later
    step false is later = later

-- Where no entry is found to be another goal's, each is this goal's.
abbrev pub IsOf : ℕ → LfAssigned → Type 0
IsOf id e = e.assigned_goal ≡ id

pub none_other : (id : ℕ) (es : List LfAssigned) → list_any (λ e. not (nat_eq e.assigned_goal id)) es ≡ false → All (IsOf id) es
none_other id [] none = All-nil (IsOf id)
none_other id (e ∷ rest) none = step (nat_eq e.assigned_goal id) refl none (λ later. none_other id rest later)
  where
    step : (b : Bool) → nat_eq e.assigned_goal id ≡ b → not b || list_any (λ e. not (nat_eq e.assigned_goal id)) rest ≡ false →
        (list_any (λ e. not (nat_eq e.assigned_goal id)) rest ≡ false → All (IsOf id) rest) → All (IsOf id) (e ∷ rest)
    step true same f later = All-cons (IsOf id) e rest (eqb-true e.assigned_goal id same) (later f)
    step false same f later = absurd cc
