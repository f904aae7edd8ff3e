-- The kept entries of a context, one after another.
use Rattle.std.proofs.Common.{◌≡◌, ℕ, suc, ◌+◌, ◌<◌, ◌≤◌, Bool, List, [], ◌∷◌, ◌++◌, length, get_or, drop, refl, sym, ap, ◌∙◌, subst, subst₂, arith, add-one}
use Rattle.std.proofs.lemmas.List.{drop_all, append_assoc, append-nil}
use Rattle.std.specs.Prelude.{slice_index}
use Rattle.lf_definitions.specs.Syntax.{LfType, Context}
use Rattle.lf_definitions.specs.Renaming.{rename_type}
use Rattle.lf_terms.specs.declared.ty.Ty.{Ty}
use Rattle.lf_terms.specs.Types.{type_of, types_of}
use Rattle.lf_terms.proofs.TypeLists.{types_of-drop, length-types_of}
use Rattle.opening_laws.specs.Openings.{is_kept, AreKept, kept_nothing, kept_entry, dropped_entry, returning}
use Rattle.opening_laws.proofs.Kept.{returning_type}
use Rattle.opening_laws.proofs.AllKept.{all_may_be_kept}
use Rattle.meta_openings.specs.Counts.{kept_before, by_counts}
use Rattle.meta_openings.specs.Tables.{one_if}
use Rattle.meta_openings.proofs.Counts.{Counted, by_counts-type, keeps_all}

-- what is left after an entry
abbrev AfterEntry : List ℕ → ℕ → LfType → Context → Context → Bool → Type 0
AfterEntry kept place a ctx rest mark = (later : Context) × AreKept kept (suc place) ctx later × (rest ≡ one_if mark (rename_type (returning kept place) a) ++ later)

after_entry : {kept : List ℕ} {place : ℕ} {a : LfType} {ctx rest : Context} → AreKept kept place (a ∷ ctx) rest → (mark : Bool) → mark ≡ is_kept kept place → AfterEntry kept place a ctx rest mark
after_entry {kept} (kept_entry {place = place} {a = a} {b = b} {entries = entries} is e more) mark mark_is =
    let back : b ≡ rename_type (returning kept place) a = sym (returning_type kept place b) ∙ ap (rename_type (returning kept place)) e in
    (entries, more, ap (λ c. c ∷ entries) back ∙ ap (λ m. one_if m (rename_type (returning kept place) a) ++ entries) (sym (mark_is ∙ is)))
after_entry {kept} (dropped_entry {place = place} {a = a} {entries = entries} is more) mark mark_is =
    (entries, more, ap (λ m. one_if m (rename_type (returning kept place) a) ++ entries) (sym (mark_is ∙ is)))

nothing_left : {kept : List ℕ} {place : ℕ} {rest : Context} → AreKept kept place [] rest → rest ≡ []
nothing_left kept_nothing = refl

-- Up to a place the kept entries are these, whatever comes after.
pub record EntriesUpTo (kept : List ℕ) (types : List Ty) (place : ℕ) (done : List Ty) : Type 0 where
  pub rest : Context
  pub left : AreKept kept place (types_of (drop place types)) rest
  pub whole : AreKept kept 0 (types_of types) (types_of done ++ rest)

pub entries_begin : (kept : List ℕ) (types : List Ty) (ctx entries : Context) → types_of types ≡ ctx → AreKept kept 0 ctx entries → EntriesUpTo kept types 0 []
entries_begin kept types ctx entries are kept_so =
    let there = subst (λ c. AreKept kept 0 c entries) (sym are) kept_so in
    record { rest = entries; left = there; whole = there }

pub entries_more : (kept before : List ℕ) (types : List Ty) (place : ℕ) (x : Ty) (old new : List Ty) (mark : Bool) → place < length types → x ≡ get_or types place x → Counted kept place before →
    mark ≡ is_kept kept place → types_of new ≡ types_of old ++ one_if mark (rename_type (by_counts before place) (type_of x)) → EntriesUpTo kept types place old → EntriesUpTo kept types (place + 1) new
entries_more kept before types place x old new mark within is counted mark_is added upto =
    let after = after_entry (subst (λ c. AreKept kept place c upto.rest) (types_of-drop types place x within is) upto.left) mark mark_is in
    let one = one_if mark (rename_type (returning kept place) (type_of x)) in
    let added_so : types_of new ≡ types_of old ++ one = added ∙ ap (λ a. types_of old ++ one_if mark a) (by_counts-type kept before place counted (type_of x)) in
    let same : types_of old ++ upto.rest ≡ types_of new ++ after.0 = ap (λ r. types_of old ++ r) after.2 ∙ sym (append_assoc (types_of old) one after.0) ∙ ap (λ l. l ++ after.0) (sym added_so) in
    record {
      rest = after.0;
      left = subst (λ k. AreKept kept k (types_of (drop k types)) after.0) (sym (add-one place)) after.1;
      whole = subst (AreKept kept 0 (types_of types)) same upto.whole;
    }

pub entries_end : (kept : List ℕ) (types : List Ty) (place : ℕ) (done : List Ty) (ctx made : Context) → length types ≤ place → types_of types ≡ ctx → made ≡ types_of done → EntriesUpTo kept types place done → AreKept kept 0 ctx made
entries_end kept types place done ctx made all are made_is upto =
    let none : upto.rest ≡ [] = nothing_left (subst (λ xs. AreKept kept place (types_of xs) upto.rest) (drop_all place types all) upto.left) in
    subst₂ (AreKept kept 0) are (ap (λ r. types_of done ++ r) none ∙ append-nil (types_of done) ∙ sym made_is) upto.whole

-- where as many are kept as there are
pub all_entries : (kept before : List ℕ) (types : List Ty) (ctx copy : Context) → Counted kept (length ctx) before → types_of types ≡ ctx → slice_index before (length types) ≡ length types → copy ≡ ctx → AreKept kept 0 ctx copy
all_entries kept before types ctx copy counted are full same =
    let counts : length types ≡ length ctx = sym (length-types_of types) ∙ ap length are in
    let all : kept_before kept (length ctx) ≡ length ctx = sym (counted (length ctx) (omega arith)) ∙ ap (slice_index before) (sym counts) ∙ full ∙ counts in
    subst (AreKept kept 0 ctx) (sym same) (all_may_be_kept ctx kept (keeps_all kept (length ctx) all)).1
