-- Numbers in lists by truth values, and the tests of a term's variables.
use Rattle.std.proofs.Common.{◌≡◌, ℕ, zero, suc, ◌<◌, ◌⊎◌, inl, inr, true, false, not, ◌&&◌, ◌||◌, List, [], ◌∷◌, ◌++◌, map, length, Contains, refl, sym, ap, ◌∙◌, subst, arith}
use Rattle.std.specs.Prelude.{nat_eq}
use Rattle.std.specs.Prelude.{slice_index_or as get_or}
use Rattle.std.proofs.lemmas.Bool.{eqb-true, eq-eqb, ne_eqb, or_cases, or_left, or_right, and_parts, and_from, not_from_false, not-true}
use Rattle.lf_definitions.specs.Syntax.{LfHead, bound, constant, metavariable, LfTerm, lam, at, Spine, no_args, arg}
use Rattle.lf_definitions.specs.Renaming.{next}
use Rattle.lf_definitions.specs.Occurrence.{OccursIn, occurs_head, occurs_args, occurs_lam, OccursInSpine, occurs_first, occurs_later, IsRigid, rigid_bound, rigid_constant, OccursRigidly, rigidly_head, rigidly_args, rigidly_lam, OccursRigidlyInSpine, rigidly_first, rigidly_later}
use Rattle.head_laws.specs.Mentions.{is_rigid}
use Rattle.head_laws.proofs.Numbers.{Contains-here, Contains-later, nat_eq-map}
use Rattle.unification.specs.Patterns.{has_number, under_binder, is_among, is_over, is_over_spine, escapes_from, spine_escapes_from}

pub nat_eq-same : (n : ℕ) → nat_eq n n ≡ true
nat_eq-same n = eq-eqb n n refl

pub has_number-here : (n : ℕ) (rest : List ℕ) → has_number (n ∷ rest) n ≡ true
has_number-here n rest = or_left (nat_eq n n) (has_number rest n) (nat_eq-same n)

pub has_number-later : (m : ℕ) (rest : List ℕ) (n : ℕ) → has_number rest n ≡ true → has_number (m ∷ rest) n ≡ true
has_number-later m rest n e = or_right (nat_eq m n) (has_number rest n) e

pub has_number-append_left : (xs ys : List ℕ) (n : ℕ) → has_number xs n ≡ true → has_number (xs ++ ys) n ≡ true
has_number-append_left [] ys n e = absurd cc
has_number-append_left (m ∷ xs) ys n e = either (or_cases (nat_eq m n) (has_number xs n) e) (λ f. has_number-append_left xs ys n f)
  where
    either : (nat_eq m n ≡ true) ⊎ (has_number xs n ≡ true) → (has_number xs n ≡ true → has_number (xs ++ ys) n ≡ true) → has_number (m ∷ xs ++ ys) n ≡ true
    either (inl f) later = or_left (nat_eq m n) (has_number (xs ++ ys) n) f
    either (inr f) later = or_right (nat_eq m n) (has_number (xs ++ ys) n) (later f)

pub has_number-append_right : (xs ys : List ℕ) (n : ℕ) → has_number ys n ≡ true → has_number (xs ++ ys) n ≡ true
has_number-append_right [] ys n e = e
has_number-append_right (m ∷ xs) ys n e = or_right (nat_eq m n) (has_number (xs ++ ys) n) (has_number-append_right xs ys n e)

pub Contains-true : (ns : List ℕ) (n : ℕ) → has_number ns n ≡ true → Contains ns n
Contains-true [] n e = absurd cc
Contains-true (m ∷ rest) n e = either (or_cases (nat_eq m n) (has_number rest n) e) (λ f. Contains-true rest n f)
  where
    either : (nat_eq m n ≡ true) ⊎ (has_number rest n ≡ true) → (has_number rest n ≡ true → Contains rest n) → Contains (m ∷ rest) n
    either (inl f) later = subst (λ k. Contains (k ∷ rest) n) (sym (eqb-true m n f)) (Contains-here n rest)
    either (inr f) later = Contains-later m rest n (later f)

pub has_number-from : (ns : List ℕ) (n : ℕ) → Contains ns n → has_number ns n ≡ true
has_number-from [] n has = let less = has.1 in absurd (omega arith)
has_number-from (m ∷ rest) n has = each has.0 has.1 has.2 (λ there. has_number-from rest n there)
  where
    each : (i : ℕ) → i < suc (length rest) → get_or (m ∷ rest) i n ≡ n → (Contains rest n → has_number rest n ≡ true) → has_number (m ∷ rest) n ≡ true
    each zero less same later = or_left (nat_eq m n) (has_number rest n) (eq-eqb m n same)
    each (suc i) less same later = or_right (nat_eq m n) (has_number rest n) (later (i, omega arith, same))

suc_inj : (n m : ℕ) → suc n ≡ suc m → n ≡ m
suc_inj n m e = omega arith

has_number-map_suc : (ns : List ℕ) (n : ℕ) → has_number (map suc ns) (suc n) ≡ has_number ns n
has_number-map_suc [] n = refl
has_number-map_suc (m ∷ rest) n = ap (λ b. b || has_number (map suc rest) (suc n)) (nat_eq-map suc suc_inj m n) ∙ ap (λ b. nat_eq m n || b) (has_number-map_suc rest n)

has_number-under_binder : (ns : List ℕ) (n : ℕ) → has_number (under_binder ns) (suc n) ≡ has_number ns n
has_number-under_binder ns n =
    let differ : nat_eq zero (suc n) ≡ false = ne_eqb zero (suc n) (λ q. omega arith) in
    ap (λ b. b || has_number (map suc ns) (suc n)) differ ∙ has_number-map_suc ns n

-- A binder makes no difference to what is among the variables.
pub is_among-next : (ns : List ℕ) (h : LfHead) → is_among (under_binder ns) (next h) ≡ is_among ns h
is_among-next ns (bound n) = has_number-under_binder ns n
is_among-next ns (constant c) = refl
is_among-next ns (metavariable g) = refl

mutual
  -- Each head that occurs in a term over variables is among them, if it is a variable.
  pub over_term : (t : LfTerm) (ns : List ℕ) → is_over ns t ≡ true → (h : LfHead) → OccursIn h t → is_among ns h ≡ true
  over_term (lam b) ns e h (occurs_lam _ _ o) = sym (is_among-next ns h) ∙ over_term b (under_binder ns) e (next h) o
  over_term (at k ts) ns e h (occurs_head _ _) = (and_parts (is_among ns k) (is_over_spine ns ts) e).0
  over_term (at k ts) ns e h (occurs_args _ _ _ o) = over_spine ts ns (and_parts (is_among ns k) (is_over_spine ns ts) e).1 h o

  pub over_spine : (ts : Spine) (ns : List ℕ) → is_over_spine ns ts ≡ true → (h : LfHead) → OccursInSpine h ts → is_among ns h ≡ true
  over_spine no_args ns e h o = elim o [ ]
  over_spine (arg t ts) ns e h (occurs_first _ _ _ o) = over_term t ns (and_parts (is_over ns t) (is_over_spine ns ts) e).0 h o
  over_spine (arg t ts) ns e h (occurs_later _ _ _ o) = over_spine ts ns (and_parts (is_over ns t) (is_over_spine ns ts) e).1 h o

-- what is known of the variables that occur, under a binder
among_under : (b : LfTerm) (ns : List ℕ) → ((n : ℕ) → OccursIn (bound n) (lam b) → has_number ns n ≡ true) → (n : ℕ) → OccursIn (bound n) b → has_number (under_binder ns) n ≡ true
among_under b ns each zero o = refl
among_under b ns each (suc n) o = has_number-under_binder ns n ∙ each n (occurs_lam (bound n) b o)

among_head : (ns : List ℕ) (h : LfHead) (ts : Spine) → ((n : ℕ) → OccursIn (bound n) (at h ts) → has_number ns n ≡ true) → is_among ns h ≡ true
among_head ns (bound n) ts each = each n (occurs_head (bound n) ts)
among_head ns (constant c) ts each = refl
among_head ns (metavariable g) ts each = refl

mutual
  pub is_over-from : (t : LfTerm) (ns : List ℕ) → ((n : ℕ) → OccursIn (bound n) t → has_number ns n ≡ true) → is_over ns t ≡ true
  is_over-from (lam b) ns each = is_over-from b (under_binder ns) (among_under b ns each)
  is_over-from (at h ts) ns each =
      and_from (is_among ns h) (is_over_spine ns ts) (among_head ns h ts each) (is_over_spine-from ts ns (λ n o. each n (occurs_args (bound n) h ts o)))

  is_over_spine-from : (ts : Spine) (ns : List ℕ) → ((n : ℕ) → OccursInSpine (bound n) ts → has_number ns n ≡ true) → is_over_spine ns ts ≡ true
  is_over_spine-from no_args ns each = refl
  is_over_spine-from (arg t ts) ns each =
      and_from (is_over ns t) (is_over_spine ns ts) (is_over-from t ns (λ n o. each n (occurs_first (bound n) t ts o)))
      (is_over_spine-from ts ns (λ n o. each n (occurs_later (bound n) t ts o)))

-- a variable that occurs outside all arguments of metavariables and is none of these
abbrev pub EscapesIn : (LfHead → Type 0) → List ℕ → Type 0
EscapesIn P ns = (n : ℕ) × P (bound n) × (has_number ns n ≡ false)

escapes_under : (b : LfTerm) (ns : List ℕ) → EscapesIn (λ h. OccursRigidly h b) (under_binder ns) → EscapesIn (λ h. OccursRigidly h (lam b)) ns
escapes_under b ns escape = each escape.0 escape.1 escape.2
  where
    each : (m : ℕ) → OccursRigidly (bound m) b → has_number (under_binder ns) m ≡ false → EscapesIn (λ h. OccursRigidly h (lam b)) ns
    each zero o e = absurd cc
    each (suc n) o e = (n, rigidly_lam (bound n) b o, sym (has_number-under_binder ns n) ∙ e)

escapes_head : (ns : List ℕ) (h : LfHead) (ts : Spine) → not (is_among ns h) ≡ true → EscapesIn (λ k. OccursRigidly k (at h ts)) ns
escapes_head ns (bound n) ts e = (n, rigidly_head (bound n) ts, not-true (has_number ns n) e)
escapes_head ns (constant c) ts e = absurd cc
escapes_head ns (metavariable g) ts e = absurd cc

pub IsRigid-is_rigid : (h : LfHead) → is_rigid h ≡ true → IsRigid h
IsRigid-is_rigid (bound n) e = rigid_bound n
IsRigid-is_rigid (constant c) e = rigid_constant c
IsRigid-is_rigid (metavariable g) e = absurd cc

pub is_rigid-IsRigid : {h : LfHead} → IsRigid h → is_rigid h ≡ true
is_rigid-IsRigid (rigid_bound n) = refl
is_rigid-IsRigid (rigid_constant c) = refl

mutual
  pub escapes-true : (t : LfTerm) (ns : List ℕ) → escapes_from ns t ≡ true → EscapesIn (λ h. OccursRigidly h t) ns
  escapes-true (lam b) ns e = escapes_under b ns (escapes-true b (under_binder ns) e)
  escapes-true (at h ts) ns e = either (or_cases (not (is_among ns h)) (is_rigid h && spine_escapes_from ns ts) e) (λ f. spine_escapes-true ts ns f)
    where
      either : (not (is_among ns h) ≡ true) ⊎ ((is_rigid h && spine_escapes_from ns ts) ≡ true) → (spine_escapes_from ns ts ≡ true → EscapesIn (λ k. OccursRigidlyInSpine k ts) ns) →
          EscapesIn (λ k. OccursRigidly k (at h ts)) ns
      either (inl f) later = escapes_head ns h ts f
      either (inr f) later =
          let both = and_parts (is_rigid h) (spine_escapes_from ns ts) f in
          let escape = later both.1 in
          (escape.0, rigidly_args (bound escape.0) h ts (IsRigid-is_rigid h both.0) escape.1, escape.2)

  spine_escapes-true : (ts : Spine) (ns : List ℕ) → spine_escapes_from ns ts ≡ true → EscapesIn (λ h. OccursRigidlyInSpine h ts) ns
  spine_escapes-true no_args ns e = absurd cc
  spine_escapes-true (arg t ts) ns e = either (or_cases (escapes_from ns t) (spine_escapes_from ns ts) e) (λ f. escapes-true t ns f) (λ f. spine_escapes-true ts ns f)
    where
      either : (escapes_from ns t ≡ true) ⊎ (spine_escapes_from ns ts ≡ true) → (escapes_from ns t ≡ true → EscapesIn (λ h. OccursRigidly h t) ns) →
          (spine_escapes_from ns ts ≡ true → EscapesIn (λ h. OccursRigidlyInSpine h ts) ns) → EscapesIn (λ h. OccursRigidlyInSpine h (arg t ts)) ns
      either (inl f) now later = let escape = now f in (escape.0, rigidly_first (bound escape.0) t ts escape.1, escape.2)
      either (inr f) now later = let escape = later f in (escape.0, rigidly_later (bound escape.0) t ts escape.1, escape.2)

mutual
  pub escapes_from-rigid : {h : LfHead} {t : LfTerm} → OccursRigidly h t → (ns : List ℕ) → is_among ns h ≡ false → escapes_from ns t ≡ true
  escapes_from-rigid (rigidly_head h ts) ns e = or_left (not (is_among ns h)) (is_rigid h && spine_escapes_from ns ts) (not_from_false (is_among ns h) e)
  escapes_from-rigid (rigidly_args h k ts rigid o) ns e =
      or_right (not (is_among ns k)) (is_rigid k && spine_escapes_from ns ts) (and_from (is_rigid k) (spine_escapes_from ns ts) (is_rigid-IsRigid rigid) (spine_escapes_from-rigid o ns e))
  escapes_from-rigid (rigidly_lam h b o) ns e = escapes_from-rigid o (under_binder ns) (is_among-next ns h ∙ e)

  spine_escapes_from-rigid : {h : LfHead} {ts : Spine} → OccursRigidlyInSpine h ts → (ns : List ℕ) → is_among ns h ≡ false → spine_escapes_from ns ts ≡ true
  spine_escapes_from-rigid (rigidly_first h t ts o) ns e = or_left (escapes_from ns t) (spine_escapes_from ns ts) (escapes_from-rigid o ns e)
  spine_escapes_from-rigid (rigidly_later h t ts o) ns e = or_right (escapes_from ns t) (spine_escapes_from ns ts) (spine_escapes_from-rigid o ns e)
