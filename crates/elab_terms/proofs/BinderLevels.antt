-- Binders with the levels of their names: what is kept as binders come and go.
use Rattle.std.proofs.Common.{◌≡◌, ℕ, suc, ◌-◌, ◌<◌, ◌^◌, Bool, true, false, cond, List, [], ◌∷◌, ◌++◌, length, map, get_or, set, Option, Some, None, option_map, refl, sym, ap, ap₂, ◌∙◌, subst, arith, ⊎_elim, inl, inr, length-append}
use Rattle.std.specs.Prelude.{◌≢◌, Result, Ok, Err, OnErr}
use Rattle.std.specs.Str.{bytes_eq}
use Rattle.std.proofs.lemmas.Bool.{cases_Bool, cases_eq}
use Rattle.std.proofs.lemmas.List.{map-append, get_or_append_left, get_or_at, get_or-set_same, get_or-set_other, length-set, length-map, get_or_read}
use Rattle.std.proofs.lemmas.Option.{slice_get_within}
use Rattle.std.proofs.lemmas.Slice.Eq.{bytes_eq-Decides}
use Rattle.lf_definitions.proofs.Lists.{slice_get-prefix}
use Rattle.basics.specs.Places.{place_of}
use Rattle.basics.proofs.NamePlaces.{place_found}
use Rattle.elab_terms.specs.Names.{Bound, variable_of}
use Rattle.elab_terms.specs.Binding.{bound_from, name_of, bound_of, level_of, KeepsOuter, KeepsOuterIf, KeepOuter, IsIndexed, AddsName, name_occurred, name_is_new}
use Rattle.elab_terms.specs.declared.bound_names.Named.{Named}
use Rattle.elab_terms.proofs.BinderNames.{bound_from-push, count_bound}
use Rattle.elab_terms.proofs.GrowingNames.{place_stays, place_before, place_one}

level_here : (name : List ℕ) (outer : Bound) → level_of (Some name ∷ outer) name ≡ Some (length outer)
level_here name outer = ap (λ b. cond b (Some (length outer)) (level_of outer name)) ((bytes_eq-Decides name name).1 refl)

level_not_here : (name binder : List ℕ) (outer : Bound) → name ≢ binder → level_of (Some binder ∷ outer) name ≡ level_of outer name
level_not_here name binder outer other =
    ⊎_elim (λ same. absurd (other ((bytes_eq-Decides name binder).0 same))) (λ differ. ap (λ b. cond b (Some (length outer)) (level_of outer name)) differ) (cases_Bool (bytes_eq name binder))

-- A level is one of a binder.
pub level_within : (bound : Bound) (name : List ℕ) (level : ℕ) → level_of bound name ≡ Some level → level < length bound
level_within [] name level e = absurd cc
level_within (None ∷ outer) name level e = let within = level_within outer name level e in omega (arith, within)
level_within (Some binder ∷ outer) name level e = by (bytes_eq name binder) (level_of outer name) (level_within outer name level) e
  where
    by : (b : Bool) (later : Option ℕ) → (later ≡ Some level → level < length outer) → cond b (Some (length outer)) later ≡ Some level → level < suc (length outer)
    by true later within e = let same : length outer ≡ level = cc in omega (arith, same)
    by false later within e = let less = within e in omega (arith, less)

-- so many binders stand further in than a level
abbrev pub variable_at : ℕ → Option ℕ → Option ℕ
variable_at count level = option_map (λ n. count - 1 - n) level

further_in : (count : ℕ) (level : Option ℕ) → ((n : ℕ) → level ≡ Some n → n < count) → option_map suc (variable_at count level) ≡ variable_at (suc count) level
further_in count None within = refl
further_in count (Some n) within = let less = within n refl in ap Some (omega (arith, less))

pub variable_is : (bound : Bound) (name : List ℕ) → variable_of bound name ≡ variable_at (length bound) (level_of bound name)
variable_is [] name = refl
variable_is (None ∷ outer) name = ap (option_map suc) (variable_is outer name) ∙ further_in (length outer) (level_of outer name) (level_within outer name)
variable_is (Some binder ∷ outer) name =
    by (bytes_eq name binder) (variable_of outer name) (level_of outer name) (ap (option_map suc) (variable_is outer name) ∙ further_in (length outer) (level_of outer name) (level_within outer name))
  where
    by : (b : Bool) (found level : Option ℕ) → option_map suc found ≡ variable_at (suc (length outer)) level →
        cond b (Some 0) (option_map suc found) ≡ variable_at (suc (length outer)) (cond b (Some (length outer)) level)
    by true found level is = ap Some (omega arith)
    by false found level is = is

pub bound_count : (names : List (List ℕ)) (binders : List (Option Named)) → length (bound_of names binders) ≡ length binders
bound_count names binders = count_bound (map (name_of names) binders) ∙ length-map binders (name_of names)

module _ (names : List (List ℕ)) where
  -- the binders with one more, and inside which it stands
  pub bound_more : (binders : List (Option Named)) (binder : Option Named) → bound_of names (binders ++ binder ∷ []) ≡ name_of names binder ∷ bound_of names binders
  bound_more binders binder =
      ap (λ l. bound_from l []) (map-append (name_of names) binders (binder ∷ [])) ∙ bound_from-push (map (name_of names) binders) (name_of names binder) []

  outer_more : (binders : List (Option Named)) (binder : Option Named) (outside : Bound) → KeepOuter names outside binders →
      KeepsOuterIf names (bound_from (map (name_of names) binders) outside) binder → KeepOuter names outside (binders ++ binder ∷ [])
  outer_more [] binder outside before last = (last, tt)
  outer_more (b ∷ binders) binder outside before last = (before.0, outer_more binders binder (name_of names b ∷ outside) before.1 last)

  outer_less : (binders : List (Option Named)) (binder : Option Named) (outside : Bound) → KeepOuter names outside (binders ++ binder ∷ []) →
      KeepOuter names outside binders × KeepsOuterIf names (bound_from (map (name_of names) binders) outside) binder
  outer_less [] binder outside all = (tt, all.0)
  outer_less (b ∷ binders) binder outside all = let later = outer_less binders binder (name_of names b ∷ outside) all.1 in ((all.0, later.0), later.1)

  named_is : (outside : Bound) (binder : Named) (keeps : KeepsOuter names outside binder) → name_of names (Some binder) ≡ Some keeps.name
  named_is outside binder keeps = place_found keeps.name names binder.name keeps.name_is

  -- A name that did not occur has no level.
  unnamed : (name : List ℕ) → place_of names name ≡ None → (binders : List (Option Named)) (outside : Bound) → KeepOuter names outside binders → level_of outside name ≡ None →
      level_of (bound_from (map (name_of names) binders) outside) name ≡ None
  unnamed name absent [] outside keep none = none
  unnamed name absent (None ∷ binders) outside keep none = unnamed name absent binders (None ∷ outside) keep.1 none
  unnamed name absent (Some b ∷ binders) outside keep none =
      unnamed name absent binders (name_of names (Some b) ∷ outside) keep.1
      (ap (λ n. level_of (n ∷ outside) name) (named_is outside b keep.0) ∙ level_not_here name keep.0.name outside (λ same. apart (sym absent ∙ ap (place_of names) same ∙ keep.0.name_is)) ∙ none)
    where
      apart : {m : ℕ} → ◌≡◌ {A = Option ℕ} None (Some m) → ⊥
      apart e = cc

  module _ (levels : List (Option ℕ)) (binders : List (Option Named)) (is : IsIndexed names levels binders) where
    -- What the look-up of a name finds.
    pub absent_name : (name : List ℕ) → place_of names name ≡ None → variable_of (bound_of names binders) name ≡ None
    absent_name name absent = variable_is (bound_of names binders) name ∙ ap (variable_at (length (bound_of names binders))) (unnamed name absent binders [] is.outer_kept refl)

    pub level_place : (name : List ℕ) (place : ℕ) → place_of names name ≡ Some place → place < length levels
    level_place name place e = let within = slice_get_within names place name (place_found name names place e) in omega (arith, within, is.count)

    pub level_read : (name : List ℕ) (place : ℕ) (level : Option ℕ) → place_of names name ≡ Some place → level ≡ get_or levels place level →
        level ≡ level_of (bound_of names binders) name
    level_read name place level e read = get_or_read levels place level (level_place name place e) read None ∙ is.levels_are name place e

    pub named_variable : (name : List ℕ) (place : ℕ) (level : Option ℕ) → place_of names name ≡ Some place → level ≡ get_or levels place level →
        variable_of (bound_of names binders) name ≡ variable_at (length (bound_of names binders)) level
    named_variable name place level e read = variable_is (bound_of names binders) name ∙ ap (variable_at (length (bound_of names binders))) (sym (level_read name place level e read))

    -- One binder more, without a name.
    pub pushed_none : length binders < 2 ^ 32 - 1 → IsIndexed names levels (binders ++ None ∷ [])
    pushed_none room = record {
      few = omega (arith, room, length-append binders (None ∷ []));
      count = is.count;
      levels_are = λ name place e. is.levels_are name place e ∙ ap (λ b. level_of b name) (sym (bound_more binders None));
      outer_kept = outer_more binders None [] is.outer_kept tt;
    }

  -- The level of one name is changed.
  level_set : (levels : List (Option ℕ)) (old new : Bound) (name : List ℕ) (place : ℕ) (level : Option ℕ) → length levels ≡ length names → place_of names name ≡ Some place →
      ((other : List ℕ) (p : ℕ) → place_of names other ≡ Some p → get_or levels p None ≡ level_of old other) → ((other : List ℕ) → other ≢ name → level_of old other ≡ level_of new other) →
      level ≡ level_of new name → (other : List ℕ) (p : ℕ) → place_of names other ≡ Some p → get_or (set levels place level) p None ≡ level_of new other
  level_set levels old new name place level count here are others is other p there =
      elim (cases_eq p place) [
        | inl same ↦
            let within = slice_get_within names place name (place_found name names place here) in
            let one : other ≡ name = place_one names other name place (there ∙ ap Some same) here in
            ap (λ q. get_or (set levels place level) q None) same ∙ get_or-set_same levels place level None (omega (arith, within, count)) ∙ is ∙ ap (level_of new) (sym one)
        | inr differ ↦
            get_or-set_other levels place p level None differ ∙ are other p there ∙ others other (λ one. differ (inj (sym there ∙ ap (place_of names) one ∙ here)))
      ]
    where
      inj : {m n : ℕ} → ◌≡◌ {A = Option ℕ} (Some m) (Some n) → m ≡ n
      inj e = cc

  module _ (levels : List (Option ℕ)) (binders : List (Option Named)) (is : IsIndexed names levels binders) (name : List ℕ) (place : ℕ) (here : place_of names name ≡ Some place)
      (outer : Option ℕ) (read : outer ≡ get_or levels place outer) where
    abbrev pub one_more : List (Option Named)
    one_more = binders ++ Some (record { name = place; outer = outer }) ∷ []

    pub named_more : bound_of names one_more ≡ Some name ∷ bound_of names binders
    named_more = bound_more binders (Some (record { name = place; outer = outer })) ∙ ap (λ n. n ∷ bound_of names binders) (place_found name names place here)

    -- One binder more, with a name.
    pub pushed_named : length binders < 2 ^ 32 - 1 → (level : ℕ) → level ≡ length (bound_of names binders) → IsIndexed names (set levels place (Some level)) one_more
    pushed_named room level level_is = record {
      few = omega (arith, room, length-append binders (Some (record { name = place; outer = outer }) ∷ []));
      count = length-set levels place (Some level) ∙ is.count;
      levels_are = level_set levels (bound_of names binders) (bound_of names one_more) name place (Some level) is.count here is.levels_are
          (λ other differ. sym (ap (λ b. level_of b other) named_more ∙ level_not_here other name (bound_of names binders) differ))
          (ap Some level_is ∙ sym (ap (λ b. level_of b name) named_more ∙ level_here name (bound_of names binders)));
      outer_kept = outer_more binders (Some (record { name = place; outer = outer })) [] is.outer_kept
          (record { name = name; name_is = here; outer_is = level_read levels binders is name place outer here read });
    }

  pub popped_bound : (binders all : List (Option Named)) (binder : Option Named) (name : Option (List ℕ)) (outside : Bound) → all ≡ binders ++ binder ∷ [] →
      bound_of names all ≡ name ∷ outside → bound_of names binders ≡ outside
  popped_bound binders all binder name outside parts e = tails (sym (ap (bound_of names) parts ∙ bound_more binders binder) ∙ e)
    where
      tails : {a b : Option (List ℕ)} {xs ys : Bound} → ◌≡◌ {A = Bound} (a ∷ xs) (b ∷ ys) → xs ≡ ys
      tails e = cc

  -- One binder fewer.
  module _ (levels : List (Option ℕ)) (binders all : List (Option Named)) (is : IsIndexed names levels all) where
    pub popped_none : all ≡ binders ++ None ∷ [] → IsIndexed names levels binders
    popped_none parts = record {
      few = omega (arith, is.few, ap length parts, length-append binders (None ∷ []));
      count = is.count;
      levels_are = λ name place e. is.levels_are name place e ∙ ap (λ b. level_of b name) (ap (bound_of names) parts ∙ bound_more binders None);
      outer_kept = (outer_less binders None [] (subst (KeepOuter names []) parts is.outer_kept)).0;
    }

    module _ (binder : Named) (parts : all ≡ binders ++ Some binder ∷ []) where
      last_kept : KeepsOuter names (bound_of names binders) binder
      last_kept = (outer_less binders (Some binder) [] (subst (KeepOuter names []) parts is.outer_kept)).1

      whole : bound_of names all ≡ Some last_kept.name ∷ bound_of names binders
      whole = ap (bound_of names) parts ∙ bound_more binders (Some binder) ∙ ap (λ n. n ∷ bound_of names binders) (named_is (bound_of names binders) binder last_kept)

      pub popped_place : binder.name < length levels
      popped_place = level_place levels all is last_kept.name binder.name last_kept.name_is

      pub popped_named : IsIndexed names (set levels binder.name binder.outer) binders
      popped_named = record {
        few = omega (arith, is.few, ap length parts, length-append binders (Some binder ∷ []));
        count = length-set levels binder.name binder.outer ∙ is.count;
        levels_are = level_set levels (bound_of names all) (bound_of names binders) last_kept.name binder.name binder.outer is.count last_kept.name_is is.levels_are
            (λ other differ. ap (λ b. level_of b other) whole ∙ level_not_here other last_kept.name (bound_of names binders) differ) last_kept.outer_is;
        outer_kept = (outer_less binders (Some binder) [] (subst (KeepOuter names []) parts is.outer_kept)).0;
      }

-- A name more is no binder's.
module _ (names : List (List ℕ)) (new : List ℕ) where
  abbrev longer : List (List ℕ)
  longer = names ++ new ∷ []

  name_stays : (outside : Bound) (binder : Option Named) → KeepsOuterIf names outside binder → name_of longer binder ≡ name_of names binder
  name_stays outside None keeps = refl
  name_stays outside (Some binder) keeps =
      let here = place_found keeps.name names binder.name keeps.name_is in slice_get-prefix names (new ∷ []) binder.name keeps.name here ∙ sym here

  keeps_still : (outside : Bound) (binder : Option Named) → KeepsOuterIf names outside binder → KeepsOuterIf longer outside binder
  keeps_still outside None keeps = tt
  keeps_still outside (Some binder) keeps =
      record { name = keeps.name; name_is = place_stays names (new ∷ []) keeps.name binder.name keeps.name_is; outer_is = keeps.outer_is }

  all_stay : (binders : List (Option Named)) (outside : Bound) → KeepOuter names outside binders → map (name_of longer) binders ≡ map (name_of names) binders
  all_stay [] outside keep = refl
  all_stay (b ∷ binders) outside keep = ap₂ (λ n l. n ∷ l) (name_stays outside b keep.0) (all_stay binders (name_of names b ∷ outside) keep.1)

  keep_still : (binders : List (Option Named)) (outside : Bound) → KeepOuter names outside binders → KeepOuter longer outside binders
  keep_still [] outside keep = tt
  keep_still (b ∷ binders) outside keep =
      let P : Option (List ℕ) → Type 0 = λ n. KeepOuter longer (n ∷ outside) binders in
      (keeps_still outside b keep.0, subst P (sym (name_stays outside b keep.0)) (keep_still binders (name_of names b ∷ outside) keep.1))

  -- It has no level.
  level_new : (levels : List (Option ℕ)) (bound : Bound) → length levels ≡ length names → place_of names new ≡ None →
      ((name : List ℕ) (p : ℕ) → place_of names name ≡ Some p → get_or levels p None ≡ level_of bound name) → level_of bound new ≡ None →
      (name : List ℕ) (p : ℕ) → place_of longer name ≡ Some p → get_or (levels ++ None ∷ []) p None ≡ level_of bound name
  level_new levels bound count fresh are none name p there =
      elim (place_before names new name p fresh there) [
        | inl before ↦
            let within = slice_get_within names p name (place_found name names p before) in
            get_or_append_left levels (None ∷ []) None p (omega (arith, within, count)) ∙ are name p before
        | inr last ↦
            get_or_at levels None [] None p (count ∙ sym last.1) ∙ sym (ap (level_of bound) last.0 ∙ none)
      ]

pub same_bound : (name : List ℕ) (names new_names : List (List ℕ)) (levels new_levels : List (Option ℕ)) (binders : List (Option Named)) → AddsName name names levels new_names new_levels →
    IsIndexed names levels binders → bound_of new_names binders ≡ bound_of names binders
same_bound name names _ levels _ binders name_occurred is = refl
same_bound name names _ levels _ binders (name_is_new fresh) is = ap (λ l. bound_from l []) (all_stay names name binders [] is.outer_kept)

pub still_indexed : (name : List ℕ) (names new_names : List (List ℕ)) (levels new_levels : List (Option ℕ)) (binders : List (Option Named)) → AddsName name names levels new_names new_levels →
    IsIndexed names levels binders → IsIndexed new_names new_levels binders
still_indexed name names _ levels _ binders name_occurred is = is
still_indexed name names _ levels _ binders (name_is_new fresh) is = record {
  few = is.few;
  count = omega (arith, is.count, length-append names (name ∷ []), length-append levels (None ∷ []));
  levels_are = λ other p there.
      level_new names name levels (bound_of names binders) is.count fresh is.levels_are (unnamed names name fresh binders [] is.outer_kept refl) other p there
      ∙ ap (λ b. level_of b other) (sym (ap (λ l. bound_from l []) (all_stay names name binders [] is.outer_kept)));
  outer_kept = keep_still names name binders [] is.outer_kept;
}

pub always_err : {T E P : Type 0} (result : Result T E) → P → OnErr result P
always_err (Ok x) p = tt
always_err (Err y) p = p
