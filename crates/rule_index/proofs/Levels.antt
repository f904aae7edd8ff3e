-- A look-up passes the levels of a tree.
use Rattle.std.proofs.Common.{◌≡◌, ℕ, ◌+◌, ◌<◌, ◌≤◌, true, List, [], ◌∷◌, ◌++◌, length, Option, Some, sym, ap, ◌∙◌, subst, arith, below_more, ◌⊎◌, inl, inr}
use Rattle.std.specs.Prelude.{slice_get, Contains}
use Rattle.std.proofs.lemmas.List.Elements.{Contains-append_left, Contains-append_right}
use Rattle.std.proofs.lemmas.Option.{slice_get_within}
use Rattle.lf_definitions.specs.Syntax.{Spine}
use Rattle.rule_sets.proofs.Candidates.{at_from_Contains}
use Rattle.lf_definitions.proofs.Options.{Some_inj}
use Rattle.rule_index.specs.declared.key.Demand.{Demand}
use Rattle.rule_index.specs.declared.node.Node.{Node}
use Rattle.rule_index.specs.Keys.{all_allow}
use Rattle.rule_index.specs.Stored.{demand_at, args_from}
use Rattle.rule_index.specs.Trees.{branch_of, HoldsPlace, Leads, Reaches, AddsBranches, PassesLevel, IsAhead, WalksBranches}
use Rattle.rule_index.proofs.Demands.{from_start, part_met, others_met}

-- One level, node by node.

pub pass_begins : (nodes : List Node) (numbers : List ℕ) (demand : Demand) (places : List ℕ) (next : List ℕ) → PassesLevel nodes numbers 0 demand places places next
pass_begins nodes numbers demand places next = record { keeps = λ place h. h; finds = λ i number place less is has. absurd (omega arith); adds = λ i number child part less is leads met. absurd (omega arith) }

module _ (nodes : List Node) (numbers : List ℕ) (i : ℕ) (demand : Demand) (old places next : List ℕ) (number : ℕ) (number_is : slice_get numbers i ≡ Some number) (so_far : PassesLevel nodes numbers i demand old places next) where
  pub pass_skipped : length nodes ≤ number → PassesLevel nodes numbers (i + 1) demand old places next
  pass_skipped past = record {
    keeps = so_far.keeps;
    finds = λ j other place less is has.
        below_more (λ k. (m : ℕ) → slice_get numbers k ≡ Some m → HoldsPlace nodes m place → Contains places place) i
        (λ k below m m_is h. so_far.finds k m place below m_is h)
        (λ m m_is h. let same : number ≡ m = Some_inj number_is m_is in let within = slice_get_within nodes m h.node h.node_is in absurd (omega (arith, same, within)))
        j less other is has;
    adds = λ j other child part less is leads met.
        below_more (λ k. (m : ℕ) → slice_get numbers k ≡ Some m → Leads nodes m part child → Contains next child) i
        (λ k below m m_is h. so_far.adds k m child part below m_is h met)
        (λ m m_is h. let same : number ≡ m = Some_inj number_is m_is in let within = slice_get_within nodes m h.node h.node_is in absurd (omega (arith, same, within)))
        j less other is leads;
  }

  pub pass_more : (node : Node) (more after : List ℕ) → slice_get nodes number ≡ Some node → more ≡ places ++ node.places.items → AddsBranches node demand next after → PassesLevel nodes numbers (i + 1) demand old more after
  pass_more node more after node_is more_is adds =
      let P : ℕ → List ℕ → Type 0 = λ place xs. Contains xs place in
      record {
        keeps = λ place h. subst (P place) (sym more_is) (Contains-append_left places node.places.items place (so_far.keeps place h));
        finds = λ j other place less is has.
            below_more (λ k. (m : ℕ) → slice_get numbers k ≡ Some m → HoldsPlace nodes m place → Contains more place) i
            (λ k below m m_is h. subst (P place) (sym more_is) (Contains-append_left places node.places.items place (so_far.finds k m place below m_is h)))
            (λ m m_is h.
            let same : node ≡ h.node = Some_inj node_is (ap (slice_get nodes) (Some_inj number_is m_is) ∙ h.node_is) in
            let Q : Node → Type 0 = λ n. Contains n.places.items place in
            subst (P place) (sym more_is) (Contains-append_right places node.places.items place (subst Q (sym same) h.has)))
            j less other is has;
        adds = λ j other child part less is leads met.
            below_more (λ k. (m : ℕ) → slice_get numbers k ≡ Some m → Leads nodes m part child → Contains after child) i
            (λ k below m m_is h. adds.keeps child (so_far.adds k m child part below m_is h met))
            (λ m m_is h.
            let same : node ≡ h.node = Some_inj node_is (ap (slice_get nodes) (Some_inj number_is m_is) ∙ h.node_is) in
            adds.adds part child (ap (λ n. branch_of n part) same ∙ h.branch_is) met)
            j less other is leads;
      }

-- The levels, one after another.

-- The places that the arguments of a target allow were added already, or are ahead.
pub record WalksTo (nodes : List Node) (root : ℕ) (args : Spine) (levels level : ℕ) (old places numbers : List ℕ) : Type 0 where
  pub keeps : (place : ℕ) → Contains old place → Contains places place
  pub finds : (place : ℕ) (parts : List (Option ℕ)) → Reaches nodes place root parts → all_allow parts args ≡ true → length parts < levels →
      Contains places place ⊎ IsAhead nodes numbers args level levels place

pub walk_begins : (nodes : List Node) (root : ℕ) (args : Spine) (levels : ℕ) (old numbers : List ℕ) → Contains numbers root → WalksTo nodes root args levels 0 old old numbers
walk_begins nodes root args levels old numbers has = record {
  keeps = λ place h. h;
  finds = λ place parts reaches allow few. inr (record { number = root; parts = parts; has = has; reaches = reaches; allow = ap (all_allow parts) (from_start args) ∙ allow; few = omega (arith, few) });
}

step : (nodes : List Node) (args : Spine) (levels level place : ℕ) (old places numbers next : List ℕ) → PassesLevel nodes numbers (length numbers) (demand_at args level) old places next →
    (parts : List (Option ℕ)) (number : ℕ) → Contains numbers number → Reaches nodes place number parts → all_allow parts (args_from level args) ≡ true → level + length parts < levels →
    Contains places place ⊎ IsAhead nodes next args (level + 1) levels place
step nodes args levels level place old places numbers next passes [] number has reaches allow few =
    let here = at_from_Contains numbers number has in
    inl (passes.finds here.0 number place (slice_get_within numbers here.0 number here.1) here.1 reaches)
step nodes args levels level place old places numbers next passes (part ∷ parts) number has (child, leads, rest) allow few =
    let here = at_from_Contains numbers number has in
    inr (record {
      number = child;
      parts = parts;
      has = passes.adds here.0 number child part (slice_get_within numbers here.0 number here.1) here.1 leads (part_met level part parts args allow);
      reaches = rest;
      allow = others_met level part parts args allow;
      few = omega (arith, few);
    })

pub walk_goes_on : (nodes : List Node) (root : ℕ) (args : Spine) (levels level : ℕ) (old places numbers more next : List ℕ) → WalksTo nodes root args levels level old places numbers →
    PassesLevel nodes numbers (length numbers) (demand_at args level) places more next → WalksTo nodes root args levels (level + 1) old more next
walk_goes_on nodes root args levels level old places numbers more next walks passes = record {
  keeps = λ place h. passes.keeps place (walks.keeps place h);
  finds = λ place parts reaches allow few. elim (walks.finds place parts reaches allow few) [
    | inl found ↦ inl (passes.keeps place found)
    | inr ahead ↦ step nodes args levels level place places more numbers next passes ahead.parts ahead.number ahead.has ahead.reaches ahead.allow ahead.few
  ];
}

pub walk_ends : (nodes : List Node) (root : ℕ) (args : Spine) (levels level : ℕ) (old places numbers : List ℕ) → levels ≤ level → WalksTo nodes root args levels level old places numbers → WalksBranches nodes root args levels old places
walk_ends nodes root args levels level old places numbers past walks = record {
  keeps = walks.keeps;
  finds = λ place parts reaches allow few. elim (walks.finds place parts reaches allow few) [ inl found ↦ found | inr ahead ↦ absurd (let few_ahead = ahead.few in omega (arith, past, few_ahead)) ];
}
