-- The clocks of a cluster, where types have places for further nodes.
use Rattle.std.proofs.Common.{ℕ, zero, suc, ◌≡◌, ◌≤◌, ◌+◌, List, [], ◌∷◌, map, length, get_or, Option, Some, None, refl, ap, ◌∙◌, arith, le-ltb}
use Rattle.std.proofs.Math.Path.{fun_ext}
use Rattle.std.specs.Prelude.{if◌then◌else◌, nat_lt, ℤ, pos, ◌+ℤ◌, ◌-ℤ◌, ◌%◌}
use Rattle.std.proofs.lemmas.List.{length-map}
use Rattle.node_grid.specs.NodeSet.{has_id}
use Rattle.clock_skew.specs.Clock.{ClockView, number_at, row_in_turn, drift_at, lie_at}
use Rattle.clock_skew.specs.Correction.{is_own, voted, correction_of}
use Rattle.clock_skew.specs.Reading.{reading_at}
use Rattle.fault_classes.specs.Plan.{Plan}
use Rattle.agreed_state.specs.declared.config.Config.{Config}
use Rattle.agreed_state.specs.declared.config.Inputs.{Inputs}
use Rattle.protocol.specs.View.{View, Mode}
use Rattle.protocol.specs.View.Mode.{Full, Joining, Cold}
use Rattle.protocol.specs.Cluster.{view}
use Rattle.protocol.specs.Run.{System, members_in, run}
use Rattle.protocol.specs.Clocks.{readings_at, corrects, correction_at, corrected, offsets}
use Rattle.two_capacities.specs.Wider.{wide_config, system_over, longer, wide_clock}
use Rattle.two_capacities.proofs.Lists.{get_padded, tab_padded}
use Rattle.two_capacities.proofs.Runs.{members_wide, believed_wide}

-- ---- a plan of clocks with k further places in each row

module _ (k : ℕ) where
  pub number_wide : (row : List ℤ) (i : ℕ) → number_at (longer k row) i ≡ number_at row i
  number_wide row i = get_padded row k (pos 0) i

  at_wide : (rows : List (List ℤ)) (j i : ℕ) → number_at (get_or (map (longer k) rows) j []) i ≡ number_at (get_or rows j []) i
  at_wide [] j i = refl
  at_wide (row ∷ rows) zero i = number_wide row i
  at_wide (row ∷ rows) (suc j) i = at_wide rows j i

  pub row_wide : (rows : List (List ℤ)) (t i : ℕ) → number_at (row_in_turn (map (longer k) rows) t) i ≡ number_at (row_in_turn rows t) i
  row_wide rows t i = ap (λ n. number_at (get_or (map (longer k) rows) (t % n) []) i) (length-map rows (longer k)) ∙ at_wide rows (t % length rows) i

  reading_wide : (c : ClockView) (offset : ℕ → ℤ) (p i j : ℕ) → reading_at (wide_clock k c) offset p i j ≡ reading_at c offset p i j
  reading_wide c offset p i j = ap (λ e. (offset j -ℤ offset i) +ℤ e +ℤ lie_at c j i p) (row_wide c.errors (p + j) i)

  corrects_wide : (m i : ℕ) (readings : List ℤ) (members good : List ℕ) (mode : Mode) → corrects m i (longer k readings) members good mode ≡ corrects m i readings members good mode
  corrects_wide m i readings members good mode = by mode where
    read : (own : Option ℕ) → correction_of members good own (longer k readings) m ≡ correction_of members good own readings m
    read own =
        ap (voted members m) (fun_ext (λ q. ap (λ v. if is_own own q then Some (pos 0) else (if has_id good q then Some v else None)) (number_wide readings q)))

    by : (mode : Mode) → corrects m i (longer k readings) members good mode ≡ corrects m i readings members good mode
    by Full = read (Some i)
    by Joining = read None
    by Cold = refl

-- ---- the clocks of a run

module _ {c : ℕ} (k : ℕ) (g : Config c) (few : g.nodes ≤ c) (few_graph : g.graph.nodes ≤ c) (plan : Plan) (inputs : ℕ → ℕ → Inputs) (clock : ClockView) where
  abbrev small : System
  small = system_over g plan inputs

  abbrev large : System
  large = system_over (wide_config k g) plan inputs

  readings_wide : (offset : ℕ → ℤ) (p i : ℕ) → readings_at large.setting (wide_clock k clock) offset p i ≡ longer k (readings_at small.setting clock offset p i)
  readings_wide offset p i =
      tab_padded (λ j. if nat_lt j g.nodes then reading_at clock offset p i j else pos 0) (λ j. if nat_lt j g.nodes then reading_at (wide_clock k clock) offset p i j else pos 0) (pos 0) c k
      (λ j l. ap (λ v. if nat_lt j g.nodes then v else pos 0) (reading_wide k clock offset p i j))
      (λ j l. ap (λ b. if b then reading_at (wide_clock k clock) offset p i j else pos 0) (le-ltb j g.nodes (omega arith)))

  pub correction_wide : (offset : ℕ → ℤ) (p i : ℕ) → correction_at (run large) (wide_clock k clock) offset p i ≡ correction_at (run small) clock offset p i
  correction_wide offset p i =
      let v : View = view (run small) i p in
      let readings : List ℤ = readings_at small.setting clock offset p i in
      ap (λ (x : View). corrects g.m i (readings_at large.setting (wide_clock k clock) offset p i) (members_in x.before) x.sync x.mode) (believed_wide k g few few_graph plan inputs i p)
      ∙ ap (λ ms. corrects g.m i (readings_at large.setting (wide_clock k clock) offset p i) ms v.sync v.mode) (members_wide g.nodes k v.before)
      ∙ ap (λ xs. corrects g.m i xs (members_in v.before) v.sync v.mode) (readings_wide offset p i)
      ∙ corrects_wide k g.m i readings (members_in v.before) v.sync v.mode

  pub offsets_wide : (p : ℕ) → offsets (run large) (wide_clock k clock) p ≡ offsets (run small) clock p
  unfolding offsets
  offsets_wide zero = fun_ext (number_wide k clock.start)
  offsets_wide (suc p) = fun_ext (λ i.
      let before : ℕ → ℤ = offsets (run small) clock p in
      ap (λ (o : ℕ → ℤ). corrected (run large) (wide_clock k clock) o p i +ℤ drift_at (wide_clock k clock) i p) (offsets_wide p)
      ∙ ap (λ v. (before i +ℤ v) +ℤ drift_at (wide_clock k clock) i p) (correction_wide before p i)
      ∙ ap (λ v. corrected (run small) clock before p i +ℤ v) (row_wide k clock.drifts p i))
