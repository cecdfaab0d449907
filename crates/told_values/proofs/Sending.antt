-- What is heard of a frame that a line touches, by what its sender says.
use Rattle.std.proofs.Common.{ℕ, ◌≡◌, ◌<◌, ◌+◌, ◌*◌, ◌≤◌, true, List, length, take, sym, ap, subst, ◌∙◌, inl, inr, arith, Some, ℤ}
use Rattle.std.specs.Prelude.{All}
use Rattle.std.specs.List.{flat_map}
use Rattle.std.proofs.lemmas.Bool.{cases_lt}
use Rattle.node_grid.specs.Capacity.{IsCapacity}
use Rattle.node_grid.specs.NodeSet.{has_id, IsIdSet}
use Rattle.node_grid.specs.NodeSetLaws.{All-ids, length-ids, hasnt-above}
use Rattle.node_grid.specs.SetFacts.{IsIdSet-wider}
use Rattle.frames.specs.Content.{Content, Expectation, IsValue}
use Rattle.frames.specs.EntryLaws.{value_format}
use Rattle.frames.specs.PieceLaws.{read_spelt, length_spelt, take-pasted}
use Rattle.frames.specs.Reading.{content_value, content_values}
use Rattle.frames.specs.Seen.{expected}
use Rattle.frames.specs.Spelling.{value_spelling, head_of, IsInRange}
use Rattle.frames.specs.Writing.{pasted}
use Rattle.frames.specs.declared.frame.Expect.{Expect}
use Rattle.frames.specs.declared.frame.Head.{Head}
use Rattle.fault_classes.specs.Change.{Change}
use Rattle.agreed_state.specs.declared.config.Config.{Config}
use Rattle.agreed_state.specs.ConfigLaws.{few_rounds}
use Rattle.protocol.specs.Arrival.{values_in}
use Rattle.protocol.specs.Talk.{arrives}
use Rattle.touched_frames.specs.Arrived.{IsCluster, IsSentAs}
use Rattle.told_values.specs.declared.hearing.Heard.{Heard}
use Rattle.told_values.specs.Slot.{DataView, IsDataSlot, said, expects}
use Rattle.told_values.specs.Heard.{IsHeard}

-- few channels are due
module _ {n : ℕ} (d : DataView n) (slot : IsDataSlot d) (i : ℕ) (low : i < d.config.nodes) where
  pub due_few : length (d.due i) ≤ 8
  due_few = let l = length-ids (length d.config.channels.items) (d.due i) (slot.due i low) in let f = slot.config.few_channels in omega arith

  pub due_set : IsIdSet 8 (d.due i)
  due_set = IsIdSet-wider (length d.config.channels.items) 8 (d.due i) slot.config.few_channels (slot.due i low)

  pub channels_low : (config : Config n) (ds : List ℕ) → config ≡ d.config → ds ≡ d.due i → All (λ c. c < length config.channels.items) ds
  channels_low config ds same is =
      subst (λ (o : Config n). All (λ c. c < length o.channels.items) ds) (sym same)
      (subst (λ (s : List ℕ). All (λ c. c < length d.config.channels.items) s) (sym is) (All-ids (length d.config.channels.items) (d.due i) (slot.due i low)))

  pub due_below : (c : ℕ) → has_id (d.due i) c ≡ true → c < 8
  due_below c on = elim (cases_lt c (length d.config.channels.items)) [
    | inl below ↦ let f = slot.config.few_channels in omega arith
    | inr past ↦ absurd (let off = hasnt-above (length d.config.channels.items) (d.due i) c (slot.due i low) past in cc)
  ]

-- the receiver's cluster is the configuration's
pub in_cluster : {n : ℕ} (d : DataView n) (from to : ℕ) (expect : Expect n) → IsCapacity n → IsDataSlot d → expected expect ≡ expects d from to → IsCluster n expect.nodes expect.m
in_cluster {n} d from to expect cap slot is =
    let nodes : expect.nodes ≡ d.config.nodes = ap (λ (e : Expectation). e.nodes) is in
    let rounds : expect.m ≡ d.config.m = ap (λ (e : Expectation). e.m) is in
    record {
      capacity_ok = cap;
      some_nodes = let s = slot.config.some_nodes in omega arith;
      few_nodes = let f = slot.config.few_nodes in omega arith;
      few_rounds = let f = few_rounds n d.config slot.config in omega arith;
    }

-- values that were written to the front are read as what they are
pub values_kept : (xs : List ℤ) (k : ℕ) (old : List ℕ) → All IsValue xs → k ≡ length xs → 8 * k ≤ length old → content_values (take (8 * k) (pasted 0 (flat_map value_spelling xs) old)) ≡ xs
values_kept xs k old all is room =
    let bytes : List ℕ = flat_map value_spelling xs in
    let long : length bytes ≡ 8 * length xs = length_spelt 8 value_spelling content_value IsValue value_format xs all in
    let at : 8 * k ≡ 0 + length bytes = omega (arith, long, is) in
    ap (λ (n : ℕ). content_values (take n (pasted 0 bytes old))) at
    ∙ ap content_values (take-pasted 0 bytes old (omega (arith, long, is, room)))
    ∙ read_spelt 8 value_spelling content_value IsValue value_format xs all

-- what a receiver makes of a frame, by what it expects and what the frame says
pub heard_as : {n : ℕ} (d : DataView n) (from to : ℕ) → IsInRange (expects d from from) (said d from)
    → (effect : Change) (expect : Expect n) (head : Head) (c : Content) (due : List ℕ) (h : Heard)
    → expected expect ≡ expects d from to → head ≡ head_of (expected expect) → c ≡ said d from → due ≡ d.due to
    → ((sender : Expectation) → IsSentAs sender expect.nodes head c → IsHeard due h (arrives values_in (Some effect) sender (expected expect) c))
    → IsHeard (d.due to) h (arrives values_in (Some effect) (expects d from from) (expects d from to) (said d from))
heard_as d from to range effect expect head c due h e he ce de heard =
    let sent : IsSentAs (expects d from from) expect.nodes head c = record {
      nodes_are = sym (ap (λ (x : Expectation). x.nodes) e);
      head_is = sym (he ∙ ap head_of e);
      in_range = subst (IsInRange (expects d from from)) (sym ce) range;
    } in
    subst (λ (ds : List ℕ). IsHeard ds h (arrives values_in (Some effect) (expects d from from) (expects d from to) (said d from))) de
    (subst (λ (r : Expectation). IsHeard due h (arrives values_in (Some effect) (expects d from from) r (said d from))) e
    (subst (λ (x : Content). IsHeard due h (arrives values_in (Some effect) (expects d from from) (expected expect) x)) ce (heard (expects d from from) sent)))
