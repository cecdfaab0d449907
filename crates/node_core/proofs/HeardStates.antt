-- The sync slot that was closed, as it is heard.
use Rattle.std.proofs.Common.{ℕ, ◌≡◌, ◌≤◌, ◌==◌, ◌&&◌, ◌||◌, Bool, true, not, List, length, Option, None, Some, if◌then◌else◌, sym, ap, ap₂, subst, ◌∙◌}
use Rattle.std.specs.Prelude.{IsSome, IfSome}
use Rattle.node_grid.specs.CapacityLaws.{capacity-le}
use Rattle.node_grid.specs.Kinds.{state}
use Rattle.node_grid.specs.NodeSet.{ids_where}
use Rattle.slot_plan.specs.Slots.{slot_number}
use Rattle.omh_paths.specs.declared.wrapped.Wrapped.TheVariants.{Plain}
use Rattle.omh.specs.Heard.{Hearing}
use Rattle.frames.specs.Content.Content.{State}
use Rattle.error_detect.specs.declared.finding.Finding.{Finding}
use Rattle.error_detect.specs.Finding.{is_good_at}
use Rattle.error_detect.specs.Watching.{Watch, closed, findings, told_at, IsHeardBy}
use Rattle.error_reports.specs.Notes.{Notes, also_noted}
use Rattle.agreed_state.specs.Agreed.{AgreedView}
use Rattle.agreed_state.specs.Body.{body}
use Rattle.protocol.specs.Arrival.{arrived, is_bad, body_said}
use Rattle.protocol.specs.Configured.{setting_of}
use Rattle.protocol.specs.View.{content, adopted_by, other_body, own_claim}
use Rattle.noting.specs.Findings.{has_of, good_in, IsSyncOf}
use Rattle.noting.specs.FoundLaws.{good_found}
use Rattle.node_steps.specs.Parts.{NodeView}
use Rattle.node_steps.specs.PremiseLaws.{states_asked}
use Rattle.node_steps.specs.Sound.{IsInSlot, IsSound}
use Rattle.node_steps.specs.Steps.{expected_in, shut, noting, started, synced, with_sync, after_sync}
use Rattle.node_core.specs.declared.controller.Controller.TheInside.{Inside}
use Rattle.node_core.specs.Inside.{seen, AreItsNotes, IsController}
use Rattle.node_core.proofs.NotedRows.{noted_by}
use Rattle.node_core.proofs.Standing.{watch_shut}

module _ {N : ℕ} (n : Inside N) (inv : IsController n) (sound : IsSound (seen n)) (open' : n.phase.is_open ≡ true) (first : slot_number n.config.now.m n.phase.slot ≡ 0) (u : Watch) (shut' : u ≡ closed n.watch) where
  abbrev pub v : NodeView N
  v = seen n

  abbrev pub w : Watch
  w = closed n.watch

  slot : IsInSlot v
  slot = sound.in_slot open'

  pub watching : n.watch.is_open ≡ true
  watching = slot.watching

  some_slot : IsSome u.expect
  some_slot = subst IsSome (sym (ap (λ (x : Watch). x.expect) shut')) (inv.watch.expects slot.watching)

  pub heard_watch : IsHeardBy u n.config.now.nodes n.phase.me
  heard_watch = record {
    nodes_are = ap (λ (x : Watch). x.nodes) shut' ∙ inv.watch.nodes;
    me_is = ap (λ (x : Watch). x.me) shut' ∙ inv.watch.me_is;
    closed = ap (λ (x : Watch). x.is_open) shut';
    some_slot = some_slot;
  }

  pub states_sized : (j : ℕ) → IfSome (content (arrived body_said None (told_at u j))) (λ b. length b ≤ 1152)
  states_sized j =
      subst (λ (x : Watch). IfSome (content (arrived body_said None (told_at x j))) (λ b. length b ≤ 1152)) (sym shut')
      (states_asked v (capacity-le N inv.place.capacity) inv.place.config_is slot j)

  pub good_are : (found : List Finding) → found ≡ findings N n.watch
      → ids_where (λ j. not (j == n.phase.me) && is_good_at found j) n.config.now.nodes ≡ good_in n.config.now.nodes n.phase.me (has_of body_said w)
  good_are found is =
      ap (λ (fs : List Finding). ids_where (λ j. not (j == n.phase.me) && is_good_at fs j) n.config.now.nodes) is
      ∙ good_found N n.config.now.nodes n.phase.me w (expected_in v v.phase.slot) inv.place.few inv.watch.nodes inv.watch.me_is slot.expects first

  -- the state with which it goes through the period
  abbrev pub goes_with : Watch → Option AgreedView
  goes_with x = if n.phase.full then n.kept.state else adopted_by (setting_of n.config.now) n.phase.me (has_of body_said x)

  -- it stays Cold
  pub none_seen : (good : List ℕ) → good ≡ good_in n.config.now.nodes n.phase.me (has_of body_said w) → goes_with u ≡ None
      → record v { phase = record v.phase { before = None }; found = record v.found { sync = good }; arrived = u } ≡ after_sync (shut v)
  none_seen good is goes =
      ap₂ (λ (g : List ℕ) (x : Watch). record v { phase = record v.phase { before = None }; found = record v.found { sync = g }; arrived = x }) is shut'
      ∙ ap (λ (o : Option AgreedView). synced (with_sync (shut v)) o) (sym (ap goes_with (sym shut') ∙ goes))

  -- the slot is a sync slot
  pub sync_slot : IsSyncOf n.found.notes.nodes n.found.notes.me u
  sync_slot = record {
    heard = record {
      nodes_are = ap (λ (x : Watch). x.nodes) shut' ∙ inv.watch.nodes ∙ sym inv.notes.nodes;
      me_is = ap (λ (x : Watch). x.me) shut' ∙ inv.watch.me_is ∙ sym inv.notes.me_is;
      closed = ap (λ (x : Watch). x.is_open) shut';
      some_slot = some_slot;
    };
    first = subst (λ o. IfSome o (λ e. e.slot ≡ 0)) (sym (ap (λ (x : Watch). x.expect) shut' ∙ slot.expects)) first;
  }

  -- or goes on with a state
  module _ (a : AgreedView) (goes : goes_with u ≡ Some a) where
    -- what the frames bring against the others
    abbrev pub bad : List ℕ → Watch → ℕ → ℕ → Bool
    bad own x j k = is_bad (has_of body_said x j) k || (other_body own (has_of body_said x j) && k == state)

    pub own_seen : (good own : List ℕ) (x : Notes) (d : Hearing ℕ) → good ≡ good_in n.config.now.nodes n.phase.me (has_of body_said w) → own ≡ body n.config.now a
        → x ≡ also_noted N n.found.notes (bad own u) → d ≡ started n.done a.standing.members n.phase.me n.phase.full (Plain (own_claim n.phase.me n.phase.inputs a))
        → record v { phase = record v.phase { before = Some a }; found = record v.found { sync = good; notes = x.row; late = x.carried }; done = d; arrived = u } ≡ after_sync (shut v)
    own_seen good own x d is_good is_own noted is_started =
        let notes : x ≡ record n.found.notes { row = noting v (bad (body n.config.now a) w) n.found.notes.row } =
        noted ∙ ap₂ (λ (bytes : List ℕ) (y : Watch). also_noted N n.found.notes (bad bytes y)) is_own shut'
        ∙ noted_by n.config.now n.phase.me n.found.notes inv.notes (bad (body n.config.now a) w) in
        ap₂ (λ (y : Notes) (e : Hearing ℕ). record v { phase = record v.phase { before = Some a }; found = record v.found { sync = good; notes = y.row; late = y.carried }; done = e; arrived = u }) notes is_started
        ∙ ap₂ (λ (g : List ℕ) (y : Watch).
        record v {
          phase = record v.phase { before = Some a };
          found = record v.found { sync = g; notes = noting v (bad (body n.config.now a) w) n.found.notes.row };
          done = started n.done a.standing.members n.phase.me n.phase.full (Plain (own_claim n.phase.me n.phase.inputs a));
          arrived = y;
        }) is_good shut'
        ∙ ap (λ (o : Option AgreedView). synced (with_sync (shut v)) o) (sym (ap goes_with (sym shut') ∙ goes))

  -- what holds of it then
  pub states_kept : (before : Option AgreedView) (x : Notes) (d : Hearing ℕ) (good : List ℕ) → AreItsNotes n.config.now n.phase.me x
      → IsController (record n { phase = record n.phase { before = before }; done = d; found = record n.found { sync = good; notes = x }; watch = u })
  states_kept before x d good own = record {
    place = inv.place;
    slot = inv.slot;
    watch = watch_shut n.config.now n.phase.me n.watch inv.watch u shut';
    kept_notes = inv.kept_notes;
    notes = own;
  }
