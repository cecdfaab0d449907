-- What each node makes of a period of a scenario's run, part by part, where it goes through it with a state.
use Rattle.std.specs.Prelude.{ℕ, ℤ, Bool, ◌==◌, ◌||◌, ◌&&◌, nat_eq, List, Option, is_some, if◌then◌else◌}
use Rattle.std.specs.Cmp.Lexicographic.{pointwise}
use Rattle.node_grid.specs.NodeSet.{ids_where}
use Rattle.node_grid.specs.Kinds.{deviate, equivocate}
use Rattle.omh_paths.specs.declared.wrapped.Wrapped.{Wrapped}
use Rattle.omh.specs.Omh.{Ear}
use Rattle.list_scheduler.specs.OneNode.{verdicts}
use Rattle.error_reports.specs.Notes.{Notes, of_each, also_noted, also_carried}
use Rattle.agreed_state.specs.declared.config.Inputs.{Inputs}
use Rattle.agreed_state.specs.Agreed.{AgreedView, agreed_after}
use Rattle.protocol.specs.Arrival.{is_bad}
use Rattle.protocol.specs.Heard.{rounds_bad}
use Rattle.protocol.specs.Settled.{settled_items, ear_of}
use Rattle.protocol.specs.FurtherKinds.{convicts_member}
use Rattle.protocol.specs.View.{Setting, Kept, Received, goes_with, claims_settled, due_channels, own_values, votes_on, deviates, empty_row, synced_by}
use Rattle.protocol.specs.Run.{goes_in, run}
use Rattle.scenario.specs.Scenario.{ScenarioView, inputs_of, system_of}
use Rattle.heard_states.specs.Slot.{noted_states}
use Rattle.view_law.specs.Made.{Parts, Blamed, Noted, notes_begun, by_verdicts}

module _ {N : ℕ} (sc : ScenarioView N) (p i : ℕ) where
  abbrev pub setting : Setting
  setting = (system_of sc).setting

  -- what node i goes into period p with, and what it has of the frames
  abbrev pub goes : Kept
  goes = goes_in (system_of sc) p i

  abbrev pub has : Received
  has = (run (system_of sc)).received i p

  abbrev pub given : Inputs
  given = inputs_of sc i p

  abbrev pub is_full : Bool
  is_full = is_some goes.state

  -- with which state it goes through it
  abbrev pub through : Option AgreedView
  through = goes_with setting i has goes.state

  -- going through it with state a
  module _ (a : AgreedView) where
    unfoldable pub done_in : List (Wrapped ℕ)
    done_in = claims_settled setting i is_full a given has

    unfoldable pub due_in : List ℕ
    due_in = due_channels setting a done_in

    unfoldable pub own_in : List (Option ℤ)
    own_in = own_values setting i p given goes

    unfoldable pub votes_in : List (Option ℤ)
    votes_in = votes_on setting i is_full a done_in due_in own_in has

    abbrev pub claims_ear : Ear ℕ
    claims_ear = ear_of sc.config.m i is_full a.standing.members has.done

    abbrev pub rows_ear : Ear (List ℕ)
    rows_ear = ear_of sc.config.m i is_full a.standing.members has.report

    -- whom it convicts, over claims and over rows
    unfoldable pub blamed_in : Blamed
    blamed_in = record {
      convicted = ids_where (convicts_member nat_eq claims_ear) sc.config.nodes;
      late = ids_where (convicts_member (pointwise ◌==◌) rows_ear) sc.config.nodes;
    }

    -- its notes, step by step
    unfoldable pub notes_synced : Notes
    notes_synced = also_noted N (notes_begun sc.config i goes) (noted_states sc.config a has.sync)

    unfoldable pub notes_claimed : Notes
    notes_claimed = also_noted N notes_synced (λ j e. rounds_bad sc.config.m has.done j e)

    unfoldable pub notes_judged : Notes
    notes_judged = also_noted N notes_claimed (by_verdicts (verdicts N sc.config.graph a.standing.members a.copies done_in))

    unfoldable pub notes_convicted : Notes
    notes_convicted = also_noted N notes_judged (of_each blamed_in.convicted equivocate)

    unfoldable pub notes_voted : Notes
    notes_voted = also_noted N notes_convicted (λ j e. is_bad (has.values j) e || (deviates setting due_in votes_in has j && e == deviate))

    unfoldable pub notes_reported : Notes
    notes_reported = also_carried N notes_voted (λ j e. rounds_bad sc.config.m has.report j e)

    unfoldable pub notes_late : Notes
    notes_late = also_carried N notes_reported (of_each blamed_in.late equivocate)

    unfoldable pub found_in : List ℕ
    found_in = if is_full then notes_voted.row else empty_row setting

    unfoldable pub rows_in : List (Option (List ℕ))
    rows_in = settled_items (pointwise ◌==◌) N sc.config.m i is_full a.standing.members has.report found_in

    unfoldable pub after_in : AgreedView
    after_in = agreed_after N sc.config p a done_in rows_in

    abbrev pub parts_in : Parts
    parts_in = record {
      sync = synced_by setting i has;
      done = done_in;
      due = due_in;
      own = own_in;
      votes = votes_in;
      found = found_in;
      rows = rows_in;
      carried = notes_late.carried;
      after = after_in;
    }

    abbrev pub noted_in : Noted
    noted_in = record {
      begun = notes_begun sc.config i goes;
      sync = notes_synced;
      claims = notes_claimed;
      judged = notes_judged;
      convicted = notes_convicted;
      values = notes_voted;
      rows = notes_reported;
      late = notes_late;
    }
