use Rattle.std.proofs.Common.{◌≡◌, ap, ◌∙◌, rules, w64, to_z, of_z}
use Rattle.std.specs.Prelude.{codes, option_map}
use Rattle.std.proofs.lemmas.Int.{to_z-of_z}
use Rattle.serde_json.specs.Data.{object}
use Rattle.serde_json.specs.View.{view}
use Rattle.scenario.specs.Seen.{parts_view}
use Rattle.scenario_reading.specs.Keys.{parts_read}
use Rattle.scenario_writing.proofs.Members.{begun, onto, onto_some, kept}
use Rattle.scenario_writing.proofs.Wholes.{Pieces, AreRead, read_back}
use Rattle.scenario_writing.proofs.whole.put_parts.Goals as goal

pub policy-requires : goal.policy-requires
policy-requires c = rw (to_z-of_z w64 c.args.parts.now.version (search rules)) c.requires.version.policy

pub channels-requires : goal.channels-requires
channels-requires c = rw (to_z-of_z w64 c.args.parts.now.version (search rules), c.as_slice.ensures.value) c.requires.version.channels

pub returns : goal.returns
returns c =
    let parts = c.args.parts.now in
    let version : to_z w64 (of_z w64 parts.version) ≡ parts.version = to_z-of_z w64 parts.version (search rules) in
    let pieces : Pieces = record {
      version = view c.number.result;
      nodes = view c.number-2.result;
      m = view c.number-3.result;
      periods = view c.number-4.result;
      policy = view c.in_ok-policy.policy;
      order = view c.number-5.result;
      channels = view c.in_ok-channels.channels;
      tasks = view c.in_ok-tasks.tasks;
      faults = view c.in_ok-faults.faults;
      restarts = view c.in_ok-restarts.restarts;
    } in
    let read : AreRead (parts_view parts) pieces = record {
      version = kept parts.version (search rules) c.number.ensures;
      nodes = kept parts.nodes (search rules) c.number-2.ensures;
      m = kept parts.m (search rules) c.number-3.ensures;
      periods = kept parts.periods (search rules) c.number-4.ensures;
      policy = rw version at c.in_ok-policy.ensures;
      order = kept parts.order (search rules) c.number-5.ensures;
      channels = rw (version, c.as_slice.ensures.value) at c.in_ok-channels.ensures;
      tasks = rw c.as_slice-2.ensures.value at c.in_ok-tasks.ensures;
      faults = rw c.as_slice-3.ensures.value at c.in_ok-faults.ensures;
      restarts = rw c.as_slice-4.ensures.value at c.in_ok-restarts.ensures;
    } in
    let whole_object =
    onto_some (codes "clock") (option_map view c.in_ok-maybe_clock.field-0) c.in_ok-put_some-2.ensures (onto_some (codes "frame") (option_map view c.maybe_number.result) c.in_ok-put_some.ensures
    (onto _ _ c.in_ok-put-10.ensures.ok (onto _ _ c.in_ok-put-9.ensures.ok (onto _ _ c.in_ok-put-8.ensures.ok (onto _ _ c.in_ok-put-7.ensures.ok (onto _ _ c.in_ok-put-6.ensures.ok
    (onto _ _ c.in_ok-put-5.ensures.ok (onto _ _ c.in_ok-put-4.ensures.ok (onto _ _ c.in_ok-put-3.ensures.ok (onto _ _ c.in_ok-put-2.ensures.ok (onto _ _ c.in_ok-put.ensures.ok
    (begun _ c.requires.empty)))))))))))) in
    ap (λ ms. parts_read (object ms)) whole_object
    ∙ read_back (parts_view parts) pieces (option_map view c.maybe_number.result) (option_map view c.in_ok-maybe_clock.field-0) read c.maybe_number.ensures c.in_ok-maybe_clock.ensures c.requires.version.clock
