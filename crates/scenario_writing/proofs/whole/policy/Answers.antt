use Rattle.std.proofs.Common.{◌≡◌, Some, ap, ◌∙◌, rules, w64, to_z, of_z}
use Rattle.std.specs.Prelude.{codes, option_map}
use Rattle.std.proofs.lemmas.Int.{to_z-of_z}
use Rattle.serde_json.specs.Data.{object}
use Rattle.serde_json.specs.View.{view}
use Rattle.serde_json.proofs.Views.{view-Object}
use Rattle.scenario.specs.Seen.{policy_view}
use Rattle.scenario_reading.specs.Keys.{policy_at}
use Rattle.scenario_versions.specs.Versions.{is_first}
use Rattle.scenario_writing.proofs.Members.{begun, onto, onto_some, kept}
use Rattle.scenario_writing.proofs.Policies.{Pieces, AreRead, read_back}
use Rattle.scenario_writing.proofs.whole.policy.Goals as goal

pub returns : goal.returns
returns c =
    let part = c.args.part.now in
    let version : to_z w64 (of_z w64 c.args.version) ≡ c.args.version = to_z-of_z w64 c.args.version c.ranges.version in
    let pieces : Pieces = record {
      weights = view c.in_ok-weights.weights;
      exclude = view c.number.result;
      readmit = view c.number-2.result;
      credit = view c.number-3.result;
      streak = view c.number-4.result;
      cap = view c.number-5.result;
    } in
    let read : AreRead (policy_view part) pieces = record {
      weights = c.in_ok-weights.ensures ∙ ap Some c.as_slice.ensures.value;
      exclude = kept part.exclude (search rules) c.number.ensures;
      readmit = kept part.readmit (search rules) c.number-2.ensures;
      credit = kept part.credit (search rules) c.number-3.ensures;
      streak = kept part.streak (search rules) c.number-4.ensures;
      cap = kept part.cap (search rules) c.number-5.ensures;
    } in
    let whole_object =
    onto_some (codes "retire") (option_map view c.retirement.result) c.in_ok-put_some.ensures (onto _ _ c.in_ok-put-6.ensures.ok (onto _ _ c.in_ok-put-5.ensures.ok (onto _ _ c.in_ok-put-4.ensures.ok
    (onto _ _ c.in_ok-put-3.ensures.ok (onto _ _ c.in_ok-put-2.ensures.ok (onto _ _ c.in_ok-put.ensures.ok (begun _ c.new-members.ensures.empty))))))) in
    ap (policy_at c.args.version) (view-Object _ ∙ ap object whole_object)
    ∙ read_back c.args.version (policy_view part) pieces (option_map view c.retirement.result) read c.requires
    (λ e. c.retirement.ensures.none (ap is_first version ∙ e))
    (λ e. c.retirement.ensures.some (ap is_first version ∙ e) ∙ ap (λ z. Some (Some z)) (to_z-of_z w64 part.retire (search rules)))
