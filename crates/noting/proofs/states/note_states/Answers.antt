use Rattle.std.proofs.Common.{rules, ◌&&◌, ◌||◌, ◌==◌, Bool, ℕ, List, Option, Some, None, if◌then◌else◌, ap, ap₂, ◌∙◌, arith}
use Rattle.node_grid.specs.Kinds.{state}
use Rattle.error_detect.specs.declared.finding.Finding.{Finding}
use Rattle.error_detect.specs.Watching.{told_at}
use Rattle.error_reports.specs.Notes.{Notes, is_kind, also_noted}
use Rattle.error_reports.specs.NoteLaws.{noted_twice, noted_alike, kind_where}
use Rattle.protocol.specs.Arrival.{arrived, is_bad, body_said}
use Rattle.protocol.specs.View.{other_body}
use Rattle.noting.specs.Findings.{has_of, found_bad}
use Rattle.noting.specs.FoundLaws.{the_slot, states_found, other_told}
use Rattle.noting.proofs.states.note_states.Goals as goal

pub returns : goal.returns
returns g c =
    let n = c.args.notes.now in
    let w = c.args.watch.now in
    let own = c.args.own.now in
    let found = c.args.found.now in
    let sync = c.requires.sync in
    let slot = the_slot w.expect sync.heard.some_slot sync.first in
    let gives : ℕ → Option ℕ = λ j. if other_body own (arrived body_said None (told_at w j)) then Some state else None in
    c.note_each.ensures.row gives (λ j x low used other ran. search rules)
    ∙ ap (λ (v : Notes). also_noted g.row.N v (λ j k. is_kind (gives j) k)) c.note_found.ensures
    ∙ noted_twice g.row.N n (found_bad found) (λ j k. is_kind (gives j) k) c.requires.few
    ∙ noted_alike g.row.N n (λ j k. found_bad found j k || is_kind (gives j) k) (λ j k. is_bad (has_of body_said w j) k || (other_body own (has_of body_said w j) && k == state))
    (λ j k low used other within.
    ap₂ ◌||◌
    (ap (λ (fs : List Finding). found_bad fs j k) c.requires.found
    ∙ states_found g.row.N n w slot.0 (record { nodes_are = sync.heard.nodes_are; me_is = sync.heard.me_is; expects = slot.1 }) slot.2 j k low used other within)
    (kind_where (other_body own (arrived body_said None (told_at w j))) state k
    ∙ ap (λ (b : Bool). b && k == state) (other_told own w slot.0 j slot.1 (let z = sync.heard.nodes_are in omega arith) (λ q. other (q ∙ sync.heard.me_is)))))
