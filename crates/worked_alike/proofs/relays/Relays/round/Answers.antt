use Rattle.std.proofs.Common.{◌*◌, sym, ap, ◌∙◌, arith}
use Rattle.worked_alike.proofs.Rounds.{none_taken, one_taken, walks}
use Rattle.worked_alike.proofs.relays.Relays.round.Goals as goal
use Rattle.worked_alike.proofs.relays.Relays.round.Goals.{then-has, else-has}

pub loop-sender-init : goal.loop-sender-init
loop-sender-init c =
    let e = c.open-round.ensures in
    record {
      taken = none_taken c.args.self.now.came (2 * c.args.self.now.entries) c.open-round.result e.begins e.next e.none;
      room = e.room ∙ c.as_slice.ensures.value;
      width = e.width;
      size = e.size;
    }

pub loop-sender-preserved : goal.loop-sender-preserved
loop-sender-preserved c =
    let i = c.loop-sender.invariant in
    let size = 2 * c.args.self.now.entries in
    elim c.if-has.branch [
      | then-has w ↦
          let e = w.put.ensures in
          record {
            taken = one_taken c.args.self.now.came size c.loop-sender.sender c.loop-sender.round c.if-has.round (omega (arith, c.loop-sender-test.true)) (sym c.has.ensures ∙ w.if-has.true) i.taken
                (ap (λ r. r.begins) w.round-is ∙ e.begins) (ap (λ r. r.next) w.round-is ∙ e.next) (ap (λ r. r.present) w.round-is ∙ e.present);
            room = ap (λ r. r.room.now) w.round-is ∙ e.room ∙ i.room;
            width = ap (λ r. r.width) w.round-is ∙ e.width ∙ i.width;
            size = ap (λ r. r.size) w.round-is ∙ e.size ∙ i.size;
          }
      | else-has w ↦ rw w.round-is i
    ]

pub returns : goal.returns
returns c =
    let self = c.args.self.now in
    let i = c.loop-sender.invariant in
    walks self.came self.room.items self.entries c.loop-sender.round self.whole self.tagged i.room i.width i.size i.taken
