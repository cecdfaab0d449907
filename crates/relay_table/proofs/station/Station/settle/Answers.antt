use Rattle.std.proofs.Common.{◌≡◌, ◌<◌, ◌≤◌, ◌+◌, ◌-◌, map, length, subst, ◌∙◌, inl, inr, lit<, arith}
use Rattle.relay_terms.specs.Terms.{said}
use Rattle.relay_table.specs.Settling.{AreSettled}
use Rattle.relay_table.proofs.station.Station.settle.Goals as goal

pub settle_longest-requires : goal.settle_longest-requires
settle_longest-requires g c =
    (lit< tt, (elim c.requires.station.seated.capacity_ok [ inl e ↦ rw e (lit< tt) | inr e ↦ rw e (lit< tt) ], (c.requires.station, (c.requires.some, (c.requires.walk, c.requires.room)))))

pub loop-done-init : goal.loop-done-init
loop-done-init g c =
    let s = c.args.self.now in
    let same : s.rounds ≡ s.rounds + 1 - 1 = omega arith in
    record {
      settled = λ x kept last. subst (λ len. AreSettled g.V.PartialEq.eq x s.others len (map said c.settle_longest.new.settled)) same (c.settle_longest.ensures.settled x kept last);
      long = c.settle_longest.ensures.length;
    }

pub settle_shorter-requires : goal.settle_shorter-requires
settle_shorter-requires g c =
    let room = c.requires.room in
    let len = c.args.self.now.rounds - c.loop-done.done in
    let some : 0 < len = omega (arith, c.loop-done-test.true) in
    let shorter : len < c.args.self.now.rounds = omega (arith, c.loop-done.auto.done, c.loop-done-test.true) in
    (lit< tt, (c.requires.station.seated, (some, (shorter, record { heard_ok = room.heard_ok; settled_ok = c.loop-done.invariant.long ∙ room.settled_ok; known = room.known }))))

pub loop-done-preserved : goal.loop-done-preserved
loop-done-preserved g c =
    let s = c.args.self.now in
    let done = c.loop-done.done in
    let i = c.loop-done.invariant in
    let eq = g.V.PartialEq.eq in
    let before : s.rounds + 1 - done ≡ s.rounds - done + 1 = omega (arith, c.loop-done-test.true) in
    let after : s.rounds - done ≡ s.rounds + 1 - (done + 1) = omega (arith, c.loop-done-test.true) in
    record {
      settled = λ x kept last.
          subst (λ len. AreSettled eq x s.others len (map said c.settle_shorter.new.settled)) after
          (c.settle_shorter.ensures.settled x kept (subst (λ len. AreSettled eq x s.others len (map said c.loop-done.settled)) before (i.settled x kept last)));
      long = c.settle_shorter.ensures.length ∙ i.long;
    }

pub returns : goal.returns
returns g c =
    let s = c.args.self.now in
    let i = c.loop-done.invariant in
    let all : s.rounds + 1 - c.loop-done.done ≡ 1 = omega (arith, c.loop-done-test.false, c.loop-done.auto.done-end c.requires.some) in
    record {
      settled = λ x kept last. subst (λ len. AreSettled g.V.PartialEq.eq x s.others len (map said c.loop-done.settled)) all (i.settled x kept last);
      length = i.long;
    }
