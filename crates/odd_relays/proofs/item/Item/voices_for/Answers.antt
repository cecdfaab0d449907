use Rattle.std.proofs.Common.{sym, subst}
use Rattle.odd_relays.specs.Telling.{telling}
use Rattle.odd_relays.specs.Voices.{IsCounted, regular_relay, regular_members}
use Rattle.odd_relays.proofs.item.Item.voices_for.Goals as goal

pub returns-then-is_same : goal.returns-then-is_same
returns-then-is_same g c =
    let t = telling g.S.Relays.says c.args.self.now in
    subst (λ own. IsCounted g.V.PartialEq.eq own (regular_relay t) (regular_members t) c.args.voices.now) (sym (c.is_same.ensures c.if-is_same.true)) c.requires.counted
