use Rattle.std.proofs.Common.{◌≡◌, ◌<◌, w64, ℕ, List, length, get_or, arith, ap, subst, sym, refl, ◌∙◌}
use Rattle.data_slot.specs.Votes.{is_off}
use Rattle.std.proofs.lemmas.List.{take_all}
use Rattle.mme_vote.specs.declared.channel.Channel.{Channel}
use Rattle.protocol.specs.Configured.{setting_of}
use Rattle.protocol.specs.View.{channel}
use Rattle.data_slot.proofs.Judging.{channel_there, not_judged, one_off, not_far}
use mir.Val.{to_z, of_z, SFits}
use Rattle.std.proofs.lemmas.Int.{to_z-of_z}
use Rattle.data_slot.proofs.vote.is_off.Goals as goal
use Rattle.data_slot.proofs.vote.is_off.Goals.{else-is_judged-via-then-is_judged+else-is_far, else-is_judged-via-else-is_judged}

pub bounds-due-k : goal.bounds-due-k
bounds-due-k g c = c.loop-k-test.true

pub bounds-deref-c : goal.bounds-deref-c
bounds-deref-c g c = subst (λ (xs : List (Channel g.row.N)). get_or c.args.due.now c.loop-k.k 0 < length xs) (sym c.deref.ensures.0) (c.requires.channels c.loop-k.k 0 c.loop-k-test.true)

pub bounds-votes-c : goal.bounds-votes-c
bounds-votes-c g c = let low = c.requires.channels c.loop-k.k 0 c.loop-k-test.true in let few = c.requires.config.few_channels in omega arith

pub is_far-requires : goal.is_far-requires
is_far-requires g c = tt

pub loop-k-init : goal.loop-k-init
loop-k-init g c = refl

pub loop-k-smaller : goal.loop-k-smaller
loop-k-smaller g c = let t = c.loop-k-test.true in omega arith

pub offset_bounds-deref-c : goal.offset_bounds-deref-c
offset_bounds-deref-c g c = let low : get_or c.args.due.now c.loop-k.k 0 < length c.deref.result.now = bounds-deref-c g c in omega arith

pub offset_bounds-votes-c : goal.offset_bounds-votes-c
offset_bounds-votes-c g c = let low = c.requires.channels c.loop-k.k 0 c.loop-k-test.true in let few = c.requires.config.few_channels in omega arith

pub overflow_cast-c : goal.overflow_cast-c
overflow_cast-c g c = let low = c.requires.channels c.loop-k.k 0 c.loop-k-test.true in let few = c.requires.config.few_channels in omega arith

pub overflow_cast-channel : goal.overflow_cast-channel
overflow_cast-channel g c = let low = c.requires.channels c.loop-k.k 0 c.loop-k-test.true in let few = c.requires.config.few_channels in omega arith

pub returns : goal.returns
returns g c =
    sym (ap (λ (ds : List ℕ). is_off c.args.config.now ds c.args.told.now c.args.votes.now c.args.node) (sym (take_all c.loop-k.k c.args.due.now c.loop-k-test.false)) ∙ c.loop-k.invariant)

pub returns-then-is_far : goal.returns-then-is_far
returns-then-is_far g c =
    let there : c.index-deref-c.result ≡ channel (setting_of c.args.config.now) (get_or c.args.due.now c.loop-k.k 0) = channel_there c.args.config.now c.deref.result.now (get_or c.args.due.now c.loop-k.k 0) c.index-deref-c.result c.deref.ensures.0 (subst (λ (xs : List (Channel g.row.N)). get_or c.args.due.now c.loop-k.k 0 < length xs) (sym c.deref.ensures.0) (c.requires.channels c.loop-k.k 0 c.loop-k-test.true)) c.index-deref-c.is in
    let fits : SFits w64 c.delta.result = record { sfits = c.delta.type_inv } in
    one_off c.args.config.now c.args.told.now c.args.votes.now c.args.node c.args.due.now c.loop-k.k c.loop-k-test.true c.index-deref-c.result there (to_z w64 (of_z w64 c.delta.result)) (to_z-of_z w64 c.delta.result fits ∙ c.delta.ensures) c.value_told.result c.value_told.ensures c.is_far.result c.is_far.ensures
    (sym c.is_judged.ensures ∙ c.if-is_judged.true) c.if-is_far.true

pub loop-k-preserved : goal.loop-k-preserved
loop-k-preserved g c =
    let there : c.index-deref-c.result ≡ channel (setting_of c.args.config.now) (get_or c.args.due.now c.loop-k.k 0) = channel_there c.args.config.now c.deref.result.now (get_or c.args.due.now c.loop-k.k 0) c.index-deref-c.result c.deref.ensures.0 (subst (λ (xs : List (Channel g.row.N)). get_or c.args.due.now c.loop-k.k 0 < length xs) (sym c.deref.ensures.0) (c.requires.channels c.loop-k.k 0 c.loop-k-test.true)) c.index-deref-c.is in
    elim c.else-is_judged.branch [
      | else-is_judged-via-then-is_judged+else-is_far w ↦
          let fits : SFits w64 w.delta.result = record { sfits = w.delta.type_inv } in
          not_far c.args.config.now c.args.told.now c.args.votes.now c.args.node c.args.due.now c.loop-k.k c.loop-k-test.true c.index-deref-c.result there (to_z w64 (of_z w64 w.delta.result)) (to_z-of_z w64 w.delta.result fits ∙ w.delta.ensures) w.value_told.result w.value_told.ensures w.is_far.result w.is_far.ensures
          (sym c.is_judged.ensures ∙ w.if-is_judged.true) c.loop-k.invariant w.if-is_far.false
      | else-is_judged-via-else-is_judged w ↦ not_judged c.args.config.now c.args.told.now c.args.votes.now c.args.node c.args.due.now c.loop-k.k c.loop-k-test.true c.index-deref-c.result there c.loop-k.invariant (sym c.is_judged.ensures ∙ w.if-is_judged.false)
    ]
