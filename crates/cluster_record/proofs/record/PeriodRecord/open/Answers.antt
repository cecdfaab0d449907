use mathlib.Core.List.{not-mem-nil}
use Rattle.std.proofs.Common.{lit≤, ◌≤◌, refl, ◌∙◌, arith, inl, inr, lit<}
use Rattle.std.proofs.lemmas.List.{length-map}
use Rattle.agreed_state.specs.ConfigLaws.{few_rounds}
use Rattle.cluster_record.specs.Buffers.{slot_bytes}
use Rattle.cluster_record.proofs.record.PeriodRecord.open.Goals as goal

pub longest_frame-room-requires : goal.longest_frame-room-requires
longest_frame-room-requires g c =
    let wide : g.row.N ≤ 16 = elim g.bound-1.eight_or_sixteen [ inl e ↦ omega arith | inr e ↦ omega arith ] in
    record { nodes = omega (arith, c.requires.config.few_nodes, wide); rounds = few_rounds g.row.N c.args.config.now c.requires.config; fewer = c.requires.config.rounds }

pub no_records-requires : goal.no_records-requires
no_records-requires g c = elim g.bound-1.eight_or_sixteen [ inl e ↦ rw e (lit< tt) | inr e ↦ rw e (lit< tt) ]

pub slot_count-requires : goal.slot_count-requires
slot_count-requires g c = few_rounds g.row.N c.args.config.now c.requires.config

pub invariant_of-result : goal.invariant_of-result
invariant_of-result g c = record {
  capacity = g.bound-1.eight_or_sixteen;
  records = c.in-Ok.ensures;
  slots = c.in-Ok-all_buffers.ensures.0 ∙ c.slot_count.ensures;
  frames = c.in-Ok-all_buffers.ensures.1;
  room = c.longest_frame-room.ensures.greatest;
  short = c.longest_frame-room.ensures.short;
}

pub returns : goal.returns
returns g c = record {
  shape = record { nodes = refl; m = refl; retire = refl; slots = length-map c.in-Ok-all_buffers.sent.items slot_bytes ∙ c.in-Ok-all_buffers.ensures.0 ∙ c.slot_count.ensures };
  claimed = refl;
  clocks = refl;
}

pub returns-in_default : goal.returns-in_default
returns-in_default g c = tt

pub all_buffers-requires : goal.all_buffers-requires
all_buffers-requires g c = tt

pub returns-in_default-all_buffers : goal.returns-in_default-all_buffers
returns-in_default-all_buffers g c = tt

pub no_members-requires : goal.no_members-requires
no_members-requires g c = tt

pub empty-requires : goal.empty-requires
empty-requires g c = (lit< tt, elim g.bound-1.eight_or_sixteen [ inl e ↦ rw e (lit≤ tt) | inr e ↦ rw e (lit≤ tt) ])

pub drop-records-requires : goal.drop-records-requires
drop-records-requires g c κs = ((λ a m. absurd (not-mem-nil m)), (λ a m. absurd (not-mem-nil m)))
