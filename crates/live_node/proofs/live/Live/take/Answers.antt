use Rattle.std.proofs.Common.{◌≡◌, ◌<◌, ◌≤◌, ◌+◌, ◌*◌, ℕ, List, true, false, length, take, refl, sym, ap, subst, ◌∙◌, arith, inl, inr, lit<}
use Rattle.std.specs.Prelude.{None, Some, option_map}
use Rattle.span_io.specs.Causes.{Writes}
use Rattle.run_print.specs.declared.WriteFault.{WriteFault}
use Rattle.live_node.specs.Live.{LiveView, is_of_cluster, allowed, told, answer}
use Rattle.live_node.specs.Seen.{event_in, FitsIn, IsAnswered}
use Rattle.live_node.proofs.Held.{said_later}
use Rattle.std.proofs.Common.{◌++◌, Result, drop, take_at}
use Rattle.live_node.proofs.Taking.{no_event, unknown, not_now, goes, longest_kept, refused, taken_ok, taken_err}
use Rattle.live_node.specs.Event.{event_of}
use Rattle.live_node.specs.Live.{line_step, unknown_rule, not_now_rule}
use Rattle.live_node.specs.Taking.{Takes}
use Rattle.live_node.specs.declared.live.Refusal.{Refusal}
use Rattle.live_node.specs.declared.live.Refusal.TheVariants.{Unknown, NotNow}
use Rattle.live_node.proofs.Held.{answered}
use Rattle.live_node.proofs.live.Live.take.Goals.{in-Ok, in-Err}
use Rattle.live_node.proofs.live.Live.take.Goals as goal

pub event_of-requires : goal.event_of-requires
event_of-requires g c =
    let long : c.self.inside.node.longest ≤ 2 * length c.self.inside.arrived.items + 1 = c.self.invariant in
    let room = ap length c.as_mut_slice.ensures.value in
    let same : c.self.inside.node.longest ≡ c.args.self.now.longest = ap (λ (x : LiveView g.row.N). x.longest) c.self.view_is in
    let short = c.requires.short in
    record { fits = omega (arith, long, room, same, short) }

pub invariant_of-self : goal.invariant_of-self
invariant_of-self g c =
    let whole : take c.self.inside.arrived.len (c.event_of.new.room ++ drop (length c.event_of.new.room) c.self.inside.arrived.items) ≡ c.event_of.new.room =
    take_at c.event_of.new.room (drop (length c.event_of.new.room) c.self.inside.arrived.items) c.self.inside.arrived.len (c.event_of.ensures.room ∙ c.as_mut_slice.ensures.len) in
    let room : length (take c.self.inside.arrived.len (c.event_of.new.room ++ drop (length c.event_of.new.room) c.self.inside.arrived.items)) ≡ length c.self.inside.arrived.items =
    ap length whole ∙ c.event_of.ensures.room ∙ ap length c.as_mut_slice.ensures.value in
    let long : c.self.inside.node.longest ≤ 2 * length c.self.inside.arrived.items + 1 = c.self.invariant in
    let fits : c.self.inside.node.longest ≤ 2 * length (take c.self.inside.arrived.len (c.event_of.new.room ++ drop (length c.event_of.new.room) c.self.inside.arrived.items)) + 1 = omega (arith, room, long) in
    fits

pub invariant_of-self-then-not-is_of_cluster : goal.invariant_of-self-then-not-is_of_cluster
invariant_of-self-then-not-is_of_cluster g c =
    let whole : take c.self.inside.arrived.len (c.event_of.new.room ++ drop (length c.event_of.new.room) c.self.inside.arrived.items) ≡ c.event_of.new.room =
    take_at c.event_of.new.room (drop (length c.event_of.new.room) c.self.inside.arrived.items) c.self.inside.arrived.len (c.event_of.ensures.room ∙ c.as_mut_slice.ensures.len) in
    let room : length (take c.self.inside.arrived.len (c.event_of.new.room ++ drop (length c.event_of.new.room) c.self.inside.arrived.items)) ≡ length c.self.inside.arrived.items =
    ap length whole ∙ c.event_of.ensures.room ∙ ap length c.as_mut_slice.ensures.value in
    let long : c.self.inside.node.longest ≤ 2 * length c.self.inside.arrived.items + 1 = c.self.invariant in
    let fits : c.self.inside.node.longest ≤ 2 * length (take c.self.inside.arrived.len (c.event_of.new.room ++ drop (length c.event_of.new.room) c.self.inside.arrived.items)) + 1 = omega (arith, room, long) in
    fits

pub invariant_of-self-then-not-allows : goal.invariant_of-self-then-not-allows
invariant_of-self-then-not-allows g c =
    let whole : take c.self.inside.arrived.len (c.event_of.new.room ++ drop (length c.event_of.new.room) c.self.inside.arrived.items) ≡ c.event_of.new.room =
    take_at c.event_of.new.room (drop (length c.event_of.new.room) c.self.inside.arrived.items) c.self.inside.arrived.len (c.event_of.ensures.room ∙ c.as_mut_slice.ensures.len) in
    let room : length (take c.self.inside.arrived.len (c.event_of.new.room ++ drop (length c.event_of.new.room) c.self.inside.arrived.items)) ≡ length c.self.inside.arrived.items =
    ap length whole ∙ c.event_of.ensures.room ∙ ap length c.as_mut_slice.ensures.value in
    let long : c.self.inside.node.longest ≤ 2 * length c.self.inside.arrived.items + 1 = c.self.invariant in
    let fits : c.self.inside.node.longest ≤ 2 * length (take c.self.inside.arrived.len (c.event_of.new.room ++ drop (length c.event_of.new.room) c.self.inside.arrived.items)) + 1 = omega (arith, room, long) in
    fits

pub is_of_cluster-requires : goal.is_of_cluster-requires
is_of_cluster-requires g c =
    elim g.bound-1.eight_or_sixteen [ inl e ↦ rw e (lit< tt) | inr e ↦ rw e (lit< tt) ]

pub allows-requires : goal.allows-requires
allows-requires g c =
    elim g.bound-1.eight_or_sixteen [ inl e ↦ rw e (lit< tt) | inr e ↦ rw e (lit< tt) ]

pub returns-in_default : goal.returns-in_default
returns-in_default g c =
    let none : event_of c.args.line.now ≡ None = sym c.event_of.ensures.event ∙ ap (option_map (event_in c.event_of.new.room)) c.in_default.is in
    refused g.K.Sink.written g.K.Sink.faults c.args.self.now c.self.inside.node c.args.sink.now c.args.sink.now (line_step c.args.self.now c.args.line.now) (Unit {0}) unknown_rule Unknown (no_event c.args.self.now c.args.line.now none) c.self.view_is refl

pub returns-then-not-is_of_cluster : goal.returns-then-not-is_of_cluster
returns-then-not-is_of_cluster g c =
    let tells : event_of c.args.line.now ≡ Some (event_in c.event_of.new.room c.in-Some.event) = sym c.event_of.ensures.event ∙ ap (option_map (event_in c.event_of.new.room)) c.in-Some.is in
    let off : is_of_cluster c.args.self.now (event_in c.event_of.new.room c.in-Some.event) ≡ false =
    sym (ap (λ (x : LiveView g.row.N). is_of_cluster x (event_in c.event_of.new.room c.in-Some.event)) c.self.view_is) ∙ sym (c.is_of_cluster.ensures c.event_of.new.room) ∙ c.if-not-is_of_cluster.true in
    refused g.K.Sink.written g.K.Sink.faults c.args.self.now c.self.inside.node c.args.sink.now c.args.sink.now (line_step c.args.self.now c.args.line.now) (Unit {0}) unknown_rule Unknown (unknown c.args.self.now c.args.line.now (event_in c.event_of.new.room c.in-Some.event) tells off) c.self.view_is refl

pub returns-then-not-allows : goal.returns-then-not-allows
returns-then-not-allows g c =
    let tells : event_of c.args.line.now ≡ Some (event_in c.event_of.new.room c.in-Some.event) = sym c.event_of.ensures.event ∙ ap (option_map (event_in c.event_of.new.room)) c.in-Some.is in
    let of : is_of_cluster c.args.self.now (event_in c.event_of.new.room c.in-Some.event) ≡ true =
    sym (ap (λ (x : LiveView g.row.N). is_of_cluster x (event_in c.event_of.new.room c.in-Some.event)) c.self.view_is) ∙ sym (c.is_of_cluster.ensures c.event_of.new.room) ∙ c.if-not-is_of_cluster.false in
    let off : allowed c.args.self.now (event_in c.event_of.new.room c.in-Some.event) ≡ false =
    sym (ap (λ (x : LiveView g.row.N). allowed x (event_in c.event_of.new.room c.in-Some.event)) c.self.view_is) ∙ sym (c.allows.ensures.event c.event_of.new.room) ∙ c.if-not-allows.true in
    refused g.K.Sink.written g.K.Sink.faults c.args.self.now c.self.inside.node c.args.sink.now c.args.sink.now (line_step c.args.self.now c.args.line.now) (Unit {0}) not_now_rule NotNow (not_now c.args.self.now c.args.line.now (event_in c.event_of.new.room c.in-Some.event) tells of off) c.self.view_is refl

pub tell-requires : goal.tell-requires
tell-requires g c =
    let whole : take c.self.inside.arrived.len (c.event_of.new.room ++ drop (length c.event_of.new.room) c.self.inside.arrived.items) ≡ c.event_of.new.room =
    take_at c.event_of.new.room (drop (length c.event_of.new.room) c.self.inside.arrived.items) c.self.inside.arrived.len (c.event_of.ensures.room ∙ c.as_mut_slice.ensures.len) in
    let room : length c.as_slice.result.now ≡ length c.as_mut_slice.result.now = ap length c.as_slice.ensures.value ∙ ap length whole ∙ c.event_of.ensures.room in (
      elim g.bound-1.eight_or_sixteen [ inl e ↦ rw e (lit< tt) | inr e ↦ rw e (lit< tt) ],
      (
        sym (c.is_of_cluster.ensures c.as_slice.result.now) ∙ c.if-not-is_of_cluster.false,
        (sym (c.allows.ensures.event c.as_slice.result.now) ∙ c.if-not-allows.false, subst (λ n. FitsIn n c.in-Some.event) (sym room) c.in-Some.ensures.fits),
      ),
    )

pub answer-requires : goal.answer-requires
answer-requires g c =
    let later : IsAnswered c.in-Some.event → 0 < (told c.self.inside.node (event_in c.as_slice.result.now c.in-Some.event)).next = λ a.
    said_later c.self.inside.node c.allows.ensures.live (event_in c.as_slice.result.now c.in-Some.event) (sym (c.allows.ensures.event c.as_slice.result.now) ∙ c.if-not-allows.false) (answered c.as_slice.result.now c.in-Some.event a) in
    (elim g.bound-1.eight_or_sixteen [ inl e ↦ rw e (lit< tt) | inr e ↦ rw e (lit< tt) ], λ a. subst (λ (x : LiveView g.row.N). 0 < x.next) (sym c.tell.ensures) (later a))

pub invariant_of-self-2 : goal.invariant_of-self-2
invariant_of-self-2 g c =
    let whole : take c.self.inside.arrived.len (c.event_of.new.room ++ drop (length c.event_of.new.room) c.self.inside.arrived.items) ≡ c.event_of.new.room =
    take_at c.event_of.new.room (drop (length c.event_of.new.room) c.self.inside.arrived.items) c.self.inside.arrived.len (c.event_of.ensures.room ∙ c.as_mut_slice.ensures.len) in
    let room : length (take c.self.inside.arrived.len (c.event_of.new.room ++ drop (length c.event_of.new.room) c.self.inside.arrived.items)) ≡ length c.self.inside.arrived.items =
    ap length whole ∙ c.event_of.ensures.room ∙ ap length c.as_mut_slice.ensures.value in
    let kept : c.answer.new.self.longest ≡ c.self.inside.node.longest = ap (λ (x : LiveView g.row.N). x.longest) (c.answer.ensures.same ∙ c.tell.ensures) ∙ longest_kept c.self.inside.node (event_in c.as_slice.result.now c.in-Some.event) in
    let long : c.self.inside.node.longest ≤ 2 * length c.self.inside.arrived.items + 1 = c.self.invariant in
    let fits : c.answer.new.self.longest ≤ 2 * length (take c.self.inside.arrived.len (c.event_of.new.room ++ drop (length c.event_of.new.room) c.self.inside.arrived.items)) + 1 = omega (arith, room, long, kept) in
    fits

pub returns : goal.returns
returns g c =
    let whole : take c.self.inside.arrived.len (c.event_of.new.room ++ drop (length c.event_of.new.room) c.self.inside.arrived.items) ≡ c.event_of.new.room =
    take_at c.event_of.new.room (drop (length c.event_of.new.room) c.self.inside.arrived.items) c.self.inside.arrived.len (c.event_of.ensures.room ∙ c.as_mut_slice.ensures.len) in
    let tells : event_of c.args.line.now ≡ Some (event_in c.event_of.new.room c.in-Some.event) = sym c.event_of.ensures.event ∙ ap (option_map (event_in c.event_of.new.room)) c.in-Some.is in
    let e = event_in c.event_of.new.room c.in-Some.event in
    let of : is_of_cluster c.args.self.now e ≡ true =
    sym (ap (λ (x : LiveView g.row.N). is_of_cluster x e) c.self.view_is) ∙ sym (c.is_of_cluster.ensures c.event_of.new.room) ∙ c.if-not-is_of_cluster.false in
    let may : allowed c.args.self.now e ≡ true =
    sym (ap (λ (x : LiveView g.row.N). allowed x e) c.self.view_is) ∙ sym (c.allows.ensures.event c.event_of.new.room) ∙ c.if-not-allows.false in
    let step = goes c.args.self.now c.args.line.now e tells of may in
    let here : c.tell.new.self ≡ told c.args.self.now e =
    c.tell.ensures ∙ ap (λ (r : List ℕ). told c.self.inside.node (event_in r c.in-Some.event)) (c.as_slice.ensures.value ∙ whole) ∙ ap (λ (x : LiveView g.row.N). told x e) c.self.view_is in
    let wrote = subst (λ (x : LiveView g.row.N). Writes {T = Unit {0}} {E = WriteFault} (g.K.Sink.written c.args.sink.now) (g.K.Sink.written c.answer.new.sink) (g.K.Sink.faults c.args.sink.now) (g.K.Sink.faults c.answer.new.sink) (answer x e) c.answer.result) here (c.answer.ensures.wrote c.event_of.new.room) in
    elim c.match-answer.branch [
      | in-Ok w ↦
          subst (λ (r : Result (Unit {0}) Refusal). Takes g.K.Sink.written g.K.Sink.faults c.args.self.now c.args.sink.now c.answer.new.self c.answer.new.sink (line_step c.args.self.now c.args.line.now) r) (sym w.result-is)
          (taken_ok g.K.Sink.written g.K.Sink.faults c.args.self.now c.answer.new.self c.args.sink.now c.answer.new.sink (line_step c.args.self.now c.args.line.now) (Unit {0}) (Unit {0}) (told c.args.self.now e) (answer (told c.args.self.now e) e) c.answer.result step (c.answer.ensures.same ∙ here) wrote w.in-Ok.field-0 tt w.in-Ok.is)
      | in-Err w ↦
          subst (λ (r : Result (Unit {0}) Refusal). Takes g.K.Sink.written g.K.Sink.faults c.args.self.now c.args.sink.now c.answer.new.self c.answer.new.sink (line_step c.args.self.now c.args.line.now) r) (sym w.result-is)
          (taken_err g.K.Sink.written g.K.Sink.faults c.args.self.now c.answer.new.self c.args.sink.now c.answer.new.sink (line_step c.args.self.now c.args.line.now) (Unit {0}) (Unit {0}) (told c.args.self.now e) (answer (told c.args.self.now e) e) c.answer.result step (c.answer.ensures.same ∙ here) wrote w.in-Err.field-0 w.in-Err.is)
    ]
