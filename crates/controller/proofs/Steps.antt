-- What the node's call says of a line, as the session has it.
use Rattle.std.proofs.Common.{◌≡◌, ℕ, List, [], append-nil, refl, sym, ap, ◌∙◌, subst, Option, None, Some, Ok, Err, inl, inr, ⊎_elim}
use Rattle.std.specs.Prelude.{◌⊎◌}
use Rattle.std.specs.Io.KnownBytes.{Keeps, Appends}
use Rattle.live_node.specs.Live.{LiveView, Step, line_step, unknown_rule, not_now_rule}
use Rattle.live_node.specs.Live.Step.{Goes, Refuses}
use Rattle.live_node.specs.Taking.{Takes, refusal_by}
use Rattle.live_node.specs.declared.live.Refusal.{Refusal}
use Rattle.live_node.specs.declared.live.Refusal.TheVariants.{Unknown, NotNow, WriteFault}
use Rattle.run_text.specs.PeriodText.{refused_text}
use Rattle.input_lines.specs.Devices.{sink_seen, WritesAll, WritesFront, WritesSome, all_some}
use Rattle.controller.specs.Outcome.{capacity}
use Rattle.controller.specs.Session.{StopsAtLine}
use Rattle.program_words.specs.declared.status.Status.{Status}
use Rattle.program_words.specs.declared.status.Status.TheVariants.{Refused}
use Rattle.controller.proofs.Courses.{step_rule}

pub kept_nothing : (a b : Option (List ℕ)) → Keeps a b → Appends a b []
kept_nothing None b h = tt
kept_nothing (Some xs) None h = h
kept_nothing (Some xs) (Some ys) h = h ∙ sym (append-nil xs)

module _ {N : ℕ} {K : Type 0} (written : K → Option (List ℕ)) (faults : K → ℕ) (old new : LiveView N) (k l : K) where
  -- the line was taken
  pub goes_ok : (s : Step N) (u : Unit {0}) → Takes written faults old k new l s (Ok u) → (text : List ℕ) × (s ≡ Goes new text) × WritesAll (sink_seen written faults k) (sink_seen written faults l) text
  goes_ok (Goes after text) u a = (text, ap (λ x. Goes x text) (sym a.stands), (a.wrote.whole, a.wrote.faultless))
  goes_ok (Refuses rule) u a = absurd (let h = a.says in cc)

  -- it was refused by a rule that answers so
  pub refused_err : (s : Step N) (e : Refusal) → Takes {T = Unit {0}} written faults old k new l s (Err e)
      → ((rule : ℕ) × (s ≡ Refuses rule) × (e ≡ refusal_by rule) × WritesAll (sink_seen written faults k) (sink_seen written faults l) [])
      ⊎ ((text : List ℕ) × (s ≡ Goes new text) × (e ≡ WriteFault) × WritesFront (sink_seen written faults k) (sink_seen written faults l) text)
  refused_err (Goes after text) e a = inr (text, ap (λ x. Goes x text) (sym a.stands), a.fault, (a.wrote.prefix, a.wrote.failed))
  refused_err (Refuses rule) e a = inl (rule, refl, (let h = a.says in cc), (kept_nothing (written k) (written l) a.silent, a.faultless))

unknown_by : (rule : ℕ) → (rule ≡ unknown_rule) ⊎ (rule ≡ not_now_rule) → refusal_by rule ≡ Unknown → rule ≡ unknown_rule
unknown_by rule (inl is) h = is
unknown_by rule (inr is) h = absurd (let other : refusal_by rule ≡ NotNow = ap refusal_by is in cc)

not_now_by : (rule : ℕ) → (rule ≡ unknown_rule) ⊎ (rule ≡ not_now_rule) → refusal_by rule ≡ NotNow → rule ≡ not_now_rule
not_now_by rule (inl is) h = absurd (let other : refusal_by rule ≡ Unknown = ap refusal_by is in cc)
not_now_by rule (inr is) h = is

fault_by : (rule : ℕ) → (rule ≡ unknown_rule) ⊎ (rule ≡ not_now_rule) → refusal_by rule ≡ WriteFault → ⊥
fault_by rule (inl is) h = let other : refusal_by rule ≡ Unknown = ap refusal_by is in cc
fault_by rule (inr is) h = let other : refusal_by rule ≡ NotNow = ap refusal_by is in cc

module _ {K : Type 0} (written : K → Option (List ℕ)) (faults : K → ℕ) (v w : LiveView capacity) (line : List ℕ) (n : ℕ) (k l m : K) (status : Status) where
  -- a refusal's line was written behind nothing
  stops_at : (rule : ℕ) → line_step v line ≡ Refuses rule → WritesAll (sink_seen written faults k) (sink_seen written faults l) [] → status ≡ Refused
      → WritesSome (sink_seen written faults l) (sink_seen written faults m) (refused_text rule n) → StopsAtLine status v line n (sink_seen written faults k) (sink_seen written faults m)
  stops_at rule is silent refused wrote =
      subst (λ s. StopsAtLine s v line n (sink_seen written faults k) (sink_seen written faults m)) (sym refused)
      (rule, is, all_some (sink_seen written faults k) (sink_seen written faults l) (sink_seen written faults m) [] (refused_text rule n) silent wrote)

  -- the line is no event of this cluster
  pub stops_unknown : (e : Refusal) → e ≡ Unknown → Takes {T = Unit {0}} written faults v k w l (line_step v line) (Err e) → status ≡ Refused
      → WritesSome (sink_seen written faults l) (sink_seen written faults m) (refused_text 20 n) → StopsAtLine status v line n (sink_seen written faults k) (sink_seen written faults m)
  stops_unknown e is a refused wrote = ⊎_elim
      (λ h. let rule = unknown_by h.0 (step_rule v line h.0 h.1) (sym h.2 ∙ is) in
      stops_at h.0 h.1 h.3 refused (subst (λ r. WritesSome (sink_seen written faults l) (sink_seen written faults m) (refused_text r n)) (sym rule) wrote))
      (λ h. absurd (let other = h.2 in cc)) (refused_err written faults v w k l (line_step v line) e a)

  -- its event may not come now
  pub stops_not_now : (e : Refusal) → e ≡ NotNow → Takes {T = Unit {0}} written faults v k w l (line_step v line) (Err e) → status ≡ Refused
      → WritesSome (sink_seen written faults l) (sink_seen written faults m) (refused_text 21 n) → StopsAtLine status v line n (sink_seen written faults k) (sink_seen written faults m)
  stops_not_now e is a refused wrote = ⊎_elim
      (λ h. let rule = not_now_by h.0 (step_rule v line h.0 h.1) (sym h.2 ∙ is) in
      stops_at h.0 h.1 h.3 refused (subst (λ r. WritesSome (sink_seen written faults l) (sink_seen written faults m) (refused_text r n)) (sym rule) wrote))
      (λ h. absurd (let other = h.2 in cc)) (refused_err written faults v w k l (line_step v line) e a)

  -- its answer could not be written
  pub stops_fault : (e : Refusal) → e ≡ WriteFault → Takes {T = Unit {0}} written faults v k w l (line_step v line) (Err e)
      → (u : LiveView capacity) × (text : List ℕ) × (line_step v line ≡ Goes u text) × WritesFront (sink_seen written faults k) (sink_seen written faults l) text
  stops_fault e is a = ⊎_elim (λ h. absurd (fault_by h.0 (step_rule v line h.0 h.1) (sym h.2 ∙ is))) (λ h. (w, h.0, h.1, h.3)) (refused_err written faults v w k l (line_step v line) e a)
