-- What is sent, and what arrives of it.
use Rattle.std.proofs.Common.{ℕ, ◌≡◌, Bool, true, false, List, Option, None, Some, refl, sym, ap, ap₂, subst, ◌∙◌}
use Rattle.std.specs.Prelude.{is_some}
use Rattle.std.proofs.lemmas.Bool.{cond-true, cond-false}
use Rattle.node_grid.specs.NodeSet.{has_id}
use Rattle.frames.specs.Content.{Content, Expectation, State, Cold}
use Rattle.frames.specs.Seen.{content, expected}
use Rattle.frames.specs.Spelling.{head_of, IsInRange}
use Rattle.frames.specs.declared.frame.Head.{Head}
use Rattle.frames.specs.declared.frame.Body.{Body}
use Rattle.frames.specs.declared.frame.Expect.{Expect}
use Rattle.fault_classes.specs.Change.{Change}
use Rattle.protocol.specs.Talk.{arrives}
use Rattle.touched_frames.specs.Arrived.{IsSentAs, seen}
use Rattle.touched_frames.specs.declared.arrived.Arrived.{Arrived}
use Rattle.fault_classes.specs.Line.{effect_at}
use Rattle.agreed_state.specs.Agreed.{AgreedView, IsAgreed}
use Rattle.agreed_state.specs.Body.{body, state_len}
use Rattle.protocol.specs.Arrival.Arrival.{Good}
use Rattle.protocol.specs.Run.{state_content}
use Rattle.protocol.specs.Configured.{setting_of}
use Rattle.shared_states.specs.Sharing.{state_at}
use Rattle.heard_states.specs.Slot.{expected_of, told_state}
use Rattle.heard_states.specs.Told.{sent_by}
use Rattle.heard_states.specs.Hearing.{told_as, told_by, IsSending, IsSaid}
use Rattle.heard_states.specs.declared.sending.Sending.{Sending}
use Rattle.heard_states.specs.declared.sending.Told.TheVariants.{Sent}
use Rattle.heard_states.proofs.Frames.{told_clean, told_cold, body_long, said_fits}

module _ {N : ℕ} (x : Sending N) (ok : IsSending x) where
  -- what is sent is an agreed state
  pub sent_agreed : (j : ℕ) (a : AgreedView) → sent_by x.senders.full x.states.now j ≡ Some a → IsAgreed N x.slot.config.now a
  sent_agreed j a e = by (has_id x.senders.full j) refl
    where
      by : (b : Bool) → has_id x.senders.full j ≡ b → IsAgreed N x.slot.config.now a
      by true on = ok.agreed j a (sym (cond-true (has_id x.senders.full j) (state_at x.states.now j) None on) ∙ e)
      by false off = absurd (let z : None ≡ Some a = sym (cond-false (has_id x.senders.full j) (state_at x.states.now j) None off) ∙ e in cc)

  -- a frame that no line touches arrives as it is sent
  pub told_sent : (i j : ℕ) → effect_at x.slot.plan.now.lines x.slot.period 0 j i ≡ None → told_as x.slot.config.now (sent_by x.senders.full x.states.now j) Sent ≡ told_by x i j
  told_sent i j clean = by (sent_by x.senders.full x.states.now j) refl
    where
      by : (o : Option AgreedView) → sent_by x.senders.full x.states.now j ≡ o → told_as x.slot.config.now o Sent ≡ told_state x.slot.config.now x.slot.plan.now x.slot.period i j o
      by None e = sym (told_cold x.slot.config.now ok.slot_is.capacity ok.slot_is.config x.slot.period j x.slot.plan.now i clean)
      by (Some a) e = sym (told_clean x.slot.config.now ok.slot_is.capacity ok.slot_is.config x.slot.period j x.slot.plan.now i a (sent_agreed j a e) clean)

  -- what is said is a state of the right length, or that the node is cold
  pub said_is : (j : ℕ) → IsSaid (state_len x.slot.config.now) (state_content (setting_of x.slot.config.now) (sent_by x.senders.full x.states.now j))
  said_is j = by (sent_by x.senders.full x.states.now j) refl
    where
      by : (o : Option AgreedView) → sent_by x.senders.full x.states.now j ≡ o → IsSaid (state_len x.slot.config.now) (state_content (setting_of x.slot.config.now) o)
      by None e = tt
      by (Some a) e = body_long x.slot.config.now ok.slot_is.capacity ok.slot_is.config x.slot.period j a (sent_agreed j a e)

  -- the content of the frame of a full node, and of any other
  pub said_full : (j : ℕ) (bytes : List ℕ) → has_id x.senders.full j ≡ true → ((a : AgreedView) → sent_by x.senders.full x.states.now j ≡ Some a → bytes ≡ body x.slot.config.now a)
      → State bytes ≡ state_content (setting_of x.slot.config.now) (sent_by x.senders.full x.states.now j)
  said_full j bytes on is = by (state_at x.states.now j) refl
    where
      sent : sent_by x.senders.full x.states.now j ≡ state_at x.states.now j
      sent = cond-true (has_id x.senders.full j) (state_at x.states.now j) None on

      by : (o : Option AgreedView) → state_at x.states.now j ≡ o → State bytes ≡ state_content (setting_of x.slot.config.now) (sent_by x.senders.full x.states.now j)
      by (Some a) e = ap State (is a (sent ∙ e)) ∙ sym (ap (state_content (setting_of x.slot.config.now)) (sent ∙ e))
      by None e = absurd (let z : false ≡ true = sym (ap is_some e) ∙ ok.there j on in cc)

  pub said_cold : (j : ℕ) → has_id x.senders.full j ≡ false → Cold ≡ state_content (setting_of x.slot.config.now) (sent_by x.senders.full x.states.now j)
  said_cold j off = sym (ap (state_content (setting_of x.slot.config.now)) (cond-false (has_id x.senders.full j) (state_at x.states.now j) None off))

  -- what arrives of the frame that was read
  pub arrived_read : (j : ℕ) (change : Change) (e : Expect N) (frame : Body N) (head : Head) (r : Arrived N) → expected e ≡ expected_of x.slot.config.now x.slot.period j
      → content e.nodes frame ≡ state_content (setting_of x.slot.config.now) (sent_by x.senders.full x.states.now j) → head ≡ head_of (expected e)
      → ((sender : Expectation) → IsSentAs sender e.nodes head (content e.nodes frame) → seen e.nodes r ≡ arrives Some (Some change) sender (expected e) (content e.nodes frame))
      → seen e.nodes r ≡ arrives Some (Some change) (expected_of x.slot.config.now x.slot.period j) (expected_of x.slot.config.now x.slot.period j) (state_content (setting_of x.slot.config.now) (sent_by x.senders.full x.states.now j))
  arrived_read j change e frame head r is said head_is read =
      let fits = said_fits x.slot.config.now ok.slot_is.capacity ok.slot_is.config x.slot.period j (state_content (setting_of x.slot.config.now) (sent_by x.senders.full x.states.now j)) (said_is j) in
      read (expected e) (record {
        nodes_are = refl;
        head_is = sym head_is;
        in_range = subst (λ (c : Content). IsInRange (expected e) c) (sym said) (subst (λ (t : Expectation). IsInRange t (state_content (setting_of x.slot.config.now) (sent_by x.senders.full x.states.now j))) (sym is) fits);
      })
      ∙ ap₂ (λ (t : Expectation) (c : Content). arrives Some (Some change) t t c) is said

  -- the state of a full node, and its frame
  pub sent_full : (j : ℕ) → has_id x.senders.full j ≡ true → (b : AgreedView) × (state_at x.states.now j ≡ Some b) × (told_as x.slot.config.now (sent_by x.senders.full x.states.now j) Sent ≡ Good (body x.slot.config.now b))
  sent_full j on = by (state_at x.states.now j) refl
    where
      sent : sent_by x.senders.full x.states.now j ≡ state_at x.states.now j
      sent = cond-true (has_id x.senders.full j) (state_at x.states.now j) None on

      by : (o : Option AgreedView) → state_at x.states.now j ≡ o → (b : AgreedView) × (state_at x.states.now j ≡ Some b) × (told_as x.slot.config.now (sent_by x.senders.full x.states.now j) Sent ≡ Good (body x.slot.config.now b))
      by (Some b) e = (b, e, ap (λ (o : Option AgreedView). told_as x.slot.config.now o Sent) (sent ∙ e))
      by None e = absurd (let z : false ≡ true = sym (ap is_some e) ∙ ok.there j on in cc)
