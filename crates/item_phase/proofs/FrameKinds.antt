-- The kinds of error of frames of items.
use Rattle.std.proofs.Common.{ℕ, zero, suc, ◌≡◌, ◌<◌, ◌≤◌, Option, None, Some, sym, ap, ◌∙◌, arith}
use Rattle.frames.specs.Content.{Content}
use Rattle.error_detect.specs.declared.finding.Finding.{Finding}
use Rattle.error_detect.specs.declared.finding.Finding.TheVariants.{Good, Missing, Malformed, Timing, Cold}
use Rattle.error_detect.specs.Finding.{finding, kind_of, told}
use Rattle.fault_link.specs.Arrival.{delivered_of}
use Rattle.protocol.specs.Arrival.{Arrival, read_as, arrived}
use Rattle.protocol.specs.Heard.{paths_of}
use Rattle.protocol.specs.Talk.{Talk, frame_by, relay_said, item_said, rounds_upto}
use Rattle.protocol.specs.TalkLaws.{first_at, relay_at}
use Rattle.touched_items.specs.Items.{bad_kind}
use Rattle.heard_links.specs.Hearing.{frame_kind}
use Rattle.heard_links.proofs.Runs.{bad_with, relay_kind_is}

-- what came of a frame has a kind below that of a deviation
read_low : {C : Type 0} (o : Option C) (k : ℕ) → bad_kind (read_as o) ≡ Some k → k < 8
read_low None k h = let e : 1 ≡ k = cc in omega arith
read_low (Some c) k h = cc

arrived_low : {C : Type 0} (part : Content → Option C) (f : Finding) (o : Option Content) (k : ℕ) → bad_kind (arrived part (kind_of f) o) ≡ Some k → k < 8
arrived_low part Missing o k h = let e : 0 ≡ k = cc in omega arith
arrived_low part Malformed o k h = let e : 1 ≡ k = cc in omega arith
arrived_low part Timing o k h = let e : 2 ≡ k = cc in omega arith
arrived_low part Cold o k h = let e : 3 ≡ k = cc in omega arith
arrived_low part Good None k h = let e : 1 ≡ k = cc in omega arith
arrived_low part Good (Some c) k h = read_low (part c) k h

module _ {V : Type 0} (t : Talk V) (m i j k : ℕ) where
  first_low : bad_kind ((rounds_upto t m i).first j) ≡ Some k → k < 8
  first_low is =
      let sent = t.expect 0 j (t.members i) in
      let came = delivered_of (t.change 0 j i) (frame_by (t.expect 0 j (t.members j)) (item_said t j)) in
      arrived_low t.form.item_in (finding sent came) (told sent came) k (sym (ap (λ (f : ℕ → Arrival V). bad_kind (f j)) (first_at t m i)) ∙ is)

  relay_low : (r : ℕ) → r < m → bad_kind ((rounds_upto t m i).relay (suc r) j) ≡ Some k → k < 8
  relay_low r low is =
      let sent = t.expect (suc r) j (t.members i) in
      let came = delivered_of (t.change (suc r) j i) (frame_by (t.expect (suc r) j (t.members j)) (relay_said t (suc r) (rounds_upto t r j) j)) in
      arrived_low t.form.relay_in (finding sent came) (told sent came) k
      (sym (bad_with (paths_of (t.members i) (suc r) j) (arrived t.form.relay_in (kind_of (finding sent came)) (told sent came))) ∙ sym (ap bad_kind (relay_at t m r i j low)) ∙ is)

  -- so has each frame of the rounds
  pub kind_low : (r : ℕ) → r ≤ m → frame_kind (rounds_upto t m i) r j ≡ Some k → k < 8
  kind_low zero few is = first_low is
  kind_low (suc r) few is = relay_low r (omega (arith, few)) (sym (relay_kind_is (rounds_upto t m i) r j) ∙ is)
