-- The bodies of the frames that were told stand in the room.
use Rattle.std.proofs.Common.{◌≡◌, ℕ, ◌+◌, ◌*◌, ◌<◌, ◌≤◌, Bool, List, length, take, drop, drop-drop, Option, Some, None, refl, sym, ap, ◌∙◌, subst, arith, inl, inr}
use Rattle.std.specs.Prelude.{IfSome}
use Rattle.std.proofs.lemmas.Bool.{cases_Bool, cond-true, cond-false}
use Rattle.std.proofs.lemmas.List.{drop-take}
use Rattle.frames.specs.Content.{Expectation, Content}
use Rattle.frames.specs.Spelling.{head_of, body_spelling}
use Rattle.frames.specs.Reading.{reading}
use Rattle.frames.specs.ReadingLaws.{reads_only, is_frame, body_length}
use Rattle.slot_plan.specs.Ticks.{is_in_window}
use Rattle.error_detect.specs.Facts.{told_read}
use Rattle.error_detect.specs.Finding.{told_of}
use Rattle.error_detect.specs.Watching.{Held, held_none, held_bytes, held_long, held_many, Boxes, held_at, Watch, watch_of, arrival_of, of_sender, told_by, told_at}
use Rattle.error_detect.specs.Inside.{IsKept, StandsAt}
use Rattle.error_detect.specs.Putting.{HasAt}
use Rattle.error_detect.specs.Entries.{HoldsBodies, body_begin}
use Rattle.error_detect.proofs.Boxes.{told_from}

-- a frame that stands in a room has its body behind its header
body_of : (e : Expectation) (c : Content) (bytes room : List ℕ) (at : ℕ) → reading e bytes ≡ Some c → HasAt room at bytes → HasAt room (at + 14) (body_spelling e.nodes c)
body_of e c bytes room at read has =
    let only = reads_only e c bytes read in
    let body : List ℕ = body_spelling e.nodes c in
    let long : length bytes ≡ 14 + length body = ap length only.1 ∙ body_length e.nodes (head_of e) c in
    record {
      within = omega (arith, has.within, long);
      there =
          ap (take (length body)) (sym (drop-drop 14 at room))
          ∙ sym (drop-take 14 (length body) (drop at room))
          ∙ ap (λ n. drop 14 (take n (drop at room))) (sym long)
          ∙ ap (drop 14) (has.there ∙ only.1)
          ∙ (is_frame e c only.0).body;
    }

body_held : (e : Expectation) (c : Content) (room : List ℕ) (at : ℕ) (h : Held) → StandsAt room at h → told_by e (arrival_of h) ≡ Some c → HasAt room (at + 14) (body_spelling e.nodes c)
body_held e c room at held_none stands told = absurd (cc)
body_held e c room at (held_bytes t b f) stands told = elim (cases_Bool (is_in_window t)) [
  | inl y ↦ body_of e c b room at (told_read (reading e b) c (sym (cond-true (is_in_window t) (told_of (reading e b)) None y) ∙ told)) stands
  | inr n ↦ let no : None ≡ Some c = sym (cond-false (is_in_window t) (told_of (reading e b)) None n) ∙ told in absurd (cc)
]
body_held e c room at (held_long t) stands told = absurd (cc)
body_held e c room at held_many stands told = absurd (cc)

module _ (n nodes me : ℕ) (o : Option Expectation) (shown : Bool) (b : Boxes) (marks : List ℕ) (room : List ℕ) (stands : (q : ℕ) → StandsAt room (q * b.frame_max) (held_at b q)) where
  abbrev inside : Watch
  inside = watch_of nodes me o shown b

  all_held : IsKept n inside b.held marks → HoldsBodies inside room
  all_held kept j c node other told = by_case o refl
    where
      by_case : (p : Option Expectation) → o ≡ p → HasAt room (body_begin inside j) (body_spelling nodes c)
      by_case None is =
          let no : None ≡ Some c = sym (ap (λ (q : Option Expectation). told_at (watch_of nodes me q shown b) j) is) ∙ told in absurd (cc)
      by_case (Some e) is =
          let readable = subst (λ q. IfSome q (λ (y : Expectation). (y.nodes ≡ nodes) × (0 < y.nodes) × (y.m ≤ 3))) is kept.inboxes.readable in
          subst (λ (k : ℕ). HasAt room (j * b.frame_max + 14) (body_spelling k c)) readable.0
          (body_held (of_sender j e) c room (j * b.frame_max) (held_at b j) (stands j)
          (sym (told_from inside e b.held j is refl) ∙ told))

  pub bodies_held : (w : Watch) → IsKept n inside b.held marks → inside ≡ w → HoldsBodies w room
  bodies_held w kept seen = subst (λ (v : Watch). HoldsBodies v room) seen (all_held kept)
