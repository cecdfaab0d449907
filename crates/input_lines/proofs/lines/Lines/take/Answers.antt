use Rattle.std.proofs.Common.{◌≡◌, ℕ, ◌+◌, ◌-◌, ◌≤◌, ◌∷◌, ◌++◌, arith, ap, sym, ◌∙◌, length, subst}
use Rattle.std.specs.Prelude.{is_some}
use Rattle.std.specs.List.{between}
use Rattle.std.proofs.lemmas.List.Edits.{length-between}
use Rattle.input_lines.specs.Lines.{line_feed, IsUnbroken}
use Rattle.input_lines.specs.Reading.{LinesView, TakesLine}
use Rattle.input_lines.specs.Buffer.{unread, IsBuffer, IsFeed}
use Rattle.input_lines.specs.declared.buffer.Buffer.{Buffer}
use Rattle.input_lines.proofs.Places.{unbroken, joined, first_of_part}
use Rattle.input_lines.proofs.lines.Lines.take.Goals as goal
use Rattle.input_lines.proofs.lines.Lines.take.Goals.{in-Some, in-None}

-- what stands before the first line feed was taken, and what was not taken begins behind that
taken : (old : LinesView) (b b1 b2 : Buffer) (limit place : ℕ) → unread b ≡ old.rest → limit ≡ old.limit → length b.bytes.items ≡ old.room → IsBuffer b → IsFeed b place
    → b1.bytes ≡ b.bytes → b1.next ≡ b.next → b1.end ≡ b.end → place - b1.next ≤ limit
    → b2.bytes ≡ b1.bytes → b2.next ≡ place + 1 → b2.end ≡ b1.end
    → TakesLine old (record { rest = unread b2; line = between b1.next place b2.bytes.items; limit = limit; room = length b2.bytes.items })
taken old b b1 b2 limit place rest same room is_buffer feed bytes1 next1 end1 few bytes2 next2 end2 =
    let items = b.bytes.items in
    let fits : place ≤ length items = omega (arith, feed.high, is_buffer.within) in
    let all : between b.next b.end items ≡ between b.next place items ++ line_feed ∷ between (place + 1) b.end items =
    joined items b.next place b.end feed.low (omega (arith, feed.high)) ∙ ap (λ ys. between b.next place items ++ ys) (first_of_part items place b.end line_feed feed.high is_buffer.within feed.feed) in
    let is_items : b2.bytes.items ≡ items = ap (λ v. v.items) (bytes2 ∙ bytes1) in
    let line : between b.next place items ≡ between b1.next place b2.bytes.items = ap (λ k. between k place items) (sym next1) ∙ ap (between b1.next place) (sym is_items) in
    let later : between (place + 1) b.end items ≡ unread b2 =
    ap (λ k. between k b.end items) (sym next2) ∙ ap (λ k. between b2.next k items) (sym (end2 ∙ end1)) ∙ ap (between b2.next b2.end) (sym is_items) in
    let whole = length-between items b.next place fits in record {
      splits = sym rest ∙ all ∙ ap (λ l. l ++ line_feed ∷ between (place + 1) b.end items) line ∙ ap (λ r. between b1.next place b2.bytes.items ++ line_feed ∷ r) later;
      unbroken = subst IsUnbroken line (unbroken items b.next place fits feed.first);
      short = omega (arith, ap length line, whole, few, next1, same);
      limit = same;
      room = ap length is_items ∙ room;
    }

pub returns : goal.returns
returns c =
    let at = c.pass.ensures in
    elim c.match-feed.branch [
      | in-Some w ↦
          let h = w.in-Some.ensures in
          taken c.args.self.now c.self.inside.buffer c.find-feed.new.self c.pass.new.self c.self.inside.limit c.match-feed.to
          (ap (λ (s : LinesView). s.rest) c.self.view_is) (ap (λ (s : LinesView). s.limit) c.self.view_is) (ap (λ (s : LinesView). s.room) c.self.view_is) c.self.invariant.0 (subst (IsFeed c.self.inside.buffer) (sym w.to-is) h.found)
          h.bytes h.next h.end c.if-to-self.false (ap (λ (b : Buffer). b.bytes) at) (ap (λ (b : Buffer). b.next) at) (ap (λ (b : Buffer). b.end) at)
      | in-None w ↦ let no = ap is_some w.feed-is in let is = c.if-is_none.ensures in absurd cc
    ]
