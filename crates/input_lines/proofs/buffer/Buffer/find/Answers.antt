use Rattle.std.proofs.Common.{ℕ, ◌+◌, ◌-◌, ◌≡◌, ◌<◌, length, arith, sym, ◌∙◌, eqb-true}
use Rattle.std.specs.List.{between}
use Rattle.std.proofs.lemmas.List.Edits.{length-between, get_or-between}
use Rattle.memchr.specs.Find.{Nowhere, NoneBefore, Passes, is_byte}
use Rattle.input_lines.specs.Lines.{line_feed}
use Rattle.input_lines.specs.Buffer.{NoFeed, IsBuffer, IsFeed}
use Rattle.input_lines.specs.declared.buffer.Buffer.{Buffer}
use Rattle.input_lines.proofs.Places.{not_in_part, none_in_both}
use Rattle.input_lines.proofs.buffer.Buffer.find.Goals as goal

-- what a search from the place that was seen says of all from the next byte on
found : (b : Buffer) (place : ℕ) → IsBuffer b → NoneBefore (Passes (is_byte line_feed) (between b.seen b.end b.bytes.items)) 0 (length (between b.seen b.end b.bytes.items)) place
    → Passes (is_byte line_feed) (between b.seen b.end b.bytes.items) place → IsFeed b (b.seen + place)
found b place is_buffer none is_feed =
    let long = length-between b.bytes.items b.seen b.end is_buffer.within in
    let near : b.seen + place < b.end = omega (arith, none.high, long, is_buffer.seen) in record {
      low = omega (arith, is_buffer.looked);
      high = near;
      feed = sym (get_or-between b.bytes.items b.seen b.end place 0 near) ∙ eqb-true _ _ is_feed;
      first = none_in_both b.bytes.items b.next b.seen (b.seen + place) is_buffer.unbroken (not_in_part b.bytes.items b.seen b.end place (omega (arith, near)) none.before);
    }

-- it found none
none_found : (b : Buffer) → IsBuffer b → Nowhere (Passes (is_byte line_feed) (between b.seen b.end b.bytes.items)) 0 (length (between b.seen b.end b.bytes.items)) → NoFeed b.bytes.items b.next b.end
none_found b is_buffer none =
    let long = length-between b.bytes.items b.seen b.end is_buffer.within in
    let size : b.seen + (b.end - b.seen) ≡ b.end = omega (arith, is_buffer.seen) in
    none_in_both b.bytes.items b.next b.seen b.end is_buffer.unbroken (rw size at (not_in_part b.bytes.items b.seen b.end (b.end - b.seen) (omega arith) (rw long at none)))

pub returns-in-Some-clause-buffer : goal.returns-in-Some-clause-buffer
returns-in-Some-clause-buffer c =
    let h = rw c.deref.ensures.value at c.in-Some.ensures in
    let feed = found c.args.self.now c.in-Some.place c.requires h.0 h.1 in record {
      room = c.requires.room;
      looked = feed.low;
      seen = omega (arith, feed.high);
      within = c.requires.within;
      unbroken = feed.first;
    }

pub returns-in-Some-clause-found : goal.returns-in-Some-clause-found
returns-in-Some-clause-found c =
    let h = rw c.deref.ensures.value at c.in-Some.ensures in
    found c.args.self.now c.in-Some.place c.requires h.0 h.1

pub returns-in-None-clause-buffer : goal.returns-in-None-clause-buffer
returns-in-None-clause-buffer c = record {
  room = c.requires.room;
  looked = omega (arith, c.requires.looked, c.requires.seen);
  seen = omega arith;
  within = c.requires.within;
  unbroken = none_found c.args.self.now c.requires (rw c.deref.ensures.value at c.in-None.ensures);
}

pub returns-in-None-clause-found : goal.returns-in-None-clause-found
returns-in-None-clause-found c = none_found c.args.self.now c.requires (rw c.deref.ensures.value at c.in-None.ensures)
