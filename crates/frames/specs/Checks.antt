-- Tests on pieces of a body, each by the bytes alone.
use Rattle.std.specs.Prelude.{◌≡◌, ◌⊎◌, ◌+◌, ◌*◌, length, ℕ, Bool, ◌&&◌, ◌||◌, ◌==◌, nat_le, nat_lt, List, take, drop, slice_index, if◌then◌else◌}
use Rattle.std.specs.List.{list_all}
use Rattle.std.specs.Int.{w16, w32, from_be_bytes, to_be_bytes}
use Rattle.std.specs.Str.{bytes_eq}
use Rattle.node_grid.specs.Version.{mask_bound}
use Rattle.frames.specs.Content.{Expectation, Content, kind, kind_in, round_in, entries_due, IsSized}
use Rattle.frames.specs.declared.frame.Head.{Head}
use Rattle.frames.specs.FrameKinds.{cold_kind}
use Rattle.frames.specs.Spelling.{body_spelling}
use Rattle.frames.specs.Reading.{pieces_of_width, content_value, fits_claim, fits_value}

-- bytes whose fields are those of a header
abbrev pub has_fields : Head → ℕ → ℕ → List ℕ → Bool
has_fields head k size bytes =
    (length bytes == 14) && ((slice_index bytes 0 == 77) && ((slice_index bytes 1 == 70) && ((slice_index bytes 2 == head.version) && ((slice_index bytes 3 == k)
    && (bytes_eq (take 4 (drop 4 bytes)) (to_be_bytes w32 head.period) && ((slice_index bytes 8 == head.sender) && ((slice_index bytes 9 == head.slot)
    && bytes_eq (take 4 (drop 10 bytes)) (to_be_bytes w32 size))))))))

-- two bytes that are an entry of a relayed claim
abbrev pub is_claim_entry : ℕ → ℕ → List ℕ → Bool
is_claim_entry tasks r bytes =
    if slice_index bytes 0 == 0 then fits_claim tasks (slice_index bytes 1) else (nat_le (slice_index bytes 0) r && (slice_index bytes 1 == 0))

-- two bytes that are a mask of the version
abbrev pub is_mask : ℕ → List ℕ → Bool
is_mask version bytes = nat_lt (from_be_bytes w16 bytes) (mask_bound version)

abbrev pub are_masks : ℕ → List ℕ → Bool
are_masks version bytes = list_all (is_mask version) (pieces_of_width 2 bytes)

abbrev pub are_zero : List ℕ → Bool
are_zero bytes = list_all (λ b. b == 0) bytes

-- bytes that are an entry of a relayed row
abbrev pub is_row_entry : ℕ → ℕ → List ℕ → Bool
is_row_entry version r bytes = if slice_index bytes 0 == 0 then are_masks version (drop 1 bytes) else (nat_le (slice_index bytes 0) r && are_zero (drop 1 bytes))

-- eight bytes that are a value in range
abbrev pub is_value : List ℕ → Bool
is_value bytes = fits_value (content_value bytes)

-- pieces of so many bytes that are entries as they are written: a plain value, or a tag with 0 in all bytes after it
abbrev pub is_written : List ℕ → Bool
is_written bytes = (slice_index bytes 0 == 0) || are_zero (drop 1 bytes)

abbrev pub are_written : ℕ → List ℕ → Bool
are_written width bytes = list_all is_written (pieces_of_width width bytes)

-- tests on whole bodies
abbrev pub has_state : Expectation → List ℕ → Bool
has_state e bytes = length bytes == e.state_len

abbrev pub has_claim : Expectation → List ℕ → Bool
has_claim e bytes = (length bytes == 1) && fits_claim e.tasks (slice_index bytes 0)

abbrev pub has_claims : Expectation → List ℕ → Bool
has_claims e bytes = (length bytes == 2 * entries_due e) && list_all (is_claim_entry e.tasks (round_in e.m e.slot)) (pieces_of_width 2 bytes)

abbrev pub has_values : Expectation → List ℕ → Bool
has_values e bytes = (length bytes == 8 * e.due) && list_all is_value (pieces_of_width 8 bytes)

abbrev pub has_row : Expectation → List ℕ → Bool
has_row e bytes = (length bytes == 2 * e.nodes) && are_masks e.version bytes

abbrev pub has_rows : Expectation → List ℕ → Bool
has_rows e bytes = (length bytes == (1 + 2 * e.nodes) * entries_due e) && list_all (is_row_entry e.version (round_in e.m e.slot)) (pieces_of_width (1 + 2 * e.nodes) bytes)

-- the bytes are the spelling of a body of the right sizes
pub record IsSaid (e : Expectation) (c : Content) (bytes : List ℕ) : Type 0 where
  pub sized : IsSized e c
  pub spelt : bytes ≡ body_spelling e.nodes c

-- and that of a kind that has its place in the slot
pub record IsBody (e : Expectation) (k : ℕ) (c : Content) (bytes : List ℕ) : Type 0 where
  pub is : kind c ≡ k
  pub placed : (kind c ≡ kind_in e.m e.slot) ⊎ (kind c ≡ cold_kind)
  pub said : IsSaid e c bytes
