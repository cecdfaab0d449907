-- What bytes say to a receiver, as a function: a candidate is read off, and is the answer where it is in range and spelt so.
use Rattle.std.specs.Prelude.{ℕ, ◌+◌, ◌-◌, ◌*◌, ◌/◌, ◌^◌, ℤ, pos, neg_ℤ, int_le, Bool, true, false, ◌&&◌, ◌||◌, ◌==◌, nat_lt, nat_le, List, ◌++◌, length, take, drop, map, replicate, slice_index, Option, Some, None, if◌then◌else◌}
use Rattle.std.specs.List.{range_with_len, list_all}
use Rattle.std.specs.Int.{w16, w64, from_be_bytes, cast_signed}
use Rattle.std.specs.Cmp.Lexicographic.{pointwise}
use Rattle.node_grid.specs.Kinds.{no_claim}
use Rattle.node_grid.specs.Version.{mask_bound}
use Rattle.omh_paths.specs.declared.wrapped.Wrapped.{Wrapped}
use Rattle.omh_paths.specs.declared.wrapped.Wrapped.TheVariants.{Plain, Fault}
use Rattle.frames.specs.Content.{Expectation, Content, State, Done0, DoneRelay, Data, Report0, ReportRelay, Cold, kind, kind_in, round_in, entries_due}
use Rattle.frames.specs.FrameKinds.{state_kind, claim_kind, claim_relay_kind, data_kind, row_kind, row_relay_kind, cold_kind}
use Rattle.frames.specs.Spelling.{spelling, head_of}

-- the k-th piece of so many bytes
abbrev pub piece : ℕ → List ℕ → ℕ → List ℕ
piece width bytes k = take width (drop (width * k) bytes)

-- the whole pieces of so many bytes each, one after the other
abbrev pub pieces_of_width : ℕ → List ℕ → List (List ℕ)
pieces_of_width width bytes = map (piece width bytes) (range_with_len 0 (length bytes / width))

abbrev pub content_claim : List ℕ → Wrapped ℕ
content_claim bytes = if slice_index bytes 0 == 0 then Plain (slice_index bytes 1) else Fault (slice_index bytes 0)

abbrev pub content_claims : List ℕ → List (Wrapped ℕ)
content_claims bytes = map content_claim (pieces_of_width 2 bytes)

-- the masks of the nodes, and 0 for the rest of the capacity
abbrev pub content_row : ℕ → ℕ → List ℕ → List ℕ
content_row capacity nodes bytes = take nodes (map (from_be_bytes w16) (pieces_of_width 2 bytes)) ++ replicate (capacity - nodes) 0

abbrev pub relayed_row_in : ℕ → ℕ → List ℕ → Wrapped (List ℕ)
relayed_row_in capacity nodes bytes = if slice_index bytes 0 == 0 then Plain (content_row capacity nodes (drop 1 bytes)) else Fault (slice_index bytes 0)

abbrev pub content_rows : ℕ → ℕ → List ℕ → List (Wrapped (List ℕ))
content_rows capacity nodes bytes = map (relayed_row_in capacity nodes) (pieces_of_width (1 + 2 * nodes) bytes)

abbrev pub content_value : List ℕ → ℤ
content_value bytes = cast_signed w64 (from_be_bytes w64 bytes)

abbrev pub content_values : List ℕ → List ℤ
content_values bytes = map content_value (pieces_of_width 8 bytes)

-- what a body of a kind would say
abbrev pub content_said : Expectation → ℕ → List ℕ → Content
content_said e k body =
    if k == state_kind then State body
    else (if k == claim_kind then Done0 (slice_index body 0)
    else (if k == claim_relay_kind then DoneRelay (content_claims body)
    else (if k == data_kind then Data (content_values body)
    else (if k == row_kind then Report0 (content_row e.capacity e.nodes body)
    else (if k == row_relay_kind then ReportRelay (content_rows e.capacity e.nodes body)
    else Cold)))))

abbrev pub fits_claim : ℕ → ℕ → Bool
fits_claim tasks task = (task == no_claim) || nat_lt task tasks

abbrev pub fits_row : ℕ → ℕ → ℕ → List ℕ → Bool
fits_row version capacity nodes masks = nat_le nodes capacity && ((length masks == capacity) && (list_all (λ mask. nat_lt mask (mask_bound version)) masks && pointwise ◌==◌ (drop nodes masks) (replicate (capacity - nodes) 0)))

abbrev pub fits_value : ℤ → Bool
fits_value number = int_le (neg_ℤ (pos (2 ^ 42))) number && int_le number (pos (2 ^ 42))

abbrev pub fits_entry : {V : Type 0} → (V → Bool) → ℕ → Wrapped V → Bool
fits_entry fits r (Plain v) = fits v
fits_entry fits r (Fault k) = nat_lt 0 k && nat_le k r

abbrev pub fits_sizes : Expectation → Content → Bool
fits_sizes e (State bytes) = length bytes == e.state_len
fits_sizes e (Done0 task) = fits_claim e.tasks task
fits_sizes e (DoneRelay entries) = (length entries == entries_due e) && list_all (fits_entry (fits_claim e.tasks) (round_in e.m e.slot)) entries
fits_sizes e (Data numbers) = (length numbers == e.due) && list_all fits_value numbers
fits_sizes e (Report0 masks) = fits_row e.version e.capacity e.nodes masks
fits_sizes e (ReportRelay entries) = (length entries == entries_due e) && list_all (fits_entry (fits_row e.version e.capacity e.nodes) (round_in e.m e.slot)) entries
fits_sizes e Cold = true

-- whether a content is in range
abbrev pub fits : Expectation → Content → Bool
fits e c = ((kind c == kind_in e.m e.slot) || (kind c == cold_kind)) && fits_sizes e c

abbrev pub answer_if : Bool → Content → Option Content
answer_if true c = Some c
answer_if false c = None

-- a content, where it is in range, short enough, and spelt so
abbrev pub confirmed : Expectation → List ℕ → Content → Option Content
confirmed e bytes c = answer_if (fits e c && (nat_lt (length bytes) (2 ^ 32 + 14) && pointwise ◌==◌ (spelling e.nodes (head_of e) c) bytes)) c

-- what the bytes say; None where they are no frame
unfoldable pub reading : Expectation → List ℕ → Option Content
reading e bytes = confirmed e bytes (content_said e (slice_index bytes 3) (drop 14 bytes))
