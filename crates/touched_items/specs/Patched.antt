-- Relay frames with other bytes from an offset on, piece by piece: the header by itself, and each entry by itself.
use Rattle.std.specs.Prelude.{◌≡◌, ℕ, ◌+◌, ◌*◌, ◌≤◌, Bool, true, false, ◌&&◌, ◌==◌, List, [], ◌∷◌, length, map, Option, Some, None, if◌then◌else◌}
use Rattle.std.specs.List.{list_all}
use Rattle.std.specs.Cmp.Lexicographic.{pointwise}
use Rattle.node_grid.specs.Kinds.{malformed, cold}
use Rattle.omh_paths.specs.declared.wrapped.Wrapped.{Wrapped}
use Rattle.frames.specs.Content.{Expectation, round_in, entries_due}
use Rattle.frames.specs.FrameKinds.{cold_kind}
use Rattle.frames.specs.PieceLaws.{AreBytes}
use Rattle.frames.specs.Spelling.{header_spelling, head_of}
use Rattle.frames.specs.declared.frame.Head.{Head}
use Rattle.fault_classes.specs.Change.Change.{Set}
use Rattle.protocol.specs.Arrival.{Arrival, ItemForm}
use Rattle.protocol.specs.Arrival.Arrival.{Bad, Good}
use Rattle.protocol.specs.Talk.{arrives}
use Rattle.touched_items.specs.Overlaid.{overlaid}
use Rattle.touched_items.specs.Items.{sizes_of, IsSent, EntryForm}

-- the bytes of each entry of a body from place `from` on
abbrev pub cells_over : {E : Type 0} → (E → List ℕ) → ℕ → ℕ → List ℕ → ℕ → List E → List (List ℕ)
cells_over spell width at bytes from [] = []
cells_over spell width at bytes from (x ∷ xs) = overlaid at bytes from (spell x) ∷ cells_over spell width at bytes (from + width) xs

-- the bytes of entry k of a relay frame, behind the header
abbrev pub cell_over : {V : Type 0} → EntryForm V → ℕ → ℕ → List ℕ → ℕ → Wrapped V → List ℕ
cell_over form nodes at bytes k own = overlaid at bytes (14 + form.width nodes * k) (form.spelling nodes own)

-- the kind of error that is found of a frame by its header
abbrev pub header_error : ℕ → List ℕ → Head → ℕ → ℕ → Option ℕ
header_error at bytes head kind size =
    let sent : List ℕ = header_spelling head kind size in
    let came : List ℕ = overlaid at bytes 0 sent in
    if pointwise ◌==◌ came sent then None else Some (if (size == 0) && pointwise ◌==◌ came (header_spelling head cold_kind 0) then cold else malformed)

-- what a receiver has of entries, by the header's error and by whether they are those that it expects
abbrev pub arrival_by : {C : Type 0} → Option ℕ → Bool → C → Arrival C
arrival_by (Some k) fit xs = Bad k
arrival_by None true xs = Good xs
arrival_by None false xs = Bad malformed

abbrev pub cells_of : {V : Type 0} → EntryForm V → Expectation → ℕ → List ℕ → List (Wrapped V) → List (List ℕ)
cells_of form e at bytes es = cells_over (form.spelling e.nodes) (form.width e.nodes) at bytes 14 es

-- whether they are as many as are expected, and each is in range
abbrev pub are_due : {V : Type 0} → EntryForm V → Expectation → ℕ → List ℕ → List (Wrapped V) → Bool
are_due form e at bytes es = (length es == entries_due e) && list_all (form.test (sizes_of e) (round_in e.m e.slot)) (cells_of form e at bytes es)

-- what a receiver has of a relay frame of these entries with other bytes from place `at` on
abbrev pub arrival_over : {V : Type 0} → EntryForm V → Expectation → ℕ → List ℕ → List (Wrapped V) → Arrival (List (Wrapped V))
arrival_over form e at bytes es =
    arrival_by (header_error at bytes (head_of e) form.kind (form.width e.nodes * length es)) (are_due form e at bytes es) (map (form.read e.capacity e.nodes) (cells_of form e at bytes es))

-- Cells law: a receiver has of the frame what it has of it piece by piece
abbrev pub CellsLaw : {V : Type 0} → ItemForm V → EntryForm V → Type 0
CellsLaw {V} form entries =
    (e : Expectation) (at : ℕ) (bytes : List ℕ) (es : List (Wrapped V)) → e.nodes ≤ e.capacity → e.m ≤ 3 → AreBytes bytes → IsSent e (form.relay es)
    → arrives form.relay_in (Some (Set at bytes)) e e (form.relay es) ≡ arrival_over entries e at bytes es
