-- How items stand in the bytes of a relay frame.
use Rattle.std.specs.Prelude.{◌≡◌, ◌≤◌, ℕ, List, All, length, slice_index, Option, Some, None}
use Rattle.std.specs.List.{flat_map}
use Rattle.omh_paths.specs.declared.wrapped.Wrapped.{Wrapped}
use Rattle.frames.specs.declared.frame.Body.{Body}
use Rattle.frames.specs.declared.frame.Body.TheVariants as body
use Rattle.frames.specs.Content.{Expectation, Content, IsEntry, IsSized, kind, round_in, entries_due}
use Rattle.frames.specs.PieceLaws.{IsFormat}
use Rattle.frames.specs.Spelling.{body_spelling}
use Rattle.protocol.specs.Arrival.{ItemForm}
use Rattle.error_detect.specs.Entries.{entries_begin}

-- the item of a frame of round 0, by that of its claim or of its row
abbrev pub first_in : {V : Type 0} {N : ℕ} → (ℕ → Option V) → (List ℕ → Option V) → Body N → Option V
first_in claimed reported (body.Done0 task) = claimed task
first_in claimed reported (body.Report0 row) = reported row
first_in claimed reported _ = None

-- relay frames of this kind pass items on, in entries of this width that are spelt and read so
pub record IsRelayed {V : Type 0} (capacity relay_kind : ℕ) (form : ItemForm V) (width : ℕ → ℕ) (spell : ℕ → Wrapped V → List ℕ) (read : List ℕ → Wrapped V) (in_range : Expectation → V → Type 0) : Type 0 where
  -- an entry has few bytes, as many as the width, from which it is read; the first of them is at most the number of relays
  pub narrow : (nodes : ℕ) → nodes ≤ 16 → width nodes ≤ 33
  pub format : (e : Expectation) (r : ℕ) → e.nodes ≤ capacity → IsFormat (width e.nodes) (spell e.nodes) read (IsEntry (in_range e) r)
  pub tagged : (e : Expectation) (r : ℕ) (x : Wrapped V) → IsEntry (in_range e) r x → slice_index (spell e.nodes x) 0 ≤ r
  -- a frame is one of that kind exactly where it passes on entries; they are its body
  pub kinded : (es : List (Wrapped V)) → kind (form.relay es) ≡ relay_kind
  pub of_kind : (c : Content) → kind c ≡ relay_kind → (es : List (Wrapped V)) × (c ≡ form.relay es)
  pub relayed : (es : List (Wrapped V)) → form.relay_in (form.relay es) ≡ Some es
  pub begins : (at : ℕ) (es : List (Wrapped V)) → entries_begin at (Some (form.relay es)) ≡ Some at
  pub body : (nodes : ℕ) (es : List (Wrapped V)) → body_spelling nodes (form.relay es) ≡ flat_map (spell nodes) es
  -- in range it has an entry in range for each path
  pub sized : (e : Expectation) (es : List (Wrapped V)) → e.capacity ≡ capacity → IsSized e (form.relay es) → (length es ≡ entries_due e) × All (IsEntry (in_range e) (round_in e.m e.slot)) es
