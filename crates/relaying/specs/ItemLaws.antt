-- What holds of claims and of rows as items.
use Rattle.std.proofs.Common.{ℕ, zero, suc, List, ◌==◌, ◌≡◌, ◌≤◌, ◌+◌, ◌*◌, ◌/◌, length, drop, get_or, min, refl, ap, subst, ◌∙◌, arith, length-drop, if◌then◌else◌}
use Rattle.std.specs.Prelude.{All, slice_index, Some, None}
use Rattle.std.proofs.Math.Nat.{min-eq_left}
use Rattle.node_grid.specs.NumberFacts.{above_zero}
use Rattle.omh_paths.specs.declared.wrapped.Wrapped.{Wrapped}
use Rattle.omh_paths.specs.declared.wrapped.Wrapped.TheVariants.{Plain, Fault}
use Rattle.frames.specs.Content.{Expectation, ReportRelay, IsEntry, IsClaim, IsRow, IsSized, kind, round_in, entries_due}
use Rattle.frames.specs.declared.frame.Body.{Body}
use Rattle.frames.specs.declared.frame.Body.TheVariants as body
use Rattle.frames.specs.Seen.{content}
use Rattle.frames.specs.Facts.{rows_kinded, claims_kinded}
use Rattle.protocol.specs.Arrival.{claim_form, row_form}
use Rattle.frames.specs.EntryLaws.{claim_format, relayed_row_format}
use Rattle.frames.specs.PieceLaws.{IsFormat}
use Rattle.frames.specs.Spelling.{claim_spelling, relayed_row_spelling}
use Rattle.frames.specs.FrameKinds.{claim_relay_kind, row_relay_kind}
use Rattle.frames.specs.Reading.{content_claim, content_row, relayed_row_in}
use Rattle.relay_terms.specs.Terms.{term_in}
use Rattle.relaying.specs.Items.{first_in, IsRelayed}

-- the claim and the row that bytes are
abbrev pub claim_bytes : List ℕ → ℕ
claim_bytes bytes = slice_index bytes 0

abbrev pub row_bytes : ℕ → List ℕ → List ℕ
row_bytes capacity bytes = content_row capacity (min (length bytes / 2) capacity) bytes

-- ---- entries are read from their bytes

claims_format : (tasks r : ℕ) → IsFormat 2 claim_spelling (term_in claim_bytes) (IsEntry (IsClaim tasks) r)
claims_format tasks r = record { wide = f.wide; long = f.long; back = back } where
  f : IsFormat 2 claim_spelling content_claim (IsEntry (IsClaim tasks) r)
  f = claim_format tasks r

  back : (x : Wrapped ℕ) → IsEntry (IsClaim tasks) r x → term_in claim_bytes (claim_spelling x) ≡ x
  back (Plain t) h = refl
  back (Fault zero) h = absurd (omega (arith, h.0))
  back (Fault (suc k)) h = rw (above_zero k) refl

row_read : (capacity nodes : ℕ) (entry : List ℕ) → nodes ≤ capacity → length entry ≡ 1 + 2 * nodes → term_in (row_bytes capacity) entry ≡ relayed_row_in capacity nodes entry
row_read capacity nodes entry few long =
    let half : length (drop 1 entry) / 2 ≡ nodes = (let l = length-drop 1 entry in omega arith) in
    let low : min (length (drop 1 entry) / 2) capacity ≡ nodes = ap (λ (n : ℕ). min n capacity) half ∙ min-eq_left few in
    ap (λ (n : ℕ). if get_or entry 0 0 == 0 then Plain (content_row capacity n (drop 1 entry)) else Fault (get_or entry 0 0)) low

rows_format : (version capacity nodes r : ℕ) → nodes ≤ capacity → IsFormat (1 + 2 * nodes) (relayed_row_spelling nodes) (term_in (row_bytes capacity)) (IsEntry (IsRow version capacity nodes) r)
rows_format version capacity nodes r few = record {
  wide = f.wide;
  long = f.long;
  back = λ x h. row_read capacity nodes (relayed_row_spelling nodes x) few (f.long x h) ∙ f.back x h;
} where
  f : IsFormat (1 + 2 * nodes) (relayed_row_spelling nodes) (relayed_row_in capacity nodes) (IsEntry (IsRow version capacity nodes) r)
  f = relayed_row_format version capacity nodes r

-- ---- the first byte of an entry is few

claims_tagged : (tasks r : ℕ) (x : Wrapped ℕ) → IsEntry (IsClaim tasks) r x → slice_index (claim_spelling x) 0 ≤ r
claims_tagged tasks r (Plain t) h = omega arith
claims_tagged tasks r (Fault k) h = h.1

rows_tagged : (version capacity nodes r : ℕ) (x : Wrapped (List ℕ)) → IsEntry (IsRow version capacity nodes) r x → slice_index (relayed_row_spelling nodes x) 0 ≤ r
rows_tagged version capacity nodes r (Plain masks) h = omega arith
rows_tagged version capacity nodes r (Fault k) h = h.1

-- ---- what the kind tells

-- ---- sizes

rows_sized : {capacity : ℕ} (e : Expectation) (es : List (Wrapped (List ℕ))) → e.capacity ≡ capacity → IsSized e (ReportRelay es)
    → (length es ≡ entries_due e) × All (IsEntry (IsRow e.version capacity e.nodes) (round_in e.m e.slot)) es
rows_sized e es is h = (h.0, subst (λ (n : ℕ). All (IsEntry (IsRow e.version n e.nodes) (round_in e.m e.slot)) es) is h.1)

-- ---- what a frame of round 0 tells

pub claims_begun : {N : ℕ} (nodes : ℕ) (b : Body N) → first_in Some (λ masks. None) b ≡ claim_form.item_in (content nodes b)
claims_begun nodes (body.State bytes) = refl
claims_begun nodes (body.Done0 task) = refl
claims_begun nodes (body.DoneRelay cells) = refl
claims_begun nodes (body.Data values) = refl
claims_begun nodes (body.Report0 row) = refl
claims_begun nodes (body.ReportRelay cells) = refl
claims_begun nodes body.Cold = refl

pub rows_begun : {N : ℕ} (nodes : ℕ) (b : Body N) → first_in (λ claim. None) Some b ≡ row_form.item_in (content nodes b)
rows_begun nodes (body.State bytes) = refl
rows_begun nodes (body.Done0 task) = refl
rows_begun nodes (body.DoneRelay cells) = refl
rows_begun nodes (body.Data values) = refl
rows_begun nodes (body.Report0 row) = refl
rows_begun nodes (body.ReportRelay cells) = refl
rows_begun nodes body.Cold = refl

-- ---- all that holds

pub claims_relayed : (capacity : ℕ) → IsRelayed capacity claim_relay_kind claim_form (λ nodes. 2) (λ nodes. claim_spelling) (term_in claim_bytes) (λ e. IsClaim e.tasks)
claims_relayed capacity = record {
  narrow = λ nodes few. omega arith;
  format = λ e r few. claims_format e.tasks r;
  tagged = λ e r. claims_tagged e.tasks r;
  kinded = λ es. refl;
  of_kind = claims_kinded;
  relayed = λ es. refl;
  begins = λ at es. refl;
  body = λ nodes es. refl;
  sized = λ e es is h. h;
}

pub rows_relayed : (capacity : ℕ) → IsRelayed capacity row_relay_kind row_form (λ nodes. 1 + 2 * nodes) relayed_row_spelling (term_in (row_bytes capacity)) (λ e. IsRow e.version capacity e.nodes)
rows_relayed capacity = record {
  narrow = λ nodes few. omega (arith, few);
  format = λ e r. rows_format e.version capacity e.nodes r;
  tagged = λ e r. rows_tagged e.version capacity e.nodes r;
  kinded = λ es. refl;
  of_kind = rows_kinded;
  relayed = λ es. refl;
  begins = λ at es. refl;
  body = λ nodes es. refl;
  sized = rows_sized;
}
