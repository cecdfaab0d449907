-- Items that nodes tell in a period, and how an entry of a relay frame of them stands in its bytes.
use Rattle.std.specs.Prelude.{◌≡◌, ◌≢◌, ℕ, ◌+◌, ◌<◌, ◌≤◌, ◌⊎◌, ◌==◌, Bool, List, length, slice_index_or, All, Option, Some, None, is_some, true}
use Rattle.std.specs.List.{flat_map}
use Rattle.omh_paths.specs.declared.wrapped.Wrapped.{Wrapped}
use Rattle.omh_paths.specs.declared.wrapped.Wrapped.TheVariants.{Plain, Fault}
use Rattle.frames.specs.Content.{Content, Expectation, Done0, Report0, Cold, kind, round_in, entries_due, IsEntry, IsSized}
use Rattle.frames.specs.FrameKinds.{claim_kind, claim_relay_kind, row_kind, row_relay_kind}
use Rattle.frames.specs.Spelling.{body_spelling, IsInRange}
use Rattle.frames.specs.PieceLaws.{AreBytes, IsFormat}
use Rattle.protocol.specs.Arrival.{Arrival, ItemForm}
use Rattle.protocol.specs.Arrival.Arrival.{Bad, Good}
use Rattle.protocol.specs.Talk.{Talk}
use Rattle.protocol.specs.Run.{System, expectation, change_at, full_at, members_of, goes_in}
use Rattle.touched_items.specs.Overlaid.{overlaid}
use Rattle.touched_items.specs.declared.told.Told.{Told}
use Rattle.touched_items.specs.declared.told.Told.TheVariants as code
use Rattle.touched_items.specs.declared.item.First.{First}
use Rattle.touched_items.specs.declared.item.First.TheVariants as first

-- what decides whether an item is in range
pub record Sizes : Type 0 where
  pub version : ℕ
  pub capacity : ℕ
  pub nodes : ℕ
  pub tasks : ℕ

abbrev pub sizes_of : Expectation → Sizes
sizes_of e = record { version = e.version; capacity = e.capacity; nodes = e.nodes; tasks = e.tasks }

-- those of a run
abbrev pub sizes_in : System → Sizes
sizes_in sys = record {
  version = sys.setting.config.version;
  capacity = sys.setting.capacity;
  nodes = sys.setting.config.nodes;
  tasks = length sys.setting.config.graph.tasks;
}

-- the slots of a period in which each node tells an item, by its form, the first of these slots, and what node j tells in
-- period p
abbrev pub talk_of : {V : Type 0} → ItemForm V → (ℕ → ℕ) → (System → ℕ → ℕ → V) → System → ℕ → Talk V
talk_of form first tells sys p = record {
  form = form;
  change = λ r. change_at sys p (first sys.setting.config.m + r);
  expect = λ r j members. expectation sys p (first sys.setting.config.m + r) j members 0;
  members = members_of sys p (goes_in sys p);
  full = full_at sys p (goes_in sys p);
  item = tells sys p;
}

-- ---- what is sent and what comes

abbrev pub with_members : Expectation → List ℕ → Expectation
with_members e members = record e { members = members }

-- a content that a sender sends by some members, which may be others than those that the receiver expects
pub record IsSent (e : Expectation) (c : Content) : Type 0 where
  pub members : List ℕ
  pub in_range : IsInRange (with_members e members) c

-- what a sender's first frame says of its item
abbrev pub first_content : {V : Type 0} → ItemForm V → Wrapped V → Content
first_content form (Plain v) = form.item v
first_content form (Fault k) = Cold

abbrev pub first_said : {N : ℕ} → First N → Content
first_said (first.Claim task) = Done0 task
first_said (first.Row row) = Report0 row

abbrev pub told_item : {V : Type 0} → Told V → Arrival V
told_item (code.Good v) = Good v
told_item (code.Bad k) = Bad k

-- the kind of error that is found of a frame
abbrev pub bad_kind : {C : Type 0} → Arrival C → Option ℕ
bad_kind (Bad k) = Some k
bad_kind (Good c) = None

-- a relay frame that is sent with this entry k, or one of a cold sender
abbrev pub HasOwn : {V : Type 0} → ItemForm V → Expectation → ℕ → Wrapped V → Content → Type 0
HasOwn {V} form e k own c = ((es : List (Wrapped V)) × (c ≡ form.relay es) × IsSent e c × (own ≡ slice_index_or es k (Fault 0))) ⊎ (c ≡ Cold)

-- ---- entries in bytes

pub record EntryForm (V : Type 0) : Type 0 where
  pub kind : ℕ  -- of relay frames of such items
  pub width : ℕ → ℕ  -- the bytes of an entry, by how many nodes there are
  pub spelling : ℕ → Wrapped V → List ℕ  -- an entry's bytes, by how many nodes there are
  pub read : ℕ → ℕ → List ℕ → Wrapped V  -- what they say, by the capacity and how many nodes there are
  pub test : Sizes → ℕ → List ℕ → Bool  -- whether they are an entry in range of a relay round

-- bytes that are the spelling of an entry in range
abbrev pub IsSpelt : {V : Type 0} → EntryForm V → (Sizes → V → Type 0) → Sizes → ℕ → List ℕ → Type 0
IsSpelt cells in_range s r b = IsEntry (in_range s) r (cells.read s.capacity s.nodes b) × (cells.spelling s.nodes (cells.read s.capacity s.nodes b) ≡ b)

-- how such entries make up relay frames
pub record AreEntries {V : Type 0} (form : ItemForm V) (cells : EntryForm V) (in_range : Sizes → V → Type 0) : Type 0 where
  pub kind_is : (es : List (Wrapped V)) → kind (form.relay es) ≡ cells.kind
  pub kind_of : (cells.kind ≡ claim_relay_kind) ⊎ (cells.kind ≡ row_relay_kind)
  pub of_kind : (c : Content) → kind c ≡ cells.kind → (es : List (Wrapped V)) × (c ≡ form.relay es)
  pub back : (es : List (Wrapped V)) → form.relay_in (form.relay es) ≡ Some es
  pub of_entries : (c : Content) (es : List (Wrapped V)) → form.relay_in c ≡ Some es → c ≡ form.relay es
  pub by_kind : (c : Content) → is_some (form.relay_in c) ≡ (kind c == cells.kind)
  pub alone : (c : Content) → kind c ≢ claim_kind → kind c ≢ row_kind → form.item_in c ≡ None
  pub body : (nodes : ℕ) (es : List (Wrapped V)) → body_spelling nodes (form.relay es) ≡ flat_map (cells.spelling nodes) es
  pub number : (e : Expectation) (es : List (Wrapped V)) → IsSized e (form.relay es) → length es ≡ entries_due e
  pub ranged : (e : Expectation) (es : List (Wrapped V)) → IsSized e (form.relay es) → All (IsEntry (in_range (sizes_of e)) (round_in e.m e.slot)) es
  pub sized : (e : Expectation) (es : List (Wrapped V)) → length es ≡ entries_due e → All (IsEntry (in_range (sizes_of e)) (round_in e.m e.slot)) es → IsSized e (form.relay es)
  pub format : (s : Sizes) (r : ℕ) → IsFormat (cells.width s.nodes) (cells.spelling s.nodes) (cells.read s.capacity s.nodes) (IsEntry (in_range s) r)
  pub passes : (s : Sizes) (r : ℕ) (x : Wrapped V) → s.nodes ≤ s.capacity → IsEntry (in_range s) r x → cells.test s r (cells.spelling s.nodes x) ≡ true
  pub told : (s : Sizes) (r at : ℕ) (bytes : List ℕ) (from : ℕ) (x : Wrapped V) → s.nodes ≤ s.capacity → r < 256 → AreBytes bytes → IsEntry (in_range s) r x
      → cells.test s r (overlaid at bytes from (cells.spelling s.nodes x)) ≡ true → IsSpelt cells in_range s r (overlaid at bytes from (cells.spelling s.nodes x))
  pub narrow : (nodes : ℕ) → nodes ≤ 16 → cells.width nodes ≤ 33
  pub short : (nodes : ℕ) (v : V) → nodes ≤ 16 → length (body_spelling nodes (form.item v)) ≤ 32
