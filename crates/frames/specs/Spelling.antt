-- The bytes of a frame, and the relation between bytes and what they say.
use Rattle.std.specs.Prelude.{◌≡◌, ℕ, ◌-◌, ◌*◌, ◌^◌, ◌<◌, ◌⊎◌, ℤ, List, [], ◌∷◌, ◌++◌, length, take, drop, replicate}
use Rattle.std.specs.List.{flat_map}
use Rattle.std.specs.Int.{w16, w32, w64, to_be_bytes, cast_unsigned}
use Rattle.omh_paths.specs.declared.wrapped.Wrapped.{Wrapped}
use Rattle.omh_paths.specs.declared.wrapped.Wrapped.TheVariants.{Plain, Fault}
use Rattle.frames.specs.declared.frame.Head.{Head}
use Rattle.frames.specs.Content.{Expectation, Content, State, Done0, DoneRelay, Data, Report0, ReportRelay, Cold, kind, kind_in, IsSized}
use Rattle.frames.specs.FrameKinds.{cold_kind}

-- an entry of a relayed claim: a tag, 0 for a plain value, and the claim
abbrev pub claim_spelling : Wrapped ℕ → List ℕ
claim_spelling (Plain task) = 0 ∷ task ∷ []
claim_spelling (Fault k) = k ∷ 0 ∷ []

-- the masks of the nodes, two bytes each
abbrev pub row_spelling : ℕ → List ℕ → List ℕ
row_spelling nodes masks = flat_map (to_be_bytes w16) (take nodes masks)

-- an entry of a relayed row: a tag, 0 for a plain value, and the row
abbrev pub relayed_row_spelling : ℕ → Wrapped (List ℕ) → List ℕ
relayed_row_spelling nodes (Plain masks) = 0 ∷ row_spelling nodes masks
relayed_row_spelling nodes (Fault k) = k ∷ replicate (2 * nodes) 0

abbrev pub value_spelling : ℤ → List ℕ
value_spelling number = to_be_bytes w64 (cast_unsigned w64 number)

-- the body of a frame among so many nodes
abbrev pub body_spelling : ℕ → Content → List ℕ
body_spelling nodes (State bytes) = bytes
body_spelling nodes (Done0 task) = task ∷ []
body_spelling nodes (DoneRelay entries) = flat_map claim_spelling entries
body_spelling nodes (Data numbers) = flat_map value_spelling numbers
body_spelling nodes (Report0 masks) = row_spelling nodes masks
body_spelling nodes (ReportRelay entries) = flat_map (relayed_row_spelling nodes) entries
body_spelling nodes Cold = []

-- magic, version, kind, period, sender, slot, and how many bytes the body has
abbrev pub header_spelling : Head → ℕ → ℕ → List ℕ
header_spelling head k size = 77 ∷ 70 ∷ head.version ∷ k ∷ (to_be_bytes w32 head.period ++ (head.sender ∷ head.slot ∷ to_be_bytes w32 size))

-- the one spelling of a frame among so many nodes
abbrev pub spelling : ℕ → Head → Content → List ℕ
spelling nodes head c = header_spelling head (kind c) (length (body_spelling nodes c)) ++ body_spelling nodes c

-- the head that is expected
abbrev pub head_of : Expectation → Head
head_of e = record { version = e.version; period = e.period; sender = e.sender; slot = e.slot }

-- a content that can be sent: it has its place in the slot, as Cold has in each, and its sizes, and its length can be told
pub record IsInRange (e : Expectation) (c : Content) : Type 0 where
  pub placed : (kind c ≡ kind_in e.m e.slot) ⊎ (kind c ≡ cold_kind)
  pub sized : IsSized e c
  pub short : length (body_spelling e.nodes c) < 2 ^ 32

-- the bytes are a frame for what is expected, and say c
pub record IsFrame (e : Expectation) (c : Content) (bytes : List ℕ) : Type 0 where
  pub magic : take 2 bytes ≡ 77 ∷ 70 ∷ []
  pub version : take 1 (drop 2 bytes) ≡ e.version ∷ []
  pub kind_byte : take 1 (drop 3 bytes) ≡ kind c ∷ []
  pub period : take 4 (drop 4 bytes) ≡ to_be_bytes w32 e.period
  pub sender : take 1 (drop 8 bytes) ≡ e.sender ∷ []
  pub slot : take 1 (drop 9 bytes) ≡ e.slot ∷ []
  pub length_field : take 4 (drop 10 bytes) ≡ to_be_bytes w32 (length bytes - 14)
  pub in_range : IsInRange e c
  pub body : drop 14 bytes ≡ body_spelling e.nodes c
