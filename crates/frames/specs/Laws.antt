-- The laws of the grammar.
use Rattle.std.specs.Prelude.{◌≡◌, ℕ, ◌^◌, ◌<◌, ◌≤◌, ◌↔◌, List, length, take, Some, None}
use Rattle.frames.specs.Content.{Expectation, Content, Cold, kind, kind_in, IsSized}
use Rattle.frames.specs.Spelling.{spelling, head_of, IsInRange, IsFrame}
use Rattle.frames.specs.Reading.{reading}

-- reading gives exactly what the relation says
abbrev pub ReadsExactly : Type 0
ReadsExactly = (e : Expectation) (c : Content) (bytes : List ℕ) → (reading e bytes ≡ Some c) ↔ IsFrame e c bytes

-- a frame has one spelling, which is that of what it says
abbrev pub IsSpeltOnce : Type 0
IsSpeltOnce = (e : Expectation) (c : Content) (bytes : List ℕ) → IsFrame e c bytes ↔ (IsInRange e c × (bytes ≡ spelling e.nodes (head_of e) c))

-- what is sent in range reads as itself
abbrev pub ReadsBack : Type 0
ReadsBack = (e : Expectation) (c : Content) → IsInRange e c → reading e (spelling e.nodes (head_of e) c) ≡ Some c

-- what is read is in range
abbrev pub ReadsInRange : Type 0
ReadsInRange = (e : Expectation) (c : Content) (bytes : List ℕ) → reading e bytes ≡ Some c → IsInRange e c

-- no proper front of a spelling is a frame, whatever is expected
abbrev pub HasNoFront : Type 0
HasNoFront = (e d : Expectation) (c : Content) (n : ℕ) → IsInRange d c → n < length (spelling d.nodes (head_of d) c) → reading e (take n (spelling d.nodes (head_of d) c)) ≡ None

-- no frame is a proper front of another
abbrev pub HasNoPrefix : Type 0
HasNoPrefix =
    (e d : Expectation) (x c : Content) (n : ℕ) → IsInRange e x → IsInRange d c → n < length (spelling d.nodes (head_of d) c) → spelling e.nodes (head_of e) x ≡ take n (spelling d.nodes (head_of d) c) → ⊥

-- a Cold frame reads as Cold, whatever else is expected
abbrev pub ReadsCold : Type 0
ReadsCold = (e d : Expectation) → head_of e ≡ head_of d → reading e (spelling d.nodes (head_of d) Cold) ≡ Some Cold

-- the sizes for which types are laid out
pub record IsLaidOut (e : Expectation) : Type 0 where
  pub nodes : e.nodes ≤ 16
  pub rounds : e.m ≤ 3
  pub members : length e.members ≤ 16
  pub state_len : e.state_len < 2 ^ 16
  pub due : e.due < 2 ^ 8

-- for these a content of the right sizes is short
abbrev pub IsShort : Type 0
IsShort = (e : Expectation) (c : Content) → IsLaidOut e → kind c ≡ kind_in e.m e.slot → IsSized e c → IsInRange e c
