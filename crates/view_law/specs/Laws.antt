-- The laws of a view.
use Rattle.std.specs.Prelude.{◌≡◌, ◌≢◌, ◌<◌, ◌≤◌, ℕ, suc, Bool, false, None, Some}
use Rattle.fault_classes.specs.Plan.{restarts_at}
use Rattle.error_reports.specs.Notes.{Notes, also_noted, also_carried}
use Rattle.agreed_state.specs.declared.config.Config.{Config}
use Rattle.agreed_state.specs.declared.config.Inputs.{Inputs}
use Rattle.agreed_state.specs.Agreed.{AgreedView}
use Rattle.protocol.specs.Configured.{setting_of}
use Rattle.protocol.specs.View.{Kept, first_kept, Received, opened, goes_with, cold_view, empty_row}
use Rattle.protocol.specs.Cluster.{view}
use Rattle.protocol.specs.Run.{System, goes_in, run}
use Rattle.view_law.specs.Made.{Parts, Blamed, Noted, notes_begun, view_made, IsMadeOf}

-- Law: the view of a node that goes through a period with a state is the record of what it makes of it
abbrev pub ViewLaw : Type 0
ViewLaw =
    (N : ℕ) (config : Config N) (sys : System) → sys.setting ≡ setting_of config
    → (p i : ℕ) (a : AgreedView) → goes_with (setting_of config) i ((run sys).received i p) (goes_in sys p i).state ≡ Some a
    → (w : Parts) (b : Blamed) (n : Noted) → IsMadeOf config i p (sys.inputs i p) (goes_in sys p i) ((run sys).received i p) a w b n
    → view (run sys) i p ≡ view_made (goes_in sys p i) a w

-- Law: the view of a node that goes through a period with none
abbrev pub ColdLaw : Type 0
ColdLaw =
    (N : ℕ) (config : Config N) (sys : System) → sys.setting ≡ setting_of config
    → (p i : ℕ) → goes_with (setting_of config) i ((run sys).received i p) (goes_in sys p i).state ≡ None
    → view (run sys) i p ≡ cold_view (setting_of config) i ((run sys).received i p)

-- Law: what a node goes into the first period with
abbrev pub BeginningLaw : Type 0
BeginningLaw = (sys : System) (i : ℕ) → goes_in sys 0 i ≡ opened sys.setting (restarts_at sys.plan i 0) (first_kept sys.setting)

-- Law: and into the next one
abbrev pub NextLaw : Type 0
NextLaw = (sys : System) (p i : ℕ) → goes_in sys (suc p) i ≡ opened sys.setting (restarts_at sys.plan i (suc p)) (view (run sys) i p).kept

-- ---- notes

-- the row of these notes says nothing of node `me` itself, nor of nodes that aren't in use, nor of kinds that it has no room for
abbrev pub IsWithin : ℕ → Notes → Type 0
IsWithin capacity n = also_noted capacity n (λ j e. false) ≡ n

-- Law: so it is as a period begins, and where more is noted
pub record WithinLaw : Type 0 where
  pub begun : (N : ℕ) (config : Config N) (sys : System) → sys.setting ≡ setting_of config → (p i : ℕ) → IsWithin N (notes_begun config i (goes_in sys p i))
  pub noted : (capacity : ℕ) (n : Notes) (more : ℕ → ℕ → Bool) → n.kinds ≤ 16 → IsWithin capacity (also_noted capacity n more)

-- nothing of any kind is said of another node in use
abbrev pub SaysNothing : ℕ → Notes → (ℕ → ℕ → Bool) → Type 0
SaysNothing capacity n more = (j e : ℕ) → j < capacity → j < n.nodes → j ≢ n.me → e < n.kinds → more j e ≡ false

-- Law: what says nothing is noted by leaving notes as they are
abbrev pub IdleLaw : Type 0
IdleLaw = (capacity : ℕ) (n : Notes) (more : ℕ → ℕ → Bool) → IsWithin capacity n → SaysNothing capacity n more → also_noted capacity n more ≡ n

-- Law: what is noted first makes no difference
abbrev pub EitherWayLaw : Type 0
EitherWayLaw =
    (capacity : ℕ) (n : Notes) (one other : ℕ → ℕ → Bool) → n.kinds ≤ 16
    → also_noted capacity (also_noted capacity n one) other ≡ also_noted capacity (also_noted capacity n other) one

-- the same of what these notes carry over
abbrev pub IsCarriedWithin : ℕ → Notes → Type 0
IsCarriedWithin capacity n = also_carried capacity n (λ j e. false) ≡ n

-- Law: so it is as a period begins, and where more is noted or carried over; and what says nothing is carried over by leaving notes as they are
pub record CarriedLaw : Type 0 where
  pub begun : (N : ℕ) (config : Config N) (i : ℕ) (k : Kept) → IsCarriedWithin N (notes_begun config i k)
  pub noted : (capacity : ℕ) (n : Notes) (more : ℕ → ℕ → Bool) → IsCarriedWithin capacity n → IsCarriedWithin capacity (also_noted capacity n more)
  pub carried : (capacity : ℕ) (n : Notes) (more : ℕ → ℕ → Bool) → n.kinds ≤ 16 → IsCarriedWithin capacity (also_carried capacity n more)
  pub idle : (capacity : ℕ) (n : Notes) (more : ℕ → ℕ → Bool) → IsCarriedWithin capacity n → SaysNothing capacity n more → also_carried capacity n more ≡ n

-- Law: after a period that a node goes through, its notes begin the next one, where what was carried over becomes the row
abbrev pub NextNotesLaw : Type 0
NextNotesLaw =
    (N : ℕ) (config : Config N) (i p : ℕ) (g : Inputs) (k : Kept) (x : Received) (a : AgreedView)
    → (w : Parts) (b : Blamed) (n : Noted) → IsMadeOf config i p g k x a w b n
    → record n.late { row = n.late.carried; carried = empty_row (setting_of config) } ≡ notes_begun config i (view_made k a w).kept
