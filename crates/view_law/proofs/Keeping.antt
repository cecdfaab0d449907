-- What nodes of a run keep from period to period.
use Rattle.std.proofs.Common.{ℕ, zero, suc, ◌≡◌, Bool, true, false, List, Option, None, Some, refl, sym, ap, subst, ◌∙◌}
use Rattle.node_grid.specs.NumberFacts.{kinds-few}
use Rattle.fault_classes.specs.Plan.{restarts_at}
use Rattle.node_grid.specs.Version.{kind_count}
use Rattle.error_reports.specs.Charge.{accuses}
use Rattle.error_reports.specs.Notes.{noted_row}
use Rattle.agreed_state.specs.declared.config.Config.{Config}
use Rattle.agreed_state.specs.declared.config.Inputs.{Inputs}
use Rattle.agreed_state.specs.Agreed.{AgreedView}
use Rattle.protocol.specs.Configured.{setting_of}
use Rattle.protocol.specs.View.{Setting, Kept, first_kept, Received, adopted_by, goes_with, row_by, cold_view, View, through, joined, view_from, opened}
use Rattle.protocol.specs.ViewLaws.{goes_through}
use Rattle.protocol.specs.Cluster.{view}
use Rattle.protocol.specs.Run.{System, so_far, delivered, all_kept, goes_in, run}
use Rattle.protocol.specs.RunLaws.{view_is}
use Rattle.protocol.specs.Facts.{goes_none}
use Rattle.view_law.specs.Made.{Parts, Blamed, Noted, notes_begun, view_made, IsMadeOf}
use Rattle.view_law.specs.Laws.{IsWithin}
use Rattle.view_law.proofs.Rows.{row_told, empty_told, within_told}
use Rattle.view_law.proofs.Viewing.{made_is}

-- ---- from period to period

pub first_is : (sys : System) (i : ℕ) → goes_in sys 0 i ≡ opened sys.setting (restarts_at sys.plan i 0) (first_kept sys.setting)
unfolding all_kept
first_is sys i = refl

next_kept : (sys : System) (p i : ℕ) → all_kept sys (suc p) i ≡ (so_far sys p (goes_in sys p) i (delivered sys p (goes_in sys p) i)).kept
unfolding all_kept
next_kept sys p i = refl

pub next_is : (sys : System) (p i : ℕ) → goes_in sys (suc p) i ≡ opened sys.setting (restarts_at sys.plan i (suc p)) (view (run sys) i p).kept
next_is sys p i = ap (opened sys.setting (restarts_at sys.plan i (suc p))) (next_kept sys p i ∙ ap (λ (v : View). v.kept) (sym (view_is sys i p)))

-- ---- what is carried over is told

abbrev IsCarried : Setting → ℕ → List ℕ → Type 0
IsCarried s i row = row ≡ noted_row s.capacity (kind_count s.config.version) s.config.nodes i (accuses row)

none_carried : (s : Setting) (i : ℕ) (k : Kept) → IsCarried s i (first_kept s).carried
none_carried s i k = empty_told s.capacity (kind_count s.config.version) s.config.nodes i

row_carried : (s : Setting) (i : ℕ) (f : ℕ → ℕ → Bool) → IsCarried s i (row_by s i f)
unfolding row_by
row_carried s i f = row_told s.capacity (kind_count s.config.version) s.config.nodes i f (kinds-few s.config.version)

carried_from : (s : Setting) (i p : ℕ) (g : Inputs) (k : Kept) (x : Received) (o : Option AgreedView) → IsCarried s i (view_from s i p g k x o).kept.carried
unfolding through
carried_from s i p g k x (Some a) = row_carried s i _
carried_from s i p g k x None = go (adopted_by s i x.sync) where
  go : (o : Option AgreedView) → IsCarried s i (joined s i p g k x o).kept.carried
  go None = none_carried s i k
  go (Some a) = row_carried s i _

kept_first : (sys : System) (i : ℕ) → all_kept sys 0 i ≡ first_kept sys.setting
unfolding all_kept
kept_first sys i = refl

kept_carried : (sys : System) (p i : ℕ) → IsCarried sys.setting i (all_kept sys p i).carried
kept_carried sys zero i = subst (λ (k : Kept). IsCarried sys.setting i k.carried) (sym (kept_first sys i)) (none_carried sys.setting i (first_kept sys.setting))
kept_carried sys (suc p) i =
    subst (λ (k : Kept). IsCarried sys.setting i k.carried) (sym (next_kept sys p i))
    (carried_from sys.setting i p (sys.inputs i p) (goes_in sys p i) (delivered sys p (goes_in sys p) i) (goes_in sys p i).state)

opened_carried : (s : Setting) (i : ℕ) (b : Bool) (k : Kept) → IsCarried s i k.carried → IsCarried s i (opened s b k).carried
opened_carried s i true k told = none_carried s i k
opened_carried s i false k told = told

pub begun_within : (N : ℕ) (config : Config N) (sys : System) → sys.setting ≡ setting_of config → (p i : ℕ) → IsWithin N (notes_begun config i (goes_in sys p i))
begun_within N config sys of p i =
    within_told N (notes_begun config i (goes_in sys p i))
    (subst (λ (s : Setting). IsCarried s i (goes_in sys p i).carried) of (opened_carried sys.setting i (restarts_at sys.plan i p) (all_kept sys p i) (kept_carried sys p i)))

-- ---- views

-- the view of a run, in the setting of the configuration
abbrev view_in : {N : ℕ} → Config N → System → ℕ → ℕ → View
view_in config sys i p = view_from (setting_of config) i p (sys.inputs i p) (goes_in sys p i) ((run sys).received i p) (goes_in sys p i).state

run_view : {N : ℕ} (config : Config N) (sys : System) → sys.setting ≡ setting_of config → (p i : ℕ) → view (run sys) i p ≡ view_in config sys i p
run_view config sys of p i =
    view_is sys i p ∙ ap (λ (s : Setting). view_from s i p (sys.inputs i p) (goes_in sys p i) ((run sys).received i p) (goes_in sys p i).state) of

pub through_is : (N : ℕ) (config : Config N) (sys : System) → sys.setting ≡ setting_of config
    → (p i : ℕ) (a : AgreedView) → goes_with (setting_of config) i ((run sys).received i p) (goes_in sys p i).state ≡ Some a
    → (w : Parts) (b : Blamed) (n : Noted) → IsMadeOf config i p (sys.inputs i p) (goes_in sys p i) ((run sys).received i p) a w b n
    → view (run sys) i p ≡ view_made (goes_in sys p i) a w
through_is N config sys of p i a goes w b n is =
    run_view config sys of p i
    ∙ goes_through (setting_of config) i p (sys.inputs i p) (goes_in sys p i) ((run sys).received i p) (goes_in sys p i).state a goes
    ∙ made_is config i p (sys.inputs i p) (goes_in sys p i) ((run sys).received i p) a w b n is

pub cold_is : (N : ℕ) (config : Config N) (sys : System) → sys.setting ≡ setting_of config
    → (p i : ℕ) → goes_with (setting_of config) i ((run sys).received i p) (goes_in sys p i).state ≡ None
    → view (run sys) i p ≡ cold_view (setting_of config) i ((run sys).received i p)
cold_is N config sys of p i none =
    run_view config sys of p i
    ∙ goes_none (setting_of config) i p (sys.inputs i p) (goes_in sys p i) ((run sys).received i p) (goes_in sys p i).state none
