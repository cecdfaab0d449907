-- The rows that nodes of a run carry over into a period: to note nothing besides leaves them as they are.
use Rattle.std.proofs.Common.{ℕ, zero, suc, ◌≡◌, ◌+◌, Bool, true, false, not, ◌&&◌, ◌||◌, ◌==◌, nat_lt, if◌then◌else◌, List, [], ◌∷◌, map, replicate, Option, None, Some, refl, ap, subst, ◌∙◌}
use Rattle.std.specs.List.{range_with_len}
use Rattle.std.proofs.Math.Path.{fun_ext}
use Rattle.node_grid.specs.NodeSet.{ids_below, ids_where, mask_of}
use Rattle.node_grid.specs.Version.{kind_count}
use Rattle.node_grid.specs.NumberFacts.{kinds-few}
use Rattle.node_grid.specs.TruthFacts.{or_false}
use Rattle.error_reports.specs.Charge.{accuses}
use Rattle.error_reports.specs.Notes.{Notes, noted_besides}
use Rattle.error_reports.specs.NoteLaws.{noted_twice, noted_alike}
use Rattle.fault_classes.specs.Plan.{restarts_at}
use Rattle.agreed_state.specs.declared.config.Inputs.{Inputs}
use Rattle.agreed_state.specs.Agreed.{AgreedView}
use Rattle.protocol.specs.RowLaws.{mask-zero}
use Rattle.protocol.specs.View.{Setting, Kept, Received, row_by, through, adopted_by, joined, view_from, opened}
use Rattle.protocol.specs.Run.{System, all_kept, goes_in, delivered}
use Rattle.safety.proofs.Induction.{accuses_none}

-- notes besides a row are the row by both
besides_by : (s : Setting) (i : ℕ) (row : List ℕ) (more : ℕ → ℕ → Bool) → noted_besides s.capacity (kind_count s.config.version) s.config.nodes i row more ≡ row_by s i (λ j k. accuses row j k || more j k)
unfolding row_by
besides_by s i row more = refl

-- to note nothing besides leaves the row as it is
abbrev pub IsPlain : Setting → ℕ → List ℕ → Type 0
IsPlain s i row = noted_besides s.capacity (kind_count s.config.version) s.config.nodes i row (λ j k. false) ≡ row

all_zero : (n a : ℕ) → ◌≡◌ {A = List ℕ} (map {B = ℕ} (λ j. 0) (range_with_len a n)) (replicate n 0)
all_zero zero a = refl
all_zero (suc n) a = ap (λ (xs : List ℕ). 0 ∷ xs) (all_zero n (a + 1))

same_row : (s : Setting) (i : ℕ) (f g : ℕ → ℕ → Bool) → ((j k : ℕ) → f j k ≡ g j k) → row_by s i f ≡ row_by s i g
same_row s i f g h = ap (row_by s i) (fun_ext (λ j. fun_ext (λ k. h j k)))

none_row : (s : Setting) (i : ℕ) (f : ℕ → ℕ → Bool) → ((j k : ℕ) → f j k ≡ false) → row_by s i f ≡ replicate s.capacity 0
unfolding row_by
none_row s i f none = ap (λ (g : ℕ → ℕ). map g (ids_below s.capacity)) (fun_ext (λ j. by j (nat_lt j s.config.nodes && not (j == i)))) ∙ all_zero s.capacity 0
  where
    by : (j : ℕ) (b : Bool) → ◌≡◌ {A = ℕ} (if b then mask_of (ids_where (f j) (kind_count s.config.version)) else 0) 0
    by j true = mask-zero (f j) (kind_count s.config.version) (none j)
    by j false = refl

-- nothing is noted of anybody
pub plain_empty : (s : Setting) (i : ℕ) → IsPlain s i (replicate s.capacity 0)
plain_empty s i =
    besides_by s i (replicate s.capacity 0) (λ j k. false)
    ∙ none_row s i (λ j k. accuses (replicate s.capacity 0) j k || false) (λ j k. or_false (accuses (replicate s.capacity 0) j k) ∙ accuses_none s.capacity j k)

-- a node's row
pub plain_row : (s : Setting) (i : ℕ) (f : ℕ → ℕ → Bool) → IsPlain s i (row_by s i f)
plain_row s i f = subst (λ (row : List ℕ). IsPlain s i row) again twice
  where
    zero_row : List ℕ
    zero_row = replicate s.capacity 0

    blank : Notes
    blank = record { nodes = s.config.nodes; me = i; kinds = kind_count s.config.version; row = zero_row; carried = [] }

    again : noted_besides s.capacity (kind_count s.config.version) s.config.nodes i zero_row f ≡ row_by s i f
    again = besides_by s i zero_row f ∙ same_row s i (λ j k. accuses zero_row j k || f j k) f (λ j k. ap (λ (b : Bool). b || f j k) (accuses_none s.capacity j k))

    twice : IsPlain s i (noted_besides s.capacity (kind_count s.config.version) s.config.nodes i zero_row f)
    twice = ap (λ (n : Notes). n.row)
        (noted_twice s.capacity blank f (λ j k. false) (kinds-few s.config.version)
        ∙ noted_alike s.capacity blank (λ j k. f j k || false) f (λ j k low used other within. or_false (f j k)))

carried_kept : (s : Setting) (i p : ℕ) (g : Inputs) (k : Kept) (x : Received) (o : Option AgreedView) → IsPlain s i (view_from s i p g k x o).kept.carried
unfolding through
carried_kept s i p g k x (Some a) = plain_row s i _
carried_kept s i p g k x None = by (adopted_by s i x.sync)
  where
    by : (o : Option AgreedView) → IsPlain s i (joined s i p g k x o).kept.carried
    by None = plain_empty s i
    by (Some a) = plain_row s i _

carried_all : (sys : System) (p i : ℕ) → IsPlain sys.setting i (all_kept sys p i).carried
unfolding all_kept
carried_all sys zero i = plain_empty sys.setting i
carried_all sys (suc p) i =
    let k : ℕ → Kept = λ j. opened sys.setting (restarts_at sys.plan j p) (all_kept sys p j) in
    carried_kept sys.setting i p (sys.inputs i p) (k i) (delivered sys p k i) (k i).state

carried_opened : (s : Setting) (i : ℕ) (b : Bool) (k : Kept) → IsPlain s i k.carried → IsPlain s i (opened s b k).carried
carried_opened s i true k plain = plain_empty s i
carried_opened s i false k plain = plain

-- what a node goes into a period with
pub carried_in : (sys : System) (p i : ℕ) → IsPlain sys.setting i (goes_in sys p i).carried
carried_in sys p i = carried_opened sys.setting i (restarts_at sys.plan i p) (all_kept sys p i) (carried_all sys p i)
