-- The notes of a controller are rows of the protocol.
use Rattle.std.proofs.Common.{ℕ, ◌≡◌, ◌||◌, Bool, List, ap, ◌∙◌}
use Rattle.node_grid.specs.Version.{kind_count}
use Rattle.error_reports.specs.Charge.{accuses}
use Rattle.error_reports.specs.Notes.{Notes, noted_besides, also_noted, also_carried}
use Rattle.agreed_state.specs.declared.config.Config.{Config}
use Rattle.protocol.specs.Configured.{setting_of}
use Rattle.protocol.specs.View.{row_by}
use Rattle.noting.specs.FoundLaws.{besides_by}
use Rattle.node_core.specs.Inside.{AreItsNotes}

module _ {N : ℕ} (config : Config N) (me : ℕ) (x : Notes) (own : AreItsNotes config me x) (more : ℕ → ℕ → Bool) where
  row_is : (row : List ℕ) → noted_besides N x.kinds x.nodes x.me row more ≡ row_by (setting_of config) me (λ j k. accuses row j k || more j k)
  row_is row =
      ap (λ (n : ℕ). noted_besides N n x.nodes x.me row more) own.kinds ∙ ap (λ (n : ℕ). noted_besides N (kind_count config.version) n x.me row more) own.nodes
      ∙ ap (λ (n : ℕ). noted_besides N (kind_count config.version) config.nodes n row more) own.me_is ∙ besides_by (setting_of config) me row more

  -- notes with these besides
  pub noted_by : also_noted N x more ≡ record x { row = row_by (setting_of config) me (λ j k. accuses x.row j k || more j k) }
  noted_by = ap (λ (xs : List ℕ). record x { row = xs }) (row_is x.row)

  pub carried_by : also_carried N x more ≡ record x { carried = row_by (setting_of config) me (λ j k. accuses x.carried j k || more j k) }
  carried_by = ap (λ (xs : List ℕ). record x { carried = xs }) (row_is x.carried)
