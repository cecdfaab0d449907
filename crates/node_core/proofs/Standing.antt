-- What holds of a controller is kept where little of it changes.
use Rattle.std.proofs.Common.{ℕ, ◌≡◌, Bool, true, false, List, refl, sym, subst, ◌∙◌}
use Rattle.frames.specs.Content.{Expectation}
use Rattle.error_detect.specs.Watching.{Watch, closed, opened, delivered}
use Rattle.agreed_state.specs.declared.config.Config.{Config}
use Rattle.node_core.specs.declared.controller.Controller.TheInside.{Inside}
use Rattle.node_core.specs.Inside.{IsItsWatch, IsController}

-- ---- the watch

module _ {N : ℕ} (config : Config N) (me : ℕ) (w : Watch) (i : IsItsWatch config me w) where
  pub watch_shut : (u : Watch) → u ≡ closed w → IsItsWatch config me u
  watch_shut u e = subst (IsItsWatch config me) (sym e) (record { nodes = i.nodes; me_is = i.me_is; greatest = i.greatest; expects = λ h. absurd (cc) })

  pub watch_open : (u : Watch) (x : Expectation) → u ≡ opened w x → IsItsWatch config me u
  watch_open u x e = subst (IsItsWatch config me) (sym e) (record { nodes = i.nodes; me_is = i.me_is; greatest = i.greatest; expects = λ h. refl })

  pub watch_given : (u : Watch) (from tick : ℕ) (bytes : List ℕ) → u ≡ delivered w from tick bytes → IsItsWatch config me u
  watch_given u from tick bytes e = subst (IsItsWatch config me) (sym e) (record { nodes = i.nodes; me_is = i.me_is; greatest = i.greatest; expects = i.expects })

pub shut_open : {b : Bool} → b ≡ false → b ≡ true → ⊥
shut_open p q = let x = sym p ∙ q in cc

-- a frame came
pub frame_given : {N : ℕ} (n : Inside N) (u : Watch) (from tick : ℕ) (bytes : List ℕ) → u ≡ delivered n.watch from tick bytes → IsController n → IsController (record n { watch = u })
frame_given n u from tick bytes e inv = record {
  place = inv.place;
  slot = inv.slot;
  watch = watch_given n.config.now n.phase.me n.watch inv.watch u from tick bytes e;
  kept_notes = inv.kept_notes;
  notes = inv.notes;
}
