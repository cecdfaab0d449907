-- A node lives through a list of periods as the protocol says.
use Rattle.std.proofs.Common.{ℕ, zero, suc, ◌≡◌, ◌<◌, ◌+◌, ◌*◌, Bool, true, false, List, refl, sym, ap, ◌∙◌, arith}
use Rattle.error_detect.specs.Multiset.{Arriving}
use Rattle.agreed_state.specs.declared.config.Config.{Config}
use Rattle.protocol.specs.View.{Setting, Kept, first_kept, opened, nothing, view_from}
use Rattle.protocol.specs.Cluster.{Cluster, kept, begins, view}
use Rattle.node_steps.specs.Facts.{same_fixed}
use Rattle.node_steps.specs.Parts.{NodeView}
use Rattle.protocol.specs.Configured.{setting_of}
use Rattle.node_steps.specs.Stages.{outcome_of}
use Rattle.node_steps.specs.Sending.{Fixed, fixed, fixed_of, IsServed, GoesThrough, PeriodLaw}
use Rattle.node_steps.specs.Living.{restarted_if, periods_run, Lives, LifeLaw}

-- it goes into a period with what the protocol says
goes_in : {N : ℕ} (s : Setting) (b : Bool) (w : NodeView N) (k : Kept) → setting_of w.config ≡ s → w.kept ≡ k → (restarted_if b w).kept ≡ opened s b k
goes_in s true w k here keeps = ap nothing here
goes_in s false w k here keeps = keeps

module _ (law : PeriodLaw) where
  lives : (N : ℕ) (config : Config N) (i room : ℕ) (cl : Cluster) (ds : ℕ → ℕ → List Arriving) (n : ℕ) (v : NodeView N) → cl.setting ≡ setting_of config → fixed v ≡ fixed_of config room i → v.kept ≡ first_kept (setting_of config)
      → ((p : ℕ) → p < n → IsServed config i p (cl.inputs i p) (begins cl i p) (cl.received i p) room (ds p)) → Lives cl i n v (periods_run (2 * config.m + 4) (cl.restarts i) (cl.inputs i) ds n v)
  unfolding periods_run kept
  lives N config i room cl ds zero v same is fresh served = record { keeps = fresh ∙ ap first_kept (sym same); stays = refl; records = λ p e. absurd (omega arith) }
  lives N config i room cl ds (suc p) v same is fresh served =
      let w : NodeView N = periods_run (2 * config.m + 4) (cl.restarts i) (cl.inputs i) ds p v in
      let so_far : Lives cl i p v w = lives N config i room cl ds p v same is fresh (λ q low. served q (omega arith)) in
      let u : NodeView N = restarted_if (cl.restarts i p) w in
      let k : Kept = begins cl i p in
      let here : setting_of w.config ≡ cl.setting = ap (λ (f : Fixed N). setting_of f.config) (so_far.stays ∙ is) ∙ sym same in
      let ready : fixed u ≡ fixed_of config room i = same_fixed (cl.restarts i p) w ∙ so_far.stays ∙ is in
      let keeps : u.kept ≡ k = goes_in cl.setting (cl.restarts i p) w (kept cl i p) here so_far.keeps in
      let through : GoesThrough config i p (cl.inputs i p) k (cl.received i p) (ds p) u = law N config i p (cl.inputs i p) k (cl.received i p) room (ds p) u (served p (omega arith)) ready keeps in
      let at : view_from (setting_of config) i p (cl.inputs i p) k (cl.received i p) k.state ≡ view cl i p = ap (λ (s : Setting). view_from s i p (cl.inputs i p) k (cl.received i p) k.state) (sym same) in
      record {
        keeps = through.over.kept ∙ ap (λ u. u.kept) at;
        stays = through.stays (2 * config.m + 4) ∙ same_fixed (cl.restarts i p) w ∙ so_far.stays;
        records = λ q e. through.over.outcome ∙ ap outcome_of at ∙ ap (λ (r : ℕ). outcome_of (view cl i r)) (let s : p ≡ q = omega arith in s);
      }

pub life : PeriodLaw → LifeLaw
life law N config i room cl ds n v same is fresh served = lives law N config i room cl ds n v same is fresh served
