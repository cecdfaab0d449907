use Rattle.std.proofs.Common.{◌+◌, refl, sym, subst}
use Rattle.protocol.specs.Run.{run, classes}
use Rattle.protocol.specs.Safe.{Claim}
use Rattle.scenario.specs.Scenario.{system_of}
use Rattle.cluster_periods.proofs.Claims.{claim_is}
use Rattle.cluster_periods.proofs.laws.over_time.Goals as goal

pub returns : goal.returns
returns c N sc p is claimed =
    let claim : Claim (run (system_of sc)) (classes (system_of sc)) p = claim_is (system_of sc) p claimed in
    record {
      starts = c.starts.ensures (system_of sc) is.system refl p claim;
      clocks = λ k has. c.skew_from_start.ensures (system_of sc) is.system refl p claim k (is.clock k has);
      standing = c.standing.ensures (system_of sc) is.system refl p claim;
      well = c.well.ensures (system_of sc) is.system refl p claim;
      manifest = c.manifest.ensures (system_of sc) is.system refl p claim;
      light = c.light.ensures (system_of sc) is.system refl p claim;
      lasting = λ q n e.
          let to : Claim (run (system_of sc)) (classes (system_of sc)) (q + n) = subst (Claim (run (system_of sc)) (classes (system_of sc))) (sym e) claim in
          record {
            values = c.values.ensures (system_of sc) is.system refl q n to;
            clocks = λ k has. c.skew.ensures (system_of sc) is.system refl q n to k (is.clock k has);
            recovery = c.recovery.ensures (system_of sc) is.system refl q n to;
            returning = c.returning.ensures (system_of sc) is.system refl q n to;
            remaining = c.remaining.ensures (system_of sc) is.system refl q n to;
            exclusion = c.exclusion.ensures (system_of sc) is.system refl q n to;
            manifest = c.manifest_exclusion.ensures (system_of sc) is.system refl q n to;
            silence = c.silence.ensures (system_of sc) is.system refl q n to;
          };
    }
