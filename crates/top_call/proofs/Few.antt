-- A scenario of few nodes, run with room for few.
use Rattle.std.proofs.Common.{◌≡◌, ℕ, List, Option, Result, Ok, Err, refl, sym}
use Rattle.scenario.specs.Scenario.{ScenarioView}
use Rattle.node_alone.specs.Log.{RecordView}
use Rattle.top_call.specs.declared.form.Form.{Form}
use Rattle.top_call.specs.declared.form.Reading.TheVariants.{Scenario, Log}
use Rattle.top_call.specs.declared.replay.ReplayError.{ReplayError}
use Rattle.top_call.specs.declared.replay.ReplayError.TheVariants.{WriteFault, NoMemory}
use Rattle.top_call.specs.Run.{run_text, IsSafeRun, IsRun}
use Rattle.top_call.specs.Alone.{log_text, IsLogRun}
use Rattle.top_call.specs.Answers.{capacity, status_of, IsAcceptedText, IsAcceptedLog, Answers}

-- a run whose text is also that of another, which is safe
pub run_of : {N M : ℕ} (form : Form) (a : ScenarioView N) (b : ScenarioView M) (old new : Option (List ℕ)) (before now : ℕ) (r : Result (Unit {0}) ReplayError)
    → run_text form a ≡ run_text form b → IsSafeRun b → IsRun form a old new before now r → IsRun form b old new before now r
run_of form a b old new before now r same safe h = record {
  safe = safe;
  written = rw (sym same) h.written;
  faultless = h.faultless;
  write_fault = rw (sym same) h.write_fault;
  no_memory = h.no_memory;
}

-- how a run ends is what is answered of its bytes
pub answered_run : (form : Form) (bytes : List ℕ) (sc : ScenarioView capacity) (old new : Option (List ℕ)) (before now : ℕ) (r : Result (Unit {0}) ReplayError)
    → IsAcceptedText bytes sc → IsRun form sc old new before now r → Answers (Scenario form) bytes old new before now (status_of r)
answered_run form bytes sc old new before now (Ok u) a h = (run_text form sc, (sc, a, refl, h.safe), h.written, h.faultless)
answered_run form bytes sc old new before now (Err WriteFault) a h = (run_text form sc, (sc, a, refl, h.safe), (h.write_fault refl).0, (h.write_fault refl).1)
answered_run form bytes sc old new before now (Err NoMemory) a h = h.no_memory refl

-- and of a log
pub answered_log : (id : ℕ) (bytes : List ℕ) (log : RecordView capacity) (old new : Option (List ℕ)) (before now : ℕ) (r : Result (Unit {0}) ReplayError)
    → IsAcceptedLog bytes id log → IsLogRun log old new before now r → Answers (Log id) bytes old new before now (status_of r)
answered_log id bytes log old new before now (Ok u) a h = (log_text log, (log, a, refl), h.written, h.faultless)
answered_log id bytes log old new before now (Err WriteFault) a h = (log_text log, (log, a, refl), (h.write_fault refl).0, (h.write_fault refl).1)
answered_log id bytes log old new before now (Err NoMemory) a h = h.no_memory refl
