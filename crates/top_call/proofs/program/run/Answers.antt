use Rattle.top_call.proofs.program.run.Goals as goal

pub returns : goal.returns
returns g c =
    let e = c.maft.ensures in (
      c.maft.result,
      c.number.ensures,
      record {
        usage = e.usage;
        usage_untouched = e.usage_untouched;
        read_fault = e.read_fault;
        faults = e.faults;
        sink_faults = e.sink_faults;
        too_long = e.too_long;
        unreadable = e.unreadable;
        refused = e.refused;
        write_fault = e.write_fault;
        no_memory = e.no_memory;
        done = e.done;
        decided = e.decided;
      },
    )
