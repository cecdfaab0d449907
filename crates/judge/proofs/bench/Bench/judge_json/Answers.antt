use Rattle.json_parts.specs.Meaning.{view}
use Rattle.input_lines.specs.Devices.{sink_seen}
use Rattle.judge.proofs.Writing.{rows_as, few_rows, many_rows}
use Rattle.judge.proofs.bench.Bench.judge_json.Goals as goal

pub returns-then-has_few_nodes : goal.returns-then-has_few_nodes
returns-then-has_few_nodes g c =
    rows_as (sink_seen g.K.Sink.written g.K.Sink.faults c.args.sink.now) (sink_seen g.K.Sink.written g.K.Sink.faults c.judge_value.new.sink) _ _ c.judge_value.result
    (few_rows c.args.number (view c.args.value.now) c.has_few_nodes.result c.has_few_nodes.ensures c.if-has_few_nodes.true) c.judge_value.ensures

pub returns-else-has_few_nodes : goal.returns-else-has_few_nodes
returns-else-has_few_nodes g c =
    rows_as (sink_seen g.K.Sink.written g.K.Sink.faults c.args.sink.now) (sink_seen g.K.Sink.written g.K.Sink.faults c.judge_value-else-has_few_nodes.new.sink) _ _ c.judge_value-else-has_few_nodes.result
    (many_rows c.args.number (view c.args.value.now) c.has_few_nodes.result c.has_few_nodes.ensures c.if-has_few_nodes.false) c.judge_value-else-has_few_nodes.ensures
