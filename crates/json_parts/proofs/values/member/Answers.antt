use Rattle.std.proofs.Common.{sym, ◌∙◌}
use Rattle.json.specs.Value.{value_view}
use Rattle.json_parts.proofs.Meaning.{mapped, get-data}
use Rattle.json_parts.proofs.values.member.Goals as goal

pub returns : goal.returns
returns c = mapped (λ v. value_view v.now) c.get.result _ c.get.ensures ∙ sym (get-data c.args.key.now (value_view c.args.value.now))
