use Rattle.std.proofs.Common.{◌++◌, ap, ◌∙◌, lit<}
use Rattle.std.specs.Prelude.{Some, string_bytes}
use Rattle.std.proofs.lemmas.Str.{IsUtf8-string_bytes}
use Rattle.serde_json.specs.View.{view}
use Rattle.judge.proofs.judging.text_of.Goals as goal

pub returns : goal.returns
returns c = record {
  line = string_bytes c.in_ok-text.text;
  value = view c.in_ok-value_of.field-0;
  reads = λ shallow. (IsUtf8-string_bytes c.in_ok-text.text, c.in_ok-text.ensures.reads_back shallow);
  says = c.in_ok-value_of.ensures ∙ ap Some c.in_ok-parts.ensures.says;
  text_is = c.in_ok-push.ensures.bytes ∙ ap (λ e. string_bytes c.in_ok-text.text ++ e) (c.in_ok-push.ensures.ascii (lit< tt));
}
