use Rattle.std.proofs.Common.{string_bytes}
use Rattle.serde_json.specs.View.{view}
use Rattle.template_requests.proofs.Telling.{told_so}
use Rattle.template_requests.proofs.failures.failure_text.Goals as goal

pub returns : goal.returns
returns c =
    told_so c.to_string.result (view c.in_ok-failure_json.field-0) c.args.error.now (string_bytes c.args.text) c.in_ok-failure_json.ensures c.to_string.ensures.text
