use Rattle.std.proofs.Common.{ap, map}
use Rattle.serde_json.specs.View.{view}
use Rattle.template_requests.proofs.Telling.{failure_so}
use Rattle.template_requests.proofs.failures.failure_json.Goals as goal

pub returns : goal.returns
returns c =
    failure_so c.failure_of.result c.args.error.now c.add_kinds.new.kinds c.add_places.new.places c.args.text
    (map view c.new-kinds.result.items) (map view c.new-places.result.items) (ap (map view) c.new-kinds.ensures.items) c.in_ok-add_kinds.ensures
    (ap (map view) c.new-places.ensures.items) c.in_ok-add_places.ensures c.failure_of.ensures
