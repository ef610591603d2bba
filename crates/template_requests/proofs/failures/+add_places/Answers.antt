use Rattle.std.proofs.Common.{map}
use Rattle.serde_json.specs.View.{view}
use Rattle.template_requests.proofs.Telling.{adds_later}
use Rattle.template_requests.proofs.failures.+add_places.Goals as goal

pub returns-in-Some : goal.returns-in-Some
returns-in-Some t c =
    adds_later c.add_places.result (map view c.args.places.now.items) (map view c.add_each.new.places.items) (map view c.add_places.new.places.items)
    c.places.result.now c.in_ok-add_each.ensures c.add_places.ensures
