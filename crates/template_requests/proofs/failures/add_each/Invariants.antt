-- The places so far are added.
use Rattle.std.proofs.Common.{◌≡◌, ◌++◌, map, take}
use Rattle.serde_json.specs.View.{view}
use Rattle.template_requests.specs.Failures.{place_data}
use Rattle.template_requests.proofs.failures.add_each.Given as goal

abbrev pub invariant-loop-place : goal.invariant-loop-place
invariant-loop-place l = map view l.places.items ≡ map view l.fn.places.items ++ map place_data (take l.place-index l.each)
