-- What is told of a request that fails: one JSON object.
use Rattle.std.specs.Prelude.{◌≡◌, ℕ, ◌+◌, ◌++◌, List, [], codes, map, string_bytes}
use Rattle.serde_json.specs.Data.{Data, array, member, no_items, no_members, number, object, string, unsigned}
use Rattle.serde_json.specs.View.{items_of}
use Rattle.serde_json.specs.Written.{compact_text}
use Rattle.template_values_errors.specs.Names.{kind_name}
use Rattle.template_values_errors.specs.declared.ErrorKind.{ErrorKind}
use Rattle.template_values_errors.specs.declared.places.Place.{Place}
use Rattle.template_requests.specs.Members.{member_name}
use Rattle.template_requests.specs.declared.member.Member.{Member}

-- the name of a kind
abbrev pub kind_data : ErrorKind → Data
kind_data kind = string (kind_name kind)

-- a place, with columns from 1 on
abbrev pub place_data : Place → Data
place_data place = object (member (codes "column") (number (unsigned (place.column + 1)))
    (member (codes "end") (number (unsigned place.end))
    (member (codes "line") (number (unsigned place.line))
    (member (codes "name") (string (string_bytes place.name))
    (member (codes "start") (number (unsigned place.start)) no_members)))))

-- an object of three members
abbrev pub failure_with : Data → Data → Data → Data
failure_with kinds places text =
    object (member (codes "kinds") kinds (member (codes "places") places (member (codes "text") text no_members)))

-- the kinds of an error, outermost first, its places, and the text that was written before it
abbrev pub failure_data : List ErrorKind → List Place → List ℕ → Data
failure_data kinds places text =
    failure_with (array (items_of (map kind_data kinds))) (array (items_of (map place_data places))) (string text)

-- no kind and no place, but the member that is malformed
abbrev pub malformed_data : Member → Data
malformed_data of = object (member (codes "kinds") (array no_items) (member (codes "member") (string (member_name of))
    (member (codes "places") (array no_items) (member (codes "text") (string []) no_members))))

-- an error is told, with some places
abbrev pub TellsFailure : List ErrorKind → List ℕ → List ℕ → Type 0
TellsFailure kinds text told = (places : List Place) × (told ≡ compact_text (failure_data kinds places text))

-- some places are added
abbrev pub AddsPlaces : List Data → List Data → Type 0
AddsPlaces before after = (places : List Place) × (after ≡ before ++ map place_data places)
