-- The members of JSON whose numbers are numbers have such numbers too.
use Rattle.std.proofs.Common.{◌≡◌, ℕ, List, Bool, true, false, cond, Option, None, Some, IfSome, bytes_eq, option_and_then, subst, sym}
use Rattle.json.specs.Find.{get, get_member, later_or}
use Rattle.json.specs.Json.{Json, null, boolean, number, string, array, object, Members, no_members, member}
use Rattle.json.specs.Tree.{HasNumbers, MembersHaveNumbers}
use Rattle.template_requests.specs.Members.{given, unless_null}

later_numbers : (a b : Option Json) → IfSome a HasNumbers → IfSome b HasNumbers → IfSome (later_or a b) HasNumbers
later_numbers None b p q = q
later_numbers (Some j) b p q = p

here_numbers : (is_here : Bool) (j : Json) → HasNumbers j → IfSome (cond is_here (Some j) None) HasNumbers
here_numbers true j h = h
here_numbers false j h = tt

member_numbers : (name : List ℕ) (ms : Members) → MembersHaveNumbers ms → IfSome (get_member name ms) HasNumbers
member_numbers name no_members h = tt
member_numbers name (member k j ms) h =
    later_numbers (get_member name ms) (cond (bytes_eq k name) (Some j) None) (member_numbers name ms h.1) (here_numbers (bytes_eq k name) j h.0)

get_numbers : (name : List ℕ) (j : Json) → HasNumbers j → IfSome (get name j) HasNumbers
get_numbers name null h = tt
get_numbers name (boolean b) h = tt
get_numbers name (number s) h = tt
get_numbers name (string s) h = tt
get_numbers name (array js) h = tt
get_numbers name (object ms) h = member_numbers name ms h

unless_null_numbers : (j : Json) → HasNumbers j → IfSome (unless_null j) HasNumbers
unless_null_numbers null h = tt
unless_null_numbers (boolean b) h = tt
unless_null_numbers (number s) h = h
unless_null_numbers (string s) h = tt
unless_null_numbers (array js) h = h
unless_null_numbers (object ms) h = h

found_numbers : (found : Option Json) → IfSome found HasNumbers → IfSome (option_and_then unless_null found) HasNumbers
found_numbers None h = tt
found_numbers (Some j) h = unless_null_numbers j h

-- what is given has numbers
pub numbers_given : (name : List ℕ) (j k : Json) → HasNumbers j → Some k ≡ given name j → HasNumbers k
numbers_given name j k h e = subst (λ (o : Option Json). IfSome o HasNumbers) (sym e) (found_numbers (get name j) (get_numbers name j h))
