-- When two errors are equal: where their kinds are, in order.
use Rattle.std.specs.Prelude.{Bool, List}
use Rattle.std.specs.Cmp.{IsEquivalence, on_equiv, nat_eq_equiv}
use Rattle.std.specs.Cmp.Lexicographic.{pointwise, lists_equiv}
use denote.Enum.Bare.{sameb}
use denote.Enum.Declared.{tag_of}
use Rattle.template_values_errors.specs.declared.ErrorKind.{ErrorKind}
use Rattle.template_values_errors.specs.contracts.ErrorKind.{the_type}

abbrev pub same_kind : ErrorKind → ErrorKind → Bool
same_kind = sameb the_type

abbrev pub same_kinds : List ErrorKind → List ErrorKind → Bool
same_kinds = pointwise same_kind

pub same_kinds-laws : IsEquivalence same_kinds
same_kinds-laws = lists_equiv (on_equiv (tag_of the_type) nat_eq_equiv)
