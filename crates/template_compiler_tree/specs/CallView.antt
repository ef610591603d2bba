-- What contracts see of a call.
use Rattle.std.specs.Prelude.{Option, None, Some}
use Rattle.std.specs.Global.{Box}
use Rattle.template_compiler_tree.specs.Tree.{Expression, Arguments}
use Rattle.template_compiler_tree.specs.ExpressionPlaces.{places_of, places_in_arguments}
use Rattle.template_compiler_tree.specs.NodePlaces.{Places, at, parts_more}
use Rattle.template_compiler_tree.specs.Kinds.{Called, calls_function, calls_method, calls_block, calls_value}
use Rattle.template_compiler_tree.specs.View.{expression_of, arguments_in}
use Rattle.template_compiler_tree.specs.declared.calls.Call.{Call}
use Rattle.template_compiler_tree.specs.declared.span.Spanned.{Spanned}
use Rattle.template_compiler_tree.specs.declared.calls.CallType.{CallType}
use Rattle.template_compiler_tree.specs.declared.calls.CallType.TheVariants.{Function, Method, Block, Object}

abbrev pub called : CallType → Called
called (Function name) = calls_function name.now
called (Method expr name) = calls_method (expression_of expr.now) name.now
called (Block name) = calls_block name.now
called (Object expr) = calls_value (expression_of expr.now)

abbrev pub call_in : Option (Box (Spanned Call)) → Option (Expression × Arguments)
call_in None = None
call_in (Some n) = Some (expression_of n.value.node.expr, arguments_in n.value.node.args.items)

-- where it stands, and its parts
abbrev pub call_places : Box (Spanned Call) → Places
call_places n = at n.value.span (parts_more (places_of n.value.node.expr) (places_in_arguments n.value.node.args.items))
