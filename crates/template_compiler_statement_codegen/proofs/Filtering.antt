-- A body whose text is captured, and what is done with the text: it is stored or printed, behind filters.
use Rattle.template_compiler_tree.specs.Tree.{Expression, Optional, Statements, absent, given, set_block, filter_block}
use Rattle.template_compiler_code.specs.Code.{begin_capture, emit, end_capture}
use Rattle.template_compiler_code.specs.declared.listing.Instructions.{Instructions}
use Rattle.std.proofs.Common.{true}
use Rattle.template_compiler_codegen.specs.Expressions.{one, then_code, filters_code}
use Rattle.template_compiler_codegen.specs.Statements.{statements_code}
use Rattle.template_compiler_emission.specs.Puts.{Puts}
use Rattle.template_compiler_statement_codegen.specs.Breaks.{breaks_in}
use Rattle.template_compiler_statement_codegen.specs.Filtered.{filtered_store}
use Rattle.template_compiler_statement_codegen.specs.Rounds.{Lowers, LowersStatement, capturing, ways_of}
use Rattle.template_compiler_statement_codegen.specs.declared.rounds.Round.{Round}
use Rattle.template_compiler_statement_codegen.proofs.Lowering.{lowers_behind, lowers_put, lowers_then}

pub lowers_set_block : (target : Expression) (filters : Optional) (ss : Statements) {a b c d e : Instructions} {r s : Round} → Puts (one (begin_capture true)) a b
    → Lowers (statements_code (capturing (ways_of r)) ss) (breaks_in (capturing (ways_of r)) ss) b c r s → Puts (one end_capture) c d
    → Puts (filtered_store filters target) d e → LowersStatement (set_block target filters ss) a e r s
lowers_set_block target absent ss {s = s} begins body ends stored = lowers_behind begins (lowers_then body (lowers_behind ends (lowers_put s stored)))
lowers_set_block target (given filters) ss {s = s} begins body ends stored =
    lowers_behind begins (lowers_then body (lowers_behind ends (lowers_put s stored)))

pub lowers_filter_block : (filters : Expression) (ss : Statements) {a b c d e : Instructions} {r s : Round} → Puts (one (begin_capture true)) a b
    → Lowers (statements_code (capturing (ways_of r)) ss) (breaks_in (capturing (ways_of r)) ss) b c r s → Puts (one end_capture) c d
    → Puts (then_code (filters_code filters) (one emit)) d e → LowersStatement (filter_block filters ss) a e r s
lowers_filter_block filters ss {s = s} begins body ends printed =
    lowers_behind begins (lowers_then body (lowers_behind ends (lowers_put s printed)))
