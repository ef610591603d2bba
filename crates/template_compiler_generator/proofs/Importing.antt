-- The code of templates that are imported: it keeps the shape.
use Rattle.std.proofs.Common.{◌≡◌, ℕ, suc, ◌+◌, true, false, cond, List, [], length, None, Some, slice_get, refl, sym, ap, ◌∙◌, arith}
use Rattle.std.specs.Prelude.{option_map}
use Rattle.template_compiler_tree.specs.Tree.{Expression, Imports, no_imports, imports_more}
use Rattle.template_compiler_walk.specs.Statements.{number_of, imported_names, stored_as}
use Rattle.template_compiler_walk.specs.Runnable.{IsRunnable, IsTarget, AreRunnable, AreImports}
use Rattle.template_compiler_code.specs.Code.{Code, begin_capture, discard_top, end_capture, export_locals, include, pop_frame, push_with}
use Rattle.template_compiler_code_shapes.specs.declared.outline.Opened.TheVariants.{With as with_frame}
use Rattle.template_compiler_code_shapes.specs.Shapes.{Shape, given, opened, with_capture}
use Rattle.template_compiler_code_shapes.specs.Effects.{falling, traded, ends_capture, effect_of}
use Rattle.template_compiler_codegen.specs.Core.{no_ways, flat}
use Rattle.template_compiler_codegen.specs.Expressions.{Coded, then_code, one, expression_code, expressions_code}
use Rattle.template_compiler_codegen.specs.Statements.{imports_core, target_code}
use Rattle.template_compiler_codegen.proofs.Standing.{StandsAt, instruction_at, stands_first, stands_second}
use Rattle.template_compiler_codegen.proofs.Expressions.{behind_single}
use Rattle.template_compiler_generator.proofs.Segments.{Free, Goes}
use Rattle.template_compiler_generator.proofs.Plain.{Sits, IsPlain, captured_plain, traded_plain, capture_plain}
use Rattle.template_compiler_generator.proofs.Moving.{Moves, goes_single, goes_both, moves_as, moves_nothing, moves_then, over_below, all_move, expression_moves, target_moves}

-- a capture ends behind a frame that is open
ended : (code : List Code) (place : ℕ) (s : Shape) → Sits s → effect_of code place end_capture (with_capture s) ≡ Some (falling (given 1 s))
ended code place s plain = ap (option_map (λ below. falling (given 1 below))) (capture_plain s plain)

-- a template that runs in a frame of its own, which stays open
abbrev apart_code : Expression → Coded
apart_code e = then_code (one push_with) (then_code (expression_code e) (one (include false)))

apart_goes : (e : Expression) → IsRunnable e → (code : List Code) (place : ℕ) (s : Shape) → IsPlain code s → StandsAt code place (apart_code e place)
    → Goes code place (place + length (apart_code e place)) s (Some (opened with_frame s)) Free
apart_goes e r code place s plain h =
    let first = one push_with in
    let second = expression_code e in
    let last = one (include false) in
    let t = opened with_frame s in
    let mid = place + length (first place) in
    let last_at = mid + length (second mid) in
    let behind = stands_second code place first (then_code second last) h in
    goes_both code place first (then_code second last) s t t
    (goes_single code place push_with s t Free (stands_first code place first (then_code second last) h) refl)
    (goes_both code mid second last t (given 1 t) t
    (expression_moves e r code mid t plain (stands_first code mid second last behind))
    (goes_single code last_at (include false) (given 1 t) t Free (stands_second code mid second last behind) (traded_plain 1 0 t plain.0)))

-- a module is made of the text that the instruction before gives
exports : (code : List Code) (before place : ℕ) (s : Shape) → Sits s → place ≡ suc before → slice_get code before ≡ Some end_capture
    → effect_of code place export_locals (given 1 s) ≡ Some (falling (given 1 s))
exports code before place s plain next at =
    ap (λ n. effect_of code n export_locals (given 1 s)) next ∙
    ap (λ o. cond (ends_capture o) (traded 1 1 (given 1 s)) None) at ∙ traded_plain 1 1 s plain

pub import_moves : (e target : Expression) → IsRunnable e → IsTarget target
    → Moves (then_code (one (begin_capture true)) (then_code (apart_code e) (then_code (one end_capture) (then_code (one export_locals) (then_code (one pop_frame) (target_code target)))))) 0 0
import_moves e target r targeted code place s plain h =
    let stored = target_code target in
    let closed = then_code (one pop_frame) stored in
    let exported = then_code (one export_locals) closed in
    let captured = then_code (one end_capture) exported in
    let apart = then_code (apart_code e) captured in
    let s1 = with_capture s in
    let s2 = opened with_frame s1 in
    let s3 = opened with_frame s in
    let apart_at = place + length (one (begin_capture true) place) in
    let end_at = apart_at + length (apart_code e apart_at) in
    let export_at = end_at + length (one end_capture end_at) in
    let close_at = export_at + length (one export_locals export_at) in
    let store_at = close_at + length (one pop_frame close_at) in
    let stands_apart = stands_second code place (one (begin_capture true)) apart h in
    let stands_end = stands_second code apart_at (apart_code e) captured stands_apart in
    let stands_export = stands_second code end_at (one end_capture) exported stands_end in
    let stands_close = stands_second code export_at (one export_locals) closed stands_export in
    let here = stands_first code end_at (one end_capture) exported stands_end in
    goes_both code place (one (begin_capture true)) apart s s1 s
    (goes_single code place (begin_capture true) s s1 Free (stands_first code place (one (begin_capture true)) apart h) refl)
    (goes_both code apart_at (apart_code e) captured s1 s2 s
    (apart_goes e r code apart_at s1 (captured_plain code s plain) (stands_first code apart_at (apart_code e) captured stands_apart))
    (goes_both code end_at (one end_capture) exported s2 (given 1 s3) s
    (goes_single code end_at end_capture s2 (given 1 s3) Free here (ended code end_at s3 plain.0))
    (goes_both code export_at (one export_locals) closed (given 1 s3) (given 1 s3) s
    (goes_single code export_at export_locals (given 1 s3) (given 1 s3) Free (stands_first code export_at (one export_locals) closed stands_export)
    (exports code end_at export_at s3 plain.0 (sym (behind_single end_at end_capture)) (instruction_at code end_at end_capture [] here)))
    (goes_both code close_at (one pop_frame) stored (given 1 s3) (given 1 s) s
    (goes_single code close_at pop_frame (given 1 s3) (given 1 s) Free (stands_first code close_at (one pop_frame) stored stands_close) refl)
    (target_moves target targeted code store_at s plain (stands_second code close_at (one pop_frame) stored stands_close))))))

-- names are looked up, and stored
names_run : (names : Imports) → AreImports names → AreRunnable (imported_names names)
names_run no_imports r = tt
names_run (imports_more e alias more) r = (r.0, names_run more r.2)

imports_move : (names : Imports) → AreImports names → Moves (flat no_ways (imports_core names)) (number_of (imported_names names)) 0
imports_move no_imports r = moves_nothing 0
imports_move (imports_more e alias more) r =
    let n = number_of (imported_names more) in
    let stores = flat no_ways (imports_core more) in
    moves_then stores (target_code (stored_as e alias)) (suc n) 1 0
    (moves_as stores (n + 1) (suc n) (0 + 1) 1 (omega arith) refl (over_below stores n 0 1 (imports_move more r.2)))
    (target_moves (stored_as e alias) r.1)

pub from_import_moves : (e : Expression) (names : Imports) → IsRunnable e → AreImports names
    → Moves (then_code (one (begin_capture false)) (then_code (apart_code e) (then_code (expressions_code (imported_names names)) (then_code (one pop_frame)
    (then_code (flat no_ways (imports_core names)) (then_code (one end_capture) (one discard_top))))))) 0 0
from_import_moves e names r named code place s plain h =
    let n = number_of (imported_names names) in
    let looks = expressions_code (imported_names names) in
    let stores = flat no_ways (imports_core names) in
    let ends = then_code (one end_capture) (one discard_top) in
    let stored = then_code stores ends in
    let closed = then_code (one pop_frame) stored in
    let looked = then_code looks closed in
    let apart = then_code (apart_code e) looked in
    let s1 = with_capture s in
    let s2 = opened with_frame s1 in
    let apart_at = place + length (one (begin_capture false) place) in
    let look_at = apart_at + length (apart_code e apart_at) in
    let close_at = look_at + length (looks look_at) in
    let store_at = close_at + length (one pop_frame close_at) in
    let end_at = store_at + length (stores store_at) in
    let drop_at = end_at + length (one end_capture end_at) in
    let stands_apart = stands_second code place (one (begin_capture false)) apart h in
    let stands_looks = stands_second code apart_at (apart_code e) looked stands_apart in
    let stands_close = stands_second code look_at looks closed stands_looks in
    let stands_stores = stands_second code close_at (one pop_frame) stored stands_close in
    let stands_ends = stands_second code store_at stores ends stands_stores in
    goes_both code place (one (begin_capture false)) apart s s1 s
    (goes_single code place (begin_capture false) s s1 Free (stands_first code place (one (begin_capture false)) apart h) refl)
    (goes_both code apart_at (apart_code e) looked s1 s2 s
    (apart_goes e r code apart_at s1 (captured_plain code s plain) (stands_first code apart_at (apart_code e) looked stands_apart))
    (goes_both code look_at looks closed s2 (given n s2) s
    (all_move (imported_names names) (names_run names named) code look_at s2 (captured_plain code s plain) (stands_first code look_at looks closed stands_looks))
    (goes_both code close_at (one pop_frame) stored (given n s2) (given n s1) s
    (goes_single code close_at pop_frame (given n s2) (given n s1) Free (stands_first code close_at (one pop_frame) stored stands_close) refl)
    (goes_both code store_at stores ends (given n s1) s1 s
    (imports_move names named code store_at s1 (captured_plain code s plain) (stands_first code store_at stores ends stands_stores))
    (goes_both code end_at (one end_capture) (one discard_top) s1 (given 1 s) s
    (goes_single code end_at end_capture s1 (given 1 s) Free (stands_first code end_at (one end_capture) (one discard_top) stands_ends) (ended code end_at s plain.0))
    (goes_single code drop_at discard_top (given 1 s) s Free (stands_second code end_at (one end_capture) (one discard_top) stands_ends) (traded_plain 1 0 s plain.0)))))))
