-- What goes along lists: an item is passed, and then those behind it.
use Rattle.std.proofs.Common.{◌≡◌, ℕ, zero, suc, ◌+◌, ◌<◌, ◌≤◌, arith, Bool, ◌||◌, List, [], ◌∷◌, length, drop, get_or, Some, slice_get, String, Global, string_bytes, refl, sym, ap, subst, ◌∙◌}
use Rattle.template_compiler_code.specs.Code.{Code}
use Rattle.template_compiler_code.specs.Listing.{code_in}
use Rattle.template_compiler_code.specs.Streams.{streams_in}
use Rattle.template_compiler_code.specs.declared.blocks.CompiledBlock.{CompiledBlock}
use Rattle.template_compiled.specs.Compiled.{Compiled}
use Rattle.template_compiled.specs.Sources.{Source}
use Rattle.template_compiler_names.proofs.Laws.{drop_at, drop_none, or_assoc, or_false}
use Rattle.template_program_parts.specs.Context.{text_pairs}
use Rattle.template_program_check.specs.Checked.{ChecksFrom, ChecksOne}
use Rattle.template_program_check.specs.Names.{is_stored_at, is_stored_by, is_stored_in, is_stored_in_blocks, is_stored_in_one}
use Rattle.template_program_check.specs.Unknown.{TellsAll, TellsBlocks, TellsCode, TellsIfThere, TellsTemplate}

-- the templates that are checked
pub checks_next : (read : List ℕ → Source) (xs : List (String Global × String Global)) (i : ℕ) (x : String Global × String Global)
    → i < length xs → x ≡ get_or xs i x → (lines told : List ℕ) (accepted compiled : List Compiled)
    → ChecksOne (string_bytes x.0) (read (string_bytes x.1)) lines accepted told compiled
    → (after : List ℕ) (all : List Compiled) → ChecksFrom read (text_pairs (drop (i + 1) xs)) told compiled after all
    → ChecksFrom read (text_pairs (drop i xs)) lines accepted after all
checks_next read xs i x within is lines told accepted compiled one after all rest =
    subst (λ ts. ChecksFrom read (text_pairs ts) lines accepted after all) (sym (drop_at xs i x within is)) (told, (compiled, one, rest))

pub checks_none : (read : List ℕ → Source) (xs : List (String Global × String Global)) (i : ℕ) → length xs ≤ i
    → (lines : List ℕ) (accepted : List Compiled) → ChecksFrom read (text_pairs (drop i xs)) lines accepted lines accepted
checks_none read xs i ends lines accepted =
    subst (λ ts. ChecksFrom read (text_pairs ts) lines accepted lines accepted) (sym (drop_none xs i ends)) (refl, refl)

-- the item at an index
at_index : {A : Type 0} (xs : List A) (i : ℕ) → i < length xs → (x : A) × (slice_get xs i ≡ Some x) × (drop i xs ≡ x ∷ drop (i + 1) xs)
at_index [] i within = absurd (omega (arith, within))
at_index (x ∷ xs) zero within = (x, refl, refl)
at_index (x ∷ xs) (suc i) within =
    let there = at_index xs i (omega (arith, within)) in
    let more : suc (i + 1) ≡ suc i + 1 = omega arith in
    (there.0, there.1, there.2 ∙ ap (λ n. there.0 ∷ drop n (x ∷ xs)) more)

-- the instructions whose names are told
pub code_next : (stored : List ℕ → Bool) (code : List Code) (i : ℕ) → i < length code → (lines told : List ℕ)
    → TellsIfThere stored (slice_get code i) lines told → (after : List ℕ) → TellsCode stored (drop (i + 1) code) told after
    → TellsCode stored (drop i code) lines after
code_next stored code i within lines told one after rest =
    let there = at_index code i within in
    subst (λ cs. TellsCode stored cs lines after) (sym there.2) (told, subst (λ c. TellsIfThere stored c lines told) there.1 one, rest)

pub code_none : (stored : List ℕ → Bool) (code : List Code) (i : ℕ) → length code ≤ i → (lines : List ℕ)
    → TellsCode stored (drop i code) lines lines
code_none stored code i ends lines = subst (λ cs. TellsCode stored cs lines lines) (sym (drop_none code i ends)) refl

-- the blocks
pub blocks_next : (stored : List ℕ → Bool) (xs : List CompiledBlock) (i : ℕ) (x : CompiledBlock) → i < length xs → x ≡ get_or xs i x
    → (lines told : List ℕ) → TellsCode stored (code_in x.instructions) lines told → (after : List ℕ)
    → TellsBlocks stored (streams_in (drop (i + 1) xs)) told after → TellsBlocks stored (streams_in (drop i xs)) lines after
blocks_next stored xs i x within is lines told one after rest =
    subst (λ bs. TellsBlocks stored (streams_in bs) lines after) (sym (drop_at xs i x within is)) (told, one, rest)

pub blocks_none : (stored : List ℕ → Bool) (xs : List CompiledBlock) (i : ℕ) → length xs ≤ i → (lines : List ℕ)
    → TellsBlocks stored (streams_in (drop i xs)) lines lines
blocks_none stored xs i ends lines = subst (λ bs. TellsBlocks stored (streams_in bs) lines lines) (sym (drop_none xs i ends)) refl

-- the templates
pub templates_next : (stored : List ℕ → Bool) (xs : List Compiled) (i : ℕ) (x : Compiled) → i < length xs → x ≡ get_or xs i x
    → (lines told : List ℕ) → TellsTemplate stored x lines told → (after : List ℕ) → TellsAll stored (drop (i + 1) xs) told after
    → TellsAll stored (drop i xs) lines after
templates_next stored xs i x within is lines told one after rest =
    subst (λ ts. TellsAll stored ts lines after) (sym (drop_at xs i x within is)) (told, one, rest)

pub templates_none : (stored : List ℕ → Bool) (xs : List Compiled) (i : ℕ) → length xs ≤ i → (lines : List ℕ)
    → TellsAll stored (drop i xs) lines lines
templates_none stored xs i ends lines = subst (λ ts. TellsAll stored ts lines lines) (sym (drop_none xs i ends)) refl

-- names that are added
added : (old new here left all : Bool) → new ≡ (old || here) → (old || (here || left)) ≡ all → (new || left) ≡ all
added old new here left all more before = ap (λ b. b || left) more ∙ sym (or_assoc old here left) ∙ before

pub stored_next : (code : List Code) (i : ℕ) → i < length code → (name : List ℕ) (old new all : Bool)
    → new ≡ (old || is_stored_at (slice_get code i) name) → (old || is_stored_in_one (drop i code) name) ≡ all
    → (new || is_stored_in_one (drop (i + 1) code) name) ≡ all
stored_next code i within name old new all more before =
    let there = at_index code i within in
    added old new (is_stored_at (Some there.0) name) (is_stored_in_one (drop (i + 1) code) name) all
    (more ∙ ap (λ c. old || is_stored_at c name) there.1) (ap (λ cs. old || is_stored_in_one cs name) (sym there.2) ∙ before)

pub stored_none : (code : List Code) (i : ℕ) → length code ≤ i → (name : List ℕ) (old all : Bool)
    → (old || is_stored_in_one (drop i code) name) ≡ all → old ≡ all
stored_none code i ends name old all before =
    sym (or_false old) ∙ ap (λ cs. old || is_stored_in_one cs name) (sym (drop_none code i ends)) ∙ before

pub stored_blocks_next : (xs : List CompiledBlock) (i : ℕ) (x : CompiledBlock) → i < length xs → x ≡ get_or xs i x
    → (name : List ℕ) (old new all : Bool) → new ≡ (old || is_stored_in_one (code_in x.instructions) name)
    → (old || is_stored_in_blocks (streams_in (drop i xs)) name) ≡ all
    → (new || is_stored_in_blocks (streams_in (drop (i + 1) xs)) name) ≡ all
stored_blocks_next xs i x within is name old new all more before =
    added old new (is_stored_in_one (code_in x.instructions) name) (is_stored_in_blocks (streams_in (drop (i + 1) xs)) name) all more
    (ap (λ bs. old || is_stored_in_blocks (streams_in bs) name) (sym (drop_at xs i x within is)) ∙ before)

pub stored_blocks_none : (xs : List CompiledBlock) (i : ℕ) → length xs ≤ i → (name : List ℕ) (old all : Bool)
    → (old || is_stored_in_blocks (streams_in (drop i xs)) name) ≡ all → old ≡ all
stored_blocks_none xs i ends name old all before =
    sym (or_false old) ∙ ap (λ bs. old || is_stored_in_blocks (streams_in bs) name) (sym (drop_none xs i ends)) ∙ before

pub stored_templates_next : (xs : List Compiled) (i : ℕ) (x : Compiled) → i < length xs → x ≡ get_or xs i x
    → (name : List ℕ) (old new all : Bool) → new ≡ (old || is_stored_by x name) → (old || is_stored_in (drop i xs) name) ≡ all
    → (new || is_stored_in (drop (i + 1) xs) name) ≡ all
stored_templates_next xs i x within is name old new all more before =
    added old new (is_stored_by x name) (is_stored_in (drop (i + 1) xs) name) all more
    (ap (λ ts. old || is_stored_in ts name) (sym (drop_at xs i x within is)) ∙ before)

pub stored_templates_none : (xs : List Compiled) (i : ℕ) → length xs ≤ i → (name : List ℕ) (old all : Bool)
    → (old || is_stored_in (drop i xs) name) ≡ all → old ≡ all
stored_templates_none xs i ends name old all before =
    sym (or_false old) ∙ ap (λ ts. old || is_stored_in ts name) (sym (drop_none xs i ends)) ∙ before
