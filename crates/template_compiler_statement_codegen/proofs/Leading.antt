-- Once the jumps of the breaks are told where they lead, the code is that of a loop whose end was known from the first.
use Rattle.std.proofs.Common.{◌≡◌, ℕ, ◌+◌, suc, Bool, true, false, List, [], ◌∷◌, ◌++◌, length, refl, sym, ap, ◌∙◌, append_assoc, length-append, arith}
use Rattle.std.proofs.Math.ListN.{set}
use Rattle.std.proofs.lemmas.List.{set_at}
use Rattle.template_compiler_tree.specs.Tree.{Statements}
use Rattle.template_compiler_code.specs.Code.{Code, jump, jump_if_false}
use Rattle.template_compiler_codegen.specs.Core.{Coded, then_code, skipped, either_code, left_by, choose, Ways, closing_with, Core, both, leaping, either, within, leave, chosen, flat}
use Rattle.template_compiler_codegen.specs.Statements.{statements_core, statements_code}
use Rattle.template_compiler_codegen.proofs.Lengths.{AsLong, long_core}
use Rattle.template_compiler_statement_codegen.specs.Breaks.{Places, then_places, next_places, either_places, choose_places, breaks, breaks_in, led}

-- between any two lists of code, the one piece becomes the other, which is as long
abbrev Leads : ℕ → Places → Coded → Coded → Type 0
Leads to places f g = (xs zs : List Code) → led to (places (length xs)) (xs ++ (f (length xs) ++ zs)) ≡ xs ++ (g (length xs) ++ zs)

pub led-append : (to : ℕ) (ps qs : List ℕ) (code : List Code) → led to (ps ++ qs) code ≡ led to ps (led to qs code)
led-append to [] qs code = refl
led-append to (p ∷ ps) qs code = ap (λ (l : List Code). set l p (jump to)) (led-append to ps qs code)

leads_then : (to : ℕ) (ps qs : Places) (f g h i : Coded) → AsLong f g → Leads to ps f g → Leads to qs h i
    → Leads to (then_places f ps qs) (then_code f h) (then_code g i)
leads_then to ps qs f g h i long first second xs zs =
    let n = length xs in
    let m = n + length (f n) in
    let front = xs ++ f n in
    let at : length front ≡ m = length-append xs (f n) in
    let split : xs ++ ((f n ++ h m) ++ zs) ≡ front ++ (h m ++ zs) =
    ap (λ (l : List Code). xs ++ l) (append_assoc (f n) (h m) zs) ∙ sym (append_assoc xs (f n) (h m ++ zs)) in
    let inner : led to (qs m) (front ++ (h m ++ zs)) ≡ front ++ (i m ++ zs) =
    ap (λ (k : ℕ). led to (qs k) (front ++ (h k ++ zs))) (sym at) ∙ second front zs ∙ ap (λ (k : ℕ). front ++ (i k ++ zs)) at in
    let outer : led to (ps n) (xs ++ (f n ++ (i m ++ zs))) ≡ xs ++ (g n ++ (i m ++ zs)) = first xs (i m ++ zs) in
    led-append to (ps n) (qs m) (xs ++ ((f n ++ h m) ++ zs)) ∙
    ap (λ (l : List Code). led to (ps n) (led to (qs m) l)) split ∙
    ap (λ (l : List Code). led to (ps n) l) (inner ∙ append_assoc xs (f n) (i m ++ zs)) ∙
    outer ∙ ap (λ (l : List Code). xs ++ l) (sym (append_assoc (g n) (i m) zs)) ∙
    ap (λ (k : ℕ). xs ++ ((g n ++ i (n + k)) ++ zs)) (long n)

-- behind one instruction, which stays
behind_one : (to : ℕ) (ps : Places) (f g : Coded) (c : Code) → Leads to ps f g → (xs zs : List Code) →
    led to (ps (suc (length xs))) (xs ++ (c ∷ (f (suc (length xs)) ++ zs))) ≡ xs ++ (c ∷ (g (suc (length xs)) ++ zs))
behind_one to ps f g c inner xs zs =
    let front = xs ++ c ∷ [] in
    let at : length front ≡ suc (length xs) = length-append xs (c ∷ []) ∙ (omega arith) in
    let split = λ (l : List Code). append_assoc xs (c ∷ []) l in
    ap (λ (l : List Code). led to (ps (suc (length xs))) l) (sym (split (f (suc (length xs)) ++ zs))) ∙
    ap (λ (k : ℕ). led to (ps k) (front ++ (f k ++ zs))) (sym at) ∙ inner front zs ∙
    ap (λ (k : ℕ). front ++ (g k ++ zs)) at ∙ split (g (suc (length xs)) ++ zs)

leads_skipped : (to : ℕ) (ps : Places) (leap : ℕ → Code) (f g : Coded) → AsLong f g → Leads to ps f g
    → Leads to (next_places ps) (skipped leap f) (skipped leap g)
leads_skipped to ps leap f g long inner xs zs =
    let n = suc (length xs) in
    behind_one to ps f g (leap (n + length (f n))) inner xs zs ∙
    ap (λ (k : ℕ). xs ++ (leap (n + k) ∷ (g n ++ zs))) (long n)

leads_either : (to : ℕ) (ps qs : Places) (f g h i : Coded) → AsLong f g → AsLong h i → Leads to ps f g → Leads to qs h i
    → Leads to (either_places f ps qs) (either_code f h) (either_code g i)
leads_either to ps qs f g h i long longer first second xs zs =
    let n = suc (length xs) in
    let both : Leads to (then_places f ps (next_places qs)) (then_code f (skipped jump h)) (then_code g (skipped jump i)) =
    leads_then to ps (next_places qs) f g (skipped jump h) (skipped jump i) long first (leads_skipped to qs jump h i longer second) in
    behind_one to (then_places f ps (next_places qs)) (then_code f (skipped jump h)) (then_code g (skipped jump i)) (jump_if_false (suc (n + length (f n)))) both xs zs ∙
    ap (λ (k : ℕ). xs ++ (jump_if_false (suc (n + k)) ∷ (then_code g (skipped jump i) n ++ zs))) (long n)

leads_out : (to from : ℕ) (closings : List Code) → Leads to (λ place. (place + length closings) ∷ []) (left_by closings from) (left_by closings to)
leads_out to from closings xs zs =
    let m = length xs + length closings in
    let split = λ (k : ℕ). ap (λ (l : List Code). xs ++ l) (append_assoc closings (jump k ∷ []) zs) ∙ sym (append_assoc xs closings (jump k ∷ zs)) in
    ap (λ (l : List Code). set l m (jump to)) (split from) ∙
    set_at (xs ++ closings) (jump from) zs (jump to) m (length-append xs closings) ∙ sym (split to)

-- a loop whose end is known
abbrev pub ending_at : ℕ → Ways → Ways
ending_at to ways = record ways { break_to = to }

leads_choose : (to : ℕ) (holds : Bool) (ps qs : Places) (f g h i : Coded) → Leads to ps f g → Leads to qs h i
    → Leads to (choose_places holds ps qs) (choose holds f h) (choose holds g i)
leads_choose to true ps qs f g h i first second = first
leads_choose to false ps qs f g h i first second = second

-- the breaks in a core lead where they are told
leads_core : (to : ℕ) (c : Core) (ways : Ways) → Leads to (breaks ways c) (flat ways c) (flat (ending_at to ways) c)
leads_core to (both a b) ways =
    let other = ending_at to ways in
    leads_then to (breaks ways a) (breaks ways b) (flat ways a) (flat other a) (flat ways b) (flat other b)
    (long_core a ways other refl) (leads_core to a ways) (leads_core to b ways)
leads_core to (leaping leap c) ways =
    let other = ending_at to ways in
    leads_skipped to (breaks ways c) leap (flat ways c) (flat other c) (long_core c ways other refl) (leads_core to c ways)
leads_core to (either a b) ways =
    let other = ending_at to ways in
    leads_either to (breaks ways a) (breaks ways b) (flat ways a) (flat other a) (flat ways b) (flat other b)
    (long_core a ways other refl) (long_core b ways other refl) (leads_core to a ways) (leads_core to b ways)
leads_core to (within close c) ways = leads_core to c (closing_with close ways)
leads_core to (leave true) ways = leads_out to ways.break_to ways.closings
leads_core to (chosen holds a b) ways =
    let other = ending_at to ways in
    leads_choose to holds (breaks ways a) (breaks ways b) (flat ways a) (flat other a) (flat ways b) (flat other b) (leads_core to a ways) (leads_core to b ways)
leads_core to _ ways = λ xs zs. refl

-- and those of statements
pub leads_statements : (to : ℕ) (ss : Statements) (ways : Ways) → Leads to (breaks_in ways ss) (statements_code ways ss) (statements_code (ending_at to ways) ss)
leads_statements to ss ways = leads_core to (statements_core ss) ways

-- the last of the jumps that are left is told where it leads
pub one_told : (to place : ℕ) (left rest : List ℕ) (now new : List Code) → left ≡ rest ++ place ∷ [] → length now ≡ to
    → new ≡ set now place (jump (length now)) → led to rest new ≡ led to left now
one_told to place left rest now new split long landed =
    ap (λ (l : List Code). led to rest l) (landed ∙ ap (λ (m : ℕ). set now place (jump m)) long) ∙
    sym (led-append to rest (place ∷ []) now) ∙ ap (λ (ps : List ℕ). led to ps now) (sym split)
