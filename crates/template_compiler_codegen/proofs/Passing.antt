-- The code of arguments performs their walk: it leaves the values that are passed, or all of them as one counted run.
use Rattle.std.proofs.Common.{◌≡◌, ℕ, ◌+◌, zero, suc, Bool, true, false, if◌then◌else◌, List, [], ◌∷◌, ◌++◌, length, length-append, Option, None, Some, refl, sym, ap, subst, ◌∙◌, arith}
use Rattle.template_values_model.specs.Val.{Val, text}
use Rattle.template_compiler_process.specs.Process as events
use Rattle.template_compiler_process.specs.Process.{Counts, Ask, Process, step, asks, on_value, on_all, spread, Below}
use Rattle.template_compiler_process.proofs.Below.{below-step, below-asks_all}
use Rattle.template_compiler_walk.specs.Expressions.{Giving, Passing, alone, spreads, has_spread, listed, stretches_walk, mapped, entries_stretches, merged_if, keywords_walk, run_if, passed_walk}
use Rattle.template_compiler_code.specs.Code.{Operand, single, counted, Code, build_kwargs, build_list, merge_kwargs, unpack_lists, load_const}
use Rattle.template_compiler_code.specs.Counting.{counts_before}
use Rattle.template_compiler_code.specs.Steps.{taken, handed, on_taken, act, exec}
use Rattle.template_compiler_codegen.specs.Core.{Core, no_ways, flat}
use Rattle.template_compiler_codegen.specs.Expressions.{Coded, then_code, one, nothing, listed_core, mapped_core, at_most_one, stretches_core, entries_stretches_core, list_count, rest_count, merged_core, merged_count, map_count, keywords_core, keyword_count, run_core, passed_core, passed_count}
use Rattle.template_compiler_codegen.proofs.Standing.{StandsAt, instruction_at, below_at, behind_then, stands_first, stands_second}
use Rattle.template_compiler_codegen.proofs.Plain.{Plain, plain_counts, EachPlain, plain_mapped, plain_stretches}
use Rattle.template_compiler_codegen.proofs.Behind.{PerformsBehind, OverBehind, still_behind}
use Rattle.template_compiler_codegen.proofs.Expressions.{Gives, Performs, behind_single, asks_at, performs_load, moved, pushed, pushed_twice, laid, laid_twice, builds_at, built_list, built_kwargs, built_merged, taken_all}

-- where nothing stands, nothing is passed
stays : (code : List Code) (k place : ℕ) (operands : List Operand) (p : Process) → Below p (exec code k (place + length (nothing place)) operands) → Below p (exec code k place operands)
stays code k place operands p below = let same : place + length (nothing place) ≡ place = omega arith in moved code k (place + length (nothing place)) place operands p same below

-- values in a list, if there are any
abbrev Lists : ℕ → List Code → ℕ → ℕ → Type 0
Lists n code from to = (k : ℕ) → (j : ℕ) × ((vs : List Val) → length vs ≡ n → (operands : List Operand) (go : List Val → Process)
    → ((bs : List Val) → length bs ≡ at_most_one n → Below (go bs) (exec code k to (pushed bs operands))) → Below (listed vs go) (exec code j from (pushed vs operands)))

no_list : (code : List Code) (k place : ℕ) (vs : List Val) → length vs ≡ 0 → (operands : List Operand) (go : List Val → Process)
    → ((bs : List Val) → length bs ≡ 0 → Below (go bs) (exec code k (place + length (nothing place)) (pushed bs operands))) → Below (listed vs go) (exec code k place (pushed vs operands))
unfolding pushed
no_list code k place [] many operands go below = stays code k place operands (go []) (below [] refl)
no_list code k place (v ∷ vs) many operands go below = absurd (omega (arith, many))

one_list : (n : ℕ) (code : List Code) (place : ℕ) → StandsAt code place (build_list (Some (suc n)) ∷ []) → (k : ℕ) (vs : List Val) → length vs ≡ suc n → (operands : List Operand) (go : List Val → Process)
    → ((bs : List Val) → length bs ≡ 1 → Below (go bs) (exec code k (place + length (one (build_list (Some (suc n))) place)) (pushed bs operands))) → Below (listed vs go) (exec code (suc k) place (pushed vs operands))
unfolding pushed
one_list n code place h k [] many operands go below = absurd (omega (arith, many))
one_list n code place h k (v ∷ vs) many operands go below =
    builds_at code place (build_list (Some (suc n))) h k (v ∷ vs) operands (events.build_list (v ∷ vs)) (λ l. go (l ∷ []))
    (built_list (suc n) (exec code k) (counts_before code place) place (v ∷ vs) operands many) (λ l. below (l ∷ []) refl)

lists : (n : ℕ) (code : List Code) (place : ℕ) → StandsAt code place (flat no_ways (listed_core n) place) → Lists n code place (place + length (flat no_ways (listed_core n) place))
lists zero code place h k = (k, λ vs many operands go below. no_list code k place vs many operands go below)
lists (suc n) code place h k = (suc k, λ vs many operands go below. one_list n code place h k vs many operands go below)

-- entries in a keyword map, if there are any
abbrev Maps : ℕ → List Code → ℕ → ℕ → Type 0
Maps n code from to = (k : ℕ) → (j : ℕ) × ((es : List (Val × Val)) → length es ≡ n → (operands : List Operand) (go : List Val → Process)
    → ((bs : List Val) → length bs ≡ at_most_one n → Below (go bs) (exec code k to (pushed bs operands))) → Below (mapped es go) (exec code j from (pushed (laid es) operands)))

no_map : (code : List Code) (k place : ℕ) (es : List (Val × Val)) → length es ≡ 0 → (operands : List Operand) (go : List Val → Process)
    → ((bs : List Val) → length bs ≡ 0 → Below (go bs) (exec code k (place + length (nothing place)) (pushed bs operands))) → Below (mapped es go) (exec code k place (pushed (laid es) operands))
unfolding pushed
no_map code k place [] many operands go below = stays code k place operands (go []) (below [] refl)
no_map code k place (e ∷ es) many operands go below = absurd (omega (arith, many))

one_map : (n : ℕ) (code : List Code) (place : ℕ) → StandsAt code place (build_kwargs (suc n) ∷ []) → (k : ℕ) (es : List (Val × Val)) → length es ≡ suc n → (operands : List Operand) (go : List Val → Process)
    → ((bs : List Val) → length bs ≡ 1 → Below (go bs) (exec code k (place + length (one (build_kwargs (suc n)) place)) (pushed bs operands))) → Below (mapped es go) (exec code (suc k) place (pushed (laid es) operands))
unfolding pushed
one_map n code place h k [] many operands go below = absurd (omega (arith, many))
one_map n code place h k (e ∷ es) many operands go below =
    builds_at code place (build_kwargs (suc n)) h k (laid (e ∷ es)) operands (events.build_kwargs (e ∷ es)) (λ m. go (m ∷ []))
    (built_kwargs (suc n) (exec code k) (counts_before code place) place (e ∷ es) operands many) (λ m. below (m ∷ []) refl)

maps : (n : ℕ) (code : List Code) (place : ℕ) → StandsAt code place (flat no_ways (mapped_core n) place) → Maps n code place (place + length (flat no_ways (mapped_core n) place))
maps zero code place h k = (k, λ es many operands go below. no_map code k place es many operands go below)
maps (suc n) code place h k = (suc k, λ es many operands go below. one_map n code place h k es many operands go below)

-- arguments whose codes perform their walks
pub data EachPassed : List (Passing Core Core) → List (Passing Giving Giving) → Type 0 where
  none_passed : EachPassed [] []
  alone_more : {piece : Core} {walk : Giving} {pieces : List (Passing Core Core)} {walks : List (Passing Giving Giving)}
      → Performs (flat no_ways piece) walk → EachPassed pieces walks → EachPassed (alone piece ∷ pieces) (alone walk ∷ walks)
  spread_more : {piece : Core} {walk : Giving} {pieces : List (Passing Core Core)} {walks : List (Passing Giving Giving)}
      → Performs (flat no_ways piece) walk → EachPassed pieces walks → EachPassed (spreads piece ∷ pieces) (spreads walk ∷ walks)

-- keyword arguments in this code, behind so many macros and loops; only the last one may count any
pub data EachNamed (code : List Code) (first : Counts) : List (Passing (List ℕ × Core) Core) → List (Passing (List ℕ × Giving) Giving) → Type 0 where
  none_named : EachNamed code first [] []
  named_more : {name : List ℕ} {piece : Core} {walk : Giving} {pieces : List (Passing (List ℕ × Core) Core)} {walks : List (Passing (List ℕ × Giving) Giving)}
      → Performs (flat no_ways piece) walk → Plain piece → EachNamed code first pieces walks → EachNamed code first (alone (name, piece) ∷ pieces) (alone (name, walk) ∷ walks)
  merged_more : {piece : Core} {walk : Giving} {pieces : List (Passing (List ℕ × Core) Core)} {walks : List (Passing (List ℕ × Giving) Giving)}
      → Performs (flat no_ways piece) walk → Plain piece → EachNamed code first pieces walks → EachNamed code first (spreads piece ∷ pieces) (spreads walk ∷ walks)
  last_named : {name : List ℕ} {piece : Core} {walk : Giving} → PerformsBehind code first (flat no_ways piece) walk → EachNamed code first (alone (name, piece) ∷ []) (alone (name, walk) ∷ [])

-- stretches behind so many values
abbrev Stretches : ℕ → List (Passing Core Core) → List (Passing Giving Giving) → Type 0
Stretches n args walks = (code : List Code) (place : ℕ) → StandsAt code place (flat no_ways (stretches_core n args) place) → (k : ℕ)
    → (j : ℕ) × ((vs : List Val) → length vs ≡ n → (operands : List Operand) (go : List Val → List Val → Process)
    → ((ls us : List Val) → length ls ≡ list_count n args → length us ≡ rest_count n args → Below (go ls us) (exec code k (place + length (flat no_ways (stretches_core n args) place)) (pushed us (pushed ls operands))))
    → Below (stretches_walk vs walks go) (exec code j place (pushed vs operands)))

gives_stretches : (n : ℕ) (args : List (Passing Core Core)) (walks : List (Passing Giving Giving)) → EachPassed args walks → Stretches n args walks
unfolding pushed
gives_stretches n _ _ none_passed code place h k = (k, λ vs many operands go below. stays code k place (pushed vs operands) (go [] vs) (below [] vs refl many))
gives_stretches n _ _ (alone_more {piece = c} {walk = walk} {pieces = args} {walks = walks} f each) code place h k =
    let first = flat no_ways c in
    let more = flat no_ways (stretches_core (suc n) args) in
    let mid = place + length (first place) in
    let b = gives_stretches (suc n) args walks each code mid (stands_second code place first more h) k in
    let a = f code place (stands_first code place first more h) b.0 in (
      a.0,
      λ vs many operands go below.
          a.1 (pushed vs operands) (λ v. stretches_walk (vs ++ v ∷ []) walks go)
          (λ v.
          let P : List Operand → Type 0 = λ o. Below (stretches_walk (vs ++ v ∷ []) walks go) (exec code b.0 mid o) in
          subst P (pushed_twice vs (v ∷ []) operands)
          (b.1 (vs ++ v ∷ []) (omega (length-append vs (v ∷ []), many, arith)) operands go
          (λ ls us few rest. moved code k (place + length (then_code first more place)) (mid + length (more mid)) (pushed us (pushed ls operands)) (go ls us) (behind_then first more place) (below ls us few rest)))),
    )
gives_stretches n _ _ (spread_more {piece = c} {walk = walk} {pieces = args} {walks = walks} f each) code place h k =
    let first = flat no_ways (listed_core n) in
    let second = flat no_ways c in
    let more = flat no_ways (stretches_core 0 args) in
    let later = then_code second more in
    let mid = place + length (first place) in
    let more_at = mid + length (second mid) in
    let behind = stands_second code place first later h in
    let b = gives_stretches 0 args walks each code more_at (stands_second code mid second more behind) k in
    let a = f code mid (stands_first code mid second more behind) b.0 in
    let l = lists n code place (stands_first code place first later h) a.0 in (
      l.0,
      λ vs many operands go below.
          l.1 vs many operands (λ bs. walk (λ v. stretches_walk [] walks (λ ls us. go (bs ++ v ∷ ls) us)))
          (λ bs some.
          a.1 (pushed bs operands) (λ v. stretches_walk [] walks (λ ls us. go (bs ++ v ∷ ls) us))
          (λ v.
          b.1 [] refl (single v ∷ pushed bs operands) (λ ls us. go (bs ++ v ∷ ls) us)
          (λ ls us few rest.
          let P : List Operand → Type 0 = λ o. Below (go (bs ++ v ∷ ls) us) (exec code k (more_at + length (more more_at)) (pushed us o)) in
          subst P (pushed_twice bs (v ∷ ls) operands)
          (moved code k (place + length (then_code first later place)) (more_at + length (more more_at)) (pushed us (pushed (bs ++ v ∷ ls) operands)) (go (bs ++ v ∷ ls) us)
          (behind_then first later place ∙ behind_then second more mid) (below (bs ++ v ∷ ls) us (omega (length-append bs (v ∷ ls), some, few, arith)) rest))))),
    )

-- so it is of entries, at a place
abbrev EntriesAt : List Code → ℕ → List (Passing (List ℕ × Core) Core) → List (Passing (List ℕ × Giving) Giving) → ℕ → Type 0
EntriesAt code n args walks place = (k : ℕ)
    → (j : ℕ) × ((es : List (Val × Val)) → length es ≡ n → (operands : List Operand) (go : List Val → List (Val × Val) → Process)
    → ((ms : List Val) (ds : List (Val × Val)) → length ms ≡ list_count n args → length ds ≡ rest_count n args → Below (go ms ds) (exec code k (place + length (flat no_ways (entries_stretches_core n args) place)) (pushed (laid ds) (pushed ms operands))))
    → Below (entries_stretches es walks go) (exec code j place (pushed (laid es) operands)))

-- one entry, and the others
entry_then : (code : List Code) (n : ℕ) (name : List ℕ) (c : Core) (walk : Giving) (args : List (Passing (List ℕ × Core) Core)) (walks : List (Passing (List ℕ × Giving) Giving)) (place : ℕ)
    → StandsAt code place (one (load_const (text name)) place)
    → Gives code walk (place + length (one (load_const (text name)) place)) ((place + length (one (load_const (text name)) place)) + length (flat no_ways c (place + length (one (load_const (text name)) place))))
    → EntriesAt code (suc n) args walks ((place + length (one (load_const (text name)) place)) + length (flat no_ways c (place + length (one (load_const (text name)) place))))
    → EntriesAt code n (alone (name, c) ∷ args) (alone (name, walk) ∷ walks) place
unfolding pushed
entry_then code n name c walk args walks place loads valued rest k =
    let first = one (load_const (text name)) in
    let second = flat no_ways c in
    let more = flat no_ways (entries_stretches_core (suc n) args) in
    let later = then_code second more in
    let mid = place + length (first place) in
    let more_at = mid + length (second mid) in
    let b = rest k in
    let a = valued b.0 in
    let l = performs_load (text name) code place loads a.0 in (
      l.0,
      λ es many operands go below.
          l.1 (pushed (laid es) operands) (λ key. walk (λ v. entries_stretches (es ++ (key, v) ∷ []) walks go))
          (λ key.
          a.1 (single key ∷ pushed (laid es) operands) (λ v. entries_stretches (es ++ (key, v) ∷ []) walks go)
          (λ v.
          let P : List Operand → Type 0 = λ o. Below (entries_stretches (es ++ (key, v) ∷ []) walks go) (exec code b.0 more_at o) in
          let Q : List Val → Type 0 = λ us. Below (entries_stretches (es ++ (key, v) ∷ []) walks go) (exec code b.0 more_at (pushed us operands)) in
          subst P (pushed_twice (laid es) (key ∷ v ∷ []) operands) (subst Q (laid_twice es ((key, v) ∷ []))
          (b.1 (es ++ (key, v) ∷ []) (omega (length-append es ((key, v) ∷ []), many, arith)) operands go
          (λ ms ds few rest. moved code k (place + length (then_code first later place)) (more_at + length (more more_at)) (pushed (laid ds) (pushed ms operands)) (go ms ds)
          (behind_then first later place ∙ behind_then second more mid) (below ms ds few rest)))))),
    )

-- nothing is left
entries_over : (code : List Code) (n place : ℕ) → EntriesAt code n [] [] place
unfolding pushed
entries_over code n place k = (k, λ es many operands go below. stays code k place (pushed (laid es) operands) (go [] es) (below [] es refl many))

gives_entries : (code : List Code) (before : Counts) (n : ℕ) (args : List (Passing (List ℕ × Core) Core)) (walks : List (Passing (List ℕ × Giving) Giving)) → EachNamed code before args walks
    → (place : ℕ) → counts_before code place ≡ before → StandsAt code place (flat no_ways (entries_stretches_core n args) place) → EntriesAt code n args walks place
unfolding pushed
gives_entries code before n _ _ none_named place so_far h k = entries_over code n place k
gives_entries code before n _ _ (named_more {name = name} {piece = c} {walk = walk} {pieces = args} {walks = walks} f plain each) place so_far h k =
    let first = one (load_const (text name)) in
    let second = flat no_ways c in
    let more = flat no_ways (entries_stretches_core (suc n) args) in
    let later = then_code second more in
    let mid = place + length (first place) in
    let more_at = mid + length (second mid) in
    let loads = stands_first code place first later h in
    let behind = stands_second code place first later h in
    let valued = stands_first code mid second more behind in
    let at_value = still_behind code place (first place) loads before so_far refl in
    let at_more = still_behind code mid (second mid) valued before at_value (plain_counts plain no_ways mid) in
    entry_then code n name c walk args walks place loads (f code mid valued) (gives_entries code before (suc n) args walks each more_at at_more (stands_second code mid second more behind)) k
gives_entries code before n _ _ (last_named {name = name} {piece = c} {walk = walk} f) place so_far h k =
    let first = one (load_const (text name)) in
    let second = flat no_ways c in
    let later = then_code second nothing in
    let mid = place + length (first place) in
    let loads = stands_first code place first later h in
    let behind = stands_second code place first later h in
    entry_then code n name c walk [] [] place loads (f mid (still_behind code place (first place) loads before so_far refl) (stands_first code mid second nothing behind))
    (entries_over code (suc n) (mid + length (second mid))) k
gives_entries code before n _ _ (merged_more {piece = c} {walk = walk} {pieces = args} {walks = walks} f plain each) place so_far h k =
    let first = flat no_ways (mapped_core n) in
    let second = flat no_ways c in
    let more = flat no_ways (entries_stretches_core 0 args) in
    let later = then_code second more in
    let mid = place + length (first place) in
    let more_at = mid + length (second mid) in
    let maps_there = stands_first code place first later h in
    let behind = stands_second code place first later h in
    let valued = stands_first code mid second more behind in
    let at_value = still_behind code place (first place) maps_there before so_far (plain_counts (plain_mapped n) no_ways place) in
    let at_more = still_behind code mid (second mid) valued before at_value (plain_counts plain no_ways mid) in
    let b = gives_entries code before 0 args walks each more_at at_more (stands_second code mid second more behind) k in
    let a = f code mid valued b.0 in
    let l = maps n code place maps_there a.0 in (
      l.0,
      λ es many operands go below.
          l.1 es many operands (λ bs. walk (λ v. entries_stretches [] walks (λ ms ds. go (bs ++ v ∷ ms) ds)))
          (λ bs some.
          a.1 (pushed bs operands) (λ v. entries_stretches [] walks (λ ms ds. go (bs ++ v ∷ ms) ds))
          (λ v.
          b.1 [] refl (single v ∷ pushed bs operands) (λ ms ds. go (bs ++ v ∷ ms) ds)
          (λ ms ds few rest.
          let P : List Operand → Type 0 = λ o. Below (go (bs ++ v ∷ ms) ds) (exec code k (more_at + length (more more_at)) (pushed (laid ds) o)) in
          subst P (pushed_twice bs (v ∷ ms) operands)
          (moved code k (place + length (then_code first later place)) (more_at + length (more more_at)) (pushed (laid ds) (pushed (bs ++ v ∷ ms) operands)) (go (bs ++ v ∷ ms) ds)
          (behind_then first later place ∙ behind_then second more mid) (below (bs ++ v ∷ ms) ds (omega (length-append bs (v ∷ ms), some, few, arith)) rest))))),
    )

-- maps, of which several are merged
merges : (several : Bool) (n : ℕ) (code : List Code) (place : ℕ) → StandsAt code place (flat no_ways (merged_core several n) place) → (k : ℕ)
    → (j : ℕ) × ((ms : List Val) → length ms ≡ n → (operands : List Operand) (go : List Val → Process)
    → ((us : List Val) → length us ≡ merged_count several n → Below (go us) (exec code k (place + length (flat no_ways (merged_core several n) place)) (pushed us operands)))
    → Below (merged_if several ms go) (exec code j place (pushed ms operands)))
unfolding pushed
merges false n code place h k = (k, λ ms many operands go below. stays code k place (pushed ms operands) (go ms) (below ms many))
merges true n code place h k = (
  suc k,
  λ ms many operands go below. builds_at code place (merge_kwargs n) h k ms operands (events.merge_kwargs ms) (λ m. go (m ∷ []))
      (built_merged n (exec code k) (counts_before code place) place ms operands many) (λ m. below (m ∷ []) refl),
)

-- keyword arguments
gives_keywords : (code : List Code) (before : Counts) (args : List (Passing (List ℕ × Core) Core)) (walks : List (Passing (List ℕ × Giving) Giving)) → EachNamed code before args walks → (several : Bool)
    → (place : ℕ) → counts_before code place ≡ before → StandsAt code place (then_code (flat no_ways (entries_stretches_core 0 args)) (then_code (flat no_ways (mapped_core (rest_count 0 args))) (flat no_ways (merged_core several (map_count args)))) place) → (k : ℕ)
    → (j : ℕ) × ((operands : List Operand) (go : List Val → Process)
    → ((us : List Val) → length us ≡ merged_count several (map_count args)
    → Below (go us) (exec code k (place + length (then_code (flat no_ways (entries_stretches_core 0 args)) (then_code (flat no_ways (mapped_core (rest_count 0 args))) (flat no_ways (merged_core several (map_count args)))) place)) (pushed us operands)))
    → Below (entries_stretches [] walks (λ ms ds. mapped ds (λ more. merged_if several (ms ++ more) go))) (exec code j place operands))
unfolding pushed
gives_keywords code before args walks each several place so_far h k =
    let first = flat no_ways (entries_stretches_core 0 args) in
    let second = flat no_ways (mapped_core (rest_count 0 args)) in
    let third = flat no_ways (merged_core several (map_count args)) in
    let later = then_code second third in
    let mid = place + length (first place) in
    let third_at = mid + length (second mid) in
    let behind = stands_second code place first later h in
    let c = merges several (map_count args) code third_at (stands_second code mid second third behind) k in
    let b = maps (rest_count 0 args) code mid (stands_first code mid second third behind) c.0 in
    let a = gives_entries code before 0 args walks each place so_far (stands_first code place first later h) b.0 in (
      a.0,
      λ operands go below.
          a.1 [] refl operands (λ ms ds. mapped ds (λ more. merged_if several (ms ++ more) go))
          (λ ms ds few rest.
          b.1 ds rest (pushed ms operands) (λ more. merged_if several (ms ++ more) go)
          (λ more some.
          let P : List Operand → Type 0 = λ o. Below (merged_if several (ms ++ more) go) (exec code c.0 third_at o) in
          subst P (pushed_twice ms more operands)
          (c.1 (ms ++ more) (length-append ms more ∙ ap (λ m. m + length more) few ∙ ap (λ m. list_count 0 args + m) some) operands go
          (λ us many. moved code k (place + length (then_code first later place)) (third_at + length (third third_at)) (pushed us operands) (go us)
          (behind_then first later place ∙ behind_then second third mid) (below us many))))),
    )

-- values as they are handed over: so many, or a counted run
unfoldable pub handed_over : Option ℕ → List Val → List Operand → List Operand
handed_over None vs operands = counted vs ∷ operands
handed_over (Some n) vs operands = pushed vs operands

abbrev pub AreSoMany : Option ℕ → List Val → Type 0
AreSoMany None vs = Unit {0}
AreSoMany (Some n) vs = length vs ≡ n

pub handed_all : (count : Option ℕ) (vs : List Val) (operands : List Operand) → AreSoMany count vs → handed count (handed_over count vs operands) ≡ Some (vs, operands)
unfolding handed_over
handed_all None vs operands many = refl
handed_all (Some n) vs operands many = taken_all vs n operands many

-- where nothing is spread there is no list
pub no_lists : (n : ℕ) (args : List (Passing Core Core)) → has_spread args ≡ false → list_count n args ≡ 0
no_lists n [] none = refl
no_lists n (alone c ∷ args) none = no_lists (suc n) args none
no_lists n (spreads c ∷ args) none = let no : true ≡ false = none in absurd (cc)

empty_list : (ls : List Val) → length ls ≡ 0 → ls ≡ []
empty_list [] none = refl
empty_list (l ∷ ls) none = absurd (omega (arith, none))

-- lists are spread
spreads_at : (code : List Code) (place n : ℕ) → StandsAt code place (unpack_lists n ∷ []) → (k : ℕ) (vs : List Val) (operands : List Operand) (go : List Val → Process) → length vs ≡ n
    → ((us : List Val) → Below (go us) (exec code k (suc place) (counted us ∷ operands))) → Below (step (asks (spread vs) (on_all go))) (exec code (suc k) place (pushed vs operands))
spreads_at code place n h k vs operands go many below =
    let P : Process → Type 0 = λ q. Below (step (asks (spread vs) (on_all go))) q in
    let is : step (on_taken (taken n (pushed vs operands) []) (λ us rest. asks (spread us) (on_all (λ items. exec code k (suc place) (counted items ∷ rest))))) ≡ step (asks (spread vs) (on_all (λ items. exec code k (suc place) (counted items ∷ operands)))) =
    ap (λ o. step (on_taken o (λ us rest. asks (spread us) (on_all (λ items. exec code k (suc place) (counted items ∷ rest)))))) (taken_all vs n operands many) in
    below_at code place (unpack_lists n) (instruction_at code place (unpack_lists n) [] h) k (pushed vs operands) (step (asks (spread vs) (on_all go)))
    (subst P (sym is) (below-step _ _ (below-asks_all (spread vs) go (λ items. exec code k (suc place) (counted items ∷ operands)) below)))

-- the values that are passed, where one is spread or none is
runs : (spread_one : Bool) (lists n : ℕ) → (spread_one ≡ false → lists ≡ 0) → (code : List Code) (place : ℕ) → StandsAt code place (flat no_ways (run_core spread_one lists n) place) → (k : ℕ)
    → (j : ℕ) × ((ls us : List Val) → length ls ≡ lists → length us ≡ n → (operands : List Operand) (go : List Val → Process)
    → ((vs : List Val) → AreSoMany (if spread_one then None else Some n) vs
    → Below (go vs) (exec code k (place + length (flat no_ways (run_core spread_one lists n) place)) (handed_over (if spread_one then None else Some n) vs operands)))
    → Below (run_if spread_one ls us go) (exec code j place (pushed us (pushed ls operands))))
unfolding pushed handed_over
runs false lists n none code place h k = (
  k,
  λ ls us few many operands go below.
      let P : List Val → Type 0 = λ l. Below (go us) (exec code k place (pushed us (pushed l operands))) in
      subst P (sym (empty_list ls (few ∙ none refl))) (stays code k place (pushed us operands) (go us) (below us many)),
)
runs true lists_before n none code place h k =
    let first = flat no_ways (listed_core n) in
    let count = lists_before + at_most_one n in
    let second = one (unpack_lists count) in
    let mid = place + length (first place) in
    let l = lists n code place (stands_first code place first second h) (suc k) in (
      l.0,
      λ ls us few many operands go below.
          l.1 us many (pushed ls operands) (λ more. step (asks (spread (ls ++ more)) (on_all go)))
          (λ more some.
          let all : length (ls ++ more) ≡ count = length-append ls more ∙ ap (λ m. m + length more) few ∙ ap (λ m. lists_before + m) some in
          let P : List Operand → Type 0 = λ o. Below (step (asks (spread (ls ++ more)) (on_all go))) (exec code (suc k) mid o) in
          subst P (pushed_twice ls more operands)
          (spreads_at code mid count (stands_second code place first second h) k (ls ++ more) operands go all
          (λ vs. moved code k (place + length (then_code first second place)) (suc mid) (counted vs ∷ operands) (go vs) (behind_then first second place ∙ sym (behind_single mid (unpack_lists count))) (below vs tt)))),
    )

-- all arguments, behind so many values at the front
pub gives_passed : (code : List Code) (before : Counts) (n : ℕ) (args : List (Passing Core Core)) (walks : List (Passing Giving Giving)) → EachPassed args walks → EachPlain args → (same : has_spread walks ≡ has_spread args)
    → (named : List (Passing (List ℕ × Core) Core)) (named_walks : List (Passing (List ℕ × Giving) Giving)) → EachNamed code before named named_walks → (alike : has_spread named_walks ≡ has_spread named)
    → (place : ℕ) → counts_before code place ≡ before → StandsAt code place (flat no_ways (passed_core n args named) place) → (k : ℕ)
    → (j : ℕ) × ((front : List Val) → length front ≡ n → (operands : List Operand) (go : List Val → Process)
    → ((vs : List Val) → AreSoMany (passed_count n args named) vs → Below (go vs) (exec code k (place + length (flat no_ways (passed_core n args named) place)) (handed_over (passed_count n args named) vs operands)))
    → Below (passed_walk front walks named_walks go) (exec code j place (pushed front operands)))
gives_passed code before n args walks each plain same named named_walks others alike place so_far h k =
    let first = flat no_ways (stretches_core n args) in
    let second = flat no_ways (keywords_core named) in
    let count = rest_count n args + keyword_count named in
    let third = flat no_ways (run_core (has_spread args) (list_count n args) count) in
    let later = then_code second third in
    let mid = place + length (first place) in
    let third_at = mid + length (second mid) in
    let behind = stands_second code place first later h in
    let c = runs (has_spread args) (list_count n args) count (no_lists n args) code third_at (stands_second code mid second third behind) k in
    let stretched = stands_first code place first later h in
    let at_names = still_behind code place (first place) stretched before so_far (plain_counts (plain_stretches n plain) no_ways place) in
    let b = gives_keywords code before named named_walks others (has_spread named) mid at_names (stands_first code mid second third behind) c.0 in
    let a = gives_stretches n args walks each code place stretched b.0 in (
      a.0,
      λ front many operands go below.
          let P : Bool → Type 0 = λ spread_one. Below (stretches_walk front walks (λ ls us. keywords_walk named_walks (λ last. run_if spread_one ls (us ++ last) go))) (exec code a.0 place (pushed front operands)) in
          subst P (sym same)
          (a.1 front many operands (λ ls us. keywords_walk named_walks (λ last. run_if (has_spread args) ls (us ++ last) go))
          (λ ls us few rest.
          let Q : Bool → Type 0 = λ several. Below (entries_stretches [] named_walks (λ ms ds. mapped ds (λ more. merged_if several (ms ++ more) (λ last. run_if (has_spread args) ls (us ++ last) go)))) (exec code b.0 mid (pushed us (pushed ls operands))) in
          subst Q (sym alike)
          (b.1 (pushed us (pushed ls operands)) (λ last. run_if (has_spread args) ls (us ++ last) go)
          (λ last some.
          let R : List Operand → Type 0 = λ o. Below (run_if (has_spread args) ls (us ++ last) go) (exec code c.0 third_at o) in
          subst R (pushed_twice us last (pushed ls operands))
          (c.1 ls (us ++ last) few (length-append us last ∙ ap (λ m. m + length last) rest ∙ ap (λ m. rest_count n args + m) some) operands go
          (λ vs fits. moved code k (place + length (then_code first later place)) (third_at + length (third third_at)) (handed_over (passed_count n args named) vs operands) (go vs)
          (behind_then first later place ∙ behind_then second third mid) (below vs fits))))))),
    )

-- an instruction takes what is handed over
pub hands_at : (code : List Code) (place : ℕ) (c : Code) (count : Option ℕ) (e : List Val → Ask)
    → ((next : ℕ → List Operand → Process) (before : Counts) (operands : List Operand) → act next before (Some c) place operands ≡ step (on_taken (handed count operands) (λ vs rest. asks (e vs) (on_value (λ w. next (suc place) (single w ∷ rest))))))
    → StandsAt code place (c ∷ []) → (k : ℕ) (vs : List Val) (operands : List Operand) (go : Val → Process) → AreSoMany count vs
    → ((w : Val) → Below (go w) (exec code k (place + length (one c place)) (single w ∷ operands))) → Below (step (asks (e vs) (on_value go))) (exec code (suc k) place (handed_over count vs operands))
hands_at code place c count e is h k vs operands go fits below =
    asks_at code place c [] h k (handed_over count vs operands) operands (e vs) go
    (is (exec code k) (counts_before code place) (handed_over count vs operands)
    ∙ ap (λ o. step (on_taken o (λ us rest. asks (e us) (on_value (λ w. exec code k (suc place) (single w ∷ rest)))))) (handed_all count vs operands fits))
    (λ w. moved code k (place + length (one c place)) (suc place) (single w ∷ operands) (go w) (sym (behind_single place c)) (below w))

-- what takes arguments, as an instruction says, where there is a value at the front or none
abbrev pub Takes : List Code → Counts → (List Val → (List Val → Process) → Process) → Coded → ℕ → Option ℕ → Type 0
Takes code before walk piece n count = (place : ℕ) → counts_before code place ≡ before → StandsAt code place (piece place) → (k : ℕ) → (j : ℕ) × ((front : List Val) → length front ≡ n → (operands : List Operand) (go : List Val → Process)
    → ((vs : List Val) → AreSoMany count vs → Below (go vs) (exec code k (place + length (piece place)) (handed_over count vs operands))) → Below (walk front go) (exec code j place (pushed front operands)))

pub performs_alone : (code : List Code) (before : Counts) (walk : List Val → (List Val → Process) → Process) (piece : Coded) (count : Option ℕ) → Takes code before walk piece 0 count → (c : Code) (e : List Val → Ask)
    → ((next : ℕ → List Operand → Process) (so_many : Counts) (place : ℕ) (operands : List Operand) → act next so_many (Some c) place operands ≡ step (on_taken (handed count operands) (λ vs rest. asks (e vs) (on_value (λ w. next (suc place) (single w ∷ rest))))))
    → PerformsBehind code before (then_code piece (one c)) (λ go. walk [] (λ vs. step (asks (e vs) (on_value go))))
unfolding pushed
performs_alone code before walk piece count f c e is place so_far h k =
    let mid = place + length (piece place) in
    let earlier = f place so_far (stands_first code place piece (one c) h) (suc k) in (
      earlier.0,
      λ operands go below. earlier.1 [] refl operands (λ vs. step (asks (e vs) (on_value go)))
          (λ vs fits. hands_at code mid c count e (λ next before o. is next before mid o) (stands_second code place piece (one c) h) k vs operands go fits
          (λ w. moved code k (place + length (then_code piece (one c) place)) (mid + length (one c mid)) (single w ∷ operands) (go w) (behind_then piece (one c) place) (below w))),
    )

pub over_front : (code : List Code) (before : Counts) (walk : List Val → (List Val → Process) → Process) (piece : Coded) (count : Option ℕ) → Takes code before walk piece 1 count → (c : Code) (e : List Val → Ask)
    → ((next : ℕ → List Operand → Process) (so_many : Counts) (place : ℕ) (operands : List Operand) → act next so_many (Some c) place operands ≡ step (on_taken (handed count operands) (λ vs rest. asks (e vs) (on_value (λ w. next (suc place) (single w ∷ rest))))))
    → OverBehind code before (then_code piece (one c)) (λ v go. walk (v ∷ []) (λ vs. step (asks (e vs) (on_value go))))
unfolding pushed
over_front code before walk piece count f c e is place so_far h k =
    let mid = place + length (piece place) in
    let earlier = f place so_far (stands_first code place piece (one c) h) (suc k) in (
      earlier.0,
      λ v operands go below. earlier.1 (v ∷ []) refl operands (λ vs. step (asks (e vs) (on_value go)))
          (λ vs fits. hands_at code mid c count e (λ next before o. is next before mid o) (stands_second code place piece (one c) h) k vs operands go fits
          (λ w. moved code k (place + length (then_code piece (one c) place)) (mid + length (one c mid)) (single w ∷ operands) (go w) (behind_then piece (one c) place) (below w))),
    )
