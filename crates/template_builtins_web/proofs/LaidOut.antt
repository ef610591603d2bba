-- Lemmas on JSON that is laid out.
use Rattle.std.proofs.Common.{◌≡◌, ℕ, zero, suc, ◌-◌, ◌<◌, ◌≤◌, List, [], ◌∷◌, ◌++◌, length, drop, get_or, refl, sym, ◌∙◌, ap, arith, append_assoc, Bool, true, false, decimal, Result, Ok, Err, ℤ, pos, negsuc, nat_le, int_le, if◌then◌else◌, Bor}
use Rattle.std.specs.List.{repeat}
use Rattle.std.proofs.lemmas.Bool.{false≢true}
use Rattle.serde_json.specs.Data.{Data, Items, Members, array, no_items, object, number, unsigned, negative}
use Rattle.serde_json.specs.Written.{compact_text}
use Rattle.template_values_model.specs.Fault.{Fault, bad_serialization}
use Rattle.template_values_model.specs.Val as value
use Rattle.template_values_model.specs.Val.{Val, Vals, Pairs, vals_of}
use Rattle.template_values_core.specs.Maps.{pairs_of}
use Rattle.template_values_core.specs.Shape.{pairs_in}
use Rattle.template_values_core.specs.declared.value.Entry.{Entry}
use Rattle.template_values_core.specs.Content.{value_of}
use Rattle.template_values_core.specs.declared.content.Content.{Content}
use Rattle.template_values_core.specs.declared.content.Content.TheVariants.{Undefined, SilentUndefined, None as Nothing, Truth, Int, Text, SafeText, Bytes, List as Listed, Tuple, Map, KeywordMap, Module, Function, Namespace, Loop, Macro}
use Rattle.template_values_forms.specs.declared.TheConstants.{GREATEST_JSON_NUMBER, LEAST_JSON_NUMBER}
use Rattle.template_values_forms.specs.Answers.{joined, mapped}
use Rattle.template_values_forms.specs.Json.{byte_items, flat_data, inner_data, item_more, items_data, key_data, member_more, members_data, number_data}
use Rattle.template_values_forms.specs.Known.{Known}
use Rattle.template_values_print.proofs.PrintLemmas.{vals_of-drop, pairs_of-drop}
use Rattle.template_builtins_web.specs.Json.{before_item, nests, pretty_items, pretty_key, pretty_members, pretty_text}

-- the text of an array and of an object, from their items and members
pub pretty_array : (indent : List ℕ) (level : ℕ) (r : Result Items Fault)
    → joined (Ok (91 ∷ [])) (mapped (pretty_items false indent level) r) ≡ mapped (pretty_text indent level) (mapped array r)
pretty_array indent level (Ok ds) = refl
pretty_array indent level (Err fault) = refl

pub pretty_object : (indent : List ℕ) (level : ℕ) (r : Result Members Fault)
    → joined (Ok (123 ∷ [])) (mapped (pretty_members false indent level) r) ≡ mapped (pretty_text indent level) (mapped object r)
pretty_object indent level (Ok ms) = refl
pretty_object indent level (Err fault) = refl

item_more-pretty : (later : Bool) (indent : List ℕ) (level : ℕ) (r : Result Data Fault) (q : Result Items Fault)
    → joined (joined (Ok (before_item later indent level)) (mapped (pretty_text indent (suc level)) r)) (mapped (pretty_items true indent level) q)
    ≡ mapped (pretty_items later indent level) (item_more r q)
item_more-pretty later indent level (Ok d) (Ok ds) =
    ap Ok (append_assoc (before_item later indent level) (pretty_text indent (suc level) d) (pretty_items true indent level ds))
item_more-pretty later indent level (Ok d) (Err fault) = refl
item_more-pretty later indent level (Err fault) q = refl

member_pretty : (b k t m : List ℕ) → (b ++ (k ++ t)) ++ m ≡ b ++ (k ++ (t ++ m))
member_pretty b k t m = append_assoc b (k ++ t) m ∙ ap (λ (x : List ℕ). b ++ x) (append_assoc k t m)

member_more-pretty : (later : Bool) (indent : List ℕ) (level : ℕ) (k : Result (List ℕ) Fault) (r : Result Data Fault) (q : Result Members Fault)
    → joined (joined (Ok (before_item later indent level)) (joined (mapped pretty_key k) (mapped (pretty_text indent (suc level)) r))) (mapped (pretty_members true indent level) q)
    ≡ mapped (pretty_members later indent level) (member_more k r q)
member_more-pretty later indent level (Ok k) (Ok d) (Ok ms) =
    ap Ok (member_pretty (before_item later indent level) (pretty_key k) (pretty_text indent (suc level) d) (pretty_members true indent level ms))
member_more-pretty later indent level (Ok k) (Ok d) (Err fault) = refl
member_more-pretty later indent level (Ok k) (Err fault) q = refl
member_more-pretty later indent level (Err fault) r q = refl

-- the text of the items that are left, from the first of them
pub items_pretty-next : (later : Bool) (indent : List ℕ) (level k : ℕ) (f : Val → Result Data Fault) (vs : List Val) (i j : ℕ) (v : Val)
    → k ≡ suc level → j ≡ suc i → i < length vs → v ≡ get_or vs i v
    → mapped (pretty_items later indent level) (items_data f (vals_of (drop i vs)))
    ≡ joined (joined (Ok (before_item later indent level)) (mapped (pretty_text indent k) (f v))) (mapped (pretty_items true indent level) (items_data f (vals_of (drop j vs))))
items_pretty-next later indent level k f vs i j v deeper e h is =
    ap (λ (x : Vals). mapped (pretty_items later indent level) (items_data f x)) (vals_of-drop vs i j v e h is)
    ∙ sym (item_more-pretty later indent level (f v) (items_data f (vals_of (drop j vs))))
    ∙ ap (λ (x : ℕ). joined (joined (Ok (before_item later indent level)) (mapped (pretty_text indent x) (f v))) (mapped (pretty_items true indent level) (items_data f (vals_of (drop j vs))))) (sym deeper)

pub members_pretty-next : (later : Bool) (indent : List ℕ) (level k : ℕ) (f : Val → Result Data Fault) (es : List Entry) (i j : ℕ) (e : Entry)
    → k ≡ suc level → j ≡ suc i → i < length es → e ≡ get_or es i e
    → mapped (pretty_members later indent level) (members_data f (pairs_of (pairs_in (drop i es))))
    ≡ joined (joined (Ok (before_item later indent level)) (joined (mapped pretty_key (key_data e.key)) (mapped (pretty_text indent k) (f e.value)))) (mapped (pretty_members true indent level) (members_data f (pairs_of (pairs_in (drop j es)))))
members_pretty-next later indent level k f es i j e deeper is_next h is =
    ap (λ (x : Pairs). mapped (pretty_members later indent level) (members_data f x)) (pairs_of-drop es i j e is_next h is)
    ∙ sym (member_more-pretty later indent level (key_data e.key) (f e.value) (members_data f (pairs_of (pairs_in (drop j es)))))
    ∙ ap (λ (x : ℕ). joined (joined (Ok (before_item later indent level)) (joined (mapped pretty_key (key_data e.key)) (mapped (pretty_text indent x) (f e.value)))) (mapped (pretty_members true indent level) (members_data f (pairs_of (pairs_in (drop j es)))))) (sym deeper)

-- bytes one behind the other
bytes_drop : (bs : List ℕ) (i : ℕ) → i < length bs → byte_items (drop i bs) ≡ byte_items (get_or bs i 0 ∷ drop (suc i) bs)
bytes_drop [] i h = absurd (omega (arith, h))
bytes_drop (x ∷ bs) zero h = refl
bytes_drop (x ∷ bs) (suc i) h = bytes_drop bs i (omega (arith, h))

pub bytes_next : (later : Bool) (indent : List ℕ) (level : ℕ) (bs : List ℕ) (i j : ℕ) → j ≡ suc i → i < length bs
    → Ok (pretty_items later indent level (byte_items (drop i bs)))
    ≡ joined (joined (Ok (before_item later indent level)) (Ok (decimal (get_or bs i 0)))) (Ok (pretty_items true indent level (byte_items (drop j bs))))
bytes_next later indent level bs i j e h =
    rw (e, bytes_drop bs i h)
    (ap Ok (sym (append_assoc (before_item later indent level) (decimal (get_or bs i 0)) (pretty_items true indent level (byte_items (drop (suc i) bs))))))

pub bytes_none : (bs : List ℕ) (i : ℕ) → length bs ≤ i → byte_items (drop i bs) ≡ no_items
bytes_none [] zero h = refl
bytes_none [] (suc i) h = refl
bytes_none (b ∷ bs) zero h = absurd (omega (arith, h))
bytes_none (b ∷ bs) (suc i) h = bytes_none bs i (omega (arith, h))

-- a value that holds no other
pub leaf_is : (known : Known) (n : ℕ) (v : Val) → nests v ≡ false → inner_data known n v ≡ flat_data v
leaf_is known zero v apart = refl
leaf_is known (suc n) value.undefined apart = refl
leaf_is known (suc n) value.silent_undefined apart = refl
leaf_is known (suc n) value.none apart = refl
leaf_is known (suc n) (value.truth b) apart = refl
leaf_is known (suc n) (value.int z) apart = refl
leaf_is known (suc n) (value.text s) apart = refl
leaf_is known (suc n) (value.safe_text s) apart = refl
leaf_is known (suc n) (value.bytes s) apart = refl
leaf_is known (suc n) (value.list vs) apart = absurd (false≢true (sym apart))
leaf_is known (suc n) (value.tuple vs) apart = absurd (false≢true (sym apart))
leaf_is known (suc n) (value.map ps) apart = absurd (false≢true (sym apart))
leaf_is known (suc n) (value.keyword_map ps) apart = absurd (false≢true (sym apart))
leaf_is known (suc n) (value.«module» ps s) apart = absurd (false≢true (sym apart))
leaf_is known (suc n) (value.function id place) apart = refl
leaf_is known (suc n) (value.namespace id place) apart = absurd (false≢true (sym apart))
leaf_is known (suc n) (value.loop_record id place) apart = refl
leaf_is known (suc n) (value.macro_record id place) apart = refl

int_pretty : (indent : List ℕ) (level : ℕ) (z : ℤ) → mapped compact_text (number_data z) ≡ mapped (pretty_text indent level) (number_data z)
int_pretty indent level (pos n) = elim (nat_le n GREATEST_JSON_NUMBER) as (λ t. mapped compact_text (if t then Ok (number (unsigned n)) else Err bad_serialization) ≡ mapped (pretty_text indent level) (if t then Ok (number (unsigned n)) else Err bad_serialization)) [ true ↦ refl | false ↦ refl ]
int_pretty indent level (negsuc n) = elim (int_le LEAST_JSON_NUMBER (negsuc n)) as (λ t. mapped compact_text (if t then Ok (number (negative (negsuc n))) else Err bad_serialization) ≡ mapped (pretty_text indent level) (if t then Ok (number (negative (negsuc n))) else Err bad_serialization)) [ true ↦ refl | false ↦ refl ]

pub flat_pretty : (indent : List ℕ) (level : ℕ) (x : Content) → ((b : Bor (List ℕ)) → x ≡ Bytes b → ⊥)
    → mapped compact_text (flat_data (value_of x)) ≡ mapped (pretty_text indent level) (flat_data (value_of x))
flat_pretty indent level Undefined apart = refl
flat_pretty indent level SilentUndefined apart = refl
flat_pretty indent level Nothing apart = refl
flat_pretty indent level (Truth b) apart = refl
flat_pretty indent level (Int z) apart = int_pretty indent level z
flat_pretty indent level (Text s) apart = refl
flat_pretty indent level (SafeText s) apart = refl
flat_pretty indent level (Bytes s) apart = absurd (apart s refl)
flat_pretty indent level (Listed vs) apart = refl
flat_pretty indent level (Tuple vs) apart = refl
flat_pretty indent level (Map es) apart = refl
flat_pretty indent level (KeywordMap es) apart = refl
flat_pretty indent level (Module es s) apart = refl
flat_pretty indent level (Function e n) apart = refl
flat_pretty indent level (Namespace e n) apart = refl
flat_pretty indent level (Loop e n) apart = refl
flat_pretty indent level (Macro e n) apart = refl

-- one level, and the levels that are left
pub repeat_next : (indent : List ℕ) (n : ℕ) → (n ≡ 0 → ⊥) → Ok (repeat n indent) ≡ joined (Ok indent) (Ok (repeat (n - 1) indent))
repeat_next indent zero some = absurd (some refl)
repeat_next indent (suc n) some = let e : n ≡ suc n - 1 = omega arith in ap (λ (m : ℕ). Ok (indent ++ repeat m indent)) e
