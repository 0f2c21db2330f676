-- The printed short form of a toxic in range reads back as that toxic.
use Rattle.std.proofs.Common.{◌≡◌, ℕ, ◌^◌, ◌<◌, ◌≤◌, ◌==◌, ◌+◌, Bool, true, false, cond, not, nat_lt, filter, List, [], ◌∷◌, ◌++◌, length, codes, count_by}
use Rattle.std.proofs.Common.{decimal, length-append, map, Option, Some, None, Ok, unwrap_or, refl, ap, subst, sym, ◌∙◌, append_assoc, arith, rules, tests}
use Rattle.std.proofs.Common.{if◌then◌else◌}
use Rattle.std.specs.Prelude.{◌&&◌, ◌||◌, option_and_then}
use Rattle.std.specs.List.{after_first, find, join_with_byte, list_all, list_any}
use Rattle.std.specs.Str.{bytes_eq}
use Rattle.std.proofs.lemmas.Bool.{and_parts, not-true, or_parts}
use Rattle.std.proofs.lemmas.Bool.Decides.{nat_tests}
use Rattle.std.proofs.lemmas.List.{length-map, map-append}
use Rattle.std.proofs.lemmas.List.Sums.{sum_by-cons}
use Rattle.std.proofs.lemmas.List.Folds.{list_all-append}
use Rattle.tox_time.specs.Text.{is_colon}
use Rattle.tox_defs.specs.declared.toxic.Toxic.{Toxic}
use Rattle.tox_defs.specs.Toxic.{IsInRange, checked, name_of, toxic_named, with_values}
use Rattle.tox_defs.specs.short.Pairs.{has_double_key, has_key, is_equals, is_pair, is_word, is_word_byte, key_of, pair_number, pairs_of, value_at, value_of}
use Rattle.tox_defs.specs.short.Printed.{is_shown, printed_pair, printed_short}
use Rattle.tox_defs.specs.short.Short.{is_known, pairs_in, short_of, pair_toxicity, pair_values, with_name, with_pairs}
use Rattle.tox_defs.proofs.Cuts.{after_first-front, before_first-front, lacks, position-front, slice_split-join_with_byte}
use Rattle.tox_defs.proofs.Decimals.{read_decimal}
use Rattle.tox_defs.proofs.Spelled.{AreShort, IsSpelled, Named, are_apart, entries_of, has_name}
use Rattle.tox_defs.proofs.ToxicProofs.{toxic_facts}

-- Words

-- a word lacks a byte that no word has
lacks_word : (test : ℕ → Bool) (text : List ℕ) → ((byte : ℕ) → is_word_byte byte ≡ true → not (test byte) ≡ true) → list_all is_word_byte text ≡ true
    → lacks test text ≡ true
lacks_word test [] apart word = refl
lacks_word test (byte ∷ text) apart word =
    let parts = and_parts (is_word_byte byte) (list_all is_word_byte text) word in
    rw (apart byte parts.0) (lacks_word test text apart parts.1)

no_equals : (byte : ℕ) → is_word_byte byte ≡ true → not (byte == 61) ≡ true
no_equals byte word = grind (arith, nat_tests)

no_comma : (byte : ℕ) → is_word_byte byte ≡ true → not (byte == 44) ≡ true
no_comma byte word = grind (arith, nat_tests)

no_colon : (byte : ℕ) → is_word_byte byte ≡ true → not (byte == 58) ≡ true
no_colon byte word = grind (arith, nat_tests)

word_bytes : (text : List ℕ) → is_word text ≡ true → list_all is_word_byte text ≡ true
word_bytes text word = (and_parts (nat_lt 0 (length text)) (list_all is_word_byte text) word).1

-- One pair

printed_front : (entry : Named) → printed_pair entry ≡ entry.0 ++ 61 ∷ decimal entry.1
printed_front entry = append_assoc entry.0 (61 ∷ []) (decimal entry.1)

key_of-printed : (entry : Named) → is_word entry.0 ≡ true → key_of (printed_pair entry) ≡ entry.0
key_of-printed entry word =
    ap key_of (printed_front entry)
    ∙ before_first-front is_equals entry.0 61 (decimal entry.1) (lacks_word is_equals entry.0 no_equals (word_bytes entry.0 word)) refl

value_of-printed : (entry : Named) → is_word entry.0 ≡ true → entry.1 < 10 ^ 18 → value_of (printed_pair entry) ≡ Some entry.1
value_of-printed entry word small =
    ap value_of (printed_front entry)
    ∙ ap pair_number (after_first-front is_equals entry.0 61 (decimal entry.1) (lacks_word is_equals entry.0 no_equals (word_bytes entry.0 word)) refl)
    ∙ (read_decimal entry.1 small).0

comma-printed : (entry : Named) → is_word entry.0 ≡ true → entry.1 < 10 ^ 18 → lacks (λ byte. byte == 44) (printed_pair entry) ≡ true
comma-printed entry word small =
    ap (lacks (λ byte. byte == 44)) (printed_front entry)
    ∙ list_all-append (λ byte. not (byte == 44)) entry.0 (61 ∷ decimal entry.1)
    ∙ rw (lacks_word (λ byte. byte == 44) entry.0 no_comma (word_bytes entry.0 word)) (read_decimal entry.1 small).1

-- Pairs

-- names that are words, and values with few digits
abbrev AreGood : List Named → Type 0
AreGood [] = Unit {0}
AreGood (entry ∷ entries) = (is_word entry.0 ≡ true) × (entry.1 < 10 ^ 18) × AreGood entries

parted : (entries : List Named) → AreGood entries → list_all (lacks (λ byte. byte == 44)) (map printed_pair entries) ≡ true
parted [] good = refl
parted (entry ∷ entries) good = rw (comma-printed entry good.0 good.1) (parted entries good.2)

are_pairs : (entries : List Named) → AreGood entries → list_all is_pair (map printed_pair entries) ≡ true
are_pairs [] good = refl
are_pairs (entry ∷ entries) good =
    rw (key_of-printed entry good.0, value_of-printed entry good.0 good.1, good.0) (are_pairs entries good.2)

are_known : (toxic : Toxic) (entries : List Named) → AreGood entries → list_all (λ entry. is_known toxic entry.0) entries ≡ true
    → list_all (λ pair. is_known toxic (key_of pair)) (map printed_pair entries) ≡ true
are_known toxic [] good known = refl
are_known toxic (entry ∷ entries) good known =
    let parts = and_parts (is_known toxic entry.0) (list_all (λ e. is_known toxic e.0) entries) known in
    ap (λ key. is_known toxic key && list_all (λ pair. is_known toxic (key_of pair)) (map printed_pair entries)) (key_of-printed entry good.0)
    ∙ rw parts.0 (are_known toxic entries good.2 parts.1)

-- The value of a key

-- the value of the first attribute of this name
abbrev named_value : List ℕ → List Named → Option ℕ
named_value name [] = None
named_value name (entry ∷ entries) = if bytes_eq entry.0 name then Some entry.1 else named_value name entries

value_by : (key : List ℕ) (entry : Named) (entries : List Named) (same : Bool) → value_of (printed_pair entry) ≡ Some entry.1
    → value_at key (map printed_pair entries) ≡ named_value key entries
    → option_and_then value_of (if same then Some (printed_pair entry) else find (has_key key) (map printed_pair entries))
    ≡ (if same then Some entry.1 else named_value key entries)
value_by key entry entries true here later = here
value_by key entry entries false here later = later

value_at-printed : (key : List ℕ) (entries : List Named) → AreGood entries → value_at key (map printed_pair entries) ≡ named_value key entries
value_at-printed key [] good = refl
value_at-printed key (entry ∷ entries) good =
    ap (λ name. option_and_then value_of (if bytes_eq name key then Some (printed_pair entry) else find (has_key key) (map printed_pair entries)))
    (key_of-printed entry good.0)
    ∙ value_by key entry entries (bytes_eq entry.0 key) (value_of-printed entry good.0 good.1) (value_at-printed key entries good.2)

-- No key twice

-- what a name isn't among
lacking : (name : List ℕ) (entry : Named) (entries : List Named) → has_name name (entry ∷ entries) ≡ false
    → (bytes_eq name entry.0 ≡ false) × (bytes_eq entry.0 name ≡ false) × (has_name name entries ≡ false)
lacking name entry entries none =
    let parts = or_parts (bytes_eq name entry.0 || bytes_eq entry.0 name) (has_name name entries) none in
    let both = or_parts (bytes_eq name entry.0) (bytes_eq entry.0 name) parts.0 in
    (both.0, both.1, parts.1)

-- the first pair counts where its name is the key
counted_by : (key : List ℕ) (entry : Named) (entries : List Named) → is_word entry.0 ≡ true
    → count_by (has_key key) (map printed_pair (entry ∷ entries)) ≡ (if bytes_eq entry.0 key then 1 else 0) + count_by (has_key key) (map printed_pair entries)
counted_by key entry entries word =
    sum_by-cons (λ pair. if has_key key pair then 1 else 0) (printed_pair entry) (map printed_pair entries)
    ∙ ap (λ name. (if bytes_eq name key then 1 else 0) + count_by (has_key key) (map printed_pair entries)) (key_of-printed entry word)

count_none : (key : List ℕ) (entries : List Named) → AreGood entries → has_name key entries ≡ false → count_by (has_key key) (map printed_pair entries) ≡ 0
count_none key [] good none = refl
count_none key (entry ∷ entries) good none =
    let parts = lacking key entry entries none in
    counted_by key entry entries good.0 ∙ rw parts.1 (omega (arith, count_none key entries good.2 parts.2))

count_one_by : (key : List ℕ) (entry : Named) (entries : List Named) (same : Bool) → bytes_eq entry.0 key ≡ same → AreGood entries
    → has_name entry.0 entries ≡ false
    → count_by (has_key key) (map printed_pair entries) ≤ 1
    → (if same then 1 else 0) + count_by (has_key key) (map printed_pair entries) ≤ 1
count_one_by key entry entries true is good none few =
    let found : entry.0 ≡ key = search (rules, tests) in
    let others = count_none key entries good (ap (λ name. has_name name entries) (sym found) ∙ none) in
    omega (arith, others)
count_one_by key entry entries false is good none few = omega (arith, few)

count_one : (key : List ℕ) (entries : List Named) → AreGood entries → are_apart entries ≡ true → count_by (has_key key) (map printed_pair entries) ≤ 1
count_one key [] good apart = omega arith
count_one key (entry ∷ entries) good apart =
    let parts = and_parts (not (has_name entry.0 entries)) (are_apart entries) apart in
    subst (λ n. n ≤ 1) (sym (counted_by key entry entries good.0))
    (count_one_by key entry entries (bytes_eq entry.0 key) refl good.2 (not-true (has_name entry.0 entries) parts.0) (count_one key entries good.2 parts.1))

single : (pairs all : List (List ℕ)) → ((key : List ℕ) → count_by (has_key key) all ≤ 1)
    → list_any (λ pair. nat_lt 1 (count_by (has_key (key_of pair)) all)) pairs ≡ false
single [] all few = refl
single (pair ∷ pairs) all few =
    let here = few (key_of pair) in
    let once : nat_lt 1 (count_by (has_key (key_of pair)) all) ≡ false = search (rules, tests) in
    rw once (single pairs all few)

-- What is printed of attributes, before a last pair

abbrev shown_before : List Named → Named → List Named
shown_before entries last = filter is_shown entries ++ last ∷ []

good_by : (shown : Bool) (entry last : Named) (entries : List Named) → is_word entry.0 ≡ true → entry.1 < 10 ^ 18 → AreGood (entries ++ last ∷ [])
    → AreGood ((if shown then entry ∷ entries else entries) ++ last ∷ [])
good_by true entry last entries word small others = (word, small, others)
good_by false entry last entries word small others = others

good_shown : (entries : List Named) (last : Named) → list_all (λ entry. is_word entry.0) entries ≡ true → AreShort entries → is_word last.0 ≡ true
    → last.1 < 10 ^ 18
    → AreGood (shown_before entries last)
good_shown [] last words small word few = (word, few, tt)
good_shown (entry ∷ entries) last words small word few =
    let parts = and_parts (is_word entry.0) (list_all (λ e. is_word e.0) entries) words in
    good_by (is_shown entry) entry last (filter is_shown entries) parts.0 small.0 (good_shown entries last parts.1 small.1 word few)

passes_by : (test : Named → Bool) (shown : Bool) (entry last : Named) (entries : List Named) → test entry ≡ true → list_all test (entries ++ last ∷ []) ≡ true
    → list_all test ((if shown then entry ∷ entries else entries) ++ last ∷ []) ≡ true
passes_by test true entry last entries here others = rw here others
passes_by test false entry last entries here others = others

pass_shown : (test : Named → Bool) (entries : List Named) (last : Named) → list_all test entries ≡ true → test last ≡ true
    → list_all test (shown_before entries last) ≡ true
pass_shown test [] last pass here = rw here refl
pass_shown test (entry ∷ entries) last pass here =
    let parts = and_parts (test entry) (list_all test entries) pass in
    passes_by test (is_shown entry) entry last (filter is_shown entries) parts.0 (pass_shown test entries last parts.1 here)

lacking_by : (name : List ℕ) (shown : Bool) (entry last : Named) (entries : List Named) → has_name name (entry ∷ []) ≡ false
    → has_name name (entries ++ last ∷ []) ≡ false
    → has_name name ((if shown then entry ∷ entries else entries) ++ last ∷ []) ≡ false
lacking_by name true entry last entries here others =
    let parts = lacking name entry [] here in rw (parts.0, parts.1) others
lacking_by name false entry last entries here others = others

lacking_shown : (name : List ℕ) (entries : List Named) (last : Named) → has_name name entries ≡ false → has_name name (last ∷ []) ≡ false
    → has_name name (shown_before entries last) ≡ false
lacking_shown name [] last none here = here
lacking_shown name (entry ∷ entries) last none here =
    let parts = lacking name entry entries none in
    let alone : has_name name (entry ∷ []) ≡ false = rw (parts.0, parts.1) refl in
    lacking_by name (is_shown entry) entry last (filter is_shown entries) alone (lacking_shown name entries last parts.2 here)

apart_by : (shown : Bool) (entry last : Named) (entries : List Named) → has_name entry.0 (entries ++ last ∷ []) ≡ false
    → are_apart (entries ++ last ∷ []) ≡ true
    → are_apart ((if shown then entry ∷ entries else entries) ++ last ∷ []) ≡ true
apart_by true entry last entries none others = rw none others
apart_by false entry last entries none others = others

apart_shown : (entries : List Named) (last : Named) → are_apart entries ≡ true → has_name last.0 entries ≡ false → are_apart (shown_before entries last) ≡ true
apart_shown [] last apart none = refl
apart_shown (entry ∷ entries) last apart none =
    let parts = and_parts (not (has_name entry.0 entries)) (are_apart entries) apart in
    let others = lacking last.0 entry entries none in
    let alone : has_name entry.0 (last ∷ []) ≡ false = rw (others.0, others.1) refl in
    apart_by (is_shown entry) entry last (filter is_shown entries)
    (lacking_shown entry.0 entries last (not-true (has_name entry.0 entries) parts.0) alone) (apart_shown entries last parts.1 others.2)

-- The values that are read

abbrev read_value : List Named → Named → ℕ
read_value entries entry = unwrap_or (named_value entry.0 entries) 0

skipped : (entry : Named) (given entries : List Named) → has_name entry.0 entries ≡ false
    → map (read_value (entry ∷ given)) entries ≡ map (read_value given) entries
skipped entry given [] none = refl
skipped entry given (other ∷ entries) none =
    let parts = lacking entry.0 other entries none in rw (parts.0, skipped entry given entries parts.2) refl

absent_by : (name : List ℕ) (shown : Bool) (entry last : Named) (entries : List Named) → bytes_eq entry.0 name ≡ false
    → named_value name (entries ++ last ∷ []) ≡ named_value name (last ∷ [])
    → named_value name ((if shown then entry ∷ entries else entries) ++ last ∷ []) ≡ named_value name (last ∷ [])
absent_by name true entry last entries here others = rw here others
absent_by name false entry last entries here others = others

absent : (name : List ℕ) (entries : List Named) (last : Named) → has_name name entries ≡ false
    → named_value name (shown_before entries last) ≡ named_value name (last ∷ [])
absent name [] last none = refl
absent name (entry ∷ entries) last none =
    let parts = lacking name entry entries none in
    absent_by name (is_shown entry) entry last (filter is_shown entries) parts.1 (absent name entries last parts.2)

-- what isn't shown is 0
hidden : (entry : Named) → is_shown entry ≡ false → 0 ≡ entry.1
hidden entry none = grind (arith, nat_tests)

same_name : (name : List ℕ) → bytes_eq name name ≡ true
same_name name = search (rules, tests)

read_by : (shown : Bool) (entry last : Named) (entries : List Named) → is_shown entry ≡ shown → has_name entry.0 entries ≡ false
    → bytes_eq last.0 entry.0 ≡ false
    → named_value entry.0 (shown_before entries last) ≡ named_value entry.0 (last ∷ [])
    → map (read_value (shown_before entries last)) entries ≡ map (λ e. e.1) entries
    → map (read_value ((if shown then entry ∷ filter is_shown entries else filter is_shown entries) ++ last ∷ [])) (entry ∷ entries)
    ≡ entry.1 ∷ map (λ e. e.1) entries
read_by true entry last entries is alone other none others =
    rw (same_name entry.0, skipped entry (shown_before entries last) entries alone) (ap (λ values. entry.1 ∷ values) others)
read_by false entry last entries is alone other none others =
    rw (none, other) (ap (λ value. value ∷ map (read_value (shown_before entries last)) entries) (hidden entry is) ∙ ap (λ values. entry.1 ∷ values) others)

values_read : (entries : List Named) (last : Named) → are_apart entries ≡ true → has_name last.0 entries ≡ false
    → map (read_value (shown_before entries last)) entries ≡ map (λ e. e.1) entries
values_read [] last apart none = refl
values_read (entry ∷ entries) last apart none =
    let parts = and_parts (not (has_name entry.0 entries)) (are_apart entries) apart in
    let alone = not-true (has_name entry.0 entries) parts.0 in
    let others = lacking last.0 entry entries none in
    read_by (is_shown entry) entry last entries refl alone others.0 (absent entry.0 entries last alone) (values_read entries last parts.1 others.2)

-- The whole form

-- pairs behind a colon
pairs_in-joined : (name : List ℕ) (pairs : List (List ℕ)) → lacks is_colon name ≡ true → 0 < length pairs
    → list_all (lacks (λ byte. byte == 44)) pairs ≡ true
    → pairs_in (name ++ 58 ∷ join_with_byte 44 pairs) ≡ pairs
pairs_in-joined name pairs lacking some apart =
    let text = join_with_byte 44 pairs in
    ap (λ found. cond found (pairs_of (after_first is_colon (name ++ 58 ∷ text))) [])
    (position-front is_colon name 58 text lacking refl)
    ∙ ap pairs_of (after_first-front is_colon name 58 text lacking refl)
    ∙ slice_split-join_with_byte 44 pairs some apart

short_of-joined : (name : List ℕ) (toxic : Toxic) (pairs : List (List ℕ)) → is_word name ≡ true → toxic_named name ≡ Some toxic → 0 < length pairs
    → list_all (lacks (λ byte. byte == 44)) pairs ≡ true → list_all is_pair pairs ≡ true
    → short_of (name ++ 58 ∷ join_with_byte 44 pairs) ≡ with_pairs toxic pairs
short_of-joined name toxic pairs word found some apart good =
    let text = name ++ 58 ∷ join_with_byte 44 pairs in
    let lacking = lacks_word is_colon name no_colon (word_bytes name word) in
    ap (λ word. with_name word (pairs_in text)) (before_first-front is_colon name 58 (join_with_byte 44 pairs) lacking refl)
    ∙ ap (λ parts. with_name name parts) (pairs_in-joined name pairs lacking some apart)
    ∙ rw (word, good, found) refl

checked_in_range : (toxic : Toxic) → IsInRange toxic → checked toxic ≡ Ok toxic
checked_in_range toxic inside = rw inside refl

with_pairs_good : (zeros toxic : Toxic) (pairs : List (List ℕ)) (toxicity : ℕ)
    → has_double_key pairs ≡ false → list_all (λ pair. is_known zeros (key_of pair)) pairs ≡ true
    → value_at (codes "toxicity") pairs ≡ Some toxicity → with_values zeros (pair_values zeros pairs) ≡ toxic
    → toxicity ≤ 1000 → IsInRange toxic → with_pairs zeros pairs ≡ Ok (toxic, toxicity)
with_pairs_good zeros toxic pairs toxicity apart known read made most inside =
    let reported : pair_toxicity pairs ≡ toxicity = ap (λ value. unwrap_or value 1000) read in
    let few : nat_lt 1000 toxicity ≡ false = search (rules, tests) in
    rw (apart, reported, few, known, made, inside) refl

some_shown : (entries : List Named) (last : Named) → 0 < length (map printed_pair (shown_before entries last))
some_shown entries last = simp (length-map, length-append) (omega arith)

-- the values of the attributes that the pairs give
pair_values-shown : (toxic : Toxic) (spelled : IsSpelled toxic) (toxicity : ℕ) → AreGood (shown_before (entries_of toxic) (codes "toxicity", toxicity))
    → pair_values (with_values toxic []) (map printed_pair (shown_before (entries_of toxic) (codes "toxicity", toxicity)))
    ≡ map (λ entry. entry.1) (entries_of toxic)
pair_values-shown toxic spelled toxicity good =
    let entries = entries_of toxic in
    let last : Named = (codes "toxicity", toxicity) in
    let parts = and_parts (not (has_name (codes "toxicity") entries)) (are_apart entries) spelled.apart in
    let none = not-true (has_name (codes "toxicity") entries) parts.0 in
    ap (λ keys. map (λ key. unwrap_or (value_at key (map printed_pair (shown_before entries last))) 0) keys) spelled.keys
    ∙ values_by (shown_before entries last) good entries
    ∙ values_read entries last parts.1 none
  where
    values_by : (given : List Named) → AreGood given → (entries : List Named)
        → map (λ key. unwrap_or (value_at key (map printed_pair given)) 0) (map (λ entry. entry.0) entries) ≡ map (read_value given) entries
    values_by given good [] = refl
    values_by given good (entry ∷ entries) = rw (value_at-printed entry.0 given good, values_by given good entries) refl

pub reads_back : (toxic : Toxic) (toxicity : ℕ) → IsInRange toxic → toxicity ≤ 1000
    → short_of (printed_short toxic toxicity) ≡ Ok (toxic, toxicity)
reads_back toxic toxicity inside most =
    let facts = toxic_facts toxic in
    let spelled = facts.spelled in
    let zeros = with_values toxic [] in
    let entries = entries_of toxic in
    let last : Named = (codes "toxicity", toxicity) in
    let pairs = map printed_pair (shown_before entries last) in
    let parts = and_parts (not (has_name (codes "toxicity") entries)) (are_apart entries) spelled.apart in
    let none = not-true (has_name (codes "toxicity") entries) parts.0 in
    let good = good_shown entries last spelled.words (facts.short inside) refl (omega arith) in
    let made : with_values zeros (pair_values zeros pairs) ≡ toxic = ap (with_values zeros) (pair_values-shown toxic spelled toxicity good) ∙ spelled.made in
    ap (λ pairs. short_of (name_of toxic ++ 58 ∷ [] ++ join_with_byte 44 pairs)) (sym (map-append printed_pair (filter is_shown entries) (last ∷ [])))
    ∙ ap short_of (append_assoc (name_of toxic) (58 ∷ []) (join_with_byte 44 pairs))
    ∙ short_of-joined (name_of toxic) zeros pairs spelled.word spelled.named (some_shown entries last) (parted _ good) (are_pairs _ good)
    ∙ with_pairs_good zeros toxic pairs toxicity (single pairs pairs (λ key. count_one key _ good (apart_shown entries last parts.1 none)))
    (are_known zeros _ good (pass_shown (λ entry. is_known zeros entry.0) entries last spelled.known refl))
    (value_at-printed (codes "toxicity") _ good ∙ absent (codes "toxicity") entries last none) made most inside
