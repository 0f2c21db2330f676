-- Short forms: the toxic and the toxicity that a text names, or its first fault.
use Rattle.std.specs.Prelude.{ℕ, ◌&&◌, ◌||◌, Bool, not, List, [], map, codes, Option, Some, None, is_some, unwrap_or, Result, Ok, Err, nat_lt, position}
use Rattle.std.specs.Prelude.{if◌then◌else◌}
use Rattle.std.specs.List.{after_first, before_first, list_all, list_any}
use Rattle.std.specs.Str.{bytes_eq}
use Rattle.tox_time.specs.Text.{is_colon}
use Rattle.tox_defs.specs.Toxic.{attributes_of, checked, toxic_named, with_values}
use Rattle.tox_defs.specs.short.Pairs.{has_double_key, is_pair, is_word, key_of, pairs_of, value_at}
use Rattle.tox_defs.specs.declared.fault.ShortFault.{ShortFault}
use Rattle.tox_defs.specs.declared.fault.ShortFault.TheVariants as short
use Rattle.tox_defs.specs.declared.toxic.Toxic.{Toxic}
use Rattle.tox_defs.specs.declared.fault.ToxicFault.{ToxicFault}
use Rattle.tox_defs.specs.declared.fault.ToxicFault.TheVariants.{UnknownType, UnknownAttribute, ToxicityNotThousandths}

-- whether a key may stand at a toxic
abbrev pub is_known : Toxic → List ℕ → Bool
is_known toxic key =
    bytes_eq key (codes "toxicity")
    || list_any (λ attribute. bytes_eq attribute key) (attributes_of toxic)

-- the values of a toxic's attributes, in order, where an absent one is 0
abbrev pub pair_values : Toxic → List (List ℕ) → List ℕ
pair_values toxic pairs = map (λ key. unwrap_or (value_at key pairs) 0) (attributes_of toxic)

-- the toxicity, where an absent one is 1000
abbrev pub pair_toxicity : List (List ℕ) → ℕ
pair_toxicity pairs = unwrap_or (value_at (codes "toxicity") pairs) 1000

-- a toxic and its toxicity, unless the toxic is refused
abbrev pub with_toxicity : ℕ → Result Toxic ToxicFault → Result (Toxic × ℕ) ShortFault
with_toxicity toxicity (Ok toxic) = Ok (toxic, toxicity)
with_toxicity toxicity (Err fault) = Err (short.Toxic fault)

-- a toxic with the values of these pairs, or its first fault
abbrev pub with_pairs : Toxic → List (List ℕ) → Result (Toxic × ℕ) ShortFault
with_pairs toxic pairs =
    if has_double_key pairs then Err short.DoubleKey
    else if nat_lt 1000 (pair_toxicity pairs) then Err (short.Toxic ToxicityNotThousandths)
    else if not (list_all (λ pair. is_known toxic (key_of pair)) pairs)
    then Err (short.Toxic UnknownAttribute)
    else with_toxicity (pair_toxicity pairs) (checked (with_values toxic (pair_values toxic pairs)))

-- the same, where there may be no such type
abbrev pub with_type : Option Toxic → List (List ℕ) → Result (Toxic × ℕ) ShortFault
with_type None pairs = Err (short.Toxic UnknownType)
with_type (Some toxic) pairs = with_pairs toxic pairs

-- the pairs behind the colon; none where there is no colon
abbrev pub pairs_in : List ℕ → List (List ℕ)
pairs_in text =
    if is_some (position is_colon text) then pairs_of (after_first is_colon text) else []

-- the toxic of a type's name with these pairs, or the first fault
abbrev pub with_name : List ℕ → List (List ℕ) → Result (Toxic × ℕ) ShortFault
with_name name pairs =
    if is_word name && list_all is_pair pairs then with_type (toxic_named name) pairs
    else Err short.BadForm

-- the toxic and the toxicity that a text names, or its first fault
abbrev pub short_of : List ℕ → Result (Toxic × ℕ) ShortFault
short_of text = with_name (before_first is_colon text) (pairs_in text)
