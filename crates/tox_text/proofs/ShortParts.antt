-- Printed short forms, in the parts in which they are printed.
use Rattle.std.proofs.Common.{◌≡◌, ℕ, Bool, true, false, filter, if◌then◌else◌, List, [], ◌∷◌, ◌++◌, codes, decimal, flat_map, map, append_assoc, append-nil}
use Rattle.std.proofs.Common.{refl, ap, ◌∙◌}
use Rattle.std.specs.List.{join_with_byte, zip}
use Rattle.tox_defs.specs.Toxic.{attributes_of, name_of, values_of}
use Rattle.tox_defs.specs.short.Printed.{is_shown, printed_pair, printed_short}
use Rattle.tox_defs.specs.declared.toxic.Toxic.{Toxic}
use Rattle.tox_text.specs.ShortForm.{shown_before_comma}

-- the type, the pairs of the attributes, and that of the toxicity
abbrev pub short_parts : List ℕ → List (List ℕ) → List ℕ → ℕ → List ℕ
short_parts name keys values toxicity =
    (name ++ codes ":") ++ (flat_map shown_before_comma (zip keys values) ++ (codes "toxicity=" ++ (decimal toxicity ++ [])))

-- parts with a comma behind each, before a last one
joined_last : (parts : List (List ℕ)) (last : List ℕ) → flat_map (λ part. part ++ codes ",") parts ++ last ≡ join_with_byte 44 (parts ++ last ∷ [])
joined_last [] last = refl
joined_last (part ∷ []) last = simp (append_assoc, append-nil)
joined_last (part ∷ next ∷ parts) last =
    append_assoc (part ++ codes ",") (flat_map (λ p. p ++ codes ",") (next ∷ parts)) last
    ∙ append_assoc part (codes ",") (flat_map (λ p. p ++ codes ",") (next ∷ parts) ++ last)
    ∙ ap (λ rest. part ++ 44 ∷ rest) (joined_last (next ∷ parts) last)

-- the attributes' pairs of a toxic
abbrev pairs_of : Toxic → List (List ℕ)
pairs_of toxic = map printed_pair (filter is_shown (zip (attributes_of toxic) (values_of toxic)))

-- each pair that is printed with a comma behind it
spelled_by : (shown : Bool) (pair : List ℕ × ℕ) (pairs : List (List ℕ × ℕ))
    → flat_map shown_before_comma pairs ≡ flat_map (λ part. part ++ codes ",") (map printed_pair (filter is_shown pairs))
    → (if shown then printed_pair pair ++ codes "," else []) ++ flat_map shown_before_comma pairs
    ≡ flat_map (λ part. part ++ codes ",") (map printed_pair (if shown then pair ∷ filter is_shown pairs else filter is_shown pairs))
spelled_by true pair pairs others = ap (λ text. (printed_pair pair ++ codes ",") ++ text) others
spelled_by false pair pairs others = others

spelled : (pairs : List (List ℕ × ℕ)) → flat_map shown_before_comma pairs ≡ flat_map (λ part. part ++ codes ",") (map printed_pair (filter is_shown pairs))
spelled [] = refl
spelled (pair ∷ pairs) = spelled_by (is_shown pair) pair pairs (spelled pairs)

parts_of_toxic : (toxic : Toxic) (toxicity : ℕ)
    → short_parts (name_of toxic) (attributes_of toxic) (values_of toxic) toxicity ≡ printed_short toxic toxicity
parts_of_toxic toxic toxicity =
    ap (λ text. (name_of toxic ++ codes ":") ++ text) (
    ap (λ text. text ++ (codes "toxicity=" ++ (decimal toxicity ++ []))) (spelled (zip (attributes_of toxic) (values_of toxic)))
    ∙ ap (λ digits. flat_map (λ part. part ++ codes ",") (pairs_of toxic) ++ (codes "toxicity=" ++ digits)) (append-nil (decimal toxicity))
    ∙ joined_last (pairs_of toxic) (printed_pair (codes "toxicity", toxicity)))

-- what the calls answered are these parts
pub printed_short-parts : (name : List ℕ) (keys : List (List ℕ)) (values : List ℕ) (number : ℕ) (toxic : Toxic) (toxicity : ℕ)
    → name ≡ name_of toxic → keys ≡ attributes_of toxic → values ≡ values_of toxic → number ≡ toxicity
    → short_parts name keys values number ≡ printed_short toxic toxicity
printed_short-parts name keys values number toxic toxicity named keyed valued numbered = rw (named, keyed, valued, numbered) (parts_of_toxic toxic toxicity)
