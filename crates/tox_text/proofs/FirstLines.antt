-- The first line of a text.
use Rattle.std.proofs.Common.{◌≡◌, ℕ, ◌+◌, ◌<◌, ◌==◌, Bool, true, false, List, [], ◌∷◌, ◌++◌, length, take, drop, get_or, refl, ap, sym, ◌∙◌, arith}
use Rattle.std.proofs.Common.{length-take}
use Rattle.std.specs.Prelude.{All}
use Rattle.std.proofs.lemmas.List.{drop_more, get_or_default, get_or-take, take-append-drop}
use Rattle.std.proofs.lemmas.List.Splits.{slice_split_at, slice_split_none}
use Rattle.memchr.specs.Find.{NoneBefore, Nowhere, Passes, is_byte}
use Rattle.tox_text.specs.arrivals.ArrivalsText.{lines_of}

abbrev is_feed : ℕ → Bool
is_feed byte = byte == 10

unless_true : (b : Bool) → (b ≡ true → ⊥) → b ≡ false
unless_true true never = absurd (never refl)
unless_true false never = refl

-- no line feed is there
pub lines_of-one : (text : List ℕ) → Nowhere (Passes (is_byte 10) text) 0 (length text) → lines_of text ≡ text ∷ []
lines_of-one text nowhere =
    slice_split_none is_feed text (λ k d below. ap is_feed (get_or_default text k d 0 below)
    ∙ unless_true (is_feed (get_or text k 0)) (nowhere k (omega arith) below))

-- the first line feed is there
pub lines_of-first : (text : List ℕ) (k : ℕ) → NoneBefore (Passes (is_byte 10) text) 0 (length text) k → Passes (is_byte 10) text k
    → lines_of text ≡ take k text ∷ lines_of (drop (k + 1) text)
lines_of-first text k before passes =
    let first : All (λ byte. is_feed byte ≡ false) (take k text) = λ n d below.
    let short : n < k = omega (arith, length-take k text, below) in
    let same : get_or (take k text) n d ≡ get_or text n 0 = get_or-take k text n d short ∙ get_or_default text n d 0 (omega (arith, before.high)) in
    ap is_feed same ∙ unless_true (is_feed (get_or text n 0)) (before.before n (omega arith) short) in
    let whole : text ≡ take k text ++ get_or text k 0 ∷ drop (k + 1) text = sym (take-append-drop k text)
    ∙ ap (λ rest. take k text ++ rest) (drop_more text k 0 before.high) in
    ap lines_of whole ∙ slice_split_at is_feed (take k text) (get_or text k 0) (drop (k + 1) text) first passes
