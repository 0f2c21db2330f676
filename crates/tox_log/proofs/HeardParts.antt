-- What a log heard, in the parts in which it is printed.
use Rattle.std.proofs.Common.{◌≡◌, ℕ, ◌+◌, ◌-◌, ◌*◌, ◌/◌, ◌%◌, ◌<◌, All, List, [], ◌∷◌, ◌++◌, length, take, drop, map, get_or, codes, decimal, Option, Ok}
use Rattle.std.proofs.Common.{refl, ap, ap₂, sym, ◌∙◌, append_assoc, append-nil, arith}
use Rattle.std.specs.Prelude.{replicate}
use Rattle.std.specs.Io.KnownBytes.{prepend_known}
use Rattle.std.specs.List.{join_with_byte}
use Rattle.std.proofs.Math.Nat.{mod-eq_of_lt}
use Rattle.std.proofs.lemmas.Grind.{flat_map-append}
use Rattle.std.proofs.lemmas.List.{get_or-map, length-map, length-take-le, replicate-append-replicate, take-append-drop, take_more}
use Rattle.std.proofs.lemmas.List.Elements.{All-append, All-cons, All-nil}
use Rattle.tox_time.specs.declared.ends.Sink.{Ghosts}
use Rattle.tox_link.proofs.CarryLemmas.{prepend-nil}
use Rattle.tox_link.proofs.Sent.{prepend_more}
use Rattle.tox_text.specs.Printing.{IsWorking, Prints}
use Rattle.tox_text.specs.declared.printer.SizedPrinter.{SizedPrinter}
use Rattle.tox_text.proofs.Printings.{Prints-as, Prints-none, Prints-then}
use Rattle.tox_log.specs.declared.event_line.LogLine.{LogLine}
use Rattle.tox_log.specs.declared.open_log.OpenLog.{OpenLog}
use Rattle.tox_log.specs.HeardText.{AreLinesOf, heard_line, heard_text, separator, zeros_line}
use Rattle.tox_log.specs.Lines.{IsWritable, line_words}
use Rattle.tox_log.specs.Reading.{Hands, LacksLine, to_hand}
use Rattle.tox_log.specs.WrittenLog.{log_lines}

-- a part more behind a comma, unless it is the first
join-more : (parts : List (List ℕ)) (last : List ℕ)
    → join_with_byte 44 (parts ++ last ∷ []) ≡ join_with_byte 44 parts ++ (separator (length parts) ++ last)
join-more [] last = refl
join-more (part ∷ []) last = refl
join-more (part ∷ next ∷ parts) last =
    ap (λ rest. part ++ 44 ∷ rest) (join-more (next ∷ parts) last)
    ∙ sym (append_assoc part (44 ∷ join_with_byte 44 (next ∷ parts)) (codes "," ++ last))

-- a text begins with that of its first parts
pub join-front : (front back : List (List ℕ)) → (rest : List ℕ) × (join_with_byte 44 (front ++ back) ≡ join_with_byte 44 front ++ rest)
join-front [] back = (join_with_byte 44 back, refl)
join-front (part ∷ []) [] = ([], sym (append-nil part))
join-front (part ∷ []) (next ∷ back) = (44 ∷ join_with_byte 44 (next ∷ back), refl)
join-front (part ∷ next ∷ front) back =
    let (rest, whole) = join-front (next ∷ front) back in (
      rest,
      ap (λ text. part ++ 44 ∷ text) whole ∙ sym (append_assoc part (44 ∷ join_with_byte 44 (next ∷ front)) rest),
    )

-- a word more
pub words-more : (words : List ℕ) (i : ℕ) → i < length words
    → join_with_byte 44 (take i (map decimal words)) ++ (separator i ++ decimal (get_or words i 0)) ≡ join_with_byte 44 (take (i + 1) (map decimal words))
words-more words i below =
    let parts : List (List ℕ) = map decimal words in
    let inside : i < length parts = omega (arith, length-map words decimal, below) in
    let here : get_or parts i [] ≡ decimal (get_or words i 0) = get_or-map decimal words i 0 [] below in
    let count : length (take i parts) ≡ i = length-take-le i parts (omega (arith, inside)) in
    sym (ap (join_with_byte 44) (take_more parts i [] inside) ∙ join-more (take i parts) (get_or parts i [])
    ∙ ap₂ (λ (n : ℕ) (part : List ℕ). join_with_byte 44 (take i parts) ++ (separator n ++ part)) count here)

-- and those behind it
pub words-behind : (words : List ℕ) (i : ℕ) → i < length words
    → (rest : List ℕ)
    × ((join_with_byte 44 (take i (map decimal words)) ++ (separator i ++ decimal (get_or words i 0))) ++ rest ≡ join_with_byte 44 (map decimal words))
words-behind words i below =
    let parts : List (List ℕ) = map decimal words in
    let (rest, whole) = join-front (take (i + 1) parts) (drop (i + 1) parts) in (
      rest,
      ap (λ (text : List ℕ). text ++ rest) (words-more words i below) ∙ sym whole ∙ ap (join_with_byte 44) (take-append-drop (i + 1) parts),
    )

-- the lane and the turn of an index
pub index-place : (i count : ℕ) → i < count → (i % 16 + 16 * (i / 16)) % count ≡ i
index-place i count below =
    let same : i % 16 + 16 * (i / 16) ≡ i = omega arith in
    ap (λ (n : ℕ). n % count) same ∙ mod-eq_of_lt below

-- a byte of zero more
pub zeros-more : (n : ℕ) → replicate (2 * n) 48 ++ (codes "00" ++ []) ≡ replicate (2 * (n + 1)) 48
zeros-more n =
    let count : 2 * n + 2 ≡ 2 * (n + 1) = omega arith in
    replicate-append-replicate (2 * n) 2 48 ∙ ap (λ (n : ℕ). replicate n 48) count

-- and those behind it
pub zeros-behind : (n len : ℕ) → n < len → (replicate (2 * n) 48 ++ (codes "00" ++ [])) ++ replicate (2 * (len - (n + 1))) 48 ≡ replicate (2 * len) 48
zeros-behind n len below =
    let count : 2 * (n + 1) + 2 * (len - (n + 1)) ≡ 2 * len = omega arith in
    ap (λ (text : List ℕ). text ++ replicate (2 * (len - (n + 1))) 48) (zeros-more n)
    ∙ replicate-append-replicate (2 * (n + 1)) (2 * (len - (n + 1))) 48 ∙ ap (λ (n : ℕ). replicate n 48) count

-- lines were read of these bytes, behind which so many are left, and what they heard was printed
pub record PrintsLines {W : Type 0} (sink : Ghosts W) {R : ℕ} (given left : Option (List ℕ)) (old new : SizedPrinter W R) : Type 0 where
  pub lines : List LogLine
  pub writable : All IsWritable lines
  pub text : given ≡ prepend_known (log_lines lines) left
  pub printed : Prints sink (Ok tt) old new (heard_text lines)

module _ {W : Type 0} {sink : Ghosts W} {R : ℕ} where
  -- none yet
  pub lines-none : (given : Option (List ℕ)) (printer : SizedPrinter W R) → IsWorking sink printer → PrintsLines sink given given printer printer
  lines-none given printer works = record {
    lines = [];
    writable = All-nil IsWritable;
    text = prepend-nil given;
    printed = Prints-none works;
  }

  -- a line more
  pub lines-more : (given before after : Option (List ℕ)) (old new : OpenLog) (line : LogLine) (first mid last : SizedPrinter W R)
      → PrintsLines sink given (to_hand old before) first mid → Hands old new before after line → Prints sink (Ok tt) mid last (heard_line line)
      → PrintsLines sink given (to_hand new after) first last
  lines-more given before after old new line first mid last prints hands printed =
      let one : log_lines (line ∷ []) ≡ line_words line ++ 10 ∷ [] = append-nil (line_words line ++ 10 ∷ []) in
      let more : log_lines prints.lines ++ (line_words line ++ 10 ∷ []) ≡ log_lines (prints.lines ++ line ∷ []) =
      ap (λ (text : List ℕ). log_lines prints.lines ++ text) (sym one)
      ∙ sym (flat_map-append (λ (line : LogLine). line_words line ++ codes "\n") prints.lines (line ∷ [])) in
      let heard : heard_text prints.lines ++ heard_line line ≡ heard_text (prints.lines ++ line ∷ []) =
      ap (λ (text : List ℕ). heard_text prints.lines ++ text) (sym (append-nil (heard_line line))) ∙ sym (flat_map-append heard_line prints.lines (line ∷ [])) in
      record {
        lines = prints.lines ++ line ∷ [];
        writable = All-append IsWritable prints.lines (line ∷ []) prints.writable (All-cons IsWritable line [] hands.writable (All-nil IsWritable));
        text = prepend_more (log_lines prints.lines) (line_words line ++ 10 ∷ []) given (to_hand old before) (to_hand new after) prints.text hands.given
            ∙ ap (λ (text : List ℕ). prepend_known text (to_hand new after)) more;
        printed = Prints-as heard (Prints-then prints.printed printed);
      }

  -- no line is left
  pub lines-all : {given left : Option (List ℕ)} {first last : SizedPrinter W R} → PrintsLines sink given left first last → LacksLine left
      → (lines : List LogLine) × AreLinesOf given lines × Prints sink (Ok tt) first last (heard_text lines)
  lines-all {left = left} prints none = (
    prints.lines,
    record { left = left; writable = prints.writable; text = prints.text; rest = none },
    prints.printed,
  )

three : (a b c d : List ℕ) → (a ++ b) ++ (c ++ d) ≡ a ++ b ++ c ++ d
three a b c d = sym (append_assoc (a ++ b) c d)

-- the line of a piece
pub zeros_line-parts : (len instant reading : ℕ) → reading ≡ instant
    → (decimal reading ++ (codes " data " ++ [])) ++ (replicate (2 * len) 48 ++ (codes "\n" ++ [])) ≡ zeros_line len instant
zeros_line-parts len instant reading is =
    ap (λ (t : ℕ). (decimal t ++ codes " data ") ++ (replicate (2 * len) 48 ++ codes "\n")) is
    ∙ three (decimal instant) (codes " data ") (replicate (2 * len) 48) (codes "\n")
