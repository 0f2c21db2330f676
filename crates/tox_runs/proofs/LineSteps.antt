-- A text on its way through its second pass: what arrived before the next line, and what the lines that are left add.
use Rattle.std.proofs.Common.{◌≡◌, ℕ, ◌+◌, ◌<◌, ◌≤◌, ◌^◌, slice_index, append_assoc, List, [], ◌∷◌, ◌++◌, length, Option, Some, Ok, option_map, Any, refl, ap}
use Rattle.std.proofs.Common.{sym, ◌∙◌, subst, arith, append-nil, length-append}
use denote.Bor.{Bor}
use Rattle.std.specs.Prelude.{IsOk}
use Rattle.std.specs.Result.{result_ok}
use Rattle.hex.specs.Hex.{decode_of}
use Rattle.tox_time.specs.declared.streams.item.Item.{Item}
use Rattle.tox_time.specs.declared.streams.item.Item.TheVariants.{Closed}
use Rattle.tox_time.specs.declared.streams.span.Span.{Span}
use Rattle.tox_time.specs.streams.Arrivals.{arrival_list, next_chunk}
use Rattle.tox_time.specs.streams.Neighbours.{LiesInChunk}
use Rattle.tox_time.specs.streams.Stream.{IsStreamFrom, arrived as count_of, has_final, latest}
use Rattle.tox_time.proofs.StreamLemmas.{arrived-append}
use Rattle.tox_text.specs.arrivals.ArrivalsText.{Arrived, lines_of, no_arrivals, after_line, after_lines}
use Rattle.tox_text.specs.arrivals.Checked.{AreArrivals}
use Rattle.tox_text.specs.arrivals.Line.{arrival, end, line_of}
use Rattle.tox_text.specs.arrivals.Lines.{lines_left}
use Rattle.tox_text.specs.ResultText.{arrival_of}
use Rattle.tox_text.proofs.CountLemmas.{accepted_piece}
use Rattle.tox_time.proofs.Steps.{bind_ok}
use Rattle.tox_text.proofs.LineTurns.{data_taken, end_taken, pairs_taken}
use Rattle.tox_runs.specs.runs.SecondPass.{IsPieceOf, chunk_at}
use Rattle.tox_runs.proofs.TextTurns.{arrival_behind, arrival_in, bytes_in, cancel, edge_behind, lines_grow}

-- the lines that are left, from the n-th on, leave all that arrived; a source stands before what they add
pub record IsUnderWay (arrived : Arrived) (n : ℕ) (lines : List (List ℕ)) (stands : ℕ → List Item → Type 0) (position : ℕ) (later : List Item) : Type 0 where
  pub before : Arrived
  pub rest : after_lines n lines before ≡ Ok arrived
  pub items : before.items ++ later ≡ arrived.items
  pub counted : length before.bytes ≡ count_of before.items
  pub position_is : position ≡ count_of before.items
  pub ready : stands (count_of before.items) later

-- the first line of what is left, and the others
pub line_next : (left : Option (Bor (List ℕ))) (rest : Bor (List ℕ)) (line : List ℕ) (others : Option (Bor (List ℕ))) → left ≡ Some rest
    → lines_of rest.now ≡ line ∷ lines_left (option_map (λ text. text.now) others)
    → lines_left (option_map (λ text. text.now) left) ≡ line ∷ lines_left (option_map (λ text. text.now) others)
line_next left rest line others is lines = ap (λ left. lines_left (option_map (λ text. text.now) left)) is ∙ lines

-- at first all is left
pub IsUnderWay-first : (arrived : Arrived) (lines : List (List ℕ)) (stands : ℕ → List Item → Type 0) (position : ℕ)
    → after_lines 1 lines no_arrivals ≡ Ok arrived → stands 0 arrived.items
    → position ≡ 0 → IsUnderWay arrived 1 lines stands position arrived.items
IsUnderWay-first arrived lines stands position rest ready empty = record {
  before = no_arrivals;
  rest = rest;
  items = refl;
  counted = refl;
  position_is = empty;
  ready = ready;
}

-- what a data line finds, and what it leaves
pub record IsAtData (arrived : Arrived) (n : ℕ) (lines : List (List ℕ)) (stands : ℕ → List Item → Type 0) (start : ℕ) (later : List Item) (t : ℕ)
    (bytes : List ℕ) : Type 1 where
  pub others : List Item
  pub is : later ≡ chunk_at start (length bytes) t ∷ others
  pub some : 0 < length bytes
  pub few : start + length bytes ≤ 2 ^ 40
  pub of : (room : ℕ) → IsPieceOf arrived (record { start = start; bytes = bytes; instant = t; room = room })
  pub ready : stands start (chunk_at start (length bytes) t ∷ others)
  pub then : (after : ℕ → List Item → Type 0) → after (start + length bytes) others
      → IsUnderWay arrived (n + 1) lines after (start + length bytes) others

pub at_data : (arrived : Arrived) (n : ℕ) (left : List (List ℕ)) (line : List ℕ) (lines : List (List ℕ)) (stands : ℕ → List Item → Type 0) (start : ℕ)
    (later : List Item) (t : ℕ) (bytes : List ℕ) → AreArrivals arrived
    → left ≡ line ∷ lines → line_of line ≡ Some (arrival t bytes) → IsUnderWay arrived n left stands start later
    → IsAtData arrived n lines stands start later t bytes
at_data arrived n left line lines stands start later t bytes arrivals split is under_way =
    let on : IsUnderWay arrived n (line ∷ lines) stands start later = subst (λ left. IsUnderWay arrived n left stands start later) split under_way in
    let went = bind_ok (after_line n on.before line) (after_lines (n + 1) lines) arrived on.rest in
    let took = data_taken n on.before went.0 t bytes line is went.1 in
    let fits = accepted_piece (count_of on.before.items) (latest on.before.items) (length bytes) t (has_final on.before.items) took.0 in
    let rest = lines_grow (n + 1) lines went.0 arrived went.2 in
    let stop : start ≡ count_of on.before.items = on.position_is in
    let chunk : Item = chunk_at start (length bytes) t in
    let same_chunk : next_chunk on.before.items (length bytes) t ≡ chunk = ap (λ m. chunk_at m (length bytes) t) (sym stop) in
    let items : went.0.items ≡ on.before.items ++ chunk ∷ [] = ap (λ a. a.items) took.1 ∙ ap (λ c. on.before.items ++ c ∷ []) same_chunk in
    let whole : on.before.items ++ (chunk ∷ rest.later) ≡ arrived.items = sym (append_assoc on.before.items (chunk ∷ []) rest.later)
    ∙ ap (λ xs. xs ++ rest.later) (sym items) ∙ rest.items in
    let splits : later ≡ chunk ∷ rest.later = cancel on.before.items later (chunk ∷ rest.later) (on.items ∙ sym whole) in
    let stream : IsStreamFrom 0 0 (arrival_list (on.before.items ++ (chunk ∷ rest.later))) =
    subst (λ xs. IsStreamFrom 0 0 (arrival_list xs)) (sym whole) arrivals.list.0 in
    let span : Span = record { start = start; stop = start + length bytes } in
    let all_bytes : (on.before.bytes ++ bytes) ++ rest.more ≡ arrived.bytes = ap (λ xs. xs ++ rest.more) (sym (ap (λ a. a.bytes) took.1)) ∙ rest.bytes in
    let front : length on.before.bytes ≡ start = on.counted ∙ sym stop in
    let counts : count_of went.0.items ≡ start + length bytes = ap count_of items ∙ arrived-append on.before.items (chunk ∷ []) ∙ omega (arith, stop) in
    record {
      others = rest.later;
      is = splits;
      some = fits.1;
      few = omega (arith, stop, fits.2);
      of = λ room. record {
        of_arrival = λ k within. ap (λ xs. arrival_of xs (start + k)) (sym whole)
            ∙ arrival_in 0 0 on.before.items rest.later span t k stream (omega (arith, within));
        at_place = λ k within. ap (λ m. slice_index arrived.bytes (m + k)) (sym front)
            ∙ bytes_in on.before.bytes bytes rest.more arrived.bytes k all_bytes within;
        behind = λ same.
            let past = arrival_behind 0 0 on.before.items rest.later span t stream in
            let there : arrival_of (on.before.items ++ (chunk ∷ rest.later)) (start + length bytes) ≡ start =
            ap (λ xs. arrival_of xs (start + length bytes)) whole ∙ same in
            omega (arith, past, there);
        edge = λ part lies before. edge_behind 0 0 on.before.items rest.later span t stream part
            (subst (λ xs. Any (LiesInChunk part) (arrival_list xs)) (sym whole) lies) before;
      };
      ready = subst (λ m. stands m (chunk ∷ rest.later)) (sym stop) (subst (stands (count_of on.before.items)) splits on.ready);
      then = λ after ready. record {
        before = went.0;
        rest = went.2;
        items = rest.items;
        counted =
            let sizes : length went.0.bytes ≡ length on.before.bytes + length bytes = ap (λ a. length a.bytes) took.1 ∙ length-append on.before.bytes bytes in
            omega (arith, counts, sizes, on.counted, stop);
        position_is = sym counts;
        ready = subst (λ m. after m rest.later) (sym counts) ready;
      };
    }

-- what a last line finds, and what it leaves
pub record IsAtLast (arrived : Arrived) (n : ℕ) (lines : List (List ℕ)) (stands : ℕ → List Item → Type 0) (position : ℕ) (later : List Item) (t : ℕ) : Type 1
  where
    pub others : List Item
    pub is : later ≡ Closed t ∷ others
    pub ready : stands position (Closed t ∷ others)
    pub then : (after : ℕ → List Item → Type 0) → after position others → IsUnderWay arrived (n + 1) lines after position others

pub at_last : (arrived : Arrived) (n : ℕ) (left : List (List ℕ)) (line : List ℕ) (lines : List (List ℕ)) (stands : ℕ → List Item → Type 0) (position : ℕ)
    (later : List Item) (t : ℕ) → left ≡ line ∷ lines
    → line_of line ≡ Some (end t) → IsUnderWay arrived n left stands position later → IsAtLast arrived n lines stands position later t
at_last arrived n left line lines stands position later t split is under_way =
    let on : IsUnderWay arrived n (line ∷ lines) stands position later = subst (λ left. IsUnderWay arrived n left stands position later) split under_way in
    let went = bind_ok (after_line n on.before line) (after_lines (n + 1) lines) arrived on.rest in
    let took = end_taken n on.before went.0 t line is went.1 in
    let rest = lines_grow (n + 1) lines went.0 arrived went.2 in
    let items : went.0.items ≡ on.before.items ++ Closed t ∷ [] = ap (λ a. a.items) took.1 in
    let whole : on.before.items ++ (Closed t ∷ rest.later) ≡ arrived.items = sym (append_assoc on.before.items (Closed t ∷ []) rest.later)
    ∙ ap (λ xs. xs ++ rest.later) (sym items) ∙ rest.items in
    let splits : later ≡ Closed t ∷ rest.later = cancel on.before.items later (Closed t ∷ rest.later) (on.items ∙ sym whole) in
    let counts : count_of went.0.items ≡ count_of on.before.items = ap count_of items ∙ arrived-append on.before.items (Closed t ∷ []) ∙ omega arith in
    record {
      others = rest.later;
      is = splits;
      ready = subst (λ m. stands m (Closed t ∷ rest.later)) (sym on.position_is) (subst (stands (count_of on.before.items)) splits on.ready);
      then = λ after ready. record {
        before = went.0;
        rest = went.2;
        items = rest.items;
        counted = ap (λ a. length a.bytes) took.1 ∙ on.counted ∙ sym counts;
        position_is = on.position_is ∙ sym counts;
        ready = subst (λ m. after m rest.later) (on.position_is ∙ sym counts) ready;
      };
    }

-- the digits of a data line are pairs
pub pairs_there : (arrived : Arrived) (n : ℕ) (left : List (List ℕ)) (line : List ℕ) (lines : List (List ℕ)) (stands : ℕ → List Item → Type 0) (position : ℕ)
    (later : List Item) (t : ℕ) (digits : List ℕ)
    → left ≡ line ∷ lines → line_of line ≡ option_map (arrival t) (result_ok (decode_of digits)) → 0 < length line
    → IsUnderWay arrived n left stands position later → IsOk (decode_of digits)
pairs_there arrived n left line lines stands position later t digits split says some under_way =
    let on : IsUnderWay arrived n (line ∷ lines) stands position later = subst (λ left. IsUnderWay arrived n left stands position later) split under_way in
    let went = bind_ok (after_line n on.before line) (after_lines (n + 1) lines) arrived on.rest in
    pairs_taken n on.before went.0 t digits line says some went.1

-- nothing is left behind the last line
pub none_left : (arrived : Arrived) (n : ℕ) (left : List (List ℕ)) (stands : ℕ → List Item → Type 0) (position : ℕ) (later : List Item) → left ≡ []
    → IsUnderWay arrived n left stands position later → later ≡ []
none_left arrived n left stands position later empty on =
    let rest : after_lines n [] on.before ≡ Ok arrived = subst (λ lines. after_lines n lines on.before ≡ Ok arrived) empty on.rest in
    let same : on.before ≡ arrived = cc in
    cancel on.before.items later [] (on.items ∙ sym (ap (λ a. a.items) same) ∙ sym (append-nil on.before.items))

-- and there the source stands
pub behind_all : (arrived : Arrived) (n : ℕ) (left : List (List ℕ)) (stands : ℕ → List Item → Type 0) (position : ℕ) (later : List Item) → later ≡ []
    → IsUnderWay arrived n left stands position later
    → (reached : ℕ) × stands reached []
behind_all arrived n left stands position later none on = (count_of on.before.items, subst (stands (count_of on.before.items)) none on.ready)
