-- A text without faults, line by line: what each line adds to what arrived, and where its piece stands among all arrivals.
use Rattle.std.proofs.Common.{◌≡◌, ℕ, zero, suc, ◌+◌, ◌<◌, ◌≤◌, true, false, List, [], ◌∷◌, ◌++◌, length, get_or, slice_index, nat_lt, Option, Some, None, Ok}
use Rattle.std.proofs.Common.{if◌then◌else◌, refl, ap, sym, ◌∙◌, subst, arith, rules, tests, append_assoc, append-nil, length-append}
use Rattle.std.proofs.lemmas.List.{get_or_append_left, get_or-append_right}
use Rattle.tox_time.specs.declared.streams.item.Item.{Item}
use Rattle.tox_time.specs.declared.streams.item.Item.TheVariants.{Chunk, Closed, Reset, Quiet}
use Rattle.tox_time.specs.declared.streams.span.Span.{Span}
use Rattle.tox_time.specs.streams.Stream.{IsStreamFrom, arrived as count_of, span_len}
use Rattle.tox_time.specs.streams.Arrivals.{arrival_list, next_chunk}
use Rattle.tox_time.specs.streams.Neighbours.{LiesInChunk}
use Rattle.tox_text.specs.arrivals.ArrivalsText.{Arrived, after_line, after_lines}
use Rattle.tox_text.specs.arrivals.Line.{Line, arrival, end, line_of}
use Rattle.tox_text.specs.ResultText.{arrival_of}
use Rattle.tox_runs.specs.runs.SecondPass.{IsEdge}
use Rattle.tox_time.proofs.Steps.{bind_ok}
use Rattle.tox_text.proofs.LineTurns.{data_taken, end_taken, none_taken}

-- what a line adds
record Adds (before next : Arrived) : Type 0 where
  items : List Item
  bytes : List ℕ
  items_are : before.items ++ items ≡ next.items
  bytes_are : before.bytes ++ bytes ≡ next.bytes

adds_none : (before next : Arrived) → next ≡ before → Adds before next
adds_none before next same = record {
  items = [];
  bytes = [];
  items_are = append-nil before.items ∙ sym (ap (λ a. a.items) same);
  bytes_are = append-nil before.bytes ∙ sym (ap (λ a. a.bytes) same);
}

line_adds : (n : ℕ) (before next : Arrived) (line : List ℕ) → after_line n before line ≡ Ok next → Adds before next
line_adds n before next line took = by (line_of line) refl
  where
    by : (read : Option Line) → line_of line ≡ read → Adds before next
    by None is = adds_none before next (none_taken n before next line is took)
    by (Some (arrival t bytes)) is =
        let same = (data_taken n before next t bytes line is took).1 in
        record {
          items = next_chunk before.items (length bytes) t ∷ [];
          bytes = bytes;
          items_are = sym (ap (λ a. a.items) same);
          bytes_are =
              sym (ap (λ a. a.bytes) same);
        }
    by (Some (end t)) is =
        let same = (end_taken n before next t line is took).1 in
        record {
          items = Closed t ∷ [];
          bytes = [];
          items_are = sym (ap (λ a. a.items) same);
          bytes_are = append-nil before.bytes
              ∙ sym (ap (λ a. a.bytes) same);
        }

-- what the lines that are left add
pub record GrowsTo (before arrived : Arrived) : Type 0 where
  pub later : List Item
  pub more : List ℕ
  pub items : before.items ++ later ≡ arrived.items
  pub bytes : before.bytes ++ more ≡ arrived.bytes

pub lines_grow : (n : ℕ) (lines : List (List ℕ)) (before arrived : Arrived) → after_lines n lines before ≡ Ok arrived → GrowsTo before arrived
lines_grow n [] before arrived is =
    let same : before ≡ arrived = cc in
    record { later = []; more = []; items = append-nil before.items ∙ ap (λ a. a.items) same; bytes = append-nil before.bytes ∙ ap (λ a. a.bytes) same }
lines_grow n (line ∷ lines) before arrived is =
    let went = bind_ok (after_line n before line) (after_lines (n + 1) lines) arrived is in
    let added = line_adds n before went.0 line went.1 in
    let rest = lines_grow (n + 1) lines went.0 arrived went.2 in
    record {
      later = added.items ++ rest.later;
      more = added.bytes ++ rest.more;
      items = sym (append_assoc before.items added.items rest.later) ∙ ap (λ xs. xs ++ rest.later) added.items_are ∙ rest.items;
      bytes = sym (append_assoc before.bytes added.bytes rest.more) ∙ ap (λ xs. xs ++ rest.more) added.bytes_are ∙ rest.bytes;
    }

pub cancel : (xs ys zs : List Item) → xs ++ ys ≡ xs ++ zs → ys ≡ zs
cancel [] ys zs same = same
cancel (x ∷ xs) ys zs same = let tails : xs ++ ys ≡ xs ++ zs = cc in cancel xs ys zs tails

-- a stream's arrival of its first position is no earlier
arrival_from : (position since : ℕ) (items : List Item) → IsStreamFrom position since (arrival_list items) → position ≤ arrival_of items position
arrival_from position since [] stream = omega arith
arrival_from position since (Chunk span t ∷ items) stream =
    let test : nat_lt position span.stop ≡ true = search (rules, tests) in
    let here : arrival_of (Chunk span t ∷ items) position ≡ span.start = ap (λ b. if b then span.start else arrival_of items position) test in
    omega (arith, here, stream.0)
arrival_from position since (Closed t ∷ items) stream = rw stream.2 (omega arith)
arrival_from position since (Reset t ∷ items) stream = rw stream.2 (omega arith)
arrival_from position since (Quiet ∷ items) stream = rw stream (omega arith)

cons_nil : (xs later : List Item) (item : Item) → xs ++ item ∷ later ≡ [] → ⊥
cons_nil [] later item is = cc
cons_nil (x ∷ xs) later item is = cc

starts_behind : (position since : ℕ) (xs later : List Item) (span : Span) (t : ℕ) → IsStreamFrom position since (arrival_list (xs ++ Chunk span t ∷ later))
    → position ≤ span.start
starts_behind position since [] later span t stream = omega (arith, stream.0)
starts_behind position since (Chunk s u ∷ xs) later span t stream = omega (arith, stream.0, stream.1, starts_behind s.stop u xs later span t stream.4)
starts_behind position since (Closed u ∷ xs) later span t stream = absurd (cons_nil xs later (Chunk span t) stream.2)
starts_behind position since (Reset u ∷ xs) later span t stream = absurd (cons_nil xs later (Chunk span t) stream.2)
starts_behind position since (Quiet ∷ xs) later span t stream = absurd (cons_nil xs later (Chunk span t) stream)

skipped : (s : Span) (u position : ℕ) (items : List Item) → s.stop ≤ position → arrival_of (Chunk s u ∷ items) position ≡ arrival_of items position
skipped s u position items past =
    let test : nat_lt position s.stop ≡ false = search (rules, tests) in
    ap (λ b. if b then s.start else arrival_of items position) test

-- the positions of a chunk are of its arrival
pub arrival_in : (position since : ℕ) (xs later : List Item) (span : Span) (t k : ℕ) → IsStreamFrom position since (arrival_list (xs ++ Chunk span t ∷ later))
    → k < span_len span
    → arrival_of (xs ++ Chunk span t ∷ later) (span.start + k) ≡ span.start
arrival_in position since [] later span t k stream within =
    let test : nat_lt (span.start + k) span.stop ≡ true = search (rules, tests) in
    ap (λ b. if b then span.start else arrival_of later (span.start + k)) test
arrival_in position since (Chunk s u ∷ xs) later span t k stream within =
    skipped s u (span.start + k) (xs ++ Chunk span t ∷ later) (omega (arith, starts_behind s.stop u xs later span t stream.4))
    ∙ arrival_in s.stop u xs later span t k stream.4 within
arrival_in position since (Closed u ∷ xs) later span t k stream within = absurd (cons_nil xs later (Chunk span t) stream.2)
arrival_in position since (Reset u ∷ xs) later span t k stream within = absurd (cons_nil xs later (Chunk span t) stream.2)
arrival_in position since (Quiet ∷ xs) later span t k stream within = absurd (cons_nil xs later (Chunk span t) stream)

ends_behind : (position since : ℕ) (xs later : List Item) (span : Span) (t : ℕ) → IsStreamFrom position since (arrival_list (xs ++ Chunk span t ∷ later))
    → span.start < span.stop
ends_behind position since [] later span t stream = omega (arith, stream.0, stream.1)
ends_behind position since (Chunk s u ∷ xs) later span t stream = ends_behind s.stop u xs later span t stream.4
ends_behind position since (Closed u ∷ xs) later span t stream = absurd (cons_nil xs later (Chunk span t) stream.2)
ends_behind position since (Reset u ∷ xs) later span t stream = absurd (cons_nil xs later (Chunk span t) stream.2)
ends_behind position since (Quiet ∷ xs) later span t stream = absurd (cons_nil xs later (Chunk span t) stream)

-- and what stands behind it is not
pub arrival_behind : (position since : ℕ) (xs later : List Item) (span : Span) (t : ℕ) → IsStreamFrom position since (arrival_list (xs ++ Chunk span t ∷ later))
    → span.start < arrival_of (xs ++ Chunk span t ∷ later) span.stop
arrival_behind position since [] later span t stream =
    let past = skipped span t span.stop later (omega arith) in
    omega (arith, past, arrival_from span.stop t later stream.4, stream.0, stream.1)
arrival_behind position since (Chunk s u ∷ xs) later span t stream =
    let rest = arrival_behind s.stop u xs later span t stream.4 in
    let past = skipped s u span.stop (xs ++ Chunk span t ∷ later) (omega
    (arith, starts_behind s.stop u xs later span t stream.4, ends_behind s.stop u xs later span t stream.4)) in
    omega (arith, past, rest)
arrival_behind position since (Closed u ∷ xs) later span t stream = absurd (cons_nil xs later (Chunk span t) stream.2)
arrival_behind position since (Reset u ∷ xs) later span t stream = absurd (cons_nil xs later (Chunk span t) stream.2)
arrival_behind position since (Quiet ∷ xs) later span t stream = absurd (cons_nil xs later (Chunk span t) stream)

-- the bytes of a part stand behind those before it
pub bytes_in : (front part more all : List ℕ) (k : ℕ) → (front ++ part) ++ more ≡ all → k < length part
    → slice_index all (length front + k) ≡ slice_index part k
bytes_in front part more all k whole within =
    ap (λ xs. get_or xs (length front + k) 0) (sym whole)
    ∙ get_or_append_left (front ++ part) more 0 (length front + k) (omega (arith, length-append front part))
    ∙ get_or-append_right front part (length front) (length front + k) 0 refl (omega arith)
    ∙ ap (λ n. get_or part n 0) (omega arith)

-- what lies in an item of a stream starts no earlier than the stream
lies_behind : (position since : ℕ) (items : List Item) (part : Span) → IsStreamFrom position since items → (k : ℕ) (d : Item) → k < length items
    → get_or items k d ≡ d → LiesInChunk part d → position ≤ part.start
lies_behind position since [] part stream k d below is lies = absurd stream
lies_behind position since (Chunk s u ∷ items) part stream zero d below is lies =
    let here = subst (LiesInChunk part) (sym is) lies in omega (arith, here.0, stream.0)
lies_behind position since (Chunk s u ∷ items) part stream (suc k) d below is lies =
    omega (arith, lies_behind s.stop u items part stream.4 k d (omega (arith, below)) is lies, stream.0, stream.1)
lies_behind position since (Closed u ∷ items) part stream zero d below is lies = absurd (subst (LiesInChunk part) (sym is) lies)
lies_behind position since (Closed u ∷ items) part stream (suc k) d below is lies =
    absurd (let none = stream.2 in let few : length items ≡ 0 = ap length none in omega (arith, below, few))
lies_behind position since (Reset u ∷ items) part stream zero d below is lies = absurd (subst (LiesInChunk part) (sym is) lies)
lies_behind position since (Reset u ∷ items) part stream (suc k) d below is lies =
    absurd (let none = stream.2 in let few : length items ≡ 0 = ap length none in omega (arith, below, few))
lies_behind position since (Quiet ∷ items) part stream zero d below is lies = absurd (subst (LiesInChunk part) (sym is) lies)
lies_behind position since (Quiet ∷ items) part stream (suc k) d below is lies =
    absurd (let few : length items ≡ 0 = ap length stream in omega (arith, below, few))

-- and stops within its bytes
pub lies_within : (position since : ℕ) (items : List Item) (part : Span) → IsStreamFrom position since items → (k : ℕ) (d : Item) → k < length items
    → get_or items k d ≡ d → LiesInChunk part d
    → part.stop ≤ position + count_of items
lies_within position since [] part stream k d below is lies = absurd stream
lies_within position since (Chunk s u ∷ items) part stream zero d below is lies =
    let here = subst (LiesInChunk part) (sym is) lies in omega (arith, here.1, stream.0, stream.1)
lies_within position since (Chunk s u ∷ items) part stream (suc k) d below is lies =
    omega (arith, lies_within s.stop u items part stream.4 k d (omega (arith, below)) is lies, stream.0, stream.1)
lies_within position since (Closed u ∷ items) part stream zero d below is lies = absurd (subst (LiesInChunk part) (sym is) lies)
lies_within position since (Closed u ∷ items) part stream (suc k) d below is lies =
    absurd (let few : length items ≡ 0 = ap length stream.2 in omega (arith, below, few))
lies_within position since (Reset u ∷ items) part stream zero d below is lies = absurd (subst (LiesInChunk part) (sym is) lies)
lies_within position since (Reset u ∷ items) part stream (suc k) d below is lies =
    absurd (let few : length items ≡ 0 = ap length stream.2 in omega (arith, below, few))
lies_within position since (Quiet ∷ items) part stream zero d below is lies = absurd (subst (LiesInChunk part) (sym is) lies)
lies_within position since (Quiet ∷ items) part stream (suc k) d below is lies =
    absurd (let few : length items ≡ 0 = ap length stream in omega (arith, below, few))

-- what lies in an item goes over the end of no chunk
edge_at : (position since : ℕ) (xs later : List Item) (span : Span) (t : ℕ) → IsStreamFrom position since (arrival_list (xs ++ Chunk span t ∷ later))
    → (part : Span) (k : ℕ) (d : Item)
    → k < length (arrival_list (xs ++ Chunk span t ∷ later)) → get_or (arrival_list (xs ++ Chunk span t ∷ later)) k d ≡ d → LiesInChunk part d
    → part.start < span.stop → part.stop ≤ span.stop
edge_at position since [] later span t stream part zero d below is lies before = (subst (LiesInChunk part) (sym is) lies).1
edge_at position since [] later span t stream part (suc k) d below is lies before =
    absurd (omega (arith, lies_behind span.stop t (arrival_list later) part stream.4 k d (omega (arith, below)) is lies, before))
edge_at position since (Chunk s u ∷ xs) later span t stream part zero d below is lies before =
    let here = subst (LiesInChunk part) (sym is) lies in
    omega (arith, here.1, starts_behind s.stop u xs later span t stream.4, ends_behind s.stop u xs later span t stream.4)
edge_at position since (Chunk s u ∷ xs) later span t stream part (suc k) d below is lies before =
    edge_at s.stop u xs later span t stream.4 part k d (omega (arith, below)) is lies before
edge_at position since (Closed u ∷ xs) later span t stream part k d below is lies before = absurd (cons_nil xs later (Chunk span t) stream.2)
edge_at position since (Reset u ∷ xs) later span t stream part k d below is lies before = absurd (cons_nil xs later (Chunk span t) stream.2)
edge_at position since (Quiet ∷ xs) later span t stream part k d below is lies before = absurd (cons_nil xs later (Chunk span t) stream)

pub edge_behind : (position since : ℕ) (xs later : List Item) (span : Span) (t : ℕ) → IsStreamFrom position since (arrival_list (xs ++ Chunk span t ∷ later))
    → IsEdge (arrival_list (xs ++ Chunk span t ∷ later)) span.stop
edge_behind position since xs later span t stream part any before = edge_at position since xs later span t stream part any.0 any.1 any.2 any.3 any.4 before
