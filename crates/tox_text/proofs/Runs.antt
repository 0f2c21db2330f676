-- Longest runs, and their lines, taken apart from the front.
use Rattle.std.proofs.Common.{◌≡◌, ℕ, ◌+◌, ◌==◌, ◌&&◌, Bool, true, false, List, [], ◌∷◌, ◌++◌, length, map, replicate, slice_index, refl, arith, ap, sym, ◌∙◌}
use Rattle.std.proofs.Common.{rules, tests, if◌then◌else◌, ◌<◌, suc}
use Rattle.std.specs.List.{enumerate_from, flat_map}
use Rattle.tox_text.specs.arrivals.ArrivalsText.{Arrived}
use Rattle.tox_text.specs.ResultText.{Delivered, arrival_of, are_one_run, bytes_line, delivered_at, lines_text, onto_runs, run_line, runs_of}

-- bytes of one arrival that leave at one instant, from a position on
abbrev pub run_from : ℕ → ℕ → ℕ → List ℕ → List Delivered
run_from arrival t start [] = []
run_from arrival t start (b ∷ bytes) =
    record { position = start; arrival = arrival; instant = t; value = b } ∷ run_from arrival t (start + 1) bytes

-- none of these bytes goes on a run of an arrival and an instant
abbrev pub StartAnew : ℕ → ℕ → List Delivered → Type 0
StartAnew arrival t [] = Unit {0}
StartAnew arrival t (next ∷ others) = (arrival == next.arrival && t == next.instant) ≡ false

values_from : (arrival t start : ℕ) (bytes : List ℕ) → map (λ byte. byte.value) (run_from arrival t start bytes) ≡ bytes
values_from arrival t start [] = refl
values_from arrival t start (b ∷ bytes) = ap (λ rest. b ∷ rest) (values_from arrival t (start + 1) bytes)

onto_runs_cases : (first next : Delivered) (run : List Delivered) (runs : List (List Delivered)) (same : Bool) → are_one_run first next ≡ same
    → onto_runs first ((next ∷ run) ∷ runs) ≡ (if same then (first ∷ next ∷ run) ∷ runs else (first ∷ []) ∷ (next ∷ run) ∷ runs)
onto_runs_cases first next run runs same test = ap (λ b. if b then (first ∷ next ∷ run) ∷ runs else (first ∷ []) ∷ (next ∷ run) ∷ runs) test

-- the first run begins with the first byte
runs_of-head : (first : Delivered) (others : List Delivered) → (run : List Delivered) × (runs : List (List Delivered))
    × (runs_of (first ∷ others) ≡ (first ∷ run) ∷ runs)
runs_of-head first [] = ([], [], refl)
runs_of-head first (next ∷ others) =
    let rest = runs_of-head next others in
    headed first next rest.0 rest.1 (runs_of (next ∷ others)) rest.2 (are_one_run first next) refl
  where
    headed : (first next : Delivered) (run : List Delivered) (runs found : List (List Delivered)) → found ≡ (next ∷ run) ∷ runs → (same : Bool)
        → are_one_run first next ≡ same
        → (run' : List Delivered) × (runs' : List (List Delivered)) × (onto_runs first found ≡ (first ∷ run') ∷ runs')
    headed first next run runs found is true test = (next ∷ run, runs, ap (onto_runs first) is ∙ onto_runs_cases first next run runs true test)
    headed first next run runs found is false test = ([], (next ∷ run) ∷ runs, ap (onto_runs first) is ∙ onto_runs_cases first next run runs false test)

-- a whole run stands first where what is behind it starts anew
pub runs_of-run : (arrival t start b : ℕ) (bytes : List ℕ) (others : List Delivered) → StartAnew arrival t others
    → runs_of (run_from arrival t start (b ∷ bytes) ++ others) ≡ run_from arrival t start (b ∷ bytes) ∷ runs_of others
runs_of-run arrival t start b [] [] anew = refl
runs_of-run arrival t start b [] (next ∷ others) anew =
    let first : Delivered = record { position = start; arrival = arrival; instant = t; value = b } in
    let head = runs_of-head next others in
    ap (onto_runs first) head.2 ∙ onto_runs_cases first next head.0 head.1 false anew ∙ ap (λ runs. (first ∷ []) ∷ runs) (sym head.2)
runs_of-run arrival t start b (c ∷ bytes) others anew =
    let first : Delivered = record { position = start; arrival = arrival; instant = t; value = b } in
    let next : Delivered = record { position = start + 1; arrival = arrival; instant = t; value = c } in
    let same : are_one_run first next ≡ true = search (rules, tests) in
    ap (onto_runs first) (runs_of-run arrival t (start + 1) c bytes others anew)
    ∙ onto_runs_cases first next (run_from arrival t (start + 1 + 1) bytes) (runs_of others) true same

-- the line of bytes from a position on, where there are any
abbrev pub line_from : ℕ → ℕ → List ℕ → List ℕ
line_from t start [] = []
line_from t start (byte ∷ bytes) = bytes_line t start (byte ∷ bytes)

-- its line comes first
pub lines_text-run : (arrival t start : ℕ) (bytes : List ℕ) (others : List Delivered) → StartAnew arrival t others
    → lines_text (run_from arrival t start bytes ++ others) ≡ line_from t start bytes ++ lines_text others
lines_text-run arrival t start [] others anew = refl
lines_text-run arrival t start (b ∷ bytes) others anew =
    ap (flat_map run_line) (runs_of-run arrival t start b bytes others anew)
    ∙ ap (λ values. bytes_line t start values ++ lines_text others) (values_from arrival t start (b ∷ bytes))

-- the bytes at the positions from one on, by their instants
abbrev pub delivered_from : Arrived → ℕ → List ℕ → List Delivered
delivered_from arrived position table = map (λ place. delivered_at arrived place.0 place.1) (enumerate_from position table)

pub delivered_from-append : (arrived : Arrived) (position : ℕ) (xs ys : List ℕ)
    → delivered_from arrived position (xs ++ ys) ≡ delivered_from arrived position xs ++ delivered_from arrived (position + length xs) ys
delivered_from-append arrived position [] ys = let same : position ≡ position + 0 = omega arith in ap (λ n. delivered_from arrived n ys) same
delivered_from-append arrived position (t ∷ xs) ys =
    let same : position + 1 + length xs ≡ position + suc (length xs) = omega arith in
    ap (λ rest. delivered_at arrived position t ∷ rest)
    (delivered_from-append arrived (position + 1) xs ys ∙ ap (λ n. delivered_from arrived (position + 1) xs ++ delivered_from arrived n ys) same)

-- these bytes stand in one arrival, from a position on
pub record StandsAt (arrived : Arrived) (arrival position : ℕ) (bytes : List ℕ) : Type 0 where
  pub of_arrival : (k : ℕ) → k < length bytes → arrival_of arrived.items (position + k) ≡ arrival
  pub at_place : (k : ℕ) → k < length bytes → slice_index arrived.bytes (position + k) ≡ slice_index bytes k

-- bytes of one arrival that have one instant are a run
pub delivered_from-run : (arrived : Arrived) (arrival t position : ℕ) (bytes : List ℕ) → StandsAt arrived arrival position bytes
    → delivered_from arrived position (replicate (length bytes) t) ≡ run_from arrival t position bytes
delivered_from-run arrived arrival t position [] stands = refl
delivered_from-run arrived arrival t position (b ∷ bytes) stands =
    let here : position + 0 ≡ position = omega arith in
    let of_arrival : arrival_of arrived.items position ≡ arrival = rw here at (stands.of_arrival 0 (omega arith)) in
    let at_place : slice_index arrived.bytes position ≡ b = rw here at (stands.at_place 0 (omega arith)) in
    let next : (k : ℕ) → position + 1 + k ≡ position + suc k = λ k. omega arith in
    let rest : StandsAt arrived arrival (position + 1) bytes = record {
      of_arrival = λ k below. ap (arrival_of arrived.items) (next k) ∙ stands.of_arrival (suc k) (omega arith);
      at_place = λ k below. ap (slice_index arrived.bytes) (next k) ∙ stands.at_place (suc k) (omega arith);
    } in
    ap (λ found. record { position = position; arrival = found; instant = t; value = slice_index arrived.bytes position }
    ∷ delivered_from arrived (position + 1) (replicate (length bytes) t)) of_arrival
    ∙ ap (λ found. record { position = position; arrival = arrival; instant = t; value = found }
    ∷ delivered_from arrived (position + 1) (replicate (length bytes) t)) at_place
    ∙ ap (λ others. record { position = position; arrival = arrival; instant = t; value = b } ∷ others)
    (delivered_from-run arrived arrival t (position + 1) bytes rest)
