-- One more operation: where it goes, how many there are then, and what they add.
use Rattle.std.proofs.Common.{◌≡◌, ℕ, zero, suc, ◌+◌, ◌≤◌, min, Bool, true, false, List, [], ◌∷◌, ◌++◌, length, Option, Some, None, refl, arith, ap}
use Rattle.std.proofs.Common.{if◌then◌else◌}
use Rattle.std.specs.Prelude.{◌==◌, All}
use Rattle.std.proofs.Math.Dec.{eqb-suc-zero}
use Rattle.std.proofs.lemmas.List.Elements.{All-nil, All-cons, All-head, All-tail}
use Rattle.tox_defs.specs.declared.operations.op.Op.{Op}
use Rattle.tox_defs.specs.declared.operations.op.Op.TheVariants.{Delay, Pace, Slow, Mute, Cutoff, Slicing, Limit, Halt}
use Rattle.tox_defs.specs.operations.Op.{is_mute, millis_of}
use Rattle.tox_compile.specs.Normal.{vanishes, after_mute, joined, one_or_two, with_last, with_op}

-- the last operation alone is joined
pub with_last-append : (front : List Op) (last op : Op) → with_last (front ++ last ∷ []) op ≡ front ++ one_or_two (joined last op) last op
with_last-append [] last op = refl
with_last-append (first ∷ []) last op = refl
with_last-append (first ∷ second ∷ front) last op = ap (λ ops. first ∷ ops) (with_last-append (second ∷ front) last op)

pub with_op-vanishing : (ops : List Op) (op : Op) → vanishes op ≡ true → with_op ops op ≡ ops
with_op-vanishing ops (Delay fixed latency jitter lane until from) e = ap
    (λ none. if none then ops else with_last ops (Delay fixed latency jitter lane until from)) e
with_op-vanishing ops (Slow millis) e = ap (λ none. if none then ops else with_last ops (Slow millis)) e
with_op-vanishing ops (Pace rate until from) e = absurd (cc)
with_op-vanishing ops (Mute end) e = absurd (cc)
with_op-vanishing ops (Cutoff instant) e = absurd (cc)
with_op-vanishing ops (Slicing average variation micros lane until from) e = absurd (cc)
with_op-vanishing ops (Limit bytes) e = absurd (cc)
with_op-vanishing ops (Halt at after end) e = absurd (cc)

pub with_op-staying : (ops : List Op) (op : Op) → is_mute op ≡ false → vanishes op ≡ false → with_op ops op ≡ with_last ops op
with_op-staying ops (Delay fixed latency jitter lane until from) heard e =
    ap (λ none. if none then ops else with_last ops (Delay fixed latency jitter lane until from)) e
with_op-staying ops (Slow millis) heard e = ap (λ none. if none then ops else with_last ops (Slow millis)) e
with_op-staying ops (Pace rate until from) heard e = refl
with_op-staying ops (Mute end) heard e = absurd (cc)
with_op-staying ops (Cutoff instant) heard e = refl
with_op-staying ops (Slicing average variation micros lane until from) heard e = refl
with_op-staying ops (Limit bytes) heard e = refl
with_op-staying ops (Halt at after end) heard e = refl

length-one_or_two : (one : Option Op) (last op : Op) → length (one_or_two one last op) ≤ 2
length-one_or_two (Some one) last op = omega arith
length-one_or_two None last op = omega arith

length-with_last : (ops : List Op) (op : Op) → length (with_last ops op) ≤ length ops + 1
length-with_last [] op = omega arith
length-with_last (last ∷ []) op = let two = length-one_or_two (joined last op) last op in omega (arith, two)
length-with_last (first ∷ second ∷ ops) op = let others = length-with_last (second ∷ ops) op in omega (arith, others)

length-by : (ops : List Op) (op : Op) (none : Bool) → length (if none then ops else with_last ops op) ≤ length ops + 1
length-by ops op true = omega arith
length-by ops op false = length-with_last ops op

-- at most one more
pub length-with_op : (ops : List Op) (op : Op) → length (with_op ops op) ≤ length ops + 1
length-with_op ops (Mute end) = omega arith
length-with_op ops (Delay fixed latency jitter lane until from) = length-by ops (Delay fixed latency jitter lane until from)
    (vanishes (Delay fixed latency jitter lane until from))
length-with_op ops (Slow millis) = length-by ops (Slow millis) (vanishes (Slow millis))
length-with_op ops (Pace rate until from) = length-with_last ops (Pace rate until from)
length-with_op ops (Cutoff instant) = length-with_last ops (Cutoff instant)
length-with_op ops (Slicing average variation micros lane until from) = length-with_last ops (Slicing average variation micros lane until from)
length-with_op ops (Limit bytes) = length-with_last ops (Limit bytes)
length-with_op ops (Halt at after end) = length-with_last ops (Halt at after end)

-- operations that each add at most so many milliseconds
abbrev pub AddAtMost : ℕ → List Op → Type 0
AddAtMost most ops = All (λ op. millis_of op ≤ most) ops

one_adds : (most : ℕ) (op : Op) → millis_of op ≤ most → AddAtMost most (op ∷ [])
one_adds most op fits = All-cons (λ op. millis_of op ≤ most) op [] fits (All-nil (λ op. millis_of op ≤ most))

two_add : (most : ℕ) (first second : Op) → millis_of first ≤ most → millis_of second ≤ most → AddAtMost most (first ∷ second ∷ [])
two_add most first second fits fits' = All-cons (λ op. millis_of op ≤ most) first (second ∷ []) fits (one_adds most second fits')

delays_add : (most n fixed latency jitter lane more latency' jitter' lane' : ℕ) (none' none : Bool) → fixed ≤ most → more ≤ n
    → AddAtMost (most + n) (one_or_two (if none' then Some (Delay (fixed + more) latency jitter lane 0 0) else if none then Some
    (Delay (fixed + more) latency' jitter' lane' 0 0) else None)
    (Delay fixed latency jitter lane 0 0) (Delay more latency' jitter' lane' 0 0))
delays_add most n fixed latency jitter lane more latency' jitter' lane' true none fits fits' =
    one_adds (most + n) (Delay (fixed + more) latency jitter lane 0 0) (omega (arith, fits, fits'))
delays_add most n fixed latency jitter lane more latency' jitter' lane' false true fits fits' =
    one_adds (most + n) (Delay (fixed + more) latency' jitter' lane' 0 0) (omega (arith, fits, fits'))
delays_add most n fixed latency jitter lane more latency' jitter' lane' false false fits fits' =
    two_add (most + n) (Delay fixed latency jitter lane 0 0) (Delay more latency' jitter' lane' 0 0) (omega (arith, fits)) (omega (arith, fits'))

joined_adds : (most n : ℕ) (first second : Op) → millis_of first ≤ most → millis_of second ≤ n
    → AddAtMost (most + n) (one_or_two (joined first second) first second)
joined_adds most n (Delay fixed latency jitter lane zero zero) (Delay more latency' jitter' lane' zero zero) fits fits' =
    delays_add most n fixed latency jitter lane more latency' jitter' lane' (jitter' == 0) (jitter == 0) fits fits'
joined_adds most n (Delay fixed latency jitter lane (suc until) from) (Delay more latency' jitter' lane' until' from') fits fits' =
    rw (eqb-suc-zero until) (two_add (most + n) (Delay fixed latency jitter lane (suc until) from) (Delay more latency' jitter' lane' until' from')
    (omega (arith, fits)) (omega (arith, fits')))
joined_adds most n (Delay fixed latency jitter lane zero (suc from)) (Delay more latency' jitter' lane' until' from') fits fits' =
    rw (eqb-suc-zero from) (two_add (most + n) (Delay fixed latency jitter lane 0 (suc from)) (Delay more latency' jitter' lane' until' from')
    (omega (arith, fits)) (omega (arith, fits')))
joined_adds most n (Delay fixed latency jitter lane zero zero) (Delay more latency' jitter' lane' (suc until) from') fits fits' =
    rw (eqb-suc-zero until) (two_add (most + n) (Delay fixed latency jitter lane 0 0) (Delay more latency' jitter' lane' (suc until) from')
    (omega (arith, fits)) (omega (arith, fits')))
joined_adds most n (Delay fixed latency jitter lane zero zero) (Delay more latency' jitter' lane' zero (suc from)) fits fits' =
    rw (eqb-suc-zero from) (two_add (most + n) (Delay fixed latency jitter lane 0 0) (Delay more latency' jitter' lane' 0 (suc from)) (omega (arith, fits))
    (omega (arith, fits')))
joined_adds most n (Slow millis) (Slow more) fits fits' = one_adds (most + n) (Slow (millis + more)) (omega (arith, fits, fits'))
joined_adds most n (Limit bytes) (Limit other) fits fits' = one_adds (most + n) (Limit (min bytes other)) (omega arith)
joined_adds most n (Cutoff instant) (Cutoff other) fits fits' = one_adds (most + n) (Cutoff (min instant other)) (omega arith)
joined_adds most n (Mute end) op fits fits' = one_adds (most + n) (Mute (after_mute op end)) (omega arith)
joined_adds most n first second fits fits' = two_add (most + n) first second (omega (arith, fits)) (omega (arith, fits'))

with_last_adds : (most n : ℕ) (ops : List Op) (op : Op) → AddAtMost most ops → millis_of op ≤ n → AddAtMost (most + n) (with_last ops op)
with_last_adds most n [] op fits fits' = one_adds (most + n) op (omega (arith, fits'))
with_last_adds most n (last ∷ []) op fits fits' = joined_adds most n last op (All-head (λ op. millis_of op ≤ most) last [] fits) fits'
with_last_adds most n (first ∷ second ∷ ops) op fits fits' =
    let is_first : millis_of first ≤ most = All-head (λ op. millis_of op ≤ most) first (second ∷ ops) fits in
    All-cons (λ op. millis_of op ≤ most + n) first (with_last (second ∷ ops) op) (omega (arith, is_first))
    (with_last_adds most n (second ∷ ops) op (All-tail (λ op. millis_of op ≤ most) first (second ∷ ops) fits) fits')

pub still_adds : (most n : ℕ) (ops : List Op) → AddAtMost most ops → AddAtMost (most + n) ops
still_adds most n [] fits = All-nil (λ op. millis_of op ≤ most + n)
still_adds most n (op ∷ ops) fits =
    let is_first : millis_of op ≤ most = All-head (λ op. millis_of op ≤ most) op ops fits in
    All-cons (λ op. millis_of op ≤ most + n) op ops (omega (arith, is_first)) (still_adds most n ops (All-tail (λ op. millis_of op ≤ most) op ops fits))

adds_by : (most n : ℕ) (ops : List Op) (op : Op) (none : Bool) → AddAtMost most ops → millis_of op ≤ n
    → AddAtMost (most + n) (if none then ops else with_last ops op)
adds_by most n ops op true fits fits' = still_adds most n ops fits
adds_by most n ops op false fits fits' = with_last_adds most n ops op fits fits'

-- each adds at most what the new one adds more
pub with_op_adds : (most n : ℕ) (ops : List Op) (op : Op) → AddAtMost most ops → millis_of op ≤ n → AddAtMost (most + n) (with_op ops op)
with_op_adds most n ops (Mute end) fits fits' = one_adds (most + n) (Mute end) (omega arith)
with_op_adds most n ops (Delay fixed latency jitter lane until from) fits fits' =
    adds_by most n ops (Delay fixed latency jitter lane until from) (vanishes (Delay fixed latency jitter lane until from)) fits fits'
with_op_adds most n ops (Slow millis) fits fits' = adds_by most n ops (Slow millis) (vanishes (Slow millis)) fits fits'
with_op_adds most n ops (Pace rate until from) fits fits' = with_last_adds most n ops (Pace rate until from) fits fits'
with_op_adds most n ops (Cutoff instant) fits fits' = with_last_adds most n ops (Cutoff instant) fits fits'
with_op_adds most n ops (Slicing average variation micros lane until from) fits fits' =
    with_last_adds most n ops (Slicing average variation micros lane until from) fits fits'
with_op_adds most n ops (Limit bytes) fits fits' = with_last_adds most n ops (Limit bytes) fits fits'
with_op_adds most n ops (Halt at after end) fits fits' = with_last_adds most n ops (Halt at after end) fits fits'
