-- The outputs of a generator, one at a time.
use Rattle.std.proofs.Common.{◌≡◌, ℕ, zero, suc, ◌+◌, ◌-◌, ◌*◌, ◌<◌, ◌≤◌, List, [], ◌∷◌, ◌++◌, length, arith, refl, ap, sym, ◌∙◌, append_assoc, append-nil}
use Rattle.rand_pcg.specs.Lcg.{Lcg, started, increment_of}
use Rattle.rand_pcg.specs.Pcg.{multiplier_64, pcg32}
use Rattle.tox_time.specs.declared.streams.stream.Stream.{Stream}
use Rattle.tox_words.specs.Seeded.{number_of, outputs, seeded_words}

length-outputs : (n : ℕ) (generator : Lcg) → length (outputs n generator) ≡ n
unfolding outputs
length-outputs zero generator = refl
length-outputs (suc n) generator = omega (arith, length-outputs n (pcg32 generator).1)

-- a seed makes 1024 words
pub length-seeded_words : (seed conn : ℕ) (stream : Stream) → length (seeded_words seed conn stream) ≡ 1024
unfolding seeded_words
length-seeded_words seed conn stream =
    length-outputs 1024 (started 64 multiplier_64 seed (increment_of 64 (2 * conn + number_of stream)))

outputs_next : (n i : ℕ) (generator : Lcg) → i < n
    → outputs (n - i) generator ≡ (pcg32 generator).0 ∷ outputs (n - (i + 1)) (pcg32 generator).1
unfolding outputs
outputs_next n i generator below =
    let more : n - i ≡ suc (n - (i + 1)) = omega arith in rw more refl

-- a word taken is one output less to come
pub outputs_step : (n i : ℕ) (words : List ℕ) (word : ℕ) (before after : Lcg) → i < n
    → (word, after) ≡ pcg32 before
    → (words ++ word ∷ []) ++ outputs (n - (i + 1)) after ≡ words ++ outputs (n - i) before
outputs_step n i words word before after below step =
    append_assoc words (word ∷ []) (outputs (n - (i + 1)) after)
    ∙ ap (λ (next : ℕ × Lcg). words ++ next.0 ∷ outputs (n - (i + 1)) next.1) step
    ∙ ap (λ rest. words ++ rest) (sym (outputs_next n i before below))

-- behind the last word none is to come
pub outputs_end : (n i : ℕ) (words : List ℕ) (generator : Lcg) → n ≤ i
    → words ++ outputs (n - i) generator ≡ words
unfolding outputs
outputs_end n i words generator past =
    let none : n - i ≡ 0 = omega arith in rw none (append-nil words)
