-- latency: every chunk leaves later, by a fixed time plus or minus a drawn one.
use Rattle.std.specs.Prelude.{◌==◌, ◌&&◌, ◌≡◌, ℕ, zero, suc, ◌+◌, ◌*◌, max, List, [], ◌∷◌, codes, map, slice_index}
use Rattle.tox_time.specs.declared.streams.item.Item.{Item}
use Rattle.tox_time.specs.declared.streams.item.Item.TheVariants.{Chunk}
use Rattle.tox_time.specs.Time.{plus}
use Rattle.tox_time.specs.streams.Table.{table}
use Rattle.tox_defs.specs.declared.toxic.Toxic.{Toxic}
use Rattle.tox_defs.specs.declared.toxic.Toxic.TheVariants.{Latency}
use Rattle.tox_defs.specs.declared.operations.op.Op.{Op}
use Rattle.tox_defs.specs.declared.operations.op.Op.TheVariants.{Delay}
use Rattle.tox_defs.specs.toxics.Ordered.{in_order}
use Rattle.tox_defs.specs.toxics.Ranges.{up_to_hour}
use Rattle.tox_defs.specs.Effects.{any_effect}
use Rattle.tox_defs.specs.Meaning.{Description, Meaning}
use Rattle.tox_defs.specs.stage.Reaction.{Giving}
use Rattle.tox_defs.specs.toxics.Varied.{varied}

-- its name, and its attributes: each up to an hour of milliseconds
abbrev pub latency_description : ℕ → ℕ → ℕ → ℕ → Description
latency_description latency jitter until from = record {
  name = codes "latency";
  attributes = codes "latency" ∷ codes "jitter" ∷ codes "until" ∷ codes "from" ∷ [];
  limits = up_to_hour ∷ up_to_hour ∷ up_to_hour ∷ up_to_hour ∷ [];
  values = latency ∷ jitter ∷ until ∷ from ∷ [];
  window = record { from = from; until = until };
  effect = record any_effect { does_nothing = latency == 0 && (jitter == 0) };
}

-- the latency with these values of its attributes
abbrev pub latency_of : List ℕ → Toxic
latency_of values =
    Latency (slice_index values 0) (slice_index values 1) (slice_index values 2) (slice_index values 3)

-- each chunk leaves later by the wait of its number
abbrev pub delay_gives : (ℕ → ℕ) → Giving
delay_gives wait state (Chunk span t) =
    Chunk span (max state.previous (plus t (wait state.chunks))) ∷ []
delay_gives wait state item = in_order state.previous item ∷ []

-- what a latency gives, by the words of its lane: the wait of each chunk is drawn
abbrev pub latency_gives : ℕ → ℕ → (ℕ → ℕ) → Giving
latency_gives latency jitter words =
    delay_gives (λ chunk. 1000 * varied latency jitter (words (1 + chunk)))

-- what its operation gives: a fixed part is added to the drawn one
abbrev pub delay_op_gives : ℕ → ℕ → ℕ → (ℕ → ℕ) → Giving
delay_op_gives fixed latency jitter words =
    delay_gives (λ chunk. 1000 * (fixed + varied latency jitter (words (1 + chunk))))

-- its operation: without jitter the fixed part has all, and nothing is drawn
abbrev pub delay_of : ℕ → ℕ → ℕ → ℕ → ℕ → Op
delay_of place latency zero until from = Delay latency 0 0 0 until from
delay_of place latency (suc jitter) until from = Delay 0 latency (suc jitter) place until from

-- a delay without jitter has all in its fixed part
abbrev pub IsNormal : ℕ → ℕ → Type 0
IsNormal latency zero = latency ≡ 0
IsNormal latency (suc jitter) = Unit {0}

-- the law: without jitter every byte leaves later by the latency
abbrev pub LatencyLaw : ℕ → ℕ → List Item → List Item → Type 0
LatencyLaw latency zero items given = table given ≡ map (λ t. plus t (1000 * latency)) (table items)
LatencyLaw latency (suc jitter) items given = Unit {0}

-- what a latency is
abbrev pub latency_meaning : ℕ → ℕ → ℕ → ℕ → Meaning
latency_meaning latency jitter until from = record {
  description = latency_description latency jitter until from;
  with_values = latency_of;
  gives = latency_gives latency jitter;
  op = λ place. delay_of place latency jitter until from;
  law = LatencyLaw latency jitter;
}
