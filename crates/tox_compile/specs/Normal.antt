-- The normal form of a plan: each operation joined to the last one where a rule allows.
use Rattle.std.specs.Prelude.{ℕ, ◌+◌, ◌==◌, ◌&&◌, min, Bool, false, List, [], ◌∷◌, fold, Option, None, Some, if◌then◌else◌}
use Rattle.tox_time.specs.declared.streams.ending.Ending.{Ending}
use Rattle.tox_time.specs.streams.Table.{ending, final_of}
use Rattle.tox_defs.specs.declared.operations.op.Op.{Op}
use Rattle.tox_defs.specs.declared.operations.op.Op.TheVariants.{Delay, Slow, Mute, Cutoff, Limit}
use Rattle.tox_defs.specs.chain.Chain.{Toxics}
use Rattle.tox_defs.specs.operations.Op.{op_giving}
use Rattle.tox_defs.specs.stage.Reaction.{first_state}
use Rattle.tox_compile.specs.Compiled.{applied_ops}

-- whether an operation does nothing: a delay of zero without jitter, or a slow close of zero
abbrev pub vanishes : Op → Bool
vanishes (Delay fixed latency jitter lane until from) = fixed == 0 && (jitter == 0)
vanishes (Slow millis) = millis == 0
vanishes op = false

-- what an operation makes of the ending of a mute before it: the ending of what it gives for that alone, whatever the words
abbrev pub after_mute : Op → Ending → Ending
after_mute op end = ending (op_giving op (λ _ _. 0) first_state (final_of end))

-- whether an operation works from the start of a link to its end
abbrev pub is_always : ℕ → ℕ → Bool
is_always until from = until == 0 && (from == 0)

-- the one delay that stands for two that always work, where at most one of them has jitter
abbrev pub one_delay : ℕ → ℕ → ℕ → ℕ → ℕ → ℕ → ℕ → ℕ → Option Op
one_delay fixed latency jitter lane more latency' jitter' lane' =
    if jitter' == 0 then Some (Delay (fixed + more) latency jitter lane 0 0)
    else if jitter == 0 then Some (Delay (fixed + more) latency' jitter' lane' 0 0)
    else None

-- the one operation that stands for two neighbours, where a rule joins them
abbrev pub joined : Op → Op → Option Op
joined (Delay fixed latency jitter lane until from) (Delay more latency' jitter' lane' until' from') =
    if is_always until from && is_always until' from'
    then one_delay fixed latency jitter lane more latency' jitter' lane'
    else None
joined (Slow millis) (Slow more) = Some (Slow (millis + more))
joined (Limit bytes) (Limit other) = Some (Limit (min bytes other))
joined (Cutoff instant) (Cutoff other) = Some (Cutoff (min instant other))
joined (Mute end) op = Some (Mute (after_mute op end))
joined first second = None

-- the joined operation, or both where no rule joins them
abbrev pub one_or_two : Option Op → Op → Op → List Op
one_or_two (Some one) first second = one ∷ []
one_or_two None first second = first ∷ second ∷ []

-- the operations with one more, joined to the last where a rule allows
abbrev pub with_last : List Op → Op → List Op
with_last [] op = op ∷ []
with_last (last ∷ []) op = one_or_two (joined last op) last op
with_last (first ∷ second ∷ ops) op = first ∷ with_last (second ∷ ops) op

-- the operations with one more: a mute takes the place of all before it, and what does nothing is left out
abbrev pub with_op : List Op → Op → List Op
with_op ops (Mute end) = Mute end ∷ []
with_op ops op = if vanishes op then ops else with_last ops op

-- the operations of the applied toxics, one after the other
abbrev pub normal_form : Toxics → List ℕ → List Op
normal_form chain words = fold with_op [] (applied_ops chain words)
