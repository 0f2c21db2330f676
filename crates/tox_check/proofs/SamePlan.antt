-- Without a toxic that does nothing, or whose work is lost, the plan is the same.
use Rattle.std.proofs.Common.{◌≡◌, ℕ, zero, suc, ◌+◌, max, Bool, true, false, List, [], ◌∷◌, map, take, drop, Some, arith, refl, ap, sym, ◌∙◌, subst}
use Rattle.std.specs.Prelude.{fold, ◌&&◌, ◌||◌, ◌==◌}
use Rattle.std.specs.List.{list_any, slice_get}
use Rattle.std.proofs.lemmas.Bool.{and_parts, eqb-true}
use Rattle.tox_time.specs.declared.streams.ending.Ending.{Ending}
use Rattle.tox_time.specs.declared.streams.ending.Ending.TheVariants.{StillOpen, Closed, Reset}
use Rattle.tox_time.specs.streams.Table.{ending, table}
use Rattle.tox_words.specs.Draw.{Draws}
use Rattle.tox_defs.specs.declared.chain.Entry.{Entry}
use Rattle.tox_defs.specs.declared.toxic.Toxic.{Toxic}
use Rattle.tox_defs.specs.declared.toxic.Toxic.TheVariants.{Latency, Bandwidth, SlowClose, Timeout, ResetPeer, Slicer, LimitData}
use Rattle.tox_defs.specs.declared.operations.op.Op.{Op}
use Rattle.tox_defs.specs.declared.operations.op.Op.TheVariants.{Delay, Pace, Slow, Mute, Cutoff, Slicing, Limit, Halt}
use Rattle.tox_defs.specs.chain.Applied.{is_applied}
use Rattle.tox_defs.specs.chain.Chain.{Toxics, IsChain}
use Rattle.tox_defs.specs.Flow.{applied_from, chain_draws, chain_flow, toxic_effect}
use Rattle.tox_defs.specs.operations.Op.{op_of}
use Rattle.tox_defs.specs.toxics.Timeout.{timeout_ending}
use Rattle.tox_compile.specs.Compiled.{op_of_placed}
use Rattle.tox_compile.specs.Meaning.{means}
use Rattle.tox_compile.specs.Normal.{after_mute, normal_form, vanishes, with_op}
use Rattle.tox_compile.proofs.NormalForms.{means-normal_form}
use Rattle.tox_check.proofs.Silencing.{always, is_chain-without, never, without}
use Rattle.tox_check.specs.Idle.{ChangesNothing, drops_all, is_lost, silenced}

-- the operations so far with those of the applied ones of some entries
abbrev folded : Draws → List Op → ℕ → List Entry → List Op
folded draws ops place entries = fold with_op ops (map op_of_placed (applied_from place entries draws))

-- one entry, applied or not
abbrev with_entry : Bool → List Op → ℕ → Entry → List Op
with_entry true ops place entry = with_op ops (op_of place entry.toxic)
with_entry false ops place entry = ops

folded-cons : (draws : Draws) (ops : List Op) (place : ℕ) (entry : Entry) (entries : List Entry)
    → folded draws ops place (entry ∷ entries) ≡ folded draws (with_entry (is_applied entry place draws) ops place entry) (place + 1) entries
folded-cons draws ops place entry entries = by (is_applied entry place draws) refl
  where
    by : (e : Bool) → is_applied entry place draws ≡ e → folded draws ops place (entry ∷ entries)
        ≡ folded draws (with_entry e ops place entry) (place + 1) entries
    by true is = rw is refl
    by false is = rw is refl

-- the first entry with the toxicity 0
folded-silenced : (draws : Draws) (ops : List Op) (place : ℕ) (entry : Entry) (entries : List Entry)
    → folded draws ops place (silenced 0 (entry ∷ entries)) ≡ folded draws ops (place + 1) entries
folded-silenced draws ops place entry entries =
    folded-cons draws ops place (record { toxic = entry.toxic; toxicity = 0 }) entries
    ∙ ap (λ e. folded draws (with_entry e ops place (record { toxic = entry.toxic; toxicity = 0 })) (place + 1) entries) (never entry.toxic place draws)

-- an entry whose operation changes nothing here, applied or not
entry-same : (e : Bool) (ops : List Op) (place : ℕ) (entry : Entry) → with_op ops (op_of place entry.toxic) ≡ ops → with_entry e ops place entry ≡ ops
entry-same true ops place entry same = same
entry-same false ops place entry same = refl

-- what does nothing is left out
nothing-same : (ops : List Op) (place : ℕ) (toxic : Toxic) → (toxic_effect toxic).does_nothing ≡ true → with_op ops (op_of place toxic) ≡ ops
nothing-same ops place (Latency latency zero until from) is = rw is refl
nothing-same ops place (Latency latency (suc jitter) until from) is =
    let none : suc jitter ≡ 0 = eqb-true (suc jitter) 0 (and_parts (latency == 0) (suc jitter == 0) is).1 in absurd (omega arith)
nothing-same ops place (SlowClose delay) is = rw is refl
nothing-same ops place (Bandwidth rate until from) is = absurd (cc)
nothing-same ops place (Timeout timeout from after) is = absurd (cc)
nothing-same ops place (ResetPeer timeout after) is = absurd (cc)
nothing-same ops place (Slicer average variation delay until from) is = absurd (cc)
nothing-same ops place (LimitData bytes) is = absurd (cc)

-- one mute alone
abbrev IsMute : List Op → Type 0
IsMute ops = (end : Ending) × (ops ≡ Mute end ∷ [])

-- the operations are those of one mute, and stay so
mute-kept : (ops : List Op) (place : ℕ) (toxic : Toxic) → IsMute ops → IsMute (with_op ops (op_of place toxic))
mute-kept ops place toxic (end, is) = rw is (kept (op_of place toxic))
  where
    kept : (op : Op) → IsMute (with_op (Mute end ∷ []) op)
    kept (Mute other) = (other, refl)
    kept (Delay fixed latency jitter lane until from) = by (vanishes (Delay fixed latency jitter lane until from)) refl
      where
        by : (e : Bool) → vanishes (Delay fixed latency jitter lane until from) ≡ e
            → IsMute (with_op (Mute end ∷ []) (Delay fixed latency jitter lane until from))
        by true e = rw e (end, refl)
        by false e = rw e (after_mute (Delay fixed latency jitter lane until from) end, refl)
    kept (Slow millis) = by (vanishes (Slow millis)) refl
      where
        by : (e : Bool) → vanishes (Slow millis) ≡ e → IsMute (with_op (Mute end ∷ []) (Slow millis))
        by true e = rw e (end, refl)
        by false e = rw e (after_mute (Slow millis) end, refl)
    kept (Pace rate until from) = (after_mute (Pace rate until from) end, refl)
    kept (Cutoff instant) = (after_mute (Cutoff instant) end, refl)
    kept (Slicing average variation micros lane until from) = (after_mute (Slicing average variation micros lane until from) end, refl)
    kept (Limit bytes) = (after_mute (Limit bytes) end, refl)
    kept (Halt at after ending) = (after_mute (Halt at after ending) end, refl)

from_start : (t : ℕ) → max 0 t ≡ t
from_start t = omega arith

-- what works on data alone finds none behind a mute
data-same : (ops : List Op) (place : ℕ) (toxic : Toxic) → IsMute ops → (toxic_effect toxic).needs_data ≡ true → with_op ops (op_of place toxic) ≡ ops
data-same ops place (Bandwidth rate until from) (end, is) needs = rw is (ap (λ (e : Ending). Mute e ∷ []) (same end))
  where
    same : (end : Ending) → after_mute (Pace rate until from) end ≡ end
    same StillOpen = refl
    same (Closed t) = ap (λ (u : ℕ). Closed u) (from_start t)
    same (Reset t) = ap (λ (u : ℕ). Reset u) (from_start t)
data-same ops place (Slicer average variation delay until from) (end, is) needs = rw is (ap (λ (e : Ending). Mute e ∷ []) (same end))
  where
    same : (end : Ending) → after_mute (Slicing average variation delay place until from) end ≡ end
    same StillOpen = refl
    same (Closed t) = ap (λ (u : ℕ). Closed u) (from_start t)
    same (Reset t) = ap (λ (u : ℕ). Reset u) (from_start t)
data-same ops place (Latency latency jitter until from) muted needs = absurd (cc)
data-same ops place (SlowClose delay) muted needs = absurd (cc)
data-same ops place (Timeout timeout from after) muted needs = absurd (cc)
data-same ops place (ResetPeer timeout after) muted needs = absurd (cc)
data-same ops place (LimitData bytes) muted needs = absurd (cc)

-- the toxic of this place changes the operations of no such list
abbrev Skips : (List Op → Type 0) → Toxic → Type 0
Skips Fits toxic = (ops : List Op) (place : ℕ) → Fits ops → with_op ops (op_of place toxic) ≡ ops

-- lists that stay such
abbrev Keeps : (List Op → Type 0) → Type 0
Keeps Fits = (ops : List Op) (place : ℕ) (toxic : Toxic) → Fits ops → Fits (with_op ops (op_of place toxic))

fits-entry : (Fits : List Op → Type 0) (e : Bool) (ops : List Op) (place : ℕ) (entry : Entry) → Keeps Fits → Fits ops → Fits (with_entry e ops place entry)
fits-entry Fits true ops place entry keeps fits = keeps ops place entry.toxic fits
fits-entry Fits false ops place entry keeps fits = fits

-- without it the others give the same operations
skipped : (Fits : List Op → Type 0) (draws : Draws) (ops : List Op) (place k : ℕ) (entries : List Entry) (entry : Entry)
    → Keeps Fits → Skips Fits entry.toxic → Fits ops → slice_get entries k ≡ Some entry
    → folded draws ops place entries ≡ folded draws ops place (silenced k entries)
skipped Fits draws ops place k [] entry keeps skips fits found = refl
skipped Fits draws ops place zero (first ∷ entries) entry keeps skips fits found =
    let same : first ≡ entry = cc in
    folded-cons draws ops place first entries
    ∙ ap (λ ops. folded draws ops (place + 1) entries) (entry-same (is_applied first place draws) ops place first
    (subst (λ (e : Entry). with_op ops (op_of place e.toxic) ≡ ops) (sym same) (skips ops place fits)))
    ∙ sym (folded-silenced draws ops place first entries)
skipped Fits draws ops place (suc k) (first ∷ entries) entry keeps skips fits found =
    let e = is_applied first place draws in
    folded-cons draws ops place first entries
    ∙ skipped Fits draws (with_entry e ops place first) (place + 1) k entries entry keeps skips (fits-entry Fits e ops place first keeps fits) found
    ∙ sym (folded-cons draws ops place first (silenced k entries))

-- what drops all is applied
drops-all : (draws : Draws) (place : ℕ) (entry : Entry) → drops_all entry ≡ true
    → ((toxic_effect entry.toxic).drops_data ≡ true) × (is_applied entry place draws ≡ true)
drops-all draws place entry drops =
    let both = and_parts (toxic_effect entry.toxic).drops_data (entry.toxicity == 1000) drops in
    (both.0, always entry place draws (eqb-true entry.toxicity 1000 both.1))

-- what drops all data leaves a mute alone, whatever came before
muted : (ops more : List Op) (place : ℕ) (toxic : Toxic) → (toxic_effect toxic).drops_data ≡ true
    → IsMute (with_op ops (op_of place toxic)) × (with_op ops (op_of place toxic) ≡ with_op more (op_of place toxic))
muted ops more place (Timeout timeout zero zero) is = ((timeout_ending timeout, refl), refl)
muted ops more place (Timeout timeout zero (suc after)) is =
    let none : suc after ≡ 0 = eqb-true (suc after) 0 (and_parts (0 == 0) (suc after == 0) is).1 in absurd (omega arith)
muted ops more place (Timeout timeout (suc from) after) is =
    let none : suc from ≡ 0 = eqb-true (suc from) 0 (and_parts (suc from == 0) (after == 0) is).0 in absurd (omega arith)
muted ops more place (Latency latency jitter until from) is = absurd (cc)
muted ops more place (SlowClose delay) is = absurd (cc)
muted ops more place (Bandwidth rate until from) is = absurd (cc)
muted ops more place (ResetPeer timeout after) is = absurd (cc)
muted ops more place (Slicer average variation delay until from) is = absurd (cc)
muted ops more place (LimitData bytes) is = absurd (cc)

-- what needs data has none behind a toxic that drops all
lost-behind : (draws : Draws) (ops : List Op) (place k : ℕ) (entries : List Entry) (entry : Entry)
    → (toxic_effect entry.toxic).needs_data ≡ true → list_any drops_all (take k entries) ≡ true → slice_get entries k ≡ Some entry
    → folded draws ops place entries ≡ folded draws ops place (silenced k entries)
lost-behind draws ops place k [] entry needs drops found = refl
lost-behind draws ops place zero (first ∷ entries) entry needs drops found = absurd (cc)
lost-behind draws ops place (suc k) (first ∷ entries) entry needs drops found =
    by (drops_all first) refl (λ others. lost-behind draws (with_entry (is_applied first place draws) ops place first) (place + 1) k entries entry needs others
    found)
  where
    here : Bool
    here = is_applied first place draws

    by : (e : Bool) → drops_all first ≡ e
        → (list_any drops_all (take k entries) ≡ true → folded draws (with_entry here ops place first) (place + 1) entries
        ≡ folded draws (with_entry here ops place first) (place + 1) (silenced k entries))
        → folded draws ops place (first ∷ entries) ≡ folded draws ops place (first ∷ silenced k entries)
    by true is later =
        let first_drops = drops-all draws place first is in
        let mute : IsMute (with_entry here ops place first) = rw first_drops.1 ((muted ops ops place first.toxic first_drops.0).0) in
        folded-cons draws ops place first entries
        ∙ skipped IsMute draws (with_entry here ops place first) (place + 1) k entries entry mute-kept
        (λ ops place mute. data-same ops place entry.toxic mute needs) mute found
        ∙ sym (folded-cons draws ops place first (silenced k entries))
    by false is later =
        folded-cons draws ops place first entries
        ∙ later (rw is at drops)
        ∙ sym (folded-cons draws ops place first (silenced k entries))

-- before a toxic that drops all the operations don't matter
forgets : (draws : Draws) (ops more : List Op) (place : ℕ) (entries : List Entry) → list_any drops_all entries ≡ true
    → folded draws ops place entries ≡ folded draws more place entries
forgets draws ops more place [] drops = absurd (cc)
forgets draws ops more place (first ∷ entries) drops =
    by (drops_all first) refl (forgets draws (with_entry (is_applied first place draws) ops place first)
    (with_entry (is_applied first place draws) more place first) (place + 1) entries)
  where
    here : Bool
    here = is_applied first place draws

    by : (e : Bool) → drops_all first ≡ e
        → (list_any drops_all entries ≡ true → folded draws (with_entry here ops place first) (place + 1) entries
        ≡ folded draws (with_entry here more place first) (place + 1) entries)
        → folded draws ops place (first ∷ entries) ≡ folded draws more place (first ∷ entries)
    by true is later =
        let first_drops = drops-all draws place first is in
        let same : with_entry here ops place first ≡ with_entry here more place first = rw first_drops.1 ((muted ops more place first.toxic first_drops.0).1) in
        folded-cons draws ops place first entries ∙ ap (λ ops. folded draws ops (place + 1) entries) same ∙ sym (folded-cons draws more place first entries)
    by false is later =
        folded-cons draws ops place first entries
        ∙ later (rw is at drops)
        ∙ sym (folded-cons draws more place first entries)

-- what stands before such a toxic doesn't matter
lost-before : (draws : Draws) (ops : List Op) (place k : ℕ) (entries : List Entry) → list_any drops_all (drop (suc k) entries) ≡ true
    → folded draws ops place entries ≡ folded draws ops place (silenced k entries)
lost-before draws ops place k [] drops = refl
lost-before draws ops place zero (first ∷ entries) drops =
    folded-cons draws ops place first entries
    ∙ forgets draws (with_entry (is_applied first place draws) ops place first) ops (place + 1) entries drops
    ∙ sym (folded-silenced draws ops place first entries)
lost-before draws ops place (suc k) (first ∷ entries) drops =
    folded-cons draws ops place first entries
    ∙ lost-before draws (with_entry (is_applied first place draws) ops place first) (place + 1) k entries drops
    ∙ sym (folded-cons draws ops place first (silenced k entries))

-- the plan is the same
normal-same : (chain : Toxics) (words : List ℕ) (k : ℕ) (entry : Entry) → slice_get chain.entries k ≡ Some entry
    → ((toxic_effect entry.toxic).does_nothing || is_lost k entry.toxic chain.entries) ≡ true
    → normal_form chain words ≡ normal_form (without k chain) words
normal-same chain words k entry found idle = by (toxic_effect entry.toxic).does_nothing refl
  where
    draws : Draws
    draws = chain_draws chain words

    lost : (e : Bool) → ((toxic_effect entry.toxic).needs_data && list_any drops_all (take k chain.entries)) ≡ e
        → (e || list_any drops_all (drop (suc k) chain.entries)) ≡ true
        → normal_form chain words ≡ normal_form (without k chain) words
    lost true is warning_text =
        let both = and_parts (toxic_effect entry.toxic).needs_data (list_any drops_all (take k chain.entries)) is in
        lost-behind draws [] 0 k chain.entries entry both.0 both.1 found
    lost false is warning_text = lost-before draws [] 0 k chain.entries warning_text

    by : (e : Bool) → (toxic_effect entry.toxic).does_nothing ≡ e → normal_form chain words ≡ normal_form (without k chain) words
    by true is = skipped (λ ops. ops ≡ ops) draws [] 0 k chain.entries entry (λ ops place toxic fits. refl)
        (λ ops place fits. nothing-same ops place entry.toxic is) refl found
    by false is = lost ((toxic_effect entry.toxic).needs_data && list_any drops_all (take k chain.entries)) refl (rw is at idle)

-- so is the flow of each stream
pub flow-same : (chain : Toxics) (k : ℕ) (entry : Entry) → IsChain chain → slice_get chain.entries k ≡ Some entry
    → ((toxic_effect entry.toxic).does_nothing || is_lost k entry.toxic chain.entries) ≡ true
    → ChangesNothing k chain
flow-same chain k entry fits found idle words items stream =
    let same : chain_flow chain words items ≡ chain_flow (without k chain) words items =
    sym (means-normal_form chain words items fits stream)
    ∙ ap (λ ops. means (record { lanes = chain.lanes; ops = ops }) words items) (normal-same chain words k entry found idle)
    ∙ means-normal_form (without k chain) words items (is_chain-without k chain fits) stream in
    record { tables = ap table same; endings = ap ending same }
