-- Instants of a stream never fall, so what is left of a piece behind a slice leaves later.
use Rattle.std.proofs.Common.{◌≡◌, ◌≢◌, ℕ, zero, suc, ◌<◌, ◌≤◌, List, [], ◌∷◌, ◌++◌, replicate, ap, ◌∙◌, sym, subst, arith, append_assoc}
use Rattle.std.specs.Prelude.{All}
use Rattle.std.proofs.lemmas.List.Elements.{All-head, All-tail}
use Rattle.tox_time.specs.declared.streams.slice.Slice.{Slice}
use Rattle.tox_time.specs.declared.streams.item.Item.{Item}
use Rattle.tox_time.specs.declared.streams.item.Item.TheVariants.{Chunk, Closed, Reset, Quiet}
use Rattle.tox_time.specs.streams.Stream.{IsStream, IsStreamFrom, span_len}
use Rattle.tox_time.specs.streams.Table.{table, slices_table}
use Rattle.tox_words.specs.Draw.{Draws, draw_in}
use Rattle.tox_defs.specs.declared.operations.op.Op.{Op}
use Rattle.tox_defs.specs.stage.Reaction.{flow, flow_through}
use Rattle.tox_defs.specs.operations.Op.{IsOp, op_reaction}
use Rattle.tox_defs.proofs.OpStreams.{IsStream-op_flow}
use Rattle.tox_compile.specs.Meaning.{Ops, IsPlan, means, op_reactions}
use Rattle.tox_plan.specs.Cuts.{BeginsApart}
use Rattle.tox_plan.specs.Given.{AreAfter, HasGiven}
use Rattle.tox_plan.specs.RunnerView.{RunnerView, HasNoChunk, to_come}
use Rattle.tox_plan.proofs.Deliveries.{slices_table-append}
use Rattle.tox_plan.proofs.Givens.{table-no_chunk}

-- instants that never fall, from one on
abbrev pub NeverFall : ℕ → List ℕ → Type 0
NeverFall since [] = Unit {0}
NeverFall since (t ∷ ts) = (since ≤ t) × NeverFall t ts

never-later : (since since' : ℕ) (ts : List ℕ) → since' ≤ since → NeverFall since ts → NeverFall since' ts
never-later since since' [] before never = tt
never-later since since' (t ∷ ts) before never = (omega (arith, before, never.0), never.1)

never-replicate : (n since t : ℕ) (ts : List ℕ) → since ≤ t → NeverFall t ts → NeverFall since (replicate n t ++ ts)
never-replicate zero since t ts before never = never-later t since ts before never
never-replicate (suc n) since t ts before never = (before, never-replicate n t t ts (omega arith) never)

-- the instants of a stream's bytes
table-never : (position since : ℕ) (items : List Item) → IsStreamFrom position since items → NeverFall since (table items)
table-never position since [] stream = absurd stream
table-never position since (Chunk span t ∷ items) stream = never-replicate (span_len span) since t (table items) stream.2
    (table-never span.stop t items stream.4)
table-never position since (Closed t ∷ items) stream = subst (λ items. NeverFall since (table items)) (sym stream.2) tt
table-never position since (Reset t ∷ items) stream = subst (λ items. NeverFall since (table items)) (sym stream.2) tt
table-never position since (Quiet ∷ items) stream = subst (λ items. NeverFall since (table items)) (sym stream) tt

never-behind : (since : ℕ) (xs ys : List ℕ) → NeverFall since (xs ++ ys) → NeverFall since ys
never-behind since [] ys never = never
never-behind since (x ∷ xs) ys never = never-later x since ys never.0 (never-behind x xs ys never.1)

-- what a plan means for a stream is a stream
stream-through : (ops : List Op) (draws : Draws) (items : List Item) → All IsOp ops → IsStream items → IsStream (flow_through (op_reactions ops draws) items)
stream-through [] draws items fit stream = stream
stream-through (op ∷ ops) draws items fit stream =
    stream-through ops draws (flow (op_reaction op draws) items) (All-tail IsOp op ops fit) (IsStream-op_flow op draws items (All-head IsOp op ops fit) stream)

after-never : (instant t : ℕ) (ts : List ℕ) → instant < t → NeverFall t ts → AreAfter instant ts
after-never instant t [] before never = tt
after-never instant t (u ∷ ts) before never = (omega (arith, before, never.0), after-never instant u ts (omega (arith, before, never.0)) never.1)

after-chunk : (n instant t : ℕ) (ts : List ℕ) → 0 < n → t ≢ instant → NeverFall instant (replicate n t ++ ts) → AreAfter instant (replicate n t ++ ts)
after-chunk zero instant t ts some apart never = absurd (omega (arith, some))
after-chunk (suc n) instant t ts some apart never =
    let less : instant < t = omega (arith, never.0, apart) in (less, after-never instant t (replicate n t ++ ts) less never.1)

after-none : (instant : ℕ) (items : List Item) → HasNoChunk items → AreAfter instant (table items)
after-none instant items none = subst (λ ts. AreAfter instant ts) (sym (table-no_chunk items none)) tt

-- bytes that come behind a slice's and begin apart come later
begins-after : (instant : ℕ) (items : List Item) → BeginsApart instant items → NeverFall instant (table items) → AreAfter instant (table items)
begins-after instant [] apart never = tt
begins-after instant (Chunk span t ∷ items) apart never = after-chunk (span_len span) instant t (table items) (omega (arith, apart.0)) apart.1 never
begins-after instant (Closed t ∷ items) apart never = after-none instant items apart
begins-after instant (Reset t ∷ items) apart never = after-none instant items apart
begins-after instant (Quiet ∷ items) apart never = after-none instant items apart

never-from : (n instant : ℕ) (ts : List ℕ) (since : ℕ) → 0 < n → NeverFall since (replicate n instant ++ ts) → NeverFall instant ts
never-from zero instant ts since some never = absurd (omega (arith, some))
never-from (suc n) instant ts since some never = never-behind instant (replicate n instant) ts never.1

-- what is left behind a slice leaves later, where all that was given and is to come is a plan's meaning
pub left-after : (plan : Ops) (offered : List Item) (given : List Slice) (slice : Slice) (runner : RunnerView) → IsPlan plan → IsStream (offered ++ Quiet ∷ [])
    → HasGiven plan offered (given ++ slice ∷ []) runner
    → slice.span.start < slice.span.stop → BeginsApart slice.instant (to_come runner (Quiet ∷ []))
    → AreAfter slice.instant (table (to_come runner (Quiet ∷ [])))
left-after plan offered given slice runner fits stream has some apart =
    let left : List ℕ = table (to_come runner (Quiet ∷ [])) in
    let whole : NeverFall 0 (slices_table (given ++ slice ∷ []) ++ left)
    = subst (λ ts. NeverFall 0 ts) (sym (has.tables (Quiet ∷ []) stream))
    (table-never 0 0 (means plan runner.drawing.words (offered ++ Quiet ∷ []))
    (stream-through plan.ops (draw_in plan.lanes runner.drawing.words) (offered ++ Quiet ∷ []) fits.operations stream)) in
    let split : slices_table (given ++ slice ∷ []) ++ left ≡ slices_table given ++ (replicate (span_len slice.span) slice.instant ++ left)
    = ap (λ ts. ts ++ left) (slices_table-append given (slice ∷ []))
    ∙ append_assoc (slices_table given) (slices_table (slice ∷ [])) left
    ∙ ap (λ ts. slices_table given ++ ts) (append_assoc (replicate (span_len slice.span) slice.instant) [] left) in
    begins-after slice.instant (to_come runner (Quiet ∷ [])) apart
    (never-from (span_len slice.span) slice.instant left 0 (omega (arith, some))
    (never-behind 0 (slices_table given) _ (subst (λ ts. NeverFall 0 ts) split whole)))
