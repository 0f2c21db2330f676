-- Reactions that begin later or stop: chunks outside their time pass, and the rest is as if they had none.
use Rattle.std.proofs.Common.{◌≡◌, ℕ, zero, suc, ◌<◌, ◌≤◌, max, Bool, true, false, List, [], ◌∷◌, ◌++◌, refl, ap, sym, subst, ◌∙◌, append_assoc, arith, inl}
use Rattle.std.proofs.Common.{◌⊎◌, ◌||◌, if◌then◌else◌}
use Rattle.std.specs.Prelude.{nat_lt}
use Rattle.std.proofs.lemmas.List.{append-nil}
use Rattle.tox_time.specs.declared.streams.span.Span.{Span}
use Rattle.tox_time.specs.declared.streams.item.Item.{Item}
use Rattle.tox_time.specs.declared.streams.item.Item.TheVariants.{Chunk, Closed, Reset, Quiet}
use Rattle.tox_time.specs.declared.streams.slice.Slice.{Slice}
use Rattle.tox_time.specs.declared.streams.ending.Ending.{Ending}
use Rattle.tox_time.specs.declared.streams.ending.Ending.TheVariants.{StillOpen, Closed as ClosedAt, Reset as ResetAt}
use Rattle.tox_time.specs.Time.{horizon}
use Rattle.tox_time.specs.streams.Stream.{arrived, is_final, IsStreamFrom}
use Rattle.tox_time.specs.streams.Table.{final_of}
use Rattle.tox_defs.specs.declared.operations.state.State.{State}
use Rattle.tox_defs.specs.declared.operations.look.Look.{Look}
use Rattle.tox_defs.specs.declared.operations.look.Look.TheVariants.{Piece, LastPiece, Ended, Uncounted}
use Rattle.tox_defs.specs.toxics.Ordered.{in_order}
use Rattle.tox_defs.specs.stage.Reaction.{Answer, Reaction, react, flow_from, state_from}
use Rattle.tox_defs.specs.operations.Look.{as_chunk, rest_of, Continues, Finds}
use Rattle.tox_defs.specs.operations.During.{is_early, is_late, is_outside, uncounted_answer, during, with_previous}
use Rattle.tox_defs.proofs.OpenStates.{open_state}
use Rattle.tox_defs.proofs.FlowLemmas.{react-running, flow_from-append, state_from-append}
use Rattle.tox_defs.proofs.KeepingStreams.{GoesOn, EndsThere, KeepsStreams, Follows}
use Rattle.tox_defs.proofs.StreamKeepers.{Whatever}
use Rattle.tox_defs.proofs.PassedBytes.{PassesAtMost}

-- a reaction whose time is that of the link is as it was
pub during-always : (reaction : Reaction) → during 0 0 reaction ≡ reaction
during-always reaction = refl

-- a chunk outside the time passes
pub during-outside : (from until : ℕ) (reaction : Reaction) (state : State) (item : Item) → is_outside from until item ≡ true
    → during from until reaction state item ≡ uncounted_answer state item
during-outside from until reaction state item outside = ap (λ b. if b then uncounted_answer state item else reaction state item) outside

-- what isn't outside goes to the reaction
pub during-inside : (from until : ℕ) (reaction : Reaction) (state : State) (item : Item) → is_outside from until item ≡ false
    → during from until reaction state item ≡ reaction state item
during-inside from until reaction state item inside = ap (λ b. if b then uncounted_answer state item else reaction state item) inside

-- a final is neither early nor late, and so never outside
is_final-inside : (millis : ℕ) (item : Item) → is_final item ≡ true → (is_early millis item ≡ false) × (is_late millis item ≡ false)
is_final-inside zero item final = (refl, refl)
is_final-inside (suc millis) (Chunk span t) final = absurd (cc)
is_final-inside (suc millis) (Closed t) final = (refl, refl)
is_final-inside (suc millis) (Reset t) final = (refl, refl)
is_final-inside (suc millis) Quiet final = (refl, refl)

is_outside-is_final : (from until : ℕ) (item : Item) → is_final item ≡ true → is_outside from until item ≡ false
is_outside-is_final from until item final = rw (is_final-inside from item final).0 (is_final-inside until item final).1

pub is_outside-final : (from until : ℕ) (ending : Ending) → is_outside from until (final_of ending) ≡ false
is_outside-final from until StillOpen = is_outside-is_final from until Quiet refl
is_outside-final from until (ClosedAt t) = is_outside-is_final from until (Closed t) refl
is_outside-final from until (ResetAt t) = is_outside-is_final from until (Reset t) refl

-- chunks of one instant are outside together
is_early-span : (millis : ℕ) (span span' : Span) (t : ℕ) → is_early millis (Chunk span t) ≡ is_early millis (Chunk span' t)
is_early-span zero span span' t = refl
is_early-span (suc millis) span span' t = refl

is_late-span : (millis : ℕ) (span span' : Span) (t : ℕ) → is_late millis (Chunk span t) ≡ is_late millis (Chunk span' t)
is_late-span zero span span' t = refl
is_late-span (suc millis) span span' t = refl

pub is_outside-span : (from until : ℕ) (span span' : Span) (t : ℕ) → is_outside from until (Chunk span t) ≡ is_outside from until (Chunk span' t)
is_outside-span from until span span' t = rw (is_early-span from span span' t) (ap (λ b. is_early from (Chunk span' t) || b) (is_late-span until span span' t))

react-inside : (from until : ℕ) (reaction : Reaction) (state : State) (item : Item) → is_outside from until item ≡ false
    → react (during from until reaction) state item ≡ react reaction state item
react-inside from until reaction state item inside =
    let nothing : Answer = record { state = state; given = [] } in
    ap (λ (answer : Answer). if state.done then nothing else answer) (during-inside from until reaction state item inside)

-- two reactions that make the same of some items
record Agree (one other : Reaction) (items : List Item) : Type 0 where
  pub gives : (state : State) → flow_from one state items ≡ flow_from other state items
  pub leaves : (state : State) → state_from one state items ≡ state_from other state items

agree_on_nothing : (one other : Reaction) → Agree one other []
agree_on_nothing one other = record { gives = λ state. refl; leaves = λ state. refl }

agree_on_one : (from until : ℕ) (reaction : Reaction) (item : Item) → is_outside from until item ≡ false
    → Agree (during from until reaction) reaction (item ∷ [])
agree_on_one from until reaction item inside = record {
  gives = λ state. ap (λ (answer : Answer). answer.given ++ []) (react-inside from until reaction state item inside);
  leaves = λ state. ap (λ (answer : Answer). answer.state) (react-inside from until reaction state item inside);
}

agree_on_rest : (some : Bool) (from until : ℕ) (reaction : Reaction) (item : Item) → is_outside from until item ≡ false
    → Agree (during from until reaction) reaction (if some then item ∷ [] else [])
agree_on_rest true from until reaction item inside = agree_on_one from until reaction item inside
agree_on_rest false from until reaction item inside = agree_on_nothing (during from until reaction) reaction

-- what comes for an item that isn't outside, and a rest on which the two agree
continues_inside : (from until : ℕ) (reaction : Reaction) (state later : State) (item : Item) (rest given items : List Item)
    → is_outside from until item ≡ false → Agree (during from until reaction) reaction rest
    → Continues reaction state (item ∷ []) given later (rest ++ []) → Continues (during from until reaction) state (item ∷ items) given later (rest ++ items)
continues_inside from until reaction state later item rest given items inside agree inner =
    let whole = react-inside from until reaction state item inside in
    let bare : rest ++ [] ≡ rest = append-nil rest in
    let first : (react reaction state item).given ≡ given ++ flow_from (during from until reaction) later rest =
    sym (append-nil (react reaction state item).given) ∙ inner.gives ∙ ap (λ rest. given ++ flow_from reaction later rest) bare
    ∙ ap (λ more. given ++ more) (sym (agree.gives later)) in
    let then_is : (react reaction state item).state ≡ state_from (during from until reaction) later rest =
    inner.leaves ∙ ap (λ rest. state_from reaction later rest) bare ∙ sym (agree.leaves later) in
    record {
      gives = ap (λ (answer : Answer). answer.given ++ flow_from (during from until reaction) answer.state items) whole
          ∙ ap (λ given. given ++ flow_from (during from until reaction) (react reaction state item).state items) first
          ∙ append_assoc given (flow_from (during from until reaction) later rest) _
          ∙ ap (λ (state : State). given ++ (flow_from (during from until reaction) later rest ++ flow_from (during from until reaction) state items)) then_is
          ∙ ap (λ more. given ++ more) (sym (flow_from-append (during from until reaction) later rest items));
      leaves = ap (λ (answer : Answer). state_from (during from until reaction) answer.state items) whole
          ∙ ap (λ (state : State). state_from (during from until reaction) state items) then_is
          ∙ sym (state_from-append (during from until reaction) later rest items);
    }

-- a look that finds what the reaction gives for a rest that isn't outside
pub finds_inside : (from until : ℕ) (reaction : Reaction) (state : State) (rest : Slice) (look : Look) → is_outside from until (as_chunk rest) ≡ false
    → Finds reaction state rest [] look → (items : List Item) → Finds (during from until reaction) state rest items look
finds_inside from until reaction state rest (Piece piece) inside inner items =
    let behind : Span = record { start = piece.span.stop; stop = rest.span.stop } in
    continues_inside from until reaction state _ (as_chunk rest) (rest_of piece.span.stop rest.span.stop rest.instant) (as_chunk piece ∷ []) items inside
    (agree_on_rest (nat_lt piece.span.stop rest.span.stop) from until reaction (Chunk behind rest.instant)
    (is_outside-span from until behind rest.span rest.instant ∙ inside)) inner
finds_inside from until reaction state rest (LastPiece piece ending) inside inner items =
    continues_inside from until reaction state _ (as_chunk rest) [] (as_chunk piece ∷ final_of ending ∷ []) items inside
    (agree_on_nothing (during from until reaction) reaction) inner
finds_inside from until reaction state rest (Ended ending) inside inner items =
    continues_inside from until reaction state _ (as_chunk rest) [] (final_of ending ∷ []) items inside (agree_on_nothing (during from until reaction) reaction)
    inner
finds_inside from until reaction state rest (Uncounted piece) inside inner items =
    continues_inside from until reaction state _ (as_chunk rest) [] (as_chunk piece ∷ []) items inside (agree_on_nothing (during from until reaction) reaction)
    inner

-- a look that finds a rest outside the time
pub finds_outside : (from until : ℕ) (reaction : Reaction) (state : State) (rest piece : Slice) (items : List Item) → state.done ≡ false
    → is_outside from until (as_chunk rest) ≡ true
    → piece ≡ record { span = rest.span; instant = max state.previous rest.instant }
    → Finds (during from until reaction) state rest items (Uncounted piece)
finds_outside from until reaction state rest piece items running outside is =
    let answers : react (during from until reaction) state (as_chunk rest) ≡ record { state = with_previous state piece.instant; given = as_chunk piece ∷ [] }
    = react-running (during from until reaction) state (as_chunk rest) running ∙ during-outside from until reaction state (as_chunk rest) outside
    ∙ ap (λ (piece : Slice). record { state = with_previous state piece.instant; given = as_chunk piece ∷ [] }) (sym is) in
    record {
      gives = ap (λ (answer : Answer). answer.given ++ flow_from (during from until reaction) answer.state items) answers;
      leaves = ap (λ (answer : Answer). state_from (during from until reaction) answer.state items) answers;
    }

-- a chunk that is outside or not
keeps_at_chunk : (outside : Bool) (reaction : Reaction) (previous chunks pieces passed : ℕ) (span : Span) (t : ℕ) → previous ≤ horizon → span.start < span.stop
    → t ≤ horizon
    → GoesOn Whatever (reaction (open_state previous chunks pieces passed) (Chunk span t)).given span.start previous span.stop t
    ⊎ EndsThere (reaction (open_state previous chunks pieces passed) (Chunk span t)).given span.start previous
    → GoesOn Whatever (if outside then uncounted_answer (open_state previous chunks pieces passed) (Chunk span t) else reaction
    (open_state previous chunks pieces passed) (Chunk span t)).given span.start previous span.stop t
    ⊎ EndsThere (if outside then uncounted_answer (open_state previous chunks pieces passed) (Chunk span t) else reaction
    (open_state previous chunks pieces passed) (Chunk span t)).given span.start previous
keeps_at_chunk true reaction previous chunks pieces passed span t fits some instant inner =
    inl (record {
      in_row = (refl, some, omega arith, omega (arith, fits, instant), refl);
      no_final = refl;
      related = tt;
      instant =
          omega (arith, fits, instant);
    })
keeps_at_chunk false reaction previous chunks pieces passed span t fits some instant inner = inner

follows_at_chunk : (outside : Bool) (reaction : Reaction) (previous chunks pieces passed : ℕ) (span : Span) (t : ℕ)
    → Follows previous (reaction (open_state previous chunks pieces passed) (Chunk span t))
    → Follows previous (if outside then uncounted_answer (open_state previous chunks pieces passed) (Chunk span t) else reaction
    (open_state previous chunks pieces passed) (Chunk span t))
follows_at_chunk true reaction previous chunks pieces passed span t inner = record { instant = refl; done = refl }
follows_at_chunk false reaction previous chunks pieces passed span t inner = inner

module _ (from until : ℕ) (reaction : Reaction) (keeps : KeepsStreams Whatever reaction) where
  follows_final : (previous chunks pieces passed : ℕ) (item : Item) → is_final item ≡ true
      → Follows previous (during from until reaction (open_state previous chunks pieces passed) item)
  follows_final previous chunks pieces passed item final =
      subst (λ (answer : Answer). Follows previous answer) (sym (during-inside from until reaction (open_state previous chunks pieces passed) item
      (is_outside-is_final from until item final)))
      (keeps.follows previous chunks pieces passed item)

  follows_during : (previous chunks pieces passed : ℕ) (item : Item) → Follows previous
      (during from until reaction (open_state previous chunks pieces passed) item)
  follows_during previous chunks pieces passed (Chunk span t) =
      follows_at_chunk (is_outside from until (Chunk span t)) reaction previous chunks pieces passed span t
      (keeps.follows previous chunks pieces passed (Chunk span t))
  follows_during previous chunks pieces passed (Closed t) = follows_final previous chunks pieces passed (Closed t) refl
  follows_during previous chunks pieces passed (Reset t) = follows_final previous chunks pieces passed (Reset t) refl
  follows_during previous chunks pieces passed Quiet = follows_final previous chunks pieces passed Quiet refl

-- a reaction that keeps streams keeps them within its time too
pub during_keeps : (from until : ℕ) (reaction : Reaction) → KeepsStreams Whatever reaction → KeepsStreams Whatever (during from until reaction)
during_keeps from until reaction keeps = record {
  at_chunk = λ previous chunks pieces passed span t since fits related some ordered instant.
      keeps_at_chunk (is_outside from until (Chunk span t)) reaction previous chunks pieces passed span t fits some instant
      (keeps.at_chunk previous chunks pieces passed span t since fits related some ordered instant);
  at_final = λ previous chunks pieces passed item position since fits related final follows.
      subst (λ (answer : Answer). IsStreamFrom position previous answer.given)
      (sym (during-inside from until reaction (open_state previous chunks pieces passed) item (is_outside-is_final from until item final)))
      (keeps.at_final previous chunks pieces passed item position since fits related final follows);
  follows = follows_during from until reaction keeps;
}

arrived-in_order : (since : ℕ) (item : Item) → arrived (in_order since item ∷ []) ≤ arrived (item ∷ [])
arrived-in_order since (Chunk span t) = omega arith
arrived-in_order since (Closed t) = omega arith
arrived-in_order since (Reset t) = omega arith
arrived-in_order since Quiet = omega arith

outside-passes : (outside : Bool) (reaction : Reaction) (state : State) (item : Item) → PassesAtMost reaction
    → arrived (if outside then uncounted_answer state item else reaction state item).given ≤ arrived (item ∷ [])
outside-passes true reaction state item passes = arrived-in_order state.previous item
outside-passes false reaction state item passes = passes state item

-- a reaction that gives no more bytes than it took gives no more within its time
pub during-passes : (from until : ℕ) (reaction : Reaction) → PassesAtMost reaction → PassesAtMost (during from until reaction)
during-passes from until reaction passes state item = outside-passes (is_outside from until item) reaction state item passes
