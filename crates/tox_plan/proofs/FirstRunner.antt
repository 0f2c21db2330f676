-- A runner that was offered nothing yet.
use Rattle.std.proofs.Common.{◌≡◌, ◌≤◌, true, false, List, length, Option, Some, None, refl, ap, ◌∙◌, sym, arith, inr}
use Rattle.std.specs.Prelude.{is_some, IsSome, All, MatchOption}
use Rattle.tox_time.specs.declared.streams.item.Item.{Item}
use Rattle.tox_time.specs.declared.streams.ending.Ending.{Ending}
use Rattle.tox_time.specs.streams.Stream.{IsStream}
use Rattle.tox_words.specs.Draw.{DrawingView, draw_in, draws_of}
use Rattle.tox_defs.specs.declared.operations.op.Op.{Op}
use Rattle.tox_defs.specs.stage.Reaction.{flow_through}
use Rattle.tox_defs.specs.operations.Op.{IsOp}
use Rattle.tox_compile.specs.Meaning.{Ops, means, op_reactions}
use Rattle.tox_plan.specs.OpCursors.{cursors_at_start, AreDrained, OnlyEnds, HaveEnded}
use Rattle.tox_plan.specs.RunnerView.{RunnerView, IsRunning, to_come, no_piece}
use Rattle.tox_plan.specs.NewRunner.{IsNewRunner}
use Rattle.tox_plan.proofs.Givens.{given-new}
use Rattle.tox_plan.proofs.Starts.{nested-at_start, means-at_start, ops_of-at_start, length-cursors_at_start}
use Rattle.tox_plan.proofs.RunnerOutput.{to_come-unfound, to_come-ended, drained-unended, none_of}

-- a runner that was offered nothing yet
module _ (ops : List Op) (drawing : DrawingView) (known : Option Ending) where
  abbrev pub first_runner : RunnerView
  first_runner = record {
    cursors = cursors_at_start ops;
    drawing = drawing;
    position = 0;
    piece = no_piece;
    latest = 0;
    lookahead = None;
    drained = true;
    ending = known;
    finished = false;
    idle = true;
    turns = 0;
    ended = is_some known;
    cuts = 0;
    pieces = 0;
  }

  known_at_start : (ending : Option Ending) → known ≡ ending → MatchOption known (AreDrained 0 (cursors_at_start ops) no_piece)
      (OnlyEnds (draws_of drawing) 0 (cursors_at_start ops) no_piece) → known ≡ None → AreDrained 0 (cursors_at_start ops) no_piece
  known_at_start None is drained none = rw is at drained
  known_at_start (Some ending) is drained none = absurd (let both : is_some known ≡ true = rw is refl in let open_yet : is_some known ≡ false =
      ap is_some none in cc)

  pub IsRunning-first : All IsOp ops → length ops ≤ 32 → MatchOption known (AreDrained 0 (cursors_at_start ops) no_piece)
      (OnlyEnds (draws_of drawing) 0 (cursors_at_start ops) no_piece) → (IsSome known → HaveEnded (cursors_at_start ops)) → IsRunning first_runner
  IsRunning-first fit few knows kept = record {
    nested = λ _. nested-at_start ops fit;
    drained = λ read none. known_at_start known refl knows none;
    found = tt;
    unended = λ none. drained-unended 0 (cursors_at_start ops) no_piece (known_at_start known refl knows (none_of known none));
    ended = λ some. refl;
    idle = λ idle. refl;
    cause = λ some. inr (kept some);
    reported = λ reported. absurd (let e : false ≡ true = reported in cc);
    reached = omega arith;
    here = λ busy. omega arith;
    few = omega arith;
    few_cursors = rw (length-cursors_at_start ops) few;
    few_cuts = omega arith;
    few_pieces = omega arith;
    counted = omega arith;
    looked = λ some. omega arith;
  }

  means_by : (ending : Option Ending) → known ≡ ending → All IsOp ops → MatchOption known (AreDrained 0 (cursors_at_start ops) no_piece)
      (OnlyEnds (draws_of drawing) 0 (cursors_at_start ops) no_piece) → (items : List Item) → IsStream items
      → to_come first_runner items ≡ flow_through (op_reactions ops (draws_of drawing)) items
  means_by None is fit knows items stream = to_come-unfound first_runner items is refl ∙ means-at_start ops (draws_of drawing) items fit stream
  means_by (Some ending) is fit knows items stream =
      let only : OnlyEnds (draws_of drawing) 0 (cursors_at_start ops) no_piece ending = rw is at knows in
      to_come-ended first_runner ending items is ∙ sym (only items) ∙ means-at_start ops (draws_of drawing) items fit stream

  means-first : All IsOp ops → MatchOption known (AreDrained 0 (cursors_at_start ops) no_piece) (OnlyEnds (draws_of drawing) 0 (cursors_at_start ops) no_piece)
      → (items : List Item) → IsStream items
      → to_come first_runner items ≡ flow_through (op_reactions ops (draws_of drawing)) items
  means-first fit knows items stream = means_by known refl fit knows items stream

-- it gives what its plan means
module _ (plan : Ops) (drawing : DrawingView) (known : Option Ending) (lanes : drawing.lanes ≡ plan.lanes) (fit : All IsOp plan.ops)
    (knows : MatchOption known (AreDrained 0 (cursors_at_start plan.ops) no_piece) (OnlyEnds (draws_of drawing) 0 (cursors_at_start plan.ops) no_piece)) where
  means_plan : (items : List Item) → IsStream items → to_come (first_runner plan.ops drawing known) items ≡ means plan drawing.words items
  means_plan items stream =
      means-first plan.ops drawing known fit knows items stream
      ∙ ap (λ lanes. flow_through (op_reactions plan.ops (draw_in lanes drawing.words)) items) lanes

  pub IsNewRunner-first : IsNewRunner plan drawing.words (first_runner plan.ops drawing known)
  IsNewRunner-first = record {
    to_come = means_plan;
    start = (refl, refl, refl, refl, refl, ap (λ lanes. record { lanes = lanes; words = drawing.words }) lanes);
    counters = (refl, refl, refl, length-cursors_at_start plan.ops);
    cursors = refl;
    ops = ops_of-at_start plan.ops;
    given = given-new plan (first_runner plan.ops drawing known) means_plan;
  }
