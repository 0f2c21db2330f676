-- One line more, or a prefix of it.
use Rattle.std.proofs.Common.{◌≡◌, ◌+◌, ◌∙◌, ℕ, ap, subst, arith, vec_len}
use Rattle.tox_time.specs.streams.Arrivals.{arrival_list}
use Rattle.tox_lend.specs.Run.{Run, stop_of}
use Rattle.tox_lend.specs.contracts.piece.Piece.{the_view as piece_seen}
use Rattle.tox_lend.specs.declared.piece.Piece.TheInside.{Inside}
use Rattle.tox_runs.specs.runs.OutcomeSlices.{IsJoined, StartsBehind}
use Rattle.tox_runs.proofs.OutcomeLemmas.{IsPending-next, IsPrinting-next, joined_lies, pending_text-joined, starts_in}
use Rattle.tox_runs.proofs.Passing.{PrintsDownTo-broken, PrintsDownTo-then}
use Rattle.tox_runs.proofs.PieceLines.{line_of_lent}
use Rattle.tox_runs.proofs.runs.outcome_slices.OutcomeSlicesSliceSource.print_piece.Goals as goal

-- where the bytes of a piece stop
stop_read : (inside : Inside) (piece : Run) (len : ℕ) → piece_seen inside ≡ piece → len ≡ vec_len inside.bytes → inside.start + len ≡ stop_of piece
stop_read inside piece len seen is = omega (arith, ap stop_of seen, inside.bytes.ok.0, is)

pub lend-requires : goal.lend-requires
lend-requires g c =
    let at = c.requires.next in
    let joined = subst (λ stop. IsJoined stop c.loop-slice.self.left.now c.in-Some.slice c.next_before.new.self.left.now)
    (stop_read c.piece.inside c.args.piece.now c.len.result c.piece.view_is c.len.ensures) c.in-Some.ensures.some.0 in
    let printing = c.loop-slice.invariant.printing at in
    joined_lies at.arrived c.args.piece.now c.loop-slice.self.position c.loop-slice.self.left.now c.in-Some.slice c.next_before.new.self.left.now printing
    (joined.joins (arrival_list at.arrived.items) c.loop-slice.self.position printing.neighbours at.of.edge)

pub loop-slice-preserved : goal.loop-slice-preserved
loop-slice-preserved g c =
    let on = c.loop-slice.invariant in
    let old = c.loop-slice.self in
    let new = c.next_before.new.self in
    let slice = c.in-Some.slice in
    let joined = subst (λ stop. IsJoined stop old.left.now slice new.left.now)
    (stop_read c.piece.inside c.args.piece.now c.len.result c.piece.view_is c.len.ensures) c.in-Some.ensures.some.0 in
    let line = line_of_lent c.args.piece.now slice c.lend.result c.lend.ensures in
    record {
      working = c.in_ok-print_lent.ensures.leaves.1;
      ending = c.in-Some.ensures.ending ∙ on.ending;
      printing = λ at.
          let printing = on.printing at in
          let joins = joined.joins (arrival_list at.arrived.items) old.position printing.neighbours at.of.edge in
          rw c.in-Some.ensures.some.1 (IsPrinting-next at.arrived c.args.piece.now old.position old.left.now slice new.left.now printing joins);
      printed = λ at.
          let printing = on.printing at in
          let joins = joined.joins (arrival_list at.arrived.items) old.position printing.neighbours at.of.edge in
          let after = starts_in at.arrived c.args.piece.now old.position old.left.now slice new.left.now printing joins in
          rw c.in-Some.ensures.some.1 (
          PrintsDownTo-then _ (on.printed at)
          (pending_text-joined at.arrived c.args.piece.now old.position old.left.now slice new.left.now c.args.self.now.ending.now at.of after joins
          joined.apart)
          (rw line at c.in_ok-print_lent.ensures));
    }

pub returns-in_err-print_lent-clause-prints : goal.returns-in_err-print_lent-clause-prints
returns-in_err-print_lent-clause-prints g c =
    let on = c.loop-slice.invariant in
    let old = c.loop-slice.self in
    let new = c.next_before.new.self in
    let slice = c.in-Some.slice in
    let joined = subst (λ stop. IsJoined stop old.left.now slice new.left.now)
    (stop_read c.piece.inside c.args.piece.now c.len.result c.piece.view_is c.len.ensures) c.in-Some.ensures.some.0 in
    let line = line_of_lent c.args.piece.now slice c.lend.result c.lend.ensures in
    λ at.
    let printing = on.printing at in
    let joins = joined.joins (arrival_list at.arrived.items) old.position printing.neighbours at.of.edge in
    let after = starts_in at.arrived c.args.piece.now old.position old.left.now slice new.left.now printing joins in
    PrintsDownTo-broken _ c.from_residual.ensures.1 (on.printed at)
    (pending_text-joined at.arrived c.args.piece.now old.position old.left.now slice new.left.now c.args.self.now.ending.now at.of after joins joined.apart)
    (rw line at c.in_err-print_lent.ensures)

pub returns-clause-stands : goal.returns-clause-stands
returns-clause-stands g c =
    λ at.
    let old = c.loop-slice.self in
    let none = c.in_default.ensures.none in
    let behind = subst (λ stop. StartsBehind stop old.left.now) (stop_read c.piece.inside c.args.piece.now c.len.result c.piece.view_is c.len.ensures) none.2 in
    rw (none.0, none.1) (IsPending-next at.arrived c.args.piece.now c.args.self.now.position old.position c.args.self.now.left.now old.left.now at.later
    at.before (c.loop-slice.invariant.printing at) behind)
