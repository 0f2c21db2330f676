-- One column more is counted.
use Rattle.std.proofs.Common.{◌≡◌, ℕ, ◌+◌, ◌<◌, List, length, nat_lt, slice_index, Some, sym, ◌∙◌, ap, arith, rules}
use Rattle.std.proofs.lemmas.Grind.{common_steps}
use Rattle.std.proofs.lemmas.List.Sums.{count_by-le-length}
use Rattle.tox_draw.specs.Frames.{column_of, y_of}
use Rattle.tox_draw.specs.Lines.{IsStrand, in_first}
use Rattle.tox_draw.proofs.LineCounts.{in_first-next, in_first-none, line_next}
use Rattle.tox_draw.proofs.strand.Strand.ys.Goals as goal

pub loop-column-init : goal.loop-column-init
loop-column-init c = record {
  long = search rules;
  few = omega arith;
  counted = λ table on. sym (in_first-none c.args.frame.now table);
  line = λ table on column below. absurd (omega (arith, below));
}

pub loop-column-preserved : goal.loop-column-preserved
loop-column-preserved c =
    let frame = c.args.frame.now in
    let at = c.loop-column.column in
    let same = c.deref-count-items.ensures.value in
    let below_all : at < 751 = omega (arith, c.loop-column-test.true, ap length same, c.args.self.now.columns) in
    let grown : (table : List ℕ) → IsStrand frame table c.args.self.now → c.min-so_far.result ≡ in_first frame table (at + 1) = λ table on.
    let counts = on.counts at below_all in
    let next = in_first-next frame table at in
    let so_far = c.loop-column.invariant.counted table on in
    let all = count_by-le-length (λ t. nat_lt (column_of frame (Some t)) (at + 1)) table in
    let reads = ap (λ items. slice_index items at) same in
    omega (arith, counts, next, so_far, all, reads, on.total, c.args.self.now.few, c.min-so_far.ensures, c.saturating_add.ensures) in
    record {
      long = grind (arith, common_steps, c.loop-column.invariant.long);
      few = omega (arith, c.min-so_far.ensures);
      counted = grown;
      line = λ table on.
          line_next c.loop-column.ys.items at c.y_of.result (λ k. y_of frame (in_first frame table (k + 1))) c.loop-column.invariant.long below_all
          (c.y_of.ensures.value ∙ ap (y_of frame) (grown table on)) (c.loop-column.invariant.line table on);
    }
