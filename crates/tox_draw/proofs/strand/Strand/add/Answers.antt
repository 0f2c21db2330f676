-- One column has more, and the others stay.
use Rattle.std.proofs.Common.{◌≡◌, ◌==◌, ◌+◌, ◌*◌, length-append, replicate, slice_index, sym, ◌∙◌, ap, Some, cond, arith}
use Rattle.std.proofs.lemmas.List.{length-replicate}
use Rattle.std.proofs.lemmas.List.Sums.{count_by-le-length}
use Rattle.tox_draw.specs.Frames.{column_of}
use Rattle.tox_draw.specs.Lines.{in_column}
use Rattle.tox_draw.proofs.LineCounts.{added, grown_there, in_column-more, last_byte_at-more}
use Rattle.tox_draw.proofs.strand.Strand.add.Goals as goal

pub returns : goal.returns
returns c = λ table on some few. record {
  total = omega (
    arith,
    on.total,
    length-append table (replicate c.args.len c.args.instant.now),
    length-replicate c.args.len c.args.instant.now,
    c.min-self.ensures,
    c.saturating_add.ensures,
  );
  last = sym (last_byte_at-more table c.args.len c.args.instant.now some);
  counts = λ column below.
      let before = on.counts column below in
      let more = in_column-more c.args.frame.now table c.args.len c.args.instant.now column in
      let few_there = count_by-le-length (λ t. column_of c.args.frame.now (Some t) == column) table in
      let grows : c.column_of-column.result ≡ column → slice_index c.args.self.now.counts.items column ≡ in_column c.args.frame.now table column
      → c.saturating_add-2.result ≡ in_column c.args.frame.now table column + c.args.len =
      λ same before. grown_there _ _ _ _ _ _ _ c.args.self.now.columns below same c.index.ensures c.saturating_add-2.ensures before
      (omega (arith, few_there, few)) in
      let grown = added c.args.self.now.counts.items c.column_of-column.result column c.saturating_add-2.result c.args.len
      (in_column c.args.frame.now table column) c.args.self.now.columns c.column_of-column.ensures.within below (λ same. grows same before) before in
      grown ∙ ap (λ at. in_column c.args.frame.now table column + c.args.len * cond (at == column) 1 0) c.column_of-column.ensures.value ∙ sym more;
}
