-- The first bytes are those of the first buffer that has some.
use Rattle.std.proofs.Common.{◌≡◌, ℕ, zero, suc, ◌<◌, List, [], ◌∷◌, ◌++◌, length, length-append, take, ap, subst, sym, ◌∙◌, arith}
use Rattle.std.proofs.Math.Seq.{take-append_seam}
use Rattle.std.proofs.lemmas.List.{nil_from_length}
use Rattle.std.specs.Prelude.{get_or}
use Rattle.std.specs.Io.Slices.{io_slice_bytes, io_slices_bytes}
use Rattle.std.specs.declared.io.slices.IoSlice.{IoSlice}
use Rattle.tests_core.proofs.link.polled_ends.front_of.Goals as goal

first-bytes : (buffers : List IoSlice) (index : ℕ) (default : IoSlice) → index < length buffers → length (io_slices_bytes (take index buffers)) ≡ 0
    → io_slice_bytes (get_or buffers index default) ≡ take (length (io_slice_bytes (get_or buffers index default))) (io_slices_bytes buffers)
first-bytes [] index default some none = absurd (omega (arith, some))
first-bytes (buffer ∷ buffers) zero default some none = sym (take-append_seam (io_slice_bytes buffer) (io_slices_bytes buffers))
first-bytes (buffer ∷ buffers) (suc index) default some none =
    let long = length-append (io_slice_bytes buffer) (io_slices_bytes (take index buffers)) in
    let empty : io_slice_bytes buffer ≡ [] = nil_from_length (io_slice_bytes buffer) (omega (arith, long, none)) in
    let bytes = io_slice_bytes (get_or buffers index default) in
    first-bytes buffers index default (omega (arith, some)) (omega (arith, long, none))
    ∙ ap (λ front. take (length bytes) (front ++ io_slices_bytes buffers)) (sym empty)

pub returns-then-not-is_empty-clause-front : goal.returns-then-not-is_empty-clause-front
returns-then-not-is_empty-clause-front c =
    let buffers = c.args.buffers.now in
    subst (λ bytes. bytes ≡ take (length bytes) (io_slices_bytes buffers)) (sym c.as_slice-bytes.ensures)
    (first-bytes buffers c.loop-buffer.buffer-index _ c.loop-buffer-test.true c.loop-buffer.invariant.none)
