-- A buffer that isn't taken whole leaves bytes.
use Rattle.std.proofs.Common.{◌≡◌, ℕ, zero, suc, ◌+◌, ◌<◌, ◌≤◌, false, List, [], ◌∷◌, length, length-append, take, subst, sym, arith}
use Rattle.std.specs.Prelude.{get_or}
use Rattle.std.proofs.lemmas.Bool.{lt-leb}
use Rattle.std.specs.Io.Slices.{io_slice_bytes, io_slices_bytes}
use Rattle.std.specs.declared.io.slices.IoSlice.{IoSlice}
use Rattle.tox_sockets.proofs.readiness.is_all.Goals as goal

at-least : (buffers : List IoSlice) (index : ℕ) (default : IoSlice) → index < length buffers
    → length (io_slices_bytes (take index buffers)) + length (io_slice_bytes (get_or buffers index default)) ≤ length (io_slices_bytes buffers)
at-least [] index default some = absurd (omega (arith, some))
at-least (buffer ∷ buffers) zero default some = let all = length-append (io_slice_bytes buffer) (io_slices_bytes buffers) in omega (arith, all)
at-least (buffer ∷ buffers) (suc index) default some =
    let all = length-append (io_slice_bytes buffer) (io_slices_bytes buffers) in
    let front = length-append (io_slice_bytes buffer) (io_slices_bytes (take index buffers)) in
    let rest = at-least buffers index default (omega (arith, some)) in
    omega (arith, all, front, rest)

pub returns-then-left-len : goal.returns-then-left-len
returns-then-left-len c =
    let buffers = c.args.buffers.now in
    let index = c.loop-buffer.buffer-index in
    let all : length (io_slices_bytes (take index buffers)) + length c.as_slice-len.result.now ≤ length (io_slices_bytes buffers) =
    subst (λ bytes. length (io_slices_bytes (take index buffers)) + length bytes ≤ length (io_slices_bytes buffers)) (sym c.as_slice-len.ensures)
    (at-least buffers index _ c.loop-buffer-test.true) in
    sym (lt-leb (length (io_slices_bytes buffers)) c.args.count (omega (arith, all, c.if-left-len.true, c.loop-buffer.invariant.taken)))
