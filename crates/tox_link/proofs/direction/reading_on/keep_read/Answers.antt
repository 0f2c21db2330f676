-- One piece after another.
use Rattle.std.proofs.Common.{◌≡◌, ℕ, true, false, ◌+◌, ◌-◌, inl, inr, List, length, length-drop, take, drop, ap, subst, sym, ◌∙◌, arith}
use Rattle.std.specs.Io.KnownBytes.{prepend_known}
use Rattle.std.proofs.lemmas.List.{take_all}
use Rattle.tox_link.specs.direction.Follows.{HasRoomFor}
use Rattle.tox_link.proofs.DriveLemmas.{drove-read, drove-then, more-read, split-read}
use Rattle.tox_link.proofs.direction.reading_on.keep_read.Goals as goal

-- what is left of the bytes
rest-of : (done : ℕ) (bytes : List ℕ) → take (length bytes - done) (drop done bytes) ≡ drop done bytes
rest-of done bytes = let long = length-drop done bytes in take_all (length bytes - done) (drop done bytes) (omega (arith, long))

pub returns-in_err-done-2-clause-drove : goal.returns-in_err-done-2-clause-drove
returns-in_err-done-2-clause-drove g c =
    let reported = g.C.Clock.reported c.args.clock.now in
    let bytes = c.args.bytes.now in
    let done = c.loop-done.done in
    let next = c.keep_next-in-loop-done in
    let rest : List ℕ = take (length bytes - done) (drop done bytes) in
    λ left written.
    drove-read 2 1 reported c.args.link.now next.new.link (prepend_known bytes left) _ left written written _ _ (omega arith)
    (split-read done bytes left ∙ ap (λ rest. prepend_known (take done bytes) (prepend_known rest left)) (sym (rest-of done bytes)))
    (drove-then reported 1 1 c.args.link.now c.loop-done.link next.new.link _ _ _
    (c.loop-done.invariant.drove (prepend_known rest left) written) (c.in_err-done-2.ensures.stopped.1 left written))

pub loop-done-preserved : goal.loop-done-preserved
loop-done-preserved g c =
    let reported = g.C.Clock.reported c.args.clock.now in
    let bytes = c.args.bytes.now in
    let done = c.loop-done.done in
    let count = c.in_ok-done-2.field-0 in
    let before = c.loop-done.invariant in
    let next = c.in_ok-done-2.ensures in
    let new = c.keep_next-in-loop-done.new.link in
    let rest : List ℕ = take (length bytes - done) (drop done bytes) in
    let long : length rest ≡ length bytes - done = ap length (rest-of done bytes) ∙ length-drop done bytes in
    record {
      held = next.held;
      reads = record { read = next.reads.read; later = omega (arith, before.reads.later, next.reads.later) };
      same = (next.same.0, next.same.1 ∙ before.same.1);
      few = omega (arith, next.count.1, long, before.few);
      room = λ less. subst (λ count. HasRoomFor count new) (omega (arith, long, less)) (next.room (omega (arith, long, less)));
      taken = omega (arith, before.taken, next.taken);
      source = elim next.source [
        | inl same ↦ elim before.source [
          | inl was ↦ inl (same ∙ was)
          | inr over ↦ absurd (let both : true ≡ false = sym over.1 ∙ (before.room c.loop-done-test.true).going in cc)
        ]
        | inr over ↦ inr over
      ];
      ends = λ same. next.ends (before.ends same);
      drove = λ left written.
          drove-read 2 1 reported c.args.link.now new (prepend_known (take (done + count) bytes) left) _ left written written _ _ (omega arith)
          (more-read done count bytes left
          ∙ ap (λ rest. prepend_known (take done bytes) (prepend_known (take count rest) left)) (sym (rest-of done bytes)))
          (drove-then reported 1 1 c.args.link.now c.loop-done.link new _ _ _
          (before.drove (prepend_known (take count rest) left) written) (next.drove left written));
    }

pub returns-clause-drove : goal.returns-clause-drove
returns-clause-drove g c =
    let bytes = c.args.bytes.now in
    let done = c.loop-done.done in
    λ left written.
    drove-read 1 1 (g.C.Clock.reported c.args.clock.now) c.args.link.now c.loop-done.link (prepend_known bytes left) _ left written written _ _ (omega arith)
    (ap (λ bytes. prepend_known bytes left) (sym (take_all done bytes (omega (arith, c.loop-done-test.false)))))
    (c.loop-done.invariant.drove left written)
