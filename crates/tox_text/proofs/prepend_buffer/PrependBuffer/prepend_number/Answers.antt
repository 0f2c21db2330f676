-- A number of 64 bits has at most 20 digits.
use Rattle.std.proofs.Common.{◌≡◌, ◌+◌, ◌-◌, ◌≤◌, List, ℕ, ◌++◌, length, drop, decimal, arith, ap, sym, ◌∙◌, length-drop, length-append}
use Rattle.std.proofs.lemmas.Fmt.{length-decimal-le}
use Rattle.tox_text.proofs.prepend_buffer.PrependBuffer.prepend_number.Goals as goal

pub write_digits-self-inside-requires : goal.write_digits-self-inside-requires
write_digits-self-inside-requires c =
    let few : length (decimal c.args.number) ≤ 20 = length-decimal-le 20 c.args.number (omega arith) (omega arith) (omega arith) in
    let taken : length c.args.self.now ≡ length c.self.inside.bytes - c.self.inside.start = sym (ap length c.self.view_is)
    ∙ length-drop c.self.inside.start c.self.inside.bytes in
    omega arith

pub returns-clause-short : goal.returns-clause-short
returns-clause-short c =
    let few : length (decimal c.args.number) ≤ 20 = length-decimal-le 20 c.args.number (omega arith) (omega arith) (omega arith) in
    let taken : length (drop c.self.inside.start c.self.inside.bytes) ≡ length c.args.self.now = ap length c.self.view_is in
    rw c.write_digits-self-inside.ensures.written (omega (arith, length-append (decimal c.args.number) (drop c.self.inside.start c.self.inside.bytes)))
