use Rattle.std.proofs.Common.{◌≡◌, ℕ, ◌+◌, ◌-◌, ◌≤◌, List, length, take, drop, subst, sym, arith}
use Rattle.std.specs.Io.KnownBytes.{Appends}
use Rattle.std.proofs.lemmas.List.{length-drop, length-take-le}
use Rattle.toxi.proofs.Written.{appends-more, appends-none}
use Rattle.toxi.proofs.log_folder.write_counted.Goals as goal
use Rattle.toxi.proofs.log_folder.write_counted.Goals.{in-Ok, in-Err}

pub loop-preserved : goal.loop-preserved
loop-preserved g c =
    let bytes = c.args.bytes.now in
    let old = g.W.Write.contents c.args.file.now in
    let mid = g.W.Write.contents c.loop.file in
    let new = g.W.Write.contents c.write.new.self in
    elim c.match-write.branch [
      | in-Ok w ↦
          let P : ℕ → Type 0 = λ done. (done ≤ length bytes) × Appends old new (take done bytes) in
          let len : length (take (length bytes - c.loop.done) (drop c.loop.done bytes)) ≡ length bytes - c.loop.done =
          length-take-le (length bytes - c.loop.done) (drop c.loop.done bytes) (omega (arith, length-drop c.loop.done bytes)) in
          let fits : c.loop.done + w.in-Ok.count ≤ length bytes = omega (arith, len, w.in-Ok.ensures.bound, c.loop.invariant.0) in
          subst P (sym w.done-is) (fits, appends-more old mid new bytes c.loop.done w.in-Ok.count c.loop.invariant.1 w.in-Ok.ensures.bytes)
      | in-Err w ↦
          let P : ℕ → Type 0 = λ done. (done ≤ length bytes) × Appends old new (take done bytes) in
          subst P (sym w.done-is) (c.loop.invariant.0, appends-none old mid new (take c.loop.done bytes) c.loop.invariant.1 w.in-Err.ensures.bytes)
    ]
