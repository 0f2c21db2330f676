-- Bytes on their way to a writer, in several steps.
use Rattle.std.proofs.Common.{◌≡◌, ℕ, ◌-◌, ◌+◌, ◌≤◌, Bool, List, [], ◌++◌, length, take, drop, Option, Some, None, Result, Ok, Err, refl, arith, ap, sym, ◌∙◌}
use Rattle.std.proofs.Common.{append_assoc, append-nil, length-drop}
use Rattle.std.specs.Io.KnownBytes.{append_known}
use Rattle.std.proofs.Math.Seq.{take-add}
use Rattle.std.proofs.lemmas.List.{take_rest, take-append-drop}
use Rattle.tox_time.specs.declared.ends.EndFault.{EndFault}
use Rattle.tox_text.specs.Writing.{AppendsFront, Writes}

pub append_known-append : (known : Option (List ℕ)) (xs ys : List ℕ) → append_known (append_known known xs) ys ≡ append_known known (xs ++ ys)
append_known-append None xs ys = refl
append_known-append (Some zs) xs ys = ap Some (append_assoc zs xs ys)

pub append_known-nil : (known : Option (List ℕ)) → known ≡ append_known known []
append_known-nil None = refl
append_known-nil (Some zs) = ap Some (sym (append-nil zs))

-- one part behind the other
pub append_known-then : (first old new : Option (List ℕ)) (a b : List ℕ) → old ≡ append_known first a → new ≡ append_known old b
    → new ≡ append_known first (a ++ b)
append_known-then first old new a b before after = after ∙ ap (λ known. append_known known b) before ∙ append_known-append first a b

-- the first of what is left, behind what was written
pub written_more : (first old new : Option (List ℕ)) (bytes : List ℕ) (i n : ℕ) → old ≡ append_known first (take i bytes)
    → new ≡ append_known old (take n (take (length bytes - i) (drop i bytes))) → new ≡ append_known first (take (i + n) bytes)
written_more first old new bytes i n before after =
    append_known-then first old new (take i bytes) _ before after
    ∙ ap (λ xs. append_known first (take i bytes ++ take n xs)) (take_rest bytes i)
    ∙ ap (append_known first) (sym (take-add i n bytes))

pub within_more : (bytes : List ℕ) (i n : ℕ) → i ≤ length bytes → n ≤ length (take (length bytes - i) (drop i bytes)) → i + n ≤ length bytes
within_more bytes i n within few =
    let left : n ≤ length (drop i bytes) = rw take_rest at few in omega (arith, length-drop {A = ℕ})

-- the first bytes are a prefix of them all
pub AppendsFront-take : (first new : Option (List ℕ)) (bytes : List ℕ) (i : ℕ) → new ≡ append_known first (take i bytes) → AppendsFront first new bytes
AppendsFront-take first new bytes i written = record { sent = take i bytes; unsent = drop i bytes; whole = take-append-drop i bytes; written = written }

-- a part was written, and then the rest
pub Writes-behind : (result : Result (Unit {0}) EndFault) (first old new : Option (List ℕ)) (failed : Bool) (sent rest text : List ℕ)
    → sent ++ rest ≡ text → old ≡ append_known first sent → Writes result old new failed rest → Writes result first new failed text
Writes-behind (Ok done) first old new failed sent rest text whole written wrote =
    (append_known-then first old new sent rest written wrote.0 ∙ ap (append_known first) whole, wrote.1)
Writes-behind (Err fault) first old new failed sent rest text whole written wrote = (
  record {
    sent = sent ++ wrote.0.sent;
    unsent = wrote.0.unsent;
    whole = append_assoc sent wrote.0.sent wrote.0.unsent ∙ ap (λ xs. sent ++ xs) wrote.0.whole ∙ whole;
    written = append_known-then first old new sent wrote.0.sent written wrote.0.written;
  },
  wrote.1,
)
