-- Lines that are printed and counted, one part behind the other.
use Rattle.std.proofs.Common.{◌≡◌, ℕ, ◌+◌, ◌-◌, ◌^◌, ◌≤◌, List, [], ◌∷◌, ◌++◌, length, min, IfOk, Result, Ok, Err, arith, drop, get_or, length-append, refl}
use Rattle.std.proofs.Common.{rules, sym}
use Rattle.std.specs.Result.{IsErrAnd}
use Rattle.std.proofs.lemmas.Grind.{flat_map-append}
use Rattle.tox_time.specs.declared.ends.Sink.{Ghosts}
use Rattle.tox_config.specs.Proxy.{Proxy}
use Rattle.tox_text.specs.declared.pick_text.PrintPickFault.{PrintPickFault}
use Rattle.tox_text.specs.declared.printer.SizedPrinter.{SizedPrinter}
use Rattle.tox_text.proofs.Printings.{Prints-as, Prints-exited, Prints-failed, Prints-passed, Prints-then}
use Rattle.tox_check.specs.Checking.{held}
use Rattle.tox_check.specs.Printing.{PrintsLines, joined_lines}
use Rattle.tox_check.specs.ProxyLines.{proxies_lines, proxy_lines}

-- where there is a fault, nothing is counted
pub IfOk-failed : {A E : Type 0} (P : A → Type 0) (Q : E → Type 0) (result : Result A E) → IsErrAnd result Q → IfOk result P
IfOk-failed P Q (Ok value) exit = absurd exit
IfOk-failed P Q (Err fault) exit = search rules

joined : (xs ys : List (List ℕ)) → joined_lines xs ++ joined_lines ys ≡ joined_lines (xs ++ ys)
joined xs ys = sym (flat_map-append (λ line. line) xs ys)

module _ {W : Type 0} {sink : Ghosts W} {R : ℕ} (xs ys : List (List ℕ)) where
  -- both parts were printed
  pub PrintsLines-then : {a b count : ℕ} {first old new : SizedPrinter W R}
      → PrintsLines sink (Ok a) first old xs → PrintsLines sink (Ok b) old new ys → count ≡ min (a + b) (2 ^ 64 - 1)
      → PrintsLines sink (Ok count) first new (xs ++ ys)
  PrintsLines-then {count = count} before after is =
      let sum : count ≡ held (length (xs ++ ys)) = omega (arith, length-append xs ys, is, before.1, after.1) in
      (Prints-as (joined xs ys) (Prints-passed (Prints-then before.0 after.0)), sum)

  -- the first part broke off
  pub PrintsLines-front : {result : Result ℕ PrintPickFault} {fault : PrintPickFault} {first new : SizedPrinter W R} → IsErrAnd result (λ same. same ≡ fault)
      → PrintsLines sink (Err fault) first new xs → PrintsLines sink result first new (xs ++ ys)
  PrintsLines-front {result = result} exit front = (Prints-as (joined xs ys) (Prints-failed (joined_lines ys) exit front.0), IfOk-failed _ _ result exit)

  -- the second part broke off
  pub PrintsLines-stops : {result : Result ℕ PrintPickFault} {fault : PrintPickFault} {a : ℕ} {first old new : SizedPrinter W R}
      → IsErrAnd result (λ same. same ≡ fault)
      → PrintsLines sink (Ok a) first old xs → PrintsLines sink (Err fault) old new ys → PrintsLines sink result first new (xs ++ ys)
  PrintsLines-stops {result = result} exit before front =
      (Prints-as (joined xs ys) (Prints-then before.0 (Prints-exited exit front.0)), IfOk-failed _ _ result exit)

-- the lines of the first proxy, and those of the others
pub proxies_lines-first : (proxies : List Proxy) (d : Proxy) → 1 ≤ length proxies
    → proxy_lines (get_or proxies 0 d) ++ proxies_lines (drop 1 proxies) ≡ proxies_lines proxies
proxies_lines-first [] d some = absurd (omega arith)
proxies_lines-first (proxy ∷ proxies) d some = refl
