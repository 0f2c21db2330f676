-- The names so far are already too long.
use Rattle.std.specs.Borrow.{Bor}
use Rattle.std.proofs.Common.{◌≡◌, ℕ, ◌<◌, List, [], ◌∷◌, ◌++◌, Option, Some, None, IfNone, flat_map, get_or, length, length-append, suc, take, drop, drop-cons}
use Rattle.std.proofs.Common.{ap, sym, ◌∙◌, arith}
use Rattle.std.proofs.lemmas.Grind.{flat_map-append}
use Rattle.std.proofs.lemmas.List.{take-append-drop}
use Rattle.tox_text.specs.Names.{visible_name}
use Rattle.tox_serve.specs.output.OpenLine.{spaced}
use Rattle.tox_serve.proofs.output.open_line.add_names.Goals as goal

if-none : {T : Type 0} (made : Option T) (P : Type 0) → P → IfNone made P
if-none None P holds = holds
if-none (Some x) P holds = tt

longer : (line old : List ℕ) (names : List (Bor (List ℕ))) (i : ℕ) (d : Bor (List ℕ)) → i < length names → line ≡ old ++ flat_map spaced (take i names)
    → 6144 < length (line ++ 32 ∷ (visible_name (get_or names i d).now ++ [])) → 6144 < length (old ++ flat_map spaced names)
longer line old names i d here is long =
    let name : Bor (List ℕ) = get_or names i d in
    let front = flat_map spaced (take i names) in
    let back = flat_map spaced (drop (suc i) names) in
    let whole : flat_map spaced names ≡ front ++ (spaced name ++ back) =
    ap (flat_map spaced) (sym (take-append-drop i names)) ∙ flat_map-append spaced (take i names) (drop i names)
    ∙ ap (λ names. front ++ flat_map spaced names) (drop-cons names i d here) in
    let a = length-append line (32 ∷ (visible_name name.now ++ [])) in
    let b = length-append (visible_name name.now) [] in
    let c = ap length is ∙ length-append old front in
    let e = length-append old (flat_map spaced names) in
    let f = ap length whole ∙ length-append front (spaced name ++ back) in
    let h = length-append (spaced name) back in
    omega (arith, long, a, b, c, e, f, h)

pub returns-in_err-add-clause-long : goal.returns-in_err-add-clause-long
returns-in_err-add-clause-long c =
    if-none c.from_residual.result _
    (longer c.loop-name.line.bytes.items c.args.line.now.bytes.items c.args.names.now c.loop-name.name-index _ c.loop-name-test.true c.loop-name.invariant.added
    c.in_err-add.ensures.long)
