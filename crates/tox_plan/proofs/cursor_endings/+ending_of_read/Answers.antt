-- A known ending that comes from upstream leaves the cursor as its operation's ending.
use Rattle.std.proofs.Common.{rules, ◌≡◌, ◌∷◌, Some, None, sym, subst}
use Rattle.tox_plan.proofs.Pulls.{Knows, knows-some, knows-none}
use Rattle.tox_plan.proofs.cursor_endings.+ending_of_read.Goals as goal

pub returns-in-Some-ending_of_read-clause-known : goal.returns-in-Some-ending_of_read-clause-known
returns-in-Some-ending_of_read-clause-known t c =
    let is : c.args.cursors.now ≡ c.in-Some.cursor.now ∷ c.in-Some.upstream.now = search rules in
    subst (λ cursors. Knows cursors (Some c.map_ending.result)) (sym is)
    (knows-some c.in-Some.cursor.now c.in-Some.upstream.now c.ending_of_read.result c.in-Some-ending_of_read.ending c.map_ending.result
    c.ending_of_read.ensures.known c.in-Some-ending_of_read.is (search rules) (λ draws. c.map_ending.ensures draws))

pub returns-in-None-clause-known : goal.returns-in-None-clause-known
returns-in-None-clause-known t c =
    let is : c.args.cursors.now ≡ c.in-Some.cursor.now ∷ c.in-Some.upstream.now = search rules in
    subst (λ cursors. Knows cursors None) (sym is)
    (knows-none c.in-Some.cursor.now c.in-Some.upstream.now c.ending_of_read.result c.ending_of_read.ensures.known c.in-None.is (search rules))
