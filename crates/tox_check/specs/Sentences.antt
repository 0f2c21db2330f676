-- The sentences of warnings.
use Rattle.std.specs.Prelude.{ℕ, ◌==◌, Bool, List, [], ◌∷◌, ◌++◌, codes, decimal, nat_eq, nat_le, Option, None, Some, option_map, if◌then◌else◌}
use Rattle.std.specs.List.{starts_with}
use Rattle.tox_text.specs.Names.{visible_name}
use Rattle.tox_check.specs.declared.idleness.Idleness.{Idleness}
use Rattle.tox_check.specs.declared.idleness.Idleness.TheVariants.{DoesNothing, HasNoTime, Lost, CutsLast}
use Rattle.tox_check.specs.declared.run.Run.{Run}
use Rattle.tox_check.specs.declared.warning.Warning.{Warning}
use Rattle.tox_check.specs.declared.warning.Warning.TheVariants.{UnknownProxy, Covered, Partly, NoToxicity, ChangesNothing, Seldom, Disabled}

-- where the connections of a run end, unless it has only one: `on` up to the last there is
abbrev pub run_end : Run → List ℕ
run_end run =
    if nat_le 1_000_000 run.last then codes " on"
    else if run.first == run.last then []
    else codes " to " ++ decimal run.last

-- the connections of a run
abbrev pub range_text : Run → List ℕ
range_text run = decimal run.first ++ run_end run

-- the connections of runs
abbrev pub ranges_text : List Run → List ℕ
ranges_text [] = []
ranges_text (run ∷ []) = range_text run
ranges_text (run ∷ next ∷ runs) = range_text run ++ (codes ", " ++ ranges_text (next ∷ runs))

-- which rule connections meet
abbrev pub meet_text : ℕ → List ℕ
meet_text rule = codes " meet rule " ++ decimal rule

-- which rule connections meet, unless the next ones meet it too
abbrev pub meet_unless : ℕ → ℕ → List ℕ
meet_unless rule next = if rule == next then [] else meet_text rule

-- the connections of runs, and the rules that they meet
abbrev pub taken_text : List Run → List ℕ
taken_text [] = []
taken_text (run ∷ []) = range_text run ++ meet_text run.rule
taken_text (run ∷ next ∷ runs) =
    range_text run ++ (meet_unless run.rule next.rule ++ (codes ", " ++ taken_text (next ∷ runs)))

-- how many more ranges there are
abbrev pub more_text : ℕ → List ℕ
more_text more = if more == 0 then [] else codes ", and " ++ decimal more ++ codes " more"

-- the name of a near proxy, behind that of none
abbrev pub near_text : Option (List ℕ) → List ℕ
near_text None = codes "\n"
near_text (Some near) = codes " (" ++ visible_name near ++ codes "?)\n"

-- no proxy has this name
abbrev pub unknown_text : List ℕ → Option (List ℕ) → List ℕ
unknown_text name near = (codes " never applies: no proxy " ++ visible_name name) ++ near_text near

-- one rule covers all connections
abbrev pub one_covers : ℕ → List ℕ
one_covers rule = codes "rule " ++ decimal rule ++ codes " covers its connections\n"

-- some rules cover all connections
abbrev pub some_cover : ℕ → ℕ → List ℕ
some_cover low high =
    codes "rules " ++ decimal low ++ codes " to " ++ decimal high ++ codes " cover its connections\n"

-- the rules of these numbers and others between them cover all connections
abbrev pub covering_text : ℕ → ℕ → List ℕ
covering_text low high = if low == high then one_covers low else some_cover low high

-- a rule gets no connection, since these rules cover all of its own
abbrev pub covered_text : ℕ → ℕ → List ℕ
covered_text low high = codes " never applies: " ++ covering_text low high

-- the rule gets some runs and so many more only, and rules before it get others and so many more
abbrev pub partly_text : List Run → ℕ → List Run → ℕ → List ℕ
partly_text own more taken others =
    codes " applies to " ++ (ranges_text own ++ (more_text more
    ++ (codes " only: connections " ++ (taken_text taken ++ (more_text others ++ codes "\n")))))

-- the toxic of a number has the toxicity 0
abbrev pub no_toxicity_text : ℕ → List ℕ
no_toxicity_text toxic = codes " toxic " ++ decimal toxic ++ codes " never applies: toxicity 0\n"

-- why a toxic changes nothing
abbrev pub reason_text : Idleness → List ℕ
reason_text DoesNothing = codes "it delays nothing"
reason_text HasNoTime = codes "it has stopped when it begins"
reason_text Lost = codes "a timeout drops all data"
reason_text CutsLast = codes "it cuts without delay, and is the last"

-- the toxic of a number changes nothing, for this reason
abbrev pub changes_nothing_text : ℕ → Idleness → List ℕ
changes_nothing_text toxic why =
    codes " toxic " ++ decimal toxic ++ codes " changes nothing: " ++ reason_text why ++ codes "\n"

-- the toxic of a number has the toxicity 1
abbrev pub seldom_text : ℕ → List ℕ
seldom_text toxic = codes " toxic " ++ decimal toxic ++ codes " seldom applies: toxicity 1 is a thousandth\n"

-- the proxy of this name is disabled
abbrev pub disabled_text : List ℕ → List ℕ
disabled_text name = codes " is for proxy " ++ visible_name name ++ codes ", which is disabled\n"

-- what is reported of a rule
abbrev pub warning_text : Warning → List ℕ
warning_text (UnknownProxy name near) = unknown_text name.now (option_map (λ near. near.now) near)
warning_text (Covered low high) = covered_text low high
warning_text (Partly own taken) =
    partly_text own.shown.items own.more taken.shown.items taken.more
warning_text (NoToxicity toxic) = no_toxicity_text toxic
warning_text (ChangesNothing toxic why) = changes_nothing_text toxic why
warning_text (Seldom toxic) = seldom_text toxic
warning_text (Disabled name) = disabled_text name.now

-- the sentence of a warning of a rule, by its number from 1
abbrev pub sentence : ℕ → Warning → List ℕ
sentence rule warning = (codes "rule " ++ decimal rule) ++ warning_text warning

-- whether it tells of a rule that it never applies
abbrev pub tells_never : List ℕ → Bool
tells_never text = starts_with nat_eq text (codes " never applies: ")
