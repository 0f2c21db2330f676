-- How deep tables nest, and that each date in them can be printed.
use Rattle.std.proofs.Common.{◌≡◌, ℕ, ◌≤◌, ℤ, Bool, true, false, ◌&&◌, List, Option, Some, None, Ordering, Less, Equal, Greater, nat_cmp, is_eq, refl, sym, ap}
use Rattle.std.proofs.Common.{◌∙◌, arith}
use Rattle.std.proofs.lemmas.Bool.{and_parts}
use Rattle.std.proofs.lemmas.Cmp.{nat_list_cmp_total}
use Rattle.std.proofs.lemmas.Map.Text.{is_eq-slice_cmp}
use Rattle.std.proofs.lemmas.Slice.Eq.{bytes_eq-Decides}
use Rattle.std.specs.Cmp.{tied_itself}
use Rattle.std.specs.Cmp.Lexicographic.{slice_cmp}
use Rattle.std.specs.List.{list_all}
use Rattle.toml.proofs.Blanks.{below, below_from}
use Rattle.toml.specs.Data.{Data, string, integer, float, boolean, datetime, array, table, Items, Members, no_members, member, as_integer, as_str, depth}
use Rattle.toml.specs.Data.{items_depth, members_depth, get_member, has_valid_dates, items_have_valid_dates, members_have_valid_dates, is_before, is_sorted}
use Rattle.toml.specs.Data.{members_are_sorted}
use Rattle.tox_script.specs.fields.Fields.{is_among, member_keys}

-- a value nests no deeper than so many levels
pub record IsShallow (levels : ℕ) (d : Data) : Type 0 where
  pub deep : depth d ≤ levels
  pub dates : has_valid_dates d ≡ true

-- each of some values does
pub record ItemsAreShallow (levels : ℕ) (ds : Items) : Type 0 where
  pub deep : items_depth ds ≤ levels
  pub dates : items_have_valid_dates ds ≡ true

-- each value of some members does
pub record MembersAreShallow (levels : ℕ) (ms : Members) : Type 0 where
  pub deep : members_depth ms ≤ levels
  pub dates : members_have_valid_dates ms ≡ true

-- whether a value is a text or a whole number
abbrev pub is_scalar : Data → Bool
is_scalar (string s) = true
is_scalar (integer z) = true
is_scalar _ = false

-- what only texts and whole numbers give comes of one of them
pub is_scalar-read : {A : Type 0} (d : Data) (read : Option (List ℕ) → Option ℤ → Option A) (x : A) → read None None ≡ None
    → read (as_str d) (as_integer d) ≡ Some x → is_scalar d ≡ true
is_scalar-read (string s) read x none is = refl
is_scalar-read (integer z) read x none is = refl
is_scalar-read (float f) read x none is = absurd (cc)
is_scalar-read (boolean b) read x none is = absurd (cc)
is_scalar-read (datetime dt) read x none is = absurd (cc)
is_scalar-read (array ds) read x none is = absurd (cc)
is_scalar-read (table ms) read x none is = absurd (cc)

-- a text or a whole number has no levels
pub IsShallow-scalar : (levels : ℕ) (d : Data) → is_scalar d ≡ true → IsShallow levels d
IsShallow-scalar levels (string s) is = record { deep = omega arith; dates = refl }
IsShallow-scalar levels (integer z) is = record { deep = omega arith; dates = refl }
IsShallow-scalar levels (float f) is = absurd (cc)
IsShallow-scalar levels (boolean b) is = absurd (cc)
IsShallow-scalar levels (datetime dt) is = absurd (cc)
IsShallow-scalar levels (array ds) is = absurd (cc)
IsShallow-scalar levels (table ms) is = absurd (cc)

-- each key of the members comes behind this one
abbrev AreBehind : List ℕ → Members → Type 0
AreBehind k no_members = Unit {0}
AreBehind k (member l d ms) = below k l × AreBehind k ms

AreBehind-earlier : (j k : List ℕ) (ms : Members) → below j k → AreBehind k ms → AreBehind j ms
AreBehind-earlier j k no_members order behind = tt
AreBehind-earlier j k (member l d ms) order behind = (nat_list_cmp_total.trans j k l order behind.0, AreBehind-earlier j k ms order behind.1)

AreBehind-sorted : (k : List ℕ) (ms : Members) → is_before k ms ≡ true → members_are_sorted ms ≡ true → AreBehind k ms
AreBehind-sorted k no_members order sorted = tt
AreBehind-sorted k (member l d ms) order sorted =
    let (front, more) = and_parts (is_before l ms && is_sorted d) (members_are_sorted ms) sorted in
    let (next, here) = and_parts (is_before l ms) (is_sorted d) front in
    let first = below_from k l order in
    (first, AreBehind-earlier k l ms first (AreBehind-sorted l ms next more))

get_member-behind : (k : List ℕ) (ms : Members) → AreBehind k ms → get_member k ms ≡ None
get_member-behind k no_members behind = refl
get_member-behind k (member l d ms) behind = rw behind.0 (get_member-behind k ms behind.1)

-- keys that are alike are one key
same_key : (j k : List ℕ) → slice_cmp nat_cmp j k ≡ Equal → j ≡ k
same_key j k is = (bytes_eq-Decides j k).0 (sym (is_eq-slice_cmp j k) ∙ ap is_eq is)

-- a key of the later members finds the same among all
later : (k : List ℕ) (d : Data) (ms : Members) (key : List ℕ) (e : Data) (o : Ordering) → AreBehind k ms → slice_cmp nat_cmp key k ≡ o
    → get_member key ms ≡ Some e → get_member key (member k d ms) ≡ Some e
later k d ms key e Less behind is found = rw is found
later k d ms key e Equal behind is found =
    let none : get_member key ms ≡ None = rw (same_key key k is) (get_member-behind k ms behind) in
    absurd (cc)
later k d ms key e Greater behind is found = rw is found

-- what holds of each value that a key finds holds of all
pub MembersAreShallow-each : (levels : ℕ) (ms : Members) → members_are_sorted ms ≡ true
    → ((key : List ℕ) (d : Data) → get_member key ms ≡ Some d → is_sorted d ≡ true → IsShallow levels d) → MembersAreShallow levels ms
MembersAreShallow-each levels no_members sorted each = record { deep = omega arith; dates = refl }
MembersAreShallow-each levels (member k d ms) sorted each =
    let (front, more) = and_parts (is_before k ms && is_sorted d) (members_are_sorted ms) sorted in
    let (next, here) = and_parts (is_before k ms) (is_sorted d) front in
    let behind = AreBehind-sorted k ms next more in
    let first = each k d (rw (tied_itself nat_list_cmp_total k) refl) here in
    let others = MembersAreShallow-each levels ms more (λ key e found. each key e (later k d ms key e (slice_cmp nat_cmp key k) behind refl found)) in
    record { deep = omega (arith, first.deep, others.deep); dates = rw (first.dates, others.dates) refl }

among_at : (keys : List (List ℕ)) (key k : List ℕ) (e : Data) (ms : Members) (d : Data) (o : Ordering) → slice_cmp nat_cmp key k ≡ o → is_among keys k ≡ true
    → get_member key (member k e ms) ≡ Some d → (get_member key ms ≡ Some d → is_among keys key ≡ true) → is_among keys key ≡ true
among_at keys key k e ms d Less is here found others = others (rw is at found)
among_at keys key k e ms d Equal is here found others = rw (same_key key k is) here
among_at keys key k e ms d Greater is here found others = others (rw is at found)

-- a key that finds a value is one of those that a table may have
pub is_among-found : (keys : List (List ℕ)) (ms : Members) (key : List ℕ) (d : Data) → list_all (is_among keys) (member_keys ms) ≡ true
    → get_member key ms ≡ Some d → is_among keys key ≡ true
is_among-found keys no_members key d all found = absurd (cc)
is_among-found keys (member k e ms) key d all found =
    let (here, more) = and_parts (is_among keys k) (list_all (is_among keys) (member_keys ms)) all in
    among_at keys key k e ms d (slice_cmp nat_cmp key k) refl here found (is_among-found keys ms key d more)
