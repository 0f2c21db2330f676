-- What looking for a cause by its name finds.
use Rattle.std.proofs.Common.{◌≡◌, ◌≢◌, ℕ, true, false, Bool, List, [], ◌∷◌, cond, refl, sym, Option, None, Some, MatchOption}
use Rattle.std.specs.List.{AllByRecursion, find}
use Rattle.std.specs.Str.{bytes_eq}
use Rattle.std.proofs.lemmas.Bool.Decides.{not_from_Decides}
use Rattle.std.proofs.lemmas.Slice.Eq.{bytes_eq-Decides}
use Rattle.tox_log.specs.LastText.{cause_name}
use Rattle.tox_log.specs.declared.last_line.BreakCause.{BreakCause}
use Rattle.tox_log.specs.declared.last_line.BreakCause.TheVariants.{Write, Memory, Thread, Upstream, Stopped}

-- what is found passes the test, and where nothing is, no element does
module _ {X : Type 0} (test : X → Bool) where
  abbrev Finds : Option X → List X → Type 0
  Finds found xs = MatchOption found (AllByRecursion (λ x. test x ≡ false) xs) (λ x. test x ≡ true)

  find_tells : (xs : List X) → Finds (find test xs) xs
  find_tells [] = tt
  find_tells (x ∷ xs) = by (test x) refl (find test xs) (find_tells xs)
    where
      by : (b : Bool) → test x ≡ b → (found : Option X) → Finds found xs → Finds (cond b (Some x) found) (x ∷ xs)
      by true is found rest = is
      by false is None rest = (is, rest)
      by false is (Some _) rest = rest

abbrev pub all_causes : List BreakCause
all_causes = Write ∷ Memory ∷ Thread ∷ Upstream ∷ Stopped ∷ []

each_of : (P : BreakCause → Type 0) → AllByRecursion P all_causes → (cause : BreakCause) → P cause
each_of P all Write = all.0
each_of P all Memory = all.1.0
each_of P all Thread = all.1.1.0
each_of P all Upstream = all.1.1.1.0
each_of P all Stopped = all.1.1.1.1.0

-- what is reported of a name where this cause was found, or none
abbrev pub MeansCause : List ℕ → Option BreakCause → Type 0
MeansCause name found = MatchOption found ((cause : BreakCause) → name ≢ cause_name cause) (λ cause. name ≡ cause_name cause)

pub cause_found : (name : List ℕ) → MeansCause name (find (λ cause. bytes_eq (cause_name cause) name) all_causes)
cause_found name = tells _ (find_tells is_named all_causes)
  where
    is_named : BreakCause → Bool
    is_named cause = bytes_eq (cause_name cause) name

    tells : (found : Option BreakCause) → Finds is_named found all_causes → MeansCause name found
    tells None none = λ cause same. not_from_Decides (is_named cause) (bytes_eq-Decides (cause_name cause) name) (each_of (λ c. is_named c ≡ false) none cause)
        (sym same)
    tells (Some cause) is = sym ((bytes_eq-Decides (cause_name cause) name).0 is)
