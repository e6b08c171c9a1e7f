-- The end of an output, over several calls.
use Rattle.std.proofs.Common.{◌≡◌, true, false, refl, sym, ap, ◌∙◌}
use Rattle.std.specs.Prelude.{Option, Some, None, option_map, Result, Ok, Err, IsErr}
use Rattle.kex_ports.specs.Endings.{Ending, written_ending, failed_ending, counts_of, finishes_of, IsUnfinished}

pub counts_of-written_ending : (e : Option Ending) → counts_of (option_map written_ending e) ≡ counts_of e
counts_of-written_ending None = refl
counts_of-written_ending (Some x) = refl

pub finishes-failed : (e : Option Ending) → finishes_of (option_map failed_ending e) ≡ finishes_of e
finishes-failed None = refl
finishes-failed (Some x) = refl

by-counts : (e : Option Ending) → finishes_of e ≡ option_map (λ c. c.0) (counts_of e)
by-counts None = refl
by-counts (Some x) = refl

-- where the counts are the same, so is the count of calls to finish it
pub same-finishes : (a b : Option Ending) → counts_of a ≡ counts_of b → finishes_of a ≡ finishes_of b
same-finishes a b e = by-counts a ∙ ap (option_map (λ c. c.0)) e ∙ sym (by-counts b)

-- one more write, of some
pub written-on : (old mid new : Option Ending) → counts_of mid ≡ counts_of old → new ≡ option_map written_ending mid → counts_of new ≡ counts_of old
written-on old mid new same e = ap counts_of e ∙ counts_of-written_ending mid ∙ same

pub failed-on : (old mid new : Option Ending) → counts_of mid ≡ counts_of old → new ≡ option_map failed_ending mid → finishes_of new ≡ finishes_of old
failed-on old mid new same e = ap finishes_of e ∙ finishes-failed mid ∙ same-finishes mid old same

-- a call that failed, and in which it wasn't finished
pub unfinished-at : {T E : Type 0} (old new : Option Ending) (r : Result T E) → IsErr r → finishes_of new ≡ finishes_of old → IsUnfinished old new r
unfinished-at old new (Ok x) is same = let bad : false ≡ true = is in cc
unfinished-at old new (Err e) is same = same
