use Rattle.std.proofs.Common.{subst}
use Rattle.std.specs.Prelude.{IfSome}
use Rattle.kex_constants.specs.Alike.{PassAlike, SpeakAlike}
use Rattle.kex_constants.proofs.CopiedLists.{if_ok}
use Rattle.kex_constants.proofs.Machines.{speaks, speaks_on}
use Rattle.kex_constants.proofs.shorten_table.Goals as goal

pub returns-in-None-clause-alike : goal.returns-in-None-clause-alike
returns-in-None-clause-alike c = let t = c.args.table.now in if_ok (PassAlike t) (SpeakAlike t) c.clear_table.result (λ u h. speaks t u h) c.clear_table.ensures.alike

pub returns-in-Some-clause-alike : goal.returns-in-Some-clause-alike
returns-in-Some-clause-alike c =
    let t = c.args.table.now in
    let s = c.in-Some.split in
    let alike : SpeakAlike t s = subst (λ o. IfSome o (SpeakAlike t)) c.in-Some.is (c.in_ok-split_table.ensures {u = tt}).alike in
    if_ok (PassAlike s) (SpeakAlike t) c.clear_table-in-Some.result (λ u h. speaks_on t s u alike h) c.clear_table-in-Some.ensures.alike
