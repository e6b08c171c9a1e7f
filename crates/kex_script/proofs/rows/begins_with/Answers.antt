use Rattle.std.proofs.Common.{length, take, subst}
use Rattle.std.proofs.lemmas.Bool.Decides.{Decides-eqb}
use Rattle.std.proofs.lemmas.Slice.Eq.{slice_eq-Decides}
use Rattle.kex_script.specs.Pages.{KeepsItems}
use Rattle.kex_script.proofs.Pages.{keeps_front}
use Rattle.kex_script.proofs.rows.begins_with.Goals as goal

pub returns : goal.returns
returns c = λ same.
    let row = c.args.row.now in
    let front = take (length row) c.args.numbers.now in
    subst (λ z. KeepsItems z c.args.numbers.now) ((slice_eq-Decides Decides-eqb front row c.eq.result c.eq.ensures).0 same) (keeps_front (length row) c.args.numbers.now)
