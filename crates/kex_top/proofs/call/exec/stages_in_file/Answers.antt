use Rattle.std.proofs.Common.{◌≤◌, length, subst}
use Rattle.kex_ports.specs.Shelf.{told_of}
use Rattle.kex_tabfile.specs.Readers.{most_bytes}
use Rattle.kex_tabfile.specs.TableFiles.{IsGood}
use Rattle.kex_top.proofs.TableCommands.{holds-stages}
use Rattle.kex_top.proofs.call.exec.stages_in_file.Goals as goal

pub returns-in-Ok-clause-checked : goal.returns-in-Ok-clause-checked
returns-in-Ok-clause-checked g c =
    let told = told_of (g.H.Shelf.texts c.args.shelf.now) c.args.name.now in
    holds-stages told c.in_ok-file.file.items c.in-Ok.checked c.in_ok-file.ensures.found
    (subst (λ z. length z ≤ most_bytes) c.deref.ensures.value c.in-Ok.ensures.within)
    (subst (λ z. IsGood z c.in-Ok.checked) c.deref.ensures.value c.in-Ok.ensures.good)
