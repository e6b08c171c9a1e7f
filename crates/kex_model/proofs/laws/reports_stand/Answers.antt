use Rattle.kex_model.proofs.Reports.{stages_stand}
use Rattle.kex_model.proofs.laws.reports_stand.Goals as goal

pub returns : goal.returns
returns c = λ P limit roots w v s t e r q h k.
    let x = stages_stand P limit 1 roots w v s t e r q h k in
    record { text = x.0; report = x.1 }
