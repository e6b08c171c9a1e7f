use Rattle.std.proofs.Common.{[], Some}
use Rattle.std.proofs.lemmas.Result.{on_ok_weaker}
use Rattle.kex_model.specs.Labelled.{tip}
use Rattle.kex_paths.specs.Forests.{no_parts, at_tip}
use Rattle.kex_paths.proofs.forest.Forest.add_tip.Goals as goal

pub returns : goal.returns
returns c = on_ok_weaker c.push_root.result (λ done rs has. done (Some (record { label = []; tree = tip c.args.place })) rs (no_parts, at_tip) has) c.push_root.ensures
