-- The calls to a sink over a run.
use Rattle.std.proofs.Common.{◌≡◌, true, false, sym, ap, ◌∙◌}
use Rattle.std.specs.Prelude.{Option}
use Rattle.kex_ports.specs.Endings.{Ending, counts_of, finishes_of}
use Rattle.kex_ports.proofs.Endings.{same-finishes}
use Rattle.kex_top.specs.Outside.{IsSinkOpen}
use Rattle.kex_top.specs.Run.{is_whole, status_after}
use Rattle.kex_pipeline.specs.declared.pass.Trouble.{Trouble}
use Rattle.kex_pipeline.specs.declared.pass.Trouble.TheVariants as trouble
use Rattle.kex_top.specs.declared.status.Status.{Status}

pub open-worked : (before now : Option Ending) (s : Status) → counts_of now ≡ counts_of before → IsSinkOpen before now s
open-worked before now s same = (same-finishes now before same, λ whole. same)

not-whole : (t : Trouble) → is_whole (status_after t) ≡ true → ⊥
not-whole trouble.Memory y = let bad : false ≡ true = y in cc
not-whole trouble.Write y = let bad : false ≡ true = y in cc

pub open-broken : (before now : Option Ending) (t : Trouble) (s : Status) → s ≡ status_after t → finishes_of now ≡ finishes_of before → IsSinkOpen before now s
open-broken before now t s is same = (same, λ whole. absurd (not-whole t (ap is_whole (sym is) ∙ whole)))
