use Rattle.std.proofs.Common.{◌≡◌, ℕ, [], map, take, drop, get_or}
use Rattle.kex_code.specs.Codes.{IsAmong}
use Rattle.kex_sst.specs.Parts.{olds_in}
use Rattle.kex_sst.specs.Series.{read_parts, substitute}
use Rattle.kex_chunks.proofs.drafts.fill_all.Given as goal

abbrev pub invariant-lists : goal.invariant-lists
invariant-lists l = record {
  made : l.made.items ≡ map (λ xs. substitute l.fn.regs (read_parts l.byte xs)) (take l.list-index l.lists);
  same : (i : ℕ) → IsAmong (olds_in (drop l.list-index l.lists)) i → get_or l.regs i [] ≡ get_or l.fn.regs i [];
}
