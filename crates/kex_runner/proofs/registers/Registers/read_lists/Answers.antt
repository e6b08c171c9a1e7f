use Rattle.std.proofs.Common.{[], ap, ◌∙◌}
use Rattle.std.proofs.lemmas.List.{get_or_read}
use Rattle.kex_sst.specs.Parts.{parts_code}
use Rattle.kex_runner.specs.Noting.{contents, settled_of, spelled_back}
use Rattle.kex_runner.proofs.Settlings.{list_behind}
use Rattle.kex_runner.proofs.registers.Registers.read_lists.Goals as goal

pub lists-preserved : goal.lists-preserved
lists-preserved c =
    let s = c.args.script.now in
    let lists = c.args.lists.now in
    let regs = contents s c.args.self.now in
    let k = c.lists.list-index in
    record {
      read = ap (λ z. settled_of s z) c.in_ok-push.ensures.items
          ∙ list_behind (λ ps. spelled_back s.words ps) (λ xs. parts_code regs 0 xs) c.lists.all.items c.in_ok-settled.settled lists k [] c.lists-test.true c.lists.invariant.read
          (c.in_ok-settled.ensures.read ∙ ap (λ z. parts_code z 0 c.as_slice.result.now) c.lists.invariant.same ∙ ap (λ z. parts_code regs 0 z) (c.as_slice.ensures ∙ get_or_read lists k c.list-item.result c.lists-test.true c.list-item.is []));
      same = c.in_ok-settled.ensures.same ∙ c.lists.invariant.same;
      count = c.in_ok-settled.ensures.count ∙ c.lists.invariant.count;
    }
