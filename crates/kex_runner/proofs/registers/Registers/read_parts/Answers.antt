use Rattle.std.proofs.Common.{◌≡◌, ◌+◌, ◌-◌, ◌<◌, ◌++◌, drop, length, get_or, ap, ◌∙◌, arith}
use Rattle.kex_code.specs.declared.symbol.Symbol.TheVariants.{L}
use Rattle.kex_sst.specs.declared.parts.Part.TheVariants.{Put}
use Rattle.kex_sst.specs.Parts.{parts_code, value}
use Rattle.kex_runner.specs.Noting.{contents, spelled_back}
use Rattle.kex_runner.proofs.Settlings.{part_before}
use Rattle.kex_runner.proofs.registers.Registers.read_parts.Goals as goal

pub parts-preserved : goal.parts-preserved
parts-preserved c =
    let s = c.args.script.now in
    let parts = c.args.parts.now in
    let regs = contents s c.args.self.now in
    let k = c.parts.left - 1 in
    let lt : k < length parts = (let some = c.parts-test.true in let w = c.parts.invariant.within in omega (arith, some, w)) in
    let back : c.parts.left ≡ k + 1 = (let some = c.parts-test.true in omega (arith, some)) in
    record {
      within = (let w = c.parts.invariant.within in omega (arith, w));
      read = part_before regs 0 parts k (Put L) (spelled_back s.words c.parts.pieces.items) (spelled_back s.words c.read_part.new.back.items) lt
          (c.parts.invariant.read ∙ ap (λ n. parts_code regs 0 (drop n parts)) back)
          (c.in_ok-read_part.ensures.read ∙ ap (λ z. value z 0 (get_or parts k (Put L)) ++ spelled_back s.words c.parts.pieces.items) c.parts.invariant.same);
      same = c.in_ok-read_part.ensures.same ∙ c.parts.invariant.same;
      count = c.in_ok-read_part.ensures.count ∙ c.parts.invariant.count;
    }
