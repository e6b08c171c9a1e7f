use Rattle.std.proofs.Common.{◌≡◌, ◌+◌, ◌-◌, ◌<◌, ◌++◌, get_or, take, drop, length, length-drop, refl, ap, ap₂, subst, ◌∙◌, arith}
use Rattle.std.proofs.lemmas.Bool.{not-false, not-true}
use Rattle.std.proofs.lemmas.List.{take_rest}
use Rattle.kex_byteset.specs.Classes.{class_at, class_count}
use Rattle.kex_script.specs.Pieces.{code_over}
use Rattle.kex_runner.specs.Noting.{contents, next_registers}
use Rattle.kex_runner.proofs.ByteSteps.{Goes, follows_front, follows_none, goes_next, goes_nowhere, next_by_class}
use Rattle.kex_runner.proofs.QuietUpdates.{goes_on}
use Rattle.kex_runner.proofs.ScriptSteps.{told_by, step_of, no_step, runner_next}
use Rattle.kex_sst.specs.Parts.{parts_code}
use Rattle.kex_script.specs.Scripts.{change_at}
use Rattle.kex_runner.proofs.place.TablePlace.follow_held.Goals as goal

pub returns-then-not-entry-clause-follows : goal.returns-then-not-entry-clause-follows
returns-then-not-entry-clause-follows c =
    let s = c.args.guide.now.script in
    let t = c.args.table.now in
    let piece = c.args.piece.now in
    let from = contents s c.args.self.now.registers in
    let regs = contents s c.bytes.self.registers in
    let state = c.bytes.self.state in
    let i = c.bytes.at in
    let before = code_over s.words c.args.pieces.now.items in
    let after = code_over s.words c.bytes.pieces.items in
    let here = c.bytes.invariant.goes in
    let less : i < length piece = c.bytes-test.true in
    let e = c.entry-entry.result in
    let class = c.class_of-class.result in
    let b = get_or piece i 0 in
    let lt : class < class_count t.classes = subst (λ z. class < class_count z) c.partition.ensures.same c.class_of-class.ensures.below in
    let by = next_by_class t state b class c.partition.ensures.table ((c.type_inv.piece i).fits) (c.class_of-class.ensures.class ∙ ap (λ z. class_at z b) c.partition.ensures.same) in
    let none = no_step s t state class e c.bytes.invariant.runner.script lt c.entry-entry.ensures (not-true c.entry-entry.result.goes c.if-not-entry.true) in
    follows_front t c.args.self.now.state from piece i (i + 1) state regs before after (omega (arith, less)) (omega arith)
    (λ more. (refl, λ d. goes_nowhere t c.args.self.now.state from piece i state regs before after b less refl (by ∙ none) here d))
    here

pub take-requires-clause-entry : goal.take-requires-clause-entry
take-requires-clause-entry c =
    let s = c.args.guide.now.script in
    let t = c.args.table.now in
    let class = c.class_of-class.result in
    let lt : class < class_count t.classes = subst (λ z. class < class_count z) c.partition.ensures.same c.class_of-class.ensures.below in
    (step_of s t c.bytes.self.state class c.entry-entry.result c.bytes.invariant.runner.script lt c.entry-entry.ensures (not-false c.entry-entry.result.goes c.if-not-entry.false)).update

pub bytes-preserved : goal.bytes-preserved
bytes-preserved c =
    let s = c.args.guide.now.script in
    let t = c.args.table.now in
    let piece = c.args.piece.now in
    let n = c.in_ok-count.count in
    let rest = take_rest piece c.bytes.at in
    record {
      at = omega (arith, c.in_ok-count.ensures.count, ap length rest, length-drop c.bytes.at piece, c.bytes-test.true);
      goes = goes_on t c.args.self.now.state (contents s c.args.self.now.registers) piece (take (length piece - c.bytes.at) (drop c.bytes.at piece)) c.bytes.at n c.bytes.self.state (contents s c.bytes.self.registers) c.go_on_quietly.new.state (contents s c.go_on_quietly.new.self) (code_over s.words c.args.pieces.now.items) (code_over s.words c.bytes.pieces.items) rest c.bytes.invariant.goes c.in_ok-count.ensures.follows;
      known = c.bytes.invariant.known;
      runner = c.go_on_quietly.ensures.runner;
    }

pub bytes-preserved-then-count-eq0 : goal.bytes-preserved-then-count-eq0
bytes-preserved-then-count-eq0 c =
    let s = c.args.guide.now.script in
    let t = c.args.table.now in
    let piece = c.args.piece.now in
    let from = contents s c.args.self.now.registers in
    let regs = contents s c.bytes.self.registers in
    let state = c.bytes.self.state in
    let i = c.bytes.at in
    let n = c.in_ok-count.count in
    let zero : n ≡ 0 = c.if-count-eq0.true in
    let before = code_over s.words c.args.pieces.now.items in
    let after = code_over s.words c.bytes.pieces.items in
    let less : i < length piece = c.bytes-test.true in
    let e = c.entry-entry.result in
    let class = c.class_of-class.result in
    let b = get_or piece i 0 in
    let same = follows_none t state regs (take (length piece - i) (drop i piece)) n c.go_on_quietly.new.state (contents s c.go_on_quietly.new.self) zero c.in_ok-count.ensures.follows in
    let there : get_or piece (i + n) 0 ≡ b = ap (λ z. get_or piece z 0) (omega (arith, zero)) in
    let lt : class < class_count t.classes = subst (λ z. class < class_count z) c.partition.ensures.same c.class_of-class.ensures.below in
    let by = next_by_class t state b class c.partition.ensures.table ((c.type_inv.piece i).fits) (c.class_of-class.ensures.class ∙ ap (λ z. class_at z b) c.partition.ensures.same) in
    let k = step_of s t state class e c.bytes.invariant.runner.script lt c.entry-entry.ensures (not-false c.entry-entry.result.goes c.if-not-entry.false) in
    let left : contents s c.take.new.self ≡ next_registers (change_at s e.update) b regs = c.in_ok-take.ensures.registers ∙ ap₂ (λ y z. next_registers (change_at s e.update) y z) there same.1 in
    let told : code_over s.words c.take.new.pieces.items ≡ after ++ parts_code regs b (change_at s e.update).out = c.in_ok-take.ensures.pieces ∙ ap₂ (λ y z. after ++ parts_code z y (change_at s e.update).out) there same.1 in
    let on : i + 1 ≡ i + n + 1 = omega (arith, zero) in
    record {
      at = omega (arith, less, zero);
      goes = subst (λ z. Goes t c.args.self.now.state from piece z e.target (contents s c.take.new.self) before (code_over s.words c.take.new.pieces.items)) on
          (goes_next t c.args.self.now.state from piece i state regs before after b less refl (told_by s e) (contents s c.take.new.self) (code_over s.words c.take.new.pieces.items) (by ∙ k.at) left told c.bytes.invariant.goes);
      known = c.in_ok-take.ensures.known;
      runner = runner_next t s state class b e c.bytes.self.registers c.take.new.self c.bytes.invariant.runner k left c.take.ensures.counted;
    }

pub returns-then-at-ge-PATIENCE-clause-follows : goal.returns-then-at-ge-PATIENCE-clause-follows
returns-then-at-ge-PATIENCE-clause-follows c =
    let s = c.args.guide.now.script in
    let i = c.bytes.at in
    follows_front c.args.table.now c.args.self.now.state (contents s c.args.self.now.registers) c.args.piece.now i i c.bytes.self.state (contents s c.bytes.self.registers) (code_over s.words c.args.pieces.now.items) (code_over s.words c.bytes.pieces.items) (omega (arith, c.bytes-test.true)) (omega arith) (λ lt. absurd (omega (arith, lt))) c.bytes.invariant.goes
