use Rattle.std.proofs.Common.{◌≡◌, ◌∷◌, ◌+◌, [], take, drop, get_or, refl, subst, sym, ap, ◌∙◌, true, arith}
use Rattle.std.specs.Prelude.{Result, Ok, Err, IfErr, IsErrAnd}
use Rattle.std.proofs.lemmas.List.{take_more}
use Rattle.kex_code.specs.Readers.{FaultLeaves, ReadOn}
use Rattle.kex_code.proofs.CodeReaders.{read_both, read_no_more, read_nothing, fault_behind, parted}
use Rattle.kex_code.proofs.reader.CodeReader.feed.Goals as goal

if_err : {A B : Type 0} (r : Result A B) (b : B) (Q : B → Type 0) → IsErrAnd r (λ e. e ≡ b) → Q b → IfErr r Q
if_err (Ok v) b Q is q = absurd is
if_err (Err e) b Q is q = subst Q (sym is) q

pub returns-then-self-clause-err : goal.returns-then-self-clause-err
returns-then-self-clause-err c =
    let old = c.args.self.now in
    let bad : old.bad ≡ true = ap (λ r. r.bad) (sym c.self.view_is) ∙ c.if-self.true in
    subst (λ e. FaultLeaves e old old c.args.piece.now c.args.out.now c.args.out.now) (sym c.fault.ensures) (read_no_more old old [] c.args.piece.now c.args.out.now c.args.out.now bad (read_nothing old c.args.out.now), bad, refl)

pub returns-in_err-take-clause-err : goal.returns-in_err-take-clause-err
returns-in_err-take-clause-err c =
    let i = c.loop-byte.byte-index in
    let piece = c.args.piece.now in
    let f = subst (λ z. FaultLeaves c.in_err-take.field-0.0 c.args.self.now c.take.new.self z c.args.out.now c.take.new.out) (parted piece i c.loop-byte-test.true) (fault_behind c.in_err-take.field-0.0 c.args.self.now c.loop-byte.self c.take.new.self (take i piece) (drop (i + 1) piece) (get_or piece i 0) c.args.out.now c.loop-byte.out c.take.new.out c.loop-byte.invariant.read (c.in_err-take.ensures {u = tt}).err) in
    if_err c.from_residual.result c.in_err-take.field-0.0 (λ e. FaultLeaves e c.args.self.now c.take.new.self piece c.args.out.now c.take.new.out) c.from_residual.ensures.1 f

pub loop-byte-preserved : goal.loop-byte-preserved
loop-byte-preserved c =
    let i = c.loop-byte.byte-index in
    let piece = c.args.piece.now in
    let more = (c.in_ok-take.ensures {u = tt}).ok in
    record {
      read = subst (λ z. ReadOn c.args.self.now c.take.new.self z c.args.out.now c.take.new.out) (sym (take_more piece i 0 c.loop-byte-test.true)) (read_both c.args.self.now c.loop-byte.self c.take.new.self (take i piece) (get_or piece i 0 ∷ []) c.args.out.now c.loop-byte.out c.take.new.out c.loop-byte.invariant.read more.0);
      good = more.1;
      count = omega (arith, more.2, c.loop-byte.invariant.count);
      usable = (c.in_ok-take.ensures {u = tt}).usable.1 (λ e. cc);
    }
