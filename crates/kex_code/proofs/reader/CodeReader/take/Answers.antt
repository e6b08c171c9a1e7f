use Rattle.std.proofs.Common.{◌≡◌, ◌∷◌, ◌++◌, ◌+◌, [], true, false, refl, subst, sym, ap, ◌∙◌, append-nil}
use Rattle.std.specs.Prelude.{Result, Ok, Err, OnOk}
use Rattle.std.specs.Result.{is_err}
use Rattle.kex_code.specs.Begun.{text_begun}
use Rattle.kex_code.specs.Readers.{CodeReading, FaultLeaves}
use Rattle.kex_code.proofs.CodeReaders.{opened, completed, broken}
use Rattle.kex_code.proofs.reader.CodeReader.take.Goals as goal
use Rattle.kex_code.proofs.reader.CodeReader.take.Goals.{in-Open, in-Whole+else-is_err}

pub returns-in-Wrong-clause-err : goal.returns-in-Wrong-clause-err
returns-in-Wrong-clause-err c =
    let old = c.args.self.now in
    let new : CodeReading = record { begun = text_begun c.self.inside.begun; good = c.self.inside.good; bad = true; usable = c.self.inside.usable } in
    let here : old.begun ≡ text_begun c.self.inside.begun = ap (λ r. r.begun) (sym c.self.view_is) in
    let good : new.good ≡ old.good = ap (λ r. r.good) c.self.view_is in
    subst (λ e. FaultLeaves e old new (c.args.byte ∷ []) c.args.out.now c.args.out.now) (sym c.fault.ensures) (
      record { symbols = []; given = sym (append-nil c.args.out.now); read = broken old new c.self.inside.begun c.args.byte c.requires.good here c.in-Wrong.ensures refl good (sym here) },
      refl,
      refl,
    )

pub returns-clause-ok : goal.returns-clause-ok
returns-clause-ok c =
    let old = c.args.self.now in
    let here : old.begun ≡ text_begun c.self.inside.begun = ap (λ r. r.begun) (sym c.self.view_is) in
    let bad : c.self.inside.bad ≡ false = ap (λ r. r.bad) c.self.view_is ∙ c.requires.good in
    let good : c.self.inside.good + 1 ≡ old.good + 1 = ap (λ r. r.good + 1) c.self.view_is in
    elim c.match-step_by.branch [
      | in-Open w ↦
          let new = c.match-step_by.self-inside in
          let same_bad : new.bad ≡ false = ap (λ r. r.bad) w.self-inside-is ∙ bad in
          let more : new.good + 1 ≡ old.good + 1 = ap (λ r. r.good + 1) w.self-inside-is ∙ good in (
            record { symbols = []; given = w.out-is ∙ sym (append-nil c.args.out.now); read = opened old (record { begun = text_begun new.begun; good = new.good + 1; bad = new.bad; usable = new.usable }) c.self.inside.begun c.args.byte c.requires.good here w.in-Open.begun (w.in-Open.ensures {u = tt}) same_bad more (ap (λ r. text_begun r.begun) w.self-inside-is) },
            same_bad,
            more,
          )
      | in-Whole+else-is_err w ↦
          let new = c.match-step_by.self-inside in
          let same_bad : new.bad ≡ false = ap (λ r. r.bad) w.self-inside-is ∙ bad in
          let more : new.good + 1 ≡ old.good + 1 = ap (λ r. r.good + 1) w.self-inside-is ∙ good in
          let pushed : w.push.new.self ≡ c.args.out.now ++ w.in-Whole.symbol ∷ [] = ok_of w.push.result (sym w.is_err.ensures.value ∙ w.if-is_err.false) w.push.ensures.added in (
            record { symbols = w.in-Whole.symbol ∷ []; given = w.out-is ∙ pushed; read = completed old (record { begun = text_begun new.begun; good = new.good + 1; bad = new.bad; usable = new.usable }) c.self.inside.begun c.args.byte c.requires.good here w.in-Whole.symbol (w.in-Whole.ensures {u = tt}) same_bad more (ap (λ r. text_begun r.begun) w.self-inside-is) },
            same_bad,
            more,
          )
    ]
  where
    ok_of : {T E P : Type 0} (r : Result T E) → is_err r ≡ false → OnOk r P → P
    ok_of (Ok x) e p = p
    ok_of (Err x) e p = cc
