use Rattle.std.proofs.Common.{◌≡◌, ◌≤◌, ◌++◌, length, map, sym, ap, subst, ◌∙◌, arith}
use Rattle.kex_plan.specs.Plans.{AllTell, machine_of}
use Rattle.kex_plan.specs.declared.plan.Telling.TheVariants as telling
use Rattle.kex_compile.specs.Compiled.{HasMachines}
use Rattle.kex_tabfile.specs.Lines.{head_text}
use Rattle.kex_tabfile.specs.Readers.{most_bytes}
use Rattle.kex_tabfile.specs.TableFiles.{IsBadHead, IsGood, IsTableFile, IsTableRefused, goes_in, of_text}
use Rattle.kex_tabfile.proofs.ResultParts.{if_err}
use Rattle.kex_tabfile.proofs.FileChecks.{refused_head, refused_text, refused_stages, refused_end, spells_file}
use Rattle.kex_tabfile.proofs.check.check_table.Goals as goal
use Rattle.kex_tabfile.proofs.check.check_table.Goals.{In_ok-text}

module _ (c : In_ok-text) where
  short : length c.args.bytes.now ≤ most_bytes
  short = omega (arith, c.if-bytes.false)

  before : c.take_head.new.reader.before ≡ head_text c.in_ok-text.text.now
  before = c.in_ok-text.ensures.read.before ∙ ap (λ z. z.before ++ head_text c.in_ok-text.text.now) c.new-reader.ensures

  whole : c.args.bytes.now ≡ head_text c.in_ok-text.text.now ++ c.take_head.new.reader.rest
  whole = sym (ap (λ z. z.rest) c.new-reader.ensures) ∙ c.in_ok-text.ensures.read.came

pub returns-in_err-text-clause-refused : goal.returns-in_err-text-clause-refused
returns-in_err-text-clause-refused c =
    let e = c.in_err-text.field-0.0 in
    let bad = subst (λ z. IsBadHead z.rest e) c.new-reader.ensures c.in_err-text.ensures.bad in
    if_err c.from_residual.result e (λ e. IsTableRefused c.args.bytes.now e) c.from_residual.ensures.1
    (refused_head c.args.bytes.now e (omega (arith, c.if-bytes.false)) bad)

pub returns-in_err-machines-clause-refused : goal.returns-in_err-machines-clause-refused
returns-in_err-machines-clause-refused c =
    let at = (goal.at.returns-in_err-machines-clause-refused c).In_ok-text in
    if_err c.from_residual-in_err-machines.result (of_text c.in_err-machines.field-0.0) (λ e. IsTableRefused c.args.bytes.now e) c.from_residual-in_err-machines.ensures.1
    (refused_text c.args.bytes.now c.in_ok-text.text.now (short at) c.take_head.new.reader (before at) (whole at) c.in_err-machines.field-0.0 c.in_err-machines.ensures.refused)

pub returns-in_err-plans-clause-refused : goal.returns-in_err-plans-clause-refused
returns-in_err-plans-clause-refused c =
    let at = (goal.at.returns-in_err-plans-clause-refused c).In_ok-text in
    let e = c.in_err-plans.field-0.0 in
    if_err c.from_residual-in_err-plans.result e (λ e. IsTableRefused c.args.bytes.now e) c.from_residual-in_err-plans.ensures.1
    (refused_stages c.args.bytes.now c.in_ok-text.text.now (short at) c.take_head.new.reader (before at) (whole at) c.in_ok-machines.machines.items c.in_ok-machines.ensures.machines e c.in_err-plans.ensures.bad)

pub returns-in_err-take_end-clause-refused : goal.returns-in_err-take_end-clause-refused
returns-in_err-take_end-clause-refused c =
    let at = (goal.at.returns-in_err-take_end-clause-refused c).In_ok-text in
    let e = c.in_err-take_end.field-0.0 in
    let r = c.in_ok-plans.ensures.right in
    if_err c.from_residual-in_err-take_end.result e (λ e. IsTableRefused c.args.bytes.now e) c.from_residual-in_err-take_end.ensures.1
    (refused_end c.args.bytes.now c.in_ok-text.text.now (short at) c.take_head.new.reader (before at) (whole at) c.in_ok-machines.machines.items c.in_ok-machines.ensures.machines (map goes_in c.in_ok-plans.plans.items) r.0 r.1 c.take_stages.new.reader r.2 e c.in_err-take_end.ensures.bad)

pub returns-clause-agreed : goal.returns-clause-agreed
returns-clause-agreed c = subst (λ z. AllTell telling.Agreed z) (sym c.new.ensures) c.in_ok-plans.ensures.agreed

pub returns-clause-good : goal.returns-clause-good
returns-clause-good c =
    let at = (goal.at.returns-clause-good c).In_ok-text in
    let file = c.args.bytes.now in
    let text = c.in_ok-text.text.now in
    let plans = c.in_ok-plans.plans.items in
    let ms = c.in_ok-machines.machines.items in
    let r = c.in_ok-plans.ensures.right in
    let same : map machine_of plans ≡ ms = c.in_ok-plans.ensures.machines in
    let spells : IsTableFile file text ms (map goes_in plans) = spells_file file text (short at) c.take_head.new.reader (before at) (whole at) ms c.in_ok-machines.ensures.machines (map goes_in plans) r.0 r.1 c.take_stages.new.reader r.2 c.in_ok-take_end.ensures.right in
    subst (λ z. IsGood file z) (sym c.new.ensures) (record {
      text = text;
      machines = subst (λ z. HasMachines text z) (sym same) c.in_ok-machines.ensures.machines;
      spells = subst (λ z. IsTableFile file text z (map goes_in plans)) (sym same) spells;
      tables = c.in_ok-plans.ensures.tables;
    })
