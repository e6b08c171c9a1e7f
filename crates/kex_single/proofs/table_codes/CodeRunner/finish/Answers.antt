use Rattle.std.proofs.Common.{ap, sym, subst, ◌∙◌, ◌++◌}
use Rattle.kex_code.specs.Texts.{text_of}
use Rattle.kex_runner.specs.Running.{RunnerEnds}
use Rattle.kex_single.specs.Told.{TellsLast}
use Rattle.kex_single.proofs.TableCodes.{table_ends}
use Rattle.kex_single.proofs.table_codes.CodeRunner.finish.Goals as goal

pub returns-clause-tells : goal.returns-clause-tells
returns-clause-tells c = λ g w d trimmed of s good.
    subst (λ parsed. TellsLast g w parsed d c.args.out.now.items c.write_text.new.out.items) (sym c.is_parsed.ensures)
    (table_ends g c.args.self.now.runner w c.in_ok-ended.ended d c.end.new.code c.args.out.now.items c.write_text.new.out.items of s good (subst (λ z. RunnerEnds c.in_ok-ended.ended c.args.self.now.runner z c.end.new.code) c.new-code.ensures c.in_ok-ended.ensures.over) (c.in_ok-write_text.ensures.ok ∙ ap (λ z. c.args.out.now.items ++ text_of z) c.as_slice.ensures))
