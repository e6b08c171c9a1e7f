use Rattle.std.proofs.Common.{◌++◌, ◌∷◌, [], take, sym, ap, subst, ◌∙◌, append_assoc}
use Rattle.kex_each.specs.Lines.{ReadsLines}
use Rattle.kex_each.proofs.LineLists.{feed_cut, feed_none, on_ok_both, read_line, read_rest, reads_more}
use Rattle.kex_each.proofs.lines.Lines.read.Goals as goal

pub lines-preserved : goal.lines-preserved
lines-preserved c =
    let i = c.lines.invariant in
    let rest = c.lines.rest.now in
    let line = take c.in-Some.at rest in
    let f = feed_cut rest c.in-Some.at c.in-Some.ensures in
    record {
      keep = c.end_line.ensures.keep ∙ c.go_on.ensures.keep ∙ i.keep;
      front = i.front ++ (line ++ 10 ∷ []);
      cut = i.cut ∙ ap (λ z. i.front ++ z) f.1 ∙ sym (append_assoc i.front (line ++ 10 ∷ []) _);
      reads = λ w was.
          let before = i.reads w was in
          reads_more w i.front (line ++ 10 ∷ []) c.lines.self c.end_line.new.self c.args.out.now c.lines.out c.end_line.new.out (c.end_line.ensures.keep ∙ c.go_on.ensures.keep) before
          (read_line (w ++ i.front) line c.lines.self c.go_on.new.self c.end_line.new.self c.lines.out c.end_line.new.out f.0 c.in_ok-go_on.ensures.kept c.in_ok-go_on.ensures.begun c.go_on.ensures.keep c.in_ok-end_line.ensures.ended c.in_ok-end_line.ensures.none.0 c.in_ok-end_line.ensures.none.1 c.end_line.ensures.keep before.begun);
    }

pub returns-clause-reads : goal.returns-clause-reads
returns-clause-reads c =
    let i = c.lines.invariant in
    let rest = c.lines.rest.now in
    on_ok_both c.go_on-2.result (λ kept begun w was.
    let before = i.reads w was in
    subst (λ z. ReadsLines w z c.go_on-2.new.self c.args.out.now c.lines.out) (sym i.cut)
    (reads_more w i.front rest c.lines.self c.go_on-2.new.self c.args.out.now c.lines.out c.lines.out c.go_on-2.ensures.keep before
    (read_rest (w ++ i.front) rest c.lines.self c.go_on-2.new.self c.lines.out (feed_none rest c.in_default.ensures) kept begun c.go_on-2.ensures.keep before.begun)))
    c.go_on-2.ensures.kept c.go_on-2.ensures.begun
