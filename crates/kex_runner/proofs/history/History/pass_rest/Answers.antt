use Rattle.std.proofs.Common.{◌++◌, List, [], drop, take, sym, ap, subst, ◌∙◌, arith}
use Rattle.std.proofs.lemmas.List.{take_rest}
use Rattle.std.proofs.lemmas.Option.{get_or_from_slice_get}
use Rattle.std.proofs.lemmas.Result.{on_ok_weaker}
use Rattle.kex_sst.specs.Parts.{parts_code}
use Rattle.kex_script.specs.declared.piece.ByteWord.{ByteWord}
use Rattle.kex_script.specs.Pieces.{code_over}
use Rattle.kex_runner.specs.Noting.{registers_after, settled_of, updates_of}
use Rattle.kex_runner.specs.Ways.{AreOlds}
use Rattle.kex_runner.proofs.Pieces.{spelled-append}
use Rattle.kex_runner.proofs.WayLemmas.{way_means, whole_means}
use Rattle.kex_runner.proofs.history.History.pass_rest.Goals as goal

pub returns-then-place-eq0-clause-passed : goal.returns-then-place-eq0-clause-passed
returns-then-place-eq0-clause-passed c = λ from x h.
    let s = c.args.self.now.script.now in
    let p = c.in_ok-place.place in
    let old = c.args.pieces.now.items in
    let said : List ByteWord = drop p.start c.walk.new.room in
    ap (λ z. code_over s.words z) (c.in_ok-extend_from_slice.ensures.items ∙ ap (λ z. old ++ z) (take_rest c.walk.new.room p.start))
    ∙ spelled-append s.words old said
    ∙ ap (λ z. code_over s.words old ++ z) (whole_means s (settled_of s c.args.self.now.base.now) (updates_of s c.args.self.now.notes.now) c.walk.new.ways.lists p from x said c.in_ok-place.ensures.known.none (omega (arith, c.if-place-eq0.true)) (c.in_ok-place.ensures.walked from x h))

pub pass_way-requires-clause-olds : goal.pass_way-requires-clause-olds
pass_way-requires-clause-olds c =
    let h = c.in_ok-place.ensures.way in
    subst (λ z. AreOlds z) (sym (c.way-way.ensures ∙ get_or_from_slice_get c.walk.new.ways.lists c.in_ok-place.place.way h.0 [] h.1.at)) h.1.each

pub returns-clause-passed : goal.returns-clause-passed
returns-clause-passed c =
    let s = c.args.self.now.script.now in
    let base = settled_of s c.args.self.now.base.now in
    let notes = updates_of s c.args.self.now.notes.now in
    let p = c.in_ok-place.place in
    let way = c.way-way.result.now in
    let old = code_over s.words c.args.pieces.now.items in
    let said : List ByteWord = drop p.start c.walk.new.room in
    on_ok_weaker c.pass_way.result (λ e from x h.
    e ∙ ap (λ z. old ++ z) (ap (λ z. parts_code (registers_after base (take p.after notes)) 0 way ++ code_over s.words z) (take_rest c.walk.new.room p.start)
    ∙ way_means s base notes c.walk.new.ways.lists p from way x said (c.in_ok-place.ensures.walked from x h) c.way-way.ensures)) c.pass_way.ensures
