use Rattle.std.proofs.Common.{◌≡◌, ◌+◌, ◌-◌, ◌++◌, [], length, map, take, drop, append-nil, sym, ap, subst, ◌∙◌, arith}
use Rattle.std.proofs.Math.ListN.{drop_of_length-le}
use Rattle.std.proofs.Math.Seq.{take-add}
use Rattle.std.specs.Prelude.{slice_get}
use Rattle.std.proofs.lemmas.List.{length-map, length-take-le, take_all}
use Rattle.kex_sst.specs.declared.summary.Course.{Course}
use Rattle.kex_sst.specs.Summaries.{IsSum, Sum, courses_from, then_of}
use Rattle.kex_sst.proofs.Courses.{in_range}
use Rattle.kex_chunks.proofs.Alongs.{courses_in_range}
use Rattle.kex_chunks.proofs.Sums.{courses_more}
use Rattle.kex_chunks.proofs.summing.chunk.Goals as goal

pub go_on-requires-clause-range : goal.go_on-requires-clause-range
go_on-requires-clause-range c = λ q d at.
    let t = c.args.table.now in
    let x = take c.stretches.done c.args.piece.now in
    courses_in_range t x c.stretches.done c.courses_of.ensures.table (length-take-le c.stretches.done c.args.piece.now c.stretches.invariant.within) q d
    (ap (λ z. slice_get z q) (sym (c.deref_mut.ensures.value ∙ c.stretches.invariant.courses)) ∙ at)

pub new-requires : goal.new-requires
new-requires c =
    let t = c.args.table.now in
    let piece = c.args.piece.now in
    let whole : take c.stretches.done piece ≡ piece = take_all c.stretches.done piece (let h = c.stretches-test.false in omega (arith, h)) in
    subst (λ (z : Sum). IsSum z) (ap (λ z. record { bytes = length piece; entries = z }) (sym (c.stretches.invariant.courses ∙ ap (λ z. courses_from t t.states 0 z) whole)))
    (in_range t piece c.courses_of.ensures.table)

pub stretches-preserved : goal.stretches-preserved
stretches-preserved c =
    let t = c.args.table.now in
    let piece = c.args.piece.now in
    let done = c.stretches.done in
    let n = c.min.result in
    let m = c.min.ensures in
    let w = c.stretches.invariant.within in
    let h = c.stretches-test.true in
    let items = c.stretches.courses.items in
    let new = c.go_on.new.courses in
    let y = take ((done + n) - done) (drop done piece) in
    let back : (done + n) - done ≡ n = omega arith in
    let f = λ (d : Course). then_of done (courses_from t t.states 0 y) d in
    let made : new ≡ map f items = c.in_ok-go_on.ensures ∙ ap (λ z. map f z) c.deref_mut.ensures.value in
    let long : length new ≡ length items = ap length made ∙ length-map items f in
    let none : drop (length new) items ≡ [] = drop_of_length-le items (omega (arith, long)) in
    let len = c.deref_mut.ensures.len in
    let same = ap length c.deref_mut.ensures.value in
    let whole : take c.stretches.courses.len (new ++ drop (length new) items) ≡ new = ap (λ z. take c.stretches.courses.len (new ++ z)) none ∙ ap (λ z. take c.stretches.courses.len z) (append-nil new) ∙ take_all c.stretches.courses.len new (omega (arith, long, len, same)) in
    let text : take done piece ++ y ≡ take (done + n) piece = ap (λ k. take done piece ++ take k (drop done piece)) back ∙ sym (take-add done n piece) in
    record {
      within = omega (arith, m, w, h);
      some = λ p. let s = c.stretches.invariant.some p in omega (arith, s);
      courses =
          whole ∙ made
          ∙ ap (λ z. map f z) c.stretches.invariant.courses
          ∙ courses_more t (take done piece) y done c.courses_of.ensures.table (length-take-le done piece w)
          ∙ ap (λ z. courses_from t t.states 0 z) text;
    }
