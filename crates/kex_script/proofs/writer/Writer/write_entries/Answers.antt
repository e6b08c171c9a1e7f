use Rattle.std.proofs.Common.{◌∷◌, [], None, length, sym, subst, arith}
use Rattle.std.proofs.lemmas.List.{get_or_read}
use Rattle.kex_script.specs.Pages.{KeepsItems}
use Rattle.kex_script.proofs.Pages.{entries_next, grows_on, keeps_more}
use Rattle.kex_script.proofs.writer.Writer.write_entries.Goals as goal

pub loop-transition-preserved : goal.loop-transition-preserved
loop-transition-preserved c =
    let inv = c.loop-transition.invariant in
    let i = c.loop-transition.transition-index in
    let es = c.loop-transition.entries.items in
    let e = c.in_ok-entry.entry in
    let more = c.in_ok-push.ensures.items in
    record {
      entries = entries_next c.loop-transition.self c.entry.new.self es c.push.new.self.items c.args.all.now (length c.args.entries.now.items) i e c.transition-item.result c.in_ok-entry.ensures.grown inv.entries inv.long more
          (get_or_read c.args.all.now i c.transition-item.result c.loop-transition-test.true c.transition-item.is None) c.in_ok-entry.ensures.entry;
      long = omega (arith, inv.long, c.in_ok-push.ensures.len);
      kept = λ k x at. subst (λ z. KeepsItems es z) (sym more) (keeps_more es (e ∷ [])) k x (inv.kept k x at);
      sound = c.in_ok-entry.ensures.sound;
      grown = grows_on inv.grown c.in_ok-entry.ensures.grown;
    }
