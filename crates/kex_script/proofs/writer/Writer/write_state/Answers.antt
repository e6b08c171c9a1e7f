use Rattle.std.proofs.Common.{◌≡◌, ◌+◌, ◌<◌, None, length, get_or, sym, ap, subst, ◌∙◌, arith}
use Rattle.kex_sst.proofs.Fans.{fan_get}
use Rattle.kex_script.specs.declared.entries.EntryPlace.{EntryPlace}
use Rattle.kex_script.specs.declared.entries.StateEntries.{StateEntries}
use Rattle.kex_script.specs.Pages.{IsEntryAt}
use Rattle.kex_script.proofs.Pages.{states_next}
use Rattle.kex_script.proofs.writer.Writer.write_state.Goals as goal

pub returns-clause-states : goal.returns-clause-states
returns-clause-states c = λ before s same h.
    let p = c.args.self.now in
    let q = c.write_entries.new.self in
    let go = c.args.go.now in
    let ns = c.parts.result.0.now in
    let ds = c.parts.result.1.now in
    let a = c.args.states.now in
    let b : StateEntries = record { places = c.push.new.self; numbers = c.put_numbers.new.numbers; entries = c.write_entries.new.entries } in
    let x : EntryPlace = record { numbers = c.in_ok-numbers.numbers; first = c.in-Ok.first } in
    let first : length a.entries.items ≡ c.in-Ok.first = omega (arith, c.in-Ok.ensures.1, c.len.ensures, a.entries.ok.0) in
    states_next p q a b before s x c.in_ok-write_entries.ensures.grown c.in_ok-numbers.ensures.kept c.in_ok-write_entries.ensures.kept (c.in_ok-push.ensures {u = tt}).items h
    (λ class lt.
    let less = subst (λ z. class < length z) same lt in
    let n = get_or ns class 0 in
    let entry = c.in_ok-write_entries.ensures.entries n (c.parts.ensures.fan.each class less) in
    let told : get_or ds n None ≡ get_or s.go class None =
    sym (fan_get (length go) ns ds class less) ∙ ap (λ z. get_or z class None) (sym c.parts.ensures.same) ∙ ap (λ z. get_or z class None) (sym same) in
    record {
      number = n;
      told = c.in_ok-numbers.ensures.at class (omega (arith, less, c.len-2.ensures.long));
      entry = subst (λ z. IsEntryAt q b.entries.items (c.in-Ok.first + n) z) told (subst (λ z. IsEntryAt q b.entries.items (z + n) (get_or ds n None)) first entry);
    })
