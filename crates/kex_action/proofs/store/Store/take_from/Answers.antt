use Rattle.std.proofs.Common.{◌≡◌, ◌∙◌, ◌-◌, ap, subst, take, drop, reverse}
use Rattle.kex_code.specs.Registers.{with_content}
use Rattle.kex_model.specs.Moves.{into}
use Rattle.kex_model.specs.Acting.{after_effect}
use Rattle.kex_action.specs.Holdings.{Holding}
use Rattle.kex_action.specs.Sheets.{state_with}
use Rattle.kex_action.proofs.Sheets.{taken}
use Rattle.kex_action.proofs.store.Store.take_from.Goals as goal

pub returns-clause-did : goal.returns-clause-did
returns-clause-did c = λ t out.
    let s = c.in-Some-close.ensures.some in
    let h : Holding = record { buffers = reverse c.self.inside.buffers.items; registers = c.self.inside.registers.items } in
    let bytes = c.in_ok-replace.ensures {u = tt} ∙ ap (λ b. take (c.in-Some-close.end - c.close.new.self.used) (drop c.close.new.self.used b)) c.deref.ensures.value ∙ ap (λ n. take (n - c.close.new.self.used) (drop c.close.new.self.used c.close.new.self.bytes.items)) s.0 in
    subst (λ q. state_with c.close.new.self out (record { buffers = h.buffers; registers = with_content h.registers c.args.r c.replace.new.self }) ≡ after_effect (into c.args.r) (state_with c.args.sheet.now out q)) c.self.view_is (taken c.args.sheet.now c.close.new.self c.replace.new.self out c.args.r h s.1 bytes)
