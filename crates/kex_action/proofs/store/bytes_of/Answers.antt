use Rattle.std.proofs.Common.{◌∙◌, sym, ap, inl, [], ◌∷◌, get_or, append-nil}
use Rattle.kex_code.specs.Registers.{pieces_text}
use Rattle.kex_action.proofs.Buffers.{get_or-any}
use Rattle.kex_action.proofs.store.bytes_of.Goals as goal

pub bounds-registers-r : goal.bounds-registers-r
bounds-registers-r c = c.requires c.in-Register.r (inl c.in-Register.is)

pub returns-in-Register : goal.returns-in-Register
returns-in-Register c = c.as_slice-in-Register.ensures ∙ c.index-registers-r.is ∙ get_or-any c.args.registers.now c.in-Register.r c.index-registers-r.result [] (c.requires c.in-Register.r (inl c.in-Register.is)) ∙ sym (append-nil (get_or c.args.registers.now c.in-Register.r [])) ∙ sym (ap (λ p. pieces_text (p ∷ []) c.args.registers.now) c.in-Register.is)
