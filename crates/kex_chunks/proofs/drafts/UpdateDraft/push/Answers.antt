use Rattle.std.proofs.Common.{◌≡◌, ◌++◌, map, sym, ap, ap₂, ◌∙◌}
use Rattle.kex_sst.specs.Parts.{Change}
use Rattle.kex_sst.specs.Series.{read_parts, substitute, then_update, with_read}
use Rattle.kex_sst.proofs.Courses.{map-map}
use Rattle.kex_chunks.proofs.drafts.UpdateDraft.push.Goals as goal

pub returns : goal.returns
returns c =
    let b = c.args.byte in
    let u = c.args.update.now in
    let old : Change = record { out = c.self.inside.out; regs = c.self.inside.regs.items } in
    let made : c.swap.new.x.items ≡ c.fill_all.new.made.items = cc in
    ap₂ (λ y z. record { out = y; regs = z })
    (c.in_ok-add_all.ensures ∙ ap₂ (λ r p. old.out ++ substitute r (read_parts b p)) c.deref.ensures.value (c.as_slice.ensures ∙ c.out.ensures))
    (made ∙ c.in_ok-fill_all.ensures ∙ ap₂ (λ r l. map (λ xs. substitute r (read_parts b xs)) l) c.deref_mut.ensures.value c.regs.ensures ∙ sym (map-map (λ xs. read_parts b xs) (λ xs. substitute old.regs xs) u.regs))
    ∙ ap (λ (z : Change). then_update z (with_read b u)) c.self.view_is
