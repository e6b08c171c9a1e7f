use Rattle.std.proofs.Common.{◌≡◌, [], true, sym, ap, ◌∙◌, true≢false, arith}
use Rattle.kex_code.specs.Begun.{text_begun}
use Rattle.kex_code.proofs.Texts.{nothing_begun}
use Rattle.kex_code.proofs.CodeReaders.{whole_text}
use Rattle.kex_code.proofs.reader.CodeReader.whole.Goals as goal

pub returns-in_default : goal.returns-in_default
returns-in_default c =
    let here : c.args.self.now.begun ≡ text_begun c.self.inside.begun = ap (λ r. r.begun) (sym c.self.view_is) in
    let open_yet : c.args.self.now.begun ≡ [] → ⊥ = λ e. c.in_default.not-Nothing (nothing_begun c.self.inside.begun (sym here ∙ e)) in
    record {
      state = ((λ t. cc), (λ s. absurd (open_yet s.1)));
      text = λ w d h. ((λ t. cc), (λ i. absurd (open_yet ((whole_text c.args.self.now c.self.inside.begun here w d h).1 i).1)));
    }

pub returns-else-not-self-clause-text : goal.returns-else-not-self-clause-text
returns-else-not-self-clause-text c = λ w d h.
    let here : c.args.self.now.begun ≡ text_begun c.self.inside.begun = ap (λ r. r.begun) (sym c.self.view_is) in
    let bad : c.args.self.now.bad ≡ true = ap (λ r. r.bad) (sym c.self.view_is) ∙ c.if-not-self.false in
    ((λ t. grind (arith, c.if-not-self.false)), (λ i. absurd (true≢false (sym bad ∙ ((whole_text c.args.self.now c.self.inside.begun here w d h).1 i).0))))
