use Rattle.std.proofs.Common.{◌≡◌, map, take, length, sym, ap, ap₂, subst, ◌∙◌, arith}
use Rattle.std.proofs.Math.Seq.{take-length}
use Rattle.kex_paths.specs.Spellings.{key_of, token_number}
use Rattle.kex_paths.specs.Tasks.{tokens, tokens_from, EachTip}
use Rattle.kex_paths.proofs.Preorders.{tokens_of_lists, key_of_tokens, key_same, each_tip, tip_within}
use Rattle.kex_paths.proofs.WalkLoop.{tip_at}
use Rattle.kex_paths.proofs.tree.PathTree.key.Goals as goal

pub number_of-requires : goal.number_of-requires
number_of-requires c =
    let s = c.self.invariant.shape in
    let m = length c.self.inside.machine.now.nodes in
    let few = c.self.invariant.few in
    let text : c.deref-token-items.result.now ≡ tokens s = c.deref-token-items.ensures.value ∙ c.in_ok-read_tokens.ensures ∙ ap₂ (λ u v. tokens_from u v) (c.deref.ensures.value ∙ c.self.invariant.inner_is) (c.deref-2.ensures.value ∙ c.self.invariant.places_are) ∙ tokens_of_lists s in
    tip_within m 4294967295 _ (omega arith) (tip_at m c.deref-token-items.result.now c.loop-token.token-index (subst (λ z. EachTip m z) (sym text) (each_tip m s c.self.invariant.in_range)) c.loop-token-test.true)

pub returns-clause-key : goal.returns-clause-key
returns-clause-key c = λ s is.
    let items = c.deref-token-items.result.now in
    let all : c.loop-token.token-index ≡ length items = omega arith in
    let text : items ≡ tokens s = c.deref-token-items.ensures.value ∙ c.in_ok-read_tokens.ensures ∙ ap₂ (λ u v. tokens_from u v) (c.deref.ensures.value ∙ ap (λ z. z.shape) c.self.view_is ∙ is.0) (c.deref-2.ensures.value ∙ ap (λ z. z.leaves) c.self.view_is ∙ is.1) ∙ tokens_of_lists s in
    c.loop-token.invariant ∙ ap (λ z. map token_number (take z items)) all ∙ ap (λ z. map token_number z) (take-length items ∙ text) ∙ key_of_tokens s

pub returns-clause-equal : goal.returns-clause-equal
returns-clause-equal c = λ s t is.
    let items = c.deref-token-items.result.now in
    let all : c.loop-token.token-index ≡ length items = omega arith in
    let text : items ≡ tokens s = c.deref-token-items.ensures.value ∙ c.in_ok-read_tokens.ensures ∙ ap₂ (λ u v. tokens_from u v) (c.deref.ensures.value ∙ ap (λ z. z.shape) c.self.view_is ∙ is.0) (c.deref-2.ensures.value ∙ ap (λ z. z.leaves) c.self.view_is ∙ is.1) ∙ tokens_of_lists s in
    let key : c.loop-token.key.items ≡ key_of s = c.loop-token.invariant ∙ ap (λ z. map token_number (take z items)) all ∙ ap (λ z. map token_number z) (take-length items ∙ text) ∙ key_of_tokens s in
    ((λ e. key_same s t (sym key ∙ e)), (λ e. key ∙ ap (λ z. key_of z) e))
