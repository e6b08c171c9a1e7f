use Rattle.std.proofs.Common.{refl, ◌∙◌, inl, inr, sym}
use Rattle.kex_reader.proofs.Drafts.{Keeps-refl, Keeps-trans, pre_within}
use Rattle.kex_reader.proofs.Stacks.{put_begins, put_more, put_done, prefix_register}
use Rattle.kex_reader.specs.Stands.{InConstructs}
use Rattle.kex_reader.proofs.Uses.{beside, constructs_are, held_as, none_lost, unchanged}
use Rattle.kex_reader.proofs.terms.put.Goals as goal

pub loop-prefix-init : goal.loop-prefix-init
loop-prefix-init c = record { keeps = Keeps-refl _; broken = refl; held = unchanged _ _ _ (λ x h. h); so_far = λ at base es p h e s. put_begins _ at base _ _ es p h e s }

pub loop-prefix-preserved : goal.loop-prefix-preserved
loop-prefix-preserved c = record {
  keeps = Keeps-trans _ _ _ c.loop-prefix.invariant.keeps c.in_ok-more.ensures.keeps;
  broken = c.in_ok-more.ensures.broken ∙ c.loop-prefix.invariant.broken;
  held = none_lost _ _ _ _ _ _ c.in_ok-more.ensures.keeps c.loop-prefix.invariant.held (beside _ _ _ _ (InConstructs c.take_prefix.new.self) _ _ (λ x h. elim h [ inl e ↦ inl (inl e) | inr i ↦ elim (constructs_are _ _ c.in-Some.ensures.some x i) [ inl j ↦ inl (inr j) | inr j ↦ inr j ] ]) (λ x e. inl e) (λ x i. inr i) c.in_ok-more.ensures.held);
  so_far = λ at base es p h e s. put_more _ _ at base _ _ c.in-Some.prefix c.loop-prefix.whole c.in_ok-more.more _ c.in-Some.ensures.some c.in_ok-more.ensures.keeps c.in_ok-more.ensures.node c.in_ok-more.ensures.place (c.loop-prefix.invariant.so_far at base es p h e s);
}

pub prefixed-requires-clause-within : goal.prefixed-requires-clause-within
prefixed-requires-clause-within c =
    let r = c.requires in
    let s = c.loop-prefix.invariant.so_far r.0 r.1 r.2 r.3 r.4 r.5 r.6 in
    pre_within s.tree c.loop-prefix.draft r.0 c.loop-prefix.whole.node _ s.shows

pub prefixed-requires-clause-register : goal.prefixed-requires-clause-register
prefixed-requires-clause-register c =
    let r = c.requires in
    prefix_register c.loop-prefix.draft r.0 r.1 c.loop-prefix.stack c.take_prefix.new.self c.in-Some.prefix c.loop-prefix.whole _ c.in-Some.ensures.some (c.loop-prefix.invariant.so_far r.0 r.1 r.2 r.3 r.4 r.5 r.6)

pub returns-clause-put : goal.returns-clause-put
returns-clause-put c = λ at base es p h e s. put_done c.loop-prefix.draft at base c.loop-prefix.stack c.take_prefix.new.self c.push.new.self c.loop-prefix.whole _ c.in_default.ensures.none c.in_default.ensures.muted c.in_default.ensures.storing c.in_ok-push.ensures (c.loop-prefix.invariant.so_far at base es p h e s)

pub returns-clause-held : goal.returns-clause-held
returns-clause-held c = held_as _ _ _ _ _ _ (λ x h. h) (λ x h. constructs_are _ _ (sym c.in_ok-push.ensures) x (elim h [ inl e ↦ inl e | inr i ↦ inr (constructs_are _ _ (sym c.in_default.ensures.none) x i) ])) c.loop-prefix.invariant.held
