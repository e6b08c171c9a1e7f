use Rattle.std.proofs.Common.{◌∙◌, subst, inl, inr, sym}
use Rattle.kex_reader.proofs.Drafts.{Keeps-trans}
use Rattle.kex_reader.proofs.Stacks.{term_begins, term_more_on, term_done, term_none, ended_within}
use Rattle.kex_reader.specs.Reading.{take_seq, take_term}
use Rattle.kex_reader.specs.Stands.{SeqTaken}
use Rattle.kex_reader.specs.Stands.{InConstructs}
use Rattle.kex_reader.proofs.Uses.{beside, constructs_are, held_as, in_alt, none_lost, parts_are}
use Rattle.kex_reader.proofs.terms.close_term.Goals as goal

pub loop-front-init : goal.loop-front-init
loop-front-init c = record { keeps = c.in_ok-closed.ensures.keeps; broken = c.in_ok-closed.ensures.broken; held = held_as _ _ _ _ _ _ (λ x h. h) (λ x h. elim h [ inl p ↦ inl (parts_are _ _ c.in-Some.is x p) | inr i ↦ inr i ]) c.in_ok-closed.ensures.held; so_far = λ at base es h. term_begins c.close_seq.new.draft at base c.close_seq.new.stack es c.in-Some.last (subst (λ o. SeqTaken c.close_seq.new.draft at base c.close_seq.new.stack o (take_seq es)) c.in-Some.is (c.in_ok-closed.ensures.seq at base es h)) }

pub loop-front-preserved : goal.loop-front-preserved
loop-front-preserved c = record {
  keeps = Keeps-trans _ _ _ c.loop-front.invariant.keeps c.in_ok-node.ensures.keeps;
  broken = c.in_ok-node.ensures.broken ∙ c.loop-front.invariant.broken;
  held = none_lost _ _ _ _ _ _ c.in_ok-node.ensures.keeps c.loop-front.invariant.held (beside _ _ _ _ (InConstructs c.take_ended.new.self) _ _ (λ x h. elim h [ inl e ↦ inl (in_alt _ _ x (inr e)) | inr i ↦ elim (constructs_are _ _ c.in-Some-take_ended.ensures.some x i) [ inl e ↦ inl (in_alt _ _ x (inl e)) | inr j ↦ inr j ] ]) (λ x e. inl e) (λ x i. inr i) c.in_ok-node.ensures.held);
  so_far = λ at base es h. term_more_on c.loop-front.draft c.add.new.self at base c.loop-front.stack c.take_ended.new.self c.loop-front.term c.in-Some-take_ended.front c.in_ok-node.node (take_term es) c.in-Some-take_ended.ensures.some c.in_ok-node.ensures.keeps c.in_ok-node.ensures.node (c.loop-front.invariant.so_far at base es h);
}

pub add-requires-clause-below : goal.add-requires-clause-below
add-requires-clause-below c =
    let r = c.requires in
    ended_within c.loop-front.draft r.0 r.1 c.loop-front.stack c.take_ended.new.self c.in-Some-take_ended.front c.loop-front.term (take_term r.2) c.in-Some-take_ended.ensures.some (c.loop-front.invariant.so_far r.0 r.1 r.2 r.3)

pub returns-clause-term : goal.returns-clause-term
returns-clause-term c = λ at base es h. term_done c.loop-front.draft at base c.loop-front.stack c.take_ended.new.self c.loop-front.term (take_term es) c.in_default-take_ended.ensures.none c.in_default-take_ended.ensures.top (c.loop-front.invariant.so_far at base es h)

pub returns-in_default-clause-term : goal.returns-in_default-clause-term
returns-in_default-clause-term c = λ at base es h. term_none c.close_seq.new.draft at base c.close_seq.new.stack es (subst (λ o. SeqTaken c.close_seq.new.draft at base c.close_seq.new.stack o (take_seq es)) c.in_default.is (c.in_ok-closed.ensures.seq at base es h))

pub returns-in_default-clause-held : goal.returns-in_default-clause-held
returns-in_default-clause-held c = held_as _ _ _ _ _ _ (λ x h. h) (λ x h. elim h [ inl p ↦ absurd (parts_are _ _ c.in_default.is x p) | inr i ↦ inr i ]) c.in_ok-closed.ensures.held

pub returns-clause-held : goal.returns-clause-held
returns-clause-held c = held_as _ _ _ _ _ _ (λ x h. h) (λ x h. elim h [ inl e ↦ inl e | inr i ↦ inr (constructs_are _ _ (sym c.in_default-take_ended.ensures.none) x i) ]) c.loop-front.invariant.held
