use Rattle.std.proofs.Common.{refl, ◌∙◌, inl, inr, sym}
use Rattle.kex_reader.proofs.Drafts.{Keeps-refl, Keeps-trans}
use Rattle.kex_reader.proofs.Stacks.{seq_begins, seq_more_on, seq_done, seq_none, done_within}
use Rattle.kex_reader.specs.Reading.{take_seq}
use Rattle.kex_reader.specs.Stands.{InConstructs}
use Rattle.kex_reader.proofs.Uses.{beside, constructs_are, held_as, in_seq, none_lost, unchanged}
use Rattle.kex_reader.proofs.terms.close_seq.Goals as goal

pub returns-in_default-clause-seq : goal.returns-in_default-clause-seq
returns-in_default-clause-seq c = λ at base es h. seq_none c.args.draft.now at base c.args.stack.now c.take_done.new.self es c.in_default.ensures.top h

pub loop-front-init : goal.loop-front-init
loop-front-init c = record { keeps = Keeps-refl _; broken = refl; held = unchanged _ _ _ (λ x h. constructs_are _ _ c.in-Some.ensures.some x h); so_far = λ at base es h. seq_begins _ at base _ _ es _ c.in-Some.ensures.some h }

pub loop-front-preserved : goal.loop-front-preserved
loop-front-preserved c = record {
  keeps = Keeps-trans _ _ _ c.loop-front.invariant.keeps c.in_ok-node.ensures.keeps;
  broken = c.in_ok-node.ensures.broken ∙ c.loop-front.invariant.broken;
  held = none_lost _ _ _ _ _ _ c.in_ok-node.ensures.keeps c.loop-front.invariant.held (beside _ _ _ _ (InConstructs c.take_done-in-loop-front.new.self) _ _ (λ x h. elim h [ inl e ↦ inl (in_seq _ _ x (inr e)) | inr i ↦ elim (constructs_are _ _ c.in-Some-take_done.ensures.some x i) [ inl e ↦ inl (in_seq _ _ x (inl e)) | inr j ↦ inr j ] ]) (λ x e. inl e) (λ x i. inr i) c.in_ok-node.ensures.held);
  so_far = λ at base es h. seq_more_on _ _ at base _ _ c.loop-front.seq c.in-Some-take_done.front _ _ c.in-Some-take_done.ensures.some c.in_ok-node.ensures.keeps c.in_ok-node.ensures.node (c.loop-front.invariant.so_far at base es h);
}

pub add-requires-clause-below : goal.add-requires-clause-below
add-requires-clause-below c =
    let r = c.requires in
    done_within c.loop-front.draft r.0 r.1 c.loop-front.stack c.take_done-in-loop-front.new.self c.in-Some-take_done.front c.loop-front.seq (take_seq r.2) c.in-Some-take_done.ensures.some (c.loop-front.invariant.so_far r.0 r.1 r.2 r.3)

pub returns-clause-seq : goal.returns-clause-seq
returns-clause-seq c = λ at base es h. seq_done c.loop-front.draft at base c.loop-front.stack c.take_done-in-loop-front.new.self c.loop-front.seq (take_seq es) c.in_default-take_done.ensures.none c.in_default-take_done.ensures.top (c.loop-front.invariant.so_far at base es h)

pub returns-in_default-clause-held : goal.returns-in_default-clause-held
returns-in_default-clause-held c = unchanged _ _ _ (λ x h. inr (constructs_are _ _ (sym c.in_default.ensures.none) x h))

pub returns-clause-held : goal.returns-clause-held
returns-clause-held c = held_as _ _ _ _ _ _ (λ x h. h) (λ x h. elim h [ inl e ↦ inl e | inr i ↦ inr (constructs_are _ _ (sym c.in_default-take_done.ensures.none) x i) ]) c.loop-front.invariant.held
