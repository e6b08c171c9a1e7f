use Rattle.std.proofs.Common.{◌+◌, length, ◌≡◌, ◌⊎◌, ◌∙◌, inl, inr, sym}
use Rattle.std.proofs.lemmas.Option.{slice_get_within}
use Rattle.kex_regexp.proofs.CappedCounts.{good_count}
use Rattle.kex_reader.specs.Syntax.{Turns}
use Rattle.kex_reader.specs.Reading.{entries}
use Rattle.kex_reader.specs.Stands.{InConstructs}
use Rattle.kex_reader.specs.Uses.{NodeNumber}
use Rattle.kex_reader.proofs.Drafts.{atom_within, atom_more}
use Rattle.kex_reader.proofs.Stacks.{constructs_more}
use Rattle.kex_reader.proofs.Steps.{turns_show}
use Rattle.kex_reader.proofs.Modes.{bad_pre}
use Rattle.kex_reader.proofs.Uses.{beside, held_as, in_rep, none_lost}
use Rattle.kex_reader.proofs.inside.end_turns.Goals as goal

pub put-requires : goal.put-requires
put-requires c =
    let r = c.requires in
    (r.0, r.1, r.2, Turns r.3 r.4 c.args.lazy, r.5, r.6, bad_pre c.args.draft.now r.0 c.args.item.node (r.1 + length (entries r.2)) c.args.bounds r.3 r.4 c.args.lazy (sym c.are_bad.ensures ∙ c.if-are_bad.true) r.8 r.7)

pub returns-then-are_bad-clause-put : goal.returns-then-are_bad-clause-put
returns-then-are_bad-clause-put c = λ at base es a p h e s t. c.in_ok-put.ensures.put at base es (Turns a p c.args.lazy) h e (bad_pre c.args.draft.now at c.args.item.node (base + length (entries es)) c.args.bounds a p c.args.lazy (sym c.are_bad.ensures ∙ c.if-are_bad.true) t s)

pub returns-then-are_bad-clause-held : goal.returns-then-are_bad-clause-held
returns-then-are_bad-clause-held c = held_as _ _ _ _ _ _ (λ x h. elim h [ inl i ↦ inr i | inr e ↦ inl e ]) (λ x i. i) c.in_ok-put.ensures.held

pub add-requires-clause-below : goal.add-requires-clause-below
add-requires-clause-below c = let r = c.requires in (atom_within r.3 c.args.draft.now r.0 c.args.item.node _ r.7, good_count c.args.bounds (sym c.are_bad.ensures ∙ c.if-are_bad.false))

pub put-requires-2 : goal.put-requires-2
put-requires-2 c =
    let r = c.requires in
    let i = r.1 + length (entries r.2) in
    let more = c.in_ok-node.ensures.keeps in (
      r.0,
      r.1,
      r.2,
      Turns r.3 r.4 c.args.lazy,
      constructs_more c.args.draft.now c.add.new.self r.0 r.1 c.args.stack.now r.2 more r.5,
      r.6,
      turns_show c.add.new.self r.0 c.in_ok-node.node c.args.item.node i c.args.item.at c.args.bounds r.3 r.4 c.args.lazy (slice_get_within c.add.new.self.nodes c.in_ok-node.node _ c.in_ok-node.ensures.node) r.6 (sym c.are_bad.ensures ∙ c.if-are_bad.false) r.8.0 c.in_ok-node.ensures.node (atom_more r.3 c.args.draft.now c.add.new.self r.0 c.args.item.node i more r.7),
    )

pub returns-clause-put : goal.returns-clause-put
returns-clause-put c = λ at base es a p h e s t.
    let more = c.in_ok-node.ensures.keeps in
    let i = base + length (entries es) in
    c.in_ok-put-2.ensures.put at base es (Turns a p c.args.lazy) (constructs_more c.args.draft.now c.add.new.self at base c.args.stack.now es more h) e
    (turns_show c.add.new.self at c.in_ok-node.node c.args.item.node i c.args.item.at c.args.bounds a p c.args.lazy (slice_get_within c.add.new.self.nodes c.in_ok-node.node _ c.in_ok-node.ensures.node) e (sym c.are_bad.ensures ∙ c.if-are_bad.false) t.0 c.in_ok-node.ensures.node (atom_more a c.args.draft.now c.add.new.self at c.args.item.node i more s))

pub returns-clause-held : goal.returns-clause-held
returns-clause-held c = none_lost _ _ _ _ _ _ c.in_ok-put-2.ensures.keeps
    (beside _ _ _ _ (InConstructs c.args.stack.now) _ (λ x. (x ≡ NodeNumber c.in_ok-node.node) ⊎ InConstructs c.args.stack.now x) (λ x h. elim h [ inl i ↦ inr i | inr e ↦ inl (in_rep _ _ _ _ x e) ]) (λ x e. inl e) (λ x i. inr i) c.in_ok-node.ensures.held)
    c.in_ok-put-2.ensures.held
