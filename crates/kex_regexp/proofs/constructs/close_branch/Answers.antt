use Rattle.std.proofs.Common.{List, inl, inr, sym, subst}
use Rattle.kex_model.specs.declared.program.Node.{Node}
use Rattle.kex_regexp.specs.Shown.{Adds}
use Rattle.kex_regexp.proofs.Additions.{Adds-refl, Adds-to, Adds-trans}
use Rattle.kex_regexp.proofs.Stacks.{branch_empty, first_piece, further_piece, branch_done}
use Rattle.kex_regexp.proofs.Bounds.{pieces_within}
use Rattle.kex_regexp.proofs.Parents.{construct_taken, constructs_same, held_as, none_added, none_lost, one_added}
use Rattle.kex_regexp.proofs.constructs.close_branch.Goals as goal

pub returns-in_err-node-clause-adds : goal.returns-in_err-node-clause-adds
returns-in_err-node-clause-adds c = subst (λ (x : List Node). Adds c.args.into.now x) (sym c.in_err-node.ensures.kept) (Adds-refl _)

pub returns-in_default-clause-adds : goal.returns-in_default-clause-adds
returns-in_default-clause-adds c = Adds-to _ _ _ _ c.in_ok-node.ensures.added tt

pub returns-in_default-clause-branch : goal.returns-in_default-clause-branch
returns-in_default-clause-branch c = λ base es h a.
    branch_empty c.args.into.now _ base c.args.constructs.now.items _ es _ c.args.at c.in_default.ensures.none c.in_default.ensures.top c.in_ok-node.ensures.number c.in_ok-node.ensures.added h a

pub loop-piece-init : goal.loop-piece-init
loop-piece-init c = record {
  adds = Adds-refl _;
  so_far = λ base es h a. first_piece _ base _ _ es _ c.in-Some.ensures.some h;
  nodes = none_added _ _ _ (λ n h. construct_taken c.args.constructs.now.items _ _ c.in-Some.ensures.some n h);
}

pub loop-piece-preserved : goal.loop-piece-preserved
loop-piece-preserved c = record {
  adds = Adds-trans _ _ _ c.loop-piece.invariant.adds (Adds-to _ _ _ _ c.in_ok-node-2.ensures.added tt);
  so_far = λ base es h a. further_piece _ _ base _ _ c.loop-piece.branch c.in-Some-take_piece.piece _ _ c.in-Some-take_piece.ensures.some c.in_ok-node-2.ensures.number c.in_ok-node-2.ensures.added (c.loop-piece.invariant.so_far base es h a);
  nodes = none_lost _ _ _ _ _ _ (Adds-to _ _ _ _ c.in_ok-node-2.ensures.added tt) c.loop-piece.invariant.nodes (one_added c.loop-piece.into _ _ _ _ c.in_ok-node-2.ensures.added (λ n h. elim h [ inl e ↦ inl (inr e) | inr f ↦ elim (construct_taken c.loop-piece.constructs.items _ _ c.in-Some-take_piece.ensures.some n f) [ inl e ↦ inl (inl e) | inr g ↦ inr (inr g) ] ]) (inl (sym c.in_ok-node-2.ensures.number)));
}

pub returns-clause-branch : goal.returns-clause-branch
returns-clause-branch c = λ base es h a. branch_done _ base _ _ _ _ c.in_default-take_piece.ensures.none c.in_default-take_piece.ensures.top (c.loop-piece.invariant.so_far base es h a)

pub add-requires-in-Some-take_piece : goal.add-requires-in-Some-take_piece
add-requires-in-Some-take_piece c = pieces_within _ c.requires.0 _ _ c.loop-piece.branch c.in-Some-take_piece.piece _ c.in-Some-take_piece.ensures.some (c.loop-piece.invariant.so_far c.requires.0 c.requires.1 c.requires.2 c.requires.3)

pub returns-in_default-clause-nodes : goal.returns-in_default-clause-nodes
returns-in_default-clause-nodes c = one_added c.args.into.now _ _ _ _ c.in_ok-node.ensures.added (λ n h. inr (inr (constructs_same c.args.constructs.now.items _ c.in_default.ensures.none n h))) (inl (sym c.in_ok-node.ensures.number))

pub returns-clause-nodes : goal.returns-clause-nodes
returns-clause-nodes c = held_as _ _ _ _ _ _ (λ n h. h) (λ n h. elim h [ inl e ↦ inl e | inr f ↦ inr (constructs_same c.loop-piece.constructs.items _ c.in_default-take_piece.ensures.none n f) ]) c.loop-piece.invariant.nodes
