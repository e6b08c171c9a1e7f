use Rattle.std.proofs.Common.{inl, inr, sym}
use Rattle.kex_regexp.proofs.Additions.{Adds-to, Adds-trans}
use Rattle.kex_regexp.proofs.Stacks.{first_branch, further_branch, regex_done}
use Rattle.kex_regexp.proofs.Bounds.{branches_within}
use Rattle.kex_regexp.proofs.Parents.{construct_taken, constructs_same, held_as, none_lost, one_added}
use Rattle.kex_regexp.proofs.constructs.close_regex.Goals as goal

pub loop-branch-init : goal.loop-branch-init
loop-branch-init c = record {
  adds = c.close_branch.ensures.adds;
  so_far = λ base es h a. first_branch _ base _ es _ (c.in_ok-regex.ensures.branch base es h a);
  nodes = c.in_ok-regex.ensures.nodes;
}

pub loop-branch-preserved : goal.loop-branch-preserved
loop-branch-preserved c = record {
  adds = Adds-trans _ _ _ c.loop-branch.invariant.adds (Adds-to _ _ _ _ c.in_ok-node.ensures.added tt);
  so_far = λ base es h a. further_branch _ _ base _ _ c.loop-branch.regex c.in-Some.branch _ _ c.in-Some.ensures.some c.in_ok-node.ensures.number c.in_ok-node.ensures.added (c.loop-branch.invariant.so_far base es h a);
  nodes = none_lost _ _ _ _ _ _ (Adds-to _ _ _ _ c.in_ok-node.ensures.added tt) c.loop-branch.invariant.nodes (one_added c.loop-branch.into _ _ _ _ c.in_ok-node.ensures.added (λ n h. elim h [ inl e ↦ inl (inr e) | inr f ↦ elim (construct_taken c.loop-branch.constructs.items _ _ c.in-Some.ensures.some n f) [ inl e ↦ inl (inl e) | inr g ↦ inr (inr g) ] ]) (inl (sym c.in_ok-node.ensures.number)));
}

pub returns-clause-regex : goal.returns-clause-regex
returns-clause-regex c = λ base es h a. regex_done _ base _ _ _ _ c.in_default.ensures.none c.in_default.ensures.top (c.loop-branch.invariant.so_far base es h a)

pub add-requires : goal.add-requires
add-requires c = branches_within _ c.requires.0 _ _ c.loop-branch.regex c.in-Some.branch _ c.in-Some.ensures.some (c.loop-branch.invariant.so_far c.requires.0 c.requires.1 c.requires.2 c.requires.3)

pub returns-clause-nodes : goal.returns-clause-nodes
returns-clause-nodes c = held_as _ _ _ _ _ _ (λ n h. h) (λ n h. elim h [ inl e ↦ inl e | inr f ↦ inr (constructs_same c.loop-branch.constructs.items _ c.in_default.ensures.none n f) ]) c.loop-branch.invariant.nodes
