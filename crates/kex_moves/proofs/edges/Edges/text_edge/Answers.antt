use Rattle.std.proofs.Common.{◌∙◌, ◌++◌, length, replicate, refl, ap, subst, append_assoc, arith}
use Rattle.kex_moves.specs.Known.{Known, IsOrdered, Lengthens}
use Rattle.kex_moves.proofs.PlacedTexts.{lengthens_none, lengthens_text, settles_short, settles_text}
use Rattle.kex_moves.proofs.edges.Edges.text_edge.Goals as goal

pub returns-in_default : goal.returns-in_default
returns-in_default c = record {
  ordered = subst (λ k. IsOrdered k) c.self.view_is c.self.invariant;
  longer = lengthens_none c.args.self.now;
  settles = λ nodes. settles_short nodes c.args.self.now c.args.next c.args.place c.args.bytes.now _ (omega (arith, c.self.invariant.text, ap (λ k. length k.text) c.self.view_is)) c.requires refl refl refl refl c.kind_of-kind.ensures.written c.in_default.not-Text c.kind_of-kind.ensures.keeps c.kind_of-kind.ensures.drops c.is_keep.ensures.0 c.is_keep.ensures.1;
}

pub returns-in_default-place_behind-clause-longer : goal.returns-in_default-place_behind-clause-longer
returns-in_default-place_behind-clause-longer c = lengthens_none c.args.self.now

pub returns-clause-longer : goal.returns-clause-longer
returns-clause-longer c =
    let e = c.self.inside in
    let k : Known = record { classes = e.classes; width = e.width; shift = e.shift; pairs = e.pairs.items; edges = e.edges.items; text = e.text.items; acts = e.acts.items } in
    let text = c.append_text.new.text.items in
    let bytes = c.args.bytes.now in
    subst (λ q. Lengthens q (record { classes = e.classes; width = e.width; shift = e.shift; pairs = e.pairs.items; edges = e.edges.items; text = text; acts = e.acts.items })) c.self.view_is (lengthens_text k text (bytes ++ replicate 16 0) ((c.in_ok-append_text.ensures {u = tt}).ok ∙ append_assoc k.text bytes (replicate 16 0)))

pub returns-clause-settles : goal.returns-clause-settles
returns-clause-settles c = λ nodes.
    let e = c.self.inside in
    let k : Known = record { classes = e.classes; width = e.width; shift = e.shift; pairs = e.pairs.items; edges = e.edges.items; text = c.append_text.new.text.items; acts = e.acts.items } in
    settles_text nodes k e.text.items c.args.next c.args.place c.args.bytes.now _ (c.in_ok-append_text.ensures {u = tt}).ok c.requires refl (omega (arith, c.in-Some.ensures {u = tt}, c.len-end.ensures)) refl refl c.in-Text.is refl
