use Rattle.std.proofs.Common.{◌++◌, ◌∷◌, [], sym, ap, subst, ◌∙◌}
use Rattle.kex_script.specs.declared.script.Tail.{Tail}
use Rattle.kex_script.specs.Scripts.{AreTails, IsTail}
use Rattle.kex_script.specs.Pages.{Pages, KeepsItems, IsJoined}
use Rattle.kex_script.proofs.Pages.{keeps_same, keeps_more, tails_more}
use Rattle.kex_script.proofs.writer.Writer.join.Goals as goal

pub returns-clause-sound : goal.returns-clause-sound
returns-clause-sound c =
    let x : Tail = record { before = c.args.before; old = c.args.old; word = c.in_ok-word.word } in
    let h : AreTails c.self.inside.words c.self.inside.lists c.self.inside.tails.items = subst (λ (z : Pages). AreTails z.words z.lists z.tails) (sym c.self.view_is) c.requires.sound in
    let j : IsJoined c.self.inside.lists c.args.before c.args.old c.args.word.now c.args.whole.now = subst (λ (z : Pages). IsJoined z.lists c.args.before c.args.old c.args.word.now c.args.whole.now) (sym c.self.view_is) c.requires.joined in
    let t : IsTail c.word_number.new.words c.self.inside.lists x c.args.whole.now = record { front = j.front; before = j.before; shorter = j.shorter; parts = c.args.word.now; word = c.in_ok-word.ensures.number; plain = j.plain; joined = j.joined } in
    let all = tails_more c.self.inside.words c.word_number.new.words c.self.inside.lists c.self.inside.tails.items x c.args.whole.now c.in_ok-word.ensures.kept h t in
    subst (λ y. AreTails c.word_number.new.words c.add.new.self y) (sym c.in_ok-push.ensures.items) (subst (λ y. AreTails c.word_number.new.words y (c.self.inside.tails.items ++ x ∷ [])) (sym c.in_ok-number.ensures.added) all)

pub returns-clause-grown : goal.returns-clause-grown
returns-clause-grown c = record {
  lists = subst (λ y. KeepsItems c.args.self.now.lists y) (ap (λ (z : Pages). z.lists ++ c.args.whole.now ∷ []) (sym c.self.view_is) ∙ sym c.in_ok-number.ensures.added) (keeps_more c.args.self.now.lists (c.args.whole.now ∷ []));
  rows = subst (λ y. KeepsItems c.args.self.now.rows y) (ap (λ (z : Pages). z.rows) (sym c.self.view_is)) (keeps_same c.args.self.now.rows);
}
