use Rattle.std.proofs.Common.{◌+◌, ◌-◌, ◌<◌, ◌∙◌, ◌∷◌, length, drop, set, get_or, ap, arith, length-set, get_or-set_same}
use Rattle.std.proofs.lemmas.List.{drop-set, drop-set-lt}
use Rattle.kex_script.specs.declared.piece.ByteWord.{ByteWord}
use Rattle.kex_runner.proofs.WayLemmas.{word_said}
use Rattle.kex_runner.proofs.history.walking.say.Goals as goal

pub returns-in-Some-clause-said : goal.returns-in-Some-clause-said
returns-in-Some-clause-said c = λ words w is.
    let room = c.args.room.now in
    let start = c.args.start in
    let none : ByteWord = record { word = 0; byte = 0 } in
    let first : ByteWord = record { word = c.from-word.result; byte = (get_or room (start - 1) none).byte } in
    let once = set room (start - 1) first in
    let p : ByteWord = record { word = (get_or once (start - 1) none).word; byte = c.args.byte } in
    let same = ap (λ (z : ByteWord). z.word) (get_or-set_same room (start - 1) first none (omega (arith, c.requires.some, c.requires.within))) ∙ c.from-word.ensures in
    let fits : start - 1 < length once = omega (arith, c.requires.some, c.requires.within, length-set room (start - 1) first) in
    let rest = drop-set-lt (start - 1 + 1) room (start - 1) first (omega arith) in
    word_said words c.args.word w c.in-Some.word c.args.byte p.word (drop start room) _ c.in-Some.is same (drop-set once (start - 1) p fits ∙ ap (λ z. p ∷ z) rest ∙ ap (λ z. p ∷ drop z room) (omega (arith, c.requires.some))) is
