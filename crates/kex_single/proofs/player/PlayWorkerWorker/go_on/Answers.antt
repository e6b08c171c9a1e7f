use Rattle.std.proofs.Common.{◌≡◌, ◌+◌, ◌-◌, ◌^◌, ◌++◌, List, min, length, refl, sym, ap, subst, ◌∙◌}
use Rattle.kex_code.specs.declared.symbol.Symbol.{Symbol}
use Rattle.kex_code.specs.Readers.{ReaderHasRead}
use Rattle.kex_code.specs.Texts.{text_of as code_text}
use Rattle.kex_machine.specs.Nodes.{Graph}
use Rattle.kex_action.specs.Actors.{BeginsRun, IsWholeCode}
use Rattle.kex_pipe.specs.Working.{ReadMore}
use Rattle.kex_single.specs.Plays.{SaysPlayed, WritesRun}
use Rattle.kex_single.specs.Playing.{BadAt, PlayFollows, RefusesSymbol}
use Rattle.kex_single.proofs.Players.{bad_read, good_read, play_reads, text_read}
use Rattle.kex_single.proofs.player.PlayWorkerWorker.go_on.Goals as goal

pub returns-clause-reads : goal.returns-clause-reads
returns-clause-reads c = λ w text follows.
    let s = c.args.self.now in
    let g = s.actor.machine in
    let piece = c.args.piece.now in
    let m1 : c.perform.new.actor.machine ≡ g = c.in_ok-refused.ensures.machine in
    let symbols : List Symbol = c.read.new.code in
    let reads = c.in_ok-bad.ensures.reads in
    let read = text_read c.in_ok-bad.bad s.reader c.read.new.reader piece c.new-code.result symbols reads in
    let is_symbols : symbols ≡ read.symbols = read.given ∙ ap (λ (z : List Symbol). z ++ read.symbols) c.new-code.ensures in
    let spelt : ReaderHasRead c.read.new.reader (w ++ piece) (follows.code ++ symbols) =
    subst (λ (z : List Symbol). ReaderHasRead c.read.new.reader (w ++ piece) (follows.code ++ z)) (sym is_symbols) (read.read w follows.code follows.spelt) in
    let refuses : RefusesSymbol c.in_ok-refused.refused s.actor c.perform.new.actor symbols c.args.out.now.items c.perform.new.out.items =
    subst (λ (z : List Symbol). RefusesSymbol c.in_ok-refused.refused s.actor c.perform.new.actor z c.args.out.now.items c.perform.new.out.items) c.as_slice.ensures c.in_ok-refused.ensures.performs in
    let place : BadAt c.in_ok-refused.refused c.in_ok-bad.bad s.size symbols c.bad_at-at.result =
    subst (λ (z : List Symbol). BadAt c.in_ok-refused.refused c.in_ok-bad.bad s.size z c.bad_at-at.result) c.as_slice-2.ensures c.bad_at-at.ensures in
    let size_is : c.size_on-self.result ≡ min (s.size + length (code_text symbols)) (2 ^ 64 - 1) =
    c.size_on-self.ensures ∙ ap (λ (z : List Symbol). min (s.size + length (code_text z)) (2 ^ 64 - 1)) c.as_slice-3.ensures in
    let more = play_reads g s.reader c.read.new.reader s.actor c.perform.new.actor s.size w text follows m1 refl c.args.out.now.items c.perform.new.out.items piece symbols spelt
    c.size_on-self.result c.in_ok-refused.refused c.in_ok-bad.bad c.bad_at-at.result c.requires.room size_is refuses
    (bad_read c.in_ok-bad.bad s.reader c.read.new.reader piece c.new-code.result symbols reads)
    (good_read c.in_ok-bad.bad s.reader c.read.new.reader piece c.new-code.result symbols reads)
    place in
    let F : Graph → Type 0 = λ m. ReadMore (λ u b t. SaysPlayed (BeginsRun g) (IsWholeCode g) (WritesRun g) u b t)
    (λ u t. PlayFollows m c.read.new.reader c.perform.new.actor c.size_on-self.result u t) w text piece c.bad_at-at.result c.args.out.now.items c.perform.new.out.items in
    subst F (sym m1) more
