use Rattle.std.proofs.Common.{◌≡◌, ◌++◌, List, All, length, drop, sym, ap, subst, ◌∙◌, arith, drop_of_length-le}
use Rattle.std.proofs.lemmas.List.{length-map, take_rest}
use Rattle.std.proofs.lemmas.Result.{on_ok_weaker}
use Rattle.kex_sst.specs.declared.parts.Part.{Part}
use Rattle.kex_sst.specs.Parts.{parts_code}
use Rattle.kex_script.specs.declared.piece.ByteWord.{ByteWord}
use Rattle.kex_script.specs.Pieces.{code_over}
use Rattle.kex_runner.specs.Noting.{noted_by, settled_of, update_of, updates_of}
use Rattle.kex_runner.specs.Ways.{HasWalked, IsSplit, IsStepIf}
use Rattle.kex_runner.proofs.Pieces.{spelled-append}
use Rattle.kex_runner.proofs.WayLemmas.{split_means, walked_none, whole_means}
use Rattle.kex_runner.proofs.history.History.pass_split.Goals as goal
use Rattle.kex_runner.proofs.history.History.pass_split.Goals.{After-walk_known-place}

module _ (c : After-walk_known-place) (list : List Part) (split : IsSplit c.args.self.now.script.now.words c.args.ways.now.lists c.args.split list) where
  abbrev behind : List ByteWord
  behind = drop c.say-start.result c.say-start.new.room

  walked : HasWalked c.args.self.now.script.now c.args.ways.now.lists (updates_of c.args.self.now.script.now c.args.self.now.notes.now) split.front c.walk_known-place.result behind (drop c.walk_known-place.result.start c.walk_known-place.new.room)
  walked =
      let s = c.args.self.now.script.now in
      let ways = c.args.ways.now.lists in
      c.walk_known-place.ensures.walked s ways split.front behind (subst (λ z. All (IsStepIf s ways) z) (sym c.steps.ensures) c.requires.known.steps)
      (walked_none s ways (updates_of s c.args.self.now.notes.now) split.front (record { way = c.args.split.way; last = c.args.split.last; after = length c.args.self.now.notes.now; start = c.say-start.result }) behind (sym (length-map c.args.self.now.notes.now (λ n. update_of s n))) split.way)

  means : parts_code (noted_by c.args.self.now.script.now c.args.self.now.base.now c.args.self.now.notes.now) 0 split.front ++ code_over c.args.self.now.script.now.words behind ≡ parts_code (noted_by c.args.self.now.script.now c.args.self.now.base.now c.args.self.now.notes.now) c.args.byte list
  means = split_means c.args.self.now.script.now (noted_by c.args.self.now.script.now c.args.self.now.base.now c.args.self.now.notes.now) c.args.ways.now.lists c.args.split c.args.byte list (drop (length c.as_mut_slice-room.result.now) c.as_mut_slice-room.result.now) behind split c.say-start.ensures.said (drop_of_length-le c.as_mut_slice-room.result.now (omega arith))

pub returns-then-place-eq0-clause-passed : goal.returns-then-place-eq0-clause-passed
returns-then-place-eq0-clause-passed c = λ list split.
    let top = (goal.at.returns-then-place-eq0-clause-passed c).After-walk_known-place in
    let s = c.args.self.now.script.now in
    let p = c.walk_known-place.result in
    let old = c.args.pieces.now.items in
    let said : List ByteWord = drop p.start c.walk_known-place.new.room in
    ap (λ z. code_over s.words z) (c.in_ok-extend_from_slice.ensures.items ∙ ap (λ z. old ++ z) (take_rest c.walk_known-place.new.room p.start))
    ∙ spelled-append s.words old said
    ∙ ap (λ z. code_over s.words old ++ z) (whole_means s (settled_of s c.args.self.now.base.now) (updates_of s c.args.self.now.notes.now) c.args.ways.now.lists p split.front (behind top list split) said c.requires.known.none (omega (arith, c.if-place-eq0.true)) (walked top list split) ∙ means top list split)

pub pass_rest-requires-clause-way : goal.pass_rest-requires-clause-way
pass_rest-requires-clause-way c =
    let top = (goal.at.pass_rest-requires-clause-way c).After-walk_known-place in
    let h = walked top c.requires.split.0 c.requires.split.1 in
    (h.to, h.way)

pub pass_rest-requires-clause-after : goal.pass_rest-requires-clause-after
pass_rest-requires-clause-after c =
    let top = (goal.at.pass_rest-requires-clause-after c).After-walk_known-place in
    let h = walked top c.requires.split.0 c.requires.split.1 in
    omega (arith, h.after, length-map c.args.self.now.notes.now (λ n. update_of c.args.self.now.script.now n))

pub returns-clause-passed : goal.returns-clause-passed
returns-clause-passed c =
    let top = (goal.at.returns-clause-passed c).After-walk_known-place in
    let old = code_over c.args.self.now.script.now.words c.args.pieces.now.items in
    on_ok_weaker c.pass_rest.result (λ e list split. e split.front (behind top list split) (walked top list split) ∙ ap (λ z. old ++ z) (means top list split)) c.pass_rest.ensures.passed
