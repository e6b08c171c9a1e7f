use Rattle.std.proofs.Common.{◌≡◌, ◌++◌, ℕ, List, Bool, false, refl, sym, ap₂, subst, ◌∙◌, take}
use Rattle.std.specs.Prelude.{Some}
use Rattle.std.proofs.lemmas.List.{take-append-drop}
use Rattle.kex_pipeline.specs.Sayings.{Said}
use Rattle.kex_pipeline.specs.History.{History}
use Rattle.kex_top.specs.Tallies.{Counts}
use Rattle.kex_pipeline.specs.Piped.{PipeSays, PipeStands, plans_of}
use Rattle.kex_top.proofs.TrialCounts.{fed-more}
use Rattle.kex_top.proofs.call.trial.give_blocks.Goals as goal

pub give-requires-after_bounds : goal.give-requires-after_bounds
give-requires-after_bounds g c = λ κs bounds.
    let all = c.requires.fed in
    let (bytes, fed, parts) = c.blocks-2.invariant.given all.0 all.1 in
    (Some (record { bytes = bytes; ended = false; said = fed.said }), fed.stands_for, refl)

pub blocks-2-preserved : goal.blocks-2-preserved
blocks-2-preserved g c =
    let same = c.blocks-2.invariant.same in
    record {
      same = c.in_ok-more.ensures.same ∙ same;
      given = λ all was.
          let (bytes, fed, parts) = c.blocks-2.invariant.given all was in
          let h : History = Some (record { bytes = bytes; ended = false; said = fed.said }) in
          let piece : List ℕ = take c.args.block c.deref.result.now in
          let rest : List ℕ = c.drop_front.new.waiting.items in
          let says : List g.T.Turn.Plan → List ℕ → Bool → Said → Type 0 = λ p w e said. PipeSays g.T.Turn p w e said in
          let now : History → Type 0 = λ k. PipeStands g.T.Turn c.give.new.pipe k in
          let whole : piece ++ rest ≡ c.blocks-2.waiting.items = ap₂ (λ (a b : List ℕ). take c.args.block a ++ b) c.deref.ensures.value c.drop_front.ensures ∙ take-append-drop c.args.block c.blocks-2.waiting.items in
          let more = subst (λ p. Counts (says p) now h (bytes ++ piece) false c.blocks-2.more c.in_ok-more.more) same (c.in_ok-more.ensures.counts h fed.stands_for refl) in
          fed-more (says (plans_of g.T.Turn c.args.pipe.now)) (λ k. PipeStands g.T.Turn c.blocks-2.pipe k) now all bytes c.blocks-2.waiting.items rest piece c.blocks-2.more c.in_ok-more.more fed parts (sym whole) more;
    }
