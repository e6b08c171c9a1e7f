use Rattle.std.proofs.Common.{◌≡◌, ℕ, ◌++◌, List, length, sym, ap, ap₂, subst, ◌∙◌}
use Rattle.std.specs.Prelude.{codes, decimal}
use Rattle.kex_byteset.specs.Classes.{class_count}
use Rattle.kex_determine.specs.Determined.{IsDetermined}
use Rattle.kex_tabfile.specs.Lines.{stage_front, stage_line}
use Rattle.kex_tabfile.specs.PlaceNumbers.{ArePlaceNumbers}
use Rattle.kex_tabfile.specs.TableFiles.{goes_of}
use Rattle.kex_tabfile.specs.Walks.{IsStageText}
use Rattle.kex_tabfile.specs.Writing.{states_text}
use Rattle.kex_tabfile.proofs.ResultParts.{on_ok}
use Rattle.kex_tabfile.proofs.WrittenStates.{stage_text}
use Rattle.kex_tabfile.proofs.WrittenFiles.{stage_joined}
use Rattle.kex_tabfile.proofs.write.write_stage.Goals as goal

pub returns : goal.returns
returns c =
    let t = c.args.table.now in
    let out = c.args.out.now.items in
    let made = c.in_ok-trees.ensures in
    let g = c.in_ok-trees.trees.workspace in
    let numbers = c.in_ok-trees.trees.numbers.items in
    let d : IsDetermined g t = subst (λ z. IsDetermined z t) (sym made.machine) c.requires.determined in
    let states = states_text numbers t.initial 0 d.shapes t.states in
    let bytes = stage_line c.args.stage (class_count t.classes) (length t.states) ++ states in
    let front : c.push_stage_front.new.line.items ≡ out ++ stage_front c.args.stage (class_count t.classes) = c.in_ok-push_stage_front.ensures ∙ ap (λ v. out ++ stage_front c.args.stage v) (c.classes.ensures.count ∙ ap class_count c.partition.ensures.same) in
    let line : c.push_stage_rest.new.line.items ≡ (out ++ stage_front c.args.stage (class_count t.classes)) ++ (decimal (length t.states) ++ codes "\n") = c.in_ok-push_stage_rest.ensures ∙ ap₂ (λ u v. u ++ (decimal v ++ codes "\n")) front (ap length c.states.ensures.same) in
    let right : IsStageText c.args.stage g (goes_of t.states) bytes = stage_text g t d numbers c.args.stage (subst (λ z. ArePlaceNumbers z numbers) (sym made.machine) made.numbers) c.requires.few in
    on_ok c.write_states.result ((d : IsDetermined g t) → c.write_states.new.out.items ≡ c.push_stage_rest.new.line.items ++ states_text numbers t.initial 0 d.shapes t.states) ((bytes : List ℕ) × (c.write_states.new.out.items ≡ out ++ bytes) × IsStageText c.args.stage c.args.machine.now (goes_of t.states) bytes)
    (λ h. (bytes, h d ∙ ap (λ z. z ++ states) line ∙ stage_joined out c.args.stage (class_count t.classes) (length t.states) states, subst (λ z. IsStageText c.args.stage z (goes_of t.states) bytes) made.machine right))
    c.write_states.ensures
