-- From table files, and runs over their stages, to what a call answers.
use Rattle.std.proofs.Common.{◌≡◌, ◌<◌, ◌≤◌, ℕ, List, false, arith, length, map, subst, sym}
use Rattle.std.specs.Prelude.{Option}
use Rattle.kex_machine.specs.Nodes.{Graph}
use Rattle.kex_pipe.specs.Reports.{report_as}
use Rattle.kex_ports.specs.Named.{Texts}
use Rattle.kex_ports.specs.Reads.{Reads, last_given}
use Rattle.kex_ports.specs.Shelf.{IsTold, ShelfText, told_of}
use Rattle.kex_plan.specs.Plans.{Planned, machine_of}
use Rattle.kex_plan.specs.declared.plan.Telling.TheVariants as telling
use Rattle.kex_compile.specs.Compiled.{IsCompiled}
use Rattle.kex_compile.specs.Stages.{Plans, roots_of}
use Rattle.kex_tabfile.specs.Readers.{most_bytes}
use Rattle.kex_tabfile.specs.TableFiles.{IsGood}
use Rattle.kex_words.specs.Gains.{StreamChange}
use Rattle.kex_words.specs.Words.{Reach}
use Rattle.kex_words.specs.Words.Asked.{ToCompile, ToExec}
use Rattle.kex_words.specs.Words.Mode.{running}
use Rattle.kex_top.specs.Commands.{Filed, TellsBytes}
use Rattle.kex_top.specs.Kex.{CommandAnswers}
use Rattle.kex_top.specs.Modes.{limits_to_check}
use Rattle.kex_top.specs.Pipelines.{Answered, NodesSay, agreed_plans}
use Rattle.kex_top.specs.Refusals.{HoldsStages, limits_in_file}
use Rattle.kex_top.specs.Run.{IsAsBefore, Ran}
use Rattle.kex_top.specs.declared.status.Status.{Status}
use Rattle.kex_top.proofs.FiledStages.{holds-program}
use Rattle.kex_top.proofs.CallAnswers.{as-many-plans, begun, by_machines, by_plans, carried, carried-back, ran_alike, some-stage}

-- a file that is shown, of the program's text
pub filed : (name : List ℕ) (states : ℕ) (texts : Option Texts) (reads : Option Reads) (text : List ℕ) (plans : Plans) (source sink : StreamChange) (s : Status) → IsTold (told_of texts name) text → IsCompiled (limits_to_check states) text plans → IsAsBefore source → (file : List ℕ) → Filed text (λ bytes. bytes ≡ file) → TellsBytes file sink s → CommandAnswers (ToCompile name states) texts reads source sink s
filed name states texts reads text plans source sink s told c left file f tells =
    begun (ToCompile name states) texts reads source sink s (
    record {
      text = text;
      is_told = told;
      program = c.program;
      works = c.accepts;
      performs = (left, record { plans = f.plans; plans_of = f.plans_of; file = f.file; good = f.good; of_text = f.of_text; told = subst (λ z. TellsBytes z sink s) (sym f.told) tells });
    }
    )

-- a file that is shown and good
pub holds-stages : (told : ShelfText) (file : List ℕ) (ps : List Planned) → IsTold told file → length file ≤ most_bytes → IsGood file ps → HoldsStages told (map machine_of ps)
holds-stages told file ps t short good = record { file = file; is_told = t; program = good.machines.program; holds = holds-program file ps short good; stages = good.machines.stages }

-- a file's stages have one at least
pub some-held : (told : ShelfText) (ms : List Graph) → HoldsStages told ms → 0 < length ms
some-held told ms h = some-stage limits_in_file h.holds.good.text h.program ms h.holds.accepts h.stages

-- a run over the stages that a file holds
pub executed : (name : List ℕ) (reach : Reach) (texts : Option Texts) (reads : Option Reads) (ms : List Graph) (source sink : StreamChange) (s : Status) → HoldsStages (told_of texts name) ms → Ran (NodesSay (agreed_plans reach.max_input ms)) (last_given reach.block reads) source sink s → CommandAnswers (ToExec name reach) texts reads source sink s
executed name reach texts reads ms source sink s h r =
    let P = h.program in
    let limit = reach.max_input in
    let some = some-held (told_of texts name) ms h in
    let long = as-many-plans telling.Agreed limit ms in
    begun (ToExec name reach) texts reads source sink s (
    record {
      text = h.file;
      is_told = h.is_told;
      program = P;
      works = h.holds;
      performs = ran_alike (NodesSay (agreed_plans limit ms)) (Answered P limit)
          (λ w e said k. carried P (running 0 false) limit 1 (roots_of P) ms w e said.text (report_as said.report) h.stages (by_machines 0 false limit 1 ms w e said.text (report_as said.report) k.1))
          (λ w e said k. (omega (arith, some, long), by_plans 0 false limit 1 ms w e said.text (report_as said.report) (carried-back P (running 0 false) limit 1 (roots_of P) ms w e said.text (report_as said.report) h.stages k)))
          (last_given reach.block reads) source sink s r;
    }
    )
