use Rattle.std.proofs.Common.{◌≡◌, ℕ, ◌∷◌, [], List, Some, refl, sym, ap, subst, ◌∙◌, arith}
use Rattle.kex_model.specs.Labelled.{shape_of, Grown}
use Rattle.kex_machine.specs.Nodes.{Graph}
use Rattle.kex_machine.proofs.Ranges.{is_trim}
use Rattle.kex_sst.specs.declared.parts.Part.{Part}
use Rattle.kex_sst.specs.Tables.{Transducer, IsTable}
use Rattle.kex_sst.specs.Machines.{IsTableOf}
use Rattle.kex_paths.specs.Nexts.{IsFirstTree}
use Rattle.kex_tabfile.specs.TableFiles.{goes_of}
use Rattle.kex_tabfile.specs.Walks.{AreNumbersOf, IsStageText, Told, at_state, told_first}
use Rattle.kex_tabfile.specs.Checking.{AreTargets, BeginsWith, BreaksReading, ChecksAt}
use Rattle.kex_tabfile.proofs.ResultParts.{if_err}
use Rattle.kex_tabfile.proofs.TableRows.{target, is_table_of, is_well_formed}
use Rattle.kex_tabfile.proofs.StageSteps.{StatesCheck, stage_breaks, states_break, reads_states, ReadsStates, stands_first}
use Rattle.kex_tabfile.proofs.stage.take_stage.Goals.{In_ok-checker, In_ok-rows}
use Rattle.kex_tabfile.proofs.stage.take_stage.Goals as goal

pub returns-in_err-states-clause-bad : goal.returns-in_err-states-clause-bad
returns-in_err-states-clause-bad c =
    let g = c.args.machine.now in
    let numbers = c.in_ok-numbers.numbers.items in
    let classes = c.partition-partition.result.now in
    let e = c.in_err-states.field-0.0 in
    let of : AreNumbersOf g numbers classes = record { numbered = c.in_ok-numbers.ensures; classed = c.partition-partition.ensures } in
    if_err c.from_residual-in_err-states.result e _ c.from_residual-in_err-states.ensures.1 (stage_breaks c.args.stage g numbers classes of c.args.reader.now e (c.in_err-states.ensures.bad numbers classes refl))

-- the tree of the first state is known
module _ (c : In_ok-checker) where
  first_at : IsFirstTree c.args.machine.now (Some c.in_ok-tree.ensures.first.0)
  first_at = subst (λ z. IsFirstTree z (Some c.in_ok-tree.ensures.first.0)) c.in_ok-tree.ensures.machine c.in_ok-tree.ensures.first.1

  known_at : AreTargets c.args.machine.now c.in_ok-checker.checker.targets (target 0 (shape_of c.in_ok-tree.ensures.first.0.tree) ∷ [])
  known_at = c.in_ok-checker.ensures.targets (shape_of c.in_ok-tree.ensures.first.0.tree) c.in_ok-tree.ensures.first.2

-- what is said of the checker's parts is said of the stage's
carried : (P : Graph → List ℕ → List ℕ → ℕ → Type 0) (m g : Graph) (ns numbers cs classes : List ℕ) (n states : ℕ) → m ≡ g → ns ≡ numbers → cs ≡ classes → n ≡ states → P m ns cs n → P g numbers classes states
carried P m g ns numbers cs classes n states machine same partition count h = subst (λ z. P z numbers classes states) machine (subst (λ z. P m z classes states) same (subst (λ z. P m ns z states) partition (subst (λ z. P m ns cs z) count h)))

pub take_all-requires-clause-begun : goal.take_all-requires-clause-begun
take_all-requires-clause-begun c =
    let at = (goal.at.take_all-requires-clause-begun c).In_ok-checker in
    let g = c.args.machine.now in
    let k = c.in_ok-checker.checker in
    let e = c.in_ok-checker.ensures in
    let states = c.in_ok-states.states in
    let r = c.in_ok-states.ensures.right in
    let told = told_first states (shape_of c.in_ok-tree.ensures.first.0.tree) in
    let stands = stands_first c.args.stage g c.in_ok-numbers.numbers.items c.partition-partition.result.now c.args.reader.now c.take_stage_line.new.reader states c.in_ok-tree.ensures.first.0 (first_at at) r.0 r.1 r.2 k.targets (known_at at) in
    (told, refl, carried (λ m _ _ n. ChecksAt m k.targets n 0 told) g k.machine.now [] [] [] [] states k.states (sym e.machine) refl refl (sym e.states) stands)

pub returns-in_err-rows-clause-bad : goal.returns-in_err-rows-clause-bad
returns-in_err-rows-clause-bad c =
    let at = (goal.at.returns-in_err-rows-clause-bad c).In_ok-checker in
    let g = c.args.machine.now in
    let numbers = c.in_ok-numbers.numbers.items in
    let classes = c.partition-partition.result.now in
    let states = c.in_ok-states.states in
    let k = c.in_ok-checker.checker in
    let i = c.in_ok-checker.ensures in
    let e = c.in_err-rows.field-0.0 in
    let r = c.in_ok-states.ensures.right in
    let mid = c.take_stage_line.new.reader in
    let of : AreNumbersOf g numbers classes = record { numbered = c.in_ok-numbers.ensures; classed = c.partition-partition.ensures } in
    let bad = carried (λ m ns cs n. (told : Told) → told.rows ≡ [] → ChecksAt m k.targets n 0 told → BreaksReading m ns cs mid (at_state told) e) k.machine.now g k.numbers.items numbers k.partition.now classes k.states states i.machine (ap (λ v. v.items) i.numbers) i.partition i.states c.in_err-rows.ensures.bad in
    if_err c.from_residual-in_err-rows.result e _ c.from_residual-in_err-rows.ensures.1 (stage_breaks c.args.stage g numbers classes of c.args.reader.now e
    (states_break c.args.stage g numbers classes c.args.reader.now mid states c.in_ok-tree.ensures.first.0 (first_at at) r.0 r.1 r.2 k.targets (known_at at) e bad))

-- the table of the rows that were read
module _ (c : In_ok-rows) where
  abbrev g : Graph
  g = c.args.machine.now

  abbrev numbers : List ℕ
  numbers = c.in_ok-numbers.numbers.items

  abbrev classes : List ℕ
  classes = c.partition-partition.result.now

  abbrev first : Grown Part ℕ
  first = c.in_ok-tree.ensures.first.0

  abbrev made : Transducer
  made = record { classes = classes; initial = c.in_ok-tree.initial; states = c.in_ok-rows.rows.items }

  is_first : IsFirstTree g (Some first)
  is_first = subst (λ z. IsFirstTree z (Some first)) c.in_ok-tree.ensures.machine c.in_ok-tree.ensures.first.1

  begins : BeginsWith g c.in_ok-tree.initial
  begins = (first, is_first, c.in_ok-tree.ensures.first.3)

  known : AreTargets g c.in_ok-checker.checker.targets (target 0 (shape_of first.tree) ∷ [])
  known = c.in_ok-checker.ensures.targets (shape_of first.tree) c.in_ok-tree.ensures.first.2

  right : StatesCheck g numbers classes c.in_ok-states.states c.in_ok-checker.checker.targets c.in_ok-rows.rows.items c.take_stage_line.new.reader c.take_all.new.reader
  right =
      let k = c.in_ok-checker.checker in
      let i = c.in_ok-checker.ensures in
      carried (λ m ns cs n. StatesCheck m ns cs n k.targets c.in_ok-rows.rows.items c.take_stage_line.new.reader c.take_all.new.reader) k.machine.now g k.numbers.items numbers k.partition.now classes k.states c.in_ok-states.states i.machine (ap (λ v. v.items) i.numbers) i.partition i.states c.in_ok-rows.ensures.right

  read : ReadsStates c.args.stage g numbers classes c.args.reader.now c.take_all.new.reader c.in_ok-rows.rows.items
  read =
      let r = c.in_ok-states.ensures.right in
      reads_states c.args.stage g numbers classes c.args.reader.now c.take_stage_line.new.reader c.in_ok-states.states first is_first r.0 r.1 r.2 c.in_ok-checker.checker.targets known c.take_all.new.reader c.in_ok-rows.rows.items right

  well : IsTable made
  well = is_well_formed g classes c.partition-partition.ensures read.end read.told read.through c.in_ok-tree.initial begins c.in_ok-rows.rows.items read.same read.ends (omega (arith, read.few))

  table : IsTableOf g made
  table = is_table_of g classes c.partition-partition.ensures read.end read.told read.through c.in_ok-tree.initial begins c.in_ok-rows.rows.items read.same read.ends (is_trim g c.nodes-nodes.ensures.trimmed)

  text : IsStageText c.args.stage g (goes_of c.in_ok-rows.rows.items) read.checks.bytes
  text = record {
    numbers = numbers;
    classes = classes;
    numbers_of = record { numbered = c.in_ok-numbers.ensures; classed = c.partition-partition.ensures };
    told = read.end;
    walked = read.checks.walked;
    through = read.through;
    rows_are = sym read.same;
  }

  -- the classes are a copy
  copied : (t : Transducer) (classes' : List ℕ) → classes' ≡ classes → t ≡ record { classes = classes'; initial = c.in_ok-tree.initial; states = c.in_ok-rows.rows.items } → t ≡ made
  copied t classes' same is = is ∙ ap (λ z. record { classes = z; initial = c.in_ok-tree.initial; states = c.in_ok-rows.rows.items }) same

pub new-requires : goal.new-requires
new-requires c = subst (λ z. IsTable (record { classes = z; initial = c.in_ok-tree.initial; states = c.in_ok-rows.rows.items })) (sym c.copy.ensures) (well (goal.at.new-requires c).In_ok-rows)

pub returns-clause-table : goal.returns-clause-table
returns-clause-table c =
    let top = (goal.at.returns-clause-table c).In_ok-rows in
    subst (λ t. IsTableOf c.args.machine.now t) (sym (copied top c.new.result c.copy.result c.copy.ensures c.new.ensures)) (table top)

pub returns-clause-right : goal.returns-clause-right
returns-clause-right c =
    let top = (goal.at.returns-clause-right c).In_ok-rows in
    let rows : c.new.result.states ≡ c.in_ok-rows.rows.items = ap (λ t. t.states) c.new.ensures in
    ((read top).checks.bytes, subst (λ z. IsStageText c.args.stage c.args.machine.now (goes_of z) (read top).checks.bytes) (sym rows) (text top), (read top).checks.reads)
