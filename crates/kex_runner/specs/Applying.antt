-- What a runner does by a summary, and what it answers.
use Rattle.std.specs.Prelude.{◌≡◌, ℕ, ◌+◌, true, List, [], ◌++◌, Option, Some, None}
use Rattle.kex_code.specs.declared.symbol.Symbol.{Symbol}
use Rattle.kex_sst.specs.Parts.{Change, parts_code}
use Rattle.kex_sst.specs.declared.summary.Course.{Course}
use Rattle.kex_sst.specs.declared.summary.Course.TheVariants.{Gone, Goes}
use Rattle.kex_runner.specs.Noting.{next_registers}
use Rattle.kex_runner.specs.Running.{Running}
use Rattle.kex_runner.specs.declared.answers.Applied.{Applied}

-- the course of its state goes on, or stops after as many bytes as the answer says
abbrev pub AnswersCourse : Option Course → Applied → Type 0
AnswersCourse None answer = ⊥
AnswersCourse (Some (Gone n)) answer = answer ≡ Applied.Gone n
AnswersCourse (Some (Goes q u)) answer = answer ≡ Applied.On

-- a runner that went past a number of bytes to a state by an update
abbrev pub went_by : Running → ℕ → Change → ℕ → Running
went_by r state u bytes = record r {
  state = state;
  pending = [];
  registers = next_registers u 0 r.registers;
  read = r.read + bytes;
  usable = true;
}

-- the code with what was pending, and what the update passes on
abbrev pub code_by_update : Running → Change → List Symbol → List Symbol
code_by_update r u code = (code ++ r.pending) ++ parts_code r.registers 0 u.out
