-- A runner that goes along a text by the course of it.
use Rattle.std.proofs.Common.{◌≡◌, ℕ, ◌+◌, ◌<◌, List, [], ◌++◌, Some, length, get_or, take, refl, sym, ap, ap₂, subst, ◌∙◌, arith, true, false}
use Rattle.std.specs.Prelude.{slice_get}
use Rattle.std.proofs.lemmas.List.{length-map, take_all}
use Rattle.std.proofs.lemmas.Option.{slice_get_read}
use Rattle.kex_code.specs.declared.symbol.Symbol.{Symbol}
use Rattle.kex_sst.specs.declared.summary.Course.{Course}
use Rattle.kex_sst.specs.declared.summary.Course.TheVariants.{Goes}
use Rattle.kex_sst.specs.Parts.{Change, parts_code}
use Rattle.kex_sst.specs.Tables.{Transducer, IsTable}
use Rattle.kex_sst.specs.Passes.{passes_if}
use Rattle.kex_sst.specs.Summaries.{Sum, course_of, courses_from, passed_by, sum_of}
use Rattle.kex_sst.proofs.Courses.{copyless, course_at, courses_count, says, some_below}
use Rattle.kex_runner.specs.declared.answers.Fed.TheVariants.{On}
use Rattle.kex_runner.specs.Applying.{code_by_update, went_by}
use Rattle.kex_runner.specs.Following.{Follows, IsTablePlace, pass_at}
use Rattle.kex_runner.specs.Noting.{next_registers}
use Rattle.kex_runner.specs.Running.{Running, RunnerFeeds}
use Rattle.kex_runner.proofs.FedRunners.{feeds_on}

module _ (t : Transducer) (state : ℕ) (regs : List (List Symbol)) (x : List ℕ) (table : IsTable t) (place : IsTablePlace t state regs) where
  -- the entry of its state is the course from it
  pub entry_is : (c : Course) → slice_get (courses_from t t.states 0 x) state ≡ Some c → course_of t state (length regs) x ≡ c
  entry_is c e =
      let here : 0 + state ≡ state = omega arith in
      same (ap (λ n. Some (course_of t state n x)) place.count ∙ ap (λ n. Some (course_of t n place.row.registers x)) (sym here) ∙ sym (course_at t t.states 0 state place.row x place.at) ∙ e)
    where
      same : {a b : Course} → Some a ≡ Some b → a ≡ b
      same e = cc

  pub entry_there : state < length (courses_from t t.states 0 x)
  entry_there = let lt = some_below t.states state place.at in let many = courses_count t table t.states 0 x in omega (arith, lt, many)

  module _ (q : ℕ) (u : Change) (is : course_of t state (length regs) x ≡ Goes q u) where
    -- it leads to a state, with as many registers as that has
    pub course_leads : IsTablePlace t q (next_registers u 0 regs)
    course_leads =
        let h = copyless t x table state q place.row u place.at (ap (λ n. course_of t state n x) (sym place.count) ∙ is) in
        record { row = h.0; at = h.1; count = length-map u.regs (λ xs. parts_code regs 0 xs) ∙ h.2.count }

    pub follows_course : (before after : List Symbol) → after ≡ before ++ parts_code regs 0 u.out → Follows t state regs x (length x) q (next_registers u 0 regs) before after
    follows_course before after e =
        let all : take (length x) x ≡ x = take_all (length x) x (omega arith) in
        record {
          within = omega arith;
          more = parts_code regs 0 u.out;
          code = e;
          goes = λ c. ap (λ z. passes_if t (Some (pass_at state c regs)) z) all ∙ says t x (pass_at state c regs) ∙ ap (λ z. passed_by z (pass_at state c regs)) is;
          stops = λ c lt. absurd (omega (arith, lt));
        }

-- a runner that went by the course from its state was fed the text
pub feeds_by_course : (r : Running) (x : List ℕ) (s : Sum) (q : ℕ) (u : Change) (before : List Symbol) → IsTable r.table → IsTablePlace r.table r.state r.registers → r.dead ≡ false → s ≡ sum_of r.table x → slice_get s.entries r.state ≡ Some (Goes q u) → RunnerFeeds On r (went_by r q u s.bytes) x before (code_by_update r u before)
feeds_by_course r x s q u before table place live e at =
    let there : slice_get (courses_from r.table r.table.states 0 x) r.state ≡ Some (Goes q u) = ap (λ (z : Sum). slice_get z.entries r.state) (sym e) ∙ at in
    let is = entry_is r.table r.state r.registers x table place (Goes q u) there in
    let f = follows_course r.table r.state r.registers x table place q u is (before ++ r.pending) (code_by_update r u before) refl in
    let new : Running = record { table = r.table; words = r.words; state = q; pending = []; registers = next_registers u 0 r.registers; read = r.read + length x; dead = false; ended = r.ended; usable = true } in
    let same : new ≡ went_by r q u s.bytes = ap₂ (λ n d. record new { read = r.read + n; dead = d }) (sym (ap (λ (z : Sum). z.bytes) e)) (sym live) in
    subst (λ z. RunnerFeeds On r z x before (code_by_update r u before)) same
    (feeds_on r x (length x) q (next_registers u 0 r.registers) before (before ++ r.pending) (code_by_update r u before) live refl f (omega arith))

-- the course that was read is the entry of the state
pub course_read : (s : Sum) (entries : List Course) (state : ℕ) (c : Course) → entries ≡ s.entries → c ≡ get_or entries state c → state < length entries → slice_get s.entries state ≡ Some c
course_read s entries state c e is lt = subst (λ z. slice_get z state ≡ Some c) e (slice_get_read entries (length entries) state c refl lt is)
