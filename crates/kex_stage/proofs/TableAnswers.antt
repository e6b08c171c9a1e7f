-- A stage that goes by a table has an answer on each text.
use Rattle.std.proofs.Common.{◌≡◌, ℕ, ◌<◌, ◌≤◌, Bool, true, false, List, [], ◌∷◌, ◌++◌, ◌⊎◌, ⊎_elim, Option, Some, None, length, take, refl, sym, subst, append-nil, append_assoc, arith}
use Rattle.std.proofs.lemmas.List.{take_all}
use Rattle.kex_code.specs.declared.symbol.Symbol.{Symbol}
use Rattle.kex_model.specs.Moves.{Move}
use Rattle.kex_model.specs.Survivors.{LongestViable}
use Rattle.kex_model.specs.Answers.{Answer, LongestGood, bad_byte, too_long, cut_off, whole, still_open}
use Rattle.kex_machine.specs.Nodes.{Graph, node_moves, IsTrimmed}
use Rattle.kex_machine.specs.Answers.{IsViableFor, HasRun, IsGreedy, MeansByRun}
use Rattle.kex_machine.proofs.Nexts.{IsTrim}
use Rattle.kex_machine.proofs.Ranges.{is_trim}
use Rattle.kex_machine.proofs.LongestFronts.{longest_self, longest_later, viable_before}
use Rattle.kex_sst.specs.Tables.{Transducer}
use Rattle.kex_sst.specs.Passes.{Pass, first_pass, passes, whole_code}
use Rattle.kex_plan.specs.declared.plan.Telling.{Telling}
use Rattle.kex_plan.specs.Plans.{IsTableAs, SaysAs, teller}
use Rattle.kex_stage.specs.Stages.{TablesAnswer, TellerAnswers}
use Rattle.kex_stage.proofs.ToldCodes.{viable_told}
use Rattle.kex_stage.proofs.ByTable.{table_agrees}

lt_or_le : (a b : ℕ) → (a < b) ⊎ (b ≤ a)
lt_or_le a b = grind arith

module _ (k : Telling) (g : Graph) (t : Transducer) (trimmed : IsTrimmed g) (of : IsTableAs k g t) where
  abbrev ms : ℕ → Move ℕ
  ms = node_moves g.nodes

  trim : IsTrim ms g.start
  trim = is_trim g trimmed

  -- the table goes on with a text, or that isn't viable and the table goes on with its longest viable front
  data Passed (w : List ℕ) : Type 0 where
    live : (p : Pass) → passes t w ≡ Some p → Passed w
    dead : (v : List ℕ) (p : Pass) → ¬ IsViableFor g w → LongestViable ms g.start w v → passes t v ≡ Some p → Passed w

  viable : (w : List ℕ) (p : Pass) → passes t w ≡ Some p → IsViableFor g w
  viable w p e = viable_told k g w p.code (of.goes_on w p e)

  -- with a byte more
  next : (w : List ℕ) (b : ℕ) → Passed w → Passed (w ++ b ∷ [])
  next w b (dead v p none longest e) =
      let gone : ¬ IsViableFor g (w ++ b ∷ []) = λ h. none (viable_before g trim w b h) in
      dead v p gone (longest_later ms g.start w v b longest gone) e
  next w b (live p e) = by (passes t (w ++ b ∷ [])) refl
    where
      by : (o : Option Pass) → passes t (w ++ b ∷ []) ≡ o → Passed (w ++ b ∷ [])
      by None f =
          let gone = of.stops (w ++ b ∷ []) f in
          dead w p gone (longest_later ms g.start w w b (longest_self ms g.start w (viable w p e)) gone) e
      by (Some q) f = live q f

  more : (w v : List ℕ) → Passed w → Passed (w ++ v)
  more w [] h = subst Passed (sym (append-nil w)) h
  more w (b ∷ v) h = subst Passed (append_assoc w (b ∷ []) v) (more (w ++ b ∷ []) v (next w b h))

  passed : (w : List ℕ) → Passed w
  passed w = more [] w (live (first_pass t.initial) refl)

  says : (w : List ℕ) (p : Pass) → passes t w ≡ Some p → (text : List ℕ) × SaysAs k g w text
  says w p e =
      let a = table_agrees k g t trimmed of w p e in
      (_, record { agreed = p.code; is_agreed = a.told; run = a.run; runs = a.runs; reads = a.reads; begins = a.begins; said = refl })

  means : (w : List ℕ) (c : List Symbol) → IsGreedy g w c → (text : List ℕ) × MeansByRun g w text
  means w c h =
      let r = h.greedy.2.reached in
      (_, record { greedy = c; is_greedy = h.greedy; least = h.least; run = r.0; runs = (h.greedy.0, r.1.walk, h.greedy.1); codes = r.2; meant = refl })

  good : (w v : List ℕ) → LongestViable ms g.start w v → LongestGood (IsViableFor g) (SaysAs k g) (HasRun g) (MeansByRun g) w v
  good w v h = record { front = h.front; good = h.viable; longest = h.longest }

  abbrev HasAnswer : ℕ → List ℕ → Bool → Type 0
  HasAnswer limit w e = (a : Answer) × TellerAnswers (teller k g) limit w e a

  at_the_end : (limit : ℕ) (w : List ℕ) (p : Pass) → length w ≤ limit → passes t w ≡ Some p → HasAnswer limit w true
  at_the_end limit w p short e = by (whole_code t p) refl
    where
      by : (o : Option (List Symbol)) → whole_code t p ≡ o → HasAnswer limit w true
      by None f = (_, cut_off short (viable w p e) (of.cut w p e f) (says w p e).1)
      by (Some c) f = (_, whole short (means w c (of.parsed w p c e f)).1)

  within_limit : (limit : ℕ) (w : List ℕ) (e : Bool) → length w ≤ limit → (p : Pass) → passes t w ≡ Some p → HasAnswer limit w e
  within_limit limit w true short p is = at_the_end limit w p short is
  within_limit limit w false short p is = (_, still_open short (viable w p is) (says w p is).1)

  table_answers : (limit : ℕ) (w : List ℕ) (e : Bool) → HasAnswer limit w e
  table_answers limit w e = by (passed (take limit w))
    where
      by : Passed (take limit w) → HasAnswer limit w e
      by (dead v p gone longest is) = (_, bad_byte v gone (good (take limit w) v longest) (says v p is).1)
      by (live p is) =
          ⊎_elim
          (λ long. (_, too_long long (viable (take limit w) p is) (says (take limit w) p is).1))
          (λ short. within_limit limit w e short p (subst (λ z. passes t z ≡ Some p) (take_all limit w short) is))
          (lt_or_le limit (length w))

pub tables_answer : TablesAnswer
tables_answer k g t trimmed of limit w e = table_answers k g t trimmed of limit w e
