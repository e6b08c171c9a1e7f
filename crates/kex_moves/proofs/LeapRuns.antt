-- Along a leap the table goes on, and the actor does what it does.
use Rattle.std.proofs.Common.{◌≡◌, ℕ, List, subst, sym}
use Rattle.kex_action.specs.Actors.{Position}
use Rattle.kex_action.specs.declared.sheet.Sheet.{Sheet}
use Rattle.kex_action.specs.Sheets.{state_with}
use Rattle.kex_sst.specs.Tables.{Transducer}
use Rattle.kex_held.specs.Walks.{TakesCode}
use Rattle.kex_held.specs.Acts.{Act, after_acts}
use Rattle.kex_leaps.specs.Leaps.{IsLeap}
use Rattle.kex_moves.specs.declared.edges.Pair.{Pair}
use Rattle.kex_moves.specs.Known.{Known, IsPairRow, HasRowFor}
use Rattle.kex_moves.specs.Along.{ReachedOn}
use Rattle.kex_moves.proofs.SheetRuns.{moved}

-- from the row of a pair to that of a state and a node
pub reached_leap : (t : Transducer) (k k' : Known) (a b : Position) (s s' : Sheet) (row next : ℕ) (bs : List ℕ) (acts : List Act) (r m : ℕ) (x y : List ℕ) → ((p : Pair) → IsPairRow k row p → IsLeap t a.machine.nodes p.state p.node bs acts r m) → HasRowFor k' next r m → b.machine ≡ a.machine → b.refused ≡ a.refused → state_with s' y b.holding ≡ after_acts a.machine.nodes acts (state_with s x a.holding) → ReachedOn t k k' a b s s' row next bs x y
reached_leap t k k' a b s s' row next bs acts r m x y along to machine refused did q n h =
    let one = subst (λ q. IsLeap t a.machine.nodes q h.0.node bs acts r m) h.2 (along h.0 h.1) in
    let st = subst (λ n. IsLeap t a.machine.nodes q n bs acts r m) h.3 one in
    record {
      node = m;
      reached = record {
        state = r;
        row_for = to;
        goes = record {
          said = st.said;
          passed = st.passed;
          went = λ c takes. moved a b n m s s' x y (after_acts a.machine.nodes acts) machine refused did st.said (st.does.does c takes);
          takes = λ c takes. subst (λ g. TakesCode g.nodes m c) (sym machine) (st.does.takes c takes);
        };
      };
    }
